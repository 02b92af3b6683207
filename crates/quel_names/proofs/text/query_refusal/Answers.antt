use Rattle.std.proofs.Common.{Bor, sym, ap, ◌∙◌, is_some}
use Rattle.std.specs.List.{flat_map}
use Rattle.std.specs.Option.{option_map, unwrap_or}
use Rattle.calculus.specs.declared.statement.Qual.{Qual}
use Rattle.calculus.specs.declared.statement.Qual.TheVariants.{True}
use Rattle.quel_meaning.specs.Naming.{dotted, item_mentions, mention_refusal}
use Rattle.quel_meaning.specs.WrittenParts.{attributes_in_qual}
use Rattle.quel_names.proofs.Numbers.{after_none, before_more}
use Rattle.quel_names.proofs.KnownAs.{known_as, none_if}
use Rattle.quel_names.specs.Asking.{scope_of}
use Rattle.quel_names.specs.Roles.{meant_by}
use Rattle.quel_names.proofs.text.query_refusal.Goals as goal

pub returns-then-is_some-clause-known : goal.returns-then-is_some-clause-known
returns-then-is_some-clause-known g c = λ db h.
    c.in_ok-refusal.ensures.known db h
    ∙ before_more (mention_refusal (scope_of db c.args.user.now c.args.ranges.now))
    (flat_map (item_mentions (scope_of db c.args.user.now c.args.ranges.now) (meant_by c.args.role.now)) c.args.items.now) (dotted (attributes_in_qual (unwrap_or (option_map (λ (b : Bor Qual). b.now) c.args.qual) True)))
    (sym (ap is_some (c.in_ok-refusal.ensures.known db h)) ∙ sym c.is_some.ensures ∙ c.if-is_some.true)

pub returns-clause-known : goal.returns-clause-known
returns-clause-known g c = λ db h.
    known_as c.qual_refusal.result _ _
    (after_none (mention_refusal (scope_of db c.args.user.now c.args.ranges.now))
    (flat_map (item_mentions (scope_of db c.args.user.now c.args.ranges.now) (meant_by c.args.role.now)) c.args.items.now) (dotted (attributes_in_qual (unwrap_or (option_map (λ (b : Bor Qual). b.now) c.args.qual) True)))
    (sym (c.in_ok-refusal.ensures.known db h) ∙ none_if c.in_ok-refusal.refusal (sym c.is_some.ensures ∙ c.if-is_some.false)))
    (c.qual_refusal.ensures.known db (c.in_ok-refusal.ensures.stays _ h))
