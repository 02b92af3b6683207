use Rattle.std.proofs.Common.{sym, ap, is_some, ◌∙◌}
use Rattle.quel_meaning.specs.Naming.{dotted, mention_refusal}
use Rattle.quel_meaning.specs.WrittenParts.{attributes}
use Rattle.quel_names.proofs.Numbers.{after_none, before_more}
use Rattle.quel_names.proofs.KnownAs.{known_as, none_if}
use Rattle.quel_names.specs.Asking.{scope_of}
use Rattle.quel_names.specs.Roles.{meant_by}
use Rattle.quel_names.proofs.targets.set_refusal.Goals as goal

pub returns-clause-known : goal.returns-clause-known
returns-clause-known g c = λ db h.
    known_as c.refusal_of-2.result _ _
    (after_none (mention_refusal (scope_of db c.args.user.now c.args.ranges.now)) (meant_by c.args.role.now c.args.name.now) (dotted (attributes c.args.term.now))
    (sym (c.in_ok-refusal.ensures.known db _ h c.meant.ensures) ∙ none_if c.in_ok-refusal.refusal (sym c.is_some.ensures ∙ c.if-is_some.false)))
    (c.refusal_of-2.ensures.known db _ (c.in_ok-refusal.ensures.stays _ h) c.mentions_in_term.ensures)

pub returns-then-is_some-clause-known : goal.returns-then-is_some-clause-known
returns-then-is_some-clause-known g c = λ db h.
    let known = c.in_ok-refusal.ensures.known db _ h c.meant.ensures in
    known
    ∙ before_more (mention_refusal (scope_of db c.args.user.now c.args.ranges.now)) (meant_by c.args.role.now c.args.name.now) (dotted (attributes c.args.term.now))
    (sym (ap is_some known) ∙ sym c.is_some.ensures ∙ c.if-is_some.true)
