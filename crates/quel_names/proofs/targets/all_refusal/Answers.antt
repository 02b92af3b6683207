use Rattle.std.proofs.Common.{sym, ap, map, ◌∙◌}
use Rattle.std.specs.List.{flat_map}
use Rattle.calculus.specs.declared.schema.Attr.{Attr}
use Rattle.quel_meaning.specs.Naming.{first_number, mention_refusal}
use Rattle.quel_names.proofs.Alls.{all_found, all_lost}
use Rattle.quel_names.proofs.KnownAs.{known_as}
use Rattle.quel_names.specs.Asking.{scope_of}
use Rattle.quel_names.specs.Roles.{meant_by}
use Rattle.quel_names.proofs.targets.all_refusal.Goals as goal

pub returns-in-Some-clause-known : goal.returns-in-Some-clause-known
returns-in-Some-clause-known g c = λ db h.
    known_as c.titles_refusal-refusal.result _ _
    (ap (λ attrs. first_number (map (mention_refusal (scope_of db c.args.user.now c.args.ranges.now)) (flat_map (λ (a : Attr). meant_by c.args.role.now a.name) attrs))) c.items.ensures
    ∙ all_found (scope_of db c.args.user.now c.args.ranges.now) (meant_by c.args.role.now) c.args.var.now c.in-Some.info (sym c.in-Some.is ∙ c.in_ok-info.ensures.known db h))
    (c.titles_refusal-refusal.ensures.known db (c.in_ok-info.ensures.stays _ h))

pub returns-in-None-clause-known : goal.returns-in-None-clause-known
returns-in-None-clause-known g c = λ db h.
    known_as c.mention_refusal.result _ _
    (all_lost (scope_of db c.args.user.now c.args.ranges.now) (meant_by c.args.role.now) c.args.var.now (sym c.in-None.is ∙ c.in_ok-info.ensures.known db h))
    (c.mention_refusal.ensures.known db (c.in_ok-info.ensures.stays _ h))
