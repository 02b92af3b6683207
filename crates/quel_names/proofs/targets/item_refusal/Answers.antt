use Rattle.std.proofs.Common.{sym, ap, map}
use Rattle.quel_meaning.specs.Naming.{first_number, item_mentions, mention_refusal}
use Rattle.quel_names.proofs.KnownAs.{known_as}
use Rattle.quel_names.specs.Asking.{scope_of}
use Rattle.quel_names.specs.Roles.{meant_by}
use Rattle.quel_names.proofs.targets.item_refusal.Goals as goal

pub returns-in-Set-clause-known : goal.returns-in-Set-clause-known
returns-in-Set-clause-known g c = λ db h.
    known_as c.set_refusal.result _ _
    (ap (λ i. first_number (map (mention_refusal (scope_of db c.args.user.now c.args.ranges.now)) (item_mentions (scope_of db c.args.user.now c.args.ranges.now) (meant_by c.args.role.now) i))) (sym c.in-Set.is))
    (c.set_refusal.ensures.known db h)

pub returns-in-Attr-clause-known : goal.returns-in-Attr-clause-known
returns-in-Attr-clause-known g c = λ db h.
    known_as c.refusal_of.result _ _
    (ap (λ i. first_number (map (mention_refusal (scope_of db c.args.user.now c.args.ranges.now)) (item_mentions (scope_of db c.args.user.now c.args.ranges.now) (meant_by c.args.role.now) i))) (sym c.in-Attr.is))
    (c.refusal_of.ensures.known db _ h c.titled_by_itself-mentions.ensures)

pub returns-in-All-clause-known : goal.returns-in-All-clause-known
returns-in-All-clause-known g c = λ db h.
    known_as c.all_refusal.result _ _
    (ap (λ i. first_number (map (mention_refusal (scope_of db c.args.user.now c.args.ranges.now)) (item_mentions (scope_of db c.args.user.now c.args.ranges.now) (meant_by c.args.role.now) i))) (sym c.in-All.is))
    (c.all_refusal.ensures.known db h)
