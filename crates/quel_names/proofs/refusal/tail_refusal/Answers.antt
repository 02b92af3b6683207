use Rattle.std.proofs.Common.{ap, map, ◌∙◌}
use Rattle.quel_meaning.specs.Naming.{first_number, mention_refusal, query_mentions}
use Rattle.quel_meaning.specs.WrittenParts.{items_of, where_of}
use Rattle.quel_names.proofs.KnownAs.{known_as}
use Rattle.quel_names.proofs.Wholes.{titled_same}
use Rattle.quel_names.specs.Asking.{scope_of}
use Rattle.quel_names.specs.Parts.{title_in}
use Rattle.quel_names.specs.Roles.{meant_by}
use Rattle.quel_names.proofs.refusal.tail_refusal.Goals as goal

pub returns-clause-known : goal.returns-clause-known
returns-clause-known g c = λ db h.
    known_as c.query_refusal.result _ _
    (ap (λ ms. first_number (map (mention_refusal (scope_of db c.args.user.now c.args.ranges.now)) ms))
    ((λ i. query_mentions (scope_of db c.args.user.now c.args.ranges.now) (meant_by c.titles_of-titles.result) (c.items_of.ensures i) (c.where_of.ensures i))
    ∙ titled_same (scope_of db c.args.user.now c.args.ranges.now) (meant_by c.titles_of-titles.result) (title_in c.args.s.now) c.titles_of-titles.ensures (items_of c.args.s.now) (where_of c.args.s.now)))
    (c.query_refusal.ensures.known db h)
