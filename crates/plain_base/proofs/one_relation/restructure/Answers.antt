use Rattle.std.proofs.Common.{sym, ap, ◌∙◌, slice_set}
use Rattle.calculus.specs.Change.{restructured}
use Rattle.calculus.specs.Database.{Relation}
use Rattle.plain_base.proofs.one_relation.restructure.Goals as goal

pub returns-in-Some : goal.returns-in-Some
returns-in-Some c =
    ap (slice_set c.args.relations.now.items c.in-Some.place) c.restructure.ensures
    ∙ ap (λ (r : Relation). slice_set c.args.relations.now.items c.in-Some.place (restructured c.args.to c.args.keys r)) c.index_mut.ensures.value
    ∙ sym (rw c.deref.ensures.value at (c.in-Some.ensures.changed (restructured c.args.to c.args.keys) c.index_mut.result.now))
