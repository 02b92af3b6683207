use Rattle.std.proofs.Common.{sym, ap, ◌∙◌, slice_set}
use Rattle.calculus.specs.Database.{Relation}
use Rattle.calculus.specs.Replacement.{with_rows, without_rows}
use Rattle.plain_base.proofs.Outcomes.{where_ok}
use Rattle.plain_base.proofs.one_relation.change_rows.Goals as goal

pub returns-in-Some-clause-ok : goal.returns-in-Some-clause-ok
returns-in-Some-clause-ok c =
    let changed : Relation → Relation = λ r. record r { rows = with_rows c.args.add.now (without_rows c.args.remove.now r.rows) } in
    where_ok c.change_rows.result _ _
    (λ e. ap (slice_set c.args.relations.now.items c.in-Some.place) e
    ∙ ap (λ (r : Relation). slice_set c.args.relations.now.items c.in-Some.place (changed r)) c.index_mut.ensures.value
    ∙ sym (rw c.deref.ensures.value at (c.in-Some.ensures.changed changed c.index_mut.result.now)))
    c.change_rows.ensures.ok
