use Rattle.std.proofs.Common.{◌<◌, ◌^◌, sym, ap, ◌∙◌, subst, List, length}
use Rattle.calculus.specs.Database.{Relation}
use Rattle.calculus.specs.Rows.{Row, Ascends}
use Rattle.plain_base.specs.Laws.{ascending}
use Rattle.plain_base.proofs.FewRows.{few}
use Rattle.plain_base.proofs.RowsAt.{rows_of_relation}
use Rattle.plain_base.proofs.db_plain.DbPlain.rows_under.Goals as goal

pub returns-in-Some : goal.returns-in-Some
returns-in-Some c =
    let rows = c.as_slice.ensures.value ∙ ap (λ (r : Relation). r.rows) c.relation-in-Some.view_is ∙ sym (rows_of_relation _ _ _ c.in-Some.ensures) in
    record {
      rows = rows;
      few = subst (λ (rows : List Row). length rows < 2 ^ 32) (sym rows) (few _ _ c.args.self.now.is);
      ascend = subst Ascends (sym rows) (ascending _ _ c.args.self.now.is);
    }

pub returns-in-None : goal.returns-in-None
returns-in-None c =
    let rows = c.other_rows.ensures c.in-None.ensures in
    record {
      rows = rows;
      few = subst (λ (rows : List Row). length rows < 2 ^ 32) (sym rows) (few _ _ c.args.self.now.is);
      ascend = subst Ascends (sym rows) (ascending _ _ c.args.self.now.is);
    }
