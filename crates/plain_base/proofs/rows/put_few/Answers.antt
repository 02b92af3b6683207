use Rattle.std.proofs.Common.{sym, ap, ◌∙◌, subst, arith}
use Rattle.calculus.specs.Replacement.{with_rows}
use Rattle.calculus.specs.Rows.{Ascends}
use Rattle.calculus.proofs.Sets.{Ascends-put}
use Rattle.plain_base.proofs.RowLists.{with_last}
use Rattle.plain_base.proofs.rows.put_few.Goals as goal

pub loop-row-preserved : goal.loop-row-preserved
loop-row-preserved c = record {
  rows =
      ap (with_rows c.pop.new.self.items) c.put_one.ensures.rows ∙ sym (with_last c.pop.new.self.items c.in-Some.row c.loop-row.rows.items)
      ∙ ap (λ new. with_rows new c.loop-row.rows.items) (sym c.in-Some.ensures.items) ∙ c.loop-row.invariant.rows;
  ascend = subst Ascends (sym c.put_one.ensures.rows) (Ascends-put c.in-Some.row c.loop-row.rows.items c.loop-row.invariant.ascend);
  room = omega (arith, c.in-Some.ensures.len, c.put_one.ensures.longer, c.put_one.ensures.room, c.loop-row.invariant.room);
}
