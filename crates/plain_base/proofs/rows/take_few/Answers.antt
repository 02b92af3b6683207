use Rattle.std.proofs.Common.{sym, ◌∙◌, subst, rules, arith}
use Rattle.calculus.specs.Rows.{Ascends}
use Rattle.plain_base.proofs.RowLists.{nothing_removed, without_more, Ascends-without}
use Rattle.plain_base.proofs.rows.take_few.Goals as goal

pub loop-row-init : goal.loop-row-init
loop-row-init c = record { rows = sym (nothing_removed c.args.rows.now.items); room = search rules; fewer = search rules }

pub take_one-requires : goal.take_one-requires
take_one-requires c = subst Ascends (sym c.loop-row.invariant.rows) (Ascends-without _ _ c.requires)

pub loop-row-preserved : goal.loop-row-preserved
loop-row-preserved c = record {
  rows =
      c.take_one.ensures.rows ∙ rw c.loop-row.invariant.rows (rw c.row-item.is (without_more c.args.gone.now c.args.rows.now.items c.loop-row.row-index c.row-item.result c.loop-row-test.true));
  room = search rules;
  fewer = omega arith;
}
