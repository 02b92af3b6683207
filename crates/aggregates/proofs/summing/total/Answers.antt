use Rattle.std.proofs.Common.{refl, sym, subst, ◌+◌, ◌+ℤ◌, FitsSigned, to_z, w64, rules, arith}
use Rattle.std.specs.Int.{w128}
use Rattle.aggregates.specs.Sums.{IsSumOf}
use Rattle.aggregates.proofs.WithinSums.{one_more, sum_fits, added, next_total}
use Rattle.aggregates.proofs.summing.total.Goals as goal

pub loop-value-preserved : goal.loop-value-preserved
loop-value-preserved c =
    let fits : FitsSigned w64 c.number_in.result = search rules in
    let more : IsSumOf (c.loop-value.value-index + 1) (to_z w128 c.loop-value.sum-bits +ℤ c.number_in.result) =
    one_more c.loop-value.value-index (to_z w128 c.loop-value.sum-bits) c.number_in.result _ c.loop-value.invariant.within fits refl in
    let made = added (to_z w128 c.loop-value.sum-bits) c.number_in.result fits (sum_fits (c.loop-value.value-index + 1) _ (omega arith) more) in
    record {
      total = next_total c.args.values.now c.loop-value.value-index c.value-item.result (to_z w128 c.loop-value.sum-bits) c.number_in.result _
          c.loop-value-test.true c.value-item.is c.number_in.ensures made c.loop-value.invariant.total;
      within = subst (IsSumOf (c.loop-value.value-index + 1)) (sym made) more;
    }
