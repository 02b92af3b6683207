use Rattle.std.proofs.Common.{◌∙◌, ap, ◌-◌, ◌^◌, min, arith}
use Rattle.std.proofs.lemmas.List.{take_all}
use Rattle.calculus.specs.Lists.{is_any}
use Rattle.calculus.specs.Used.{used_in_query}
use Rattle.view_sizes.proofs.Counting.{counted}
use Rattle.view_sizes.proofs.Measuring.{count_more}
use Rattle.view_sizes.proofs.measures.used_variables.Goals as goal

pub loop-measure-preserved : goal.loop-measure-preserved
loop-measure-preserved c = record {
  place = omega (arith, c.loop-measure.invariant.place, c.saturating_add-place.ensures);
  count = λ few.
      count_more (λ v. is_any (used_in_query v c.args.query.now)) (λ m. m.variables) c.args.vars.now c.loop-measure.measure-index c.measure-item.result
      c.loop-measure.place c.loop-measure.count c.if_used-more.result c.saturating_add-count.result c.loop-measure-test.true c.measure-item.is few c.loop-measure.invariant.place
      (c.loop-measure.invariant.count (omega arith)) c.if_used-more.ensures c.saturating_add-count.ensures;
}

pub returns : goal.returns
returns c = λ few.
    c.loop-measure.invariant.count (omega (arith, c.loop-measure.auto.measure-index-end, few))
    ∙ ap (λ ms. min (counted (λ v. is_any (used_in_query v c.args.query.now)) (λ m. m.variables) 0 ms) (2 ^ 64 - 1)) (take_all c.loop-measure.measure-index c.args.vars.now c.loop-measure-test.false)
