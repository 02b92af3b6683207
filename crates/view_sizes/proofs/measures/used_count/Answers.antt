use Rattle.std.proofs.Common.{◌∙◌, ap, ◌-◌, ◌^◌, min, arith, length}
use Rattle.std.proofs.lemmas.List.{take_all}
use Rattle.calculus.specs.Lists.{is_any}
use Rattle.calculus.specs.QueryParts.{vars_of}
use Rattle.calculus.specs.Used.{used_in_query}
use Rattle.view_sizes.proofs.Counting.{counted, vars_is}
use Rattle.view_sizes.proofs.Measuring.{count_more, count_is}
use Rattle.view_sizes.proofs.measures.used_count.Goals as goal

pub loop-key-preserved : goal.loop-key-preserved
loop-key-preserved c = record {
  place = omega (arith, c.loop-key.invariant.place, c.saturating_add-place.ensures);
  count = λ few.
      count_more (λ v. is_any (used_in_query v c.args.query.now)) (λ key. 1) c.items-key-items.result.now c.loop-key._key-index c._key-item.result
      c.loop-key.place c.loop-key.count c.if_used-more.result c.saturating_add-count.result c.loop-key-test.true c._key-item.is few c.loop-key.invariant.place
      (c.loop-key.invariant.count (omega arith)) c.if_used-more.ensures c.saturating_add-count.ensures;
}

pub returns : goal.returns
returns c = λ few.
    c.loop-key.invariant.count (omega (arith, ap length (c.items-key-items.ensures ∙ vars_is c.args.query.now), c.loop-key.auto._key-index-end, few))
    ∙ ap (λ keys. min (counted (λ v. is_any (used_in_query v c.args.query.now)) (λ key. 1) 0 keys) (2 ^ 64 - 1))
    (take_all c.loop-key._key-index c.items-key-items.result.now c.loop-key-test.false ∙ c.items-key-items.ensures ∙ vars_is c.args.query.now)
    ∙ ap (λ n. min n (2 ^ 64 - 1)) (count_is (λ v. is_any (used_in_query v c.args.query.now)) (vars_of c.args.query.now))
