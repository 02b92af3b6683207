use Rattle.std.proofs.Common.{◌≡◌, ◌∙◌, ap, sym, subst, arith, map, [], ◌∷◌, ◌++◌}
use Rattle.std.specs.Option.{IfSome}
use Rattle.std.proofs.lemmas.List.{take_all, map_more}
use Rattle.calculus.specs.Sizes.{measure_within}
use Rattle.view_sizes.specs.Measured.{held, stopped_measure}
use Rattle.view_sizes.proofs.Counting.{vars_is}
use Rattle.view_sizes.proofs.Viewed.{lists_few}
use Rattle.view_sizes.proofs.Measuring.{measured_through, plain_known}
use Rattle.view_sizes.proofs.measures.+measures.Goals as goal

pub measure_within-returns-in-Some-clause-known : goal.measure_within-returns-in-Some-clause-known
measure_within-returns-in-Some-clause-known g t c = λ db h all.
    subst (λ o. IfSome o (λ m. held m ≡ stopped_measure (measure_within c.args.levels db c.args.key.now))) c.in-Some.is (c.in_ok-measure.ensures db all)

pub measure_anew-returns-in_ok-remember_measure-in-Some-clause-known :
    goal.measure_anew-returns-in_ok-remember_measure-in-Some-clause-known
measure_anew-returns-in_ok-remember_measure-in-Some-clause-known g t c = λ db h all.
    let there = sym c.in-Some.is ∙ c.in_ok-query.ensures.known db h in
    let is = g.B.Base.lawful c.args.base.now db h in
    let few = lists_few db is c.args.key.now c.in-Some.query (sym there) in
    measured_through c.args.levels db is c.args.key.now c.in-Some.query c.requires there c.in_ok-measure-in-Some.measure
    (c.in_ok-measure-in-Some.ensures.known db (c.in_ok-query.ensures.stays _ h) all (omega arith))

pub measure_anew-returns-in_ok-remember_measure-in-Some-clause-found :
    goal.measure_anew-returns-in_ok-remember_measure-in-Some-clause-found
measure_anew-returns-in_ok-remember_measure-in-Some-clause-found g t c = λ db h all.
    let there = sym c.in-Some.is ∙ c.in_ok-query.ensures.known db h in
    let is = g.B.Base.lawful c.args.base.now db h in
    let few = lists_few db is c.args.key.now c.in-Some.query (sym there) in
    let same = c.in_ok-query.ensures.stays _ h in
    c.in_ok-remember_measure-in-Some.ensures db (c.in_ok-measure-in-Some.ensures.found db same all)
    (measured_through c.args.levels db is c.args.key.now c.in-Some.query c.requires there c.in_ok-measure-in-Some.measure (c.in_ok-measure-in-Some.ensures.known db same all (omega arith)))

pub measure_anew-returns-in-None-clause-known : goal.measure_anew-returns-in-None-clause-known
measure_anew-returns-in-None-clause-known g t c = λ db h all.
    c.plain.ensures ∙ ap stopped_measure (sym (plain_known c.args.levels db c.args.key.now (sym (c.in_ok-query.ensures.known db h) ∙ c.in-None.is)))

pub measure_through-loop-key-preserved : goal.measure_through-loop-key-preserved
measure_through-loop-key-preserved g t c = record {
  known = λ db h all.
      c.in_ok-put_behind.ensures
      ∙ (λ i. c.loop-key.invariant.known db h all i ++ (c.in_ok-more.ensures.known db (c.loop-key.invariant.stays _ h) (c.loop-key.invariant.found db h all) ∙ ap (λ key. stopped_measure (measure_within c.args.levels db key)) c.key-item.is) i ∷ [])
      ∙ sym (map_more (λ key. stopped_measure (measure_within c.args.levels db key)) c.items-key-items.result.now c.loop-key.key-index c.key-item.result c.loop-key-test.true);
  found = λ db h all. c.in_ok-more.ensures.found db (c.loop-key.invariant.stays _ h) (c.loop-key.invariant.found db h all);
  kept = c.in_ok-more.ensures.kept ∙ c.loop-key.invariant.kept;
  stays = λ s h. c.in_ok-more.ensures.stays s (c.loop-key.invariant.stays s h);
  asked = λ b was. c.in_ok-more.ensures.asked b (c.loop-key.invariant.asked b was);
  faults = c.in_ok-more.ensures.cause.caused ∙ c.loop-key.invariant.faults;
}

pub measure_through-returns-clause-known : goal.measure_through-returns-clause-known
measure_through-returns-clause-known g t c = λ db h all few.
    c.in_ok-measured.ensures (measure_within c.args.levels db) few
    (ap (map held) c.deref.ensures.value ∙ c.loop-key.invariant.known db h all ∙ ap (map (λ key. stopped_measure (measure_within c.args.levels db key))) (take_all c.loop-key.key-index c.items-key-items.result.now c.loop-key-test.false ∙ c.items-key-items.ensures ∙ vars_is c.args.query.now))
