use Rattle.std.proofs.Common.{◌≡◌, ◌∙◌, ap, sym, subst, arith, is_some, Bool, true, ◌&&◌, ◌-◌, Some, None}
use Rattle.std.specs.Prelude.{IfOk}
use Rattle.std.specs.List.{list_all}
use Rattle.std.proofs.lemmas.List.{take_all}
use Rattle.std.proofs.lemmas.List.Folds.{list_all_more}
use Rattle.calculus.specs.Sizes.{level_within}
use Rattle.base_trait.specs.Known.{query_at}
use Rattle.view_sizes.proofs.Counting.{vars_is}
use Rattle.view_sizes.proofs.Viewed.{no_base_relation}
use Rattle.view_sizes.proofs.Ranged.{no_level, plain_level, level_through}
use Rattle.view_sizes.proofs.ranges.+levels.Goals as goal

pub has_level_anew-returns-then-levels-eq0-clause-known :
    goal.has_level_anew-returns-then-levels-eq0-clause-known
has_level_anew-returns-then-levels-eq0-clause-known g t c = λ db h all.
    let viewed : query_at db c.args.key.now ≡ Some c.in-Some.query = sym (c.in_ok-query.ensures.known db h) ∙ c.in-Some.is in
    let no = no_base_relation db (g.B.Base.lawful c.args.base.now db h) c.args.key.now c.in-Some.query viewed in
    sym (ap (λ n. is_some (level_within n db c.args.key.now)) c.if-levels-eq0.true ∙ no_level db c.args.key.now c.in-Some.query no viewed)

pub has_level_anew-returns-else-levels-eq0-clause-known :
    goal.has_level_anew-returns-else-levels-eq0-clause-known
has_level_anew-returns-else-levels-eq0-clause-known g t c = λ db h all.
    let viewed : query_at db c.args.key.now ≡ Some c.in-Some.query = sym (c.in_ok-query.ensures.known db h) ∙ c.in-Some.is in
    let no = no_base_relation db (g.B.Base.lawful c.args.base.now db h) c.args.key.now c.in-Some.query viewed in
    subst (λ (b : Bool). IfOk c.have_levels_found-all.result (λ has. has ≡ b))
    (ap (list_all (λ k. is_some (level_within (c.args.levels - 1) db k))) (c.items.ensures ∙ vars_is c.in-Some.query)
    ∙ level_through c.args.levels db c.args.key.now c.in-Some.query (omega arith) no viewed)
    (c.have_levels_found-all.ensures.known db (c.in_ok-query.ensures.stays _ h) all)

pub has_level_anew-returns-in-None-clause-known : goal.has_level_anew-returns-in-None-clause-known
has_level_anew-returns-in-None-clause-known g t c = λ db h all.
    let plain : query_at db c.args.key.now ≡ None = sym (c.in_ok-query.ensures.known db h) ∙ c.in-None.is in
    subst (λ (b : Bool). IfOk c.is_range.result (λ has. has ≡ b)) (plain_level c.args.levels db c.args.key.now plain)
    (c.is_range.ensures.known db (c.in_ok-query.ensures.stays _ h))

pub have_levels_found-loop-key-preserved : goal.have_levels_found-loop-key-preserved
have_levels_found-loop-key-preserved g t c = record {
  known = λ db h all.
      let has : c.in_ok-has.has ≡ true = cc (c.if-not-has.false) in
      list_all_more (λ key. is_some (level_within c.args.levels db key)) c.args.vars.now c.loop-key.key-index c.key-item.result c.loop-key-test.true
      ∙ (λ i. c.loop-key.invariant.known db h all i
      && (ap (λ key. is_some (level_within c.args.levels db key)) (sym c.key-item.is) ∙ sym (c.in_ok-has.ensures.known db (c.loop-key.invariant.stays _ h) (c.loop-key.invariant.found db h all)) ∙ has) i);
  found = λ db h all. c.in_ok-has.ensures.found db (c.loop-key.invariant.stays _ h) (c.loop-key.invariant.found db h all);
  kept = c.in_ok-has.ensures.kept ∙ c.loop-key.invariant.kept;
  stays = λ s h. c.in_ok-has.ensures.stays s (c.loop-key.invariant.stays s h);
  asked = λ b was. c.in_ok-has.ensures.asked b (c.loop-key.invariant.asked b was);
  faults = c.in_ok-has.ensures.cause.caused ∙ c.loop-key.invariant.faults;
}

pub have_levels_found-returns-clause-known : goal.have_levels_found-returns-clause-known
have_levels_found-returns-clause-known g t c = λ db h all.
    sym (c.loop-key.invariant.known db h all) ∙ ap (list_all (λ key. is_some (level_within c.args.levels db key))) (take_all c.loop-key.key-index c.args.vars.now c.loop-key-test.false)
