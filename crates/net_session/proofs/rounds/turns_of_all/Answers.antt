use Rattle.std.proofs.Common.{◌≡◌, ◌∙◌, ◌<◌, refl, ap, List, ℕ, Err, arith, rules, length}
use Rattle.std.specs.Prelude.{replicate}
use Rattle.std.proofs.lemmas.List.{take_all}
use Rattle.net_session.proofs.Lists.{front_by_next, turns_by, turns_by_next}
use Rattle.net_session.proofs.Making.{broke_behind, ended_behind, ended_of, made_is, made_more, made_of, nothing_made}
use Rattle.net_session.proofs.rounds.turns_of_all.Goals as goal

pub loop-stage-init : goal.loop-stage-init
loop-stage-init g c = record { made = nothing_made _ _ _; serve = λ user x. x; numbers = c.requires.numbers; capacity = refl }

pub loop-stage-preserved : goal.loop-stage-preserved
loop-stage-preserved g c =
    let lt : c.loop-stage.stage-index < length c.args.order.now = omega (arith, c.loop-stage-test.true, c.told-order) in
    record {
      made = made_more _ _ _ _ _ _ _ _ _ _ c.loop-stage.invariant.capacity (turns_by_next (λ stage. replicate c.args.times stage) c.args.order.now c.loop-stage.stage-index 0 lt) c.loop-stage.invariant.serve c.loop-stage.invariant.made
          (made_of _ _ _ _ _ c.in_ok-turns_of_one.field-0 c.if-branch.false c.in_ok-turns_of_one.ensures.done);
      serve = λ user x. c.in_ok-turns_of_one.ensures.serve user (c.loop-stage.invariant.serve user x);
      numbers = c.in_ok-turns_of_one.ensures.numbers;
      capacity = c.in_ok-turns_of_one.ensures.capacity ∙ c.loop-stage.invariant.capacity;
    }

pub returns-in_err-turns_of_one-clause-done : goal.returns-in_err-turns_of_one-clause-done
returns-in_err-turns_of_one-clause-done g c =
    let lt : c.loop-stage.stage-index < length c.args.order.now = omega (arith, c.loop-stage-test.true, c.told-order) in
    let is : c.from_residual.result ≡ Err c.in_err-turns_of_one.field-0.0 = search rules in
    rw is (broke_behind _ _ _ _ _ _ _ _ _ _ c.in_err-turns_of_one.field-0.0 c.loop-stage.invariant.capacity (front_by_next (λ stage. replicate c.args.times stage) c.args.order.now c.loop-stage.stage-index 0 lt) c.loop-stage.invariant.serve c.loop-stage.invariant.made c.in_err-turns_of_one.ensures.done)

pub returns-then-branch-clause-done : goal.returns-then-branch-clause-done
returns-then-branch-clause-done g c =
    let lt : c.loop-stage.stage-index < length c.args.order.now = omega (arith, c.loop-stage-test.true, c.told-order) in
    ended_behind _ _ _ _ _ _ _ _ _ _ c.loop-stage.invariant.capacity (front_by_next (λ stage. replicate c.args.times stage) c.args.order.now c.loop-stage.stage-index 0 lt) c.loop-stage.invariant.serve c.loop-stage.invariant.made
    (ended_of _ _ _ _ _ c.in_ok-turns_of_one.field-0 c.if-branch.true c.in_ok-turns_of_one.ensures.done)

pub returns-clause-done : goal.returns-clause-done
returns-clause-done g c = made_is _ _ _ _ _ _ (ap (λ (l : List ℕ). turns_by (λ stage. replicate c.args.times stage) l) (take_all c.loop-stage.stage-index c.args.order.now (omega (arith, c.loop-stage-test.false, c.told-order)))) c.loop-stage.invariant.made
