use Rattle.std.proofs.Common.{◌≡◌, ◌∙◌, refl, ap, ℕ, Err, arith, rules}
use Rattle.std.specs.Prelude.{replicate}
use Rattle.std.proofs.lemmas.List.{replicate_more}
use Rattle.net_session.proofs.Lists.{front_replicate, front_replicate_next}
use Rattle.net_session.proofs.Making.{broke_here, done_by, made_is, made_more, nothing_made}
use Rattle.net_session.proofs.rounds.turns_of_one.Goals as goal

pub loop-init : goal.loop-init
loop-init g c = record { made = nothing_made _ _ _; serve = λ user x. x; numbers = c.requires.numbers; capacity = refl }

pub loop-preserved : goal.loop-preserved
loop-preserved g c = record {
  made = made_more _ _ _ _ _ _ _ _ _ _ c.loop.invariant.capacity (replicate_more c.loop.counter c.args.stage) c.loop.invariant.serve c.loop.invariant.made c.in_ok-one_turn.ensures.done;
  serve = λ user x. c.in_ok-one_turn.ensures.serve user (c.loop.invariant.serve user x);
  numbers = c.in_ok-one_turn.ensures.numbers;
  capacity = c.in_ok-one_turn.ensures.capacity ∙ c.loop.invariant.capacity;
}

pub returns-in_err-one_turn-clause-done : goal.returns-in_err-one_turn-clause-done
returns-in_err-one_turn-clause-done g c =
    let is : c.from_residual.result ≡ Err c.in_err-one_turn.field-0.0 = search rules in
    rw is (broke_here _ _ _ _ _ _ _ _ _ _ c.in_err-one_turn.field-0.0 c.loop.invariant.capacity (front_replicate_next c.loop.counter c.args.times c.args.stage c.loop-test.true) c.loop.invariant.serve c.loop.invariant.made c.in_err-one_turn.ensures.done)

pub returns-then-net_ended-clause-done : goal.returns-then-net_ended-clause-done
returns-then-net_ended-clause-done g c = record {
  made = _;
  front = front_replicate c.loop.counter c.args.times c.args.stage (omega (arith, c.loop-test.true));
  run = c.loop.invariant.made;
  ended = c.net_ended.ensures.0 c.if-net_ended.true;
}

pub returns-clause-done : goal.returns-clause-done
returns-clause-done g c =
    let all : c.loop.counter ≡ c.args.times = omega (arith, c.loop-test.false, c.loop.auto.counter-end) in
    done_by _ _ _ _ _ c.net_ended-2.result c.net_ended-2.ensures (made_is _ _ _ _ _ _ (ap (λ (n : ℕ). replicate n c.args.stage) all) c.loop.invariant.made)
