use Rattle.std.proofs.Common.{◌≡◌, ◌∙◌, refl, Err, arith, rules}
use Rattle.net_core.specs.Known.{outside}
use Rattle.net_core.specs.declared.steps.Moved.TheVariants.{Blocked, Stepped}
use Rattle.net_core.proofs.Crashing.{durable_more, durable_same}
use Rattle.net_core.proofs.Faulty.{heard_more, script_more}
use Rattle.net_core.proofs.Running.{ran_ended, ran_failed, ran_spent, room_begins, room_on, running_begins, running_on}
use Rattle.net_core.proofs.run.run.Goals as goal

pub steps-init : goal.steps-init
steps-init g c = record {
  running = running_begins (g.T.Stage.serves c.args.stage.now) _ _ _ _ c.new.result c.new-2.result _ _ c.new.ensures c.new-2.ensures;
  size = search rules;
  few = omega arith;
  serves = λ user x. x;
  place = refl;
  room = room_begins _ _ _;
  durable = durable_same (outside g.B.Base.database g.B.Base.faults g.B.Base.clock g.B.Base.reads g.H.Shelf.files g.H.Shelf.faults g.S.Source.left g.S.Source.given g.S.Source.faults g.S.Source.ended g.K.Sink.written g.K.Sink.faults g.K.Sink.stalls c.args.room.now) (g.B.Base.left_since c.args.room.now.base);
}

pub returns-in_err-step-clause-done : goal.returns-in_err-step-clause-done
returns-in_err-step-clause-done g c =
    let is : c.from_residual.result ≡ Err c.in_err-step.field-0.0 = search rules in
    rw is (ran_failed (g.T.Stage.serves c.args.stage.now) (g.T.Stage.serves c.steps.stage) _ _ _ _ _ _ _ _ _ _ (g.B.Base.left_since c.steps.room.base) _ c.steps.made _ c.in_err-step.field-0.0 c.steps.invariant.running c.steps.invariant.serves c.steps.invariant.room c.in_err-step.ensures.done c.in_err-step.ensures.crash.crash)

pub steps-preserved : goal.steps-preserved
steps-preserved g c =
    let is : c.in_ok-step.field-0 ≡ Stepped = cc in
    record {
      running = running_on (g.T.Stage.serves c.args.stage.now) (g.T.Stage.serves c.steps.stage) _ _ c.steps.made _ _ _ (g.B.Base.left_since c.steps.room.base) _ c.in_ok-step.field-0 is c.steps.invariant.running c.steps.invariant.serves c.in_ok-step.ensures.done c.in_ok-step.ensures.crash.crash;
      size = omega (arith, c.step.auto.buf, c.steps.invariant.size);
      few = omega (arith, c.steps-test.true);
      serves = λ user x. c.in_ok-step.ensures.serves user (c.steps.invariant.serves user x);
      place = c.in_ok-step.ensures.place ∙ c.steps.invariant.place;
      room = room_on _ _ _ _ _ _ _ _ c.in_ok-step.field-0 c.steps.invariant.place c.steps.invariant.room c.in_ok-step.ensures.room;
      durable = durable_more
          (outside g.B.Base.database g.B.Base.faults g.B.Base.clock g.B.Base.reads g.H.Shelf.files g.H.Shelf.faults g.S.Source.left g.S.Source.given g.S.Source.faults g.S.Source.ended g.K.Sink.written g.K.Sink.faults g.K.Sink.stalls c.args.room.now)
          (outside g.B.Base.database g.B.Base.faults g.B.Base.clock g.B.Base.reads g.H.Shelf.files g.H.Shelf.faults g.S.Source.left g.S.Source.given g.S.Source.faults g.S.Source.ended g.K.Sink.written g.K.Sink.faults g.K.Sink.stalls c.steps.room)
          (outside g.B.Base.database g.B.Base.faults g.B.Base.clock g.B.Base.reads g.H.Shelf.files g.H.Shelf.faults g.S.Source.left g.S.Source.given g.S.Source.faults g.S.Source.ended g.K.Sink.written g.K.Sink.faults g.K.Sink.stalls c.step.new.room) (g.B.Base.left_since c.args.room.now.base) (g.B.Base.left_since c.steps.room.base) (g.B.Base.left_since c.step.new.room.base) c.steps.invariant.room.database c.steps.invariant.durable c.in_ok-step.ensures.crash.durable;
    }

pub returns-in-Blocked-clause-done : goal.returns-in-Blocked-clause-done
returns-in-Blocked-clause-done g c =
    let is : c.in_ok-step.field-0 ≡ Blocked = cc in
    ran_ended (g.T.Stage.serves c.args.stage.now) (g.T.Stage.serves c.steps.stage) _ _ _ _ _ (g.B.Base.left_since c.steps.room.base) _ c.steps.made _ _ _ c.in_ok-step.field-0 is c.steps.invariant.running c.steps.invariant.serves c.in_ok-step.ensures.done c.in_ok-step.ensures.crash.crash

pub returns-in-Blocked-clause-durable : goal.returns-in-Blocked-clause-durable
returns-in-Blocked-clause-durable g c = durable_more
    (outside g.B.Base.database g.B.Base.faults g.B.Base.clock g.B.Base.reads g.H.Shelf.files g.H.Shelf.faults g.S.Source.left g.S.Source.given g.S.Source.faults g.S.Source.ended g.K.Sink.written g.K.Sink.faults g.K.Sink.stalls c.args.room.now)
    (outside g.B.Base.database g.B.Base.faults g.B.Base.clock g.B.Base.reads g.H.Shelf.files g.H.Shelf.faults g.S.Source.left g.S.Source.given g.S.Source.faults g.S.Source.ended g.K.Sink.written g.K.Sink.faults g.K.Sink.stalls c.steps.room)
    (outside g.B.Base.database g.B.Base.faults g.B.Base.clock g.B.Base.reads g.H.Shelf.files g.H.Shelf.faults g.S.Source.left g.S.Source.given g.S.Source.faults g.S.Source.ended g.K.Sink.written g.K.Sink.faults g.K.Sink.stalls c.step.new.room) (g.B.Base.left_since c.args.room.now.base) (g.B.Base.left_since c.steps.room.base) (g.B.Base.left_since c.step.new.room.base) c.steps.invariant.room.database c.steps.invariant.durable c.in_ok-step.ensures.crash.durable

pub returns-clause-done : goal.returns-clause-done
returns-clause-done g c =
    ran_spent (g.T.Stage.serves c.args.stage.now) _ _ _ _ _ _ _ _ c.steps.made _ c.steps.invariant.running (omega (arith, c.steps-test.false)) c.steps.invariant.few c.steps.invariant.room

pub returns-in_err-step-clause-heard : goal.returns-in_err-step-clause-heard
returns-in_err-step-clause-heard g c = script_more _ _ _
    (outside g.B.Base.database g.B.Base.faults g.B.Base.clock g.B.Base.reads g.H.Shelf.files g.H.Shelf.faults g.S.Source.left g.S.Source.given g.S.Source.faults g.S.Source.ended g.K.Sink.written g.K.Sink.faults g.K.Sink.stalls c.args.room.now)
    (outside g.B.Base.database g.B.Base.faults g.B.Base.clock g.B.Base.reads g.H.Shelf.files g.H.Shelf.faults g.S.Source.left g.S.Source.given g.S.Source.faults g.S.Source.ended g.K.Sink.written g.K.Sink.faults g.K.Sink.stalls c.steps.room)
    (outside g.B.Base.database g.B.Base.faults g.B.Base.clock g.B.Base.reads g.H.Shelf.files g.H.Shelf.faults g.S.Source.left g.S.Source.given g.S.Source.faults g.S.Source.ended g.K.Sink.written g.K.Sink.faults g.K.Sink.stalls c.step.new.room) c.steps.invariant.room.script c.in_err-step.ensures.room.script

pub returns-in_err-step-clause-given : goal.returns-in_err-step-clause-given
returns-in_err-step-clause-given g c = heard_more _ _ _ _ _ _ c.steps.invariant.room.given c.in_err-step.ensures.room.given
