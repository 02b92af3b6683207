use Rattle.std.proofs.Common.{◌≡◌, Err, refl, ◌∙◌, arith, rules}
use Rattle.net_core.proofs.Faulty.{counts_from, heard_more, script_more, script_of, sees_failed}
use Rattle.net_core.specs.Known.{outside}
use Rattle.net_core.proofs.Crashing.{no_turn, one_more_turn, turns_leave}
use Rattle.net_core.proofs.Turning.{are_numbered, none_done, one_more_done, turns_disorderly, turns_failed, turns_finish, turns_keep, turns_lead, turns_stopped}
use Rattle.net_core.proofs.turns.net_turns.Goals as goal

pub loop-k-init : goal.loop-k-init
loop-k-init g c = (none_done _ _ _ _ _ _ _, refl, no_turn _ _ _ _ _ _)

pub loop-k-preserved : goal.loop-k-preserved
loop-k-preserved g c = (
  one_more_done _ _ _ _ _ _ _ _ _ _ _ _ _ _ _ _ _ _ _ _ _ _ _ _ _ _ refl c.loop-k.invariant.1 c.loop-k-test.true c.loop-k.invariant.0 c.in_ok-net_step.ensures.steps
      c.in_ok-net_step.ensures.serve c.in_ok-net_step.ensures.numbers c.in_ok-net_step.ensures.later c.in_ok-net_step.ensures.reads c.in_ok-net_step.ensures.within c.in_ok-net_step.ensures.counts c.in_ok-net_step.ensures.database,
  c.in_ok-net_step.ensures.capacity ∙ c.loop-k.invariant.1,
  one_more_turn _ _ _ _ _ _ _ _ _ _ _ _ _ _ _ _ _ _ _ _ _ _ c.loop-k-test.true c.loop-k.invariant.0 c.loop-k.invariant.2
      c.in_ok-net_step.ensures.steps c.in_ok-net_step.ensures.crash c.in_ok-net_step.ensures.durable,
)

pub returns-in_err-net_step-clause-stopped : goal.returns-in_err-net_step-clause-stopped
returns-in_err-net_step-clause-stopped g c =
    let is : c.from_residual.result ≡ Err c.in_err-net_step.field-0.0 = search rules in
    rw is (turns_stopped c.in_err-net_step.field-0.0 _ _ _ _ _ _ _ _ _ _ _ _ _ _ _ _ _ _ c.loop-k-test.true c.loop-k.invariant.0 c.in_err-net_step.ensures.failed c.in_err-net_step.ensures.part (are_numbered _ _ _ _ _) c.in_err-net_step.ensures.reads c.in_err-net_step.ensures.counts c.in_err-net_step.ensures.spares c.in_err-net_step.ensures.ends)

pub returns-in_err-net_step-clause-failed : goal.returns-in_err-net_step-clause-failed
returns-in_err-net_step-clause-failed g c = turns_failed c.from_residual.result _ _ _ _ _ _
    (outside g.B.Base.database g.B.Base.faults g.B.Base.clock g.B.Base.reads g.H.Shelf.files g.H.Shelf.faults g.S.Source.left g.S.Source.given g.S.Source.faults g.S.Source.ended g.K.Sink.written g.K.Sink.faults g.K.Sink.stalls c.net_step.new.room) _ _ _ _ _ _ _ _ c.loop-k.invariant.0 c.in_err-net_step.ensures.failed

pub returns-in_err-net_step-clause-lawful : goal.returns-in_err-net_step-clause-lawful
returns-in_err-net_step-clause-lawful g c = λ user x u. turns_disorderly _ _ _ _ _ _ _ _ _ _ _ _ _ _ c.loop-k.invariant.0 user x (λ y. c.in_err-net_step.ensures.lawful user y (let h = rw u at c.from_residual.ensures.1 in cc))

pub returns-clause-equation : goal.returns-clause-equation
returns-clause-equation g c = turns_keep _ _ _ _ _ _ _ _ _ _ _ _ _ _ c.loop-k.invariant.0

pub returns-clause-finishes : goal.returns-clause-finishes
returns-clause-finishes g c = turns_finish _ _ _ _ _ _ _ _ _ _ _ _ _ _ c.loop-k.invariant.0

pub returns-in_err-net_step-clause-crash : goal.returns-in_err-net_step-clause-crash
returns-in_err-net_step-clause-crash g c = turns_leave _ _ _ _ _ _ _
    (outside g.B.Base.database g.B.Base.faults g.B.Base.clock g.B.Base.reads g.H.Shelf.files g.H.Shelf.faults g.S.Source.left g.S.Source.given g.S.Source.faults g.S.Source.ended g.K.Sink.written g.K.Sink.faults g.K.Sink.stalls c.net_step.new.room) _ _ _ _ _ _ _ _ _ _ _ c.loop-k-test.true c.loop-k.invariant.0 c.loop-k.invariant.2 c.in_err-net_step.ensures.crash

pub returns-clause-crash : goal.returns-clause-crash
returns-clause-crash g c = c.loop-k.invariant.2.crash

pub returns-clause-durable : goal.returns-clause-durable
returns-clause-durable g c = c.loop-k.invariant.2.durable

pub returns-clause-leads : goal.returns-clause-leads
returns-clause-leads g c = turns_lead _ _ _ _ _ _ _ _ _ _ _ _ _ _ _ (omega (arith, c.loop-k-test.false)) c.loop-k.invariant.0

pub returns-clause-given : goal.returns-clause-given
returns-clause-given g c = c.loop-k.invariant.0.given

pub returns-clause-within : goal.returns-clause-within
returns-clause-within g c = c.loop-k.invariant.0.within

pub returns-clause-counts : goal.returns-clause-counts
returns-clause-counts g c = c.loop-k.invariant.0.counts

pub returns-clause-over : goal.returns-clause-over
returns-clause-over g c = let s = c.loop-k.invariant.0.over in record { stays = λ d. s.stays tt; whole = λ d. s.whole tt; going = λ f. absurd (cc f) }

pub returns-in_err-net_step-clause-heard : goal.returns-in_err-net_step-clause-heard
returns-in_err-net_step-clause-heard g c = script_more _ _ _
    (outside g.B.Base.database g.B.Base.faults g.B.Base.clock g.B.Base.reads g.H.Shelf.files g.H.Shelf.faults g.S.Source.left g.S.Source.given g.S.Source.faults g.S.Source.ended g.K.Sink.written g.K.Sink.faults g.K.Sink.stalls c.args.room.now)
    (outside g.B.Base.database g.B.Base.faults g.B.Base.clock g.B.Base.reads g.H.Shelf.files g.H.Shelf.faults g.S.Source.left g.S.Source.given g.S.Source.faults g.S.Source.ended g.K.Sink.written g.K.Sink.faults g.K.Sink.stalls c.loop-k.room)
    (outside g.B.Base.database g.B.Base.faults g.B.Base.clock g.B.Base.reads g.H.Shelf.files g.H.Shelf.faults g.S.Source.left g.S.Source.given g.S.Source.faults g.S.Source.ended g.K.Sink.written g.K.Sink.faults g.K.Sink.stalls c.net_step.new.room) c.loop-k.invariant.0.script (script_of _ _ _
    (outside g.B.Base.database g.B.Base.faults g.B.Base.clock g.B.Base.reads g.H.Shelf.files g.H.Shelf.faults g.S.Source.left g.S.Source.given g.S.Source.faults g.S.Source.ended g.K.Sink.written g.K.Sink.faults g.K.Sink.stalls c.loop-k.room)
    (outside g.B.Base.database g.B.Base.faults g.B.Base.clock g.B.Base.reads g.H.Shelf.files g.H.Shelf.faults g.S.Source.left g.S.Source.given g.S.Source.faults g.S.Source.ended g.K.Sink.written g.K.Sink.faults g.K.Sink.stalls c.net_step.new.room) _ _ c.in_err-net_step.ensures.reads)

pub returns-in_err-net_step-clause-over : goal.returns-in_err-net_step-clause-over
returns-in_err-net_step-clause-over g c =
    let is : c.from_residual.result ≡ Err c.in_err-net_step.field-0.0 = search rules in
    rw is (sees_failed
    (outside g.B.Base.database g.B.Base.faults g.B.Base.clock g.B.Base.reads g.H.Shelf.files g.H.Shelf.faults g.S.Source.left g.S.Source.given g.S.Source.faults g.S.Source.ended g.K.Sink.written g.K.Sink.faults g.K.Sink.stalls c.args.room.now)
    (outside g.B.Base.database g.B.Base.faults g.B.Base.clock g.B.Base.reads g.H.Shelf.files g.H.Shelf.faults g.S.Source.left g.S.Source.given g.S.Source.faults g.S.Source.ended g.K.Sink.written g.K.Sink.faults g.K.Sink.stalls c.loop-k.room)
    (outside g.B.Base.database g.B.Base.faults g.B.Base.clock g.B.Base.reads g.H.Shelf.files g.H.Shelf.faults g.S.Source.left g.S.Source.given g.S.Source.faults g.S.Source.ended g.K.Sink.written g.K.Sink.faults g.K.Sink.stalls c.net_step.new.room) c.in_err-net_step.field-0.0 c.loop-k.invariant.0.over c.in_err-net_step.ensures.reads.over)

pub returns-in_err-net_step-clause-given : goal.returns-in_err-net_step-clause-given
returns-in_err-net_step-clause-given g c = heard_more _ _ _ _ _ _ c.loop-k.invariant.0.given c.in_err-net_step.ensures.reads.given

pub returns-in_err-net_step-clause-within : goal.returns-in_err-net_step-clause-within
returns-in_err-net_step-clause-within g c =
    let is : c.from_residual.result ≡ Err c.in_err-net_step.field-0.0 = search rules in
    rw is (λ n le. c.in_err-net_step.ensures.within (c.loop-k.invariant.0.numbered n) (c.loop-k.invariant.0.within n le))

pub returns-in_err-net_step-clause-counts : goal.returns-in_err-net_step-clause-counts
returns-in_err-net_step-clause-counts g c =
    let is : c.from_residual.result ≡ Err c.in_err-net_step.field-0.0 = search rules in
    rw is (counts_from
    (outside g.B.Base.database g.B.Base.faults g.B.Base.clock g.B.Base.reads g.H.Shelf.files g.H.Shelf.faults g.S.Source.left g.S.Source.given g.S.Source.faults g.S.Source.ended g.K.Sink.written g.K.Sink.faults g.K.Sink.stalls c.args.room.now)
    (outside g.B.Base.database g.B.Base.faults g.B.Base.clock g.B.Base.reads g.H.Shelf.files g.H.Shelf.faults g.S.Source.left g.S.Source.given g.S.Source.faults g.S.Source.ended g.K.Sink.written g.K.Sink.faults g.K.Sink.stalls c.loop-k.room)
    (outside g.B.Base.database g.B.Base.faults g.B.Base.clock g.B.Base.reads g.H.Shelf.files g.H.Shelf.faults g.S.Source.left g.S.Source.given g.S.Source.faults g.S.Source.ended g.K.Sink.written g.K.Sink.faults g.K.Sink.stalls c.net_step.new.room) c.in_err-net_step.field-0.0 c.loop-k.invariant.0.counts c.in_err-net_step.ensures.counts)
