use Rattle.std.proofs.Common.{Err, refl}
use Rattle.net_core.proofs.Faulty.{no_source, reads_nothing, within_apart}
use Rattle.net_core.specs.Known.{outside}
use Rattle.net_tests.proofs.Carrying.{cause_err, changed, counts_err, crash_any, durable_ok, failed_err, holds_it, inside_err, never_unlawful, quiet_any, spares_err, works_ok}
use Rattle.net_tests.proofs.carrier.CarrierStage.work.Goals as goal

pub returns-in-Ok-clause-works : goal.returns-in-Ok-clause-works
returns-in-Ok-clause-works g c = λ user served. works_ok user c.args.self.now.stand (outside g.B.Base.database g.B.Base.faults g.B.Base.clock g.B.Base.reads g.H.Shelf.files g.H.Shelf.faults g.S.Source.left g.S.Source.given g.S.Source.faults g.S.Source.ended g.K.Sink.written g.K.Sink.faults g.K.Sink.stalls c.args.room.now) (g.B.Base.database c.carry_out.new.base) (g.B.Base.schema c.carry_out.new.base) (g.B.Base.faults c.carry_out.new.base) (g.B.Base.clock c.carry_out.new.base) (g.B.Base.reads c.carry_out.new.base) (g.B.Base.left_since c.args.room.now.base) (g.B.Base.left_since c.carry_out.new.base) _ (holds_it c.args.self.now.stand c.requires) (λ db known. g.B.Base.lawful c.args.room.now.base db (g.B.Base.own c.args.room.now.base db known)) c.in-Ok.ensures.done

pub returns-in-Ok-clause-durable : goal.returns-in-Ok-clause-durable
returns-in-Ok-clause-durable g c = durable_ok (outside g.B.Base.database g.B.Base.faults g.B.Base.clock g.B.Base.reads g.H.Shelf.files g.H.Shelf.faults g.S.Source.left g.S.Source.given g.S.Source.faults g.S.Source.ended g.K.Sink.written g.K.Sink.faults g.K.Sink.stalls c.args.room.now) (g.B.Base.database c.carry_out.new.base) (g.B.Base.schema c.carry_out.new.base) (g.B.Base.faults c.carry_out.new.base) (g.B.Base.clock c.carry_out.new.base) (g.B.Base.reads c.carry_out.new.base) (g.B.Base.left_since c.args.room.now.base) (g.B.Base.left_since c.carry_out.new.base) _ c.in-Ok.ensures.done

pub returns-in-Ok-clause-database : goal.returns-in-Ok-clause-database
returns-in-Ok-clause-database g c = λ db known. (_, c.in-Ok.ensures.done.done db known)

pub returns-in-Ok-clause-handed : goal.returns-in-Ok-clause-handed
returns-in-Ok-clause-handed g c = λ works turn away. c.in-Ok.ensures.done.handed

pub returns-in-Ok-clause-reads : goal.returns-in-Ok-clause-reads
returns-in-Ok-clause-reads g c = reads_nothing _ 0 _ _ _ _ refl refl refl (λ e. cc e)

pub returns-in-Err-clause-reads : goal.returns-in-Err-clause-reads
returns-in-Err-clause-reads g c = reads_nothing _ 0 _ _ _ _ refl refl refl (no_source {T = Unit {0}} (Err c.in-Err.fault) (inside_err (g.B.Base.database c.args.room.now.base) (g.B.Base.faults c.args.room.now.base) (g.B.Base.faults c.carry_out.new.base) c.in-Err.fault c.in-Err.ensures.done.cause))

pub returns-in-Ok-clause-crash : goal.returns-in-Ok-clause-crash
returns-in-Ok-clause-crash g c = λ user served. crash_any user c.args.self.now.stand (outside g.B.Base.database g.B.Base.faults g.B.Base.clock g.B.Base.reads g.H.Shelf.files g.H.Shelf.faults g.S.Source.left g.S.Source.given g.S.Source.faults g.S.Source.ended g.K.Sink.written g.K.Sink.faults g.K.Sink.stalls c.args.room.now) (g.B.Base.database c.carry_out.new.base) (g.B.Base.schema c.carry_out.new.base) (g.B.Base.faults c.carry_out.new.base) (g.B.Base.clock c.carry_out.new.base) (g.B.Base.reads c.carry_out.new.base) (g.B.Base.left_since c.args.room.now.base) (g.B.Base.left_since c.carry_out.new.base) _ (holds_it c.args.self.now.stand c.requires) c.in-Ok.ensures.done

pub returns-in-Err-clause-crash : goal.returns-in-Err-clause-crash
returns-in-Err-clause-crash g c = λ user served. crash_any user c.args.self.now.stand (outside g.B.Base.database g.B.Base.faults g.B.Base.clock g.B.Base.reads g.H.Shelf.files g.H.Shelf.faults g.S.Source.left g.S.Source.given g.S.Source.faults g.S.Source.ended g.K.Sink.written g.K.Sink.faults g.K.Sink.stalls c.args.room.now) (g.B.Base.database c.carry_out.new.base) (g.B.Base.schema c.carry_out.new.base) (g.B.Base.faults c.carry_out.new.base) (g.B.Base.clock c.carry_out.new.base) (g.B.Base.reads c.carry_out.new.base) (g.B.Base.left_since c.args.room.now.base) (g.B.Base.left_since c.carry_out.new.base) _ (holds_it c.args.self.now.stand c.requires) c.in-Err.ensures.done

pub returns-in-Ok-clause-quiet : goal.returns-in-Ok-clause-quiet
returns-in-Ok-clause-quiet g c = quiet_any c.args.self.now.stand (outside g.B.Base.database g.B.Base.faults g.B.Base.clock g.B.Base.reads g.H.Shelf.files g.H.Shelf.faults g.S.Source.left g.S.Source.given g.S.Source.faults g.S.Source.ended g.K.Sink.written g.K.Sink.faults g.K.Sink.stalls c.args.room.now) (changed (outside g.B.Base.database g.B.Base.faults g.B.Base.clock g.B.Base.reads g.H.Shelf.files g.H.Shelf.faults g.S.Source.left g.S.Source.given g.S.Source.faults g.S.Source.ended g.K.Sink.written g.K.Sink.faults g.K.Sink.stalls c.args.room.now) (g.B.Base.database c.carry_out.new.base) (g.B.Base.faults c.carry_out.new.base) (g.B.Base.clock c.carry_out.new.base) (g.B.Base.reads c.carry_out.new.base)) (holds_it c.args.self.now.stand c.requires)

pub returns-in-Err-clause-quiet : goal.returns-in-Err-clause-quiet
returns-in-Err-clause-quiet g c = quiet_any c.args.self.now.stand (outside g.B.Base.database g.B.Base.faults g.B.Base.clock g.B.Base.reads g.H.Shelf.files g.H.Shelf.faults g.S.Source.left g.S.Source.given g.S.Source.faults g.S.Source.ended g.K.Sink.written g.K.Sink.faults g.K.Sink.stalls c.args.room.now) (changed (outside g.B.Base.database g.B.Base.faults g.B.Base.clock g.B.Base.reads g.H.Shelf.files g.H.Shelf.faults g.S.Source.left g.S.Source.given g.S.Source.faults g.S.Source.ended g.K.Sink.written g.K.Sink.faults g.K.Sink.stalls c.args.room.now) (g.B.Base.database c.carry_out.new.base) (g.B.Base.faults c.carry_out.new.base) (g.B.Base.clock c.carry_out.new.base) (g.B.Base.reads c.carry_out.new.base)) (holds_it c.args.self.now.stand c.requires)

pub returns-in-Err-clause-failed : goal.returns-in-Err-clause-failed
returns-in-Err-clause-failed g c = λ user served. failed_err user c.args.self.now.stand (outside g.B.Base.database g.B.Base.faults g.B.Base.clock g.B.Base.reads g.H.Shelf.files g.H.Shelf.faults g.S.Source.left g.S.Source.given g.S.Source.faults g.S.Source.ended g.K.Sink.written g.K.Sink.faults g.K.Sink.stalls c.args.room.now) (g.B.Base.database c.carry_out.new.base) (g.B.Base.schema c.carry_out.new.base) (g.B.Base.faults c.carry_out.new.base) (g.B.Base.clock c.carry_out.new.base) (g.B.Base.reads c.carry_out.new.base) (g.B.Base.left_since c.args.room.now.base) (g.B.Base.left_since c.carry_out.new.base) c.in-Err.fault (holds_it c.args.self.now.stand c.requires) c.in-Err.ensures.done

pub returns-in-Err-clause-unlawful : goal.returns-in-Err-clause-unlawful
returns-in-Err-clause-unlawful g c = λ user served e. never_unlawful (g.B.Base.database c.args.room.now.base) (g.B.Base.faults c.args.room.now.base) (g.B.Base.faults c.carry_out.new.base) c.in-Err.fault c.in-Err.ensures.done.cause e

pub returns-in-Err-clause-cause : goal.returns-in-Err-clause-cause
returns-in-Err-clause-cause g c = cause_err 0 (outside g.B.Base.database g.B.Base.faults g.B.Base.clock g.B.Base.reads g.H.Shelf.files g.H.Shelf.faults g.S.Source.left g.S.Source.given g.S.Source.faults g.S.Source.ended g.K.Sink.written g.K.Sink.faults g.K.Sink.stalls c.args.room.now) (g.B.Base.database c.carry_out.new.base) (g.B.Base.faults c.carry_out.new.base) (g.B.Base.clock c.carry_out.new.base) (g.B.Base.reads c.carry_out.new.base) c.in-Err.fault c.in-Err.ensures.done.cause

pub returns-in-Err-clause-counts : goal.returns-in-Err-clause-counts
returns-in-Err-clause-counts g c = counts_err (outside g.B.Base.database g.B.Base.faults g.B.Base.clock g.B.Base.reads g.H.Shelf.files g.H.Shelf.faults g.S.Source.left g.S.Source.given g.S.Source.faults g.S.Source.ended g.K.Sink.written g.K.Sink.faults g.K.Sink.stalls c.args.room.now) (g.B.Base.database c.carry_out.new.base) (g.B.Base.faults c.carry_out.new.base) (g.B.Base.clock c.carry_out.new.base) (g.B.Base.reads c.carry_out.new.base) c.in-Err.fault c.in-Err.ensures.done.cause

pub returns-in-Err-clause-spares : goal.returns-in-Err-clause-spares
returns-in-Err-clause-spares g c = spares_err (outside g.B.Base.database g.B.Base.faults g.B.Base.clock g.B.Base.reads g.H.Shelf.files g.H.Shelf.faults g.S.Source.left g.S.Source.given g.S.Source.faults g.S.Source.ended g.K.Sink.written g.K.Sink.faults g.K.Sink.stalls c.args.room.now) (g.B.Base.database c.carry_out.new.base) (g.B.Base.faults c.carry_out.new.base) (g.B.Base.clock c.carry_out.new.base) (g.B.Base.reads c.carry_out.new.base) c.in-Err.fault c.in-Err.ensures.done.cause c.in-Err.ensures.done.no_memory

pub returns-in-Err-clause-within : goal.returns-in-Err-clause-within
returns-in-Err-clause-within g c = within_apart {T = Unit {0}} 0 (Err c.in-Err.fault) (inside_err (g.B.Base.database c.args.room.now.base) (g.B.Base.faults c.args.room.now.base) (g.B.Base.faults c.carry_out.new.base) c.in-Err.fault c.in-Err.ensures.done.cause)

pub returns-in-Err-clause-ends : goal.returns-in-Err-clause-ends
returns-in-Err-clause-ends g c = λ apart. record { same = refl; unread = refl; inside = inside_err (g.B.Base.database c.args.room.now.base) (g.B.Base.faults c.args.room.now.base) (g.B.Base.faults c.carry_out.new.base) c.in-Err.fault c.in-Err.ensures.done.cause }
