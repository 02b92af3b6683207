use Rattle.std.proofs.Common.{Ok, Err, refl}
use Rattle.net_core.proofs.Faulty.{no_source, reads_nothing, within_apart}
use Rattle.net_core.specs.Known.{Outside, outside}
use Rattle.stage_util.proofs.AtWork.{cause_err, counts_err, counts_ok, crash_any, database_ok, durable_ok, failed_err, handed_ok, inside_err, later_any, quiet_any, spares_err, unlawful_err, works_ok, is_working}
use Rattle.stage_util.specs.Working.{After, outside_after}
use Rattle.stage_util.proofs.fourth.UtilitiesStage.work.Goals as goal

pub carry_out-requires : goal.carry_out-requires
carry_out-requires g c = record { holding = (is_working c.args.self.now.at c.args.self.now.got c.args.self.now.out c.requires).holds; empty = c.new-out.ensures }

pub returns-in-Ok-clause-works : goal.returns-in-Ok-clause-works
returns-in-Ok-clause-works g c =
    let o : Outside = outside g.B.Base.database g.B.Base.faults g.B.Base.clock g.B.Base.reads g.H.Shelf.files g.H.Shelf.faults g.S.Source.left g.S.Source.given g.S.Source.faults g.S.Source.ended g.K.Sink.written g.K.Sink.faults g.K.Sink.stalls c.args.room.now in
    let a : After = record {
      database = g.B.Base.database c.carry_out.new.base;
      schema = g.B.Base.schema c.carry_out.new.base;
      base_faults = g.B.Base.faults c.carry_out.new.base;
      clock = g.B.Base.clock c.carry_out.new.base;
      reads = g.B.Base.reads c.carry_out.new.base;
      files = g.H.Shelf.files c.carry_out.new.shelf;
      shelf_faults = g.H.Shelf.faults c.carry_out.new.shelf;
      left_before = g.B.Base.left_since c.args.room.now.base;
      left_now = g.B.Base.left_since c.carry_out.new.base;
    } in
    λ user served. works_ok user c.args.self.now.user c.args.self.now.at c.args.self.now.got c.args.self.now.out c.carry_out.new.out c.new-out.result o a c.in-Ok._answer served c.requires (λ db e. g.B.Base.lawful c.args.room.now.base db (g.B.Base.own c.args.room.now.base db e)) c.new-out.ensures c.in-Ok.ensures.frames c.in-Ok.ensures.done

pub returns-in-Ok-clause-database : goal.returns-in-Ok-clause-database
returns-in-Ok-clause-database g c =
    let o : Outside = outside g.B.Base.database g.B.Base.faults g.B.Base.clock g.B.Base.reads g.H.Shelf.files g.H.Shelf.faults g.S.Source.left g.S.Source.given g.S.Source.faults g.S.Source.ended g.K.Sink.written g.K.Sink.faults g.K.Sink.stalls c.args.room.now in
    let a : After = record {
      database = g.B.Base.database c.carry_out.new.base;
      schema = g.B.Base.schema c.carry_out.new.base;
      base_faults = g.B.Base.faults c.carry_out.new.base;
      clock = g.B.Base.clock c.carry_out.new.base;
      reads = g.B.Base.reads c.carry_out.new.base;
      files = g.H.Shelf.files c.carry_out.new.shelf;
      shelf_faults = g.H.Shelf.faults c.carry_out.new.shelf;
      left_before = g.B.Base.left_since c.args.room.now.base;
      left_now = g.B.Base.left_since c.carry_out.new.base;
    } in
    database_ok c.args.self.now.user c.args.self.now.at c.args.self.now.got c.args.self.now.out o a c.in-Ok._answer c.requires c.in-Ok.ensures.done

pub returns-in-Ok-clause-later : goal.returns-in-Ok-clause-later
returns-in-Ok-clause-later g c =
    let o : Outside = outside g.B.Base.database g.B.Base.faults g.B.Base.clock g.B.Base.reads g.H.Shelf.files g.H.Shelf.faults g.S.Source.left g.S.Source.given g.S.Source.faults g.S.Source.ended g.K.Sink.written g.K.Sink.faults g.K.Sink.stalls c.args.room.now in
    let a : After = record {
      database = g.B.Base.database c.carry_out.new.base;
      schema = g.B.Base.schema c.carry_out.new.base;
      base_faults = g.B.Base.faults c.carry_out.new.base;
      clock = g.B.Base.clock c.carry_out.new.base;
      reads = g.B.Base.reads c.carry_out.new.base;
      files = g.H.Shelf.files c.carry_out.new.shelf;
      shelf_faults = g.H.Shelf.faults c.carry_out.new.shelf;
      left_before = g.B.Base.left_since c.args.room.now.base;
      left_now = g.B.Base.left_since c.carry_out.new.base;
    } in
    later_any o a _ c.in-Ok.ensures.cause

pub returns-in-Ok-clause-counts : goal.returns-in-Ok-clause-counts
returns-in-Ok-clause-counts g c =
    let o : Outside = outside g.B.Base.database g.B.Base.faults g.B.Base.clock g.B.Base.reads g.H.Shelf.files g.H.Shelf.faults g.S.Source.left g.S.Source.given g.S.Source.faults g.S.Source.ended g.K.Sink.written g.K.Sink.faults g.K.Sink.stalls c.args.room.now in
    let a : After = record {
      database = g.B.Base.database c.carry_out.new.base;
      schema = g.B.Base.schema c.carry_out.new.base;
      base_faults = g.B.Base.faults c.carry_out.new.base;
      clock = g.B.Base.clock c.carry_out.new.base;
      reads = g.B.Base.reads c.carry_out.new.base;
      files = g.H.Shelf.files c.carry_out.new.shelf;
      shelf_faults = g.H.Shelf.faults c.carry_out.new.shelf;
      left_before = g.B.Base.left_since c.args.room.now.base;
      left_now = g.B.Base.left_since c.carry_out.new.base;
    } in
    counts_ok o a c.in-Ok._answer c.in-Ok.ensures.cause

pub returns-in-Ok-clause-reads : goal.returns-in-Ok-clause-reads
returns-in-Ok-clause-reads g c =
    let o : Outside = outside g.B.Base.database g.B.Base.faults g.B.Base.clock g.B.Base.reads g.H.Shelf.files g.H.Shelf.faults g.S.Source.left g.S.Source.given g.S.Source.faults g.S.Source.ended g.K.Sink.written g.K.Sink.faults g.K.Sink.stalls c.args.room.now in
    let a : After = record {
      database = g.B.Base.database c.carry_out.new.base;
      schema = g.B.Base.schema c.carry_out.new.base;
      base_faults = g.B.Base.faults c.carry_out.new.base;
      clock = g.B.Base.clock c.carry_out.new.base;
      reads = g.B.Base.reads c.carry_out.new.base;
      files = g.H.Shelf.files c.carry_out.new.shelf;
      shelf_faults = g.H.Shelf.faults c.carry_out.new.shelf;
      left_before = g.B.Base.left_since c.args.room.now.base;
      left_now = g.B.Base.left_since c.carry_out.new.base;
    } in
    reads_nothing _ 0 _ _ _ _ refl refl refl (λ e. cc e)

pub returns-in-Ok-clause-handed : goal.returns-in-Ok-clause-handed
returns-in-Ok-clause-handed g c =
    let o : Outside = outside g.B.Base.database g.B.Base.faults g.B.Base.clock g.B.Base.reads g.H.Shelf.files g.H.Shelf.faults g.S.Source.left g.S.Source.given g.S.Source.faults g.S.Source.ended g.K.Sink.written g.K.Sink.faults g.K.Sink.stalls c.args.room.now in
    let a : After = record {
      database = g.B.Base.database c.carry_out.new.base;
      schema = g.B.Base.schema c.carry_out.new.base;
      base_faults = g.B.Base.faults c.carry_out.new.base;
      clock = g.B.Base.clock c.carry_out.new.base;
      reads = g.B.Base.reads c.carry_out.new.base;
      files = g.H.Shelf.files c.carry_out.new.shelf;
      shelf_faults = g.H.Shelf.faults c.carry_out.new.shelf;
      left_before = g.B.Base.left_since c.args.room.now.base;
      left_now = g.B.Base.left_since c.carry_out.new.base;
    } in
    handed_ok c.args.self.now.user c.args.self.now.at c.args.self.now.got c.args.self.now.out c.args.self.now.got c.carry_out.new.out o a c.in-Ok._answer c.requires c.in-Ok.ensures.done

pub returns-in-Ok-clause-crash : goal.returns-in-Ok-clause-crash
returns-in-Ok-clause-crash g c =
    let o : Outside = outside g.B.Base.database g.B.Base.faults g.B.Base.clock g.B.Base.reads g.H.Shelf.files g.H.Shelf.faults g.S.Source.left g.S.Source.given g.S.Source.faults g.S.Source.ended g.K.Sink.written g.K.Sink.faults g.K.Sink.stalls c.args.room.now in
    let a : After = record {
      database = g.B.Base.database c.carry_out.new.base;
      schema = g.B.Base.schema c.carry_out.new.base;
      base_faults = g.B.Base.faults c.carry_out.new.base;
      clock = g.B.Base.clock c.carry_out.new.base;
      reads = g.B.Base.reads c.carry_out.new.base;
      files = g.H.Shelf.files c.carry_out.new.shelf;
      shelf_faults = g.H.Shelf.faults c.carry_out.new.shelf;
      left_before = g.B.Base.left_since c.args.room.now.base;
      left_now = g.B.Base.left_since c.carry_out.new.base;
    } in
    λ user served. crash_any user c.args.self.now.user c.args.self.now.at c.args.self.now.got c.args.self.now.out o a (Ok c.in-Ok._answer) served c.requires c.in-Ok.ensures.done

pub returns-in-Ok-clause-durable : goal.returns-in-Ok-clause-durable
returns-in-Ok-clause-durable g c =
    let o : Outside = outside g.B.Base.database g.B.Base.faults g.B.Base.clock g.B.Base.reads g.H.Shelf.files g.H.Shelf.faults g.S.Source.left g.S.Source.given g.S.Source.faults g.S.Source.ended g.K.Sink.written g.K.Sink.faults g.K.Sink.stalls c.args.room.now in
    let a : After = record {
      database = g.B.Base.database c.carry_out.new.base;
      schema = g.B.Base.schema c.carry_out.new.base;
      base_faults = g.B.Base.faults c.carry_out.new.base;
      clock = g.B.Base.clock c.carry_out.new.base;
      reads = g.B.Base.reads c.carry_out.new.base;
      files = g.H.Shelf.files c.carry_out.new.shelf;
      shelf_faults = g.H.Shelf.faults c.carry_out.new.shelf;
      left_before = g.B.Base.left_since c.args.room.now.base;
      left_now = g.B.Base.left_since c.carry_out.new.base;
    } in
    durable_ok c.args.self.now.user c.args.self.now.at c.args.self.now.got c.args.self.now.out o a c.in-Ok._answer c.requires c.in-Ok.ensures.done

pub returns-in-Ok-clause-quiet : goal.returns-in-Ok-clause-quiet
returns-in-Ok-clause-quiet g c =
    let o : Outside = outside g.B.Base.database g.B.Base.faults g.B.Base.clock g.B.Base.reads g.H.Shelf.files g.H.Shelf.faults g.S.Source.left g.S.Source.given g.S.Source.faults g.S.Source.ended g.K.Sink.written g.K.Sink.faults g.K.Sink.stalls c.args.room.now in
    let a : After = record {
      database = g.B.Base.database c.carry_out.new.base;
      schema = g.B.Base.schema c.carry_out.new.base;
      base_faults = g.B.Base.faults c.carry_out.new.base;
      clock = g.B.Base.clock c.carry_out.new.base;
      reads = g.B.Base.reads c.carry_out.new.base;
      files = g.H.Shelf.files c.carry_out.new.shelf;
      shelf_faults = g.H.Shelf.faults c.carry_out.new.shelf;
      left_before = g.B.Base.left_since c.args.room.now.base;
      left_now = g.B.Base.left_since c.carry_out.new.base;
    } in
    quiet_any c.args.self.now.at c.args.self.now.got c.args.self.now.out o (outside_after o a) c.requires

pub returns-in-Err-clause-failed : goal.returns-in-Err-clause-failed
returns-in-Err-clause-failed g c =
    let o : Outside = outside g.B.Base.database g.B.Base.faults g.B.Base.clock g.B.Base.reads g.H.Shelf.files g.H.Shelf.faults g.S.Source.left g.S.Source.given g.S.Source.faults g.S.Source.ended g.K.Sink.written g.K.Sink.faults g.K.Sink.stalls c.args.room.now in
    let a : After = record {
      database = g.B.Base.database c.carry_out.new.base;
      schema = g.B.Base.schema c.carry_out.new.base;
      base_faults = g.B.Base.faults c.carry_out.new.base;
      clock = g.B.Base.clock c.carry_out.new.base;
      reads = g.B.Base.reads c.carry_out.new.base;
      files = g.H.Shelf.files c.carry_out.new.shelf;
      shelf_faults = g.H.Shelf.faults c.carry_out.new.shelf;
      left_before = g.B.Base.left_since c.args.room.now.base;
      left_now = g.B.Base.left_since c.carry_out.new.base;
    } in
    λ user served. failed_err user c.args.self.now.user c.args.self.now.at c.args.self.now.got c.args.self.now.out o a c.in-Err.fault served c.requires c.in-Err.ensures.done

pub returns-in-Err-clause-unlawful : goal.returns-in-Err-clause-unlawful
returns-in-Err-clause-unlawful g c =
    let o : Outside = outside g.B.Base.database g.B.Base.faults g.B.Base.clock g.B.Base.reads g.H.Shelf.files g.H.Shelf.faults g.S.Source.left g.S.Source.given g.S.Source.faults g.S.Source.ended g.K.Sink.written g.K.Sink.faults g.K.Sink.stalls c.args.room.now in
    let a : After = record {
      database = g.B.Base.database c.carry_out.new.base;
      schema = g.B.Base.schema c.carry_out.new.base;
      base_faults = g.B.Base.faults c.carry_out.new.base;
      clock = g.B.Base.clock c.carry_out.new.base;
      reads = g.B.Base.reads c.carry_out.new.base;
      files = g.H.Shelf.files c.carry_out.new.shelf;
      shelf_faults = g.H.Shelf.faults c.carry_out.new.shelf;
      left_before = g.B.Base.left_since c.args.room.now.base;
      left_now = g.B.Base.left_since c.carry_out.new.base;
    } in
    λ user served u. unlawful_err user c.args.self.now.user c.args.self.now.at c.args.self.now.got c.args.self.now.out o a c.in-Err.fault served c.requires (cc u) c.in-Err.ensures.done

pub returns-in-Err-clause-later : goal.returns-in-Err-clause-later
returns-in-Err-clause-later g c =
    let o : Outside = outside g.B.Base.database g.B.Base.faults g.B.Base.clock g.B.Base.reads g.H.Shelf.files g.H.Shelf.faults g.S.Source.left g.S.Source.given g.S.Source.faults g.S.Source.ended g.K.Sink.written g.K.Sink.faults g.K.Sink.stalls c.args.room.now in
    let a : After = record {
      database = g.B.Base.database c.carry_out.new.base;
      schema = g.B.Base.schema c.carry_out.new.base;
      base_faults = g.B.Base.faults c.carry_out.new.base;
      clock = g.B.Base.clock c.carry_out.new.base;
      reads = g.B.Base.reads c.carry_out.new.base;
      files = g.H.Shelf.files c.carry_out.new.shelf;
      shelf_faults = g.H.Shelf.faults c.carry_out.new.shelf;
      left_before = g.B.Base.left_since c.args.room.now.base;
      left_now = g.B.Base.left_since c.carry_out.new.base;
    } in
    later_any o a _ c.in-Err.ensures.cause

pub returns-in-Err-clause-cause : goal.returns-in-Err-clause-cause
returns-in-Err-clause-cause g c =
    let o : Outside = outside g.B.Base.database g.B.Base.faults g.B.Base.clock g.B.Base.reads g.H.Shelf.files g.H.Shelf.faults g.S.Source.left g.S.Source.given g.S.Source.faults g.S.Source.ended g.K.Sink.written g.K.Sink.faults g.K.Sink.stalls c.args.room.now in
    let a : After = record {
      database = g.B.Base.database c.carry_out.new.base;
      schema = g.B.Base.schema c.carry_out.new.base;
      base_faults = g.B.Base.faults c.carry_out.new.base;
      clock = g.B.Base.clock c.carry_out.new.base;
      reads = g.B.Base.reads c.carry_out.new.base;
      files = g.H.Shelf.files c.carry_out.new.shelf;
      shelf_faults = g.H.Shelf.faults c.carry_out.new.shelf;
      left_before = g.B.Base.left_since c.args.room.now.base;
      left_now = g.B.Base.left_since c.carry_out.new.base;
    } in
    cause_err o a c.in-Err.fault c.in-Err.ensures.cause

pub returns-in-Err-clause-counts : goal.returns-in-Err-clause-counts
returns-in-Err-clause-counts g c =
    let o : Outside = outside g.B.Base.database g.B.Base.faults g.B.Base.clock g.B.Base.reads g.H.Shelf.files g.H.Shelf.faults g.S.Source.left g.S.Source.given g.S.Source.faults g.S.Source.ended g.K.Sink.written g.K.Sink.faults g.K.Sink.stalls c.args.room.now in
    let a : After = record {
      database = g.B.Base.database c.carry_out.new.base;
      schema = g.B.Base.schema c.carry_out.new.base;
      base_faults = g.B.Base.faults c.carry_out.new.base;
      clock = g.B.Base.clock c.carry_out.new.base;
      reads = g.B.Base.reads c.carry_out.new.base;
      files = g.H.Shelf.files c.carry_out.new.shelf;
      shelf_faults = g.H.Shelf.faults c.carry_out.new.shelf;
      left_before = g.B.Base.left_since c.args.room.now.base;
      left_now = g.B.Base.left_since c.carry_out.new.base;
    } in
    counts_err o a c.in-Err.fault c.in-Err.ensures.cause

pub returns-in-Err-clause-spares : goal.returns-in-Err-clause-spares
returns-in-Err-clause-spares g c =
    let o : Outside = outside g.B.Base.database g.B.Base.faults g.B.Base.clock g.B.Base.reads g.H.Shelf.files g.H.Shelf.faults g.S.Source.left g.S.Source.given g.S.Source.faults g.S.Source.ended g.K.Sink.written g.K.Sink.faults g.K.Sink.stalls c.args.room.now in
    let a : After = record {
      database = g.B.Base.database c.carry_out.new.base;
      schema = g.B.Base.schema c.carry_out.new.base;
      base_faults = g.B.Base.faults c.carry_out.new.base;
      clock = g.B.Base.clock c.carry_out.new.base;
      reads = g.B.Base.reads c.carry_out.new.base;
      files = g.H.Shelf.files c.carry_out.new.shelf;
      shelf_faults = g.H.Shelf.faults c.carry_out.new.shelf;
      left_before = g.B.Base.left_since c.args.room.now.base;
      left_now = g.B.Base.left_since c.carry_out.new.base;
    } in
    spares_err c.args.self.now.user c.args.self.now.at c.args.self.now.got c.args.self.now.out o a c.in-Err.fault c.requires c.in-Err.ensures.cause c.in-Err.ensures.done

pub returns-in-Err-clause-reads : goal.returns-in-Err-clause-reads
returns-in-Err-clause-reads g c =
    let o : Outside = outside g.B.Base.database g.B.Base.faults g.B.Base.clock g.B.Base.reads g.H.Shelf.files g.H.Shelf.faults g.S.Source.left g.S.Source.given g.S.Source.faults g.S.Source.ended g.K.Sink.written g.K.Sink.faults g.K.Sink.stalls c.args.room.now in
    let a : After = record {
      database = g.B.Base.database c.carry_out.new.base;
      schema = g.B.Base.schema c.carry_out.new.base;
      base_faults = g.B.Base.faults c.carry_out.new.base;
      clock = g.B.Base.clock c.carry_out.new.base;
      reads = g.B.Base.reads c.carry_out.new.base;
      files = g.H.Shelf.files c.carry_out.new.shelf;
      shelf_faults = g.H.Shelf.faults c.carry_out.new.shelf;
      left_before = g.B.Base.left_since c.args.room.now.base;
      left_now = g.B.Base.left_since c.carry_out.new.base;
    } in
    reads_nothing _ 0 _ _ _ _ refl refl refl (no_source {T = Unit {0}} (Err c.in-Err.fault) (inside_err o a c.in-Err.fault c.in-Err.ensures.cause))

pub returns-in-Err-clause-within : goal.returns-in-Err-clause-within
returns-in-Err-clause-within g c =
    let o : Outside = outside g.B.Base.database g.B.Base.faults g.B.Base.clock g.B.Base.reads g.H.Shelf.files g.H.Shelf.faults g.S.Source.left g.S.Source.given g.S.Source.faults g.S.Source.ended g.K.Sink.written g.K.Sink.faults g.K.Sink.stalls c.args.room.now in
    let a : After = record {
      database = g.B.Base.database c.carry_out.new.base;
      schema = g.B.Base.schema c.carry_out.new.base;
      base_faults = g.B.Base.faults c.carry_out.new.base;
      clock = g.B.Base.clock c.carry_out.new.base;
      reads = g.B.Base.reads c.carry_out.new.base;
      files = g.H.Shelf.files c.carry_out.new.shelf;
      shelf_faults = g.H.Shelf.faults c.carry_out.new.shelf;
      left_before = g.B.Base.left_since c.args.room.now.base;
      left_now = g.B.Base.left_since c.carry_out.new.base;
    } in
    within_apart {T = Unit {0}} 0 (Err c.in-Err.fault) (inside_err o a c.in-Err.fault c.in-Err.ensures.cause)

pub returns-in-Err-clause-ends : goal.returns-in-Err-clause-ends
returns-in-Err-clause-ends g c =
    let o : Outside = outside g.B.Base.database g.B.Base.faults g.B.Base.clock g.B.Base.reads g.H.Shelf.files g.H.Shelf.faults g.S.Source.left g.S.Source.given g.S.Source.faults g.S.Source.ended g.K.Sink.written g.K.Sink.faults g.K.Sink.stalls c.args.room.now in
    let a : After = record {
      database = g.B.Base.database c.carry_out.new.base;
      schema = g.B.Base.schema c.carry_out.new.base;
      base_faults = g.B.Base.faults c.carry_out.new.base;
      clock = g.B.Base.clock c.carry_out.new.base;
      reads = g.B.Base.reads c.carry_out.new.base;
      files = g.H.Shelf.files c.carry_out.new.shelf;
      shelf_faults = g.H.Shelf.faults c.carry_out.new.shelf;
      left_before = g.B.Base.left_since c.args.room.now.base;
      left_now = g.B.Base.left_since c.carry_out.new.base;
    } in
    λ apart. record { same = refl; unread = refl; inside = inside_err o a c.in-Err.fault c.in-Err.ensures.cause }

pub returns-in-Err-clause-crash : goal.returns-in-Err-clause-crash
returns-in-Err-clause-crash g c =
    let o : Outside = outside g.B.Base.database g.B.Base.faults g.B.Base.clock g.B.Base.reads g.H.Shelf.files g.H.Shelf.faults g.S.Source.left g.S.Source.given g.S.Source.faults g.S.Source.ended g.K.Sink.written g.K.Sink.faults g.K.Sink.stalls c.args.room.now in
    let a : After = record {
      database = g.B.Base.database c.carry_out.new.base;
      schema = g.B.Base.schema c.carry_out.new.base;
      base_faults = g.B.Base.faults c.carry_out.new.base;
      clock = g.B.Base.clock c.carry_out.new.base;
      reads = g.B.Base.reads c.carry_out.new.base;
      files = g.H.Shelf.files c.carry_out.new.shelf;
      shelf_faults = g.H.Shelf.faults c.carry_out.new.shelf;
      left_before = g.B.Base.left_since c.args.room.now.base;
      left_now = g.B.Base.left_since c.carry_out.new.base;
    } in
    λ user served. crash_any user c.args.self.now.user c.args.self.now.at c.args.self.now.got c.args.self.now.out o a (Err c.in-Err.fault) served c.requires c.in-Err.ensures.done

pub returns-in-Err-clause-quiet : goal.returns-in-Err-clause-quiet
returns-in-Err-clause-quiet g c =
    let o : Outside = outside g.B.Base.database g.B.Base.faults g.B.Base.clock g.B.Base.reads g.H.Shelf.files g.H.Shelf.faults g.S.Source.left g.S.Source.given g.S.Source.faults g.S.Source.ended g.K.Sink.written g.K.Sink.faults g.K.Sink.stalls c.args.room.now in
    let a : After = record {
      database = g.B.Base.database c.carry_out.new.base;
      schema = g.B.Base.schema c.carry_out.new.base;
      base_faults = g.B.Base.faults c.carry_out.new.base;
      clock = g.B.Base.clock c.carry_out.new.base;
      reads = g.B.Base.reads c.carry_out.new.base;
      files = g.H.Shelf.files c.carry_out.new.shelf;
      shelf_faults = g.H.Shelf.faults c.carry_out.new.shelf;
      left_before = g.B.Base.left_since c.args.room.now.base;
      left_now = g.B.Base.left_since c.carry_out.new.base;
    } in
    quiet_any c.args.self.now.at c.args.self.now.got c.args.self.now.out o (outside_after o a) c.requires
