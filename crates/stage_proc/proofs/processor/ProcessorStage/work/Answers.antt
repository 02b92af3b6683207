use Rattle.std.proofs.Common.{◌≡◌, sym, subst}
use Rattle.net_core.proofs.Faulty.{within_apart}
use Rattle.net_core.specs.Known.{outside}
use Rattle.stage_proc.specs.Standing.{standing}
use Rattle.stage_proc.specs.Worked.{HasWorked}
use Rattle.stage_proc.proofs.AtWork.{is_at_work}
use Rattle.stage_proc.proofs.Outside as lemma
use Rattle.stage_proc.proofs.Results.{on_ok, on_ok_so}
use Rattle.stage_proc.proofs.processor.ProcessorStage.work.Goals as goal

pub returns-clause-works : goal.returns-clause-works
returns-clause-works g c =
    λ user served.
    on_ok_so (HasWorked user (standing c.args.self.now.at c.args.self.now.got c.args.self.now.left c.args.self.now.right) (standing c.work_on.new.self.at c.work_on.new.self.got c.work_on.new.self.left c.work_on.new.self.right) (g.B.Base.database c.args.room.now.base)) _ c.work_on.result
    (lemma.work_done (outside g.B.Base.database g.B.Base.faults g.B.Base.clock g.B.Base.reads g.H.Shelf.files g.H.Shelf.faults g.S.Source.left g.S.Source.given g.S.Source.faults g.S.Source.ended g.K.Sink.written g.K.Sink.faults g.K.Sink.stalls c.args.room.now) (g.B.Base.database c.work_on.new.base) (g.B.Base.faults c.work_on.new.base) (g.B.Base.clock c.work_on.new.base) (g.B.Base.reads c.work_on.new.base) user (standing c.args.self.now.at c.args.self.now.got c.args.self.now.left c.args.self.now.right) (standing c.work_on.new.self.at c.work_on.new.self.got c.work_on.new.self.left c.work_on.new.self.right) c.work_on.ensures.kept) (c.work_on.ensures.works user served)

pub returns-clause-failed : goal.returns-clause-failed
returns-clause-failed g c =
    λ user served. lemma.on_err _ c.work_on.result (lemma.work_failed (outside g.B.Base.database g.B.Base.faults g.B.Base.clock g.B.Base.reads g.H.Shelf.files g.H.Shelf.faults g.S.Source.left g.S.Source.given g.S.Source.faults g.S.Source.ended g.K.Sink.written g.K.Sink.faults g.K.Sink.stalls c.args.room.now) (g.B.Base.database c.work_on.new.base) (g.B.Base.faults c.work_on.new.base) (g.B.Base.clock c.work_on.new.base) (g.B.Base.reads c.work_on.new.base) user (standing c.args.self.now.at c.args.self.now.got c.args.self.now.left c.args.self.now.right).mode c.work_on.ensures.kept)

pub returns-clause-unlawful : goal.returns-clause-unlawful
returns-clause-unlawful g c =
    λ user served wrong. lemma.may_not user (standing c.args.self.now.at c.args.self.now.got c.args.self.now.left c.args.self.now.right) (outside g.B.Base.database g.B.Base.faults g.B.Base.clock g.B.Base.reads g.H.Shelf.files g.H.Shelf.faults g.S.Source.left g.S.Source.given g.S.Source.faults g.S.Source.ended g.K.Sink.written g.K.Sink.faults g.K.Sink.stalls c.args.room.now) (c.work_on.ensures.unlawful user served wrong)

pub returns-clause-database : goal.returns-clause-database
returns-clause-database g c =
    on_ok _ c.work_on.result (lemma.database_kept (outside g.B.Base.database g.B.Base.faults g.B.Base.clock g.B.Base.reads g.H.Shelf.files g.H.Shelf.faults g.S.Source.left g.S.Source.given g.S.Source.faults g.S.Source.ended g.K.Sink.written g.K.Sink.faults g.K.Sink.stalls c.args.room.now) (g.B.Base.database c.work_on.new.base) (g.B.Base.faults c.work_on.new.base) (g.B.Base.clock c.work_on.new.base) (g.B.Base.reads c.work_on.new.base) c.work_on.ensures.kept)

pub returns-clause-later : goal.returns-clause-later
returns-clause-later g c =
    lemma.later (outside g.B.Base.database g.B.Base.faults g.B.Base.clock g.B.Base.reads g.H.Shelf.files g.H.Shelf.faults g.S.Source.left g.S.Source.given g.S.Source.faults g.S.Source.ended g.K.Sink.written g.K.Sink.faults g.K.Sink.stalls c.args.room.now) (g.B.Base.database c.work_on.new.base) (g.B.Base.faults c.work_on.new.base) (g.B.Base.clock c.work_on.new.base) (g.B.Base.reads c.work_on.new.base) c.work_on.ensures.cause.later

pub returns-clause-cause : goal.returns-clause-cause
returns-clause-cause g c =
    lemma.caused (outside g.B.Base.database g.B.Base.faults g.B.Base.clock g.B.Base.reads g.H.Shelf.files g.H.Shelf.faults g.S.Source.left g.S.Source.given g.S.Source.faults g.S.Source.ended g.K.Sink.written g.K.Sink.faults g.K.Sink.stalls c.args.room.now) (g.B.Base.database c.work_on.new.base) (g.B.Base.faults c.work_on.new.base) (g.B.Base.clock c.work_on.new.base) (g.B.Base.reads c.work_on.new.base) c.work_on.result c.work_on.ensures.cause

pub returns-clause-counts : goal.returns-clause-counts
returns-clause-counts g c =
    lemma.counts_only (outside g.B.Base.database g.B.Base.faults g.B.Base.clock g.B.Base.reads g.H.Shelf.files g.H.Shelf.faults g.S.Source.left g.S.Source.given g.S.Source.faults g.S.Source.ended g.K.Sink.written g.K.Sink.faults g.K.Sink.stalls c.args.room.now) (g.B.Base.database c.work_on.new.base) (g.B.Base.faults c.work_on.new.base) (g.B.Base.clock c.work_on.new.base) (g.B.Base.reads c.work_on.new.base) c.work_on.result c.work_on.ensures.cause

pub returns-clause-spares : goal.returns-clause-spares
returns-clause-spares g c =
    lemma.spares (outside g.B.Base.database g.B.Base.faults g.B.Base.clock g.B.Base.reads g.H.Shelf.files g.H.Shelf.faults g.S.Source.left g.S.Source.given g.S.Source.faults g.S.Source.ended g.K.Sink.written g.K.Sink.faults g.K.Sink.stalls c.args.room.now) (g.B.Base.database c.work_on.new.base) (g.B.Base.faults c.work_on.new.base) (g.B.Base.clock c.work_on.new.base) (g.B.Base.reads c.work_on.new.base) c.work_on.result c.work_on.ensures.kept c.work_on.ensures.cause

pub returns-clause-reads : goal.returns-clause-reads
returns-clause-reads g c =
    lemma.reads (outside g.B.Base.database g.B.Base.faults g.B.Base.clock g.B.Base.reads g.H.Shelf.files g.H.Shelf.faults g.S.Source.left g.S.Source.given g.S.Source.faults g.S.Source.ended g.K.Sink.written g.K.Sink.faults g.K.Sink.stalls c.args.room.now) (g.B.Base.database c.work_on.new.base) (g.B.Base.faults c.work_on.new.base) (g.B.Base.clock c.work_on.new.base) (g.B.Base.reads c.work_on.new.base) (standing c.args.self.now.at c.args.self.now.got c.args.self.now.left c.args.self.now.right).mode c.work_on.result c.work_on.ensures.cause

pub returns-clause-within : goal.returns-clause-within
returns-clause-within g c =
    within_apart 0 c.work_on.result (lemma.inside (outside g.B.Base.database g.B.Base.faults g.B.Base.clock g.B.Base.reads g.H.Shelf.files g.H.Shelf.faults g.S.Source.left g.S.Source.given g.S.Source.faults g.S.Source.ended g.K.Sink.written g.K.Sink.faults g.K.Sink.stalls c.args.room.now) (g.B.Base.database c.work_on.new.base) (g.B.Base.faults c.work_on.new.base) (g.B.Base.clock c.work_on.new.base) (g.B.Base.reads c.work_on.new.base) c.work_on.result c.work_on.ensures.cause)

pub returns-clause-ends : goal.returns-clause-ends
returns-clause-ends g c =
    λ apart. lemma.leaves_ends (outside g.B.Base.database g.B.Base.faults g.B.Base.clock g.B.Base.reads g.H.Shelf.files g.H.Shelf.faults g.S.Source.left g.S.Source.given g.S.Source.faults g.S.Source.ended g.K.Sink.written g.K.Sink.faults g.K.Sink.stalls c.args.room.now) (g.B.Base.database c.work_on.new.base) (g.B.Base.faults c.work_on.new.base) (g.B.Base.clock c.work_on.new.base) (g.B.Base.reads c.work_on.new.base) c.work_on.result c.work_on.ensures.cause

pub returns-clause-handed : goal.returns-clause-handed
returns-clause-handed g c =
    on_ok_so _ _ c.work_on.result (λ forgotten works turn away. forgotten) c.work_on.ensures.handed

pub returns-clause-crash : goal.returns-clause-crash
returns-clause-crash g c =
    λ user served. lemma.crash (outside g.B.Base.database g.B.Base.faults g.B.Base.clock g.B.Base.reads g.H.Shelf.files g.H.Shelf.faults g.S.Source.left g.S.Source.given g.S.Source.faults g.S.Source.ended g.K.Sink.written g.K.Sink.faults g.K.Sink.stalls c.args.room.now) (g.B.Base.database c.work_on.new.base) (g.B.Base.faults c.work_on.new.base) (g.B.Base.clock c.work_on.new.base) (g.B.Base.reads c.work_on.new.base) user (standing c.args.self.now.at c.args.self.now.got c.args.self.now.left c.args.self.now.right).mode (g.B.Base.left_since c.args.room.now.base) (g.B.Base.left_since c.work_on.new.base) (g.B.Base.asks c.args.room.now.base c.work_on.new.base (c.work_on.ensures.asked c.args.room.now.base (g.B.Base.starts c.args.room.now.base))).nothing_else

pub returns-clause-durable : goal.returns-clause-durable
returns-clause-durable g c =
    on_ok _ c.work_on.result (lemma.durable (outside g.B.Base.database g.B.Base.faults g.B.Base.clock g.B.Base.reads g.H.Shelf.files g.H.Shelf.faults g.S.Source.left g.S.Source.given g.S.Source.faults g.S.Source.ended g.K.Sink.written g.K.Sink.faults g.K.Sink.stalls c.args.room.now) (g.B.Base.database c.work_on.new.base) (g.B.Base.faults c.work_on.new.base) (g.B.Base.clock c.work_on.new.base) (g.B.Base.reads c.work_on.new.base) (g.B.Base.left_since c.args.room.now.base) (g.B.Base.left_since c.work_on.new.base) c.work_on.ensures.kept (g.B.Base.asks c.args.room.now.base c.work_on.new.base (c.work_on.ensures.asked c.args.room.now.base (g.B.Base.starts c.args.room.now.base))).nothing_else (g.B.Base.counts_now c.work_on.new.base))

pub returns-clause-quiet : goal.returns-clause-quiet
returns-clause-quiet g c =
    lemma.quiet c.args.self.now.at c.args.self.now.got c.args.self.now.left c.args.self.now.right (outside g.B.Base.database g.B.Base.faults g.B.Base.clock g.B.Base.reads g.H.Shelf.files g.H.Shelf.faults g.S.Source.left g.S.Source.given g.S.Source.faults g.S.Source.ended g.K.Sink.written g.K.Sink.faults g.K.Sink.stalls c.args.room.now) (lemma.asked_of (outside g.B.Base.database g.B.Base.faults g.B.Base.clock g.B.Base.reads g.H.Shelf.files g.H.Shelf.faults g.S.Source.left g.S.Source.given g.S.Source.faults g.S.Source.ended g.K.Sink.written g.K.Sink.faults g.K.Sink.stalls c.args.room.now) (g.B.Base.database c.work_on.new.base) (g.B.Base.faults c.work_on.new.base) (g.B.Base.clock c.work_on.new.base) (g.B.Base.reads c.work_on.new.base)) (is_at_work c.args.self.now.at c.args.self.now.got c.args.self.now.left c.args.self.now.right c.requires).working

pub returns-clause-serves : goal.returns-clause-serves
returns-clause-serves g c =
    λ user served. subst (λ name. user.asker.user ≡ name) (sym c.work_on.ensures.same) served
