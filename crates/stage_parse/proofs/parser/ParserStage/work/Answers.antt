use Rattle.std.proofs.Common.{refl}
use Rattle.net_core.proofs.Faulty.{no_source, reads_nothing}
use Rattle.net_core.specs.Known.{Outside, outside}
use Rattle.quel_network.specs.Quel.{quel}
use Rattle.stage_parse.proofs.AtWork.{cause_any, changed, counts_any, crash_any, database_any, durable_any, failed_any, inside_any, lawful_any, on_ok_to, spares_any, within_any, works_any}
use Rattle.stage_parse.specs.Parsing.{stands}
use Rattle.stage_parse.specs.Standing.{mode_at}
use Rattle.stage_parse.proofs.Places.{hands_over, is_parsing, quiet_any}
use Rattle.stage_parse.proofs.parser.ParserStage.work.Goals as goal

pub returns-clause-works : goal.returns-clause-works
returns-clause-works g c =
    let before : Outside = outside g.B.Base.database g.B.Base.faults g.B.Base.clock g.B.Base.reads g.H.Shelf.files g.H.Shelf.faults g.S.Source.left g.S.Source.given g.S.Source.faults g.S.Source.ended g.K.Sink.written g.K.Sink.faults g.K.Sink.stalls c.args.room.now in
    λ who served. works_any (quel who) c.args.self.now.ranges c.args.self.now.at c.args.self.now.walk c.args.self.now.got_left c.args.self.now.got_right c.args.self.now.out_left c.args.self.now.out_right (stands c.parse_on.new.self) before (g.B.Base.database c.parse_on.new.base) (g.B.Base.faults c.parse_on.new.base) (g.B.Base.clock c.parse_on.new.base) (g.B.Base.reads c.parse_on.new.base) c.parse_on.result (is_parsing c.args.self.now.ranges c.args.self.now.at c.args.self.now.walk c.args.self.now.got_left c.args.self.now.got_right c.args.self.now.out_left c.args.self.now.out_right c.requires) c.parse_on.ensures.kept (c.parse_on.ensures.parsed who served)

pub returns-clause-failed : goal.returns-clause-failed
returns-clause-failed g c =
    let before : Outside = outside g.B.Base.database g.B.Base.faults g.B.Base.clock g.B.Base.reads g.H.Shelf.files g.H.Shelf.faults g.S.Source.left g.S.Source.given g.S.Source.faults g.S.Source.ended g.K.Sink.written g.K.Sink.faults g.K.Sink.stalls c.args.room.now in
    λ who served. failed_any (quel who) (mode_at c.args.self.now.ranges c.args.self.now.at c.args.self.now.walk) before (g.B.Base.database c.parse_on.new.base) (g.B.Base.faults c.parse_on.new.base) (g.B.Base.clock c.parse_on.new.base) (g.B.Base.reads c.parse_on.new.base) c.parse_on.result c.parse_on.ensures.kept

pub returns-clause-unlawful : goal.returns-clause-unlawful
returns-clause-unlawful g c =
    λ who served e. lawful_any (g.B.Base.database c.args.room.now.base) (g.B.Base.faults c.args.room.now.base) (g.B.Base.faults c.parse_on.new.base) c.parse_on.result c.parse_on.ensures.cause e

pub returns-clause-database : goal.returns-clause-database
returns-clause-database g c =
    let before : Outside = outside g.B.Base.database g.B.Base.faults g.B.Base.clock g.B.Base.reads g.H.Shelf.files g.H.Shelf.faults g.S.Source.left g.S.Source.given g.S.Source.faults g.S.Source.ended g.K.Sink.written g.K.Sink.faults g.K.Sink.stalls c.args.room.now in
    database_any before (g.B.Base.database c.parse_on.new.base) (g.B.Base.faults c.parse_on.new.base) (g.B.Base.clock c.parse_on.new.base) (g.B.Base.reads c.parse_on.new.base) c.parse_on.result c.parse_on.ensures.kept

pub returns-clause-cause : goal.returns-clause-cause
returns-clause-cause g c =
    let before : Outside = outside g.B.Base.database g.B.Base.faults g.B.Base.clock g.B.Base.reads g.H.Shelf.files g.H.Shelf.faults g.S.Source.left g.S.Source.given g.S.Source.faults g.S.Source.ended g.K.Sink.written g.K.Sink.faults g.K.Sink.stalls c.args.room.now in
    cause_any 0 before (g.B.Base.database c.parse_on.new.base) (g.B.Base.faults c.parse_on.new.base) (g.B.Base.clock c.parse_on.new.base) (g.B.Base.reads c.parse_on.new.base) c.parse_on.result c.parse_on.ensures.cause

pub returns-clause-counts : goal.returns-clause-counts
returns-clause-counts g c =
    let before : Outside = outside g.B.Base.database g.B.Base.faults g.B.Base.clock g.B.Base.reads g.H.Shelf.files g.H.Shelf.faults g.S.Source.left g.S.Source.given g.S.Source.faults g.S.Source.ended g.K.Sink.written g.K.Sink.faults g.K.Sink.stalls c.args.room.now in
    counts_any before (g.B.Base.database c.parse_on.new.base) (g.B.Base.faults c.parse_on.new.base) (g.B.Base.clock c.parse_on.new.base) (g.B.Base.reads c.parse_on.new.base) c.parse_on.result c.parse_on.ensures.counted c.parse_on.ensures.cause

pub returns-clause-spares : goal.returns-clause-spares
returns-clause-spares g c =
    let before : Outside = outside g.B.Base.database g.B.Base.faults g.B.Base.clock g.B.Base.reads g.H.Shelf.files g.H.Shelf.faults g.S.Source.left g.S.Source.given g.S.Source.faults g.S.Source.ended g.K.Sink.written g.K.Sink.faults g.K.Sink.stalls c.args.room.now in
    spares_any before (g.B.Base.database c.parse_on.new.base) (g.B.Base.faults c.parse_on.new.base) (g.B.Base.clock c.parse_on.new.base) (g.B.Base.reads c.parse_on.new.base) c.parse_on.result c.parse_on.ensures.kept c.parse_on.ensures.cause

pub returns-clause-reads : goal.returns-clause-reads
returns-clause-reads g c =
    reads_nothing _ 0 _ _ _ _ refl refl refl (no_source c.parse_on.result (inside_any (g.B.Base.database c.args.room.now.base) (g.B.Base.faults c.args.room.now.base) (g.B.Base.faults c.parse_on.new.base) c.parse_on.result c.parse_on.ensures.cause))

pub returns-clause-within : goal.returns-clause-within
returns-clause-within g c =
    within_any (g.B.Base.database c.args.room.now.base) (g.B.Base.faults c.args.room.now.base) (g.B.Base.faults c.parse_on.new.base) c.parse_on.result c.parse_on.ensures.cause

pub returns-clause-ends : goal.returns-clause-ends
returns-clause-ends g c =
    λ apart. record { same = refl; unread = refl; inside = inside_any (g.B.Base.database c.args.room.now.base) (g.B.Base.faults c.args.room.now.base) (g.B.Base.faults c.parse_on.new.base) c.parse_on.result c.parse_on.ensures.cause }

pub returns-clause-handed : goal.returns-clause-handed
returns-clause-handed g c =
    on_ok_to c.parse_on.result (hands_over (stands c.args.self.now) c.parse_on.new.self.ranges c.parse_on.new.self.at c.parse_on.new.self.walk c.parse_on.new.self.got_left c.parse_on.new.self.got_right c.parse_on.new.self.out_left c.parse_on.new.self.out_right (g.B.Base.schema c.parse_on.new.base) (g.B.Base.database c.parse_on.new.base)) c.parse_on.ensures.handed

pub returns-clause-crash : goal.returns-clause-crash
returns-clause-crash g c =
    let before : Outside = outside g.B.Base.database g.B.Base.faults g.B.Base.clock g.B.Base.reads g.H.Shelf.files g.H.Shelf.faults g.S.Source.left g.S.Source.given g.S.Source.faults g.S.Source.ended g.K.Sink.written g.K.Sink.faults g.K.Sink.stalls c.args.room.now in
    let asked = g.B.Base.asks c.args.room.now.base c.parse_on.new.base (c.parse_on.ensures.asked c.args.room.now.base (g.B.Base.starts c.args.room.now.base)) in
    λ who served. crash_any (quel who) (mode_at c.args.self.now.ranges c.args.self.now.at c.args.self.now.walk) before (g.B.Base.database c.parse_on.new.base) (g.B.Base.faults c.parse_on.new.base) (g.B.Base.clock c.parse_on.new.base) (g.B.Base.reads c.parse_on.new.base) (g.B.Base.left_since c.args.room.now.base) (g.B.Base.left_since c.parse_on.new.base) asked.nothing_else

pub returns-clause-durable : goal.returns-clause-durable
returns-clause-durable g c =
    let before : Outside = outside g.B.Base.database g.B.Base.faults g.B.Base.clock g.B.Base.reads g.H.Shelf.files g.H.Shelf.faults g.S.Source.left g.S.Source.given g.S.Source.faults g.S.Source.ended g.K.Sink.written g.K.Sink.faults g.K.Sink.stalls c.args.room.now in
    let asked = g.B.Base.asks c.args.room.now.base c.parse_on.new.base (c.parse_on.ensures.asked c.args.room.now.base (g.B.Base.starts c.args.room.now.base)) in
    durable_any before (g.B.Base.database c.parse_on.new.base) (g.B.Base.faults c.parse_on.new.base) (g.B.Base.clock c.parse_on.new.base) (g.B.Base.reads c.parse_on.new.base) (g.B.Base.left_since c.args.room.now.base) (g.B.Base.left_since c.parse_on.new.base) c.parse_on.result c.parse_on.ensures.kept (g.B.Base.counts_now c.parse_on.new.base) asked.nothing_else

pub returns-clause-quiet : goal.returns-clause-quiet
returns-clause-quiet g c =
    let before : Outside = outside g.B.Base.database g.B.Base.faults g.B.Base.clock g.B.Base.reads g.H.Shelf.files g.H.Shelf.faults g.S.Source.left g.S.Source.given g.S.Source.faults g.S.Source.ended g.K.Sink.written g.K.Sink.faults g.K.Sink.stalls c.args.room.now in
    quiet_any c.args.self.now.ranges c.args.self.now.at c.args.self.now.walk c.args.self.now.got_left c.args.self.now.got_right c.args.self.now.out_left c.args.self.now.out_right before (changed before (g.B.Base.database c.parse_on.new.base) (g.B.Base.faults c.parse_on.new.base) (g.B.Base.clock c.parse_on.new.base) (g.B.Base.reads c.parse_on.new.base)) (is_parsing c.args.self.now.ranges c.args.self.now.at c.args.self.now.walk c.args.self.now.got_left c.args.self.now.got_right c.args.self.now.out_left c.args.self.now.out_right c.requires)
