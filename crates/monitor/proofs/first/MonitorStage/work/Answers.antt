use Rattle.std.proofs.Common.{◌≡◌, ◌∙◌, ap, refl, Ok}
use Rattle.base_trait.proofs.Crashes.{asked_leaves, nothing_else}
use Rattle.net_core.proofs.Faulty.{reads_nothing}
use Rattle.net_core.specs.Known.{Outside, outside}
use Rattle.monitor.specs.Doing.{SparesOut}
use Rattle.monitor.specs.Faults.{IsLater, IsOfMonitor}
use Rattle.monitor.specs.Standing.{at_printed, at_said}
use Rattle.monitor.proofs.Around.{Around, all_later, caused, counted, database_kept, durable_kept, never_unlawful, only_first, reads_on, spared}
use Rattle.monitor.proofs.AtWork.{SameButOutput, due_printed, hands_reading, keeps_printing, not_ended, not_waiting, printed_partly, read_partly, work_printed, work_read}
use Rattle.monitor.proofs.Counting.{print_unshelved, prints_here, prints_later, shelf_as, shelf_err, shelf_same, shelf_unused, sink_as, sink_err}
use Rattle.monitor.proofs.Done.{spares_later}
use Rattle.monitor.proofs.Ended.{asked_as, asked_err, later_apart}
use Rattle.monitor.proofs.Erring.{handed_on, if_err, not_ok, on_err_any}
use Rattle.monitor.proofs.Lined.{source_as, source_err, source_same, source_unread}
use Rattle.monitor.proofs.first.MonitorStage.work.Goals as goal

-- ---- it has printed

pub returns-in_ok-print-in-Printing : goal.returns-in_ok-print-in-Printing
returns-in_ok-print-in-Printing g c =
    let room = c.args.room.now in
    let s = c.args.self.now in
    let before : Outside = outside g.B.Base.database g.B.Base.faults g.B.Base.clock g.B.Base.reads g.H.Shelf.files g.H.Shelf.faults g.S.Source.left g.S.Source.given g.S.Source.faults g.S.Source.ended g.K.Sink.written g.K.Sink.faults g.K.Sink.stalls room in
    let after : Outside = outside g.B.Base.database g.B.Base.faults g.B.Base.clock g.B.Base.reads g.H.Shelf.files g.H.Shelf.faults g.S.Source.left g.S.Source.given g.S.Source.faults g.S.Source.ended g.K.Sink.written g.K.Sink.faults g.K.Sink.stalls (record { base = room.base; shelf = room.shelf; source = room.source; sink = c.print.new.sink }) in
    let now : c.printed.new.self ≡ at_said c.in-Printing.begun c.in-Printing.said = c.printed.ensures ∙ ap at_printed c.in-Printing.is in
    let same : SameButOutput before after = record { database = refl; files = refl; script = refl } in
    let a : Around {T = Unit {0}} s.heard s.heard before after (Ok tt) = record {
      database = refl;
      base = refl;
      source = source_same s.heard (g.S.Source.left room.source) (g.S.Source.given room.source) (g.S.Source.faults room.source) tt;
      shelf = shelf_same (g.H.Shelf.faults room.shelf) tt;
      sink = sink_as _ tt c.in_ok-print-in-Printing.ensures.counts;
      spares = tt;
      inside = tt;
    } in
    record {
      works = λ user due. work_printed user s.reader s.at c.printed.new.self c.in-Printing.begun c.in-Printing.said s.got s.out before after c.in-Printing.is now c.requires due same c.in_ok-print-in-Printing.ensures.whole;
      failed = λ user due. tt;
      unlawful = λ user due e. never_unlawful s.heard s.heard before after (Ok tt) a e;
      database = database_kept s.heard s.heard before after (Ok tt) a;
      later = all_later s.heard s.heard before after (Ok tt) a;
      cause = tt;
      counts = counted s.heard s.heard before after (Ok tt) a;
      spares = tt;
      reads = reads_nothing _ s.heard before after _ _ refl refl refl (λ e. cc e);
      within = a.source.within;
      ends = only_first 1 s.heard s.heard before after (Ok tt) refl;
      handed = λ works had has. keeps_printing _ s.reader s.reader s.at c.printed.new.self c.in-Printing.begun c.in-Printing.said c.in-Printing.is now had has;
      crash = λ user due net knows. nothing_else _ _ _;
      durable = durable_kept before after (g.B.Base.left_since room.base) (g.B.Base.left_since room.base) refl (λ db stands. stands);
      quiet = λ k without. (refl, refl);
      serves = λ user due. due_printed s.at c.printed.new.self c.in-Printing.begun c.in-Printing.said c.in-Printing.is now;
      place = refl;
    }

pub returns-in_err-print-in-Printing : goal.returns-in_err-print-in-Printing
returns-in_err-print-in-Printing g c =
    let room = c.args.room.now in
    let s = c.args.self.now in
    let before : Outside = outside g.B.Base.database g.B.Base.faults g.B.Base.clock g.B.Base.reads g.H.Shelf.files g.H.Shelf.faults g.S.Source.left g.S.Source.given g.S.Source.faults g.S.Source.ended g.K.Sink.written g.K.Sink.faults g.K.Sink.stalls room in
    let after : Outside = outside g.B.Base.database g.B.Base.faults g.B.Base.clock g.B.Base.reads g.H.Shelf.files g.H.Shelf.faults g.S.Source.left g.S.Source.given g.S.Source.faults g.S.Source.ended g.K.Sink.written g.K.Sink.faults g.K.Sink.stalls (record { base = room.base; shelf = room.shelf; source = room.source; sink = c.print.new.sink }) in
    let f = c.in_err-print-in-Printing.field-0.0 in
    let r = c.from_residual.result in
    let is = handed_on r f c.from_residual.ensures.1 in
    let of = c.in_err-print-in-Printing.ensures.inside in
    let same : SameButOutput before after = record { database = refl; files = refl; script = refl } in
    let a : Around s.heard s.heard before after r = record {
      database = refl;
      base = refl;
      source = source_unread s.heard (g.S.Source.left room.source) (g.S.Source.given room.source) (g.S.Source.faults room.source) r (if_err r f (λ x. IsLater x) is (prints_later f of));
      shelf = shelf_unused (g.H.Shelf.faults room.shelf) f r is (print_unshelved (g.H.Shelf.faults room.shelf) (g.H.Shelf.faults room.shelf) f of refl);
      sink = sink_err f r is c.in_err-print-in-Printing.ensures.counts;
      spares = if_err r f (λ x. SparesOut before.files after.files before.output after.output x) is (spares_later f before.files after.files before.output after.output (prints_later f of));
      inside = if_err r f (λ x. IsOfMonitor x) is (prints_here f of);
    } in
    record {
      works = λ user due. not_ok r f _ is;
      failed = λ user due. on_err_any r (printed_partly user s.reader s.at c.in-Printing.begun c.in-Printing.said before after c.in-Printing.is same c.in_err-print-in-Printing.ensures.front);
      unlawful = λ user due e. never_unlawful s.heard s.heard before after r a e;
      database = not_ok r f _ is;
      later = all_later s.heard s.heard before after r a;
      cause = caused s.heard s.heard before after r a;
      counts = counted s.heard s.heard before after r a;
      spares = spared s.heard s.heard before after r a;
      reads = reads_nothing _ s.heard before after _ _ refl refl refl (later_apart r (if_err r f (λ x. IsLater x) is (prints_later f of)));
      within = a.source.within;
      ends = only_first 1 s.heard s.heard before after r refl;
      handed = not_ok r f _ is;
      crash = λ user due net knows. nothing_else _ _ _;
      durable = not_ok r f _ is;
      quiet = λ k without. (refl, refl);
      serves = λ user due. due;
      place = refl;
    }

-- ---- it has read

pub returns-in_ok-read-in-Reading : goal.returns-in_ok-read-in-Reading
returns-in_ok-read-in-Reading g c =
    let room = c.args.room.now in
    let s = c.args.self.now in
    let before : Outside = outside g.B.Base.database g.B.Base.faults g.B.Base.clock g.B.Base.reads g.H.Shelf.files g.H.Shelf.faults g.S.Source.left g.S.Source.given g.S.Source.faults g.S.Source.ended g.K.Sink.written g.K.Sink.faults g.K.Sink.stalls room in
    let after : Outside = outside g.B.Base.database g.B.Base.faults g.B.Base.clock g.B.Base.reads g.H.Shelf.files g.H.Shelf.faults g.S.Source.left g.S.Source.given g.S.Source.faults g.S.Source.ended g.K.Sink.written g.K.Sink.faults g.K.Sink.stalls (record { base = c.give_turn.new.base; shelf = c.read.new.shelf; source = c.read.new.source; sink = c.read.new.sink }) in
    let done = c.in_ok-read-in-Reading.ensures in
    let turn = c.give_turn.ensures in
    let a : Around {T = Unit {0}} s.heard c.read.new.heard before after (Ok tt) = record {
      database = turn.kept;
      base = turn.faults;
      source = source_as _ tt done.source;
      shelf = shelf_as _ tt done.shelf;
      sink = sink_as _ tt done.sink;
      spares = tt;
      inside = tt;
    } in
    record {
      works = λ user due. work_read user s.reader c.read.new.reader s.at c.read.new.at s.got s.out c.read.new.out before after c.in-Reading.is c.requires turn.kept done.did;
      failed = λ user due. tt;
      unlawful = λ user due e. never_unlawful s.heard c.read.new.heard before after (Ok tt) a e;
      database = database_kept s.heard c.read.new.heard before after (Ok tt) a;
      later = all_later s.heard c.read.new.heard before after (Ok tt) a;
      cause = tt;
      counts = counted s.heard c.read.new.heard before after (Ok tt) a;
      spares = tt;
      reads = reads_on s.reader s.at s.heard c.read.new.heard before after (Ok tt) c.in-Reading.is a (asked_as _ tt done.ends);
      within = a.source.within;
      ends = only_first 1 s.heard c.read.new.heard before after (Ok tt) refl;
      handed = λ works had has. hands_reading c.read.new.reader c.read.new.at done.did.event (g.B.Base.schema c.give_turn.new.base) (g.B.Base.database c.give_turn.new.base) done.did.stands turn.forgotten has;
      crash = λ user due net knows. asked_leaves _ _ _ _ _ turn.crash;
      durable = durable_kept before after (g.B.Base.left_since room.base) (g.B.Base.left_since c.give_turn.new.base) turn.kept turn.durable;
      quiet = λ k without. turn.still;
      serves = λ user due. done.due;
      place = refl;
    }

pub returns-in_err-read-in-Reading : goal.returns-in_err-read-in-Reading
returns-in_err-read-in-Reading g c =
    let room = c.args.room.now in
    let s = c.args.self.now in
    let before : Outside = outside g.B.Base.database g.B.Base.faults g.B.Base.clock g.B.Base.reads g.H.Shelf.files g.H.Shelf.faults g.S.Source.left g.S.Source.given g.S.Source.faults g.S.Source.ended g.K.Sink.written g.K.Sink.faults g.K.Sink.stalls room in
    let after : Outside = outside g.B.Base.database g.B.Base.faults g.B.Base.clock g.B.Base.reads g.H.Shelf.files g.H.Shelf.faults g.S.Source.left g.S.Source.given g.S.Source.faults g.S.Source.ended g.K.Sink.written g.K.Sink.faults g.K.Sink.stalls (record { base = room.base; shelf = c.read.new.shelf; source = c.read.new.source; sink = c.read.new.sink }) in
    let f = c.in_err-read-in-Reading.field-0.0 in
    let r = c.from_residual-in_err-read-in-Reading.result in
    let is = handed_on r f c.from_residual-in_err-read-in-Reading.ensures.1 in
    let done = c.in_err-read-in-Reading.ensures in
    let a : Around s.heard c.read.new.heard before after r = record {
      database = refl;
      base = refl;
      source = source_err f r is done.source;
      shelf = shelf_err f r is done.shelf;
      sink = sink_err f r is done.sink;
      spares = if_err r f (λ x. SparesOut before.files after.files before.output after.output x) is done.spares;
      inside = if_err r f (λ x. IsOfMonitor x) is done.inside;
    } in
    record {
      works = λ user due. not_ok r f _ is;
      failed = λ user due. on_err_any r (read_partly user s.reader s.at before after c.in-Reading.is refl done.part);
      unlawful = λ user due e. never_unlawful s.heard c.read.new.heard before after r a e;
      database = not_ok r f _ is;
      later = all_later s.heard c.read.new.heard before after r a;
      cause = caused s.heard c.read.new.heard before after r a;
      counts = counted s.heard c.read.new.heard before after r a;
      spares = spared s.heard c.read.new.heard before after r a;
      reads = reads_on s.reader s.at s.heard c.read.new.heard before after r c.in-Reading.is a (asked_err f r is done.ends);
      within = a.source.within;
      ends = only_first 1 s.heard c.read.new.heard before after r refl;
      handed = not_ok r f _ is;
      crash = λ user due net knows. nothing_else _ _ _;
      durable = not_ok r f _ is;
      quiet = λ k without. (refl, refl);
      serves = λ user due. done.due;
      place = refl;
    }

-- ---- it was not to work

pub unreachable-requires : goal.unreachable-requires
unreachable-requires g c = not_waiting c.args.self.now.reader c.args.self.now.at _ c.args.self.now.got c.args.self.now.out c.in-Waiting.is c.requires

pub unreachable-requires-in-Ended : goal.unreachable-requires-in-Ended
unreachable-requires-in-Ended g c = not_ended c.args.self.now.reader c.args.self.now.at c.args.self.now.got c.args.self.now.out c.in-Ended.is c.requires
