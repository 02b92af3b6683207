use Rattle.std.proofs.Common.{◌≡◌, ◌∙◌, subst, rules, ℕ, List, Some}
use Rattle.std.proofs.lemmas.Result.{IfErr-weaker}
use Rattle.std.specs.Io.KnownBytes.{Appends}
use Rattle.fault_io.specs.Files.{Files}
use Rattle.fault_io.specs.Known.{GrewBy, IsFront}
use Rattle.monitor.specs.Doing.{SparesOut}
use Rattle.monitor.specs.Faults.{IsLater, IsOfMonitor, IsOfStoring}
use Rattle.monitor.specs.Settling.{MayBeStored}
use Rattle.monitor.proofs.Counting.{prints_here, prints_later, reading_unsunk, reads_here, shelf_behind, shelf_err, shelf_printing, sink_err, sink_storing, sink_unused, stores_here, stores_later}
use Rattle.monitor.proofs.Done.{has_done, part_stored, part_unwritten, part_written, spares_all, spares_later}
use Rattle.monitor.proofs.Ended.{asked_behind, asked_err}
use Rattle.monitor.proofs.Erring.{handed_on, if_err, on_err_all, on_err_any, on_ok_all}
use Rattle.monitor.proofs.Lined.{source_behind, source_err}
use Rattle.monitor.proofs.working.read.Goals as goal

-- ---- reading failed

pub returns-in_err-event-clause-part : goal.returns-in_err-event-clause-part
returns-in_err-event-clause-part g c = on_err_any c.from_residual.result
    (part_unwritten c.args.reader.now (g.S.Source.left c.args.source.now) (g.H.Shelf.files c.args.shelf.now) (g.H.Shelf.files c.read_on.new.shelf) (g.K.Sink.written c.args.sink.now) c.in_err-event.ensures.same)

pub returns-in_err-event-clause-source : goal.returns-in_err-event-clause-source
returns-in_err-event-clause-source g c =
    let f = c.in_err-event.field-0.0 in
    let r = c.from_residual.result in
    source_err f r (handed_on r f c.from_residual.ensures.1) c.in_err-event.ensures.source

pub returns-in_err-event-clause-shelf : goal.returns-in_err-event-clause-shelf
returns-in_err-event-clause-shelf g c =
    let f = c.in_err-event.field-0.0 in
    let r = c.from_residual.result in
    shelf_err f r (handed_on r f c.from_residual.ensures.1) c.in_err-event.ensures.shelf

pub returns-in_err-event-clause-sink : goal.returns-in_err-event-clause-sink
returns-in_err-event-clause-sink g c =
    let f = c.in_err-event.field-0.0 in
    let r = c.from_residual.result in
    let n = g.K.Sink.faults c.args.sink.now in
    let m = g.K.Sink.stalls c.args.sink.now in
    sink_unused n m f r (handed_on r f c.from_residual.ensures.1) (reading_unsunk n m f c.in_err-event.ensures.inside)

pub returns-in_err-event-clause-spares : goal.returns-in_err-event-clause-spares
returns-in_err-event-clause-spares g c =
    let f = c.in_err-event.field-0.0 in
    let r = c.from_residual.result in
    let files = g.H.Shelf.files c.args.shelf.now in
    let files' = g.H.Shelf.files c.read_on.new.shelf in
    let written = g.K.Sink.written c.args.sink.now in
    if_err r f (λ x. SparesOut files files' written written x) (handed_on r f c.from_residual.ensures.1) (spares_all f files files' written c.in_err-event.ensures.same)

pub returns-in_err-event-clause-inside : goal.returns-in_err-event-clause-inside
returns-in_err-event-clause-inside g c =
    let f = c.in_err-event.field-0.0 in
    let r = c.from_residual.result in
    if_err r f (λ x. IsOfMonitor x) (handed_on r f c.from_residual.ensures.1) (reads_here f c.in_err-event.ensures.inside)

-- ---- writing failed

pub returns-in_err-put-clause-part : goal.returns-in_err-put-clause-part
returns-in_err-put-clause-part g c =
    let bytes = c.read_on.new.out.items in
    let same : c.deref.result.now ≡ bytes = search rules in
    let wrote : GrewBy (g.K.Sink.written c.args.sink.now) (g.K.Sink.written c.put.new.sink) (λ more. IsFront more bytes) =
    subst (λ (bs : List ℕ). GrewBy (g.K.Sink.written c.args.sink.now) (g.K.Sink.written c.put.new.sink) (λ more. IsFront more bs)) same c.in_err-put.ensures.front in
    on_err_any c.from_residual-in_err-put.result
    (part_written c.args.reader.now c.in_ok-event.event c.read_on.new.self bytes (g.S.Source.left c.args.source.now) (g.S.Source.left c.read_on.new.source) (g.H.Shelf.files c.args.shelf.now) (g.H.Shelf.files c.read_on.new.shelf)
    (g.K.Sink.written c.args.sink.now) (g.K.Sink.written c.put.new.sink) c.in_ok-event.ensures.did c.in_ok-event.ensures.same wrote)

pub returns-in_err-put-clause-source : goal.returns-in_err-put-clause-source
returns-in_err-put-clause-source g c =
    let f = c.in_err-put.field-0.0 in
    let r = c.from_residual-in_err-put.result in
    source_behind _ r (if_err r f (λ x. IsLater x) (handed_on r f c.from_residual-in_err-put.ensures.1) (prints_later f c.in_err-put.ensures.inside)) c.in_ok-event.ensures.source

pub returns-in_err-put-clause-shelf : goal.returns-in_err-put-clause-shelf
returns-in_err-put-clause-shelf g c =
    let f = c.in_err-put.field-0.0 in
    let r = c.from_residual-in_err-put.result in
    shelf_printing _ f r (handed_on r f c.from_residual-in_err-put.ensures.1) c.in_err-put.ensures.inside c.in_ok-event.ensures.shelf

pub returns-in_err-put-clause-sink : goal.returns-in_err-put-clause-sink
returns-in_err-put-clause-sink g c =
    let f = c.in_err-put.field-0.0 in
    let r = c.from_residual-in_err-put.result in
    sink_err f r (handed_on r f c.from_residual-in_err-put.ensures.1) c.in_err-put.ensures.counts

pub returns-in_err-put-clause-spares : goal.returns-in_err-put-clause-spares
returns-in_err-put-clause-spares g c =
    let f = c.in_err-put.field-0.0 in
    let r = c.from_residual-in_err-put.result in
    let files = g.H.Shelf.files c.args.shelf.now in
    let files' = g.H.Shelf.files c.read_on.new.shelf in
    let written = g.K.Sink.written c.args.sink.now in
    let written' = g.K.Sink.written c.put.new.sink in
    if_err r f (λ x. SparesOut files files' written written' x) (handed_on r f c.from_residual-in_err-put.ensures.1) (spares_later f files files' written written' (prints_later f c.in_err-put.ensures.inside))

pub returns-in_err-put-clause-inside : goal.returns-in_err-put-clause-inside
returns-in_err-put-clause-inside g c =
    let f = c.in_err-put.field-0.0 in
    let r = c.from_residual-in_err-put.result in
    if_err r f (λ x. IsOfMonitor x) (handed_on r f c.from_residual-in_err-put.ensures.1) (prints_here f c.in_err-put.ensures.inside)

-- ---- all was written

pub returns-clause-did : goal.returns-clause-did
returns-clause-did g c =
    let bytes = c.read_on.new.out.items in
    let same : c.deref.result.now ≡ bytes = search rules in
    let wrote : Appends (g.K.Sink.written c.args.sink.now) (g.K.Sink.written c.put.new.sink) bytes =
    subst (λ (bs : List ℕ). Appends (g.K.Sink.written c.args.sink.now) (g.K.Sink.written c.put.new.sink) bs) same c.in_ok-put.ensures.whole in
    on_ok_all c.settle.result c.settle.ensures.at c.settle.ensures.out (λ (i : (known : Files) × (g.H.Shelf.files c.read_on.new.shelf ≡ Some known)). c.settle.ensures.files i.0 i.1)
    (λ stands gives kept.
    has_done c.args.reader.now c.read_on.new.self c.in_ok-event.event c.settle.new.at c.settle.new.out c.text.result.now bytes (g.S.Source.left c.args.source.now) (g.S.Source.left c.read_on.new.source)
    (g.H.Shelf.files c.args.shelf.now) (g.H.Shelf.files c.settle.new.shelf) (g.K.Sink.written c.args.sink.now) (g.K.Sink.written c.put.new.sink)
    c.text.ensures stands gives (λ known shelf. kept (known, c.in_ok-event.ensures.same ∙ shelf)) c.in_ok-event.ensures.did wrote)

pub returns-clause-part : goal.returns-clause-part
returns-clause-part g c =
    let bytes = c.read_on.new.out.items in
    let same : c.deref.result.now ≡ bytes = search rules in
    let wrote : Appends (g.K.Sink.written c.args.sink.now) (g.K.Sink.written c.put.new.sink) bytes =
    subst (λ (bs : List ℕ). Appends (g.K.Sink.written c.args.sink.now) (g.K.Sink.written c.put.new.sink) bs) same c.in_ok-put.ensures.whole in
    on_err_all c.settle.result
    (λ (stores : (i : (known : Files) × (g.H.Shelf.files c.args.shelf.now ≡ Some known)) → MayBeStored c.in_ok-event.event i.0 c.text.result.now (g.H.Shelf.files c.settle.new.shelf)).
    part_stored c.args.reader.now c.in_ok-event.event c.read_on.new.self bytes c.text.result.now (g.S.Source.left c.args.source.now) (g.S.Source.left c.read_on.new.source) (g.H.Shelf.files c.args.shelf.now) (g.H.Shelf.files c.settle.new.shelf)
    (g.K.Sink.written c.args.sink.now) (g.K.Sink.written c.put.new.sink) c.in_ok-event.ensures.did c.in_ok-event.ensures.may c.text.ensures wrote (λ known shelf. stores (known, shelf)))
    (λ i. c.settle.ensures.failed i.0 (c.in_ok-event.ensures.same ∙ i.1))

pub returns-clause-source : goal.returns-clause-source
returns-clause-source g c = source_behind _ c.settle.result (IfErr-weaker c.settle.result (λ f. IsOfStoring f) (λ f. IsLater f) (λ f h. stores_later f h) c.settle.ensures.inside) c.in_ok-event.ensures.source

pub returns-clause-shelf : goal.returns-clause-shelf
returns-clause-shelf g c = shelf_behind _ c.settle.result c.in_ok-event.ensures.shelf c.settle.ensures.counts

pub returns-clause-sink : goal.returns-clause-sink
returns-clause-sink g c = sink_storing _ c.settle.result c.settle.ensures.inside c.in_ok-put.ensures.counts

pub returns-clause-spares : goal.returns-clause-spares
returns-clause-spares g c =
    let files = g.H.Shelf.files c.args.shelf.now in
    let files' = g.H.Shelf.files c.settle.new.shelf in
    let written = g.K.Sink.written c.args.sink.now in
    let written' = g.K.Sink.written c.put.new.sink in
    IfErr-weaker c.settle.result (λ f. IsOfStoring f) (λ f. SparesOut files files' written written' f) (λ f h. spares_later f files files' written written' (stores_later f h)) c.settle.ensures.inside

pub returns-clause-inside : goal.returns-clause-inside
returns-clause-inside g c = IfErr-weaker c.settle.result (λ f. IsOfStoring f) (λ f. IsOfMonitor f) (λ f h. stores_here f h) c.settle.ensures.inside

-- ---- whether the source was asked

pub returns-in_err-event-clause-ends : goal.returns-in_err-event-clause-ends
returns-in_err-event-clause-ends g c =
    let f = c.in_err-event.field-0.0 in
    let r = c.from_residual.result in
    asked_err f r (handed_on r f c.from_residual.ensures.1) c.in_err-event.ensures.ends

pub returns-in_err-put-clause-ends : goal.returns-in_err-put-clause-ends
returns-in_err-put-clause-ends g c =
    let f = c.in_err-put.field-0.0 in
    let r = c.from_residual-in_err-put.result in
    asked_behind _ r (if_err r f (λ x. IsLater x) (handed_on r f c.from_residual-in_err-put.ensures.1) (prints_later f c.in_err-put.ensures.inside)) c.in_ok-event.ensures.ends

pub returns-clause-ends : goal.returns-clause-ends
returns-clause-ends g c = asked_behind _ c.settle.result (IfErr-weaker c.settle.result (λ f. IsOfStoring f) (λ f. IsLater f) (λ f h. stores_later f h) c.settle.ensures.inside) c.in_ok-event.ensures.ends
