use Rattle.std.proofs.Common.{subst, sym, ◌∙◌, refl, ap, arith}
use Rattle.disk_model.specs.Disk.{Image, LeavesOnly}
use Rattle.batch_file.specs.declared.stage.Batch.{Batch}
use Rattle.batch_file.specs.OnDisk.{BeforeOrAfter, IsClosed}
use Rattle.batch_file.specs.Staged.{size_of, staged, completed}
use Rattle.batch_file.proofs.Form.{named}
use Rattle.batch_store.proofs.Runs.{nothing_laid, then_finished, one_of_two, calm_of}
use Rattle.batch_store.proofs.Stands.{staged_fresh, known_laid, known_so, empty_so, laid_so, begun_so}
use Rattle.std.specs.Prelude.{OnOk, ◌<◌}
use Rattle.batch_store.proofs.Putting.{calm_so, due_so}
use Rattle.disk_model.specs.History.{CameSo}
use Rattle.batch_file.specs.Order.{Completes, Applies}
use Rattle.batch_store.proofs.store.BatchStore.finish.Goals as goal

pub returns-then-count-eq0-clause-crash : goal.returns-then-count-eq0-clause-crash
returns-then-count-eq0-clause-crash g c = λ s came known.
    nothing_laid g.D.Disk s.due c.args.self.now.due s.disk c.args.self.now.disk came known (λ m left. g.met.D.Disk.only_now s.disk m known left) (s.shut known) (staged (g.D.Disk.seen c.args.self.now.disk) c.args.self.now.batch)

pub returns-then-count-eq0-clause-stands : goal.returns-then-count-eq0-clause-stands
returns-then-count-eq0-clause-stands g c = λ s m came known closed is.
    let old = c.args.self.now in
    let only = λ (m : Image) (left : g.D.Disk.left_since s.disk (g.D.Disk.clock s.disk) m). g.met.D.Disk.only_now s.disk m known left in
    let cs = staged (g.D.Disk.seen old.disk) old.batch in
    one_of_two g.D.Disk s.due old.due s.disk old.disk came known only (s.shut known) cs (named (completed (g.D.Disk.seen old.disk) old.batch) old.batch.count (old.held known).addresses) closed m
    (known_laid g.D.Disk.is_known (g.D.Disk.seen old.disk) m old.batch is) old.disk (nothing_laid g.D.Disk s.due old.due s.disk old.disk came known only (s.shut known) cs)

pub returns-then-count-eq0-clause-laid : goal.returns-then-count-eq0-clause-laid
returns-then-count-eq0-clause-laid g c = λ m is.
    empty_so g.D.Disk.is_known (g.D.Disk.seen c.args.self.now.disk) m c.args.self.now.batch (sym c.count.ensures ∙ c.if-count-eq0.true) is

pub returns-clause-crash : goal.returns-clause-crash
returns-clause-crash g c = λ s came known.
    let now = c.args.self.now.disk in
    let batch = c.args.self.now.batch in
    then_finished g.D.Disk s.due c.args.self.now.due s.disk now came known (λ m left. g.met.D.Disk.only_now s.disk m known left) (s.shut known) (staged (g.D.Disk.seen now) batch)
    (calm_of c.args.self.now.due (size_of batch) c.args.self.now.empty (λ none. c.if-count-eq0.false (c.count.ensures ∙ none)))
    (named (completed (g.D.Disk.seen now) batch) batch.count (c.args.self.now.held known).addresses) c.finish-laid.new.disk
    (subst (λ (b : Batch). LeavesOnly g.D.Disk.clock g.D.Disk.left_since now c.finish-laid.new.disk (BeforeOrAfter (g.D.Disk.seen now) (g.D.Disk.touched now) (staged (g.D.Disk.seen now) b))) c.replace-batch.ensures.value (c.finish-laid.ensures.crash known))

pub returns-clause-stands : goal.returns-clause-stands
returns-clause-stands g c = λ s m came known closed is.
    let old = c.args.self.now in
    let only = λ (m : Image) (left : g.D.Disk.left_since s.disk (g.D.Disk.clock s.disk) m). g.met.D.Disk.only_now s.disk m known left in
    let cs = staged (g.D.Disk.seen old.disk) old.batch in
    one_of_two g.D.Disk s.due old.due s.disk old.disk came known only (s.shut known) cs (named (completed (g.D.Disk.seen old.disk) old.batch) old.batch.count (old.held known).addresses) closed m
    (known_laid g.D.Disk.is_known (g.D.Disk.seen old.disk) m old.batch is) c.finish-laid.new.disk (returns-clause-crash g c s came known)

pub returns-clause-laid : goal.returns-clause-laid
returns-clause-laid g c = λ m is.
    laid_so c.finish-laid.result g.D.Disk.is_known (g.D.Disk.seen c.args.self.now.disk) (g.D.Disk.seen c.finish-laid.new.disk) m c.args.self.now.batch c.replace-batch.result c.replace-batch.ensures.value is c.finish-laid.ensures.laid

pub returns-clause-pages : goal.returns-clause-pages
returns-clause-pages g c = λ m is.
    let so = known_so g.D.Disk.is_known (g.D.Disk.seen c.args.self.now.disk) m c.args.self.now.batch is in
    begun_so c.finish-laid.result g.D.Disk.is_known (g.D.Disk.seen c.finish-laid.new.disk) m c.replace-batch.new.dest so.0 (staged_fresh (g.D.Disk.seen c.finish-laid.new.disk) c.replace-batch.new.dest c.begin.result c.replace-batch.ensures.after c.begin.ensures.count)
    (laid_so c.finish-laid.result g.D.Disk.is_known (g.D.Disk.seen c.args.self.now.disk) (g.D.Disk.seen c.finish-laid.new.disk) m c.args.self.now.batch c.replace-batch.result c.replace-batch.ensures.value is c.finish-laid.ensures.laid)

pub returns-clause-cause : goal.returns-clause-cause
returns-clause-cause g c = c.finish-laid.ensures.cause

pub returns-clause-whole : goal.returns-clause-whole
returns-clause-whole g c = c.finish-laid.ensures.whole

pub returns-then-count-eq0-clause-closed : goal.returns-then-count-eq0-clause-closed
returns-then-count-eq0-clause-closed g c = λ known some. absurd (omega (arith, some, sym c.count.ensures ∙ c.if-count-eq0.true))

pub returns-then-count-eq0-clause-made : goal.returns-then-count-eq0-clause-made
returns-then-count-eq0-clause-made g c = λ some. absurd (omega (arith, some, sym c.count.ensures ∙ c.if-count-eq0.true))

pub returns-then-count-eq0-clause-empty : goal.returns-then-count-eq0-clause-empty
returns-then-count-eq0-clause-empty g c = λ none. (refl, refl)

pub returns-then-count-eq0-clause-begun : goal.returns-then-count-eq0-clause-begun
returns-then-count-eq0-clause-begun g c = sym c.count.ensures ∙ c.if-count-eq0.true

pub returns-clause-empty : goal.returns-clause-empty
returns-clause-empty g c = λ none. absurd (c.if-count-eq0.false (c.count.ensures ∙ none))

pub returns-clause-begun : goal.returns-clause-begun
returns-clause-begun g c = ap size_of c.replace-batch.ensures.after ∙ c.begin.ensures.count

pub returns-clause-calm : goal.returns-clause-calm
returns-clause-calm g c =
    calm_so c.finish-laid.result c.is_err-self.result c.args.self.now.due c.is_err-self.ensures.value
    (calm_of c.args.self.now.due (size_of c.args.self.now.batch) c.args.self.now.empty (λ none. c.if-count-eq0.false (c.count.ensures ∙ none)))

pub returns-clause-due : goal.returns-clause-due
returns-clause-due g c = due_so c.finish-laid.result c.is_err-self.result c.is_err-self.ensures.value

pub returns-clause-closed : goal.returns-clause-closed
returns-clause-closed g c = λ known.
    subst (λ (b : Batch). OnOk c.finish-laid.result (0 < size_of b → IsClosed (g.D.Disk.seen c.finish-laid.new.disk) (g.D.Disk.touched c.finish-laid.new.disk)))
    c.replace-batch.ensures.value (c.finish-laid.ensures.closed known)

pub returns-clause-made : goal.returns-clause-made
returns-clause-made g c =
    subst (λ (b : Batch). OnOk c.finish-laid.result (0 < size_of b → CameSo (g.D.Disk.history c.args.self.now.disk) (g.D.Disk.history c.finish-laid.new.disk) (Applies (Completes b) (size_of b))))
    c.replace-batch.ensures.value c.finish-laid.ensures.made
