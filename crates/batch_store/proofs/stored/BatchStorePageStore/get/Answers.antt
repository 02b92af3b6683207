use Rattle.std.proofs.Common.{rules, ◌≡◌, Some, sym, ◌∙◌, ap, refl, arith}
use Rattle.disk_model.specs.Disk.{Image}
use Rattle.batch_store.proofs.AfterReads.{ran_reads, reads_join, known_reads}
use Rattle.batch_store.proofs.Stands.{known_so}
use Rattle.batch_store.proofs.stored.BatchStorePageStore.get.Goals as goal

pub returns-then-eq-clause-page : goal.returns-then-eq-clause-page
returns-then-eq-clause-page g c = λ m is.
    let so = known_so g.D.Disk.is_known (g.D.Disk.seen c.args.self.now.disk) m c.args.self.now.batch is in
    let given : c.args.self.now.given ≡ Some c.args.a = search rules in
    sym (ap (λ (f : Image). f c.args.a) so.1) ∙ c.args.self.now.last so.0 c.args.a given

pub returns-in-Ok-clause-same : goal.returns-in-Ok-clause-same
returns-in-Ok-clause-same g c = known_reads g.D.Disk c.args.self.now.batch c.args.self.now.disk c.read_page.new.disk c.read_page.ensures.same

pub returns-in-Ok-clause-came : goal.returns-in-Ok-clause-came
returns-in-Ok-clause-came g c = λ s came. ran_reads g.D.Disk s.due c.args.self.now.due s.disk c.args.self.now.disk c.read_page.new.disk came c.read_page.ensures.same

pub returns-in-Ok-clause-only_read : goal.returns-in-Ok-clause-only_read
returns-in-Ok-clause-only_read g c = λ s read. record {
  batch_same = read.batch_same;
  reads = λ known. reads_join g.D.Disk s.disk c.args.self.now.disk c.read_page.new.disk (read.reads known) (c.read_page.ensures.same known);
}

pub returns-in-Err-clause-same : goal.returns-in-Err-clause-same
returns-in-Err-clause-same g c = known_reads g.D.Disk c.args.self.now.batch c.args.self.now.disk c.read_page.new.disk c.read_page.ensures.same

pub returns-in-Err-clause-came : goal.returns-in-Err-clause-came
returns-in-Err-clause-came g c = λ s came. ran_reads g.D.Disk s.due c.args.self.now.due s.disk c.args.self.now.disk c.read_page.new.disk came c.read_page.ensures.same

pub returns-in-Err-clause-only_read : goal.returns-in-Err-clause-only_read
returns-in-Err-clause-only_read g c = λ s read. record {
  batch_same = read.batch_same;
  reads = λ known. reads_join g.D.Disk s.disk c.args.self.now.disk c.read_page.new.disk (read.reads known) (c.read_page.ensures.same known);
}

pub returns-then-eq-clause-reads : goal.returns-then-eq-clause-reads
returns-then-eq-clause-reads g c = record { later = omega arith; at_most = omega arith }

pub returns-then-eq-clause-last : goal.returns-then-eq-clause-last
returns-then-eq-clause-last g c =
    let given : c.args.self.now.given ≡ Some c.args.a = search rules in
    given

pub returns-then-eq-clause-cause : goal.returns-then-eq-clause-cause
returns-then-eq-clause-cause g c = record { later = omega arith; caused = refl }

pub returns-in-Ok-clause-page : goal.returns-in-Ok-clause-page
returns-in-Ok-clause-page g c = λ m is.
    let so = known_so g.D.Disk.is_known (g.D.Disk.seen c.args.self.now.disk) m c.args.self.now.batch is in
    sym (ap (λ (f : Image). f c.args.a) so.1) ∙ c.in-Ok.ensures.page so.0

pub returns-in-Ok-clause-last : goal.returns-in-Ok-clause-last
returns-in-Ok-clause-last g c = refl

pub returns-in-Ok-clause-reads : goal.returns-in-Ok-clause-reads
returns-in-Ok-clause-reads g c = c.read_page.ensures.reads

pub returns-in-Err-clause-reads : goal.returns-in-Err-clause-reads
returns-in-Err-clause-reads g c = c.read_page.ensures.reads

pub returns-in-Ok-clause-cause : goal.returns-in-Ok-clause-cause
returns-in-Ok-clause-cause g c = record { later = c.read_page.ensures.cause.later; caused = c.in-Ok.ensures.cause.answered }

pub returns-in-Err-clause-cause : goal.returns-in-Err-clause-cause
returns-in-Err-clause-cause g c = record { later = c.read_page.ensures.cause.later; caused = c.in-Err.ensures.cause.failed }
