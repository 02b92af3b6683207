use Rattle.batch_store.proofs.Runs.{ran_stages}
use Rattle.std.proofs.Common.{arith, ap, sym, refl, ◌∙◌, Some}
use Rattle.am_traits.specs.Pages.{with_page}
use Rattle.batch_store.specs.Recovered.{recovered}
use Rattle.batch_store.proofs.Stands.{known_is, known_so}
use Rattle.batch_store.proofs.Putting.{put_last}
use Rattle.batch_store.proofs.stored.BatchStorePageStore.put.Goals as goal

pub returns-in-Ok-clause-came : goal.returns-in-Ok-clause-came
returns-in-Ok-clause-came g c = λ s came.
    ran_stages g.D.Disk s.due c.args.self.now.due s.disk c.args.self.now.disk c.stage.new.disk came c.if-self.false c.stage.ensures.change c.stage.ensures.crash

pub returns-in-Err-clause-came : goal.returns-in-Err-clause-came
returns-in-Err-clause-came g c = λ s came.
    ran_stages g.D.Disk s.due c.args.self.now.due s.disk c.args.self.now.disk c.stage.new.disk came c.if-self.false c.stage.ensures.change c.stage.ensures.crash

pub returns-then-self-clause-came : goal.returns-then-self-clause-came
returns-then-self-clause-came g c = λ s came. came

pub returns-then-self-clause-cause : goal.returns-then-self-clause-cause
returns-then-self-clause-cause g c = record { later = omega arith; caused = refl }

pub returns-in-Ok-clause-page : goal.returns-in-Ok-clause-page
returns-in-Ok-clause-page g c = λ m is.
    let so = known_so g.D.Disk.is_known (g.D.Disk.seen c.args.self.now.disk) m c.args.self.now.batch is in
    known_is g.D.Disk.is_known (g.D.Disk.seen c.stage.new.disk) c.stage.new.batch so.0 ∙ ap Some (c.in-Ok.ensures.page so.0 ∙ ap (with_page c.args.a c.args.page.now) so.1)

pub returns-in-Ok-clause-cause : goal.returns-in-Ok-clause-cause
returns-in-Ok-clause-cause g c = record { later = c.stage.ensures.cause.later; caused = c.in-Ok.ensures.cause.caused }

pub returns-in-Err-clause-cause : goal.returns-in-Err-clause-cause
returns-in-Err-clause-cause g c = c.in-Err.ensures.cause

pub invariant_of-self-in-Err : goal.invariant_of-self-in-Err
invariant_of-self-in-Err g c = record {
  below = c.forget.ensures.below;
  empty = λ due. c.forget.ensures.count;
  shut = λ known calm. c.stage.ensures.shut known;
  held = λ known. c.forget.ensures.held (g.D.Disk.seen c.stage.new.disk);
  numbered = λ known. c.forget.ensures.numbered (g.D.Disk.seen c.stage.new.disk);
  last = λ known a is. absurd (cc is);
}

pub invariant_of-self : goal.invariant_of-self
invariant_of-self g c = record {
  below = c.in-Ok.ensures.below;
  empty = λ due. absurd (cc (sym due ∙ c.if-self.false));
  shut = λ known calm. c.stage.ensures.shut known;
  held = c.in-Ok.ensures.held;
  numbered = c.in-Ok.ensures.numbered;
  last = λ known a is. put_last (recovered (g.D.Disk.seen c.stage.new.disk) c.stage.new.batch) (recovered (g.D.Disk.seen c.args.self.now.disk) c.args.self.now.batch) c.args.a a c.args.page.now (c.in-Ok.ensures.page known) is;
}
