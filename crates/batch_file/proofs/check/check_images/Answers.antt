use Rattle.std.proofs.Common.{rules, ◌≡◌, Err, subst, arith}
use Rattle.batch_file.specs.Layout.{addr}
use Rattle.batch_file.specs.Faults.{IsPage}
use Rattle.batch_file.proofs.Checking.{image_fails}
use Rattle.batch_file.proofs.check.check_images.Goals as goal

pub returns-in_err-page-clause-there : goal.returns-in_err-page-clause-there
returns-in_err-page-clause-there g c = λ known.
    let is : c.from_residual.result ≡ Err c.in_err-page.field-0.0 = search rules in
    image_fails (g.D.Disk.seen c.args.disk.now) c.args.count c.loop-k.k c.page.new.out c.in_err-page.field-0.0 c.from_residual.result (c.loop-k.invariant.there known) (omega arith)
    (subst (λ m. IsPage (m (addr 4 c.loop-k.k)) (addr 4 c.loop-k.k) c.page.new.out (Err c.in_err-page.field-0.0)) (c.loop-k.invariant.same known).seen_same (c.in_err-page.ensures.page known)) is
