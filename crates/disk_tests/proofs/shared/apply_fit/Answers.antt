use Rattle.std.proofs.Common.{◌∙◌, sym}
use Rattle.disk_tests.proofs.shared.apply_fit.Goals as goal

pub apply-requires : goal.apply-requires
apply-requires g c = λ db e. (c.in_ok-fit.ensures.known db (sym c.in_ok-fit.ensures.kept ∙ e)).0 c.if-fit.true
