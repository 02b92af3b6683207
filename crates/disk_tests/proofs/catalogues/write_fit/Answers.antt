use Rattle.std.proofs.Common.{sym}
use Rattle.plain_base.specs.Shown.{database_of}
use Rattle.disk_tests.proofs.catalogues.write_fit.Goals as goal

pub write_change-requires : goal.write_change-requires
write_change-requires g c = λ known. (c.in_ok-fit.ensures.known (database_of c.fit_change.new.base) (sym c.in_ok-fit.ensures.kept)).0 c.if-fit.true
