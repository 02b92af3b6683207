use Rattle.db_disk.proofs.Calls.{both}
use Rattle.db_disk.proofs.create.make.Goals as goal

pub returns-in_err-prepare-clause-crash : goal.returns-in_err-prepare-clause-crash
returns-in_err-prepare-clause-crash g c = λ known s so_far. c.prepare.ensures.crash known s c.args.dba.now so_far

pub returns-in_err-give_birth-clause-crash : goal.returns-in_err-give_birth-clause-crash
returns-in_err-give_birth-clause-crash g c = λ known s so_far. c.give_birth.ensures.crash known s (c.prepare.ensures.crash known s c.args.dba.now so_far)

pub returns-clause-crash : goal.returns-clause-crash
returns-clause-crash g c = λ known s so_far. c.give_birth.ensures.crash known s (c.prepare.ensures.crash known s c.args.dba.now so_far)

pub returns-clause-made : goal.returns-clause-made
returns-clause-made g c = both _ _ _ _ c.in_ok-prepare.ensures.made c.in_ok-give_birth.ensures.made
