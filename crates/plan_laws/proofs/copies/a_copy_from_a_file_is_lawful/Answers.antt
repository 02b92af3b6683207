use Rattle.plan_laws.proofs.CopiedRows.{copy_lawful}
use Rattle.plan_laws.proofs.FitUtilities.{fitting_copy_lawful}
use Rattle.plan_laws.proofs.copies.a_copy_from_a_file_is_lawful.Goals as goal

pub returns : goal.returns
returns c = record { fit = fitting_copy_lawful; there = copy_lawful }
