use Rattle.std.proofs.Common.{ap, subst}
use Rattle.stage_proc.specs.declared.processed.Processed.TheVariants.{Shows}
use Rattle.stage_proc.specs.Stopping.{IsRefusing}
use Rattle.stage_proc.proofs.processing.refuse.Goals as goal

pub refusal_out-requires : goal.refusal_out-requires
refusal_out-requires c = subst IsRefusing c.in-No.is c.requires

pub returns-in-Ok-clause-refused : goal.returns-in-Ok-clause-refused
returns-in-Ok-clause-refused c = (c.in-No.number, c.in-No.is, ap Shows c.in-Ok.ensures)
