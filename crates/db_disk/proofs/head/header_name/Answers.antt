use Rattle.std.proofs.Common.{true, false}
use Rattle.db_disk.proofs.Headed.{header_tested, header_none}
use Rattle.db_disk.proofs.head.header_name.Goals as goal

pub returns-then-begins_as : goal.returns-then-begins_as
returns-then-begins_as c = header_tested _ _ _ c.in-Some.dba true _ c.trimmed.ensures c.in_ok-dba.ensures c.in-Some.is c.begins_as.ensures c.if-begins_as.true

pub returns-else-begins_as : goal.returns-else-begins_as
returns-else-begins_as c = header_tested _ _ _ c.in-Some.dba false _ c.trimmed.ensures c.in_ok-dba.ensures c.in-Some.is c.begins_as.ensures c.if-begins_as.false

pub returns-in-None : goal.returns-in-None
returns-in-None c = header_none _ _ _ c.trimmed.ensures c.in_ok-dba.ensures c.in-None.is
