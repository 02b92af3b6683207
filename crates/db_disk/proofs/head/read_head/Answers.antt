use Rattle.std.proofs.Common.{◌∙◌, arith}
use Rattle.db_disk.proofs.head.read_head.Goals as goal

pub returns-in-Some-clause-came : goal.returns-in-Some-clause-came
returns-in-Some-clause-came g c = λ s came. c.read_header.ensures.came s (c.read_birth.ensures.came s came)

pub returns-in-None-clause-came : goal.returns-in-None-clause-came
returns-in-None-clause-came g c = λ s came. c.read_header.ensures.came s (c.read_birth.ensures.came s came)

pub returns-in_err-read_birth-clause-came : goal.returns-in_err-read_birth-clause-came
returns-in_err-read_birth-clause-came g c = c.read_birth.ensures.came

pub returns-in-Some-clause-only_read : goal.returns-in-Some-clause-only_read
returns-in-Some-clause-only_read g c = λ s read. c.read_header.ensures.only_read s (c.read_birth.ensures.only_read s read)

pub returns-in-None-clause-only_read : goal.returns-in-None-clause-only_read
returns-in-None-clause-only_read g c = λ s read. c.read_header.ensures.only_read s (c.read_birth.ensures.only_read s read)

pub returns-in_err-read_birth-clause-only_read : goal.returns-in_err-read_birth-clause-only_read
returns-in_err-read_birth-clause-only_read g c = c.read_birth.ensures.only_read

pub returns-in-Some-clause-same : goal.returns-in-Some-clause-same
returns-in-Some-clause-same g c = c.read_header.ensures.same ∙ c.read_birth.ensures.same

pub returns-in-None-clause-same : goal.returns-in-None-clause-same
returns-in-None-clause-same g c = c.read_header.ensures.same ∙ c.read_birth.ensures.same

pub returns-in_err-read_birth-clause-same : goal.returns-in_err-read_birth-clause-same
returns-in_err-read_birth-clause-same g c = c.read_birth.ensures.same

pub returns-in-Some-clause-cause : goal.returns-in-Some-clause-cause
returns-in-Some-clause-cause g c = let calm = c.in_ok-dba.ensures.cause.caused ∙ c.in_ok-read_birth.ensures.cause.caused in record { later = omega (arith, calm); caused = calm }

pub returns-in-None-clause-cause : goal.returns-in-None-clause-cause
returns-in-None-clause-cause g c = let calm = c.in_ok-dba.ensures.cause.caused ∙ c.in_ok-read_birth.ensures.cause.caused in record { later = omega (arith, calm); caused = calm }
