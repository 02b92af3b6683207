use Rattle.std.proofs.Common.{arith}
use Rattle.db_disk.proofs.Calls.{heads}
use Rattle.db_disk.proofs.create.write_heads.Goals as goal

pub returns-in_err-write_beside-2-clause-crash : goal.returns-in_err-write_beside-2-clause-crash
returns-in_err-write_beside-2-clause-crash g c = λ known s dba h. c.write_beside-2.ensures.crash known s dba (c.write_beside.ensures.crash known s dba h)

pub returns-clause-crash : goal.returns-clause-crash
returns-clause-crash g c = λ known s dba h. c.write_beside-2.ensures.crash known s dba (c.write_beside.ensures.crash known s dba h)

pub returns-clause-made : goal.returns-clause-made
returns-clause-made g c = heads _ _ _ _ _ _ c.in_ok-write_beside.ensures.noted c.in_ok-write_beside-2.ensures.noted (λ e. absurd (omega (arith, e))) c.put_header.ensures
