use Rattle.std.proofs.Common.{◌≡◌, arith}
use Rattle.base_trait.specs.declared.fault.BaseFault.TheVariants as faults
use Rattle.db_disk.proofs.Causes.{answered_so, damage_of_batch, restore_caused}
use Rattle.db_disk.proofs.Changes.{never_wanted}
use Rattle.db_disk.proofs.Holding.{holds_run, known_none, known_same}
use Rattle.db_disk.proofs.reopened.reopen.Goals as goal

pub returns-in-Ok-clause-same : goal.returns-in-Ok-clause-same
returns-in-Ok-clause-same g c = known_same g.D.Disk.is_known _ _ c.reopen.ensures.same

pub returns-in-Ok-clause-crash : goal.returns-in-Ok-clause-crash
returns-in-Ok-clause-crash g c = λ known. holds_run g.D.Disk.seen g.D.Disk.touched g.D.Disk.clock g.D.Disk.left_since _ _ (c.reopen.ensures.crash known)

pub returns-in-Err-clause-same : goal.returns-in-Err-clause-same
returns-in-Err-clause-same g c = known_same g.D.Disk.is_known _ _ c.reopen.ensures.same

pub returns-in-Err-clause-crash : goal.returns-in-Err-clause-crash
returns-in-Err-clause-crash g c = λ known. holds_run g.D.Disk.seen g.D.Disk.touched g.D.Disk.clock g.D.Disk.left_since _ _ (c.reopen.ensures.crash known)

pub returns-in-Err-clause-cause : goal.returns-in-Err-clause-cause
returns-in-Err-clause-cause g c =
    restore_caused _ _ _ c.in-Err.fault c.reopen.result c.fault_of.result c.in-Err.is c.fault_of.ensures c.reopen.ensures.cause
    (λ file page is. known_none g.D.Disk.is_known _ (λ known. c.reopen.ensures.damaged known file page is))

pub returns-in-Err-clause-damaged : goal.returns-in-Err-clause-damaged
returns-in-Err-clause-damaged g c = λ known file page is.
    let e : c.fault_of.result ≡ faults.Damaged file page = cc is in
    c.reopen.ensures.damaged known file page (damage_of_batch c.in-Err.fault c.reopen.result c.fault_of.result file page c.in-Err.is c.fault_of.ensures e)

pub returns-in-Err-clause-wanted : goal.returns-in-Err-clause-wanted
returns-in-Err-clause-wanted g c = λ want.
    let e : c.fault_of.result ≡ faults.OutOfMemory = cc want in
    never_wanted c.in-Err.fault c.fault_of.result c.fault_of.ensures e

pub returns-in-Err-clause-at_batch : goal.returns-in-Err-clause-at_batch
returns-in-Err-clause-at_batch g c = λ known file page is.
    let e : c.fault_of.result ≡ faults.Damaged file page = cc is in
    answered_so c.reopen.result _ file page (c.reopen.ensures.answer known) (damage_of_batch c.in-Err.fault c.reopen.result c.fault_of.result file page c.in-Err.is c.fault_of.ensures e)

pub returns-in-Ok-clause-cause : goal.returns-in-Ok-clause-cause
returns-in-Ok-clause-cause g c = let calm = c.in-Ok.ensures.cause.answered (λ never. cc never) in record { later = omega (arith, calm); caused = calm }
