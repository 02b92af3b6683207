use Rattle.db_disk.proofs.Headed.{no_page, a_page}
use Rattle.db_disk.proofs.head.read_header.Goals as goal

pub returns-then-not-branch-clause-named : goal.returns-then-not-branch-clause-named
returns-then-not-branch-clause-named g c = λ m is. no_page m _ _ (c.in_ok-get.ensures.page m is) c.if-not-branch.true

pub returns-clause-named : goal.returns-clause-named
returns-clause-named g c = λ m is. a_page m _ _ _ (c.in_ok-get.ensures.page m is) c.if-not-branch.false c.in_ok-header_name.ensures

pub returns-clause-came : goal.returns-clause-came
returns-clause-came g c = c.get.ensures.came

pub returns-in_err-get-clause-came : goal.returns-in_err-get-clause-came
returns-in_err-get-clause-came g c = c.get.ensures.came

pub returns-clause-only_read : goal.returns-clause-only_read
returns-clause-only_read g c = c.get.ensures.only_read

pub returns-in_err-get-clause-only_read : goal.returns-in_err-get-clause-only_read
returns-in_err-get-clause-only_read g c = c.get.ensures.only_read

pub returns-clause-same : goal.returns-clause-same
returns-clause-same g c = c.get.ensures.same

pub returns-in_err-get-clause-same : goal.returns-in_err-get-clause-same
returns-in_err-get-clause-same g c = c.get.ensures.same

pub returns-clause-reads : goal.returns-clause-reads
returns-clause-reads g c = c.get.ensures.reads

pub returns-in_err-get-clause-reads : goal.returns-in_err-get-clause-reads
returns-in_err-get-clause-reads g c = c.get.ensures.reads
