use Rattle.batch_store.proofs.Stands.{fresh_pages}
use Rattle.batch_store.proofs.store.BatchStore.restore.Goals as goal

pub returns-clause-pages : goal.returns-clause-pages
returns-clause-pages g c = λ known. fresh_pages g.D.Disk.is_known (g.D.Disk.seen c.restore-done.new.disk) c.forget.new.batch known (c.forget.ensures.none (g.D.Disk.seen c.restore-done.new.disk))

pub returns-clause-answer : goal.returns-clause-answer
returns-clause-answer g c = c.restore-done.ensures.answer

pub returns-clause-done : goal.returns-clause-done
returns-clause-done g c = c.restore-done.ensures.done

pub returns-clause-closed : goal.returns-clause-closed
returns-clause-closed g c = c.restore-done.ensures.closed

pub returns-clause-crash : goal.returns-clause-crash
returns-clause-crash g c = c.restore-done.ensures.crash

pub returns-clause-reads : goal.returns-clause-reads
returns-clause-reads g c = c.restore-done.ensures.reads

pub returns-clause-made : goal.returns-clause-made
returns-clause-made g c = c.restore-done.ensures.made

pub returns-clause-cause : goal.returns-clause-cause
returns-clause-cause g c = c.restore-done.ensures.cause
