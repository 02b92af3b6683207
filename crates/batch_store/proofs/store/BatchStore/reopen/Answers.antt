use Rattle.std.proofs.Common.{refl}
use Rattle.batch_store.proofs.Reopened.{answered_so, damaged_so, done_so, made_so, settled_run, restored_run, restored_same}
use Rattle.batch_store.proofs.store.BatchStore.reopen.Goals as goal

pub returns-in_err-settle-clause-crash : goal.returns-in_err-settle-clause-crash
returns-in_err-settle-clause-crash g c = λ known.
    let d = g.D.Disk in
    settled_run d.seen d.touched d.clock d.left_since c.args.self.now.disk c.settle.new.self.disk (λ m left. g.met.D.Disk.only_now c.args.self.now.disk m known left)
    (c.settle.ensures.seen known) (c.settle.ensures.touched known) (c.settle.ensures.time known)

pub returns-clause-crash : goal.returns-clause-crash
returns-clause-crash g c = λ known.
    let d = g.D.Disk in
    restored_run d.seen d.touched d.clock d.left_since c.args.self.now.disk c.settle.new.self.disk (λ m left. g.met.D.Disk.only_now c.args.self.now.disk m known left)
    (c.settle.ensures.seen known) (c.settle.ensures.touched known) (c.settle.ensures.time known) (c.in_ok-settle.ensures.settled known) c.restore.new.self.disk (c.restore.ensures.crash known)

pub returns-clause-same : goal.returns-clause-same
returns-clause-same g c = λ known.
    let d = g.D.Disk in
    restored_same d.seen d.touched d.clock d.left_since c.args.self.now.disk c.settle.new.self.disk (λ m left. g.met.D.Disk.only_now c.args.self.now.disk m known left)
    (c.settle.ensures.seen known) (c.settle.ensures.touched known) (c.settle.ensures.time known) (c.in_ok-settle.ensures.settled known) c.restore.new.self.disk (c.restore.ensures.crash known)
    (g.met.D.Disk.counts_now c.restore.new.self.disk (d.clock c.settle.new.self.disk) (d.seen c.restore.new.self.disk) known (c.restore.ensures.crash known).later (λ b calm. refl))

pub returns-clause-done : goal.returns-clause-done
returns-clause-done g c = λ known. done_so _ _ _ _ (c.settle.ensures.seen known) (c.restore.ensures.done known)

pub returns-clause-damaged : goal.returns-clause-damaged
returns-clause-damaged g c = λ known file page is. damaged_so _ _ _ file page (c.settle.ensures.seen known) (c.restore.ensures.answer known) is

pub returns-clause-closed : goal.returns-clause-closed
returns-clause-closed g c = c.restore.ensures.closed

pub returns-clause-begun : goal.returns-clause-begun
returns-clause-begun g c = c.restore.ensures.begun

pub returns-clause-calm : goal.returns-clause-calm
returns-clause-calm g c = c.restore.ensures.calm

pub returns-clause-due : goal.returns-clause-due
returns-clause-due g c = c.restore.ensures.due

pub returns-in_err-settle-clause-begun : goal.returns-in_err-settle-clause-begun
returns-in_err-settle-clause-begun g c = c.settle.ensures.begun

pub returns-clause-answer : goal.returns-clause-answer
returns-clause-answer g c = λ known. answered_so c.restore.result _ _ (c.settle.ensures.seen known) (c.restore.ensures.answer known)

pub returns-clause-made : goal.returns-clause-made
returns-clause-made g c = made_so c.restore.result _ _ _ c.in_ok-settle.ensures.made c.restore.ensures.made
