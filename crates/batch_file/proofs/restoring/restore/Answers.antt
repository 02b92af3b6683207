use Rattle.std.proofs.Common.{◌≢◌, ◌∙◌, subst}
use Rattle.batch_file.specs.Layout.{gate}
use Rattle.batch_file.proofs.Calling.{restores_none, restores_all}
use Rattle.batch_file.proofs.Reopening.{synced_run, read_run, read_twice, redo_run, nothing_done}
use Rattle.batch_file.proofs.restoring.restore.Goals as goal

pub returns-in_err-sync-clause-crash : goal.returns-in_err-sync-clause-crash
returns-in_err-sync-clause-crash g c = λ known.
    synced_run g.D.Disk.seen g.D.Disk.touched g.D.Disk.clock g.D.Disk.left_since c.args.disk.now c.sync.new.self (λ m left. g.met.D.Disk.only_now c.args.disk.now m known left) (c.sync.ensures.seen known) (c.sync.ensures.touched known) (c.sync.ensures.time known)

pub returns-in_err-is_open-clause-crash : goal.returns-in_err-is_open-clause-crash
returns-in_err-is_open-clause-crash g c = λ known.
    read_run g.D.Disk.seen g.D.Disk.touched g.D.Disk.clock g.D.Disk.left_since c.args.disk.now c.sync.new.self (λ m left. g.met.D.Disk.only_now c.args.disk.now m known left) (c.sync.ensures.seen known) (c.sync.ensures.touched known) (c.sync.ensures.time known) c.is_open.new.disk (c.is_open.ensures.same known)

pub returns-then-not-branch-clause-crash : goal.returns-then-not-branch-clause-crash
returns-then-not-branch-clause-crash g c = λ known.
    read_run g.D.Disk.seen g.D.Disk.touched g.D.Disk.clock g.D.Disk.left_since c.args.disk.now c.sync.new.self (λ m left. g.met.D.Disk.only_now c.args.disk.now m known left) (c.sync.ensures.seen known) (c.sync.ensures.touched known) (c.sync.ensures.time known) c.is_open.new.disk (c.is_open.ensures.same known)

pub returns-in_err-count-clause-crash : goal.returns-in_err-count-clause-crash
returns-in_err-count-clause-crash g c = λ known.
    read_twice g.D.Disk.seen g.D.Disk.touched g.D.Disk.clock g.D.Disk.left_since c.args.disk.now c.sync.new.self (λ m left. g.met.D.Disk.only_now c.args.disk.now m known left) (c.sync.ensures.seen known) (c.sync.ensures.touched known) (c.sync.ensures.time known) c.is_open.new.disk c.check.new.disk (c.is_open.ensures.same known) (c.check.ensures.same known)

pub returns-in_err-redo-clause-crash : goal.returns-in_err-redo-clause-crash
returns-in_err-redo-clause-crash g c = λ known.
    redo_run g.D.Disk.seen g.D.Disk.touched g.D.Disk.clock g.D.Disk.left_since c.args.disk.now c.sync.new.self (λ m left. g.met.D.Disk.only_now c.args.disk.now m known left) (c.sync.ensures.seen known) (c.sync.ensures.touched known) (c.sync.ensures.time known) c.is_open.new.disk c.check.new.disk (c.is_open.ensures.same known) (c.check.ensures.same known) c.redo.new.disk (c.redo.ensures.crash known)

pub returns-clause-crash : goal.returns-clause-crash
returns-clause-crash g c = λ known.
    redo_run g.D.Disk.seen g.D.Disk.touched g.D.Disk.clock g.D.Disk.left_since c.args.disk.now c.sync.new.self (λ m left. g.met.D.Disk.only_now c.args.disk.now m known left) (c.sync.ensures.seen known) (c.sync.ensures.touched known) (c.sync.ensures.time known) c.is_open.new.disk c.check.new.disk (c.is_open.ensures.same known) (c.check.ensures.same known) c.redo.new.disk (c.redo.ensures.crash known)

pub returns-then-not-branch-clause-done : goal.returns-then-not-branch-clause-done
returns-then-not-branch-clause-done g c = λ known.
    let opened = c.in_ok-is_open.ensures.opened known in
    let shut : gate (g.D.Disk.seen c.sync.new.self) ≢ 1 = λ e. let yes = opened.1 e in cc (yes, c.if-not-branch.true) in
    nothing_done (g.D.Disk.seen c.args.disk.now) (g.D.Disk.seen c.is_open.new.disk) (subst (λ m. gate m ≢ 1) (c.sync.ensures.seen known) shut) ((c.is_open.ensures.same known).seen_same ∙ c.sync.ensures.seen known)

pub returns-then-not-branch-clause-made : goal.returns-then-not-branch-clause-made
returns-then-not-branch-clause-made g c = restores_none _ _ _ c.in_ok-sync.ensures.noted c.is_open.ensures.unwritten

pub returns-clause-made : goal.returns-clause-made
returns-clause-made g c = restores_all _ _ _ _ _ _ c.in_ok-sync.ensures.noted c.is_open.ensures.unwritten c.check.ensures.unwritten c.in_ok-redo.ensures.made
