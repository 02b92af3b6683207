use Rattle.batch_file.specs.Layout.{entries}
use Rattle.batch_file.specs.Order.{Heads}
use Rattle.batch_file.proofs.Calling.{applies}
use Rattle.batch_file.proofs.Finishing.{apply_run, apply_done}
use Rattle.batch_file.proofs.applying.apply_batch.Goals as goal

pub returns-in_err-redo-clause-crash : goal.returns-in_err-redo-clause-crash
returns-in_err-redo-clause-crash g c = λ known.
    apply_run g.D.Disk.seen g.D.Disk.touched g.D.Disk.clock g.D.Disk.left_since c.args.disk.now c.open_gate.new.disk c.redo.new.disk (entries (g.D.Disk.seen c.args.disk.now) c.args.count)
    (c.open_gate.ensures.crash known) (c.in_ok-open_gate.ensures.same known) (c.redo.ensures.crash known)

pub returns-clause-crash : goal.returns-clause-crash
returns-clause-crash g c = λ known.
    apply_run g.D.Disk.seen g.D.Disk.touched g.D.Disk.clock g.D.Disk.left_since c.args.disk.now c.open_gate.new.disk c.redo.new.disk (entries (g.D.Disk.seen c.args.disk.now) c.args.count)
    (c.open_gate.ensures.crash known) (c.in_ok-open_gate.ensures.same known) (c.redo.ensures.crash known)

pub returns-clause-laid : goal.returns-clause-laid
returns-clause-laid g c = λ known.
    apply_done g.D.Disk.seen g.D.Disk.touched g.D.Disk.clock g.D.Disk.left_since c.args.disk.now c.open_gate.new.disk c.redo.new.disk c.args.count (c.requires.shut known) (c.requires.whole known) (c.in_ok-open_gate.ensures.same known) (c.in_ok-redo.ensures.done known)

pub returns-clause-made : goal.returns-clause-made
returns-clause-made g c = applies _ _ _ (Heads c.args.count) c.args.count c.in_ok-open_gate.ensures.made c.in_ok-redo.ensures.made
