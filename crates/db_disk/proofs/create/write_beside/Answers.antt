use Rattle.db_disk.proofs.Making.{one_write, still_unborn}
use Rattle.db_disk.proofs.create.write_beside.Goals as goal

pub returns-in_err-write-clause-unborn : goal.returns-in_err-write-clause-unborn
returns-in_err-write-clause-unborn g c = λ known.
    still_unborn g.D.Disk.seen g.D.Disk.touched g.D.Disk.clock g.D.Disk.left_since c.args.disk.now c.write.new.self c.args.a c.requires.beside (c.requires.unborn known) (c.write.ensures.change known)

pub returns-in_err-write-clause-crash : goal.returns-in_err-write-clause-crash
returns-in_err-write-clause-crash g c = λ known s dba so_far.
    one_write g.D.Disk.seen g.D.Disk.touched g.D.Disk.clock g.D.Disk.left_since dba s c.args.disk.now c.write.new.self c.args.a c.requires.beside (c.requires.unborn known) (c.write.ensures.change known)
    (c.write.ensures.time known) so_far

pub returns-clause-unborn : goal.returns-clause-unborn
returns-clause-unborn g c = λ known.
    still_unborn g.D.Disk.seen g.D.Disk.touched g.D.Disk.clock g.D.Disk.left_since c.args.disk.now c.write.new.self c.args.a c.requires.beside (c.requires.unborn known) (c.write.ensures.change known)

pub returns-clause-crash : goal.returns-clause-crash
returns-clause-crash g c = λ known s dba so_far.
    one_write g.D.Disk.seen g.D.Disk.touched g.D.Disk.clock g.D.Disk.left_since dba s c.args.disk.now c.write.new.self c.args.a c.requires.beside (c.requires.unborn known) (c.write.ensures.change known)
    (c.write.ensures.time known) so_far
