use Rattle.db_disk.proofs.Calls.{creates}
use Rattle.db_disk.proofs.Held.{making_holds, new_is_held}
use Rattle.db_disk.proofs.create.create_db.Goals as goal

pub returns-in_err-is_born_still-clause-crash : goal.returns-in_err-is_born_still-clause-crash
returns-in_err-is_born_still-clause-crash g c = λ known.
    making_holds g.D.Disk.seen g.D.Disk.touched g.D.Disk.clock g.D.Disk.left_since c.args.dba.now c.args.disk.now c.is_born_still.new.disk c.bytes-name.ensures.name (c.is_born_still.ensures.crash known c.args.dba.now)

pub returns-then-branch-clause-crash : goal.returns-then-branch-clause-crash
returns-then-branch-clause-crash g c = λ known.
    making_holds g.D.Disk.seen g.D.Disk.touched g.D.Disk.clock g.D.Disk.left_since c.args.dba.now c.args.disk.now c.is_born_still.new.disk c.bytes-name.ensures.name (c.is_born_still.ensures.crash known c.args.dba.now)

pub returns-in_err-make-clause-crash : goal.returns-in_err-make-clause-crash
returns-in_err-make-clause-crash g c = λ known.
    making_holds g.D.Disk.seen g.D.Disk.touched g.D.Disk.clock g.D.Disk.left_since c.args.dba.now c.args.disk.now c.make.new.disk c.bytes-name.ensures.name
    (c.make.ensures.crash known c.args.disk.now (c.is_born_still.ensures.crash known c.args.dba.now))

pub returns-clause-crash : goal.returns-clause-crash
returns-clause-crash g c = λ known.
    making_holds g.D.Disk.seen g.D.Disk.touched g.D.Disk.clock g.D.Disk.left_since c.args.dba.now c.args.disk.now c.make.new.disk c.bytes-name.ensures.name
    (c.make.ensures.crash known c.args.disk.now (c.is_born_still.ensures.crash known c.args.dba.now))

pub returns-clause-new : goal.returns-clause-new
returns-clause-new g c = λ known. new_is_held c.args.dba.now (g.D.Disk.seen c.make.new.disk) c.bytes-name.ensures.name (c.in_ok-make.ensures.new known)

pub returns-clause-made : goal.returns-clause-made
returns-clause-made g c = creates _ _ _ _ c.in_ok-is_born_still.ensures.noted c.in_ok-make.ensures.made
