use Rattle.db_disk.proofs.Making.{first_sync, one_read}
use Rattle.db_disk.proofs.create.is_born_still.Goals as goal

pub returns-in_err-sync-clause-crash : goal.returns-in_err-sync-clause-crash
returns-in_err-sync-clause-crash g c = λ known dba.
    first_sync g.D.Disk.seen g.D.Disk.touched g.D.Disk.clock g.D.Disk.left_since dba c.args.disk.now c.sync.new.self (λ m left. g.met.D.Disk.only_now c.args.disk.now m known left) (c.sync.ensures.seen known)
    (c.sync.ensures.touched known) (c.sync.ensures.time known)

pub returns-clause-crash : goal.returns-clause-crash
returns-clause-crash g c = λ known dba.
    one_read g.D.Disk.seen g.D.Disk.touched g.D.Disk.clock g.D.Disk.left_since dba c.args.disk.now c.sync.new.self c.is_born.new.disk (c.is_born.ensures.same known)
    (first_sync g.D.Disk.seen g.D.Disk.touched g.D.Disk.clock g.D.Disk.left_since dba c.args.disk.now c.sync.new.self (λ m left. g.met.D.Disk.only_now c.args.disk.now m known left) (c.sync.ensures.seen known)
    (c.sync.ensures.touched known) (c.sync.ensures.time known))
