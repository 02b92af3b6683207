use Rattle.db_disk.proofs.Calls.{bears}
use Rattle.std.proofs.Common.{refl}
use Rattle.db_disk.proofs.Making.{born_written, born_synced, new_there}
use Rattle.db_disk.proofs.create.give_birth.Goals as goal

pub returns-in_err-write-clause-crash : goal.returns-in_err-write-clause-crash
returns-in_err-write-clause-crash g c = λ known s so_far.
    born_written g.D.Disk.seen g.D.Disk.touched g.D.Disk.clock g.D.Disk.left_since c.args.dba.now s c.args.disk.now c.write.new.self (c.requires.ready known) (c.requires.settled known) (c.write.ensures.change known)
    (c.write.ensures.time known) so_far

pub returns-in_err-sync-clause-crash : goal.returns-in_err-sync-clause-crash
returns-in_err-sync-clause-crash g c = λ known s so_far.
    born_synced g.D.Disk.seen g.D.Disk.touched g.D.Disk.clock g.D.Disk.left_since c.args.dba.now s c.args.disk.now c.write.new.self (c.requires.ready known) (c.requires.settled known) (c.write.ensures.change known)
    c.sync.new.self (c.write.ensures.time known) (c.sync.ensures.seen known) (c.sync.ensures.touched known) (c.sync.ensures.time known) so_far

pub returns-clause-crash : goal.returns-clause-crash
returns-clause-crash g c = λ known s so_far.
    born_synced g.D.Disk.seen g.D.Disk.touched g.D.Disk.clock g.D.Disk.left_since c.args.dba.now s c.args.disk.now c.write.new.self (c.requires.ready known) (c.requires.settled known) (c.write.ensures.change known)
    c.sync.new.self (c.write.ensures.time known) (c.sync.ensures.seen known) (c.sync.ensures.touched known) (c.sync.ensures.time known) so_far

pub returns-clause-new : goal.returns-clause-new
returns-clause-new g c = λ known.
    new_there g.D.Disk.seen g.D.Disk.touched g.D.Disk.clock g.D.Disk.left_since c.args.dba.now c.args.disk.now c.args.disk.now c.write.new.self (c.requires.ready known) (c.requires.settled known) (c.write.ensures.change known)
    c.sync.new.self _ (c.in_ok-write.ensures.written known) refl (c.sync.ensures.seen known)

pub returns-clause-made : goal.returns-clause-made
returns-clause-made g c = bears _ _ _ _ c.in_ok-write.ensures.noted c.in_ok-sync.ensures.noted refl
