use Rattle.std.proofs.Common.{◌≡◌}
use Rattle.disk_model.specs.declared.calls.Call.TheVariants.{Write}
use Rattle.disk_model.specs.MemoryDisk.{state}
use Rattle.disk_model.proofs.Entries.{wrote, changes, write_alters, failed_write_alters, elapses, noted}
use Rattle.disk_model.proofs.mem_disk.MemDiskDisk.write.Goals as goal

pub returns-clause-written : goal.returns-clause-written
returns-clause-written c = wrote (state c.args.self.now) (state c.note.new.self) c.args.a c.args.page.now c.note.result c.note.ensures.does

pub returns-clause-change : goal.returns-clause-change
returns-clause-change c =
    let e = changes (λ b. b ≡ c.args.a) (state c.args.self.now) (state c.note.new.self) (Write c.args.a c.args.page.now) c.note.result (write_alters c.args.a c.args.page.now) (failed_write_alters c.args.a) c.note.ensures.does in
    record { elsewhere = e.elsewhere; touches = e.touches }

pub returns-clause-time : goal.returns-clause-time
returns-clause-time c =
    let e = elapses (state c.args.self.now) (state c.note.new.self) (Write c.args.a c.args.page.now) c.note.result c.note.ensures.does in
    record { later = e.later; nothing_else = e.nothing_else; keeps = e.keeps }

pub returns-clause-noted : goal.returns-clause-noted
returns-clause-noted c = noted (state c.args.self.now) (state c.note.new.self) (Write c.args.a c.args.page.now) c.note.result c.note.ensures.does
