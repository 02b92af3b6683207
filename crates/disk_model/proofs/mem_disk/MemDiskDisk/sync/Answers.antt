use Rattle.disk_model.specs.declared.calls.Call.TheVariants.{Sync}
use Rattle.disk_model.specs.MemoryDisk.{state}
use Rattle.disk_model.proofs.Entries.{synced_seen, synced_touched, synced_settled, elapses, noted}
use Rattle.disk_model.proofs.mem_disk.MemDiskDisk.sync.Goals as goal

pub returns-clause-durable : goal.returns-clause-durable
returns-clause-durable c = synced_settled (state c.args.self.now) (state c.note.new.self) c.note.result c.note.ensures.does

pub returns-clause-seen : goal.returns-clause-seen
returns-clause-seen c = synced_seen (state c.args.self.now) (state c.note.new.self) c.note.result c.note.ensures.does

pub returns-clause-touched : goal.returns-clause-touched
returns-clause-touched c = synced_touched (state c.args.self.now) (state c.note.new.self) c.note.result c.note.ensures.does

pub returns-clause-time : goal.returns-clause-time
returns-clause-time c =
    let e = elapses (state c.args.self.now) (state c.note.new.self) Sync c.note.result c.note.ensures.does in
    record { later = e.later; nothing_else = e.nothing_else; keeps = e.keeps }

pub returns-clause-noted : goal.returns-clause-noted
returns-clause-noted c = noted (state c.args.self.now) (state c.note.new.self) Sync c.note.result c.note.ensures.does
