use Rattle.std.proofs.Common.{◌≡◌}
use Rattle.disk_model.specs.declared.calls.Call.TheVariants.{Cut}
use Rattle.disk_model.specs.MemoryDisk.{state}
use Rattle.disk_model.proofs.Entries.{was_cut, changes, cut_alters, failed_cut_alters, elapses, noted}
use Rattle.disk_model.proofs.mem_disk.MemDiskDisk.cut.Goals as goal

pub returns-clause-cut : goal.returns-clause-cut
returns-clause-cut c = was_cut (state c.args.self.now) (state c.note.new.self) c.args.file c.note.result c.note.ensures.does

pub returns-clause-change : goal.returns-clause-change
returns-clause-change c =
    let e = changes (λ b. b.file ≡ c.args.file) (state c.args.self.now) (state c.note.new.self) (Cut c.args.file) c.note.result (cut_alters c.args.file) (failed_cut_alters c.args.file) c.note.ensures.does in
    record { elsewhere = e.elsewhere; touches = e.touches }

pub returns-clause-time : goal.returns-clause-time
returns-clause-time c =
    let e = elapses (state c.args.self.now) (state c.note.new.self) (Cut c.args.file) c.note.result c.note.ensures.does in
    record { later = e.later; nothing_else = e.nothing_else; keeps = e.keeps }

pub returns-clause-noted : goal.returns-clause-noted
returns-clause-noted c = noted (state c.args.self.now) (state c.note.new.self) (Cut c.args.file) c.note.result c.note.ensures.does
