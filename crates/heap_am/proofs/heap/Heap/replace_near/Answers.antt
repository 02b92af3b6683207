use Rattle.heap_am.proofs.Changed.{are_short, bytes_are}
use Rattle.heap_am.proofs.Rooms.{room_left}
use Rattle.heap_am.proofs.heap.Heap.replace_near.Goals as goal

pub renew_first-requires-clause-short : goal.renew_first-requires-clause-short
renew_first-requires-clause-short g c =
    are_short c.items-4.result.now c.in_ok-new.new c.items.result.now c.args.self.now.file.domains c.args.coming.now c.items-4.ensures c.items.ensures c.in_ok-new.ensures c.args.self.now.some c.args.self.now.most c.requires.coming

pub returns-clause-known : goal.returns-clause-known
returns-clause-known g c m rows t e differ once there =
    c.renew_first.ensures.known m rows c.args.going.now c.args.coming.now t e c.requires.going
    (bytes_are c.items-3.result.now c.in_ok-gone.gone c.items-2.result.now c.args.self.now.file.domains c.args.going.now c.items-3.ensures c.items-2.ensures c.in_ok-gone.ensures)
    c.requires.coming
    (bytes_are c.items-4.result.now c.in_ok-new.new c.items.result.now c.args.self.now.file.domains c.args.coming.now c.items-4.ensures c.items.ensures c.in_ok-new.ensures)
    differ once there

pub returns-clause-others : goal.returns-clause-others
returns-clause-others g c = c.renew_first.ensures.others

pub returns-clause-file : goal.returns-clause-file
returns-clause-file g c = c.renew_first.ensures.file

pub returns-clause-came : goal.returns-clause-came
returns-clause-came g c = c.renew_first.ensures.came

pub returns-clause-cause : goal.returns-clause-cause
returns-clause-cause g c = c.renew_first.ensures.cause

pub renew_first-requires-clause-room : goal.renew_first-requires-clause-room
renew_first-requires-clause-room g c = room_left c.args.self.now.file.used c.items-4.result.now c.in_ok-new.new c.items.result.now c.args.coming.now c.items-4.ensures c.in_ok-new.ensures c.requires.room

pub returns-then-is_empty-clause-known : goal.returns-then-is_empty-clause-known
returns-then-is_empty-clause-known g c = c.change.ensures.known

pub returns-then-is_empty-clause-others : goal.returns-then-is_empty-clause-others
returns-then-is_empty-clause-others g c = c.change.ensures.others

pub returns-then-is_empty-clause-file : goal.returns-then-is_empty-clause-file
returns-then-is_empty-clause-file g c = c.change.ensures.file

pub returns-then-is_empty-clause-came : goal.returns-then-is_empty-clause-came
returns-then-is_empty-clause-came g c = c.change.ensures.came

pub returns-then-is_empty-clause-cause : goal.returns-then-is_empty-clause-cause
returns-then-is_empty-clause-cause g c = c.change.ensures.cause

pub returns-clause-only : goal.returns-clause-only
returns-clause-only g c m rows t e differ once =
    c.renew_first.ensures.only m rows c.args.going.now t e c.requires.going
    (bytes_are c.items-3.result.now c.in_ok-gone.gone c.items-2.result.now c.args.self.now.file.domains c.args.going.now c.items-3.ensures c.items-2.ensures c.in_ok-gone.ensures)
    differ once

pub returns-then-is_empty-clause-only : goal.returns-then-is_empty-clause-only
returns-then-is_empty-clause-only g c = c.change.ensures.only
