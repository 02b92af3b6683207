use Rattle.std.proofs.Common.{sym, refl, subst, IsTrue, arith}
use Rattle.heap_am.specs.Heap.{heap_rows}
use Rattle.am_traits.specs.Placed.{NowHolds, Replaced, rows_of}
use Rattle.heap_am.proofs.Changed.{are_short, bytes_are, none_of_them}
use Rattle.heap_am.specs.Heap.{HeapFault}
use Rattle.heap_am.proofs.Rooms.{room_left, cause_same}
use Rattle.std.specs.List.{All}
use Rattle.calculus.specs.Rows.{has}
use Rattle.heap_am.proofs.heap.Heap.change.Goals as goal

pub extend-requires-clause-short : goal.extend-requires-clause-short
extend-requires-clause-short g c =
    are_short c.items-then-is_empty.result.now c.in_ok-new.new c.items.result.now c.args.self.now.file.domains c.args.coming.now c.items-then-is_empty.ensures c.items.ensures c.in_ok-new.ensures c.args.self.now.some c.args.self.now.most c.requires.coming

pub returns-then-is_empty-clause-known : goal.returns-then-is_empty-clause-known
returns-then-is_empty-clause-known g c m rows t e differ once there = (
  refl,
  subst (λ gone. NowHolds (heap_rows c.extend.new.self.file) (g.S.PageStore.pages c.extend.new.store) (Replaced rows gone c.args.coming.now)) (sym (none_of_them c.args.going.now c.is_empty.result c.is_empty.ensures c.if-is_empty.true))
      (c.in_ok-extend.ensures.known m rows c.args.coming.now t e c.requires.coming
      (bytes_are c.items-then-is_empty.result.now c.in_ok-new.new c.items.result.now c.args.self.now.file.domains c.args.coming.now c.items-then-is_empty.ensures c.items.ensures c.in_ok-new.ensures)),
)

pub renew-requires-clause-short : goal.renew-requires-clause-short
renew-requires-clause-short g c =
    are_short c.items-4.result.now c.in_ok-new.new c.items.result.now c.args.self.now.file.domains c.args.coming.now c.items-4.ensures c.items.ensures c.in_ok-new.ensures c.args.self.now.some c.args.self.now.most c.requires.coming

pub returns-clause-known : goal.returns-clause-known
returns-clause-known g c m rows t e differ once there =
    c.renew.ensures.known m rows c.args.going.now c.args.coming.now t e c.requires.going
    (bytes_are c.items-3.result.now c.in_ok-gone.gone c.items-2.result.now c.args.self.now.file.domains c.args.going.now c.items-3.ensures c.items-2.ensures c.in_ok-gone.ensures)
    c.requires.coming
    (bytes_are c.items-4.result.now c.in_ok-new.new c.items.result.now c.args.self.now.file.domains c.args.coming.now c.items-4.ensures c.items.ensures c.in_ok-new.ensures)
    differ once there

pub returns-clause-others : goal.returns-clause-others
returns-clause-others g c = c.renew.ensures.others

pub returns-clause-file : goal.returns-clause-file
returns-clause-file g c = c.renew.ensures.file

pub returns-clause-came : goal.returns-clause-came
returns-clause-came g c = c.renew.ensures.came

pub returns-clause-cause : goal.returns-clause-cause
returns-clause-cause g c = c.renew.ensures.cause

pub extend-requires-clause-room : goal.extend-requires-clause-room
extend-requires-clause-room g c = room_left c.args.self.now.file.used c.items-then-is_empty.result.now c.in_ok-new.new c.items.result.now c.args.coming.now c.items-then-is_empty.ensures c.in_ok-new.ensures c.requires.room

pub renew-requires-clause-room : goal.renew-requires-clause-room
renew-requires-clause-room g c = room_left c.args.self.now.file.used c.items-4.result.now c.in_ok-new.new c.items.result.now c.args.coming.now c.items-4.ensures c.in_ok-new.ensures c.requires.room

pub returns-then-is_empty-clause-others : goal.returns-then-is_empty-clause-others
returns-then-is_empty-clause-others g c = c.in_ok-extend.ensures.others

pub returns-then-is_empty-clause-file : goal.returns-then-is_empty-clause-file
returns-then-is_empty-clause-file g c = c.in_ok-extend.ensures.file

pub returns-then-is_empty-clause-came : goal.returns-then-is_empty-clause-came
returns-then-is_empty-clause-came g c = c.extend.ensures.came

pub returns-then-is_empty-clause-cause : goal.returns-then-is_empty-clause-cause
returns-then-is_empty-clause-cause g c = record { later = c.extend.ensures.cause.later; caused = c.in_ok-extend.ensures.cause.caused }

pub returns-in_err-extend-clause-came : goal.returns-in_err-extend-clause-came
returns-in_err-extend-clause-came g c = c.extend.ensures.came

pub returns-in_err-extend-clause-cause : goal.returns-in_err-extend-clause-cause
returns-in_err-extend-clause-cause g c =
    cause_same (g.S.PageStore.pages c.args.store.now) (HeapFault c.args.self.now.file) (g.S.PageStore.faults c.args.store.now) (g.S.PageStore.faults c.extend.new.store)
    c.from_residual-in_err-extend.result c.in_err-extend.field-0.0 c.in_err-extend.ensures.cause c.from_residual-in_err-extend.ensures.1

pub returns-then-is_empty-clause-only : goal.returns-then-is_empty-clause-only
returns-then-is_empty-clause-only g c m rows t e differ once all =
    subst (All (λ row. IsTrue (has (rows_of rows) row))) (sym (none_of_them c.args.going.now c.is_empty.result c.is_empty.ensures c.if-is_empty.true)) (λ k d lt. absurd (omega arith))

pub returns-clause-only : goal.returns-clause-only
returns-clause-only g c m rows t e differ once =
    c.renew.ensures.only m rows c.args.going.now t e c.requires.going
    (bytes_are c.items-3.result.now c.in_ok-gone.gone c.items-2.result.now c.args.self.now.file.domains c.args.going.now c.items-3.ensures c.items-2.ensures c.in_ok-gone.ensures)
    differ once
