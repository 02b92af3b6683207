use Rattle.std.proofs.Common.{sym}
use Rattle.heap_am.proofs.Heaps.{no_row}
use Rattle.heap_am.proofs.method.HeapAccessMethod.row_at.Goals as goal

pub returns-else-place-self-clause-known : goal.returns-else-place-self-clause-known
returns-else-place-self-clause-known g c m rows t e = sym (no_row c.args.self.now.file m rows c.args.place.now c.args.self.now.pages e c.if-place-self.false)
