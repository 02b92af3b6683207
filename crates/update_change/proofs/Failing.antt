-- A fault of pairs is one that may come, whatever database is known.
use Rattle.std.proofs.Common.{◌≡◌, ℕ, List, [], Option}
use Rattle.calculus.specs.declared.change.Pair.{Pair}
use Rattle.calculus.specs.declared.request.Update.{Update}
use Rattle.calculus.specs.Database.{Db}
use Rattle.calculus.specs.Rows.{Row}
use Rattle.calculus.specs.Stored.{rows_at}
use Rattle.update_change.specs.declared.fault.UpdateFault.{UpdateFault}
use Rattle.update_change.specs.declared.fault.UpdateFault.TheVariants.{Contended, TooMany, Base, OutOfMemory}
use Rattle.update_change.specs.Causes.{IsCause, MayFail}

pub may_fail : (u : Update) (ps : List Pair) (known : Option Db) (before now : ℕ) (fault : UpdateFault)
    → now ≡ before → ((rows : List Row) → IsCause rows ps fault) → MayFail u ps known before now fault
may_fail u ps known before now (Contended old first second) stayed cause = (stayed, (cause []).0, (cause []).1)
may_fail u ps known before now (TooMany count) stayed cause = (stayed, (cause []).0, λ db e new. ((cause (rows_at db u.rel)).1, (cause (rows_at db u.rel)).2))
may_fail u ps known before now (Base fault) stayed cause = absurd (cause [])
may_fail u ps known before now OutOfMemory stayed cause = stayed
