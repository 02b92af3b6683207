-- Of which parts a fault is, and what it says of their counts.
use Rattle.std.proofs.Common.{◌≡◌, refl, sym, subst, ℕ, Result, Ok, Err, IfErr, arith}
use Rattle.fault_io.specs.Shelves.{HasShelfCause}
use Rattle.fault_io.specs.declared.shelf.ShelfFault.TheVariants as shelf_faults
use Rattle.net_core.specs.declared.fault.WorkFault.{WorkFault}
use Rattle.net_core.specs.declared.fault.WorkFault.TheVariants as faults
use Rattle.monitor.specs.Faults.{CountsShelf, CountsSink, IsLater, IsOfLine, IsOfMonitor, IsOfPrinting, IsOfReading, IsOfStoring, ShelfSays, SinkSays}

-- ---- of which parts

pub line_reads : (f : WorkFault) → IsOfLine f → IsOfReading f
line_reads faults.Source h = tt
line_reads faults.TooLong h = tt
line_reads faults.OutOfMemory h = tt
line_reads _ h = absurd h

pub reads_here : (f : WorkFault) → IsOfReading f → IsOfMonitor f
reads_here faults.Source h = tt
reads_here faults.TooLong h = tt
reads_here faults.Shelf h = tt
reads_here faults.OutOfMemory h = tt
reads_here _ h = absurd h

pub prints_here : (f : WorkFault) → IsOfPrinting f → IsOfMonitor f
prints_here faults.Sink h = tt
prints_here faults.OutOfMemory h = tt
prints_here _ h = absurd h

pub stores_here : (f : WorkFault) → IsOfStoring f → IsOfMonitor f
stores_here faults.Shelf h = tt
stores_here faults.OutOfMemory h = tt
stores_here _ h = absurd h

pub prints_later : (f : WorkFault) → IsOfPrinting f → IsLater f
prints_later faults.Sink h = tt
prints_later faults.OutOfMemory h = tt
prints_later _ h = absurd h

pub stores_later : (f : WorkFault) → IsOfStoring f → IsLater f
stores_later faults.Shelf h = tt
stores_later faults.OutOfMemory h = tt
stores_later _ h = absurd h

-- ---- the shelf

pub shelf_same : {T : Type 0} (n : ℕ) (x : T) → CountsShelf n n (Ok x)
shelf_same n x = record { later = omega arith; says = refl }

pub shelf_as : {T U : Type 0} {before now : ℕ} (x : T) (y : U) → CountsShelf before now (Ok x) → CountsShelf before now (Ok y)
shelf_as x y h = record { later = h.later; says = h.says }

-- a call of the shelf answered, failed, or found no memory
pub shelf_ok : {T U : Type 0} {before now : ℕ} (x : T) (y : U) → HasShelfCause before now (Ok x) → CountsShelf before now (Ok y)
shelf_ok x y h = record { later = h.later; says = h.otherwise (λ e. cc e) }

pub shelf_failed : {T U : Type 0} {before now : ℕ} → HasShelfCause {T = T} before now (Err shelf_faults.Failed) → CountsShelf {T = U} before now (Err faults.Shelf)
shelf_failed h = record { later = h.later; says = h.failed refl }

pub shelf_no_memory : {T U : Type 0} {before now : ℕ} → HasShelfCause {T = T} before now (Err shelf_faults.OutOfMemory) → CountsShelf {T = U} before now (Err faults.OutOfMemory)
shelf_no_memory h = record { later = h.later; says = h.otherwise (λ e. cc e) }

-- it was not called, and the fault isn't its own
pub shelf_unused : {T : Type 0} (n : ℕ) (f : WorkFault) (r : Result T WorkFault) → r ≡ Err f → ShelfSays n n f → CountsShelf n n r
shelf_unused {T} n f r is says = subst (λ (x : Result T WorkFault). CountsShelf n n x) (sym is) (record { later = omega arith; says = says })

pub line_unshelved : (n : ℕ) (f : WorkFault) → IsOfLine f → ShelfSays n n f
line_unshelved n faults.Shelf h = absurd h
line_unshelved n _ h = refl

pub print_unshelved : (n m : ℕ) (f : WorkFault) → IsOfPrinting f → m ≡ n → ShelfSays n m f
print_unshelved n m faults.Shelf h e = absurd h
print_unshelved n m _ h e = e

-- the fault of a call is handed on
pub shelf_err : {T U : Type 0} {before now : ℕ} (f : WorkFault) (r : Result U WorkFault) → r ≡ Err f → CountsShelf {T = T} before now (Err f) → CountsShelf before now r
shelf_err {T} {U} {before} {now} f r is h = subst (λ (x : Result U WorkFault). CountsShelf before now x) (sym is) (record { later = h.later; says = h.says })

-- it answered, and printing failed behind it
pub shelf_printing : {T U : Type 0} {before now : ℕ} (x : T) (f : WorkFault) (r : Result U WorkFault) → r ≡ Err f → IsOfPrinting f → CountsShelf before now (Ok x) → CountsShelf before now r
shelf_printing {T} {U} {before} {now} x f r is of h = subst (λ (y : Result U WorkFault). CountsShelf before now y) (sym is) (record { later = h.later; says = print_unshelved before now f of h.says })

-- one call behind another that answered
pub shelf_behind : {T U : Type 0} {before mid now : ℕ} (x : T) (r : Result U WorkFault) → CountsShelf before mid (Ok x) → CountsShelf mid now r → CountsShelf before now r
shelf_behind {T} {U} {before} {mid} {now} x r h k = subst (λ (n : ℕ). CountsShelf n now r) h.says k

-- ---- the sink

pub sink_same : {T : Type 0} (n m : ℕ) (x : T) → CountsSink n n m m (Ok x)
sink_same n m x = record { later = omega arith; stalls_later = omega arith; says = (refl, refl) }

pub sink_as : {T U : Type 0} {before now stalls stalls' : ℕ} (x : T) (y : U) → CountsSink before now stalls stalls' (Ok x) → CountsSink before now stalls stalls' (Ok y)
sink_as x y h = record { later = h.later; stalls_later = h.stalls_later; says = h.says }

-- it was not called, and the fault isn't its own
pub sink_unused : {T : Type 0} (n m : ℕ) (f : WorkFault) (r : Result T WorkFault) → r ≡ Err f → SinkSays n n m m f → CountsSink n n m m r
sink_unused {T} n m f r is says = subst (λ (x : Result T WorkFault). CountsSink n n m m x) (sym is) (record { later = omega arith; stalls_later = omega arith; says = says })

pub reading_unsunk : (n m : ℕ) (f : WorkFault) → IsOfReading f → SinkSays n n m m f
reading_unsunk n m faults.Sink h = absurd h
reading_unsunk n m _ h = (refl, refl)

storing_unsunk : (n n' m m' : ℕ) (f : WorkFault) → IsOfStoring f → (n' ≡ n) × (m' ≡ m) → SinkSays n n' m m' f
storing_unsunk n n' m m' faults.Sink h e = absurd h
storing_unsunk n n' m m' _ h e = e

-- the fault of a call is handed on
pub sink_err : {T U : Type 0} {before now stalls stalls' : ℕ} (f : WorkFault) (r : Result U WorkFault) → r ≡ Err f → CountsSink {T = T} before now stalls stalls' (Err f) → CountsSink before now stalls stalls' r
sink_err {T} {U} {before} {now} {stalls} {stalls'} f r is h =
    subst (λ (x : Result U WorkFault). CountsSink before now stalls stalls' x) (sym is) (record { later = h.later; stalls_later = h.stalls_later; says = h.says })

-- it answered, and then the file was stored or not
pub sink_storing : {T U : Type 0} {before now stalls stalls' : ℕ} (x : T) (r : Result U WorkFault) → IfErr r (λ f. IsOfStoring f) → CountsSink before now stalls stalls' (Ok x) → CountsSink before now stalls stalls' r
sink_storing x (Ok y) of h = record { later = h.later; stalls_later = h.stalls_later; says = h.says }
sink_storing {before = before} {now = now} {stalls = stalls} {stalls' = stalls'} x (Err f) of h = record { later = h.later; stalls_later = h.stalls_later; says = storing_unsunk before now stalls stalls' f of h.says }
