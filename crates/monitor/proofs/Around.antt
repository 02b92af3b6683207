-- What the parts of the outside say, as what a stage owes of all of it.
use Rattle.std.proofs.Common.{◌≡◌, ◌⊎◌, inl, inr, sym, subst, ◌∙◌, ℕ, Option, Result, Ok, Err, IfErr, IsErrOf, IsOk, arith}
use Rattle.std.proofs.lemmas.Option.{same_Some}
use Rattle.base_trait.specs.Crashes.{AllDenote}
use Rattle.calculus.specs.Database.{Db}
use Rattle.net_core.specs.Causes.{IsCaused, MayCome}
use Rattle.net_core.specs.Crashes.{StaysDurable}
use Rattle.net_core.specs.declared.fault.WorkFault.{WorkFault}
use Rattle.net_core.specs.declared.fault.WorkFault.TheVariants as faults
use Rattle.net_core.specs.Known.{KeepsDatabase, Later, Outside}
use Rattle.net_core.specs.Reads.{ReadsNothing, ReadsOn, ReadsScript}
use Rattle.net_core.specs.Spares.{CountsOnly, CountsOnlyBy, LeavesEnds, Spares, SparesBy, counts}
use Rattle.network_meaning.specs.LocalSteps.{Mode.reading}
use Rattle.quel_network.specs.Sorts.{Monitor}
use Rattle.monitor.specs.Asked.{SourceAsked, Unasked}
use Rattle.monitor.specs.Doing.{SparesOut}
use Rattle.monitor.specs.Faults.{CountsShelf, CountsSink, IsOfMonitor, ShelfSays, SinkSays}
use Rattle.monitor.specs.Lines.{SourceRead, SourceSays}
use Rattle.monitor.specs.Standing.{mode_at}
use Rattle.monitor.specs.declared.at.At.{At}
use Rattle.monitor.specs.declared.at.At.TheVariants as at

-- the database is as it was, and this is what the source, the shelf and the sink say
pub record Around {T : Type 0} (heard heard' : ℕ) (o o' : Outside) (result : Result T WorkFault) : Type 0 where
  pub database : o'.database ≡ o.database
  pub base : o'.base_faults ≡ o.base_faults
  pub source : SourceRead heard heard' o.script o'.script o.given o'.given o.source_faults o'.source_faults result
  pub shelf : CountsShelf o.shelf_faults o'.shelf_faults result
  pub sink : CountsSink o.sink_faults o'.sink_faults o.sink_stalls o'.sink_stalls result
  pub spares : IfErr result (λ f. SparesOut o.files o'.files o.output o'.output f)
  pub inside : IfErr result (λ f. IsOfMonitor f)

-- ---- causes

may_come : (f : WorkFault) (heard : ℕ) (o o' : Outside) → SourceSays heard o.script o.source_faults o'.source_faults f → ShelfSays o.shelf_faults o'.shelf_faults f → SinkSays o.sink_faults o'.sink_faults o.sink_stalls o'.sink_stalls f → IsOfMonitor f → MayCome heard o o' f
may_come faults.Source heard o o' s h k i = s
may_come faults.TooLong heard o o' s h k i = s.1
may_come faults.Shelf heard o o' s h k i = h
may_come faults.Sink heard o o' s h k i = k
may_come faults.OutOfMemory heard o o' s h k i = tt
may_come faults.Unlawful heard o o' s h k i = tt
may_come faults.Disk heard o o' s h k i = absurd i
may_come (faults.Damaged file page) heard o o' s h k i = absurd i

pub caused : {T : Type 0} (heard heard' : ℕ) (o o' : Outside) (r : Result T WorkFault) → Around heard heard' o o' r → IsCaused heard o o' r
caused heard heard' o o' (Ok x) a = tt
caused heard heard' o o' (Err f) a = may_come f heard o o' a.source.says a.shelf.says a.sink.says a.inside

pub never_unlawful : {T P : Type 0} (heard heard' : ℕ) (o o' : Outside) (r : Result T WorkFault) → Around heard heard' o o' r → IsErrOf r faults.Unlawful → P
never_unlawful heard heard' o o' (Ok x) a e = absurd (cc e)
never_unlawful heard heard' o o' (Err f) a e = let same : f ≡ faults.Unlawful = cc e in absurd (subst (λ (x : WorkFault). IsOfMonitor x) same a.inside)

-- ---- counts

same_counts : (o o' : Outside) → o'.base_faults ≡ o.base_faults → o'.shelf_faults ≡ o.shelf_faults → o'.source_faults ≡ o.source_faults → (o'.sink_faults ≡ o.sink_faults) × (o'.sink_stalls ≡ o.sink_stalls) → counts o' ≡ counts o
same_counts o o' b h s k = λ i. record { base = b i; shelf = h i; source = s i; sink = k.0 i; stalls = k.1 i }

counts_by : (f : WorkFault) (heard : ℕ) (o o' : Outside) → o'.base_faults ≡ o.base_faults → SourceSays heard o.script o.source_faults o'.source_faults f → ShelfSays o.shelf_faults o'.shelf_faults f → SinkSays o.sink_faults o'.sink_faults o.sink_stalls o'.sink_stalls f
    → CountsOnlyBy o o' f
counts_by faults.Source heard o o' b s h k = λ i. record { base = b i; shelf = h i; source = o'.source_faults; sink = k.0 i; stalls = k.1 i }
counts_by faults.Shelf heard o o' b s h k = λ i. record { base = b i; shelf = o'.shelf_faults; source = s i; sink = k.0 i; stalls = k.1 i }
counts_by faults.Sink heard o o' b s h k = λ i. record { base = b i; shelf = h i; source = s i; sink = o'.sink_faults; stalls = o'.sink_stalls }
counts_by faults.Disk heard o o' b s h k = λ i. record { base = o'.base_faults; shelf = h i; source = s i; sink = k.0 i; stalls = k.1 i }
counts_by faults.TooLong heard o o' b s h k = same_counts o o' b h s.0 k
counts_by (faults.Damaged file page) heard o o' b s h k = same_counts o o' b h s k
counts_by faults.Unlawful heard o o' b s h k = same_counts o o' b h s k
counts_by faults.OutOfMemory heard o o' b s h k = same_counts o o' b h s k

pub counted : {T : Type 0} (heard heard' : ℕ) (o o' : Outside) (r : Result T WorkFault) → Around heard heard' o o' r → CountsOnly o o' r
counted heard heard' o o' (Ok x) a = same_counts o o' a.base a.shelf.says a.source.says a.sink.says
counted heard heard' o o' (Err f) a = counts_by f heard o o' a.base a.source.says a.shelf.says a.sink.says

pub all_later : {T : Type 0} (heard heard' : ℕ) (o o' : Outside) (r : Result T WorkFault) → Around heard heard' o o' r → Later o o'
all_later heard heard' o o' r a = record { base = omega (arith, a.base); shelf = a.shelf.later; source = a.source.later; sink = a.sink.later; stalls = a.sink.stalls_later }

-- ---- what is spared

spares_by : (f : WorkFault) (o o' : Outside) → o'.database ≡ o.database → SparesOut o.files o'.files o.output o'.output f → SparesBy o o' f
spares_by faults.Source o o' db s = record { output = s.0; files = s.1; database = db }
spares_by faults.TooLong o o' db s = record { output = s.0; files = s.1; database = db }
spares_by faults.Disk o o' db s = tt
spares_by (faults.Damaged file page) o o' db s = tt
spares_by faults.Sink o o' db s = db
spares_by faults.Shelf o o' db s = db
spares_by faults.Unlawful o o' db s = db
spares_by faults.OutOfMemory o o' db s = db

pub spared : {T : Type 0} (heard heard' : ℕ) (o o' : Outside) (r : Result T WorkFault) → Around heard heard' o o' r → Spares o o' r
spared heard heard' o o' (Ok x) a = tt
spared heard heard' o o' (Err f) a = spares_by f o o' a.database a.spares

pub database_kept : {T : Type 0} (heard heard' : ℕ) (o o' : Outside) (r : Result T WorkFault) → Around heard heard' o o' r → KeepsDatabase o o'
database_kept heard heard' o o' r a db known = (db, a.database ∙ known)

-- ---- what was read

-- it reads
pub reads_on : {T : Type 0} (m : Monitor) (here : At) (heard heard' : ℕ) (o o' : Outside) (r : Result T WorkFault) → here ≡ at.Reading → Around heard heard' o o' r → SourceAsked m heard heard' o.script o'.script o.source_ended o'.source_ended r
    → ReadsOn (mode_at m here) heard heard' o o' (IsErrOf r faults.Source) (IsOk r)
reads_on m here heard heard' o o' r is a s = subst (λ (place : At). ReadsOn (mode_at m place) heard heard' o o' (IsErrOf r faults.Source) (IsOk r)) (sym is) (record {
  line = a.source.line;
  broken = a.source.broken;
  given = a.source.counted;
  asks = by s.asks;
  over = record { stays = s.ends.stays; whole = s.ends.whole; going = s.ends.going };
})
  where
    by : ReadsScript (reading m) ⊎ Unasked heard heard' o.script o'.script r → ReadsScript (reading m) ⊎ ReadsNothing heard heard' o o' (IsErrOf r faults.Source)
    by (inl x) = inl x
    by (inr n) = inr (record { unread = n.0; script = n.1; fine = n.2 })

-- ---- crashes

-- the database is as it was, and each image that stood for one stands for it still
pub durable_kept : (o o' : Outside) (left left' : ℕ → Option Db → Type 0) → o'.database ≡ o.database → ((db : Db) → AllDenote o.clock left db → AllDenote o'.clock left' db) → StaysDurable o o' left left'
durable_kept o o' left left' same keeps db db' is is' stands = subst (λ (d : Db). AllDenote o'.clock left' d) (same_Some db db' (sym is ∙ sym same ∙ is')) (keeps db stands)

-- ---- the place

-- it is the first stage, of which nothing is said here
pub only_first : {T : Type 0} (place heard heard' : ℕ) (o o' : Outside) (r : Result T WorkFault) → place ≡ 1 → (place ≡ 1 → ⊥) → LeavesEnds heard heard' o o' r
only_first place heard heard' o o' r is apart = absurd (apart is)
