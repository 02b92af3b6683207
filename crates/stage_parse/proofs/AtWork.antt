-- A piece of work of the parser, as the contract of stages has it: only the database is asked.
use Rattle.std.proofs.Common.{IfErr, IsErrOf, OnErr, OnOk, ◌≡◌, ◌≤◌, inl, ℕ, List, [], Option, Result, Ok, Err, refl, sym, ap, subst, ◌∙◌, append-nil}
use Rattle.std.proofs.KnownBytes.{Appends-nil}
use Rattle.std.proofs.lemmas.Option.{same_Some}
use Rattle.base_trait.proofs.Crashes.{asked_leaves, still_stands}
use Rattle.base_trait.specs.Causes.{MayCome as BaseMayCome}
use Rattle.base_trait.specs.Crashes.{AllDenote, LeavesBut}
use Rattle.base_trait.specs.declared.fault.BaseFault.{BaseFault}
use Rattle.base_trait.specs.declared.fault.BaseFault.TheVariants as base_faults
use Rattle.calculus.specs.Database.{Db}
use Rattle.frame_codec.specs.declared.frame.Frame.{Frame}
use Rattle.net_core.proofs.Faulty.{within_apart}
use Rattle.net_core.specs.Causes.{IsCaused, MayCome}
use Rattle.net_core.specs.Crashes.{MayLeave, StaysDurable, WorkLeaves}
use Rattle.net_core.specs.declared.fault.WorkFault.{WorkFault}
use Rattle.net_core.specs.declared.fault.WorkFault.TheVariants as faults
use Rattle.net_core.specs.Known.{FailedWork, KeepsDatabase, Outside, known}
use Rattle.net_core.specs.Reads.{Within}
use Rattle.net_core.specs.Spares.{Counts, CountsOnly, CountsOnlyBy, IsInside, IsNoFaultOfEnds, Spares, SparesBy}
use Rattle.network_meaning.specs.Calls.{FitWhereKnown, WorkDone}
use Rattle.network_meaning.specs.Failing.{work_bytes}
use Rattle.network_meaning.specs.Language.{Language}
use Rattle.network_meaning.specs.LocalSteps.{Mode}
use Rattle.network_meaning.specs.Network.{LocalState}
use Rattle.quel_meaning.specs.Ranges.{Ranges}
use Rattle.quel_network.specs.Sorts.{Batch, quel_sorts}
use Rattle.stage_parse.specs.declared.at.At.{At}
use Rattle.stage_parse.specs.declared.at.At.TheVariants as at
use Rattle.stage_parse.specs.Parsing.{HasParsed}
use Rattle.stage_parse.specs.Standing.{MayComeOf, mode_at, of_base, standing}

-- the outside, where only the base is another one
abbrev pub changed : Outside → Option Db → ℕ → ℕ → ℕ → Outside
changed o database count clock reads = record o { database = database; base_faults = count; clock = clock; reads = reads }

-- ---- what it does

fit_any : (L : Language quel_sorts) (ranges : Ranges) (here : At) (b : Batch) (o : Outside) → here ≡ at.Parsing → FitWhereKnown L (mode_at ranges here b) (known o)
fit_any L ranges here b o e = subst (λ (x : At). FitWhereKnown L (mode_at ranges x b) (known o)) (sym e) (λ db shelf is_there files_known. tt)

worked : (L : Language quel_sorts) (ranges : Ranges) (here : At) (b : Batch) (gl gr ol or : List Frame) (s' : LocalState quel_sorts) (o : Outside) (db' : Option Db) (count' clock' reads' : ℕ) → here ≡ at.Parsing → db' ≡ o.database
    → HasParsed L (standing ranges here b gl gr ol or) s' o.database → WorkDone L (standing ranges here b gl gr ol or) s' (known o) (known (changed o db' count' clock' reads'))
worked L ranges here b gl gr ol or s' o db' count' clock' reads' e same p = record {
  act = p.act;
  is = p.is;
  shape = p.shape;
  fit = fit_any L ranges here b o e;
  exact = λ room t. record {
    room' = room;
    known = record { db = same ∙ t.db; shelf = t.shelf; script = t.script };
    wrote = ([], sym (append-nil room.out), Appends-nil o.output);
    works = p.exact room t.db;
  };
}

pub works_any : {T E : Type 0} (L : Language quel_sorts) (ranges : Ranges) (here : At) (b : Batch) (gl gr ol or : List Frame) (s' : LocalState quel_sorts) (o : Outside) (db' : Option Db) (count' clock' reads' : ℕ) (r : Result T E) → here ≡ at.Parsing → db' ≡ o.database
    → OnOk r (HasParsed L (standing ranges here b gl gr ol or) s' o.database) → OnOk r (WorkDone L (standing ranges here b gl gr ol or) s' (known o) (known (changed o db' count' clock' reads')))
works_any L ranges here b gl gr ol or s' o db' count' clock' reads' (Ok x) e same p = worked L ranges here b gl gr ol or s' o db' count' clock' reads' e same p
works_any L ranges here b gl gr ol or s' o db' count' clock' reads' (Err f) e same p = tt

pub database_any : {T E : Type 0} (o : Outside) (db' : Option Db) (count' clock' reads' : ℕ) (r : Result T E) → db' ≡ o.database → OnOk r (KeepsDatabase o (changed o db' count' clock' reads'))
database_any o db' count' clock' reads' (Ok x) same = λ db is_there. (db, same ∙ is_there)
database_any o db' count' clock' reads' (Err f) same = tt

-- what follows from what holds with an answer
pub on_ok_to : {T E : Type 0} (r : Result T E) {P Q : Type 0} → (P → Q) → OnOk r P → OnOk r Q
on_ok_to (Ok x) f h = f h
on_ok_to (Err e) f h = tt

-- the same of two facts
pub on_ok_both : {T E : Type 0} (r : Result T E) {P Q R : Type 0} → (P → Q → R) → OnOk r P → OnOk r Q → OnOk r R
on_ok_both (Ok x) f h k = f h k
on_ok_both (Err e) f h k = tt

-- ---- what it leaves where it failed

failed : (L : Language quel_sorts) (mode : Mode quel_sorts) (o : Outside) (db' : Option Db) (count' clock' reads' : ℕ) → db' ≡ o.database → FailedWork L mode o (changed o db' count' clock' reads')
failed L mode o db' count' clock' reads' same = record {
  part = λ room t. record {
    front = [];
    begins = (work_bytes L mode room, refl);
    wrote = Appends-nil o.output;
    files = inl t.shelf;
    database = λ now then. inl (same_Some now room.db (sym then ∙ same ∙ t.db));
  };
  files = λ files is_there. inl is_there;
}

pub failed_any : {T E : Type 0} (L : Language quel_sorts) (mode : Mode quel_sorts) (o : Outside) (db' : Option Db) (count' clock' reads' : ℕ) (r : Result T E) → db' ≡ o.database → OnErr r (FailedWork L mode o (changed o db' count' clock' reads'))
failed_any L mode o db' count' clock' reads' (Ok x) same = tt
failed_any L mode o db' count' clock' reads' (Err f) same = failed L mode o db' count' clock' reads' same

-- ---- the disk below

pub crash_any : (L : Language quel_sorts) (mode : Mode quel_sorts) (o : Outside) (db' : Option Db) (count' clock' reads' : ℕ) (left left' : ℕ → Option Db → Type 0) → LeavesBut (λ x. ⊥) o.clock clock' left left'
    → WorkLeaves L mode o (changed o db' count' clock' reads') left left'
crash_any L mode o db' count' clock' reads' left left' asked = λ room t. asked_leaves (MayLeave L mode room) o.clock clock' left left' asked

durable : (o : Outside) (db' : Option Db) (count' clock' reads' : ℕ) (left left' : ℕ → Option Db → Type 0) → db' ≡ o.database → ((t : ℕ) (x : Option Db) → t ≤ clock' → left' clock' x → left' t x) → LeavesBut (λ x. ⊥) o.clock clock' left left'
    → StaysDurable o (changed o db' count' clock' reads') left left'
durable o db' count' clock' reads' left left' same counts asked = λ db now is_there then all.
    subst (λ (z : Db). AllDenote clock' left' z) (same_Some db now (sym is_there ∙ sym same ∙ then)) (still_stands o.clock clock' left left' db counts asked all)

pub durable_any : {T E : Type 0} (o : Outside) (db' : Option Db) (count' clock' reads' : ℕ) (left left' : ℕ → Option Db → Type 0) (r : Result T E) → db' ≡ o.database → ((t : ℕ) (x : Option Db) → t ≤ clock' → left' clock' x → left' t x) → LeavesBut (λ x. ⊥) o.clock clock' left left'
    → OnOk r (StaysDurable o (changed o db' count' clock' reads') left left')
durable_any o db' count' clock' reads' left left' (Ok x) same counts asked = durable o db' count' clock' reads' left left' same counts asked
durable_any o db' count' clock' reads' left left' (Err f) same counts asked = tt

-- ---- faults

-- a fault of the database, as one of a piece of work
pub work_may_come : (db : Option Db) (before now : ℕ) (f : BaseFault) (fault : WorkFault) → fault ≡ of_base f → BaseMayCome db before now f → MayComeOf db before now fault
work_may_come db before now f fault e m = subst (λ (x : WorkFault). MayComeOf db before now x) (sym e) (go f m)
  where
    go : (f : BaseFault) → BaseMayCome db before now f → MayComeOf db before now (of_base f)
    go base_faults.Disk m = m
    go (base_faults.Damaged file page) m = m
    go base_faults.OutOfMemory m = m

never_unlawful : {P : Type 0} (db : Option Db) (before now : ℕ) (f : WorkFault) → MayComeOf db before now f → IsErrOf {T = Unit {0}} (Err f) faults.Unlawful → P
never_unlawful db before now faults.Unlawful m e = absurd m
never_unlawful db before now faults.Disk m e = absurd (cc e)
never_unlawful db before now (faults.Damaged file page) m e = absurd (cc e)
never_unlawful db before now faults.OutOfMemory m e = absurd (cc e)
never_unlawful db before now faults.Source m e = absurd m
never_unlawful db before now faults.Sink m e = absurd m
never_unlawful db before now faults.Shelf m e = absurd m
never_unlawful db before now faults.TooLong m e = absurd m

pub lawful_any : {P : Type 0} (db : Option Db) (before now : ℕ) (r : Result (Unit {0}) WorkFault) → IfErr r (MayComeOf db before now) → IsErrOf r faults.Unlawful → P
lawful_any db before now (Ok x) h e = absurd (cc e)
lawful_any db before now (Err f) h e = never_unlawful db before now f h e

inside_err : (db : Option Db) (before now : ℕ) (f : WorkFault) → MayComeOf db before now f → IsNoFaultOfEnds f
inside_err db before now faults.Unlawful m = tt
inside_err db before now faults.Disk m = tt
inside_err db before now (faults.Damaged file page) m = tt
inside_err db before now faults.OutOfMemory m = tt
inside_err db before now faults.Source m = m
inside_err db before now faults.Sink m = m
inside_err db before now faults.Shelf m = tt
inside_err db before now faults.TooLong m = m

pub inside_any : (db : Option Db) (before now : ℕ) (r : Result (Unit {0}) WorkFault) → IfErr r (MayComeOf db before now) → IsInside r
inside_any db before now (Ok x) h = tt
inside_any db before now (Err f) h = inside_err db before now f h

pub within_any : (db : Option Db) (before now : ℕ) (r : Result (Unit {0}) WorkFault) → IfErr r (MayComeOf db before now) → Within 0 0 r
within_any db before now r h = within_apart 0 r (inside_any db before now r h)

cause_err : (heard : ℕ) (o : Outside) (db' : Option Db) (count' clock' reads' : ℕ) (f : WorkFault) → MayComeOf o.database o.base_faults count' f → MayCome heard o (changed o db' count' clock' reads') f
cause_err heard o db' count' clock' reads' faults.Disk m = m
cause_err heard o db' count' clock' reads' (faults.Damaged file page) m = m.0
cause_err heard o db' count' clock' reads' faults.OutOfMemory m = tt
cause_err heard o db' count' clock' reads' faults.Unlawful m = absurd m
cause_err heard o db' count' clock' reads' faults.Source m = absurd m
cause_err heard o db' count' clock' reads' faults.Sink m = absurd m
cause_err heard o db' count' clock' reads' faults.Shelf m = absurd m
cause_err heard o db' count' clock' reads' faults.TooLong m = absurd m

pub cause_any : (heard : ℕ) (o : Outside) (db' : Option Db) (count' clock' reads' : ℕ) (r : Result (Unit {0}) WorkFault) → IfErr r (MayComeOf o.database o.base_faults count') → IsCaused heard o (changed o db' count' clock' reads') r
cause_any heard o db' count' clock' reads' (Ok x) h = tt
cause_any heard o db' count' clock' reads' (Err f) h = cause_err heard o db' count' clock' reads' f h

-- ---- what it leaves alone

-- the counts of the outside, where only that of the base is another one
abbrev counts_with : Outside → ℕ → Counts
counts_with o count = record { base = count; shelf = o.shelf_faults; source = o.source_faults; sink = o.sink_faults; stalls = o.sink_stalls }

same_counts : (o : Outside) (count' : ℕ) → count' ≡ o.base_faults → counts_with o count' ≡ counts_with o o.base_faults
same_counts o count' e = ap (λ n. counts_with o n) e

counts_err : (o : Outside) (db' : Option Db) (count' clock' reads' : ℕ) (f : WorkFault) → MayComeOf o.database o.base_faults count' f → CountsOnlyBy o (changed o db' count' clock' reads') f
counts_err o db' count' clock' reads' faults.Disk m = refl
counts_err o db' count' clock' reads' (faults.Damaged file page) m = same_counts o count' m.1
counts_err o db' count' clock' reads' faults.OutOfMemory m = same_counts o count' m
counts_err o db' count' clock' reads' faults.Unlawful m = absurd m
counts_err o db' count' clock' reads' faults.Source m = absurd m
counts_err o db' count' clock' reads' faults.Sink m = absurd m
counts_err o db' count' clock' reads' faults.Shelf m = absurd m
counts_err o db' count' clock' reads' faults.TooLong m = absurd m

pub counts_any : (o : Outside) (db' : Option Db) (count' clock' reads' : ℕ) (r : Result (Unit {0}) WorkFault) → OnOk r (count' ≡ o.base_faults) → IfErr r (MayComeOf o.database o.base_faults count') → CountsOnly o (changed o db' count' clock' reads') r
counts_any o db' count' clock' reads' (Ok x) same h = same_counts o count' same
counts_any o db' count' clock' reads' (Err f) same h = counts_err o db' count' clock' reads' f h

spares_err : (o : Outside) (db' : Option Db) (count' clock' reads' : ℕ) (f : WorkFault) → db' ≡ o.database → MayComeOf o.database o.base_faults count' f → SparesBy o (changed o db' count' clock' reads') f
spares_err o db' count' clock' reads' faults.Disk same m = tt
spares_err o db' count' clock' reads' (faults.Damaged file page) same m = tt
spares_err o db' count' clock' reads' faults.OutOfMemory same m = same
spares_err o db' count' clock' reads' faults.Unlawful same m = absurd m
spares_err o db' count' clock' reads' faults.Source same m = absurd m
spares_err o db' count' clock' reads' faults.Sink same m = absurd m
spares_err o db' count' clock' reads' faults.Shelf same m = absurd m
spares_err o db' count' clock' reads' faults.TooLong same m = absurd m

pub spares_any : (o : Outside) (db' : Option Db) (count' clock' reads' : ℕ) (r : Result (Unit {0}) WorkFault) → db' ≡ o.database → IfErr r (MayComeOf o.database o.base_faults count') → Spares o (changed o db' count' clock' reads') r
spares_any o db' count' clock' reads' (Ok x) same h = tt
spares_any o db' count' clock' reads' (Err f) same h = spares_err o db' count' clock' reads' f same h
