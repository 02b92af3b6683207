-- What a piece of work that only asks the base leaves of the outside.
use Rattle.std.proofs.Common.{◌≡◌, ◌≤◌, inl, refl, sym, ap, subst, ◌∙◌, ℕ, List, [], Result, Ok, Err, IsErrOf, arith}
use Rattle.std.specs.Prelude.{IsOk, OnErr}
use Rattle.std.proofs.lemmas.List.{append-nil}
use Rattle.std.proofs.KnownBytes.{Appends-nil}
use Rattle.std.proofs.lemmas.Option.{same_Some}
use Rattle.std.specs.declared.option.Option.{Option}
use Rattle.base_trait.proofs.Crashes.{asked_leaves, still_stands}
use Rattle.base_trait.specs.Crashes.{AllDenote, LeavesBut}
use Rattle.calculus.specs.Database.{Db}
use Rattle.frame_codec.specs.declared.frame.Frame.{Frame}
use Rattle.net_core.proofs.Faulty.{no_source, reads_nothing}
use Rattle.net_core.specs.Causes.{IsCaused, MayNotWork}
use Rattle.net_core.specs.Crashes.{MayLeave, QuietWithout, StaysDurable, WorkLeaves}
use Rattle.net_core.specs.declared.fault.WorkFault.{WorkFault}
use Rattle.net_core.specs.declared.fault.WorkFault.TheVariants as faults
use Rattle.net_core.specs.Known.{FailedWork, KeepsDatabase, Later, Outside, known}
use Rattle.net_core.specs.Reads.{ReadsOn}
use Rattle.net_core.specs.Spares.{Counts, CountsOnly, IsInside, LeavesEnds, Spares}
use Rattle.network_meaning.specs.Calls.{WorkDone}
use Rattle.network_meaning.specs.LocalSteps.{Mode}
use Rattle.network_meaning.specs.Network.{LocalState}
use Rattle.quel_network.specs.Quel.{quel}
use Rattle.quel_network.specs.Sorts.{User, quel_sorts}
use Rattle.stage_proc.specs.declared.at.At.{At}
use Rattle.stage_proc.specs.declared.at.At.TheVariants as at
use Rattle.stage_proc.specs.Standing.{IsWorking, standing}
use Rattle.stage_proc.specs.Stopping.{HasWorkCause}
use Rattle.stage_proc.specs.Worked.{HasWorked, MayNotBeWorkedOn}

-- the outside, where the base may have been asked
abbrev pub asked_of : Outside → Option Db → ℕ → ℕ → ℕ → Outside
asked_of o database count clock reads = record o { database = database; base_faults = count; clock = clock; reads = reads }

module _ (o : Outside) (db' : Option Db) (n' k' reads' : ℕ) where
  -- what is known of the room is as it was
  pub work_done : (user : User) (s s' : LocalState quel_sorts) → db' ≡ o.database → HasWorked user s s' o.database → WorkDone (quel user) s s' (known o) (known (asked_of o db' n' k' reads'))
  work_done user s s' kept w = record {
    act = w.act;
    is = w.is;
    shape = w.shape;
    fit = λ db shelf is_there files. w.fit db is_there;
    exact = λ room t. record {
      room' = room;
      known = record { db = kept ∙ t.db; shelf = t.shelf; script = t.script };
      wrote = ([], sym (append-nil room.out), Appends-nil o.output);
      works = w.exact room t.db;
    };
  }

  pub work_failed : (user : User) (mode : Mode quel_sorts) → db' ≡ o.database → FailedWork (quel user) mode o (asked_of o db' n' k' reads')
  work_failed user mode kept = record {
    part = λ room t. record {
      front = [];
      begins = (_, refl);
      wrote = Appends-nil o.output;
      files = inl t.shelf;
      database = λ now then. inl (same_Some now room.db (sym then ∙ kept ∙ t.db));
    };
    files = λ files is_there. inl is_there;
  }

  pub database_kept : db' ≡ o.database → KeepsDatabase o (asked_of o db' n' k' reads')
  database_kept kept db is_there = (db, kept ∙ is_there)

  pub later : o.base_faults ≤ n' → Later o (asked_of o db' n' k' reads')
  later le = record { base = le; shelf = omega arith; source = omega arith; sink = omega arith; stalls = omega arith }

  -- ---- faults

  pub caused : {T : Type 0} (r : Result T WorkFault) → HasWorkCause o.database o.base_faults n' r → IsCaused 0 o (asked_of o db' n' k' reads') r
  caused (Ok x) h = tt
  caused (Err faults.Disk) h = h.caused
  caused (Err (faults.Damaged file page)) h = h.caused.0
  caused (Err faults.Unlawful) h = tt
  caused (Err faults.OutOfMemory) h = tt
  caused (Err faults.Source) h = absurd h.caused
  caused (Err faults.Sink) h = absurd h.caused
  caused (Err faults.Shelf) h = absurd h.caused
  caused (Err faults.TooLong) h = absurd h.caused

  same_counts : n' ≡ o.base_faults → ◌≡◌ {A = Counts} (record { base = n'; shelf = o.shelf_faults; source = o.source_faults; sink = o.sink_faults; stalls = o.sink_stalls }) (record { base = o.base_faults; shelf = o.shelf_faults; source = o.source_faults; sink = o.sink_faults; stalls = o.sink_stalls })
  same_counts e = ap (λ (n : ℕ). record { base = n; shelf = o.shelf_faults; source = o.source_faults; sink = o.sink_faults; stalls = o.sink_stalls }) e

  pub counts_only : {T : Type 0} (r : Result T WorkFault) → HasWorkCause o.database o.base_faults n' r → CountsOnly o (asked_of o db' n' k' reads') r
  counts_only (Ok x) h = same_counts h.caused
  counts_only (Err faults.Disk) h = refl
  counts_only (Err (faults.Damaged file page)) h = same_counts h.caused.1
  counts_only (Err faults.Unlawful) h = same_counts h.caused
  counts_only (Err faults.OutOfMemory) h = same_counts h.caused
  counts_only (Err faults.Source) h = absurd h.caused
  counts_only (Err faults.Sink) h = absurd h.caused
  counts_only (Err faults.Shelf) h = absurd h.caused
  counts_only (Err faults.TooLong) h = absurd h.caused

  pub spares : {T : Type 0} (r : Result T WorkFault) → db' ≡ o.database → HasWorkCause o.database o.base_faults n' r → Spares o (asked_of o db' n' k' reads') r
  spares (Ok x) kept h = tt
  spares (Err faults.Disk) kept h = tt
  spares (Err (faults.Damaged file page)) kept h = tt
  spares (Err faults.Unlawful) kept h = kept
  spares (Err faults.OutOfMemory) kept h = kept
  spares (Err faults.Source) kept h = absurd h.caused
  spares (Err faults.Sink) kept h = absurd h.caused
  spares (Err faults.Shelf) kept h = absurd h.caused
  spares (Err faults.TooLong) kept h = absurd h.caused

  pub inside : {T : Type 0} (r : Result T WorkFault) → HasWorkCause o.database o.base_faults n' r → IsInside r
  inside (Ok x) h = tt
  inside (Err faults.Disk) h = tt
  inside (Err (faults.Damaged file page)) h = tt
  inside (Err faults.Unlawful) h = tt
  inside (Err faults.OutOfMemory) h = tt
  inside (Err faults.Source) h = absurd h.caused
  inside (Err faults.Sink) h = absurd h.caused
  inside (Err faults.Shelf) h = tt
  inside (Err faults.TooLong) h = absurd h.caused

  pub leaves_ends : {T : Type 0} (r : Result T WorkFault) → HasWorkCause o.database o.base_faults n' r → LeavesEnds {T = T} 0 0 o (asked_of o db' n' k' reads') r
  leaves_ends r h = record { same = refl; unread = refl; inside = inside r h }

  pub reads : {T : Type 0} (mode : Mode quel_sorts) (r : Result T WorkFault) → HasWorkCause o.database o.base_faults n' r → ReadsOn mode 0 0 o (asked_of o db' n' k' reads') (IsErrOf r faults.Source) (IsOk r)
  reads mode r h = reads_nothing mode 0 o (asked_of o db' n' k' reads') (IsErrOf r faults.Source) (IsOk r) refl refl refl (no_source r (inside r h))

  -- ---- crashes

  pub crash : (user : User) (mode : Mode quel_sorts) (left left' : ℕ → Option Db → Type 0) → LeavesBut (λ x. ⊥) o.clock k' left left' → WorkLeaves (quel user) mode o (asked_of o db' n' k' reads') left left'
  crash user mode left left' asked = λ room t. asked_leaves (MayLeave (quel user) mode room) o.clock k' left left' asked

  pub durable : (left left' : ℕ → Option Db → Type 0) → db' ≡ o.database → LeavesBut (λ x. ⊥) o.clock k' left left' → ((t : ℕ) (x : Option Db) → t ≤ k' → left' k' x → left' t x) → StaysDurable o (asked_of o db' n' k' reads') left left'
  durable left left' kept asked counts = λ db now is_there then stands.
      subst (λ (z : Db). AllDenote k' left' z) (same_Some db now (sym is_there ∙ sym kept ∙ then)) (still_stands o.clock k' left left' db counts asked stands)

-- it has the turn
pub quiet : (here : At) (got left right : List Frame) (o o' : Outside) → IsWorking here → QuietWithout (standing here got left right) o o'
quiet at.Idle got left right o o' h = absurd h
quiet (at.Working t) got left right o o' h = λ k without. absurd (cc without)
quiet at.Passing got left right o o' h = absurd h
quiet at.Ended got left right o o' h = absurd h

-- what isn't fit where the database is known isn't where the files are, too
pub may_not : (user : User) (s : LocalState quel_sorts) (o : Outside) → MayNotBeWorkedOn user s o.database → MayNotWork (quel user) s.mode o
may_not user s o h = λ db files is_there known_files. h db is_there

pub on_err : {T E : Type 0} (P : Type 0) (r : Result T E) → P → OnErr r P
on_err P (Ok x) p = tt
on_err P (Err e) p = p
