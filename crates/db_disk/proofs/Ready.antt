-- A store that is ready, and reads of it.
use Rattle.std.proofs.Common.{◌≡◌, ◌≢◌, refl, sym, ap, subst, ◌∙◌, ℕ, Bool, true, false, IsTrue, Option, Some, None, Result, Ok, Err}
use Rattle.base_trait.specs.Causes.{HasCause}
use Rattle.base_trait.specs.declared.fault.BaseFault.{BaseFault}
use Rattle.base_trait.specs.declared.fault.BaseFault.TheVariants as faults
use Rattle.am_traits.specs.Causes.{HasFileCause}
use Rattle.calculus.specs.Database.{Db}
use Rattle.calculus.specs.IsDatabase.{IsDatabase}
use Rattle.disk_model.specs.Disk.{Image, IsImage, OnlyReads, LeavesOnly}
use Rattle.disk_model.specs.declared.disk.Addr.{Addr}
use Rattle.disk_model.specs.declared.disk.Disk.{Ghosts}
use Rattle.disk_model.proofs.Moments.{started, reads_on}
use Rattle.batch_file.specs.Layout.{gate}
use Rattle.batch_file.specs.OnDisk.{IsClosed}
use Rattle.batch_file.specs.Redone.{kept, redone}
use Rattle.batch_file.specs.Staged.{size_of}
use Rattle.batch_file.proofs.Applies.{redone_shut}
use Rattle.batch_store.specs.Store.{batch_of, disk_of, is_due, pages_of, waiting, CameOf, OnlyReadOf}
use Rattle.batch_store.specs.declared.store.BatchStore.{BatchStore}
use Rattle.batch_store.proofs.Stands.{fresh_pages, staged_none}
use Rattle.catalog_read.specs.Parts.{index_owners_agree}
use Rattle.stored_database.specs.Denoting.{denoted}
use Rattle.stored_database.proofs.WhatStands.{what_is_denoted_is_a_database}
use Rattle.db_disk.specs.Held.{database_in, held, database_by, IsReady, SameHeld}
use Rattle.db_disk.proofs.Holding.{held_so, known_some}

-- the same is known after reads
known_read : (is_known : Bool) (m n : Image) → (IsTrue is_known → n ≡ m) → database_by is_known n ≡ database_by is_known m
known_read true m n same = ap held (same refl)
known_read false m n same = refl

-- nothing is known where it would be of none
pub none_of : (o : Option Db) → ((db : Db) → o ≡ Some db → ⊥) → o ≡ None
none_of None none = refl
none_of (Some db) none = absurd (none db refl)

pub file_caused : {T : Type 0} (known : Option Db) (pages : Option Image) (at_fault : Image → Addr → Type 0) (before now : ℕ) (result : Result T BaseFault)
    → ((db : Db) → known ≡ Some db → (m : Image) × (pages ≡ Some m) × ((a : Addr) → at_fault m a → ⊥)) → HasFileCause pages at_fault before now result → HasCause known before now result
file_caused known pages at_fault before now (Ok x) none has = record { later = has.later; caused = has.caused }
file_caused known pages at_fault before now (Err faults.Disk) none has = record { later = has.later; caused = has.caused }
file_caused known pages at_fault before now (Err (faults.Damaged file page)) none has = record {
  later = has.later;
  caused = (none_of known (λ db is. let m = none db is in m.2 _ (has.caused.0 m.0 m.1)), has.caused.1);
}
file_caused known pages at_fault before now (Err faults.OutOfMemory) none has = record { later = has.later; caused = has.caused }

-- What a store that is ready says of the database that it holds.
pub record Holds {D : Type 0} {g : Ghosts D} (s : BatchStore D g) (db : Db) : Type 0 where
  pub known : IsTrue g.is_known
  pub pages : pages_of s ≡ Some (kept (g.seen (disk_of s)))
  pub holds : held (g.seen (disk_of s)) ≡ Some db
  pub stands : denoted (kept (g.seen (disk_of s))) ≡ Some db
  pub agree : index_owners_agree db ≡ true
  pub is_one : IsDatabase db

module _ {D : Type 0} {g : Ghosts D} where
  pub ready_pages : (s : BatchStore D g) → IsReady s → IsTrue g.is_known → pages_of s ≡ Some (kept (g.seen (disk_of s)))
  ready_pages s ready known = fresh_pages g.is_known (g.seen (disk_of s)) (batch_of s) known (staged_none (g.seen (disk_of s)) (batch_of s) ready.empty)

  pub ready_redone : (s : BatchStore D g) → IsReady s → IsTrue g.is_known → redone (g.seen (disk_of s)) ≡ Some (kept (g.seen (disk_of s)))
  ready_redone s ready known = redone_shut (g.seen (disk_of s)) (ready.closed known).shut

  pub ready_holds : (s : BatchStore D g) (db : Db) → IsReady s → database_in s ≡ Some db → Holds s db
  ready_holds s db ready is =
      let known = known_some g.is_known (g.seen (disk_of s)) db is in
      let so = held_so (g.seen (disk_of s)) (kept (g.seen (disk_of s))) db (ready_redone s ready known.0) known.1 in
      record {
        known = known.0;
        pages = ready_pages s ready known.0;
        holds = known.1;
        stands = so.0;
        agree = so.1;
        is_one = what_is_denoted_is_a_database (kept (g.seen (disk_of s))) db so.0;
      }

  pub same_read : (s t : BatchStore D g) → OnlyReadOf s t → database_in t ≡ database_in s
  same_read s t only = known_read g.is_known (g.seen (disk_of s)) (g.seen (disk_of t)) (λ known. (only.reads known).seen_same)

  -- a store that is ready stays so where it is begun anew
  pub begun_ready : (s t : BatchStore D g) → IsReady s → disk_of t ≡ disk_of s → is_due t ≡ is_due s → waiting t ≡ 0 → IsReady t
  begun_ready s t ready same due empty = record {
    calm = due ∙ ready.calm;
    empty = empty;
    closed = λ known. subst (λ (d : D). IsClosed (g.seen d) (g.touched d)) (sym same) (ready.closed known);
  }

  pub still_ready : (s t : BatchStore D g) → IsReady s → CameOf s t → OnlyReadOf s t → IsReady t
  still_ready s t ready came only = record {
    calm = came.still ∙ ready.calm;
    empty = ap size_of only.batch_same ∙ ready.empty;
    closed = λ known. record {
      settled = λ b t. (ready.closed known).settled b ((only.reads known).touches b t);
      shut = subst (λ (m : Image). gate m ≢ 1) (sym (only.reads known).seen_same) (ready.closed known).shut;
    };
  }

module _ {S : Type 0} (seen : S → Image) (touched : S → Addr → Type 0) (clock : S → ℕ) (left_since : S → ℕ → Image → Type 0) where
  -- before any call an image is one of then
  pub holds_started : (a : S) → ((m : Image) → left_since a (clock a) m → IsImage (seen a) (touched a) m) → LeavesOnly clock left_since a a (SameHeld (seen a) (touched a))
  holds_started a only = started seen touched clock left_since a _ (λ m left. (m, only m left, refl))

  pub holds_read : (a b c : S) → LeavesOnly clock left_since a b (SameHeld (seen a) (touched a)) → OnlyReads seen touched clock left_since b c → LeavesOnly clock left_since a c (SameHeld (seen a) (touched a))
  holds_read a b c run same = reads_on seen touched clock left_since a b c _ run same
