-- How many pages a question reads, as a base has it.
use Rattle.std.proofs.Common.{◌≡◌, ◌≤◌, ◌+◌, inl, inr, refl, ap, arith, ℕ, Bool, true, false, IsTrue, Option, Some, None, Result, OnOk}
use Rattle.std.specs.Prelude.{is_some, if◌then◌else◌}
use Rattle.calculus.specs.declared.probe.Place.{Place}
use Rattle.calculus.specs.declared.query.RelKey.{RelKey}
use Rattle.calculus.specs.Database.{Db}
use Rattle.disk_model.specs.Disk.{RisesUpTo}
use Rattle.disk_model.specs.declared.disk.Disk.{Ghosts}
use Rattle.stored_database.specs.Printed.{Files}
use Rattle.db_disk.specs.Reads.{files_known, pages_known, pages_unread, rows_in_memory, OpensBy, OpensWith}
use Rattle.db_disk.specs.Shown.{disk_in, schema_in}
use Rattle.db_disk.specs.declared.base.DbDisk.{DbDisk}
use Rattle.db_disk.proofs.Changes.{on_ok_into}

some_of : (o : Option Db) → IsTrue (is_some o) → (s : Db) × (o ≡ Some s)
some_of None there = absurd (cc there)
some_of (Some s) there = (s, refl)

-- where a schema was read, the catalogues are in memory
pub catalogues_cached : {D : Type 0} {g : Ghosts D} (now : DbDisk D g) {T E : Type 0} (result : Result T E) → OnOk result (IsTrue (is_some (schema_in now))) → OnOk result (OpensWith now 0)
catalogues_cached now result there = on_ok_into result _ _ (λ is. inl is) there

-- a scan whose rows are in memory reads none, and another the pages of its file
less_left : (read : Bool) (before now pages unread : ℕ) → (read ≡ true → now ≡ before) → now ≤ before + pages → unread ≡ 0 → now + unread ≤ before + (if read then 0 else pages)
less_left true before now pages unread again most none = let same = again refl in omega (arith, same, none)
less_left false before now pages unread again most none = omega (arith, most, none)

module _ {D : Type 0} {g : Ghosts D} (old new : DbDisk D g) where
  -- what was known of the files stays
  pub still_cached : ((s : Db) → schema_in old ≡ Some s → schema_in new ≡ Some s) → ((s : Db) → schema_in old ≡ Some s → files_known new ≡ files_known old)
      → OpensWith old 0 → OpensWith new 0 × (pages_known new ≡ pages_known old)
  still_cached keeps files (inl there) =
      let found = some_of (schema_in old) there in
      (inl (ap is_some (keeps found.0 found.1)), ap (λ (f : Files). f.used) (files found.0 found.1))
  still_cached keeps files (inr (known, by)) = let none = by.in_all in absurd (omega (arith, none))

  -- a question that doesn't ask for rows reads the catalogues alone
  pub reads_catalogues : ((s : Db) → schema_in old ≡ Some s → disk_in new ≡ disk_in old) → (IsTrue g.is_known → (all : ℕ) → OpensBy (g.seen (disk_in old)) all → RisesUpTo all (g.reads (disk_in old)) (g.reads (disk_in new)))
      → (n : ℕ) → OpensWith old n → g.reads (disk_in new) ≤ g.reads (disk_in old) + n
  reads_catalogues still reads n (inl there) =
      let found = some_of (schema_in old) there in
      let same : g.reads (disk_in new) ≡ g.reads (disk_in old) = ap g.reads (still found.0 found.1) in
      omega (arith, same)
  reads_catalogues still reads n (inr (known, by)) = (reads known n by).at_most

  module _ (key : RelKey) (reads : (s : Db) → schema_in old ≡ Some s → RisesUpTo (pages_known new key) (g.reads (disk_in old)) (g.reads (disk_in new)))
      (opening : IsTrue g.is_known → (all : ℕ) → OpensBy (g.seen (disk_in old)) all → RisesUpTo (all + pages_known new key) (g.reads (disk_in old)) (g.reads (disk_in new))) where
    -- one that does reads the pages of the relation besides
    pub reads_rows : (n : ℕ) → OpensWith old n → g.reads (disk_in new) ≤ g.reads (disk_in old) + (n + pages_known new key)
    reads_rows n (inl there) =
        let found = some_of (schema_in old) there in
        let most = (reads found.0 found.1).at_most in
        omega (arith, most)
    reads_rows n (inr (known, by)) = (opening known n by).at_most

    module _ {T E : Type 0} (at behind : Place) (result : Result T E) (in_memory : OnOk result (rows_in_memory new key ≡ true)) where
      none_unread : rows_in_memory new key ≡ true → pages_unread new key behind ≡ 0
      none_unread is = ap (λ (b : Bool). if b then 0 else pages_known new key) is

      -- after the first call of a scan so much less is left to read
      pub scan_begins : (n : ℕ) → OpensWith old n → OnOk result (g.reads (disk_in new) + pages_unread new key behind ≤ g.reads (disk_in old) + (n + pages_known new key))
      scan_begins n opens =
          let most = reads_rows n opens in
          on_ok_into result (rows_in_memory new key ≡ true) (g.reads (disk_in new) + pages_unread new key behind ≤ g.reads (disk_in old) + (n + pages_known new key))
          (λ is. (let none = none_unread is in omega (arith, most, none))) in_memory

      -- and after each further one
      pub scan_goes_on : ((s : Db) → schema_in old ≡ Some s → files_known new ≡ files_known old) → (rows_in_memory old key ≡ true → g.reads (disk_in new) ≡ g.reads (disk_in old))
          → OpensWith old 0 → OnOk result (g.reads (disk_in new) + pages_unread new key behind ≤ g.reads (disk_in old) + pages_unread old key at)
      scan_goes_on files again (inr (known, by)) = let none = by.in_all in absurd (omega (arith, none))
      scan_goes_on files again (inl there) =
          let found = some_of (schema_in old) there in
          let most = (reads found.0 found.1).at_most in
          let same : pages_known new key ≡ pages_known old key = ap (λ (f : Files). f.used key) (files found.0 found.1) in
          on_ok_into result (rows_in_memory new key ≡ true) (g.reads (disk_in new) + pages_unread new key behind ≤ g.reads (disk_in old) + pages_unread old key at)
          (λ is. less_left (rows_in_memory old key) (g.reads (disk_in old)) (g.reads (disk_in new)) (pages_known old key) (pages_unread new key behind) again (omega (arith, most, same)) (none_unread is)) in_memory
