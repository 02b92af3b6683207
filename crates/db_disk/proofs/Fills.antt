-- What is known once rows were read, or the catalogue was.
use Rattle.std.proofs.Common.{◌≡◌, refl, sym, ap, subst, ◌∙◌, IsTrue, true, Option, Some, Result, Ok, Err, OnOk}
use mathlib.Core.Logic.{∥∥₁_map}
use Rattle.calculus.specs.declared.change.DbChange.{DbChange}
use Rattle.calculus.specs.Change.{laid}
use Rattle.calculus.specs.Database.{Db}
use Rattle.calculus.specs.IsDatabase.{IsDatabase}
use Rattle.calculus.specs.Schema.{schema_of}
use Rattle.disk_model.specs.Disk.{Image, IsImage}
use Rattle.disk_model.proofs.Moments.{image_settled}
use Rattle.disk_model.specs.declared.disk.Disk.{Ghosts}
use Rattle.batch_file.specs.Redone.{kept, redone}
use Rattle.batch_store.specs.Store.{disk_of, pages_of, OnlyReadOf}
use Rattle.batch_store.specs.declared.store.BatchStore.{BatchStore}
use Rattle.plain_base.specs.Shown.{database_of}
use Rattle.catalog_read.specs.Parts.{index_owners_agree}
use Rattle.stored_database.specs.Denoting.{denoted}
use Rattle.stored_database.proofs.WhatStands.{what_is_denoted_is_a_database}
use Rattle.catalog.specs.Knows.{Knows}
use Rattle.catalog.specs.Lies.{LiesAfter, LiesOn}
use Rattle.catalog.proofs.LiesKnown.{known_of}
use Rattle.catalog.specs.declared.catalog.Catalog.{Catalog}
use Rattle.db_disk.specs.Held.{database_in, held, IsReady}
use Rattle.db_disk.specs.Known.{IsKnown, LiesFor}
use Rattle.db_disk.proofs.Changes.{dba_laid, same_administrator}
use Rattle.db_disk.proofs.Holding.{held_so}
use Rattle.db_disk.proofs.Knowing.{one_known}
use Rattle.db_disk.proofs.KnowsProp.{untruncated}
use Rattle.db_disk.proofs.Loading.{own_name}
use Rattle.db_disk.proofs.Ready.{ready_pages, ready_redone, ready_holds}

-- databases of one schema have one administrator
pub same_dba : (a b : Db) → schema_of a ≡ schema_of b → a.dba ≡ b.dba
unfolding schema_of
same_dba a b same = ap (λ (d : Db). d.dba) same

schema_dba : (a : Db) → (schema_of a).dba ≡ a.dba
unfolding schema_of
schema_dba a = refl

module _ {D : Type 0} {g : Ghosts D} (s t : BatchStore D g) (ready : IsReady s) (only : OnlyReadOf s t) where
  pub filled_known : (a b : Catalog) → IsTrue g.is_known → IsKnown (g.seen (disk_of s)) (Some a)
      → ((m : Image) (db : Db) → pages_of s ≡ Some m → IsDatabase db → Knows a m db → Knows b m db) → ((m : Image) → pages_of s ≡ Some m → LiesOn a m → LiesOn b m)
      → schema_of (database_of b.plain) ≡ schema_of (database_of a.plain) → IsKnown (g.seen (disk_of t)) (Some b)
  filled_known a b known is knows lies schema =
      let same = (only.reads known).seen_same in
      one_known (g.seen (disk_of t)) b (λ db holds.
      let then_ : held (g.seen (disk_of s)) ≡ Some db = ap held (sym same) ∙ holds in
      let so = held_so (g.seen (disk_of s)) (kept (g.seen (disk_of s))) db (ready_redone s ready known) then_ in
      subst (λ (m : Image). Knows b (kept m) db) (sym same)
      (knows (kept (g.seen (disk_of s))) db (ready_pages s ready known) (what_is_denoted_is_a_database _ db so.0) (untruncated (is.each a db refl then_))))
      (subst (λ (m : Image). ∥ LiesFor b (kept m) ∥₁) (sym same)
      (∥∥₁_map (is.lies a refl) (λ l. record { lies = lies (kept (g.seen (disk_of s))) (ready_pages s ready known) l.lies; named = l.named ∙ ap Some (sym (same_dba (database_of b.plain) (database_of a.plain) schema)) })))

  pub loaded_known : (c : Catalog) → IsTrue g.is_known
      → ((m : Image) (db : Db) → pages_of s ≡ Some m → denoted m ≡ Some db → index_owners_agree db ≡ true → Knows c m db) → ((m : Image) → pages_of s ≡ Some m → LiesFor c m) → IsKnown (g.seen (disk_of t)) (Some c)
  loaded_known c known knows lies =
      let same = (only.reads known).seen_same in
      one_known (g.seen (disk_of t)) c (λ db holds.
      let so = held_so (g.seen (disk_of s)) (kept (g.seen (disk_of s))) db (ready_redone s ready known) (ap held (sym same) ∙ holds) in
      subst (λ (m : Image). Knows c (kept m) db) (sym same) (knows (kept (g.seen (disk_of s))) db (ready_pages s ready known) so.0 so.1))
      (subst (λ (m : Image). ∥ LiesFor c (kept m) ∥₁) (sym same) ∣ lies (kept (g.seen (disk_of s))) (ready_pages s ready known) ∣₁)

module _ {D : Type 0} {g : Ghosts D} (s : BatchStore D g) (ready : IsReady s) where
  -- what the catalogue of a store that is ready knows
  pub knows_now : (a : Catalog) (db : Db) → IsKnown (g.seen (disk_of s)) (Some a) → database_in s ≡ Some db → Knows a (kept (g.seen (disk_of s))) db
  knows_now a db is holds = untruncated (is.each a db refl (ready_holds s db ready holds).holds)

  -- what is known when a change was applied
  module _ (new : BatchStore D g) (later : IsReady new) (before now : Catalog) (made : DbChange) (known : IsTrue g.is_known) (is : IsKnown (g.seen (disk_of s)) (Some before))
      (schema : schema_of (database_of now.plain) ≡ schema_of (laid (schema_of (database_of before.plain)) made)) (mid : Option Image)
      (after : (m : Image) → pages_of s ≡ Some m → LiesOn before m → LiesAfter now m mid) (holds : (m : Image) → mid ≡ Some m → kept (g.seen (disk_of new)) ≡ m) where
    lies_now : LiesFor before (kept (g.seen (disk_of s))) → LiesFor now (kept (g.seen (disk_of new)))
    lies_now l =
        let a = after (kept (g.seen (disk_of s))) (ready_pages s ready known) l.lies in
        subst (LiesFor now) (sym (holds a.image a.still_known)) (record {
          lies = a.lies;
          named = same_administrator (kept (g.seen (disk_of s))) a.image a.head ∙ l.named ∙ ap Some (sym (same_dba (database_of now.plain) (laid (schema_of (database_of before.plain)) made) schema ∙ dba_laid (schema_of (database_of before.plain)) made ∙ schema_dba (database_of before.plain)));
        })

    knows_then : LiesFor now (kept (g.seen (disk_of new))) → (db : Db) → held (g.seen (disk_of new)) ≡ Some db → Knows now (kept (g.seen (disk_of new))) db
    knows_then l db holds_db =
        let so = held_so (g.seen (disk_of new)) (kept (g.seen (disk_of new))) db (ready_redone new later known) holds_db in
        known_of now (kept (g.seen (disk_of new))) db l.lies so.0 so.1 (sym (own_name (kept (g.seen (disk_of new))) db (database_of now.plain).dba so.0 l.named))

    pub laid_known : IsKnown (g.seen (disk_of new)) (Some now)
    laid_known =
        let lies = ∥∥₁_map (is.lies before refl) (λ l. lies_now l) in
        one_known (g.seen (disk_of new)) now (λ db holds_db. untruncated (∥∥₁_map lies (λ l. knows_then l db holds_db))) lies

-- what holds where a call answered, by what holds of it then
pub on_ok_both : {T E P R : Type 0} {A B : Image → Type 0} (result : Result T E) → (P → ((m : Image) → A m → B m) → R) → OnOk result P → ((m : Image) → A m → OnOk result (B m)) → OnOk result R
on_ok_both (Ok x) then_ p q = then_ p q
on_ok_both (Err e) then_ p q = tt

pub where_ok : {T E P : Type 0} (result : Result T E) → P → OnOk result P
where_ok (Ok x) p = p
where_ok (Err e) p = tt

-- behind a sync the disk has what was restored, after a crash, too
pub of_synced : {T E : Type 0} {D : Type 0} {g : Ghosts D} (result : Result T E) (new : BatchStore D g) {o : Option Image} → IsTrue g.is_known → (m : Image) → OnOk result (o ≡ Some (kept (g.seen (disk_of new)))) → o ≡ Some m → OnOk result (IsReady new)
    → OnOk result ((x : Image) → IsImage (g.seen (disk_of new)) (g.touched (disk_of new)) x → redone x ≡ Some m)
of_synced {T} {E} {D} {g} (Ok t) new known m restored before ready = λ x image.
    ap redone (image_settled g.seen g.touched g.clock g.left_since (disk_of new) (ready.closed known).settled x image) ∙ ready_redone new ready known ∙ sym restored ∙ before
of_synced (Err e) new known m restored before ready = tt
