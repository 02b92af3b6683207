-- A new database on a disk is one that the disk holds.
use Rattle.std.proofs.Common.{◌≡◌, ◌⊎◌, inl, inr, ⊎_elim, ℕ, true, List, [], Option, Some, refl, ap, ◌∙◌}
use Rattle.std.proofs.lemmas.Bool.{ne_eqb}
use Rattle.disk_model.specs.declared.disk.Addr.{Addr}
use Rattle.disk_model.specs.Disk.{Image, IsImage, LeavesOnly}
use Rattle.disk_model.proofs.Moments.{weaker}
use Rattle.batch_file.specs.Layout.{gate}
use Rattle.calculus.specs.Name.{is_name}
use Rattle.page_cells.specs.Page.{slots}
use Rattle.page_chain.specs.Lying.{lying_on, lying_in}
use Rattle.page_chain.proofs.PageTest.{page_passes}
use Rattle.stored_database.specs.Names.{name_bytes}
use Rattle.stored_database.specs.Denoting as denoting
use Rattle.stored_database.specs.Denoting.{stored, empty_database, IsEmptyPage}
use Rattle.stored_database.proofs.Fresh.{fresh_pages_stand}
use Rattle.stored_database.proofs.WhatStands.{shut_disks_hold}
use Rattle.db_disk.specs.Created.{IsFresh, IsMaking, IsNewDatabase, UnbornOrHolds, header_bytes}

-- a page without lines is empty
empty_page : (page : Option (List ℕ)) → IsFresh page → IsEmptyPage page
unfolding lying_on
empty_page page fresh = record {
  bytes = fresh.bytes;
  there = fresh.there;
  of_rows = page_passes fresh.bytes fresh.is_page;
  last = fresh.no_next;
  no_rows = ap (lying_on 0) fresh.there ∙ none fresh.bytes fresh.no_slots;
}
  where
    none : (p : List ℕ) → slots p ≡ [] → lying_on 0 (Some p) ≡ []
    none p e = ap (lying_in 0 0) e

pub same_header : (dba : List ℕ) → header_bytes dba ≡ denoting.header_bytes dba
unfolding denoting.header_bytes name_bytes
same_header dba = refl

-- what is new on a disk is what the disk holds
pub new_is_held : (dba : List ℕ) (m : Image) → is_name dba ≡ true → IsNewDatabase dba m → stored m ≡ Some (empty_database dba)
new_is_held dba m named is =
    shut_disks_hold m (ne_eqb (gate m) 1 is.ready.shut)
    ∙ fresh_pages_stand m dba named record {
      head = is.ready.header.bytes;
      there = is.ready.header.there;
      header = is.ready.header.begins ∙ same_header dba;
      born = is.born;
      entries = empty_page _ is.ready.entries;
      columns = empty_page _ is.ready.columns;
      parts = empty_page _ is.ready.parts;
    }

module _ {S : Type 0} (seen : S → Image) (touched : S → Addr → Type 0) (clock : S → ℕ) (left_since : S → ℕ → Image → Type 0) where
  pub making_holds : (dba : List ℕ) (a b : S) → is_name dba ≡ true → IsMaking seen touched clock left_since dba a b
      → LeavesOnly clock left_since a b (λ m. IsImage (seen a) (touched a) m ⊎ UnbornOrHolds dba m)
  making_holds dba a b named run = weaker seen touched clock left_since a b _ _ run (λ m. ⊎_elim (λ i. inl i) (λ u. inr (⊎_elim (λ off. inl off) (λ is. inr (new_is_held dba m named is)) u)))
