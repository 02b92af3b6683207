-- Where the chains of the three catalogues end, and what is written on them.
use Rattle.std.specs.Prelude.{◌≡◌, ℕ, List, [], ◌∷◌, ◌++◌, Option, Some}
use Rattle.disk_model.specs.Disk.{Image}
use Rattle.disk_model.specs.declared.disk.Addr.{Addr}
use Rattle.page_chain.specs.Chains.{chain}
use Rattle.page_chain.specs.Pages.{Pages, pages_of}
use Rattle.stored_database.specs.Catalogue.{Catalogue, catalogue_in, most_pages}
use Rattle.catalog_pages.specs.declared.writing.Ends.{Ends}

-- The chain of a file ends at this page.
pub record EndsAt (pages : Pages) (last : ℕ) : Type 0 where
  pub earlier : List ℕ
  pub chain : chain most_pages pages ≡ Some (earlier ++ last ∷ [])

-- The three chains of the catalogues end at these pages.
pub record AreEnds (m : Image) (ends : Ends) : Type 0 where
  pub entries : EndsAt (pages_of m 5) ends.entries
  pub columns : EndsAt (pages_of m 6) ends.columns
  pub parts : EndsAt (pages_of m 7) ends.parts

-- The pages of all files but the three catalogues are the same.
abbrev pub SameBesides : Image → Image → Type 0
SameBesides m n = (b : Addr) → (b.file ≡ 5 → ⊥) → (b.file ≡ 6 → ⊥) → (b.file ≡ 7 → ⊥) → n b ≡ m b

-- The pages are still known, and hold this catalogue; its chains end there, and other files are as before.
pub record Written (before : Image) (known : Option Image) (ends : Ends) (cat : Catalogue) : Type 0 where
  pub image : Image
  pub still_known : known ≡ Some image
  pub holds : catalogue_in (pages_of image) ≡ Some cat
  pub ends_there : AreEnds image ends
  pub others : SameBesides before image

-- The pages hold no catalogue whose chains end there.
abbrev pub NoCatalogue : Ends → Image → Addr → Type 0
NoCatalogue ends m a = (cat : Catalogue) → catalogue_in (pages_of m) ≡ Some cat → AreEnds m ends → ⊥
