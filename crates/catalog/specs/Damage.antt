-- Which page shows that the catalogues of a disk are none of a database.
use Rattle.std.specs.Prelude.{◌≡◌, ◌⊎◌, ℕ, IsTrue, is_some}
use Rattle.disk_model.specs.Disk.{Image}
use Rattle.disk_model.specs.declared.disk.Addr.{Addr}
use Rattle.page_chain.specs.Chains.{chain, NoChain}
use Rattle.page_chain.specs.Pages.{pages_of}
use Rattle.stored_database.specs.Catalogue.{most_pages}

-- a chain of the entries, the attributes or the parts of trees breaks off at this page
abbrev pub BreaksOff : Image → Addr → Type 0
BreaksOff m a = NoChain 5 most_pages m a ⊎ (NoChain 6 most_pages m a ⊎ NoChain 7 most_pages m a)

-- the file has a chain from page 0 on
abbrev pub IsChained : Image → ℕ → Type 0
IsChained m file = IsTrue (is_some (chain most_pages (pages_of m file)))

-- All three catalogues lie on chains, and this is the first page of the entries.
pub record IsFirst (m : Image) (a : Addr) : Type 0 where
  pub entries : IsChained m 5
  pub columns : IsChained m 6
  pub parts : IsChained m 7
  pub file : a.file ≡ 5
  pub page : a.page ≡ 0

-- this page shows it: a chain of a catalogue breaks off there, or all three lie on chains, and it is the first page of the entries
abbrev pub ShowsNone : Image → Addr → Type 0
ShowsNone m a = BreaksOff m a ⊎ IsFirst m a
