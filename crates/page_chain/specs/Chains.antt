-- The chains that the pages of a file make.
use Rattle.std.specs.Prelude.{◌≡◌, ℕ, zero, suc, ◌<◌, ◌==◌, not, Bool, true, false, List, [], ◌∷◌, ◌++◌, length, Option, Some, None, option_map}
use Rattle.disk_model.specs.Disk.{Image}
use Rattle.disk_model.specs.declared.disk.Addr.{Addr}
use Rattle.page_chain.specs.Lists.{◌>>=◌, when}
use Rattle.page_chain.specs.Pages.{Pages, pages_of, next_of}

-- the numbers of the pages of the chain from a page on, where there are at most so many
abbrev pub chain_from : ℕ → ℕ → Pages → ℕ → Option (List ℕ)
chain_from zero bound pages page = None
chain_from (suc most) bound pages page = elim (next_of bound page (pages page)) [
  | None ↦ None
  | Some zero ↦ Some (page ∷ [])
  | Some (suc next) ↦ option_map (λ rest. page ∷ rest) (chain_from most bound pages (suc next))
]

-- the numbers of the pages of the chain from page 0 on, all below the bound
unfoldable pub chain : ℕ → Pages → Option (List ℕ)
chain bound pages = chain_from bound bound pages 0

-- the pages below `used`, all of them on the chain from page 0
unfoldable pub whole_chain : ℕ → Pages → Option (List ℕ)
whole_chain used pages = do
  numbers ← chain used pages
  when (length numbers == used) numbers

-- these are the numbers of the pages of a chain
unfoldable pub IsChain : ℕ → Pages → List ℕ → Type 0
IsChain bound pages [] = ⊥
IsChain bound pages (page ∷ []) = next_of bound page (pages page) ≡ Some 0
IsChain bound pages (page ∷ next ∷ more) = (0 < next) × (next_of bound page (pages page) ≡ Some next) × IsChain bound pages (next ∷ more)

-- a number and those behind it, so many in all
abbrev pub numbers_from : ℕ → ℕ → List ℕ
numbers_from zero page = []
numbers_from (suc n) page = page ∷ numbers_from n (suc page)

-- whether a chain that ends at page `last` goes on, or ends, at this page as it must
abbrev pub is_on : ℕ → ℕ → ℕ → Option (List ℕ) → Bool
is_on bound last page p = elim (next_of bound page p) [
  | None ↦ false
  | Some zero ↦ page == last
  | Some (suc next) ↦ not (page == last)
]

-- the first of these numbers is 0
abbrev pub starts : List ℕ → Bool
starts [] = false
starts (n ∷ ns) = n == 0

-- The page at this address is that page of the file, and isn't one of a chain.
pub record OffPage (file page bound : ℕ) (m : Image) (a : Addr) : Type 0 where
  pub of_file : a.file ≡ file
  pub of_page : a.page ≡ page
  pub off : next_of bound page (m a) ≡ None

-- The page at this address, of this file, isn't one of a chain, and page 0 of the file begins none.
pub record NoChain (file bound : ℕ) (m : Image) (a : Addr) : Type 0 where
  pub of_file : a.file ≡ file
  pub off : next_of bound a.page (m a) ≡ None
  pub none : chain bound (pages_of m file) ≡ None

-- The page at this address, of this file, isn't one of a chain that ends at page `last`, and page 0 of the file begins none such.
pub record NoChainTo (file bound last : ℕ) (m : Image) (a : Addr) : Type 0 where
  pub of_file : a.file ≡ file
  pub off : is_on bound last a.page (m a) ≡ false
  pub none : (earlier : List ℕ) → starts (earlier ++ last ∷ []) ≡ true → IsChain bound (pages_of m file) (earlier ++ last ∷ []) → ⊥
