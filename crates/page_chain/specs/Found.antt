-- What is found on a chain.
use Rattle.std.specs.Prelude.{◌≡◌, ℕ, List, [], ◌∷◌, ◌++◌, Some, None}
use Rattle.page_cells.specs.Page.{Slot}
use Rattle.page_chain.specs.Chains.{chain}
use Rattle.page_chain.specs.Lying.{lying, bytes_of}
use Rattle.page_chain.specs.Pages.{Pages}

-- The chain from page 0 on, its last page, and the rows on it, in the order of their places.
pub record Found (bound : ℕ) (pages : Pages) (rows : List (List ℕ)) (last : ℕ) : Type 0 where
  pub earlier : List ℕ
  pub chain : chain bound pages ≡ Some (earlier ++ last ∷ [])
  pub bytes : rows ≡ bytes_of (lying pages (earlier ++ last ∷ []))

-- the row in a slot, where there is one
abbrev pub in_slot : Slot → List (List ℕ)
in_slot None = []
in_slot (Some row) = row ∷ []
