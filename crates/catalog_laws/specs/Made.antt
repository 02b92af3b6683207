-- Pages of files on which no row lies.
use Rattle.std.specs.Prelude.{◌≡◌, ℕ, ◌^◌, ◌<◌, ◌≤◌, List, [], Option, Some}
use Rattle.calculus.specs.Rows.{Row}
use Rattle.page_chain.specs.Pages.{Pages}
use Rattle.page_chain.specs.Rows.{set_on}

-- Pages of a file on which no row lies, so many, one behind the other on a chain.
pub record AreEmpty (used : ℕ) (pages : Pages) : Type 0 where
  pub none : (read : List ℕ → Option Row) → set_on read used pages ≡ Some []

-- For each number of pages, one at least, there are such.
abbrev pub ThereAreEmptyPages : Type 0
ThereAreEmptyPages = (used : ℕ) → 1 ≤ used → used < 2 ^ 32 → (pages : Pages) × AreEmpty used pages
