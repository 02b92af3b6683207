-- Rows that are read and put in order, and values that may not be there.
use Rattle.std.specs.Prelude.{◌≡◌, ℕ, ◌==◌, List, Option, Result, Ok, option_map}
use Rattle.std.specs.Ordering.{nat_cmp, ordering_then}
use Rattle.std.specs.declared.cmp.Ordering.{Ordering}
use Rattle.std.specs.declared.cmp.Ordering.TheVariants.{Less, Greater}
use Rattle.page_chain.specs.Lists.{◌>>=◌, when, each, once}
use Rattle.stored_database.specs.Columns.{Column}
use Rattle.stored_database.specs.Entries.{Entry}
use Rattle.stored_database.specs.Parts.{Part}
use Rattle.stored_database.specs.Trees.{tree_at, tree_of}
use Rattle.tree_words.specs.Codec.{Codec}
use Rattle.catalog_read.specs.declared.rows.TreeKey.{TreeKey}

-- what these bytes say, each once and in order
abbrev pub each_once : {A : Type 0} → (List ℕ → Option A) → (A → A → Ordering) → List (List ℕ) → Option (List A)
each_once said_by order rows = each said_by rows >>= once order

-- ---- what rows belong to

-- What ascends lies on this side of something, then at it, and then on the other side.
pub record Splits {A : Type 0} (order : A → A → Ordering) (side : A → Ordering) : Type 0 where
  pub below : (a b : A) → order a b ≡ Less → side b ≡ Less → side a ≡ Less
  pub above : (a b : A) → order a b ≡ Less → side a ≡ Greater → side b ≡ Greater

-- where an entry lies beside a file
abbrev pub entry_side : ℕ → Entry → Ordering
entry_side file e = nat_cmp e.file file

-- where an attribute lies beside a file
abbrev pub column_side : ℕ → Column → Ordering
column_side file c = nat_cmp c.file file

-- where a part lies beside a tree
abbrev pub part_side : TreeKey → Part → Ordering
part_side t p = ordering_then (nat_cmp p.file t.file) (ordering_then (nat_cmp p.sort t.sort) (nat_cmp p.number t.number))

-- ---- trees

-- the tree of this file, sort and number, where its parts are those of one whole tree and spell it
abbrev pub tree_in : {A : Type 0} → (ℕ → Codec A) → List Part → ℕ → ℕ → ℕ → Option A
tree_in codec parts file sort number = tree_at parts file sort number >>= tree_of codec

-- the tree of a part, where it has the number of its parts
abbrev pub numbered_in : {A : Type 0} → (ℕ → Codec A) → (A → ℕ) → List Part → Part → Option A
numbered_in codec number parts p = tree_in codec parts p.file p.sort p.number >>= (λ x. when (number x == p.number) x)

-- ---- values that may not be there

-- both, where both are there
abbrev pub both_there : {A B : Type 0} → Option A → Option B → Option (A × B)
both_there first second = first >>= (λ a. option_map (λ b. (a, b)) second)

-- Two values were made that may not be there, and these are both.
pub record AreBoth {A B E : Type 0} (first : Result (Option A) E) (second : Result (Option B) E) (found : Option (A × B)) : Type 0 where
  pub one : Option A
  pub other : Option B
  pub first_is : first ≡ Ok one
  pub second_is : second ≡ Ok other
  pub found_is : found ≡ both_there one other
