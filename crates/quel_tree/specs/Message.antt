-- Trees that are sent as one message: as bytes, and the first byte that is wrong in bytes that are none.
use Rattle.std.specs.Prelude.{◌≡◌, ℕ, List, Result, Ok, Err}
use Rattle.tree_words.specs.Codec.{Codec}
use Rattle.tree_words.specs.Whole.{FirstWrong}
use Rattle.quel_tree.specs.declared.tree.TreeFault.{TreeFault}
use Rattle.quel_tree.specs.declared.tree.TreeFault.TheVariants as faults

-- the levels of a tree, at most
abbrev pub most_tree_levels : ℕ
most_tree_levels = 3000

-- the tree is lawful and has no more levels, and these are its bytes
abbrev pub IsSpelled : {A : Type 0} → (ℕ → Codec A) → A → List ℕ → Type 0
IsSpelled codec tree bytes = (codec most_tree_levels).Fits tree × (bytes ≡ (codec most_tree_levels).write tree)

-- the answer is this tree, unless memory ran out
abbrev pub IsGiven : {A : Type 0} → Result A TreeFault → A → Type 0
IsGiven (Ok given) tree = given ≡ tree
IsGiven (Err (faults.NotATree at)) tree = ⊥
IsGiven (Err faults.OutOfMemory) tree = Unit {0}

-- the byte that is named is the first that no tree has there, unless memory ran out
abbrev pub IsFirstWrong : {A : Type 0} → (ℕ → Codec A) → List ℕ → TreeFault → Type 0
IsFirstWrong codec bytes (faults.NotATree at) = FirstWrong (codec most_tree_levels) bytes at
IsFirstWrong codec bytes faults.OutOfMemory = Unit {0}
