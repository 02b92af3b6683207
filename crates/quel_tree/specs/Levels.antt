-- How many levels spellings ask for.
use Rattle.std.specs.Prelude.{◌≡◌, ℕ, ◌≤◌}
use Rattle.calculus.specs.TreeLevels.{qual_levels, query_levels}
use Rattle.calculus.specs.declared.change.DbChange.{DbChange}
use Rattle.calculus.specs.declared.change.DbChange.TheVariants as changes
use Rattle.tree_words.specs.Codec.{Codec}

-- the tree's spelling asks for so many levels: n are enough, the tree fits with each number that is enough, and its bytes are those that it has with n
pub record HasLevels {A : Type 0} (codec : ℕ → Codec A) (tree : A) (levels n : ℕ) : Type 0 where
  pub enough : levels ≤ n
  pub fits : (m : ℕ) → levels ≤ m → (codec m).Fits tree
  pub same : (m : ℕ) → levels ≤ m → (codec m).write tree ≡ (codec n).write tree

-- the levels of a change: of a view those of its query, of a permit or a rule those of its qualification, and else none
abbrev pub change_levels : DbChange → ℕ
change_levels (changes.View info query) = query_levels query
change_levels (changes.Permit rel permit) = qual_levels permit.qual
change_levels (changes.Rule rel rule) = qual_levels rule.qual
change_levels _ = 0
