-- How deep the tree is that a statement asks for.
use Rattle.std.specs.Prelude.{ℕ, max, ◌∷◌, map}
use Rattle.calculus.specs.declared.request.Checked.{Checked}
use Rattle.calculus.specs.declared.request.Checked.TheVariants as checked
use Rattle.calculus.specs.declared.request.Utility.{Utility}
use Rattle.calculus.specs.declared.request.Utility.TheVariants as utility
use Rattle.calculus.specs.TreeLevels.{qual_levels, query_levels}
use Rattle.quel_meaning.specs.Planned.{greatest}

-- of a utility: of a view its query's, of a permit or a rule its qualification's
abbrev pub utility_levels : Utility → ℕ
utility_levels (utility.View rel query) = query_levels query
utility_levels (utility.Permit rel permit) = qual_levels permit.qual
utility_levels (utility.Rule rel rule) = qual_levels rule.qual
utility_levels _ = 0

-- of a tree: the greatest of its queries'; of an update, of its query's and of what must hold of new rows
unfoldable pub tree_levels : Checked → ℕ
tree_levels (checked.Answer asked) = greatest (map (λ a. query_levels a.query) asked)
tree_levels (checked.Update update) = max (query_levels update.query) (greatest (map qual_levels (update.new_cut ∷ update.checks)))
tree_levels (checked.Utility request) = utility_levels request

-- the levels of a checked tree, at most: one of more can't be handed on as bytes
abbrev pub most_tree_levels : ℕ
most_tree_levels = 3000
