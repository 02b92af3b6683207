-- What comes of a statement of few levels has few levels, too.
use Rattle.std.proofs.Common.{◌≡◌, sym, subst, ℕ, ◌+◌, ◌≤◌, true, false, IfOk, List, Result, Ok, Err, arith}
use Rattle.calculus.specs.declared.request.Checked.{Checked}
use Rattle.calculus.specs.declared.statement.Statement.{Statement}
use Rattle.calculus.specs.Database.{Db}
use Rattle.calculus.specs.IsDatabase.{IsDatabase}
use Rattle.calculus.specs.Name.{is_name}
use Rattle.calculus.specs.Who.{as_user}
use Rattle.quel_meaning.specs.IsWritten.{is_written}
use Rattle.quel_meaning.specs.Meaning.{checked_permitted, ruled_tree}
use Rattle.quel_meaning.specs.Ranges.{Ranges}
use Rattle.quel_resolve.specs.Answers.{Resolves}
use Rattle.utility_trees.specs.Answers.{Says}
use Rattle.utility_trees.specs.declared.fault.CheckFault.{CheckFault}
use Rattle.view_text.specs.Expanded.{expanded_tree}
use Rattle.reading_laws.specs.Levels.{most_tree_levels, tree_levels}
use Rattle.reading_laws.specs.Shallow.{statement_levels}
use Rattle.reading_laws.proofs.Resolved.{resolved_shallow}
use Rattle.tree_laws.proofs.Trees.{ruled_tree_low}
use Rattle.stage_parse.proofs.Trees.{fit_resolved}

-- the levels of a statement, those that its tree has more, and those of what is put in
in_all : (few tree made : ℕ) → few ≤ 500 → tree ≤ few + 4 → made ≤ tree + 1160 → made ≤ most_tree_levels
in_all few tree made h g f = omega (arith, h, g, f)

-- by what is told of what is cut and ruled
pub stays_shallow : (db : Db) (user : List ℕ) (ranges : Ranges) (s : Statement) (tree : Checked) → IsDatabase db → is_name user ≡ true → is_written s ≡ true
    → Resolves db user ranges s (Ok tree) → statement_levels s ≤ 500 → (result : Result Checked CheckFault)
    → Says (λ made. (made ≡ ruled_tree db (expanded_tree db (as_user user) tree)) × (checked_permitted db (as_user user) tree ≡ true))
    (λ number. (number ≡ 23) × (checked_permitted db (as_user user) tree ≡ false)) result
    → IfOk result (λ made. tree_levels made ≤ most_tree_levels)
stays_shallow db user ranges s tree d named written h few (Ok made) k =
    let fit = fit_resolved db user ranges s tree d named written h in
    subst (λ t. tree_levels t ≤ most_tree_levels) (sym k.0)
    (in_all (statement_levels s) (tree_levels tree) (tree_levels (ruled_tree db (expanded_tree db (as_user user) tree))) few (resolved_shallow db user ranges s tree h) (ruled_tree_low db d (as_user user) user tree fit))
stays_shallow db user ranges s tree d named written h few (Err cause) k = tt
