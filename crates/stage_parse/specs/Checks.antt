-- What is said of a statement's checked tree.
use Rattle.std.specs.Prelude.{◌≡◌, ℕ, true, List, Result, Ok, Err}
use Rattle.calculus.specs.declared.request.Checked.{Checked}
use Rattle.calculus.specs.declared.statement.Statement.{Statement}
use Rattle.calculus.specs.Database.{Db}
use Rattle.calculus.specs.Who.{Unrestricted, asker_of, as_user}
use Rattle.quel_meaning.specs.Fit.{is_fit}
use Rattle.quel_meaning.specs.Meaning.{checked_tree, ruled_tree, tree_meaning}
use Rattle.quel_meaning.specs.Ranges.{Ranges}
use Rattle.fault_io.specs.Files.{Files}
use Rattle.utility_trees.specs.Answers.{Says}
use Rattle.utility_trees.specs.declared.fault.CheckFault.{CheckFault}
use Rattle.view_text.specs.Expanded.{expanded_tree}

-- the tree is what a statement asks for, once views and permits are put in and the rules join it: it is fit, and means unrestricted what the other means for the user
pub record IsChecked (db : Db) (user : List ℕ) (ranges : Ranges) (s : Statement) (tree : Checked) : Type 0 where
  pub asked : Checked
  pub checked_tree : checked_tree db (asker_of user) ranges s ≡ Ok asked
  pub expanded : tree ≡ ruled_tree db (expanded_tree db (as_user user) asked)
  pub fit : is_fit db user tree ≡ true
  pub means : (shelf : Files) → tree_meaning db shelf Unrestricted user tree ≡ tree_meaning db shelf (as_user user) user (ruled_tree db asked)

-- what comes of a statement: its checked tree, or the number that refuses it
abbrev pub Checks : Db → List ℕ → Ranges → Statement → Result Checked CheckFault → Type 0
Checks db user ranges s result = Says (λ tree. IsChecked db user ranges s tree) (λ number. checked_tree db (asker_of user) ranges s ≡ Err number) result
