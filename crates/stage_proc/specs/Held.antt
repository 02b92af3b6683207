-- The bytes of a tree.
use Rattle.std.specs.Prelude.{◌≡◌, ℕ, List, Some}
use Rattle.calculus.specs.declared.request.Checked.{Checked}
use Rattle.network_meaning.specs.Sorts.{Cargo.tree, Message.cargo}
use Rattle.quel_network.specs.Spelling.{message_by}

-- these bytes are read as this tree, where their last frame says that they are one
abbrev pub IsTreeOf : Checked → List ℕ → Type 0
IsTreeOf t bytes = message_by 2 bytes ≡ Some (cargo (tree t))
