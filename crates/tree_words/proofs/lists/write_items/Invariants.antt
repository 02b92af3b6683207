use Rattle.std.proofs.Common.{◌≡◌, ℕ, ◌++◌, take, length}
use Rattle.tree_words.specs.Words.{items_write, ItemsFit}
use Rattle.tree_words.proofs.lists.write_items.Given as goal

abbrev pub invariant-loop-item : goal.invariant-loop-item
invariant-loop-item g l = (n : ℕ) → ItemsFit (g.T.Spelled.codec n) (length l.items) l.items → l.out.items ≡ l.fn.out.items ++ items_write (g.T.Spelled.codec n) (take l.item-index l.items)
