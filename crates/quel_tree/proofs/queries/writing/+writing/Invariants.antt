use Rattle.std.proofs.Common.{◌≡◌, ℕ, ◌++◌, take, length}
use Rattle.tree_words.specs.Words.{items_write, ItemsFit}
use Rattle.quel_tree.specs.Queries.{target, term}
use Rattle.quel_tree.proofs.queries.writing.+writing.Given as goal

abbrev pub invariant-write_term_items-loop-item : goal.invariant-write_term_items-loop-item
invariant-write_term_items-loop-item l = (n : ℕ) → ItemsFit (term n) (length l.items) l.items → l.out.items ≡ l.fn.out.items ++ items_write (term n) (take l.item-index l.items)

abbrev pub invariant-write_target_items-loop-item : goal.invariant-write_target_items-loop-item
invariant-write_target_items-loop-item l = (n : ℕ) → ItemsFit (target n) (length l.items) l.items → l.out.items ≡ l.fn.out.items ++ items_write (target n) (take l.item-index l.items)
