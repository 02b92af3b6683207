use Rattle.std.proofs.Common.{◌≡◌, ◌-◌}
use Rattle.tree_words.specs.Words.{items_read, with_front}
use Rattle.tree_words.proofs.lists.read_items.Given as goal

abbrev pub invariant-loop : goal.invariant-loop
invariant-loop g l = items_read (g.T.Spelled.codec l.levels) l.count l.fn.reader ≡ with_front l.items.items (items_read (g.T.Spelled.codec l.levels) (l.count - l.counter) l.reader)
