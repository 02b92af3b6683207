use Rattle.std.proofs.Common.{subst, Err, rules}
use Rattle.quel_tree.specs.Message.{most_tree_levels, IsGiven}
use Rattle.catalog_read.proofs.Spellings.{tree_read, none_read}
use Rattle.catalog_read.proofs.trees.spelled.Goals as goal

pub returns-in-Ok : goal.returns-in-Ok
returns-in-Ok g c = tree_read g.T.Spelled.codec (g.T.Spelled.exact most_tree_levels (search rules)) c.args.bytes.now c.in-Ok.tree c.in-Ok.ensures.found

pub returns-in-Err-NotATree : goal.returns-in-Err-NotATree
returns-in-Err-NotATree g c =
    none_read g.T.Spelled.codec (g.T.Spelled.exact most_tree_levels (search rules)) c.args.bytes.now
    (λ tree s. subst (λ e. IsGiven (Err e) tree) c.in-Err-NotATree.field-0-is (c.in-Err-NotATree.ensures.only tree s))
