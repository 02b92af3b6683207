use Rattle.std.proofs.Common.{rules}
use Rattle.message_codec.proofs.ReadAgain.{none_read, value_read}
use Rattle.quel_tree.specs.Message.{most_tree_levels}
use Rattle.message_codec.proofs.values.value_of.Goals as goal

pub returns-in-Ok : goal.returns-in-Ok
returns-in-Ok g c =
    let enough : g.T.Spelled.Enough most_tree_levels = search rules in
    value_read g.T.Spelled.codec c.args.bytes.now c.in-Ok.value (g.T.Spelled.exact most_tree_levels enough) c.in-Ok.ensures.found

pub returns-in-Err-NotATree : goal.returns-in-Err-NotATree
returns-in-Err-NotATree g c =
    let enough : g.T.Spelled.Enough most_tree_levels = search rules in
    none_read g.T.Spelled.codec c.args.bytes.now c.in-Err-NotATree.field-0 _ (g.T.Spelled.exact most_tree_levels enough) c.in-Err-NotATree.field-0-is c.in-Err-NotATree.ensures.only
