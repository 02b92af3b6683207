use Rattle.quel_meaning.proofs.CheckedTrees.{refused_early, checked_resolved, checked_tree_permitted}
use Rattle.quel_meaning.proofs.checking_laws.what_is_checked_is_permitted.Goals as goal

pub returns : goal.returns
returns c = record { refused = refused_early; resolved = checked_resolved; permitted = checked_tree_permitted }
