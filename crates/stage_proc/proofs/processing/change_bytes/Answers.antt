use Rattle.std.proofs.Common.{subst, List, ℕ, Option, IfSome}
use Rattle.calculus.specs.declared.change.DbChange.{DbChange}
use Rattle.message_codec.specs.Messages.{IsAgain}
use Rattle.quel_tree.specs.Changes.{change as change_codec}
use Rattle.quel_tree.specs.Message.{most_tree_levels}
use Rattle.stage_proc.proofs.processing.change_bytes.Goals as goal

pub returns-in-Some-clause-some : goal.returns-in-Some-clause-some
returns-in-Some-clause-some c =
    let sent : IsAgain (change_codec most_tree_levels) c.args.change.now c.in-Some.sent c.in-Some.bytes = subst (λ (o : Option (DbChange × List ℕ)). IfSome o (λ pair. IsAgain (change_codec most_tree_levels) c.args.change.now pair.0 pair.1)) c.in-Some.is c.in_ok-sent.ensures.some in
    (c.in-Some.sent, sent.fits, sent.bytes_are, sent.same)
