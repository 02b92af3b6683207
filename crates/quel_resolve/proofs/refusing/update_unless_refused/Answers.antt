use Rattle.std.proofs.Common.{ap, ◌∙◌, None}
use Rattle.quel_refusals.specs.CheckedStatements.{update_of}
use Rattle.quel_meaning.specs.Resolved.{tree_of}
use Rattle.quel_meaning.specs.WrittenQuery.{query_of}
use Rattle.quel_resolve.proofs.Changes.{update_on, update_tree}
use Rattle.quel_resolve.proofs.refusing.update_unless_refused.Goals as goal

pub returns-in-Ok-clause-known : goal.returns-in-Ok-clause-known
unfolding tree_of
returns-in-Ok-clause-known g c = λ scope h u q e w a.
    (update_tree scope c.args.s.now (query_of scope c.args.s.now) c.args.update (e ∙ ap (update_of scope c.args.s.now) q), c.in-Ok.ensures.known scope h u q e (update_on scope c.args.s.now c.args.update.query c.args.update e None) w a)
