use Rattle.std.proofs.Common.{◌≡◌, sym, ◌∙◌, false}
use Rattle.quel_resolve.proofs.Changes.{has_tree_on, no_rows}
use Rattle.quel_resolve.specs.Kinds.{changes_rows}
use Rattle.quel_resolve.proofs.trees.changing.Goals as goal

pub returns-else-changes_rows-clause-known : goal.returns-else-changes_rows-clause-known
returns-else-changes_rows-clause-known g c = λ scope h u q ch w a r.
    let none : changes_rows c.args.s.now ≡ false = sym c.changes_rows.ensures ∙ c.if-changes_rows.false in
    c.made.ensures.known scope h u q (no_rows scope c.args.s.now c.args.q none) ch (has_tree_on c.args.s.now c.args.info.now w r none) w a r
