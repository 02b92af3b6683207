use Rattle.std.proofs.Common.{◌≡◌, None, refl, sym, ◌∙◌}
use Rattle.quel_names.specs.Asking.{scope_of}
use Rattle.quel_resolve.specs.Changed.{changed}
use Rattle.quel_resolve.proofs.Changes.{has_tree_alone, no_update}
use Rattle.quel_resolve.proofs.trees.tree_over.Goals as goal

pub returns-in-None-clause-known : goal.returns-in-None-clause-known
returns-in-None-clause-known g c = λ db h q names w a r e.
    let none : changed (scope_of db c.args.user.now c.args.ranges.now) c.args.s.now ≡ None = sym e ∙ c.in-None.is in
    c.made.ensures.known (scope_of db c.args.user.now c.args.ranges.now) h refl q
    (no_update (scope_of db c.args.user.now c.args.ranges.now) c.args.s.now c.args.q names none) none
    (has_tree_alone (scope_of db c.args.user.now c.args.ranges.now) c.args.s.now names none w r) w a r
