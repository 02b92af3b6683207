use Rattle.std.proofs.Common.{◌≡◌, ◌∙◌, subst, Bool, true, ◌&&◌}
use Rattle.std.specs.Prelude.{IfOk}
use Rattle.calculus.specs.IsDatabase.{keys_stand}
use Rattle.calculus.specs.Lists.{is_any}
use Rattle.calculus.specs.Stored.{attrs_at}
use Rattle.quel_meaning.specs.FitQueries.{can_be_ranged_over}
use Rattle.tree_check.proofs.Parts.{between}
use Rattle.tree_check.proofs.utilities.index_is_new.Goals as goal

pub returns-clause-known : goal.returns-clause-known
returns-clause-known g c = λ db h.
    let yes : (can_be_ranged_over db c.args.rel.now && (is_any c.args.keys.now && keys_stand (attrs_at db c.args.rel.now) c.args.keys.now)) ≡ true =
    cc (c.in_ok-may_be_indexed.ensures.known db h, c.if-not-branch.false) in
    subst (λ (b : Bool). IfOk c.is_new.result (λ fit. fit ≡ b)) (between _ _ _ yes) (c.is_new.ensures.known db (c.in_ok-may_be_indexed.ensures.stays db h))
