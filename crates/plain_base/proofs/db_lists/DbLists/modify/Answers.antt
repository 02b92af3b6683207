use Rattle.std.proofs.Common.{sym, subst, ℕ, List}
use Rattle.calculus.specs.declared.change.DbChange.TheVariants as change
use Rattle.calculus.specs.Change.{laid}
use Rattle.calculus.specs.Database.{Db}
use Rattle.calculus.specs.IsDatabase.{IsDatabase}
use Rattle.plain_base.proofs.db_lists.DbLists.modify.Goals as goal

pub invariant_of-self : goal.invariant_of-self
unfolding laid
invariant_of-self c =
    rw (c.restructure.ensures, c.leave_base.ensures)
    (subst (λ (db : Db). IsDatabase (laid db (change.Modify c.args.rel.now c.args.to c.in_ok-keys.keys))) (sym c.self.view_is)
    (subst (λ (keys : List ℕ). IsDatabase (laid c.args.self.now (change.Modify c.args.rel.now c.args.to keys))) (sym c.in_ok-keys.ensures) c.requires))
