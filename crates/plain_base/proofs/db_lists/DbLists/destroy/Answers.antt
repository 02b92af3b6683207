use Rattle.std.proofs.Common.{sym, subst}
use Rattle.calculus.specs.declared.change.DbChange.TheVariants as change
use Rattle.calculus.specs.Change.{laid}
use Rattle.calculus.specs.Database.{Db}
use Rattle.calculus.specs.IsDatabase.{IsDatabase}
use Rattle.plain_base.proofs.db_lists.DbLists.destroy.Goals as goal

pub invariant_of-self : goal.invariant_of-self
unfolding laid
invariant_of-self c =
    rw (c.leave.ensures, c.leave_with_base.ensures, c.leave-2.ensures, c.leave_keys.ensures, c.leave_keys-2.ensures)
    (subst (λ (db : Db). IsDatabase (laid db (change.Destroy c.args.rels.now))) (sym c.self.view_is) c.requires)
