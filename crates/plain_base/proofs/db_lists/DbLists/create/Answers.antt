use Rattle.std.proofs.Common.{sym, subst, List}
use Rattle.calculus.specs.declared.change.DbChange.TheVariants as change
use Rattle.calculus.specs.Change.{laid}
use Rattle.calculus.specs.Database.{Db, Relation}
use Rattle.calculus.specs.IsDatabase.{IsDatabase}
use Rattle.plain_base.proofs.Outcomes.{either}
use Rattle.plain_base.proofs.db_lists.DbLists.create.Goals as goal

pub invariant_of-self : goal.invariant_of-self
unfolding laid
invariant_of-self c =
    either c.put_in_order.result
    (λ (rs : List Relation). IsDatabase (record {
      dba = c.self.inside.dba;
      relations = rs;
      indexes = c.self.inside.indexes.items;
      views = c.self.inside.views.items;
      rules = c.self.inside.rules.items;
      permits = c.self.inside.permits.items;
    }))
    _ _ _ c.put_in_order.ensures.ok c.put_in_order.ensures.err
    (rw c.in_ok-relation.ensures (subst (λ (db : Db). IsDatabase (laid db (change.Create c.args.info.now c.args.rows.now))) (sym c.self.view_is) c.requires))
    c.self.invariant
