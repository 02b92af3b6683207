use Rattle.std.proofs.Common.{sym, subst, List}
use Rattle.calculus.specs.declared.change.DbChange.TheVariants as change
use Rattle.calculus.specs.Change.{laid}
use Rattle.calculus.specs.Database.{Db, View}
use Rattle.calculus.specs.IsDatabase.{IsDatabase}
use Rattle.plain_base.proofs.Outcomes.{either}
use Rattle.plain_base.proofs.db_lists.DbLists.create_view.Goals as goal

pub invariant_of-self : goal.invariant_of-self
unfolding laid
invariant_of-self c =
    either c.put_in_order.result
    (λ (vs : List View). IsDatabase (record {
      dba = c.self.inside.dba;
      relations = c.self.inside.relations.items;
      indexes = c.self.inside.indexes.items;
      views = vs;
      rules = c.self.inside.rules.items;
      permits = c.self.inside.permits.items;
    }))
    _ _ _ c.put_in_order.ensures.ok c.put_in_order.ensures.err
    (rw c.in_ok-view.ensures (subst (λ (db : Db). IsDatabase (laid db (change.View c.args.info.now c.args.query.now))) (sym c.self.view_is) c.requires))
    c.self.invariant
