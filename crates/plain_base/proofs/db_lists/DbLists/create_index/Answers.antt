use Rattle.std.proofs.Common.{sym, subst, List}
use Rattle.calculus.specs.declared.change.DbChange.TheVariants as change
use Rattle.calculus.specs.Change.{laid}
use Rattle.calculus.specs.Database.{Db, Index}
use Rattle.calculus.specs.IsDatabase.{IsDatabase}
use Rattle.plain_base.proofs.Outcomes.{either}
use Rattle.plain_base.proofs.db_lists.DbLists.create_index.Goals as goal

pub invariant_of-self : goal.invariant_of-self
unfolding laid
invariant_of-self c =
    either c.put_in_order.result
    (λ (xs : List Index). IsDatabase (record {
      dba = c.self.inside.dba;
      relations = c.self.inside.relations.items;
      indexes = xs;
      views = c.self.inside.views.items;
      rules = c.self.inside.rules.items;
      permits = c.self.inside.permits.items;
    }))
    _ _ _ c.put_in_order.ensures.ok c.put_in_order.ensures.err
    (rw c.in_ok-index.ensures (subst (λ (db : Db). IsDatabase (laid db (change.Index c.args.base.now c.args.name.now c.args.keys.now))) (sym c.self.view_is) c.requires))
    c.self.invariant
