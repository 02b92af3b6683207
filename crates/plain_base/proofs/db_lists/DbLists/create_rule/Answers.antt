use Rattle.std.proofs.Common.{sym, subst, List}
use Rattle.calculus.specs.declared.query.RelKey.{RelKey}
use Rattle.calculus.specs.declared.schema.Rule.{Rule}
use Rattle.calculus.specs.declared.change.DbChange.TheVariants as change
use Rattle.calculus.specs.Change.{laid}
use Rattle.calculus.specs.Database.{Db}
use Rattle.calculus.specs.IsDatabase.{IsDatabase}
use Rattle.plain_base.proofs.Outcomes.{either}
use Rattle.plain_base.proofs.db_lists.DbLists.create_rule.Goals as goal

pub invariant_of-self : goal.invariant_of-self
unfolding laid
invariant_of-self c =
    either c.put_in_order.result
    (λ (ps : List (RelKey × Rule)). IsDatabase (record {
      dba = c.self.inside.dba;
      relations = c.self.inside.relations.items;
      indexes = c.self.inside.indexes.items;
      views = c.self.inside.views.items;
      rules = ps;
      permits = c.self.inside.permits.items;
    }))
    _ _ _ c.put_in_order.ensures.ok c.put_in_order.ensures.err
    (rw c.in_ok-rule.ensures (subst (λ (db : Db). IsDatabase (laid db (change.Rule c.args.rel.now c.args.rule.now))) (sym c.self.view_is) c.requires))
    c.self.invariant
