use Rattle.std.proofs.Common.{OnOk, subst, sym}
use Rattle.plain_base.specs.Shown.{database_of}
use Rattle.catalog_moves.specs.declared.gone_trees.TreeSort.{TreeSort}
use Rattle.catalog_moves.specs.Gone.{tree_parts}
use Rattle.catalog_moves.specs.Moves.{CameParts}
use Rattle.catalog_moves.proofs.gone_trees.put_trees.Goals as goal

pub returns-in-View-clause-came : goal.returns-in-View-clause-came
returns-in-View-clause-came c =
    subst (λ (s : TreeSort). OnOk c.put_query.result (CameParts c.args.rows.now.items c.put_query.new.rows.items (tree_parts s (database_of c.args.plain.now) c.args.place.now))) (sym c.in-View.is) c.put_query.ensures.came

pub returns-in-Rule-clause-came : goal.returns-in-Rule-clause-came
returns-in-Rule-clause-came c =
    subst (λ (s : TreeSort). OnOk c.put_its_rules.result (CameParts c.args.rows.now.items c.put_its_rules.new.rows.items (tree_parts s (database_of c.args.plain.now) c.args.place.now))) (sym c.in-Rule.is) c.put_its_rules.ensures.came

pub returns-in-Permit-clause-came : goal.returns-in-Permit-clause-came
returns-in-Permit-clause-came c =
    subst (λ (s : TreeSort). OnOk c.put_its_permits.result (CameParts c.args.rows.now.items c.put_its_permits.new.rows.items (tree_parts s (database_of c.args.plain.now) c.args.place.now))) (sym c.in-Permit.is) c.put_its_permits.ensures.came
