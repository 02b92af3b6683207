use Rattle.std.proofs.Common.{refl, sym, ◌∙◌, subst, Option, Some, None, []}
use Rattle.std.specs.Prelude.{OnOk}
use Rattle.calculus.specs.declared.query.Query.{Query}
use Rattle.quel_tree.specs.Queries.{query}
use Rattle.stored_database.specs.Parts.{of_view}
use Rattle.stored_database.specs.Trees.{cut, parts_from, tree_bytes}
use Rattle.catalog_moves.specs.Moves.{CameParts}
use Rattle.catalog_moves.proofs.Spelled.{query_fits}
use Rattle.catalog_moves.proofs.Coming.{parts_none}
use Rattle.catalog_moves.proofs.gone_trees.put_query.Goals as goal

pub returns-in-Some-clause-came : goal.returns-in-Some-clause-came
returns-in-Some-clause-came c =
    let known = sym c.in_ok-query.ensures.known ∙ c.in-Some.is in
    subst (λ (o : Option Query). OnOk c.put_tree.result (CameParts c.args.rows.now.items c.put_tree.new.rows.items (elim o [ None ↦ [] | Some q ↦ parts_from c.args.place.now.file of_view 0 0 (cut (tree_bytes query q)) ]))) (sym known)
    (c.put_tree.ensures (query_fits _ c.requires c.args.place.now.key c.in-Some.query known))

pub returns-in-None-clause-came : goal.returns-in-None-clause-came
returns-in-None-clause-came c =
    let known = sym c.in_ok-query.ensures.known ∙ c.in-None.is in
    subst (λ (o : Option Query). CameParts c.args.rows.now.items c.args.rows.now.items (elim o [ None ↦ [] | Some q ↦ parts_from c.args.place.now.file of_view 0 0 (cut (tree_bytes query q)) ])) (sym known) (parts_none _ _ refl)
