use Rattle.std.proofs.Common.{sym, ◌∙◌, subst}
use Rattle.std.specs.List.{flat_map}
use Rattle.calculus.specs.Database.{Db}
use Rattle.plain_base.specs.Shown.{database_of}
use Rattle.catalog_moves.specs.declared.gone_trees.TreeSort.TheVariants as trees
use Rattle.catalog_moves.specs.Files.{places_of}
use Rattle.catalog_moves.specs.Gone.{gone_parts}
use Rattle.catalog_moves.specs.Moves.{CameParts}
use Rattle.catalog_moves.proofs.Coming.{came_fit, parts_then}
use Rattle.catalog_moves.proofs.GoneParts.{on_ok, parts_gone}
use Rattle.calculus.specs.IsDatabase.{IsDatabase}
use Rattle.catalog_moves.proofs.going.put_destroyed_trees.Goals as goal

pub returns-clause-came : goal.returns-clause-came
returns-clause-came c bases =
    let db = database_of c.args.plain.now in
    let second = c.in_ok-put_all_trees.ensures.same in
    let third = c.in_ok-put_all_trees-2.ensures.same ∙ second in
    let old = c.args.rows.now.items in
    let one = c.put_all_trees.new.rows.items in
    let two = c.put_all_trees-2.new.rows.items in
    let three = c.put_all_trees-3.new.rows.items in
    on_ok c.put_all_trees-3.result
    (λ h. subst (CameParts old three) (parts_gone db c.requires.base c.args.files.now bases c.args.rels.now)
    (parts_then old one three _ _ c.in_ok-put_all_trees.ensures.came
    (parts_then one two three _ _ (subst (λ (db : Db). CameParts one two (flat_map (gone_parts trees.Rule c.args.rels.now db) (places_of c.args.files.now))) second c.in_ok-put_all_trees-2.ensures.came)
    (subst (λ (db : Db). CameParts two three (flat_map (gone_parts trees.Permit c.args.rels.now db) (places_of c.args.files.now))) third h))))
    c.put_all_trees-3.ensures.came

pub put_all_trees-requires-clause-base : goal.put_all_trees-requires-clause-base
put_all_trees-requires-clause-base c = c.requires.base

pub put_all_trees-requires-clause-listed : goal.put_all_trees-requires-clause-listed
put_all_trees-requires-clause-listed c = c.requires.listed

pub put_all_trees-requires-2-clause-base : goal.put_all_trees-requires-2-clause-base
put_all_trees-requires-2-clause-base c = subst IsDatabase (sym c.in_ok-put_all_trees.ensures.same) c.requires.base

pub put_all_trees-requires-2-clause-listed : goal.put_all_trees-requires-2-clause-listed
put_all_trees-requires-2-clause-listed c = c.requires.listed

pub put_all_trees-requires-3-clause-base : goal.put_all_trees-requires-3-clause-base
put_all_trees-requires-3-clause-base c = subst IsDatabase (sym (c.in_ok-put_all_trees-2.ensures.same ∙ c.in_ok-put_all_trees.ensures.same)) c.requires.base

pub put_all_trees-requires-3-clause-listed : goal.put_all_trees-requires-3-clause-listed
put_all_trees-requires-3-clause-listed c = c.requires.listed

pub returns-clause-same : goal.returns-clause-same
returns-clause-same c = c.put_all_trees-3.ensures.same ∙ c.in_ok-put_all_trees-2.ensures.same ∙ c.in_ok-put_all_trees.ensures.same

pub returns-clause-short : goal.returns-clause-short
returns-clause-short c fit =
    on_ok c.put_all_trees-3.result
    (λ last. came_fit _ _ _ (came_fit _ _ _ (came_fit _ _ _ fit c.in_ok-put_all_trees.ensures.came.came) c.in_ok-put_all_trees-2.ensures.came.came) last.came)
    c.put_all_trees-3.ensures.came
