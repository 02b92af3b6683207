use Rattle.std.proofs.Common.{OnOk, sym, subst}
use Rattle.calculus.specs.Database.{Db}
use Rattle.stored_database.specs.Moves.{rows_of, destroyed}
use Rattle.plain_base.specs.Shown.{database_of}
use Rattle.stored_database.specs.Printed.{parts_for}
use Rattle.catalog_moves.specs.Bases.{IndexBases}
use Rattle.catalog_moves.specs.Files.{files_of}
use Rattle.catalog_moves.specs.Moves.{CameParts}
use Rattle.catalog_moves.proofs.FromNone.{all_came}
use Rattle.catalog_moves.proofs.GoneParts.{on_ok}
use Rattle.catalog_moves.proofs.going.put_all_destroyed.Goals as goal

pub returns-clause-rows : goal.returns-clause-rows
returns-clause-rows c none bases =
    let same = c.in_ok-put_destroyed.ensures.same in
    all_came c.put_destroyed_trees.result c.args.rows.now (record { entries = c.put_destroyed.new.rows.entries; columns = c.put_destroyed.new.rows.columns; parts = c.put_destroyed_trees.new.rows }) (rows_of (files_of c.args.files.now) (destroyed c.args.rels.now (database_of c.args.plain.now)))
    c.put_destroyed.new.rows.parts.items none c.in_ok-put_destroyed.ensures.parts (c.in_ok-put_destroyed.ensures.entries bases) (c.in_ok-put_destroyed.ensures.columns bases)
    (subst (λ (db : Db). OnOk c.put_destroyed_trees.result (CameParts c.put_destroyed.new.rows.parts.items c.put_destroyed_trees.new.rows.items (parts_for (files_of c.args.files.now) (destroyed c.args.rels.now db)))) same
    (c.put_destroyed_trees.ensures.came (subst (IndexBases c.args.files.now) (sym same) bases)))

pub returns-clause-short : goal.returns-clause-short
returns-clause-short c fit =
    let known = c.in_ok-put_destroyed.ensures.short fit in
    on_ok c.put_destroyed_trees.result (λ parts. record { entries = known.entries; columns = known.columns; parts = parts }) (c.put_destroyed_trees.ensures.short known.parts)
