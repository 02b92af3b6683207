use Rattle.std.proofs.Common.{◌∙◌, List, OnOk, subst, sym}
use Rattle.calculus.specs.declared.query.RelKey.{RelKey}
use Rattle.calculus.specs.Database.{Db}
use Rattle.stored_database.specs.Moves.{destroyed, rows_of}
use Rattle.plain_base.specs.Shown.{database_of}
use Rattle.catalog_moves.specs.Bases.{IndexBases}
use Rattle.catalog_moves.specs.Files.{files_of}
use Rattle.catalog_moves.specs.Moves.{AreRows}
use Rattle.catalog_moves.proofs.FromNone.{ok_too}
use Rattle.catalog_moves.proofs.RenumberedBases.{renumbered_bases}
use Rattle.catalog_moves.proofs.renumbering.put_renumbered.Goals as goal

pub put_all_destroyed-requires : goal.put_all_destroyed-requires
put_all_destroyed-requires c = c.args.plain.now.is

pub put_all_destroyed-requires-2 : goal.put_all_destroyed-requires-2
put_all_destroyed-requires-2 c = c.put_all_destroyed.new.plain.is

pub returns-clause-same : goal.returns-clause-same
returns-clause-same c = c.put_all_destroyed-2.ensures.same ∙ c.in_ok-put_all_destroyed.ensures.same

pub returns-clause-table : goal.returns-clause-table
returns-clause-table c = ok_too c.put_all_destroyed-2.result c.renumber.ensures.places

pub returns-clause-go : goal.returns-clause-go
returns-clause-go c none bases =
    ok_too c.put_all_destroyed-2.result
    (subst (λ (rels : List RelKey). AreRows (rows_of (files_of c.args.files.now) (destroyed rels (database_of c.args.plain.now))) c.put_all_destroyed.new.rows) c.from_ref-keys.ensures.value
    (c.in_ok-put_all_destroyed.ensures.rows none bases))

pub returns-clause-come : goal.returns-clause-come
returns-clause-come c none bases here may =
    let same = c.in_ok-put_all_destroyed.ensures.same in
    subst (λ (of : List RelKey × Db). OnOk c.put_all_destroyed-2.result (AreRows (rows_of (files_of c.renumber.new.self) (destroyed of.0 of.1)) c.put_all_destroyed-2.new.rows)) (λ i. (c.from_ref-keys.ensures.value i, same i))
    (c.put_all_destroyed-2.ensures.rows none (subst (IndexBases c.renumber.new.self) (sym same)
    (renumbered_bases c.args.files.now (database_of c.args.plain.now) c.args.plain.now.is bases c.renumber.new.self c.args.key.now c.args.file c.args.used here c.renumber.ensures.places may)))

pub returns-clause-short : goal.returns-clause-short
returns-clause-short c fit = c.put_all_destroyed-2.ensures.short fit
