use Rattle.std.proofs.Common.{◌∙◌, subst, sym, OnOk}
use Rattle.calculus.specs.Change.{IsLawful}
use Rattle.calculus.specs.Database.{Db}
use Rattle.stored_database.specs.Moves.{going}
use Rattle.catalog_moves.specs.Bases.{IndexBases}
use Rattle.catalog_moves.specs.Files.{files_after, files_of}
use Rattle.catalog_moves.specs.Moves.{AreRows}
use Rattle.catalog_moves.proofs.FromNone.{ok_too}
use Rattle.catalog_moves.proofs.moving.put_moves.Goals as goal

pub put_going-requires-clause-lawful : goal.put_going-requires-clause-lawful
put_going-requires-clause-lawful c = subst (λ (d : Db). IsLawful d c.args.change.now) (sym c.in_ok-put_coming.ensures.same) c.requires

pub returns-clause-go : goal.returns-clause-go
returns-clause-go c none bases =
    let f = files_of c.args.files.now in
    subst (λ (d : Db). OnOk c.put_going.result (AreRows (going f (files_after c.args.change.now c.args.file c.args.used f) d c.args.change.now) c.put_going.new.rows)) c.in_ok-put_coming.ensures.same
    (c.put_going.ensures.rows none (subst (λ (d : Db). IndexBases c.args.files.now d) (sym c.in_ok-put_coming.ensures.same) bases))

pub put_coming-requires-clause-lawful : goal.put_coming-requires-clause-lawful
put_coming-requires-clause-lawful c = c.requires

pub put_coming-requires-clause-base : goal.put_coming-requires-clause-base
put_coming-requires-clause-base c = c.args.plain.now.is

pub put_going-requires-clause-base : goal.put_going-requires-clause-base
put_going-requires-clause-base c = c.put_coming.new.plain.is

pub returns-clause-same : goal.returns-clause-same
returns-clause-same c = c.put_going.ensures.same ∙ c.in_ok-put_coming.ensures.same

pub returns-clause-come : goal.returns-clause-come
returns-clause-come c none = ok_too c.put_going.result (c.in_ok-put_coming.ensures.rows none)
