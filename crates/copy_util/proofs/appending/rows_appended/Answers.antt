use Rattle.std.proofs.Common.{◌∙◌}
use Rattle.base_trait.specs.Scans.{first_place}
use Rattle.calculus.specs.Stored.{rows_at}
use Rattle.copy_util.proofs.Appended.{ascends_scanned, known_appended}
use Rattle.copy_util.proofs.appending.rows_appended.Goals as goal

pub returns-in-Ok-clause-known : goal.returns-in-Ok-clause-known
returns-in-Ok-clause-known g c = λ db e.
    known_appended db c.args.rel.now c.args.rows.items c.in-Ok.coming.items c.change_with_room.result
    (ascends_scanned (rows_at db c.args.rel.now) (g.B.Base.left c.args.base.now c.args.rel.now first_place) (g.B.Base.scanned c.args.base.now db c.args.rel.now e))
    (c.in-Ok.ensures.known db e) (c.change_with_room.ensures.known db (c.in-Ok.ensures.kept ∙ e))
