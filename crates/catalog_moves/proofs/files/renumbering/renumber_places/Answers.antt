use Rattle.std.proofs.Common.{sym, ap, ◌∙◌}
use Rattle.std.specs.Prelude.{slice_set}
use Rattle.std.proofs.lemmas.List.Edits.{map_over_more}
use Rattle.catalog_moves.specs.Renumbered.{renumbered_place}
use Rattle.catalog_moves.proofs.Renumbered.{changed_all}
use Rattle.catalog_moves.proofs.files.renumbering.renumber_places.Goals as goal

pub loop-lies-preserved : goal.loop-lies-preserved
loop-lies-preserved c =
    let its = renumbered_place c.args.key.now c.args.old c.args.file c.args.used in
    ap (slice_set c.loop-lies.lies-items c.loop-lies.lies-index) (c.renumber_place.ensures ∙ ap its (sym c.lies-item.is))
    ∙ map_over_more its c.deref_mut-lies-items.result.now c.loop-lies.lies-items c.loop-lies.lies-index c.lies-item.result c.loop-lies-test.true c.loop-lies.invariant c.lies-item.is

pub returns : goal.returns
returns c =
    changed_all (renumbered_place c.args.key.now c.args.old c.args.file c.args.used) c.deref_mut-lies-items.result.now c.args.places.now.items c.loop-lies.lies-items c.loop-lies.lies-index c.args.places.now.len
    c.deref_mut-lies-items.ensures.value c.loop-lies.auto.lies-items c.loop-lies-test.false c.deref_mut-lies-items.ensures.len c.loop-lies.invariant
