use Rattle.std.proofs.Common.{◌∙◌, ap, sym}
use Rattle.catalog_moves.specs.Files.{places_of}
use Rattle.catalog.specs.Places.{left_one}
use Rattle.catalog.proofs.Forgotten.{left_next, left_none}
use Rattle.catalog.proofs.keeping.forget_all.Goals as goal

pub loop-rel-init : goal.loop-rel-init
loop-rel-init c = sym (left_none c.args.rels.now (places_of c.args.files.now))

pub loop-rel-preserved : goal.loop-rel-preserved
loop-rel-preserved c =
    c.forget_one.ensures ∙ ap (left_one c.rel-item.result) c.loop-rel.invariant ∙ sym (left_next c.args.rels.now c.loop-rel.rel-index c.rel-item.result (places_of c.args.files.now) c.loop-rel-test.true c.rel-item.is)
