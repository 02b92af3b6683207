use Rattle.catalog_moves.proofs.Tables.{key_more}
use Rattle.catalog_moves.specs.Files.{is_in}
use Rattle.std.proofs.Common.{ap, ◌∙◌}
use Rattle.std.proofs.lemmas.List.{take_all}
use Rattle.calculus.specs.Keys.{has_key}
use Rattle.catalog_moves.proofs.going.set_of.Goals as goal

pub loop-rel-preserved : goal.loop-rel-preserved
loop-rel-preserved c key =
    key_more c.args.rels.now c.loop-rel.rel-index c.rel-item.result c.loop-rel-test.true c.rel-item.is key (is_in c.loop-rel.set key) (is_in c.insert.new.self key) (c.loop-rel.invariant key) (c.in_ok-insert.ensures.put key)

pub loop-rel-init : goal.loop-rel-init
loop-rel-init c key = c.new-set.ensures key

pub returns : goal.returns
returns c key = c.loop-rel.invariant key ∙ ap (λ rels. has_key rels key) (take_all c.loop-rel.rel-index c.args.rels.now c.loop-rel-test.false)
