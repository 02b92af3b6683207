use Rattle.std.proofs.Common.{ap, ◌++◌, ◌∙◌}
use Rattle.catalog_rows.proofs.Joins.{bytes_of, one_joined, all_joined}
use Rattle.catalog_rows.proofs.trees.together.Goals as goal

pub parts-preserved : goal.parts-preserved
parts-preserved c =
    one_joined c.args.parts.now c.parts.part-index c.part-item.result c.parts-test.true c.part-item.is c.parts.bytes.items c.extend_from_slice.new.self.items c.items.result.now _ c.items.ensures c.in_ok-extend_from_slice.ensures.items c.parts.invariant

pub returns : goal.returns
returns c = c.of.ensures ∙ all_joined c.args.parts.now c.parts.part-index c.parts-test.false c.parts.bytes.items _ c.parts.invariant

pub parts-init : goal.parts-init
parts-init c = ap (λ l. l ++ bytes_of c.args.parts.now) c.new-bytes.ensures.items
