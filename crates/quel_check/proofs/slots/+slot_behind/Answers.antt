use Rattle.std.proofs.Common.{◌+◌, ◌++◌, sym, ◌∙◌}
use Rattle.quel_meaning.specs.WrittenParts.{aggregates_in}
use Rattle.quel_check.proofs.InnerForms.{counted, in_pair}
use Rattle.quel_check.proofs.slots.+slot_behind.Goals as goal

pub returns-in-Arith : goal.returns-in-Arith
returns-in-Arith t c =
    counted (aggregates_in c.get.result.now) (aggregates_in c.get-in-Arith.result.now) (aggregates_in c.args.t.now) c.args.slot c.slot_behind.result c.slot_behind-in-Arith.result
    (in_pair c.args.t.now c.in-Arith.left c.in-Arith.right c.in-Arith.is ∙ (λ i. aggregates_in (sym c.get.ensures i) ++ aggregates_in (sym c.get-in-Arith.ensures i)))
    c.slot_behind.ensures c.slot_behind-in-Arith.ensures
