use Rattle.std.proofs.Common.{◌+◌, ◌++◌, sym, ap, ◌∙◌}
use Rattle.quel_meaning.specs.WrittenParts.{aggregates_in, aggregates_in_qual}
use Rattle.quel_check.proofs.InnerForms.{counted, in_cmp, in_quals}
use Rattle.quel_check.proofs.slots.+slot_behind_qual.Goals as goal

pub returns-in-Cmp : goal.returns-in-Cmp
returns-in-Cmp t c =
    counted (aggregates_in c.in-Cmp.left) (aggregates_in c.in-Cmp.right) (aggregates_in_qual c.args.q.now) c.args.slot c.slot_behind.result c.slot_behind-in-Cmp.result
    (ap aggregates_in_qual c.in-Cmp.is ∙ in_cmp c.in-Cmp.op c.in-Cmp.left c.in-Cmp.right)
    c.slot_behind.ensures c.slot_behind-in-Cmp.ensures

pub returns-in-And : goal.returns-in-And
returns-in-And t c =
    counted (aggregates_in_qual c.get-in-And.result.now) (aggregates_in_qual c.get-in-And-2.result.now) (aggregates_in_qual c.args.q.now) c.args.slot c.slot_behind_qual-in-And.result c.slot_behind_qual-in-And-2.result
    (in_quals c.args.q.now c.in-And.left c.in-And.right c.in-And.is ∙ (λ i. aggregates_in_qual (sym c.get-in-And.ensures i) ++ aggregates_in_qual (sym c.get-in-And-2.ensures i)))
    c.slot_behind_qual-in-And.ensures c.slot_behind_qual-in-And-2.ensures
