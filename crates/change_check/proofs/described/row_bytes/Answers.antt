use Rattle.std.proofs.Common.{ap, ◌∙◌, arith, sum_by}
use Rattle.std.proofs.lemmas.List.{take_all}
use Rattle.std.proofs.lemmas.List.Sums.{sum_by_more}
use Rattle.calculus.specs.IsDatabase.{kind_bytes}
use Rattle.change_check.proofs.described.row_bytes.Goals as goal

pub loop-attr-preserved : goal.loop-attr-preserved
loop-attr-preserved c = record {
  bytes = omega (arith, c.loop-attr.invariant.bytes, c.kind_bytes-bytes.ensures.bytes, ap (λ a. kind_bytes a.kind) c.attr-item.is, sum_by_more (λ a. kind_bytes a.kind) c.args.attrs.now c.loop-attr.attr-index c.attr-item.result c.loop-attr-test.true);
  few = omega (arith, c.loop-attr.invariant.few, c.kind_bytes-bytes.ensures.few);
}

pub returns : goal.returns
returns c = c.loop-attr.invariant.bytes ∙ ap (sum_by (λ a. kind_bytes a.kind)) (take_all c.loop-attr.attr-index c.args.attrs.now c.loop-attr-test.false)
