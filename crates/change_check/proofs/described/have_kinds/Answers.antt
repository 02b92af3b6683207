use Rattle.std.proofs.Common.{◌≡◌, sym, ap, ◌∙◌, true, false, ◌&&◌}
use Rattle.std.specs.List.{list_all}
use Rattle.std.proofs.lemmas.List.{take_all}
use Rattle.std.proofs.lemmas.List.Folds.{list_all_more, list_all_at}
use Rattle.calculus.specs.IsDatabase.{is_kind}
use Rattle.change_check.proofs.described.have_kinds.Goals as goal

pub loop-attr-preserved : goal.loop-attr-preserved
loop-attr-preserved c =
    let on : c.is_kind.result ≡ true = cc (c.if-not-is_kind.false) in
    list_all_more (λ a. is_kind a.kind) c.args.attrs.now c.loop-attr.attr-index c.attr-item.result c.loop-attr-test.true
    ∙ (λ i. c.loop-attr.invariant i && (ap (λ a. is_kind a.kind) (sym c.attr-item.is) ∙ sym (c.is_kind.ensures) ∙ on) i)

pub returns-then-not-is_kind : goal.returns-then-not-is_kind
returns-then-not-is_kind c =
    let off : c.is_kind.result ≡ false = cc (c.if-not-is_kind.true) in
    sym (list_all_at (λ a. is_kind a.kind) c.args.attrs.now c.loop-attr.attr-index c.attr-item.result c.loop-attr-test.true (ap (λ a. is_kind a.kind) (sym c.attr-item.is) ∙ sym (c.is_kind.ensures) ∙ off))

pub returns : goal.returns
returns c = sym c.loop-attr.invariant ∙ ap (list_all (λ a. is_kind a.kind)) (take_all c.loop-attr.attr-index c.args.attrs.now c.loop-attr-test.false)
