use Rattle.std.proofs.Common.{◌≡◌, sym, ap, ◌∙◌, true, false, ◌&&◌}
use Rattle.std.specs.List.{list_all}
use Rattle.std.proofs.lemmas.List.{take_all}
use Rattle.std.proofs.lemmas.List.Folds.{list_all_more, list_all_at}
use Rattle.calculus.specs.Name.{is_name}
use Rattle.change_check.proofs.described.are_named.Goals as goal

pub loop-attr-preserved : goal.loop-attr-preserved
loop-attr-preserved c =
    let on : c.is_name.result ≡ true = cc (c.if-not-is_name.false) in
    list_all_more (λ a. is_name a.name) c.args.attrs.now c.loop-attr.attr-index c.attr-item.result c.loop-attr-test.true
    ∙ (λ i. c.loop-attr.invariant i && (ap (λ a. is_name a.name) (sym c.attr-item.is) ∙ sym (c.is_name.ensures ∙ ap is_name c.bytes.ensures.bytes) ∙ on) i)

pub returns-then-not-is_name : goal.returns-then-not-is_name
returns-then-not-is_name c =
    let off : c.is_name.result ≡ false = cc (c.if-not-is_name.true) in
    sym (list_all_at (λ a. is_name a.name) c.args.attrs.now c.loop-attr.attr-index c.attr-item.result c.loop-attr-test.true (ap (λ a. is_name a.name) (sym c.attr-item.is) ∙ sym (c.is_name.ensures ∙ ap is_name c.bytes.ensures.bytes) ∙ off))

pub returns : goal.returns
returns c = sym c.loop-attr.invariant ∙ ap (list_all (λ a. is_name a.name)) (take_all c.loop-attr.attr-index c.args.attrs.now c.loop-attr-test.false)
