use Rattle.std.proofs.Common.{◌≡◌, sym, ap, ◌∙◌, true, false, ◌||◌}
use Rattle.std.specs.List.{list_any}
use Rattle.std.proofs.lemmas.List.{take_all}
use Rattle.std.proofs.lemmas.List.Folds.{list_any_more, list_any_at}
use Rattle.calculus.specs.Keys.{same_key}
use Rattle.change_check.proofs.destroying.is_among.Goals as goal

pub loop-other-preserved : goal.loop-other-preserved
loop-other-preserved c =
    let on : c.same_key.result ≡ false = cc (c.if-same_key.false) in
    list_any_more (same_key c.args.key.now) c.args.keys.now c.loop-other.other-index c.other-item.result c.loop-other-test.true
    ∙ (λ i. c.loop-other.invariant i || (ap (same_key c.args.key.now) (sym c.other-item.is) ∙ sym (c.same_key.ensures) ∙ on) i)

pub returns-then-same_key : goal.returns-then-same_key
returns-then-same_key c =
    let off : c.same_key.result ≡ true = cc (c.if-same_key.true) in
    sym (list_any_at (same_key c.args.key.now) c.args.keys.now c.loop-other.other-index c.other-item.result c.loop-other-test.true (ap (same_key c.args.key.now) (sym c.other-item.is) ∙ sym (c.same_key.ensures) ∙ off))

pub returns : goal.returns
returns c = sym c.loop-other.invariant ∙ ap (list_any (same_key c.args.key.now)) (take_all c.loop-other.other-index c.args.keys.now c.loop-other-test.false)
