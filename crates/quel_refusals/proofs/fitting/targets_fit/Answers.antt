use Rattle.std.proofs.Common.{◌≡◌, sym, ap, ◌∙◌, true, false, ◌&&◌, map, vec_items}
use Rattle.std.specs.List.{list_all}
use Rattle.std.proofs.lemmas.List.{take_all}
use Rattle.std.proofs.lemmas.List.Folds.{list_all_more, list_all_at}
use Rattle.calculus.specs.IsDatabase.{has_kind}
use Rattle.calculus.specs.Kinds.{kind_of}
use Rattle.quel_refusals.proofs.fitting.targets_fit.Goals as goal

pub loop-target-preserved : goal.loop-target-preserved
loop-target-preserved c =
    let yes : c.has_kind.result ≡ true = cc (c.if-not-has_kind.false) in
    let is = c.has_kind.ensures ∙ ap (λ o. has_kind o c.target-item.result.kind) c.kind_of.ensures in
    list_all_more (λ t. has_kind (kind_of t.term (map vec_items c.args.kinds.now)) t.kind) c.args.targets.now c.loop-target.target-index c.target-item.result c.loop-target-test.true
    ∙ (λ i. c.loop-target.invariant i && (ap (λ t. has_kind (kind_of t.term (map vec_items c.args.kinds.now)) t.kind) (sym c.target-item.is) ∙ sym is ∙ yes) i)

pub returns-then-not-has_kind : goal.returns-then-not-has_kind
returns-then-not-has_kind c =
    let no : c.has_kind.result ≡ false = cc (c.if-not-has_kind.true) in
    let is = c.has_kind.ensures ∙ ap (λ o. has_kind o c.target-item.result.kind) c.kind_of.ensures in
    sym (list_all_at (λ t. has_kind (kind_of t.term (map vec_items c.args.kinds.now)) t.kind) c.args.targets.now c.loop-target.target-index c.target-item.result c.loop-target-test.true
    (ap (λ t. has_kind (kind_of t.term (map vec_items c.args.kinds.now)) t.kind) (sym c.target-item.is) ∙ sym is ∙ no))

pub returns : goal.returns
returns c = sym c.loop-target.invariant ∙ ap (list_all (λ t. has_kind (kind_of t.term (map vec_items c.args.kinds.now)) t.kind)) (take_all c.loop-target.target-index c.args.targets.now c.loop-target-test.false)
