use Rattle.std.proofs.Common.{◌≡◌, sym, ◌∙◌, map, vec_items, true, false}
use Rattle.std.proofs.lemmas.Bool.{eq-eqb, eqb-true}
use Rattle.quel_refusals.proofs.Linked.{linked, unlinked}
use Rattle.quel_refusals.proofs.aggregates.links_fit.Goals as goal

pub returns-then-not-are_as_many : goal.returns-then-not-are_as_many
returns-then-not-are_as_many c =
    let no : c.are_as_many.result ≡ false = cc (c.if-not-are_as_many.true) in
    unlinked (map vec_items c.args.inner.now) (map vec_items c.args.vars.now) c.args.by.now c.args.link.now (λ e. cc (sym (eq-eqb _ _ e) ∙ sym c.are_as_many.ensures ∙ no))

pub returns : goal.returns
returns c =
    let yes : c.are_as_many.result ≡ true = cc (c.if-not-are_as_many.false) in
    c.pairs_fit.ensures ∙ linked (map vec_items c.args.inner.now) (map vec_items c.args.vars.now) c.args.by.now c.args.link.now (eqb-true _ _ (sym c.are_as_many.ensures ∙ yes))
