use Rattle.std.proofs.Common.{rules, ◌≡◌, ◌∷◌, sym, ap, ◌∙◌, subst, map, vec_items, Bool, true, ◌&&◌, Some}
use Rattle.std.specs.Prelude.{IfOk}
use Rattle.std.specs.List.{list_all}
use Rattle.calculus.specs.declared.query.Target.{Target}
use Rattle.calculus.specs.Kinds.{comparable}
use Rattle.quel_meaning.specs.KindsInQueries.{kind_in_query}
use Rattle.tree_check.proofs.queries.+targets_compare.Goals as goal

pub returns-clause-known : goal.returns-clause-known
returns-clause-known g t c = λ db h.
    let is : c.args.targets.now ≡ c.in-Some.target.now ∷ c.in-Some.others.now = search rules in
    let yes : c.comparable.result ≡ true = cc (c.if-not-comparable.false) in
    subst (λ (b : Bool). IfOk c.targets_compare.result (λ fit. fit ≡ b))
    (ap (λ b. b && list_all (λ (t : Target). comparable (kind_in_query db t.term (map vec_items c.args.vars.now)) (Some t.kind)) c.in-Some.others.now)
    (sym (sym (c.comparable.ensures ∙ ap (λ o. comparable o (Some c.in-Some.target.now.kind)) (c.in_ok-kind.ensures.known db h)) ∙ yes))
    ∙ sym (ap (list_all (λ (t : Target). comparable (kind_in_query db t.term (map vec_items c.args.vars.now)) (Some t.kind))) is))
    (c.targets_compare.ensures.known db (c.in_ok-kind.ensures.stays db h))
