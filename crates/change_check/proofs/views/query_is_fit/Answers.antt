use Rattle.std.proofs.Common.{◌≡◌, sym, ◌∙◌, ap, subst, Bool, true, ◌&&◌}
use Rattle.std.specs.Prelude.{IfOk}
use Rattle.calculus.specs.IsDatabase.{valid_query}
use Rattle.change_laws.specs.Fit.{view_is_small}
use Rattle.plan_laws.proofs.PlainQueries.{query_plain}
use Rattle.change_check.proofs.views.query_is_fit.Goals as goal

pub returns-clause-known : goal.returns-clause-known
returns-clause-known g c = λ db h.
    let yes : valid_query db c.args.query.now ≡ true = cc (c.in_ok-stands.ensures.known db h, c.if-not-stands.false) in
    subst (λ (b : Bool). IfOk c.view_is_small.result (λ fit. fit ≡ b)) (sym (ap (λ b. b && view_is_small db c.args.query.now) yes))
    (c.view_is_small.ensures.known db (c.in_ok-stands.ensures.stays db h) (query_plain db c.args.query.now yes))
