use Rattle.std.proofs.Common.{◌≡◌, sym, ◌∙◌, subst, Bool, true, not, ◌&&◌}
use Rattle.std.specs.Prelude.{IfOk}
use Rattle.calculus.specs.IsDatabase.{attrs_are_targets, attrs_stand, valid_query, vars_are_there, valid_view_info}
use Rattle.calculus.specs.QueryParts.{targets_of}
use Rattle.calculus.specs.Sizes.{query_level}
use Rattle.change_laws.specs.Fit.{key_is_free, view_is_small}
use Rattle.quel_meaning.specs.Passing.{is_too_high}
use Rattle.change_check.proofs.views.view_has_parts.Goals as goal

pub returns-clause-known : goal.returns-clause-known
returns-clause-known g c = λ db h.
    let info = c.args.info.now in
    let q = c.args.query.now in
    let free : key_is_free db info.key ≡ true = cc (c.in_ok-key_is_free.ensures.known db h, c.if-not-branch.false) in
    let stand : (valid_view_info info && (attrs_stand info.attrs && attrs_are_targets info.attrs (targets_of q))) ≡ true = cc (c.in_ok-view_attrs_stand.ensures, c.if-not-branch-2.false) in
    subst (λ (b : Bool). IfOk c.view_query_is_fit.result (λ fit. fit ≡ b))
    (sym (λ i. free i && (stand i && (vars_are_there db q && (not (is_too_high (query_level db q)) && (valid_query db q && view_is_small db q))))))
    (c.view_query_is_fit.ensures.known db (c.in_ok-key_is_free.ensures.stays db h))
