use Rattle.std.proofs.Common.{◌≡◌, refl, ◌∙◌, sym, ap, subst, rules, Err, true, false}
use Rattle.std.specs.Prelude.{IsFalse, OnOk}
use Rattle.std.proofs.lemmas.Result.{IfOk-weaker}
use Rattle.calculus.specs.Lists.{is_any}
use Rattle.calculus.specs.Targets.{rows_given, some_lacks}
use Rattle.calculus.specs.Term.{no_aggs}
use Rattle.calculus.specs.Used.{used_in_query}
use Rattle.calculus.specs.Who.{Unrestricted}
use Rattle.ovqp.specs.Given.{given_fault}
use Rattle.ovqp.proofs.Failing.{product_fails}
use Rattle.ovqp.proofs.Plain.{same_answer, same_query_lacks}
use Rattle.ovqp.specs.ProductCauses.{IsCause}
use Rattle.ovqp.proofs.Assigning.{assigned_used, assigned_unused, known_fails}
use Rattle.ovqp.proofs.answering.one_variable.Goals as goal

pub returns-in_err-given_once-clause-cause : goal.returns-in_err-given_once-clause-cause
returns-in_err-given_once-clause-cause g c = λ q is.
    let fault = c.in_err-given_once.field-0.0 in
    let given : c.from_residual.result ≡ Err (given_fault fault) = search rules in
    let unused : is_any (used_in_query 0 q) ≡ false = sym (c.is_place_used.ensures q is.asks is.gives) ∙ c.if-is_place_used.false in
    product_fails no_aggs q (g.B.Base.database c.args.base.now) (g.B.Base.faults c.args.base.now) (g.B.Base.faults c.args.base.now) fault c.from_residual.result given refl
    (λ db e. subst (λ es. IsCause no_aggs q es fault) (sym (assigned_unused db q c.args.rel.now is.ranges unused)) (c.in_err-given_once.ensures.cause q is.asks is.gives))

pub returns-then-is_place_used-clause-rows : goal.returns-then-is_place_used-clause-rows
returns-then-is_place_used-clause-rows g c = λ db e q is.
    let used : is_any (used_in_query 0 q) ≡ true = sym (c.is_place_used.ensures q is.asks is.gives) ∙ c.if-is_place_used.true in
    IfOk-weaker c.given_by_scan.result _ _ (λ set h. h ∙ ap (rows_given no_aggs q) (sym (assigned_used db q c.args.rel.now is.ranges used (c.requires db e)))) (c.given_by_scan.ensures.rows db e q is)

pub returns-then-is_place_used-clause-none_lacks : goal.returns-then-is_place_used-clause-none_lacks
returns-then-is_place_used-clause-none_lacks g c = λ db e q is.
    let used : is_any (used_in_query 0 q) ≡ true = sym (c.is_place_used.ensures q is.asks is.gives) ∙ c.if-is_place_used.true in
    subst (λ es. OnOk c.given_by_scan.result (IsFalse (some_lacks no_aggs q es))) (sym (assigned_used db q c.args.rel.now is.ranges used (c.requires db e)))
    (c.given_by_scan.ensures.none_lacks db e q is)

pub returns-then-is_place_used-clause-plain : goal.returns-then-is_place_used-clause-plain
returns-then-is_place_used-clause-plain g c = λ db e q is none.
    let used : is_any (used_in_query 0 q) ≡ true = sym (c.is_place_used.ensures q is.asks is.gives) ∙ c.if-is_place_used.true in
    IfOk-weaker c.given_by_scan.result _ _
    (λ set h. h ∙ ap (rows_given no_aggs q) (sym (assigned_used db q c.args.rel.now is.ranges used (c.requires db e))) ∙ same_answer db Unrestricted no_aggs q none) (c.given_by_scan.ensures.rows db e q is)

pub returns-then-is_place_used-clause-plain_lacks : goal.returns-then-is_place_used-clause-plain_lacks
returns-then-is_place_used-clause-plain_lacks g c = λ db e q is none.
    let used : is_any (used_in_query 0 q) ≡ true = sym (c.is_place_used.ensures q is.asks is.gives) ∙ c.if-is_place_used.true in
    subst (λ b. OnOk c.given_by_scan.result (IsFalse b))
    (ap (some_lacks no_aggs q) (sym (assigned_used db q c.args.rel.now is.ranges used (c.requires db e))) ∙ same_query_lacks db Unrestricted no_aggs q none)
    (c.given_by_scan.ensures.none_lacks db e q is)

pub returns-then-is_place_used-clause-cause : goal.returns-then-is_place_used-clause-cause
returns-then-is_place_used-clause-cause g c = λ q is.
    let used : is_any (used_in_query 0 q) ≡ true = sym (c.is_place_used.ensures q is.asks is.gives) ∙ c.if-is_place_used.true in
    known_fails q c.args.rel.now (g.B.Base.database c.args.base.now) (g.B.Base.faults c.args.base.now) (g.B.Base.faults c.given_by_scan.new.base) c.given_by_scan.result
    (λ db e. assigned_used db q c.args.rel.now is.ranges used (c.requires db e)) (c.given_by_scan.ensures.cause q is)

pub returns-in_ok-given_once-clause-rows : goal.returns-in_ok-given_once-clause-rows
returns-in_ok-given_once-clause-rows g c = λ db e q is.
    let unused : is_any (used_in_query 0 q) ≡ false = sym (c.is_place_used.ensures q is.asks is.gives) ∙ c.if-is_place_used.false in
    c.in_ok-given_once.ensures.rows q is.asks is.gives ∙ ap (rows_given no_aggs q) (sym (assigned_unused db q c.args.rel.now is.ranges unused))

pub returns-in_ok-given_once-clause-none_lacks : goal.returns-in_ok-given_once-clause-none_lacks
returns-in_ok-given_once-clause-none_lacks g c = λ db e q is.
    let unused : is_any (used_in_query 0 q) ≡ false = sym (c.is_place_used.ensures q is.asks is.gives) ∙ c.if-is_place_used.false in
    ap (some_lacks no_aggs q) (assigned_unused db q c.args.rel.now is.ranges unused) ∙ c.in_ok-given_once.ensures.none_lacks q is.asks is.gives

pub returns-in_ok-given_once-clause-plain : goal.returns-in_ok-given_once-clause-plain
returns-in_ok-given_once-clause-plain g c = λ db e q is none.
    let unused : is_any (used_in_query 0 q) ≡ false = sym (c.is_place_used.ensures q is.asks is.gives) ∙ c.if-is_place_used.false in
    c.in_ok-given_once.ensures.rows q is.asks is.gives ∙ ap (rows_given no_aggs q) (sym (assigned_unused db q c.args.rel.now is.ranges unused)) ∙ same_answer db Unrestricted no_aggs q none

pub returns-in_ok-given_once-clause-plain_lacks : goal.returns-in_ok-given_once-clause-plain_lacks
returns-in_ok-given_once-clause-plain_lacks g c = λ db e q is none.
    let unused : is_any (used_in_query 0 q) ≡ false = sym (c.is_place_used.ensures q is.asks is.gives) ∙ c.if-is_place_used.false in
    sym (same_query_lacks db Unrestricted no_aggs q none) ∙ ap (some_lacks no_aggs q) (assigned_unused db q c.args.rel.now is.ranges unused) ∙ c.in_ok-given_once.ensures.none_lacks q is.asks is.gives
