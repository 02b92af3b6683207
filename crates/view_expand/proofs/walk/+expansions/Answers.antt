use Rattle.std.proofs.Common.{◌≡◌, refl, List, Err, IfSome, sym, ap, ◌∙◌, subst, ℕ, ◌-◌, ◌≤◌, true, false, ◌++◌, length, Some, IfOk, OnOk, option_map, rules, arith}
use Rattle.calculus.specs.Database.{Db}
use Rattle.calculus.specs.Lists.{is_any}
use Rattle.calculus.specs.Permission.{permitted_within, vars_permitted}
use Rattle.calculus.specs.QueryParts.{vars_of}
use Rattle.calculus.specs.Rights.{Retrieve, permitted}
use Rattle.calculus.specs.Sizes.{measure_within, query_measure}
use Rattle.calculus.specs.Used.{used_in_query, used_vars}
use Rattle.view_text.specs.ExpansionOf.{expansion_within}
use Rattle.view_text.specs.Expansions.{query_expansions, expansions_vars}
use Rattle.view_expand.specs.Asking.{who_of}
use Rattle.view_expand.specs.Found.{IsExpansionOf}
use Rattle.view_expand.specs.Listed.{expansions_at}
use Rattle.view_expand.proofs.Causing.{caused_behind, crowded_caused}
use Rattle.view_expand.proofs.Few.{expansions_few}
use Rattle.view_expand.proofs.Keeping.{answered, answer_permitted}
use Rattle.view_expand.proofs.Listing.{any_where_some, some_used}
use Rattle.view_expand.proofs.Viewing.{permitted_of_view, permitted_past, measure_of_view, few_listed, expansion_of_kept, permitted_of_kept, vars_is, is_expansion_of}
use Rattle.view_expand.proofs.walk.+expansions.Goals as goal

pub expansion_at-returns-clause-known : goal.expansion_at-returns-clause-known
expansion_at-returns-clause-known g t c = λ db h.
    let source = expansion_within c.args.levels db (who_of (option_map (λ n. n.now) c.args.who)) in
    let attrs : c.deref.result.now ≡ used_in_query c.args.place c.args.query.now = c.deref.ensures.value ∙ c.in_ok-attrs.ensures in
    let e = ap (source c.args.key.now) attrs ∙ some_used source c.args.key.now (used_in_query c.args.place c.args.query.now) (ap is_any (sym c.in_ok-attrs.ensures) ∙ any_where_some c.in_ok-attrs.attrs.items (grind arith)) in
    subst (λ x. IfOk c.expansion_through.result (λ expansion. expansion ≡ x)) e (c.expansion_through.ensures.known db h)

pub expansion_of_view-returns-then-levels-eq0-clause-cause : goal.expansion_of_view-returns-then-levels-eq0-clause-cause
expansion_of_view-returns-then-levels-eq0-clause-cause g t c = record {
  later = omega arith;
  caused = (refl, λ db h attrs. permitted_past c.args.levels db (g.B.Base.lawful c.args.base.now db (g.B.Base.own c.args.base.now db h)) (who_of (option_map (λ n. n.now) c.args.who)) c.args.key.now attrs c.args.query.now c.if-levels-eq0.true (c.requires.stands db h));
}

pub expansion_of_view-rows_through-requires : goal.expansion_of_view-rows_through-requires
expansion_of_view-rows_through-requires g t c =
    let listed : (db : Db) → g.B.Base.database c.args.base.now ≡ Some db → length (vars_of c.args.query.now) ≤ 256 = λ db h.
    few_listed db (g.B.Base.lawful c.args.base.now db (g.B.Base.own c.args.base.now db h)) c.args.key.now c.args.query.now (c.requires.stands db h) in
    let expanded : (db : Db) → g.B.Base.database c.args.base.now ≡ Some db → (query_measure (measure_within (c.args.levels - 1) db) c.args.query.now).variables ≤ 256 = λ db h.
    let e = measure_of_view c.args.levels db (g.B.Base.lawful c.args.base.now db (g.B.Base.own c.args.base.now db h)) c.args.key.now c.args.query.now (omega arith) (c.requires.stands db h) in
    omega (arith, e, c.requires.few db h) in
    search (rules, listed, expanded)

pub expansion_anew-returns-in-None-clause-known : goal.expansion_anew-returns-in-None-clause-known
expansion_anew-returns-in-None-clause-known g t c = λ db h.
    let e = expansion_of_kept c.args.levels db (who_of (option_map (λ n. n.now) c.args.who)) c.args.key.now c.args.attrs.now (sym c.in-None.is ∙ c.in_ok-query.ensures.known db (g.B.Base.own c.args.base.now db h)) in
    subst (λ x. IfOk c.plain_expansion.result (λ expansion. expansion ≡ x)) e (c.plain_expansion.ensures.known db (c.in_ok-query.ensures.kept ∙ h))

pub expansion_anew-returns-in-None-clause-permitted : goal.expansion_anew-returns-in-None-clause-permitted
expansion_anew-returns-in-None-clause-permitted g t c = λ db h.
    let e = permitted_of_kept c.args.levels db (who_of (option_map (λ n. n.now) c.args.who)) c.args.key.now c.args.attrs.now (sym c.in-None.is ∙ c.in_ok-query.ensures.known db (g.B.Base.own c.args.base.now db h)) in
    subst (λ b. OnOk c.plain_expansion.result (b ≡ true)) e (c.plain_expansion.ensures.permitted db (c.in_ok-query.ensures.kept ∙ h))

pub expansion_anew-returns-in-None-clause-cause : goal.expansion_anew-returns-in-None-clause-cause
expansion_anew-returns-in-None-clause-cause g t c =
    caused_behind (λ db. permitted db (who_of (option_map (λ n. n.now) c.args.who)) Retrieve c.args.attrs.now c.args.key.now ≡ false)
    (λ db. permitted_within c.args.levels db (who_of (option_map (λ n. n.now) c.args.who)) c.args.key.now c.args.attrs.now ≡ false)
    (g.B.Base.database c.args.base.now) (g.B.Base.database c.view.new.self) (g.B.Base.faults c.args.base.now) (g.B.Base.faults c.view.new.self) (g.B.Base.faults c.plain_expansion.new.base) c.plain_expansion.result
    c.in_ok-query.ensures.kept c.in_ok-query.ensures.cause.caused
    (λ db h e. sym (permitted_of_kept c.args.levels db (who_of (option_map (λ n. n.now) c.args.who)) c.args.key.now c.args.attrs.now (sym c.in-None.is ∙ c.in_ok-query.ensures.known db (g.B.Base.own c.args.base.now db h))) ∙ e)
    c.plain_expansion.ensures.cause

pub rows_through-returns-in-Ok-clause-cause : goal.rows_through-returns-in-Ok-clause-cause
rows_through-returns-in-Ok-clause-cause g t c =
    crowded_caused (λ db. vars_permitted (permitted_within c.args.levels db (who_of (option_map (λ n. n.now) c.args.who))) c.args.query.now (used_vars c.args.query.now) ≡ false)
    (g.B.Base.database c.args.base.now) (g.B.Base.faults c.args.base.now) (g.B.Base.faults c.put_expansions.new.base) (length (expansions_vars c.deref.result.now)) c.rows_of.result c.in-Ok.ensures.cause.caused
    (λ db h.
    let source = expansion_within c.args.levels db (who_of (option_map (λ n. n.now) c.args.who)) in
    let made : c.deref.result.now ≡ query_expansions source c.args.query.now =
    c.deref.ensures.value ∙ c.in-Ok.ensures.known db h ∙ ap (λ ts. ts ++ expansions_at source c.args.query.now 0 c.items-keys.result.now) c.new-expansions.ensures.items
    ∙ ap (expansions_at source c.args.query.now 0) (c.items-keys.ensures ∙ vars_is c.args.query.now) in
    let same : length (expansions_vars c.deref.result.now) ≡ length (expansions_vars (query_expansions source c.args.query.now)) = ap (λ ts. length (expansions_vars ts)) made in
    omega (arith, same, expansions_few db (who_of (option_map (λ n. n.now) c.args.who)) c.args.levels c.args.query.now, c.requires.expanded db h))
    c.rows_of.ensures.cause

pub expansion_through-returns-in-Some-clause-known : goal.expansion_through-returns-in-Some-clause-known
expansion_through-returns-in-Some-clause-known g t c = λ db h.
    let k : IsExpansionOf db (who_of (option_map (λ n. n.now) c.args.who)) c.args.key.now c.args.levels c.in-Some.expansion =
    subst (λ o. IfSome o (IsExpansionOf db (who_of (option_map (λ n. n.now) c.args.who)) c.args.key.now c.args.levels)) c.in-Some.is (c.in_ok-expansion.ensures.expansion db (who_of (option_map (λ n. n.now) c.args.who)) (c.requires.found db h)) in
    k.is c.args.attrs.now

pub expansion_through-returns-in-Some-clause-permitted : goal.expansion_through-returns-in-Some-clause-permitted
expansion_through-returns-in-Some-clause-permitted g t c = λ db h.
    let k : IsExpansionOf db (who_of (option_map (λ n. n.now) c.args.who)) c.args.key.now c.args.levels c.in-Some.expansion =
    subst (λ o. IfSome o (IsExpansionOf db (who_of (option_map (λ n. n.now) c.args.who)) c.args.key.now c.args.levels)) c.in-Some.is (c.in_ok-expansion.ensures.expansion db (who_of (option_map (λ n. n.now) c.args.who)) (c.requires.found db h)) in
    k.permitted c.args.attrs.now

pub expansion_anew-returns-in-Some-clause-known : goal.expansion_anew-returns-in-Some-clause-known
expansion_anew-returns-in-Some-clause-known g t c = λ db h.
    answered db (who_of (option_map (λ n. n.now) c.args.who)) c.args.key.now c.args.levels c.args.attrs.now c.expansion_of_view-expansion.result (c.expansion_of_view-expansion.ensures.known db (c.in_ok-query.ensures.kept ∙ h))

pub expansion_anew-returns-in-Some-clause-permitted : goal.expansion_anew-returns-in-Some-clause-permitted
expansion_anew-returns-in-Some-clause-permitted g t c = λ db h.
    answer_permitted db (who_of (option_map (λ n. n.now) c.args.who)) c.args.key.now c.args.levels c.args.attrs.now c.expansion_of_view-expansion.result (c.expansion_of_view-expansion.ensures.known db (c.in_ok-query.ensures.kept ∙ h))

pub expansion_anew-returns-in-Some-clause-cause : goal.expansion_anew-returns-in-Some-clause-cause
expansion_anew-returns-in-Some-clause-cause g t c =
    caused_behind (λ db. (attrs : List ℕ) → permitted_within c.args.levels db (who_of (option_map (λ n. n.now) c.args.who)) c.args.key.now attrs ≡ false)
    (λ db. permitted_within c.args.levels db (who_of (option_map (λ n. n.now) c.args.who)) c.args.key.now c.args.attrs.now ≡ false)
    (g.B.Base.database c.args.base.now) (g.B.Base.database c.view.new.self) (g.B.Base.faults c.args.base.now) (g.B.Base.faults c.view.new.self) (g.B.Base.faults c.expansion_of_view-expansion.new.base) c.expansion_of_view-expansion.result
    c.in_ok-query.ensures.kept c.in_ok-query.ensures.cause.caused (λ db h e. e c.args.attrs.now) c.expansion_of_view-expansion.ensures.cause

pub expansion_of_view-returns-in-Ok-kept-clause-known : goal.expansion_of_view-returns-in-Ok-kept-clause-known
expansion_of_view-returns-in-Ok-kept-clause-known g t c = λ db h.
    let one = is_expansion_of c.args.levels db (g.B.Base.lawful c.args.base.now db (g.B.Base.own c.args.base.now db h)) (who_of (option_map (λ n. n.now) c.args.who)) c.args.key.now c.args.query.now (omega arith) (c.requires.stands db h) c.in-Ok.expansion (c.in-Ok.ensures.known db h) (c.in-Ok.ensures.permitted db h) in
    subst (IsExpansionOf db (who_of (option_map (λ n. n.now) c.args.who)) c.args.key.now c.args.levels) (sym c.in-Ok-kept.ensures.expansion) one

pub expansion_of_view-returns-in-Ok-kept-clause-found : goal.expansion_of_view-returns-in-Ok-kept-clause-found
expansion_of_view-returns-in-Ok-kept-clause-found g t c = λ db h.
    let one = is_expansion_of c.args.levels db (g.B.Base.lawful c.args.base.now db (g.B.Base.own c.args.base.now db h)) (who_of (option_map (λ n. n.now) c.args.who)) c.args.key.now c.args.query.now (omega arith) (c.requires.stands db h) c.in-Ok.expansion (c.in-Ok.ensures.known db h) (c.in-Ok.ensures.permitted db h) in
    c.kept.ensures.found db (who_of (option_map (λ n. n.now) c.args.who)) (c.rows_through.ensures.found db h) one

pub expansion_of_view-returns-in-Err-kept-clause-found : goal.expansion_of_view-returns-in-Err-kept-clause-found
expansion_of_view-returns-in-Err-kept-clause-found g t c = λ db h.
    let one = is_expansion_of c.args.levels db (g.B.Base.lawful c.args.base.now db (g.B.Base.own c.args.base.now db h)) (who_of (option_map (λ n. n.now) c.args.who)) c.args.key.now c.args.query.now (omega arith) (c.requires.stands db h) c.in-Ok.expansion (c.in-Ok.ensures.known db h) (c.in-Ok.ensures.permitted db h) in
    c.kept.ensures.found db (who_of (option_map (λ n. n.now) c.args.who)) (c.rows_through.ensures.found db h) one

pub expansion_of_view-returns-in-Err-clause-cause : goal.expansion_of_view-returns-in-Err-clause-cause
expansion_of_view-returns-in-Err-clause-cause g t c =
    caused_behind (λ db. vars_permitted (permitted_within (c.args.levels - 1) db (who_of (option_map (λ n. n.now) c.args.who))) c.args.query.now (used_vars c.args.query.now) ≡ false)
    (λ db. (attrs : List ℕ) → permitted_within c.args.levels db (who_of (option_map (λ n. n.now) c.args.who)) c.args.key.now attrs ≡ false)
    (g.B.Base.database c.args.base.now) (g.B.Base.database c.args.base.now) (g.B.Base.faults c.args.base.now) (g.B.Base.faults c.args.base.now) (g.B.Base.faults c.rows_through.new.base) (Err c.in-Err.error)
    refl refl
    (λ db h e attrs. sym (permitted_of_view c.args.levels db (g.B.Base.lawful c.args.base.now db (g.B.Base.own c.args.base.now db h)) (who_of (option_map (λ n. n.now) c.args.who)) c.args.key.now attrs c.args.query.now (omega arith) (c.requires.stands db h)) ∙ e)
    c.in-Err.ensures.cause
