use Rattle.std.proofs.Common.{◌≡◌, sym, ap, ◌∙◌, subst, ◌≤◌, ◌++◌, map, length, IfOk, option_map}
use Rattle.std.specs.List.{enumerate_from}
use Rattle.calculus.specs.QueryParts.{vars_of}
use Rattle.quel_meaning.specs.FitQueries.{kept_or_viewed}
use Rattle.view_expand.specs.Asking.{who_of}
use Rattle.view_text.specs.Expanded.{append_restriction, expanded_update, expanded_over, put_place}
use Rattle.view_text.specs.Expansions.{expansions_vars}
use Rattle.cut_rules.specs.Placed.{expansion_in}
use Rattle.cut_rules.proofs.Causing.{caused_behind, failed_so, on_both}
use Rattle.cut_rules.proofs.Fitting.{few_listed, small_in, small_expansions_in, update_reads}
use Rattle.cut_rules.proofs.Refusing.{all_used, use_refused, rest_refused}
use Rattle.cut_rules.proofs.updates.expanded_update.Goals as goal

pub put_expansions-requires-clause-listed : goal.put_expansions-requires-clause-listed
put_expansions-requires-clause-listed g c = λ db h. few_listed (kept_or_viewed db) db c.args.u.now.query (update_reads (kept_or_viewed db) db c.args.u.now (c.requires.fit db h))

pub put_expansions-requires-clause-small : goal.put_expansions-requires-clause-small
put_expansions-requires-clause-small g c = λ db h. small_in (kept_or_viewed db) db c.args.u.now (c.requires.fit db h)

pub expanded_over_few-requires-clause-fit : goal.expanded_over_few-requires-clause-fit
expanded_over_few-requires-clause-fit g c = λ db h. update_reads (kept_or_viewed db) db c.args.u.now (c.requires.fit db (sym c.in-Ok.ensures.kept ∙ h))

pub expanded_over_few-requires-clause-few : goal.expanded_over_few-requires-clause-few
expanded_over_few-requires-clause-few g c = λ db h.
    let k = sym c.in-Ok.ensures.kept ∙ h in
    let who = (who_of (option_map (λ n. n.now) c.args.who)) in
    let made : c.deref.result.now ≡ map (expansion_in db who c.args.u.now) (enumerate_from 0 (vars_of c.args.u.now.query)) =
    c.deref.ensures.value ∙ c.in-Ok.ensures.known db k ∙ ap (λ ts. ts ++ map (expansion_in db who c.args.u.now) (enumerate_from 0 (vars_of c.args.u.now.query))) c.new-expansions.ensures.items in
    subst (λ ts. length (expansions_vars ts) ≤ 255) (sym made) (small_expansions_in (kept_or_viewed db) db who c.args.u.now (c.requires.fit db k))

pub returns-in-Ok-clause-known : goal.returns-in-Ok-clause-known
unfolding expanded_update
returns-in-Ok-clause-known g c = λ db h.
    let who = (who_of (option_map (λ n. n.now) c.args.who)) in
    let made : c.deref.result.now ≡ map (expansion_in db who c.args.u.now) (enumerate_from 0 (vars_of c.args.u.now.query)) =
    c.deref.ensures.value ∙ c.in-Ok.ensures.known db h ∙ ap (λ ts. ts ++ map (expansion_in db who c.args.u.now) (enumerate_from 0 (vars_of c.args.u.now.query))) c.new-expansions.ensures.items in
    subst (λ ts. IfOk c.expanded_over_few.result (λ made. made ≡ record c.args.u.now { old = put_place ts c.args.u.now; query = expanded_over db who ts c.args.u.now.query; new_cut = append_restriction db who c.args.u.now c.args.u.now.op }))
    made (c.expanded_over_few.ensures.known db (c.in-Ok.ensures.kept ∙ h))

pub returns-in-Ok-clause-permitted : goal.returns-in-Ok-clause-permitted
returns-in-Ok-clause-permitted g c = λ db h.
    let who = (who_of (option_map (λ n. n.now) c.args.who)) in
    on_both c.expanded_over_few.result _ _ _ (c.expanded_over_few.ensures.permitted db (c.in-Ok.ensures.kept ∙ h)) (c.expanded_over_few.ensures.appended db (c.in-Ok.ensures.kept ∙ h))
    (λ a p. all_used (kept_or_viewed db) db who c.args.u.now (c.requires.fit db h) (c.in-Ok.ensures.permitted db h) a p)

pub returns-in-Ok-clause-cause : goal.returns-in-Ok-clause-cause
returns-in-Ok-clause-cause g c =
    caused_behind _ _ _ _ _ _ _ _ c.expanded_over_few.ensures.cause c.in-Ok.ensures.kept c.in-Ok.ensures.cause.caused (λ db h var r. rest_refused db (who_of (option_map (λ n. n.now) c.args.who)) c.args.u.now var r)

pub returns-clause-cause : goal.returns-clause-cause
returns-clause-cause g c =
    failed_so _ _ _ _ _ _ c.in-Err.ensures.cause (λ db h var r. use_refused (kept_or_viewed db) db (who_of (option_map (λ n. n.now) c.args.who)) c.args.u.now (c.requires.fit db h) var r)
