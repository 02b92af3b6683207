use Rattle.std.proofs.Common.{◌≡◌, sym, ap, ◌∙◌, subst, ◌≤◌, true, ◌++◌, map, length, IfOk, option_map}
use Rattle.std.specs.List.{enumerate_from}
use Rattle.calculus.specs.Permission.{aggregates_permitted, query_permitted, readable}
use Rattle.calculus.specs.QueryParts.{vars_of}
use Rattle.quel_meaning.specs.FitQueries.{kept_or_viewed}
use Rattle.view_expand.specs.Asking.{who_of}
use Rattle.view_text.specs.Expanded.{expanded, expanded_over}
use Rattle.view_text.specs.Expansions.{expansions_vars}
use Rattle.cut_rules.specs.Placed.{read_expansion}
use Rattle.cut_rules.proofs.Causing.{caused_behind, failed_so, on_ok}
use Rattle.cut_rules.proofs.Fitting.{few_listed, small_vars, small_expansions}
use Rattle.cut_rules.proofs.Refusing.{all_read, read_refused, aggregate_refused}
use Rattle.cut_rules.proofs.expanded.expanded.Goals as goal

pub put_expansions-requires-clause-listed : goal.put_expansions-requires-clause-listed
put_expansions-requires-clause-listed g c = λ db h. few_listed (kept_or_viewed db) db c.args.query.now (c.requires.fit db h)

pub put_expansions-requires-clause-small : goal.put_expansions-requires-clause-small
put_expansions-requires-clause-small g c = λ db h. small_vars db c.args.query.now (c.requires.few db h)

pub expanded_over_few-requires-clause-few : goal.expanded_over_few-requires-clause-few
expanded_over_few-requires-clause-few g c = λ db h.
    let k = sym c.in-Ok.ensures.kept ∙ h in
    let who = (who_of (option_map (λ n. n.now) c.args.who)) in
    let made : c.deref.result.now ≡ map (read_expansion db who c.args.query.now) (enumerate_from 0 (vars_of c.args.query.now)) =
    c.deref.ensures.value ∙ c.in-Ok.ensures.known db k ∙ ap (λ ts. ts ++ map (read_expansion db who c.args.query.now) (enumerate_from 0 (vars_of c.args.query.now))) c.new-expansions.ensures.items in
    subst (λ ts. length (expansions_vars ts) ≤ 256) (sym made) (small_expansions db who c.args.query.now (c.requires.few db k))

pub returns-in-Ok-clause-known : goal.returns-in-Ok-clause-known
unfolding expanded
returns-in-Ok-clause-known g c = λ db h.
    let who = (who_of (option_map (λ n. n.now) c.args.who)) in
    let made : c.deref.result.now ≡ map (read_expansion db who c.args.query.now) (enumerate_from 0 (vars_of c.args.query.now)) =
    c.deref.ensures.value ∙ c.in-Ok.ensures.known db h ∙ ap (λ ts. ts ++ map (read_expansion db who c.args.query.now) (enumerate_from 0 (vars_of c.args.query.now))) c.new-expansions.ensures.items in
    subst (λ ts. IfOk c.expanded_over_few.result (λ made. made ≡ expanded_over db who ts c.args.query.now)) made (c.expanded_over_few.ensures.known db (c.in-Ok.ensures.kept ∙ h))

pub returns-in-Ok-clause-permitted : goal.returns-in-Ok-clause-permitted
returns-in-Ok-clause-permitted g c = λ db h.
    let who = (who_of (option_map (λ n. n.now) c.args.who)) in
    on_ok c.expanded_over_few.result (aggregates_permitted (readable db who) c.args.query.now ≡ true) (query_permitted db who c.args.query.now ≡ true)
    (λ a. all_read db who c.args.query.now (c.in-Ok.ensures.permitted db h) a) (c.expanded_over_few.ensures.permitted db (c.in-Ok.ensures.kept ∙ h))

pub returns-in-Ok-clause-cause : goal.returns-in-Ok-clause-cause
returns-in-Ok-clause-cause g c =
    caused_behind _ _ _ _ _ _ _ _ c.expanded_over_few.ensures.cause c.in-Ok.ensures.kept c.in-Ok.ensures.cause.caused (λ db h var r. aggregate_refused db (who_of (option_map (λ n. n.now) c.args.who)) c.args.query.now var r)

pub returns-clause-cause : goal.returns-clause-cause
returns-clause-cause g c = failed_so _ _ _ _ _ _ c.in-Err.ensures.cause (λ db h var r. read_refused db (who_of (option_map (λ n. n.now) c.args.who)) c.args.query.now var r)
