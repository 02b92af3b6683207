use Rattle.std.proofs.Common.{◌≡◌, refl, ap, ◌∙◌, subst, IfOk, option_map}
use Rattle.quel_meaning.specs.FitQueries.{kept_or_viewed}
use Rattle.tree_laws.proofs.Slotted.{slotted}
use Rattle.view_expand.specs.Asking.{who_of}
use Rattle.view_text.specs.Expanded.{substituted_query}
use Rattle.view_text.specs.Replaced.{listed}
use Rattle.cut_rules.proofs.Causing.{failed_as}
use Rattle.cut_rules.proofs.Fitting.{aggregates_fit, slots_fit}
use Rattle.cut_rules.proofs.expanded.expanded_over.Goals as goal

pub put_aggregates-requires-clause-sources : goal.put_aggregates-requires-clause-sources
put_aggregates-requires-clause-sources g c = λ db h. aggregates_fit (kept_or_viewed db) db c.args.query.now (c.requires.fit db h)

pub returns-in-Ok-clause-known : goal.returns-in-Ok-clause-known
returns-in-Ok-clause-known g c = λ db h.
    let who = (who_of (option_map (λ n. n.now) c.args.who)) in
    let e = ap (λ gs. substituted_query (listed gs) c.args.expansions.now c.args.query.now) (c.deref.ensures.value ∙ c.in-Ok.ensures.known db h)
    ∙ slotted db who c.args.expansions.now c.args.query.now (slots_fit (kept_or_viewed db) db c.args.query.now (c.requires.fit db h)) in
    subst (λ x. IfOk c.whole.result (λ made. made ≡ x)) e c.whole.ensures.query

pub returns-in-Err-clause-cause : goal.returns-in-Err-clause-cause
returns-in-Err-clause-cause g c = failed_as _ _ _ _ _ _ _ _ c.in-Err.ensures.cause c.fault_at.ensures (λ db h r. (refl, r))
