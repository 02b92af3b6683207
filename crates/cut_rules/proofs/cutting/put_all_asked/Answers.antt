use Rattle.std.proofs.Common.{◌≡◌, sym, ◌∙◌, subst, false, length, Err, option_map, Contains, rules}
use Rattle.std.specs.List.{list_all}
use Rattle.calculus.specs.declared.request.Asked.{Asked}
use Rattle.calculus.specs.Permission.{query_permitted}
use Rattle.quel_meaning.specs.FitQueries.{kept_or_viewed, asked_fits}
use Rattle.view_expand.specs.Asking.{who_of}
use Rattle.view_text.specs.Expanded.{expanded_asked}
use Rattle.cut_rules.specs.Causes.{HasCause}
use Rattle.cut_rules.specs.Refused.{IsRefusedIn}
use Rattle.cut_rules.proofs.Causing.{failed_behind}
use Rattle.cut_rules.proofs.Listing.{first_of, others_of, passed_on, failed_first, all_done, contains_first, contains_later, next_mapped}
use Rattle.cut_rules.proofs.cutting.put_all_asked.Goals as goal

pub put_asked-requires-clause-fit : goal.put_asked-requires-clause-fit
put_asked-requires-clause-fit g c = λ db h.
    first_of (asked_fits (kept_or_viewed db) db) c.in-Some.first.now c.asked.rest.now c.in-Some.others.now c.in-Some.ensures.cases.0 (c.asked.invariant.fit db (sym c.asked.invariant.kept ∙ h))

pub returns-in_err-put_asked-clause-cause : goal.returns-in_err-put_asked-clause-cause
returns-in_err-put_asked-clause-cause g c =
    let is : c.from_residual.result ≡ Err c.in_err-put_asked.field-0.0 = search rules in
    subst (λ r. HasCause (λ db var. (list_all (λ a. query_permitted db (who_of (option_map (λ n. n.now) c.args.who)) a.query) c.args.asked.now ≡ false) × ((a : Asked) × (Contains c.args.asked.now a) × IsRefusedIn db (who_of (option_map (λ n. n.now) c.args.who)) a.query var))
    (g.B.Base.database c.args.base.now) (g.B.Base.faults c.args.base.now) (g.B.Base.faults c.put_asked.new.base) r) (sym is)
    (failed_behind _ _ _ _ _ _ _ _ c.in_err-put_asked.ensures.cause c.asked.invariant.kept c.asked.invariant.faults
    (λ db h var r. (
      failed_first (λ a. query_permitted db (who_of (option_map (λ n. n.now) c.args.who)) a.query) c.in-Some.first.now c.asked.rest.now c.in-Some.others.now _ c.in-Some.ensures.cases.0 r.0 (c.asked.invariant.permitted db h),
      (c.in-Some.first.now, c.asked.invariant.within c.in-Some.first.now (contains_first c.in-Some.first.now c.asked.rest.now c.in-Some.others.now c.in-Some.ensures.cases.0), r.1),
    )))

pub asked-preserved : goal.asked-preserved
asked-preserved g c = record {
  within = λ a h. c.asked.invariant.within a (contains_later c.in-Some.first.now a c.asked.rest.now c.in-Some.others.now c.in-Some.ensures.cases.0 h);
  known = λ db h.
      next_mapped (expanded_asked db (who_of (option_map (λ n. n.now) c.args.who))) c.in-Some.first.now c.asked.rest.now c.in-Some.others.now c.asked.made.items _ c.put_asked.new.made.items c.in-Some.ensures.cases.0
      (c.in_ok-put_asked.ensures.known db (c.asked.invariant.kept ∙ h)) (c.asked.invariant.known db h);
  permitted = λ db h.
      passed_on (λ a. query_permitted db (who_of (option_map (λ n. n.now) c.args.who)) a.query) c.in-Some.first.now c.asked.rest.now c.in-Some.others.now _ c.in-Some.ensures.cases.0 (c.in_ok-put_asked.ensures.permitted db (c.asked.invariant.kept ∙ h)) (c.asked.invariant.permitted db h);
  fit = λ db h. others_of (asked_fits (kept_or_viewed db) db) c.in-Some.first.now c.asked.rest.now c.in-Some.others.now c.in-Some.ensures.cases.0 (c.asked.invariant.fit db h);
  found = λ db h. c.in_ok-put_asked.ensures.found db (c.asked.invariant.kept ∙ h);
  kept = c.in_ok-put_asked.ensures.kept ∙ c.asked.invariant.kept;
  stays = λ s h. c.in_ok-put_asked.ensures.stays s (c.asked.invariant.stays s h);
  asked = λ b was. c.in_ok-put_asked.ensures.asked b (c.asked.invariant.asked b was);
  faults = c.in_ok-put_asked.ensures.cause.caused ∙ c.asked.invariant.faults;
}

pub returns-clause-permitted : goal.returns-clause-permitted
returns-clause-permitted g c = λ db h.
    let none : length c.asked.rest.now ≡ 0 = search rules in
    all_done (λ a. query_permitted db (who_of (option_map (λ n. n.now) c.args.who)) a.query) c.asked.rest.now _ none (c.asked.invariant.permitted db h)
