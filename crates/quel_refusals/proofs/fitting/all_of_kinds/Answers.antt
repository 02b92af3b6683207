use Rattle.std.proofs.Common.{◌≡◌, sym, ap, ◌∙◌, true, false, ◌&&◌, map, vec_items}
use Rattle.std.specs.List.{list_all}
use Rattle.std.proofs.lemmas.List.{take_all}
use Rattle.std.proofs.lemmas.List.Folds.{list_all_more, list_all_at}
use Rattle.calculus.specs.IsDatabase.{has_kind}
use Rattle.quel_meaning.specs.KindsInQueries.{kind_in_query}
use Rattle.quel_refusals.proofs.fitting.all_of_kinds.Goals as goal

pub loop-target-preserved : goal.loop-target-preserved
loop-target-preserved g c = record {
  known = λ db h.
      let yes : c.has_kind.result ≡ true = cc (c.if-not-has_kind.false) in
      let is = c.has_kind.ensures ∙ ap (λ o. has_kind o c.target-item.result.kind) (c.in_ok-kind.ensures.known db (c.loop-target.invariant.stays _ h)) in
      list_all_more (λ t. has_kind (kind_in_query db t.term (map vec_items c.args.vars.now)) t.kind) c.args.targets.now c.loop-target.target-index c.target-item.result c.loop-target-test.true
      ∙ (λ i. c.loop-target.invariant.known db h i && (ap (λ t. has_kind (kind_in_query db t.term (map vec_items c.args.vars.now)) t.kind) (sym c.target-item.is) ∙ sym is ∙ yes) i);
  kept = c.in_ok-kind.ensures.kept ∙ c.loop-target.invariant.kept;
  stays = λ s h. c.in_ok-kind.ensures.stays s (c.loop-target.invariant.stays s h);
  asked = λ b was. c.in_ok-kind.ensures.asked b (c.loop-target.invariant.asked b was);
  faults = c.in_ok-kind.ensures.cause.caused ∙ c.loop-target.invariant.faults;
}

pub returns-then-not-has_kind-clause-known : goal.returns-then-not-has_kind-clause-known
returns-then-not-has_kind-clause-known g c = λ db h.
    let no : c.has_kind.result ≡ false = cc (c.if-not-has_kind.true) in
    let is = c.has_kind.ensures ∙ ap (λ o. has_kind o c.target-item.result.kind) (c.in_ok-kind.ensures.known db (c.loop-target.invariant.stays _ h)) in
    sym (list_all_at (λ t. has_kind (kind_in_query db t.term (map vec_items c.args.vars.now)) t.kind) c.args.targets.now c.loop-target.target-index c.target-item.result c.loop-target-test.true
    (ap (λ t. has_kind (kind_in_query db t.term (map vec_items c.args.vars.now)) t.kind) (sym c.target-item.is) ∙ sym is ∙ no))

pub returns-clause-known : goal.returns-clause-known
returns-clause-known g c = λ db h. sym (c.loop-target.invariant.known db h) ∙ ap (list_all (λ t. has_kind (kind_in_query db t.term (map vec_items c.args.vars.now)) t.kind)) (take_all c.loop-target.target-index c.args.targets.now c.loop-target-test.false)
