use Rattle.std.proofs.Common.{◌≡◌, sym, ap, ◌∙◌, false, ◌&&◌, [], ◌∷◌, ◌++◌, append_assoc, map, take, get_or, option_map}
use Rattle.std.specs.List.{list_all}
use Rattle.std.proofs.lemmas.List.{map_more, take_all}
use Rattle.std.proofs.lemmas.List.Folds.{list_all_more, list_all_at}
use Rattle.calculus.specs.Permission.{readable, source_permitted}
use Rattle.calculus.specs.Used.{used_in_aggregate}
use Rattle.quel_meaning.specs.FitQueries.{kept_or_viewed, source_fits}
use Rattle.view_expand.specs.Asking.{who_of}
use Rattle.view_text.specs.Expanded.{expanded_aggregate}
use Rattle.view_text.specs.Expansions.{substituted_from}
use Rattle.cut_rules.proofs.Gathering.{each_true, error_behind}
use Rattle.cut_rules.proofs.aggregates.put_all.Goals as goal

pub expanded_aggregate-requires-clause-source : goal.expanded_aggregate-requires-clause-source
expanded_aggregate-requires-clause-source g c = λ db h.
    each_true (λ a. source_fits (kept_or_viewed db) db a.now.source) c.args.aggregates.now c.loop-aggregate.aggregate-index c.aggregate-item.result
    (c.requires.sources db (sym c.loop-aggregate.invariant.kept ∙ h)) c.loop-aggregate-test.true c.aggregate-item.is

pub returns-in-Err-clause-cause : goal.returns-in-Err-clause-cause
returns-in-Err-clause-cause g c =
    error_behind (λ db. source_permitted (readable db (who_of (option_map (λ n. n.now) c.args.who))) (used_in_aggregate c.aggregate-item.result.now) c.aggregate-item.result.now.source ≡ false)
    (λ db. list_all (λ a. source_permitted (readable db (who_of (option_map (λ n. n.now) c.args.who))) (used_in_aggregate a.now) a.now.source) c.args.aggregates.now ≡ false)
    (g.B.Base.database c.args.base.now) (g.B.Base.database c.loop-aggregate.base) (g.B.Base.faults c.args.base.now) (g.B.Base.faults c.loop-aggregate.base) (g.B.Base.faults c.expanded_aggregate.new.base) c.in-Err.error
    c.loop-aggregate.invariant.kept c.loop-aggregate.invariant.faults
    (λ db h e.
    list_all_at (λ a. source_permitted (readable db (who_of (option_map (λ n. n.now) c.args.who))) (used_in_aggregate a.now) a.now.source) c.args.aggregates.now c.loop-aggregate.aggregate-index c.aggregate-item.result c.loop-aggregate-test.true
    (ap (λ a. source_permitted (readable db (who_of (option_map (λ n. n.now) c.args.who))) (used_in_aggregate a.now) a.now.source) (sym c.aggregate-item.is) ∙ e))
    c.in-Err.ensures.cause

pub loop-aggregate-preserved : goal.loop-aggregate-preserved
loop-aggregate-preserved g c = record {
  known = λ db h.
      c.in_ok-push-in-Ok.ensures.behind
      ∙ (λ i. c.loop-aggregate.invariant.known db h i ++ (c.in-Ok.ensures.known db (c.loop-aggregate.invariant.kept ∙ h) ∙ ap (λ a. expanded_aggregate db (who_of (option_map (λ n. n.now) c.args.who)) (substituted_from 0 c.args.expansions.now) a.now) c.aggregate-item.is) i ∷ [])
      ∙ append_assoc c.args.made.now.items (map (λ a. expanded_aggregate db (who_of (option_map (λ n. n.now) c.args.who)) (substituted_from 0 c.args.expansions.now) a.now) (take c.loop-aggregate.aggregate-index c.args.aggregates.now))
      (expanded_aggregate db (who_of (option_map (λ n. n.now) c.args.who)) (substituted_from 0 c.args.expansions.now) (get_or c.args.aggregates.now c.loop-aggregate.aggregate-index c.aggregate-item.result).now ∷ [])
      ∙ ap (λ made. c.args.made.now.items ++ made)
      (sym (map_more (λ a. expanded_aggregate db (who_of (option_map (λ n. n.now) c.args.who)) (substituted_from 0 c.args.expansions.now) a.now) c.args.aggregates.now c.loop-aggregate.aggregate-index c.aggregate-item.result c.loop-aggregate-test.true));
  permitted = λ db h.
      list_all_more (λ a. source_permitted (readable db (who_of (option_map (λ n. n.now) c.args.who))) (used_in_aggregate a.now) a.now.source) c.args.aggregates.now c.loop-aggregate.aggregate-index c.aggregate-item.result c.loop-aggregate-test.true
      ∙ (λ i. c.loop-aggregate.invariant.permitted db h i && (ap (λ a. source_permitted (readable db (who_of (option_map (λ n. n.now) c.args.who))) (used_in_aggregate a.now) a.now.source) (sym c.aggregate-item.is) ∙ c.in-Ok.ensures.permitted db (c.loop-aggregate.invariant.kept ∙ h)) i);
  found = λ db h. c.in-Ok.ensures.found db (c.loop-aggregate.invariant.kept ∙ h);
  kept = c.in-Ok.ensures.kept ∙ c.loop-aggregate.invariant.kept;
  stays = λ s h. c.in-Ok.ensures.stays s (c.loop-aggregate.invariant.stays s h);
  asked = λ b was. c.in-Ok.ensures.asked b (c.loop-aggregate.invariant.asked b was);
  faults = c.in-Ok.ensures.cause.caused ∙ c.loop-aggregate.invariant.faults;
}

pub returns-clause-known : goal.returns-clause-known
returns-clause-known g c = λ db h.
    c.loop-aggregate.invariant.known db h
    ∙ ap (λ given. c.args.made.now.items ++ map (λ a. expanded_aggregate db (who_of (option_map (λ n. n.now) c.args.who)) (substituted_from 0 c.args.expansions.now) a.now) given) (take_all c.loop-aggregate.aggregate-index c.args.aggregates.now c.loop-aggregate-test.false)

pub returns-clause-permitted : goal.returns-clause-permitted
returns-clause-permitted g c = λ db h.
    sym (ap (list_all (λ a. source_permitted (readable db (who_of (option_map (λ n. n.now) c.args.who))) (used_in_aggregate a.now) a.now.source)) (take_all c.loop-aggregate.aggregate-index c.args.aggregates.now c.loop-aggregate-test.false))
    ∙ c.loop-aggregate.invariant.permitted db h
