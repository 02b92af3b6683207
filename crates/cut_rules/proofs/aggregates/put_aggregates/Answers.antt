use Rattle.std.proofs.Common.{◌≡◌, refl, sym, ap, ◌∙◌, false, ◌++◌, map, option_map}
use Rattle.std.specs.List.{list_all}
use Rattle.calculus.specs.Permission.{aggregates_permitted, readable, source_permitted}
use Rattle.calculus.specs.QueryParts.{query_aggregates}
use Rattle.calculus.specs.Used.{used_in_aggregate}
use Rattle.quel_meaning.specs.FitQueries.{kept_or_viewed, source_fits}
use Rattle.view_expand.specs.Asking.{who_of}
use Rattle.view_text.specs.Expanded.{expanded_aggregate}
use Rattle.view_text.specs.Expansions.{substituted_from}
use Rattle.cut_rules.proofs.Gathering.{all_under, error_behind, map_under}
use Rattle.cut_rules.proofs.aggregates.put_aggregates.Goals as goal

pub put_all-requires-clause-sources : goal.put_all-requires-clause-sources
put_all-requires-clause-sources g c = λ db h.
    all_under (λ a. source_fits (kept_or_viewed db) db a.source) (λ a. a.now) c.deref.result.now (query_aggregates c.args.query.now) (ap (map (λ a. a.now)) c.deref.ensures.value ∙ c.in_ok-aggregates.ensures)
    ∙ c.requires.sources db h

pub returns-in-Ok-clause-known : goal.returns-in-Ok-clause-known
returns-in-Ok-clause-known g c = λ db h.
    c.in-Ok.ensures.known db h
    ∙ (λ i. c.new-made.ensures.items i ++ map_under (expanded_aggregate db (who_of (option_map (λ n. n.now) c.args.who)) (substituted_from 0 c.args.expansions.now)) (λ a. a.now) c.deref.result.now (query_aggregates c.args.query.now) (ap (map (λ a. a.now)) c.deref.ensures.value ∙ c.in_ok-aggregates.ensures) i)

pub returns-in-Ok-clause-permitted : goal.returns-in-Ok-clause-permitted
returns-in-Ok-clause-permitted g c = λ db h.
    sym (all_under (λ a. source_permitted (readable db (who_of (option_map (λ n. n.now) c.args.who))) (used_in_aggregate a) a.source) (λ a. a.now) c.deref.result.now (query_aggregates c.args.query.now) (ap (map (λ a. a.now)) c.deref.ensures.value ∙ c.in_ok-aggregates.ensures))
    ∙ c.in-Ok.ensures.permitted db h

pub returns-clause-cause : goal.returns-clause-cause
returns-clause-cause g c =
    error_behind (λ db. list_all (λ a. source_permitted (readable db (who_of (option_map (λ n. n.now) c.args.who))) (used_in_aggregate a.now) a.now.source) c.deref.result.now ≡ false)
    (λ db. aggregates_permitted (readable db (who_of (option_map (λ n. n.now) c.args.who))) c.args.query.now ≡ false)
    (g.B.Base.database c.args.base.now) (g.B.Base.database c.args.base.now) (g.B.Base.faults c.args.base.now) (g.B.Base.faults c.args.base.now) (g.B.Base.faults c.put_all.new.base) c.in-Err.error
    refl refl
    (λ db h e.
    sym (all_under (λ a. source_permitted (readable db (who_of (option_map (λ n. n.now) c.args.who))) (used_in_aggregate a) a.source) (λ a. a.now) c.deref.result.now (query_aggregates c.args.query.now) (ap (map (λ a. a.now)) c.deref.ensures.value ∙ c.in_ok-aggregates.ensures))
    ∙ e)
    c.in-Err.ensures.cause
