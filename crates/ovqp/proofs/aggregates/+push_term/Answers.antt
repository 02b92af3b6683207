use Rattle.std.proofs.Common.{◌++◌, ◌∷◌, [], sym, ap, ◌∙◌, map}
use Rattle.std.proofs.lemmas.List.{map-append}
use Rattle.std.proofs.lemmas.Result.{on_ok_weaker}
use Rattle.calculus.specs.QueryParts.{term_aggregates}
use Rattle.ovqp.proofs.AggregateForms.{alone, behind, in_agg, in_pair, one_behind, stays}
use Rattle.ovqp.proofs.aggregates.+push_term.Goals as goal

pub returns-in_ok-push_term-in-Arith : goal.returns-in_ok-push_term-in-Arith
returns-in_ok-push_term-in-Arith t c =
    on_ok_weaker c.push_term-in-Arith.result
    (λ h. behind _ _ _ _ _ c.in_ok-push_term-in-Arith.ensures h
    ∙ ap (λ gs. map (λ g. g.now) c.args.found.now.items ++ gs) ((λ i. term_aggregates (c.get-in-Arith.ensures i) ++ term_aggregates (c.get-in-Arith-2.ensures i)) ∙ sym (in_pair c.args.t.now c.in-Arith.left c.in-Arith.right c.in-Arith.is)))
    c.push_term-in-Arith.ensures

pub returns-in_ok-push-in-Agg : goal.returns-in_ok-push-in-Agg
returns-in_ok-push-in-Agg t c =
    one_behind (map (λ g. g.now) c.args.found.now.items) (map (λ g. g.now) c.push.new.self.items) (term_aggregates c.args.t.now) c.get.result.now
    (ap (map (λ g. g.now)) c.in_ok-push-in-Agg.ensures.items ∙ map-append (λ g. g.now) c.args.found.now.items (c.get.result ∷ []))
    (ap term_aggregates c.in-Agg.is ∙ in_agg c.in-Agg.aggregate ∙ ap (λ g. g ∷ []) (sym c.get.ensures))

pub returns-in-Int : goal.returns-in-Int
returns-in-Int t c = stays (map (λ g. g.now) c.args.found.now.items) (term_aggregates c.args.t.now) (alone c.args.t.now c.in-Int.is)

pub returns-in-Int-2 : goal.returns-in-Int-2
returns-in-Int-2 t c = stays (map (λ g. g.now) c.args.found.now.items) (term_aggregates c.args.t.now) (alone c.args.t.now c.in-Int.is)

pub returns-in-Int-3 : goal.returns-in-Int-3
returns-in-Int-3 t c = stays (map (λ g. g.now) c.args.found.now.items) (term_aggregates c.args.t.now) (alone c.args.t.now c.in-Int.is)
