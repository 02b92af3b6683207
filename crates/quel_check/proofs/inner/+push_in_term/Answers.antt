use Rattle.std.proofs.Common.{◌++◌, ◌∷◌, [], sym, ap, ◌∙◌, map}
use Rattle.std.proofs.lemmas.List.{map-append}
use Rattle.std.proofs.lemmas.Result.{on_ok_weaker}
use Rattle.quel_meaning.specs.WrittenParts.{aggregates_in}
use Rattle.quel_check.proofs.InnerForms.{alone, behind, in_agg, in_pair, one_behind, stays}
use Rattle.quel_check.proofs.inner.+push_in_term.Goals as goal

pub returns-in_ok-push_in_term-in-Arith : goal.returns-in_ok-push_in_term-in-Arith
returns-in_ok-push_in_term-in-Arith t c =
    on_ok_weaker c.push_in_term-in-Arith.result
    (λ h. behind _ _ _ _ _ c.in_ok-push_in_term-in-Arith.ensures h
    ∙ ap (λ gs. map (λ g. g.now) c.args.found.now.items ++ gs) ((λ i. aggregates_in (c.get-in-Arith.ensures i) ++ aggregates_in (c.get-in-Arith-2.ensures i)) ∙ sym (in_pair c.args.t.now c.in-Arith.left c.in-Arith.right c.in-Arith.is)))
    c.push_in_term-in-Arith.ensures

pub returns-in_ok-push-in-Agg : goal.returns-in_ok-push-in-Agg
returns-in_ok-push-in-Agg t c =
    one_behind (map (λ g. g.now) c.args.found.now.items) (map (λ g. g.now) c.push.new.self.items) (aggregates_in c.args.t.now) c.get.result.now
    (ap (map (λ g. g.now)) c.in_ok-push-in-Agg.ensures.items ∙ map-append (λ g. g.now) c.args.found.now.items (c.get.result ∷ []))
    (ap aggregates_in c.in-Agg.is ∙ in_agg c.in-Agg.aggregate ∙ ap (λ g. g ∷ []) (sym c.get.ensures))

pub returns-in-Int : goal.returns-in-Int
returns-in-Int t c = stays (map (λ g. g.now) c.args.found.now.items) (aggregates_in c.args.t.now) (alone c.args.t.now c.in-Int.is)

pub returns-in-Int-2 : goal.returns-in-Int-2
returns-in-Int-2 t c = stays (map (λ g. g.now) c.args.found.now.items) (aggregates_in c.args.t.now) (alone c.args.t.now c.in-Int.is)

pub returns-in-Int-3 : goal.returns-in-Int-3
returns-in-Int-3 t c = stays (map (λ g. g.now) c.args.found.now.items) (aggregates_in c.args.t.now) (alone c.args.t.now c.in-Int.is)
