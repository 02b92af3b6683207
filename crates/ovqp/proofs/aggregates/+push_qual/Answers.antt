use Rattle.std.proofs.Common.{◌++◌, sym, ap, ◌∙◌, map}
use Rattle.std.proofs.lemmas.Result.{on_ok_weaker}
use Rattle.calculus.specs.QueryParts.{qual_aggregates}
use Rattle.ovqp.proofs.AggregateForms.{behind, in_cmp, in_quals, in_true, stays}
use Rattle.ovqp.proofs.aggregates.+push_qual.Goals as goal

pub returns-in_ok-push_qual-in-And : goal.returns-in_ok-push_qual-in-And
returns-in_ok-push_qual-in-And t c =
    on_ok_weaker c.push_qual-in-And-2.result
    (λ h. behind _ _ _ _ _ c.in_ok-push_qual-in-And.ensures h
    ∙ ap (λ gs. map (λ g. g.now) c.args.found.now.items ++ gs) ((λ i. qual_aggregates (c.get-in-And.ensures i) ++ qual_aggregates (c.get-in-And-2.ensures i)) ∙ sym (in_quals c.args.q.now c.in-And.left c.in-And.right c.in-And.is)))
    c.push_qual-in-And-2.ensures

pub returns-in-True : goal.returns-in-True
returns-in-True t c = stays (map (λ g. g.now) c.args.found.now.items) (qual_aggregates c.args.q.now) (ap qual_aggregates c.in-True.is ∙ in_true)

pub returns-in_ok-push_term-in-Cmp : goal.returns-in_ok-push_term-in-Cmp
returns-in_ok-push_term-in-Cmp t c =
    on_ok_weaker c.push_term-in-Cmp.result
    (λ h. behind _ _ _ _ _ c.in_ok-push_term-in-Cmp.ensures h
    ∙ ap (λ gs. map (λ g. g.now) c.args.found.now.items ++ gs) (sym (ap qual_aggregates c.in-Cmp.is ∙ in_cmp c.in-Cmp.op c.in-Cmp.left c.in-Cmp.right)))
    c.push_term-in-Cmp.ensures
