use Rattle.std.proofs.Common.{◌≡◌, ap, ◌∙◌, false, ◌++◌, length, option_map, arith}
use Rattle.calculus.specs.Permission.{permitted_within, vars_permitted}
use Rattle.calculus.specs.Used.{used_vars}
use Rattle.view_text.specs.ExpansionOf.{expansion_within}
use Rattle.view_text.specs.Expansions.{query_expansions, expansions_vars}
use Rattle.view_expand.specs.Asking.{who_of}
use Rattle.view_expand.proofs.Causing.{crowded_caused}
use Rattle.view_expand.proofs.Few.{expansions_few}
use Rattle.view_expand.proofs.expanded.expanded_plain.Goals as goal

pub returns-in-Ok-clause-cause : goal.returns-in-Ok-clause-cause
returns-in-Ok-clause-cause g c =
    crowded_caused (λ db. vars_permitted (permitted_within c.args.levels db (who_of (option_map (λ n. n.now) c.args.who))) c.args.query.now (used_vars c.args.query.now) ≡ false)
    (g.B.Base.database c.args.base.now) (g.B.Base.faults c.args.base.now) (g.B.Base.faults c.expansions_through.new.base) (length (expansions_vars c.deref.result.now)) c.query_over.result c.in-Ok.ensures.cause.caused
    (λ db h.
    let source = expansion_within c.args.levels db (who_of (option_map (λ n. n.now) c.args.who)) in
    let made : c.deref.result.now ≡ query_expansions source c.args.query.now =
    c.deref.ensures.value ∙ c.in-Ok.ensures.known db h ∙ ap (λ ts. ts ++ query_expansions source c.args.query.now) c.new-expansions.ensures.items in
    let same : length (expansions_vars c.deref.result.now) ≡ length (expansions_vars (query_expansions source c.args.query.now)) = ap (λ ts. length (expansions_vars ts)) made in
    omega (arith, same, expansions_few db (who_of (option_map (λ n. n.now) c.args.who)) c.args.levels c.args.query.now, c.requires.expanded db h))
    c.query_over.ensures.cause
