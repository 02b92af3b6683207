use Rattle.std.proofs.Common.{◌≡◌, ap, ◌∙◌, ◌++◌, subst, map, flat_map, List, IfOk}
use Rattle.quel_meaning.specs.Naming.{dotted}
use Rattle.quel_meaning.specs.WrittenParts.{Dotted, aggregate_vars, attributes, attributes_in_qual, once}
use Rattle.quel_check.specs.Seen.{seen, vars_seen}
use Rattle.quel_check.proofs.InnerForms.{vars_dotted}
use Rattle.quel_check.proofs.inner.aggregate_vars.Goals as goal

pub returns : goal.returns
unfolding aggregate_vars
returns c =
    let ds : List Dotted = attributes c.args.g.now.arg ++ (flat_map attributes c.args.g.now.by ++ attributes_in_qual c.args.g.now.qual) in
    subst (λ vs. IfOk c.once.result (λ found. found ≡ vs))
    (ap once (ap (map (λ n. n.now)) c.deref-2.ensures.value ∙ c.in_ok-push_vars.ensures
    ∙ (λ i. map (λ n. n.now) (c.new-names.ensures.items i) ++ flat_map vars_seen (map seen (c.deref.ensures.value i)))
    ∙ ap (flat_map vars_seen) (c.in_ok-push_aggregate.ensures ∙ ap (λ ms. map seen ms ++ dotted ds) c.new-mentions.ensures.items)
    ∙ vars_dotted ds))
    c.once.ensures
