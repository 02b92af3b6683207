use Rattle.std.proofs.Common.{◌≡◌, ap, ◌∙◌, subst, map, Bool, IfOk}
use Rattle.std.specs.List.{list_all}
use Rattle.quel_check.specs.Known.{front}
use Rattle.quel_meaning.specs.WrittenParts.{aggregate_vars, text_aggregates}
use Rattle.quel_names.specs.Ranging.{each_ranges}
use Rattle.quel_refusals.proofs.Aggregated.{fronts_range, kept_stand, others_stand}
use Rattle.quel_refusals.proofs.allowed_aggregates.aggregates_allowed.Goals as goal

pub returns-then-keeps_a_text-clause-known : goal.returns-then-keeps_a_text-clause-known
returns-then-keeps_a_text-clause-known g c = λ scope h r names.
    kept_stand scope c.args.s.now _ c.keeps_a_text.result c.has_aggregate.ensures c.keeps_a_text.ensures c.if-keeps_a_text.true

pub returns-clause-known : goal.returns-clause-known
returns-clause-known g c = λ scope h r names.
    let same : map (λ a. a.now) c.deref.result.now ≡ text_aggregates c.args.s.now = ap (map (λ a. a.now)) c.deref.ensures.value ∙ c.in_ok-aggregates.ensures in
    subst (λ (b : Bool). IfOk c.all_stand.result (λ stand. stand ≡ b))
    (others_stand scope c.args.s.now (λ a. a.now) c.deref.result.now c.keeps_a_text.result same c.keeps_a_text.ensures c.if-keeps_a_text.false)
    (c.all_stand.ensures.known scope h r (ap (list_all (λ a. each_ranges scope (front (aggregate_vars a)))) same ∙ fronts_range scope c.args.s.now names))
