use Rattle.std.proofs.Common.{◌∙◌, sym, ap}
use Rattle.quel_meaning.specs.Ranges.{declared}
use Rattle.calculus.specs.Finding.{found}
use Rattle.stage_parse.proofs.Meanings.{declares_none, declares_some, refusal_shaped}
use Rattle.stage_parse.proofs.judging.declared.Goals as goal

pub returns-in_ok-declare-in-Ok-Some-clause-known : goal.returns-in_ok-declare-in-Ok-Some-clause-known
returns-in_ok-declare-in-Ok-Some-clause-known g c = λ s h.
    declares_some c.args.ranges.now c.declare.new.self c.args.var.now (found s c.args.user.now c.args.rel.now) c.in-Ok-Some.info c.args.line (sym c.in-Ok-Some.field-0-is ∙ c.in-Ok-Some.ensures.known s h)
    (c.in_ok-declare-in-Ok-Some.ensures.declared ∙ ap (λ v. declared c.args.ranges.now v c.into_key.result) c.in_ok-var.ensures ∙ ap (λ k. declared c.args.ranges.now c.args.var.now k) c.into_key.ensures)

pub returns-in_ok-refused_by-in-Ok-None-clause-known : goal.returns-in_ok-refused_by-in-Ok-None-clause-known
returns-in_ok-refused_by-in-Ok-None-clause-known g c = λ s h.
    declares_none c.args.ranges.now c.args.ranges.now c.args.var.now (found s c.args.user.now c.args.rel.now) c.args.line _ (sym c.in-Ok-None.field-0-is ∙ c.in-Ok-None.ensures.known s h) c.in_ok-refused_by-in-Ok-None.ensures

pub returns-in_ok-refused_by-in-Ok-None-clause-shaped : goal.returns-in_ok-refused_by-in-Ok-None-clause-shaped
returns-in_ok-refused_by-in-Ok-None-clause-shaped g c = refusal_shaped 10 c.args.line _ c.in_ok-refused_by-in-Ok-None.ensures
