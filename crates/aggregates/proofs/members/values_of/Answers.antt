use Rattle.std.proofs.Common.{◌+◌, sym, ap, ◌∙◌, drop, Some}
use Rattle.calculus.specs.Term.{values_of}
use Rattle.scalar_eval.proofs.Groups.{values_before, none_at, some_at, end_at, values_all}
use Rattle.aggregates.proofs.members.values_of.Goals as goal

pub loop-term-init : goal.loop-term-init
loop-term-init c = ap (λ vs. values_before vs (values_of c.args.terms.now c.args.at.now)) c.new-values.ensures.items ∙ values_all c.args.terms.now c.args.at.now

pub returns-in-None : goal.returns-in-None
returns-in-None c =
    none_at c.loop-term.values.items c.args.terms.now c.loop-term.term-index c.term-item.result c.args.at.now
    c.loop-term.invariant c.loop-term-test.true c.term-item.is (sym c.in_ok-value.ensures ∙ c.in-None.is)

pub loop-term-preserved : goal.loop-term-preserved
loop-term-preserved c =
    ap (λ vs. values_before vs (values_of (drop (c.loop-term.term-index + 1) c.args.terms.now) c.args.at.now)) c.in_ok-push-in-Some.ensures.items
    ∙ some_at c.loop-term.values.items c.args.terms.now c.loop-term.term-index c.term-item.result c.args.at.now c.in-Some.value
    c.loop-term.invariant c.loop-term-test.true c.term-item.is (sym c.in_ok-value.ensures ∙ c.in-Some.is)

pub returns : goal.returns
returns c =
    ap Some c.of.ensures ∙ end_at c.loop-term.values.items c.args.terms.now c.loop-term.term-index c.args.at.now
    c.loop-term.invariant c.loop-term-test.false
