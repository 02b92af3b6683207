use Rattle.std.proofs.Common.{◌+◌, sym, ap, ◌∙◌, drop, Some}
use Rattle.calculus.specs.Term.{values_of}
use Rattle.scalar_eval.proofs.Groups.{values_before, none_at, some_at, end_at}
use Rattle.scalar_eval.proofs.values.+value.Goals as goal

pub values_of-returns-in-None : goal.values_of-returns-in-None
values_of-returns-in-None t c =
    none_at c.loop-term.values.items c.args.terms.now c.loop-term.term-index c.term-item.result c.args.rows.now
    c.loop-term.invariant c.loop-term-test.true c.term-item.is (sym c.in_ok-value.ensures ∙ c.in-None.is)

pub values_of-loop-term-preserved : goal.values_of-loop-term-preserved
values_of-loop-term-preserved t c =
    ap (λ vs. values_before vs (values_of (drop (c.loop-term.term-index + 1) c.args.terms.now) c.args.rows.now)) c.in_ok-push-in-Some.ensures.items
    ∙ some_at c.loop-term.values.items c.args.terms.now c.loop-term.term-index c.term-item.result c.args.rows.now c.in-Some.value
    c.loop-term.invariant c.loop-term-test.true c.term-item.is (sym c.in_ok-value.ensures ∙ c.in-Some.is)

pub values_of-returns : goal.values_of-returns
values_of-returns t c =
    ap Some c.of.ensures ∙ end_at c.loop-term.values.items c.args.terms.now c.loop-term.term-index c.args.rows.now
    c.loop-term.invariant c.loop-term-test.false
