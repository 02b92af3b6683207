use Rattle.std.proofs.Common.{◌≡◌, ◌∙◌, ap, subst, sym, true}
use Rattle.std.specs.Prelude.{IfOk, option_copied}
use Rattle.calculus.specs.declared.statement.Statement.TheVariants as statement
use Rattle.calculus.specs.Replacement.{first_refusal}
use Rattle.quel_refusals.specs.CheckedStatements.{IsOn}
use Rattle.quel_meaning.specs.Aggregates.{keeps_a_text}
use Rattle.quel_meaning.specs.Causes.{refusals_by}
use Rattle.quel_refusals.proofs.refusing.unchanged_refusal.Goals as goal

pub returns-in-Permit-clause-known : goal.returns-in-Permit-clause-known
returns-in-Permit-clause-known g c = λ scope h u few texts up on j.
    subst (λ s. IfOk c.permit_refusal.result (λ n. n ≡ first_refusal (refusals_by scope true c.args.q.now s)))
    (ap (λ attrs. statement.Permit c.in-Permit.ops c.in-Permit.var attrs c.in-Permit.user c.in-Permit.qual) c.items-in-Permit.ensures ∙ sym c.in-Permit.is)
    (c.permit_refusal.ensures.known scope c.in-Permit.ops c.in-Permit.var c.in-Permit.user c.in-Permit.qual h (subst (λ s. IsOn scope s (option_copied c.args.on)) c.in-Permit.is on) (texts (ap keeps_a_text c.in-Permit.is)))

pub returns-in-Rule-clause-known : goal.returns-in-Rule-clause-known
returns-in-Rule-clause-known g c = λ scope h u few texts up on j.
    subst (λ s. IfOk c.rule_refusal.result (λ n. n ≡ first_refusal (refusals_by scope true c.args.q.now s))) (sym c.in-Rule.is)
    (c.rule_refusal.ensures.known scope c.in-Rule.var c.in-Rule.qual h (subst (λ s. IsOn scope s (option_copied c.args.on)) c.in-Rule.is on) (texts (ap keeps_a_text c.in-Rule.is)))

pub returns-in-View-clause-known : goal.returns-in-View-clause-known
returns-in-View-clause-known g c = λ scope h u few texts up on j.
    subst (λ s. IfOk c.view_refusal.result (λ n. n ≡ first_refusal (refusals_by scope true c.args.q.now s))) (sym c.in-View.is)
    (c.view_refusal.ensures.known scope h u (texts (ap keeps_a_text c.in-View.is)))
