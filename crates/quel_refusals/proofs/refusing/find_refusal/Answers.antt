use Rattle.std.proofs.Common.{◌≡◌, ◌∙◌, sym, ap, subst, option_map, IfOk}
use Rattle.calculus.specs.Replacement.{first_refusal}
use Rattle.quel_refusals.proofs.Sourced.{few_in_query}
use Rattle.quel_refusals.proofs.Standing.{refusals_are, none_in_text}
use Rattle.quel_refusals.proofs.refusing.find_refusal.Goals as goal

pub returns-in-Some-clause-known : goal.returns-in-Some-clause-known
returns-in-Some-clause-known g c = λ scope h u e f o a j.
    subst (λ cs. IfOk c.changed_refusal.result (λ n. n ≡ first_refusal cs)) (refusals_are scope c.args.s.now c.args.q.now e a)
    (c.changed_refusal.ensures.known scope c.args.q.now h (few_in_query scope c.args.s.now c.args.q.now e) (sym (ap (option_map (λ v. v.now)) c.in-Some.is) ∙ f))

pub returns-in-None-clause-known : goal.returns-in-None-clause-known
returns-in-None-clause-known g c = λ scope h u e f o a j.
    subst (λ cs. IfOk c.unchanged_refusal.result (λ n. n ≡ first_refusal cs)) (refusals_are scope c.args.s.now c.args.q.now e a)
    (c.unchanged_refusal.ensures.known scope h u (few_in_query scope c.args.s.now c.args.q.now e) (none_in_text scope c.args.s.now c.args.q.now e a) (sym (ap (option_map (λ v. v.now)) c.in-None.is) ∙ f) o j)
