use Rattle.std.proofs.Common.{◌≡◌, ◌-◌, ◌^◌, sym, subst, ◌∙◌, cond, min}
use Rattle.std.specs.Prelude.{IfOk}
use Rattle.calculus.specs.Sizes.{measure_within}
use Rattle.view_sizes.proofs.expanded.counted_at.Goals as goal

pub returns-then-counts-clause-known : goal.returns-then-counts-clause-known
returns-then-counts-clause-known g c = λ db h all.
    subst (λ b. IfOk c.variables_found.result (λ n. n ≡ cond b (min (measure_within 16 db c.args.key.now).variables (2 ^ 64 - 1)) 0)) (sym (sym c.counts.ensures ∙ c.if-counts.true))
    (c.variables_found.ensures.known db h all)
