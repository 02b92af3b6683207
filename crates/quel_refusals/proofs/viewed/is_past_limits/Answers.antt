use Rattle.std.proofs.Common.{◌≡◌, ◌||◌, ◌∙◌, ap, subst, sym, Bool}
use Rattle.std.specs.Prelude.{IfOk}
use Rattle.quel_meaning.specs.Passing.{has_too_many, is_full, is_too_large}
use Rattle.quel_refusals.proofs.Sourced.{few_of_none}
use Rattle.quel_refusals.proofs.Stored.{few_listed, three}
use Rattle.quel_refusals.proofs.viewed.is_past_limits.Goals as goal

pub returns-then-full-clause-known : goal.returns-then-full-clause-known
returns-then-full-clause-known g c = λ db h none.
    ap (λ d. d || is_too_large db c.args.q.now) (sym c.if-full.true)
    ∙ three (has_too_many db c.args.q.now) (is_full db) (is_too_large db c.args.q.now) c.in_ok-full.full (sym (c.in_ok-full.ensures.known db h (few_of_none c.args.q.now none)))

pub returns-clause-known : goal.returns-clause-known
returns-clause-known g c = λ db h none.
    let known = c.in_ok-full.ensures.known db h (few_of_none c.args.q.now none) in
    subst (λ (b : Bool). IfOk c.is_too_large.result (λ past. past ≡ b))
    (ap (λ d. d || is_too_large db c.args.q.now) (sym c.if-full.false) ∙ three (has_too_many db c.args.q.now) (is_full db) (is_too_large db c.args.q.now) c.in_ok-full.full (sym known))
    (c.is_too_large.ensures.known db (c.in_ok-full.ensures.stays _ h) none (few_listed db c.args.q.now (sym known ∙ c.if-full.false)))
