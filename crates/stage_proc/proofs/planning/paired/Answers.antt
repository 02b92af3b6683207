use Rattle.std.proofs.Common.{◌≡◌, ℕ, Err, sym, subst}
use Rattle.calculus.specs.Replacement.{updated}
use Rattle.calculus.specs.Who.{Unrestricted}
use Rattle.stage_proc.specs.Stopping.{IsRefusing, StopsBy}
use Rattle.stage_proc.proofs.Outcomes.{RefusedBy, pair_caused, pair_refuses, pair_stops, refused_by, refuses_by, stopped_by}
use Rattle.stage_proc.proofs.planning.paired.Goals as goal

pub pairs_of-requires-clause-read : goal.pairs_of-requires-clause-read
pairs_of-requires-clause-read g c = λ db e. (c.requires db e).read

pub pairs_of-requires-clause-sources : goal.pairs_of-requires-clause-sources
pairs_of-requires-clause-sources g c = λ db e. (c.requires db e).fit

pub pairs_of-requires-clause-numbered : goal.pairs_of-requires-clause-numbered
pairs_of-requires-clause-numbered g c = λ db e. (c.requires db e).numbered

pub returns-in_err-pairs-clause-known : goal.returns-in_err-pairs-clause-known
returns-in_err-pairs-clause-known g c = λ db e.
    let refuses : ℕ → Type 0 = λ number. updated db Unrestricted c.args.u.now ≡ Err number in
    refused_by _ refuses c.from_residual.result c.from_residual.ensures
    (λ stop is. subst (RefusedBy refuses) (sym is) (pair_stops db c.args.u.now _ _ _ c.in_err-pairs.field-0.0 e c.in_err-pairs.ensures.cause.caused))

pub returns-in_err-pairs-clause-refusing : goal.returns-in_err-pairs-clause-refusing
returns-in_err-pairs-clause-refusing g c =
    refuses_by c.from_residual.result c.from_residual.ensures (λ stop is. subst IsRefusing (sym is) (pair_refuses c.in_err-pairs.field-0.0))

pub returns-in_err-pairs-clause-cause : goal.returns-in_err-pairs-clause-cause
returns-in_err-pairs-clause-cause g c =
    stopped_by (g.B.Base.database c.args.base.now) _ _ c.from_residual.result c.from_residual.ensures c.in_err-pairs.ensures.cause.later
    (λ stop is. subst (StopsBy (g.B.Base.database c.args.base.now) _ _) (sym is) (pair_caused c.args.u.now _ _ _ c.in_err-pairs.field-0.0 c.in_err-pairs.ensures.cause.caused))
