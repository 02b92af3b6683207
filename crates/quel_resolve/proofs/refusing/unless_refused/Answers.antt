use Rattle.std.proofs.Common.{sym, ◌∙◌}
use Rattle.quel_resolve.proofs.refusing.unless_refused.Goals as goal

pub returns-in-Some-clause-known : goal.returns-in-Some-clause-known
returns-in-Some-clause-known g c = λ scope h u q e o w a.
    sym (c.in_ok-number.ensures.known scope h u q e o a w) ∙ c.in-Some.is

pub returns-in-None-clause-known : goal.returns-in-None-clause-known
returns-in-None-clause-known g c = λ scope h u q e o w a.
    sym (c.in_ok-number.ensures.known scope h u q e o a w) ∙ c.in-None.is
