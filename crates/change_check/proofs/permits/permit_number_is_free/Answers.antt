use Rattle.std.proofs.Common.{◌∙◌, ap, ℕ, List}
use Rattle.change_laws.specs.Fit.{number_is_free}
use Rattle.change_check.proofs.permits.permit_number_is_free.Goals as goal

pub returns-clause-known : goal.returns-clause-known
returns-clause-known g c = λ db e.
    c.number_is_free.ensures
    ∙ ap (λ (numbers : List ℕ). number_is_free 100 numbers c.args.number)
    (c.deref.ensures.value ∙ c.in_ok-numbers.ensures.known db e)
