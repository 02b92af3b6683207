use Rattle.std.proofs.Common.{◌≡◌, ap, ◌∙◌, true, ◌&&◌, ℕ, List}
use Rattle.std.specs.Prelude.{nat_eq}
use Rattle.std.specs.List.{list_all}
use Rattle.calculus.specs.Database.{is_relation}
use Rattle.calculus.specs.Lists.{differ_by, has_number}
use Rattle.change_laws.specs.Fit.{rules_may_go, numbers_may_go}
use Rattle.change_check.proofs.Parts.{goes_on}
use Rattle.change_check.proofs.numbers.rules_may_go.Goals as goal

pub returns-clause-known : goal.returns-clause-known
unfolding rules_may_go numbers_may_go
returns-clause-known g c = λ db e.
    let there : is_relation db c.args.rel.now ≡ true = cc (c.in_ok-is_relation.ensures.known db e, c.if-not-branch.false) in
    goes_on (is_relation db c.args.rel.now) _ _ there
    (c.are_listed_once.ensures
    ∙ ap (λ (standing : List ℕ). list_all (has_number standing) c.args.numbers.now && differ_by nat_eq c.args.numbers.now)
    (c.deref.ensures.value ∙ c.in_ok-standing.ensures.known db (c.is_relation.ensures.stays db e)))
