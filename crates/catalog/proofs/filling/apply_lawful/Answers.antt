use Rattle.std.proofs.Common.{ap, subst, sym, true, ◌∙◌, ◌≡◌, ◌↔◌}
use Rattle.calculus.specs.Change.{IsLawful, laid}
use Rattle.plain_base.specs.Shown.{database_of}
use Rattle.catalog.proofs.Outcomes.{on_err}
use Rattle.catalog.proofs.filling.apply_lawful.Goals as goal

pub returns-in_err-is_lawful-clause-err : goal.returns-in_err-is_lawful-clause-err
returns-in_err-is_lawful-clause-err c = on_err c.from_residual.result c.is_lawful.ensures.same

pub returns-then-not-branch-clause-lawful : goal.returns-then-not-branch-clause-lawful
returns-then-not-branch-clause-lawful c =
    subst (λ fit. (fit ≡ true) ↔ IsLawful (database_of c.args.plain.now) c.args.change.now) c.if-not-branch.true c.in_ok-is_lawful.ensures.lawful

pub returns-then-not-branch-clause-laid : goal.returns-then-not-branch-clause-laid
returns-then-not-branch-clause-laid c = c.is_lawful.ensures.same

pub apply_change-requires : goal.apply_change-requires
apply_change-requires c = subst (λ db. IsLawful db c.args.change.now) (sym c.is_lawful.ensures.same) (c.in_ok-is_lawful.ensures.lawful.0 c.if-not-branch.false)

pub returns-in_err-apply_change-clause-err : goal.returns-in_err-apply_change-clause-err
returns-in_err-apply_change-clause-err c = on_err c.from_residual-in_err-apply_change.result (c.in_err-apply_change.ensures.err ∙ c.is_lawful.ensures.same)

pub returns-clause-lawful : goal.returns-clause-lawful
returns-clause-lawful c =
    subst (λ fit. (fit ≡ true) ↔ IsLawful (database_of c.args.plain.now) c.args.change.now) c.if-not-branch.false c.in_ok-is_lawful.ensures.lawful

pub returns-clause-laid : goal.returns-clause-laid
returns-clause-laid c = c.in_ok-apply_change.ensures.ok ∙ ap (λ db. laid db c.args.change.now) c.is_lawful.ensures.same
