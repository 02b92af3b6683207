use Rattle.std.proofs.Common.{refl, subst, true, IfOk, ◌≡◌, ◌↔◌, if◌then◌else◌}
use Rattle.calculus.specs.Change.{IsLawful, laid}
use Rattle.plain_base.specs.Shown.{database_of}
use Rattle.catalog.proofs.Outcomes.{on_err}
use Rattle.catalog.proofs.filling.put_rows.Goals as goal

pub returns-in_err-change-clause-err : goal.returns-in_err-change-clause-err
returns-in_err-change-clause-err c = on_err c.from_residual.result refl

pub returns-clause-lawful : goal.returns-clause-lawful
returns-clause-lawful c =
    subst (λ change. IfOk c.apply_lawful.result (λ fit. (fit ≡ true) ↔ IsLawful (database_of c.args.plain.now) change)) c.in_ok-change.ensures c.apply_lawful.ensures.lawful

pub returns-clause-laid : goal.returns-clause-laid
returns-clause-laid c =
    subst
    (λ change. IfOk c.apply_lawful.result (λ fit. database_of c.apply_lawful.new.plain ≡ (if fit then laid (database_of c.args.plain.now) change else database_of c.args.plain.now)))
    c.in_ok-change.ensures c.apply_lawful.ensures.laid

pub returns-clause-err : goal.returns-clause-err
returns-clause-err c = c.apply_lawful.ensures.err
