use Rattle.std.proofs.Common.{sym, ap, true≢false, ◌∙◌}
use Rattle.calculus.specs.Change.{laid}
use Rattle.change_laws.specs.Fit.{change_is_fit}
use Rattle.plain_base.specs.Shown.{database_of}
use Rattle.catalog_read.proofs.Starts.{lawful_where_fit}
use Rattle.catalog_read.proofs.applying.fit_or_apply.Goals as goal

pub apply_change-requires : goal.apply_change-requires
apply_change-requires c =
    lawful_where_fit (database_of c.is_fit.new.plain) c.args.change.now c.in-Ok-true.field-0 c.is_fit.new.plain.is
    (c.in-Ok-true.ensures.known ∙ ap (λ db. change_is_fit db c.args.change.now) (sym c.in-Ok-true.ensures.same)) c.in-Ok-true.field-0-test

pub returns-in-Ok : goal.returns-in-Ok
returns-in-Ok c = record {
  known = sym c.in-Ok-true.field-0-test ∙ c.in-Ok-true.ensures.known;
  laid = λ e. c.in-Ok.ensures.ok ∙ ap (λ db. laid db c.args.change.now) c.in-Ok-true.ensures.same;
  kept = λ e. absurd (true≢false e);
}

pub returns-in-Ok-false : goal.returns-in-Ok-false
returns-in-Ok-false c = record {
  known = sym c.in-Ok-false.field-0-test ∙ c.in-Ok-false.ensures.known;
  laid = λ e. absurd (true≢false (sym e));
  kept = λ e. c.in-Ok-false.ensures.same;
}
