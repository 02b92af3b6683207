use Rattle.std.proofs.Common.{sym, ◌∙◌}
use Rattle.std.proofs.lemmas.Result.{on_ok_weaker}
use Rattle.plain_base.specs.Shown.{database_of}
use Rattle.catalog_read.proofs.Starts.{stepped_laid, stepped_left}
use Rattle.catalog_read.proofs.applying.apply_or_leave.Goals as goal

pub returns-in-Ok-true : goal.returns-in-Ok-true
returns-in-Ok-true c =
    stepped_laid (database_of c.args.plain.now) (database_of c.fit_or_apply.new.plain) c.args.left.now.items c.args.change
    (sym c.in-Ok-true.field-0-test ∙ c.in-Ok-true.ensures.known) (c.in-Ok-true.ensures.laid c.in-Ok-true.field-0-test)

pub returns-in-Ok-false : goal.returns-in-Ok-false
returns-in-Ok-false c =
    on_ok_weaker c.push_one.result
    (stepped_left (database_of c.args.plain.now) (database_of c.fit_or_apply.new.plain) c.args.left.now.items c.push_one.new.items.items c.args.change
    (sym c.in-Ok-false.field-0-test ∙ c.in-Ok-false.ensures.known) (c.in-Ok-false.ensures.kept c.in-Ok-false.field-0-test)) c.push_one.ensures
