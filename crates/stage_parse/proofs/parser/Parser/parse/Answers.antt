use Rattle.std.proofs.Common.{ℕ, subst, sym}
use Rattle.stage_parse.specs.Parsing.{IsBad}
use Rattle.stage_parse.proofs.Steps.{bad_next, none_next, some_next}
use Rattle.stage_parse.proofs.parser.Parser.parse.Goals as goal

pub end-requires-clause-over : goal.end-requires-clause-over
end-requires-clause-over g c = none_next c.args.self.now.walk.text _ c.in-Ok-None.field-0 c.in-Ok-None.ensures c.in-Ok-None.field-0-is

pub settle-requires-clause-read : goal.settle-requires-clause-read
settle-requires-clause-read g c = some_next c.args.self.now.walk.text _ c.in-Ok-Some.field-0 c.in-Ok-Some.s c.in-Ok-Some.end c.in-Ok-Some.ensures c.in-Ok-Some.field-0-is

pub refuse-requires-clause-bad : goal.refuse-requires-clause-bad
refuse-requires-clause-bad g c =
    subst (λ (n : ℕ). IsBad c.args.self.now.walk n) (sym c.in-Err-Syntax.line-is) (bad_next c.args.self.now.walk c.in-Err-Syntax.field-0 c.in-Err-Syntax.line _ c.in-Err-Syntax.field-0-is c.in-Err-Syntax.ensures)
