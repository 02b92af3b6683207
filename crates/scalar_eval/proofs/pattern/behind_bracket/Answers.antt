use Rattle.std.proofs.Common.{sym, ◌∙◌}
use Rattle.scalar_eval.proofs.Items.{class_refuses}
use Rattle.scalar_eval.proofs.Unclosed.{class_none_closes}
use Rattle.scalar_eval.proofs.pattern.behind_bracket.Goals as goal

pub returns-else-in_class-clause-first : goal.returns-else-in_class-clause-first
returns-else-in_class-clause-first c =
    class_refuses c.args.behind.now _ _ c.args.byte c.in-Some.ensures.parts (sym c.in_class.ensures ∙ c.if-in_class.false)

pub returns-then-in_class-clause-none_closes : goal.returns-then-in_class-clause-none_closes
returns-then-in_class-clause-none_closes c =
    class_none_closes c.args.unclosed c.args.behind.now _ _ c.in-Some.ensures.parts c.requires
