use Rattle.scalar_eval.proofs.Unclosed.{no_class_left}
use Rattle.scalar_eval.proofs.class.class_before.Goals as goal

pub returns-then-behind-unclosed-clause-parts : goal.returns-then-behind-unclosed-clause-parts
returns-then-behind-unclosed-clause-parts c = no_class_left c.args.unclosed c.args.behind.now c.requires c.if-behind-unclosed.true
