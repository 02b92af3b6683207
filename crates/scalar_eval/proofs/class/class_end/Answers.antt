use Rattle.std.proofs.Common.{sym, ap, ◌∙◌, drop}
use Rattle.scalar_eval.proofs.Marks.{class_parts, one_dropped}
use Rattle.scalar_eval.proofs.class.class_end.Goals as goal

pub returns-in-Some-clause-parts : goal.returns-in-Some-clause-parts
returns-in-Some-clause-parts c =
    class_parts _ _ _ c.in-Some.at (sym c.close_of.ensures ∙ c.in-Some.is) c.split_at.ensures.front
    (c.split_at-in-Some.ensures.back ∙ ap (drop 1) c.split_at.ensures.back ∙ one_dropped c.in-Some.at c.args.behind.now)
