use Rattle.std.proofs.Common.{sym, ◌∙◌}
use Rattle.calculus.proofs.Texts.{trimmed_front, trimmed_whole}
use Rattle.catalog_rows.proofs.places.trimmed.Goals as goal

pub blanks-preserved : goal.blanks-preserved
blanks-preserved c = sym (trimmed_front _ _ _ c.in-Some.ensures.cases.0 c.if-last-ne32.false) ∙ c.blanks.invariant

pub returns-then-last-ne32 : goal.returns-then-last-ne32
returns-then-last-ne32 c = trimmed_whole _ _ _ c.in-Some.ensures.cases.0 c.if-last-ne32.true ∙ c.blanks.invariant
