use Rattle.std.proofs.Common.{ℕ, ◌≡◌, ◌+◌, ◌==◌, Some, None, is_none, position, sum_by, ap, ◌∙◌, arith, if◌then◌else◌}
use Rattle.std.specs.Option.{option_or}
use Rattle.page_cells.specs.Page.{lines, slots, slots_before, row_length}
use Rattle.page_cells.proofs.Surveys.{survey_empty, survey_used, size_bound}
use Rattle.page_cells.proofs.survey.survey_of.Goals as goal

pub lines-preserved : goal.lines-preserved
lines-preserved c = record {
  empty =
      c.or-empty.ensures
      ∙ (λ i. option_or (c.lines.invariant.empty i) ((c.line_if_empty.ensures ∙ ap (λ n. if n == 0 then Some c.lines.line else None) c.size-size.ensures) i))
      ∙ survey_empty c.args.page.now c.lines.line;
  used = (λ i. c.lines.invariant.used i + c.size-size.ensures i) ∙ survey_used c.args.page.now c.lines.line c.requires c.told-page (omega arith);
  bound = omega (arith, size_bound c.args.page.now c.lines.line c.requires (omega arith));
}

pub returns-clause-empty : goal.returns-clause-empty
unfolding slots
returns-clause-empty c = c.lines.invariant.empty ∙ ap (λ (m : ℕ). position is_none (slots_before c.args.page.now m)) (let e : c.lines.line ≡ lines c.args.page.now = omega arith in e)

pub returns-clause-used : goal.returns-clause-used
unfolding slots
returns-clause-used c = c.lines.invariant.used ∙ ap (λ (m : ℕ). sum_by row_length (slots_before c.args.page.now m)) (let e : c.lines.line ≡ lines c.args.page.now = omega arith in e)
