use Rattle.std.proofs.Common.{◌+◌, ◌-◌, ◌*◌, None, is_none, arith, sym, ◌∙◌}
use Rattle.std.proofs.lemmas.List.Quantifiers.{position-Some}
use Rattle.page_cells.specs.Page.{slots}
use Rattle.page_cells.proofs.Lists.{length_slots}
use Rattle.page_cells.proofs.Placing.{none_is}
use Rattle.page_cells.proofs.putting.put_row.Goals as goal

pub put_into-requires-clause-line : goal.put_into-requires-clause-line
put_into-requires-clause-line c =
    let first = position-Some is_none (slots c.args.p.now) c.in-Some.line None (sym c.survey_of-survey.ensures.empty ∙ c.in-Some.is) in
    omega (arith, first.0, length_slots c.args.p.now)

pub put_into-requires-clause-empty : goal.put_into-requires-clause-empty
put_into-requires-clause-empty c =
    let first = position-Some is_none (slots c.args.p.now) c.in-Some.line None (sym c.survey_of-survey.ensures.empty ∙ c.in-Some.is) in
    none_is _ first.1

pub put_into-requires-clause-free : goal.put_into-requires-clause-free
put_into-requires-clause-free c =
    c.saturating_sub-free.ensures ∙ (λ i. 1016 - (4 * ((c.lines.ensures ∙ sym (length_slots c.args.p.now)) i) + c.survey_of-survey.ensures.used i))

pub put_behind-requires-clause-free : goal.put_behind-requires-clause-free
put_behind-requires-clause-free c =
    c.saturating_sub-free.ensures ∙ (λ i. 1016 - (4 * ((c.lines.ensures ∙ sym (length_slots c.args.p.now)) i) + c.survey_of-survey.ensures.used i))
