use Rattle.std.proofs.Common.{◌≤◌, ◌++◌, sym, ap, ◌∙◌, length, take, append_assoc, arith}
use Rattle.std.specs.Option.{option_copied}
use Rattle.std.proofs.lemmas.List.{take_all}
use Rattle.page_cells.specs.Page.{slots}
use Rattle.page_cells.proofs.Lists.{length_slots}
use Rattle.page_chain.specs.Lying.{bytes_of, lying_in}
use Rattle.page_chain.specs.Found.{in_slot}
use Rattle.page_chain.proofs.Walking.{line_more}
use Rattle.page_chain.proofs.chains.copy_rows.Goals as goal

pub lines-preserved : goal.lines-preserved
lines-preserved c =
    c.in_ok-copy_slot.ensures ∙ ap (λ l. l ++ in_slot (option_copied c.slot.result)) c.lines.invariant
    ∙ append_assoc c.args.rows.now.items (bytes_of (lying_in 0 0 (take c.lines.line (slots c.args.page.now)))) (in_slot (option_copied c.slot.result))
    ∙ ap (λ l. c.args.rows.now.items ++ l) (sym (line_more (slots c.args.page.now) c.lines.line (option_copied c.slot.result) c.slot.ensures.row))

pub returns : goal.returns
returns c =
    let few : length (slots c.args.page.now) ≤ c.lines.line = omega (arith, length_slots c.args.page.now) in
    c.lines.invariant ∙ ap (λ s. c.args.rows.now.items ++ bytes_of (lying_in 0 0 s)) (take_all c.lines.line (slots c.args.page.now) few)
