use Rattle.std.proofs.Common.{◌≡◌, ◌<◌, [], ◌∷◌, ◌++◌, None, IfSome, length, sum_by, subst, sym, ap, ◌∙◌, arith, length-take}
use Rattle.std.proofs.lemmas.List.{take_all, take_more}
use Rattle.std.proofs.lemmas.List.Sums.{sum_by_more}
use Rattle.page_cells.specs.Page.{Slot, lines, slots, row_length}
use Rattle.page_cells.proofs.Lists.{length_slots, slots_at}
use Rattle.page_cells.proofs.Surveys.{slot_filled, sum_bound}
use Rattle.page_cells.proofs.putting.pack.Goals as goal

pub add_slot-requires-clause-row : goal.add_slot-requires-clause-row
add_slot-requires-clause-row c =
    let lt : c.lines.line < lines c.args.page.now = omega arith in
    subst (λ (s : Slot). IfSome s (λ row. 0 < length row)) (sym (c.slot.ensures.row ∙ slots_at c.args.page.now c.lines.line lt)) (slot_filled c.args.page.now c.lines.line c.requires.page c.told-page lt)

pub add_slot-requires-clause-gap : goal.add_slot-requires-clause-gap
add_slot-requires-clause-gap c =
    let long = length_slots c.args.page.now in
    let within : c.lines.line < length (slots c.args.page.now) = omega (arith, long) in
    let so_far : lines c.lines.out ≡ c.lines.line = omega (arith, length_slots c.lines.out, ap length c.lines.invariant.copied, length-take c.lines.line (slots c.args.page.now)) in
    omega (arith, so_far, within, sum_bound (slots c.args.page.now) c.lines.line within, ap row_length c.slot.ensures.row)

pub lines-preserved : goal.lines-preserved
lines-preserved c =
    let within : c.lines.line < length (slots c.args.page.now) = omega (arith, length_slots c.args.page.now) in
    record {
      page = c.add_slot.ensures.page;
      copied = c.add_slot.ensures.slots ∙ (λ i. c.lines.invariant.copied i ++ c.slot.ensures.row i ∷ []) ∙ sym (take_more (slots c.args.page.now) c.lines.line None within);
      following = c.add_slot.ensures.next ∙ c.lines.invariant.following;
      used = omega (arith, c.add_slot.ensures.low, c.lines.invariant.used, sum_by_more row_length (slots c.args.page.now) c.lines.line None within, ap row_length c.slot.ensures.row);
    }

pub returns-clause-slots : goal.returns-clause-slots
returns-clause-slots c = c.lines.invariant.copied ∙ take_all c.lines.line (slots c.args.page.now) (omega (arith, length_slots c.args.page.now))

pub returns-clause-low : goal.returns-clause-low
returns-clause-low c =
    let all = take_all c.lines.line (slots c.args.page.now) (omega (arith, length_slots c.args.page.now)) in
    omega (arith, c.lines.invariant.used, ap (sum_by row_length) all)
