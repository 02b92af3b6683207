use Rattle.std.proofs.Common.{◌∙◌, sym, ap, ◌&&◌, nat_le, length}
use Rattle.catalog_rows.proofs.Cuts.{rows_cut, no_rows_cut}
use Rattle.catalog_rows.proofs.trees.are_cut.Goals as goal

pub returns-then-are_full : goal.returns-then-are_full
returns-then-are_full c =
    let last = c.in-Some.last.now in
    c.is_last.ensures
    ∙ sym (rows_cut c.args.parts.now c.in-Some.front.now last c.in-Some.ensures.cases.0 ∙ ap (λ b. b && (nat_le 1 (length last.bytes) && nat_le (length last.bytes) 900)) (sym c.are_full.ensures ∙ c.if-are_full.true))

pub returns-else-are_full : goal.returns-else-are_full
returns-else-are_full c =
    let last = c.in-Some.last.now in
    c.if-are_full.false
    ∙ sym (rows_cut c.args.parts.now c.in-Some.front.now last c.in-Some.ensures.cases.0 ∙ ap (λ b. b && (nat_le 1 (length last.bytes) && nat_le (length last.bytes) 900)) (sym c.are_full.ensures ∙ c.if-are_full.false))

pub returns-in-None : goal.returns-in-None
returns-in-None c = sym (no_rows_cut c.args.parts.now c.in-None.ensures.cases)
