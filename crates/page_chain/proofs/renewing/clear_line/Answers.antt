use Rattle.std.proofs.Common.{◌+◌, sym, ap, ◌∙◌, length, map, Some, if◌then◌else◌, refl, subst, ◌≡◌, None, get_or}
use Rattle.page_cells.specs.Page.{slots}
use Rattle.page_chain.specs.Going.{unless_going}
use Rattle.page_chain.specs.Lying.{lying_on}
use Rattle.page_chain.proofs.Clearing.{cleared_alike, one_less, cleared_left, goes_not, none_less}
use Rattle.page_chain.proofs.renewing.clear_line.Goals as goal

pub returns-then-goes-clause-stay : goal.returns-then-goes-clause-stay
returns-then-goes-clause-stay c =
    ap (map (unless_going c.args.going.now)) c.clear_row.ensures.slots
    ∙ cleared_alike c.args.going.now (slots c.args.page.now) c.args.line (sym c.is_going-goes.ensures ∙ c.if-goes.true)

pub returns-then-goes-clause-gone : goal.returns-then-goes-clause-gone
returns-then-goes-clause-gone c n =
    ap (λ b. (if b then 1 else 0) + length (lying_on n (Some c.clear_row.new.p))) c.if-goes.true
    ∙ one_less c.args.going.now n c.args.page.now c.clear_row.new.p c.args.line c.clear_row.ensures.slots (sym c.is_going-goes.ensures ∙ c.if-goes.true)

pub returns-then-goes-clause-here : goal.returns-then-goes-clause-here
returns-then-goes-clause-here c =
    subst (λ s. unless_going c.args.going.now (get_or s c.args.line None) ≡ get_or s c.args.line None) (sym c.clear_row.ensures.slots) (cleared_left c.args.going.now (slots c.args.page.now) c.args.line)

pub returns-then-goes-clause-next : goal.returns-then-goes-clause-next
returns-then-goes-clause-next c = c.clear_row.ensures.next

pub returns-then-goes-clause-page : goal.returns-then-goes-clause-page
returns-then-goes-clause-page c = c.clear_row.ensures.page

pub returns-else-goes-clause-stay : goal.returns-else-goes-clause-stay
returns-else-goes-clause-stay c = refl

pub returns-else-goes-clause-here : goal.returns-else-goes-clause-here
returns-else-goes-clause-here c = goes_not c.args.going.now (get_or (slots c.args.page.now) c.args.line None) (sym c.is_going-goes.ensures ∙ c.if-goes.false)

pub returns-else-goes-clause-others : goal.returns-else-goes-clause-others
returns-else-goes-clause-others c = λ k other. refl

pub returns-else-goes-clause-gone : goal.returns-else-goes-clause-gone
returns-else-goes-clause-gone c = λ n. none_less c.is_going-goes.result (length (lying_on n (Some c.args.page.now))) c.if-goes.false
