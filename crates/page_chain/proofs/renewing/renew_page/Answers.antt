use Rattle.std.proofs.Common.{take, sym, [], ◌≡◌, ◌+◌, subst, Some, length}
use Rattle.page_chain.proofs.Clearing.{came_on}
use Rattle.page_chain.proofs.Coming.{came_none}
use Rattle.page_chain.specs.Lying.{Came, lying_on, staying}
use Rattle.page_chain.proofs.renewing.renew_page.Goals as goal

pub returns-clause-came : goal.returns-clause-came
returns-clause-came c n =
    came_on n c.args.going.now (take c.fill-put.result c.args.coming.now) c.args.page.now c.clear_lines-gone.new.page c.fill-put.new.page
    (c.clear_lines-gone.ensures.stay n) c.fill-put.ensures.filled

pub returns-clause-gone : goal.returns-clause-gone
returns-clause-gone c = λ n. subst (λ l. c.clear_lines-gone.result + length l ≡ length (lying_on n (Some c.args.page.now))) (c.clear_lines-gone.ensures.stay n) (c.clear_lines-gone.ensures.gone n)

pub returns-clause-most : goal.returns-clause-most
returns-clause-most c = c.clear_lines-gone.ensures.most

pub returns-clause-put : goal.returns-clause-put
returns-clause-put c = c.fill-put.ensures.count

pub returns-clause-page : goal.returns-clause-page
returns-clause-page c = c.fill-put.ensures.page

pub returns-then-gone-eq0-clause-gone : goal.returns-then-gone-eq0-clause-gone
returns-then-gone-eq0-clause-gone c = λ n. subst (λ l. c.clear_lines-gone.result + length l ≡ length (lying_on n (Some c.args.page.now))) (c.clear_lines-gone.ensures.stay n) (c.clear_lines-gone.ensures.gone n)

pub returns-then-gone-eq0-clause-none : goal.returns-then-gone-eq0-clause-none
returns-then-gone-eq0-clause-none c = c.clear_lines-gone.ensures.none

pub returns-then-gone-eq0-clause-came : goal.returns-then-gone-eq0-clause-came
returns-then-gone-eq0-clause-came c = λ n.
    subst (λ l. Came (staying c.args.going.now (lying_on n (Some c.args.page.now))) [] l) (sym (c.clear_lines-gone.ensures.stay n)) (came_none (staying c.args.going.now (lying_on n (Some c.args.page.now))))
