use Rattle.std.proofs.Common.{◌≡◌, ◌∙◌, take, arith}
use Rattle.page_chain.proofs.Stepping.{page_renewed}
use Rattle.heap_am.proofs.DoneNear.{done_put, done_not}
use Rattle.page_chain.specs.Chains.{OffPage}
use Rattle.heap_am.proofs.Rooms.{cause_same, cause_put}
use Rattle.heap_am.proofs.heap.Heap.renew_on.Goals as goal

pub returns-in_ok-put-clause-done : goal.returns-in_ok-put-clause-done
returns-in_ok-put-clause-done g c m is =
    done_put c.args.self.now.file.file c.args.self.now.file.used c.args.number c.args.going.now (take c.renew_page-done.result.put c.args.coming.now) c.renew_page-done.result.gone c.in_ok-chain_page.field-0
    m (g.S.PageStore.pages c.put.new.self)
    (page_renewed c.args.self.now.file.file c.args.self.now.file.used c.args.number c.args.going.now (take c.renew_page-done.result.put c.args.coming.now) c.renew_page-done.result.gone c.in_ok-chain_page.field-0
    c.chain_page.new.out c.renew_page-done.new.page m (g.S.PageStore.pages c.put.new.self) (c.in_ok-chain_page.ensures.there m is)
    (c.in_ok-put.ensures.page m (c.chain_page.ensures.same ∙ is)) c.in_ok-chain_page.ensures.follows c.renew_page-done.ensures.page c.renew_page-done.ensures.next c.renew_page-done.ensures.came c.renew_page-done.ensures.gone)

pub returns-else-done-gt0-clause-done : goal.returns-else-done-gt0-clause-done
returns-else-done-gt0-clause-done g c m is =
    let none : c.renew_page-done.result.gone ≡ 0 = omega (arith, c.if-done-gt0.false) in
    done_not c.args.self.now.file.file c.args.self.now.file.used c.args.number c.args.going.now (take c.renew_page-done.result.put c.args.coming.now) c.chain_page.new.out c.renew_page-done.new.page
    m (g.S.PageStore.pages c.chain_page.new.store) (c.chain_page.ensures.same ∙ is) (c.in_ok-chain_page.ensures.there m is) (c.renew_page-done.ensures.none none) c.renew_page-done.ensures.came

pub returns-in_ok-put-clause-came : goal.returns-in_ok-put-clause-came
returns-in_ok-put-clause-came g c = λ s came. c.put.ensures.came s (c.chain_page.ensures.came s came)

pub returns-in_err-put-clause-came : goal.returns-in_err-put-clause-came
returns-in_err-put-clause-came g c = λ s came. c.put.ensures.came s (c.chain_page.ensures.came s came)

pub returns-in_ok-put-clause-cause : goal.returns-in_ok-put-clause-cause
returns-in_ok-put-clause-cause g c = let first = c.chain_page.ensures.cause.later in let second = c.put.ensures.cause.later in record { later = omega (arith, first, second); caused = c.in_ok-put.ensures.cause.caused ∙ c.in_ok-chain_page.ensures.cause.caused }

pub returns-else-done-gt0-clause-cause : goal.returns-else-done-gt0-clause-cause
returns-else-done-gt0-clause-cause g c = record { later = c.chain_page.ensures.cause.later; caused = c.in_ok-chain_page.ensures.cause.caused }

pub returns-in_err-chain_page-clause-cause : goal.returns-in_err-chain_page-clause-cause
returns-in_err-chain_page-clause-cause g c =
    cause_same (g.S.PageStore.pages c.args.store.now) (OffPage c.args.self.now.file.file c.args.number c.args.self.now.file.used) (g.S.PageStore.faults c.args.store.now) (g.S.PageStore.faults c.chain_page.new.store)
    c.from_residual.result c.in_err-chain_page.field-0.0 c.in_err-chain_page.ensures.cause c.from_residual.ensures.1

pub returns-in_ok-put-clause-put : goal.returns-in_ok-put-clause-put
returns-in_ok-put-clause-put g c = c.renew_page-done.ensures.put

pub returns-else-done-gt0-clause-put : goal.returns-else-done-gt0-clause-put
returns-else-done-gt0-clause-put g c = c.renew_page-done.ensures.put

pub returns-else-done-gt0-clause-came : goal.returns-else-done-gt0-clause-came
returns-else-done-gt0-clause-came g c = c.chain_page.ensures.came

pub returns-in_err-chain_page-clause-came : goal.returns-in_err-chain_page-clause-came
returns-in_err-chain_page-clause-came g c = c.chain_page.ensures.came

pub returns-in_err-put-clause-cause : goal.returns-in_err-put-clause-cause
returns-in_err-put-clause-cause g c =
    cause_put (g.S.PageStore.pages c.args.store.now) (OffPage c.args.self.now.file.file c.args.number c.args.self.now.file.used) (g.S.PageStore.faults c.args.store.now) (g.S.PageStore.faults c.chain_page.new.store) (g.S.PageStore.faults c.put.new.self)
    c.from_residual-in_err-put.result c.in_err-put.field-0.0 c.in_ok-chain_page.ensures.cause.caused c.in_err-put.ensures.cause c.from_residual-in_err-put.ensures.1
