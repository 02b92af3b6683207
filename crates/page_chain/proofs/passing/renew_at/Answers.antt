use Rattle.std.proofs.Common.{◌∙◌, Some, take, arith, ◌≡◌}
use Rattle.page_chain.proofs.Linking.{follows_up}
use Rattle.page_chain.proofs.Stepping.{page_renewed, page_kept}
use Rattle.page_chain.specs.Passing.{OffChain}
use Rattle.page_chain.proofs.Carried.{cause_carried}
use Rattle.page_chain.proofs.Handed.{store_carried}
use Rattle.page_chain.proofs.passing.renew_at.Goals as goal

pub returns-in_ok-put-clause-renewed : goal.returns-in_ok-put-clause-renewed
returns-in_ok-put-clause-renewed g c m is =
    page_renewed c.args.chain.file c.args.chain.bound c.args.number c.args.going.now (take c.renew_page-done.result.put c.args.coming.now) c.renew_page-done.result.gone c.in_ok-next.next
    c.page_on.new.out c.renew_page-done.new.page m (g.S.PageStore.pages c.put.new.self) (c.in_ok-next.ensures.there m is)
    (c.in_ok-put.ensures.page m (c.page_on.ensures.same ∙ is)) c.in_ok-next.ensures.follows c.renew_page-done.ensures.page c.renew_page-done.ensures.next c.renew_page-done.ensures.came c.renew_page-done.ensures.gone

pub returns-in_ok-put-clause-next : goal.returns-in_ok-put-clause-next
returns-in_ok-put-clause-next g c some = follows_up c.args.chain.bound c.args.number c.in_ok-next.next (Some c.page_on.new.out) some c.in_ok-next.ensures.follows

pub returns-else-done-gt0-clause-next : goal.returns-else-done-gt0-clause-next
returns-else-done-gt0-clause-next g c some = follows_up c.args.chain.bound c.args.number c.in_ok-next.next (Some c.page_on.new.out) some c.in_ok-next.ensures.follows

pub returns-in_ok-put-clause-came : goal.returns-in_ok-put-clause-came
returns-in_ok-put-clause-came g c = λ s came. c.put.ensures.came s (c.page_on.ensures.came s came)

pub returns-in_err-put-clause-came : goal.returns-in_err-put-clause-came
returns-in_err-put-clause-came g c = λ s came. c.put.ensures.came s (c.page_on.ensures.came s came)

pub returns-in_err-next-clause-came : goal.returns-in_err-next-clause-came
returns-in_err-next-clause-came g c = c.page_on.ensures.came

pub returns-else-done-gt0-clause-renewed : goal.returns-else-done-gt0-clause-renewed
returns-else-done-gt0-clause-renewed g c = λ m is.
    let none : c.renew_page-done.result.gone ≡ 0 = omega (arith, c.if-done-gt0.false) in
    page_kept c.args.chain.file c.args.chain.bound c.args.number c.args.going.now (take c.renew_page-done.result.put c.args.coming.now) c.renew_page-done.result.gone c.in_ok-next.next
    c.page_on.new.out c.renew_page-done.new.page m (g.S.PageStore.pages c.page_on.new.store) (c.in_ok-next.ensures.there m is)
    (c.page_on.ensures.same ∙ is) c.in_ok-next.ensures.follows (c.renew_page-done.ensures.none none) c.renew_page-done.ensures.came c.renew_page-done.ensures.gone

pub returns-else-done-gt0-clause-came : goal.returns-else-done-gt0-clause-came
returns-else-done-gt0-clause-came g c = c.page_on.ensures.came

pub returns-else-done-gt0-clause-cause : goal.returns-else-done-gt0-clause-cause
returns-else-done-gt0-clause-cause g c = record { later = c.page_on.ensures.cause.later; caused = c.in_ok-next.ensures.cause.caused }

pub returns-in_ok-put-clause-cause : goal.returns-in_ok-put-clause-cause
returns-in_ok-put-clause-cause g c = record { later = omega (arith, c.page_on.ensures.cause.later, c.put.ensures.cause.later); caused = c.in_ok-put.ensures.cause.caused ∙ c.in_ok-next.ensures.cause.caused }

pub returns-in_err-put-clause-cause : goal.returns-in_err-put-clause-cause
returns-in_err-put-clause-cause g c =
    store_carried (g.S.PageStore.pages c.args.store.now) (OffChain c.args.chain.file c.args.number c.args.chain.bound c.args.chain.last) (g.S.PageStore.faults c.args.store.now) (g.S.PageStore.faults c.page_on.new.store) (g.S.PageStore.faults c.put.new.self) c.in_err-put.field-0.0 c.in_ok-next.ensures.cause.caused c.in_err-put.ensures.cause c.from_residual-in_err-put.result c.from_residual-in_err-put.ensures.1

pub returns-in_err-next-clause-cause : goal.returns-in_err-next-clause-cause
returns-in_err-next-clause-cause g c =
    cause_carried (g.S.PageStore.pages c.args.store.now) (g.S.PageStore.pages c.args.store.now) (OffChain c.args.chain.file c.args.number c.args.chain.bound c.args.chain.last) (OffChain c.args.chain.file c.args.number c.args.chain.bound c.args.chain.last) (g.S.PageStore.faults c.args.store.now) (g.S.PageStore.faults c.args.store.now) (g.S.PageStore.faults c.page_on.new.store) c.in_err-next.field-0.0 (omega arith) (λ a fault. fault)
    c.in_err-next.ensures.cause c.from_residual.result c.from_residual.ensures.1
