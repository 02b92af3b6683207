use Rattle.std.proofs.Common.{◌+◌, ◌++◌, ◌∷◌, [], subst, take, arith, ◌∙◌}
use Rattle.page_chain.specs.Chains.{OffPage, NoChainTo}
use Rattle.page_chain.specs.Grown.{IsGrown}
use Rattle.page_chain.proofs.Carried.{cause_carried}
use Rattle.page_chain.proofs.Replaced.{others_twice, off_behind, renewed}
use Rattle.page_chain.proofs.replacing.replace.Goals as goal

pub returns-in_err-last-clause-cause : goal.returns-in_err-last-clause-cause
returns-in_err-last-clause-cause g c =
    cause_carried (g.S.PageStore.pages c.args.store.now) (g.S.PageStore.pages c.pass_over.new.store)
    (OffPage c.args.chain.file c.args.chain.last (c.args.chain.last + 1)) (NoChainTo c.args.chain.file c.args.chain.bound c.args.chain.last)
    (g.S.PageStore.faults c.args.store.now) (g.S.PageStore.faults c.pass_over.new.store) (g.S.PageStore.faults c.put_rest.new.store) c.in_err-last.field-0.0 c.in_ok-done.ensures.cause.caused
    (off_behind c.args.chain.file c.args.chain.bound c.args.chain.last (c.args.chain.last + 1) c.args.going.now (take c.in_ok-done.done.put c.args.coming.now) c.in_ok-done.done.gone
    (g.S.PageStore.pages c.args.store.now) (g.S.PageStore.pages c.pass_over.new.store) (λ m is. c.in_ok-done.ensures.passed m is))
    c.in_err-last.ensures.cause c.from_residual-in_err-last.result c.from_residual-in_err-last.ensures.1

pub returns-in-Ok-clause-renewed : goal.returns-in-Ok-clause-renewed
returns-in-Ok-clause-renewed g c m is earlier first chain lie =
    let its = c.in_ok-done.ensures.passed m is in
    let all = renewed c.args.chain.file c.args.chain.bound earlier c.args.chain.last c.in_ok-last.last c.args.going.now c.args.coming.now c.in_ok-done.done.put c.in_ok-done.done.gone
    m (g.S.PageStore.pages c.pass_over.new.store) (g.S.PageStore.pages c.put_rest.new.store) its first chain lie
    (λ kept. subst (λ rows. IsGrown c.args.chain.file c.args.chain.bound earlier c.args.chain.last c.in_ok-last.last rows its.image (g.S.PageStore.pages c.put_rest.new.store)) c.split_at.ensures.back
    (c.in_ok-last.ensures.grown its.image its.still_known earlier c.requires.last kept)) in
    (let number = c.in-Ok.ensures in omega (arith, all.0, number), all.1)

pub returns-in-Ok-clause-others : goal.returns-in-Ok-clause-others
returns-in-Ok-clause-others g c =
    others_twice c.args.chain.file (g.S.PageStore.pages c.args.store.now) (g.S.PageStore.pages c.pass_over.new.store) (g.S.PageStore.pages c.put_rest.new.store)
    (λ m is. let its = c.in_ok-done.ensures.passed m is in (its.image, its.still_known, its.elsewhere)) c.in_ok-last.ensures.others

pub returns-in-Ok-clause-came : goal.returns-in-Ok-clause-came
returns-in-Ok-clause-came g c = λ s came. c.put_rest.ensures.came s (c.pass_over.ensures.came s came)

pub returns-in-Err-clause-came : goal.returns-in-Err-clause-came
returns-in-Err-clause-came g c = λ s came. c.put_rest.ensures.came s (c.pass_over.ensures.came s came)

pub returns-in_err-last-clause-came : goal.returns-in_err-last-clause-came
returns-in_err-last-clause-came g c = λ s came. c.put_rest.ensures.came s (c.pass_over.ensures.came s came)

pub returns-in_err-done-clause-came : goal.returns-in_err-done-clause-came
returns-in_err-done-clause-came g c = c.pass_over.ensures.came

pub returns-in-Ok-clause-behind : goal.returns-in-Ok-clause-behind
returns-in-Ok-clause-behind g c =
    let up = c.in_ok-last.ensures.behind in
    (up.0, omega (arith, up.1, c.split_at.ensures.back_len))

pub returns-in-Ok-clause-cause : goal.returns-in-Ok-clause-cause
returns-in-Ok-clause-cause g c = record { later = omega (arith, c.pass_over.ensures.cause.later, c.put_rest.ensures.cause.later); caused = c.in_ok-last.ensures.cause.caused ∙ c.in_ok-done.ensures.cause.caused }

pub returns-in-Err-clause-cause : goal.returns-in-Err-clause-cause
returns-in-Err-clause-cause g c = record { later = omega (arith, c.pass_over.ensures.cause.later, c.put_rest.ensures.cause.later); caused = c.in_ok-last.ensures.cause.caused ∙ c.in_ok-done.ensures.cause.caused }

pub returns-in_err-done-clause-cause : goal.returns-in_err-done-clause-cause
returns-in_err-done-clause-cause g c =
    cause_carried (g.S.PageStore.pages c.args.store.now) (g.S.PageStore.pages c.args.store.now) (NoChainTo c.args.chain.file c.args.chain.bound c.args.chain.last) (NoChainTo c.args.chain.file c.args.chain.bound c.args.chain.last) (g.S.PageStore.faults c.args.store.now) (g.S.PageStore.faults c.args.store.now) (g.S.PageStore.faults c.pass_over.new.store) c.in_err-done.field-0.0 (omega arith) (λ a fault. fault)
    c.in_err-done.ensures.cause c.from_residual.result c.from_residual.ensures.1

pub returns-in-Ok-clause-all : goal.returns-in-Ok-clause-all
returns-in-Ok-clause-all g c m is earlier first chain enough differ once =
    let number = c.in-Ok.ensures in
    (c.in_ok-done.ensures.passed m is).all (earlier ++ c.args.chain.last ∷ []) first chain (omega (arith, number, enough)) differ once
