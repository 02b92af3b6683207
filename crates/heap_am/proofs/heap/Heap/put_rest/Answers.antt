use Rattle.std.proofs.Common.{◌≡◌, ◌-◌, ◌+◌, length, sym, subst, ◌∙◌, arith}
use Rattle.std.proofs.lemmas.Bool.{eqb-true}
use Rattle.std.proofs.lemmas.List.{nil_from_length}
use Rattle.page_chain.proofs.Replaced.{grown_nothing}
use Rattle.page_chain.specs.Chains.{OffPage}
use Rattle.page_chain.specs.Grown.{IsGrown}
use Rattle.heap_am.proofs.Rooms.{cause_same}
use Rattle.heap_am.proofs.heap.Heap.put_rest.Goals as goal

pub returns-then-is_empty-clause-grown : goal.returns-then-is_empty-clause-grown
returns-then-is_empty-clause-grown g c m is earlier chain =
    grown_nothing c.args.self.now.file.file c.args.self.now.file.used earlier (c.args.self.now.file.used - 1) c.args.rows.now m (g.S.PageStore.pages c.args.store.now)
    (nil_from_length c.args.rows.now (eqb-true (length c.args.rows.now) 0 (sym c.is_empty.ensures ∙ c.if-is_empty.true))) is chain

pub returns-clause-came : goal.returns-clause-came
returns-clause-came g c = c.extend.ensures.came

pub returns-in_err-last-clause-came : goal.returns-in_err-last-clause-came
returns-in_err-last-clause-came g c = c.extend.ensures.came

pub returns-clause-others : goal.returns-clause-others
returns-clause-others g c = c.in_ok-last.ensures.others

pub returns-clause-cause : goal.returns-clause-cause
returns-clause-cause g c = record { later = c.extend.ensures.cause.later; caused = c.in_ok-last.ensures.cause.caused }

pub returns-in_err-last-clause-cause : goal.returns-in_err-last-clause-cause
returns-in_err-last-clause-cause g c =
    cause_same (g.S.PageStore.pages c.args.store.now) (OffPage c.args.self.now.file.file (c.args.self.now.file.used - 1) (c.args.self.now.file.used - 1 + 1)) (g.S.PageStore.faults c.args.store.now) (g.S.PageStore.faults c.extend.new.store)
    c.from_residual.result c.in_err-last.field-0.0 c.in_err-last.ensures.cause c.from_residual.ensures.1

pub returns-clause-grown : goal.returns-clause-grown
returns-clause-grown g c m is earlier chain =
    let file = c.args.self.now.file in
    let last : c.in_ok-last.last + 1 - 1 ≡ c.in_ok-last.last = omega arith in
    subst (λ to. IsGrown file.file file.used earlier (file.used - 1) to c.args.rows.now m (g.S.PageStore.pages c.extend.new.store)) (sym last) (c.in_ok-last.ensures.grown m is file.used earlier (omega arith) chain)
