use Rattle.std.proofs.Common.{sym, refl, subst, ◌-◌, [], arith, ◌∷◌, ◌++◌, length, eq-eqb}
use Rattle.heap_am.specs.Heap.{HeapFault}
use Rattle.heap_am.proofs.Outcomes.{handed_on}
use Rattle.page_chain.specs.Chains.{numbers_from}
use Rattle.page_chain.specs.Pages.{pages_of}
use Rattle.page_chain.specs.Renewed.{AllLie}
use Rattle.heap_am.proofs.Faults.{cause_by, no_chain_to}
use Rattle.heap_am.proofs.Changed.{are_there, rows_renewed, heap_chain_to, starts_at_0, all_lie}
use Rattle.std.proofs.lemmas.Bool.{eqb-true}
use Rattle.heap_am.proofs.heap.Heap.renew.Goals as goal

pub returns-in_err-done-clause-cause : goal.returns-in_err-done-clause-cause
returns-in_err-done-clause-cause g c =
    cause_by (HeapFault c.args.self.now.file) c.from_residual.result c.in_err-done.field-0.0
    (λ m a off. no_chain_to c.args.self.now.file m a c.args.self.now.pages off) c.in_err-done.ensures.cause (handed_on c.from_residual.result c.in_err-done.field-0.0 c.from_residual.ensures.1)

pub returns-clause-known : goal.returns-clause-known
returns-clause-known g c m rows gone new t e go old co fresh differ once there =
    let file = c.args.self.now.file in
    let some = c.args.self.now.pages in
    let lie = subst (λ b. AllLie (pages_of m file.file) (numbers_from (file.used - 1) 0 ++ (file.used - 1) ∷ []) b) (sym old) (all_lie file m rows (file.used - 1) gone (omega arith) e go differ once there) in
    let h = c.in_ok-done.ensures.renewed m t (numbers_from (file.used - 1) 0) (starts_at_0 (file.used - 1)) (heap_chain_to file m rows (file.used - 1) (omega arith) e) lie in (
      eq-eqb c.in_ok-done.done.gone (length c.args.going.now) h.0,
      rows_renewed file _ m rows c.in_ok-done.done.last gone new c.args.going.now c.args.coming.now (g.S.PageStore.pages c.replace.new.store) refl refl some refl c.in_ok-done.ensures.behind.0 e go old co fresh h.1,
    )

pub returns-clause-came : goal.returns-clause-came
returns-clause-came g c = c.replace.ensures.came

pub returns-in_err-done-clause-came : goal.returns-in_err-done-clause-came
returns-in_err-done-clause-came g c = c.replace.ensures.came

pub returns-clause-others : goal.returns-clause-others
returns-clause-others g c = c.in_ok-done.ensures.others

pub returns-clause-cause : goal.returns-clause-cause
returns-clause-cause g c = record { later = c.replace.ensures.cause.later; caused = c.in_ok-done.ensures.cause.caused }

pub returns-clause-only : goal.returns-clause-only
returns-clause-only g c m rows gone t e go old differ once all =
    let file = c.args.self.now.file in
    let some = c.args.self.now.pages in
    are_there file m rows (file.used - 1) gone c.args.going.now (omega arith) e go old differ once
    (λ d o. (c.in_ok-done.ensures.all m t (numbers_from (file.used - 1) 0) (starts_at_0 (file.used - 1)) (heap_chain_to file m rows (file.used - 1) (omega arith) e) (eqb-true c.in_ok-done.done.gone (length c.args.going.now) all) d o).are_there)
