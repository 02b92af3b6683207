use Rattle.std.proofs.Common.{length, sym, ◌∙◌, arith, subst, take, refl}
use Rattle.std.proofs.lemmas.Bool.{eqb-true}
use Rattle.std.proofs.lemmas.List.{nil_from_length}
use Rattle.page_chain.proofs.Replaced.{passed_nothing}
use Rattle.std.specs.Prelude.{IfOk}
use Rattle.page_chain.specs.Chains.{NoChainTo}
use Rattle.page_chain.specs.Passing.{Passed}
use Rattle.page_chain.proofs.Handed.{no_memory}
use Rattle.page_chain.proofs.replacing.pass_over.Goals as goal

pub returns-then-is_empty-clause-passed : goal.returns-then-is_empty-clause-passed
returns-then-is_empty-clause-passed g c m is =
    passed_nothing c.args.chain.file c.args.chain.bound c.args.going.now m (g.S.PageStore.pages c.args.store.now)
    (nil_from_length c.args.going.now (eqb-true (length c.args.going.now) 0 (sym c.is_empty.ensures ∙ c.if-is_empty.true))) is

pub returns-clause-came : goal.returns-clause-came
returns-clause-came g c = c.pass.ensures.came

pub returns-clause-put : goal.returns-clause-put
returns-clause-put g c = c.pass.ensures.put

pub returns-clause-cause : goal.returns-clause-cause
returns-clause-cause g c = c.pass.ensures.cause

pub returns-then-is_empty-clause-came : goal.returns-then-is_empty-clause-came
returns-then-is_empty-clause-came g c = λ s came. came

pub returns-then-is_empty-clause-cause : goal.returns-then-is_empty-clause-cause
returns-then-is_empty-clause-cause g c = record { later = omega arith; caused = refl }

pub returns-clause-passed : goal.returns-clause-passed
returns-clause-passed g c = λ m is.
    subst (λ rows. IfOk c.pass.result (λ done. Passed c.args.chain.file c.args.chain.bound rows (take done.put c.args.coming.now) done.gone m (g.S.PageStore.pages c.pass.new.store)))
    c.in_ok-rows.ensures (c.pass.ensures.passed m is)

pub returns-in_err-rows-clause-cause : goal.returns-in_err-rows-clause-cause
returns-in_err-rows-clause-cause g c =
    no_memory (g.S.PageStore.pages c.args.store.now) (NoChainTo c.args.chain.file c.args.chain.bound c.args.chain.last) (g.S.PageStore.faults c.args.store.now) (g.S.PageStore.faults c.args.store.now) (omega arith)
    c.from_residual.result c.from_residual.ensures.1

pub returns-in_err-rows-clause-came : goal.returns-in_err-rows-clause-came
returns-in_err-rows-clause-came g c = λ s came. came
