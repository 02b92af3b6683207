use Rattle.std.proofs.Common.{◌++◌, ap, ◌∙◌, arith}
use Rattle.page_chain.specs.Pages.{pages_of}
use Rattle.page_chain.proofs.Walking.{bytes_on_page}
use Rattle.page_chain.specs.Chains.{OffPage}
use Rattle.page_chain.proofs.Carried.{cause_carried}
use Rattle.page_chain.proofs.chains.copy_page.Goals as goal

pub returns-clause-rows : goal.returns-clause-rows
returns-clause-rows g c m known =
    c.in_ok-copy_rows.ensures ∙ ap (λ l. c.args.rows.now.items ++ l) (bytes_on_page c.args.page (pages_of m c.args.file) c.chain_page.new.out (c.in_ok-next.ensures.there m known))

pub returns-clause-came : goal.returns-clause-came
returns-clause-came g c = c.chain_page.ensures.came

pub returns-in_err-next-clause-came : goal.returns-in_err-next-clause-came
returns-in_err-next-clause-came g c = c.chain_page.ensures.came

pub returns-clause-only_read : goal.returns-clause-only_read
returns-clause-only_read g c = c.chain_page.ensures.only_read

pub returns-in_err-next-clause-only_read : goal.returns-in_err-next-clause-only_read
returns-in_err-next-clause-only_read g c = c.chain_page.ensures.only_read

pub returns-clause-same : goal.returns-clause-same
returns-clause-same g c = c.chain_page.ensures.same

pub returns-in_err-next-clause-same : goal.returns-in_err-next-clause-same
returns-in_err-next-clause-same g c = c.chain_page.ensures.same

pub returns-clause-reads : goal.returns-clause-reads
returns-clause-reads g c = c.chain_page.ensures.reads

pub returns-in_err-next-clause-reads : goal.returns-in_err-next-clause-reads
returns-in_err-next-clause-reads g c = c.chain_page.ensures.reads

pub returns-clause-cause : goal.returns-clause-cause
returns-clause-cause g c = record { later = c.chain_page.ensures.cause.later; caused = c.in_ok-next.ensures.cause.caused }

pub returns-clause-may : goal.returns-clause-may
returns-clause-may g c = c.in_ok-next.ensures.may

pub returns-in_err-next-clause-cause : goal.returns-in_err-next-clause-cause
returns-in_err-next-clause-cause g c =
    cause_carried (g.S.PageStore.pages c.args.store.now) (g.S.PageStore.pages c.args.store.now) (OffPage c.args.file c.args.page c.args.bound) (OffPage c.args.file c.args.page c.args.bound) (g.S.PageStore.faults c.args.store.now) (g.S.PageStore.faults c.args.store.now) (g.S.PageStore.faults c.chain_page.new.store) c.in_err-next.field-0.0 (omega arith) (λ a fault. fault)
    c.in_err-next.ensures.cause c.from_residual.result c.from_residual.ensures.1
