use Rattle.std.proofs.Common.{arith, ◌∙◌, ◌+◌, length}
use Rattle.page_chain.proofs.Carried.{cause_carried}
use Rattle.page_chain.specs.Chains.{NoChain}
use Rattle.stored_database.specs.Catalogue.{most_pages}
use Rattle.catalog.specs.Loading.{NoCatalogueIn}
use Rattle.catalog.proofs.Outcomes.{cause_on}
use Rattle.catalog.proofs.ReadRows.{no_entries}
use Rattle.catalog.proofs.Rises.{rises_as, rises_less, then_rises}
use Rattle.catalog.proofs.loading.read_chains.Goals as goal

pub returns-in_err-entries-clause-cause : goal.returns-in_err-entries-clause-cause
returns-in_err-entries-clause-cause g c =
    cause_carried (g.S.PageStore.pages c.args.store.now) (g.S.PageStore.pages c.args.store.now) (NoChain 5 most_pages) NoCatalogueIn
    (g.S.PageStore.faults c.args.store.now) (g.S.PageStore.faults c.args.store.now) (g.S.PageStore.faults c.rows_in.new.store) c.in_err-entries.field-0.0 (omega arith)
    (λ a at m known. no_entries m a (at m known)) c.in_err-entries.ensures.cause c.from_residual.result c.from_residual.ensures.1

pub returns-clause-cause : goal.returns-clause-cause
returns-clause-cause g c =
    cause_on (g.S.PageStore.pages c.args.store.now) (g.S.PageStore.pages c.rows_in.new.store) NoCatalogueIn NoCatalogueIn
    (g.S.PageStore.faults c.args.store.now) (g.S.PageStore.faults c.rows_in.new.store) (g.S.PageStore.faults c.behind_entries.new.store) c.behind_entries.result c.in_ok-entries.ensures.cause.caused
    (λ a at m known. at m (c.in_ok-entries.ensures.same ∙ known)) c.behind_entries.ensures.cause

pub returns-in_err-entries-clause-reads : goal.returns-in_err-entries-clause-reads
returns-in_err-entries-clause-reads g c m all known has =
    rises_less (length has.entries) all _ _ (let e = has.in_all in omega (arith, e)) (c.rows_in.ensures.reads m has.entries known has.has_entries)

pub returns-clause-reads : goal.returns-clause-reads
returns-clause-reads g c m all known has =
    rises_as _ all _ _ has.in_all
    (then_rises (length has.entries) (length has.columns + length has.parts) _ _ _ (c.rows_in.ensures.reads m has.entries known has.has_entries)
    (c.behind_entries.ensures.reads m has.columns has.parts (c.in_ok-entries.ensures.same ∙ known) has.has_columns has.has_parts))

pub returns-clause-came : goal.returns-clause-came
returns-clause-came g c = λ s came. c.behind_entries.ensures.came s (c.rows_in.ensures.came s came)

pub returns-in_err-entries-clause-came : goal.returns-in_err-entries-clause-came
returns-in_err-entries-clause-came g c = c.rows_in.ensures.came

pub returns-clause-only_read : goal.returns-clause-only_read
returns-clause-only_read g c = λ s read. c.behind_entries.ensures.only_read s (c.rows_in.ensures.only_read s read)

pub returns-in_err-entries-clause-only_read : goal.returns-in_err-entries-clause-only_read
returns-in_err-entries-clause-only_read g c = c.rows_in.ensures.only_read

pub returns-clause-same : goal.returns-clause-same
returns-clause-same g c = c.behind_entries.ensures.same ∙ c.rows_in.ensures.same

pub returns-in_err-entries-clause-same : goal.returns-in_err-entries-clause-same
returns-in_err-entries-clause-same g c = c.rows_in.ensures.same
