use Rattle.std.proofs.Common.{arith, ◌∙◌, ◌+◌, length}
use Rattle.page_chain.proofs.Carried.{cause_carried}
use Rattle.page_chain.specs.Chains.{NoChain}
use Rattle.stored_database.specs.Catalogue.{most_pages}
use Rattle.catalog.specs.Loading.{NoCatalogueIn}
use Rattle.catalog.proofs.ReadRows.{no_columns, no_parts}
use Rattle.catalog.proofs.Rises.{rises_less, then_rises}
use Rattle.catalog.proofs.loading.behind_entries.Goals as goal

pub returns-in_err-columns-clause-cause : goal.returns-in_err-columns-clause-cause
returns-in_err-columns-clause-cause g c =
    cause_carried (g.S.PageStore.pages c.args.store.now) (g.S.PageStore.pages c.args.store.now) (NoChain 6 most_pages) NoCatalogueIn
    (g.S.PageStore.faults c.args.store.now) (g.S.PageStore.faults c.args.store.now) (g.S.PageStore.faults c.rows_in.new.store) c.in_err-columns.field-0.0 (omega arith)
    (λ a at m known. no_columns m a (at m known)) c.in_err-columns.ensures.cause c.from_residual.result c.from_residual.ensures.1

pub returns-in_err-parts-clause-cause : goal.returns-in_err-parts-clause-cause
returns-in_err-parts-clause-cause g c =
    cause_carried (g.S.PageStore.pages c.args.store.now) (g.S.PageStore.pages c.rows_in.new.store) (NoChain 7 most_pages) NoCatalogueIn
    (g.S.PageStore.faults c.args.store.now) (g.S.PageStore.faults c.rows_in.new.store) (g.S.PageStore.faults c.rows_in-2.new.store) c.in_err-parts.field-0.0 c.in_ok-columns.ensures.cause.caused
    (λ a at m known. no_parts m a (at m (c.in_ok-columns.ensures.same ∙ known))) c.in_err-parts.ensures.cause c.from_residual-in_err-parts.result c.from_residual-in_err-parts.ensures.1

pub returns-clause-cause : goal.returns-clause-cause
returns-clause-cause g c = let calm = c.in_ok-parts.ensures.cause.caused ∙ c.in_ok-columns.ensures.cause.caused in record { later = omega (arith, calm); caused = calm }

pub returns-in_err-columns-clause-reads : goal.returns-in_err-columns-clause-reads
returns-in_err-columns-clause-reads g c m columns parts known has_columns has_parts =
    rises_less (length columns) (length columns + length parts) _ _ (omega arith) (c.rows_in.ensures.reads m columns known has_columns)

pub returns-in_err-parts-clause-reads : goal.returns-in_err-parts-clause-reads
returns-in_err-parts-clause-reads g c m columns parts known has_columns has_parts =
    then_rises (length columns) (length parts) _ _ _ (c.rows_in.ensures.reads m columns known has_columns) (c.rows_in-2.ensures.reads m parts (c.in_ok-columns.ensures.same ∙ known) has_parts)

pub returns-clause-reads : goal.returns-clause-reads
returns-clause-reads g c m columns parts known has_columns has_parts =
    then_rises (length columns) (length parts) _ _ _ (c.rows_in.ensures.reads m columns known has_columns) (c.rows_in-2.ensures.reads m parts (c.in_ok-columns.ensures.same ∙ known) has_parts)

pub returns-clause-came : goal.returns-clause-came
returns-clause-came g c = λ s came. c.rows_in-2.ensures.came s (c.rows_in.ensures.came s came)

pub returns-in_err-columns-clause-came : goal.returns-in_err-columns-clause-came
returns-in_err-columns-clause-came g c = c.rows_in.ensures.came

pub returns-in_err-parts-clause-came : goal.returns-in_err-parts-clause-came
returns-in_err-parts-clause-came g c = λ s came. c.rows_in-2.ensures.came s (c.rows_in.ensures.came s came)

pub returns-clause-only_read : goal.returns-clause-only_read
returns-clause-only_read g c = λ s read. c.rows_in-2.ensures.only_read s (c.rows_in.ensures.only_read s read)

pub returns-in_err-columns-clause-only_read : goal.returns-in_err-columns-clause-only_read
returns-in_err-columns-clause-only_read g c = c.rows_in.ensures.only_read

pub returns-in_err-parts-clause-only_read : goal.returns-in_err-parts-clause-only_read
returns-in_err-parts-clause-only_read g c = λ s read. c.rows_in-2.ensures.only_read s (c.rows_in.ensures.only_read s read)

pub returns-clause-same : goal.returns-clause-same
returns-clause-same g c = c.rows_in-2.ensures.same ∙ c.rows_in.ensures.same

pub returns-in_err-columns-clause-same : goal.returns-in_err-columns-clause-same
returns-in_err-columns-clause-same g c = c.rows_in.ensures.same

pub returns-in_err-parts-clause-same : goal.returns-in_err-parts-clause-same
returns-in_err-parts-clause-same g c = c.rows_in-2.ensures.same ∙ c.rows_in.ensures.same
