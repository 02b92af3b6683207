use Rattle.std.proofs.Common.{◌∙◌, arith}
use Rattle.page_chain.specs.Chains.{NoChainTo}
use Rattle.page_chain.proofs.Carried.{cause_carried}
use Rattle.stored_database.specs.Catalogue.{most_pages}
use Rattle.catalog_pages.specs.Ends.{NoCatalogue}
use Rattle.catalog_pages.proofs.Files.{same_pages}
use Rattle.catalog_pages.proofs.Moved.{all_written}
use Rattle.catalog_pages.proofs.Known.{first_fault, second_fault, third_fault}
use Rattle.catalog_pages.proofs.writing.write_moves.Goals as goal

pub returns-in_err-entries-clause-cause : goal.returns-in_err-entries-clause-cause
returns-in_err-entries-clause-cause g c =
    let old = g.S.PageStore.pages c.args.store.now in
    let start = g.S.PageStore.faults c.args.store.now in
    cause_carried old old (NoChainTo 5 most_pages c.args.ends.entries) (NoCatalogue c.args.ends) start start (g.S.PageStore.faults c.write_file.new.store) c.in_err-entries.field-0.0 (omega arith)
    (first_fault c.args.ends old) c.in_err-entries.ensures.cause c.from_residual.result c.from_residual.ensures.1

pub returns-in_err-columns-clause-cause : goal.returns-in_err-columns-clause-cause
returns-in_err-columns-clause-cause g c =
    let old = g.S.PageStore.pages c.args.store.now in
    let mid = g.S.PageStore.pages c.write_file.new.store in
    cause_carried old mid (NoChainTo 6 most_pages c.args.ends.columns) (NoCatalogue c.args.ends) (g.S.PageStore.faults c.args.store.now) (g.S.PageStore.faults c.write_file.new.store)
    (g.S.PageStore.faults c.write_file-2.new.store) c.in_err-columns.field-0.0 c.in_ok-entries.ensures.cause.caused
    (second_fault c.args.ends old mid (λ m is. (let a = c.in_ok-entries.ensures.rewritten m is in (a.image, a.still_known, same_pages 5 6 m a.image a.elsewhere (λ e. omega (arith, e))))))
    c.in_err-columns.ensures.cause c.from_residual-in_err-columns.result c.from_residual-in_err-columns.ensures.1

pub returns-in_err-parts-clause-cause : goal.returns-in_err-parts-clause-cause
returns-in_err-parts-clause-cause g c =
    let old = g.S.PageStore.pages c.args.store.now in
    let mid = g.S.PageStore.pages c.write_file-2.new.store in
    cause_carried old mid (NoChainTo 7 most_pages c.args.ends.parts) (NoCatalogue c.args.ends) (g.S.PageStore.faults c.args.store.now) (g.S.PageStore.faults c.write_file-2.new.store)
    (g.S.PageStore.faults c.write_file-3.new.store) c.in_err-parts.field-0.0 (c.in_ok-columns.ensures.cause.caused ∙ c.in_ok-entries.ensures.cause.caused)
    (third_fault c.args.ends old mid (λ m is. (
    let a = c.in_ok-entries.ensures.rewritten m is in
    let b = c.in_ok-columns.ensures.rewritten a.image a.still_known in
    (b.image, b.still_known, same_pages 6 7 a.image b.image b.elsewhere (λ e. omega (arith, e)) ∙ same_pages 5 7 m a.image a.elsewhere (λ e. omega (arith, e))))))
    c.in_err-parts.ensures.cause c.from_residual-in_err-parts.result c.from_residual-in_err-parts.ensures.1

pub returns-clause-cause : goal.returns-clause-cause
returns-clause-cause g c =
    let calm = c.in_ok-parts.ensures.cause.caused ∙ c.in_ok-columns.ensures.cause.caused ∙ c.in_ok-entries.ensures.cause.caused in
    record { later = omega (arith, calm); caused = calm }

pub returns-clause-written : goal.returns-clause-written
returns-clause-written g c m cat going coming is ends holds changes stands are =
    let a = c.in_ok-entries.ensures.rewritten m is in
    let b = c.in_ok-columns.ensures.rewritten a.image a.still_known in
    let d = c.in_ok-parts.ensures.rewritten b.image b.still_known in
    all_written c.args.ends (record { entries = c.in_ok-entries.entries; columns = c.in_ok-columns.columns; parts = c.in_ok-parts.parts }) c.args.moves.now m
    (g.S.PageStore.pages c.write_file-3.new.store) cat going coming
    (record {
      first = g.S.PageStore.pages c.write_file.new.store;
      second = g.S.PageStore.pages c.write_file-2.new.store;
      entries = a;
      columns = b;
      parts = d;
      entries_behind = c.in_ok-entries.ensures.behind;
      columns_behind = c.in_ok-columns.ensures.behind;
      parts_behind = c.in_ok-parts.ensures.behind;
    }) ends holds changes stands are

pub returns-in_err-columns-clause-came : goal.returns-in_err-columns-clause-came
returns-in_err-columns-clause-came g c = λ s came. c.write_file-2.ensures.came s (c.write_file.ensures.came s came)

pub returns-in_err-parts-clause-came : goal.returns-in_err-parts-clause-came
returns-in_err-parts-clause-came g c = λ s came. c.write_file-3.ensures.came s (c.write_file-2.ensures.came s (c.write_file.ensures.came s came))

pub returns-clause-came : goal.returns-clause-came
returns-clause-came g c = λ s came. c.write_file-3.ensures.came s (c.write_file-2.ensures.came s (c.write_file.ensures.came s came))

pub returns-in_err-entries-clause-came : goal.returns-in_err-entries-clause-came
returns-in_err-entries-clause-came g c = c.write_file.ensures.came
