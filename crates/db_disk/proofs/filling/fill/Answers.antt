use Rattle.std.proofs.Common.{subst, sym, ap, ◌∙◌, Option}
use Rattle.batch_store.specs.Running.{comes_of_itself, reads_of_itself}
use Rattle.batch_file.specs.Redone.{redone}
use Rattle.batch_store.specs.Store.{disk_of}
use Rattle.db_disk.specs.Known.{IsKnown}
use Rattle.db_disk.proofs.Fills.{filled_known, knows_now}
use Rattle.db_disk.proofs.Holding.{known_same}
use Rattle.db_disk.proofs.Knowing.{on_some}
use Rattle.db_disk.proofs.Ready.{file_caused, ready_holds, still_ready}
use Rattle.plain_base.specs.Shown.{database_of}
use Rattle.calculus.specs.Stored.{rows_at}
use Rattle.std.proofs.Common.{◌≡◌}
use Rattle.catalog.specs.declared.catalog.Catalog.{Catalog}
use Rattle.db_disk.specs.Reads.{files_in, rows_in}
use Rattle.catalog.proofs.Rises.{rises_as}
use Rattle.db_disk.proofs.filling.fill.Goals as goal

pub returns-clause-ready : goal.returns-clause-ready
returns-clause-ready g c = still_ready _ _ c.requires.ready (c.fill.ensures.came c.args.store.now (comes_of_itself c.args.store.now)) (c.fill.ensures.only_read c.args.store.now (reads_of_itself c.args.store.now))

pub returns-clause-knows : goal.returns-clause-knows
returns-clause-knows g c = λ known.
    filled_known _ _ c.requires.ready (c.fill.ensures.only_read c.args.store.now (reads_of_itself c.args.store.now)) c.in-Some.cached _ known
    (subst (IsKnown (g.D.Disk.seen (disk_of c.args.store.now))) c.in-Some.is (c.requires.knows known)) c.fill.ensures.knows c.fill.ensures.lies c.fill.ensures.schema

pub returns-clause-rows : goal.returns-clause-rows
returns-clause-rows g c = λ db is.
    let h = ready_holds c.args.store.now db c.requires.ready is in
    let k = knows_now c.args.store.now c.requires.ready c.in-Some.cached db (subst (IsKnown (g.D.Disk.seen (disk_of c.args.store.now))) c.in-Some.is (c.requires.knows h.known)) is in
    on_some c.fill.result _ (λ (x : Catalog). rows_at (database_of x.plain) c.args.key.now ≡ rows_at db c.args.key.now) (c.fill.ensures.rows _ db h.pages h.is_one k)

pub returns-clause-cause : goal.returns-clause-cause
returns-clause-cause g c = file_caused _ _ _ _ _ c.fill.result
    (λ db is.
    let h = ready_holds c.args.store.now db c.requires.ready is in
    let k = knows_now c.args.store.now c.requires.ready c.in-Some.cached db (subst (IsKnown (g.D.Disk.seen (disk_of c.args.store.now))) c.in-Some.is (c.requires.knows h.known)) is in
    (_, h.pages, λ a none. none db h.is_one k)) c.fill.ensures.cause

pub returns-clause-files : goal.returns-clause-files
returns-clause-files g c = c.fill.ensures.files ∙ sym (ap files_in c.in-Some.is)

pub returns-clause-reads : goal.returns-clause-reads
returns-clause-reads g c = rises_as _ _ _ _ (ap (λ (o : Option Catalog). (files_in o).used c.args.key.now) (sym c.in-Some.is)) c.fill.ensures.reads

pub returns-clause-again : goal.returns-clause-again
returns-clause-again g c = λ is. c.fill.ensures.again (sym (ap (λ (o : Option Catalog). rows_in o c.args.key.now) c.in-Some.is) ∙ is)

pub returns-clause-only_reads : goal.returns-clause-only_reads
returns-clause-only_reads g c = λ known. (c.fill.ensures.only_read c.args.store.now (reads_of_itself c.args.store.now)).reads known

pub returns-clause-kept : goal.returns-clause-kept
returns-clause-kept g c = known_same g.D.Disk.is_known _ _ (λ known. ap redone ((c.fill.ensures.only_read c.args.store.now (reads_of_itself c.args.store.now)).reads known).seen_same)
