use Rattle.std.proofs.Common.{refl, sym, subst, ap, ◌∙◌, ◌+◌}
use Rattle.batch_store.specs.Running.{comes_of_itself, reads_of_itself}
use Rattle.catalog.specs.declared.catalog.Catalog.{Catalog}
use Rattle.db_disk.specs.Known.{IsKnown}
use Rattle.db_disk.proofs.Causes.{as_unit, same_fault}
use Rattle.batch_file.specs.Redone.{redone}
use Rattle.db_disk.proofs.Fills.{loaded_known}
use Rattle.db_disk.proofs.Holding.{known_same}
use Rattle.db_disk.proofs.Ready.{file_caused, ready_holds, ready_pages, still_ready}
use Rattle.db_disk.proofs.Reading.{none_there}
use Rattle.catalog.proofs.Rises.{rises_not}
use Rattle.db_disk.proofs.Headless.{of_base}
use Rattle.db_disk.proofs.base.DbDisk.loaded.Goals as goal

pub invariant_of-self : goal.invariant_of-self
invariant_of-self g c = record {
  ready = λ is. still_ready _ _ (c.args.self.now.ready c.requires) (c.load.ensures.came c.args.self.now.store (comes_of_itself c.args.self.now.store)) (c.load.ensures.only_read c.args.self.now.store (reads_of_itself c.args.self.now.store));
  opened = λ x is. c.requires;
  knows = λ known. loaded_known _ _ (c.args.self.now.ready c.requires) (c.load.ensures.only_read c.args.self.now.store (reads_of_itself c.args.self.now.store)) _ known c.in-Ok.ensures.knows c.in-Ok.ensures.lies;
}

pub invariant_of-self-in-Err-1 : goal.invariant_of-self-in-Err-1
invariant_of-self-in-Err-1 g c =
    let only = c.load.ensures.only_read c.args.self.now.store (reads_of_itself c.args.self.now.store) in
    record {
      ready = λ is. still_ready c.args.self.now.store c.load.new.store (c.args.self.now.ready is) (c.load.ensures.came c.args.self.now.store (comes_of_itself c.args.self.now.store)) only;
      opened = c.args.self.now.opened;
      knows = λ known. subst (λ m. IsKnown m c.args.self.now.catalog) (sym (only.reads known).seen_same) (c.args.self.now.knows known);
    }

pub returns-in-Ok-clause-headless : goal.returns-in-Ok-clause-headless
returns-in-Ok-clause-headless g c = λ known none off. c.in-Ok.ensures.headless _ (ready_pages c.args.self.now.store (c.args.self.now.ready c.requires) known) off

pub returns-in-Err-clause-no_head : goal.returns-in-Err-clause-no_head
returns-in-Err-clause-no_head g c = λ known page is.
    c.load.ensures.no_head _ page (ready_pages c.args.self.now.store (c.args.self.now.ready c.requires) known) (c.in-Err.is ∙ same_fault _ _ is)

pub returns-in-Err-clause-headless : goal.returns-in-Err-clause-headless
returns-in-Err-clause-headless g c = λ known none off. c.in-Err.ensures.headless _ (ready_pages c.args.self.now.store (c.args.self.now.ready c.requires) known) off

pub returns-in-Err-clause-cause : goal.returns-in-Err-clause-cause
returns-in-Err-clause-cause g c = as_unit _ _ _ _ (file_caused {T = Catalog} _ _ _ _ _ _
    (λ db is. let h = ready_holds c.args.self.now.store db (c.args.self.now.ready c.requires) is in (_, h.pages, λ a none. none db h.stands h.agree)) c.in-Err.ensures.cause)

pub returns-in-Ok-clause-catalog : goal.returns-in-Ok-clause-catalog
returns-in-Ok-clause-catalog g c = λ s is. none_there c.args.self.now.catalog c.is_some.result s _ c.is_some.ensures c.if-is_some.false is

pub returns-in-Ok-clause-still : goal.returns-in-Ok-clause-still
returns-in-Ok-clause-still g c = λ s is. none_there c.args.self.now.catalog c.is_some.result s _ c.is_some.ensures c.if-is_some.false is

pub returns-in-Err-clause-still : goal.returns-in-Err-clause-still
returns-in-Err-clause-still g c = λ s is. none_there c.args.self.now.catalog c.is_some.result s _ c.is_some.ensures c.if-is_some.false is

pub returns-in-Ok-clause-reads : goal.returns-in-Ok-clause-reads
returns-in-Ok-clause-reads g c = λ known all has. c.load.ensures.reads _ all (ready_pages c.args.self.now.store (c.args.self.now.ready c.requires) known) has

pub returns-in-Err-clause-reads : goal.returns-in-Err-clause-reads
returns-in-Err-clause-reads g c = λ known all has. c.load.ensures.reads _ all (ready_pages c.args.self.now.store (c.args.self.now.ready c.requires) known) has

pub returns-then-is_some-clause-reads : goal.returns-then-is_some-clause-reads
returns-then-is_some-clause-reads g c = λ known all has. rises_not (all + 2) _ _ refl

pub returns-in-Ok-clause-only_reads : goal.returns-in-Ok-clause-only_reads
returns-in-Ok-clause-only_reads g c = λ known. (c.load.ensures.only_read c.args.self.now.store (reads_of_itself c.args.self.now.store)).reads known

pub returns-in-Ok-clause-kept : goal.returns-in-Ok-clause-kept
returns-in-Ok-clause-kept g c = known_same g.D.Disk.is_known _ _ (λ known. ap redone ((c.load.ensures.only_read c.args.self.now.store (reads_of_itself c.args.self.now.store)).reads known).seen_same)

pub returns-in-Err-clause-only_reads : goal.returns-in-Err-clause-only_reads
returns-in-Err-clause-only_reads g c = λ known. (c.load.ensures.only_read c.args.self.now.store (reads_of_itself c.args.self.now.store)).reads known

pub returns-in-Err-clause-kept : goal.returns-in-Err-clause-kept
returns-in-Err-clause-kept g c = known_same g.D.Disk.is_known _ _ (λ known. ap redone ((c.load.ensures.only_read c.args.self.now.store (reads_of_itself c.args.self.now.store)).reads known).seen_same)

pub returns-in-Err-clause-at_head : goal.returns-in-Err-clause-at_head
returns-in-Err-clause-at_head g c = λ known page is.
    c.load.ensures.at_head _ page (ready_pages c.args.self.now.store (c.args.self.now.ready c.requires) known) (c.in-Err.is ∙ same_fault _ _ is)

pub returns-in-Err-clause-at_catalog : goal.returns-in-Err-clause-at_catalog
returns-in-Err-clause-at_catalog g c = λ known head file page e.
    c.load.ensures.at_catalog _ file page (ready_pages c.args.self.now.store (c.args.self.now.ready c.requires) known) head (of_base c.in-Err.fault c.load.result _ file page c.in-Err.is refl e)
