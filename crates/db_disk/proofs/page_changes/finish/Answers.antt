use Rattle.std.proofs.Common.{◌≡◌, ◌∙◌, arith}
use Rattle.base_trait.specs.declared.fault.BaseFault.TheVariants as faults
use Rattle.batch_store.specs.Store.{batch_of, disk_of}
use Rattle.batch_store.proofs.Stands.{known_so}
use Rattle.db_disk.proofs.Changes.{finished, finish_caused, finish_whole, never_wanted, were_some}
use Rattle.db_disk.proofs.page_changes.finish.Goals as goal

pub returns-in-Ok-clause-durable : goal.returns-in-Ok-clause-durable
returns-in-Ok-clause-durable g c = λ s m came known closed pages.
    finished s c.args.store.now c.finish.new.self m known (λ x left. g.met.D.Disk.only_now _ x known left) came closed pages
    (λ none. (c.finish.ensures.empty none).0) (c.in-Ok.ensures.closed known) (c.in-Ok.ensures.laid m pages)

pub returns-in-Ok-clause-ready : goal.returns-in-Ok-clause-ready
returns-in-Ok-clause-ready g c = λ some. record {
  calm = c.in-Ok.ensures.calm ∙ c.requires;
  empty = c.finish.ensures.begun;
  closed = λ known. c.in-Ok.ensures.closed known (were_some _ _ c.is_empty-were_put.ensures some);
}

pub returns-in-Err-clause-wanted : goal.returns-in-Err-clause-wanted
returns-in-Err-clause-wanted g c = λ want.
    let e : c.fault_of.result ≡ faults.OutOfMemory = cc want in
    never_wanted c.in-Err.fault c.fault_of.result c.fault_of.ensures e

pub returns-in-Err-clause-cause : goal.returns-in-Err-clause-cause
returns-in-Err-clause-cause g c = finish_caused _ _ _ c.in-Err.fault c.finish.result c.fault_of.result c.in-Err.is c.fault_of.ensures c.finish.ensures.cause
    (λ m pages. finish_whole c.in-Err.fault c.finish.result c.in-Err.is (c.finish.ensures.whole (known_so g.D.Disk.is_known (g.D.Disk.seen (disk_of c.args.store.now)) m (batch_of c.args.store.now) pages).0))

pub returns-in-Ok-clause-cause : goal.returns-in-Ok-clause-cause
returns-in-Ok-clause-cause g c = let calm = c.in-Ok.ensures.cause.answered (λ never. cc never) in record { later = omega (arith, calm); caused = calm }
