use Rattle.std.proofs.Common.{sym, subst, ◌∙◌, refl, Err}
use Rattle.calculus.specs.Change.{laid}
use Rattle.disk_model.proofs.Moments.{weaker}
use Rattle.batch_store.specs.Running.{comes_of_itself}
use Rattle.batch_store.specs.Store.{disk_of, pages_of}
use Rattle.base_trait.specs.Causes.{HasCause}
use Rattle.db_disk.specs.Held.{database_in}
use Rattle.db_disk.proofs.Causes.{as_unit}
use Rattle.db_disk.proofs.Changes.{after_stands, either_of, given_up, later_caused, on_ok_into, same_given_up}
use Rattle.db_disk.proofs.Fills.{knows_now, laid_known, on_ok_both, where_ok}
use Rattle.db_disk.proofs.Holding.{held_as, same_held, known_same}
use Rattle.db_disk.proofs.Ready.{file_caused, ready_holds}
use Rattle.db_disk.proofs.page_changes.apply_change.Goals as goal

pub returns-in-Ok-clause-crash : goal.returns-in-Ok-clause-crash
returns-in-Ok-clause-crash g c = λ db is.
    let d = g.D.Disk in
    let s = c.args.store.now in
    let h = ready_holds s db c.requires.ready is in
    let lawful = c.requires.lawful db is in
    let k = knows_now s c.requires.ready c.args.catalog.now db (c.requires.knows h.known) is in
    let after = c.in-Ok.ensures.knows _ db h.pages h.is_one k lawful in
    let stands = after_stands _ _ _ db c.args.change.now h.stands h.is_one lawful.leaves_a_database after in
    weaker d.seen d.touched d.clock d.left_since (disk_of s) (disk_of c.settle.new.store) _ _
    (c.settle.ensures.stands s after.image (c.apply_change.ensures.came s (comes_of_itself s)) h.known (c.requires.ready.closed h.known) after.still_known)
    (λ m one. either_of _ after.image m db (laid db c.args.change.now) h.stands stands h.agree after.knows.owners one)

pub returns-in-Ok-clause-durable : goal.returns-in-Ok-clause-durable
returns-in-Ok-clause-durable g c = λ db is.
    let s = c.args.store.now in
    let h = ready_holds s db c.requires.ready is in
    let lawful = c.requires.lawful db is in
    let k = knows_now s c.requires.ready c.args.catalog.now db (c.requires.knows h.known) is in
    let after = c.in-Ok.ensures.knows _ db h.pages h.is_one k lawful in
    let stands = after_stands _ _ _ db c.args.change.now h.stands h.is_one lawful.leaves_a_database after in
    on_ok_into c.settle.result _ _ (λ each m image. held_as m after.image (laid db c.args.change.now) (each m image) stands after.knows.owners)
    (c.settle.ensures.durable s after.image (c.apply_change.ensures.came s (comes_of_itself s)) h.known (c.requires.ready.closed h.known) after.still_known)

pub returns-in-Ok-clause-no_memory : goal.returns-in-Ok-clause-no_memory
returns-in-Ok-clause-no_memory g c = λ want. absurd (c.settle.ensures.wanted want)

pub returns-in-Ok-clause-cause : goal.returns-in-Ok-clause-cause
returns-in-Ok-clause-cause g c =
    let s = c.args.store.now in
    later_caused _ _ _ _ c.settle.result c.in-Ok.ensures.cause.caused
    (file_caused _ _ _ _ _ c.settle.result (λ db is.
    let h = ready_holds s db c.requires.ready is in
    let k = knows_now s c.requires.ready c.args.catalog.now db (c.requires.knows h.known) is in
    let after = c.in-Ok.ensures.knows _ db h.pages h.is_one k (c.requires.lawful db is) in
    (after.image, after.still_known, λ a never. never)) (c.settle.ensures.cause s (c.apply_change.ensures.came s (comes_of_itself s)) c.requires.ready.closed))

pub returns-in-Err-clause-crash : goal.returns-in-Err-clause-crash
returns-in-Err-clause-crash g c = λ db is.
    let d = g.D.Disk in
    let s = c.args.store.now in
    let h = ready_holds s db c.requires.ready is in
    given_up d.seen d.touched d.clock d.left_since (disk_of s) (disk_of c.begin.new.self) db _ (c.requires.ready.closed h.known) h.holds
    (c.begin.ensures.crash s (c.apply_change.ensures.came s (comes_of_itself s)) h.known) same_held

pub returns-in-Err-clause-no_memory : goal.returns-in-Err-clause-no_memory
returns-in-Err-clause-no_memory g c = λ want.
    let d = g.D.Disk in
    let s = c.args.store.now in
    known_same d.is_known _ _ (λ known.
    let run = c.begin.ensures.crash s (c.apply_change.ensures.came s (comes_of_itself s)) known in
    same_given_up d.seen d.touched d.clock d.left_since (disk_of s) (disk_of c.begin.new.self) (c.requires.ready.closed known) run
    (g.met.D.Disk.counts_now (disk_of c.begin.new.self) (d.clock (disk_of s)) (d.seen (disk_of c.begin.new.self)) known run.later (λ b calm. refl)))

pub returns-in-Err-clause-cause : goal.returns-in-Err-clause-cause
returns-in-Err-clause-cause g c =
    let s = c.args.store.now in
    as_unit {U = Unit {0}} (database_in s) (g.D.Disk.faults (disk_of s)) (g.D.Disk.faults (disk_of c.begin.new.self)) c.in-Err.fault
    (subst (λ x. HasCause {T = Unit {0}} (database_in s) (g.D.Disk.faults (disk_of s)) (g.D.Disk.faults x) (Err c.in-Err.fault)) (sym c.begin.ensures.disk)
    (file_caused {T = Unit {0}} _ _ _ _ _ _ (λ db is.
    let h = ready_holds s db c.requires.ready is in
    let k = knows_now s c.requires.ready c.args.catalog.now db (c.requires.knows h.known) is in
    (_, h.pages, λ a none. none db h.is_one k (c.requires.lawful db is))) c.in-Err.ensures.cause))

pub settle-requires : goal.settle-requires
settle-requires g c = (c.apply_change.ensures.came c.args.store.now (comes_of_itself c.args.store.now)).still ∙ c.requires.ready.calm

pub returns-in-Ok-clause-knows : goal.returns-in-Ok-clause-knows
returns-in-Ok-clause-knows g c = λ known.
    let s = c.args.store.now in
    on_ok_both c.settle.result (λ ready laid. laid_known s c.requires.ready c.settle.new.store ready c.args.catalog.now c.apply_change.new.self c.args.change.now known (c.requires.knows known)
    c.in-Ok.ensures.schema (pages_of c.apply_change.new.store) c.in-Ok.ensures.lies laid) c.settle.ensures.ready
    (λ m is. c.settle.ensures.laid s m (c.apply_change.ensures.came s (comes_of_itself s)) known (c.requires.ready.closed known) is)

pub returns-in-Ok-clause-schema : goal.returns-in-Ok-clause-schema
returns-in-Ok-clause-schema g c = where_ok c.settle.result c.in-Ok.ensures.schema
