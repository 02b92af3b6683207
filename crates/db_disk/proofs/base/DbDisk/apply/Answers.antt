use Rattle.std.proofs.Common.{◌∙◌, inl, refl, sym, ap, Some}
use Rattle.std.proofs.lemmas.Option.{same_Some}
use Rattle.batch_store.specs.Store.{disk_of}
use Rattle.calculus.specs.Schema.{schema_of}
use Rattle.db_disk.proofs.Knowing.{known_is_schema, there_open}
use Rattle.db_disk.proofs.Ready.{ready_holds}
use Rattle.db_disk.proofs.Changes.{cause_after, held_settled, on_ok_into, known_now}
use Rattle.db_disk.proofs.Holding.{known_some}
use Rattle.db_disk.proofs.Leaving.{failed_by, given_err, only_opened, opened_changed}
use Rattle.db_disk.proofs.base.DbDisk.apply.Goals as goal

pub apply_open-requires : goal.apply_open-requires
apply_open-requires g c = record { there = c.in_ok-open.ensures.there; lawful = λ db is. c.requires db (sym c.open.ensures.kept ∙ is) }

pub returns-in_err-open-clause-crash : goal.returns-in_err-open-clause-crash
returns-in_err-open-clause-crash g c = λ db is.
    let d = g.D.Disk in
    only_opened d.seen d.touched d.clock d.left_since _ _ _ (c.open.ensures.crash (known_some d.is_known (d.seen (disk_of c.args.self.now.store)) db is).0)

pub returns-in_err-open-clause-failed : goal.returns-in_err-open-clause-failed
returns-in_err-open-clause-failed g c = λ db now is later. given_err c.from_residual.result _ (inl (same_Some now db (sym later ∙ c.open.ensures.kept ∙ is)))

pub returns-clause-crash : goal.returns-clause-crash
returns-clause-crash g c = λ db is.
    let d = g.D.Disk in
    let mid = known_some d.is_known (d.seen (disk_of c.open.new.self.store)) db (c.open.ensures.kept ∙ is) in
    opened_changed d.seen d.touched d.clock d.left_since d.is_known mid.0 g.met.D.Disk.counts_now _ _ _ db _ mid.1 (c.open.ensures.crash mid.0) (c.apply_open.ensures.crash db (c.open.ensures.kept ∙ is))

pub returns-clause-failed : goal.returns-clause-failed
returns-clause-failed g c = λ db now is later.
    let d = g.D.Disk in
    let new = disk_of c.apply_open.new.self.store in
    let run = c.apply_open.ensures.crash db (c.open.ensures.kept ∙ is) in
    let known = known_some d.is_known (d.seen new) now later in
    given_err c.apply_open.result _ (failed_by db _ now _ known.1 (run.each (d.seen new) (g.met.D.Disk.counts_now new (d.clock (disk_of c.open.new.self.store)) (d.seen new) known.0 run.later (λ b calm. refl))))

pub returns-clause-durable : goal.returns-clause-durable
returns-clause-durable g c = λ db is. c.apply_open.ensures.durable db (c.open.ensures.kept ∙ is)

pub returns-clause-known : goal.returns-clause-known
returns-clause-known g c = λ db is.
    on_ok_into c.apply_open.result _ _
    (λ each. known_now g.D.Disk.is_known _ _ (known_some g.D.Disk.is_known _ db is).0 (each _ (λ b calm. refl)))
    (c.apply_open.ensures.durable db (c.open.ensures.kept ∙ is))

pub returns-then-names_nothing-clause-known : goal.returns-then-names_nothing-clause-known
returns-then-names_nothing-clause-known g c = λ db is. c.open.ensures.kept ∙ is ∙ ap Some (sym (c.names_nothing.ensures c.if-names_nothing.true db))

pub returns-then-names_nothing-clause-crash : goal.returns-then-names_nothing-clause-crash
returns-then-names_nothing-clause-crash g c = λ db is.
    let d = g.D.Disk in
    only_opened d.seen d.touched d.clock d.left_since _ _ _ (c.open.ensures.crash (known_some d.is_known (d.seen (disk_of c.args.self.now.store)) db is).0)

pub returns-then-names_nothing-clause-failed : goal.returns-then-names_nothing-clause-failed
returns-then-names_nothing-clause-failed g c = λ db now is later. tt

pub returns-then-names_nothing-clause-durable : goal.returns-then-names_nothing-clause-durable
returns-then-names_nothing-clause-durable g c = λ db is m image.
    let now = c.open.new.self in
    let ready = now.ready (there_open now.catalog _ c.in_ok-open.ensures.there now.opened) in
    let h = ready_holds now.store db ready (c.open.ensures.kept ∙ is) in
    held_settled now.store db (ready.closed h.known) h.holds m image ∙ ap Some (sym (c.names_nothing.ensures c.if-names_nothing.true db))

pub returns-then-names_nothing-clause-schema : goal.returns-then-names_nothing-clause-schema
returns-then-names_nothing-clause-schema g c = λ s is.
    c.open.ensures.keeps s is ∙ ap Some (sym (known_is_schema c.args.self.now.catalog s is) ∙ ap schema_of (sym (c.names_nothing.ensures c.if-names_nothing.true s)))

pub returns-clause-cause : goal.returns-clause-cause
returns-clause-cause g c = cause_after _ _ _ _ _ c.apply_open.result c.open.ensures.kept c.in_ok-open.ensures.cause.caused c.apply_open.ensures.cause
