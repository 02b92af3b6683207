use Rattle.std.proofs.Common.{sym, ◌∙◌, refl, inl, arith}
use Rattle.batch_file.specs.Staged.{size_of, staged}
use Rattle.batch_file.proofs.Outside.{apart_starts}
use Rattle.batch_store.proofs.Stands.{recovered_added, numbered_added, below_added, noted_so, staged_length, kept_promise}
use Rattle.batch_store.proofs.staging.add.Goals as goal

pub returns-then-k-clause-crash : goal.returns-then-k-clause-crash
returns-then-k-clause-crash g c = λ known.
    let here = apart_starts g.D.Disk.seen g.D.Disk.touched g.D.Disk.clock g.D.Disk.left_since c.args.disk.now (λ m left. g.met.D.Disk.only_now c.args.disk.now m known left) in
    here.run

pub returns-in-Ok-clause-page : goal.returns-in-Ok-clause-page
returns-in-Ok-clause-page g c = λ known.
    recovered_added (g.D.Disk.seen c.args.disk.now) (g.D.Disk.seen c.add.new.disk) c.args.batch.now c.add.new.self c.args.a c.args.page.now c.requires.place (c.add.ensures.change known).elsewhere (c.in-Ok.ensures.added known)

pub returns-in-Ok-clause-below : goal.returns-in-Ok-clause-below
returns-in-Ok-clause-below g c =
    let updates = kept_promise c.insert.result _ (sym c.is_err.ensures.value ∙ c.if-is_err.false) c.insert.ensures.updates in
    below_added c.args.numbers.now c.insert.new.self c.args.batch.now c.add.new.self c.args.a (noted_so c.args.numbers.now c.insert.new.self c.args.a c.count-k.result (size_of c.args.batch.now) c.count-k.ensures updates.0)
    c.requires.below c.in-Ok.ensures.count

pub returns-in-Ok-clause-numbered : goal.returns-in-Ok-clause-numbered
returns-in-Ok-clause-numbered g c = λ known.
    let updates = kept_promise c.insert.result _ (sym c.is_err.ensures.value ∙ c.if-is_err.false) c.insert.ensures.updates in
    let m = g.D.Disk.seen c.args.disk.now in
    let size = c.count-k.ensures ∙ sym (staged_length m c.args.batch.now) in
    numbered_added c.args.numbers.now c.insert.new.self (staged m c.args.batch.now) (staged (g.D.Disk.seen c.add.new.disk) c.add.new.self) c.args.a c.args.page.now
    (noted_so c.args.numbers.now c.insert.new.self c.args.a c.count-k.result _ size updates.0) (c.requires.numbered known) (c.in-Ok.ensures.added known)

pub returns-then-k-clause-shut : goal.returns-then-k-clause-shut
returns-then-k-clause-shut g c = c.requires.shut

pub returns-then-k-clause-change : goal.returns-then-k-clause-change
returns-then-k-clause-change g c = λ known. record { elsewhere = λ b other. refl; touches = λ b touched. inl touched }

pub returns-then-k-clause-cause : goal.returns-then-k-clause-cause
returns-then-k-clause-cause g c = record { later = omega arith; caused = refl }

pub returns-in-Ok-clause-shut : goal.returns-in-Ok-clause-shut
returns-in-Ok-clause-shut g c = c.add.ensures.shut

pub returns-in-Ok-clause-change : goal.returns-in-Ok-clause-change
returns-in-Ok-clause-change g c = c.add.ensures.change

pub returns-in-Ok-clause-crash : goal.returns-in-Ok-clause-crash
returns-in-Ok-clause-crash g c = c.add.ensures.crash

pub returns-in-Err-clause-shut : goal.returns-in-Err-clause-shut
returns-in-Err-clause-shut g c = c.add.ensures.shut

pub returns-in-Err-clause-change : goal.returns-in-Err-clause-change
returns-in-Err-clause-change g c = c.add.ensures.change

pub returns-in-Err-clause-crash : goal.returns-in-Err-clause-crash
returns-in-Err-clause-crash g c = c.add.ensures.crash

pub returns-in-Ok-clause-held : goal.returns-in-Ok-clause-held
returns-in-Ok-clause-held g c = c.in-Ok.ensures.held

pub returns-in-Ok-clause-cause : goal.returns-in-Ok-clause-cause
returns-in-Ok-clause-cause g c = record { later = c.add.ensures.cause.later; caused = c.in-Ok.ensures.cause.answered }

pub returns-in-Err-clause-cause : goal.returns-in-Err-clause-cause
returns-in-Err-clause-cause g c = record { later = c.add.ensures.cause.later; caused = c.in-Err.ensures.cause.failed }
