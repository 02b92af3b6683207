use Rattle.std.proofs.Common.{sym, ◌∙◌, subst}
use Rattle.batch_file.specs.Staged.{staged}
use Rattle.batch_store.proofs.Stands.{recovered_renewed, numbered_renewed}
use Rattle.batch_store.specs.Numbers.{AreBelow}
use Rattle.batch_store.proofs.staging.renew.Goals as goal

pub returns-in-Ok-clause-page : goal.returns-in-Ok-clause-page
returns-in-Ok-clause-page g c = λ known.
    recovered_renewed (g.D.Disk.seen c.args.disk.now) (g.D.Disk.seen c.renew.new.disk) c.args.batch.now c.renew.new.self c.args.i c.args.a c.args.page.now c.requires.place (c.renew.ensures.change known).elsewhere
    (sym (c.requires.numbered known c.args.a) ∙ c.requires.noted) (c.in-Ok.ensures.renewed known)

pub returns-in-Ok-clause-numbered : goal.returns-in-Ok-clause-numbered
returns-in-Ok-clause-numbered g c = λ known.
    numbered_renewed c.args.numbers.now (staged (g.D.Disk.seen c.args.disk.now) c.args.batch.now) (staged (g.D.Disk.seen c.renew.new.disk) c.renew.new.self) c.args.i c.args.page.now (c.requires.numbered known) (c.in-Ok.ensures.renewed known)

pub returns-in-Ok-clause-shut : goal.returns-in-Ok-clause-shut
returns-in-Ok-clause-shut g c = c.renew.ensures.shut

pub returns-in-Ok-clause-change : goal.returns-in-Ok-clause-change
returns-in-Ok-clause-change g c = c.renew.ensures.change

pub returns-in-Ok-clause-crash : goal.returns-in-Ok-clause-crash
returns-in-Ok-clause-crash g c = c.renew.ensures.crash

pub returns-in-Ok-clause-below : goal.returns-in-Ok-clause-below
returns-in-Ok-clause-below g c = subst (AreBelow c.args.numbers.now) (sym c.renew.ensures.same) c.requires.below

pub returns-in-Err-clause-shut : goal.returns-in-Err-clause-shut
returns-in-Err-clause-shut g c = c.renew.ensures.shut

pub returns-in-Err-clause-change : goal.returns-in-Err-clause-change
returns-in-Err-clause-change g c = c.renew.ensures.change

pub returns-in-Err-clause-crash : goal.returns-in-Err-clause-crash
returns-in-Err-clause-crash g c = c.renew.ensures.crash

pub returns-in-Err-clause-below : goal.returns-in-Err-clause-below
returns-in-Err-clause-below g c = subst (AreBelow c.args.numbers.now) (sym c.renew.ensures.same) c.requires.below

pub returns-in-Ok-clause-held : goal.returns-in-Ok-clause-held
returns-in-Ok-clause-held g c = c.in-Ok.ensures.held

pub returns-in-Ok-clause-cause : goal.returns-in-Ok-clause-cause
returns-in-Ok-clause-cause g c = record { later = c.renew.ensures.cause.later; caused = c.in-Ok.ensures.cause.answered }

pub returns-in-Err-clause-cause : goal.returns-in-Err-clause-cause
returns-in-Err-clause-cause g c = record { later = c.renew.ensures.cause.later; caused = c.in-Err.ensures.cause.failed }
