use Rattle.batch_store.proofs.staging.stage.Goals as goal

pub returns-in-Some-clause-page : goal.returns-in-Some-clause-page
returns-in-Some-clause-page g c = c.renew.ensures.page

pub returns-in-Some-clause-held : goal.returns-in-Some-clause-held
returns-in-Some-clause-held g c = c.renew.ensures.held

pub returns-in-Some-clause-numbered : goal.returns-in-Some-clause-numbered
returns-in-Some-clause-numbered g c = c.renew.ensures.numbered

pub returns-in-Some-clause-shut : goal.returns-in-Some-clause-shut
returns-in-Some-clause-shut g c = c.renew.ensures.shut

pub returns-in-Some-clause-change : goal.returns-in-Some-clause-change
returns-in-Some-clause-change g c = c.renew.ensures.change

pub returns-in-Some-clause-crash : goal.returns-in-Some-clause-crash
returns-in-Some-clause-crash g c = c.renew.ensures.crash

pub returns-in-Some-clause-cause : goal.returns-in-Some-clause-cause
returns-in-Some-clause-cause g c = c.renew.ensures.cause

pub returns-in-None-clause-page : goal.returns-in-None-clause-page
returns-in-None-clause-page g c = c.add.ensures.page

pub returns-in-None-clause-below : goal.returns-in-None-clause-below
returns-in-None-clause-below g c = c.add.ensures.below

pub returns-in-None-clause-held : goal.returns-in-None-clause-held
returns-in-None-clause-held g c = c.add.ensures.held

pub returns-in-None-clause-numbered : goal.returns-in-None-clause-numbered
returns-in-None-clause-numbered g c = c.add.ensures.numbered

pub returns-in-None-clause-shut : goal.returns-in-None-clause-shut
returns-in-None-clause-shut g c = c.add.ensures.shut

pub returns-in-None-clause-change : goal.returns-in-None-clause-change
returns-in-None-clause-change g c = c.add.ensures.change

pub returns-in-None-clause-crash : goal.returns-in-None-clause-crash
returns-in-None-clause-crash g c = c.add.ensures.crash

pub returns-in-None-clause-cause : goal.returns-in-None-clause-cause
returns-in-None-clause-cause g c = c.add.ensures.cause
