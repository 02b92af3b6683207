use Rattle.batch_file.proofs.restoring.is_open.Goals as goal

pub returns-clause-opened : goal.returns-clause-opened
returns-clause-opened g c = λ known. rw (c.in_ok-found.ensures.page known) c.opens.ensures
