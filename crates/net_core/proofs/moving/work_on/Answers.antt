use Rattle.net_core.proofs.moving.work_on.Goals as goal

pub returns-in_err-work-clause-unlawful : goal.returns-in_err-work-clause-unlawful
returns-in_err-work-clause-unlawful g c = λ user x u. c.in_err-work.ensures.unlawful user x (let h = rw u at c.from_residual.ensures.1 in cc)
