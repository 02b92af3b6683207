use Rattle.std.proofs.Common.{◌≡◌, ◌∙◌, true, false, sym}
use Rattle.stage_parse.proofs.Meanings.{if_ok_to}
use Rattle.stage_parse.proofs.refusing.refused.Goals as goal

pub returns-in-Some-clause-known : goal.returns-in-Some-clause-known
returns-in-Some-clause-known c = λ known. rw c.in-Some.is at c.in_ok-found.ensures.some

pub returns-in-Some-clause-some : goal.returns-in-Some-clause-some
returns-in-Some-clause-some c = (c.args.code, rw c.in-Some.is at c.in_ok-found.ensures.some)

pub returns-in-None-clause-known : goal.returns-in-None-clause-known
returns-in-None-clause-known c = λ known.
    let both : true ≡ false = sym known ∙ (rw c.in-None.is at c.in_ok-found.ensures.none) in
    absurd (cc both)

pub returns-in-None-clause-some : goal.returns-in-None-clause-some
returns-in-None-clause-some c = if_ok_to c.refused_by.result (λ m h. (14, h)) c.refused_by.ensures
