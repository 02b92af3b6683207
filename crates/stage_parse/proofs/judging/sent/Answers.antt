use Rattle.stage_parse.proofs.Meanings.{refusal_shaped, tree_sent, tree_shaped}
use Rattle.stage_parse.proofs.judging.sent.Goals as goal

pub returns-in-Some-clause-shaped : goal.returns-in-Some-clause-shaped
returns-in-Some-clause-shaped c =
    let it = rw c.in-Some.is at c.in_ok-found.ensures.some in
    tree_shaped c.in-Some.read c.in-Some.bytes it.fits it.bytes_are

pub returns-in-Some-clause-sends : goal.returns-in-Some-clause-sends
returns-in-Some-clause-sends c = λ fits.
    let it = rw c.in-Some.is at c.in_ok-found.ensures.some in
    tree_sent c.args.tree.now c.in-Some.read c.in-Some.bytes it.fits it.bytes_are (it.same fits)

pub returns-in_ok-refused_by-in-None-clause-shaped : goal.returns-in_ok-refused_by-in-None-clause-shaped
returns-in_ok-refused_by-in-None-clause-shaped c = refusal_shaped 14 c.args.line _ c.in_ok-refused_by-in-None.ensures

pub returns-in_ok-refused_by-in-None-clause-sends : goal.returns-in_ok-refused_by-in-None-clause-sends
returns-in_ok-refused_by-in-None-clause-sends c = λ fits. absurd ((rw c.in-None.is at c.in_ok-found.ensures.none) fits)
