use Rattle.quel_refusals.proofs.Stored.{by_depth, by_level, by_size}
use Rattle.quel_refusals.proofs.viewed.is_too_large.Goals as goal

pub returns-then-size-gt-MOST_SIZE-clause-known :
    goal.returns-then-size-gt-MOST_SIZE-clause-known
returns-then-size-gt-MOST_SIZE-clause-known g c = λ db h none few.
    by_size db c.args.q.now c.in_ok-size.size (c.in_ok-size.ensures.known db h few) c.if-size-gt-MOST_SIZE.true

pub returns-then-high-clause-known : goal.returns-then-high-clause-known
returns-then-high-clause-known g c = λ db h none few.
    by_level db c.args.q.now c.in_ok-size.size c.in_ok-high.high (c.in_ok-size.ensures.known db h few) c.if-size-gt-MOST_SIZE.false
    (c.in_ok-high.ensures.known db (c.in_ok-size.ensures.stays _ h)) c.if-high.true

pub returns-clause-known : goal.returns-clause-known
returns-clause-known g c = λ db h none few.
    by_depth db c.args.q.now c.in_ok-size.size c.in_ok-high.high c.is_too_deep.result (c.in_ok-size.ensures.known db h few) c.if-size-gt-MOST_SIZE.false
    (c.in_ok-high.ensures.known db (c.in_ok-size.ensures.stays _ h)) c.if-high.false (c.is_too_deep.ensures none)
