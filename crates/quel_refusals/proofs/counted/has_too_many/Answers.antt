use Rattle.quel_refusals.proofs.TooMany.{too_many_listed, too_many_expanded}
use Rattle.quel_refusals.proofs.counted.has_too_many.Goals as goal

pub returns-then-listed-gt-MOST_VARIABLES-clause-known :
    goal.returns-then-listed-gt-MOST_VARIABLES-clause-known
returns-then-listed-gt-MOST_VARIABLES-clause-known g c = λ db h few.
    too_many_listed db c.args.query.now c.in_ok-listed.listed c.in_ok-listed.ensures c.if-listed-gt-MOST_VARIABLES.true

pub returns-clause-known : goal.returns-clause-known
returns-clause-known g c = λ db h few.
    too_many_expanded db c.args.query.now c.in_ok-listed.listed c.in_ok-count.count c.in_ok-listed.ensures c.if-listed-gt-MOST_VARIABLES.false
    (c.in_ok-count.ensures.known db h few)
