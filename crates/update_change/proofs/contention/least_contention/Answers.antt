use Rattle.std.proofs.Common.{rules}
use Rattle.update_change.proofs.Contended.{uncontended, contended-at}
use Rattle.update_change.proofs.contention.least_contention.Goals as goal

pub returns-in_default : goal.returns-in_default
returns-in_default c = λ ps same. uncontended ps c.args.all.now c.requires same (search rules)

pub returns : goal.returns
returns c = λ ps same.
    let is = contended-at ps c.args.all.now c.in-Some.place c.index-all-place.result c.index-all-place-2.result
    c.in_ok-old.old c.in_ok-old.first c.in_ok-old.second c.requires same (search rules)
    (search rules) (search rules) (search rules) (search rules) (search rules) in
    (is.is, is.least)
