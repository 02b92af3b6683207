use Rattle.std.proofs.Common.{rules, ◌≡◌, []}
use Rattle.std.proofs.lemmas.List.{nil_from_length}
use Rattle.monitor.proofs.Walked.{walked}
use Rattle.monitor.proofs.line.parts_of.Goals as goal

pub returns : goal.returns
returns c =
    let nothing : c.loop-rest.rest.now ≡ [] = nil_from_length _ (search rules) in
    walked _ _ _ nothing c.loop-rest.invariant
