use Rattle.std.proofs.Common.{ap, ◌∙◌, map}
use Rattle.std.proofs.lemmas.List.{take_all}
use Rattle.std.specs.Prelude.{slice_get}
use Rattle.stage_proc.proofs.kinds.placed.Goals as goal

pub returns : goal.returns
returns c = c.loop-place.invariant ∙ ap (map (slice_get c.args.kinds.now)) (take_all c.loop-place.place-index c.args.places.now c.loop-place-test.false)
