use Rattle.std.proofs.Common.{◌≡◌, map, take}
use Rattle.std.specs.Prelude.{slice_get}
use Rattle.stage_proc.proofs.kinds.placed.Given as goal

abbrev pub invariant-loop-place : goal.invariant-loop-place
invariant-loop-place l = l.wanted.items ≡ map (slice_get l.kinds) (take l.place-index l.places)
