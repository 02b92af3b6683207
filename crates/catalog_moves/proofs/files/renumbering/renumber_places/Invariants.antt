use Rattle.std.proofs.Common.{◌≡◌, ◌++◌, map, take, drop}
use Rattle.catalog_moves.specs.Renumbered.{renumbered_place}
use Rattle.catalog_moves.proofs.files.renumbering.renumber_places.Given as goal

abbrev pub invariant-loop-lies : goal.invariant-loop-lies
invariant-loop-lies l = l.lies-items ≡ map (renumbered_place l.key l.old l.file l.used) (take l.lies-index l.initial.lies-items) ++ drop l.lies-index l.initial.lies-items
