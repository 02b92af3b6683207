use Rattle.std.proofs.Common.{◌≡◌, take, find, option_map}
use Rattle.calculus.specs.declared.query.RelKey.{RelKey}
use Rattle.calculus.specs.Keys.{same_key}
use Rattle.catalog_moves.specs.Files.{place_at, place_in}
use Rattle.catalog_moves.proofs.files.reading.put_all.Given as goal

abbrev pub invariant-loop-entry : goal.invariant-loop-entry
invariant-loop-entry l = (key : RelKey) → place_at l.table.places.items key ≡ option_map place_in (find (λ e. same_key e.key key) (take l.entry-index l.entries))
