use Rattle.std.proofs.Common.{◌≡◌, ◌++◌, map, drop}
use Rattle.std.specs.List.{concat}
use Rattle.stored_database.specs.Parts.{Part}
use Rattle.catalog_rows.specs.Shown.{part_in}
use Rattle.catalog_rows.proofs.trees.together.Given as goal

abbrev pub invariant-parts : goal.invariant-parts
invariant-parts l = l.bytes.items ++ concat (map (λ (p : Part). p.bytes) (map part_in (drop l.part-index l.parts))) ≡ concat (map (λ (p : Part). p.bytes) (map part_in l.parts))
