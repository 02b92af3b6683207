use Rattle.std.proofs.Common.{◌≡◌, map, drop}
use Rattle.page_chain.specs.Lists.{are_from}
use Rattle.stored_database.specs.Parts.{Part}
use Rattle.catalog_rows.specs.Shown.{part_in}
use Rattle.catalog_rows.proofs.trees.are_in_place.Given as goal

abbrev pub invariant-parts : goal.invariant-parts
invariant-parts l = are_from (λ (p : Part). p.place) 0 (map part_in l.parts) ≡ are_from (λ (p : Part). p.place) l.place (map part_in (drop l.place l.parts))
