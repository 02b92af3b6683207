use Rattle.std.proofs.Common.{◌≡◌, drop}
use Rattle.std.specs.List.{list_all}
use Rattle.stored_database.specs.Spelled.{part_stands}
use Rattle.catalog_rows.specs.Shown.{part_in}
use Rattle.catalog_read.specs.Read.{catalogue_shown}
use Rattle.catalog_read.proofs.standing.all_parts_stand.Given as goal

abbrev pub invariant-loop-part : goal.invariant-loop-part
invariant-loop-part l = list_all (λ p. part_stands (catalogue_shown l.rows) (part_in p)) (drop l.part-index l.parts) ≡ list_all (λ p. part_stands (catalogue_shown l.rows) (part_in p)) l.parts
