use Rattle.std.proofs.Common.{◌≡◌, not, drop}
use Rattle.std.specs.List.{list_all}
use Rattle.calculus.specs.Structures.{is_index}
use Rattle.stored_database.specs.Spelled.{entry_is}
use Rattle.catalog_read.specs.Read.{catalogue_shown}
use Rattle.catalog_read.proofs.standing.all_columns_stand.Given as goal

abbrev pub invariant-loop-column : goal.invariant-loop-column
invariant-loop-column l =
    list_all (λ c. entry_is (λ s. not (is_index s)) (catalogue_shown l.rows) c.file) (drop l.column-index l.columns) ≡ list_all (λ c. entry_is (λ s. not (is_index s)) (catalogue_shown l.rows) c.file) l.columns
