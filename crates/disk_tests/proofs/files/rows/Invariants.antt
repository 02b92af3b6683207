use Rattle.std.specs.Prelude.{All, IsTrue, [], ◌∷◌}
use Rattle.calculus.specs.declared.value.Domain.TheVariants.{I2}
use Rattle.page_cells.specs.RowBytes.{is_row}
use Rattle.disk_tests.proofs.files.rows.Given as goal

abbrev pub invariant-loop-n : goal.invariant-loop-n
invariant-loop-n g l = All (λ row. IsTrue (is_row row (I2 ∷ []))) l.rows.items
