-- The cells of a line without the bar at its front, a bar behind each.
use Rattle.std.specs.Prelude.{ℕ, List, [], ◌∷◌, ◌++◌, map, zip, flat_map, replicate}
use Rattle.calculus.specs.declared.reply.Column.{Column}
use Rattle.calculus.specs.Rows.{Row}
use Rattle.quel_meaning.specs.Printed.{column_width, at_left, cell_text}

-- these cells, a bar behind each
abbrev pub cells_with_bars : List (List ℕ) → List ℕ
cells_with_bars cells = flat_map (λ cell. cell ++ 124 ∷ []) cells

-- the cells of the titles
abbrev pub title_cells : List Column → List ℕ
title_cells columns = cells_with_bars (map (λ c. at_left (column_width c) c.name) columns)

-- the cells of the rule line
abbrev pub rule_cells : List Column → List ℕ
rule_cells columns = cells_with_bars (map (λ c. replicate (column_width c) 45) columns)

-- the cells of a row
abbrev pub row_cells : List Column → Row → List ℕ
row_cells columns row = cells_with_bars (map (λ p. cell_text p.0 p.1) (zip columns row))
