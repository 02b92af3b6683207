-- How many newlines stand before a place.
use Rattle.std.specs.Prelude.{◌≡◌, ℕ, ◌==◌, List, length, filter, take}
use Rattle.stage_parse.specs.declared.counted.Counted.{Counted}

-- the number of newlines in a text
abbrev pub newlines : List ℕ → ℕ
newlines text = length (filter (λ b. b == 10) text)

-- so many newlines of the text stand before the place
abbrev pub IsCounted : List ℕ → Counted → Type 0
IsCounted text c = c.newlines ≡ newlines (take c.place text)
