-- How many levels more a checked tree may get by what is put in.
use Rattle.std.specs.Prelude.{ℕ}

-- how many levels more a tree may get by views, permits and rules
abbrev pub most_put_in_levels : ℕ
most_put_in_levels = 1160
