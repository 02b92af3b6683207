-- What a loop that went past some bytes still finds.
use Rattle.std.proofs.Common.{ℕ, ◌+◌, Option}
use Rattle.std.specs.Prelude.{option_map}

-- the length where this many bytes were passed
abbrev pub passed : ℕ → Option ℕ → Option ℕ
passed k o = option_map (λ n. n + k) o
