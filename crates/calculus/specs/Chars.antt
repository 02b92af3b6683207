-- What stands between the quotes of a text constant.
use Rattle.std.specs.Prelude.{ℕ, Bool, List, length, nat_le, ◌&&◌}
use Rattle.std.specs.List.{list_all}

-- a byte from 32 to 126
abbrev pub is_printable : ℕ → Bool
is_printable b = nat_le 32 b && nat_le b 126

-- at most 255 bytes, each from 32 to 126
unfoldable pub is_chars : List ℕ → Bool
is_chars bytes = nat_le (length bytes) 255 && list_all is_printable bytes
