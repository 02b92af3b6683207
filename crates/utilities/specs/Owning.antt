-- Catalogues by the name of the administrator, whose they are.
use Rattle.std.specs.Prelude.{ℕ, Bool, ◌||◌, List, codes}
use Rattle.calculus.specs.declared.query.RelKey.{RelKey}
use Rattle.calculus.specs.Keys.{key_of, same_key}

-- the key is that of a catalogue, where this is the administrator
abbrev pub is_catalogue_of : List ℕ → RelKey → Bool
is_catalogue_of dba key = same_key key (key_of dba (codes "relation")) || same_key key (key_of dba (codes "attribute"))
