-- The keys of structures.
use Rattle.std.specs.Prelude.{ℕ, true, false, List, [], ◌∷◌}
use Rattle.calculus.specs.declared.schema.Spec.{Spec}
use Rattle.calculus.specs.Structures.{is_keyed}

-- the first attribute where none is named
abbrev pub first_or_these : List ℕ → List ℕ
first_or_these [] = 0 ∷ []
first_or_these (k ∷ keys) = k ∷ keys

-- the places of the keys of a structure: of one with keys those that are named, or the first attribute; else none
abbrev pub structure_keys : Spec → List ℕ → List ℕ
structure_keys to places = elim (is_keyed to) [ true ↦ first_or_these places | false ↦ [] ]
