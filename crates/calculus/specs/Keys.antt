-- Keys: what names a relation, a view, an index or a catalogue, and their order.
use Rattle.std.specs.Prelude.{ℕ, Bool, ◌&&◌, List, bytes_eq}
use Rattle.std.specs.List.{list_any}
use Rattle.std.specs.Cmp.Lexicographic.{slice_cmp}
use Rattle.std.specs.Ordering.{nat_cmp, ordering_then}
use Rattle.std.specs.declared.cmp.Ordering.{Ordering}
use Rattle.calculus.specs.declared.query.RelKey.{RelKey}

-- the key of this owner and name
abbrev pub key_of : List ℕ → List ℕ → RelKey
key_of owner name = record { owner = owner; name = name }

-- the two keys have one owner and one name
abbrev pub same_key : RelKey → RelKey → Bool
same_key a b = bytes_eq a.owner b.owner && bytes_eq a.name b.name

-- the key is one of these
abbrev pub has_key : List RelKey → RelKey → Bool
has_key keys key = list_any (same_key key) keys

-- by owner, then by name
abbrev pub key_cmp : RelKey → RelKey → Ordering
key_cmp a b = ordering_then (slice_cmp nat_cmp a.owner b.owner) (slice_cmp nat_cmp a.name b.name)

-- rules or permits by relation, then by number
abbrev pub numbered_cmp : {X : Type 0} → (X → ℕ) → (RelKey × X) → (RelKey × X) → Ordering
numbered_cmp number a b = ordering_then (key_cmp a.0 b.0) (nat_cmp (number a.1) (number b.1))
