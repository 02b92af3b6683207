-- What the structures are, in words: which are those of base relations, and which of these have keys.
use Rattle.std.specs.Prelude.{ℕ, Bool, true, false, List, codes}
use Rattle.calculus.specs.declared.schema.Spec.{Spec}
use Rattle.calculus.specs.declared.schema.Spec.TheVariants.{Heap, Hash, Isam, View, Index}

-- a structure of a base relation
abbrev pub is_structure : Spec → Bool
is_structure Heap = true
is_structure Hash = true
is_structure Isam = true
is_structure View = false
is_structure Index = false

-- a structure of a base relation whose rows lie by their keys
abbrev pub is_keyed : Spec → Bool
is_keyed Heap = false
is_keyed Hash = true
is_keyed Isam = true
is_keyed View = false
is_keyed Index = false

-- a view
abbrev pub is_view : Spec → Bool
is_view Heap = false
is_view Hash = false
is_view Isam = false
is_view View = true
is_view Index = false

-- a secondary index
abbrev pub is_index : Spec → Bool
is_index Heap = false
is_index Hash = false
is_index Isam = false
is_index View = false
is_index Index = true

-- what it is, in a word
abbrev pub spec_text : Spec → List ℕ
spec_text Heap = codes "heap"
spec_text Hash = codes "hash"
spec_text Isam = codes "isam"
spec_text View = codes "view"
spec_text Index = codes "index"
