-- What is said of the variables of a query and of an update, each by its place and what it ranges over.
use Rattle.std.specs.Prelude.{◌≡◌, ℕ, ◌==◌, Bool, true, false, cond, nat_le, List, [], ◌∷◌, slice_get, Option, Some, None}
use Rattle.calculus.specs.declared.query.RelKey.{RelKey}
use Rattle.calculus.specs.declared.query.Query.{Query}
use Rattle.calculus.specs.declared.request.Update.{Update}
use Rattle.calculus.specs.Who.{Who}
use Rattle.calculus.specs.Database.{Db}
use Rattle.calculus.specs.Lists.{is_any}
use Rattle.calculus.specs.Rights.{Right, Retrieve, permitted}
use Rattle.calculus.specs.Used.{used_in_query}
use Rattle.calculus.specs.Assignments.{changed}
use Rattle.calculus.specs.Sizes.{measure_of}
use Rattle.calculus.specs.Permission.{readable, change_permitted}
use Rattle.view_text.specs.declared.expansion.Expansion.{Expansion}
use Rattle.view_text.specs.Expansions.{used_expansion}
use Rattle.view_text.specs.ExpansionOf.{expansion_of}
use Rattle.view_text.specs.Expanded.{update_expansion}

-- ---- of a query

-- the expansion of a variable
abbrev pub read_expansion : Db → Who → Query → ℕ × RelKey → Expansion
read_expansion db who q p = used_expansion (expansion_of db who) p.1 (used_in_query p.0 q)

-- a variable may be read, where it is used
abbrev pub may_be_read : Db → Who → Query → ℕ × RelKey → Bool
may_be_read db who q p = cond (is_any (used_in_query p.0 q)) (readable db who p.1 (used_in_query p.0 q)) true

-- a variable that is used has few variables once the views in it are expanded
abbrev pub is_small : Db → Query → ℕ × RelKey → Bool
is_small db q p = cond (is_any (used_in_query p.0 q)) (nat_le (measure_of db p.1).variables 256) true

-- ---- of an update

-- the right to change the variable at a place; none where its rows stay
abbrev pub changed_by : Update → ℕ → Option Right
changed_by u v = elim (changed u) [ None ↦ None | Some c ↦ elim (c.0 == v) [ true ↦ Some c.1 | false ↦ None ] ]

-- the expansion of a variable
abbrev pub expansion_in : Db → Who → Update → ℕ × RelKey → Expansion
expansion_in db who u p = update_expansion db who u p.0 p.1

-- a variable may be so changed, and else be read
abbrev pub may_be_used : Db → Who → Update → ℕ × RelKey → Bool
may_be_used db who u p = elim (changed_by u p.0) [
  | None ↦ may_be_read db who u.query p
  | Some right ↦ change_permitted db who right u.places p.1 (used_in_query p.0 u.query)
]

-- a variable that is used, and stays, has few variables once the views in it are expanded
abbrev pub is_small_in : Db → Update → ℕ × RelKey → Bool
is_small_in db u p = elim (changed_by u p.0) [ None ↦ is_small db u.query p | Some right ↦ true ]

-- these attributes may be read, where there are any
abbrev pub read_permitted : Db → Who → List ℕ → RelKey → Bool
read_permitted db who [] key = true
read_permitted db who (a ∷ attrs) key = permitted db who Retrieve (a ∷ attrs) key

-- ---- what is refused

-- of variables that range over these, the one at this place is not what is asked
abbrev pub IsRefusedAt : (ℕ × RelKey → Bool) → List RelKey → ℕ → Type 0
IsRefusedAt may keys var = (key : RelKey) × (slice_get keys var ≡ Some key) × (may (var, key) ≡ false)
