-- Members, order and differences of lists.
use Rattle.std.specs.Prelude.{ℕ, nat_eq, Bool, true, false, not, ◌&&◌, List, [], ◌∷◌}
use Rattle.std.specs.List.{list_any}
use Rattle.std.specs.declared.cmp.Ordering.{Ordering}
use Rattle.std.specs.declared.cmp.Ordering.TheVariants.{Less, Equal, Greater}

-- there is an item
abbrev pub is_any : {X : Type 0} → List X → Bool
is_any [] = false
is_any (x ∷ xs) = true

-- the number is one of these
abbrev pub has_number : List ℕ → ℕ → Bool
has_number numbers n = list_any (λ m. nat_eq m n) numbers

-- the item in its place among ascending ones; one that is equal to it gives way
abbrev pub insert_by : {X : Type 0} → (X → X → Ordering) → X → List X → List X
insert_by cmp x [] = x ∷ []
insert_by cmp x (y ∷ ys) = elim (cmp x y) [ Less ↦ x ∷ y ∷ ys | Equal ↦ x ∷ ys | Greater ↦ y ∷ insert_by cmp x ys ]

-- no two of these items are the same
abbrev pub differ_by : {X : Type 0} → (X → X → Bool) → List X → Bool
differ_by same [] = true
differ_by same (x ∷ xs) = not (list_any (same x) xs) && differ_by same xs
