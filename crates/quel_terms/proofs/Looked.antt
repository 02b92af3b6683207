-- What a table has for a word.
use Rattle.std.proofs.Common.{◌≡◌, ℕ, Bool, true, false, cond, List, [], ◌∷◌, map, Option, Some, Bor, refl}
use Rattle.std.specs.Prelude.{option_map}
use Rattle.std.specs.List.{find}
use Rattle.std.specs.Str.{bytes_eq}
use Rattle.quel_grammar.specs.Reading.{look_up}

-- an entry as it is seen
abbrev pub seen : {X : Type 0} → Bor (List ℕ) × X → List ℕ × X
seen e = (e.0.now, e.1)

either : {X : Type 0} (b : Bool) (e : Bor (List ℕ) × X) (o : Option (Bor (List ℕ) × X)) (p : Option X) → option_map (λ e. e.1) o ≡ p
    → option_map (λ e. e.1) (cond b (Some e) o) ≡ elim b [ true ↦ Some e.1 | false ↦ p ]
either true e o p h = refl
either false e o p h = h

-- the value beside the first spelling that is the word
pub looked : {X : Type 0} (table : List (Bor (List ℕ) × X)) (w : List ℕ) → option_map (λ e. e.1) (find (λ e. bytes_eq w e.0.now) table) ≡ look_up (map (λ e. (e.0.now, e.1)) table) w
unfolding look_up
looked [] w = refl
looked (e ∷ table) w = either (bytes_eq w e.0.now) e _ _ (looked table w)

mapped_one : {X Y : Type 0} (f : X → Y) (b : Bool) (x : X) (o : Option X) (p : Option Y) → option_map f o ≡ p
    → option_map f (elim b [ true ↦ Some x | false ↦ o ]) ≡ elim b [ true ↦ Some (f x) | false ↦ p ]
mapped_one f true x o p h = refl
mapped_one f false x o p h = h

-- looking up and then changing what was found is looking up in the changed table
pub mapped : {X Y : Type 0} (f : X → Y) (table : List (List ℕ × X)) (w : List ℕ) → option_map f (look_up table w) ≡ look_up (map (λ e. (e.0, f e.1)) table) w
unfolding look_up
mapped f [] w = refl
mapped f (e ∷ table) w = mapped_one f (bytes_eq w e.0) e.1 _ _ (mapped f table w)
