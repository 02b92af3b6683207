-- What holds of each item of a list that is made of another.
use Rattle.std.proofs.Common.{◌≡◌, refl, List, [], ◌∷◌, Option, Some, None}
use Rattle.std.specs.Prelude.{filter_map}
use Rattle.std.specs.List.{cons_option}
use Rattle.quel_meaning.proofs.Each.{Each}

pub in_filter_map : {X Y : Type 0} (P : X → Type 0) (Q : Y → Type 0) (f : X → Option Y) → ((x : X) → P x → (y : Y) → f x ≡ Some y → Q y) → (xs : List X) → Each P xs → Each Q (filter_map f xs)
in_filter_map P Q f g [] h = tt
in_filter_map {X} {Y} P Q f g (x ∷ xs) h = go (f x) refl (in_filter_map P Q f g xs h.1)
  where
    go : (o : Option Y) → f x ≡ o → Each Q (filter_map f xs) → Each Q (cons_option o (filter_map f xs))
    go None e later = later
    go (Some y) e later = (g x h.0 y e, later)

pub two_each : {X : Type 0} (P Q : X → Type 0) (xs : List X) → Each P xs → Each Q xs → Each (λ x. P x × Q x) xs
two_each P Q [] p q = tt
two_each P Q (x ∷ xs) p q = ((p.0, q.0), two_each P Q xs p.1 q.1)
