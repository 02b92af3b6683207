-- Those of a list that a test picks, one after the other.
use Rattle.std.proofs.Common.{◌≡◌, sym, ap, ◌∙◌, ℕ, ◌+◌, ◌<◌, Bool, true, false, List, [], ◌∷◌, ◌++◌, append_assoc, cond, filter, map, length, take, get_or}
use Rattle.std.proofs.lemmas.List.{map-append}
use Rattle.std.proofs.lemmas.List.Elements.{filter_more}

-- one more is looked at, and put behind the others where it is picked
pub picked_more : {X Y : Type 0} (f : X → Y) (p : X → Bool) (xs : List X) (i : ℕ) (x : X) (given before after : List Y) → i < length xs → x ≡ get_or xs i x
    → before ≡ given ++ map f (filter p (take i xs)) → after ≡ before ++ cond (p x) (f x ∷ []) [] → after ≡ given ++ map f (filter p (take (i + 1) xs))
picked_more {X = X} {Y = Y} f p xs i x given before after h is so_far more =
    more ∙ ap (λ (ys : List Y). ys ++ cond (p x) (f x ∷ []) []) so_far ∙ append_assoc given (map f front) (cond (p x) (f x ∷ []) [])
    ∙ ap (λ (ys : List Y). given ++ ys) (sym (ap (map f) (filter_more p xs i x h ∙ ap (λ (y : X). front ++ cond (p y) (y ∷ []) []) (sym is)) ∙ mapped (p x)))
  where
    front : List X
    front = filter p (take i xs)

    mapped : (b : Bool) → map f (front ++ cond b (x ∷ []) []) ≡ map f front ++ cond b (f x ∷ []) []
    mapped true = map-append f front (x ∷ [])
    mapped false = map-append f front []
