-- A list that is made of another, one item after the other.
use Rattle.std.proofs.Common.{◌≡◌, sym, ap, ◌∙◌, ℕ, ◌+◌, ◌<◌, List, [], ◌∷◌, ◌++◌, map, length, take, get_or}
use Rattle.std.proofs.lemmas.List.{map-append, take_more}

pub mapped_more : {X Y : Type 0} (f : X → Y) (xs : List X) (i : ℕ) (x : X) (y : Y) (before after : List Y) → i < length xs → x ≡ get_or xs i x
    → before ≡ map f (take i xs) → after ≡ before ++ y ∷ [] → y ≡ f x → after ≡ map f (take (i + 1) xs)
mapped_more {X = X} f xs i x y before after h is so_far more made =
    more ∙ (λ j. so_far j ++ made j ∷ []) ∙ sym (ap (map f) (take_more xs i x h ∙ ap (λ (z : X). take i xs ++ z ∷ []) (sym is)) ∙ map-append f (take i xs) (x ∷ []))
