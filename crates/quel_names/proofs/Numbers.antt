-- The first number that is there, of one list behind another.
use Rattle.std.proofs.Common.{◌≡◌, refl, sym, ap, ◌∙◌, ℕ, ◌+◌, ◌<◌, add-one, true, List, [], ◌∷◌, ◌++◌, map, drop, length, get_or, Option, Some, None, is_some}
use Rattle.std.specs.List.{flat_map}
use Rattle.std.proofs.Math.Seq.{drop-cons}
use Rattle.std.specs.Option.{option_or}
use Rattle.std.proofs.lemmas.List.{map-append}
use Rattle.quel_meaning.specs.Naming.{Mention, first_number}

first_in_both : (ns ms : List (Option ℕ)) → first_number (ns ++ ms) ≡ option_or (first_number ns) (first_number ms)
first_in_both [] ms = refl
first_in_both (None ∷ ns) ms = first_in_both ns ms
first_in_both (Some n ∷ ns) ms = refl

-- of two lists of names the first refuses, and where none does the second
pub first_of_both : (f : Mention → Option ℕ) (xs ys : List Mention) → first_number (map f (xs ++ ys)) ≡ option_or (first_number (map f xs)) (first_number (map f ys))
first_of_both f xs ys = ap first_number (map-append f xs ys) ∙ first_in_both (map f xs) (map f ys)

-- where none of the first refuses, the second do
pub after_none : (f : Mention → Option ℕ) (xs ys : List Mention) → first_number (map f xs) ≡ None → first_number (map f ys) ≡ first_number (map f (xs ++ ys))
after_none f xs ys h = sym (first_of_both f xs ys ∙ ap (λ o. option_or o (first_number (map f ys))) h)

-- where one of the first refuses, it does
pub before_more : (f : Mention → Option ℕ) (xs ys : List Mention) → is_some (first_number (map f xs)) ≡ true → first_number (map f xs) ≡ first_number (map f (xs ++ ys))
before_more f xs ys h = go (first_number (map f xs)) h ∙ sym (first_of_both f xs ys)
  where
    go : (o : Option ℕ) → is_some o ≡ true → o ≡ option_or o (first_number (map f ys))
    go None k = absurd (cc k)
    go (Some n) k = refl

-- ---- in a loop over parts, each with its names

this_first : {X : Type 0} (g : X → List Mention) (xs : List X) (i : ℕ) (x : X) → i < length xs → x ≡ get_or xs i x → flat_map g (drop i xs) ≡ g x ++ flat_map g (drop (i + 1) xs)
this_first g xs i x h e =
    ap (flat_map g) (drop-cons xs i x h) ∙ (λ j. g (sym e j) ++ flat_map g (drop (sym (add-one i) j) xs))

pub part_stops : {X : Type 0} (f : Mention → Option ℕ) (g : X → List Mention) (xs : List X) (i : ℕ) (x : X) → i < length xs → x ≡ get_or xs i x
    → is_some (first_number (map f (g x))) ≡ true → first_number (map f (g x)) ≡ first_number (map f (flat_map g (drop i xs)))
part_stops f g xs i x h e k = before_more f (g x) (flat_map g (drop (i + 1) xs)) k ∙ ap (λ ms. first_number (map f ms)) (sym (this_first g xs i x h e))

pub part_passes : {X : Type 0} (f : Mention → Option ℕ) (g : X → List Mention) (xs : List X) (i : ℕ) (x : X) → i < length xs → x ≡ get_or xs i x
    → first_number (map f (g x)) ≡ None → first_number (map f (flat_map g (drop (i + 1) xs))) ≡ first_number (map f (flat_map g (drop i xs)))
part_passes f g xs i x h e k = after_none f (g x) (flat_map g (drop (i + 1) xs)) k ∙ ap (λ ms. first_number (map f ms)) (sym (this_first g xs i x h e))

-- ---- in a loop over single names

one_first : {X : Type 0} (g : X → Mention) (xs : List X) (i : ℕ) (x : X) → i < length xs → x ≡ get_or xs i x → map g (drop i xs) ≡ g x ∷ map g (drop (i + 1) xs)
one_first g xs i x h e =
    ap (map g) (drop-cons xs i x h) ∙ (λ j. g (sym e j) ∷ map g (drop (sym (add-one i) j) xs))

pub one_stops : {X : Type 0} (f : Mention → Option ℕ) (g : X → Mention) (xs : List X) (i : ℕ) (x : X) → i < length xs → x ≡ get_or xs i x
    → is_some (f (g x)) ≡ true → f (g x) ≡ first_number (map f (map g (drop i xs)))
one_stops f g xs i x h e k = go (f (g x)) k ∙ ap (λ ms. first_number (map f ms)) (sym (one_first g xs i x h e))
  where
    go : (o : Option ℕ) → is_some o ≡ true → o ≡ first_number (o ∷ map f (map g (drop (i + 1) xs)))
    go None k = absurd (cc k)
    go (Some n) k = refl

pub one_passes : {X : Type 0} (f : Mention → Option ℕ) (g : X → Mention) (xs : List X) (i : ℕ) (x : X) → i < length xs → x ≡ get_or xs i x
    → f (g x) ≡ None → first_number (map f (map g (drop (i + 1) xs))) ≡ first_number (map f (map g (drop i xs)))
one_passes f g xs i x h e n =
    sym (ap (λ ms. first_number (map f ms)) (one_first g xs i x h e) ∙ ap (λ o. first_number (o ∷ map f (map g (drop (i + 1) xs)))) n)
