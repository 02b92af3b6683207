-- What holds of each item of a list.
use Rattle.std.proofs.Common.{◌≡◌, refl, Bool, true, false, ◌&&◌, ◌||◌, not, cond, List, [], ◌∷◌, ◌++◌, map}
use Rattle.std.specs.List.{AllByRecursion, list_all, filter, flat_map}

abbrev pub Each : {X : Type 0} → (X → Type 0) → List X → Type 0
Each = AllByRecursion

pub front_of : {X : Type 0} (P : X → Type 0) (xs ys : List X) → Each P (xs ++ ys) → Each P xs
front_of P [] ys h = tt
front_of P (x ∷ xs) ys h = (h.0, front_of P xs ys h.1)

pub back_of : {X : Type 0} (P : X → Type 0) (xs ys : List X) → Each P (xs ++ ys) → Each P ys
back_of P [] ys h = h
back_of P (x ∷ xs) ys h = back_of P xs ys h.1

pub both_of : {X : Type 0} (P : X → Type 0) (xs ys : List X) → Each P xs → Each P ys → Each P (xs ++ ys)
both_of P [] ys h k = k
both_of P (x ∷ xs) ys h k = (h.0, both_of P xs ys h.1 k)

pub of_map : {X Y : Type 0} (P : Y → Type 0) (f : X → Y) (xs : List X) → Each P (map f xs) → Each (λ x. P (f x)) xs
of_map P f [] h = tt
of_map P f (x ∷ xs) h = (h.0, of_map P f xs h.1)

pub in_map : {X Y : Type 0} (P : Y → Type 0) (f : X → Y) (xs : List X) → Each (λ x. P (f x)) xs → Each P (map f xs)
in_map P f [] h = tt
in_map P f (x ∷ xs) h = (h.0, in_map P f xs h.1)

pub of_flat_map : {X Y : Type 0} (P : Y → Type 0) (f : X → List Y) (xs : List X) → Each P (flat_map f xs) → Each (λ x. Each P (f x)) xs
of_flat_map P f [] h = tt
of_flat_map P f (x ∷ xs) h = (front_of P (f x) (flat_map f xs) h, of_flat_map P f xs (back_of P (f x) (flat_map f xs) h))

pub in_flat_map : {X Y : Type 0} (P : Y → Type 0) (f : X → List Y) (xs : List X) → Each (λ x. Each P (f x)) xs → Each P (flat_map f xs)
in_flat_map P f [] h = tt
in_flat_map P f (x ∷ xs) h = both_of P (f x) (flat_map f xs) h.0 (in_flat_map P f xs h.1)

pub each_to : {X : Type 0} (P Q : X → Type 0) → ((x : X) → P x → Q x) → (xs : List X) → Each P xs → Each Q xs
each_to P Q f [] h = tt
each_to P Q f (x ∷ xs) h = (f x h.0, each_to P Q f xs h.1)

pub in_filter : {X : Type 0} (P : X → Type 0) (p : X → Bool) (xs : List X) → Each P xs → Each P (filter p xs)
in_filter P p [] h = tt
in_filter {X} P p (x ∷ xs) h = go (in_filter P p xs h.1) (p x)
  where
    go : Each P (filter p xs) → (b : Bool) → Each P (cond b (x ∷ filter p xs) (filter p xs))
    go later true = (h.0, later)
    go later false = later

-- a test that each item passes
pub passed : {X : Type 0} (p : X → Bool) (xs : List X) → Each (λ x. p x ≡ true) xs → list_all p xs ≡ true
passed p [] h = refl
passed p (x ∷ xs) h = rw h.0 (passed p xs h.1)

pub each_passes : {X : Type 0} (p : X → Bool) (xs : List X) → list_all p xs ≡ true → Each (λ x. p x ≡ true) xs
each_passes p [] h = tt
each_passes p (x ∷ xs) h = go (each_passes p xs) (p x) refl h
  where
    go : (list_all p xs ≡ true → Each (λ x. p x ≡ true) xs) → (b : Bool) → p x ≡ b → (b && list_all p xs) ≡ true → (p x ≡ true) × Each (λ x. p x ≡ true) xs
    go later true e h = (e, later h)
    go later false e h = absurd (cc h)

-- both sides of a conjunction
pub left : (b c : Bool) → (b && c) ≡ true → b ≡ true
left true c h = refl
left false c h = h

pub right : (b c : Bool) → (b && c) ≡ true → c ≡ true
right true c h = h
right false c h = absurd (cc h)

pub and : (b c : Bool) → b ≡ true → c ≡ true → (b && c) ≡ true
and b c h k = rw h k

-- neither side of a disjunction
pub not_left : (b c : Bool) → (b || c) ≡ false → b ≡ false
not_left true c h = h
not_left false c h = refl

pub not_right : (b c : Bool) → (b || c) ≡ false → c ≡ false
not_right true c h = absurd (cc h)
not_right false c h = h

pub not_not : (b : Bool) → not b ≡ false → b ≡ true
not_not true h = refl
not_not false h = absurd (cc h)

pub not_so : (b : Bool) → b ≡ false → not b ≡ true
not_so b h = rw h refl
