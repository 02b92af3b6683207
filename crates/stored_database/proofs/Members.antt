-- What is in lists that are joined, mapped, filtered and read.
use Rattle.std.proofs.Common.{◌≡◌, refl, sym, ap, subst, ◌∙◌, inl, inr, Bool, true, false, cond, List, [], ◌∷◌, ◌++◌, map, filter, find, Option, Some, None, option_map}
use Rattle.std.specs.Prelude.{◌⊎◌}
use Rattle.std.specs.List.{AllByRecursion, list_all, flat_map}
use Rattle.std.proofs.lemmas.Option.{same_Some}
use Rattle.page_chain.specs.Lists.{◌>>=◌, each}
use Rattle.stored_database.proofs.Reading.{both, together}

-- the item is one of these
abbrev pub IsIn : {A : Type 0} → A → List A → Type 0
IsIn x [] = ⊥
IsIn x (y ∷ ys) = (x ≡ y) ⊎ IsIn x ys

-- what holds of all holds of one of them
pub of_all : {A : Type 0} (P : A → Type 0) (xs : List A) (x : A) → AllByRecursion P xs → IsIn x xs → P x
of_all P [] x all at = absurd at
of_all {A} P (y ∷ ys) x all (inl e) = subst P (sym e) all.0
of_all P (y ∷ ys) x all (inr at) = of_all P ys x all.1 at

-- what passes a test with all passes it
pub of_tests : {A : Type 0} (test : A → Bool) (xs : List A) (x : A) → list_all test xs ≡ true → IsIn x xs → test x ≡ true
of_tests test [] x all at = absurd at
of_tests test (y ∷ ys) x all (inl e) = ap test e ∙ (both (test y) (list_all test ys) all).0
of_tests test (y ∷ ys) x all (inr at) = of_tests test ys x (both (test y) (list_all test ys) all).1 at

-- where each passes, all do
pub tests_of : {A : Type 0} (test : A → Bool) (xs : List A) → ((x : A) → IsIn x xs → test x ≡ true) → list_all test xs ≡ true
tests_of test [] h = refl
tests_of test (y ∷ ys) h = together (test y) (list_all test ys) (h y (inl refl)) (tests_of test ys (λ x at. h x (inr at)))

-- where something holds of each, it holds of all
pub all_of : {A : Type 0} (P : A → Type 0) (xs : List A) → ((x : A) → IsIn x xs → P x) → AllByRecursion P xs
all_of P [] h = tt
all_of P (y ∷ ys) h = (h y (inl refl), all_of P ys (λ x at. h x (inr at)))

-- ---- joined lists

pub in_first : {A : Type 0} (xs ys : List A) (x : A) → IsIn x xs → IsIn x (xs ++ ys)
in_first [] ys x at = absurd at
in_first (z ∷ xs) ys x (inl e) = inl e
in_first (z ∷ xs) ys x (inr at) = inr (in_first xs ys x at)

pub in_second : {A : Type 0} (xs ys : List A) (x : A) → IsIn x ys → IsIn x (xs ++ ys)
in_second [] ys x at = at
in_second (z ∷ xs) ys x at = inr (in_second xs ys x at)

pub in_either : {A : Type 0} (xs ys : List A) (x : A) → IsIn x (xs ++ ys) → IsIn x xs ⊎ IsIn x ys
in_either [] ys x at = inr at
in_either (z ∷ xs) ys x (inl e) = inl (inl e)
in_either (z ∷ xs) ys x (inr at) = elim (in_either xs ys x at) [ inl a ↦ inl (inr a) | inr b ↦ inr b ]

-- ---- mapped and filtered lists

pub in_map : {A B : Type 0} (f : A → B) (xs : List A) (x : A) → IsIn x xs → IsIn (f x) (map f xs)
in_map f [] x at = absurd at
in_map f (y ∷ ys) x (inl e) = inl (ap f e)
in_map f (y ∷ ys) x (inr at) = inr (in_map f ys x at)

pub map_in : {A B : Type 0} (f : A → B) (xs : List A) (y : B) → IsIn y (map f xs) → (x : A) × IsIn x xs × (y ≡ f x)
map_in f [] y at = absurd at
map_in f (x ∷ xs) y (inl e) = (x, inl refl, e)
map_in f (x ∷ xs) y (inr at) = let s = map_in f xs y at in (s.0, inr s.1, s.2)

pub in_flat_map : {A B : Type 0} (f : A → List B) (xs : List A) (x : A) (y : B) → IsIn x xs → IsIn y (f x) → IsIn y (flat_map f xs)
in_flat_map f [] x y at k = absurd at
in_flat_map f (z ∷ zs) x y (inl e) k = in_first (f z) (flat_map f zs) y (subst (λ z. IsIn y (f z)) e k)
in_flat_map f (z ∷ zs) x y (inr at) k = in_second (f z) (flat_map f zs) y (in_flat_map f zs x y at k)

pub flat_map_in : {A B : Type 0} (f : A → List B) (xs : List A) (y : B) → IsIn y (flat_map f xs) → (x : A) × IsIn x xs × IsIn y (f x)
flat_map_in f [] y at = absurd at
flat_map_in f (z ∷ zs) y at = elim (in_either (f z) (flat_map f zs) y at) [
  | inl k ↦ (z, inl refl, k)
  | inr k ↦ (let s = flat_map_in f zs y k in (s.0, inr s.1, s.2))
]

pub in_filter : {A : Type 0} (test : A → Bool) (xs : List A) (x : A) → IsIn x xs → test x ≡ true → IsIn x (filter test xs)
in_filter test [] x at h = absurd at
in_filter {A} test (y ∷ ys) x (inl e) h = subst (λ t. IsIn x (cond t (y ∷ filter test ys) (filter test ys))) (sym (sym (ap test e) ∙ h)) (inl e)
in_filter {A} test (y ∷ ys) x (inr at) h = go (test y) (in_filter test ys x at h)
  where
    go : (t : Bool) → IsIn x (filter test ys) → IsIn x (cond t (y ∷ filter test ys) (filter test ys))
    go true at = inr at
    go false at = at

pub filter_in : {A : Type 0} (test : A → Bool) (xs : List A) (x : A) → IsIn x (filter test xs) → IsIn x xs × (test x ≡ true)
filter_in test [] x at = absurd at
filter_in {A} test (y ∷ ys) x at = go (test y) refl at (filter_in test ys x)
  where
    go : (t : Bool) → test y ≡ t → IsIn x (cond t (y ∷ filter test ys) (filter test ys)) → (IsIn x (filter test ys) → IsIn x ys × (test x ≡ true)) → IsIn x (y ∷ ys) × (test x ≡ true)
    go true e (inl k) later = (inl k, ap test k ∙ e)
    go true e (inr k) later = let s = later k in (inr s.0, s.1)
    go false e k later = let s = later k in (inr s.0, s.1)

-- ---- the first that passes

-- what is found is there and passes
pub found_in : {A : Type 0} (test : A → Bool) (xs : List A) (x : A) → find test xs ≡ Some x → IsIn x xs × (test x ≡ true)
found_in test [] x h = cc
found_in {A} test (y ∷ ys) x h = go (test y) refl h (found_in test ys x)
  where
    go : (t : Bool) → test y ≡ t → cond t (Some y) (find test ys) ≡ Some x → (find test ys ≡ Some x → IsIn x ys × (test x ≡ true)) → IsIn x (y ∷ ys) × (test x ≡ true)
    go true e h later = let same = same_Some y x h in (inl (sym same), ap test (sym same) ∙ e)
    go false e h later = let s = later h in (inr s.0, s.1)

-- what passes, where nothing else does, is found
pub in_found : {A : Type 0} (test : A → Bool) (xs : List A) (x : A) → IsIn x xs → test x ≡ true → ((y : A) → IsIn y xs → test y ≡ true → y ≡ x) → find test xs ≡ Some x
in_found test [] x at h alone = absurd at
in_found {A} test (y ∷ ys) x at h alone = go (test y) refl at (λ at. in_found test ys x at h (λ z k. alone z (inr k)))
  where
    go : (t : Bool) → test y ≡ t → IsIn x (y ∷ ys) → (IsIn x ys → find test ys ≡ Some x) → cond t (Some y) (find test ys) ≡ Some x
    go true e at later = ap Some (alone y (inl refl) e)
    go false e (inl k) later = cc (ap test k, e, h)
    go false e (inr at) later = later at

-- ---- items that are read

-- the first and the others were read
pub each_parts : {A B : Type 0} (f : A → Option B) (x : A) (xs : List A) (ys : List B) → each f (x ∷ xs) ≡ Some ys
    → (y : B) × (rest : List B) × (f x ≡ Some y) × (each f xs ≡ Some rest) × (ys ≡ y ∷ rest)
each_parts {A} {B} f x xs ys h = go (f x) (each f xs) refl refl h
  where
    go : (o : Option B) (os : Option (List B)) → f x ≡ o → each f xs ≡ os → (o >>= (λ y. option_map (λ ys. y ∷ ys) os)) ≡ Some ys
        → (y : B) × (rest : List B) × (f x ≡ Some y) × (each f xs ≡ Some rest) × (ys ≡ y ∷ rest)
    go None os e k h = cc
    go (Some y) None e k h = cc
    go (Some y) (Some rest) e k h = (y, rest, e, k, sym (same_Some (y ∷ rest) ys h))

-- each item was read
pub each_read : {A B : Type 0} (f : A → Option B) (xs : List A) (ys : List B) (x : A) → each f xs ≡ Some ys → IsIn x xs → (y : B) × IsIn y ys × (f x ≡ Some y)
each_read f [] ys x h at = absurd at
each_read {A} {B} f (z ∷ zs) ys x h at =
    let p = each_parts f z zs ys h in
    elim at [
      | inl e ↦ (p.0, subst (IsIn p.0) (sym p.4) (inl refl), ap f e ∙ p.2)
      | inr k ↦ (let s = each_read f zs p.1 x p.3 k in (s.0, subst (IsIn s.0) (sym p.4) (inr s.1), s.2))
    ]

-- what was read was read of an item
pub read_of : {A B : Type 0} (f : A → Option B) (xs : List A) (ys : List B) (y : B) → each f xs ≡ Some ys → IsIn y ys → (x : A) × IsIn x xs × (f x ≡ Some y)
read_of {A} {B} f [] ys y h at = absurd (subst (IsIn y) (sym (same_Some [] ys h)) at)
read_of {A} {B} f (z ∷ zs) ys y h at =
    let p = each_parts f z zs ys h in
    elim (subst (IsIn y) p.4 at) [
      | inl e ↦ (z, inl refl, p.2 ∙ ap Some (sym e))
      | inr k ↦ (let s = read_of f zs p.1 y p.3 k in (s.0, inr s.1, s.2))
    ]

-- ---- items that are apart

-- no two of them pass the test
abbrev pub Apart : {A : Type 0} → (A → A → Bool) → List A → Type 0
Apart same [] = Unit {0}
Apart same (x ∷ xs) = AllByRecursion (λ y. same x y ≡ false) xs × Apart same xs

-- so two that do are one
pub apart_same : {A : Type 0} (same : A → A → Bool) → ((a b : A) → same a b ≡ true → same b a ≡ true) → (xs : List A) (a b : A) → Apart same xs → IsIn a xs → IsIn b xs → same a b ≡ true → a ≡ b
apart_same same turn [] a b apart at bt h = absurd at
apart_same same turn (x ∷ xs) a b apart (inl e) (inl f) h = e ∙ sym f
apart_same {A} same turn (x ∷ xs) a b apart (inl e) (inr bt) h = cc (of_all (λ y. same x y ≡ false) xs b apart.0 bt, ap (λ a. same a b) e, h)
apart_same {A} same turn (x ∷ xs) a b apart (inr at) (inl f) h = cc (of_all (λ y. same x y ≡ false) xs a apart.0 at, ap (λ b. same b a) f, turn a b h)
apart_same same turn (x ∷ xs) a b apart (inr at) (inr bt) h = apart_same same turn xs a b apart.1 at bt h

-- items are apart where what is read of them is
pub read_apart : {A B : Type 0} (same : A → A → Bool) (alike : B → B → Bool) (f : A → Option B)
    → ((a b : A) (x y : B) → f a ≡ Some x → f b ≡ Some y → alike x y ≡ same a b)
    → (xs : List A) (ys : List B) → each f xs ≡ Some ys → Apart alike ys → Apart same xs
read_apart same alike f keeps [] ys h apart = tt
read_apart {A} {B} same alike f keeps (x ∷ xs) ys h apart =
    let p = each_parts f x xs ys h in
    let a = subst (Apart alike) p.4 apart in (
      all_of (λ z. same x z ≡ false) xs (λ z at. (let s = each_read f xs p.1 z p.3 at in sym (keeps x z p.0 s.0 p.2 s.2) ∙ of_all (λ y. alike p.0 y ≡ false) p.1 s.0 a.0 s.1)),
      read_apart same alike f keeps xs p.1 p.3 a.1,
    )
