-- What holds of each item of a list with each behind it.
use Rattle.std.proofs.Common.{◌≡◌, refl, sym, true≢false, Bool, true, false, not, ◌||◌, cond, List, [], ◌∷◌, ◌++◌, map, filter}
use Rattle.std.specs.List.{AllByRecursion, flat_map, list_all, list_any}
use Rattle.std.proofs.lemmas.Bool.{and_parts, and_from}
use Rattle.calculus.specs.Lists.{differ_by}
use Rattle.stored_database.proofs.Members.{Apart}

-- it holds of each item with each behind it
abbrev pub Pairs : {A : Type 0} → (A → A → Type 0) → List A → Type 0
Pairs R [] = Unit {0}
Pairs R (x ∷ xs) = AllByRecursion (R x) xs × Pairs R xs

-- ---- all items

-- what holds of all holds of those that pass a test
pub all_filter : {A : Type 0} (P : A → Type 0) (test : A → Bool) (xs : List A) → AllByRecursion P xs → AllByRecursion P (filter test xs)
all_filter P test [] all = tt
all_filter {A} P test (x ∷ xs) all = go (test x) (all_filter P test xs all.1)
  where
    go : (b : Bool) → AllByRecursion P (filter test xs) → AllByRecursion P (cond b (x ∷ filter test xs) (filter test xs))
    go true later = (all.0, later)
    go false later = later

-- what follows for each follows for all
pub all_then : {A : Type 0} (P Q : A → Type 0) (xs : List A) → ((x : A) → P x → Q x) → AllByRecursion P xs → AllByRecursion Q xs
all_then P Q [] then all = tt
all_then P Q (x ∷ xs) then all = (then x all.0, all_then P Q xs then all.1)

-- what holds of each holds of all
pub all_each : {A : Type 0} (P : A → Type 0) (xs : List A) → ((x : A) → P x) → AllByRecursion P xs
all_each P [] each = tt
all_each P (x ∷ xs) each = (each x, all_each P xs each)

-- two facts of all
pub all_both : {A : Type 0} (P Q : A → Type 0) (xs : List A) → AllByRecursion P xs → AllByRecursion Q xs → AllByRecursion (λ x. P x × Q x) xs
all_both P Q [] p q = tt
all_both P Q (x ∷ xs) p q = ((p.0, q.0), all_both P Q xs p.1 q.1)

-- what holds of all of two lists holds of all of both
pub all_append : {A : Type 0} (P : A → Type 0) (xs ys : List A) → AllByRecursion P xs → AllByRecursion P ys → AllByRecursion P (xs ++ ys)
all_append P [] ys p q = q
all_append P (x ∷ xs) ys p q = (p.0, all_append P xs ys p.1 q)

pub all_front : {A : Type 0} (P : A → Type 0) (xs ys : List A) → AllByRecursion P (xs ++ ys) → AllByRecursion P xs
all_front P [] ys all = tt
all_front P (x ∷ xs) ys all = (all.0, all_front P xs ys all.1)

pub all_behind : {A : Type 0} (P : A → Type 0) (xs ys : List A) → AllByRecursion P (xs ++ ys) → AllByRecursion P ys
all_behind P [] ys all = all
all_behind P (x ∷ xs) ys all = all_behind P xs ys all.1

-- what holds of all mapped items, and back
pub all_map : {A B : Type 0} (P : B → Type 0) (h : A → B) (xs : List A) → AllByRecursion (λ x. P (h x)) xs → AllByRecursion P (map h xs)
all_map P h [] all = tt
all_map P h (x ∷ xs) all = (all.0, all_map P h xs all.1)

pub all_unmap : {A B : Type 0} (P : B → Type 0) (h : A → B) (xs : List A) → AllByRecursion P (map h xs) → AllByRecursion (λ x. P (h x)) xs
all_unmap P h [] all = tt
all_unmap P h (x ∷ xs) all = (all.0, all_unmap P h xs all.1)

-- what holds of all that each item gives
pub all_flat : {A B : Type 0} (P : B → Type 0) (g : A → List B) (xs : List A) → AllByRecursion (λ x. AllByRecursion P (g x)) xs → AllByRecursion P (flat_map g xs)
all_flat P g [] all = tt
all_flat P g (x ∷ xs) all = all_append P (g x) (flat_map g xs) all.0 (all_flat P g xs all.1)

-- tests that all pass, and back
pub all_pass : {A : Type 0} (test : A → Bool) (xs : List A) → AllByRecursion (λ x. test x ≡ true) xs → list_all test xs ≡ true
all_pass test [] all = refl
all_pass test (x ∷ xs) all = and_from (test x) (list_all test xs) all.0 (all_pass test xs all.1)

pub pass_all : {A : Type 0} (test : A → Bool) (xs : List A) → list_all test xs ≡ true → AllByRecursion (λ x. test x ≡ true) xs
pass_all test [] e = tt
pass_all test (x ∷ xs) e = let two = and_parts (test x) (list_all test xs) e in (two.0, pass_all test xs two.1)

-- ---- pairs

pub pairs_front : {A : Type 0} (R : A → A → Type 0) (xs ys : List A) → Pairs R (xs ++ ys) → Pairs R xs
pairs_front R [] ys all = tt
pairs_front R (x ∷ xs) ys all = (all_front (R x) xs ys all.0, pairs_front R xs ys all.1)

pub pairs_behind : {A : Type 0} (R : A → A → Type 0) (xs ys : List A) → Pairs R (xs ++ ys) → Pairs R ys
pairs_behind R [] ys all = all
pairs_behind R (x ∷ xs) ys all = pairs_behind R xs ys all.1

-- no two pass the test
pub pairs_apart : {A : Type 0} (same : A → A → Bool) (xs : List A) → Pairs (λ x y. same x y ≡ false) xs → Apart same xs
pairs_apart same [] all = tt
pairs_apart same (x ∷ xs) all = (all.0, pairs_apart same xs all.1)

none_same : {A : Type 0} (test : A → Bool) (ys : List A) → not (list_any test ys) ≡ true → AllByRecursion (λ y. test y ≡ false) ys
none_same test [] e = tt
none_same {A} test (y ∷ ys) e = go (test y) refl e (none_same test ys)
  where
    go : (b : Bool) → test y ≡ b → not (b || list_any test ys) ≡ true → (not (list_any test ys) ≡ true → AllByRecursion (λ y. test y ≡ false) ys) → (test y ≡ false) × AllByRecursion (λ y. test y ≡ false) ys
    go true is e later = absurd (true≢false (sym e))
    go false is e later = (is, later e)

pub differ_pairs : {A : Type 0} (same : A → A → Bool) (xs : List A) → differ_by same xs ≡ true → Pairs (λ x y. same x y ≡ false) xs
differ_pairs same [] e = tt
differ_pairs same (x ∷ xs) e =
    let two = and_parts (not (list_any (same x) xs)) (differ_by same xs) e in
    (none_same (same x) xs two.0, differ_pairs same xs two.1)

pub pairs_filter : {A : Type 0} (R : A → A → Type 0) (test : A → Bool) (xs : List A) → Pairs R xs → Pairs R (filter test xs)
pairs_filter R test [] all = tt
pairs_filter {A} R test (x ∷ xs) all = go (test x) (pairs_filter R test xs all.1)
  where
    go : (b : Bool) → Pairs R (filter test xs) → Pairs R (cond b (x ∷ filter test xs) (filter test xs))
    go true later = (all_filter (R x) test xs all.0, later)
    go false later = later

pub pairs_then : {A : Type 0} (R S : A → A → Type 0) (xs : List A) → ((x y : A) → R x y → S x y) → Pairs R xs → Pairs S xs
pairs_then R S [] then all = tt
pairs_then R S (x ∷ xs) then all = (all_then (R x) (S x) xs (then x) all.0, pairs_then R S xs then all.1)

pub pairs_map : {A B : Type 0} (R : B → B → Type 0) (h : A → B) (xs : List A) → Pairs (λ x y. R (h x) (h y)) xs → Pairs R (map h xs)
pairs_map R h [] all = tt
pairs_map R h (x ∷ xs) all = (all_map (R (h x)) h xs all.0, pairs_map R h xs all.1)

pub pairs_unmap : {A B : Type 0} (R : B → B → Type 0) (h : A → B) (xs : List A) → Pairs R (map h xs) → Pairs (λ x y. R (h x) (h y)) xs
pairs_unmap R h [] all = tt
pairs_unmap R h (x ∷ xs) all = (all_unmap (R (h x)) h xs all.0, pairs_unmap R h xs all.1)

-- pairs within each of two lists and across them
pub pairs_append : {A : Type 0} (R : A → A → Type 0) (xs ys : List A) → Pairs R xs → Pairs R ys → AllByRecursion (λ x. AllByRecursion (R x) ys) xs → Pairs R (xs ++ ys)
pairs_append R [] ys one other across = other
pairs_append R (x ∷ xs) ys one other across = (all_append (R x) xs ys one.0 across.0, pairs_append R xs ys one.1 other across.1)
