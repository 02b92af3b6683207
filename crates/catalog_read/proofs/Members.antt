-- What is in a list, and lists that are part of another in any order.
use Rattle.std.proofs.Common.{◌≡◌, refl, sym, subst, inl, inr, ◌⊎◌, ◌≤◌, Bool, true, false, cond, IsTrue, List, [], ◌∷◌, ◌++◌, map, filter, length, arith, append_assoc, length-append}
use Rattle.std.specs.Prelude.{flat_map}
use Rattle.std.specs.List.{list_all, AllByRecursion}
use Rattle.plan_laws.proofs.Kept.{each, count}
use Rattle.plan_laws.proofs.Created.{each_true}
use Rattle.catalog_read.specs.Applying.{Shuffled, nothing, beside, swapped, twice}
use Rattle.catalog_read.proofs.Shuffles.{same, back, before_same, behind_same, both_shuffled, turned, length_same, all_shuffled, count_same, Pairwise, pairwise_shuffled}

-- the item is one of these
abbrev pub IsIn : {X : Type 0} → X → List X → Type 0
IsIn x [] = ⊥
IsIn x (y ∷ ys) = (x ≡ y) ⊎ IsIn x ys

pub in_shuffled : {X : Type 0} (x : X) (xs ys : List X) → Shuffled xs ys → IsIn x xs → IsIn x ys
in_shuffled x xs ys nothing at = at
in_shuffled x xs ys (beside y s) (inl e) = inl e
in_shuffled x xs ys (beside y s) (inr at) = inr (in_shuffled x _ _ s at)
in_shuffled x xs ys (swapped y z more) (inl e) = inr (inl e)
in_shuffled x xs ys (swapped y z more) (inr (inl e)) = inl e
in_shuffled x xs ys (swapped y z more) (inr (inr at)) = inr (inr at)
in_shuffled x xs ys (twice s t) at = in_shuffled x _ _ t (in_shuffled x _ _ s at)

pub of_all : {X : Type 0} (P : X → Type 0) (xs : List X) (x : X) → AllByRecursion P xs → IsIn x xs → P x
of_all P [] x h at = absurd at
of_all P (y ∷ ys) x h (inl e) = subst P (sym e) h.0
of_all P (y ∷ ys) x h (inr at) = of_all P ys x h.1 at

pub all_of : {X : Type 0} (P : X → Type 0) (xs : List X) → ((x : X) → IsIn x xs → P x) → AllByRecursion P xs
all_of P [] h = tt
all_of P (x ∷ xs) h = (h x (inl refl), all_of P xs (λ y at. h y (inr at)))

pub in_test : {X : Type 0} (test : X → Bool) (xs : List X) (x : X) → IsTrue (list_all test xs) → IsIn x xs → IsTrue (test x)
in_test test xs x t at = of_all (λ x. IsTrue (test x)) xs x (each_true test xs t) at

pub in_front : {X : Type 0} (x : X) (xs ys : List X) → IsIn x xs → IsIn x (xs ++ ys)
in_front x [] ys at = absurd at
in_front x (y ∷ xs) ys (inl e) = inl e
in_front x (y ∷ xs) ys (inr at) = inr (in_front x xs ys at)

pub in_behind : {X : Type 0} (x : X) (xs ys : List X) → IsIn x ys → IsIn x (xs ++ ys)
in_behind x [] ys at = at
in_behind x (y ∷ xs) ys at = inr (in_behind x xs ys at)

-- it is in the one or in the other
pub in_either : {X : Type 0} (x : X) (xs ys : List X) → IsIn x (xs ++ ys) → IsIn x xs ⊎ IsIn x ys
in_either x [] ys at = inr at
in_either x (y ∷ xs) ys (inl e) = inl (inl e)
in_either {X} x (y ∷ xs) ys (inr at) = go (in_either x xs ys at)
  where
    go : IsIn x xs ⊎ IsIn x ys → ((x ≡ y) ⊎ IsIn x xs) ⊎ IsIn x ys
    go (inl k) = inl (inr k)
    go (inr k) = inr k

-- it is brought to the front
pub brought : {X : Type 0} (x : X) (xs : List X) → IsIn x xs → (more : List X) × Shuffled xs (x ∷ more)
brought x [] at = absurd at
brought x (y ∷ ys) (inl e) = (ys, subst (λ z. Shuffled (y ∷ ys) (z ∷ ys)) (sym e) (same (y ∷ ys)))
brought x (y ∷ ys) (inr at) = let later = brought x ys at in (y ∷ later.0, twice (beside y later.1) (swapped y x later.0))

-- ---- all of what is behind each other

pub all_front : {X : Type 0} (P : X → Type 0) (xs ys : List X) → AllByRecursion P (xs ++ ys) → AllByRecursion P xs
all_front P [] ys h = tt
all_front P (x ∷ xs) ys h = (h.0, all_front P xs ys h.1)

pub all_rest : {X : Type 0} (P : X → Type 0) (xs ys : List X) → AllByRecursion P (xs ++ ys) → AllByRecursion P ys
all_rest P [] ys h = h
all_rest P (x ∷ xs) ys h = all_rest P xs ys h.1

pub all_unmapped : {X Y : Type 0} (P : Y → Type 0) (f : X → Y) (xs : List X) → AllByRecursion P (map f xs) → AllByRecursion (λ x. P (f x)) xs
all_unmapped P f [] h = tt
all_unmapped P f (x ∷ xs) h = (h.0, all_unmapped P f xs h.1)

pub all_mapped : {X Y : Type 0} (P : Y → Type 0) (f : X → Y) (xs : List X) → AllByRecursion (λ x. P (f x)) xs → AllByRecursion P (map f xs)
all_mapped P f [] h = tt
all_mapped P f (x ∷ xs) h = (h.0, all_mapped P f xs h.1)

pub as_test : {X : Type 0} (test : X → Bool) (xs : List X) → AllByRecursion (λ x. IsTrue (test x)) xs → IsTrue (list_all test xs)
as_test test [] h = refl
as_test test (x ∷ xs) h = each (test x) (list_all test xs) h.0 (as_test test xs h.1)

pairwise_front : {X : Type 0} (R : X → X → Type 0) (xs ys : List X) → Pairwise R (xs ++ ys) → Pairwise R xs
pairwise_front R [] ys h = tt
pairwise_front R (x ∷ xs) ys h = (all_front (R x) xs ys h.0, pairwise_front R xs ys h.1)

pub all_behind : {X : Type 0} (P : X → Type 0) (xs ys : List X) → AllByRecursion P xs → AllByRecursion P ys → AllByRecursion P (xs ++ ys)
all_behind P [] ys h k = k
all_behind P (x ∷ xs) ys h k = (h.0, all_behind P xs ys h.1 k)

-- what is made of each
pub all_made : {X Y : Type 0} (f : X → List Y) (P : X → Type 0) (Q : Y → Type 0) → ((x : X) → P x → AllByRecursion Q (f x)) → (xs : List X) → AllByRecursion P xs → AllByRecursion Q (flat_map f xs)
all_made f P Q made [] h = tt
all_made f P Q made (x ∷ xs) h = all_behind Q (f x) (flat_map f xs) (made x h.0) (all_made f P Q made xs h.1)

-- ---- part of a list

-- these and others are those, in any order
pub record Within {X : Type 0} (xs ys : List X) : Type 0 where
  pub others : List X
  pub together : Shuffled (xs ++ others) ys

pub within_length : {X : Type 0} (xs ys : List X) → Within xs ys → length xs ≤ length ys
within_length xs ys w =
    let sum = length-append xs w.others in
    let all = length_same (xs ++ w.others) ys w.together in
    omega (arith, sum, all)

pub within_all : {X : Type 0} (P : X → Type 0) (xs ys : List X) → Within xs ys → AllByRecursion P ys → AllByRecursion P xs
within_all P xs ys w h = all_front P xs w.others (all_shuffled P ys (xs ++ w.others) (back (xs ++ w.others) ys w.together) h)

pub within_test : {X : Type 0} (test : X → Bool) (xs ys : List X) → Within xs ys → IsTrue (list_all test ys) → IsTrue (list_all test xs)
within_test test xs ys w t = as_test test xs (within_all (λ x. IsTrue (test x)) xs ys w (each_true test ys t))

pub within_pairs : {X : Type 0} (R : X → X → Type 0) → ((x y : X) → R x y → R y x) → (xs ys : List X) → Within xs ys → Pairwise R ys → Pairwise R xs
within_pairs R turn xs ys w h = pairwise_front R xs w.others (pairwise_shuffled R turn ys (xs ++ w.others) (back (xs ++ w.others) ys w.together) h)

-- in another order
pub within_moved : {X : Type 0} (vs xs ys : List X) → Shuffled vs xs → Within xs ys → Within vs ys
within_moved vs xs ys s w = record { others = w.others; together = twice (before_same w.others vs xs s) w.together }

-- of two lists, each part of another
pub within_both : {X : Type 0} (vs ws xs ys : List X) → Within vs ws → Within xs ys → Within (vs ++ xs) (ws ++ ys)
within_both vs ws xs ys w u = record {
  others = w.others ++ u.others;
  together = subst (λ l. Shuffled l (ws ++ ys)) (sym regrouped)
      (twice (behind_same vs ((xs ++ w.others) ++ u.others) ((w.others ++ xs) ++ u.others) (before_same u.others (xs ++ w.others) (w.others ++ xs) (turned xs w.others)))
      (subst (λ l. Shuffled l (ws ++ ys)) (sym grouped) (both_shuffled (vs ++ w.others) ws (xs ++ u.others) ys w.together u.together)));
}
  where
    regrouped : (vs ++ xs) ++ (w.others ++ u.others) ≡ vs ++ ((xs ++ w.others) ++ u.others)
    regrouped = rw append_assoc (rw append_assoc refl)

    grouped : vs ++ ((w.others ++ xs) ++ u.others) ≡ (vs ++ w.others) ++ (xs ++ u.others)
    grouped = rw append_assoc (rw append_assoc refl)

-- more of those that pass a test are in the longer list
pub within_count : {X : Type 0} (test : X → Bool) (xs ys : List X) → Within xs ys → count test xs ≤ count test ys
within_count {X} test xs ys w =
    let all = count_same test (xs ++ w.others) ys w.together in
    let less = count_front xs in
    omega (arith, all, less)
  where
    count_front : (xs : List X) → count test xs ≤ count test (xs ++ w.others)
    count_front [] = omega arith
    count_front (x ∷ xs) = go (test x) (count_front xs)
      where
        go : (b : Bool) → count test xs ≤ count test (xs ++ w.others) → length (cond b (x ∷ filter test xs) (filter test xs)) ≤ length (cond b (x ∷ filter test (xs ++ w.others)) (filter test (xs ++ w.others)))
        go true h = omega (arith, h)
        go false h = h

-- what waits is part of all, beside what stands
pub waits_within : {X : Type 0} (x : X) (waiting standing all : List X) → Shuffled (waiting ++ standing) all → IsIn x waiting → Within (x ∷ standing) all
waits_within x waiting standing all s at =
    let front = brought x waiting at in
    record {
      others = front.0;
      together = twice (beside x (turned standing front.0)) (twice (back (waiting ++ standing) (x ∷ (front.0 ++ standing)) (before_same standing waiting (x ∷ front.0) front.1)) s);
    }

pub stands_within : {X : Type 0} (waiting standing all : List X) → Shuffled (waiting ++ standing) all → Within standing all
stands_within waiting standing all s = record { others = waiting; together = twice (turned standing waiting) s }
