-- Lists in order, where no two items are equal.
use Rattle.std.proofs.Common.{◌≡◌, refl, sym, ap, ◌∙◌, subst, inl, inr, ℕ, suc, ◌==◌, ◌≤◌, Bool, true, false, List, [], ◌∷◌, length, Some, arith}
use Rattle.std.proofs.lemmas.Bool.{eq-eqb}
use Rattle.std.specs.Cmp.{IsTotalOrder}
use Rattle.std.specs.List.{AllByRecursion}
use Rattle.std.specs.List.Sorted.{IsStrictlySortedBy}
use Rattle.std.specs.Ordering.{is_eq, ordering_reverse}
use Rattle.std.specs.declared.cmp.Ordering.{Ordering}
use Rattle.std.specs.declared.cmp.Ordering.TheVariants.{Less, Equal, Greater}
use Rattle.std.proofs.lemmas.Bool.Decides.{nat_tests}
use Rattle.calculus.specs.Lists.{insert_by}
use Rattle.page_chain.specs.Lists.{when, in_order, once}
use Rattle.quel_meaning.proofs.InOrder.{insert_as, insert-cons, in_order-insert}
use Rattle.catalog_read.specs.Applying.{Shuffled, nothing, beside, swapped, twice}
use Rattle.catalog_read.proofs.Shuffles.{same, back, length_same, Pairwise, pairwise_shuffled, all_shuffled}
use Rattle.catalog_read.proofs.Members.{IsIn, in_shuffled, of_all}

-- ---- items that are apart

-- no two of these are equal
abbrev pub Apart : {X : Type 0} → (X → X → Ordering) → List X → Type 0
Apart cmp = Pairwise (λ x y. is_eq (cmp x y) ≡ false)

less_apart : {X : Type 0} (cmp : X → X → Ordering) (x : X) (ys : List X) → AllByRecursion (λ y. cmp x y ≡ Less) ys → AllByRecursion (λ y. is_eq (cmp x y) ≡ false) ys
less_apart cmp x [] all = tt
less_apart cmp x (y ∷ ys) all = (ap is_eq all.0, less_apart cmp x ys all.1)

pub sorted_apart : {X : Type 0} (cmp : X → X → Ordering) (xs : List X) → IsStrictlySortedBy cmp xs → Apart cmp xs
unfolding IsStrictlySortedBy
sorted_apart cmp [] sorted = tt
sorted_apart cmp (x ∷ xs) sorted = (less_apart cmp x xs sorted.0, sorted_apart cmp xs sorted.1)

reversed_apart : (o : Ordering) → is_eq o ≡ false → is_eq (ordering_reverse o) ≡ false
reversed_apart Less h = refl
reversed_apart Equal h = h
reversed_apart Greater h = refl

pub apart_turned : {X : Type 0} {cmp : X → X → Ordering} → IsTotalOrder cmp → (x y : X) → is_eq (cmp x y) ≡ false → is_eq (cmp y x) ≡ false
apart_turned {X} {cmp} order x y h = ap is_eq (order.antisymm y x) ∙ reversed_apart (cmp x y) h

-- ---- an item that is put in its place

pub put_shuffled : {X : Type 0} (cmp : X → X → Ordering) (x : X) (ys : List X) → AllByRecursion (λ y. is_eq (cmp x y) ≡ false) ys → Shuffled (x ∷ ys) (insert_by cmp x ys)
put_shuffled cmp x [] new = same (x ∷ [])
put_shuffled {X} cmp x (y ∷ ys) new = subst (Shuffled (x ∷ y ∷ ys)) (sym (insert-cons cmp x y ys (cmp x y) refl)) (go (cmp x y) new.0 (put_shuffled cmp x ys new.1))
  where
    go : (o : Ordering) → is_eq o ≡ false → Shuffled (x ∷ ys) (insert_by cmp x ys) → Shuffled (x ∷ y ∷ ys) (insert_as o x y ys (insert_by cmp x ys))
    go Less h later = same (x ∷ y ∷ ys)
    go Equal h later = cc h
    go Greater h later = twice (swapped x y ys) (beside y later)

put_length : {X : Type 0} (cmp : X → X → Ordering) (x : X) (ys : List X) → length (insert_by cmp x ys) ≤ suc (length ys)
put_length cmp x [] = omega arith
put_length {X} cmp x (y ∷ ys) =
    let step : length (insert_by cmp x (y ∷ ys)) ≡ length (insert_as (cmp x y) x y ys (insert_by cmp x ys)) = ap length (insert-cons cmp x y ys (cmp x y) refl) in
    let bound = go (cmp x y) (put_length cmp x ys) in
    omega (arith, step, bound)
  where
    go : (o : Ordering) → length (insert_by cmp x ys) ≤ suc (length ys) → length (insert_as o x y ys (insert_by cmp x ys)) ≤ suc (suc (length ys))
    go Less h = omega arith
    go Equal h = omega arith
    go Greater h = omega (arith, h)

-- where there is one more, nothing gave way
grown_shuffled : {X : Type 0} (cmp : X → X → Ordering) (x : X) (ys : List X) → length (insert_by cmp x ys) ≡ suc (length ys) → Shuffled (x ∷ ys) (insert_by cmp x ys)
grown_shuffled cmp x [] h = same (x ∷ [])
grown_shuffled {X} cmp x (y ∷ ys) h =
    let step = insert-cons cmp x y ys (cmp x y) refl in
    subst (Shuffled (x ∷ y ∷ ys)) (sym step) (go (cmp x y) (sym (ap length step) ∙ h) (grown_shuffled cmp x ys))
  where
    more : (n : ℕ) → suc n ≡ suc (suc n) → ⊥
    more n e = omega (arith, e)

    one : (m n : ℕ) → suc m ≡ suc (suc n) → m ≡ suc n
    one m n e = omega (arith, e)

    go : (o : Ordering) → length (insert_as o x y ys (insert_by cmp x ys)) ≡ suc (suc (length ys)) → (length (insert_by cmp x ys) ≡ suc (length ys) → Shuffled (x ∷ ys) (insert_by cmp x ys))
        → Shuffled (x ∷ y ∷ ys) (insert_as o x y ys (insert_by cmp x ys))
    go Less e later = same (x ∷ y ∷ ys)
    go Equal e later = absurd (more (length ys) e)
    go Greater e later = twice (swapped x y ys) (beside y (later (one (length (insert_by cmp x ys)) (length ys) e)))

order_length : {X : Type 0} (cmp : X → X → Ordering) (xs : List X) → length (in_order cmp xs) ≤ length xs
order_length cmp [] = omega arith
order_length cmp (x ∷ xs) =
    let one = put_length cmp x (in_order cmp xs) in
    let later = order_length cmp xs in
    omega (arith, one, later)

full_shuffled : {X : Type 0} (cmp : X → X → Ordering) (xs : List X) → length (in_order cmp xs) ≡ length xs → Shuffled xs (in_order cmp xs)
full_shuffled cmp [] h = nothing
full_shuffled {X} cmp (x ∷ xs) h =
    let full = parts (length (insert_by cmp x (in_order cmp xs))) (length (in_order cmp xs)) (length xs) h (put_length cmp x (in_order cmp xs)) (order_length cmp xs) in
    twice (beside x (full_shuffled cmp xs full.0)) (grown_shuffled cmp x (in_order cmp xs) full.1)
  where
    parts : (l m n : ℕ) → l ≡ suc n → l ≤ suc m → m ≤ n → (m ≡ n) × (l ≡ suc m)
    parts l m n e b c = (omega (arith, e, b, c), omega (arith, e, b, c))

when_passed : {X : Type 0} (b : Bool) (x y : X) → when b x ≡ Some y → (b ≡ true) × (x ≡ y)
when_passed true x y e = (refl, cc e)
when_passed false x y e = cc e

eqb_eq : (m n : ℕ) → (m == n) ≡ true → m ≡ n
eqb_eq m n e = grind (arith, nat_tests, e)

-- items that are there once are those of their list in order
pub once_shuffled : {X : Type 0} (cmp : X → X → Ordering) (xs ys : List X) → once cmp xs ≡ Some ys → Shuffled xs ys
once_shuffled cmp xs ys e =
    let passed = when_passed (length (in_order cmp xs) == length xs) (in_order cmp xs) ys e in
    subst (Shuffled xs) passed.1 (full_shuffled cmp xs (eqb_eq (length (in_order cmp xs)) (length xs) passed.0))

-- ---- items in order are told by what is there

pub order_sorted : {X : Type 0} {cmp : X → X → Ordering} → IsTotalOrder cmp → (xs : List X) → IsStrictlySortedBy cmp (in_order cmp xs)
unfolding IsStrictlySortedBy
order_sorted order [] = tt
order_sorted order (x ∷ xs) = in_order-insert order x (in_order _ xs) (order_sorted order xs)

never_less : {X : Type 0} {cmp : X → X → Ordering} → IsTotalOrder cmp → (x y : X) → cmp x y ≡ Less → cmp y x ≡ Less → ⊥
never_less {X} {cmp} order x y h k = let turned : Less ≡ ordering_reverse Less = sym h ∙ order.antisymm x y ∙ ap ordering_reverse k in cc turned

pub one_order : {X : Type 0} {cmp : X → X → Ordering} → IsTotalOrder cmp → (xs ys : List X) → IsStrictlySortedBy cmp xs → IsStrictlySortedBy cmp ys
    → ((z : X) → IsIn z xs → IsIn z ys) → ((z : X) → IsIn z ys → IsIn z xs) → xs ≡ ys
unfolding IsStrictlySortedBy
one_order order [] [] s t to from = refl
one_order order [] (y ∷ ys) s t to from = absurd (from y (inl refl))
one_order order (x ∷ xs) [] s t to from = absurd (to x (inl refl))
one_order {X} {cmp} order (x ∷ xs) (y ∷ ys) s t to from =
    λ i. first (to x (inl refl)) (from y (inl refl)) i ∷ one_order order xs ys s.1 t.1 (later (first (to x (inl refl)) (from y (inl refl)))) (earlier (first (to x (inl refl)) (from y (inl refl)))) i
  where
    first : IsIn x (y ∷ ys) → IsIn y (x ∷ xs) → x ≡ y
    first (inl e) bt = e
    first (inr at) (inl e) = sym e
    first (inr at) (inr bt) = absurd (never_less order y x (of_all (λ z. cmp y z ≡ Less) ys x t.0 at) (of_all (λ z. cmp x z ≡ Less) xs y s.0 bt))

    later : x ≡ y → (z : X) → IsIn z xs → IsIn z ys
    later e z at = go (to z (inr at))
      where
        go : IsIn z (y ∷ ys) → IsIn z ys
        go (inl f) = let less : cmp x z ≡ Less = of_all (λ z. cmp x z ≡ Less) xs z s.0 at in
            let own : cmp z z ≡ Less = ap (λ w. cmp w z) (f ∙ sym e) ∙ less in absurd (never_less order z z own own)
        go (inr k) = k

    earlier : x ≡ y → (z : X) → IsIn z ys → IsIn z xs
    earlier e z at = go (from z (inr at))
      where
        go : IsIn z (x ∷ xs) → IsIn z xs
        go (inl f) = let less : cmp y z ≡ Less = of_all (λ z. cmp y z ≡ Less) ys z t.0 at in
            let own : cmp z z ≡ Less = ap (λ w. cmp w z) (f ∙ e) ∙ less in absurd (never_less order z z own own)
        go (inr k) = k

-- two lists in order of the same items are one
pub sorted_same : {X : Type 0} {cmp : X → X → Ordering} → IsTotalOrder cmp → (xs ys : List X) → IsStrictlySortedBy cmp xs → IsStrictlySortedBy cmp ys → Shuffled xs ys → xs ≡ ys
sorted_same order xs ys s t shuffled = one_order order xs ys s t (λ z at. in_shuffled z xs ys shuffled at) (λ z at. in_shuffled z ys xs (back xs ys shuffled) at)

all_in_order : {X : Type 0} (cmp : X → X → Ordering) (xs : List X) → Apart cmp xs → Shuffled xs (in_order cmp xs)
all_in_order cmp [] apart = nothing
all_in_order cmp (x ∷ xs) apart =
    let later = all_in_order cmp xs apart.1 in
    twice (beside x later) (put_shuffled cmp x (in_order cmp xs) (all_shuffled (λ y. is_eq (cmp x y) ≡ false) xs (in_order cmp xs) later apart.0))

when_true : {X : Type 0} (b : Bool) (x : X) → b ≡ true → when b x ≡ Some x
when_true b x e = ap (λ b. when b x) e

-- the items of a list in order, in any order, are there once
pub shuffled_once : {X : Type 0} {cmp : X → X → Ordering} → IsTotalOrder cmp → (xs ys : List X) → Shuffled xs ys → IsStrictlySortedBy cmp ys → once cmp xs ≡ Some ys
shuffled_once {X} {cmp} order xs ys shuffled sorted =
    let apart = pairwise_shuffled (λ x y. is_eq (cmp x y) ≡ false) (λ x y h. apart_turned order x y h) ys xs (back xs ys shuffled) (sorted_apart cmp ys sorted) in
    let ordered = all_in_order cmp xs apart in
    let is : in_order cmp xs ≡ ys = sorted_same order (in_order cmp xs) ys (order_sorted order xs) sorted (twice (back xs (in_order cmp xs) ordered) shuffled) in
    when_true (length (in_order cmp xs) == length xs) (in_order cmp xs) (eq-eqb (length (in_order cmp xs)) (length xs) (sym (length_same xs (in_order cmp xs) ordered))) ∙ ap Some is
