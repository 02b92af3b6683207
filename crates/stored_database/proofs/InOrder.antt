-- Lists that are put in their order: what of them stays the same.
use Rattle.std.proofs.Common.{◌≡◌, refl, sym, ap, ap₂, subst, ◌∙◌, true≢false, suc, ◌==◌, Bool, true, false, cond, List, [], ◌∷◌, map, filter, length, Option, Some, option_map}
use Rattle.std.proofs.lemmas.Bool.{eq-eqb}
use Rattle.std.proofs.lemmas.Cmp.{alike_right}
use Rattle.std.specs.Cmp.{IsTotalOrder}
use Rattle.std.specs.List.{AllByRecursion}
use Rattle.std.specs.List.Sorted.{IsStrictlySortedBy}
use Rattle.std.proofs.lemmas.List.Kept.{IsStrictlySortedBy-filter}
use Rattle.std.specs.Ordering.{is_eq, ordering_reverse}
use Rattle.std.specs.declared.cmp.Ordering.{Ordering}
use Rattle.std.specs.declared.cmp.Ordering.TheVariants.{Less, Equal, Greater}
use Rattle.calculus.specs.Lists.{insert_by}
use Rattle.page_chain.specs.Lists.{◌>>=◌, when, each, in_order, once}
use Rattle.stored_database.proofs.Members.{of_all, all_of}
use Rattle.stored_database.proofs.Sets.{insert_as, insert_cons, in_order_in, sorted_in_order}
use Rattle.stored_database.proofs.Pairs.{Pairs, pairs_filter, pairs_unmap}

-- ---- one item is put in its place

-- it is put so, where this is how it compares
pub put_as : {A : Type 0} (cmp : A → A → Ordering) (x y : A) (ys : List A) (o : Ordering) → cmp x y ≡ o → insert_by cmp x (y ∷ ys) ≡ insert_as o x y ys (insert_by cmp x ys)
put_as cmp x y ys o e = insert_cons cmp x y ys ∙ ap (λ o. insert_as o x y ys (insert_by cmp x ys)) e

-- of two items of which the first is smaller, either may be put first
less_swap : {A : Type 0} {cmp : A → A → Ordering} (order : IsTotalOrder cmp) (x y : A) (l : List A) → cmp x y ≡ Less → insert_by cmp x (insert_by cmp y l) ≡ insert_by cmp y (insert_by cmp x l)
less_swap {A} {cmp} order x y [] less = put_as cmp x y [] Less less ∙ sym (put_as cmp y x [] Greater (order.antisymm y x ∙ ap ordering_reverse less))
less_swap {A} {cmp} order x y (z ∷ zs) less = go (cmp x z) (cmp y z) refl refl (less_swap order x y zs less)
  where
    back : cmp y x ≡ Greater
    back = order.antisymm y x ∙ ap ordering_reverse less

    go : (o p : Ordering) → cmp x z ≡ o → cmp y z ≡ p → insert_by cmp x (insert_by cmp y zs) ≡ insert_by cmp y (insert_by cmp x zs)
        → insert_by cmp x (insert_by cmp y (z ∷ zs)) ≡ insert_by cmp y (insert_by cmp x (z ∷ zs))
    go Less Less xz yz later =
        ap (insert_by cmp x) (put_as cmp y z zs Less yz) ∙ put_as cmp x y (z ∷ zs) Less less
        ∙ sym (ap (insert_by cmp y) (put_as cmp x z zs Less xz) ∙ put_as cmp y x (z ∷ zs) Greater back ∙ ap (λ l. x ∷ l) (put_as cmp y z zs Less yz))
    go Less Equal xz yz later =
        ap (insert_by cmp x) (put_as cmp y z zs Equal yz) ∙ put_as cmp x y zs Less less
        ∙ sym (ap (insert_by cmp y) (put_as cmp x z zs Less xz) ∙ put_as cmp y x (z ∷ zs) Greater back ∙ ap (λ l. x ∷ l) (put_as cmp y z zs Equal yz))
    go Less Greater xz yz later =
        ap (insert_by cmp x) (put_as cmp y z zs Greater yz) ∙ put_as cmp x z (insert_by cmp y zs) Less xz
        ∙ sym (ap (insert_by cmp y) (put_as cmp x z zs Less xz) ∙ put_as cmp y x (z ∷ zs) Greater back ∙ ap (λ l. x ∷ l) (put_as cmp y z zs Greater yz))
    go Equal Less xz yz later = cc (less, order.congr x z y xz ∙ order.antisymm z y ∙ ap ordering_reverse yz)
    go Equal Equal xz yz later = cc (less, order.congr x z y xz ∙ order.antisymm z y ∙ ap ordering_reverse yz)
    go Equal Greater xz yz later =
        ap (insert_by cmp x) (put_as cmp y z zs Greater yz) ∙ put_as cmp x z (insert_by cmp y zs) Equal xz
        ∙ sym (ap (insert_by cmp y) (put_as cmp x z zs Equal xz) ∙ put_as cmp y x zs Greater back)
    go Greater Less xz yz later = cc (xz, order.trans x y z less yz)
    go Greater Equal xz yz later = cc (xz, sym (alike_right order y z x yz) ∙ less)
    go Greater Greater xz yz later =
        ap (insert_by cmp x) (put_as cmp y z zs Greater yz) ∙ put_as cmp x z (insert_by cmp y zs) Greater xz ∙ ap (λ l. z ∷ l) later
        ∙ sym (ap (insert_by cmp y) (put_as cmp x z zs Greater xz) ∙ put_as cmp y z (insert_by cmp x zs) Greater yz)

-- of two items that are not equal, either may be put first
pub swapped : {A : Type 0} {cmp : A → A → Ordering} (order : IsTotalOrder cmp) (x y : A) (l : List A) → is_eq (cmp x y) ≡ false → insert_by cmp x (insert_by cmp y l) ≡ insert_by cmp y (insert_by cmp x l)
swapped {A} {cmp} order x y l apart = go (cmp x y) refl
  where
    go : (o : Ordering) → cmp x y ≡ o → insert_by cmp x (insert_by cmp y l) ≡ insert_by cmp y (insert_by cmp x l)
    go Less e = less_swap order x y l e
    go Equal e = cc (apart, ap is_eq e)
    go Greater e = sym (less_swap order y x l (order.antisymm y x ∙ ap ordering_reverse e))

-- what holds of all holds of all in their order
pub all_in_order : {A : Type 0} (cmp : A → A → Ordering) (P : A → Type 0) (xs : List A) → AllByRecursion P xs → AllByRecursion P (in_order cmp xs)
all_in_order cmp P xs all = all_of P (in_order cmp xs) (λ x at. of_all P xs x all (in_order_in cmp xs x at))

-- ---- order

-- an item that is smaller than all is put first
first_insert : {A : Type 0} (cmp : A → A → Ordering) (x : A) (ys : List A) → AllByRecursion (λ y. cmp x y ≡ Less) ys → insert_by cmp x ys ≡ x ∷ ys
first_insert cmp x [] all = refl
first_insert cmp x (y ∷ ys) all = put_as cmp x y ys Less all.0

-- items that ascend are in their order
pub in_order_already : {A : Type 0} (cmp : A → A → Ordering) (xs : List A) → IsStrictlySortedBy cmp xs → in_order cmp xs ≡ xs
unfolding IsStrictlySortedBy
in_order_already cmp [] sorted = refl
in_order_already cmp (x ∷ xs) sorted = ap (insert_by cmp x) (in_order_already cmp xs sorted.1) ∙ first_insert cmp x xs sorted.0

-- ---- items that are apart

-- no two of these items are equal
abbrev pub NoneEqual : {A : Type 0} → (A → A → Ordering) → List A → Type 0
NoneEqual cmp = Pairs (λ x y. is_eq (cmp x y) ≡ false)

less_apart : {A : Type 0} (cmp : A → A → Ordering) (x : A) (ys : List A) → AllByRecursion (λ y. cmp x y ≡ Less) ys → AllByRecursion (λ y. is_eq (cmp x y) ≡ false) ys
less_apart cmp x [] all = tt
less_apart cmp x (y ∷ ys) all = (ap is_eq all.0, less_apart cmp x ys all.1)

-- items that ascend are apart
pub sorted_apart : {A : Type 0} (cmp : A → A → Ordering) (xs : List A) → IsStrictlySortedBy cmp xs → NoneEqual cmp xs
unfolding IsStrictlySortedBy
sorted_apart cmp [] sorted = tt
sorted_apart cmp (x ∷ xs) sorted = (less_apart cmp x xs sorted.0, sorted_apart cmp xs sorted.1)

-- where the item is apart from all, there is one more
length_insert : {A : Type 0} (cmp : A → A → Ordering) (x : A) (ys : List A) → AllByRecursion (λ y. is_eq (cmp x y) ≡ false) ys → length (insert_by cmp x ys) ≡ suc (length ys)
length_insert cmp x [] new = refl
length_insert {A} cmp x (y ∷ ys) new = go (cmp x y) refl (length_insert cmp x ys new.1)
  where
    go : (o : Ordering) → cmp x y ≡ o → length (insert_by cmp x ys) ≡ suc (length ys)
        → length (elim o as (λ o. List A) [ Less ↦ x ∷ y ∷ ys | Equal ↦ x ∷ ys | Greater ↦ y ∷ insert_by cmp x ys ]) ≡ suc (suc (length ys))
    go Less e later = refl
    go Equal e later = absurd (true≢false (sym (ap is_eq e) ∙ new.0))
    go Greater e later = ap suc later

-- so many are in order as there are
pub length_in_order : {A : Type 0} (cmp : A → A → Ordering) (xs : List A) → NoneEqual cmp xs → length (in_order cmp xs) ≡ length xs
length_in_order cmp [] apart = refl
length_in_order cmp (x ∷ xs) apart =
    length_insert cmp x (in_order cmp xs) (all_in_order cmp (λ y. is_eq (cmp x y) ≡ false) xs apart.0) ∙ ap suc (length_in_order cmp xs apart.1)

-- ---- those that pass a test

-- an item kept where it passes
kept : {A : Type 0} (cmp : A → A → Ordering) (x : A) (l : List A) (b : Bool) → in_order cmp (cond b (x ∷ l) l) ≡ cond b (insert_by cmp x (in_order cmp l)) (in_order cmp l)
kept cmp x l true = refl
kept cmp x l false = refl

-- either of two items that are apart may be kept first
kept_both : {A : Type 0} {cmp : A → A → Ordering} (order : IsTotalOrder cmp) (x y : A) (l : List A) (b c : Bool) → is_eq (cmp x y) ≡ false
    → cond c (insert_by cmp y (cond b (insert_by cmp x l) l)) (cond b (insert_by cmp x l) l) ≡ cond b (insert_by cmp x (cond c (insert_by cmp y l) l)) (cond c (insert_by cmp y l) l)
kept_both order x y l true true apart = sym (swapped order x y l apart)
kept_both order x y l true false apart = refl
kept_both order x y l false true apart = refl
kept_both order x y l false false apart = refl

-- those that pass with one item more, put among them by another order
filter_insert : {A : Type 0} {cmp : A → A → Ordering} (order : IsTotalOrder cmp) (other : A → A → Ordering) (p : A → Bool) (x : A) (ys : List A)
    → AllByRecursion (λ y. is_eq (other x y) ≡ false) ys → AllByRecursion (λ y. is_eq (cmp x y) ≡ false) ys
    → in_order cmp (filter p (insert_by other x ys)) ≡ cond (p x) (insert_by cmp x (in_order cmp (filter p ys))) (in_order cmp (filter p ys))
filter_insert {A} {cmp} order other p x [] new apart = kept cmp x [] (p x)
filter_insert {A} {cmp} order other p x (y ∷ ys) new apart = go (other x y) refl (filter_insert order other p x ys new.1 apart.1)
  where
    R : List A
    R = in_order cmp (filter p ys)

    go : (o : Ordering) → other x y ≡ o → in_order cmp (filter p (insert_by other x ys)) ≡ cond (p x) (insert_by cmp x R) R
        → in_order cmp (filter p (insert_by other x (y ∷ ys))) ≡ cond (p x) (insert_by cmp x (in_order cmp (filter p (y ∷ ys)))) (in_order cmp (filter p (y ∷ ys)))
    go Less e later = ap (λ l. in_order cmp (filter p l)) (put_as other x y ys Less e) ∙ kept cmp x (filter p (y ∷ ys)) (p x)
    go Equal e later = absurd (true≢false (sym (ap is_eq e) ∙ new.0))
    go Greater e later =
        ap (λ l. in_order cmp (filter p l)) (put_as other x y ys Greater e)
        ∙ kept cmp y (filter p (insert_by other x ys)) (p y)
        ∙ ap (λ l. cond (p y) (insert_by cmp y l) l) later
        ∙ kept_both order x y R (p x) (p y) apart.0
        ∙ ap (λ l. cond (p x) (insert_by cmp x l) l) (sym (kept cmp y (filter p ys) (p y)))

-- those that pass, of items that are in another order, are the same in order
pub filter_reordered : {A : Type 0} {cmp : A → A → Ordering} (order : IsTotalOrder cmp) (other : A → A → Ordering) (p : A → Bool) (xs : List A)
    → NoneEqual other xs → NoneEqual cmp xs → in_order cmp (filter p (in_order other xs)) ≡ in_order cmp (filter p xs)
filter_reordered order other p [] new apart = refl
filter_reordered {A} {cmp} order other p (x ∷ xs) new apart =
    filter_insert order other p x (in_order other xs) (all_in_order other (λ y. is_eq (other x y) ≡ false) xs new.0) (all_in_order other (λ y. is_eq (cmp x y) ≡ false) xs apart.0)
    ∙ ap (λ l. cond (p x) (insert_by cmp x l) l) (filter_reordered order other p xs new.1 apart.1)
    ∙ sym (kept cmp x (filter p xs) (p x))

-- those that pass, of items in their order, are in their order
pub filter_in_order : {A : Type 0} {cmp : A → A → Ordering} (order : IsTotalOrder cmp) (p : A → Bool) (xs : List A) → NoneEqual cmp xs → filter p (in_order cmp xs) ≡ in_order cmp (filter p xs)
filter_in_order {A} {cmp} order p xs apart =
    sym (in_order_already cmp (filter p (in_order cmp xs)) (IsStrictlySortedBy-filter cmp p (in_order cmp xs) (sorted_in_order order xs)))
    ∙ filter_reordered order cmp p xs apart apart

filter_all : {A : Type 0} (xs : List A) → filter (λ x. true) xs ≡ xs
filter_all [] = refl
filter_all (x ∷ xs) = ap (λ l. x ∷ l) (filter_all xs)

-- items that ascend are found again by the order, in whatever other order they are put
pub again : {A : Type 0} {cmp : A → A → Ordering} (order : IsTotalOrder cmp) (other : A → A → Ordering) (xs : List A) → NoneEqual other xs → IsStrictlySortedBy cmp xs → in_order cmp (in_order other xs) ≡ xs
again {A} {cmp} order other xs new sorted =
    ap (in_order cmp) (sym (filter_all (in_order other xs)))
    ∙ filter_reordered order other (λ x. true) xs new (sorted_apart cmp xs sorted)
    ∙ ap (in_order cmp) (filter_all xs)
    ∙ in_order_already cmp xs sorted

-- ---- items that are read

when_true : {A : Type 0} (b : Bool) (a : A) → b ≡ true → when b a ≡ Some a
when_true b a e = ap (λ b. when b a) e

-- they are there once
pub once_again : {A : Type 0} {cmp : A → A → Ordering} (order : IsTotalOrder cmp) (other : A → A → Ordering) (xs : List A) → NoneEqual other xs → IsStrictlySortedBy cmp xs → once cmp (in_order other xs) ≡ Some xs
once_again {A} {cmp} order other xs new sorted =
    ap (λ (l : List A). when (length l == length (in_order other xs)) l) (again order other xs new sorted)
    ∙ when_true (length xs == length (in_order other xs)) xs (eq-eqb (length xs) (length (in_order other xs)) (sym (length_in_order other xs new)))

-- an item is put among items that are all mapped as it is among these
insert_map : {A B : Type 0} (cmp : B → B → Ordering) (h : A → B) (x : A) (xs : List A) → insert_by cmp (h x) (map h xs) ≡ map h (insert_by (λ a b. cmp (h a) (h b)) x xs)
insert_map cmp h x [] = refl
insert_map {A} {B} cmp h x (y ∷ ys) = go (cmp (h x) (h y)) refl (insert_map cmp h x ys)
  where
    go : (o : Ordering) → cmp (h x) (h y) ≡ o → insert_by cmp (h x) (map h ys) ≡ map h (insert_by (λ a b. cmp (h a) (h b)) x ys)
        → insert_by cmp (h x) (h y ∷ map h ys) ≡ map h (insert_by (λ a b. cmp (h a) (h b)) x (y ∷ ys))
    go Less e later = put_as cmp (h x) (h y) (map h ys) Less e ∙ sym (ap (map h) (put_as (λ a b. cmp (h a) (h b)) x y ys Less e))
    go Equal e later = put_as cmp (h x) (h y) (map h ys) Equal e ∙ sym (ap (map h) (put_as (λ a b. cmp (h a) (h b)) x y ys Equal e))
    go Greater e later = put_as cmp (h x) (h y) (map h ys) Greater e ∙ ap (λ l. h y ∷ l) later ∙ sym (ap (map h) (put_as (λ a b. cmp (h a) (h b)) x y ys Greater e))

-- mapped items are in the order of what they are mapped to
pub in_order_map : {A B : Type 0} (cmp : B → B → Ordering) (h : A → B) (xs : List A) → in_order cmp (map h xs) ≡ map h (in_order (λ a b. cmp (h a) (h b)) xs)
in_order_map cmp h [] = refl
in_order_map cmp h (x ∷ xs) = ap (insert_by cmp (h x)) (in_order_map cmp h xs) ∙ insert_map cmp h x (in_order (λ a b. cmp (h a) (h b)) xs)

-- what each was made of is read again
pub each_map : {A B : Type 0} (f : B → Option A) (h : A → B) (xs : List A) → AllByRecursion (λ x. f (h x) ≡ Some x) xs → each f (map h xs) ≡ Some xs
each_map f h [] all = refl
each_map {A} f h (x ∷ xs) all = ap₂ (λ (o : Option A) (l : Option (List A)). o >>= (λ y. option_map (λ ys. y ∷ ys) l)) all.0 (each_map f h xs all.1)

-- Items that ascend are read again from what was made of them, which stands among others in an order of its own.
pub read_again : {A B : Type 0} {cmp : A → A → Ordering} {other : B → B → Ordering} (order : IsTotalOrder cmp) (its : IsTotalOrder other)
    (f : B → Option A) (h : A → B) (p : B → Bool) (xs : List A) (all : List B)
    → NoneEqual other all → filter p all ≡ map h xs → IsStrictlySortedBy cmp xs → AllByRecursion (λ x. f (h x) ≡ Some x) xs
    → each f (filter p (in_order other all)) >>= once cmp ≡ Some xs
read_again {A} {B} {cmp} {other} order its f h p xs all apart are sorted read =
    let on = λ (a b : A). other (h a) (h b) in
    let new : NoneEqual on xs = pairs_unmap (λ (a b : B). is_eq (other a b) ≡ false) h xs (subst (NoneEqual other) are (pairs_filter (λ (a b : B). is_eq (other a b) ≡ false) p all apart)) in
    let lies : filter p (in_order other all) ≡ map h (in_order on xs) = filter_in_order its p all apart ∙ ap (in_order other) are ∙ in_order_map other h xs in
    ap (λ l. each f l >>= once cmp) lies
    ∙ ap (λ o. o >>= once cmp) (each_map f h (in_order on xs) (all_in_order on (λ x. f (h x) ≡ Some x) xs read))
    ∙ once_again order on xs new sorted
