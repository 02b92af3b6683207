-- Items of lists, and tests of them.
use Rattle.std.proofs.Common.{◌≡◌, refl, sym, ap, subst, ◌∙◌, inl, inr, true≢false, ℕ, suc, ◌<◌, zero, Bool, true, false, not, ◌||◌, cond, List, [], ◌∷◌, map, filter, length, arith, bytes_eq}
use Rattle.std.specs.Prelude.{slice_index_or}
use Rattle.std.specs.List.{AllByRecursion, Contains, IsDistinct, list_any}
use Rattle.std.specs.List.Sorted.{IsPermutation}
use Rattle.std.proofs.lemmas.Bool.{and_parts, and_from}
use Rattle.std.proofs.lemmas.Map.Keys.{IsDistinct-IsPermutation}
use Rattle.std.proofs.lemmas.Slice.Eq.{bytes_eq-Decides}
use Rattle.calculus.specs.Lists.{differ_by}
use Rattle.page_chain.specs.Lying.{is_among, all_differ}
use Rattle.page_chain.proofs.Counting.{bytes_turned}
use Rattle.stored_database.proofs.Members.{IsIn, Apart, of_all, all_of, map_in}

-- tests that pass together are the same
pub same_tests : (a b : Bool) → (a ≡ true → b ≡ true) → (b ≡ true → a ≡ true) → a ≡ b
same_tests true b to from = sym (to refl)
same_tests false true to from = from refl
same_tests false false to from = refl

not_false : (t : Bool) → not t ≡ true → t ≡ false
not_false true e = absurd (cc e)
not_false false e = refl

-- one of them passes
pub any_of : {A : Type 0} (test : A → Bool) (xs : List A) → list_any test xs ≡ true → (x : A) × IsIn x xs × (test x ≡ true)
any_of test [] e = absurd (cc e)
any_of {A} test (y ∷ ys) e = go (test y) refl e (any_of test ys)
  where
    go : (t : Bool) → test y ≡ t → (t || list_any test ys) ≡ true → (list_any test ys ≡ true → (x : A) × IsIn x ys × (test x ≡ true)) → (x : A) × IsIn x (y ∷ ys) × (test x ≡ true)
    go true is e later = (y, inl refl, is)
    go false is e later = let its = later e in (its.0, inr its.1, its.2)

-- so any does
pub of_any : {A : Type 0} (test : A → Bool) (xs : List A) (x : A) → IsIn x xs → test x ≡ true → list_any test xs ≡ true
of_any test [] x at e = absurd at
of_any test (y ∷ ys) x (inl f) e = ap (λ t. t || list_any test ys) (sym (ap test f) ∙ e)
of_any {A} test (y ∷ ys) x (inr at) e = go (test y) (of_any test ys x at e)
  where
    go : (t : Bool) → list_any test ys ≡ true → (t || list_any test ys) ≡ true
    go true e = refl
    go false e = e

-- what is contained in a list is one of its items
pub within : {A : Type 0} (xs : List A) (x : A) → Contains xs x → IsIn x xs
within {A} xs x c = go xs c.0 c.1 c.2
  where
    go : (xs : List A) (k : ℕ) → k < length xs → slice_index_or xs k x ≡ x → IsIn x xs
    go [] k less e = absurd (omega (arith, less))
    go (y ∷ ys) zero less e = inl (sym e)
    go (y ∷ ys) (suc k) less e = inr (go ys k (omega (arith, less)) e)

-- ---- rows as bytes

pub among_in : (rows : List (List ℕ)) (row : List ℕ) → is_among rows row ≡ true → IsIn row rows
among_in rows row e = let its = any_of (bytes_eq row) rows e in subst (λ r. IsIn r rows) (sym ((bytes_eq-Decides row its.0).0 its.2)) its.1

pub in_among : (rows : List (List ℕ)) (row : List ℕ) → IsIn row rows → is_among rows row ≡ true
in_among rows row at = of_any (bytes_eq row) rows row at ((bytes_eq-Decides row row).1 refl)

-- ---- rows that differ

none_any : {A : Type 0} (test : A → Bool) (xs : List A) → AllByRecursion (λ x. test x ≡ false) xs → not (list_any test xs) ≡ true
none_any test [] all = refl
none_any test (x ∷ xs) all = ap (λ t. not (t || list_any test xs)) all.0 ∙ none_any test xs all.1

any_none : {A : Type 0} (test : A → Bool) (xs : List A) → list_any test xs ≡ false → AllByRecursion (λ x. test x ≡ false) xs
any_none test xs e = all_of (λ x. test x ≡ false) xs (λ x at. go x (test x) refl at)
  where
    go : (x : _) (t : Bool) → test x ≡ t → IsIn x xs → test x ≡ false
    go x true is at = absurd (true≢false (sym (of_any test xs x at is) ∙ e))
    go x false is at = is

pub distinct_of : {A : Type 0} (same : A → A → Bool) (xs : List A) → differ_by same xs ≡ true → IsDistinct same xs
unfolding IsDistinct
distinct_of same [] e = tt
distinct_of same (x ∷ xs) e =
    let two = and_parts (not (list_any (same x) xs)) (differ_by same xs) e in
    (any_none (same x) xs (not_false (list_any (same x) xs) two.0), distinct_of same xs two.1)

pub differ_of : {A : Type 0} (same : A → A → Bool) (xs : List A) → IsDistinct same xs → differ_by same xs ≡ true
unfolding IsDistinct
differ_of same [] all = refl
differ_of same (x ∷ xs) all = and_from (not (list_any (same x) xs)) (differ_by same xs) (none_any (same x) xs all.0) (differ_of same xs all.1)

-- items that are apart are distinct
pub apart_distinct : {A : Type 0} (same : A → A → Bool) (xs : List A) → Apart same xs → IsDistinct same xs
unfolding IsDistinct
apart_distinct same [] apart = tt
apart_distinct same (x ∷ xs) apart = (apart.0, apart_distinct same xs apart.1)

-- what distinct items give is distinct, where it is the same of equal ones alone
pub map_distinct : {A B : Type 0} (same : A → A → Bool) (alike : B → B → Bool) (f : A → B) (xs : List A)
    → ((a b : A) → IsIn a xs → IsIn b xs → alike (f a) (f b) ≡ true → same a b ≡ true) → IsDistinct same xs → IsDistinct alike (map f xs)
unfolding IsDistinct
map_distinct same alike f [] keeps all = tt
map_distinct {A} {B} same alike f (x ∷ xs) keeps all =
    (all_of (λ y. alike (f x) y ≡ false) (map f xs) other, map_distinct same alike f xs (λ a b at bt. keeps a b (inr at) (inr bt)) all.1)
  where
    off : (a : A) → IsIn a xs → same x a ≡ false → (t : Bool) → alike (f x) (f a) ≡ t → alike (f x) (f a) ≡ false
    off a at not_same true is = absurd (true≢false (sym (keeps x a (inl refl) (inr at) is) ∙ not_same))
    off a at not_same false is = is

    other : (y : B) → IsIn y (map f xs) → alike (f x) y ≡ false
    other y at =
        let its = map_in f xs y at in
        subst (λ y. alike (f x) y ≡ false) (sym its.2) (off its.0 its.1 (of_all (λ a. same x a ≡ false) xs its.0 all.0 its.1) (alike (f x) (f its.0)) refl)

-- rows that differ do so in any order
pub differ_moved : (xs ys : List (List ℕ)) → IsPermutation xs ys → all_differ xs ≡ true → all_differ ys ≡ true
differ_moved xs ys moved e = differ_of bytes_eq ys (IsDistinct-IsPermutation bytes_eq bytes_turned xs ys moved (distinct_of bytes_eq xs e))

-- ---- mapped lists

-- the same test passes of what an item gives
pub filter_map : {A B : Type 0} (test : B → Bool) (same : A → Bool) (f : A → B) (xs : List A) → ((x : A) → IsIn x xs → test (f x) ≡ same x) → filter test (map f xs) ≡ map f (filter same xs)
filter_map test same f [] is = refl
filter_map {A} {B} test same f (x ∷ xs) is = go (test (f x)) (same x) refl refl (filter_map test same f xs (λ y at. is y (inr at)))
  where
    go : (a b : Bool) → test (f x) ≡ a → same x ≡ b → filter test (map f xs) ≡ map f (filter same xs)
        → cond a (f x ∷ filter test (map f xs)) (filter test (map f xs)) ≡ map f (cond b (x ∷ filter same xs) (filter same xs))
    go true true e g later = ap (λ l. f x ∷ l) later
    go true false e g later = absurd (true≢false (sym e ∙ is x (inl refl) ∙ g))
    go false true e g later = absurd (true≢false (sym g ∙ sym (is x (inl refl)) ∙ e))
    go false false e g later = later
