-- What a binary search by key finds.
use Rattle.std.proofs.Common.{◌≡◌, refl, sym, ap, ◌∙◌, subst, ℕ, zero, suc, ◌+◌, ◌<◌, Bool, false, ◌&&◌, cond, List, [], ◌∷◌, length, map, slice_index_or, Some, None, Err, ⊎_elim, rules, arith}
use Rattle.std.specs.Prelude.{bytes_eq}
use Rattle.std.specs.Cmp.Lexicographic.{slice_cmp}
use Rattle.std.specs.List.{find}
use Rattle.std.specs.List.Sorted.{IsStrictlySortedBy, IsSortedBy, IsBinarySearchResult}
use Rattle.std.specs.Ordering.{nat_cmp, ordering_then, ordering_reverse, is_eq, is_lt}
use Rattle.std.specs.declared.cmp.Ordering.{Ordering}
use Rattle.std.specs.declared.cmp.Ordering.TheVariants.{Less, Equal, Greater}
use Rattle.std.proofs.lemmas.Bool.{cases_lt}
use Rattle.std.proofs.lemmas.List.{get_or-map, length-map}
use Rattle.std.proofs.lemmas.List.Sorted.{searchable_from_sorted}
use Rattle.std.proofs.lemmas.Map.Keys.{sorted_tail, Less-from_sorted}
use Rattle.std.proofs.lemmas.Map.Text.{is_eq-slice_cmp}
use Rattle.calculus.specs.declared.query.RelKey.{RelKey}
use Rattle.calculus.specs.Keys.{same_key, key_cmp}
use Rattle.plain_base.proofs.ChangeAt.{key_total, same_key_is}

-- keys are the same where neither is before the other
same_by_order : (a b : RelKey) → same_key a b ≡ is_eq (key_cmp a b)
same_by_order a b =
    go (slice_cmp nat_cmp a.owner b.owner) (slice_cmp nat_cmp a.name b.name) (sym (is_eq-slice_cmp a.owner b.owner)) (sym (is_eq-slice_cmp a.name b.name))
  where
    go : (o p : Ordering) → bytes_eq a.owner b.owner ≡ is_eq o → bytes_eq a.name b.name ≡ is_eq p
        → (bytes_eq a.owner b.owner && bytes_eq a.name b.name) ≡ is_eq (ordering_then o p)
    go Less p e f = ap (λ c. c && bytes_eq a.name b.name) e
    go Equal p e f = ap (λ c. c && bytes_eq a.name b.name) e ∙ f
    go Greater p e f = ap (λ c. c && bytes_eq a.name b.name) e

-- a key is before each one behind it
rising : {X : Type 0} (key_of : X → RelKey) (xs : List X) → IsStrictlySortedBy key_cmp (map key_of xs) → (i j : ℕ) (d : X) → i < j → j < length xs
    → key_cmp (key_of (slice_index_or xs i d)) (key_of (slice_index_or xs j d)) ≡ Less
rising key_of xs h i j d low high =
    let first = get_or-map key_of xs i d (key_of d) (omega (arith, low, high)) in
    let second = get_or-map key_of xs j d (key_of d) high in
    let less = Less-from_sorted key_cmp (map key_of xs) i j (key_of d) h low (omega (arith, high, length-map xs key_of)) in
    subst (λ k. key_cmp (key_of (slice_index_or xs i d)) k ≡ Less) second
    (subst (λ k. key_cmp k (slice_index_or (map key_of xs) j (key_of d)) ≡ Less) first less)

searchable : {X : Type 0} (key_of : X → RelKey) (xs : List X) → IsStrictlySortedBy key_cmp (map key_of xs)
    → IsSortedBy (λ a b. is_lt (key_cmp (key_of a) (key_of b))) xs
searchable key_of xs h k d low high =
    ap is_lt (key_total.antisymm (key_of (slice_index_or xs (k + 1) d)) (key_of (slice_index_or xs k d))
    ∙ ap ordering_reverse (rising key_of xs h k (k + 1) d (search rules) high))

-- the item at which the search ended is the first with the key
pub found_at : {X : Type 0} (key_of : X → RelKey) (key : RelKey) (xs : List X) → IsStrictlySortedBy key_cmp (map key_of xs) → (i : ℕ) → i < length xs → (d : X)
    → key_cmp (key_of (slice_index_or xs i d)) key ≡ Equal → find (λ x. same_key (key_of x) key) xs ≡ Some (slice_index_or xs i d)
found_at key_of key [] h i within d e = absurd (omega (arith, within))
found_at key_of key (x ∷ xs) h zero within d e =
    ap (λ b. cond b (Some x) (find (λ x. same_key (key_of x) key) xs)) (same_by_order (key_of x) key ∙ ap is_eq e)
found_at key_of key (x ∷ xs) h (suc i) within d e =
    let one : key_of (slice_index_or xs i d) ≡ key = same_key_is (key_of (slice_index_or xs i d)) key (same_by_order (key_of (slice_index_or xs i d)) key ∙ ap is_eq e) in
    let less : key_cmp (key_of x) key ≡ Less = subst (λ k. key_cmp (key_of x) k ≡ Less) one (rising key_of (x ∷ xs) h 0 (suc i) d (search rules) within) in
    ap (λ b. cond b (Some x) (find (λ x. same_key (key_of x) key) xs)) (same_by_order (key_of x) key ∙ ap is_eq less)
    ∙ found_at key_of key xs (sorted_tail key_cmp (key_of x) (map key_of xs) h) i (search rules) d e

none_at : {X : Type 0} (p : X → Bool) (xs : List X) → ((k : ℕ) (d : X) → k < length xs → p (slice_index_or xs k d) ≡ false) → find p xs ≡ None
none_at p [] h = refl
none_at p (x ∷ xs) h =
    ap (λ b. cond b (Some x) (find p xs)) (h 0 x (search rules)) ∙ none_at p xs (λ k d low. h (suc k) d (search rules))

-- where the search ended between items, none has the key
pub found_none : {X : Type 0} (key_of : X → RelKey) (key : RelKey) (xs : List X) → IsStrictlySortedBy key_cmp (map key_of xs) → (i : ℕ)
    → IsBinarySearchResult (λ x. key_cmp (key_of x) key) xs (Err i) → find (λ x. same_key (key_of x) key) xs ≡ None
found_none {X} key_of key xs h i at = none_at (λ x. same_key (key_of x) key) xs (λ k d within. same_by_order (key_of (slice_index_or xs k d)) key ∙ other k d within)
  where
    other : (k : ℕ) (d : X) → k < length xs → is_eq (key_cmp (key_of (slice_index_or xs k d)) key) ≡ false
    other k d within =
        let parts = at (searchable_from_sorted key_total key_of xs key (searchable key_of xs h)) in
        ⊎_elim (λ low. ap is_eq (parts.0 k d (search rules) low)) (λ high. ap is_eq (parts.1 k d high within)) (cases_lt k i)
