-- Lists that were sorted: what is there once in them, and which of them ascend.
use Rattle.std.proofs.Common.{◌≡◌, refl, sym, ap, subst, ◌∙◌, ℕ, suc, ◌+◌, ◌<◌, ◌≤◌, ◌==◌, Bool, true, false, List, [], ◌∷◌, map, length, get_or, Option, Some, None, IsTrue, add-one, arith}
use Rattle.std.specs.Cmp.{IsTotalOrder}
use Rattle.std.specs.List.{AllByRecursion, IsAllAdjacentAnswer}
use Rattle.std.specs.List.Sorted.{IsPermutation, IsStrictlySortedBy, IsSorted}
use Rattle.std.specs.Ordering.{is_eq, is_lt, ordering_reverse}
use Rattle.std.specs.declared.cmp.Ordering.{Ordering}
use Rattle.std.specs.declared.cmp.Ordering.TheVariants.{Less, Equal, Greater}
use Rattle.std.proofs.lemmas.List.{get_or-map, length-map}
use Rattle.std.proofs.lemmas.List.Sorted.{IsPermutation-sym, IsPermutation-map, length_permutation, sorted_far, ranks_by}
use Rattle.std.proofs.lemmas.Map.Keys.{Less-from_sorted}
use Rattle.page_chain.specs.Lists.{when, in_order, once}
use Rattle.stored_database.proofs.InOrder.{in_order_already}
use Rattle.stored_database.proofs.Listing.{in_moved, in_order_moved}
use Rattle.stored_database.proofs.Members.{Apart}
use Rattle.stored_database.proofs.Reading.{number_itself}
use Rattle.stored_database.proofs.Sets.{IsOnce, is_once, sorted_in_order, set_is}

-- ---- orders

less : (o : Ordering) → is_lt o ≡ true → o ≡ Less
less Less h = refl
less Equal h = cc
less Greater h = cc

-- what is neither before another nor equal to it is behind it
before : (o p : Ordering) → o ≡ ordering_reverse p → is_lt p ≡ false → is_eq o ≡ false → o ≡ Less
before Less p e low apart = refl
before Equal p e low apart = cc
before Greater Less e low apart = cc
before Greater Equal e low apart = cc
before Greater Greater e low apart = cc

module _ {A : Type 0} {cmp : A → A → Ordering} (order : IsTotalOrder cmp) where
  -- ---- lists in another order

  -- what is there once is there once in whatever order it lies
  pub once_moved : (xs ys zs : List A) → IsPermutation xs ys → once cmp xs ≡ Some zs → once cmp ys ≡ Some zs
  once_moved xs ys zs moved h =
      let o : IsOnce order xs zs = is_once order xs zs h in
      let up : IsStrictlySortedBy cmp zs = subst (IsStrictlySortedBy cmp) (sym o.set) (sorted_in_order order xs) in
      let is : zs ≡ in_order cmp ys = set_is order zs ys up (λ z at. in_moved xs ys z moved (o.from z at)) (λ z at. o.to z (in_moved ys xs z (IsPermutation-sym xs ys moved) at)) in
      let long : length (in_order cmp ys) ≡ length ys =
      ap length (sym is) ∙ ap length o.set ∙ length_permutation xs (in_order cmp xs) (in_order_moved cmp xs o.apart) ∙ sym (length_permutation xs ys moved) in
      let passes : (length (in_order cmp ys) == length ys) ≡ true = ap (λ n. n == length ys) long ∙ number_itself (length ys) in
      (λ i. when (passes i) (sym is i))

  -- items that ascend are there once
  pub once_ascending : (xs : List A) → IsStrictlySortedBy cmp xs → once cmp xs ≡ Some xs
  once_ascending xs up =
      let is : in_order cmp xs ≡ xs = in_order_already cmp xs up in
      let passes : (length (in_order cmp xs) == length xs) ≡ true = ap (λ (l : List A). length l == length xs) is ∙ number_itself (length xs) in
      (λ i. when (passes i) (is i))

  -- ---- items of which each has such a value

  module _ {X : Type 0} (f : X → A) where
    behind : (x : X) (xs : List X) → ((j : ℕ) (d : X) → j < length xs → is_lt (cmp (f (get_or xs j d)) (f x)) ≡ false)
        → AllByRecursion (λ y. is_eq (cmp (f x) y) ≡ false) (map f xs) → AllByRecursion (λ y. cmp (f x) y ≡ Less) (map f xs)
    behind x [] low apart = tt
    behind x (y ∷ ys) low apart =
        (before (cmp (f x) (f y)) (cmp (f y) (f x)) (order.antisymm (f x) (f y)) (low 0 x (omega arith)) apart.0, behind x ys (λ j d h. low (suc j) d (omega (arith, h))) apart.1)

    strict_from_far : (xs : List X) → ((i j : ℕ) (d : X) → i ≤ j → j < length xs → is_lt (cmp (f (get_or xs j d)) (f (get_or xs i d))) ≡ false)
        → Apart (λ a b. is_eq (cmp a b)) (map f xs) → IsStrictlySortedBy cmp (map f xs)
    unfolding IsStrictlySortedBy
    strict_from_far [] far apart = tt
    strict_from_far (x ∷ xs) far apart = (
      behind x xs (λ j d h. far 0 (suc j) d (omega arith) (omega (arith, h))) apart.0,
      strict_from_far xs (λ i j d le h. far (suc i) (suc j) d (omega (arith, le)) (omega (arith, h))) apart.1,
    )

    -- what was sorted and is there once ascends
    strict_from_sort : (xs : List X) (zs : List A) → IsSorted (λ a b. cmp (f a) (f b)) xs → once cmp (map f xs) ≡ Some zs → IsStrictlySortedBy cmp (map f xs)
    strict_from_sort xs zs up h =
        let o : IsOnce order (map f xs) zs = is_once order (map f xs) zs h in
        strict_from_far xs (sorted_far (λ a b. is_lt (cmp (f a) (f b))) (ranks_by order f) xs up) o.apart

    -- items that were sorted and then ascend are those that are there once
    pub sorted_ascend : (xs ys : List X) → IsPermutation xs ys → IsStrictlySortedBy cmp (map f ys) → once cmp (map f xs) ≡ Some (map f ys)
    sorted_ascend xs ys moved up =
        once_moved (map f ys) (map f xs) (map f ys) (IsPermutation-sym (map f xs) (map f ys) (IsPermutation-map f xs ys moved)) (once_ascending (map f ys) up)

    -- where they don't ascend, something is there twice
    pub sorted_twice : (xs ys : List X) → IsPermutation xs ys → IsSorted (λ a b. cmp (f a) (f b)) ys → (IsStrictlySortedBy cmp (map f ys) → ⊥) → once cmp (map f xs) ≡ None
    sorted_twice xs ys moved sorted not = go (once cmp (map f xs)) refl
      where
        go : (o : Option (List A)) → once cmp (map f xs) ≡ o → o ≡ None
        go None e = refl
        go (Some zs) e = absurd (not (strict_from_sort ys zs sorted (once_moved (map f xs) (map f ys) zs (IsPermutation-map f xs ys moved) e)))

    -- ---- neighbours

    -- an item is before each one behind it
    pub rising : (xs : List X) → IsStrictlySortedBy cmp (map f xs) → (i j : ℕ) (d : X) → i < j → j < length xs → cmp (f (get_or xs i d)) (f (get_or xs j d)) ≡ Less
    rising xs h i j d low high =
        let first = get_or-map f xs i d (f d) (omega (arith, low, high)) in
        let second = get_or-map f xs j d (f d) high in
        let up = Less-from_sorted cmp (map f xs) i j (f d) h low (omega (arith, high, length-map xs f)) in
        subst (λ k. cmp (f (get_or xs i d)) k ≡ Less) second (subst (λ k. cmp k (get_or (map f xs) j (f d)) ≡ Less) first up)

    above : (x y : X) (ys : List X) → cmp (f x) (f y) ≡ Less → AllByRecursion (λ z. cmp (f y) z ≡ Less) (map f ys) → AllByRecursion (λ z. cmp (f x) z ≡ Less) (map f ys)
    above x y [] low all = tt
    above x y (z ∷ zs) low all = (order.trans (f x) (f y) (f z) low all.0, above x y zs low all.1)

    from_neighbours : (xs : List X) → ((k : ℕ) (d : X) → suc k < length xs → true ≡ is_lt (cmp (f (get_or xs k d)) (f (get_or xs (suc k) d)))) → IsStrictlySortedBy cmp (map f xs)
    unfolding IsStrictlySortedBy
    from_neighbours [] each = tt
    from_neighbours (x ∷ []) each = (tt, tt)
    from_neighbours (x ∷ y ∷ ys) each =
        let low : cmp (f x) (f y) ≡ Less = less (cmp (f x) (f y)) (sym (each 0 x (omega arith))) in
        let later : IsStrictlySortedBy cmp (map f (y ∷ ys)) = from_neighbours (y ∷ ys) (λ k d h. each (suc k) d (omega (arith, h))) in
        ((low, above x y ys low later.0), later)

    -- they ascend where each is smaller than the next
    pub neighbours_decide : (xs : List X) (r : Bool) → IsAllAdjacentAnswer (λ x y b. b ≡ is_lt (cmp (f x) (f y))) xs r
        → (IsTrue r → IsStrictlySortedBy cmp (map f xs)) × (IsStrictlySortedBy cmp (map f xs) → IsTrue r)
    neighbours_decide xs true answer = (λ h. from_neighbours xs (λ k d low. answer k d (omega (arith, low)) ∙ ap (λ n. is_lt (cmp (f (get_or xs k d)) (f (get_or xs n d)))) (add-one k)), λ up. refl)
    neighbours_decide [] false answer = (λ h. cc, λ up. absurd (omega (arith, answer.1)))
    neighbours_decide (x ∷ xs) false answer =
        (λ h. cc, λ up. cc (rising (x ∷ xs) up answer.0 (answer.0 + 1) x (omega arith) answer.1, answer.2 x))
