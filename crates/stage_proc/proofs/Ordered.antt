-- A list without repeats has one order that ascends, and it is that in which its items are inserted one by one.
use Rattle.std.proofs.Common.{◌≡◌, refl, sym, ap, ◌∙◌, subst, ℕ, suc, ◌+◌, ◌<◌, ◌≤◌, false, List, [], ◌∷◌, length, get_or, arith}
use Rattle.std.specs.Prelude.{⊤}
use Rattle.std.proofs.lemmas.Cmp.{tied_itself}
use Rattle.std.proofs.lemmas.List.Sorted.{ranks_by, sorted_far, sum_by-IsPermutation}
use Rattle.std.proofs.lemmas.List.Sums.{sum_by-cons}
use Rattle.std.specs.Cmp.{IsTotalOrder, IsStrictWeakOrder}
use Rattle.std.specs.List.{AllByRecursion, sum_by}
use Rattle.std.specs.List.Sorted.{IsPermutation, IsSorted}
use Rattle.std.specs.Ordering.{is_lt, ordering_reverse}
use Rattle.std.specs.declared.cmp.Ordering.{Ordering}
use Rattle.std.specs.declared.cmp.Ordering.TheVariants.{Less, Equal, Greater}
use Rattle.calculus.specs.Lists.{insert_by}

-- 1 where they are the same
abbrev pub one_if_same : Ordering → ℕ
one_if_same Less = 0
one_if_same Equal = 1
one_if_same Greater = 0

module _ {X : Type 0} (cmp : X → X → Ordering) (total : IsTotalOrder cmp) (exact : (x y : X) → cmp x y ≡ Equal → x ≡ y) where
  -- how often the item is in the list
  abbrev pub times : X → List X → ℕ
  times q [] = 0
  times q (x ∷ xs) = one_if_same (cmp q x) + times q xs

  -- none of these is smaller
  abbrev NoneBelow : X → List X → Type 0
  NoneBelow x ys = AllByRecursion (λ y. is_lt (cmp y x) ≡ false) ys

  -- none is smaller than one in front of it
  abbrev Rises : List X → Type 0
  Rises [] = ⊤
  Rises (x ∷ xs) = NoneBelow x xs × Rises xs

  -- none is there twice
  abbrev pub Differ : List X → Type 0
  Differ [] = ⊤
  Differ (x ∷ xs) = (times x xs ≡ 0) × Differ xs

  -- the items, inserted one by one
  abbrev pub inserted : List X → List X
  inserted [] = []
  inserted (x ∷ xs) = insert_by cmp x (inserted xs)

  weak : IsStrictWeakOrder (λ x y. is_lt (cmp x y))
  weak = ranks_by total (λ x. x)

  greater : (x y : X) → cmp x y ≡ Less → is_lt (cmp y x) ≡ false
  greater x y e = weak.one_way x y (ap is_lt e)

  itself : (x : X) (xs : List X) → times x (x ∷ xs) ≡ suc (times x xs)
  itself x xs = let one = ap one_if_same (tied_itself total x) in omega (arith, one)

  -- ---- two lists that rise and have the same items are one

  not_below : (x : X) (ys : List X) → NoneBelow x ys → (q : X) → 0 < times q ys → is_lt (cmp q x) ≡ false
  not_below x [] h q there = absurd (omega (arith, there))
  not_below x (y ∷ ys) h q there = go (not_below x ys h.1 q) (cmp q y) refl there
    where
      go : (0 < times q ys → is_lt (cmp q x) ≡ false) → (o : Ordering) → cmp q y ≡ o → 0 < one_if_same o + times q ys → is_lt (cmp q x) ≡ false
      go rest Less e more = rest (omega (arith, more))
      go rest Equal e more = subst (λ z. is_lt (cmp z x) ≡ false) (sym (exact q y e)) h.0
      go rest Greater e more = rest (omega (arith, more))

  first_same : (x y : X) (xs ys : List X) → NoneBelow x xs → NoneBelow y ys → ((q : X) → times q (x ∷ xs) ≡ times q (y ∷ ys)) → x ≡ y
  first_same x y xs ys above_x above_y same = go (cmp x y) refl
    where
      below : (u v : X) (us vs : List X) → NoneBelow v vs → times u (u ∷ us) ≡ times u (v ∷ vs) → cmp u v ≡ Less → u ≡ v
      below u v us vs above same e =
          let none = ap one_if_same e in
          let there : 0 < times u vs = omega (arith, itself u us, same, none) in
          cc (sym (ap is_lt e) ∙ not_below v vs above u there)

      go : (o : Ordering) → cmp x y ≡ o → x ≡ y
      go Less e = below x y xs ys above_y (same x) e
      go Equal e = exact x y e
      go Greater e = sym (below y x ys xs above_x (sym (same y)) (total.antisymm y x ∙ ap ordering_reverse e))

  pub same_order : (xs ys : List X) → Rises xs → Rises ys → ((q : X) → times q xs ≡ times q ys) → xs ≡ ys
  same_order [] [] a b same = refl
  same_order [] (y ∷ ys) a b same = absurd (omega (arith, same y, itself y ys))
  same_order (x ∷ xs) [] a b same = absurd (omega (arith, same x, itself x xs))
  same_order (x ∷ xs) (y ∷ ys) a b same =
      let one : x ≡ y = first_same x y xs ys a.0 b.0 same in
      let rest : xs ≡ ys = same_order xs ys a.1 b.1 (λ q. omega (arith, same q, ap (λ z. one_if_same (cmp q z)) one)) in
      λ i. one i ∷ rest i

  -- ---- what is inserted one by one rises

  abbrev put_by : Ordering → X → X → List X → List X → List X
  put_by Less x y ys more = x ∷ y ∷ ys
  put_by Equal x y ys more = x ∷ ys
  put_by Greater x y ys more = y ∷ more

  insert-cons : (x y : X) (ys : List X) (o : Ordering) → cmp x y ≡ o → insert_by cmp x (y ∷ ys) ≡ put_by o x y ys (insert_by cmp x ys)
  insert-cons x y ys Less e = ap (λ o. elim o [ Less ↦ x ∷ y ∷ ys | Equal ↦ x ∷ ys | Greater ↦ y ∷ insert_by cmp x ys ]) e
  insert-cons x y ys Equal e = ap (λ o. elim o [ Less ↦ x ∷ y ∷ ys | Equal ↦ x ∷ ys | Greater ↦ y ∷ insert_by cmp x ys ]) e
  insert-cons x y ys Greater e = ap (λ o. elim o [ Less ↦ x ∷ y ∷ ys | Equal ↦ x ∷ ys | Greater ↦ y ∷ insert_by cmp x ys ]) e

  still_none_below : (x y : X) (ys : List X) → cmp x y ≡ Less → NoneBelow y ys → NoneBelow x ys
  still_none_below x y [] e h = tt
  still_none_below x y (z ∷ zs) e h = (weak.chain z y x h.0 (greater x y e), still_none_below x y zs e h.1)

  none_below-insert : (y x : X) (xs : List X) → is_lt (cmp x y) ≡ false → NoneBelow y xs → NoneBelow y (insert_by cmp x xs)
  none_below-insert y x [] e h = (e, tt)
  none_below-insert y x (z ∷ zs) e h = subst (NoneBelow y) (sym (insert-cons x z zs (cmp x z) refl)) (go (none_below-insert y x zs e h.1) (cmp x z))
    where
      go : NoneBelow y (insert_by cmp x zs) → (o : Ordering) → NoneBelow y (put_by o x z zs (insert_by cmp x zs))
      go more Less = (e, h)
      go more Equal = (e, h.1)
      go more Greater = (h.0, more)

  Rises-insert : (x : X) (xs : List X) → Rises xs → Rises (insert_by cmp x xs)
  Rises-insert x [] h = (tt, tt)
  Rises-insert x (y ∷ ys) h = subst Rises (sym (insert-cons x y ys (cmp x y) refl)) (go (Rises-insert x ys h.1) (cmp x y) refl)
    where
      go : Rises (insert_by cmp x ys) → (o : Ordering) → cmp x y ≡ o → Rises (put_by o x y ys (insert_by cmp x ys))
      go more Less e = ((greater x y e, still_none_below x y ys e h.0), h)
      go more Equal e = subst (λ z. Rises (z ∷ ys)) (sym (exact x y e)) h
      go more Greater e = (none_below-insert y x ys (ap is_lt e) h.0, more)

  Rises-inserted : (xs : List X) → Rises (inserted xs)
  Rises-inserted [] = tt
  Rises-inserted (x ∷ xs) = Rises-insert x (inserted xs) (Rises-inserted xs)

  -- ---- it has the same items

  times-insert : (x : X) (xs : List X) → times x xs ≡ 0 → (q : X) → times q (insert_by cmp x xs) ≡ one_if_same (cmp q x) + times q xs
  times-insert x [] none q = omega arith
  times-insert x (y ∷ ys) none q = ap (times q) (insert-cons x y ys (cmp x y) refl) ∙ go (cmp x y) none (times-insert x ys)
    where
      go : (o : Ordering) → one_if_same o + times x ys ≡ 0 → (times x ys ≡ 0 → (p : X) → times p (insert_by cmp x ys) ≡ one_if_same (cmp p x) + times p ys)
          → times q (put_by o x y ys (insert_by cmp x ys)) ≡ one_if_same (cmp q x) + times q (y ∷ ys)
      go Less none more = refl
      go Equal none more = absurd (omega (arith, none))
      go Greater none more = let later = more (omega (arith, none)) q in omega (arith, later)

  times-inserted : (xs : List X) → Differ xs → (q : X) → times q (inserted xs) ≡ times q xs
  times-inserted [] h q = refl
  times-inserted (x ∷ xs) h q =
      times-insert x (inserted xs) (times-inserted xs h.1 x ∙ h.0) q ∙ ap (λ n. one_if_same (cmp q x) + n) (times-inserted xs h.1 q)

  -- ---- what a sort gives

  rises_from_far : (ys : List X) → ((i j : ℕ) (d : X) → i ≤ j → j < length ys → is_lt (cmp (get_or ys j d) (get_or ys i d)) ≡ false) → Rises ys
  rises_from_far [] far = tt
  rises_from_far (y ∷ ys) far =
      (first ys (λ k h. far 0 (suc k) y (omega arith) (omega (arith, h))), rises_from_far ys (λ i j d below inside. far (suc i) (suc j) d (omega (arith, below)) (omega (arith, inside))))
    where
      first : (zs : List X) → ((k : ℕ) → k < length zs → is_lt (cmp (get_or zs k y) y) ≡ false) → NoneBelow y zs
      first [] h = tt
      first (z ∷ zs) h = (h 0 (omega arith), first zs (λ k inside. h (suc k) (omega (arith, inside))))

  -- ---- moved items

  times_is_sum : (q : X) (xs : List X) → times q xs ≡ sum_by (λ x. one_if_same (cmp q x)) xs
  times_is_sum q [] = refl
  times_is_sum q (x ∷ xs) = ap (λ n. one_if_same (cmp q x) + n) (times_is_sum q xs) ∙ sym (sum_by-cons (λ x. one_if_same (cmp q x)) x xs)

  times-moved : (xs ys : List X) → IsPermutation xs ys → (q : X) → times q ys ≡ times q xs
  times-moved xs ys moved q = times_is_sum q ys ∙ sum_by-IsPermutation (λ x. one_if_same (cmp q x)) xs ys moved ∙ sym (times_is_sum q xs)

  -- the sorted order of a list without repeats
  pub sorted_is : (xs ys : List X) → Differ xs → IsPermutation xs ys → IsSorted cmp ys → ys ≡ inserted xs
  sorted_is xs ys differ moved up =
      same_order ys (inserted xs) (rises_from_far ys (sorted_far (λ x y. is_lt (cmp x y)) weak ys up)) (Rises-inserted xs)
      (λ q. times-moved xs ys moved q ∙ sym (times-inserted xs differ q))
