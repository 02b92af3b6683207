-- Where a binary search by key ends, what is put there, and what is found afterwards.
use Rattle.std.proofs.Common.{◌≡◌, refl, sym, ap, ◌∙◌, subst, inl, inr, ℕ, ◌+◌, ◌<◌, ◌≤◌, Bool, true, false, cond, List, [], ◌∷◌, length, map, filter, slice_index_or, slice_set, Some, None, Option, Result, Ok, Err, ⊎_elim, rules, arith}
use Rattle.std.specs.List.{AllByRecursion, find, insert}
use Rattle.std.specs.Prelude.{OnOk, OnErr}
use Rattle.std.specs.List.Sorted.{IsStrictlySortedBy, IsSortedBy, IsBinarySearchResult}
use Rattle.std.specs.Ordering.{is_eq, is_lt, ordering_reverse}
use Rattle.std.specs.declared.cmp.Ordering.{Ordering}
use Rattle.std.specs.declared.cmp.Ordering.TheVariants.{Less, Equal, Greater}
use Rattle.std.proofs.lemmas.Bool.{cases_lt}
use Rattle.std.proofs.lemmas.Cmp.{tied_itself}
use Rattle.std.proofs.lemmas.List.Sorted.{searchable_from_sorted}
use Rattle.std.proofs.lemmas.Map.Keys.{Less-from_sorted}
use Rattle.calculus.specs.declared.query.RelKey.{RelKey}
use Rattle.calculus.specs.Keys.{same_key, key_cmp}
use Rattle.calculus.specs.Lists.{insert_by}
use Rattle.stored_database.proofs.Members.{IsIn, of_all, all_of}
use Rattle.stored_database.proofs.Orders.{key_total, key_exact, same_key_is}
use Rattle.stored_database.proofs.Pairs.{all_map}
use Rattle.stored_database.proofs.Sets.{insert_as, insert_cons, insert_in}
use Rattle.plain_base.proofs.PutInOrder.{put_before, put_behind, put_in_place}
use Rattle.plain_base.proofs.SearchByKey.{found_at, found_none}

module _ {X : Type 0} (key_of : X → RelKey) where
  -- by their keys
  abbrev pub by_key : X → X → Ordering
  by_key a b = key_cmp (key_of a) (key_of b)

  pub keys_up : (xs : List X) → IsStrictlySortedBy by_key xs → IsStrictlySortedBy key_cmp (map key_of xs)
  unfolding IsStrictlySortedBy
  keys_up [] up = tt
  keys_up (x ∷ xs) up = (all_map (λ k. key_cmp (key_of x) k ≡ Less) key_of xs up.0, keys_up xs up.1)

  -- ---- where the search ends

  pub there : (key : RelKey) (xs : List X) → IsStrictlySortedBy by_key xs → (i : ℕ) → i < length xs → IsBinarySearchResult (λ x. key_cmp (key_of x) key) xs (Ok i)
      → (d : X) → find (λ x. same_key (key_of x) key) xs ≡ Some (slice_index_or xs i d)
  there key xs up i within at d = found_at key_of key xs (keys_up xs up) i within d (at d)

  pub absent : (key : RelKey) (xs : List X) → IsStrictlySortedBy by_key xs → (i : ℕ) → IsBinarySearchResult (λ x. key_cmp (key_of x) key) xs (Err i)
      → find (λ x. same_key (key_of x) key) xs ≡ None
  absent key xs up i at = found_none key_of key xs (keys_up xs up) i at

  rising : (xs : List X) → IsStrictlySortedBy by_key xs → IsSortedBy (λ a b. is_lt (key_cmp (key_of a) (key_of b))) xs
  rising xs up k d low high =
      ap is_lt (key_total.antisymm (key_of (slice_index_or xs (k + 1) d)) (key_of (slice_index_or xs k d))
      ∙ ap ordering_reverse (Less-from_sorted by_key xs k (k + 1) d up (search rules) high))

  key_at : (a b : RelKey) → key_cmp a b ≡ Equal → a ≡ b
  key_at a b e = same_key_is a b (sym (key_exact a b) ∙ ap is_eq e)

  pub put_at : (key : RelKey) (xs : List X) → IsStrictlySortedBy by_key xs → (i : ℕ) → i < length xs → IsBinarySearchResult (λ x. key_cmp (key_of x) key) xs (Ok i)
      → (x : X) → key_of x ≡ key → insert_by by_key x xs ≡ slice_set xs i x
  put_at key xs up i within at x same =
      put_in_place by_key x xs i within above (ap (λ k. key_cmp k (key_of (slice_index_or xs i x))) (same ∙ sym (here x)) ∙ tied_itself key_total (key_of (slice_index_or xs i x)))
    where
      here : (d : X) → key_of (slice_index_or xs i d) ≡ key
      here d = key_at (key_of (slice_index_or xs i d)) key (at d)

      above : (k : ℕ) (d : X) → k < i → by_key x (slice_index_or xs k d) ≡ Greater
      above k d low =
          key_total.antisymm (key_of x) (key_of (slice_index_or xs k d))
          ∙ ap ordering_reverse (ap (key_cmp (key_of (slice_index_or xs k d))) (same ∙ sym (here d)) ∙ Less-from_sorted by_key xs k i d up low within)

  pub put_between : (key : RelKey) (xs : List X) → IsStrictlySortedBy by_key xs → (i : ℕ) → i ≤ length xs → IsBinarySearchResult (λ x. key_cmp (key_of x) key) xs (Err i)
      → (x : X) → key_of x ≡ key → insert_by by_key x xs ≡ insert xs i x
  put_between key xs up i within at x same =
      ⊎_elim (λ low. put_before by_key x xs i low above (ap (λ k. key_cmp k (key_of (slice_index_or xs i x))) same ∙ key_total.antisymm key (key_of (slice_index_or xs i x)) ∙ ap ordering_reverse (greater i x (search rules) low)))
      (λ high. (let last : i ≡ length xs = omega (arith, high, within) in
      subst (λ n. insert_by by_key x xs ≡ insert xs n x) (sym last) (put_behind by_key x xs (subst (λ n. (k : ℕ) (d : X) → k < n → by_key x (slice_index_or xs k d) ≡ Greater) last above))))
      (cases_lt i (length xs))
    where
      less : (k : ℕ) (d : X) → k < i → key_cmp (key_of (slice_index_or xs k d)) key ≡ Less
      less k d low = (at (searchable_from_sorted key_total key_of xs key (rising xs up))).0 k d (search rules) low

      greater : (k : ℕ) (d : X) → i ≤ k → k < length xs → key_cmp (key_of (slice_index_or xs k d)) key ≡ Greater
      greater k d low high = (at (searchable_from_sorted key_total key_of xs key (rising xs up))).1 k d low high

      above : (k : ℕ) (d : X) → k < i → by_key x (slice_index_or xs k d) ≡ Greater
      above k d low =
          ap (λ k'. key_cmp k' (key_of (slice_index_or xs k d))) same
          ∙ key_total.antisymm key (key_of (slice_index_or xs k d)) ∙ ap ordering_reverse (less k d low)

  -- ---- what is put

  both_are : (x y : X) (k : RelKey) → by_key x y ≡ Greater → same_key (key_of x) k ≡ true → same_key (key_of y) k ≡ true → ⊥
  both_are x y k e a b =
      let one : key_of x ≡ key_of y = same_key_is (key_of x) k a ∙ sym (same_key_is (key_of y) k b) in
      cc (sym (tied_itself key_total (key_of y)) ∙ ap (λ j. key_cmp j (key_of y)) (sym one) ∙ e)

  -- it is found under its key, and under any other what was found there
  pub find_put : (x : X) (xs : List X) (k : RelKey) → find (λ y. same_key (key_of y) k) (insert_by by_key x xs) ≡ cond (same_key (key_of x) k) (Some x) (find (λ y. same_key (key_of y) k) xs)
  find_put x [] k = refl
  find_put x (y ∷ ys) k = ap (find (λ y. same_key (key_of y) k)) (insert_cons by_key x y ys) ∙ go (by_key x y) refl (find_put x ys k)
    where
      equal : (a b : Bool) → a ≡ b → cond a (Some x) (find (λ y. same_key (key_of y) k) ys) ≡ cond a (Some x) (cond b (Some y) (find (λ y. same_key (key_of y) k) ys))
      equal true b e = refl
      equal false true e = cc e
      equal false false e = refl

      other : (a b : Bool) → same_key (key_of x) k ≡ a → same_key (key_of y) k ≡ b → by_key x y ≡ Greater
          → cond b (Some y) (cond a (Some x) (find (λ y. same_key (key_of y) k) ys)) ≡ cond a (Some x) (cond b (Some y) (find (λ y. same_key (key_of y) k) ys))
      other true true e f g = absurd (both_are x y k g e f)
      other true false e f g = refl
      other false b e f g = refl

      go : (o : Ordering) → by_key x y ≡ o → find (λ y. same_key (key_of y) k) (insert_by by_key x ys) ≡ cond (same_key (key_of x) k) (Some x) (find (λ y. same_key (key_of y) k) ys)
          → find (λ y. same_key (key_of y) k) (insert_as o x y ys (insert_by by_key x ys)) ≡ cond (same_key (key_of x) k) (Some x) (cond (same_key (key_of y) k) (Some y) (find (λ y. same_key (key_of y) k) ys))
      go Less e later = refl
      go Equal e later = equal (same_key (key_of x) k) (same_key (key_of y) k) (ap (λ j. same_key j k) (key_at (key_of x) (key_of y) e))
      go Greater e later = ap (λ o. cond (same_key (key_of y) k) (Some y) o) later ∙ other (same_key (key_of x) k) (same_key (key_of y) k) refl refl e

  pub up_put : (x : X) (ys : List X) → IsStrictlySortedBy by_key ys → IsStrictlySortedBy by_key (insert_by by_key x ys)
  unfolding IsStrictlySortedBy
  up_put x [] up = (tt, tt)
  up_put x (y ∷ ys) up = subst (IsStrictlySortedBy by_key) (sym (insert_cons by_key x y ys)) (go (by_key x y) refl (up_put x ys up.1))
    where
      below : by_key x y ≡ Less → AllByRecursion (λ z. by_key x z ≡ Less) ys
      below e = all_of (λ z. by_key x z ≡ Less) ys (λ z at. key_total.trans (key_of x) (key_of y) (key_of z) e (of_all (λ z. by_key y z ≡ Less) ys z up.0 at))

      go : (o : Ordering) → by_key x y ≡ o → IsStrictlySortedBy by_key (insert_by by_key x ys) → IsStrictlySortedBy by_key (insert_as o x y ys (insert_by by_key x ys))
      go Less e later = ((e, below e), up)
      go Equal e later = (all_of (λ z. by_key x z ≡ Less) ys (λ z at. key_total.congr (key_of x) (key_of y) (key_of z) e ∙ of_all (λ z. by_key y z ≡ Less) ys z up.0 at), up.1)
      go Greater e later = (all_of (λ z. by_key y z ≡ Less) (insert_by by_key x ys) (λ z at. above z (insert_in by_key x ys z at)), later)
        where
          above : (z : X) → IsIn z (x ∷ ys) → by_key y z ≡ Less
          above z (inl same) = ap (by_key y) same ∙ key_total.antisymm (key_of y) (key_of x) ∙ ap ordering_reverse e
          above z (inr at) = of_all (λ z. by_key y z ≡ Less) ys z up.0 at

-- ---- what is kept

-- what is found is found among those that are kept, where it is one
pub find_kept : {X : Type 0} (test keep : X → Bool) (xs : List X) (o : Option X) → find test xs ≡ o → ((x : X) → o ≡ Some x → keep x ≡ true) → find test (filter keep xs) ≡ o
find_kept test keep [] o e h = e
find_kept {X} test keep (y ∷ ys) o e h = go (test y) (keep y) refl refl e (λ e. find_kept test keep ys o e h)
  where
    go : (a b : Bool) → test y ≡ a → keep y ≡ b → cond a (Some y) (find test ys) ≡ o → (find test ys ≡ o → find test (filter keep ys) ≡ o) → find test (cond b (y ∷ filter keep ys) (filter keep ys)) ≡ o
    go true true e k f later = ap (λ a. cond a (Some y) (find test (filter keep ys))) e ∙ f
    go true false e k f later = cc (h y (sym f), k)
    go false true e k f later = ap (λ a. cond a (Some y) (find test (filter keep ys))) e ∙ later f
    go false false e k f later = later f

-- what holds of either outcome holds of the outcome
pub either_way : {A E X : Type 0} (P : X → Type 0) (r : Result A E) (old put new : X) → OnOk r (new ≡ put) → OnErr r (new ≡ old) → P put → P old → P new
either_way P (Ok a) old put new e f h k = subst P (sym e) h
either_way P (Err x) old put new e f h k = subst P (sym f) k
