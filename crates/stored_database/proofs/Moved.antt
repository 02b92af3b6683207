-- Lists of which some items go and others come, and the sets of what each item gives.
use Rattle.std.proofs.Common.{◌≡◌, refl, sym, ap, ap₂, subst, ◌∙◌, true≢false, inl, inr, Bool, true, false, not, ◌||◌, List, [], ◌∷◌, ◌++◌, filter, suc, ◌==◌, length, Some, arith, zero, ◌<◌, ℕ}
use Rattle.std.specs.Prelude.{◌⊎◌, slice_index_or}
use Rattle.std.specs.Cmp.{IsTotalOrder}
use Rattle.std.specs.List.{AllByRecursion, Contains, list_any, flat_map}
use Rattle.std.specs.List.Sorted.{IsPermutation}
use Rattle.std.proofs.lemmas.List.Sorted.{IsPermutation-sym, Contains-permutation, length_permutation}
use Rattle.std.specs.Ordering.{is_eq}
use Rattle.std.specs.declared.cmp.Ordering.{Ordering}
use Rattle.std.specs.declared.cmp.Ordering.TheVariants.{Less, Equal, Greater}
use Rattle.std.proofs.lemmas.Cmp.{tied_itself, tied_back}
use Rattle.page_chain.specs.Lists.{when, in_order, once}
use Rattle.stored_database.proofs.Groups.{Grouped, groups_apart}
use Rattle.stored_database.proofs.Members.{IsIn, Apart, of_all, all_of, in_first, in_second, in_either, in_filter, filter_in, in_flat_map, flat_map_in, apart_same}
use Rattle.stored_database.proofs.Pairs.{Pairs, pairs_apart, pairs_append, pairs_filter}
use Rattle.stored_database.proofs.Reading.{together}
use Rattle.calculus.specs.Lists.{differ_by}
use Rattle.std.proofs.lemmas.Bool.{eq-eqb}
use Rattle.stored_database.proofs.InOrder.{length_in_order}
use Rattle.stored_database.proofs.Sets.{IsExact, IsOnce, is_once, same_sets, in_in_order, in_order_in, set_is, sorted_in_order}
use Rattle.stored_database.specs.After.{stays, after_change, IsChange}

-- Some items of a list go, each of them once, and others come, each once; the rest stays, and what comes isn't among it.
pub record Moved {X : Type 0} (same : X → X → Bool) (olds gone come news : List X) : Type 0 where
  pub kept_or_come : (x : X) → IsIn x news → (IsIn x olds × (IsIn x gone → ⊥)) ⊎ IsIn x come
  pub stay_or_go : (x : X) → IsIn x olds → IsIn x gone ⊎ IsIn x news
  pub comes : (x : X) → IsIn x come → IsIn x news
  pub goes : (x : X) → IsIn x gone → IsIn x olds
  pub comes_new : (x : X) → IsIn x come → IsIn x olds → IsIn x gone
  pub gone_differ : Pairs (λ x y. same x y ≡ false) gone
  pub come_differ : Pairs (λ x y. same x y ≡ false) come

-- no two of these items are equal
abbrev pub IsApart : {A : Type 0} → (A → A → Ordering) → List A → Type 0
IsApart cmp = Pairs (λ x y. is_eq (cmp x y) ≡ false)

-- items that are apart are exact
pub exact_of : {A : Type 0} {cmp : A → A → Ordering} (order : IsTotalOrder cmp) (xs : List A) → IsApart cmp xs → IsExact cmp xs
exact_of {A} {cmp} order xs apart a b at bt e =
    apart_same (λ x y. is_eq (cmp x y)) (turn order) xs a b (pairs_apart (λ x y. is_eq (cmp x y)) xs apart) at bt (ap is_eq e)
  where
    turn : IsTotalOrder cmp → (a b : A) → is_eq (cmp a b) ≡ true → is_eq (cmp b a) ≡ true
    turn order a b = go (cmp a b) refl
      where
        go : (o : Ordering) → cmp a b ≡ o → is_eq (cmp a b) ≡ true → is_eq (cmp b a) ≡ true
        go Less is e = absurd (true≢false (sym e ∙ ap is_eq is))
        go Equal is e = ap is_eq (tied_back order a b is)
        go Greater is e = absurd (true≢false (sym e ∙ ap is_eq is))

-- none passes
none_any : {A : Type 0} (test : A → Bool) (xs : List A) → ((x : A) → IsIn x xs → test x ≡ false) → not (list_any test xs) ≡ true
none_any test [] none = refl
none_any test (x ∷ xs) none = ap₂ (λ (a b : Bool). not (a || b)) (none x (inl refl)) refl ∙ none_any test xs (λ y at. none y (inr at))

-- one passes
pub some_any : {A : Type 0} (test : A → Bool) (xs : List A) (x : A) → IsIn x xs → test x ≡ true → not (list_any test xs) ≡ false
some_any test [] x at e = absurd at
some_any {A} test (y ∷ ys) x at e = go (test y) refl at (some_any test ys x)
  where
    go : (b : Bool) → test y ≡ b → IsIn x (y ∷ ys) → (IsIn x ys → test x ≡ true → not (list_any test ys) ≡ false) → not (b || list_any test ys) ≡ false
    go true is at later = refl
    go false is (inl f) later = cc (ap test f, is, e)
    go false is (inr at) later = later at e

-- what is in a list is one of its items
contained : {A : Type 0} (xs : List A) (x : A) → IsIn x xs → Contains xs x
contained [] x at = absurd at
contained (y ∷ ys) x (inl e) = (0, omega arith, sym e)
contained (y ∷ ys) x (inr at) = let c = contained ys x at in (suc c.0, omega (arith, c.1), c.2)

-- items that are apart, as pairs
pairs_of : {A : Type 0} (same : A → A → Bool) (xs : List A) → Apart same xs → Pairs (λ x y. same x y ≡ false) xs
pairs_of same [] apart = tt
pairs_of same (x ∷ xs) apart = (apart.0, pairs_of same xs apart.1)

-- and back
within : {A : Type 0} (xs : List A) (x : A) → Contains xs x → IsIn x xs
within {A} xs x c = go xs c.0 c.1 c.2
  where
    go : (xs : List A) (k : ℕ) → k < length xs → slice_index_or xs k x ≡ x → IsIn x xs
    go [] k less e = absurd (omega (arith, less))
    go (y ∷ ys) zero less e = inl (sym e)
    go (y ∷ ys) (suc k) less e = inr (go ys k (omega (arith, less)) e)

-- items that are there once are so in any order
pub once_moved : {A : Type 0} {cmp : A → A → Ordering} (order : IsTotalOrder cmp) (xs ys set : List A) → IsPermutation ys xs → once cmp xs ≡ Some set → once cmp ys ≡ Some set
once_moved {A} {cmp} order xs ys set moved is = (λ i. when (length (same i) == length_permutation xs ys back i) (same i)) ∙ is
  where
    back : IsPermutation xs ys
    back = IsPermutation-sym ys xs moved

    to : (a : A) → IsIn a xs → IsIn a ys
    to a at = within ys a (Contains-permutation xs ys a back (contained xs a at))

    from : (a : A) → IsIn a ys → IsIn a xs
    from a at = within xs a (Contains-permutation ys xs a moved (contained ys a at))

    exact_xs : IsExact cmp xs
    exact_xs = exact_of order xs (pairs_of (λ a b. is_eq (cmp a b)) xs (is_once order xs set is).apart)

    exact_ys : IsExact cmp ys
    exact_ys a b at bt e = exact_xs a b (from a at) (from b bt) e

    same : in_order cmp ys ≡ in_order cmp xs
    same = same_sets order (in_order cmp ys) (in_order cmp xs) (sorted_in_order order ys) (sorted_in_order order xs)
        (λ a at. in_in_order cmp xs a exact_xs (from a (in_order_in cmp ys a at))) (λ a at. in_in_order cmp ys a exact_ys (to a (in_order_in cmp xs a at)))

-- items of which no two pass differ
pub differ_of : {A : Type 0} (same : A → A → Bool) (xs : List A) → Pairs (λ x y. same x y ≡ false) xs → differ_by same xs ≡ true
differ_of same [] apart = refl
differ_of same (x ∷ xs) apart =
    together (not (list_any (same x) xs)) (differ_by same xs) (none_any (same x) xs (λ y at. of_all (λ y. same x y ≡ false) xs y apart.0 at)) (differ_of same xs apart.1)

when_true : {B : Type 0} (b : Bool) (x : B) → b ≡ true → when b x ≡ Some x
when_true b x e = ap (λ b. when b x) e

-- those of a list that pass and others that differ from them, wherever the list has the items of a set, each once
once_lying : {A : Type 0} {cmp : A → A → Ordering} (order : IsTotalOrder cmp) (test : A → Bool) (set come : List A) → IsApart cmp come
    → ((a b : A) → IsIn a set → test a ≡ true → IsIn b come → is_eq (cmp a b) ≡ false)
    → (lying : List A) → once cmp lying ≡ Some set → once cmp (filter test lying ++ come) ≡ Some (in_order cmp (filter test set ++ come))
once_lying {A} {cmp} order test set come come_apart differ lying is =
    when_true (length (in_order cmp all) == length all) (in_order cmp all) (eq-eqb (length (in_order cmp all)) (length all) (length_in_order cmp all apart))
    ∙ ap Some (set_is order (in_order cmp all) (filter test set ++ come) (sorted_in_order order all) to from)
  where
    were : IsOnce order lying set
    were = is_once order lying set is

    all : List A
    all = filter test lying ++ come

    apart : IsApart cmp all
    apart = pairs_append (λ a b. is_eq (cmp a b) ≡ false) (filter test lying) come (pairs_filter (λ a b. is_eq (cmp a b) ≡ false) test lying (pairs_of (λ a b. is_eq (cmp a b)) lying were.apart)) come_apart
        (all_of (λ a. AllByRecursion (λ b. is_eq (cmp a b) ≡ false) come) (filter test lying) (λ a at. all_of (λ b. is_eq (cmp a b) ≡ false) come (λ b bt. (
        let f = filter_in test lying a at in
        differ a b (were.to a f.0) f.1 bt))))

    to : (a : A) → IsIn a (in_order cmp all) → IsIn a (filter test set ++ come)
    to a at = elim (in_either (filter test lying) come a (in_order_in cmp all a at)) [
      | inl k ↦ (let f = filter_in test lying a k in in_first (filter test set) come a (in_filter test set a (were.to a f.0) f.1))
      | inr k ↦ in_second (filter test set) come a k
    ]

    from : (a : A) → IsIn a (filter test set ++ come) → IsIn a (in_order cmp all)
    from a at = in_in_order cmp all a (exact_of order all apart) (elim (in_either (filter test set) come a at) [
      | inl k ↦ (let f = filter_in test set a k in in_first (filter test lying) come a (in_filter test lying a (were.from a f.0) f.1))
      | inr k ↦ in_second (filter test lying) come a k
    ])

module _ {X A : Type 0} {cmp : A → A → Ordering} {g : X → List A} {p : X → A → Bool} {same : X → X → Bool} (grouped : Grouped cmp g p same)
    (olds gone come news : List X) (moved : Moved same olds gone come news)
    (olds_differ : Pairs (λ x y. same x y ≡ false) olds) (news_differ : Pairs (λ x y. same x y ≡ false) news) where
  exact_olds : IsExact cmp (flat_map g olds)
  exact_olds = exact_of grouped.order (flat_map g olds) (groups_apart grouped olds olds_differ)

  exact_news : IsExact cmp (flat_map g news)
  exact_news = exact_of grouped.order (flat_map g news) (groups_apart grouped news news_differ)

  kept : A → Bool
  kept = stays cmp (flat_map g gone)

  -- what an item gives tells the item
  same_group : (x y : X) (a : A) → IsIn a (g y) → p x a ≡ same x y
  same_group x y a at = of_all (λ a. p x a ≡ same x y) (g y) a (grouped.tests x y) at

  one_item : (x y : X) → IsIn x olds → IsIn y olds → same x y ≡ true → x ≡ y
  one_item x y at bt e = apart_same same (λ a b e. grouped.turned b a ∙ e) olds x y (pairs_apart same olds olds_differ) at bt e

  -- what an item that stays gives, stays
  stays_there : (x : X) (a : A) → IsIn x olds → (IsIn x gone → ⊥) → IsIn a (g x) → kept a ≡ true
  unfolding kept
  stays_there x a at not_gone it = none_any (λ b. is_eq (cmp b a)) (flat_map g gone) (λ b bt. go b (flat_map_in g gone b bt) (is_eq (cmp b a)) refl)
    where
      go : (b : A) → (y : X) × IsIn y gone × IsIn b (g y) → (t : Bool) → is_eq (cmp b a) ≡ t → t ≡ false
      go b s false e = refl
      go b s true e =
          let y = s.0 in
          let same_xy : same y x ≡ true = sym (same_group y x a it) ∙ sym (grouped.equals y b a e) ∙ same_group y y b s.2 ∙ grouped.itself y in
          absurd (not_gone (subst (λ x. IsIn x gone) (one_item y x (moved.goes y s.1) at same_xy) s.1))

  to : (a : A) → IsIn a (in_order cmp (flat_map g news)) → IsIn a (filter kept (in_order cmp (flat_map g olds)) ++ flat_map g come)
  to a at =
      let s = flat_map_in g news a (in_order_in cmp (flat_map g news) a at) in
      elim (moved.kept_or_come s.0 s.1) [
        | inl k ↦ in_first (filter kept (in_order cmp (flat_map g olds))) (flat_map g come) a
            (in_filter kept (in_order cmp (flat_map g olds)) a (in_in_order cmp (flat_map g olds) a exact_olds (in_flat_map g olds s.0 a k.0 s.2)) (stays_there s.0 a k.0 k.1 s.2))
        | inr k ↦ in_second (filter kept (in_order cmp (flat_map g olds))) (flat_map g come) a (in_flat_map g come s.0 a k s.2)
      ]

  in_news : (x : X) (a : A) → IsIn x news → IsIn a (g x) → IsIn a (in_order cmp (flat_map g news))
  in_news x a at it = in_in_order cmp (flat_map g news) a exact_news (in_flat_map g news x a at it)

  from : (a : A) → IsIn a (filter kept (in_order cmp (flat_map g olds)) ++ flat_map g come) → IsIn a (in_order cmp (flat_map g news))
  unfolding kept
  from a at = elim (in_either (filter kept (in_order cmp (flat_map g olds))) (flat_map g come) a at) [
    | inl k ↦ (let f = filter_in kept (in_order cmp (flat_map g olds)) a k in was f.1 (flat_map_in g olds a (in_order_in cmp (flat_map g olds) a f.0)))
    | inr k ↦ (let s = flat_map_in g come a k in in_news s.0 a (moved.comes s.0 s.1) s.2)
  ]
    where
      was : kept a ≡ true → (x : X) × IsIn x olds × IsIn a (g x) → IsIn a (in_order cmp (flat_map g news))
      was stays s = elim (moved.stay_or_go s.0 s.1) [
        | inl k ↦ absurd (true≢false (sym stays ∙ some_any (λ b. is_eq (cmp b a)) (flat_map g gone) a (in_flat_map g gone s.0 a k s.2) (ap is_eq (tied_itself grouped.order a))))
        | inr k ↦ in_news s.0 a k s.2
      ]

  -- the set of what they give afterwards is the set before, without what goes and with what comes
  pub set_after : in_order cmp (flat_map g news) ≡ after_change cmp (flat_map g gone) (flat_map g come) (in_order cmp (flat_map g olds))
  unfolding kept
  set_after =
      set_is grouped.order (in_order cmp (flat_map g news)) (filter kept (in_order cmp (flat_map g olds)) ++ flat_map g come) (sorted_in_order grouped.order (flat_map g news)) to from

  -- ---- the rows that lie somewhere

  -- what stays and what comes is not equal
  across : (a b : A) → IsIn a (in_order cmp (flat_map g olds)) → kept a ≡ true → IsIn b (flat_map g come) → is_eq (cmp a b) ≡ false
  unfolding kept
  across a b at stays bt = go (flat_map_in g olds a (in_order_in cmp (flat_map g olds) a at)) (flat_map_in g come b bt) (is_eq (cmp a b)) refl
    where
      not_gone : (x : X) → IsIn a (g x) → IsIn x gone → ⊥
      not_gone x it k = true≢false (sym stays ∙ some_any (λ b. is_eq (cmp b a)) (flat_map g gone) a (in_flat_map g gone x a k it) (ap is_eq (tied_itself grouped.order a)))

      apart : (x y : X) → IsIn x olds → IsIn y come → IsIn a (g x) → same x y ≡ true → IsIn x gone ⊎ IsIn x news → ⊥
      apart x y i k it e (inl gone) = not_gone x it gone
      apart x y i k it e (inr new) =
          let is_one : x ≡ y = apart_same same (λ a b e. grouped.turned b a ∙ e) news x y (pairs_apart same news news_differ) new (moved.comes y k) e in
          not_gone x it (moved.comes_new x (subst (λ z. IsIn z come) (sym is_one) k) i)

      go : (x : X) × IsIn x olds × IsIn a (g x) → (y : X) × IsIn y come × IsIn b (g y) → (t : Bool) → is_eq (cmp a b) ≡ t → t ≡ false
      go s u false e = refl
      go s u true e =
          let x = s.0 in
          let y = u.0 in
          let same_xy : same x y ≡ true = sym (same_group x y b u.2) ∙ sym (grouped.equals x a b e) ∙ same_group x x a s.2 ∙ grouped.itself x in
          absurd (apart x y s.1 u.1 s.2 same_xy (moved.stay_or_go x s.1))

  -- what goes is there, and what comes is new
  pub set_changes : IsChange cmp (flat_map g gone) (flat_map g come) (in_order cmp (flat_map g olds))
  unfolding kept
  set_changes = record {
    are_there = all_of (Contains (in_order cmp (flat_map g olds))) (flat_map g gone) (λ a at. (
        let s = flat_map_in g gone a at in
        contained (in_order cmp (flat_map g olds)) a (in_in_order cmp (flat_map g olds) a exact_olds (in_flat_map g olds s.0 a (moved.goes s.0 s.1) s.2))));
    listed_once = differ_of (λ a b. is_eq (cmp a b)) (flat_map g gone) (groups_apart grouped gone moved.gone_differ);
    in_any_order = λ lying now is turned. once_moved grouped.order (filter kept lying ++ flat_map g come) now (in_order cmp (filter kept (in_order cmp (flat_map g olds)) ++ flat_map g come)) turned
        (once_lying grouped.order kept (in_order cmp (flat_map g olds)) (flat_map g come) (groups_apart grouped come moved.come_differ) across lying is);
  }
