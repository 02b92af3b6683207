-- Groups of items, told by a test of each group: all of them put in order, each group is found again by its test.
use Rattle.std.proofs.Common.{◌≡◌, refl, sym, ap, ap₂, ◌∙◌, true≢false, Bool, true, false, cond, List, [], ◌∷◌, ◌++◌, filter, find, Some}
use Rattle.std.proofs.lemmas.List.{append-nil}
use Rattle.std.specs.Cmp.{IsTotalOrder}
use Rattle.std.specs.List.{AllByRecursion, flat_map}
use Rattle.std.specs.List.Sorted.{IsStrictlySortedBy}
use Rattle.std.specs.Ordering.{is_eq}
use Rattle.std.specs.declared.cmp.Ordering.{Ordering}
use Rattle.page_chain.specs.Lists.{in_order}
use Rattle.stored_database.proofs.Pairs.{Pairs, all_then, all_flat, pairs_append}
use Rattle.stored_database.proofs.InOrder.{NoneEqual, sorted_apart, in_order_already, filter_in_order}

-- ---- lists

-- those of two lists that pass
pub filter_append : {A : Type 0} (test : A → Bool) (xs ys : List A) → filter test (xs ++ ys) ≡ filter test xs ++ filter test ys
filter_append test [] ys = refl
filter_append {A} test (x ∷ xs) ys = go (test x) (filter_append test xs ys)
  where
    go : (b : Bool) → filter test (xs ++ ys) ≡ filter test xs ++ filter test ys → cond b (x ∷ filter test (xs ++ ys)) (filter test (xs ++ ys)) ≡ cond b (x ∷ filter test xs) (filter test xs) ++ filter test ys
    go true later = ap (λ l. x ∷ l) later
    go false later = later

-- all pass
pub filter_pass : {A : Type 0} (test : A → Bool) (xs : List A) → AllByRecursion (λ x. test x ≡ true) xs → filter test xs ≡ xs
filter_pass test [] all = refl
filter_pass test (x ∷ xs) all = ap₂ (λ (b : Bool) l. cond b (x ∷ l) l) all.0 (filter_pass test xs all.1)

-- none passes
pub filter_fail : {A : Type 0} (test : A → Bool) (xs : List A) → AllByRecursion (λ x. test x ≡ false) xs → filter test xs ≡ []
filter_fail test [] all = refl
filter_fail test (x ∷ xs) all = ap₂ (λ (b : Bool) l. cond b (x ∷ l) l) all.0 (filter_fail test xs all.1)

-- those that pass of what each item gives
pub filter_flat : {X A : Type 0} (test : A → Bool) (g : X → List A) (xs : List X) → filter test (flat_map g xs) ≡ flat_map (λ x. filter test (g x)) xs
filter_flat test g [] = refl
filter_flat test g (x ∷ xs) = filter_append test (g x) (flat_map g xs) ∙ ap (λ l. filter test (g x) ++ l) (filter_flat test g xs)

-- the one that passes is found
pub find_one : {A : Type 0} (test : A → Bool) (x : A) (xs : List A) → filter test xs ≡ x ∷ [] → find test xs ≡ Some x
find_one {A} test x [] e = cc e
find_one {A} test x (y ∷ ys) e = go (test y) e (find_one test x ys)
  where
    go : (b : Bool) → cond b (y ∷ filter test ys) (filter test ys) ≡ x ∷ [] → (filter test ys ≡ x ∷ [] → find test ys ≡ Some x) → cond b (Some y) (find test ys) ≡ Some x
    go true e later = cc e
    go false e later = later e

-- ---- groups

-- How groups are told apart: a test of each group says of all items of one whether the two are the same, and of equal items the same; each group ascends.
pub record Grouped {X A : Type 0} (cmp : A → A → Ordering) (g : X → List A) (p : X → A → Bool) (same : X → X → Bool) : Type 0 where
  pub order : IsTotalOrder cmp
  pub tests : (x y : X) → AllByRecursion (λ a. p x a ≡ same x y) (g y)
  pub equals : (x : X) (a b : A) → is_eq (cmp a b) ≡ true → p x a ≡ p x b
  pub itself : (x : X) → same x x ≡ true
  pub turned : (x y : X) → same x y ≡ same y x
  pub ascends : (x : X) → IsStrictlySortedBy cmp (g x)

module _ {X A : Type 0} {cmp : A → A → Ordering} {g : X → List A} {p : X → A → Bool} {same : X → X → Bool} (grouped : Grouped cmp g p same) where
  -- one group is found in itself
  in_itself : (x : X) → filter (p x) (g x) ≡ g x
  in_itself x = filter_pass (p x) (g x) (all_then (λ a. p x a ≡ same x x) (λ a. p x a ≡ true) (g x) (λ a e. e ∙ grouped.itself x) (grouped.tests x x))

  -- and none of it in another
  none_pass : (x y : X) → same x y ≡ false → AllByRecursion (λ a. p x a ≡ false) (g y)
  none_pass x y other = all_then (λ a. p x a ≡ same x y) (λ a. p x a ≡ false) (g y) (λ a e. e ∙ other) (grouped.tests x y)

  none_of_all : (x : X) (ys : List X) → AllByRecursion (λ y. same x y ≡ false) ys → AllByRecursion (λ a. p x a ≡ false) (flat_map g ys)
  none_of_all x ys others = all_flat (λ a. p x a ≡ false) g ys (all_then (λ y. same x y ≡ false) (λ y. AllByRecursion (λ a. p x a ≡ false) (g y)) ys (none_pass x) others)

  -- each group is found among all
  found_among : (xs : List X) → Pairs (λ x y. same x y ≡ false) xs → AllByRecursion (λ x. filter (p x) (flat_map g xs) ≡ g x) xs
  found_among [] apart = tt
  found_among (x ∷ xs) apart = (first, all_both_then xs apart.0 (found_among xs apart.1))
    where
      first : filter (p x) (g x ++ flat_map g xs) ≡ g x
      first = filter_append (p x) (g x) (flat_map g xs) ∙ ap₂ (λ k l. k ++ l) (in_itself x) (filter_fail (p x) (flat_map g xs) (none_of_all x xs apart.0)) ∙ append-nil (g x)

      one : (y : X) → same x y ≡ false → filter (p y) (flat_map g xs) ≡ g y → filter (p y) (g x ++ flat_map g xs) ≡ g y
      one y other e = filter_append (p y) (g x) (flat_map g xs) ∙ ap₂ (λ k l. k ++ l) (filter_fail (p y) (g x) (none_pass y x (grouped.turned y x ∙ other))) e

      all_both_then : (ys : List X) → AllByRecursion (λ y. same x y ≡ false) ys → AllByRecursion (λ y. filter (p y) (flat_map g xs) ≡ g y) ys → AllByRecursion (λ y. filter (p y) (g x ++ flat_map g xs) ≡ g y) ys
      all_both_then [] others founds = tt
      all_both_then (y ∷ ys) others founds = (one y others.0 founds.0, all_both_then ys others.1 founds.1)

  -- items of which one passes and the other doesn't aren't equal
  not_equal : (x : X) (a b : A) → p x a ≡ true → p x b ≡ false → is_eq (cmp a b) ≡ false
  not_equal x a b passes fails = go (is_eq (cmp a b)) refl
    where
      go : (t : Bool) → is_eq (cmp a b) ≡ t → t ≡ false
      go true e = absurd (true≢false (sym passes ∙ grouped.equals x a b e ∙ fails))
      go false e = refl

  across : (x : X) (xs bs : List A) → AllByRecursion (λ a. p x a ≡ true) xs → AllByRecursion (λ b. p x b ≡ false) bs → AllByRecursion (λ a. AllByRecursion (λ b. is_eq (cmp a b) ≡ false) bs) xs
  across x xs bs passes fails =
      all_then (λ a. p x a ≡ true) (λ a. AllByRecursion (λ b. is_eq (cmp a b) ≡ false) bs) xs (λ a it. all_then (λ b. p x b ≡ false) (λ b. is_eq (cmp a b) ≡ false) bs (λ b that. not_equal x a b it that) fails) passes

  -- the items of all groups are apart
  pub groups_apart : (xs : List X) → Pairs (λ x y. same x y ≡ false) xs → NoneEqual cmp (flat_map g xs)
  groups_apart [] apart = tt
  groups_apart (x ∷ xs) apart =
      pairs_append (λ a b. is_eq (cmp a b) ≡ false) (g x) (flat_map g xs) (sorted_apart cmp (g x) (grouped.ascends x)) (groups_apart xs apart.1)
      (across x (g x) (flat_map g xs) (all_then (λ a. p x a ≡ same x x) (λ a. p x a ≡ true) (g x) (λ a e. e ∙ grouped.itself x) (grouped.tests x x)) (none_of_all x xs apart.0))

  -- each group is found among all in their order
  pub groups_found : (xs : List X) → Pairs (λ x y. same x y ≡ false) xs → AllByRecursion (λ x. filter (p x) (in_order cmp (flat_map g xs)) ≡ g x) xs
  groups_found xs apart =
      all_then (λ x. filter (p x) (flat_map g xs) ≡ g x) (λ x. filter (p x) (in_order cmp (flat_map g xs)) ≡ g x) xs
      (λ x e. filter_in_order grouped.order (p x) (flat_map g xs) (groups_apart xs apart) ∙ ap (in_order cmp) e ∙ in_order_already cmp (g x) (grouped.ascends x))
      (found_among xs apart)
