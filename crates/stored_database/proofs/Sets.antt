-- Sets as lists in their order.
use Rattle.std.proofs.Common.{◌≡◌, refl, sym, ap, ap₂, subst, ◌∙◌, inl, inr, suc, ◌≤◌, ◌==◌, false, List, [], ◌∷◌, length, Some, arith}
use Rattle.std.specs.Cmp.{IsTotalOrder}
use Rattle.std.proofs.lemmas.Cmp.{tied_back, tied_itself}
use Rattle.std.specs.List.{AllByRecursion}
use Rattle.std.specs.List.Sorted.{IsStrictlySortedBy}
use Rattle.std.specs.Ordering.{is_eq, ordering_reverse}
use Rattle.std.specs.declared.cmp.Ordering.{Ordering}
use Rattle.std.specs.declared.cmp.Ordering.TheVariants.{Less, Equal, Greater}
use Rattle.calculus.specs.Lists.{insert_by}
use Rattle.page_chain.specs.Lists.{in_order, once}
use Rattle.stored_database.proofs.Members.{IsIn, of_all, all_of, Apart}
use Rattle.stored_database.proofs.Reading.{when_some, same_number}

-- where an item is put, by how it compares with the first
abbrev pub insert_as : {A : Type 0} → Ordering → A → A → List A → List A → List A
insert_as Less x y ys later = x ∷ y ∷ ys
insert_as Equal x y ys later = x ∷ ys
insert_as Greater x y ys later = y ∷ later

-- it is put there
pub insert_cons : {A : Type 0} (cmp : A → A → Ordering) (x y : A) (ys : List A) → insert_by cmp x (y ∷ ys) ≡ insert_as (cmp x y) x y ys (insert_by cmp x ys)
insert_cons {A} cmp x y ys = go (cmp x y)
  where
    go : (o : Ordering) → elim o [ Less ↦ x ∷ y ∷ ys | Equal ↦ x ∷ ys | Greater ↦ y ∷ insert_by cmp x ys ] ≡ insert_as o x y ys (insert_by cmp x ys)
    go Less = refl
    go Equal = refl
    go Greater = refl

-- ---- what is in a set

-- only that item and those that were there
pub insert_in : {A : Type 0} (cmp : A → A → Ordering) (x : A) (ys : List A) (z : A) → IsIn z (insert_by cmp x ys) → IsIn z (x ∷ ys)
insert_in cmp x [] z at = at
insert_in {A} cmp x (y ∷ ys) z at = go (cmp x y) (subst (IsIn z) (insert_cons cmp x y ys) at) (insert_in cmp x ys z)
  where
    go : (o : Ordering) → IsIn z (insert_as o x y ys (insert_by cmp x ys)) → (IsIn z (insert_by cmp x ys) → IsIn z (x ∷ ys)) → IsIn z (x ∷ y ∷ ys)
    go Less at later = at
    go Equal (inl e) later = inl e
    go Equal (inr at) later = inr (inr at)
    go Greater (inl e) later = inr (inl e)
    go Greater (inr at) later = elim (later at) [ inl e ↦ inl e | inr k ↦ inr (inr k) ]

pub in_order_in : {A : Type 0} (cmp : A → A → Ordering) (xs : List A) (z : A) → IsIn z (in_order cmp xs) → IsIn z xs
in_order_in cmp [] z at = at
in_order_in cmp (x ∷ xs) z at = elim (insert_in cmp x (in_order cmp xs) z at) [ inl e ↦ inl e | inr k ↦ inr (in_order_in cmp xs z k) ]

-- that item and those that were there, where the one that gives way is the item itself
pub in_insert : {A : Type 0} (cmp : A → A → Ordering) (x : A) (ys : List A) (z : A) → ((y : A) → IsIn y ys → cmp x y ≡ Equal → x ≡ y) → IsIn z (x ∷ ys) → IsIn z (insert_by cmp x ys)
in_insert cmp x [] z exact at = at
in_insert {A} cmp x (y ∷ ys) z exact at = subst (IsIn z) (sym (insert_cons cmp x y ys)) (go (cmp x y) refl at (in_insert cmp x ys z (λ y k. exact y (inr k))))
  where
    go : (o : Ordering) → cmp x y ≡ o → IsIn z (x ∷ y ∷ ys) → (IsIn z (x ∷ ys) → IsIn z (insert_by cmp x ys)) → IsIn z (insert_as o x y ys (insert_by cmp x ys))
    go Less e at later = at
    go Equal e (inl k) later = inl k
    go Equal e (inr (inl k)) later = inl (k ∙ sym (exact y (inl refl) e))
    go Equal e (inr (inr k)) later = inr k
    go Greater e (inl k) later = inr (later (inl k))
    go Greater e (inr (inl k)) later = inl k
    go Greater e (inr (inr k)) later = inr (later (inr k))

-- two items that are equal are one
abbrev pub IsExact : {A : Type 0} → (A → A → Ordering) → List A → Type 0
IsExact {A} cmp xs = (a b : A) → IsIn a xs → IsIn b xs → cmp a b ≡ Equal → a ≡ b

pub in_in_order : {A : Type 0} (cmp : A → A → Ordering) (xs : List A) (z : A) → IsExact cmp xs → IsIn z xs → IsIn z (in_order cmp xs)
in_in_order cmp [] z exact at = at
in_in_order {A} cmp (x ∷ xs) z exact at =
    let later = λ (w : A) (k : IsIn w xs). in_in_order cmp xs w (λ a b at bt e. exact a b (inr at) (inr bt) e) k in
    in_insert cmp x (in_order cmp xs) z (λ y k e. exact x y (inl refl) (inr (in_order_in cmp xs y k)) e)
    (elim at [ inl e ↦ inl e | inr k ↦ inr (later z k) ])

-- ---- sets ascend

module _ {A : Type 0} {cmp : A → A → Ordering} (order : IsTotalOrder cmp) where
  sorted_insert : (x : A) (ys : List A) → IsStrictlySortedBy cmp ys → IsStrictlySortedBy cmp (insert_by cmp x ys)
  unfolding IsStrictlySortedBy
  sorted_insert x [] up = (tt, tt)
  sorted_insert x (y ∷ ys) up = subst (IsStrictlySortedBy cmp) (sym (insert_cons cmp x y ys)) (go (cmp x y) refl (sorted_insert x ys up.1))
    where
      below : cmp x y ≡ Less → AllByRecursion (λ z. cmp x z ≡ Less) ys
      below e = all_of (λ z. cmp x z ≡ Less) ys (λ z at. order.trans x y z e (of_all (λ z. cmp y z ≡ Less) ys z up.0 at))

      go : (o : Ordering) → cmp x y ≡ o → IsStrictlySortedBy cmp (insert_by cmp x ys) → IsStrictlySortedBy cmp (insert_as o x y ys (insert_by cmp x ys))
      go Less e later = ((e, below e), up)
      go Equal e later = (all_of (λ z. cmp x z ≡ Less) ys (λ z at. order.congr x y z e ∙ of_all (λ z. cmp y z ≡ Less) ys z up.0 at), up.1)
      go Greater e later = (all_of (λ z. cmp y z ≡ Less) (insert_by cmp x ys) (λ z at. above z (insert_in cmp x ys z at)), later)
        where
          above : (z : A) → IsIn z (x ∷ ys) → cmp y z ≡ Less
          above z (inl f) = ap (cmp y) f ∙ order.antisymm y x ∙ ap ordering_reverse e
          above z (inr at) = of_all (λ z. cmp y z ≡ Less) ys z up.0 at

  pub sorted_in_order : (xs : List A) → IsStrictlySortedBy cmp (in_order cmp xs)
  unfolding IsStrictlySortedBy
  sorted_in_order [] = tt
  sorted_in_order (x ∷ xs) = sorted_insert x (in_order cmp xs) (sorted_in_order xs)

  not_itself : (x y : A) → cmp x y ≡ Less → x ≡ y → ⊥
  not_itself x y e same = cc (ap (cmp x) same, tied_itself order x, e)

  not_both : (x y : A) → cmp x y ≡ Less → cmp y x ≡ Less → ⊥
  not_both x y e f = cc (order.antisymm x y, ap ordering_reverse f, e)

  -- in a set, equal items are one
  pub sorted_exact : (xs : List A) → IsStrictlySortedBy cmp xs → IsExact cmp xs
  unfolding IsStrictlySortedBy
  sorted_exact [] up a b at bt e = absurd at
  sorted_exact (x ∷ xs) up a b (inl f) (inl g) e = f ∙ sym g
  sorted_exact (x ∷ xs) up a b (inl f) (inr bt) e = cc (of_all (λ z. cmp x z ≡ Less) xs b up.0 bt, ap (λ a. cmp a b) f, e)
  sorted_exact (x ∷ xs) up a b (inr at) (inl g) e = cc (of_all (λ z. cmp x z ≡ Less) xs a up.0 at, ap (λ b. cmp b a) g, tied_back order a b e)
  sorted_exact (x ∷ xs) up a b (inr at) (inr bt) e = sorted_exact xs up.1 a b at bt e

  -- sets with the same items are the same
  pub same_sets : (xs ys : List A) → IsStrictlySortedBy cmp xs → IsStrictlySortedBy cmp ys → ((z : A) → IsIn z xs → IsIn z ys) → ((z : A) → IsIn z ys → IsIn z xs) → xs ≡ ys
  unfolding IsStrictlySortedBy
  same_sets [] [] up vp to from = refl
  same_sets [] (y ∷ ys) up vp to from = absurd (from y (inl refl))
  same_sets (x ∷ xs) [] up vp to from = absurd (to x (inl refl))
  same_sets (x ∷ xs) (y ∷ ys) up vp to from =
      let first = heads (to x (inl refl)) (from y (inl refl)) in
      ap₂ (λ z (zs : List A). z ∷ zs) first (same_sets xs ys up.1 vp.1 (λ z at. there first z at (to z (inr at))) (λ z at. back first z at (from z (inr at))))
    where
      heads : IsIn x (y ∷ ys) → IsIn y (x ∷ xs) → x ≡ y
      heads (inl e) k = e
      heads (inr at) (inl e) = sym e
      heads (inr at) (inr bt) = absurd (not_both x y (of_all (λ z. cmp x z ≡ Less) xs y up.0 bt) (of_all (λ z. cmp y z ≡ Less) ys x vp.0 at))

      there : x ≡ y → (z : A) → IsIn z xs → IsIn z (y ∷ ys) → IsIn z ys
      there first z at (inl e) = absurd (not_itself x z (of_all (λ z. cmp x z ≡ Less) xs z up.0 at) (first ∙ sym e))
      there first z at (inr k) = k

      back : x ≡ y → (z : A) → IsIn z ys → IsIn z (x ∷ xs) → IsIn z xs
      back first z at (inl e) = absurd (not_itself y z (of_all (λ z. cmp y z ≡ Less) ys z vp.0 at) (sym first ∙ sym e))
      back first z at (inr k) = k

  -- the set of a list with the items of a set is that set
  pub set_is : (xs ys : List A) → IsStrictlySortedBy cmp xs → ((z : A) → IsIn z xs → IsIn z ys) → ((z : A) → IsIn z ys → IsIn z xs) → xs ≡ in_order cmp ys
  set_is xs ys up to from =
      let exact : IsExact cmp ys = λ a b at bt e. sorted_exact xs up a b (from a at) (from b bt) e in
      same_sets xs (in_order cmp ys) up (sorted_in_order ys) (λ z at. in_in_order cmp ys z exact (to z at)) (λ z at. from z (in_order_in cmp ys z at))

  -- ---- lists whose items are there once

  insert_at_most : (x : A) (ys : List A) → length (insert_by cmp x ys) ≤ suc (length ys)
  insert_at_most x [] = omega arith
  insert_at_most x (y ∷ ys) = subst (λ l. length l ≤ suc (suc (length ys))) (sym (insert_cons cmp x y ys)) (go (cmp x y) (insert_at_most x ys))
    where
      go : (o : Ordering) → length (insert_by cmp x ys) ≤ suc (length ys) → length (insert_as o x y ys (insert_by cmp x ys)) ≤ suc (suc (length ys))
      go Less later = omega arith
      go Equal later = omega arith
      go Greater later = omega (arith, later)

  at_most : (xs : List A) → length (in_order cmp xs) ≤ length xs
  at_most [] = omega arith
  at_most (x ∷ xs) = omega (arith, insert_at_most x (in_order cmp xs), at_most xs)

  -- an item that makes a set longer is equal to none of it
  insert_new : (x : A) (ys : List A) → IsStrictlySortedBy cmp ys → length (insert_by cmp x ys) ≡ suc (length ys) → AllByRecursion (λ y. is_eq (cmp x y) ≡ false) ys
  unfolding IsStrictlySortedBy
  insert_new x [] up long = tt
  insert_new x (y ∷ ys) up long = go (cmp x y) refl (sym (ap length (insert_cons cmp x y ys)) ∙ long) (insert_new x ys up.1)
    where
      go : (o : Ordering) → cmp x y ≡ o → length (insert_as o x y ys (insert_by cmp x ys)) ≡ suc (suc (length ys))
          → (length (insert_by cmp x ys) ≡ suc (length ys) → AllByRecursion (λ y. is_eq (cmp x y) ≡ false) ys) → AllByRecursion (λ y. is_eq (cmp x y) ≡ false) (y ∷ ys)
      go Less e long later = (ap is_eq e, all_of (λ z. is_eq (cmp x z) ≡ false) ys (λ z at. ap is_eq (order.trans x y z e (of_all (λ z. cmp y z ≡ Less) ys z up.0 at))))
      go Equal e long later = absurd (omega (arith, long))
      go Greater e long later = (ap is_eq e, later (omega (arith, long)))

  apart_if_long : (xs : List A) → length (in_order cmp xs) ≡ length xs → Apart (λ a b. is_eq (cmp a b)) xs × IsExact cmp xs
  apart_if_long [] long = (tt, λ a b at bt e. absurd at)
  apart_if_long (x ∷ xs) long =
      let one = insert_at_most x (in_order cmp xs) in
      let some = at_most xs in
      let rest = apart_if_long xs (omega (arith, one, some, long)) in
      let new = insert_new x (in_order cmp xs) (sorted_in_order xs) (omega (arith, one, some, long)) in
      let apart = all_of (λ y. is_eq (cmp x y) ≡ false) xs (λ y at. of_all (λ y. is_eq (cmp x y) ≡ false) (in_order cmp xs) y new (in_in_order cmp xs y rest.1 at)) in
      ((apart, rest.0), λ a b at bt e. exact apart rest.1 a b at bt e)
    where
      exact : AllByRecursion (λ y. is_eq (cmp x y) ≡ false) xs → IsExact cmp xs → IsExact cmp (x ∷ xs)
      exact apart rest a b (inl f) (inl g) e = f ∙ sym g
      exact apart rest a b (inl f) (inr bt) e = cc (of_all (λ y. is_eq (cmp x y) ≡ false) xs b apart bt, ap (λ a. is_eq (cmp a b)) f, ap is_eq e)
      exact apart rest a b (inr at) (inl g) e = cc (of_all (λ y. is_eq (cmp x y) ≡ false) xs a apart at, ap (λ b. is_eq (cmp b a)) g, ap is_eq (tied_back order a b e))
      exact apart rest a b (inr at) (inr bt) e = rest a b at bt e

  -- What is known of a list and the set of its items, where no two are equal.
  pub record IsOnce (xs ys : List A) : Type 0 where
    pub set : ys ≡ in_order cmp xs
    pub apart : Apart (λ a b. is_eq (cmp a b)) xs
    pub to : (z : A) → IsIn z xs → IsIn z ys
    pub from : (z : A) → IsIn z ys → IsIn z xs

  pub is_once : (xs ys : List A) → once cmp xs ≡ Some ys → IsOnce xs ys
  is_once xs ys h =
      let w = when_some (length (in_order cmp xs) == length xs) (in_order cmp xs) ys h in
      let long : length (in_order cmp xs) ≡ length xs = same_number (length (in_order cmp xs)) (length xs) w.0 in
      let a = apart_if_long xs long in
      record {
        set = sym w.1;
        apart = a.0;
        to = λ z at. subst (IsIn z) w.1 (in_in_order cmp xs z a.1 at);
        from = λ z at. in_order_in cmp xs z (subst (IsIn z) (sym w.1) at);
      }
