-- Lists of which each item is read, where all can be.
use Rattle.std.proofs.Common.{◌≡◌, refl, sym, ap, ap₂, subst, ◌∙◌, suc, Bool, true, false, List, [], ◌∷◌, ◌++◌, map, filter, Option, Some, None, option_map, unwrap_or, if◌then◌else◌, arith}
use Rattle.std.specs.List.Sorted.{IsPermutation}
use Rattle.std.specs.List.{All}
use Rattle.std.proofs.lemmas.List.Elements.{All-cons}
use Rattle.std.proofs.lemmas.List.Sorted.{All-permutation, IsPermutation-map}
use Rattle.page_chain.specs.Lists.{each, ◌>>=◌}

module _ {A B : Type 0} (f : A → Option B) where
  -- the first is read, and the others
  pub record First (x : A) (xs : List A) (zs : List B) : Type 0 where
    pub y : B
    pub ys : List B
    pub first : f x ≡ Some y
    pub rest : each f xs ≡ Some ys
    pub are : zs ≡ y ∷ ys

  pub each_first : (x : A) (xs : List A) (zs : List B) → each f (x ∷ xs) ≡ Some zs → First x xs zs
  each_first x xs zs e = by_first (f x) refl e
    where
      by_rest : (y : B) (o : Option (List B)) → f x ≡ Some y → each f xs ≡ o → option_map (λ ys. y ∷ ys) o ≡ Some zs → First x xs zs
      by_rest y None p q e = cc
      by_rest y (Some ys) p q e = record { y = y; ys = ys; first = p; rest = q; are = cc }

      by_first : (o : Option B) → f x ≡ o → (o >>= (λ y. option_map (λ ys. y ∷ ys) (each f xs))) ≡ Some zs → First x xs zs
      by_first None p e = cc
      by_first (Some y) p e = by_rest y (each f xs) p refl e

  pub each_cons : (x : A) (xs : List A) (y : B) (ys : List B) → f x ≡ Some y → each f xs ≡ Some ys → each f (x ∷ xs) ≡ Some (y ∷ ys)
  each_cons x xs y ys p q = ap₂ (λ o l. o >>= (λ y. option_map (λ ys. y ∷ ys) l)) p q

  -- both parts are read
  pub record Parts (xs ys : List A) (zs : List B) : Type 0 where
    pub front : List B
    pub back : List B
    pub front_read : each f xs ≡ Some front
    pub back_read : each f ys ≡ Some back
    pub are : zs ≡ front ++ back

  pub each_parts : (xs ys : List A) (zs : List B) → each f (xs ++ ys) ≡ Some zs → Parts xs ys zs
  each_parts [] ys zs e = record { front = []; back = zs; front_read = refl; back_read = e; are = refl }
  each_parts (x ∷ xs) ys zs e =
      let h = each_first x (xs ++ ys) zs e in
      let p = each_parts xs ys h.ys h.rest in
      record { front = h.y ∷ p.front; back = p.back; front_read = each_cons x xs h.y p.front h.first p.front_read; back_read = p.back_read; are = h.are ∙ ap (λ l. h.y ∷ l) p.are }

  pub each_append : (xs ys : List A) (us vs : List B) → each f xs ≡ Some us → each f ys ≡ Some vs → each f (xs ++ ys) ≡ Some (us ++ vs)
  each_append [] ys us vs p q = let e : us ≡ [] = cc in q ∙ ap (λ l. Some (l ++ vs)) (sym e)
  each_append (x ∷ xs) ys us vs p q =
      let h = each_first x xs us p in
      each_cons x (xs ++ ys) h.y (h.ys ++ vs) h.first (each_append xs ys h.ys vs h.rest q) ∙ ap (λ l. Some (l ++ vs)) (sym h.are)

  -- what an item says, or this where it says nothing
  read_or : B → A → B
  read_or d x = unwrap_or (f x) d

  IsRead : B → A → Type 0
  IsRead d x = f x ≡ Some (read_or d x)

  read_is : (d : B) (x : A) (y : B) → f x ≡ Some y → y ≡ read_or d x
  unfolding read_or
  read_is d x y e = ap (λ o. unwrap_or o d) (sym e)

  all_read : (d : B) (xs : List A) (ys : List B) → each f xs ≡ Some ys → All (IsRead d) xs
  unfolding IsRead
  all_read d [] ys e = λ k c lt. absurd (omega arith)
  all_read d (x ∷ xs) ys e =
      let h = each_first x xs ys e in
      All-cons (λ x. f x ≡ Some (read_or d x)) x xs (h.first ∙ ap Some (read_is d x h.y h.first)) (all_read d xs h.ys h.rest)

  are_mapped : (d : B) (xs : List A) (ys : List B) → each f xs ≡ Some ys → ys ≡ map (read_or d) xs
  are_mapped d [] ys e = cc
  are_mapped d (x ∷ xs) ys e =
      let h = each_first x xs ys e in
      h.are ∙ ap₂ (λ y ys. y ∷ ys) (read_is d x h.y h.first) (are_mapped d xs h.ys h.rest)

  each_mapped : (d : B) (xs : List A) → All (IsRead d) xs → each f xs ≡ Some (map (read_or d) xs)
  unfolding IsRead
  each_mapped d [] h = refl
  each_mapped d (x ∷ xs) h = each_cons x xs (read_or d x) (map (read_or d) xs) (h 0 x (omega arith)) (each_mapped d xs (λ k c lt. h (suc k) c (omega arith)))

  -- the same items in another order
  pub record Reordered (ys : List A) (us : List B) : Type 0 where
    pub vs : List B
    pub read : each f ys ≡ Some vs
    pub order : IsPermutation us vs

  pub each_reordered : (d : B) (xs ys : List A) (us : List B) → IsPermutation xs ys → each f xs ≡ Some us → Reordered ys us
  each_reordered d xs ys us p e = record {
    vs = map (read_or d) ys;
    read = each_mapped d ys (All-permutation (IsRead d) xs ys p (all_read d xs us e));
    order = subst (λ l. IsPermutation l (map (read_or d) ys)) (sym (are_mapped d xs us e)) (IsPermutation-map (read_or d) xs ys p);
  }

  -- those that pass a test are read from those that pass another, where the two tests agree
  pub each_filtered : (p : A → Bool) (q : B → Bool) (xs : List A) (us : List B) → each f xs ≡ Some us → ((x : A) (y : B) → f x ≡ Some y → p x ≡ q y) → each f (filter p xs) ≡ Some (filter q us)
  each_filtered p q [] us e same = let e : us ≡ [] = cc in ap (λ l. Some (filter q l)) (sym e)
  each_filtered p q (x ∷ xs) us e same =
      let h = each_first x xs us e in
      by_test (p x) refl h (each_filtered p q xs h.ys h.rest same)
    where
      by_test : (b : Bool) → p x ≡ b → (h : First x xs us) → each f (filter p xs) ≡ Some (filter q h.ys) → each f (filter p (x ∷ xs)) ≡ Some (filter q us)
      by_test true is h rest =
          ap (λ b. each f (if b then x ∷ filter p xs else filter p xs)) is
          ∙ each_cons x (filter p xs) h.y (filter q h.ys) h.first rest
          ∙ ap (λ b. Some (if b then h.y ∷ filter q h.ys else filter q h.ys)) (sym is ∙ same x h.y h.first) ∙ ap (λ l. Some (filter q l)) (sym h.are)
      by_test false is h rest =
          ap (λ b. each f (if b then x ∷ filter p xs else filter p xs)) is ∙ rest
          ∙ ap (λ b. Some (if b then h.y ∷ filter q h.ys else filter q h.ys)) (sym is ∙ same x h.y h.first) ∙ ap (λ l. Some (filter q l)) (sym h.are)
