-- Lists of which each item is read, one by one.
use Rattle.std.proofs.Common.{◌≡◌, refl, sym, ap, ◌∙◌, ℕ, ◌+◌, ◌<◌, ◌≤◌, Bool, true, false, cond, List, [], ◌∷◌, ◌++◌, length, drop, filter, get_or, Option, Some, None, option_map, append_assoc, add-one}
use Rattle.std.proofs.Math.Seq.{drop-cons}
use Rattle.std.proofs.lemmas.List.{append-nil, drop_all}
use Rattle.page_chain.specs.Lists.{◌>>=◌, each}

-- these in front of others, where those are there
abbrev pub in_front : {A : Type 0} → List A → Option (List A) → Option (List A)
in_front xs o = option_map (λ ys. xs ++ ys) o

pub front_none : {A : Type 0} (o : Option (List A)) → in_front [] o ≡ o
front_none None = refl
front_none (Some ys) = refl

-- one item is there
one_more : {A : Type 0} (xs : List A) (y : A) (o : Option (List A)) → in_front xs (option_map (λ ys. y ∷ ys) o) ≡ in_front (xs ++ y ∷ []) o
one_more xs y None = refl
one_more xs y (Some ys) = ap Some (sym (append_assoc xs (y ∷ []) ys))

pub dropped : {X : Type 0} (xs : List X) (i : ℕ) (x : X) → i < length xs → x ≡ get_or xs i x → drop i xs ≡ x ∷ drop (i + 1) xs
dropped xs i x h e = drop-cons xs i x h ∙ (λ j. sym e j ∷ drop (sym (add-one i) j) xs)

module _ {X A : Type 0} (f : X → Option A) where
  -- the item at a place is read
  pub each_next : (done : List A) (xs : List X) (i : ℕ) (x : X) (a : A) (all : Option (List A)) → i < length xs → x ≡ get_or xs i x → Some a ≡ f x
      → in_front done (each f (drop i xs)) ≡ all → in_front (done ++ a ∷ []) (each f (drop (i + 1) xs)) ≡ all
  each_next done xs i x a all low is read inv =
      sym (one_more done a (each f (drop (i + 1) xs)))
      ∙ ap (λ (o : Option A). in_front done (o >>= (λ y. option_map (λ ys. y ∷ ys) (each f (drop (i + 1) xs))))) read
      ∙ ap (λ l. in_front done (each f l)) (sym (dropped xs i x low is))
      ∙ inv

  -- the item at a place can't be read
  pub each_fails : (done : List A) (xs : List X) (i : ℕ) (x : X) (all : Option (List A)) → i < length xs → x ≡ get_or xs i x → None ≡ f x
      → in_front done (each f (drop i xs)) ≡ all → None ≡ all
  each_fails done xs i x all low is read inv =
      ap (λ (o : Option A). in_front done (o >>= (λ y. option_map (λ ys. y ∷ ys) (each f (drop (i + 1) xs))))) read
      ∙ ap (λ l. in_front done (each f l)) (sym (dropped xs i x low is))
      ∙ inv

  -- all were read
  pub each_done : (done : List A) (xs : List X) (i : ℕ) (all : Option (List A)) → length xs ≤ i → in_front done (each f (drop i xs)) ≡ all → Some done ≡ all
  each_done done xs i all end inv = ap Some (sym (append-nil done)) ∙ ap (λ l. in_front done (each f l)) (sym (drop_all i xs end)) ∙ inv

  -- the item at a place is picked and read
  pub pick_next : (p : X → Bool) (done : List A) (xs : List X) (i : ℕ) (x : X) (a : A) (all : Option (List A)) → i < length xs → x ≡ get_or xs i x → p x ≡ true → Some a ≡ f x
      → in_front done (each f (filter p (drop i xs))) ≡ all → in_front (done ++ a ∷ []) (each f (filter p (drop (i + 1) xs))) ≡ all
  pick_next p done xs i x a all low is picked read inv =
      let rest = filter p (drop (i + 1) xs) in
      sym (one_more done a (each f rest))
      ∙ ap (λ (o : Option A). in_front done (o >>= (λ y. option_map (λ ys. y ∷ ys) (each f rest)))) read
      ∙ ap (λ (b : Bool). in_front done (each f (cond b (x ∷ rest) rest))) (sym picked)
      ∙ ap (λ l. in_front done (each f (filter p l))) (sym (dropped xs i x low is))
      ∙ inv

  -- the item at a place isn't picked
  pub pick_not : (p : X → Bool) (done : List A) (xs : List X) (i : ℕ) (x : X) (all : Option (List A)) → i < length xs → x ≡ get_or xs i x → p x ≡ false
      → in_front done (each f (filter p (drop i xs))) ≡ all → in_front done (each f (filter p (drop (i + 1) xs))) ≡ all
  pick_not p done xs i x all low is passed inv =
      let rest = filter p (drop (i + 1) xs) in
      ap (λ (b : Bool). in_front done (each f (cond b (x ∷ rest) rest))) (sym passed)
      ∙ ap (λ l. in_front done (each f (filter p l))) (sym (dropped xs i x low is))
      ∙ inv

  -- the item at a place is picked and can't be read
  pub pick_fails : (p : X → Bool) (done : List A) (xs : List X) (i : ℕ) (x : X) (all : Option (List A)) → i < length xs → x ≡ get_or xs i x → p x ≡ true → None ≡ f x
      → in_front done (each f (filter p (drop i xs))) ≡ all → None ≡ all
  pick_fails p done xs i x all low is picked read inv =
      let rest = filter p (drop (i + 1) xs) in
      ap (λ (o : Option A). in_front done (o >>= (λ y. option_map (λ ys. y ∷ ys) (each f rest)))) read
      ∙ ap (λ (b : Bool). in_front done (each f (cond b (x ∷ rest) rest))) (sym picked)
      ∙ ap (λ l. in_front done (each f (filter p l))) (sym (dropped xs i x low is))
      ∙ inv

  -- all that are picked were read
  pub pick_done : (p : X → Bool) (done : List A) (xs : List X) (i : ℕ) (all : Option (List A)) → length xs ≤ i → in_front done (each f (filter p (drop i xs))) ≡ all → Some done ≡ all
  pick_done p done xs i all end inv = ap Some (sym (append-nil done)) ∙ ap (λ l. in_front done (each f (filter p l))) (sym (drop_all i xs end)) ∙ inv
