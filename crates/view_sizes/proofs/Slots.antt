-- What is remembered stays true, and what is looked up is.
use Rattle.std.proofs.Common.{◌≡◌, refl, sym, subst, ℕ, nat_eq, Bool, true, false, ◌&&◌, ◌||◌, cond, List, [], ◌∷◌, ◌++◌, Option, None, Some, Result, Ok}
use Rattle.std.specs.List.{All, list_any}
use Rattle.std.specs.Option.{IfSome}
use Rattle.std.specs.Map.{lookup}
use Rattle.std.specs.Option.{option_map}
use Rattle.std.specs.Result.{IfOk}
use Rattle.std.proofs.lemmas.Bool.{eqb-true}
use Rattle.std.proofs.lemmas.List.Elements.{All-nil, All-cons, All-head, All-tail, All-push}
use Rattle.indexmap.specs.IndexMap.{insert_entry}
use Rattle.indexmap.specs.IndexSet.{insert_key}
use Rattle.calculus.specs.declared.query.RelKey.{RelKey}
use Rattle.calculus.specs.Keys.{same_key}
use Rattle.quel_meaning.proofs.Keys.{same_keys}

-- the two have one key and one number
abbrev pub same_slot : RelKey × ℕ → RelKey × ℕ → Bool
same_slot a b = same_key a.0 b.0 && nat_eq a.1 b.1

left : (a b : Bool) → (a && b) ≡ true → a ≡ true
left true b h = refl
left false b h = absurd (cc h)

right : (a b : Bool) → (a && b) ≡ true → b ≡ true
right true b h = h
right false b h = absurd (cc h)

pub same_slots : (a b : RelKey × ℕ) → same_slot a b ≡ true → a ≡ b
same_slots a b h =
    let keys = same_keys a.0 b.0 (left _ _ h) in
    let numbers = eqb-true a.1 b.1 (right (same_key a.0 b.0) _ h) in
    λ i. (keys i, numbers i)

module _ {X : Type 0} (P : RelKey × ℕ → X → Type 0) where
  -- what is found under a slot is true of it where all is
  pub looked_up : (es : List ((RelKey × ℕ) × X)) (s : RelKey × ℕ) → All (λ e. P e.0 e.1) es → IfSome (lookup (same_slot s) es) (P s)
  looked_up [] s h = tt
  looked_up (e ∷ es) s h = go (same_slot s e.0) refl (looked_up es s (All-tail (λ e. P e.0 e.1) e es h))
    where
      go : (b : Bool) → same_slot s e.0 ≡ b → IfSome (lookup (same_slot s) es) (P s) → IfSome (cond b (Some e.1) (lookup (same_slot s) es)) (P s)
      go true k later = subst (λ t. P t e.1) (sym (same_slots s e.0 k)) (All-head (λ e. P e.0 e.1) e es h)
      go false k later = later

  -- all is true with one more that is
  pub put_in : (es : List ((RelKey × ℕ) × X)) (s : RelKey × ℕ) (x : X) → All (λ e. P e.0 e.1) es → P s x → All (λ e. P e.0 e.1) (insert_entry same_slot es s x)
  put_in [] s x h p = All-cons (λ e. P e.0 e.1) (s, x) [] p (All-nil (λ e. P e.0 e.1))
  put_in (e ∷ es) s x h p = go (same_slot s e.0) refl (put_in es s x (All-tail (λ e. P e.0 e.1) e es h) p)
    where
      go : (b : Bool) → same_slot s e.0 ≡ b → All (λ e. P e.0 e.1) (insert_entry same_slot es s x) → All (λ e. P e.0 e.1) (cond b ((e.0, x) ∷ es) (e ∷ insert_entry same_slot es s x))
      go true k later = All-cons (λ e. P e.0 e.1) (e.0, x) es (subst (λ t. P t x) (same_slots s e.0 k) p) (All-tail (λ e. P e.0 e.1) e es h)
      go false k later = All-cons (λ e. P e.0 e.1) e (insert_entry same_slot es s x) (All-head (λ e. P e.0 e.1) e es h) later

module _ (P : RelKey × ℕ → Type 0) where
  -- a slot that is among those of which all is true
  pub is_among : (es : List (RelKey × ℕ)) (s : RelKey × ℕ) → All P es → list_any (same_slot s) es ≡ true → P s
  is_among [] s h k = absurd (cc k)
  is_among (e ∷ es) s h k = go (same_slot s e) refl (is_among es s (All-tail P e es h)) k
    where
      go : (b : Bool) → same_slot s e ≡ b → (list_any (same_slot s) es ≡ true → P s) → (b || list_any (same_slot s) es) ≡ true → P s
      go true j later k = subst P (sym (same_slots s e j)) (All-head P e es h)
      go false j later k = later k

  pub put_among : (es : List (RelKey × ℕ)) (s : RelKey × ℕ) → All P es → P s → All P (insert_key same_slot es s)
  put_among es s h p = go (list_any (same_slot s) es)
    where
      go : (b : Bool) → All P (cond b es (es ++ s ∷ []))
      go true = h
      go false = All-push P es s h p

-- all is true of none
pub none : {X : Type 0} (P : X → Type 0) (xs : List X) → xs ≡ [] → All P xs
none P xs e = subst (All P) (sym e) (All-nil P)

-- what is true of what is lent is true where it is seen
pub shown : {R X : Type 0} (f : R → X) (P : X → Type 0) (o : Option R) (p : Option X) → option_map f o ≡ p → IfSome p P → IfSome o (λ r. P (f r))
shown f P None p e h = tt
shown f P (Some r) p e h = subst (λ q. IfSome q P) (sym e) h

-- what is true of an answer is true of the one that came
pub came : {A E : Type 0} (P : A → Type 0) (r : Result A E) (a : A) → r ≡ Ok a → IfOk r P → P a
came P r a e h = subst (λ s. IfOk s P) e h
