-- Lists of variables, by their places: what is known of those that pass a test, and of all of them.
use Rattle.std.proofs.Common.{◌≡◌, inl, inr, refl, sym, ap, ◌∙◌, subst, ℕ, zero, suc, ◌+◌, ◌≤◌, Bool, true, false, cond, ◌&&◌, nat_le, List, [], ◌∷◌, ◌++◌, map, filter, length, length-append, append_assoc, Some, Contains, arith}
use Rattle.std.proofs.lemmas.Bool.Decides.{nat_tests}
use Rattle.std.proofs.lemmas.List.Sums.{sum_by-cons}
use Rattle.std.specs.Prelude.{slice_get, sum_by}
use Rattle.std.specs.List.{enumerate_from, list_all}
use Rattle.calculus.specs.declared.query.RelKey.{RelKey}
use Rattle.calculus_laws.proofs.Members.{In}
use Rattle.calculus_laws.proofs.Asked.{In-Contains}
use Rattle.std.proofs.lemmas.List.Elements.{Contains-append_right}
use Rattle.view_text.specs.declared.expansion.Expansion.{Expansion}
use Rattle.view_text.specs.Expansions.{expansions_vars}

pub both_true : (b c : Bool) → (b && c) ≡ true → (b ≡ true) × (c ≡ true)
both_true true c h = (refl, h)
both_true false c h = cc h

-- ---- places

-- the key at a place stands there among the variables
pub placed : (k : ℕ) (keys : List RelKey) (v : ℕ) (key : RelKey) → slice_get keys v ≡ Some key → In (k + v, key) (enumerate_from k keys)
placed k [] zero key h = cc h
placed k [] (suc v) key h = cc h
placed k (first ∷ keys) zero key h =
    let none : k ≡ k + 0 = omega arith in
    let same : first ≡ key = cc h in inl (λ i. (none i, same i))
placed k (first ∷ keys) (suc v) key h =
    let more : k + 1 + v ≡ k + suc v = omega arith in inr (subst (λ n. In (n, key) (enumerate_from (k + 1) keys)) more (placed (k + 1) keys v key h))

pub placed_at : (keys : List RelKey) (v : ℕ) (key : RelKey) → slice_get keys v ≡ Some key → In (v, key) (enumerate_from 0 keys)
placed_at keys v key h = let none : 0 + v ≡ v = omega arith in subst (λ n. In (n, key) (enumerate_from 0 keys)) none (placed 0 keys v key h)

-- and only there
stands : (k : ℕ) (keys : List RelKey) (n : ℕ) (key : RelKey) → In (n, key) (enumerate_from k keys) → (v : ℕ) × (n ≡ k + v) × (slice_get keys v ≡ Some key)
stands k [] n key inside = absurd inside
stands k (first ∷ keys) n key (inl e) =
    let here : k ≡ n = ap (λ p. p.0) e in
    let same : first ≡ key = ap (λ p. p.1) e in (0, omega (arith, here), ap Some same)
stands k (first ∷ keys) n key (inr inside) = let (v, e, there) = stands (k + 1) keys n key inside in (suc v, omega (arith, e), there)

pub stands_at : (keys : List RelKey) (v : ℕ) (key : RelKey) → In (v, key) (enumerate_from 0 keys) → slice_get keys v ≡ Some key
stands_at keys v key inside = let (w, e, there) = stands 0 keys v key inside in let same : v ≡ w = omega (arith, e) in ap (slice_get keys) same ∙ there

-- ---- all of those that pass a test

all_kept_step : {X : Type 0} (b : Bool) (f : X → Bool) (x : X) (xs : List X) → list_all f (cond b (x ∷ xs) xs) ≡ (cond b (f x) true && list_all f xs)
all_kept_step true f x xs = refl
all_kept_step false f x xs = refl

pub all_kept : {X : Type 0} (test f : X → Bool) (xs : List X) → list_all f (filter test xs) ≡ list_all (λ x. cond (test x) (f x) true) xs
all_kept test f [] = refl
all_kept test f (x ∷ xs) = all_kept_step (test x) f x (filter test xs) ∙ ap (λ b. cond (test x) (f x) true && b) (all_kept test f xs)

pub all_in : {X : Type 0} (f : X → Bool) (xs : List X) (x : X) → In x xs → list_all f xs ≡ true → f x ≡ true
all_in f [] x inside h = absurd inside
all_in f (y ∷ ys) x (inl e) h = ap f (sym e) ∙ (both_true (f y) (list_all f ys) h).0
all_in f (y ∷ ys) x (inr inside) h = all_in f ys x inside (both_true (f y) (list_all f ys) h).1

false_first : (b c : Bool) → b ≡ false → (b && c) ≡ false
false_first true c h = cc h
false_first false c h = refl

false_later : (b c : Bool) → c ≡ false → (b && c) ≡ false
false_later true c h = h
false_later false c h = refl

pub one_fails : {X : Type 0} (f : X → Bool) (xs : List X) (x : X) → In x xs → f x ≡ false → list_all f xs ≡ false
one_fails f [] x inside h = absurd inside
one_fails f (y ∷ ys) x (inl e) h = false_first (f y) (list_all f ys) (ap f e ∙ h)
one_fails f (y ∷ ys) x (inr inside) h = false_later (f y) (list_all f ys) (one_fails f ys x inside h)

pub all_so : {X : Type 0} (f g : X → Bool) (xs : List X) → ((x : X) → In x xs → f x ≡ true → g x ≡ true) → list_all f xs ≡ true → list_all g xs ≡ true
all_so f g [] so h = refl
all_so f g (x ∷ xs) so h =
    let parts = both_true (f x) (list_all f xs) h in
    λ i. so x (inl refl) parts.0 i && all_so f g xs (λ y inside. so y (inr inside)) parts.1 i

-- ---- amounts

pub kept_sum_step : {X : Type 0} (b : Bool) (f : X → ℕ) (x : X) (xs : List X) → sum_by f (cond b (x ∷ xs) xs) ≡ cond b (f x) 0 + sum_by f xs
kept_sum_step true f x xs = sum_by-cons f x xs
kept_sum_step false f x xs = omega arith

-- where what passes a test comes to no more than this, none of it does
pub each_small : {X : Type 0} (test : X → Bool) (f : X → ℕ) (most : ℕ) (xs : List X) → sum_by f (filter test xs) ≤ most → list_all (λ x. cond (test x) (nat_le (f x) most) true) xs ≡ true
each_small test f most [] h = refl
each_small test f most (x ∷ xs) h =
    let e = kept_sum_step (test x) f x (filter test xs) in
    let total : cond (test x) (f x) 0 + sum_by f (filter test xs) ≤ most = omega (arith, e, h) in
    let less : sum_by f (filter test xs) ≤ most = omega (arith, total) in
    let first : cond (test x) (f x) 0 ≤ most = omega (arith, total) in
    λ i. one (test x) (f x) first i && each_small test f most xs less i
  where
    one : (b : Bool) (n : ℕ) → cond b n 0 ≤ most → cond b (nat_le n most) true ≡ true
    one true n h = grind (arith, nat_tests, h)
    one false n h = refl

-- texts have no more variables together than the amounts of those that pass a test, where each has no more than its own
pub expansions_small : {X : Type 0} (test : X → Bool) (f : X → ℕ) (expansion : X → Expansion) (xs : List X) → ((x : X) → In x xs → length (expansion x).vars ≤ cond (test x) (f x) 0)
    → length (expansions_vars (map expansion xs)) ≤ sum_by f (filter test xs)
expansions_small test f expansion [] h = let none : 0 ≤ 0 = omega arith in none
expansions_small test f expansion (x ∷ xs) h =
    let e = kept_sum_step (test x) f x (filter test xs) in
    let long = length-append (expansion x).vars (expansions_vars (map expansion xs)) in
    let first = h x (inl refl) in
    let later = expansions_small test f expansion xs (λ y inside. h y (inr inside)) in
    omega (arith, e, long, first, later)

-- ---- one more

pub next_known : (expansion : ℕ × RelKey → Expansion) (n : ℕ) (key : RelKey) (rest keys : List RelKey) (made all now : List Expansion) (t : Expansion) → rest ≡ key ∷ keys → t ≡ expansion (n, key) → now ≡ made ++ t ∷ []
    → made ++ map expansion (enumerate_from n rest) ≡ all → now ++ map expansion (enumerate_from (n + 1) keys) ≡ all
next_known expansion n key rest keys made all now t r e m h =
    ap (λ ts. ts ++ map expansion (enumerate_from (n + 1) keys)) m ∙ append_assoc made (t ∷ []) (map expansion (enumerate_from (n + 1) keys))
    ∙ ap (λ t. made ++ t ∷ map expansion (enumerate_from (n + 1) keys)) e ∙ sym (ap (λ ks. made ++ map expansion (enumerate_from n ks)) r) ∙ h

pub here_all : (may : ℕ × RelKey → Bool) (n : ℕ) (key : RelKey) (rest keys : List RelKey) → rest ≡ key ∷ keys → list_all may (enumerate_from n rest) ≡ true → may (n, key) ≡ true
here_all may n key rest keys r h = (both_true (may (n, key)) _ (sym (ap (λ ks. list_all may (enumerate_from n ks)) r) ∙ h)).0

pub later_all : (may : ℕ × RelKey → Bool) (n : ℕ) (key : RelKey) (rest keys : List RelKey) → rest ≡ key ∷ keys → list_all may (enumerate_from n rest) ≡ true → list_all may (enumerate_from (n + 1) keys) ≡ true
later_all may n key rest keys r h = (both_true (may (n, key)) _ (sym (ap (λ ks. list_all may (enumerate_from n ks)) r) ∙ h)).1

pub next_all : (may : ℕ × RelKey → Bool) (n : ℕ) (key : RelKey) (rest keys : List RelKey) (all : Bool) → rest ≡ key ∷ keys → may (n, key) ≡ true → list_all may (enumerate_from n rest) ≡ all
    → list_all may (enumerate_from (n + 1) keys) ≡ all
next_all may n key rest keys all r p h = sym (ap (λ b. b && list_all may (enumerate_from (n + 1) keys)) p) ∙ sym (ap (λ ks. list_all may (enumerate_from n ks)) r) ∙ h

pub next_keys : (n : ℕ) (key : RelKey) (rest keys whole : List RelKey) → rest ≡ key ∷ keys → ((v : ℕ) → slice_get rest v ≡ slice_get whole (n + v)) → (v : ℕ) → slice_get keys v ≡ slice_get whole (n + 1 + v)
next_keys n key rest keys whole r h v =
    let more : n + suc v ≡ n + 1 + v = omega arith in sym (ap (λ ks. slice_get ks (suc v)) r) ∙ h (suc v) ∙ ap (slice_get whole) more

pub here_key : (n : ℕ) (key : RelKey) (rest keys whole : List RelKey) → rest ≡ key ∷ keys → ((v : ℕ) → slice_get rest v ≡ slice_get whole (n + v)) → slice_get whole n ≡ Some key
here_key n key rest keys whole r h =
    let none : n ≡ n + 0 = omega arith in ap (slice_get whole) none ∙ sym (h 0) ∙ ap (λ ks. slice_get ks 0) r

pub next_length : (n m : ℕ) (key : RelKey) (rest keys : List RelKey) → rest ≡ key ∷ keys → n + length rest ≡ m → n + 1 + length keys ≡ m
next_length n m key rest keys r h = let long : length rest ≡ suc (length keys) = ap length r in omega (arith, long, h)

-- ---- one more of any list

pub first_of : {X : Type 0} (f : X → Bool) (x : X) (rest xs : List X) → rest ≡ x ∷ xs → list_all f rest ≡ true → f x ≡ true
first_of f x rest xs r h = (both_true (f x) (list_all f xs) (sym (ap (list_all f) r) ∙ h)).0

pub others_of : {X : Type 0} (f : X → Bool) (x : X) (rest xs : List X) → rest ≡ x ∷ xs → list_all f rest ≡ true → list_all f xs ≡ true
others_of f x rest xs r h = (both_true (f x) (list_all f xs) (sym (ap (list_all f) r) ∙ h)).1

pub passed_on : {X : Type 0} (f : X → Bool) (x : X) (rest xs : List X) (all : Bool) → rest ≡ x ∷ xs → f x ≡ true → list_all f rest ≡ all → list_all f xs ≡ all
passed_on f x rest xs all r p h = sym (ap (λ b. b && list_all f xs) p) ∙ sym (ap (list_all f) r) ∙ h

pub failed_first : {X : Type 0} (f : X → Bool) (x : X) (rest xs : List X) (all : Bool) → rest ≡ x ∷ xs → f x ≡ false → list_all f rest ≡ all → all ≡ false
failed_first f x rest xs all r p h = sym h ∙ ap (list_all f) r ∙ false_first (f x) (list_all f xs) p

pub all_done : {X : Type 0} (f : X → Bool) (rest : List X) (all : Bool) → length rest ≡ 0 → list_all f rest ≡ all → all ≡ true
all_done f [] all e h = sym h
all_done f (x ∷ rest) all e h = absurd (omega (arith, e))

pub contains_first : {X : Type 0} (x : X) (rest xs : List X) → rest ≡ x ∷ xs → Contains rest x
contains_first x rest xs r = subst (λ ys. Contains ys x) (sym r) (In-Contains (x ∷ xs) x (inl refl))

pub contains_later : {X : Type 0} (x y : X) (rest xs : List X) → rest ≡ x ∷ xs → Contains xs y → Contains rest y
contains_later x y rest xs r h = subst (λ ys. Contains ys y) (sym r) (Contains-append_right (x ∷ []) xs y h)

pub next_mapped : {X Y : Type 0} (f : X → Y) (x : X) (rest xs : List X) (made all now : List Y) → rest ≡ x ∷ xs → now ≡ made ++ f x ∷ [] → made ++ map f rest ≡ all → now ++ map f xs ≡ all
next_mapped f x rest xs made all now r m h =
    ap (λ ys. ys ++ map f xs) m ∙ append_assoc made (f x ∷ []) (map f xs) ∙ sym (ap (λ zs. made ++ map f zs) r) ∙ h
