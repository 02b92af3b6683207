-- What the variables of a query that are used count.
use Rattle.std.proofs.Common.{◌≡◌, refl, sym, ap, ◌∙◌, ℕ, zero, suc, ◌+◌, ◌-◌, ◌^◌, ◌≤◌, ◌<◌, min, arith, Bool, true, false, cond, List, [], ◌∷◌, length, take, get_or}
use Rattle.std.specs.List.{filter, sum_by, enumerate_from}
use Rattle.std.proofs.lemmas.List.{take_all}
use Rattle.std.proofs.lemmas.List.Sums.{sum_by-cons, sum_by_more}
use denote.Hole.Carrier.{out}
use Rattle.calculus.specs.declared.query.RelKey.{RelKey}
use Rattle.calculus.specs.declared.query.Query.{Query, Query', out-Query}
use Rattle.calculus.specs.QueryParts.{vars_of}

-- what the items count whose places pass
abbrev pub counted : {X : Type 0} → (ℕ → Bool) → (X → ℕ) → ℕ → List X → ℕ
counted p f k xs = sum_by (λ e. f e.1) (filter (λ e. p e.0) (enumerate_from k xs))

none_more : (n : ℕ) → 0 + n ≡ n
none_more n = omega arith

-- the first item counts what it counts where its place passes
pub one_first : {X : Type 0} (p : ℕ → Bool) (f : X → ℕ) (k : ℕ) (x : X) (xs : List X) → counted p f k (x ∷ xs) ≡ cond (p k) (f x) 0 + counted p f (k + 1) xs
one_first p f k x xs = go (p k)
  where
    go : (b : Bool) → sum_by (λ (e : ℕ × _). f e.1) (cond b ((k, x) ∷ filter (λ e. p e.0) (enumerate_from (k + 1) xs)) (filter (λ e. p e.0) (enumerate_from (k + 1) xs)))
        ≡ cond b (f x) 0 + counted p f (k + 1) xs
    go true = sum_by-cons (λ e. f e.1) (k, x) (filter (λ e. p e.0) (enumerate_from (k + 1) xs))
    go false = sym (none_more (counted p f (k + 1) xs))

further : {X : Type 0} (p : ℕ → Bool) (f : X → ℕ) (k : ℕ) (xs : List X) (i : ℕ) (x : X) → i < length xs → x ≡ get_or xs i x
    → counted p f k (take (suc i) xs) ≡ counted p f k (take i xs) + cond (p (k + i)) (f x) 0
further p f k [] i x h e = absurd (omega (arith, h))
further p f k (y ∷ ys) zero x h e = one_first p f k y [] ∙ go
  where
    go : cond (p k) (f y) 0 + 0 ≡ 0 + cond (p (k + 0)) (f x) 0
    go = let same : k + 0 ≡ k = omega arith in rw (same, e) (omega arith)
further p f k (y ∷ ys) (suc i) x h e =
    one_first p f k y (take (suc i) ys) ∙ ap (λ n. cond (p k) (f y) 0 + n) (further p f (k + 1) ys i x (omega (arith, h)) e)
    ∙ (let next : k + 1 + i ≡ k + suc i = omega arith in ap (λ n. cond (p k) (f y) 0 + (counted p f (k + 1) (take i ys) + cond (p n) (f x) 0)) next)
    ∙ (let sums : (a b c : ℕ) → a + (b + c) ≡ a + b + c = λ a b c. omega arith in sums (cond (p k) (f y) 0) (counted p f (k + 1) (take i ys)) (cond (p (k + suc i)) (f x) 0))
    ∙ ap (λ n. n + cond (p (k + suc i)) (f x) 0) (sym (one_first p f k y (take i ys)))

-- one item more counts what it counts where its place passes
pub one_more : {X : Type 0} (p : ℕ → Bool) (f : X → ℕ) (xs : List X) (i : ℕ) (x : X) → i < length xs → x ≡ get_or xs i x
    → counted p f 0 (take (i + 1) xs) ≡ counted p f 0 (take i xs) + cond (p i) (f x) 0
one_more p f xs i x h e = let next : i + 1 ≡ suc i = omega arith in ap (λ k. counted p f 0 (take k xs)) next ∙ further p f 0 xs i x h e ∙ ap (λ k. counted p f 0 (take i xs) + cond (p k) (f x) 0) (none_more i)

pub vars_is : (q : Query) → (out-Query q).vars ≡ vars_of q
unfolding out-Query out
vars_is (Query' vars marks targets qual) = refl

-- ---- in a loop

-- one variable more, where numbers stop at the greatest of 64 bits
pub count_more : (p : ℕ → Bool) (f : RelKey → ℕ) (keys : List RelKey) (i : ℕ) (key : RelKey) (place count more now : ℕ) → i < length keys → key ≡ get_or keys i key
    → i + 1 ≤ 256 → place ≡ min i 255 → count ≡ min (counted p f 0 (take i keys)) (2 ^ 64 - 1) → more ≡ cond (p place) (min (f key) (2 ^ 64 - 1)) 0
    → now ≡ min (count + more) (2 ^ 64 - 1) → now ≡ min (counted p f 0 (take (i + 1) keys)) (2 ^ 64 - 1)
count_more p f keys i key place count more now h e few at c m n =
    n ∙ go (p i) (m ∙ ap (λ k. cond (p k) (min (f key) (2 ^ 64 - 1)) 0) here) ∙ ap (λ k. min k (2 ^ 64 - 1)) (sym (one_more p f keys i key h e))
  where
    here : place ≡ i
    here = omega arith

    go : (b : Bool) → more ≡ cond b (min (f key) (2 ^ 64 - 1)) 0
        → min (count + more) (2 ^ 64 - 1) ≡ min (counted p f 0 (take i keys) + cond b (f key) 0) (2 ^ 64 - 1)
    go true k = omega arith
    go false k = omega arith

-- all variables are taken
pub count_all : (p : ℕ → Bool) (f : RelKey → ℕ) (keys vars : List RelKey) (i count : ℕ) → keys ≡ vars → length keys ≤ i → count ≡ min (counted p f 0 (take i keys)) (2 ^ 64 - 1)
    → count ≡ min (counted p f 0 vars) (2 ^ 64 - 1)
count_all p f keys vars i count e h c = c ∙ ap (λ ks. min (counted p f 0 ks) (2 ^ 64 - 1)) (take_all i keys h ∙ e)

-- one more of those that are all counted
pub sum_more : {X : Type 0} (f : X → ℕ) (keys : List X) (i : ℕ) (key : X) (count more now : ℕ) → i < length keys → key ≡ get_or keys i key
    → count ≡ min (sum_by f (take i keys)) (2 ^ 64 - 1) → more ≡ min (f key) (2 ^ 64 - 1) → now ≡ min (count + more) (2 ^ 64 - 1) → now ≡ min (sum_by f (take (i + 1) keys)) (2 ^ 64 - 1)
sum_more f keys i key count more now h e c m n = let all : sum_by f (take (i + 1) keys) ≡ sum_by f (take i keys) + f key = sum_by_more f keys i key h ∙ ap (λ k. sum_by f (take i keys) + f k) (sym e) in omega arith
