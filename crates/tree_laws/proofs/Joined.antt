-- What is joined by halves has few levels more than the deepest of its parts.
use Rattle.std.proofs.Common.{◌≡◌, refl, ℕ, zero, suc, ◌+◌, ◌≤◌, max, List, [], ◌∷◌, ◌++◌, length, arith}
use Rattle.std.specs.List.{AllByRecursion}
use Rattle.calculus.specs.declared.query.QQual.{QQual, True}
use Rattle.calculus.specs.Tree.{both, either, negated}
use Rattle.calculus.specs.TreeLevels.{qual_levels}
use Rattle.view_text.specs.Halves.{Joining, paired, chained, joined_within, all_of, any_of}

-- one doubled so many times
unfoldable pub doubled : ℕ → ℕ
doubled zero = 1
doubled (suc k) = doubled k + doubled k

pub doubled_some : (k : ℕ) → 1 ≤ doubled k
unfolding doubled
doubled_some zero = omega arith
doubled_some (suc k) = let one = doubled_some k in omega (arith, one)

pub doubled_more : (n : ℕ) → n ≤ doubled n
unfolding doubled
doubled_more zero = omega arith
doubled_more (suc n) = let more = doubled_more n in let one = doubled_some n in omega (arith, more, one)

-- each has at most so many levels
abbrev pub Low : ℕ → List QQual → Type 0
Low m qs = AllByRecursion (λ q. qual_levels q ≤ m) qs

pub low_more : (m n : ℕ) → m ≤ n → (qs : List QQual) → Low m qs → Low n qs
low_more m n h [] low = tt
low_more m n h (q ∷ qs) low = (omega (arith, h, low.0), low_more m n h qs low.1)

pub low_append : (m : ℕ) (ps qs : List QQual) → Low m ps → Low m qs → Low m (ps ++ qs)
low_append m [] qs low more = more
low_append m (p ∷ ps) qs low more = (low.0, low_append m ps qs low.1 more)

-- a joining that adds one level
abbrev pub AddsOne : Joining → Type 0
AddsOne join = (p q : QQual) → qual_levels (join p q) ≡ 1 + max (qual_levels p) (qual_levels q)

module _ (join : Joining) (none : QQual) (adds : AddsOne join) where
  half_long : (qs : List QQual) → length (paired join qs) + length (paired join qs) ≤ suc (length qs)
  unfolding paired
  half_long [] = omega arith
  half_long (p ∷ []) = omega arith
  half_long (p ∷ q ∷ more) = let half = half_long more in omega (arith, half)

  low_paired : (m : ℕ) (qs : List QQual) → Low m qs → Low (suc m) (paired join qs)
  unfolding paired
  low_paired m [] low = tt
  low_paired m (p ∷ []) low = (omega (arith, low.0), tt)
  low_paired m (p ∷ q ∷ more) low = let one = adds p q in (omega (arith, one, low.0, low.1.0), low_paired m more low.1.1)

  low_single : (n m : ℕ) (qs : List QQual) → length qs ≤ 1 → qual_levels none ≤ m → Low m qs → qual_levels (joined_within n join none qs) ≤ m
  unfolding joined_within chained paired
  low_single zero m [] few nothing low = nothing
  low_single zero m (p ∷ []) few nothing low = low.0
  low_single zero m (p ∷ q ∷ more) few nothing low = absurd (omega (arith, few))
  low_single (suc n) m [] few nothing low = low_single n m [] few nothing low
  low_single (suc n) m (p ∷ []) few nothing low = low_single n m (p ∷ []) few nothing low
  low_single (suc n) m (p ∷ q ∷ more) few nothing low = absurd (omega (arith, few))

  low_within : (n k m : ℕ) (qs : List QQual) → length qs ≤ doubled n → length qs ≤ doubled k → qual_levels none ≤ m → Low m qs → qual_levels (joined_within n join none qs) ≤ m + k
  unfolding joined_within doubled
  low_within zero k m qs fits few nothing low = let one = low_single zero m qs fits nothing low in omega (arith, one)
  low_within (suc n) zero m qs fits few nothing low = let one = low_single (suc n) m qs few nothing low in omega (arith, one)
  low_within (suc n) (suc k) m qs fits few nothing low =
      let half = half_long qs in
      let less : length (paired join qs) ≤ doubled n = omega (arith, half, fits) in
      let fewer : length (paired join qs) ≤ doubled k = omega (arith, half, few) in
      let deeper : qual_levels none ≤ suc m = omega (arith, nothing) in
      let joined = low_within n k (suc m) (paired join qs) less fewer deeper (low_paired m qs low) in
      omega (arith, joined)

  pub low_joined : (k m : ℕ) (qs : List QQual) → length qs ≤ doubled k → qual_levels none ≤ m → Low m qs → qual_levels (joined_within (length qs) join none qs) ≤ m + k
  low_joined k m qs few nothing low = low_within (length qs) k m qs (doubled_more (length qs)) few nothing low

both_adds : AddsOne both
both_adds p q = refl

either_adds : AddsOne either
either_adds p q = refl

pub low_all : (k m : ℕ) (qs : List QQual) → length qs ≤ doubled k → 1 ≤ m → Low m qs → qual_levels (all_of qs) ≤ m + k
low_all k m qs few some low = low_joined both True both_adds k m qs few some low

pub low_any : (k m : ℕ) (qs : List QQual) → length qs ≤ doubled k → 2 ≤ m → Low m qs → qual_levels (any_of qs) ≤ m + k
low_any k m qs few some low = low_joined either (negated True) either_adds k m qs few some low
