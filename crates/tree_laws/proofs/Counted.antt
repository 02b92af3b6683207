-- How many conditions texts have, how deep these and their terms are.
use Rattle.std.proofs.Common.{◌≡◌, refl, ap, ℕ, zero, suc, ◌+◌, ◌≤◌, Bool, true, false, cond, List, [], ◌∷◌, ◌++◌, map, length, filter, arith}
use Rattle.std.specs.List.{AllByRecursion, list_all, enumerate_from}
use Rattle.calculus.specs.declared.query.RelKey.{RelKey}
use Rattle.calculus.specs.declared.query.QQual.{QQual, True}
use Rattle.calculus.specs.declared.query.Query.{Query}
use Rattle.calculus.specs.Tree.{negated}
use Rattle.calculus.specs.Term.{holds, no_aggs}
use Rattle.calculus.specs.TreeLevels.{term_levels}
use Rattle.calculus.specs.Lists.{is_any}
use Rattle.calculus.specs.Used.{used_in_query}
use Rattle.view_text.specs.declared.expansion.Expansion.{Expansion}
use Rattle.view_text.specs.Replaced.{shifted_qual}
use Rattle.view_text.specs.Expansions.{ExpansionSource, attr_term, used_expansion, substituted_from, conditions_from}
use Rattle.view_text.specs.ExpansionOf.{settled}
use Rattle.tree_laws.proofs.Joined.{doubled, Low, low_append}
use Rattle.tree_laws.proofs.Replaced.{shifted_low, all_shifted_low}

-- ---- numbers

-- a number added so many times
unfoldable pub times : ℕ → ℕ → ℕ
times zero k = 0
times (suc n) k = k + times n k

pub times_more : (m n k : ℕ) → m ≤ n → times m k ≤ times n k
unfolding times
times_more zero n k h = omega arith
times_more (suc m) zero k h = absurd (omega (arith, h))
times_more (suc m) (suc n) k h = let less : m ≤ n = omega (arith, h) in let more = times_more m n k less in omega (arith, more)

-- how often one is doubled to have room for the conditions of what stands on so many levels of views
unfoldable pub exponent : ℕ → ℕ
exponent zero = 8
exponent (suc n) = suc (suc (suc (suc (exponent n))))

-- room for so many conditions
abbrev pub room : ℕ → ℕ
room n = doubled (exponent n)

pub first_room : room zero ≡ 256
unfolding exponent doubled
first_room = refl

sixteen_fold : (n : ℕ) → room (suc n) ≡ times 16 (room n)
unfolding exponent doubled times
sixteen_fold n = omega arith

pub room_some : (n : ℕ) → 256 ≤ room n
unfolding times
room_some zero = let first = first_room in omega (arith, first)
room_some (suc n) = let fold = sixteen_fold n in let more = room_some n in omega (arith, fold, more)

-- a qualification, the values of at most so many targets, and the conditions of ten variables
pub room_more : (n : ℕ) → 1001 + times 10 (room n) ≤ room (suc n)
unfolding times
room_more n = let fold = sixteen_fold n in let some = room_some n in omega (arith, fold, some)

-- ---- conditions of expansions that stand one behind the other

long_shifted : (n : ℕ) (qs ys : List QQual) → length (map (shifted_qual n) qs ++ ys) ≡ length qs + length ys
long_shifted n [] ys = omega arith
long_shifted n (q ∷ qs) ys = let more = long_shifted n qs ys in omega (arith, more)

pub conditions_few : (k : ℕ) (expansions : List Expansion) → AllByRecursion (λ t. length t.conditions ≤ k) expansions → (n : ℕ) → length (conditions_from n expansions) ≤ times (length expansions) k
unfolding times
conditions_few k [] few n = omega arith
conditions_few k (expansion ∷ expansions) few n =
    let own = few.0 in
    let more = conditions_few k expansions few.1 (n + length expansion.vars) in
    let long = long_shifted n expansion.conditions (conditions_from (n + length expansion.vars) expansions) in
    omega (arith, own, more, long)

pub conditions_low : (m : ℕ) (expansions : List Expansion) → AllByRecursion (λ t. Low m t.conditions) expansions → (n : ℕ) → Low m (conditions_from n expansions)
conditions_low m [] low n = tt
conditions_low m (expansion ∷ expansions) low n =
    low_append m (map (shifted_qual n) expansion.conditions) (conditions_from (n + length expansion.vars) expansions) (all_shifted_low m n expansion.conditions low.0) (conditions_low m expansions low.1 (n + length expansion.vars))

-- the terms of expansions, wherever they stand
pub put_low : (m : ℕ) (expansions : List Expansion) → 2 ≤ m → AllByRecursion (λ t. (a : ℕ) → term_levels (attr_term t a) ≤ m) expansions → (n v a : ℕ) → term_levels (substituted_from n expansions v a) ≤ m
put_low m [] two low n v a = omega (arith, two)
put_low m (expansion ∷ expansions) two low n zero a = let own = low.0 a in let less = shifted_low n (attr_term expansion a) in omega (arith, own, less)
put_low m (expansion ∷ expansions) two low n (suc v) a = put_low m expansions two low.1 (n + length expansion.vars) v a

-- ---- of used variables alone

-- no more than of each that is used
pub used_few : (m : ℕ) (expansions : ExpansionSource) → ((key : RelKey) (attrs : List ℕ) → length (expansions key attrs).conditions ≤ m) → (q : Query) (k n : ℕ) (keys : List RelKey)
    → length (conditions_from n (map (λ p. used_expansion expansions p.1 (used_in_query p.0 q)) (enumerate_from k keys)))
    ≤ times (length (filter (λ p. is_any (used_in_query p.0 q)) (enumerate_from k keys))) m
unfolding times
used_few m expansions few q k n [] = omega arith
used_few m expansions few q k n (key ∷ keys) = by (used_in_query k q) (few key) (λ place. used_few m expansions few q (k + 1) place keys)
  where
    rest : List Expansion
    rest = map (λ p. used_expansion expansions p.1 (used_in_query p.0 q)) (enumerate_from (k + 1) keys)

    more : List (ℕ × RelKey)
    more = filter (λ p. is_any (used_in_query p.0 q)) (enumerate_from (k + 1) keys)

    by : (attrs : List ℕ) → ((attrs : List ℕ) → length (expansions key attrs).conditions ≤ m) → ((place : ℕ) → length (conditions_from place rest) ≤ times (length more) m)
        → length (conditions_from n (used_expansion expansions key attrs ∷ rest)) ≤ times (length (cond (is_any attrs) ((k, key) ∷ more) more)) m
    by [] one later = let h = later (n + 0) in h
    by (a ∷ attrs) one later =
        let own = one (a ∷ attrs) in
        let h = later (n + length (expansions key (a ∷ attrs)).vars) in
        let long = long_shifted n (expansions key (a ∷ attrs)).conditions (conditions_from (n + length (expansions key (a ∷ attrs)).vars) rest) in
        omega (arith, own, h, long)

-- what holds of each expansion of a source, and of that of a variable that is not used, holds of each of a query's
pub all_expansions : (P : Expansion → Type 0) (expansions : ExpansionSource) → ((key : RelKey) (attrs : List ℕ) → P (used_expansion expansions key attrs)) → (q : Query) (k : ℕ) (keys : List RelKey)
    → AllByRecursion P (map (λ p. used_expansion expansions p.1 (used_in_query p.0 q)) (enumerate_from k keys))
all_expansions P expansions each q k [] = tt
all_expansions P expansions each q k (key ∷ keys) = (each key (used_in_query k q), all_expansions P expansions each q (k + 1) keys)

pub expansions_long : (expansions : ExpansionSource) (q : Query) (k : ℕ) (keys : List RelKey) → length (map (λ p. used_expansion expansions p.1 (used_in_query p.0 q)) (enumerate_from k keys)) ≡ length keys
expansions_long expansions q k [] = refl
expansions_long expansions q k (key ∷ keys) = ap suc (expansions_long expansions q (k + 1) keys)

-- ---- what is settled

pub settled_low : (m : ℕ) (vars : List RelKey) (conditions : List QQual) → 2 ≤ m → Low m conditions → Low m (settled vars conditions)
unfolding settled
settled_low m [] conditions two low = by (list_all (λ q. holds no_aggs q []) conditions)
  where
    by : (b : Bool) → Low m (elim b [ true ↦ [] | false ↦ negated True ∷ [] ])
    by true = tt
    by false = (omega (arith, two), tt)
settled_low m (key ∷ vars) conditions two low = low

pub settled_few : (k : ℕ) (vars : List RelKey) (conditions : List QQual) → 1 ≤ k → length conditions ≤ k → length (settled vars conditions) ≤ k
unfolding settled
settled_few k [] conditions one few = by (list_all (λ q. holds no_aggs q []) conditions)
  where
    by : (b : Bool) → length {A = QQual} (elim b [ true ↦ [] | false ↦ negated True ∷ [] ]) ≤ k
    by true = omega arith
    by false = omega (arith, one)
settled_few k (key ∷ vars) conditions one few = few
