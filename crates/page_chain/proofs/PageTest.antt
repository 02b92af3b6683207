-- The test tells which bytes are a page of rows.
use Rattle.std.proofs.Common.{◌≡◌, refl, ap, ◌∙◌, ℕ, zero, suc, ◌+◌, ◌*◌, ◌<◌, ◌≤◌, ◌==◌, ◌&&◌, ◌||◌, ◌⊎◌, inl, inr, nat_le, Bool, true, false, List, length, arith}
use Rattle.std.proofs.lemmas.Bool.{and_parts, and_from, or_left, or_right, leb-true, leb-false, le-leb, eqb-true, eq-eqb}
use Rattle.page_cells.specs.Page.{lines, low, offset, size, IsInRow, IsPage}
use Rattle.page_chain.specs.Pages.{all_below, is_inside, are_apart, is_page}

-- ---- each below a number

-- where each below n passes, any of them does
of_below : (n : ℕ) (test : ℕ → Bool) (k : ℕ) → all_below n test ≡ true → k < n → test k ≡ true
of_below zero test k all below = absurd (omega arith)
of_below (suc n) test k all below = let both = and_parts (test n) (all_below n test) all in go both.0 (of_below n test k both.1) (k == n) refl
  where
    go : test n ≡ true → (k < n → test k ≡ true) → (b : Bool) → (k == n) ≡ b → test k ≡ true
    go last earlier true e = ap test (eqb-true k n e) ∙ last
    go last earlier false e = earlier (grind arith)

-- and the other way round
to_below : (n : ℕ) (test : ℕ → Bool) → ((k : ℕ) → k < n → test k ≡ true) → all_below n test ≡ true
to_below zero test each = refl
to_below (suc n) test each = and_from (test n) (all_below n test) (each n (omega arith)) (to_below n test (λ k below. each k (omega arith)))

-- ---- numbers

-- one is at most the other, or greater
le_or_lt : (a b : ℕ) → (a ≤ b) ⊎ (b < a)
le_or_lt a b = go (nat_le a b) refl
  where
    go : (t : Bool) → nat_le a b ≡ t → (a ≤ b) ⊎ (b < a)
    go true e = inl (leb-true a b e)
    go false e = inr (leb-false a b e)

-- the row of s bytes from o on lies inside
lies : (s l o : ℕ) → ((s == 0) || (nat_le l o && nat_le (o + s) 1024)) ≡ true → 0 < s → (l ≤ o) × (o + s ≤ 1024)
lies s l o e some = (grind arith, grind arith)

to_lie : (s l o : ℕ) → (0 < s → (l ≤ o) × (o + s ≤ 1024)) → ((s == 0) || (nat_le l o && nat_le (o + s) 1024)) ≡ true
to_lie zero l o h = refl
to_lie (suc s) l o h = let its = h (omega arith) in or_right (suc s == 0) (nat_le l o && nat_le (o + suc s) 1024) (and_from (nat_le l o) (nat_le (o + suc s) 1024) (le-leb l o its.0) (le-leb (o + suc s) 1024 its.1))

-- two rows share no byte
abbrev clear : ℕ → ℕ → ℕ → ℕ → Bool
clear a m b n = (m == 0) || ((n == 0) || (nat_le (a + m) b || nat_le (b + n) a))

no_byte : (a m b n i : ℕ) → clear a m b n ≡ true → a ≤ i → i < a + m → b ≤ i → i < b + n → ⊥
no_byte a m b n i e a_from a_to b_from b_to = grind arith

empty_first : (a b n : ℕ) → clear a 0 b n ≡ true
empty_first a b n = refl

empty_second : (a m b : ℕ) → clear a m b 0 ≡ true
empty_second a m b = or_right (m == 0) (true || (nat_le (a + m) b || nat_le (b + 0) a)) refl

first_before : (a m b n : ℕ) → a + m ≤ b → clear a m b n ≡ true
first_before a m b n le = or_right (m == 0) ((n == 0) || (nat_le (a + m) b || nat_le (b + n) a)) (or_right (n == 0) (nat_le (a + m) b || nat_le (b + n) a) (or_left (nat_le (a + m) b) (nat_le (b + n) a) (le-leb (a + m) b le)))

second_before : (a m b n : ℕ) → b + n ≤ a → clear a m b n ≡ true
second_before a m b n le = or_right (m == 0) ((n == 0) || (nat_le (a + m) b || nat_le (b + n) a)) (or_right (n == 0) (nat_le (a + m) b || nat_le (b + n) a) (or_right (nat_le (a + m) b) (nat_le (b + n) a) (le-leb (b + n) a le)))

to_clear : (a m b n : ℕ) → ((i : ℕ) → a ≤ i → i < a + m → b ≤ i → i < b + n → ⊥) → clear a m b n ≡ true
to_clear a zero b n none = empty_first a b n
to_clear a (suc m) b zero none = empty_second a (suc m) b
to_clear a (suc m) b (suc n) none = go (le_or_lt (a + suc m) b) (le_or_lt (b + suc n) a) (le_or_lt a b)
  where
    go : (a + suc m ≤ b) ⊎ (b < a + suc m) → (b + suc n ≤ a) ⊎ (a < b + suc n) → (a ≤ b) ⊎ (b < a) → clear a (suc m) b (suc n) ≡ true
    go (inl le) q r = first_before a (suc m) b (suc n) le
    go (inr lt) (inl le) r = second_before a (suc m) b (suc n) le
    go (inr lt) (inr lt') (inl le) = absurd (none b le lt (omega arith) (omega arith))
    go (inr lt) (inr lt') (inr more) = absurd (none a (omega arith) (omega arith) (omega (arith, more)) lt')

-- ---- pages

-- what passes is a page of rows
pub passes_is_page : (p : List ℕ) → is_page p ≡ true → IsPage p
unfolding is_page
passes_is_page p e = go (nat_le (8 + 4 * lines p) (low p) && nat_le (low p) 1024) refl e
  where
    go : (b : Bool) → (nat_le (8 + 4 * lines p) (low p) && nat_le (low p) 1024) ≡ b
        → (elim b as (λ b. Bool) [ false ↦ false | true ↦ (length p == 1024) && (all_below (lines p) (is_inside p) && all_below (lines p) (λ k. all_below k (λ j. are_apart p j k))) ]) ≡ true → IsPage p
    go false top e = absurd (grind (arith, e))
    go true top e =
        let ends = and_parts (nat_le (8 + 4 * lines p) (low p)) (nat_le (low p) 1024) top in
        let all = and_parts (length p == 1024) (all_below (lines p) (is_inside p) && all_below (lines p) (λ k. all_below k (λ j. are_apart p j k))) e in
        let each = and_parts (all_below (lines p) (is_inside p)) (all_below (lines p) (λ k. all_below k (λ j. are_apart p j k))) all.1 in
        record {
          long = eqb-true (length p) 1024 all.0;
          behind = leb-true (8 + 4 * lines p) (low p) ends.0;
          top = leb-true (low p) 1024 ends.1;
          within = λ k below some. lies (size p k) (low p) (offset p k) (of_below (lines p) (is_inside p) k each.0 below) some;
          apart = λ j k i in_j in_k. share j k i each.1 in_j in_k (le_or_lt j k) (le_or_lt k j);
        }
      where
        share : (j k i : ℕ) → all_below (lines p) (λ k. all_below k (λ j. are_apart p j k)) ≡ true → IsInRow p j i → IsInRow p k i → (j ≤ k) ⊎ (k < j) → (k ≤ j) ⊎ (j < k) → j ≡ k
        share j k i all in_j in_k (inl le) (inl le') = omega (arith, le, le')
        share j k i all in_j in_k (inl le) (inr lt) =
            absurd (no_byte (offset p j) (size p j) (offset p k) (size p k) i
            (of_below k (λ j. are_apart p j k) j (of_below (lines p) (λ k. all_below k (λ j. are_apart p j k)) k all in_k.line) lt) in_j.from in_j.to in_k.from in_k.to)
        share j k i all in_j in_k (inr lt) q =
            absurd (no_byte (offset p k) (size p k) (offset p j) (size p j) i
            (of_below j (λ k. are_apart p k j) k (of_below (lines p) (λ k. all_below k (λ j. are_apart p j k)) j all in_j.line) lt) in_k.from in_k.to in_j.from in_j.to)

-- a page of rows passes
pub page_passes : (p : List ℕ) → IsPage p → is_page p ≡ true
unfolding is_page
page_passes p is = ap (λ b. elim b as (λ b. Bool) [ false ↦ false | true ↦ (length p == 1024) && (all_below (lines p) (is_inside p) && all_below (lines p) (λ k. all_below k (λ j. are_apart p j k))) ]) ends ∙ all
  where
    ends : (nat_le (8 + 4 * lines p) (low p) && nat_le (low p) 1024) ≡ true
    ends = and_from (nat_le (8 + 4 * lines p) (low p)) (nat_le (low p) 1024) (le-leb (8 + 4 * lines p) (low p) is.behind) (le-leb (low p) 1024 is.top)

    pairs : (k : ℕ) → k < lines p → all_below k (λ j. are_apart p j k) ≡ true
    pairs k there = to_below k (λ j. are_apart p j k) (λ j below. to_clear (offset p j) (size p j) (offset p k) (size p k) (λ i a_from a_to b_from b_to.
        absurd (omega (arith, below, is.apart j k i (record { line = omega (arith, below, there); from = a_from; to = a_to }) (record { line = there; from = b_from; to = b_to })))))

    all : ((length p == 1024) && (all_below (lines p) (is_inside p) && all_below (lines p) (λ k. all_below k (λ j. are_apart p j k)))) ≡ true
    all = and_from (length p == 1024) (all_below (lines p) (is_inside p) && all_below (lines p) (λ k. all_below k (λ j. are_apart p j k))) (eq-eqb (length p) 1024 is.long)
        (and_from (all_below (lines p) (is_inside p)) (all_below (lines p) (λ k. all_below k (λ j. are_apart p j k)))
        (to_below (lines p) (is_inside p) (λ k below. to_lie (size p k) (low p) (offset p k) (is.within k below)))
        (to_below (lines p) (λ k. all_below k (λ j. are_apart p j k)) pairs))
