-- The flags once the row of one more line is flagged.
use Rattle.std.proofs.Common.{◌≡◌, ◌⊎◌, inl, inr, refl, sym, subst, ◌∙◌, ℕ, zero, suc, ◌+◌, ◌*◌, ◌<◌, ◌≤◌, Bool, true, false, List, length, get_or, replicate, arith}
use Rattle.std.specs.Bool.{OnTrue, OnFalse}
use Rattle.page_cells.specs.Page.{lines, low, offset, size, IsInRow, IsPage}
use Rattle.page_cells.specs.Marks.{Marks}

pub on_true : (t : Bool) {A B C D : Type 0} → OnTrue t A → OnTrue t B → OnTrue t C → (A → B → C → D) → OnTrue t D
on_true true a b c f = f a b c
on_true false a b c f = tt

pub on_false : (t : Bool) {A B : Type 0} → OnFalse t A → (A → B) → OnFalse t B
on_false true a f = tt
on_false false a f = f a

pub none_set : (n i : ℕ) → get_or (replicate n false) i false ≡ false
none_set zero i = refl
none_set (suc n) zero = refl
none_set (suc n) (suc i) = none_set n i

before_or_at : (k line : ℕ) → k < line + 1 → (k < line) ⊎ (k ≡ line)
before_or_at k line lt = grind arith

-- no line is gone through yet
pub nothing_marked : (p : List ℕ) (flags : List Bool) → ((i : ℕ) → get_or flags i false ≡ false) → Marks p 0 flags
nothing_marked p flags none = record {
  within = λ k lt. absurd (omega arith);
  apart = λ j k i lt. absurd (omega arith);
  flagged = λ k i lt. absurd (omega arith);
  only = λ i is. let e : false ≡ true = sym (none i) ∙ is in cc;
}

-- a line whose row has no bytes
module _ (p : List ℕ) (line : ℕ) (flags : List Bool) (marks : Marks p line flags) (empty : size p line ≡ 0) where
  before : (k i : ℕ) → k < line + 1 → IsInRow p k i → k < line
  before k i lt row = elim (before_or_at k line lt) [
    | inl below ↦ below
    | inr at ↦ let e : size p k ≡ 0 = subst (λ x. size p x ≡ 0) (sym at) empty in absurd (omega (arith, e, row.from, row.to))
  ]

  within_empty : (k : ℕ) → k < line + 1 → 0 < size p k → (low p ≤ offset p k) × (offset p k + size p k ≤ 1024)
  within_empty k lt more = elim (before_or_at k line lt) [
    | inl below ↦ marks.within k below more
    | inr at ↦ let e : size p k ≡ 0 = subst (λ x. size p x ≡ 0) (sym at) empty in absurd (omega (arith, e, more))
  ]

  only_empty : (i : ℕ) → get_or flags i false ≡ true → (k : ℕ) × (k < line + 1) × IsInRow p k i
  only_empty i is = let found = marks.only i is in (found.0, omega (arith, found.1), found.2)

  pub empty_marked : Marks p (line + 1) flags
  empty_marked = record {
    within = within_empty;
    apart = λ j k i lt_j lt_k row_j row_k. marks.apart j k i (before j i lt_j row_j) (before k i lt_k row_k) row_j row_k;
    flagged = λ k i lt row. marks.flagged k i (before k i lt row) row;
    only = only_empty;
  }

-- a line whose row lies from a to b
module _ (p : List ℕ) (line a b : ℕ) (flags new : List Bool) (marks : Marks p line flags) (lt_line : line < lines p) (is_a : a ≡ offset p line) (is_b : b ≡ offset p line + size p line)
    (from_low : low p ≤ a) (to_end : b ≤ 1024)
    (free : (k : ℕ) → a ≤ k → k < b → get_or flags k false ≡ false) (set_now : (k : ℕ) → a ≤ k → k < b → get_or new k false ≡ true)
    (others : (k : ℕ) → (k < a) ⊎ (b ≤ k) → get_or new k false ≡ get_or flags k false) where
  inside_or_not : (i : ℕ) → ((a ≤ i) × (i < b)) ⊎ ((i < a) ⊎ (b ≤ i))
  inside_or_not i = grind arith

  in_line : (k i : ℕ) → k ≡ line → IsInRow p k i → (a ≤ i) × (i < b)
  in_line k i at row =
      let row_line : IsInRow p line i = subst (λ x. IsInRow p x i) at row in
      (omega (arith, row_line.from, is_a), omega (arith, row_line.to, is_b))

  within_new : (k : ℕ) → k < line + 1 → 0 < size p k → (low p ≤ offset p k) × (offset p k + size p k ≤ 1024)
  within_new k lt more = elim (before_or_at k line lt) [
    | inl below ↦ marks.within k below more
    | inr at ↦ subst (λ x. (low p ≤ offset p x) × (offset p x + size p x ≤ 1024)) (sym at) (omega (arith, is_a, from_low), omega (arith, is_b, to_end))
  ]

  -- a byte of an earlier row isn't in this one
  clash : {A : Type 0} (k i : ℕ) → k < line → IsInRow p k i → (a ≤ i) × (i < b) → A
  clash {A} k i lt row (from, to) = let e : false ≡ true = sym (free i from to) ∙ marks.flagged k i lt row in cc

  apart_new : (j k i : ℕ) → j < line + 1 → k < line + 1 → IsInRow p j i → IsInRow p k i → j ≡ k
  apart_new j k i lt_j lt_k row_j row_k = elim (before_or_at j line lt_j) [
    | inl below_j ↦ elim (before_or_at k line lt_k) [
      | inl below_k ↦ marks.apart j k i below_j below_k row_j row_k
      | inr at_k ↦ clash j i below_j row_j (in_line k i at_k row_k)
    ]
    | inr at_j ↦ elim (before_or_at k line lt_k) [
      | inl below_k ↦ clash k i below_k row_k (in_line j i at_j row_j)
      | inr at_k ↦ at_j ∙ sym at_k
    ]
  ]

  flagged_new : (k i : ℕ) → k < line + 1 → IsInRow p k i → get_or new i false ≡ true
  flagged_new k i lt row = elim (before_or_at k line lt) [
    | inr at ↦ let inside = in_line k i at row in set_now i inside.0 inside.1
    | inl below ↦ elim (inside_or_not i) [
      | inl (from, to) ↦ set_now i from to
      | inr out ↦ others i out ∙ marks.flagged k i below row
    ]
  ]

  only_new : (i : ℕ) → get_or new i false ≡ true → (k : ℕ) × (k < line + 1) × IsInRow p k i
  only_new i is = elim (inside_or_not i) [
    | inl (from, to) ↦ (line, omega arith, record { line = lt_line; from = omega (arith, from, is_a); to = omega (arith, to, is_b) })
    | inr out ↦ let found = marks.only i (sym (others i out) ∙ is) in (found.0, omega (arith, found.1), found.2)
  ]

  pub row_marked : Marks p (line + 1) new
  row_marked = record { within = within_new; apart = apart_new; flagged = flagged_new; only = only_new }

-- a byte of the row of a line that belongs to the row of a line before it
pub not_apart : (p : List ℕ) (line a b : ℕ) (flags : List Bool) → Marks p line flags → line < lines p → a ≡ offset p line → b ≡ offset p line + size p line
    → (k : ℕ) × (a ≤ k) × (k < b) × (get_or flags k false ≡ true) → IsPage p → ⊥
not_apart p line a b flags marks lt is_a is_b (k, from, to, is) page =
    let found = marks.only k is in
    let same : found.0 ≡ line = page.apart found.0 line k found.2 (record { line = lt; from = omega (arith, from, is_a); to = omega (arith, to, is_b) }) in
    omega (arith, same, found.1)

-- all lines are gone through
pub all_marked : (p : List ℕ) (n : ℕ) (flags : List Bool) → n ≡ lines p → Marks p n flags → length p ≡ 1024 → 8 + 4 * lines p ≤ low p → low p ≤ 1024 → IsPage p
all_marked p n flags is marks long behind top = record {
  long = long;
  behind = behind;
  top = top;
  within = λ k lt more. marks.within k (omega (arith, is, lt)) more;
  apart = λ j k i row_j row_k. marks.apart j k i (omega (arith, is, row_j.line)) (omega (arith, is, row_k.line)) row_j row_k;
}
