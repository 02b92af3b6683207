-- Pages that differ in some of their bytes.
use Rattle.std.proofs.Common.{◌≡◌, ◌⊎◌, inl, inr, ℕ, ◌+◌, ◌-◌, ◌*◌, ◌<◌, ◌≤◌, ◌==◌, false, List, Some, None, length, drop, get_or, slice_index, slice_range, sym, ◌∙◌, ap, arith, if◌then◌else◌, length-drop, length-take}
use Rattle.std.proofs.lemmas.List.{ext_get_or, get_or-drop, get_or-take}
use Rattle.std.proofs.lemmas.Bool.Decides.{nat_tests}
use Rattle.page_cells.specs.Page.{number_at, lines, low, offset, size, row_at, IsInRow, IsPage}

-- two bytes that are the same give the same number
pub number_same : (p q : List ℕ) (at : ℕ) → slice_index q at ≡ slice_index p at → slice_index q (at + 1) ≡ slice_index p (at + 1) → number_at q at ≡ number_at p at
number_same p q at e f = λ i. e i + 256 * f i

at_range : (p : List ℕ) (a b i : ℕ) → i < b - a → get_or (slice_range p a b) i 0 ≡ slice_index p (a + i)
at_range p a b i lt = get_or-take (b - a) (drop a p) i 0 lt ∙ get_or-drop a p i 0

-- ranges of the same bytes are the same
pub range_same : (p q : List ℕ) (a b : ℕ) → length q ≡ length p → ((j : ℕ) → a ≤ j → j < b → slice_index q j ≡ slice_index p j) → slice_range q a b ≡ slice_range p a b
range_same p q a b long same = ext_get_or 0 (slice_range q a b) (slice_range p a b) size_same at
  where
    size_same : length (slice_range q a b) ≡ length (slice_range p a b)
    size_same = grind (arith, length-drop {A = ℕ}, length-take {A = ℕ})

    at : (i : ℕ) → i < length (slice_range q a b) → get_or (slice_range q a b) i 0 ≡ get_or (slice_range p a b) i 0
    at i lt =
        let below : i < b - a = omega (arith, length-take (b - a) (drop a q), lt) in
        at_range q a b i below ∙ same (a + i) (omega arith) (omega arith) ∙ sym (at_range p a b i below)

-- a line whose row has no bytes is empty
pub row_none : (p : List ℕ) (k : ℕ) → size p k ≡ 0 → row_at p k ≡ None
row_none p k is = ap (λ n. if n == 0 then None else Some (slice_range p (offset p k) (offset p k + size p k))) is

not_empty : {A : Type 0} (x : A) (n : ℕ) → 0 < n → (if n == 0 then None else Some x) ≡ Some x
not_empty x n some = let f : (n == 0) ≡ false = grind (arith, nat_tests) in ap (λ t. if t then None else Some x) f

-- a line whose row has bytes has them
pub row_some : (p : List ℕ) (k : ℕ) → 0 < size p k → row_at p k ≡ Some (slice_range p (offset p k) (offset p k + size p k))
row_some p k some = not_empty (slice_range p (offset p k) (offset p k + size p k)) (size p k) some

-- line k of q is where it is in p
pub record SameLine (p q : List ℕ) (k : ℕ) : Type 0 where
  pub from : offset q k ≡ offset p k
  pub bytes : size q k ≡ size p k

-- where the four bytes of a line are the same, the line is
pub line_same : (p q : List ℕ) (k : ℕ) → ((j : ℕ) → 8 + 4 * k ≤ j → j < 12 + 4 * k → slice_index q j ≡ slice_index p j) → SameLine p q k
line_same p q k same = record {
  from = number_same p q (8 + 4 * k) (same (8 + 4 * k) (omega arith) (omega arith)) (same (8 + 4 * k + 1) (omega arith) (omega arith));
  bytes = number_same p q (10 + 4 * k) (same (10 + 4 * k) (omega arith) (omega arith)) (same (10 + 4 * k + 1) (omega arith) (omega arith));
}

-- from where p's rows begin, q has the bytes of p
abbrev pub SameAbove : List ℕ → List ℕ → Type 0
SameAbove p q = (j : ℕ) → low p ≤ j → slice_index q j ≡ slice_index p j

zero_or_more : (x : ℕ) → (x ≡ 0) ⊎ (0 < x)
zero_or_more x = grind arith

-- a line that stays where it is keeps its row
pub row_kept : (p q : List ℕ) (k : ℕ) → IsPage p → length q ≡ length p → SameAbove p q → k < lines p → SameLine p q k → row_at q k ≡ row_at p k
row_kept p q k page long above lt line = elim (zero_or_more (size p k)) [
  | inl none ↦ row_none q k (line.bytes ∙ none) ∙ sym (row_none p k none)
  | inr more ↦
      let inside = page.within k lt more in
      (λ i. if line.bytes i == 0 then None else Some (slice_range q (line.from i) (line.from i + line.bytes i)))
      ∙ ap (λ r. if size p k == 0 then None else Some r) (range_same p q (offset p k) (offset p k + size p k) long (λ j a b. above j (omega (arith, inside.0))))
]

-- line k of q is a line of p that stays where it is, or it is line i and lies right below the rows of p
abbrev pub KeptOrBelow : List ℕ → List ℕ → ℕ → ℕ → Type 0
KeptOrBelow p q i k = ((k < lines p) × SameLine p q k) ⊎ ((k ≡ i) × (low q ≤ offset q k) × (offset q k + size q k ≤ low p))

module _ (p q : List ℕ) (i : ℕ) (page : IsPage p) (long : length q ≡ length p) (behind : 8 + 4 * lines q ≤ low q) (lower : low q ≤ low p) (each : (k : ℕ) → k < lines q → 0 < size q k → KeptOrBelow p q i k) where
  in_q : (k : ℕ) → k < lines q → 0 < size q k → (low q ≤ offset q k) × (offset q k + size q k ≤ 1024)
  in_q k lt more = elim (each k lt more) [
    | inl (lt_p, line) ↦
        let inside = page.within k lt_p (omega (arith, line.bytes)) in
        (omega (arith, line.from, inside.0), omega (arith, line.from, line.bytes, inside.1))
    | inr (is, from, to) ↦ (from, omega (arith, to, page.top))
  ]

  -- a byte of a line that stays is not below p's rows
  not_below : (k b : ℕ) → k < lines p → SameLine p q k → IsInRow q k b → low p ≤ b
  not_below k b lt line row = let inside = page.within k lt (omega (arith, line.from, line.bytes, row.from, row.to)) in omega (arith, line.from, row.from, inside.0)

  in_p : (k b : ℕ) → k < lines p → SameLine p q k → IsInRow q k b → IsInRow p k b
  in_p k b lt line row = record { line = lt; from = omega (arith, line.from, row.from); to = omega (arith, line.from, line.bytes, row.to) }

  apart_q : (j k b : ℕ) → IsInRow q j b → IsInRow q k b → j ≡ k
  apart_q j k b row_j row_k = elim (each j row_j.line (omega (arith, row_j.from, row_j.to))) [
    | inl (lt_j, line_j) ↦ elim (each k row_k.line (omega (arith, row_k.from, row_k.to))) [
      | inl (lt_k, line_k) ↦ page.apart j k b (in_p j b lt_j line_j row_j) (in_p k b lt_k line_k row_k)
      | inr (is, from, to) ↦ absurd (omega (arith, not_below j b lt_j line_j row_j, row_k.to, to))
    ]
    | inr (is_j, from_j, to_j) ↦ elim (each k row_k.line (omega (arith, row_k.from, row_k.to))) [
      | inl (lt_k, line_k) ↦ absurd (omega (arith, not_below k b lt_k line_k row_k, row_j.to, to_j))
      | inr (is_k, from_k, to_k) ↦ is_j ∙ sym is_k
    ]
  ]

  pub still_page : IsPage q
  still_page = record {
    long = long ∙ page.long;
    behind = behind;
    top = omega (arith, lower, page.top);
    within = in_q;
    apart = apart_q;
  }
