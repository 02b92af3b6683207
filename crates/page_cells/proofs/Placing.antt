-- What a row put into slots leaves.
use Rattle.std.proofs.Common.{◌≡◌, ◌⊎◌, inl, inr, ℕ, ◌<◌, ◌≤◌, nat_lt, nat_le, true, false, List, [], ◌∷◌, ◌++◌, Some, None, is_none, length, get_or, refl, sym, ap, arith, if◌then◌else◌}
use Rattle.std.proofs.Math.ListN.{set}
use Rattle.std.proofs.lemmas.Bool.Decides.{nat_tests}
use Rattle.page_cells.specs.Page.{Slot, lines, size, slots, with_row}
use Rattle.page_cells.proofs.Clearing.{not_cleared}

-- a row in a line that is there
pub with_row_in : (s : List Slot) (line : ℕ) (row : List ℕ) → line < length s → with_row s (Some line) row ≡ set s line (Some row)
with_row_in s line row lt = let t : nat_lt line (length s) ≡ true = grind (arith, nat_tests) in ap (λ b. if b then set s line (Some row) else s ++ Some row ∷ []) t

-- a row in a new line
pub with_row_new : (s : List Slot) (line : ℕ) (row : List ℕ) → line ≡ length s → with_row s (Some line) row ≡ s ++ Some row ∷ []
with_row_new s line row is = let t : nat_lt line (length s) ≡ false = grind (arith, nat_tests) in ap (λ b. if b then set s line (Some row) else s ++ Some row ∷ []) t

pub some_if : (n room line : ℕ) → n ≤ room → Some line ≡ (if nat_le n room then Some line else None)
some_if n room line le = let t : nat_le n room ≡ true = grind (arith, nat_tests) in sym (ap (λ b. if b then Some line else None) t)

zero_or_more : (x : ℕ) → (x ≡ 0) ⊎ (0 < x)
zero_or_more x = grind arith

-- a slot with nothing is a line whose row has no bytes
pub size_of_none : (p : List ℕ) (k : ℕ) → k < lines p → get_or (slots p) k None ≡ None → size p k ≡ 0
size_of_none p k lt none = elim (zero_or_more (size p k)) [ inl is ↦ is | inr more ↦ not_cleared p k lt more none ]

pub none_is : (s : Slot) → is_none s ≡ true → s ≡ None
none_is None e = refl
none_is (Some row) e = cc
