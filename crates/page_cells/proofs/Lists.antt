-- The slots of a page as a list.
use Rattle.std.proofs.Common.{◌≡◌, ◌≢◌, ◌⊎◌, inl, inr, ℕ, zero, suc, ◌-◌, ◌<◌, ◌≤◌, List, [], ◌∷◌, ◌++◌, None, length, get_or, refl, sym, ◌∙◌, ap, subst, arith}
use Rattle.std.proofs.Math.ListN.{set}
use Rattle.std.proofs.lemmas.List.{set-append_left, set-append_right, length_push}
use Rattle.std.proofs.lemmas.Grind.{common_steps}
use Rattle.page_cells.specs.Page.{Slot, lines, row_at, slots_before, slots}

pub length_before : (p : List ℕ) (n : ℕ) → length (slots_before p n) ≡ n
length_before p zero = refl
length_before p (suc n) = length_push (slots_before p n) (row_at p n) ∙ omega (arith, length_before p n)

below_or_at : (k n : ℕ) → k < suc n → (k < n) ⊎ (k ≡ n)
below_or_at k n lt = grind arith

-- pages whose first n lines have the same rows
pub before_same : (p q : List ℕ) (n : ℕ) → ((k : ℕ) → k < n → row_at q k ≡ row_at p k) → slots_before q n ≡ slots_before p n
before_same p q zero same = refl
before_same p q (suc n) same =
    ap (λ s. s ++ row_at q n ∷ []) (before_same p q n (λ k lt. same k (omega arith))) ∙ ap (λ x. slots_before p n ++ x ∷ []) (same n (omega arith))

-- the last slot is another
pub set_last : (s : List Slot) (n i : ℕ) (y x : Slot) → length s ≡ n → i ≡ n → set (s ++ y ∷ []) i x ≡ s ++ x ∷ []
set_last s n i y x long at = set-append_right s (y ∷ []) n i x long (omega arith) ∙ subst (λ m. s ++ set (y ∷ []) m x ≡ s ++ x ∷ []) (let e : 0 ≡ i - n = omega arith in e) refl

-- pages whose first n lines have the same rows, but for line i
pub before_set : (p q : List ℕ) (n i : ℕ) (x : Slot) → i < n → row_at q i ≡ x → ((k : ℕ) → k < n → k ≢ i → row_at q k ≡ row_at p k) → slots_before q n ≡ set (slots_before p n) i x
before_set p q zero i x lt here same = absurd (omega arith)
before_set p q (suc n) i x lt here same = elim (below_or_at i n lt) [
  | inl below ↦
      ap (λ s. s ++ row_at q n ∷ []) (before_set p q n i x below here (λ k lt. same k (omega arith)))
      ∙ ap (λ y. set (slots_before p n) i x ++ y ∷ []) (same n (omega arith) (λ e. omega arith))
      ∙ sym (set-append_left (slots_before p n) (row_at p n ∷ []) i x (omega (arith, length_before p n)))
  | inr at ↦
      ap (λ s. s ++ row_at q n ∷ []) (before_same p q n (λ k lt. same k (omega arith) (λ e. omega arith)))
      ∙ ap (λ y. slots_before p n ++ y ∷ []) (subst (λ m. row_at q m ≡ x) at here)
      ∙ sym (set_last (slots_before p n) n i (row_at p n) x (length_before p n) at)
]

-- what the list of slots has at a line, and past the last
pub before_at : (p : List ℕ) (n k : ℕ) → k < n → get_or (slots_before p n) k None ≡ row_at p k
before_at p zero k lt = absurd (omega arith)
before_at p (suc n) k lt = elim (below_or_at k n lt) [
  | inl below ↦ grind (arith, common_steps, before_at p n k below, length_before p n)
  | inr at ↦ grind (arith, common_steps, length_before p n, at)
]

past_end : (p : List ℕ) (n k : ℕ) → n ≤ k → get_or (slots_before p n) k None ≡ None
past_end p n k le = get_or_past (slots_before p n) k (omega (arith, length_before p n))
  where
    get_or_past : (s : List Slot) (k : ℕ) → length s ≤ k → get_or s k None ≡ None
    get_or_past [] k le = refl
    get_or_past (x ∷ s) zero le = absurd (omega arith)
    get_or_past (x ∷ s) (suc k) le = get_or_past s k (omega arith)

-- a page has as many slots as lines
pub length_slots : (p : List ℕ) → length (slots p) ≡ lines p
unfolding slots
length_slots p = length_before p (lines p)

-- what stands at a line, and past the last
pub slots_at : (p : List ℕ) (k : ℕ) → k < lines p → get_or (slots p) k None ≡ row_at p k
unfolding slots
slots_at p k lt = before_at p (lines p) k lt

pub slots_past : (p : List ℕ) (k : ℕ) → lines p ≤ k → get_or (slots p) k None ≡ None
unfolding slots
slots_past p k le = past_end p (lines p) k le

-- the slots of a page with the same lines and rows
pub slots_same : (p q : List ℕ) → lines q ≡ lines p → ((k : ℕ) → k < lines p → row_at q k ≡ row_at p k) → slots q ≡ slots p
unfolding slots
slots_same p q e same = ap (slots_before q) e ∙ before_same p q (lines p) same

-- the same but for one line
pub slots_set : (p q : List ℕ) (i : ℕ) (x : Slot) → lines q ≡ lines p → i < lines p → row_at q i ≡ x → ((k : ℕ) → k < lines p → k ≢ i → row_at q k ≡ row_at p k) → slots q ≡ set (slots p) i x
unfolding slots
slots_set p q i x e lt here same = ap (slots_before q) e ∙ before_set p q (lines p) i x lt here same

-- the same and one line more
pub slots_more : (p q : List ℕ) (x : Slot) → lines q ≡ suc (lines p) → row_at q (lines p) ≡ x → ((k : ℕ) → k < lines p → row_at q k ≡ row_at p k) → slots q ≡ slots p ++ x ∷ []
unfolding slots
slots_more p q x e here same =
    ap (slots_before q) e ∙ ap (λ s. s ++ row_at q (lines p) ∷ []) (before_same p q (lines p) same) ∙ ap (λ y. slots_before p (lines p) ++ y ∷ []) here
