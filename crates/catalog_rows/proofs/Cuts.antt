-- Bytes that are cut into pieces, and parts that are put together.
use Rattle.std.proofs.Common.{◌≡◌, ◌⊎◌, inl, inr, refl, sym, ap, ◌∙◌, ℕ, zero, suc, ◌+◌, min, ◌≤◌, ◌<◌, ◌==◌, nat_le, Bool, true, false, ◌&&◌, List, [], ◌∷◌, ◌++◌, map, length, take, drop, arith, length-drop, append_assoc}
use Rattle.std.specs.List.{list_all}
use Rattle.stored_database.specs.Parts.{Part, part_bytes}
use Rattle.std.proofs.lemmas.List.{take_min}
use Rattle.std.proofs.Math.ListN.{drop_of_length-le}
use Rattle.stored_database.specs.Trees.{are_cut, cut, parts_from, pieces}
use Rattle.catalog_rows.specs.Shown.{part_in}
use Rattle.catalog_rows.specs.declared.part_rows.PartRow.{PartRow}

left_over : (most b : ℕ) (bytes : List ℕ) → length (b ∷ bytes) ≤ suc most → length (drop 900 (b ∷ bytes)) ≤ most
left_over most b bytes h = omega (arith, length-drop 900 (b ∷ bytes))

-- more pieces than are needed are the same
pub pieces_enough : (n m : ℕ) (bytes : List ℕ) → length bytes ≤ n → length bytes ≤ m → pieces n bytes ≡ pieces m bytes
unfolding pieces
pieces_enough zero zero bytes h k = refl
pieces_enough zero (suc m) [] h k = refl
pieces_enough (suc n) zero [] h k = refl
pieces_enough zero (suc m) (b ∷ bytes) h k = absurd (omega arith)
pieces_enough (suc n) zero (b ∷ bytes) h k = absurd (omega arith)
pieces_enough (suc n) (suc m) [] h k = refl
pieces_enough (suc n) (suc m) (b ∷ bytes) h k =
    ap (λ l. take 900 (b ∷ bytes) ∷ l) (pieces_enough n m (drop 900 (b ∷ bytes)) (left_over n b bytes h) (left_over m b bytes k))

-- the first piece, and those of what is behind it
pub cut_first : (bytes : List ℕ) → 0 < length bytes → cut bytes ≡ take 900 bytes ∷ cut (drop 900 bytes)
unfolding pieces
cut_first [] some = absurd (omega arith)
cut_first (b ∷ bytes) some =
    ap (λ l. take 900 (b ∷ bytes) ∷ l) (pieces_enough (length bytes) (length (drop 900 (b ∷ bytes))) (drop 900 (b ∷ bytes)) (left_over (length bytes) b bytes (omega arith)) (omega arith))

-- the rows of the parts from a place on
abbrev pub rows_from : ℕ → ℕ → ℕ → ℕ → List ℕ → List (List ℕ)
rows_from file sort number place bytes = map part_bytes (parts_from file sort number place (cut bytes))

pub rows_of_none : (file sort number place : ℕ) (bytes : List ℕ) → length bytes ≡ 0 → rows_from file sort number place bytes ≡ []
unfolding parts_from pieces
rows_of_none file sort number place [] none = refl
rows_of_none file sort number place (b ∷ bytes) none = absurd (omega arith)

pub rows_first : (file sort number place : ℕ) (bytes : List ℕ) → 0 < length bytes
    → rows_from file sort number place bytes ≡ part_bytes (record { file = file; sort = sort; number = number; place = place; bytes = take 900 bytes }) ∷ rows_from file sort number (suc place) (drop 900 bytes)
unfolding parts_from
rows_first file sort number place bytes some = ap (λ l. map part_bytes (parts_from file sort number place l)) (cut_first bytes some)

-- where bytes are split of which no more than 900 are taken
split : (n m : ℕ) (xs : List ℕ) → m ≡ min n (length xs) → (take m xs ≡ take n xs) × (drop m xs ≡ drop n xs)
split n m xs e = elim (enough n (length xs)) [
  | inl all ↦ let is : m ≡ n = omega arith in (ap (λ k. take k xs) is, ap (λ k. drop k xs) is)
  | inr few ↦ (ap (λ k. take k xs) e ∙ take_min n xs, drop_of_length-le xs (omega arith) ∙ sym (drop_of_length-le xs few))
]
  where
    enough : (n k : ℕ) → (n ≤ k) ⊎ (k ≤ n)
    enough n k = grind arith

-- one more row, and those that are left
pub rows_step : (file sort number place m : ℕ) (rest piece behind row : List ℕ) (rows new whole : List (List ℕ))
    → 0 < length rest → m ≡ min 900 (length rest) → piece ≡ take m rest → behind ≡ drop m rest
    → row ≡ part_bytes (record { file = file; sort = sort; number = number; place = place; bytes = piece }) → new ≡ rows ++ row ∷ []
    → rows ++ rows_from file sort number place rest ≡ whole → new ++ rows_from file sort number (place + 1) behind ≡ whole
rows_step file sort number place m rest piece behind row rows new whole some least front back is more so_far =
    let cut = split 900 m rest least in
    let next : place + 1 ≡ suc place = omega arith in
    (λ i. more i ++ rows_from file sort number (next i) ((back ∙ cut.1) i))
    ∙ append_assoc rows (row ∷ []) (rows_from file sort number (suc place) (drop 900 rest))
    ∙ ap (λ r. rows ++ r ∷ rows_from file sort number (suc place) (drop 900 rest)) (is ∙ ap (λ b. part_bytes (record { file = file; sort = sort; number = number; place = place; bytes = b })) (front ∙ cut.0))
    ∙ ap (λ l. rows ++ l) (sym (rows_first file sort number place rest some))
    ∙ so_far

-- ---- whether parts are cut as those of a tree

cut_of_none : are_cut [] ≡ false
unfolding are_cut
cut_of_none = refl

cut_at_last : (front : List (List ℕ)) (last : List ℕ) → are_cut (front ++ last ∷ []) ≡ (list_all (λ b. length b == 900) front && (nat_le 1 (length last) && nat_le (length last) 900))
unfolding are_cut
cut_at_last [] last = refl
cut_at_last (a ∷ []) last = with_one (length a == 900) (nat_le 1 (length last) && nat_le (length last) 900)
  where
    with_one : (a b : Bool) → (a && b) ≡ ((a && true) && b)
    with_one true b = refl
    with_one false b = refl
cut_at_last (a ∷ b ∷ front) last =
    ap (λ t. (length a == 900) && t) (cut_at_last (b ∷ front) last)
    ∙ regrouped (length a == 900) (list_all (λ b. length b == 900) (b ∷ front)) (nat_le 1 (length last) && nat_le (length last) 900)
  where
    regrouped : (a b c : Bool) → (a && (b && c)) ≡ ((a && b) && c)
    regrouped true b c = refl
    regrouped false b c = refl

-- the parts of rows
pub rows_cut : (parts front : List PartRow) (last : PartRow) → parts ≡ front ++ last ∷ []
    → are_cut (map (λ (p : Part). p.bytes) (map part_in parts)) ≡ (list_all (λ (p : PartRow). length p.bytes == 900) front && (nat_le 1 (length last.bytes) && nat_le (length last.bytes) 900))
rows_cut parts front last e =
    ap (λ ps. are_cut (map (λ (p : Part). p.bytes) (map part_in ps))) e
    ∙ ap are_cut (behind front)
    ∙ cut_at_last (map (λ (p : Part). p.bytes) (map part_in front)) last.bytes
    ∙ ap (λ b. b && (nat_le 1 (length last.bytes) && nat_le (length last.bytes) 900)) (all front)
  where
    behind : (front : List PartRow) → map (λ (p : Part). p.bytes) (map part_in (front ++ last ∷ [])) ≡ map (λ (p : Part). p.bytes) (map part_in front) ++ last.bytes ∷ []
    behind [] = refl
    behind (p ∷ front) = ap (λ l. p.bytes ∷ l) (behind front)

    all : (front : List PartRow) → list_all (λ (b : List ℕ). length b == 900) (map (λ (p : Part). p.bytes) (map part_in front)) ≡ list_all (λ (p : PartRow). length p.bytes == 900) front
    all [] = refl
    all (p ∷ front) = ap (λ b. (length p.bytes == 900) && b) (all front)

pub no_rows_cut : (parts : List PartRow) → length parts ≡ 0 → are_cut (map (λ (p : Part). p.bytes) (map part_in parts)) ≡ false
no_rows_cut [] none = cut_of_none
no_rows_cut (p ∷ parts) none = absurd (omega arith)
