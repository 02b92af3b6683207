-- The payload of a frame that begins in one piece and ends in another.
use Rattle.std.proofs.Common.{◌≡◌, sym, ap, ◌∙◌, ℕ, zero, suc, ◌+◌, ◌-◌, ◌<◌, ◌≤◌, List, [], ◌∷◌, ◌++◌, take, drop, length, arith, length-drop}

-- bytes behind a place, where they may begin in the second piece
pub drop_both : (n : ℕ) (xs ys : List ℕ) → drop n (xs ++ ys) ≡ drop n xs ++ drop (n - length xs) ys
drop_both zero xs ys = ap (λ (m : ℕ). xs ++ drop m ys) (let e : 0 ≡ 0 - length xs = omega arith in e)
drop_both (suc n) [] ys = ap (λ (m : ℕ). drop m ys) (let e : suc n ≡ suc n - 0 = omega arith in e)
drop_both (suc n) (x ∷ xs) ys = drop_both n xs ys ∙ ap (λ (m : ℕ). drop n xs ++ drop m ys) (let e : n - length xs ≡ suc n - suc (length xs) = omega arith in e)

-- the first bytes, where they end in the second piece
pub take_both : (n : ℕ) (xs ys : List ℕ) → length xs ≤ n → take n (xs ++ ys) ≡ xs ++ take (n - length xs) ys
take_both n [] ys le = ap (λ (m : ℕ). take m ys) (let e : n ≡ n - 0 = omega arith in e)
take_both zero (x ∷ xs) ys le = absurd (omega arith)
take_both (suc n) (x ∷ xs) ys le =
    ap (λ (t : List ℕ). x ∷ t) (take_both n xs ys (omega arith) ∙ ap (λ (m : ℕ). xs ++ take m ys) (let e : n - length xs ≡ suc n - suc (length xs) = omega arith in e))

-- the payload behind a header
pub payload_of : (size begin end : ℕ) (first then : List ℕ) → length first < 3 + size → begin ≡ 3 - length first → end ≡ 3 + size - length first
    → drop 3 first ++ take (end - begin) (drop begin then) ≡ take size (drop 3 (first ++ then))
payload_of size begin end first then lt b e =
    let l = length-drop 3 first in
    ap (λ (m : ℕ). drop 3 first ++ take m (drop begin then)) (let s : end - begin ≡ size - length (drop 3 first) = omega arith in s)
    ∙ ap (λ (m : ℕ). drop 3 first ++ take (size - length (drop 3 first)) (drop m then)) b
    ∙ sym (take_both size (drop 3 first) (drop (3 - length first) then) (omega arith))
    ∙ ap (take size) (sym (drop_both 3 first then))

-- what stands behind a frame
pub behind_frame : (n : ℕ) (xs ys : List ℕ) → length xs ≤ n → drop n (xs ++ ys) ≡ drop (n - length xs) ys
behind_frame n [] ys le = ap (λ (m : ℕ). drop m ys) (let e : n ≡ n - 0 = omega arith in e)
behind_frame zero (x ∷ xs) ys le = absurd (omega arith)
behind_frame (suc n) (x ∷ xs) ys le = behind_frame n xs ys (omega arith) ∙ ap (λ (m : ℕ). drop m ys) (let e : n - length xs ≡ suc n - suc (length xs) = omega arith in e)
