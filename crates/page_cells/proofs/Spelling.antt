-- The bytes of rows, value by value.
use Rattle.std.proofs.Common.{◌≡◌, refl, sym, ap, ◌∙◌, ℕ, zero, suc, ◌+◌, ◌-◌, ◌<◌, ◌≤◌, Bool, true, false, ◌&&◌, IsTrue, List, [], ◌∷◌, ◌++◌, length, take, drop, get_or, replicate, arith, append_assoc, length-append, drop-drop}
use Rattle.std.proofs.lemmas.Bool.Decides.{nat_tests}
use Rattle.std.proofs.lemmas.List.{take-append-le, take_all}
use Rattle.byteorder.specs.Numbers.{length-bytes_low_first}
use Rattle.calculus.specs.declared.value.Domain.{Domain}
use Rattle.calculus.specs.declared.value.Domain.TheVariants.{I1, I2, I4, C}
use Rattle.calculus.specs.declared.value.Value.{Value}
use Rattle.calculus.specs.declared.value.Value.TheVariants.{Int, Text}
use Rattle.calculus.specs.Value.{fits}
use Rattle.page_cells.specs.RowBytes.{width, widths, number_bytes, filled, value_bytes, row_bytes, row_fits}

-- two tests that pass together
pub both : (a b : Bool) → IsTrue (a && b) → IsTrue a × IsTrue b
both true true t = (refl, refl)
both true false t = cc
both false b t = cc

length_replicate : (n : ℕ) → length {A = ℕ} (replicate n 32) ≡ n
length_replicate zero = refl
length_replicate (suc n) = ap suc (length_replicate n)

length_number : (n : ℕ) (z : _) → length (number_bytes n z) ≡ n
unfolding number_bytes
length_number n z = length-bytes_low_first 0 n _

-- a text that is not longer is filled to so many bytes
pub length_filled : (text : List ℕ) (n : ℕ) → length text ≤ n → length (filled text n) ≡ n
length_filled text n le = omega (arith, length-append text (replicate (n - length text) 32), length_replicate (n - length text))

-- a value that fits has as many bytes as its domain takes
pub length_value : (v : Value) (d : Domain) → IsTrue (fits v d) → length (value_bytes v (width d)) ≡ width d
length_value (Int z) d t = length_number (width d) z
length_value (Text text) I1 t = cc
length_value (Text text) I2 t = cc
length_value (Text text) I4 t = cc
length_value (Text text) (C n) t = length_filled text n (grind (arith, nat_tests))

pub same_length : (vs : List Value) (ds : List Domain) → IsTrue (row_fits vs ds) → length vs ≡ length ds
same_length [] [] t = refl
same_length [] (d ∷ ds) t = cc
same_length (v ∷ vs) [] t = cc
same_length (v ∷ vs) (d ∷ ds) t = ap suc (same_length vs ds (both (fits v d) (row_fits vs ds) t).1)

-- each value of a row that fits does
pub fits_at : (vs : List Value) (ds : List Domain) (i : ℕ) (v : Value) (d : Domain) → IsTrue (row_fits vs ds) → i < length ds → IsTrue (fits (get_or vs i v) (get_or ds i d))
fits_at vs [] i v d t lt = absurd (omega arith)
fits_at [] (e ∷ ds) i v d t lt = cc
fits_at (w ∷ vs) (e ∷ ds) zero v d t lt = (both (fits w e) (row_fits vs ds) t).0
fits_at (w ∷ vs) (e ∷ ds) (suc i) v d t lt = fits_at vs ds i v d (both (fits w e) (row_fits vs ds) t).1 (omega arith)

-- the domains up to one, and that one
pub widths_more : (ds : List Domain) (i : ℕ) (d : Domain) → i < length ds → widths (take (suc i) ds) ≡ widths (take i ds) + width (get_or ds i d)
widths_more [] i d lt = absurd (omega arith)
widths_more (e ∷ ds) zero d lt = omega arith
widths_more (e ∷ ds) (suc i) d lt = omega (arith, widths_more ds i d (omega arith))

pub widths_bound : (ds : List Domain) (i : ℕ) (d : Domain) → i < length ds → widths (take i ds) + width (get_or ds i d) ≤ widths ds
widths_bound [] i d lt = absurd (omega arith)
widths_bound (e ∷ ds) zero d lt = omega arith
widths_bound (e ∷ ds) (suc i) d lt = omega (arith, widths_bound ds i d (omega arith))

pub row_more : (vs : List Value) (ds : List Domain) (i : ℕ) (v : Value) (d : Domain) → i < length vs → i < length ds
    → row_bytes (take (suc i) vs) (take (suc i) ds) ≡ row_bytes (take i vs) (take i ds) ++ value_bytes (get_or vs i v) (width (get_or ds i d))
row_more [] ds i v d lt lt' = absurd (omega arith)
row_more (w ∷ vs) [] i v d lt lt' = absurd (omega arith)
row_more (w ∷ vs) (e ∷ ds) zero v d lt lt' = append-nil (value_bytes w (width e))
  where
    append-nil : (xs : List ℕ) → xs ++ [] ≡ xs
    append-nil [] = refl
    append-nil (x ∷ xs) = ap (λ ys. x ∷ ys) (append-nil xs)
row_more (w ∷ vs) (e ∷ ds) (suc i) v d lt lt' =
    ap (λ s. value_bytes w (width e) ++ s) (row_more vs ds i v d (omega arith) (omega arith))
    ∙ sym (append_assoc (value_bytes w (width e)) (row_bytes (take i vs) (take i ds)) (value_bytes (get_or vs i v) (width (get_or ds i d))))

pub length_row_bytes : (vs : List Value) (ds : List Domain) (i : ℕ) → IsTrue (row_fits vs ds) → length (row_bytes (take i vs) (take i ds)) ≡ widths (take i ds)
length_row_bytes vs ds zero t = refl
length_row_bytes [] [] (suc i) t = refl
length_row_bytes [] (d ∷ ds) (suc i) t = cc
length_row_bytes (v ∷ vs) [] (suc i) t = cc
length_row_bytes (v ∷ vs) (d ∷ ds) (suc i) t =
    let first = both (fits v d) (row_fits vs ds) t in
    omega (arith, length-append (value_bytes v (width d)) (row_bytes (take i vs) (take i ds)), length_value v d first.0, length_row_bytes vs ds i first.1)

pub take_front : (xs ys : List ℕ) (n : ℕ) → length xs ≡ n → take n (xs ++ ys) ≡ xs
take_front xs ys n is = take-append-le n xs ys (omega arith) ∙ take_all n xs (omega arith)

pub drop_front : (xs ys : List ℕ) (n m : ℕ) → length xs ≡ n → drop (n + m) (xs ++ ys) ≡ drop m ys
drop_front [] ys n m is = ap (λ (k : ℕ). drop k ys) (let e : n + m ≡ m = omega arith in e)
drop_front (x ∷ xs) ys zero m is = absurd (omega arith)
drop_front (x ∷ xs) ys (suc n) m is = ap (λ (k : ℕ). drop k (x ∷ xs ++ ys)) (let e : suc n + m ≡ suc (n + m) = omega arith in e) ∙ drop_front xs ys n m (omega arith)

-- the bytes of one value more behind those that are there
pub spelled_more : (out old before bytes : List ℕ) (at n : ℕ) → out ≡ before ++ drop at old → length before ≡ at → take at out ++ (bytes ++ drop (at + n) out) ≡ (before ++ bytes) ++ drop (at + n) old
spelled_more out old before bytes at n is long =
    (λ i. take at (is i) ++ (bytes ++ drop (at + n) (is i)))
    ∙ (λ i. take_front before (drop at old) at long i ++ (bytes ++ drop_front before (drop at old) at n long i))
    ∙ ap (λ s. before ++ (bytes ++ s)) (drop-drop n at old)
    ∙ sym (append_assoc before bytes (drop (at + n) old))
