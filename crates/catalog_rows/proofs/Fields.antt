-- What stands in the places of a row has the bytes that stand there.
use Rattle.std.proofs.Common.{◌≡◌, refl, sym, ap, subst, ◌∙◌, ℕ, zero, suc, ◌+◌, ◌-◌, ◌^◌, min, replicate, ◌≤◌, ◌<◌, nat_lt, nat_le, true, ◌&&◌, List, [], ◌∷◌, ◌++◌, length, take, drop, slice_index, Some, None, arith, take-append-drop, length-take, length-drop}
use Rattle.std.proofs.lemmas.Bool.{le-leb, lt-ltb, leb-true}
use Rattle.std.proofs.lemmas.List.{get_or-drop, drop-replicate, length-replicate, take_all, take_min}
use Rattle.std.proofs.Math.Seq.{drop-cons, drop-nil}
use Rattle.byteorder.specs.Endian.{little_from, little_bytes}
use Rattle.byteorder.specs.Numbers.{little_from-cons, little_from-take, little_from-lt}
use Rattle.page_cells.proofs.Reading.{bytes_back}
use Rattle.stored_database.specs.Names.{bytes32, is_number32}
use Rattle.stored_database.specs.Parts.{Part, is_part, part_bytes, part_in, part_of}
use Rattle.stored_database.proofs.Reading.{both}
use Rattle.stored_database.proofs.PartBytes.{parts_are_their_bytes}
use Rattle.catalog_rows.proofs.Lengths.{none_where}

-- bytes are below 256
abbrev pub AreBytes : List ℕ → Type 0
AreBytes xs = (i : ℕ) → slice_index xs i < 256

pub bytes_taken : (n : ℕ) (xs : List ℕ) → AreBytes xs → AreBytes (take n xs)
bytes_taken zero xs small i = omega arith
bytes_taken (suc n) [] small i = omega arith
bytes_taken (suc n) (x ∷ xs) small zero = small 0
bytes_taken (suc n) (x ∷ xs) small (suc i) = bytes_taken n xs (λ j. small (suc j)) i

pub bytes_dropped : (n : ℕ) (xs : List ℕ) → AreBytes xs → AreBytes (drop n xs)
bytes_dropped n xs small i = subst (λ (x : ℕ). x < 256) (sym (get_or-drop n xs i 0)) (small (n + i))

-- a number from a place on is one at the front of what is behind
moved : (k n : ℕ) (xs : List ℕ) → k ≤ length xs → little_from k n xs ≡ little_from 0 n (drop k xs)
moved zero n xs h = refl
moved (suc k) n [] h = absurd (omega arith)
moved (suc k) n (x ∷ xs) h = little_from-cons k n x xs ∙ moved k n xs (omega arith)

dropped : {A : Type 0} (m n : ℕ) (xs : List A) → drop n (drop m xs) ≡ drop (m + n) xs
dropped zero n xs = let e : n ≡ 0 + n = omega arith in ap (λ k. drop k xs) e
dropped (suc m) n [] = drop-nil n ∙ sym (drop-nil (suc m + n))
dropped (suc m) n (x ∷ xs) = let e : suc (m + n) ≡ suc m + n = omega arith in dropped m n xs ∙ ap (λ k. drop k (x ∷ xs)) e

-- a number at the front and what is behind it
front : (n : ℕ) (xs : List ℕ) → n ≤ length xs → AreBytes xs → little_bytes n (little_from 0 n xs) ++ drop n xs ≡ xs
front n xs h small =
    ap (λ m. little_bytes n m ++ drop n xs) (sym (little_from-take 0 n n xs (omega arith)))
    ∙ ap (λ l. l ++ drop n xs) (bytes_back n (take n xs) (omega (arith, length-take n xs)) (bytes_taken n xs small))
    ∙ take-append-drop n xs

-- a number in bytes that are taken from a place on
pub number_there : (n at : ℕ) (xs : List ℕ) → at + n ≤ length xs → little_from 0 n (take (at + n - at) (drop at xs)) ≡ little_from at n xs
number_there n at xs h =
    let e : at + n - at ≡ n = omega arith in
    ap (λ k. little_from 0 n (take k (drop at xs))) e ∙ little_from-take 0 n n (drop at xs) (omega arith) ∙ sym (moved at n xs (omega (arith, h)))

-- a number from a place on and what is behind it
from : (k n : ℕ) (xs : List ℕ) → k + n ≤ length xs → AreBytes xs → little_bytes n (little_from k n xs) ++ drop (k + n) xs ≡ drop k xs
from k n xs h small =
    (λ i. little_bytes n (moved k n xs (omega arith) i) ++ sym (dropped k n xs) i)
    ∙ front n (drop k xs) (omega (arith, length-drop k xs)) (bytes_dropped k xs small)

-- a byte and what is behind it
byte_from : (k : ℕ) (xs : List ℕ) → k < length xs → slice_index xs k ∷ drop (suc k) xs ≡ drop k xs
byte_from k xs h = sym (drop-cons xs k 0 h)

-- what stands in the places of a part has the bytes that stand there
part_there : (xs : List ℕ) → 11 ≤ length xs → AreBytes xs → part_bytes (part_in xs) ≡ xs
unfolding part_bytes part_in
part_there xs h small =
    let place = from 9 2 xs (omega arith) small in
    let number = from 5 4 xs (omega arith) small in
    let sort = byte_from 4 xs (omega arith) in
    let file = from 0 4 xs (omega arith) small in
    ap (λ l. bytes32 (little_from 0 4 xs) ++ (slice_index xs 4 ∷ (bytes32 (little_from 5 4 xs) ++ l))) place
    ∙ ap (λ l. bytes32 (little_from 0 4 xs) ++ (slice_index xs 4 ∷ l)) number
    ∙ ap (λ l. bytes32 (little_from 0 4 xs) ++ l) sort
    ∙ file

-- it is a part, where the sort is one
is_part_there : (xs : List ℕ) → AreBytes xs → slice_index xs 4 ≤ 2 → is_part (part_in xs) ≡ true
unfolding is_part part_in
is_part_there xs small sort =
    let file : nat_lt (little_from 0 4 xs) (256 ^ 4) ≡ true = below (little_from-lt 0 4 xs small) in
    let number : nat_lt (little_from 5 4 xs) (256 ^ 4) ≡ true = below (little_from-lt 5 4 xs small) in
    let place : nat_lt (little_from 9 2 xs) (256 ^ 2) ≡ true = below (little_from-lt 9 2 xs small) in
    let among : nat_le (slice_index xs 4) 2 ≡ true = le-leb (slice_index xs 4) 2 sort in
    λ i. file i && (among i && (number i && place i))
  where
    below : {a b : ℕ} → a < b → nat_lt a b ≡ true
    below {a} {b} h = lt-ltb a b h

pub part_where_sort_is : (xs : List ℕ) → AreBytes xs → 11 ≤ length xs → slice_index xs 4 ≤ 2 → part_of xs ≡ Some (part_in xs)
part_where_sort_is xs small long sort = (parts_are_their_bytes xs (part_in xs)).1 (is_part_there xs small sort, sym (part_there xs long small))

sort_of_part : (p : Part) → is_part p ≡ true → p.sort ≤ 2
unfolding is_part
sort_of_part p h = leb-true p.sort 2 (both (nat_le p.sort 2) _ (both (is_number32 p.file) _ h).1).0

sort_there : (p : Part) → slice_index (part_bytes p) 4 ≡ p.sort
unfolding part_bytes
sort_there p = refl

pub other_sorts_are_no_part : (xs : List ℕ) → 2 < slice_index xs 4 → part_of xs ≡ None
other_sorts_are_no_part xs high = none_where (part_of xs) (λ p is.
    let h = (parts_are_their_bytes xs p).0 is in
    omega (arith, sort_of_part p h.0, ap (λ l. slice_index l 4) h.1, sort_there p))

-- ---- the places of an entry behind its names

pub behind_names : (k : ℕ) (xs : List ℕ) → 28 + k ≤ length xs → little_from (28 + k) 4 xs ≡ little_from k 4 (drop 28 xs)
behind_names k xs long =
    moved (28 + k) 4 xs long
    ∙ ap (little_from 0 4) (sym (dropped 28 k xs))
    ∙ sym (moved k 4 (drop 28 xs) (omega (arith, length-drop 28 xs)))

pub keys_behind : (xs : List ℕ) → take (slice_index xs 45) (drop 46 xs) ≡ take (slice_index (drop 28 xs) 17) (drop 18 (drop 28 xs))
keys_behind xs = λ i. take (sym (get_or-drop 28 xs 17 0) i) (sym (dropped 28 18 xs) i)

-- no more than six keys are taken of six
pub six_taken : (n r : ℕ) (xs : List ℕ) → r ≡ min n 6 → length xs ≡ 6 → take (46 + r - 46) xs ≡ take n xs
six_taken n r xs e six =
    let m : 46 + r - 46 ≡ min n (length xs) = omega (arith, e, six) in
    ap (λ k. take k xs) m ∙ take_min n xs

-- the zeros behind the keys
pub zeros_behind : (n : ℕ) → n ≤ 6 → take {A = ℕ} (6 - n) (drop n (replicate 6 0)) ≡ replicate (6 - n) 0
zeros_behind n h = ap (take {A = ℕ} (6 - n)) (drop-replicate n 6 0) ∙ take_all {A = ℕ} (6 - n) (replicate (6 - n) 0) (omega (arith, length-replicate {A = ℕ} (6 - n) 0))
