-- Rows and their bytes say the same.
use Rattle.std.proofs.Common.{◌≡◌, refl, sym, ap, subst, ◌∙◌, ℕ, zero, suc, ◌+◌, ◌<◌, ◌≤◌, nat_lt, nat_le, Bool, true, false, IsTrue, List, [], ◌∷◌, ◌++◌, Option, Some, None, length, take, drop, get_or, arith, take-append-drop, length-append, length-take, if◌then◌else◌}
use Rattle.std.specs.Option.{option_map}
use Rattle.std.proofs.lemmas.List.{get_or-drop}
use Rattle.std.proofs.lemmas.Bool.Decides.{nat_tests}
use Rattle.std.specs.Int.{w64}
use Rattle.byteorder.specs.Endian.{little_number, little_bytes, low_bytes, twos_complement}
use Rattle.byteorder.specs.Numbers.{little_from-lt}
use Rattle.calculus.specs.declared.value.Domain.{Domain}
use Rattle.calculus.specs.declared.value.Domain.TheVariants.{I1, I2, I4, C}
use Rattle.calculus.specs.declared.value.Kind.TheVariants.{Of}
use Rattle.calculus.specs.declared.value.Value.{Value}
use Rattle.calculus.specs.declared.value.Value.TheVariants.{Int, Text}
use Rattle.calculus.specs.Value.{fits}
use Rattle.calculus.specs.Text.{text_of, is_text}
use Rattle.calculus.specs.IsDatabase.{value_fits}
use Rattle.page_cells.specs.RowBytes.{width, number_bytes, number_of_bytes, filled, value_bytes, row_bytes, row_fits, is_row, value_in, in_front, row_in}
use Rattle.page_cells.proofs.Spelling.{both, length_value, take_front, drop_front}
use Rattle.page_cells.proofs.Reading.{each, bytes_back, number_back, cut_1, cut_2, cut_4, read_1, read_2, read_4, text_back, text_spelled}

-- bytes are below 256
abbrev pub AreBytes : List ℕ → Type 0
AreBytes xs = (i : ℕ) → get_or xs i 0 < 256

bytes_taken : (n : ℕ) (xs : List ℕ) → AreBytes xs → AreBytes (take n xs)
bytes_taken zero xs small i = omega arith
bytes_taken (suc n) [] small i = omega arith
bytes_taken (suc n) (x ∷ xs) small zero = small 0
bytes_taken (suc n) (x ∷ xs) small (suc i) = bytes_taken n xs (λ j. small (suc j)) i

bytes_dropped : (n : ℕ) (xs : List ℕ) → AreBytes xs → AreBytes (drop n xs)
bytes_dropped n xs small i = subst (λ (x : ℕ). x < 256) (sym (get_or-drop n xs i 0)) (small (n + i))

-- a value that is a value of the domain has its bits or is no longer than its width
fits_of : (v : Value) (d : Domain) → IsTrue (value_fits v (Of d)) → IsTrue (fits v d)
fits_of (Int z) d t = t
fits_of (Text text) d t = (both (fits (Text text) d) (is_text text) t).0

-- the bytes of a value say that value
value_back : (v : Value) (d : Domain) → IsTrue (value_fits v (Of d)) → value_in (value_bytes v (width d)) d ≡ Some v
unfolding number_bytes number_of_bytes
value_back (Int z) I1 t = ap (λ x. Some (Int x)) (ap (twos_complement 1) (number_back 1 (low_bytes w64 1 z) (omega arith)) ∙ cut_1 z t)
value_back (Int z) I2 t = ap (λ x. Some (Int x)) (ap (twos_complement 2) (number_back 2 (low_bytes w64 2 z) (omega arith)) ∙ cut_2 z t)
value_back (Int z) I4 t = ap (λ x. Some (Int x)) (ap (twos_complement 4) (number_back 4 (low_bytes w64 4 z) (omega arith)) ∙ cut_4 z t)
value_back (Int z) (C n) t = cc
value_back (Text text) I1 t = cc
value_back (Text text) I2 t = cc
value_back (Text text) I4 t = cc
value_back (Text text) (C n) t = ap (option_map Text) (text_back text n (both (nat_le (length text) n) (is_text text) t).1)

abbrev Spells : List ℕ → Domain → Value → Type 0
Spells bytes d v = IsTrue (value_fits v (Of d)) × (value_bytes v (width d) ≡ bytes)

the_value : {A : Type 0} (x y : A) → Some x ≡ Some y → x ≡ y
the_value x y e = cc

-- bytes that say a value are its bytes
value_spelled : (d : Domain) (bytes : List ℕ) (v : Value) → length bytes ≡ width d → AreBytes bytes → value_in bytes d ≡ Some v → Spells bytes d v
unfolding number_bytes number_of_bytes
value_spelled I1 bytes v long small e =
    let read = read_1 (little_number 1 bytes) (little_from-lt 0 1 bytes small) in
    subst (Spells bytes I1) (the_value (Int (twos_complement 1 (little_number 1 bytes))) v e) (read.0, ap (little_bytes 1) read.1 ∙ bytes_back 1 bytes long small)
value_spelled I2 bytes v long small e =
    let read = read_2 (little_number 2 bytes) (little_from-lt 0 2 bytes small) in
    subst (Spells bytes I2) (the_value (Int (twos_complement 2 (little_number 2 bytes))) v e) (read.0, ap (little_bytes 2) read.1 ∙ bytes_back 2 bytes long small)
value_spelled I4 bytes v long small e =
    let read = read_4 (little_number 4 bytes) (little_from-lt 0 4 bytes small) in
    subst (Spells bytes I4) (the_value (Int (twos_complement 4 (little_number 4 bytes))) v e) (read.0, ap (little_bytes 4) read.1 ∙ bytes_back 4 bytes long small)
value_spelled (C n) bytes v long small e = by_text (text_of bytes) refl e
  where
    by_text : (o : Option (List ℕ)) → text_of bytes ≡ o → option_map Text o ≡ Some v → Spells bytes (C n) v
    by_text None is e = cc
    by_text (Some text) is e =
        let found = text_spelled bytes text is in
        let short : nat_le (length text) n ≡ true = grind (arith, nat_tests, found.1, long) in
        subst (Spells bytes (C n)) (the_value (Text text) v e) (each (nat_le (length text) n) (is_text text) short found.0, subst (λ (m : ℕ). filled text m ≡ bytes) long found.2)

abbrev SpellsRow : List ℕ → List Domain → List Value → Type 0
SpellsRow bytes ds r = IsTrue (is_row r ds) × (row_bytes r ds ≡ bytes)

-- bytes that say a row are its bytes
pub row_spelled : (ds : List Domain) (bytes : List ℕ) (r : List Value) → AreBytes bytes → row_in bytes ds ≡ Some r → SpellsRow bytes ds r
row_spelled [] [] r small e = subst (SpellsRow [] []) (the_value [] r e) (refl, refl)
row_spelled [] (b ∷ bs) r small e = cc
row_spelled (d ∷ ds) bytes r small e = by_length (nat_lt (length bytes) (width d)) refl (λ vs. row_spelled ds (drop (width d) bytes) vs (bytes_dropped (width d) bytes small)) e
  where
    front : List ℕ
    front = take (width d) bytes

    behind : List ℕ
    behind = drop (width d) bytes

    Rest : Type 0
    Rest = (vs : List Value) → row_in behind ds ≡ Some vs → SpellsRow behind ds vs

    by_rest : (v : Value) (o : Option (List Value)) → row_in behind ds ≡ o → Rest → Spells front d v → option_map (λ rest. v ∷ rest) o ≡ Some r → SpellsRow bytes (d ∷ ds) r
    by_rest v None is others spells e = cc
    by_rest v (Some vs) is others spells e =
        let rest = others vs is in
        subst (SpellsRow bytes (d ∷ ds)) (the_value (v ∷ vs) r e)
        (each (value_fits v (Of d)) (is_row vs ds) spells.0 rest.0, (λ i. spells.1 i ++ rest.1 i) ∙ take-append-drop (width d) bytes)

    by_value : (o : Option Value) → value_in front d ≡ o → length front ≡ width d → Rest → in_front o (row_in behind ds) ≡ Some r → SpellsRow bytes (d ∷ ds) r
    by_value None is long others e = cc
    by_value (Some v) is long others e = by_rest v (row_in behind ds) refl others (value_spelled d front v long (bytes_taken (width d) bytes small) is) e

    by_length : (t : Bool) → nat_lt (length bytes) (width d) ≡ t → Rest → (if t then None else in_front (value_in front d) (row_in behind ds)) ≡ Some r → SpellsRow bytes (d ∷ ds) r
    by_length true t others e = cc
    by_length false t others e = by_value (value_in front d) refl (let enough : width d ≤ length bytes = grind (arith, nat_tests) in omega (arith, length-take (width d) bytes, enough)) others e

-- the bytes of a row say that row
pub row_back : (r : List Value) (ds : List Domain) → IsTrue (is_row r ds) → row_in (row_bytes r ds) ds ≡ Some r
row_back [] [] t = refl
row_back [] (d ∷ ds) t = cc
row_back (v ∷ vs) [] t = cc
row_back (v ∷ vs) (d ∷ ds) t =
    let parts = both (value_fits v (Of d)) (is_row vs ds) t in
    let front = value_bytes v (width d) in
    let behind = row_bytes vs ds in
    let long : length front ≡ width d = length_value v d (fits_of v d parts.0) in
    let enough : nat_lt (length (front ++ behind)) (width d) ≡ false = grind (arith, nat_tests, length-append front behind, long) in
    let there : drop (width d) (front ++ behind) ≡ behind = ap (λ (n : ℕ). drop n (front ++ behind)) (let e : width d ≡ width d + 0 = omega arith in e) ∙ drop_front front behind (width d) 0 long in
    (λ i. if enough i then None else in_front (value_in (take_front front behind (width d) long i) d) (row_in (there i) ds))
    ∙ (λ i. in_front (value_back v d parts.0 i) (row_back vs ds parts.1 i))

-- a row of the domains fits them
pub row_fits_of : (r : List Value) (ds : List Domain) → IsTrue (is_row r ds) → IsTrue (row_fits r ds)
row_fits_of [] [] t = refl
row_fits_of [] (d ∷ ds) t = cc
row_fits_of (v ∷ vs) [] t = cc
row_fits_of (v ∷ vs) (d ∷ ds) t =
    let parts = both (value_fits v (Of d)) (is_row vs ds) t in
    each (fits v d) (row_fits vs ds) (fits_of v d parts.0) (row_fits_of vs ds parts.1)
