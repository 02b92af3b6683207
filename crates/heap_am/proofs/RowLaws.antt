-- Rows and their bytes: each row of the domains has its bytes, and no other bytes say it.
use Rattle.std.proofs.Common.{◌≡◌, refl, sym, ap, ap₂, ◌∙◌, ℕ, zero, suc, ◌-◌, ◌<◌, ◌≤◌, ◌&&◌, nat_le, Bool, true, false, IsTrue, List, [], ◌∷◌, replicate, length, take, Some, None, arith}
use Rattle.std.specs.List.{list_all}
use Rattle.std.specs.Int.{bytes_low_first, byte_at}
use Rattle.std.proofs.lemmas.Bool.Decides.{nat_tests}
use Rattle.std.proofs.lemmas.List.{take_all}
use Rattle.std.proofs.lemmas.List.Folds.{list_all-append}
use Rattle.calculus.specs.Chars.{is_printable, is_chars}
use Rattle.calculus.specs.Text.{is_text, ends_without_blank}
use Rattle.calculus.specs.Rows.{Row}
use Rattle.calculus.specs.Value.{fits}
use Rattle.calculus.specs.declared.value.Domain.{Domain}
use Rattle.calculus.specs.declared.value.Kind.TheVariants.{Of}
use Rattle.calculus.specs.declared.value.Value.{Value}
use Rattle.calculus.specs.declared.value.Value.TheVariants.{Int, Text}
use Rattle.calculus.specs.IsDatabase.{value_fits}
use Rattle.page_cells.specs.RowBytes.{width, widths, number_bytes, filled, value_bytes, row_bytes, row_fits, is_row, row_in}
use Rattle.page_cells.proofs.Rowing.{AreBytes, row_spelled, row_back, row_fits_of}
use Rattle.page_cells.proofs.Spelling.{both, length_row_bytes, same_length}
use Rattle.page_chain.specs.Lying.{IsShort}
use Rattle.page_chain.specs.Rows.{is_byte, reader}

two_tests : (a b : Bool) → a ≡ true → b ≡ true → (a && b) ≡ true
two_tests a b p q = (λ i. p i && q i)

parts : (a b : Bool) → (a && b) ≡ true → (a ≡ true) × (b ≡ true)
parts true b e = (refl, e)
parts false b e = cc

pub are_bytes : (xs : List ℕ) → list_all is_byte xs ≡ true → AreBytes xs
are_bytes [] e i = omega arith
are_bytes (x ∷ xs) e zero = let h = (parts (is_byte x) (list_all is_byte xs) e).0 in grind (arith, nat_tests)
are_bytes (x ∷ xs) e (suc i) = are_bytes xs (parts (is_byte x) (list_all is_byte xs) e).1 i

byte_small : (k x : ℕ) → byte_at k x < 256
byte_small zero x = omega arith
byte_small (suc k) x = omega arith

low_first : (i n x : ℕ) → list_all is_byte (bytes_low_first i n x) ≡ true
low_first i zero x = refl
low_first i (suc n) x = two_tests (is_byte (byte_at i x)) (list_all is_byte (bytes_low_first (suc i) n x)) (let h = byte_small i x in grind (arith, nat_tests)) (low_first (suc i) n x)

printed : (xs : List ℕ) → list_all is_printable xs ≡ true → list_all is_byte xs ≡ true
printed [] e = refl
printed (x ∷ xs) e =
    let h = parts (is_printable x) (list_all is_printable xs) e in
    two_tests (is_byte x) (list_all is_byte xs) (let p = h.0 in grind (arith, nat_tests)) (printed xs h.1)

blanks : (n : ℕ) → list_all is_byte (replicate n 32) ≡ true
blanks zero = refl
blanks (suc n) = blanks n

text_bytes : (text : List ℕ) → is_text text ≡ true → list_all is_byte text ≡ true
unfolding is_text is_chars
text_bytes text t =
    let h = (parts (is_chars text) (ends_without_blank text) t).0 in
    printed text (parts (nat_le (length text) 255) (list_all is_printable text) h).1

filled_bytes : (text : List ℕ) (n : ℕ) → is_text text ≡ true → list_all is_byte (filled text n) ≡ true
filled_bytes text n t =
    list_all-append is_byte text (replicate (n - length text) 32) ∙ two_tests (list_all is_byte text) (list_all is_byte (replicate (n - length text) 32)) (text_bytes text t) (blanks (n - length text))

value_is_bytes : (v : Value) (d : Domain) → IsTrue (value_fits v (Of d)) → list_all is_byte (value_bytes v (width d)) ≡ true
unfolding number_bytes
value_is_bytes (Int z) d t = low_first 0 (width d) _
value_is_bytes (Text text) d t = filled_bytes text (width d) (both (fits (Text text) d) (is_text text) t).1

row_is_bytes : (r : Row) (ds : List Domain) → IsTrue (is_row r ds) → list_all is_byte (row_bytes r ds) ≡ true
row_is_bytes [] [] t = refl
row_is_bytes [] (d ∷ ds) t = cc
row_is_bytes (v ∷ vs) [] t = cc
row_is_bytes (v ∷ vs) (d ∷ ds) t =
    let h = both (value_fits v (Of d)) (is_row vs ds) t in
    list_all-append is_byte (value_bytes v (width d)) (row_bytes vs ds)
    ∙ two_tests (list_all is_byte (value_bytes v (width d))) (list_all is_byte (row_bytes vs ds)) (value_is_bytes v d h.0) (row_is_bytes vs ds h.1)

-- a row of the domains is read from its bytes
pub reader_row : (r : Row) (ds : List Domain) → IsTrue (is_row r ds) → reader ds (row_bytes r ds) ≡ Some r
unfolding reader
reader_row r ds t = ap (λ b. elim b [ true ↦ row_in (row_bytes r ds) ds | false ↦ None ]) (row_is_bytes r ds t) ∙ row_back r ds t

-- what is read is a row of the domains with these bytes
pub record Spelled (ds : List Domain) (bytes : List ℕ) (r : Row) : Type 0 where
  pub fits : is_row r ds ≡ true
  pub spells : row_bytes r ds ≡ bytes

pub reader_spelled : (ds : List Domain) (bytes : List ℕ) (r : Row) → reader ds bytes ≡ Some r → Spelled ds bytes r
unfolding reader
reader_spelled ds bytes r e = by_test (list_all is_byte bytes) refl e
  where
    by_test : (b : Bool) → list_all is_byte bytes ≡ b → (elim b [ true ↦ row_in bytes ds | false ↦ None ]) ≡ Some r → Spelled ds bytes r
    by_test true is e = let s = row_spelled ds bytes r (are_bytes bytes is) e in record { fits = s.0; spells = s.1 }
    by_test false is e = cc

-- a row has as many bytes as the domains take
pub row_length : (r : Row) (ds : List Domain) → IsTrue (row_fits r ds) → length (row_bytes r ds) ≡ widths ds
row_length r ds t =
    let l = length_row_bytes r ds (length ds) t in
    let s = same_length r ds t in
    let a : take (length ds) r ≡ r = take_all (length ds) r (omega arith) in
    let b : take (length ds) ds ≡ ds = take_all (length ds) ds (omega arith) in
    ap₂ (λ r ds. length (row_bytes r ds)) (sym a) (sym b) ∙ l ∙ ap widths b

pub row_is_short : (r : Row) (ds : List Domain) → IsTrue (is_row r ds) → 0 < widths ds → widths ds ≤ 1012 → IsShort (row_bytes r ds)
row_is_short r ds t some most = let l = row_length r ds (row_fits_of r ds t) in record { some = omega arith; most = omega arith }

-- rows of the domains with the same bytes are the same
pub same_bytes : (r s : Row) (ds : List Domain) → IsTrue (is_row r ds) → IsTrue (is_row s ds) → row_bytes r ds ≡ row_bytes s ds → r ≡ s
same_bytes r s ds t u e = let a = reader_row r ds t in let b = reader_row s ds u in let c = ap (reader ds) e in cc
