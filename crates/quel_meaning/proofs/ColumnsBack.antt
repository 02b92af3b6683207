-- The value of a column that was written is read back, and the bytes behind it are left.
use Rattle.std.proofs.Common.{◌≡◌, refl, sym, ap, subst, ◌∙◌, ℕ, ℤ, pos, negsuc, zero, suc, ◌-◌, ◌<◌, ◌≤◌, nat_lt, nat_le, nat_eq, Bool, true, false, ◌||◌, IsTrue, List, [], ◌∷◌, ◌++◌, Some, None, length, replicate, arith, append_assoc, length-append, if◌then◌else◌}
use Rattle.std.specs.Prelude.{option_map, option_and_then}
use Rattle.std.specs.Fmt.{signed_decimal}
use Rattle.std.proofs.lemmas.Bool.Decides.{nat_tests, Decides-eqb}
use Rattle.std.proofs.lemmas.Int.{ints}
use Rattle.byteorder.specs.Numbers.{length-bytes_low_first}
use Rattle.calculus.specs.declared.value.Kind.{Kind}
use Rattle.calculus.specs.declared.value.Kind.TheVariants.{Of, Wide}
use Rattle.calculus.specs.declared.value.Domain.{Domain}
use Rattle.calculus.specs.declared.value.Domain.TheVariants.{I1, I2, I4, C}
use Rattle.calculus.specs.declared.value.Value.{Value}
use Rattle.calculus.specs.declared.value.Value.TheVariants.{Int, Text}
use Rattle.calculus.specs.declared.request.CopyForm.{CopyForm}
use Rattle.calculus.specs.declared.request.CopyForm.TheVariants.{Bin, Fixed, Until}
use Rattle.calculus.specs.Text.{is_text}
use Rattle.calculus.specs.Value.{fits, number_fits}
use Rattle.calculus.specs.Kinds.{is_text_kind}
use Rattle.calculus.specs.Lists.{has_number}
use Rattle.calculus.specs.IsDatabase.{value_fits}
use Rattle.quel_meaning.specs.Columns.{is_copy_form, number_bytes, number_of_bytes, has_bytes, cut_behind, cut_at, piece_of, printed_value, piece_value, fitting, column_value, value_text, filled, column_bytes}
use Rattle.quel_meaning.proofs.Fields.{both, cut_behind_front, cut_at_front, Is64, number_printed, bytes_1, bytes_2, bytes_4, append-nil, text_printed}

-- ---- one value

-- a value between blanks, or in front of them
abbrev padded : ℕ → Value → List ℕ
padded n (Int z) = replicate n 32 ++ signed_decimal z
padded n (Text text) = text ++ replicate n 32

has_64 : (z : ℤ) (d : Domain) → IsTrue (number_fits z d) → Is64 z
has_64 (pos m) I1 t = grind (arith, ints, nat_tests)
has_64 (negsuc m) I1 t = grind (arith, ints, nat_tests)
has_64 (pos m) I2 t = grind (arith, ints, nat_tests)
has_64 (negsuc m) I2 t = grind (arith, ints, nat_tests)
has_64 (pos m) I4 t = grind (arith, ints, nat_tests)
has_64 (negsuc m) I4 t = grind (arith, ints, nat_tests)
has_64 z (C w) t = cc

printed_back : (v : Value) (k : Kind) (n : ℕ) → IsTrue (value_fits v k) → printed_value (Some k) (padded n v) ≡ Some v
unfolding is_text_kind
printed_back v Wide n t = cc
printed_back (Int z) (Of I1) n t = ap (option_map Int) (number_printed n z (has_64 z I1 t))
printed_back (Int z) (Of I2) n t = ap (option_map Int) (number_printed n z (has_64 z I2 t))
printed_back (Int z) (Of I4) n t = ap (option_map Int) (number_printed n z (has_64 z I4 t))
printed_back (Int z) (Of (C w)) n t = cc
printed_back (Text s) (Of I1) n t = cc
printed_back (Text s) (Of I2) n t = cc
printed_back (Text s) (Of I4) n t = cc
printed_back (Text s) (Of (C w)) n t = ap (option_map Text) (text_printed s n (both (fits (Text s) (C w)) (is_text s) t).1)

plain_back : (v : Value) (k : Kind) → IsTrue (value_fits v k) → printed_value (Some k) (value_text v) ≡ Some v
plain_back (Int z) k t = printed_back (Int z) k 0 t
plain_back (Text s) k t = ap (printed_value (Some k)) (sym (append-nil s)) ∙ printed_back (Text s) k 0 t

fits_back : (v : Value) (k : Kind) → IsTrue (value_fits v k) → fitting (Some k) v ≡ Some v
fits_back v Wide t = cc
fits_back (Int z) (Of d) t = ap (λ (b : Bool). if b then Some (Int z) else None) t
fits_back (Text s) (Of d) t = ap (λ (b : Bool). if b then Some (Text s) else None) (both (fits (Text s) d) (is_text s) t).0

-- ---- a column

-- its bytes are cut off, are the value's, and the value fits
read_as : (last : Bool) (form : CopyForm) (k : Kind) (v : Value) (bytes piece more : List ℕ)
    → piece_of last form bytes ≡ Some (piece, more) → piece_value form (Some k) piece ≡ Some v → fitting (Some k) v ≡ Some v
    → column_value last form (Some k) bytes ≡ Some (v, more)
read_as last form k v bytes piece more cut value fit =
    ap (option_and_then (λ cut. option_map (λ v. (v, cut.1)) (option_and_then (fitting (Some k)) (piece_value form (Some k) cut.0)))) cut
    ∙ ap (λ o. option_map (λ v. (v, more)) (option_and_then (fitting (Some k)) o)) value ∙ ap (option_map (λ v. (v, more))) fit

some_if : {X : Type 0} (b : Bool) (x y : X) → (if b then Some x else None) ≡ Some y → (b ≡ true) × (x ≡ y)
some_if true x y e = (refl, cc e)
some_if false x y e = cc e

some_unless : {X : Type 0} (b : Bool) (x y : X) → (if b then None else Some x) ≡ Some y → (b ≡ false) × (x ≡ y)
some_unless true x y e = cc e
some_unless false x y e = (refl, cc e)

length-replicate : (n : ℕ) → length {A = ℕ} (replicate n 32) ≡ n
length-replicate zero = refl
length-replicate (suc n) = ap suc (length-replicate n)

-- the number of a binary form
binary : (P : ℕ → Type 0) (n : ℕ) → IsTrue (has_number (1 ∷ 2 ∷ 4 ∷ []) n) → P 1 → P 2 → P 4 → P n
binary P n t one two four = go (nat_eq 1 n) refl (nat_eq 2 n) refl (nat_eq 4 n) refl t
  where
    go : (a : Bool) → nat_eq 1 n ≡ a → (b : Bool) → nat_eq 2 n ≡ b → (c : Bool) → nat_eq 4 n ≡ c → IsTrue (a || (b || (c || false))) → P n
    go true e b f c g t = subst P ((Decides-eqb 1 n).0 e) one
    go false e true f c g t = subst P ((Decides-eqb 2 n).0 f) two
    go false e false f true g t = subst P ((Decides-eqb 4 n).0 g) four
    go false e false f false g t = cc

binary_back : (n : ℕ) (z : ℤ) → IsTrue (has_number (1 ∷ 2 ∷ 4 ∷ []) n) → IsTrue (has_bytes n z) → number_of_bytes n (number_bytes n z) ≡ z
binary_back n z form = binary (λ n. IsTrue (has_bytes n z) → number_of_bytes n (number_bytes n z) ≡ z) n form (bytes_1 z) (bytes_2 z) (bytes_4 z)

length-number : (n : ℕ) (z : ℤ) → length (number_bytes n z) ≡ n
length-number n z = length-bytes_low_first 0 n _

length-filled : (n : ℕ) (v : Value) → length (value_text v) ≤ n → length (filled n v) ≡ n
length-filled n (Int z) le = omega (arith, length-append (replicate (n - length (signed_decimal z)) 32) (signed_decimal z), length-replicate (n - length (signed_decimal z)))
length-filled n (Text s) le = omega (arith, length-append s (replicate (n - length s) 32), length-replicate (n - length s))

-- a front of so many bytes is cut off
cut_front : (n : ℕ) (front more : List ℕ) → length front ≡ n → cut_behind n (front ++ more) ≡ Some (front, more)
cut_front n front more e = subst (λ m. cut_behind m (front ++ more) ≡ Some (front, more)) e (cut_behind_front front more)

filled_is_padded : (n : ℕ) (v : Value) → filled n v ≡ padded (n - length (value_text v)) v
filled_is_padded n (Int z) = refl
filled_is_padded n (Text s) = refl

pub column_back : (last : Bool) (form : CopyForm) (k : Kind) (v : Value) (bytes more : List ℕ)
    → IsTrue (is_copy_form form) → IsTrue (value_fits v k) → column_bytes form v ≡ Some bytes
    → column_value last form (Some k) (bytes ++ more) ≡ Some (v, more)
column_back last (Bin n) k (Text s) bytes more form t e = cc e
column_back last (Bin n) k (Int z) bytes more form t e =
    let known = some_if (has_bytes n z) (number_bytes n z) bytes e in
    let cut : cut_behind n (bytes ++ more) ≡ Some (bytes, more) = cut_front n bytes more (ap length (sym known.1) ∙ length-number n z) in
    let value : piece_value (Bin n) (Some k) bytes ≡ Some (Int z) = ap (λ bytes. Some (Int (number_of_bytes n bytes))) (sym known.1) ∙ ap (λ z. Some (Int z)) (binary_back n z form known.0) in
    read_as last (Bin n) k (Int z) (bytes ++ more) bytes more cut value (fits_back (Int z) k t)
column_back last (Fixed n) k v bytes more form t e =
    let known = some_unless (nat_lt n (length (value_text v))) (filled n v) bytes e in
    let short : length (value_text v) ≤ n = grind (arith, nat_tests, known.0) in
    let cut : cut_behind n (bytes ++ more) ≡ Some (bytes, more) = cut_front n bytes more (ap length (sym known.1) ∙ length-filled n v short) in
    let value : printed_value (Some k) bytes ≡ Some v = ap (printed_value (Some k)) (sym known.1 ∙ filled_is_padded n v) ∙ printed_back v k (n - length (value_text v)) t in
    read_as last (Fixed n) k v (bytes ++ more) bytes more cut value (fits_back v k t)
column_back last (Until stop) k v bytes more form t e =
    let known = some_unless (has_number (value_text v) stop) (value_text v ++ stop ∷ []) bytes e in
    let whole : bytes ++ more ≡ value_text v ++ stop ∷ more = ap (λ bytes. bytes ++ more) (sym known.1) ∙ append_assoc (value_text v) (stop ∷ []) more in
    let cut : cut_at stop (bytes ++ more) ≡ Some (value_text v, more) = ap (cut_at stop) whole ∙ cut_at_front stop (value_text v) more known.0 in
    let piece : piece_of last (Until stop) (bytes ++ more) ≡ Some (value_text v, more) = rw (cut, piece_of) refl in
    read_as last (Until stop) k v (bytes ++ more) (value_text v) more piece (plain_back v k t) (fits_back v k t)

-- it has a byte
pub column_some : (form : CopyForm) (v : Value) (bytes : List ℕ) → IsTrue (is_copy_form form) → column_bytes form v ≡ Some bytes → 0 < length bytes
column_some (Bin n) (Text s) bytes form e = cc e
column_some (Bin n) (Int z) bytes form e =
    let known = some_if (has_bytes n z) (number_bytes n z) bytes e in
    let long : length bytes ≡ n = ap length (sym known.1) ∙ length-number n z in
    let some : 0 < n = binary (λ n. 0 < n) n form (omega arith) (omega arith) (omega arith) in
    omega (arith, long, some)
column_some (Fixed n) v bytes form e =
    let known = some_unless (nat_lt n (length (value_text v))) (filled n v) bytes e in
    let short : length (value_text v) ≤ n = grind (arith, nat_tests, known.0) in
    let long : length bytes ≡ n = ap length (sym known.1) ∙ length-filled n v short in
    let bound = both (nat_le 1 n) (nat_le n 255) form in
    let some : 1 ≤ n = grind (arith, nat_tests, bound.0) in
    omega (arith, long, some)
column_some (Until stop) v bytes form e =
    let known = some_unless (has_number (value_text v) stop) (value_text v ++ stop ∷ []) bytes e in
    let long : length bytes ≡ length (value_text v ++ stop ∷ []) = ap length (sym known.1) in
    omega (arith, long, length-append (value_text v) (stop ∷ []))
