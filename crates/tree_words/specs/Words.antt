-- The words that spellings are put together from.
use Rattle.std.specs.Prelude.{ℕ, zero, suc, ◌+◌, ◌*◌, ◌/◌, ◌%◌, ◌<◌, ℤ, Bool, IsTrue, ◌&&◌, nat_lt, if◌then◌else◌, List, [], ◌∷◌, ◌++◌, length, Ok, Err}
use Rattle.std.specs.Int.{w64, cast_signed, cast_unsigned}
use Rattle.std.specs.Int.RustNames.{FitsSigned}
use Rattle.tree_words.specs.Codec.{Codec, Reading, ◌>>=◌}

-- a byte is read where it passes the test
abbrev pub letter_read : (ℕ → Bool) → List ℕ → Reading ℕ
letter_read test [] = Err 0
letter_read test (b ∷ rest) = if test b then Ok (b, rest) else Err (suc (length rest))

-- a byte that passes a test, which is said in other words, too
abbrev pub letter_of : (ℕ → Bool) → (ℕ → Type 0) → Codec ℕ
letter_of test Fits = record { write = λ b. b ∷ []; read = letter_read test; Fits = Fits }

-- a byte that passes a test
abbrev pub letter : (ℕ → Bool) → Codec ℕ
letter test = letter_of test (λ b. IsTrue (test b))

-- any byte
abbrev pub byte : Codec ℕ
byte = letter_of (λ b. nat_lt b 256) (λ b. b < 256)

-- a byte that passes a test, and no number that is none
abbrev pub byte_if : (ℕ → Bool) → Codec ℕ
byte_if test = letter_of (λ b. nat_lt b 256 && test b) (λ b. (b < 256) × IsTrue (test b))

-- no value at all
abbrev pub nowhere : {A : Type 0} → Codec A
nowhere = record { write = λ _. []; read = λ bytes. Err (length bytes); Fits = λ _. ⊥ }

-- no bytes
abbrev pub nothing : Codec (Unit {0})
nothing = record { write = λ _. []; read = λ bytes. Ok (tt, bytes); Fits = λ _. Unit {0} }

-- one value and then the other
abbrev pub both : {A B : Type 0} → Codec A → Codec B → Codec (A × B)
both c d = record {
  write = λ p. c.write p.0 ++ d.write p.1;
  read = λ bytes. c.read bytes >>= (λ x. d.read x.1 >>= (λ y. Ok ((x.0, y.0), y.1)));
  Fits = λ p. c.Fits p.0 × d.Fits p.1;
}

-- the same values in another form, and which of that form there are
abbrev pub remade : {A B : Type 0} → (B → Type 0) → (A → B) → (B → A) → Codec A → Codec B
remade Fits make parts c = record {
  write = λ b. c.write (parts b);
  read = λ bytes. c.read bytes >>= (λ x. Ok (make x.0, x.1));
  Fits = Fits;
}

-- the same values in another form
abbrev pub mapped : {A B : Type 0} → (A → B) → (B → A) → Codec A → Codec B
mapped make parts c = remade (λ b. c.Fits (parts b)) make parts c

-- the same values, of which is said in other words which they are
abbrev pub lawful : {A : Type 0} → (A → Type 0) → Codec A → Codec A
lawful Fits c = record { write = c.write; read = c.read; Fits = Fits }

-- a size and then a value of that size
abbrev pub sized : {A : Type 0} → Codec ℕ → (ℕ → Codec A) → (A → ℕ) → Codec A
sized count body size = record {
  write = λ a. count.write (size a) ++ (body (size a)).write a;
  read = λ bytes. count.read bytes >>= (λ n. (body n.0).read n.1);
  Fits = λ a. count.Fits (size a) × (body (size a)).Fits a;
}

-- each item's spelling, one behind the other
abbrev pub items_write : {A : Type 0} → Codec A → List A → List ℕ
items_write c [] = []
items_write c (x ∷ xs) = c.write x ++ items_write c xs

-- so many items are read
unfoldable pub items_read : {A : Type 0} → Codec A → ℕ → List ℕ → Reading (List A)
items_read c zero bytes = Ok ([], bytes)
items_read c (suc n) bytes = c.read bytes >>= (λ x. items_read c n x.1 >>= (λ xs. Ok (x.0 ∷ xs.0, xs.1)))

-- there are so many items, and each fits
abbrev pub ItemsFit : {A : Type 0} → Codec A → ℕ → List A → Type 0
ItemsFit c zero [] = Unit {0}
ItemsFit c zero (x ∷ xs) = ⊥
ItemsFit c (suc n) [] = ⊥
ItemsFit c (suc n) (x ∷ xs) = c.Fits x × ItemsFit c n xs

-- so many items
abbrev pub items : {A : Type 0} → Codec A → ℕ → Codec (List A)
items c n = record { write = items_write c; read = items_read c n; Fits = ItemsFit c n }

-- these items in front of those that are read
abbrev pub with_front : {A : Type 0} → List A → Reading (List A) → Reading (List A)
with_front front reading = reading >>= (λ xs. Ok (front ++ xs.0, xs.1))

-- a count and so many items
unfoldable pub list : {A : Type 0} → Codec ℕ → Codec A → Codec (List A)
list count c = sized count (items c) length

-- the first byte and those behind it
abbrev pub head_and_rest : List ℕ → ℕ × List ℕ
head_and_rest [] = (0, [])
head_and_rest (b ∷ bs) = (b, bs)

-- there is a first byte that passes the test, and those behind it fit
abbrev pub FirstFits : (ℕ → Bool) → (List ℕ → Type 0) → List ℕ → Type 0
FirstFits test Fits [] = ⊥
FirstFits test Fits (b ∷ bs) = IsTrue (test b) × Fits bs

-- so many bytes, of which each passes the test of the number of bytes that follow it
unfoldable pub spelt : (ℕ → ℕ → Bool) → ℕ → Codec (List ℕ)
spelt test zero = items byte zero
spelt test (suc n) = remade (FirstFits (test n) (spelt test n).Fits) (λ p. p.0 ∷ p.1) head_and_rest (both (letter (test n)) (spelt test n))

-- a length byte that passes a test, and so many bytes, of which each passes the test of the length and of the number of bytes that follow it
unfoldable pub short : (ℕ → Bool) → (ℕ → ℕ → ℕ → Bool) → Codec (List ℕ)
short length_is stands = sized (byte_if length_is) (λ n. spelt (stands n) n) length

-- a number as its high and its low half, the high half first
abbrev pub halves : ℕ → Codec ℕ → Codec ℕ
halves base half = mapped (λ p. p.0 * base + p.1) (λ n. (n / base, n % base)) (both half half)

-- two bytes, the high one first
unfoldable pub number16 : Codec ℕ
number16 = halves 256 byte

-- four bytes, the highest first
unfoldable pub number32 : Codec ℕ
number32 = halves 65536 number16

-- eight bytes, the highest first, in two's complement
unfoldable pub number64 : Codec ℤ
number64 = remade (FitsSigned w64) (cast_signed w64) (cast_unsigned w64) (halves 4294967296 number32)
