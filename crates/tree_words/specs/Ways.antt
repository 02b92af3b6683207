-- Variants: a byte that says the way, and what is written behind it on that way.
use Rattle.std.specs.Prelude.{ℕ, zero, suc, Bool, true, false, IsTrue, if◌then◌else◌, ◌⊎◌, List, [], ◌∷◌, length, Option, Some, None, Ok, Err}
use Rattle.std.proofs.Common.{inl, inr}
use Rattle.tree_words.specs.Codec.{Codec, Reading, ◌>>=◌}
use Rattle.tree_words.specs.Words.{nothing, mapped}

-- ways to go on behind a number: the number of a value's way, what is written and read behind it, and which values there are
pub record Ways (A : Type 0) : Type 1 where
  pub tag : A → ℕ
  pub write : A → List ℕ
  pub read : ℕ → List ℕ → Reading A
  pub Fits : A → Type 0

-- what is wrong is the byte in front of these
abbrev pub wrong_before : {A : Type 0} → List ℕ → Reading A
wrong_before rest = Err (suc (length rest))

-- on the last way its value is read; there is none behind it
abbrev pub last_read : {A : Type 0} → Codec A → ℕ → List ℕ → Reading A
last_read c zero rest = c.read rest
last_read c (suc n) rest = wrong_before rest

-- one way and no other
abbrev pub last : {A : Type 0} → Codec A → Ways A
last c = record { tag = λ _. 0; write = c.write; read = last_read c; Fits = c.Fits }

-- on the last way its value is read, where it is open
abbrev pub last_if_read : {A : Type 0} → Bool → Codec A → ℕ → List ℕ → Reading A
last_if_read test c zero rest = if test then c.read rest else wrong_before rest
last_if_read test c (suc n) rest = wrong_before rest

-- one way, which is open where the test holds, and no other
abbrev pub last_if : {A : Type 0} → Bool → Codec A → Ways A
last_if test c = record { tag = λ _. 0; write = c.write; read = last_if_read test c; Fits = λ a. IsTrue test × c.Fits a }

-- the first way has the number 0, and the later ones have theirs and one more
abbrev pub or_tag : {A B : Type 0} → Ways B → A ⊎ B → ℕ
or_tag w (inl a) = 0
or_tag w (inr b) = suc (w.tag b)

-- what is written on the first way or on a later one
abbrev pub or_write : {A B : Type 0} → Codec A → Ways B → A ⊎ B → List ℕ
or_write c w (inl a) = c.write a
or_write c w (inr b) = w.write b

-- what is read on the first way or on a later one
abbrev pub or_read : {A B : Type 0} → Codec A → Ways B → ℕ → List ℕ → Reading (A ⊎ B)
or_read c w zero rest = c.read rest >>= (λ x. Ok (inl x.0, x.1))
or_read c w (suc n) rest = w.read n rest >>= (λ x. Ok (inr x.0, x.1))

-- which values go the first way or a later one
abbrev pub OrFits : {A B : Type 0} → Codec A → Ways B → A ⊎ B → Type 0
OrFits c w (inl a) = c.Fits a
OrFits c w (inr b) = w.Fits b

-- one way in front of others
infixr 4 ◌or◌
abbrev pub ◌or◌ : {A B : Type 0} → Codec A → Ways B → Ways (A ⊎ B)
c or w = record { tag = or_tag w; write = or_write c w; read = or_read c w; Fits = OrFits c w }

-- what is read on the first way, where it is open, or on a later one
abbrev pub gated_read : {A B : Type 0} → Bool → Codec A → Ways B → ℕ → List ℕ → Reading (A ⊎ B)
gated_read test c w zero rest = if test then (c.read rest >>= (λ x. Ok (inl x.0, x.1))) else wrong_before rest
gated_read test c w (suc n) rest = w.read n rest >>= (λ x. Ok (inr x.0, x.1))

-- which values go the first way, where it is open, or a later one
abbrev pub GatedFits : {A B : Type 0} → Bool → Codec A → Ways B → A ⊎ B → Type 0
GatedFits test c w (inl a) = IsTrue test × c.Fits a
GatedFits test c w (inr b) = w.Fits b

-- one way, which is open where the test holds, in front of others
abbrev pub gated : {A B : Type 0} → Bool → Codec A → Ways B → Ways (A ⊎ B)
gated test c w = record { tag = or_tag w; write = or_write c w; read = gated_read test c w; Fits = GatedFits test c w }

-- a byte is read, and then what is behind it on its way
abbrev pub tagged_read : {A : Type 0} → Ways A → List ℕ → Reading A
tagged_read w [] = Err 0
tagged_read w (t ∷ rest) = w.read t rest

-- a byte that says the way, and then that way
abbrev pub tagged : {A : Type 0} → Ways A → Codec A
tagged w = record { write = λ a. w.tag a ∷ w.write a; read = tagged_read w; Fits = w.Fits }

-- false on the first way, true on the second
abbrev pub flag_of : Unit {0} ⊎ Unit {0} → Bool
flag_of (inl _) = false
flag_of (inr _) = true

-- the way of false or of true
abbrev pub flag_way : Bool → Unit {0} ⊎ Unit {0}
flag_way false = inl tt
flag_way true = inr tt

-- 0 for false, 1 for true
unfoldable pub flag : Codec Bool
flag = mapped flag_of flag_way (tagged (nothing or last nothing))

-- none on the first way, a value on the second
abbrev pub option_of : {A : Type 0} → Unit {0} ⊎ A → Option A
option_of (inl _) = None
option_of (inr a) = Some a

-- the way of none or of a value
abbrev pub option_way : {A : Type 0} → Option A → Unit {0} ⊎ A
option_way None = inl tt
option_way (Some a) = inr a

-- 0, or 1 and the value
unfoldable pub option : {A : Type 0} → Codec A → Codec (Option A)
option c = mapped option_of option_way (tagged (nothing or last c))
