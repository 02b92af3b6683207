-- How many bytes a spelling writes at most.
use Rattle.std.specs.Prelude.{◌≡◌, ◌≤◌, ◌+◌, ◌*◌, ◌/◌, ◌<◌, ℕ, zero, suc, ℤ, Bool, List, [], ◌∷◌, length}
use Rattle.std.proofs.Common.{inl, inr, refl, ap, arith, length-append}
use Rattle.std.proofs.lemmas.Nat.{mul-le}
use Rattle.tree_words.specs.Codec.{Codec}
use Rattle.tree_words.specs.Words.{letter_of, byte, byte_if, nothing, nowhere, both, mapped, lawful, items_write, ItemsFit, list, spelt, short, number16, number32, number64}
use Rattle.tree_words.specs.Ways.{Ways, last, last_if, ◌or◌, gated, tagged, flag, option}
use Rattle.quel_network.specs.Orders.{within_itself, within_same, within_through, suc_within, within_first, within_second, sum_within}

-- no value that there is has more bytes
pub record Bounded {A : Type 0} (c : Codec A) : Type 0 where
  pub most : ℕ
  pub within : (a : A) → c.Fits a → length (c.write a) ≤ most

-- none has more bytes behind the number of its way
pub record BoundedWays {A : Type 0} (w : Ways A) : Type 0 where
  pub most : ℕ
  pub within : (a : A) → w.Fits a → length (w.write a) ≤ most

-- ---- single bytes

pub letter_of_bounded : (test : ℕ → Bool) (Fits : ℕ → Type 0) → Bounded (letter_of test Fits)
letter_of_bounded test Fits = record { most = 1; within = λ b f. omega arith }

pub byte_bounded : Bounded byte
byte_bounded = letter_of_bounded _ _

pub byte_if_bounded : (test : ℕ → Bool) → Bounded (byte_if test)
byte_if_bounded test = letter_of_bounded _ _

pub nothing_bounded : Bounded nothing
nothing_bounded = record { most = 0; within = λ u f. omega arith }

pub nowhere_bounded : {A : Type 0} → Bounded {A = A} nowhere
nowhere_bounded = record { most = 0; within = λ a f. absurd f }

-- ---- one behind the other, and other forms

pub both_bounded : {A B : Type 0} (c : Codec A) (d : Codec B) → Bounded c → Bounded d → Bounded (both c d)
both_bounded c d cb db = record {
  most = cb.most + db.most;
  within = λ p f. sum_within _ _ _ cb.most db.most (length-append (c.write p.0) (d.write p.1)) (cb.within p.0 f.0) (db.within p.1 f.1);
}

pub mapped_bounded : {A B : Type 0} (make : A → B) (parts : B → A) (c : Codec A) → Bounded c → Bounded (mapped make parts c)
mapped_bounded make parts c cb = record { most = cb.most; within = λ b f. cb.within (parts b) f }

-- ---- numbers

pub number16_bounded : Bounded number16
unfolding number16
number16_bounded = mapped_bounded _ _ (both byte byte) (both_bounded byte byte byte_bounded byte_bounded)

pub number32_bounded : Bounded number32
unfolding number32
number32_bounded = mapped_bounded _ _ (both number16 number16) (both_bounded number16 number16 number16_bounded number16_bounded)

length-number64 : (z : ℤ) → length (number64.write z) ≡ 8
unfolding number64 number32 number16
length-number64 z = refl

pub number64_bounded : Bounded number64
number64_bounded = record { most = 8; within = λ z f. within_same _ 8 (length-number64 z) }

-- ---- lists

one_more : (k a b m n : ℕ) → k ≡ a + b → a ≤ m → b ≤ n * m → k ≤ suc n * m
one_more k a b m n e h g = let s : suc n * m ≡ m + n * m = omega arith in omega (arith, e, s)

items_within : {A : Type 0} (c : Codec A) (cb : Bounded c) (n : ℕ) (xs : List A) → ItemsFit c n xs → length (items_write c xs) ≤ n * cb.most
items_within c cb zero [] f = omega arith
items_within c cb zero (x ∷ xs) f = absurd f
items_within c cb (suc n) [] f = absurd f
items_within c cb (suc n) (x ∷ xs) f =
    one_more _ _ _ cb.most n (length-append (c.write x) (items_write c xs)) (cb.within x f.0) (items_within c cb n xs f.1)

-- a list, whose count is a number up to a top one
pub list_bounded : {A : Type 0} (count : Codec ℕ) (c : Codec A) (top : ℕ) → ((n : ℕ) → count.Fits n → n ≤ top) → Bounded count → Bounded c → Bounded (list count c)
unfolding list
list_bounded count c top below nb cb = record {
  most = nb.most + top * cb.most;
  within = λ xs f. sum_within _ _ _ nb.most (top * cb.most) (length-append (count.write (length xs)) (items_write c xs)) (nb.within (length xs) f.0)
      (within_through _ _ _ (items_within c cb (length xs) xs f.1) (mul-le (length xs) cb.most top cb.most (below (length xs) f.0) (within_itself cb.most)));
}

below16 : (n : ℕ) → number16.Fits n → n ≤ 65535
unfolding number16
below16 n f = let h : n / 256 < 256 = f.0 in omega arith

below32 : (n : ℕ) → number32.Fits n → n ≤ 4294967295
unfolding number32
below32 n f = let h : n / 65536 ≤ 65535 = below16 (n / 65536) f.0 in omega arith

-- a list with a count of two bytes
pub list16_bounded : {A : Type 0} (c : Codec A) → Bounded c → Bounded (list number16 c)
list16_bounded c cb = list_bounded number16 c 65535 below16 number16_bounded cb

-- a list with a count of four bytes
pub list32_bounded : {A : Type 0} (c : Codec A) → Bounded c → Bounded (list number32 c)
list32_bounded c cb = list_bounded number32 c 4294967295 below32 number32_bounded cb

-- ---- names and texts

spelt_length : (test : ℕ → ℕ → Bool) (bs : List ℕ) → length ((spelt test (length bs)).write bs) ≡ length bs
unfolding spelt
spelt_length test [] = refl
spelt_length test (b ∷ bs) = ap (λ (n : ℕ). suc n) (spelt_length test bs)

short_length : (length_is : ℕ → Bool) (stands : ℕ → ℕ → ℕ → Bool) (bs : List ℕ) → length ((short length_is stands).write bs) ≡ suc (length bs)
unfolding short
short_length length_is stands bs = ap (λ (n : ℕ). suc n) (spelt_length (stands (length bs)) bs)

one_byte_more : (k n top : ℕ) → k ≡ suc n → n ≤ top → k ≤ suc top
one_byte_more k n top e h = omega (arith, e)

-- so many bytes behind a length byte, where those that there are have no more
pub short_bounded : (Fits : List ℕ → Type 0) (length_is : ℕ → Bool) (stands : ℕ → ℕ → ℕ → Bool) (top : ℕ) → ((bs : List ℕ) → Fits bs → length bs ≤ top) → Bounded (lawful Fits (short length_is stands))
short_bounded Fits length_is stands top few = record { most = suc top; within = λ bs f. one_byte_more _ (length bs) top (short_length length_is stands bs) (few bs f) }

-- ---- ways

pub tagged_bounded : {A : Type 0} (w : Ways A) → BoundedWays w → Bounded (tagged w)
tagged_bounded w wb = record { most = suc wb.most; within = λ a f. suc_within _ wb.most (wb.within a f) }

pub last_bounded : {A : Type 0} (c : Codec A) → Bounded c → BoundedWays (last c)
last_bounded c cb = record { most = cb.most; within = λ a f. cb.within a f }

pub last_if_bounded : {A : Type 0} (test : Bool) (c : Codec A) → Bounded c → BoundedWays (last_if test c)
last_if_bounded test c cb = record { most = cb.most; within = λ a f. cb.within a f.1 }

pub or_bounded : {A B : Type 0} (c : Codec A) (w : Ways B) → Bounded c → BoundedWays w → BoundedWays (c or w)
or_bounded c w cb wb = record {
  most = cb.most + wb.most;
  within = elim [ inl a ↦ λ f. within_first _ cb.most wb.most (cb.within a f) | inr b ↦ λ f. within_second _ cb.most wb.most (wb.within b f) ];
}

pub gated_bounded : {A B : Type 0} (test : Bool) (c : Codec A) (w : Ways B) → Bounded c → BoundedWays w → BoundedWays (gated test c w)
gated_bounded test c w cb wb = record {
  most = cb.most + wb.most;
  within = elim [ inl a ↦ λ f. within_first _ cb.most wb.most (cb.within a f.1) | inr b ↦ λ f. within_second _ cb.most wb.most (wb.within b f) ];
}

pub flag_bounded : Bounded flag
unfolding flag
flag_bounded = mapped_bounded _ _ _ (tagged_bounded _ (or_bounded _ _ nothing_bounded (last_bounded _ nothing_bounded)))

pub option_bounded : {A : Type 0} (c : Codec A) → Bounded c → Bounded (option c)
unfolding option
option_bounded c cb = mapped_bounded _ _ _ (tagged_bounded _ (or_bounded _ _ nothing_bounded (last_bounded _ cb)))
