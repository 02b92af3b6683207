-- Names, text constants and texts as bytes: the laws.
use Rattle.std.specs.Prelude.{◌≡◌, ℕ, zero, suc, ◌<◌, ◌≤◌, Bool, true, false, IsTrue, ◌&&◌, ◌==◌, not, nat_le, if◌then◌else◌, List, [], ◌∷◌, length, Some, None, Ok}
use Rattle.std.specs.List.{list_all}
use Rattle.std.proofs.Common.{refl, arith, ◌∙◌}
use Rattle.std.proofs.lemmas.Bool.{leb-true, le-leb, and_parts, and_from, eq-eqb, ne_eqb}
use Rattle.calculus.specs.Chars.{is_chars, is_printable}
use Rattle.calculus.specs.Name.{is_name, is_digit, is_name_byte}
use Rattle.calculus.specs.Text.{ends_without_blank, is_blank, is_text, text_of, trimmed}
use Rattle.tree_words.specs.Codec.{Writes}
use Rattle.tree_words.specs.Exact.{Exact}
use Rattle.tree_words.specs.FormLaws.{lawful_exact, wrote_lawful}
use Rattle.tree_words.specs.ShortLaws.{SomeStand, all_spelt, short_exact, spelt_all, spelt_weaker}
use Rattle.tree_words.specs.Words.{short, spelt}
use Rattle.quel_tree.specs.Names.{any_length, chars, is_name_length, name, stands_in_chars, stands_in_name, stands_in_text, text}

-- ---- text constants

chars_from : (bs : List ℕ) → (short any_length stands_in_chars).Fits bs → IsTrue (is_chars bs)
unfolding short is_chars
chars_from bs f = and_from (nat_le (length bs) 255) (list_all is_printable bs) (le-leb (length bs) 255 (let h : length bs < 256 = f.0.0 in omega arith)) (spelt_all is_printable (length bs) bs f.1)

chars_to : (bs : List ℕ) → IsTrue (is_chars bs) → (short any_length stands_in_chars).Fits bs
unfolding short is_chars
chars_to bs f = let p = and_parts (nat_le (length bs) 255) (list_all is_printable bs) f in (((let h : length bs ≤ 255 = leb-true (length bs) 255 p.0 in omega arith), refl), all_spelt is_printable bs p.1)

pub chars_exact : Exact chars
unfolding chars
chars_exact = lawful_exact (λ bs. IsTrue (is_chars bs)) (short any_length stands_in_chars) chars_from chars_to (short_exact any_length stands_in_chars 0 (omega arith) refl (λ n e k h. (32, refl)))

pub wrote_chars : (bs old new : List ℕ) → Writes (λ _. short any_length stands_in_chars) bs old new → Writes (λ _. chars) bs old new
unfolding chars
wrote_chars = wrote_lawful (λ bs. IsTrue (is_chars bs)) (short any_length stands_in_chars) chars_to

-- a constant with bytes that one may have has these bytes
pub chars_read : (bs cs : List ℕ) → Some cs ≡ (if is_chars bs then Some bs else None) → cs ≡ bs
chars_read bs cs e = by (is_chars bs) e
  where
    by : (b : Bool) → Some cs ≡ (if b then Some bs else None) → cs ≡ bs
    by true e = cc
    by false e = absurd cc

-- ---- names

-- what stands in a name of so many bytes
some_in_name : (n : ℕ) → SomeStand (stands_in_name n) n
some_in_name n k h = (97, and_from (is_name_byte 97) (not ((suc k == n) && is_digit 97)) refl (never (suc k == n)))
  where
    never : (b : Bool) → not (b && false) ≡ true
    never true = refl
    never false = refl

name_from : (n : ℕ) (bs : List ℕ) → is_name_length n ≡ true → length bs ≡ n → (spelt (stands_in_name n) n).Fits bs → IsTrue (is_name bs)
unfolding spelt is_name
name_from zero bs h l f = absurd cc
name_from (suc n) [] h l f = absurd f
name_from (suc n) (b ∷ bs) h l f =
    let here = and_parts (is_name_byte b) (not ((suc n == suc n) && is_digit b)) f.0 in
    let first : not (is_digit b) ≡ true = rw (eq-eqb (suc n) (suc n) refl) at here.1 in
    let rest : list_all is_name_byte bs ≡ true = spelt_all is_name_byte n bs (spelt_weaker (stands_in_name (suc n)) (λ _. is_name_byte) n (λ k c g t. (and_parts (is_name_byte c) (not ((suc k == suc n) && is_digit c)) t).0) bs f.1) in
    let most : nat_le (length (b ∷ bs)) 12 ≡ true = rw l (and_parts (nat_le 1 (suc n)) (nat_le (suc n) 12) h).1 in
    and_from (not (is_digit b) && nat_le (length (b ∷ bs)) 12) (list_all is_name_byte (b ∷ bs)) (and_from (not (is_digit b)) (nat_le (length (b ∷ bs)) 12) first most) (and_from (is_name_byte b) (list_all is_name_byte bs) here.0 rest)

name_to : (bs : List ℕ) → IsTrue (is_name bs) → (short is_name_length stands_in_name).Fits bs
unfolding short spelt is_name
name_to [] f = absurd cc
name_to (b ∷ bs) f =
    let w = and_parts (not (is_digit b) && nat_le (length (b ∷ bs)) 12) (list_all is_name_byte (b ∷ bs)) f in
    let p = and_parts (not (is_digit b)) (nat_le (length (b ∷ bs)) 12) w.0 in
    let r = and_parts (is_name_byte b) (list_all is_name_byte bs) w.1 in
    let most : length (b ∷ bs) ≤ 12 = leb-true (length (b ∷ bs)) 12 p.1 in
    let least : nat_le 1 (length (b ∷ bs)) ≡ true = le-leb 1 (length (b ∷ bs)) (omega arith) in (
      ((omega arith), and_from (nat_le 1 (length (b ∷ bs))) (nat_le (length (b ∷ bs)) 12) least p.1),
      (
        and_from (is_name_byte b) (not ((suc (length bs) == suc (length bs)) && is_digit b)) r.0 (rw (eq-eqb (suc (length bs)) (suc (length bs)) refl) p.0),
        spelt_weaker (λ _. is_name_byte) (stands_in_name (suc (length bs))) (length bs)
            (λ k c h t. and_from (is_name_byte c) (not ((suc k == suc (length bs)) && is_digit c)) t (rw (ne_eqb (suc k) (suc (length bs)) (λ e. omega (arith, e))) refl)) bs (all_spelt is_name_byte bs r.1),
      ),
    )

pub name_exact : Exact name
unfolding name short
name_exact = lawful_exact (λ bs. IsTrue (is_name bs)) (short is_name_length stands_in_name)
    (λ bs f. name_from (length bs) bs f.0.1 refl f.1) name_to
    (short_exact is_name_length stands_in_name 1 (omega arith) refl (λ n e. some_in_name n))

pub wrote_name : (bs old new : List ℕ) → Writes (λ _. short is_name_length stands_in_name) bs old new → Writes (λ _. name) bs old new
unfolding name
wrote_name = wrote_lawful (λ bs. IsTrue (is_name bs)) (short is_name_length stands_in_name) name_to

-- a name with bytes that one may have has these bytes
pub name_read : (bs cs : List ℕ) → Some cs ≡ (if is_name bs then Some bs else None) → cs ≡ bs
name_read bs cs e = by (is_name bs) e
  where
    by : (b : Bool) → Some cs ≡ (if b then Some bs else None) → cs ≡ bs
    by true e = cc
    by false e = absurd cc

-- ---- texts

-- the last byte may be the letter a, and so may any
some_in_text : (n : ℕ) → SomeStand (stands_in_text n) n
some_in_text n k h = (97, and_from (is_printable 97) (not ((k == 0) && is_blank 97)) refl (never (k == 0)))
  where
    never : (b : Bool) → not (b && false) ≡ true
    never true = refl
    never false = refl

ends_from : (m n : ℕ) (bs : List ℕ) → (spelt (stands_in_text m) n).Fits bs → ends_without_blank bs ≡ true
unfolding spelt
ends_from m zero [] f = refl
ends_from m zero (b ∷ bs) f = absurd f
ends_from m (suc n) [] f = absurd f
ends_from m (suc zero) (b ∷ []) f = (and_parts (is_printable b) (not (is_blank b)) f.0).1
ends_from m (suc (suc n)) (b ∷ []) f = absurd f.1
ends_from m (suc zero) (b ∷ c ∷ bs) f = absurd f.1
ends_from m (suc (suc n)) (b ∷ c ∷ bs) f = ends_from m (suc n) (c ∷ bs) f.1

ends_to : (m : ℕ) (bs : List ℕ) → list_all is_printable bs ≡ true → ends_without_blank bs ≡ true → (spelt (stands_in_text m) (length bs)).Fits bs
unfolding spelt
ends_to m [] f e = tt
ends_to m (b ∷ []) f e = let p = and_parts (is_printable b) true f in (and_from (is_printable b) (not (is_blank b)) p.0 e, tt)
ends_to m (b ∷ c ∷ bs) f e = let p = and_parts (is_printable b) (list_all is_printable (c ∷ bs)) f in (and_from (is_printable b) (not ((suc (length bs) == 0) && is_blank b)) p.0 (rw (ne_eqb (suc (length bs)) 0 (λ z. omega (arith, z))) refl), ends_to m (c ∷ bs) p.1 e)

text_from : (bs : List ℕ) → (short any_length stands_in_text).Fits bs → IsTrue (is_text bs)
unfolding short is_text is_chars
text_from bs f =
    let printable : list_all is_printable bs ≡ true = spelt_all is_printable (length bs) bs (spelt_weaker (stands_in_text (length bs)) (λ _. is_printable) (length bs) (λ k c h t. (and_parts (is_printable c) (not ((k == 0) && is_blank c)) t).0) bs f.1) in
    let small : nat_le (length bs) 255 ≡ true = le-leb (length bs) 255 (let h : length bs < 256 = f.0.0 in omega arith) in
    and_from (nat_le (length bs) 255 && list_all is_printable bs) (ends_without_blank bs) (and_from (nat_le (length bs) 255) (list_all is_printable bs) small printable) (ends_from (length bs) (length bs) bs f.1)

text_to : (bs : List ℕ) → IsTrue (is_text bs) → (short any_length stands_in_text).Fits bs
unfolding short is_text is_chars
text_to bs f =
    let w = and_parts (nat_le (length bs) 255 && list_all is_printable bs) (ends_without_blank bs) f in
    let p = and_parts (nat_le (length bs) 255) (list_all is_printable bs) w.0 in
    (((let h : length bs ≤ 255 = leb-true (length bs) 255 p.0 in omega arith), refl), ends_to (length bs) bs p.1 w.1)

pub text_exact : Exact text
unfolding text
text_exact = lawful_exact (λ bs. IsTrue (is_text bs)) (short any_length stands_in_text) text_from text_to (short_exact any_length stands_in_text 0 (omega arith) refl (λ n e. some_in_text n))

pub wrote_text : (bs old new : List ℕ) → Writes (λ _. short any_length stands_in_text) bs old new → Writes (λ _. text) bs old new
unfolding text
wrote_text = wrote_lawful (λ bs. IsTrue (is_text bs)) (short any_length stands_in_text) text_to

-- bytes that end without a blank have none at their end to lose
trimmed_stays : (bs : List ℕ) → ends_without_blank bs ≡ true → trimmed bs ≡ bs
trimmed_stays [] e = refl
trimmed_stays (b ∷ []) e = kept (is_blank b) e
  where
    kept : (blank : Bool) → not blank ≡ true → (if blank then [] else b ∷ []) ≡ b ∷ []
    kept true e = absurd cc
    kept false e = refl
trimmed_stays (b ∷ c ∷ bs) e = rw (trimmed_stays (c ∷ bs) e) refl

-- a text with bytes that are read as one has these bytes
pub text_read : (bytes bs rest cs : List ℕ) → (short any_length stands_in_text).read bytes ≡ Ok (bs, rest) → Some cs ≡ text_of bs → cs ≡ bs
unfolding text_of is_text text
text_read bytes bs rest cs r e = by (list_all is_printable bs && nat_le (length (trimmed bs)) 255) e ∙ trimmed_stays bs (and_parts (is_chars bs) (ends_without_blank bs) (text_exact.only bytes bs rest r).0).1
  where
    by : (b : Bool) → Some cs ≡ (if b then Some (trimmed bs) else None) → cs ≡ trimmed bs
    by true e = cc
    by false e = absurd cc
