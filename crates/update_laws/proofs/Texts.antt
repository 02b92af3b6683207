-- Constants, joined texts, names and digits are texts in the language's sense.
use Rattle.std.proofs.Common.{refl, ◌∙◌, ℕ, ◌≤◌, ◌==◌, Bool, true, false, ◌&&◌, not, IsTrue, List, [], ◌∷◌, ◌++◌, length, nat_le, rules, arith}
use Rattle.std.specs.List.{list_all}
use Rattle.std.proofs.lemmas.Bool.Decides.{nat_tests}
use Rattle.std.proofs.lemmas.List.Folds.{list_all-append}
use Rattle.calculus.specs.declared.unescaped.Unescaped.{Unescaped}
use Rattle.calculus.specs.Chars.{is_printable, is_chars}
use Rattle.calculus.specs.Constant.{unescaped_byte, unescaped_behind, unescaped, plain_bytes, constant_text}
use Rattle.calculus.specs.Name.{is_name, is_name_byte, starts_name}
use Rattle.calculus.specs.Text.{is_text, is_blank, ends_without_blank, trimmed}
use Rattle.calculus.proofs.Texts.{trimmed_text}
use Rattle.quel_meaning.proofs.ConstantLengths.{constant_short}

pub both : (a b : Bool) → IsTrue (a && b) → IsTrue a × IsTrue b
both true b t = (refl, t)
both false b t = cc t

pub each : (a b : Bool) → IsTrue a → IsTrue b → IsTrue (a && b)
each a b s t = λ i. s i && t i

pub short : (n : ℕ) → n ≤ 255 → IsTrue (nat_le n 255)
short n h = grind (arith, nat_tests, h)

-- ---- constants

-- the bytes that are meant are among those that are written
meant_printable : (taken : Bool) (bs : List ℕ) → IsTrue (list_all is_printable bs) → IsTrue (list_all is_printable (plain_bytes (unescaped_behind taken bs)))
meant_printable true [] h = refl
meant_printable false [] h = refl
meant_printable true (b ∷ bs) h =
    let parts = both (is_printable b) (list_all is_printable bs) h in
    each (is_printable b) (list_all is_printable (plain_bytes (unescaped_behind false bs))) parts.0 (meant_printable false bs parts.1)
meant_printable false (b ∷ bs) h =
    let parts = both (is_printable b) (list_all is_printable bs) h in
    go (b == 92) parts.0 (meant_printable true bs parts.1) (meant_printable false bs parts.1)
  where
    go : (c : Bool) → IsTrue (is_printable b) → IsTrue (list_all is_printable (plain_bytes (unescaped_behind true bs))) → IsTrue (list_all is_printable (plain_bytes (unescaped_behind false bs)))
        → IsTrue (list_all is_printable (plain_bytes (elim c as (λ c. List Unescaped) [ true ↦ unescaped_behind true bs | false ↦ unescaped_byte b false ∷ unescaped_behind false bs ])))
    go true p t f = t
    go false p t f = each (is_printable b) (list_all is_printable (plain_bytes (unescaped_behind false bs))) p f

chars_printable : (bytes : List ℕ) → IsTrue (is_chars bytes) → IsTrue (list_all is_printable bytes)
unfolding is_chars
chars_printable bytes h = (both (nat_le (length bytes) 255) (list_all is_printable bytes) h).1

constant_fits : (bytes : List ℕ) → IsTrue (list_all is_printable bytes) → length (constant_text bytes) ≤ 255 → IsTrue (is_text (constant_text bytes))
unfolding constant_text unescaped
constant_fits bytes h n = trimmed_text (plain_bytes (unescaped_behind false bytes)) (meant_printable false bytes h) (short (length (trimmed (plain_bytes (unescaped_behind false bytes)))) n)

pub constant_is_text : (bytes : List ℕ) → IsTrue (is_chars bytes) → IsTrue (is_text (constant_text bytes))
constant_is_text bytes h = constant_fits bytes (chars_printable bytes h) (constant_short bytes h)

-- ---- one text behind the other

ends_behind : (s t : List ℕ) → IsTrue (ends_without_blank s) → IsTrue (ends_without_blank t) → IsTrue (ends_without_blank (s ++ t))
ends_behind [] t h k = k
ends_behind (b ∷ []) [] h k = h
ends_behind (b ∷ []) (c ∷ t) h k = k
ends_behind (b ∷ c ∷ s) t h k = ends_behind (c ∷ s) t h k

pub joined_is_text : (s t : List ℕ) → IsTrue (is_text s) → IsTrue (is_text t) → IsTrue (nat_le (length (s ++ t)) 255) → IsTrue (is_text (s ++ t))
unfolding is_text is_chars
joined_is_text s t h k n =
    let one = both (nat_le (length s) 255 && list_all is_printable s) (ends_without_blank s) h in
    let other = both (nat_le (length t) 255 && list_all is_printable t) (ends_without_blank t) k in
    each (nat_le (length (s ++ t)) 255 && list_all is_printable (s ++ t)) (ends_without_blank (s ++ t))
    (each (nat_le (length (s ++ t)) 255) (list_all is_printable (s ++ t)) n
    (list_all-append is_printable s t
    ∙ each (list_all is_printable s) (list_all is_printable t) (both (nat_le (length s) 255) (list_all is_printable s) one.0).1 (both (nat_le (length t) 255) (list_all is_printable t) other.0).1))
    (ends_behind s t one.1 other.1)

-- ---- names

-- a byte of a name is printable and no blank
solid : (b : ℕ) → IsTrue (is_name_byte b) → IsTrue (is_printable b) × IsTrue (not (is_blank b))
solid b h = (search (rules, h), search (rules, h))

all_printable : (bs : List ℕ) → IsTrue (list_all is_name_byte bs) → IsTrue (list_all is_printable bs)
all_printable [] h = refl
all_printable (b ∷ bs) h =
    let parts = both (is_name_byte b) (list_all is_name_byte bs) h in
    each (is_printable b) (list_all is_printable bs) (solid b parts.0).0 (all_printable bs parts.1)

ends_solid : (bs : List ℕ) → IsTrue (list_all is_name_byte bs) → IsTrue (ends_without_blank bs)
ends_solid [] h = refl
ends_solid (b ∷ []) h = (solid b (both (is_name_byte b) true h).0).1
ends_solid (b ∷ c ∷ bs) h = ends_solid (c ∷ bs) (both (is_name_byte b) (list_all is_name_byte (c ∷ bs)) h).1

-- bytes of names are a text, where they are not too many
pub solid_text : (bs : List ℕ) → IsTrue (list_all is_name_byte bs) → length bs ≤ 255 → IsTrue (is_text bs)
unfolding is_text is_chars
solid_text bs h n =
    each (nat_le (length bs) 255 && list_all is_printable bs) (ends_without_blank bs)
    (each (nat_le (length bs) 255) (list_all is_printable bs) (short (length bs) n) (all_printable bs h)) (ends_solid bs h)

name_short : (n : ℕ) → IsTrue (nat_le n 12) → n ≤ 255
name_short n h = grind (arith, nat_tests, h)

pub name_is_text : (bs : List ℕ) → IsTrue (is_name bs) → IsTrue (is_text bs)
unfolding is_name
name_is_text bs h =
    let front = both (starts_name bs && nat_le (length bs) 12) (list_all is_name_byte bs) h in
    solid_text bs front.1 (name_short (length bs) (both (starts_name bs) (nat_le (length bs) 12) front.0).1)
