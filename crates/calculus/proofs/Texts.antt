-- What dropping the blanks at the end leaves.
use Rattle.std.proofs.Common.{◌≡◌, refl, sym, ap, ℕ, Bool, true, false, List, [], ◌∷◌, ◌++◌, length, nat_le, IsTrue, rules}
use Rattle.std.specs.List.{list_all}
use Rattle.calculus.specs.Chars.{is_printable, is_chars}
use Rattle.calculus.specs.Text.{is_blank, before_trimmed, trimmed, ends_without_blank, is_text}

blank_at_end : (bs : List ℕ) → trimmed (bs ++ 32 ∷ []) ≡ trimmed bs
blank_at_end [] = refl
blank_at_end (c ∷ bs) = ap (before_trimmed c) (blank_at_end bs)

byte_at_end : (bs : List ℕ) (b : ℕ) → is_blank b ≡ false → trimmed (bs ++ b ∷ []) ≡ bs ++ b ∷ []
byte_at_end [] b h = rw h refl
byte_at_end (c ∷ []) b h = ap (before_trimmed c) (byte_at_end [] b h)
byte_at_end (c ∷ d ∷ bs) b h = ap (before_trimmed c) (byte_at_end (d ∷ bs) b h)

-- without a blank at the end the same is left
pub trimmed_front : (bs front : List ℕ) (b : ℕ) → bs ≡ front ++ b ∷ [] → b ≡ 32 → trimmed bs ≡ trimmed front
trimmed_front bs front b e h = rw (e, h) (blank_at_end front)

-- where the last byte is no blank, all is left
pub trimmed_whole : (bs front : List ℕ) (b : ℕ) → bs ≡ front ++ b ∷ [] → (b ≡ 32 → ⊥) → bs ≡ trimmed bs
trimmed_whole bs front b e h = rw e (sym (byte_at_end front b (search rules)))

blank_cases : (b : ℕ) (t : Bool) → is_blank b ≡ t → (bs : List ℕ) → IsTrue (ends_without_blank bs) → IsTrue (ends_without_blank (before_trimmed b bs))
blank_cases b true e [] h = rw e refl
blank_cases b false e [] h = rw e (rw e refl)
blank_cases b t e (c ∷ bs) h = h

trimmed_ends : (bs : List ℕ) → IsTrue (ends_without_blank (trimmed bs))
trimmed_ends [] = refl
trimmed_ends (b ∷ bs) = blank_cases b (is_blank b) refl (trimmed bs) (trimmed_ends bs)

before_all : (b : ℕ) (t : Bool) → is_blank b ≡ t → (bs : List ℕ) → IsTrue (is_printable b) → IsTrue (list_all is_printable bs) → IsTrue (list_all is_printable (before_trimmed b bs))
before_all b true e [] p h = rw e refl
before_all b false e [] p h = rw e (search (rules, p))
before_all b t e (c ∷ bs) p h = search (rules, p, h)

trimmed_all : (bs : List ℕ) → IsTrue (list_all is_printable bs) → IsTrue (list_all is_printable (trimmed bs))
trimmed_all [] h = refl
trimmed_all (b ∷ bs) h = before_all b (is_blank b) refl (trimmed bs) (search (rules, h)) (trimmed_all bs (search (rules, h)))

-- what is left is a text, where it isn't too long
pub trimmed_text : (bs : List ℕ) → IsTrue (list_all is_printable bs) → IsTrue (nat_le (length (trimmed bs)) 255) → IsTrue (is_text (trimmed bs))
unfolding is_text is_chars
trimmed_text bs h n = search (rules, n, trimmed_all bs h, trimmed_ends bs)
