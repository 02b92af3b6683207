-- The text of a constant is no longer than the constant.
use Rattle.std.proofs.Common.{◌≡◌, refl, ap, ℕ, suc, ◌+◌, ◌≤◌, ◌==◌, Bool, true, false, List, [], ◌∷◌, length, cond, arith}
use Rattle.calculus.proofs.Constants.{chars_short}
use Rattle.calculus.specs.Chars.{is_chars}
use Rattle.calculus.specs.Constant.{unescaped_byte, unescaped_behind, unescaped, plain_bytes, constant_text}
use Rattle.calculus.specs.Text.{is_blank, before_trimmed, trimmed}
use Rattle.calculus.specs.declared.unescaped.Unescaped.{Unescaped}

-- one more where a backslash stands in front
more : Bool → ℕ
more true = 1
more false = 0

marks_short : (taken : Bool) (bs : List ℕ) → length (unescaped_behind taken bs) ≤ length bs + more taken
unfolding more
marks_short true [] = omega arith
marks_short false [] = omega arith
marks_short true (b ∷ bs) = omega (arith, marks_short false bs)
marks_short false (b ∷ bs) = go (b == 92) (marks_short true bs) (marks_short false bs)
  where
    go : (c : Bool) → length (unescaped_behind true bs) ≤ length bs + more true → length (unescaped_behind false bs) ≤ length bs + more false
        → length (elim c as (λ x. List Unescaped) [ true ↦ unescaped_behind true bs | false ↦ unescaped_byte b false ∷ unescaped_behind false bs ]) ≤ suc (length bs) + 0
    go true h k = omega (arith, h)
    go false h k = omega (arith, k)

plain_length : (ms : List Unescaped) → length (plain_bytes ms) ≡ length ms
plain_length [] = refl
plain_length (m ∷ ms) = ap suc (plain_length ms)

before_short : (b : ℕ) (bs : List ℕ) → length (before_trimmed b bs) ≤ suc (length bs)
before_short b [] = go (is_blank b)
  where
    go : (c : Bool) → length (cond c [] (b ∷ [])) ≤ 1
    go true = omega arith
    go false = omega arith
before_short b (c ∷ bs) = omega arith

trimmed_short : (bs : List ℕ) → length (trimmed bs) ≤ length bs
trimmed_short [] = omega arith
trimmed_short (b ∷ bs) = omega (arith, before_short b (trimmed bs), trimmed_short bs)

text_short : (bytes : List ℕ) → length (constant_text bytes) ≤ length bytes
unfolding constant_text unescaped more
text_short bytes = omega (arith, trimmed_short (plain_bytes (unescaped_behind false bytes)), plain_length (unescaped_behind false bytes), marks_short false bytes)

pub constant_short : (bytes : List ℕ) → is_chars bytes ≡ true → length (constant_text bytes) ≤ 255
constant_short bytes h = omega (arith, text_short bytes, chars_short bytes h)
