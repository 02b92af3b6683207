-- Texts that are read from a constant or put together are texts.
use Rattle.std.proofs.Common.{◌≡◌, refl, sym, ap, ◌∙◌, ℕ, suc, ◌+◌, ◌≤◌, Bool, true, false, not, List, [], ◌∷◌, ◌++◌, length, nat_le, ◌==◌, cond, IsTrue, Some, None, Option, rules, arith}
use Rattle.std.specs.List.{list_all}
use Rattle.std.proofs.lemmas.List.Folds.{list_all-append}
use Rattle.std.proofs.lemmas.Bool.{le-leb}
use Rattle.std.proofs.lemmas.List.{append-nil}
use Rattle.calculus.specs.Chars.{is_printable, is_chars}
use Rattle.calculus.specs.Text.{is_blank, is_text, ends_without_blank, before_trimmed, trimmed, text_of}
use Rattle.calculus.specs.Constant.{unescaped, unescaped_behind, plain_bytes, constant_text}
use Rattle.calculus.specs.Term.{joined_text}
use Rattle.scalar_eval.proofs.Marks.{slash, itself}
use Rattle.calculus.specs.declared.value.Value.{Value}
use Rattle.calculus.specs.declared.value.Value.TheVariants as value

-- ---- constants

by_byte : (t : Bool) (b : ℕ) → (b == 92) ≡ t → (bs : List ℕ) → IsTrue (is_printable b)
    → IsTrue (list_all is_printable (plain_bytes (unescaped_behind true bs))) → IsTrue (list_all is_printable (plain_bytes (unescaped_behind false bs)))
    → IsTrue (list_all is_printable (plain_bytes (unescaped_behind false (b ∷ bs))))
by_byte true b e bs p h k = rw (slash b bs e) h
by_byte false b e bs p h k = rw (itself b bs e) (search (rules, p, k))

read_printable : (f : Bool) (bs : List ℕ) → IsTrue (list_all is_printable bs) → IsTrue (list_all is_printable (plain_bytes (unescaped_behind f bs)))
read_printable true [] h = refl
read_printable false [] h = refl
read_printable true (b ∷ bs) h =
    let k : IsTrue (list_all is_printable bs) = search (rules, h) in search (rules, h, read_printable false bs k)
read_printable false (b ∷ bs) h =
    let k : IsTrue (list_all is_printable bs) = search (rules, h) in
    by_byte (b == 92) b refl bs (search (rules, h)) (read_printable true bs k) (read_printable false bs k)

-- one where a backslash stands in front
abbrev in_front : Bool → ℕ
in_front true = 1
in_front false = 0

by_length : (t : Bool) (b : ℕ) → (b == 92) ≡ t → (bs : List ℕ) → length (plain_bytes (unescaped_behind true bs)) ≤ length bs + 1
    → length (plain_bytes (unescaped_behind false bs)) ≤ length bs + 0 → length (plain_bytes (unescaped_behind false (b ∷ bs))) ≤ length (b ∷ bs) + 0
by_length true b e bs h k = rw (slash b bs e) (omega (arith, h))
by_length false b e bs h k = rw (itself b bs e) (omega (arith, k))

read_length : (f : Bool) (bs : List ℕ) → length (plain_bytes (unescaped_behind f bs)) ≤ length bs + in_front f
read_length true [] = omega arith
read_length false [] = omega arith
read_length true (b ∷ bs) = omega (arith, read_length false bs)
read_length false (b ∷ bs) = by_length (b == 92) b refl bs (read_length true bs) (read_length false bs)

by_trimmed : (t : Bool) (b : ℕ) → is_blank b ≡ t → (bs : List ℕ) → length (before_trimmed b bs) ≤ suc (length bs)
by_trimmed true b e [] = rw e (omega arith)
by_trimmed false b e [] = rw e (omega arith)
by_trimmed t b e (c ∷ bs) = omega arith

trimmed_length : (bs : List ℕ) → length (trimmed bs) ≤ length bs
trimmed_length [] = omega arith
trimmed_length (b ∷ bs) = omega (arith, by_trimmed (is_blank b) b refl (trimmed bs), trimmed_length bs)

of_bytes : (bs : List ℕ) → IsTrue (list_all is_printable bs) → length (trimmed bs) ≤ 255 → text_of bs ≡ Some (trimmed bs)
unfolding text_of
of_bytes bs h l = rw (h, le-leb (length (trimmed bs)) 255 l) refl

-- at the end all bytes are read
pub read_at_end : (bytes rest whole : List ℕ) → bytes ++ plain_bytes (unescaped rest) ≡ whole → rest ≡ [] → bytes ≡ whole
unfolding unescaped
read_at_end bytes rest whole h e = sym (append-nil bytes) ∙ ap (λ r. bytes ++ plain_bytes (unescaped_behind false r)) (sym e) ∙ h

-- the bytes of a constant, escapes removed, make its text
pub text_of_constant : (written : List ℕ) → IsTrue (is_chars written) → text_of (plain_bytes (unescaped written)) ≡ Some (constant_text written)
unfolding is_chars unescaped constant_text
text_of_constant written h =
    let short : length written ≤ 255 = grind (arith, h) in
    of_bytes (plain_bytes (unescaped_behind false written))
    (read_printable false written (search (rules, h)))
    (omega (arith, short, read_length false written, trimmed_length (plain_bytes (unescaped_behind false written))))

-- ---- one text behind the other

kept_byte : (t : Bool) (b : ℕ) → is_blank b ≡ t → IsTrue (ends_without_blank (b ∷ [])) → before_trimmed b [] ≡ b ∷ []
kept_byte true b e h = let k : false ≡ true = sym (ap not e) ∙ h in cc k
kept_byte false b e h = rw e refl

kept : (bs : List ℕ) → IsTrue (ends_without_blank bs) → trimmed bs ≡ bs
kept [] h = refl
kept (b ∷ []) h = kept_byte (is_blank b) b refl h
kept (b ∷ c ∷ bs) h = ap (before_trimmed b) (kept (c ∷ bs) h)

joined_ends : (s t : List ℕ) → IsTrue (ends_without_blank s) → IsTrue (ends_without_blank t) → IsTrue (ends_without_blank (s ++ t))
joined_ends [] t h k = k
joined_ends (b ∷ []) [] h k = h
joined_ends (b ∷ []) (c ∷ t) h k = k
joined_ends (b ∷ c ∷ s) t h k = joined_ends (c ∷ s) t h k

-- the text in a value
abbrev text_value : Option (List ℕ) → Option Value
text_value None = None
text_value (Some t) = Some (value.Text t)

by_fit : (u : Bool) (bs : List ℕ) → nat_le (length bs) 255 ≡ u → IsTrue (list_all is_printable bs) → trimmed bs ≡ bs
    → text_value (text_of bs) ≡ cond u (Some (value.Text bs)) None
unfolding text_of
by_fit true bs e h k = rw (h, k, e) refl
by_fit false bs e h k = rw (h, k, e) refl

text_joined : (s t : List ℕ) → IsTrue (is_text s) → IsTrue (is_text t) → text_value (text_of (s ++ t)) ≡ joined_text s t
unfolding is_text is_chars
text_joined s t h k =
    let p : IsTrue (list_all is_printable s) = search (rules, h) in
    let q : IsTrue (list_all is_printable t) = search (rules, k) in
    let r : IsTrue (list_all is_printable (s ++ t)) = list_all-append is_printable s t ∙ rw (p, q) refl in
    let e : trimmed (s ++ t) ≡ s ++ t = kept (s ++ t) (joined_ends s t (search (rules, h)) (search (rules, k))) in
    by_fit (nat_le (length (s ++ t)) 255) (s ++ t) refl r e

-- where the bytes of two texts make a text, it is the one behind the other
pub joined_is : (s t bs u : List ℕ) → IsTrue (is_text s) → IsTrue (is_text t) → bs ≡ s ++ t → Some u ≡ text_of bs → Some (value.Text u) ≡ joined_text s t
joined_is s t bs u h k e r = ap text_value r ∙ ap (λ w. text_value (text_of w)) e ∙ text_joined s t h k

-- where they make none, there is none
pub joined_is_none : (s t bs : List ℕ) → IsTrue (is_text s) → IsTrue (is_text t) → bs ≡ s ++ t → None ≡ text_of bs → None ≡ joined_text s t
joined_is_none s t bs h k e r = ap text_value r ∙ ap (λ w. text_value (text_of w)) e ∙ text_joined s t h k
