-- The items that are written, from their first byte on.
use Rattle.std.proofs.Common.{◌≡◌, refl, ap, ◌∙◌, ℕ, zero, suc, Bool, true, false, ◌==◌, if◌then◌else◌, List, [], ◌∷◌, take, drop, Option, Some, None}
use Rattle.calculus.specs.Constant.{unescaped}
use Rattle.calculus.specs.Pattern.{Item, Byte, AnyByte, AnyText, Class, items_at, items_behind, bracket_items, is_bare, class_length, ranges, in_class}
use Rattle.calculus.specs.declared.unescaped.Unescaped.{Unescaped}
use Rattle.scalar_eval.proofs.Unpadded.{marks_some}
use Rattle.scalar_eval.specs.Walk.{IsClass, written_items, bracket_written, behind_byte, behind_any_text}

nothing_written : (p : List ℕ) → p ≡ [] → written_items p ≡ []
unfolding written_items unescaped
nothing_written p h = ap written_items h

at_first : (p r : List ℕ) (m : Unescaped) → unescaped p ≡ m ∷ unescaped r → written_items p ≡ items_at (λ k. items_behind k (unescaped r)) m (unescaped r)
unfolding written_items
at_first p r m h = ap (items_behind 0) h

pub star : (p r : List ℕ) (m : Unescaped) → unescaped p ≡ m ∷ unescaped r → is_bare 42 m ≡ true → written_items p ≡ AnyText ∷ written_items r
unfolding written_items
star p r m h a = ap (items_behind 0) h
    ∙ (λ i. if a i then AnyText ∷ items_behind 0 (unescaped r) else (if is_bare 63 m then AnyByte ∷ items_behind 0 (unescaped r) else (if is_bare 91 m then bracket_items (λ k. items_behind k (unescaped r)) (unescaped r) (class_length (unescaped r)) else Byte m.byte ∷ items_behind 0 (unescaped r))))

question : (p r : List ℕ) (m : Unescaped) → unescaped p ≡ m ∷ unescaped r → is_bare 42 m ≡ false → is_bare 63 m ≡ true → written_items p ≡ AnyByte ∷ written_items r
unfolding written_items
question p r m h a b = ap (items_behind 0) h
    ∙ (λ i. if a i then AnyText ∷ items_behind 0 (unescaped r) else (if b i then AnyByte ∷ items_behind 0 (unescaped r) else (if is_bare 91 m then bracket_items (λ k. items_behind k (unescaped r)) (unescaped r) (class_length (unescaped r)) else Byte m.byte ∷ items_behind 0 (unescaped r))))

bracket : (p r : List ℕ) (m : Unescaped) → unescaped p ≡ m ∷ unescaped r → is_bare 42 m ≡ false → is_bare 63 m ≡ false → is_bare 91 m ≡ true → written_items p ≡ bracket_written r
unfolding written_items bracket_written
bracket p r m h a b c = ap (items_behind 0) h
    ∙ (λ i. if a i then AnyText ∷ items_behind 0 (unescaped r) else (if b i then AnyByte ∷ items_behind 0 (unescaped r) else (if c i then bracket_items (λ k. items_behind k (unescaped r)) (unescaped r) (class_length (unescaped r)) else Byte m.byte ∷ items_behind 0 (unescaped r))))

byte : (p r : List ℕ) (m : Unescaped) → unescaped p ≡ m ∷ unescaped r → is_bare 42 m ≡ false → is_bare 63 m ≡ false → is_bare 91 m ≡ false → written_items p ≡ Byte m.byte ∷ written_items r
unfolding written_items
byte p r m h a b c = ap (items_behind 0) h
    ∙ (λ i. if a i then AnyText ∷ items_behind 0 (unescaped r) else (if b i then AnyByte ∷ items_behind 0 (unescaped r) else (if c i then bracket_items (λ k. items_behind k (unescaped r)) (unescaped r) (class_length (unescaped r)) else Byte m.byte ∷ items_behind 0 (unescaped r))))

open_bracket : (r : List ℕ) → class_length (unescaped r) ≡ None → bracket_written r ≡ Byte 91 ∷ written_items r
unfolding written_items bracket_written
open_bracket r h = ap (bracket_items (λ k. items_behind k (unescaped r)) (unescaped r)) h

skipped : (k : ℕ) (ms : List Unescaped) → items_behind k ms ≡ items_behind 0 (drop k ms)
skipped zero ms = refl
skipped (suc k) [] = refl
skipped (suc k) (m ∷ ms) = skipped k ms

class : (r cs rest : List ℕ) → IsClass r cs rest → bracket_written r ≡ Class (ranges (unescaped cs)) ∷ written_items rest
unfolding written_items bracket_written
class r cs rest h =
    ap (bracket_items (λ k. items_behind k (unescaped r)) (unescaped r)) h.1
    ∙ (λ i. Class (ranges (h.2 i)) ∷ (skipped (suc h.0) (unescaped r) ∙ ap (items_behind 0) h.3) i)

-- ---- any text

bracket_first : (f : ℕ → List Item) (ms : List Unescaped) (o : Option ℕ) → behind_any_text (bracket_items f ms o) ≡ None
bracket_first f ms None = refl
bracket_first f ms (Some n) = refl

pub any_text_none : (p : List ℕ) → p ≡ [] → behind_any_text (written_items p) ≡ None
any_text_none p h = ap behind_any_text (nothing_written p h)

pub any_text_there : (p r : List ℕ) (m : Unescaped) → unescaped p ≡ m ∷ unescaped r → is_bare 42 m ≡ true → behind_any_text (written_items p) ≡ Some (written_items r)
any_text_there p r m h a = ap behind_any_text (star p r m h a)

pub any_text_else : (p r : List ℕ) (m : Unescaped) → unescaped p ≡ m ∷ unescaped r → is_bare 42 m ≡ false → behind_any_text (written_items p) ≡ None
unfolding bracket_written
any_text_else p r m h a = by (is_bare 63 m) (is_bare 91 m) refl refl
  where
    by : (b c : Bool) → is_bare 63 m ≡ b → is_bare 91 m ≡ c → behind_any_text (written_items p) ≡ None
    by true c d e = ap behind_any_text (question p r m h a d)
    by false true d e = ap behind_any_text (bracket p r m h a d e) ∙ bracket_first (λ k. items_behind k (unescaped r)) (unescaped r) (class_length (unescaped r))
    by false false d e = ap behind_any_text (byte p r m h a d e)

-- ---- one byte

pub byte_none : (p : List ℕ) (x : ℕ) → p ≡ [] → behind_byte (written_items p) x ≡ None
byte_none p x h = ap (λ is. behind_byte is x) (nothing_written p h)

pub byte_star : (p r : List ℕ) (x : ℕ) (m : Unescaped) → unescaped p ≡ m ∷ unescaped r → is_bare 42 m ≡ true → behind_byte (written_items p) x ≡ None
byte_star p r x m h a = ap (λ is. behind_byte is x) (star p r m h a)

pub byte_question : (p r : List ℕ) (x : ℕ) (m : Unescaped) → unescaped p ≡ m ∷ unescaped r → is_bare 42 m ≡ false → is_bare 63 m ≡ true → behind_byte (written_items p) x ≡ Some (written_items r)
byte_question p r x m h a b = ap (λ is. behind_byte is x) (question p r m h a b)

pub byte_bracket : (p r : List ℕ) (x : ℕ) (m : Unescaped) → unescaped p ≡ m ∷ unescaped r → is_bare 42 m ≡ false → is_bare 63 m ≡ false → is_bare 91 m ≡ true → behind_byte (written_items p) x ≡ behind_byte (bracket_written r) x
byte_bracket p r x m h a b c = ap (λ is. behind_byte is x) (bracket p r m h a b c)

pub byte_itself : (p r : List ℕ) (x : ℕ) (m : Unescaped) → unescaped p ≡ m ∷ unescaped r → is_bare 42 m ≡ false → is_bare 63 m ≡ false → is_bare 91 m ≡ false → (x == m.byte) ≡ true → behind_byte (written_items p) x ≡ Some (written_items r)
byte_itself p r x m h a b c e = ap (λ is. behind_byte is x) (byte p r m h a b c) ∙ ap (λ u. if u then Some (written_items r) else None) e

pub byte_other : (p r : List ℕ) (x : ℕ) (m : Unescaped) → unescaped p ≡ m ∷ unescaped r → is_bare 42 m ≡ false → is_bare 63 m ≡ false → is_bare 91 m ≡ false → (x == m.byte) ≡ false → behind_byte (written_items p) x ≡ None
byte_other p r x m h a b c e = ap (λ is. behind_byte is x) (byte p r m h a b c) ∙ ap (λ u. if u then Some (written_items r) else None) e

pub class_takes : (r cs rest : List ℕ) (x : ℕ) → IsClass r cs rest → in_class (ranges (unescaped cs)) x ≡ true → behind_byte (bracket_written r) x ≡ Some (written_items rest)
class_takes r cs rest x h e = ap (λ is. behind_byte is x) (class r cs rest h) ∙ ap (λ u. if u then Some (written_items rest) else None) e

pub class_refuses : (r cs rest : List ℕ) (x : ℕ) → IsClass r cs rest → in_class (ranges (unescaped cs)) x ≡ false → behind_byte (bracket_written r) x ≡ None
class_refuses r cs rest x h e = ap (λ is. behind_byte is x) (class r cs rest h) ∙ ap (λ u. if u then Some (written_items rest) else None) e

pub open_takes : (r : List ℕ) (x : ℕ) → class_length (unescaped r) ≡ None → (x == 91) ≡ true → behind_byte (bracket_written r) x ≡ Some (written_items r)
open_takes r x h e = ap (λ is. behind_byte is x) (open_bracket r h) ∙ ap (λ u. if u then Some (written_items r) else None) e

pub open_refuses : (r : List ℕ) (x : ℕ) → class_length (unescaped r) ≡ None → (x == 91) ≡ false → behind_byte (bracket_written r) x ≡ None
open_refuses r x h e = ap (λ is. behind_byte is x) (open_bracket r h) ∙ ap (λ u. if u then Some (written_items r) else None) e

-- ---- some bytes are some items

abbrev Some_items : List Item → Type 0
Some_items is = (i : Item) × (js : List Item) × (is ≡ i ∷ js)

bracket_some : (f : ℕ → List Item) (ms : List Unescaped) (o : Option ℕ) → Some_items (bracket_items f ms o)
bracket_some f ms None = (Byte 91, f 0, refl)
bracket_some f ms (Some n) = (Class (ranges (take n ms)), f (suc n), refl)

at_some : (f : ℕ → List Item) (m : Unescaped) (ms : List Unescaped) → Some_items (items_at f m ms)
at_some f m ms = by (is_bare 42 m) (is_bare 63 m) (is_bare 91 m)
  where
    by : (a b c : Bool) → Some_items (if a then AnyText ∷ f 0 else (if b then AnyByte ∷ f 0 else (if c then bracket_items f ms (class_length ms) else Byte m.byte ∷ f 0)))
    by true b c = (AnyText, f 0, refl)
    by false true c = (AnyByte, f 0, refl)
    by false false true = bracket_some f ms (class_length ms)
    by false false false = (Byte m.byte, f 0, refl)

pub written_some : (b : ℕ) (bs : List ℕ) → (i : Item) × (js : List Item) × (written_items (b ∷ bs) ≡ i ∷ js)
unfolding written_items unescaped
written_some b bs =
    let q = marks_some b bs in
    let r = at_some (λ k. items_behind k q.1) q.0 q.1 in
    (r.0, r.1, ap (items_behind 0) q.2 ∙ r.2)
