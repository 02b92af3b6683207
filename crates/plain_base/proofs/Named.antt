-- Names and the bytes that they are made of, as texts.
use Rattle.std.proofs.Common.{◌≡◌, refl, ap, ◌∙◌, ℕ, ◌≤◌, Bool, true, false, ◌&&◌, List, [], ◌∷◌, length, nat_le, IsTrue, Some, rules, arith}
use Rattle.std.specs.Prelude.{codes, decimal, ◌++◌, ◌+◌, ◌<◌, ◌^◌, ◌%◌}
use Rattle.std.proofs.lemmas.Fmt.{decimal_by_steps, length-decimal-le}
use Rattle.std.proofs.lemmas.List.Folds.{list_all-append}
use Rattle.std.specs.List.{list_all}
use Rattle.calculus.specs.Chars.{is_printable}
use Rattle.calculus.specs.declared.schema.Spec.{Spec}
use Rattle.calculus.specs.declared.schema.Spec.TheVariants.{Heap, Hash, Isam, View, Index}
use Rattle.calculus.specs.Name.{is_name, is_name_byte, starts_name}
use Rattle.calculus.specs.Structures.{spec_text}
use Rattle.calculus.specs.Text.{is_blank, before_trimmed, trimmed, text_of}

both : (b c : Bool) → IsTrue (b && c) → IsTrue b × IsTrue c
both true true h = (refl, refl)
both true false h = (refl, h)
both false c h = (h, cc h)

-- a byte of a name is printable and no blank
solid : (b : ℕ) → IsTrue (is_name_byte b) → IsTrue (is_printable b) × (is_blank b ≡ false)
solid b h = (search (rules, h), search (rules, h))

all_printable : (bs : List ℕ) → IsTrue (list_all is_name_byte bs) → IsTrue (list_all is_printable bs)
all_printable [] h = refl
all_printable (b ∷ bs) h =
    let parts = both (is_name_byte b) (list_all is_name_byte bs) h in
    rw (solid b parts.0).0 (all_printable bs parts.1)

-- nothing is dropped at the end of bytes of names
kept_whole : (bs : List ℕ) → IsTrue (list_all is_name_byte bs) → trimmed bs ≡ bs
kept_whole [] h = refl
kept_whole (b ∷ []) h = rw (solid b (both (is_name_byte b) true h).0).1 refl
kept_whole (b ∷ c ∷ bs) h = ap (before_trimmed b) (kept_whole (c ∷ bs) (both (is_name_byte b) (list_all is_name_byte (c ∷ bs)) h).1)

pub solid_text : (bs : List ℕ) → IsTrue (list_all is_name_byte bs) → IsTrue (nat_le (length bs) 255) → text_of bs ≡ Some bs
unfolding text_of
solid_text bs h n = rw (all_printable bs h, kept_whole bs h, n) refl

name_parts : (a b c : Bool) → IsTrue (a && b && c) → IsTrue b × IsTrue c
name_parts a b c h = let front = both (a && b) c h in ((both a b front.0).1, front.1)

-- a name is made of bytes of names, and short
pub name_solid : (bs : List ℕ) → IsTrue (is_name bs) → IsTrue (list_all is_name_byte bs)
unfolding is_name
name_solid bs h = (name_parts (starts_name bs) (nat_le (length bs) 12) (list_all is_name_byte bs) h).1

pub name_short : (bs : List ℕ) → IsTrue (is_name bs) → length bs ≤ 255
unfolding is_name
name_short bs h =
    let few = (name_parts (starts_name bs) (nat_le (length bs) 12) (list_all is_name_byte bs) h).0 in
    search (rules, few)

-- so is the format of texts of a width
digit : (d : ℕ) → d < 10 → IsTrue (is_name_byte (48 + d))
digit d h = search (rules, h)

both_true : (b c : Bool) → IsTrue b → IsTrue c → IsTrue (b && c)
both_true true true h k = refl
both_true true false h k = k
both_true false c h k = h

pub digits_solid : (n : ℕ) → n < 2 ^ 64 → IsTrue (list_all is_name_byte (decimal n))
digits_solid =
    decimal_by_steps (λ n ds. IsTrue (list_all is_name_byte ds)) (λ n h. both_true (is_name_byte (48 + n)) true (digit n h) refl)
    (λ n ds h k. list_all-append is_name_byte ds ((48 + n % 10) ∷ [])
    ∙ both_true (list_all is_name_byte ds) (is_name_byte (48 + n % 10) && true) k (both_true (is_name_byte (48 + n % 10)) true (digit (n % 10) (omega arith)) refl))

pub width_solid : (n : ℕ) → n < 2 ^ 8 → IsTrue (list_all is_name_byte (codes "c" ++ decimal n))
width_solid n h = digits_solid n (search rules)

pub width_short : (n : ℕ) → n < 2 ^ 8 → length (codes "c" ++ decimal n) ≤ 255
width_short n h = let few : length (decimal n) ≤ 3 = length-decimal-le 3 n (search rules) (search rules) (search rules) in search (rules, few)

-- so are the words for what an entry is
pub spec_solid : (spec : Spec) → IsTrue (list_all is_name_byte (spec_text spec))
spec_solid Heap = refl
spec_solid Hash = refl
spec_solid Isam = refl
spec_solid View = refl
spec_solid Index = refl

pub spec_short : (spec : Spec) → length (spec_text spec) ≤ 255
spec_short Heap = search rules
spec_short Hash = search rules
spec_short Isam = search rules
spec_short View = search rules
spec_short Index = search rules
