-- A name is a text constant.
use Rattle.std.proofs.Common.{◌≡◌, refl, ℕ, true, ◌&&◌, IsTrue, List, [], ◌∷◌, length, nat_le, rules, arith}
use Rattle.std.specs.List.{list_all}
use Rattle.std.proofs.lemmas.Bool.Decides.{nat_tests}
use Rattle.calculus.specs.Chars.{is_printable, is_chars}
use Rattle.calculus.specs.Name.{is_name, is_name_byte, starts_name}
use Rattle.quel_meaning.proofs.Each.{left, right, and}

printable : (b : ℕ) → IsTrue (is_name_byte b) → IsTrue (is_printable b)
printable b h = search (rules, h)

all_printable : (bs : List ℕ) → list_all is_name_byte bs ≡ true → list_all is_printable bs ≡ true
all_printable [] h = refl
all_printable (b ∷ bs) h = and (is_printable b) _ (printable b (left (is_name_byte b) _ h)) (all_printable bs (right (is_name_byte b) _ h))

short : (n : ℕ) → nat_le n 12 ≡ true → nat_le n 255 ≡ true
short n h = grind (arith, nat_tests, h)

pub name_is_chars : (bs : List ℕ) → is_name bs ≡ true → is_chars bs ≡ true
unfolding is_name is_chars
name_is_chars bs h =
    let front = left (starts_name bs && nat_le (length bs) 12) (list_all is_name_byte bs) h in
    and _ _ (short (length bs) (right (starts_name bs) _ front)) (all_printable bs (right (starts_name bs && nat_le (length bs) 12) _ h))
