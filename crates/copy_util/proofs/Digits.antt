-- The number that digits spell, one digit after the other, where numbers past the greatest told aren't told apart.
use Rattle.std.proofs.Common.{◌≡◌, refl, sym, ap, ◌∙◌, ℕ, ◌+◌, ◌-◌, ◌*◌, ◌<◌, ◌≤◌, Bool, true, false, IsTrue, List, length, take, get_or, min, arith}
use Rattle.std.specs.Char.{digit_value}
use Rattle.std.specs.List.{list_all}
use Rattle.std.specs.Str.Parse.{digits_value}
use Rattle.std.proofs.lemmas.Bool.Decides.{nat_tests}
use Rattle.std.proofs.lemmas.Int.Digits.{digits_value_more}
use Rattle.std.proofs.lemmas.List.{take_all}
use Rattle.std.proofs.lemmas.List.Folds.{list_all_at}
use Rattle.calculus.specs.Name.{is_digit}
use Rattle.copy_util.specs.Reading.{most_apart}

digit_is : (c : ℕ) → IsTrue (is_digit c) → digit_value c ≡ c - 48
digit_is c t = grind (arith, nat_tests, t)

each_digit : (digits : List ℕ) (i : ℕ) → IsTrue (list_all is_digit digits) → i < length digits → IsTrue (is_digit (get_or digits i 0))
each_digit digits i all less = go (is_digit (get_or digits i 0)) refl
  where
    go : (b : Bool) → is_digit (get_or digits i 0) ≡ b → is_digit (get_or digits i 0) ≡ true
    go true e = e
    go false e = let no : false ≡ true = sym (list_all_at is_digit digits i 0 less e) ∙ all in cc no

capped : (most before digit : ℕ) → min (min most before * 10 + digit) most ≡ min most (before * 10 + digit)
capped most before digit = omega arith

pub one_more_digit : (digits : List ℕ) (i before : ℕ) → IsTrue (list_all is_digit digits) → i < length digits → before ≡ min most_apart (digits_value 10 (take i digits))
    → min (before * 10 + (get_or digits i 0 - 48)) most_apart ≡ min most_apart (digits_value 10 (take (i + 1) digits))
one_more_digit digits i before all less so_far =
    (λ j. min (so_far j * 10 + sym (digit_is (get_or digits i 0) (each_digit digits i all less)) j) most_apart)
    ∙ capped most_apart (digits_value 10 (take i digits)) (digit_value (get_or digits i 0))
    ∙ ap (min most_apart) (sym (digits_value_more 10 digits i less))

pub all_digits : (digits : List ℕ) (i number : ℕ) → length digits ≤ i → number ≡ min most_apart (digits_value 10 (take i digits)) → number ≡ min most_apart (digits_value 10 digits)
all_digits digits i number end so_far = so_far ∙ ap (λ ds. min most_apart (digits_value 10 ds)) (take_all i digits end)
