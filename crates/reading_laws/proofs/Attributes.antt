-- The attributes of a relation that is made have names and domains.
use Rattle.std.proofs.Common.{◌≡◌, ℕ, ◌+◌, ◌-◌, ◌*◌, ◌≤◌, Bool, true, List, [], ◌∷◌, refl, arith}
use Rattle.std.specs.Prelude.{nat_le, ◌&&◌, ◌==◌, not, fold}
use Rattle.std.specs.List.{list_all}
use Rattle.std.proofs.lemmas.Bool.Decides.{nat_tests}
use Rattle.calculus.specs.declared.value.Domain.{Domain}
use Rattle.calculus.specs.declared.value.Domain.TheVariants as domains
use Rattle.calculus.specs.IsDatabase.{is_domain}
use Rattle.calculus.specs.Lists.{is_any}
use Rattle.calculus.specs.Name.{is_name, is_digit}
use Rattle.quel_grammar.specs.declared.token.Token.{Token}
use Rattle.quel_grammar.specs.Lexer.{number_of}
use Rattle.quel_grammar.specs.Grammar.{IsList}
use Rattle.quel_grammar.specs.Statements.{is_width, IsFormat, IsDeclared}
use Rattle.quel_grammar.specs.Statements.IsFormat.{i1, i2, i4, chars}
use Rattle.quel_grammar.specs.Statements.IsDeclared.{declared}
use Rattle.quel_meaning.proofs.Each.{left, right, passed, and}
use Rattle.reading_laws.proofs.Spelled.{Spelled}
use Rattle.reading_laws.proofs.Items.{list_any, list_each}

-- further digits leave a number above 0
stays : (n : ℕ) (digits : List ℕ) → 1 ≤ n → 1 ≤ fold (λ n d. 10 * n + (d - 48)) n digits
stays n [] h = h
stays n (d ∷ ds) h = stays (10 * n + (d - 48)) ds (omega (arith, h))

first_counts : (d : ℕ) → not (d == 48) ≡ true → is_digit d ≡ true → 1 ≤ 10 * 0 + (d - 48)
first_counts d h k = grind (arith, nat_tests)

pub width_stands : (digits : List ℕ) → is_width digits ≡ true → is_domain (domains.C (number_of digits)) ≡ true
width_stands [] h = absurd cc
width_stands (d ∷ ds) h =
    let some = left (not (d == 48)) _ h in
    let rest = right (not (d == 48)) (list_all is_digit (d ∷ ds) && nat_le (number_of (d ∷ ds)) 255) h in
    let digits = left (list_all is_digit (d ∷ ds)) _ rest in
    let least = stays (10 * 0 + (d - 48)) ds (first_counts d some (left (is_digit d) _ digits)) in
    and (nat_le 1 (number_of (d ∷ ds))) (nat_le (number_of (d ∷ ds)) 255) (grind (arith, nat_tests)) (right (list_all is_digit (d ∷ ds)) _ rest)

format_stands : {ts : List Token} {domain : Domain} → IsFormat ts domain → is_domain domain ≡ true
format_stands i1 = refl
format_stands i2 = refl
format_stands i4 = refl
format_stands (chars {digits = digits} h) = width_stands digits h

-- an attribute with its domain stands
abbrev declared_stands : List ℕ × Domain → Bool
declared_stands a = is_name a.0 && is_domain a.1

attribute_stands : {ts : List Token} {a : List ℕ × Domain} → IsDeclared ts a → Spelled ts → declared_stands a ≡ true
attribute_stands (declared {n = n} {domain = domain} p) h = and (is_name n) (is_domain domain) h.0 (format_stands p)

-- there are attributes, and they have names and domains
pub attributes_stand : {ts : List Token} {attrs : List (List ℕ × Domain)} → IsList IsDeclared ts attrs → Spelled ts
    → (is_any attrs && list_all (λ a. is_name a.0 && is_domain a.1) attrs) ≡ true
attributes_stand {attrs = attrs} p h = and (is_any attrs) (list_all declared_stands attrs) (list_any p) (passed declared_stands attrs (list_each (λ a. declared_stands a ≡ true) (λ ts a. attribute_stands) p h))
