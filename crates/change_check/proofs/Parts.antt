-- Tests that are asked part by part.
use Rattle.std.proofs.Common.{◌≡◌, refl, sym, ap, ◌∙◌, Bool, true, false, ◌&&◌, IsTrue}

-- a part that is false decides
pub stops : (a b r : Bool) → a ≡ false → r ≡ false → r ≡ (a && b)
stops a b r e f = f ∙ sym (ap (λ a. a && b) e)

-- after a part that is true the rest decides
pub goes_on : (a b r : Bool) → a ≡ true → r ≡ b → r ≡ (a && b)
goes_on a b r e f = f ∙ sym (ap (λ a. a && b) e)

-- so it does where the part is itself of parts
pub and_then : (a b c r : Bool) → r ≡ ((a && b) && c) → r ≡ (a && (b && c))
and_then true b c r h = h
and_then false b c r h = h

pub regrouped : (a b c d : Bool) → (a && ((b && c) && d)) ≡ (a && (b && (c && d)))
regrouped true true c d = refl
regrouped true false c d = refl
regrouped false b c d = refl

-- what is true besides changes nothing
pub also : (a b : Bool) → IsTrue b → a ≡ (a && b)
also true b h = sym h
also false b h = refl

-- the order in which parts are asked doesn't count
pub turned : (a b c d : Bool) → (c && ((a && b) && d)) ≡ (a && (b && (c && d)))
turned true true true d = refl
turned true true false d = refl
turned true false true d = refl
turned true false false d = refl
turned false b true d = refl
turned false b false d = refl

-- after two parts that are true the rest decides
pub passed : (a b c : Bool) → a ≡ true → b ≡ true → c ≡ (a && (b && c))
passed a b c e f = sym (ap (λ a. a && (b && c)) e ∙ ap (λ b. b && c) f)
