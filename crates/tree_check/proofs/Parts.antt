-- Tests that are asked part by part, in an order of their own.
use Rattle.std.proofs.Common.{◌≡◌, refl, sym, ap, ◌∙◌, Bool, true, false, ◌&&◌}

-- a part that is false decides
pub stops : (a b r : Bool) → a ≡ false → r ≡ false → r ≡ (a && b)
stops a b r e f = f ∙ sym (ap (λ a. a && b) e)

-- after a part that is true the rest decides
pub goes_on : (a b r : Bool) → a ≡ true → r ≡ b → r ≡ (a && b)
goes_on a b r e f = f ∙ sym (ap (λ a. a && b) e)

-- what is asked last may stand between two that are true
pub between : (a b c : Bool) → (a && c) ≡ true → b ≡ (a && (b && c))
between true true c h = sym h
between true false c h = refl
between false b c h = absurd (cc h)
