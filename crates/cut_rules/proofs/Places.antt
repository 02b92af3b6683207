-- Where a variable's text begins.
use Rattle.std.proofs.Common.{◌≡◌, refl, ap, ℕ, zero, suc, ◌+◌, ◌-◌, List, ◌∷◌, length, arith}
use Rattle.view_text.specs.declared.expansion.Expansion.{Expansion}
use Rattle.view_text.specs.Expansions.{place_from}

pub place_first : (n : ℕ) (expansion : Expansion) (expansions : List Expansion) (var : ℕ) → var ≡ 0 → n ≡ place_from n (expansion ∷ expansions) var
place_first n expansion expansions zero h = refl
place_first n expansion expansions (suc var) h = absurd (omega (arith, h))

pub place_next : (n : ℕ) (expansion : Expansion) (expansions : List Expansion) (var : ℕ) → ¬ (var ≡ 0) → place_from (n + length expansion.vars) expansions (var - 1) ≡ place_from n (expansion ∷ expansions) var
place_next n expansion expansions zero h = absurd (h refl)
place_next n expansion expansions (suc var) h = let less : suc var - 1 ≡ var = omega arith in ap (place_from (n + length expansion.vars) expansions) less
