-- The statements of a script of the small language, worked out by hand.
use Rattle.std.proofs.Common.{◌≡◌, [], ◌∷◌, refl}
use Rattle.network_meaning.specs.Tiny.{tiny_list, One.one}

-- 5 is added and acknowledged, 0 is refused, and 200 asks for all that is there
three_statements : tiny_list [] one one one (5 ∷ 0 ∷ 200 ∷ []) ≡ (
    record { reply = 2 ∷ []; db = 5 ∷ []; later = 3 ∷ 1 ∷ 5 ∷ 1 ∷ [] } ∷ record { reply = 3 ∷ []; db = 5 ∷ []; later = 1 ∷ 5 ∷ 1 ∷ [] } ∷ record { reply = 1 ∷ 5 ∷ 1 ∷ []; db = 5 ∷ []; later = [] } ∷ [])
three_statements = refl
