-- Tokens that pass no bound are at most 500.
use Rattle.std.proofs.Common.{◌≡◌, ℕ, ◌+◌, ◌≤◌, Bool, true, false, List, [], ◌∷◌, length, Option, Some, None, refl, arith}
use Rattle.std.specs.Prelude.{nat_le, ◌||◌, ◌&&◌}
use Rattle.std.proofs.lemmas.Bool.Decides.{nat_tests}
use Rattle.quel_grammar.specs.declared.token.Token.{Token}
use Rattle.quel_grammar.specs.Bounds.{Before, is_open, is_past, with_token, has_keys, past_behind, first_past}
use Rattle.quel_meaning.proofs.Each.{not_left}

in_bounds : (keyed : Bool) (before : Before) (ts : List Token) → before.tokens ≤ 500 → past_behind keyed before ts ≡ None → before.tokens + length ts ≤ 500
unfolding past_behind
in_bounds keyed before [] h e = omega (arith, h)
in_bounds keyed before (t ∷ ts) h e = by_test (is_past before t) refl e (in_bounds keyed (with_token keyed before t) ts)
  where
    room : is_past before t ≡ false → before.tokens + 1 ≤ 500
    room k =
        let few = not_left (nat_le 500 before.tokens) (is_open t && nat_le 50 before.open_) (not_left (nat_le 500 before.tokens || (is_open t && nat_le 50 before.open_)) (nat_le 6 before.commas) k) in
        grind (arith, nat_tests)

    by_test : (b : Bool) → is_past before t ≡ b → ◌≡◌ {A = Option ℕ} (elim b [ true ↦ Some before.tokens | false ↦ past_behind keyed (with_token keyed before t) ts ]) None
        → (before.tokens + 1 ≤ 500 → past_behind keyed (with_token keyed before t) ts ≡ None → before.tokens + 1 + length ts ≤ 500) → before.tokens + length (t ∷ ts) ≤ 500
    by_test true k f later = absurd (cc f)
    by_test false k f later = omega (arith, later (room k) f)

pub few_tokens : (ts : List Token) → first_past ts ≡ None → length ts ≤ 500
unfolding first_past
few_tokens ts h =
    let few = in_bounds (has_keys ts) (record { tokens = 0; open_ = 0; commas = 0 }) ts (omega arith) h in
    omega (arith, few)
