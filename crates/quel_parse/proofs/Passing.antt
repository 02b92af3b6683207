-- The bounds, token by token.
use Rattle.std.proofs.Common.{◌≡◌, ℕ, suc, ◌+◌, ◌<◌, Bool, true, false, List, [], ◌∷◌, length, drop, slice_index_or, Some, None, sym, ap, ◌∙◌, arith}
use Rattle.std.proofs.Math.Seq.{drop-cons}
use Rattle.quel_grammar.specs.declared.token.Token.{Token}
use Rattle.quel_grammar.specs.Bounds.{Before, is_past, with_token, past_behind}

-- what is left begins with the token of this number
pub left : (ts : List Token) (i : ℕ) (t : Token) → i < length ts → t ≡ slice_index_or ts i t → drop i ts ≡ t ∷ drop (i + 1) ts
left ts i t lt e = let one : suc i ≡ i + 1 = omega arith in drop-cons ts i t lt ∙ ap (λ x. x ∷ drop (suc i) ts) (sym e) ∙ ap (λ n. t ∷ drop n ts) one

pub stops : (keyed : Bool) (before : Before) (ts : List Token) (t : Token) (later : List Token) → ts ≡ t ∷ later → is_past before t ≡ true → past_behind keyed before ts ≡ Some before.tokens
unfolding past_behind
stops keyed before ts t later e past =
    ap (past_behind keyed before) e ∙ ap (λ b. elim b [ true ↦ Some before.tokens | false ↦ past_behind keyed (with_token keyed before t) later ]) past

pub goes_on : (keyed : Bool) (before : Before) (ts : List Token) (t : Token) (later : List Token) → ts ≡ t ∷ later → is_past before t ≡ false
    → past_behind keyed before ts ≡ past_behind keyed (with_token keyed before t) later
unfolding past_behind
goes_on keyed before ts t later e past =
    ap (past_behind keyed before) e ∙ ap (λ b. elim b [ true ↦ Some before.tokens | false ↦ past_behind keyed (with_token keyed before t) later ]) past

pub ends : (keyed : Bool) (before : Before) (ts : List Token) → ts ≡ [] → past_behind keyed before ts ≡ None
unfolding past_behind
ends keyed before ts e = ap (past_behind keyed before) e
