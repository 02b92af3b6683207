-- What a batch does, whatever the monitor keeps beside what statements work on: the laws.
use Rattle.std.proofs.Common.{◌≡◌, refl, ap, ◌∙◌, ℕ, List, [], ◌∷◌, Option, Some, None}
use Rattle.quel_meaning.specs.Batch.{StatementAt, Batch}
use Rattle.quel_meaning.specs.Happening.{Setting, Ran, Kept, After, behind, and_then, over}
use Rattle.quel_meaning.specs.Printed.{reply_bytes}
use Rattle.quel_meaning.specs.Running.{at_line, after_statement, after_refusal, after_batch}
use Rattle.quel_meaning.specs.State.{State}

-- what is kept, with this in place of what statements work on
abbrev pub with_state : Kept → State → Kept
with_state kept state = record kept { state = state }

-- what statements left, with the rest of what is kept
abbrev pub with_rest : Kept → After → After
with_rest kept a = record { kept = with_state kept a.kept.state; events = a.events }

-- the statements leave all else as it is, and don't depend on it
over_rest : (setting : Setting) (kept other : Kept) (placed : List StatementAt)
    → over (after_statement setting) kept placed ≡ with_rest kept (over (after_statement setting) (with_state other kept.state) placed)
unfolding over after_statement
over_rest setting kept other [] = refl
over_rest setting kept other (p ∷ placed) =
    let outcome = setting.meaning kept.state p.statement in
    ap (behind (Ran (reply_bytes (at_line p.line outcome.reply)) outcome.state.db ∷ [])) (over_rest setting (with_state kept outcome.state) other placed)

refusal_rest : (kept : Kept) (a : After) (refused : Option ℕ) → and_then (with_rest kept a) (after_refusal refused) ≡ with_rest kept (and_then a (after_refusal refused))
refusal_rest kept a None = refl
refusal_rest kept a (Some line) = refl

-- a batch leaves the buffer, the bytes that were included and the mark of the end as they are, and doesn't depend on them
pub batch_rest : (setting : Setting) (batch : Batch) (kept other : Kept) → after_batch setting batch kept ≡ with_rest kept (after_batch setting batch (with_state other kept.state))
unfolding after_batch
batch_rest setting batch kept other =
    ap (λ (a : After). and_then a (after_refusal batch.refused)) (over_rest setting kept other batch.statements)
    ∙ refusal_rest kept (over (after_statement setting) (with_state other kept.state) batch.statements) batch.refused
