-- A batch, statement by statement.
use Rattle.std.proofs.Common.{◌≡◌, ap, ◌∙◌, ℕ, List}
use Rattle.calculus.specs.declared.statement.Statement.{Statement}
use Rattle.quel_grammar.specs.Next.{Next, Nothing, Read, Syntax, line_at}
use Rattle.quel_meaning.specs.Batch.{Batch, MovesOn, statement_at, read_on, batch_from}
use Rattle.quel_meaning.specs.Happening.{Setting, Kept, quiet, refused, and_then, over}
use Rattle.quel_meaning.specs.Running.{after_statement, after_refusal, after_batch}
use Rattle.quel_meaning.proofs.LeftOpen.{then_both}
use Rattle.quel_meaning.proofs.ReadWhole.{read_next}

-- what is read next decides
next_decides : (setting : Setting) (text : List ℕ) (from : ℕ) (kept : Kept) (next : Next) → MovesOn setting.reading text → setting.reading text from ≡ next
    → after_batch setting (batch_from setting.reading text from) kept ≡ after_batch setting (read_on (batch_from setting.reading text) text from next) kept
next_decides setting text from kept next moves e =
    ap (λ (b : Batch). after_batch setting b kept) (read_next setting.reading text moves from ∙ ap (read_on (batch_from setting.reading text) text from) e)

pub nothing_left : (setting : Setting) (text : List ℕ) (from : ℕ) (kept : Kept) → MovesOn setting.reading text → setting.reading text from ≡ Nothing
    → after_batch setting (batch_from setting.reading text from) kept ≡ quiet kept
unfolding after_batch over
nothing_left setting text from kept moves e = next_decides setting text from kept Nothing moves e

pub statement_next : (setting : Setting) (text : List ℕ) (from : ℕ) (kept : Kept) (s : Statement) (end : ℕ) → MovesOn setting.reading text → setting.reading text from ≡ Read s end
    → after_batch setting (batch_from setting.reading text from) kept
    ≡ and_then (after_statement setting kept (statement_at text from s)) (λ k. after_batch setting (batch_from setting.reading text end) k)
unfolding after_batch over
statement_next setting text from kept s end moves e =
    let rest = batch_from setting.reading text end in
    next_decides setting text from kept (Read s end) moves e
    ∙ then_both (after_statement setting kept (statement_at text from s)) (λ k. over (after_statement setting) k rest.statements) (after_refusal rest.refused)

pub refusal_next : (setting : Setting) (text : List ℕ) (from : ℕ) (kept : Kept) (place : ℕ) → MovesOn setting.reading text → setting.reading text from ≡ Syntax place
    → after_batch setting (batch_from setting.reading text from) kept ≡ refused kept 1 (line_at text place)
unfolding after_batch over
refusal_next setting text from kept place moves e = next_decides setting text from kept (Syntax place) moves e
