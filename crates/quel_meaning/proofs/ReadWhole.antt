-- A batch is read to its end.
use Rattle.std.proofs.Common.{◌≡◌, refl, ap, ℕ, zero, suc, ◌≤◌, List, length, arith}
use Rattle.std.specs.Prelude.{◌+◌}
use Rattle.calculus.specs.declared.statement.Statement.{Statement}
use Rattle.quel_grammar.specs.Next.{Next, Nothing, Read, Syntax, Reading}
use Rattle.quel_meaning.specs.Batch.{Batch, read_before, statement_at, read_on, read_within, batch_from, MovesOn}

same_on : (f g : ℕ → Batch) (text : List ℕ) (from : ℕ) (next : Next) → ((s : Statement) (end : ℕ) → next ≡ Read s end → f end ≡ g end)
    → read_on f text from next ≡ read_on g text from next
same_on f g text from Nothing same = refl
same_on f g text from (Read s end) same = ap (read_before (statement_at text from s)) (same s end refl)
same_on f g text from (Syntax place) same = refl

-- where as many statements may be read as bytes follow, more change nothing
enough : (reading : Reading) (text : List ℕ) → MovesOn reading text → (m n from : ℕ) → length text ≤ from + m → length text ≤ from + n
    → read_within m reading text from ≡ read_within n reading text from
unfolding read_within
enough reading text moves zero zero from h k = refl
enough reading text moves zero (suc n) from h k = rw (moves.ends from (omega (arith, h))) refl
enough reading text moves (suc m) zero from h k = rw (moves.ends from (omega (arith, k))) refl
enough reading text moves (suc m) (suc n) from h k =
    same_on (read_within m reading text) (read_within n reading text) text from (reading text from) (
    λ s end e. enough reading text moves m n end (omega (arith, h, moves.advances from s end e)) (omega (arith, k, moves.advances from s end e))
    )

-- what is read is what is read next, and then what is read from its end on
pub read_next : (reading : Reading) (text : List ℕ) → MovesOn reading text → (from : ℕ)
    → batch_from reading text from ≡ read_on (batch_from reading text) text from (reading text from)
unfolding read_within batch_from
read_next reading text moves from = enough reading text moves (length text) (suc (length text)) from (omega arith) (omega arith)
