-- Readings that the grammar allows: they move on through each text, and two of them are the same.
use Rattle.std.proofs.Common.{◌≡◌, refl, subst, ℕ, ◌≤◌, List, length}
use Rattle.std.proofs.lemmas.List.{drop_all}
use Rattle.calculus.specs.Who.{Asker}
use Rattle.quel_grammar.specs.Pieces.{pieces_behind, pieces_from}
use Rattle.quel_grammar.specs.Next.{Nothing, Reading, IsBlank, IsNext, IsGrammatical}
use Rattle.quel_grammar.proofs.Further.{further}
use Rattle.quel_grammar.proofs.OneReading.{one_next}
use Rattle.quel_meaning.specs.State.{State}
use Rattle.quel_meaning.specs.Session.{session}
use Rattle.quel_meaning.proofs.Agreement.{same_reading}
use Rattle.quel_meaning.specs.Batch.{MovesOn}

-- where the text ends nothing follows
blank_end : (text : List ℕ) (from : ℕ) → length text ≤ from → IsBlank (pieces_from text from)
unfolding pieces_from pieces_behind
blank_end text from h = rw (drop_all from text h) (record { no_token = refl; no_bad = refl })

-- a reading that the grammar allows moves on
pub moves_on : (reading : Reading) → IsGrammatical reading → (text : List ℕ) → MovesOn reading text
moves_on reading lawful text = record {
  advances = λ from s end e. (further text from s end (subst (IsNext text from) e (lawful text from))).0;
  ends = λ from h. one_next (pieces_from text from) (reading text from) Nothing (lawful text from) (blank_end text from h);
}

-- two readings that the grammar allows are the same
same_readings : (r q : Reading) → IsGrammatical r → IsGrammatical q → (text : List ℕ) (from : ℕ) → r text from ≡ q text from
same_readings r q a b text from = one_next (pieces_from text from) (r text from) (q text from) (a text from) (b text from)

-- so are their sessions
pub same_grammatical : (r q : Reading) → IsGrammatical r → IsGrammatical q
    → (asker : Asker) (state : State) (script : List ℕ) → session r asker state script ≡ session q asker state script
same_grammatical r q a b = same_reading r q (same_readings r q a b)
