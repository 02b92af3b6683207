-- What events tell, one behind the other: the bytes that they print, and the statements that ran.
use Rattle.std.proofs.Common.{◌≡◌, refl, sym, ap, ◌∙◌, ℕ, List, [], ◌∷◌, ◌++◌, append_assoc}
use Rattle.calculus.specs.Database.{Db}
use Rattle.quel_meaning.specs.Happening.{Event, Wrote, Ran}
use Rattle.quel_meaning.specs.Session.{printed}
use Rattle.quel_meaning.proofs.Steps.{printed_append}
use Rattle.network_meaning.specs.Sorts.{Finished}
use Rattle.network_meaning.specs.Language.{followed_by, Stand}
use Rattle.quel_network.specs.Session.{finished}
use Rattle.quel_network.specs.Sorts.{quel_sorts}

-- bytes, and the statements that ran
abbrev pub Trace : Type 0
Trace = List ℕ × List (Finished quel_sorts)

-- what events tell
abbrev pub trace : List Event → Trace
trace events = (printed events, finished events)

-- a statement that ran
abbrev pub finished_with : List ℕ → Db → List ℕ → Finished quel_sorts
finished_with reply db later = record { reply = reply; db = db; later = later }

-- what is known of one part of a session, and then of the next
abbrev pub trace_both : Trace → Trace → Trace
trace_both t u = (t.0 ++ u.0, followed_by {S = quel_sorts} u.0 t.1 ++ u.1)

finished_append : (es fs : List Event) → finished (es ++ fs) ≡ followed_by {S = quel_sorts} (printed fs) (finished es) ++ finished fs
finished_append [] fs = refl
finished_append (Wrote bytes ∷ es) fs = finished_append es fs
finished_append (Ran reply db ∷ es) fs =
    ap (λ (x : List ℕ). finished_with reply db x ∷ finished (es ++ fs)) (printed_append es fs)
    ∙ ap (λ (x : List (Finished quel_sorts)). finished_with reply db (printed es ++ printed fs) ∷ x) (finished_append es fs)

-- what two lists of events tell
pub trace_append : (es fs : List Event) → trace (es ++ fs) ≡ trace_both (trace es) (trace fs)
trace_append es fs = λ i. (printed_append es fs i, finished_append es fs i)

-- what is known where these bytes are printed before
abbrev pub trace_behind : List ℕ → Trace → Trace
trace_behind bytes t = (bytes ++ t.0, t.1)

-- bytes in two pieces, or in one
pub wrote_twice : (a b : List ℕ) (t : Trace) → trace_behind a (trace_behind b t) ≡ trace_behind (a ++ b) t
wrote_twice a b t = λ i. (sym (append_assoc a b t.0) i, t.1)

-- where the replies of statements stand in some bytes, they stand in these behind others
stand_behind : (ahead bytes : List ℕ) (fs : List (Finished quel_sorts)) → Stand {S = quel_sorts} bytes fs → Stand {S = quel_sorts} (ahead ++ bytes) fs
stand_behind ahead bytes [] h = tt
stand_behind ahead bytes (f ∷ fs) h = (
  ahead ++ h.0,
  ap (λ (x : List ℕ). ahead ++ x) h.1 ∙ sym (append_assoc ahead h.0 (f.reply ++ f.later)),
  h.2,
)

-- the replies of the statements stand in what is printed
pub replies_stand : (events : List Event) → Stand {S = quel_sorts} (printed events) (finished events)
unfolding printed
replies_stand [] = tt
replies_stand (Wrote bytes ∷ events) = stand_behind bytes (printed events) (finished events) (replies_stand events)
replies_stand (Ran reply db ∷ events) = ([], refl, replies_stand events)
