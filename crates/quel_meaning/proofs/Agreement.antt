-- Settings that agree give equal sessions, and nothing happens behind the end.
use Rattle.std.proofs.Common.{◌≡◌, refl, ap, ℕ, Bool, true, false, List, [], ◌∷◌}
use Rattle.calculus.specs.Who.{Asker}
use Rattle.quel_grammar.specs.Next.{Reading}
use Rattle.quel_meaning.specs.State.{State}
use Rattle.quel_meaning.specs.Monitor.{Part, parts_of}
use Rattle.quel_meaning.specs.Happening.{Setting, Agree, Kept, After, quiet, over}
use Rattle.quel_meaning.specs.Running.{Deeper, after_open_part, after_part, after_line, after_lines}
use Rattle.quel_meaning.specs.Session.{session_of, setting_of, session}

-- settings that agree are the same
same : (s t : Setting) → Agree s t → s ≡ t
same s t agree = λ i. record {
  reading = λ text from. agree.reading text from i;
  meaning = λ state statement. agree.meaning state statement i;
}

-- their sessions are the same
pub same_sessions : (s t : Setting) → Agree s t → (state : State) (script : List ℕ) → session_of s state script ≡ session_of t state script
same_sessions s t agree state script = ap (λ (x : Setting). session_of x state script) (same s t agree)

-- readings that are equal everywhere give the same session
pub same_reading : (r q : Reading) → ((text : List ℕ) (from : ℕ) → r text from ≡ q text from)
    → (asker : Asker) (state : State) (script : List ℕ) → session r asker state script ≡ session q asker state script
unfolding session
same_reading r q same asker state script = same_sessions (setting_of r asker) (setting_of q asker) (record { reading = same; meaning = λ s u. refl }) state script

-- where steps do nothing, nothing happens
still : {X : Type 0} (step : Kept → X → After) (kept : Kept) → ((x : X) → step kept x ≡ quiet kept) → (xs : List X) → over step kept xs ≡ quiet kept
unfolding over
still step kept nothing [] = refl
still step kept nothing (x ∷ xs) = rw (nothing x) (still step kept nothing xs)

unless_ended : (ended : Bool) (kept : Kept) (next : After) → ended ≡ true → elim ended [ true ↦ quiet kept | false ↦ next ] ≡ quiet kept
unless_ended true kept next e = refl
unless_ended false kept next e = absurd (cc e)

still_part : (setting : Setting) (deeper : Deeper) (kept : Kept) → kept.quit ≡ true → (part : Part) → after_part setting deeper kept part ≡ quiet kept
unfolding after_part
still_part setting deeper kept e part = unless_ended kept.quit kept (after_open_part setting deeper kept part) e

still_line : (setting : Setting) (deeper : Deeper) (kept : Kept) → kept.quit ≡ true → (line : List ℕ) → after_line setting deeper kept line ≡ quiet kept
unfolding after_line
still_line setting deeper kept e line = still (after_part setting deeper) kept (still_part setting deeper kept e) (parts_of line)

-- behind a command that ended the session nothing happens
pub nothing_more : (setting : Setting) (deeper : Deeper) (kept : Kept) → kept.quit ≡ true → (lines : List (List ℕ)) → after_lines setting deeper kept lines ≡ quiet kept
unfolding after_lines
nothing_more setting deeper kept e lines = still (after_line setting deeper) kept (still_line setting deeper kept e) lines
