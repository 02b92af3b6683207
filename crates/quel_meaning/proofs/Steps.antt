-- Steps one after the other, and what is printed by them.
use Rattle.std.proofs.Common.{◌≡◌, refl, sym, ap, ◌∙◌, ℕ, List, [], ◌∷◌, ◌++◌, append_assoc}
use Rattle.quel_meaning.specs.Happening.{Setting, Event, Kept, After, behind, and_then, over}
use Rattle.quel_meaning.specs.Running.{Deeper, after_line, after_lines}
use Rattle.quel_meaning.specs.Session.{event_bytes, printed, files_of, still_printed}

-- what happened in two goes, and then the rest
behind_both : (es fs : List Event) (a : After) → behind es (behind fs a) ≡ behind (es ++ fs) a
behind_both es fs a = ap (λ (x : List Event). record { kept = a.kept; events = x }) (sym (append_assoc es fs a.events))

-- steps on two lists one after the other are those on the first, and then those on the second
pub over_append : {X : Type 0} (step : Kept → X → After) (kept : Kept) (xs ys : List X)
    → over step kept (xs ++ ys) ≡ and_then (over step kept xs) (λ k. over step k ys)
unfolding over
over_append step kept [] ys = refl
over_append step kept (x ∷ xs) ys =
    let first = step kept x in
    ap (behind first.events) (over_append step first.kept xs ys) ∙ behind_both first.events (over step first.kept xs).events (over step (over step first.kept xs).kept ys)

-- what two lists of events print
pub printed_append : (es fs : List Event) → printed (es ++ fs) ≡ printed es ++ printed fs
unfolding printed
printed_append [] fs = refl
printed_append (e ∷ es) fs = ap (λ (x : List ℕ). event_bytes e ++ x) (printed_append es fs) ∙ sym (append_assoc (event_bytes e) (printed es) (printed fs))

-- lines behind lines
pub lines_append : (setting : Setting) (deeper : Deeper) (kept : Kept) (ls ms : List (List ℕ))
    → after_lines setting deeper kept (ls ++ ms) ≡ and_then (after_lines setting deeper kept ls) (λ k. after_lines setting deeper k ms)
unfolding after_lines
lines_append setting deeper kept ls ms = over_append (after_line setting deeper) kept ls ms

-- what is printed by lines behind lines
pub still_append : (setting : Setting) (kept : Kept) (ls ms : List (List ℕ))
    → still_printed setting kept (ls ++ ms) ≡ still_printed setting kept ls ++ still_printed setting (after_lines setting (files_of setting) kept ls).kept ms
still_append setting kept ls ms =
    let first = after_lines setting (files_of setting) kept ls in
    ap (λ (a : After). printed a.events) (lines_append setting (files_of setting) kept ls ms)
    ∙ printed_append first.events (after_lines setting (files_of setting) first.kept ms).events
