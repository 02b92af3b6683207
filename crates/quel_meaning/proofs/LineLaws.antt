-- The lines of a text.
use Rattle.std.proofs.Common.{◌≡◌, refl, ap, ◌∙◌, ℕ, Bool, true, false, List, [], ◌∷◌, ◌++◌}
use Rattle.std.specs.Prelude.{◌==◌, ◌&&◌, if◌then◌else◌, not}
use Rattle.std.specs.List.{concat, list_all}
use Rattle.quel_meaning.specs.Lines.{onto_first, lines_of, is_no_newline}

onto_joined : (b : ℕ) (ls : List (List ℕ)) → concat (onto_first b ls) ≡ b ∷ concat ls
onto_joined b [] = refl
onto_joined b (l ∷ ls) = refl

chosen_joined : (b : ℕ) (ls : List (List ℕ)) (t : Bool) → concat (if t then (b ∷ []) ∷ ls else onto_first b ls) ≡ b ∷ concat ls
chosen_joined b ls true = refl
chosen_joined b ls false = onto_joined b ls

-- put together again they are the text
pub joined_again : (text : List ℕ) → concat (lines_of text) ≡ text
unfolding lines_of
joined_again [] = refl
joined_again (b ∷ bs) = chosen_joined b (lines_of bs) (b == 10) ∙ ap (λ (x : List ℕ). b ∷ x) (joined_again bs)

both : (a b : Bool) → (a && b) ≡ true → (a ≡ true) × (b ≡ true)
both true b e = (refl, e)
both false b e = absurd cc

unequal : (b : Bool) → not b ≡ true → b ≡ false
unequal true e = absurd cc
unequal false e = refl

-- bytes without a newline, and then one, are the first line
pub line_first : (l rest : List ℕ) → list_all is_no_newline l ≡ true → lines_of ((l ++ 10 ∷ []) ++ rest) ≡ (l ++ 10 ∷ []) ∷ lines_of rest
unfolding lines_of
line_first [] rest e = refl
line_first (b ∷ l) rest e =
    let parts = both (is_no_newline b) (list_all is_no_newline l) e in
    rw (unequal (b == 10) parts.0, line_first l rest parts.1) refl

-- bytes without a newline, and then none, are the only line
pub line_last : (b : ℕ) (l : List ℕ) → list_all is_no_newline (b ∷ l) ≡ true → lines_of (b ∷ l) ≡ (b ∷ l) ∷ []
unfolding lines_of
line_last b [] e = let parts = both (is_no_newline b) true e in rw (unequal (b == 10) parts.0) refl
line_last b (c ∷ l) e =
    let parts = both (is_no_newline b) (list_all is_no_newline (c ∷ l)) e in
    rw (unequal (b == 10) parts.0, line_last c l parts.1) refl
