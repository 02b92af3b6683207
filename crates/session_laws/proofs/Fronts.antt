-- Sessions of lines, and of fronts of them.
use Rattle.std.proofs.Common.{◌≡◌, inl, inr, refl, sym, ap, ◌∙◌, ℕ, Bool, true, false, List, [], ◌++◌, length, take}
use Rattle.std.proofs.Math.Seq.{take-append_seam}
use Rattle.std.proofs.lemmas.Bool.{cases_Bool}
use Rattle.std.specs.List.{list_all}
use Rattle.fault_io.specs.Known.{IsFront}
use Rattle.network_meaning.specs.LocalSteps.{Room}
use Rattle.quel_meaning.proofs.Agreement.{nothing_more}
use Rattle.quel_meaning.proofs.Steps.{lines_append, still_append}
use Rattle.quel_meaning.specs.Happening.{After, Setting, over, start}
use Rattle.quel_meaning.specs.Lines.{is_no_newline, lines_of, whole_lines}
use Rattle.quel_meaning.specs.Running.{after_lines}
use Rattle.quel_meaning.specs.Session.{Session, files_of, output, printed, session, session_of, session_of_lines, still_printed}
use Rattle.quel_meaning.specs.State.{State}
use Rattle.quel_network.specs.Quel.{setting_for}
use Rattle.quel_network.specs.Sorts.{User, quel_sorts}
use Rattle.net_core.specs.Reads.{IsWhole}
use Rattle.session_laws.proofs.Texts.{front_of_lines, lines_of_whole}
use Rattle.session_laws.specs.Heard.{before_all, within}

-- the first lines print a front
lines_front : (setting : Setting) (state : State) (xs ys : List (List ℕ)) → IsFront (output (session_of_lines setting state xs)) (output (session_of_lines setting state (xs ++ ys)))
unfolding session_of_lines
lines_front setting state xs ys = (still_printed setting (after_lines setting (files_of setting) (start state) xs).kept ys, still_append setting (start state) xs ys)

-- where the first lines end the session, it ends
quit_stays : (setting : Setting) (state : State) (xs ys : List (List ℕ)) → (session_of_lines setting state xs).quit ≡ true → (session_of_lines setting state (xs ++ ys)).quit ≡ true
unfolding session_of_lines
quit_stays setting state xs ys e =
    let first = after_lines setting (files_of setting) (start state) xs in
    ap (λ (a : After). a.kept.quit) (lines_append setting (files_of setting) (start state) xs ys) ∙ ap (λ (a : After). a.kept.quit) (nothing_more setting (files_of setting) first.kept e ys) ∙ e

-- and where all lines don't end it, the first ones don't
goes_on : (setting : Setting) (state : State) (xs ys : List (List ℕ)) → (session_of_lines setting state (xs ++ ys)).quit ≡ false → (session_of_lines setting state xs).quit ≡ false
goes_on setting state xs ys e = elim (cases_Bool (session_of_lines setting state xs).quit) [
  | inl q ↦ (let no : ◌≡◌ {A = Bool} true false = sym (quit_stays setting state xs ys q) ∙ e in absurd (cc no))
  | inr q ↦ q
]

-- a session is that of its lines
of_lines : (user : User) (r : Room quel_sorts) (text : List ℕ) → session user.reading user.asker (before_all r) text ≡ session_of_lines (setting_for user) (before_all r) (lines_of text)
unfolding session session_of
of_lines user r text = refl

-- the session of what was heard
abbrev pub heard_of : User → Room quel_sorts → List ℕ → Session
heard_of user r text = session user.reading user.asker (before_all r) text

-- of a text, and of the lines that lie wholly in it and in some bytes behind it that have no newline
pub record Within (whole part : Session) : Type 0 where
  pub front : IsFront (output part) (output whole)
  pub goes_on : whole.quit ≡ false → part.quit ≡ false

within_is : (user : User) (r : Room quel_sorts) (text front rest : List ℕ) → r.script ≡ (text ++ front) ++ rest → within (length (text ++ front)) user r ≡ session_of_lines (setting_for user) (before_all r) (whole_lines (text ++ front))
within_is user r text front rest e =
    ap (λ (x : List ℕ). session_of_lines (setting_for user) (before_all r) (whole_lines x)) (ap (λ (x : List ℕ). take (length (text ++ front)) x) e ∙ take-append_seam (text ++ front) rest)

pub heard_within : (user : User) (r : Room quel_sorts) (text front rest : List ℕ) → r.script ≡ (text ++ front) ++ rest → list_all is_no_newline front ≡ true → Within (heard_of user r text) (within (length (text ++ front)) user r)
heard_within user r text front rest e free =
    let (more, lines) = front_of_lines text front free in
    let setting = setting_for user in
    let all : heard_of user r text ≡ session_of_lines setting (before_all r) (whole_lines (text ++ front) ++ more) = of_lines user r text ∙ ap (λ (x : List (List ℕ)). session_of_lines setting (before_all r) x) lines in
    rw (within_is user r text front rest e, all) (record { front = lines_front setting (before_all r) (whole_lines (text ++ front)) more; goes_on = goes_on setting (before_all r) (whole_lines (text ++ front)) more })

-- where the text is whole lines, nothing is missing
pub heard_exactly : (user : User) (r : Room quel_sorts) (text front rest : List ℕ) → r.script ≡ (text ++ front) ++ rest → IsWhole text → list_all is_no_newline front ≡ true → within (length (text ++ front)) user r ≡ heard_of user r text
heard_exactly user r text front rest e whole free =
    within_is user r text front rest e ∙ ap (λ (x : List (List ℕ)). session_of_lines (setting_for user) (before_all r) x) (lines_of_whole text front whole free) ∙ sym (of_lines user r text)

-- nothing was heard
pub nothing_prints : (user : User) (r : Room quel_sorts) → (output (heard_of user r []) ≡ []) × ((heard_of user r []).quit ≡ false)
unfolding session session_of session_of_lines lines_of after_lines over printed
nothing_prints user r = (refl, refl)
