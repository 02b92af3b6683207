-- A script that no stage has begun.
use Rattle.std.proofs.Common.{◌≡◌, refl, ap, true, List, [], ◌∷◌, ℕ}
use Rattle.quel_meaning.proofs.LeftOpen.{only_the_script}
use Rattle.quel_meaning.specs.Happening.{After, Setting, over, start}
use Rattle.quel_meaning.specs.Lines.{lines_of}
use Rattle.quel_meaning.specs.Running.{after_lines}
use Rattle.quel_meaning.specs.Session.{files_of, output, printed, session, session_of, session_of_lines}
use Rattle.quel_meaning.specs.State.{State}
use Rattle.quel_network.specs.Quel.{quel, setting_for}
use Rattle.quel_network.specs.Session.{after_script_at, end_of}
use Rattle.quel_network.specs.Sorts.{User, first_monitor}

all_lines : (setting : Setting) (state : State) (script : List ℕ) → after_script_at setting state.db state.shelf state.ranges first_monitor script ≡ after_lines setting (files_of setting) (start state) (lines_of script)
unfolding after_script_at over
all_lines setting state script = only_the_script setting (start state) (lines_of script)

-- what it prints is the output of its session
pub bytes_at_start : (user : User) (state : State) (script : List ℕ) → (quel user).script_bytes state.db state.shelf state.ranges first_monitor script ≡ output (session user.reading user.asker state script)
unfolding quel session session_of session_of_lines
bytes_at_start user state script = ap (λ (a : After). printed a.events) (all_lines (setting_for user) state script)

-- and it ends where its session does
pub end_at_start : (user : User) (state : State) (script : List ℕ)
    → (quel user).script_end state.db state.shelf state.ranges first_monitor script ≡ (let s = session user.reading user.asker state script in record { db = s.state.db; shelf = s.state.shelf; quit = s.quit })
unfolding quel session session_of session_of_lines
end_at_start user state script = ap end_of (all_lines (setting_for user) state script)

-- a script of which nothing is left
pub nothing_left : (user : User) (script : List ℕ) → (quel user).is_over script ≡ true → script ≡ []
unfolding quel
nothing_left user [] e = refl
nothing_left user (b ∷ bytes) e = absurd (cc e)
