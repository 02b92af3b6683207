-- A script that no stage has begun.
use Rattle.std.proofs.Common.{◌≡◌, refl, ap, ◌∙◌, ℕ, true, List, [], ◌∷◌, map, length}
use Rattle.std.specs.Prelude.{◌+◌}
use Rattle.calculus.specs.Database.{Db}
use Rattle.quel_meaning.specs.Happening.{Setting, Event, Wrote, Ran, After, over, start}
use Rattle.quel_meaning.specs.Lines.{lines_of}
use Rattle.quel_meaning.specs.Running.{after_lines}
use Rattle.quel_meaning.specs.Session.{databases_after, endings_from, files_of, output, databases, replies, session, session_of, session_of_lines, printed}
use Rattle.quel_meaning.specs.State.{State}
use Rattle.quel_meaning.proofs.LeftOpen.{only_the_script}
use Rattle.quel_network.specs.Quel.{quel, setting_for}
use Rattle.quel_network.specs.Session.{end_of, finished, is_read, after_script_at}
use Rattle.quel_network.specs.Sorts.{User, first_monitor}

-- what is left is the script, as a session has it
pub all_lines : (setting : Setting) (state : State) (script : List ℕ)
    → after_script_at setting state.db state.shelf state.ranges first_monitor script ≡ after_lines setting (files_of setting) (start state) (lines_of script)
unfolding after_script_at over
all_lines setting state script = only_the_script setting (start state) (lines_of script)

-- the databases of events are those of the statements that ran
pub databases_of : (events : List Event) → map (λ f. f.db) (finished events) ≡ databases_after events
databases_of [] = refl
databases_of (Wrote bytes ∷ events) = databases_of events
databases_of (Ran reply db ∷ events) = ap (λ (dbs : List Db). db ∷ dbs) (databases_of events)

-- and so are the replies
pub replies_of : (before : ℕ) (events : List Event) → map (λ f. f.reply) (finished events) ≡ map (λ e. e.reply) (endings_from before events)
replies_of before [] = refl
replies_of before (Wrote bytes ∷ events) = replies_of (before + length bytes) events
replies_of before (Ran reply db ∷ events) = ap (λ (rs : List (List ℕ)). reply ∷ rs) (replies_of (before + length reply) events)

-- the bytes of a script
pub bytes_at_start : (user : User) (state : State) (script : List ℕ)
    → (quel user).script_bytes state.db state.shelf state.ranges first_monitor script ≡ output (session user.reading user.asker state script)
unfolding quel session session_of session_of_lines
bytes_at_start user state script = ap (λ (a : After). printed a.events) (all_lines (setting_for user) state script)

-- the databases of a script
pub databases_at_start : (user : User) (state : State) (script : List ℕ)
    → state.db ∷ map (λ f. f.db) ((quel user).script_statements state.db state.shelf state.ranges first_monitor script) ≡ databases state.db (session user.reading user.asker state script)
unfolding quel session session_of session_of_lines
databases_at_start user state script =
    ap (λ (dbs : List Db). state.db ∷ dbs) (databases_of (after_script_at (setting_for user) state.db state.shelf state.ranges first_monitor script).events ∙ ap (λ (a : After). databases_after a.events) (all_lines (setting_for user) state script))

-- the replies of a script
pub replies_at_start : (user : User) (state : State) (script : List ℕ)
    → map (λ f. f.reply) ((quel user).script_statements state.db state.shelf state.ranges first_monitor script) ≡ replies (session user.reading user.asker state script)
unfolding quel session session_of session_of_lines
replies_at_start user state script =
    replies_of 0 (after_script_at (setting_for user) state.db state.shelf state.ranges first_monitor script).events ∙ ap (λ (a : After). map (λ e. e.reply) (endings_from 0 a.events)) (all_lines (setting_for user) state script)

-- the end of a script
pub end_at_start : (user : User) (state : State) (script : List ℕ)
    → (quel user).script_end state.db state.shelf state.ranges first_monitor script ≡ (let s = session user.reading user.asker state script in record { db = s.state.db; shelf = s.state.shelf; quit = s.quit })
unfolding quel session session_of session_of_lines
end_at_start user state script = ap end_of (all_lines (setting_for user) state script)

-- a script of which nothing is left
pub nothing_left : (user : User) (script : List ℕ) → (quel user).is_over script ≡ true → script ≡ []
unfolding quel
nothing_left user [] e = refl
nothing_left user (b ∷ bytes) e = absurd (cc e)
