-- What sessions obey that the four stages work off: the laws.
use Rattle.std.proofs.Common.{◌≡◌, refl, ap, ◌∙◌, ℕ, List, [], ◌∷◌, ◌++◌, append-nil}
use Rattle.calculus.specs.Database.{Db}
use Rattle.fault_io.specs.Files.{Files}
use Rattle.network_meaning.specs.Sorts.{Finished, Meaning, Meaning.names, Meaning.objects, Meaning.runs, Next, After as Left_off}
use Rattle.network_meaning.specs.Language.{Stand, after_meaning, after_next, after_event, statements_after_meaning, statements_after_next, statements_after_event}
use Rattle.quel_grammar.specs.Next.{Next as Read, Nothing, Read as WasRead, Syntax, line_at}
use Rattle.quel_meaning.specs.Batch.{statement_at}
use Rattle.quel_meaning.specs.Happening.{After}
use Rattle.quel_meaning.specs.Printed.{refusal_bytes}
use Rattle.quel_meaning.specs.Ranges.{Ranges}
use Rattle.quel_meaning.specs.Running.{after_statement}
use Rattle.quel_meaning.specs.Session.{printed}
use Rattle.quel_meaning.specs.State.{State}
use Rattle.quel_meaning.proofs.Grammatical.{moves_on}
use Rattle.quel_meaning.proofs.LeftOfBatch.{nothing_left, statement_next, refusal_next}
use Rattle.quel_network.specs.EventLaws.{Trace, finished_with, replies_stand}
use Rattle.quel_network.specs.MeaningLaws.{Left, left_of, matches_statement}
use Rattle.quel_network.specs.Quel.{quel, setting_for}
use Rattle.quel_network.specs.ScriptLaws.{script_trace}
use Rattle.quel_network.specs.Session.{finished, kept_at, after_batch_at, after_script_at}
use Rattle.quel_network.specs.Sorts.{User, Monitor, Batch, first_monitor, quel_sorts}
use Rattle.quel_network.specs.Trees.{next_of, next_in, meaning_of}

-- ---- batches

-- where a batch leaves the session, and the statements that ran
abbrev pub BatchTrace : Type 0
BatchTrace = Left_off quel_sorts × List (Finished quel_sorts)

-- the session is left so, and these bytes were printed
abbrev pub left_off : State → List ℕ → Left_off quel_sorts
left_off state bytes = record { db = state.db; shelf = state.shelf; ranges = state.ranges; bytes = bytes }

-- what is known of a batch that ran
abbrev pub batch_trace : After → BatchTrace
batch_trace a = (left_off a.kept.state (printed a.events), finished a.events)

-- what is known of a batch by what is read of it next
abbrev pub next_trace : User → State → Next quel_sorts → BatchTrace
next_trace user state next =
    (after_next (quel user) state.db state.shelf state.ranges next, statements_after_next (quel user) state.db state.shelf state.ranges next)

-- what is known of a statement that left and printed this, and of the rest of its batch
abbrev pub rest_trace : User → Batch → Left → BatchTrace
rest_trace user b left =
    let a = after_batch_at (setting_for user) left.0.db left.0.shelf left.0.ranges b in
    (left_off a.kept.state (left.1 ++ printed a.events), finished_with left.1 left.0.db (printed a.events) ∷ finished a.events)

rest_meant : (user : User) (b : Batch) (line : ℕ) (state : State) (m : Meaning quel_sorts)
    → rest_trace user b (left_of user line state m)
    ≡ (after_meaning (quel user) state.db state.shelf state.ranges line b m, statements_after_meaning (quel user) state.db state.shelf state.ranges line b m)
unfolding quel
rest_meant user b line state (names ranges) = refl
rest_meant user b line state (objects r) = refl
rest_meant user b line state (runs outcome) = refl

by_next : (user : User) (state : State) (b : Batch) (next : Read) → user.reading b.text b.from ≡ next
    → batch_trace (after_batch_at (setting_for user) state.db state.shelf state.ranges b) ≡ next_trace user state (next_of b next)
unfolding quel printed after_statement after_batch_at
by_next user state b Nothing e =
    ap batch_trace (nothing_left (setting_for user) b.text b.from (kept_at first_monitor state.db state.shelf state.ranges) (moves_on user.reading user.grammatical b.text) e)
by_next user state b (WasRead s end) e =
    let placed = statement_at b.text b.from s in
    let rest : Batch = record { text = b.text; from = end } in
    ap batch_trace (statement_next (setting_for user) b.text b.from (kept_at first_monitor state.db state.shelf state.ranges) s end (moves_on user.reading user.grammatical b.text) e)
    ∙ ap (rest_trace user rest) (matches_statement user placed.line state s)
    ∙ rest_meant user rest placed.line state (meaning_of user.asker state.db state.shelf state.ranges s)
by_next user state b (Syntax place) e =
    ap batch_trace (refusal_next (setting_for user) b.text b.from (kept_at first_monitor state.db state.shelf state.ranges) place (moves_on user.reading user.grammatical b.text) e)
    ∙ ap (λ (bytes : List ℕ). (left_off state bytes, [])) (append-nil (refusal_bytes (record { code = 1; line = line_at b.text place; row = 0 })))

-- both by what is read of the batch next
both_of_batch : (user : User) (state : State) (b : Batch)
    → batch_trace (after_batch_at (setting_for user) state.db state.shelf state.ranges b) ≡ next_trace user state (next_in user.reading b)
unfolding next_in
both_of_batch user state b = by_next user state b (user.reading b.text b.from) refl

-- a batch is its next statement, and what is left behind that
pub batch_law : (user : User) (db : Db) (shelf : Files) (ranges : Ranges) (b : Batch)
    → (quel user).batch_runs db shelf ranges b ≡ after_next (quel user) db shelf ranges ((quel user).next b)
unfolding quel
batch_law user db shelf ranges b = ap (λ (t : BatchTrace). t.0) (both_of_batch user (record { db = db; shelf = shelf; ranges = ranges }) b)

-- so are the statements that run
pub batch_list_law : (user : User) (db : Db) (shelf : Files) (ranges : Ranges) (b : Batch)
    → (quel user).batch_statements db shelf ranges b ≡ statements_after_next (quel user) db shelf ranges ((quel user).next b)
unfolding quel
batch_list_law user db shelf ranges b = ap (λ (t : BatchTrace). t.1) (both_of_batch user (record { db = db; shelf = shelf; ranges = ranges }) b)

-- their replies stand in what the batch prints
pub batch_places_law : (user : User) (db : Db) (shelf : Files) (ranges : Ranges) (b : Batch)
    → Stand {S = quel_sorts} ((quel user).batch_runs db shelf ranges b).bytes ((quel user).batch_statements db shelf ranges b)
unfolding quel
batch_places_law user db shelf ranges b = replies_stand (after_batch_at (setting_for user) db shelf ranges b).events

-- ---- scripts

-- a script is what the monitor reads next, and what is left behind that
pub script_law : (user : User) (db : Db) (shelf : Files) (ranges : Ranges) (m : Monitor) (script : List ℕ)
    → (quel user).script_bytes db shelf ranges m script ≡ (let got = (quel user).read m script shelf in after_event (quel user) db ranges got got.event)
unfolding quel
script_law user db shelf ranges m script = ap (λ (t : Trace). t.0) (script_trace user db ranges m script shelf)

-- so are the statements that run
pub script_list_law : (user : User) (db : Db) (shelf : Files) (ranges : Ranges) (m : Monitor) (script : List ℕ)
    → (quel user).script_statements db shelf ranges m script ≡ (let got = (quel user).read m script shelf in statements_after_event (quel user) db ranges got got.event)
unfolding quel
script_list_law user db shelf ranges m script = ap (λ (t : Trace). t.1) (script_trace user db ranges m script shelf)

-- their replies stand in what the script prints
pub script_places_law : (user : User) (db : Db) (shelf : Files) (ranges : Ranges) (m : Monitor) (script : List ℕ)
    → Stand {S = quel_sorts} ((quel user).script_bytes db shelf ranges m script) ((quel user).script_statements db shelf ranges m script)
unfolding quel
script_places_law user db shelf ranges m script = replies_stand (after_script_at (setting_for user) db shelf ranges m script).events
