-- What statements and trees leave as it was.
use Rattle.std.proofs.Common.{◌≡◌, refl, ap, ◌∙◌, Bool, true, false, ℕ, List, Option, Some, None}
use Rattle.std.specs.Prelude.{Result, Ok, Err}
use Rattle.calculus.specs.declared.query.RelKey.{RelKey}
use Rattle.calculus.specs.declared.request.Asked.{Asked}
use Rattle.calculus.specs.declared.request.CopyCol.{CopyCol}
use Rattle.calculus.specs.declared.request.Checked.{Checked}
use Rattle.calculus.specs.declared.request.Checked.TheVariants.{Answer, Update, Utility}
use Rattle.calculus.specs.declared.request.Utility.{Utility as Work}
use Rattle.calculus.specs.declared.request.Utility.TheVariants.{Copy}
use Rattle.calculus.specs.declared.change.DbChange.{DbChange}
use Rattle.calculus.specs.declared.reply.Refusal.{Refusal}
use Rattle.calculus.specs.declared.reply.Reply.TheVariants.{Nothing, Refused}
use Rattle.calculus.specs.declared.schema.RelInfo.{RelInfo}
use Rattle.calculus.specs.declared.statement.Statement.{Statement}
use Rattle.calculus.specs.declared.statement.Statement.TheVariants.{Range}
use Rattle.calculus.specs.Who.{Who, Asker, AsUser}
use Rattle.calculus.specs.Database.{Db}
use Rattle.calculus.specs.Replacement.{updated}
use Rattle.calculus.specs.Finding.{found}
use Rattle.quel_meaning.specs.Ranges.{declared}
use Rattle.fault_io.specs.Files.{Files}
use Rattle.quel_meaning.specs.State.{State, Outcome}
use Rattle.quel_meaning.specs.Planned.{planned}
use Rattle.quel_meaning.specs.Copying.{copied_from, copied_into, file_of_constant}
use Rattle.quel_meaning.specs.Meaning.{Effect, Resolving, change_effect, numbered_effect, file_effect, copy_effect, utility_effect, tree_meaning, ruled_tree, checked_permitted, is_range, refused_outcome, range_outcome, with_ranges, permitted_tree, tree_if_permitted, checked_tree_by, checked_outcome, meaning_by}

-- ---- a refusal changes nothing

-- where the reply refuses, the database and the shelf are these
abbrev KeptBy : Db → Files → Effect → Type 0
KeptBy db shelf e = (r : Refusal) → e.reply ≡ Refused r → (e.db ≡ db) × (e.shelf ≡ shelf)

kept_change : (db : Db) (shelf : Files) (c : Result DbChange Refusal) → KeptBy db shelf (change_effect db shelf c)
kept_change db shelf (Ok change) r h = cc h
kept_change db shelf (Err x) r h = (refl, refl)

kept_numbered : (db : Db) (shelf : Files) (c : Result DbChange ℕ) → KeptBy db shelf (numbered_effect db shelf c)
kept_numbered db shelf (Ok change) r h = cc h
kept_numbered db shelf (Err number) r h = (refl, refl)

kept_file : (db : Db) (shelf : Files) (file : List ℕ) (bytes : Result (List ℕ) Refusal) → KeptBy db shelf (file_effect db shelf file bytes)
kept_file db shelf file (Ok bytes) r h = cc h
kept_file db shelf file (Err x) r h = (refl, refl)

kept_copy : (db : Db) (shelf : Files) (user : List ℕ) (rel : RelKey) (columns : List CopyCol) (from : Bool) (constant : List ℕ)
    → KeptBy db shelf (copy_effect db shelf user rel columns from constant)
kept_copy db shelf user rel columns true constant = kept_change db shelf (copied_from db shelf user rel columns constant)
kept_copy db shelf user rel columns false constant = kept_file db shelf (file_of_constant constant) (copied_into db user rel columns)

kept_utility : (db : Db) (shelf : Files) (user : List ℕ) (work : Work) → KeptBy db shelf (utility_effect db shelf user work)
unfolding utility_effect
kept_utility db shelf user (Copy rel columns from constant) = kept_copy db shelf user rel columns from constant
kept_utility db shelf user work = kept_numbered db shelf (planned db user work)

kept_tree : (db : Db) (shelf : Files) (who : Who) (user : List ℕ) (tree : Checked) → KeptBy db shelf (tree_meaning db shelf who user tree)
unfolding tree_meaning
kept_tree db shelf who user (Answer asked) = λ r h. (refl, refl)
kept_tree db shelf who user (Update u) = kept_numbered db shelf (updated db who u)
kept_tree db shelf who user (Utility work) = kept_utility db shelf user work

-- where the reply refuses, the state is this one
abbrev StateKeptBy : State → Outcome → Type 0
StateKeptBy state o = (r : Refusal) → o.reply ≡ Refused r → o.state ≡ state

same_state : (state : State) (e : Effect) → (e.db ≡ state.db) × (e.shelf ≡ state.shelf) → (with_ranges state.ranges e).state ≡ state
same_state state e h =
    ap (λ db. record { db = db; shelf = e.shelf; ranges = state.ranges }) h.0 ∙ ap (λ shelf. record { db = state.db; shelf = shelf; ranges = state.ranges }) h.1

kept_checked : (state : State) (asker : Asker) (tree : Result Checked ℕ) → StateKeptBy state (checked_outcome state asker tree)
kept_checked state asker (Err number) = λ r h. refl
kept_checked state asker (Ok tree) = λ r h.
    same_state state (tree_meaning state.db state.shelf (AsUser asker) asker.user (ruled_tree state.db tree))
    (kept_tree state.db state.shelf (AsUser asker) asker.user (ruled_tree state.db tree) r h)

kept_range : (state : State) (var : List ℕ) (info : Option RelInfo) → StateKeptBy state (range_outcome state var info)
kept_range state var None = λ r h. refl
kept_range state var (Some info) = λ r h. cc h

-- a statement that is refused leaves the database, the shelf and the ranges as they were
kept_statement : (resolved : Resolving) (state : State) (asker : Asker) (s : Statement) → StateKeptBy state (meaning_by resolved state asker s)
unfolding meaning_by
kept_statement resolved state asker (Range var rel) = kept_range state var (found state.db asker.user rel)
kept_statement resolved state asker s = kept_checked state asker (checked_tree_by resolved state.db asker state.ranges s)

pub refused_keeps : (resolved : Resolving) (state : State) (asker : Asker) (s : Statement) (r : Refusal)
    → (meaning_by resolved state asker s).reply ≡ Refused r → (meaning_by resolved state asker s).state ≡ state
refused_keeps resolved state asker s = kept_statement resolved state asker s

-- ---- range

range_is : (resolved : Resolving) (state : State) (asker : Asker) (var rel : List ℕ)
    → meaning_by resolved state asker (Range var rel) ≡ range_outcome state var (found state.db asker.user rel)
unfolding meaning_by
range_is resolved state asker var rel = refl

-- a variable ranges over what is found under the name
pub range_declares : (resolved : Resolving) (state : State) (asker : Asker) (var rel : List ℕ) (info : RelInfo)
    → found state.db asker.user rel ≡ Some info
    → meaning_by resolved state asker (Range var rel) ≡ record { state = record state { ranges = declared state.ranges var info.key }; reply = Nothing }
range_declares resolved state asker var rel info f = range_is resolved state asker var rel ∙ ap (range_outcome state var) f

-- where nothing is found under the name it is refused
pub range_refused : (resolved : Resolving) (state : State) (asker : Asker) (var rel : List ℕ)
    → found state.db asker.user rel ≡ None → meaning_by resolved state asker (Range var rel) ≡ refused_outcome state 10
range_refused resolved state asker var rel f = range_is resolved state asker var rel ∙ ap (range_outcome state var) f

-- ---- the ranges that other statements leave

kept_ranges_checked : (state : State) (asker : Asker) (tree : Result Checked ℕ) → (checked_outcome state asker tree).state.ranges ≡ state.ranges
kept_ranges_checked state asker (Err number) = refl
kept_ranges_checked state asker (Ok tree) = refl

pub other_statements_keep_ranges : (resolved : Resolving) (state : State) (asker : Asker) (s : Statement)
    → is_range s ≡ false → (meaning_by resolved state asker s).state.ranges ≡ state.ranges
unfolding meaning_by
other_statements_keep_ranges resolved state asker (Range var rel) = λ h. cc h
other_statements_keep_ranges resolved state asker s = λ h. kept_ranges_checked state asker (checked_tree_by resolved state.db asker state.ranges s)

-- ---- what asks

kept_answer : (state : State) (asker : Asker) (asked : List Asked) (permitted : Bool) → (checked_outcome state asker (permitted_tree permitted (Answer asked))).state ≡ state
unfolding tree_meaning ruled_tree
kept_answer state asker asked true = refl
kept_answer state asker asked false = refl

-- a statement whose tree asks changes nothing
pub what_asks_keeps : (resolved : Resolving) (state : State) (asker : Asker) (s : Statement) (asked : List Asked)
    → is_range s ≡ false → resolved state.db asker.user state.ranges s ≡ Ok (Answer asked) → (meaning_by resolved state asker s).state ≡ state
unfolding meaning_by checked_tree_by
what_asks_keeps resolved state asker (Range var rel) asked = λ h e. cc h
what_asks_keeps resolved state asker s asked = λ h e.
    ap (λ tree. (checked_outcome state asker (tree_if_permitted state.db asker tree)).state) e ∙ kept_answer state asker asked (checked_permitted state.db (AsUser asker) (Answer asked))
