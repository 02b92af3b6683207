-- What the equation uses of a language.
use Rattle.std.specs.Prelude.{◌≡◌, ◌<◌, ℕ, true, false, List, [], ◌∷◌, map, length, Some, ⊤}
use Rattle.network_meaning.specs.Sorts.{Sorts, Message, Table, Outcome.tables, Outcome.refuses, Meaning.objects, Next.bad, Event.sends}
use Rattle.network_meaning.specs.Sorts.{Cargo.tree, Cargo.change, Reply.done, Reply.refused, Said.shown, Said.replied, Message.text, Message.cargo, Message.said, Message.end, Message.quit}
use Rattle.network_meaning.specs.Language.{Language, Stand, EndsAfter, tops, after_next, after_event, statements_after_next, statements_after_event}
use Rattle.network_meaning.specs.Frames.{may_be_cut}
use Rattle.network_meaning.specs.LocalSteps.{all_shown}
use Rattle.network_meaning.specs.Spelled.{Spelled, EachSpelled, IsLine}

-- each of these rows fits this head
abbrev pub RowsFit : {S : Sorts} → Language S → S.Head → List S.Row → Type 0
RowsFit L h [] = ⊤
RowsFit L h (r ∷ rs) = (L.row_fits h r ≡ true) × RowsFit L h rs

-- the rows of each table fit its head
abbrev pub TablesFit : {S : Sorts} → Language S → List (Table S) → Type 0
TablesFit L [] = ⊤
TablesFit L (t ∷ ts) = RowsFit L t.top t.rows × TablesFit L ts

-- all that the equation uses
pub record Laws {S : Sorts} (L : Language S) : Type 0 where
  pub batch : (db : S.Db) (shelf : S.Shelf) (ranges : S.Ranges) (b : S.Batch) → L.batch_runs db shelf ranges b ≡ after_next L db shelf ranges (L.next b)
  pub script : (db : S.Db) (shelf : S.Shelf) (ranges : S.Ranges) (m : S.Monitor) (script : S.Script) → L.script_bytes db shelf ranges m script ≡ (let got = L.read m script shelf in after_event L db ranges got got.event)
  pub batch_list : (db : S.Db) (shelf : S.Shelf) (ranges : S.Ranges) (b : S.Batch) → L.batch_statements db shelf ranges b ≡ statements_after_next L db shelf ranges (L.next b)
  pub script_list : (db : S.Db) (shelf : S.Shelf) (ranges : S.Ranges) (m : S.Monitor) (script : S.Script) → L.script_statements db shelf ranges m script ≡ (let got = L.read m script shelf in statements_after_event L db ranges got got.event)
  pub script_ends : (db : S.Db) (shelf : S.Shelf) (ranges : S.Ranges) (m : S.Monitor) (script : S.Script) → (let got = L.read m script shelf in EndsAfter L db ranges got got.event (L.script_end db shelf ranges m script))
  pub batch_places : (db : S.Db) (shelf : S.Shelf) (ranges : S.Ranges) (b : S.Batch) → Stand (L.batch_runs db shelf ranges b).bytes (L.batch_statements db shelf ranges b)
  pub script_places : (db : S.Db) (shelf : S.Shelf) (ranges : S.Ranges) (m : S.Monitor) (script : S.Script) → Stand (L.script_bytes db shelf ranges m script) (L.script_statements db shelf ranges m script)
  -- the tables of a tree have the heads that it asks for, whatever the database is
  pub heads : (t : S.Tree) (db : S.Db) (shelf : S.Shelf) (ts : List (Table S)) → L.outcome t db shelf ≡ tables ts → tops ts ≡ L.heads t
  -- the rows of what a fit tree asks for fit the head of their table
  pub rows : (t : S.Tree) (db : S.Db) (shelf : S.Shelf) (ts : List (Table S)) → L.Fits t db → L.outcome t db shelf ≡ tables ts → TablesFit L ts
  -- what the stages give is spelled: a batch that the monitor sends
  pub text_spelled : (m : S.Monitor) (script : S.Script) (shelf : S.Shelf) (t : S.Text) → (L.read m script shelf).event ≡ sends t → Spelled L (text t)
  -- a tree that fits a database
  pub tree_spelled : (t : S.Tree) (db : S.Db) → L.Fits t db → Spelled L (cargo (tree t))
  -- a change that is lawful for a database
  pub change_spelled : (c : S.Change) (db : S.Db) → L.IsLawful c db → Spelled L (cargo (change c))
  -- heads and rows of what a fit tree asks for
  pub tables_spelled : (t : S.Tree) (db : S.Db) (shelf : S.Shelf) (ts : List (Table S)) → L.Fits t db → L.outcome t db shelf ≡ tables ts → EachSpelled L (map (λ s. said (shown s)) (all_shown ts))
  -- a refusal of a fit tree, one of a statement, and one of what is no statement
  pub outcome_spelled : (t : S.Tree) (db : S.Db) (shelf : S.Shelf) (r : S.Refusal) → L.Fits t db → L.outcome t db shelf ≡ refuses r → Spelled L (said (replied (refused r)))
  pub objection_spelled : (db : S.Db) (shelf : S.Shelf) (ranges : S.Ranges) (s : S.Statement) (r : S.Refusal) → L.meaning db shelf ranges s ≡ objects r → Spelled L (said (replied (refused r)))
  pub syntax_spelled : (b : S.Batch) (r : S.Refusal) → L.next b ≡ bad r → Spelled L (said (replied (refused r)))
  -- a refusal that is spelled, with the line of a statement
  pub line_spelled : (line : ℕ) (r : S.Refusal) → IsLine L line → Spelled L (said (replied (refused r))) → Spelled L (said (replied (refused (L.lined line r))))
  pub done_spelled : Spelled L (said (replied done))
  pub end_spelled : Spelled L end
  pub quit_spelled : Spelled L quit
  -- a reply, an end and a quit are read from fewer bytes than a More frame has
  pub short : (kind : ℕ) (bytes : List ℕ) (m : Message S) → L.message_of kind bytes ≡ Some m → may_be_cut m ≡ false → length bytes < 4096
