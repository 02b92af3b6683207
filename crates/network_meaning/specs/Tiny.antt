-- A small language: each byte of the script is a batch of one statement.
-- A byte below 128 is added to the database, any other asks for all of it, and 0 is refused.
use Rattle.std.specs.Prelude.{◌==◌, ℕ, Bool, true, false, List, [], ◌∷◌, ◌++◌, Some, None, nat_lt, if◌then◌else◌, ⊤}
use Rattle.std.specs.declared.option.Option.{Option}
use Rattle.network_meaning.specs.Sorts.{Sorts, Message, Table, Outcome, Next, Read, After, Finished, SessionEnd, Kind}
use Rattle.network_meaning.specs.Sorts.{Cargo.tree, Cargo.change, Shown.head, Shown.row, Reply.done, Reply.refused, Said.shown, Said.replied, Message.text, Message.cargo, Message.said, Message.end, Message.quit, Outcome.tables, Outcome.made, Outcome.refuses, Meaning.runs, Next.no_more, Next.found, Event.sends, Event.leaves, Kind.answer, Kind.update}
use Rattle.network_meaning.specs.Language.{Language, db_after, shelf_after, followed_by}

-- what says nothing
pub data One : Type 0 where
  one : One

-- the database is a list of numbers; a batch is a statement or none; statements, trees, changes, rows and refusals are numbers
abbrev pub tiny_sorts : Sorts
tiny_sorts = record {
  Db = List ℕ;
  Shelf = One;
  Script = List ℕ;
  Monitor = One;
  Ranges = One;
  Batch = Option ℕ;
  Text = ℕ;
  Statement = ℕ;
  Tree = ℕ;
  Change = ℕ;
  Head = One;
  Row = ℕ;
  Refusal = ℕ;
}

-- the table of all numbers
abbrev pub tiny_table : List ℕ → Table tiny_sorts
tiny_table db = record { top = one; rows = db }

-- 0 is refused, a number below 128 is added, any other asks for all of them
abbrev pub tiny_ran : ℕ → List ℕ → One → Outcome tiny_sorts
tiny_ran n db shelf =
    if n == 0 then refuses 0 else (if nat_lt n 128 then made (db ++ n ∷ []) shelf else tables (tiny_table db ∷ []))

-- an update below 128, else an answer
abbrev pub tiny_kind : ℕ → Kind
tiny_kind n = if nat_lt n 128 then update else answer

-- what asks for the numbers asks for one table
abbrev pub tiny_heads : ℕ → List One
tiny_heads n = if n == 0 then [] else (if nat_lt n 128 then [] else one ∷ [])

-- the statement of the batch, if it has one
abbrev pub tiny_next : Option ℕ → Next tiny_sorts
tiny_next None = no_more
tiny_next (Some n) = found n 1 None

-- the next byte of the script is sent; at its end the monitor leaves
abbrev pub tiny_read : One → List ℕ → One → Read tiny_sorts
tiny_read m [] shelf = record { monitor = m; script = []; shelf = shelf; bytes = []; event = leaves }
tiny_read m (x ∷ xs) shelf = record { monitor = m; script = xs; shelf = shelf; bytes = []; event = sends x }

-- the bytes of a message: its number, where it has one
abbrev pub tiny_payload : Message tiny_sorts → List ℕ
tiny_payload (text x) = x ∷ []
tiny_payload (cargo (tree x)) = x ∷ []
tiny_payload (cargo (change x)) = x ∷ []
tiny_payload (said (shown (head h))) = []
tiny_payload (said (shown (row r))) = r ∷ []
tiny_payload (said (replied (refused r))) = r ∷ []
tiny_payload (said (replied done)) = []
tiny_payload end = []
tiny_payload quit = []

-- the message of this kind without a number
abbrev pub tiny_bare : ℕ → Option (Message tiny_sorts)
tiny_bare kind =
    if kind == 3 then Some (said (shown (head one))) else
    (if kind == 6 then Some end else
    (if kind == 8 then Some (said (replied done)) else
    (if kind == 10 then Some quit else None)))

-- the message of this kind with this number
abbrev pub tiny_numbered : ℕ → ℕ → Option (Message tiny_sorts)
tiny_numbered kind x =
    if kind == 1 then Some (text x) else
    (if kind == 2 then Some (cargo (tree x)) else
    (if kind == 4 then Some (said (shown (row x))) else
    (if kind == 5 then Some (cargo (change x)) else
    (if kind == 7 then Some (said (replied (refused x))) else None))))

-- the message of this kind and these bytes: it has a number or none
abbrev pub tiny_message : ℕ → List ℕ → Option (Message tiny_sorts)
tiny_message kind [] = tiny_bare kind
tiny_message kind (x ∷ []) = tiny_numbered kind x
tiny_message kind (x ∷ y ∷ xs) = None

-- a 1, the rows, and a 1
abbrev pub tiny_tables : List (Table tiny_sorts) → List ℕ
tiny_tables [] = []
tiny_tables (t ∷ ts) = 1 ∷ (t.rows ++ (1 ∷ tiny_tables ts))

-- tables, a 2 for done, a 3 for a refusal
abbrev pub tiny_reply : Outcome tiny_sorts → List ℕ
tiny_reply (tables ts) = tiny_tables ts
tiny_reply (made db shelf) = 2 ∷ []
tiny_reply (refuses r) = 3 ∷ []

-- the statement of the batch is run
abbrev pub tiny_batch : List ℕ → One → One → Option ℕ → After tiny_sorts
tiny_batch db shelf ranges None = record { db = db; shelf = shelf; ranges = ranges; bytes = [] }
tiny_batch db shelf ranges (Some n) =
    record { db = db_after {S = tiny_sorts} db (tiny_ran n db shelf); shelf = shelf_after {S = tiny_sorts} shelf (tiny_ran n db shelf); ranges = ranges; bytes = tiny_reply (tiny_ran n db shelf) ++ [] }

-- the statements of the script are run
abbrev pub tiny_script : List ℕ → One → One → One → List ℕ → List ℕ
tiny_script db shelf ranges m [] = []
tiny_script db shelf ranges m (x ∷ xs) =
    let a = tiny_batch db shelf ranges (Some x) in
    a.bytes ++ tiny_script a.db a.shelf a.ranges m xs

-- the statement of the batch, as it is finished
abbrev pub tiny_statements : List ℕ → One → One → Option ℕ → List (Finished tiny_sorts)
tiny_statements db shelf ranges None = []
tiny_statements db shelf ranges (Some n) = record { reply = tiny_reply (tiny_ran n db shelf); db = db_after {S = tiny_sorts} db (tiny_ran n db shelf); later = [] } ∷ []

-- the statements of the script, as they are finished
abbrev pub tiny_list : List ℕ → One → One → One → List ℕ → List (Finished tiny_sorts)
tiny_list db shelf ranges m [] = []
tiny_list db shelf ranges m (x ∷ xs) =
    let a = tiny_batch db shelf ranges (Some x) in
    followed_by {S = tiny_sorts} (tiny_script a.db a.shelf a.ranges m xs) (tiny_statements db shelf ranges (Some x)) ++ tiny_list a.db a.shelf a.ranges m xs

-- the database behind all statements of the script; no command ends a session
abbrev pub tiny_end : List ℕ → One → One → One → List ℕ → SessionEnd tiny_sorts
tiny_end db shelf ranges m [] = record { db = db; shelf = shelf; quit = false }
tiny_end db shelf ranges m (x ∷ xs) =
    let a = tiny_batch db shelf ranges (Some x) in
    tiny_end a.db a.shelf a.ranges m xs

-- nothing is left
abbrev pub tiny_over : List ℕ → Bool
tiny_over [] = true
tiny_over (x ∷ xs) = false

-- the small language
abbrev pub tiny : Language tiny_sorts
tiny = record {
  meaning = λ db shelf ranges n. runs (tiny_ran n db shelf);
  lined = λ line r. r;
  next = tiny_next;
  start = λ x. Some x;
  read = tiny_read;
  kind = tiny_kind;
  heads = tiny_heads;
  outcome = tiny_ran;
  Fits = λ t db. ⊤;
  laid = λ c db. db ++ c ∷ [];
  IsLawful = λ c db. ⊤;
  head_bytes = λ h. 1 ∷ [];
  row_bytes = λ h r. r ∷ [];
  rule_bytes = λ h. 1 ∷ [];
  row_fits = λ h r. true;
  done_bytes = 2 ∷ [];
  refusal_bytes = λ r. 3 ∷ [];
  payload = tiny_payload;
  message_of = tiny_message;
  batch_runs = tiny_batch;
  script_bytes = tiny_script;
  batch_statements = tiny_statements;
  script_statements = tiny_list;
  script_end = tiny_end;
  is_over = tiny_over;
}
