-- The small language meets the laws.
use Rattle.std.proofs.Common.{◌≡◌, ◌<◌, ◌==◌, if◌then◌else◌, nat_lt, ℕ, Bool, true, false, List, [], ◌∷◌, ◌++◌, Some, None, refl, sym, ap, ◌∙◌, append_assoc, length, arith}
use Rattle.std.specs.declared.option.Option.{Option}
use Rattle.network_meaning.specs.Sorts.{Message, Cargo.tree, Cargo.change, Shown.head, Shown.row, Reply.done, Reply.refused, Said.shown, Said.replied, Message.text, Message.cargo, Message.said, Message.end, Message.quit, Table, After, Finished, Outcome, Outcome.tables, Outcome.made, Outcome.refuses}
use Rattle.network_meaning.specs.Language.{tops, db_after, shelf_after, EndsAfter, Stand, after_next, after_event, statements_after_next, statements_after_event, reply_bytes, lines_of, tables_bytes}
use Rattle.network_meaning.specs.Frames.{kind_of, may_be_cut}
use Rattle.network_meaning.specs.Spelled.{EachSpelled}
use Rattle.network_meaning.specs.Laws.{Laws, RowsFit, TablesFit}
use Rattle.network_meaning.specs.Tiny.{tiny, tiny_sorts, tiny_ran, tiny_table, tiny_heads, tiny_batch, tiny_reply, tiny_statements, tiny_list, tiny_end, tiny_tables, tiny_payload, tiny_message, tiny_next, tiny_script, tiny_read, One, One.one}

lines : (rs : List ℕ) (xs : List ℕ) → lines_of tiny one rs ++ xs ≡ rs ++ xs
lines [] xs = refl
lines (r ∷ rs) xs = ap (λ (ys : List ℕ). r ∷ ys) (lines rs xs)

tables_law : (ts : List (Table tiny_sorts)) → tiny_tables ts ≡ tables_bytes tiny ts
tables_law [] = refl
tables_law (t ∷ ts) = ap (λ (x : List ℕ). 1 ∷ x) (ap (λ (x : List ℕ). t.rows ++ (1 ∷ x)) (tables_law ts) ∙ by_top t.top (sym (lines t.rows (1 ∷ tables_bytes tiny ts))))
  where
    by_top : (h : One) → t.rows ++ (1 ∷ tables_bytes tiny ts) ≡ lines_of tiny one t.rows ++ (1 ∷ tables_bytes tiny ts) → t.rows ++ (1 ∷ tables_bytes tiny ts) ≡ lines_of tiny h t.rows ++ (1 ∷ tables_bytes tiny ts)
    by_top one e = e

reply_law : (outcome : Outcome tiny_sorts) → tiny_reply outcome ≡ reply_bytes tiny 1 outcome
reply_law (tables ts) = tables_law ts
reply_law (made db shelf) = refl
reply_law (refuses r) = refl

batch_law : (db : List ℕ) (shelf ranges : One) (b : Option ℕ) → tiny_batch db shelf ranges b ≡ after_next tiny db shelf ranges (tiny_next b)
batch_law db shelf ranges None = refl
batch_law db shelf ranges (Some n) =
    ap (λ (x : List ℕ). record_of (x ++ [])) (reply_law (tiny_ran n db shelf))
  where
    record_of : List ℕ → After tiny_sorts
    record_of bytes = record { db = db_after {S = tiny_sorts} db (tiny_ran n db shelf); shelf = shelf_after {S = tiny_sorts} shelf (tiny_ran n db shelf); ranges = ranges; bytes = bytes }

read_law : (m : Message tiny_sorts) → tiny_message (kind_of m) (tiny_payload m) ≡ Some m
read_law (text x) = refl
read_law (cargo (tree x)) = refl
read_law (cargo (change x)) = refl
read_law (said (shown (head one))) = refl
read_law (said (shown (row r))) = refl
read_law (said (replied done)) = refl
read_law (said (replied (refused r))) = refl
read_law end = refl
read_law quit = refl

script_law : (db : List ℕ) (shelf ranges m : One) (script : List ℕ) → tiny_script db shelf ranges m script ≡ (let got = tiny_read m script shelf in after_event tiny db ranges got got.event)
script_law db shelf ranges m [] = refl
script_law db shelf ranges m (x ∷ xs) = refl

statements_law : (db : List ℕ) (shelf ranges : One) (b : Option ℕ) → tiny_statements db shelf ranges b ≡ statements_after_next tiny db shelf ranges (tiny_next b)
statements_law db shelf ranges None = refl
statements_law db shelf ranges (Some n) =
    ap (λ (x : List ℕ). listed x) (reply_law (tiny_ran n db shelf))
  where
    listed : List ℕ → List (Finished tiny_sorts)
    listed reply = record { reply = reply; db = db_after {S = tiny_sorts} db (tiny_ran n db shelf); later = [] } ∷ []

list_law : (db : List ℕ) (shelf ranges m : One) (script : List ℕ) → tiny_list db shelf ranges m script ≡ (let got = tiny_read m script shelf in statements_after_event tiny db ranges got got.event)
list_law db shelf ranges m [] = refl
list_law db shelf ranges m (x ∷ xs) = refl

ends_law : (db : List ℕ) (shelf ranges m : One) (script : List ℕ) → (let got = tiny_read m script shelf in EndsAfter tiny db ranges got got.event (tiny_end db shelf ranges m script))
ends_law db shelf ranges m [] = record { database = refl; files = refl; read = λ e. refl }
ends_law db shelf ranges m (x ∷ xs) = refl

batch_places : (db : List ℕ) (shelf ranges : One) (b : Option ℕ) → Stand {S = tiny_sorts} (tiny_batch db shelf ranges b).bytes (tiny_statements db shelf ranges b)
batch_places db shelf ranges None = tt
batch_places db shelf ranges (Some n) = ([], refl, tt)

script_places : (db : List ℕ) (shelf ranges m : One) (script : List ℕ) → Stand {S = tiny_sorts} (tiny_script db shelf ranges m script) (tiny_list db shelf ranges m script)
script_places db shelf ranges m [] = tt
script_places db shelf ranges m (x ∷ xs) =
    let a = tiny_batch db shelf ranges (Some x) in
    ([], append_assoc (tiny_reply (tiny_ran x db shelf)) [] _, script_places a.db a.shelf ranges m xs)

heads_law : (n : ℕ) (db : List ℕ) (shelf : One) (ts : List (Table tiny_sorts)) → tiny_ran n db shelf ≡ tables ts → tops ts ≡ tiny_heads n
heads_law n db shelf ts e = go (n == 0) (nat_lt n 128) e
  where
    go : (none few : Bool) → (if none then refuses 0 else (if few then made (db ++ n ∷ []) shelf else tables (tiny_table db ∷ []))) ≡ tables ts → tops ts ≡ (if none then [] else (if few then [] else one ∷ []))
    go true few e = cc
    go false true e = cc
    go false false e = let same : tiny_table db ∷ [] ≡ ts = cc in rw (← same) refl

rows_fit : (h : One) (rs : List ℕ) → RowsFit tiny h rs
rows_fit h [] = tt
rows_fit h (r ∷ rs) = (refl, rows_fit h rs)

tables_fit : (ts : List (Table tiny_sorts)) → TablesFit tiny ts
tables_fit [] = tt
tables_fit (t ∷ ts) = (rows_fit t.top t.rows, tables_fit ts)

each_spelled : (ms : List (Message tiny_sorts)) → EachSpelled tiny ms
each_spelled [] = tt
each_spelled (m ∷ ms) = (read_law m, each_spelled ms)

short_law : (kind : ℕ) (bytes : List ℕ) (m : Message tiny_sorts) → tiny_message kind bytes ≡ Some m → may_be_cut m ≡ false → length bytes < 4096
short_law kind [] m e f = omega arith
short_law kind (x ∷ []) m e f = omega arith
short_law kind (x ∷ y ∷ xs) m e f = cc

pub tiny_laws : Laws tiny
tiny_laws = record {
  batch = batch_law;
  script = script_law;
  batch_list = statements_law;
  script_list = list_law;
  script_ends = ends_law;
  batch_places = batch_places;
  script_places = script_places;
  heads = heads_law;
  rows = λ t db shelf ts f e. tables_fit ts;
  text_spelled = λ m script shelf t e. read_law (text t);
  tree_spelled = λ t db e. read_law (cargo (tree t));
  change_spelled = λ c db e. read_law (cargo (change c));
  tables_spelled = λ t db shelf ts e f. each_spelled _;
  outcome_spelled = λ t db shelf r e f. read_law (said (replied (refused r)));
  objection_spelled = λ db shelf ranges s r e. read_law (said (replied (refused r)));
  syntax_spelled = λ b r e. read_law (said (replied (refused r)));
  line_spelled = λ line r e h. h;
  done_spelled = read_law (said (replied done));
  end_spelled = read_law end;
  quit_spelled = read_law quit;
  short = short_law;
}
