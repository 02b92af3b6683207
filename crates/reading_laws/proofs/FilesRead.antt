-- A file is read record by record.
use Rattle.std.proofs.Common.{◌≡◌, inl, inr, refl, sym, ap, subst, ◌∙◌, ℕ, zero, suc, ◌-◌, ◌<◌, ◌≤◌, IsTrue, ◌↔◌, List, [], ◌∷◌, ◌++◌, Option, Some, None, map, length, arith, length-append}
use Rattle.std.specs.Prelude.{Result, Ok, Err}
use Rattle.std.specs.List.{list_all}
use Rattle.calculus.specs.declared.value.Kind.{Kind}
use Rattle.calculus.specs.declared.value.Value.{Value}
use Rattle.calculus.specs.declared.request.CopyCol.{CopyCol}
use Rattle.calculus.specs.Rows.{Row}
use Rattle.calculus.specs.Lists.{is_any}
use Rattle.quel_meaning.specs.Columns.{is_copy_form}
use Rattle.quel_meaning.specs.Copying.{numbered_from, record_values, record_row, records, rows_in_file}
use Rattle.reading_laws.specs.Records.{IsRecord, IsEndedRecord, IsFileOf, BeginsWithNone, row_before}
use Rattle.reading_laws.proofs.RecordsRead.{record_read, ended_read, IsReadOf, record_taken, record_some}

-- ---- the records of a file, one after the other

-- what is skipped is a front of so many bytes
skipped : {X : Type 0} (next : List ℕ → Option (X × List ℕ)) (front more : List ℕ) → records next (length front) (front ++ more) ≡ records next 0 more
skipped next [] more = refl
skipped next (b ∷ front) more = skipped next front more

-- a record is followed by those behind it
records-cons : {X : Type 0} (next : List ℕ → Option (X × List ℕ)) (x : X) (piece more : List ℕ) → 0 < length piece
    → next (piece ++ more) ≡ Some (x, more) → records next 0 (piece ++ more) ≡ Some x ∷ records next 0 more
records-cons next x [] more some e = absurd (omega arith)
records-cons {X} next x (b ∷ front) more some e =
    opened (next (b ∷ (front ++ more))) e ∙ ap (λ n. Some x ∷ records next n (front ++ more)) behind ∙ ap (λ rest. Some x ∷ rest) (skipped next front more)
  where
    behind : length (front ++ more) - length more ≡ length front
    behind = omega (arith, length-append front more)

    opened : (o : Option (X × List ℕ)) → o ≡ Some (x, more)
        → (elim o as (λ o. List (Option X)) [ None ↦ None ∷ [] | Some r ↦ Some r.0 ∷ records next (length (front ++ more) - length r.1) (front ++ more) ])
        ≡ Some x ∷ records next (length (front ++ more) - length more) (front ++ more)
    opened o e = rw e refl

-- where none is there, that is the last
records-bad : {X : Type 0} (next : List ℕ → Option (X × List ℕ)) (file : List ℕ) → IsTrue (is_any file) → next file ≡ None → records next 0 file ≡ None ∷ []
records-bad next [] some e = cc some
records-bad {X} next (b ∷ bytes) some e = opened (next (b ∷ bytes)) e
  where
    opened : (o : Option (X × List ℕ)) → o ≡ None
        → (elim o as (λ o. List (Option X)) [ None ↦ None ∷ [] | Some r ↦ Some r.0 ∷ records next (length bytes - length r.1) bytes ]) ≡ None ∷ []
    opened o e = rw e refl

-- ---- the number of a bad one

-- counted from one number further
abbrev further : {X : Type 0} → Result X ℕ → Result X ℕ
further (Ok x) = Ok x
further (Err number) = Err (suc number)

abbrev item_before : {X : Type 0} → X → Result (List X) ℕ → Result (List X) ℕ
item_before {X} x r = elim r as (λ r. Result (List X) ℕ) [ Ok items ↦ Ok (x ∷ items) | Err missing ↦ Err missing ]

further_before : {X : Type 0} (x : X) (r : Result (List X) ℕ) → item_before x (further r) ≡ further (item_before x r)
further_before x (Ok items) = refl
further_before x (Err missing) = refl

numbered_further : {X : Type 0} (number : ℕ) (xs : List (Option X)) → numbered_from (suc number) xs ≡ further (numbered_from number xs)
numbered_further number [] = refl
numbered_further number (None ∷ xs) = refl
numbered_further number (Some x ∷ xs) = ap (item_before x) (numbered_further (suc number) xs) ∙ further_before x (numbered_from (suc number) xs)

-- ---- rows

abbrev as_rows : List Kind → List CopyCol → Result (List (List Value)) ℕ → Result (List Row) ℕ
as_rows kinds columns r = elim r as (λ r. Result (List Row) ℕ) [ Ok values ↦ Ok (map (record_row kinds columns) values) | Err number ↦ Err number ]

known_before : (kinds : List Kind) (columns : List CopyCol) (values : List Value) (r : Result (List (List Value)) ℕ)
    → as_rows kinds columns (item_before values (further r)) ≡ row_before (record_row kinds columns values) (as_rows kinds columns r)
known_before kinds columns values (Ok others) = refl
known_before kinds columns values (Err number) = refl

append-nil : (xs : List ℕ) → xs ++ [] ≡ xs
append-nil [] = refl
append-nil (x ∷ xs) = ap (λ ys. x ∷ ys) (append-nil xs)

pub nothing : (kinds : List Kind) (columns : List CopyCol) → rows_in_file kinds columns [] ≡ Ok []
unfolding rows_in_file
nothing kinds columns = refl

-- whatever next record is read, with a byte, its row comes before those behind it
piece_first : (kinds : List Kind) (columns : List CopyCol) (piece rest : List ℕ) (values : List Value) → 0 < length piece
    → record_values kinds columns (piece ++ rest) ≡ Some (values, rest)
    → rows_in_file kinds columns (piece ++ rest) ≡ row_before (record_row kinds columns values) (rows_in_file kinds columns rest)
unfolding rows_in_file
piece_first kinds columns piece rest values some e =
    ap (λ xs. as_rows kinds columns (numbered_from 1 xs)) (records-cons (record_values kinds columns) values piece rest some e)
    ∙ ap (λ r. as_rows kinds columns (item_before values r)) (numbered_further 1 (records (record_values kinds columns) 0 rest))
    ∙ known_before kinds columns values (numbered_from 1 (records (record_values kinds columns) 0 rest))

pub record_first : (kinds : List Kind) (columns : List CopyCol) (piece rest : List ℕ) (values : List Value)
    → IsTrue (is_any columns) → IsTrue (list_all (λ c. is_copy_form c.form) columns) → IsRecord kinds columns piece values
    → rows_in_file kinds columns (piece ++ rest) ≡ row_before (record_row kinds columns values) (rows_in_file kinds columns rest)
record_first kinds columns piece rest values some forms h =
    piece_first kinds columns piece rest values (record_some kinds columns piece values some forms h) (record_read kinds columns piece rest values h)

pub any_some : (bytes : List ℕ) → IsTrue (is_any bytes) → 0 < length bytes
any_some [] t = cc t
any_some (b ∷ bytes) t = omega arith

pub ended_last : (kinds : List Kind) (columns : List CopyCol) (piece : List ℕ) (values : List Value)
    → IsTrue (is_any piece) → IsEndedRecord kinds columns piece values → rows_in_file kinds columns piece ≡ Ok (record_row kinds columns values ∷ [])
ended_last kinds columns piece values some h =
    ap (rows_in_file kinds columns) (sym (append-nil piece))
    ∙ piece_first kinds columns piece [] values (any_some piece some) (ap (record_values kinds columns) (append-nil piece) ∙ ended_read kinds columns piece values h)
    ∙ ap (row_before (record_row kinds columns values)) (nothing kinds columns)

unread_bad : (kinds : List Kind) (columns : List CopyCol) (file : List ℕ) → IsTrue (is_any file) → record_values kinds columns file ≡ None → rows_in_file kinds columns file ≡ Err 1
unfolding rows_in_file
unread_bad kinds columns file some e = ap (λ xs. as_rows kinds columns (numbered_from 1 xs)) (records-bad (record_values kinds columns) file some e)

pub none_bad : (kinds : List Kind) (columns : List CopyCol) (file : List ℕ) → IsTrue (is_any file) → BeginsWithNone kinds columns file → rows_in_file kinds columns file ≡ Err 1
none_bad kinds columns file some none = go (record_values kinds columns file) refl
  where
    no : (values : List Value) (rest : List ℕ) → IsReadOf kinds columns file rest values → ⊥
    no values rest (inl (piece, is, h)) = none.0 values piece rest is h
    no values rest (inr (end, h)) = none.1 values h

    go : (o : Option (List Value × List ℕ)) → record_values kinds columns file ≡ o → rows_in_file kinds columns file ≡ Err 1
    go None e = unread_bad kinds columns file some e
    go (Some p) e = absurd (no p.0 p.1 (record_taken kinds columns file p.1 p.0 e))

-- ---- a file is one of rows exactly where these are read

the_rows : (xs ys : List Row) → ◌≡◌ {A = Result (List Row) ℕ} (Ok xs) (Ok ys) → xs ≡ ys
the_rows xs ys e = cc e

-- the first row, and the others
first_row : (row : Row) (r : Result (List Row) ℕ) (rows : List Row) → row_before row r ≡ Ok rows → (others : List Row) × (r ≡ Ok others) × (row ∷ others ≡ rows)
first_row row (Ok others) rows h = (others, refl, the_rows (row ∷ others) rows h)
first_row row (Err number) rows h = cc h

read_is : (kinds : List Kind) (columns : List CopyCol) → IsTrue (is_any columns) → IsTrue (list_all (λ c. is_copy_form c.form) columns)
    → (n : ℕ) (file : List ℕ) (rows : List Row) → length file ≤ n → rows_in_file kinds columns file ≡ Ok rows → IsFileOf kinds columns file rows
read_is kinds columns some forms n [] rows short h = subst (IsFileOf kinds columns []) (the_rows [] rows (sym (nothing kinds columns) ∙ h)) refl
read_is kinds columns some forms zero (b ∷ bytes) rows short h = absurd (omega arith)
read_is kinds columns some forms (suc n) (b ∷ bytes) rows short h = go (λ rest others. read_is kinds columns some forms n rest others) (record_values kinds columns (b ∷ bytes)) refl
  where
    behind : ((rest : List ℕ) (others : List Row) → length rest ≤ n → rows_in_file kinds columns rest ≡ Ok others → IsFileOf kinds columns rest others)
        → (values : List Value) (rest : List ℕ) → IsReadOf kinds columns (b ∷ bytes) rest values → IsFileOf kinds columns (b ∷ bytes) rows
    behind later values rest (inl (piece, is, of)) =
        let read = sym (ap (rows_in_file kinds columns) is ∙ record_first kinds columns piece rest values some forms of) ∙ h in
        let (others, read_later, whole) = first_row (record_row kinds columns values) (rows_in_file kinds columns rest) rows read in
        let long : length (b ∷ bytes) ≡ length (piece ++ rest) = ap length is in
        let shorter : length rest ≤ n = omega (arith, short, long, length-append piece rest, record_some kinds columns piece values some forms of) in
        subst (IsFileOf kinds columns (b ∷ bytes)) whole (inl (values, piece, rest, is, of, refl, later rest others shorter read_later))
    behind later values rest (inr (end, ended)) =
        let whole = the_rows (record_row kinds columns values ∷ []) rows (sym (ended_last kinds columns (b ∷ bytes) values refl ended) ∙ h) in
        subst (IsFileOf kinds columns (b ∷ bytes)) whole (inr (values, refl, ended, refl, refl))

    go : ((rest : List ℕ) (others : List Row) → length rest ≤ n → rows_in_file kinds columns rest ≡ Ok others → IsFileOf kinds columns rest others)
        → (o : Option (List Value × List ℕ)) → record_values kinds columns (b ∷ bytes) ≡ o → IsFileOf kinds columns (b ∷ bytes) rows
    go later None e = let no : Err 1 ≡ Ok rows = sym (unread_bad kinds columns (b ∷ bytes) refl e) ∙ h in cc no
    go later (Some p) e = behind later p.0 p.1 (record_taken kinds columns (b ∷ bytes) p.1 p.0 e)

is_read : (kinds : List Kind) (columns : List CopyCol) → IsTrue (is_any columns) → IsTrue (list_all (λ c. is_copy_form c.form) columns)
    → (rows : List Row) (file : List ℕ) → IsFileOf kinds columns file rows → rows_in_file kinds columns file ≡ Ok rows
is_read kinds columns some forms [] file h = ap (rows_in_file kinds columns) h ∙ nothing kinds columns
is_read kinds columns some forms (row ∷ rows) file (inl (values, piece, rest, is, of, same, more)) =
    ap (rows_in_file kinds columns) is ∙ record_first kinds columns piece rest values some forms of
    ∙ (λ i. row_before (sym same i) (is_read kinds columns some forms rows rest more i))
is_read kinds columns some forms (row ∷ rows) file (inr (values, filled, ended, same, none)) =
    ended_last kinds columns file values filled ended ∙ (λ i. Ok (sym same i ∷ sym none i))

pub file_of_rows : (kinds : List Kind) (columns : List CopyCol) (file : List ℕ) (rows : List Row)
    → IsTrue (is_any columns) → IsTrue (list_all (λ c. is_copy_form c.form) columns)
    → rows_in_file kinds columns file ≡ Ok rows ↔ IsFileOf kinds columns file rows
file_of_rows kinds columns file rows some forms =
    (λ h. read_is kinds columns some forms (length file) file rows (omega arith) h, λ h. is_read kinds columns some forms rows file h)
