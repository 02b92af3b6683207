-- Copies of rows from a file and into one.
use Rattle.std.specs.Prelude.{ℕ, zero, suc, ◌-◌, nat_lt, Bool, true, false, not, List, [], ◌∷◌, ◌++◌, map, filter, length, slice_get, Option, Some, None, option_map, option_and_then, Result, Ok, Err}
use Rattle.std.specs.List.{list_all, concat}
use Rattle.calculus.specs.declared.value.Value.{Value}
use Rattle.calculus.specs.declared.value.Kind.{Kind}
use Rattle.calculus.specs.declared.query.RelKey.{RelKey}
use Rattle.calculus.specs.declared.request.CopyCol.{CopyCol}
use Rattle.calculus.specs.declared.change.DbChange.{DbChange}
use Rattle.calculus.specs.declared.change.DbChange.TheVariants as change
use Rattle.calculus.specs.declared.reply.Refusal.{Refusal}
use Rattle.calculus.specs.Constant.{unescaped, plain_bytes}
use Rattle.calculus.specs.Rows.{Row}
use Rattle.calculus.specs.Term.{holds, no_aggs}
use Rattle.calculus.specs.Lists.{is_any}
use Rattle.calculus.specs.Limits.{most_rows}
use Rattle.calculus.specs.Database.{Db, rules_on}
use Rattle.calculus.specs.Stored.{rows_at, kinds_at}
use Rattle.calculus.specs.Pairs.{blank, with_values}
use Rattle.calculus.specs.Replacement.{first_refusal, with_rows, without_rows}
use Rattle.fault_io.specs.Files.{Files, fetched}
use Rattle.quel_meaning.specs.Columns.{column_value, column_bytes}
use Rattle.quel_meaning.specs.Planned.{owner_refusals}

-- the bytes of a file that is copied from
abbrev pub most_file_bytes : ℕ
most_file_bytes = 4294967295

-- the name of the file that a text constant names: its bytes with escapes removed, and with the blanks at their end
abbrev pub file_of_constant : List ℕ → List ℕ
file_of_constant constant = plain_bytes (unescaped constant)

-- a refusal with this number, of no line and no row
abbrev pub refusal : ℕ → Refusal
refusal number = record { code = number; line = 0; row = 0 }

-- the refusal of a bad row, by its number
abbrev pub bad_row : ℕ → Refusal
bad_row row = record { code = 31; line = 0; row = row }

-- the items, or the number of the first that is missing, where the first of these has this number
abbrev pub numbered_from : {X : Type 0} → ℕ → List (Option X) → Result (List X) ℕ
numbered_from number [] = Ok []
numbered_from number (None ∷ xs) = Err number
numbered_from number (Some x ∷ xs) = elim (numbered_from (suc number) xs) [ Ok items ↦ Ok (x ∷ items) | Err missing ↦ Err missing ]

-- ---- from a file

-- the values of a record's columns at the front of these bytes, and the bytes behind the record; none where a column is bad
abbrev pub record_values : List Kind → List CopyCol → List ℕ → Option (List Value × List ℕ)
record_values kinds [] bytes = Some ([], bytes)
record_values kinds (c ∷ columns) bytes =
    elim (column_value (not (is_any columns)) c.form (slice_get kinds c.attr) bytes) [
      | None ↦ None
      | Some first ↦ option_map (λ others. (first.0 ∷ others.0, others.1)) (record_values kinds columns first.1)
    ]

-- the row with these values at the places of the columns, and 0 or the empty text everywhere else
abbrev pub record_row : List Kind → List CopyCol → List Value → Row
record_row kinds columns values = with_values (map (λ c. c.attr) columns) values (map blank kinds)

-- the records behind the first `skipped` of these bytes, one after the other up to the first bad one, where `next` gives the record at the front of bytes and what is behind it
abbrev pub records : {X : Type 0} → (List ℕ → Option (X × List ℕ)) → ℕ → List ℕ → List (Option X)
records next skipped [] = []
records next (suc skipped) (b ∷ bytes) = records next skipped bytes
records next zero (b ∷ bytes) = elim (next (b ∷ bytes)) [ None ↦ None ∷ [] | Some r ↦ Some r.0 ∷ records next (length bytes - length r.1) bytes ]

-- the rows of a file, or the number of the first bad one
unfoldable pub rows_in_file : List Kind → List CopyCol → List ℕ → Result (List Row) ℕ
rows_in_file kinds columns bytes =
    elim (numbered_from 1 (records (record_values kinds columns) 0 bytes)) [ Ok values ↦ Ok (map (record_row kinds columns) values) | Err number ↦ Err number ]

-- no rule of the relation is broken by the row
abbrev pub keeps_rules : Db → RelKey → Row → Bool
keeps_rules db rel row = list_all (λ r. holds no_aggs r.qual (row ∷ [])) (rules_on db rel)

-- the relation with these rows, but for those that break a rule, appended as one set; refused where too many would stand
abbrev pub rows_appended : Db → RelKey → List Row → Result DbChange Refusal
rows_appended db rel rows =
    let after = with_rows (filter (keeps_rules db rel) rows) (rows_at db rel) in
    elim (nat_lt most_rows (length after)) [ true ↦ Err (refusal 29) | false ↦ Ok (change.Rows rel [] (without_rows (rows_at db rel) after)) ]

-- the relation with the rows of a file appended, where it is there, is not too long and has no bad row
abbrev pub file_appended : Db → RelKey → List CopyCol → Option (List ℕ) → Result DbChange Refusal
file_appended db rel columns None = Err (refusal 32)
file_appended db rel columns (Some bytes) = elim (nat_lt most_file_bytes (length bytes)) [
  | true ↦ Err (refusal 14)
  | false ↦ elim (rows_in_file (kinds_at db rel) columns bytes) [ Ok rows ↦ rows_appended db rel rows | Err row ↦ Err (bad_row row) ]
]

-- the change that a copy from a file makes for the user, or its refusal
unfoldable pub copied_from : Db → Files → List ℕ → RelKey → List CopyCol → List ℕ → Result DbChange Refusal
copied_from db shelf user rel columns constant = elim (first_refusal (owner_refusals db user rel)) [
  | Some number ↦ Err (refusal number)
  | None ↦ file_appended db rel columns (fetched shelf (file_of_constant constant))
]

-- ---- into a file

-- the bytes of a column of the row; none where the value doesn't fit the form
abbrev pub field_bytes : Row → CopyCol → Option (List ℕ)
field_bytes row c = option_and_then (column_bytes c.form) (slice_get row c.attr)

-- the bytes of the row's record: those of its columns in their order; none where one is none
abbrev pub record_bytes : List CopyCol → Row → Option (List ℕ)
record_bytes [] row = Some []
record_bytes (c ∷ columns) row = option_and_then (λ first. option_map (λ others. first ++ others) (record_bytes columns row)) (field_bytes row c)

-- the bytes of the records of these rows, or the number of the first bad row
unfoldable pub file_of_rows : List CopyCol → List Row → Result (List ℕ) ℕ
file_of_rows columns rows = elim (numbered_from 1 (map (record_bytes columns) rows)) [ Ok pieces ↦ Ok (concat pieces) | Err number ↦ Err number ]

-- the bytes of the file that a copy of the relation's rows makes for the user, the rows ascending; or its refusal
unfoldable pub copied_into : Db → List ℕ → RelKey → List CopyCol → Result (List ℕ) Refusal
copied_into db user rel columns = elim (first_refusal (owner_refusals db user rel)) [
  | Some number ↦ Err (refusal number)
  | None ↦ elim (file_of_rows columns (rows_at db rel)) [ Ok bytes ↦ Ok bytes | Err row ↦ Err (bad_row row) ]
]
