-- How a copied file is read, column by column and record by record.
use Rattle.std.specs.Prelude.{◌≡◌, ⊤, ◌+◌, ℕ, ℤ, pos, negsuc, neg_ℤ, suc, min, Bool, true, false, ◌&&◌, not, List, [], ◌∷◌, ◌++◌, length, nat_lt, IsTrue, slice_get, slice_set, Option, Some, None, option_map, option_and_then, Result, Ok, Err}
use Rattle.std.specs.List.{list_all}
use Rattle.calculus.specs.declared.value.Kind.{Kind}
use Rattle.calculus.specs.declared.value.Kind.TheVariants.{Of, Wide}
use Rattle.calculus.specs.declared.request.CopyCol.{CopyCol}
use Rattle.calculus.specs.declared.request.CopyForm.{CopyForm}
use Rattle.calculus.specs.declared.request.CopyForm.TheVariants.{Bin, Fixed, Until}
use Rattle.calculus.specs.Rows.{Row}
use Rattle.calculus.specs.Lists.{is_any}
use Rattle.calculus.specs.Database.{Db}
use Rattle.calculus.specs.Replacement.{first_refusal}
use Rattle.calculus.specs.Stored.{kinds_at}
use Rattle.calculus.specs.declared.query.RelKey.{RelKey}
use Rattle.calculus.specs.declared.change.DbChange.{DbChange}
use Rattle.fault_io.specs.Files.{Files}
use Rattle.calculus.specs.declared.reply.Refusal.{Refusal}
use Rattle.quel_meaning.specs.Copying.{copied_from, bad_row, most_file_bytes, refusal, rows_appended, rows_in_file}
use Rattle.quel_meaning.specs.Planned.{owner_refusals}
use Rattle.quel_meaning.specs.Columns.{is_copy_form, column_value}

-- ---- numbers

-- the greatest size of a number that is told apart from greater ones; no domain has it
abbrev pub most_apart : ℕ
most_apart = 10000000000

-- the number, or the one of its sign whose size is the greatest told, where its own size is greater
abbrev pub held : ℤ → ℤ
held (pos n) = pos (min most_apart n)
held (negsuc n) = neg_ℤ (pos (min most_apart (suc n)))

-- ---- columns

-- whole numbers of 64 bits
abbrev pub is_wide : Option Kind → Bool
is_wide None = false
is_wide (Some Wide) = true
is_wide (Some (Of domain)) = false

-- the column has a form that is one, and its attribute isn't of 64 bits
abbrev pub is_readable : List Kind → CopyCol → Bool
is_readable kinds c = is_copy_form c.form && not (is_wide (slice_get kinds c.attr))

-- every column does
abbrev pub are_readable : List Kind → List CopyCol → Bool
are_readable kinds columns = list_all (is_readable kinds) columns

-- every column has a form that is one
abbrev pub have_forms : List CopyCol → Bool
have_forms columns = list_all (λ c. is_copy_form c.form) columns

-- as many bytes as the form says, where it is one of a number's bytes
abbrev pub IsPieceOf : CopyForm → List ℕ → Type 0
IsPieceOf (Bin n) bytes = length bytes ≡ n
IsPieceOf (Fixed n) bytes = ⊤
IsPieceOf (Until stop) bytes = ⊤

-- ---- records

-- the row with the value of a column at the front of these bytes in its place, and the bytes behind it; none where the column is bad
abbrev pub column_put : Bool → Option Kind → CopyCol → Row → List ℕ → Option (Row × List ℕ)
column_put last kind c row bytes = option_map (λ first. (slice_set row c.attr first.0, first.1)) (column_value last c.form kind bytes)

-- the row with the values of a record's columns in their places, and the bytes behind the record; none where a column is bad
abbrev pub record_put : List Kind → List CopyCol → Row → List ℕ → Option (Row × List ℕ)
record_put kinds [] row bytes = Some (row, bytes)
record_put kinds (c ∷ columns) row bytes =
    option_and_then (λ p. record_put kinds columns p.0 p.1) (column_put (not (is_any columns)) (slice_get kinds c.attr) c row bytes)

-- ---- files

-- these rows where none is bad, else the number of the first bad one
abbrev pub up_to_bad : {X : Type 0} → X → Option ℕ → Result X ℕ
up_to_bad x None = Ok x
up_to_bad x (Some number) = Err number

-- these rows, and then what is read behind them
abbrev pub rows_before : List Row → Result (List Row) ℕ → Result (List Row) ℕ
rows_before rows (Ok others) = Ok (rows ++ others)
rows_before rows (Err number) = Err (length rows + number)

-- the rows, or the refusal of the first bad one
abbrev pub or_bad_row : Result (List Row) ℕ → Result (List Row) Refusal
or_bad_row (Ok rows) = Ok rows
or_bad_row (Err number) = Err (bad_row number)

-- the bytes of the file where it is there and not too long, or its refusal
abbrev pub short_file : Option (List ℕ) → Result (List ℕ) Refusal
short_file None = Err (refusal 32)
short_file (Some bytes) = elim (nat_lt most_file_bytes (length bytes)) [ true ↦ Err (refusal 14) | false ↦ Ok bytes ]

-- where nothing in the relation refuses the user, every column is readable
abbrev pub WouldBeReadable : Db → List ℕ → RelKey → List CopyCol → Type 0
WouldBeReadable db user rel columns = first_refusal (owner_refusals db user rel) ≡ None → IsTrue (are_readable (kinds_at db rel) columns)

-- the change that appends the rows of these bytes to the relation, or its refusal
abbrev pub rows_from_bytes : Db → RelKey → List CopyCol → List ℕ → Result DbChange Refusal
rows_from_bytes db rel columns bytes = elim (rows_in_file (kinds_at db rel) columns bytes) [ Ok rows ↦ rows_appended db rel rows | Err number ↦ Err (bad_row number) ]

-- the change is that of a copy from a file, where some files are on the shelf
abbrev pub ComesOf : Db → List ℕ → RelKey → List CopyCol → List ℕ → DbChange → Type 0
ComesOf db user rel columns constant change = (files : Files) × (copied_from db files user rel columns constant ≡ Ok change)
