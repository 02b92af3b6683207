-- What a file that is copied from holds: records, each a field for every column.
use Rattle.std.specs.Prelude.{◌≡◌, ◌⊎◌, ℕ, suc, false, IsTrue, List, [], ◌∷◌, ◌++◌, length, slice_get, Option, Some, Result, Ok, Err}
use Rattle.calculus.specs.declared.value.Kind.{Kind}
use Rattle.calculus.specs.declared.value.Value.{Value}
use Rattle.calculus.specs.declared.request.CopyCol.{CopyCol}
use Rattle.calculus.specs.declared.request.CopyForm.{CopyForm}
use Rattle.calculus.specs.declared.request.CopyForm.TheVariants.{Bin, Fixed, Until}
use Rattle.calculus.specs.Rows.{Row}
use Rattle.calculus.specs.Lists.{is_any, has_number}
use Rattle.calculus.specs.Replacement.{is_of_kind}
use Rattle.quel_meaning.specs.Columns.{piece_value}
use Rattle.quel_meaning.specs.Copying.{record_row}

-- ---- fields

-- how the bytes of a field stand in a file: so many of them; or those before the first byte that ends the column, and then that byte
abbrev pub IsWrittenAs : CopyForm → List ℕ → List ℕ → Type 0
IsWrittenAs (Bin n) bytes written = (length bytes ≡ n) × (written ≡ bytes)
IsWrittenAs (Fixed n) bytes written = (length bytes ≡ n) × (written ≡ bytes)
IsWrittenAs (Until stop) bytes written = (has_number bytes stop ≡ false) × (written ≡ bytes ++ stop ∷ [])

-- the bytes go up to the end of the file: the column goes up to a byte, and that isn't among them
abbrev pub IsUnended : CopyForm → List ℕ → Type 0
IsUnended (Bin n) bytes = ⊥
IsUnended (Fixed n) bytes = ⊥
IsUnended (Until stop) bytes = has_number bytes stop ≡ false

-- this is the value that the bytes of a field are, and it is one of the kind
abbrev pub IsValueOf : CopyForm → Option Kind → List ℕ → Value → Type 0
IsValueOf form kind bytes v = (piece_value form kind bytes ≡ Some v) × IsTrue (is_of_kind v kind)

-- ---- records

-- a record: for each column a field, whose value is one of the kind at the column's place
abbrev pub IsRecord : List Kind → List CopyCol → List ℕ → List Value → Type 0
IsRecord kinds [] written [] = written ≡ []
IsRecord kinds [] written (v ∷ values) = ⊥
IsRecord kinds (c ∷ columns) written [] = ⊥
IsRecord kinds (c ∷ columns) written (v ∷ values) =
    (bytes first others : List ℕ) × (written ≡ first ++ others) × IsWrittenAs c.form bytes first × IsValueOf c.form (slice_get kinds c.attr) bytes v
    × IsRecord kinds columns others values

-- a record that the end of the file ends: a last field that goes up to it; or a field, and behind it a record that the end of the file ends
abbrev pub IsEndedRecord : List Kind → List CopyCol → List ℕ → List Value → Type 0
IsEndedRecord kinds [] written values = ⊥
IsEndedRecord kinds (c ∷ columns) written [] = ⊥
IsEndedRecord kinds (c ∷ columns) written (v ∷ values) =
    ((columns ≡ []) × (values ≡ []) × IsUnended c.form written × IsValueOf c.form (slice_get kinds c.attr) written v)
    ⊎ ((bytes first others : List ℕ) × (written ≡ first ++ others) × IsWrittenAs c.form bytes first × IsValueOf c.form (slice_get kinds c.attr) bytes v
    × IsEndedRecord kinds columns others values)

-- ---- files

-- a file of these rows: no byte and no row; or the record of the first row, and a file of the others; or the record of the only row, which the end of the file ends
abbrev pub IsFileOf : List Kind → List CopyCol → List ℕ → List Row → Type 0
IsFileOf kinds columns file [] = file ≡ []
IsFileOf kinds columns file (row ∷ rows) =
    ((values : List Value) × (front rest : List ℕ) × (file ≡ front ++ rest) × IsRecord kinds columns front values
    × (row ≡ record_row kinds columns values) × IsFileOf kinds columns rest rows)
    ⊎ ((values : List Value) × IsTrue (is_any file) × IsEndedRecord kinds columns file values × (row ≡ record_row kinds columns values) × (rows ≡ []))

-- no record stands at the front of these bytes
abbrev pub BeginsWithNone : List Kind → List CopyCol → List ℕ → Type 0
BeginsWithNone kinds columns file =
    ((values : List Value) (front rest : List ℕ) → file ≡ front ++ rest → ¬ (IsRecord kinds columns front values))
    × ((values : List Value) → ¬ (IsEndedRecord kinds columns file values))

-- the row, and then what is read behind it: other rows, or the number of the first bad one, which is one more with the row in front
abbrev pub row_before : Row → Result (List Row) ℕ → Result (List Row) ℕ
row_before row (Ok rows) = Ok (row ∷ rows)
row_before row (Err number) = Err (suc number)
