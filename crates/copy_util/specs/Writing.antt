-- How a copied file is written, column by column and record by record.
use Rattle.std.specs.Prelude.{◌≡◌, ℕ, ◌^◌, ◌≤◌, Bool, true, false, List, ◌++◌, map, Option, Some, None, Result, Ok, Err}
use Rattle.std.specs.List.{concat}
use Rattle.calculus.specs.declared.request.CopyCol.{CopyCol}
use Rattle.calculus.specs.Rows.{Row}
use Rattle.copy_util.specs.Reading.{up_to_bad}
use Rattle.quel_meaning.specs.Copying.{file_of_rows, numbered_from, record_bytes}

-- these bytes where they were put, else none
abbrev pub where_put : Bool → List ℕ → Option (List ℕ)
where_put true bytes = Some bytes
where_put false bytes = None

-- the bytes of the records of these rows, or the number of the first bad one, where the first of these has this number
abbrev pub file_from : ℕ → List CopyCol → List Row → Result (List ℕ) ℕ
file_from number columns rows = elim (numbered_from number (map (record_bytes columns) rows)) [ Ok pieces ↦ Ok (concat pieces) | Err missing ↦ Err missing ]

-- these bytes, and then those behind them
abbrev pub bytes_before : List ℕ → Result (List ℕ) ℕ → Result (List ℕ) ℕ
bytes_before bytes (Ok others) = Ok (bytes ++ others)
bytes_before bytes (Err number) = Err number

-- a number is there, and past those of 32 bits
abbrev pub IsLarge : Option ℕ → Type 0
IsLarge None = ⊥
IsLarge (Some number) = 2 ^ 32 ≤ number

-- these bytes are the file of the records of some rows, or their first bad one has this number
abbrev pub IsFileOfRows : List CopyCol → List ℕ → Option ℕ → Type 0
IsFileOfRows columns bytes bad = (rows : List Row) × (file_of_rows columns rows ≡ up_to_bad bytes bad)
