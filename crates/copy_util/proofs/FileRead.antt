-- The rows of a file are read record by record.
use Rattle.std.proofs.Common.{◌≡◌, refl, sym, ap, ◌∙◌, ℕ, zero, suc, ◌+◌, ◌-◌, List, [], ◌∷◌, ◌++◌, Option, Some, None, map, length, drop, arith, append_assoc, length-append}
use Rattle.std.specs.Prelude.{option_map, Result, Ok, Err}
use Rattle.std.proofs.lemmas.List.{append-nil}
use Rattle.std.proofs.lemmas.Option.{same_Some}
use Rattle.calculus.specs.declared.value.Kind.{Kind}
use Rattle.calculus.specs.declared.value.Value.{Value}
use Rattle.calculus.specs.declared.request.CopyCol.{CopyCol}
use Rattle.calculus.specs.Rows.{Row}
use Rattle.quel_meaning.specs.Copying.{numbered_from, record_values, record_row, records, rows_in_file}
use Rattle.copy_util.specs.Reading.{rows_before}
use Rattle.copy_util.proofs.RecordRead.{record_counted}

-- ---- the records

skipped : {X : Type 0} (next : List ℕ → Option (X × List ℕ)) (n : ℕ) (bytes : List ℕ) → records next n bytes ≡ records next 0 (drop n bytes)
skipped next zero bytes = refl
skipped next (suc n) [] = refl
skipped next (suc n) (b ∷ bytes) = skipped next n bytes

record_then : {X : Type 0} (next : List ℕ → Option (X × List ℕ)) (b : ℕ) (bytes rest : List ℕ) (x : X) → next (b ∷ bytes) ≡ Some (x, rest)
    → records next 0 (b ∷ bytes) ≡ Some x ∷ records next 0 (drop (length bytes - length rest) bytes)
record_then {X} next b bytes rest x e = go (next (b ∷ bytes)) e ∙ ap (λ rs. Some x ∷ rs) (skipped next (length bytes - length rest) bytes)
  where
    go : (o : Option (X × List ℕ)) → o ≡ Some (x, rest)
        → (elim o as (λ o. List (Option X)) [ None ↦ None ∷ [] | Some r ↦ Some r.0 ∷ records next (length bytes - length r.1) bytes ])
        ≡ Some x ∷ records next (length bytes - length rest) bytes
    go o e = rw e refl

bad_then : {X : Type 0} (next : List ℕ → Option (X × List ℕ)) (b : ℕ) (bytes : List ℕ) → next (b ∷ bytes) ≡ None → records next 0 (b ∷ bytes) ≡ None ∷ []
bad_then {X} next b bytes e = go (next (b ∷ bytes)) e
  where
    go : (o : Option (X × List ℕ)) → o ≡ None
        → (elim o as (λ o. List (Option X)) [ None ↦ None ∷ [] | Some r ↦ Some r.0 ∷ records next (length bytes - length r.1) bytes ]) ≡ None ∷ []
    go o e = rw e refl

-- ---- the number of a bad one

abbrev further : {X : Type 0} → Result X ℕ → Result X ℕ
further (Ok x) = Ok x
further (Err number) = Err (suc number)

abbrev item_before : {X : Type 0} → X → Result (List X) ℕ → Result (List X) ℕ
item_before {X} x r = elim r as (λ r. Result (List X) ℕ) [ Ok items ↦ Ok (x ∷ items) | Err missing ↦ Err missing ]

further_before : {X : Type 0} (x : X) (r : Result (List X) ℕ) → item_before x (further r) ≡ further (item_before x r)
further_before x (Ok items) = refl
further_before x (Err missing) = refl

numbered_further : {X : Type 0} (number : ℕ) (xs : List (Option X)) → numbered_from (suc number) xs ≡ further (numbered_from number xs)
numbered_further number [] = refl
numbered_further number (None ∷ xs) = refl
numbered_further number (Some x ∷ xs) = ap (item_before x) (numbered_further (suc number) xs) ∙ further_before x (numbered_from (suc number) xs)

-- ---- rows

abbrev as_rows : List Kind → List CopyCol → Result (List (List Value)) ℕ → Result (List Row) ℕ
as_rows kinds columns r = elim r as (λ r. Result (List Row) ℕ) [ Ok values ↦ Ok (map (record_row kinds columns) values) | Err number ↦ Err number ]

abbrev row_before : Row → Result (List Row) ℕ → Result (List Row) ℕ
row_before row (Ok rows) = Ok (row ∷ rows)
row_before row (Err number) = Err (suc number)

known_before : (kinds : List Kind) (columns : List CopyCol) (values : List Value) (r : Result (List (List Value)) ℕ)
    → as_rows kinds columns (item_before values (further r)) ≡ row_before (record_row kinds columns values) (as_rows kinds columns r)
known_before kinds columns values (Ok others) = refl
known_before kinds columns values (Err number) = refl

row_first : (kinds : List Kind) (columns : List CopyCol) (b : ℕ) (bytes rest : List ℕ) (values : List Value) → record_values kinds columns (b ∷ bytes) ≡ Some (values, rest)
    → rows_in_file kinds columns (b ∷ bytes) ≡ row_before (record_row kinds columns values) (rows_in_file kinds columns (drop (length bytes - length rest) bytes))
unfolding rows_in_file
row_first kinds columns b bytes rest values e =
    ap (λ xs. as_rows kinds columns (numbered_from 1 xs)) (record_then (record_values kinds columns) b bytes rest values e)
    ∙ ap (λ r. as_rows kinds columns (item_before values r)) (numbered_further 1 (records (record_values kinds columns) 0 (drop (length bytes - length rest) bytes)))
    ∙ known_before kinds columns values (numbered_from 1 (records (record_values kinds columns) 0 (drop (length bytes - length rest) bytes)))

bad_first : (kinds : List Kind) (columns : List CopyCol) (b : ℕ) (bytes : List ℕ) → record_values kinds columns (b ∷ bytes) ≡ None → rows_in_file kinds columns (b ∷ bytes) ≡ Err 1
unfolding rows_in_file
bad_first kinds columns b bytes e = ap (λ xs. as_rows kinds columns (numbered_from 1 xs)) (bad_then (record_values kinds columns) b bytes e)

nothing_left : (kinds : List Kind) (columns : List CopyCol) → rows_in_file kinds columns [] ≡ Ok []
unfolding rows_in_file
nothing_left kinds columns = refl

-- ---- behind the rows that were read

before_more : (rows : List Row) (row : Row) (r : Result (List Row) ℕ) → rows_before rows (row_before row r) ≡ rows_before (rows ++ row ∷ []) r
before_more rows row (Ok others) = ap Ok (sym (append_assoc rows (row ∷ []) others))
before_more rows row (Err number) = let same : length rows + suc number ≡ length (rows ++ row ∷ []) + number = omega (arith, length-append rows (row ∷ [])) in ap Err same

-- one more row
pub row_read : (kinds : List Kind) (columns : List CopyCol) (whole : Result (List Row) ℕ) (rows : List Row) (b : ℕ) (bytes : List ℕ) (row : Row) (behind : ℕ)
    → whole ≡ rows_before rows (rows_in_file kinds columns (b ∷ bytes)) → Some (row, behind) ≡ record_counted kinds columns (b ∷ bytes)
    → whole ≡ rows_before (rows ++ row ∷ []) (rows_in_file kinds columns (drop (length bytes - behind) bytes))
row_read kinds columns whole rows b bytes row behind so_far e = go (record_values kinds columns (b ∷ bytes)) refl e
  where
    parts : (values : List Value) (rest : List ℕ) → ◌≡◌ {A = Option (Row × ℕ)} (Some (row, behind)) (Some (record_row kinds columns values, length rest))
        → (row ≡ record_row kinds columns values) × (behind ≡ length rest)
    parts values rest e =
        let same : ◌≡◌ {A = Row × ℕ} (row, behind) (record_row kinds columns values, length rest) = same_Some (row, behind) (record_row kinds columns values, length rest) e in
        (ap (λ (p : Row × ℕ). p.0) same, ap (λ (p : Row × ℕ). p.1) same)

    go : (o : Option (List Value × List ℕ)) → record_values kinds columns (b ∷ bytes) ≡ o
        → ◌≡◌ {A = Option (Row × ℕ)} (Some (row, behind)) (option_map (λ p. (record_row kinds columns p.0, length p.1)) o)
        → whole ≡ rows_before (rows ++ row ∷ []) (rows_in_file kinds columns (drop (length bytes - behind) bytes))
    go None f e = cc e
    go (Some p) f e =
        let (same, left) = parts p.0 p.1 e in
        so_far ∙ ap (rows_before rows) (row_first kinds columns b bytes p.1 p.0 f)
        ∙ (λ j. rows_before rows (row_before (sym same j) (rows_in_file kinds columns (drop (length bytes - sym left j) bytes))))
        ∙ before_more rows row (rows_in_file kinds columns (drop (length bytes - behind) bytes))

-- one more row, where it is behind the others and the rest begins behind it
pub one_more_row : (kinds : List Kind) (columns : List CopyCol) (whole : Result (List Row) ℕ) (rows now : List Row) (left others rest : List ℕ) (b : ℕ) (row : Row) (behind skipped : ℕ)
    → left ≡ b ∷ others → whole ≡ rows_before rows (rows_in_file kinds columns left) → Some (row, behind) ≡ record_counted kinds columns left
    → now ≡ rows ++ row ∷ [] → skipped ≡ length others - behind → rest ≡ drop skipped others → whole ≡ rows_before now (rows_in_file kinds columns rest)
one_more_row kinds columns whole rows now left others rest b row behind skipped split so_far e more skips is =
    row_read kinds columns whole rows b others row behind (so_far ∙ ap (λ left. rows_before rows (rows_in_file kinds columns left)) split) (e ∙ ap (record_counted kinds columns) split)
    ∙ (λ j. rows_before (sym more j) (rows_in_file kinds columns (drop (sym skips j) others))) ∙ ap (λ rest. rows_before now (rows_in_file kinds columns rest)) (sym is)

-- the first bad one
pub row_is_bad : (kinds : List Kind) (columns : List CopyCol) (whole : Result (List Row) ℕ) (rows : List Row) (left bytes : List ℕ) (b : ℕ) → left ≡ b ∷ bytes
    → whole ≡ rows_before rows (rows_in_file kinds columns left) → None ≡ record_counted kinds columns left
    → whole ≡ Err (length rows + 1)
row_is_bad kinds columns whole rows left bytes b split so_far e = go (record_values kinds columns (b ∷ bytes)) refl (e ∙ ap (record_counted kinds columns) split)
  where
    go : (o : Option (List Value × List ℕ)) → record_values kinds columns (b ∷ bytes) ≡ o
        → ◌≡◌ {A = Option (Row × ℕ)} None (option_map (λ p. (record_row kinds columns p.0, length p.1)) o) → whole ≡ Err (length rows + 1)
    go None f e = so_far ∙ ap (λ left. rows_before rows (rows_in_file kinds columns left)) split ∙ ap (rows_before rows) (bad_first kinds columns b bytes f)
    go (Some p) f e = cc e

no_bytes : (bytes : List ℕ) → length bytes ≡ 0 → bytes ≡ []
no_bytes [] h = refl
no_bytes (b ∷ bytes) h = absurd (omega (arith, h))

-- no more
pub all_read : (kinds : List Kind) (columns : List CopyCol) (whole : Result (List Row) ℕ) (rows : List Row) (rest : List ℕ)
    → whole ≡ rows_before rows (rows_in_file kinds columns rest) → length rest ≡ 0 → whole ≡ Ok rows
all_read kinds columns whole rows rest so_far end =
    so_far ∙ ap (λ rest. rows_before rows (rows_in_file kinds columns rest)) (no_bytes rest end) ∙ ap (rows_before rows) (nothing_left kinds columns) ∙ ap Ok (append-nil rows)

-- none yet
pub none_read : (r : Result (List Row) ℕ) → r ≡ rows_before [] r
none_read (Ok rows) = refl
none_read (Err number) = let same : number ≡ 0 + number = omega arith in ap Err same
