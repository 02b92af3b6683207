-- The records that a copy into a file wrote are read back.
use Rattle.std.proofs.Common.{◌≡◌, refl, sym, ap, subst, ◌∙◌, ℕ, zero, suc, ◌-◌, ◌<◌, not, IsTrue, List, [], ◌∷◌, ◌++◌, Option, Some, None, map, length, arith, append_assoc, length-append}
use Rattle.std.specs.Prelude.{option_map, slice_get, Result, Ok, Err}
use Rattle.std.specs.List.{list_all, concat, cons_option}
use Rattle.std.proofs.lemmas.Option.{option_and_then_some}
use Rattle.calculus.specs.declared.value.Kind.{Kind}
use Rattle.calculus.specs.declared.value.Value.{Value}
use Rattle.calculus.specs.declared.schema.Attr.{Attr}
use Rattle.calculus.specs.declared.request.CopyCol.{CopyCol}
use Rattle.calculus.specs.Rows.{Row}
use Rattle.calculus.specs.Lists.{is_any}
use Rattle.calculus.specs.IsDatabase.{value_fits, row_fits}
use Rattle.quel_meaning.specs.CopiedBack.{kinds_of, column_values, copied_row}
use Rattle.quel_meaning.specs.Columns.{is_copy_form, column_value, column_bytes}
use Rattle.quel_meaning.specs.Copying.{numbered_from, record_values, record_row, records, rows_in_file, field_bytes, record_bytes, file_of_rows}
use Rattle.quel_meaning.proofs.Fields.{both}
use Rattle.quel_meaning.proofs.ColumnsBack.{column_back, column_some}

-- ---- a column of a row

-- the value at a place of a row that fits is one of the kind there
fits_at : (attrs : List Attr) (row : Row) (place : ℕ) (v : Value) → IsTrue (row_fits attrs row) → slice_get row place ≡ Some v
    → (k : Kind) × (slice_get (kinds_of attrs) place ≡ Some k) × IsTrue (value_fits v k)
fits_at [] [] place v t e = cc e
fits_at [] (w ∷ row) place v t e = cc t
fits_at (a ∷ attrs) [] place v t e = cc e
fits_at (a ∷ attrs) (w ∷ row) zero v t e = (a.kind, refl, subst (λ w. IsTrue (value_fits w a.kind)) (the w v e) (both (value_fits w a.kind) (row_fits attrs row) t).0)
  where
    the : (x y : Value) → Some x ≡ Some y → x ≡ y
    the x y e = cc e
fits_at (a ∷ attrs) (w ∷ row) (suc place) v t e = fits_at attrs row place v (both (value_fits w a.kind) (row_fits attrs row) t).1 e

option_map_some : {A B P : Type 0} (f : A → B) (o : Option A) (y : B) → option_map f o ≡ Some y → ((x : A) → o ≡ Some x → f x ≡ y → P) → P
option_map_some f None y e go = cc e
option_map_some f (Some x) y e go = go x refl (the (f x) y e)
  where
    the : {B : Type 0} (x y : B) → Some x ≡ Some y → x ≡ y
    the x y e = cc e

-- ---- a record

record-cons : (kinds : List Kind) (c : CopyCol) (columns : List CopyCol) (bytes rest : List ℕ) (v : Value)
    → column_value (not (is_any columns)) c.form (slice_get kinds c.attr) bytes ≡ Some (v, rest)
    → record_values kinds (c ∷ columns) bytes ≡ option_map (λ others. (v ∷ others.0, others.1)) (record_values kinds columns rest)
record-cons kinds c columns bytes rest v e = rw (e, record_values) refl

abbrev FormsStand : List CopyCol → Type 0
FormsStand columns = IsTrue (list_all (λ c. is_copy_form c.form) columns)

record_back : (attrs : List Attr) (row : Row) (columns : List CopyCol) (bytes more : List ℕ) → IsTrue (row_fits attrs row) → FormsStand columns
    → record_bytes columns row ≡ Some bytes → record_values (kinds_of attrs) columns (bytes ++ more) ≡ Some (column_values columns row, more)
record_back attrs row [] bytes more t forms e = ap (λ bytes. Some ([], bytes ++ more)) (none bytes e)
  where
    none : (bytes : List ℕ) → Some [] ≡ Some bytes → bytes ≡ []
    none bytes e = cc e
record_back attrs row (c ∷ columns) bytes more t forms e =
    let stands = both (is_copy_form c.form) (list_all (λ c. is_copy_form c.form) columns) forms in
    option_and_then_some (λ first. option_map (λ others. first ++ others) (record_bytes columns row)) (field_bytes row c) bytes e λ first e1 e2.
    option_and_then_some (column_bytes c.form) (slice_get row c.attr) first e1 λ v e3 e4.
    option_map_some (λ others. first ++ others) (record_bytes columns row) bytes e2 λ others e5 e6.
    let kind = fits_at attrs row c.attr v t e3 in
    let column : column_value (not (is_any columns)) c.form (slice_get (kinds_of attrs) c.attr) (first ++ (others ++ more)) ≡ Some (v, others ++ more) =
    ap (λ kind. column_value (not (is_any columns)) c.form kind (first ++ (others ++ more))) kind.1
    ∙ column_back (not (is_any columns)) c.form kind.0 v first (others ++ more) stands.0 kind.2 e4 in
    ap (record_values (kinds_of attrs) (c ∷ columns)) (ap (λ bytes. bytes ++ more) (sym e6) ∙ append_assoc first others more)
    ∙ record-cons (kinds_of attrs) c columns (first ++ (others ++ more)) (others ++ more) v column
    ∙ ap (option_map (λ others. (v ∷ others.0, others.1))) (record_back attrs row columns others more t stands.1 e5)
    ∙ ap (λ o. Some (cons_option o (column_values columns row), more)) (sym e3)

-- it has a byte, where it has a column
record_some : (row : Row) (columns : List CopyCol) (bytes : List ℕ) → IsTrue (is_any columns) → FormsStand columns
    → record_bytes columns row ≡ Some bytes → 0 < length bytes
record_some row [] bytes some forms e = cc some
record_some row (c ∷ columns) bytes some forms e =
    let stands = both (is_copy_form c.form) (list_all (λ c. is_copy_form c.form) columns) forms in
    option_and_then_some (λ first. option_map (λ others. first ++ others) (record_bytes columns row)) (field_bytes row c) bytes e λ first e1 e2.
    option_and_then_some (column_bytes c.form) (slice_get row c.attr) first e1 λ v e3 e4.
    option_map_some (λ others. first ++ others) (record_bytes columns row) bytes e2 λ others e5 e6.
    let long : length bytes ≡ length (first ++ others) = ap length (sym e6) in
    omega (arith, long, length-append first others, column_some c.form v first stands.0 e4)

-- ---- all records

-- what is skipped is a front of so many bytes
skipped : {X : Type 0} (next : List ℕ → Option (X × List ℕ)) (front more : List ℕ) → records next (length front) (front ++ more) ≡ records next 0 more
skipped next [] more = refl
skipped next (b ∷ front) more = skipped next front more

-- a record with a byte is followed by the records behind it
records-cons : {X : Type 0} (next : List ℕ → Option (X × List ℕ)) (x : X) (piece more : List ℕ) → 0 < length piece
    → next (piece ++ more) ≡ Some (x, more) → records next 0 (piece ++ more) ≡ Some x ∷ records next 0 more
records-cons next x [] more some e = absurd (omega arith)
records-cons {X} next x (b ∷ front) more some e =
    opened (next (b ∷ (front ++ more))) e ∙ ap (λ n. Some x ∷ records next n (front ++ more)) behind ∙ ap (λ rest. Some x ∷ rest) (skipped next front more)
  where
    behind : length (front ++ more) - length more ≡ length front
    behind = omega (arith, length-append front more)

    opened : (o : Option (X × List ℕ)) → o ≡ Some (x, more)
        → (elim o as (λ o. List (Option X)) [ None ↦ None ∷ [] | Some r ↦ Some r.0 ∷ records next (length (front ++ more) - length r.1) (front ++ more) ])
        ≡ Some x ∷ records next (length (front ++ more) - length more) (front ++ more)
    opened o e = rw e refl

numbered-cons : {X : Type 0} (number : ℕ) (x : X) (xs : List (Option X)) (items : List X)
    → numbered_from (suc number) xs ≡ Ok items → numbered_from number (Some x ∷ xs) ≡ Ok (x ∷ items)
numbered-cons number x xs items e = rw (e, numbered_from) refl

the_items : {X : Type 0} (xs ys : List X) → ◌≡◌ {A = Result (List X) ℕ} (Ok xs) (Ok ys) → ys ≡ xs
the_items xs ys e = cc e

-- where all are there, the first is, and the others are
numbered_all : {X P : Type 0} (number : ℕ) (o : Option X) (xs : List (Option X)) (items : List X) → numbered_from number (o ∷ xs) ≡ Ok items
    → ((x : X) (others : List X) → o ≡ Some x → numbered_from (suc number) xs ≡ Ok others → items ≡ x ∷ others → P) → P
numbered_all number None xs items e go = cc e
numbered_all {X} {P} number (Some x) xs items e go = later (numbered_from (suc number) xs) refl e
  where
    later : (r : Result (List X) ℕ) → numbered_from (suc number) xs ≡ r → (elim r as (λ r. Result (List X) ℕ) [ Ok items ↦ Ok (x ∷ items) | Err missing ↦ Err missing ]) ≡ Ok items → P
    later (Ok others) f e = go x others refl f (the_items (x ∷ others) items e)
    later (Err missing) f e = cc e

records_back : (attrs : List Attr) (columns : List CopyCol) (rows : List Row) (number : ℕ) (pieces : List (List ℕ))
    → IsTrue (is_any columns) → FormsStand columns → IsTrue (list_all (row_fits attrs) rows) → numbered_from number (map (record_bytes columns) rows) ≡ Ok pieces
    → numbered_from number (records (record_values (kinds_of attrs) columns) 0 (concat pieces)) ≡ Ok (map (column_values columns) rows)
records_back attrs columns [] number pieces some forms t e =
    ap (λ pieces. numbered_from number (records (record_values (kinds_of attrs) columns) 0 (concat pieces))) (the_items [] pieces e)
records_back attrs columns (row ∷ rows) number pieces some forms t e =
    let fit = both (row_fits attrs row) (list_all (row_fits attrs) rows) t in
    numbered_all number (record_bytes columns row) (map (record_bytes columns) rows) pieces e λ piece others e1 e2 e3.
    let first : record_values (kinds_of attrs) columns (piece ++ concat others) ≡ Some (column_values columns row, concat others) =
    record_back attrs row columns piece (concat others) fit.0 forms e1 in
    ap (λ pieces. numbered_from number (records (record_values (kinds_of attrs) columns) 0 (concat pieces))) e3
    ∙ ap (numbered_from number) (records-cons (record_values (kinds_of attrs) columns) (column_values columns row) piece (concat others) (record_some row columns piece some forms e1) first)
    ∙ numbered-cons number (column_values columns row) (records (record_values (kinds_of attrs) columns) 0 (concat others)) (map (column_values columns) rows)
    (records_back attrs columns rows (suc number) others some forms fit.1 e2)

map-map : {A B C : Type 0} (f : A → B) (g : B → C) (xs : List A) → map g (map f xs) ≡ map (λ x. g (f x)) xs
map-map f g [] = refl
map-map f g (x ∷ xs) = ap (λ ys. g (f x) ∷ ys) (map-map f g xs)

-- what a copy into a file writes of rows that fit, a copy from it reads
pub file_back : (attrs : List Attr) (columns : List CopyCol) (rows : List Row) (bytes : List ℕ)
    → IsTrue (is_any columns) → IsTrue (list_all (λ c. is_copy_form c.form) columns) → IsTrue (list_all (row_fits attrs) rows)
    → file_of_rows columns rows ≡ Ok bytes → rows_in_file (kinds_of attrs) columns bytes ≡ Ok (map (copied_row attrs columns) rows)
unfolding file_of_rows rows_in_file
file_back attrs columns rows bytes some forms t e = written (numbered_from 1 (map (record_bytes columns) rows)) refl e
  where
    read : (pieces : List (List ℕ)) → numbered_from 1 (map (record_bytes columns) rows) ≡ Ok pieces
        → rows_in_file (kinds_of attrs) columns (concat pieces) ≡ Ok (map (copied_row attrs columns) rows)
    read pieces f =
        let back = records_back attrs columns rows 1 pieces some forms t f in
        rw (back, rows_in_file) (ap Ok (map-map (column_values columns) (record_row (kinds_of attrs) columns) rows))

    written : (r : Result (List (List ℕ)) ℕ) → numbered_from 1 (map (record_bytes columns) rows) ≡ r
        → (elim r as (λ r. Result (List ℕ) ℕ) [ Ok pieces ↦ Ok (concat pieces) | Err number ↦ Err number ]) ≡ Ok bytes
        → rows_in_file (kinds_of attrs) columns bytes ≡ Ok (map (copied_row attrs columns) rows)
    written (Ok pieces) f e = ap (rows_in_file (kinds_of attrs) columns) (the_items (concat pieces) bytes e) ∙ read pieces f
    written (Err number) f e = cc e
