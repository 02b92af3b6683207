-- A copy whose columns list every attribute reads the rows that were written.
use Rattle.std.proofs.Common.{◌≡◌, ◌⊎◌, inl, inr, refl, sym, ap, ◌∙◌, ℕ, zero, suc, ◌<◌, ◌≤◌, nat_lt, nat_eq, Bool, true, false, ◌||◌, IsTrue, List, [], ◌∷◌, Some, map, length, arith}
use Rattle.std.specs.Prelude.{slice_get, slice_set, fold, zip, Ok}
use Rattle.std.specs.List.{list_all, cons_option}
use Rattle.std.proofs.lemmas.Option.{slice_get_past}
use Rattle.std.proofs.lemmas.List.{length-map}
use Rattle.std.proofs.lemmas.Bool.Decides.{nat_tests, Decides-eqb}
use Rattle.calculus.specs.declared.value.Value.{Value}
use Rattle.calculus.specs.declared.schema.Attr.{Attr}
use Rattle.calculus.specs.declared.request.CopyCol.{CopyCol}
use Rattle.calculus.specs.Rows.{Row}
use Rattle.calculus.specs.Lists.{is_any, has_number}
use Rattle.calculus.specs.IsDatabase.{value_fits, row_fits}
use Rattle.calculus.specs.Pairs.{blank}
use Rattle.quel_meaning.specs.Columns.{is_copy_form}
use Rattle.quel_meaning.specs.CopiedBack.{kinds_of, column_values, copied_row, places, ListsAll}
use Rattle.quel_meaning.specs.Copying.{rows_in_file, file_of_rows}
use Rattle.quel_meaning.proofs.Fields.{both}
use Rattle.quel_meaning.proofs.RecordsBack.{file_back}

-- ---- one item

-- where an item is put that stands there in the other list, both agree wherever they did
set_agrees : {X : Type 0} (xs ys : List X) (i j : ℕ) (v : X) → slice_get ys i ≡ Some v → slice_get xs j ≡ slice_get ys j → slice_get (slice_set xs i v) j ≡ slice_get ys j
set_agrees [] ys i j v e f = f
set_agrees (x ∷ xs) ys zero zero v e f = sym e
set_agrees (x ∷ xs) ys zero (suc j) v e f = f
set_agrees (x ∷ xs) [] (suc i) j v e f = cc e
set_agrees (x ∷ xs) (y ∷ ys) (suc i) zero v e f = f
set_agrees (x ∷ xs) (y ∷ ys) (suc i) (suc j) v e f = set_agrees xs ys i j v e f

set_there : {X : Type 0} (xs : List X) (i : ℕ) (v : X) → i < length xs → slice_get (slice_set xs i v) i ≡ Some v
set_there [] i v lt = absurd (omega arith)
set_there (x ∷ xs) zero v lt = refl
set_there (x ∷ xs) (suc i) v lt = set_there xs i v (omega arith)

length-slice_set : {X : Type 0} (xs : List X) (i : ℕ) (v : X) → length (slice_set xs i v) ≡ length xs
length-slice_set [] i v = refl
length-slice_set (x ∷ xs) zero v = refl
length-slice_set (x ∷ xs) (suc i) v = ap suc (length-slice_set xs i v)

there : {X : Type 0} (xs : List X) (i : ℕ) → i < length xs → (x : X) × (slice_get xs i ≡ Some x)
there [] i lt = absurd (omega arith)
there (x ∷ xs) zero lt = (x, refl)
there (x ∷ xs) (suc i) lt = there xs i (omega arith)

same_items : {X : Type 0} (xs ys : List X) → ((i : ℕ) → slice_get xs i ≡ slice_get ys i) → xs ≡ ys
same_items [] [] h = refl
same_items [] (y ∷ ys) h = cc (h 0)
same_items (x ∷ xs) [] h = cc (h 0)
same_items (x ∷ xs) (y ∷ ys) h = λ t. the x y (h 0) t ∷ same_items xs ys (λ i. h (suc i)) t
  where
    the : {X : Type 0} (x y : X) → Some x ≡ Some y → x ≡ y
    the x y e = cc e

-- ---- a row

-- a row with its values put at the places of the columns
abbrev put_at : List CopyCol → Row → Row → Row
put_at columns row base = fold (λ r p. slice_set r p.0 p.1) base (zip (places columns) (column_values columns row))

put_agrees : (columns : List CopyCol) (row base : Row) (place : ℕ) → IsTrue (list_all (λ c. nat_lt c.attr (length row)) columns) → length base ≡ length row
    → (slice_get base place ≡ slice_get row place) ⊎ IsTrue (has_number (places columns) place) → slice_get (put_at columns row base) place ≡ slice_get row place
put_agrees [] row base place range same (inl e) = e
put_agrees [] row base place range same (inr t) = cc t
put_agrees (c ∷ columns) row base place range same h =
    let ranges = both (nat_lt c.attr (length row)) (list_all (λ c. nat_lt c.attr (length row)) columns) range in
    let inside : c.attr < length row = grind (arith, nat_tests, ranges.0) in
    let value = there row c.attr inside in
    let start : put_at (c ∷ columns) row base ≡ put_at columns row (slice_set base c.attr value.0) =
    ap (λ o. fold (λ r p. slice_set r p.0 p.1) base (zip (c.attr ∷ places columns) (cons_option o (column_values columns row)))) value.1 in
    ap (λ r. slice_get r place) start
    ∙ put_agrees columns row (slice_set base c.attr value.0) place ranges.1 (length-slice_set base c.attr value.0 ∙ same) (later h value inside (nat_eq c.attr place) refl)
  where
    later : (slice_get base place ≡ slice_get row place) ⊎ IsTrue (has_number (places (c ∷ columns)) place) → (value : (v : Value) × (slice_get row c.attr ≡ Some v))
        → c.attr < length row → (t : Bool) → nat_eq c.attr place ≡ t
        → (slice_get (slice_set base c.attr value.0) place ≡ slice_get row place) ⊎ IsTrue (has_number (places columns) place)
    later (inl e) value inside t f = inl (set_agrees base row c.attr place value.0 value.1 e)
    later (inr h) value inside true f =
        let one : c.attr ≡ place = (Decides-eqb c.attr place).0 f in
        let room : c.attr < length base = omega (arith, same, inside) in
        inl (ap (slice_get (slice_set base c.attr value.0)) (sym one) ∙ set_there base c.attr value.0 room ∙ sym value.1 ∙ ap (slice_get row) one)
    later (inr h) value inside false f = inr (ap (λ b. b || has_number (places columns) place) (sym f) ∙ h)

same_length : (attrs : List Attr) (row : Row) → IsTrue (row_fits attrs row) → length attrs ≡ length row
same_length [] [] t = refl
same_length [] (v ∷ row) t = cc t
same_length (a ∷ attrs) [] t = cc t
same_length (a ∷ attrs) (v ∷ row) t = ap suc (same_length attrs row (both (value_fits v a.kind) (row_fits attrs row) t).1)

-- the row of columns that list every attribute is the row
whole_row : (attrs : List Attr) (columns : List CopyCol) (row : Row) → IsTrue (row_fits attrs row) → ListsAll (length attrs) columns → copied_row attrs columns row ≡ row
whole_row attrs columns row t lists = same_items (copied_row attrs columns row) row at
  where
    long : length attrs ≡ length row
    long = same_length attrs row t

    base : Row
    base = map blank (kinds_of attrs)

    base_long : length base ≡ length row
    base_long = length-map (kinds_of attrs) blank ∙ length-map attrs (λ a. a.kind) ∙ long

    range : IsTrue (list_all (λ c. nat_lt c.attr (length row)) columns)
    range = ap (λ n. list_all (λ c. nat_lt c.attr n) columns) (sym long) ∙ lists.no_other

    at : (place : ℕ) → slice_get (copied_row attrs columns row) place ≡ slice_get row place
    at place = put_agrees columns row base place range base_long (cases (nat_lt place (length attrs)) refl)
      where
        cases : (b : Bool) → nat_lt place (length attrs) ≡ b → (slice_get base place ≡ slice_get row place) ⊎ IsTrue (has_number (places columns) place)
        cases true e = inr (lists.all place (grind (arith, nat_tests, e)))
        cases false e =
            let past : length attrs ≤ place = grind (arith, nat_tests, e) in
            inl (slice_get_past base place (omega (arith, base_long, long, past)) ∙ sym (slice_get_past row place (omega (arith, long, past))))

whole_rows : (attrs : List Attr) (columns : List CopyCol) (rows : List Row) → IsTrue (list_all (row_fits attrs) rows) → ListsAll (length attrs) columns
    → map (copied_row attrs columns) rows ≡ rows
whole_rows attrs columns [] t lists = refl
whole_rows attrs columns (row ∷ rows) t lists =
    let fit = both (row_fits attrs row) (list_all (row_fits attrs) rows) t in
    λ i. whole_row attrs columns row fit.0 lists i ∷ whole_rows attrs columns rows fit.1 lists i

-- a copy whose columns list every attribute reads the rows that were written
pub whole_file_back : (attrs : List Attr) (columns : List CopyCol) (rows : List Row) (bytes : List ℕ)
    → IsTrue (is_any columns) → IsTrue (list_all (λ c. is_copy_form c.form) columns) → ListsAll (length attrs) columns → IsTrue (list_all (row_fits attrs) rows)
    → file_of_rows columns rows ≡ Ok bytes → rows_in_file (kinds_of attrs) columns bytes ≡ Ok rows
whole_file_back attrs columns rows bytes some forms lists t e = file_back attrs columns rows bytes some forms t e ∙ ap Ok (whole_rows attrs columns rows t lists)
