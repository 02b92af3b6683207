-- Records are written column by column, and files record by record.
use Rattle.std.proofs.Common.{◌≡◌, refl, sym, ap, ◌∙◌, ℕ, suc, ◌+◌, ◌<◌, ◌≤◌, List, [], ◌∷◌, ◌++◌, Option, Some, None, Bool, true, false, ◌&&◌, IsTrue, map, length, drop, get_or, arith, append_assoc, drop-cons}
use Rattle.std.specs.Prelude.{option_map, option_and_then, Result, Ok, Err}
use Rattle.std.specs.List.{concat}
use Rattle.std.proofs.lemmas.List.{append-nil, length-drop}
use Rattle.calculus.specs.declared.request.CopyCol.{CopyCol}
use Rattle.calculus.specs.Rows.{Row}
use Rattle.quel_meaning.specs.Copying.{field_bytes, file_of_rows, numbered_from, record_bytes}
use Rattle.quel_meaning.specs.Columns.{is_copy_form}
use Rattle.copy_util.specs.Reading.{have_forms}
use Rattle.copy_util.specs.Writing.{bytes_before, file_from, where_put}

-- ---- records

both : (a b : Bool) → IsTrue (a && b) → IsTrue a × IsTrue b
both true true t = (refl, refl)
both true false t = cc
both false b t = cc

the : (x y : List ℕ) → Some x ≡ Some y → x ≡ y
the x y e = cc e

-- a column that was added
pub field_was_put : (columns : List CopyCol) (c : CopyCol) (row : Row) (before after : List ℕ) → option_map (λ piece. before ++ piece) (field_bytes row c) ≡ Some after
    → option_map (λ piece. before ++ piece) (record_bytes (c ∷ columns) row) ≡ option_map (λ piece. after ++ piece) (record_bytes columns row)
field_was_put columns c row before after e = go (field_bytes row c) e
  where
    behind : (first : List ℕ) → before ++ first ≡ after → (o : Option (List ℕ))
        → option_map (λ piece. before ++ piece) (option_map (λ others. first ++ others) o) ≡ option_map (λ piece. after ++ piece) o
    behind first e None = refl
    behind first e (Some others) = ap Some (sym (append_assoc before first others) ∙ ap (λ bytes. bytes ++ others) e)

    go : (o : Option (List ℕ)) → option_map (λ piece. before ++ piece) o ≡ Some after
        → option_map (λ piece. before ++ piece) (option_and_then (λ first. option_map (λ others. first ++ others) (record_bytes columns row)) o)
        ≡ option_map (λ piece. after ++ piece) (record_bytes columns row)
    go None e = cc e
    go (Some first) e = behind first (the (before ++ first) after e) (record_bytes columns row)

-- one that is bad
pub field_is_bad : (columns : List CopyCol) (c : CopyCol) (row : Row) (before : List ℕ) → option_map (λ piece. before ++ piece) (field_bytes row c) ≡ None
    → option_map (λ piece. before ++ piece) (record_bytes (c ∷ columns) row) ≡ None
field_is_bad columns c row before e = go (field_bytes row c) e
  where
    go : (o : Option (List ℕ)) → option_map (λ piece. before ++ piece) o ≡ None
        → option_map (λ piece. before ++ piece) (option_and_then (λ first. option_map (λ others. first ++ others) (record_bytes columns row)) o) ≡ None
    go None e = refl
    go (Some first) e = cc e

-- one more column
pub one_more_field : (left others : List CopyCol) (c : CopyCol) (row : Row) (whole : Option (List ℕ)) (before after : List ℕ) (put : Bool) → left ≡ c ∷ others
    → whole ≡ option_map (λ piece. before ++ piece) (record_bytes left row) → option_map (λ piece. before ++ piece) (field_bytes row c) ≡ where_put put after → put ≡ true
    → whole ≡ option_map (λ piece. after ++ piece) (record_bytes others row)
one_more_field left others c row whole before after put split so_far e was =
    so_far ∙ ap (λ left. option_map (λ piece. before ++ piece) (record_bytes left row)) split ∙ field_was_put others c row before after (e ∙ ap (λ put. where_put put after) was)

-- one that is bad
pub one_bad_field : (left others : List CopyCol) (c : CopyCol) (row : Row) (whole : Option (List ℕ)) (before after : List ℕ) (put : Bool) → left ≡ c ∷ others
    → whole ≡ option_map (λ piece. before ++ piece) (record_bytes left row) → option_map (λ piece. before ++ piece) (field_bytes row c) ≡ where_put put after → put ≡ false
    → whole ≡ None
one_bad_field left others c row whole before after put split so_far e was =
    so_far ∙ ap (λ left. option_map (λ piece. before ++ piece) (record_bytes left row)) split ∙ field_is_bad others c row before (e ∙ ap (λ put. where_put put after) was)

-- no more columns
pub all_fields : (left : List CopyCol) (row : Row) (whole : Option (List ℕ)) (before : List ℕ) → left ≡ []
    → whole ≡ option_map (λ piece. before ++ piece) (record_bytes left row) → whole ≡ Some before
all_fields left row whole before end so_far = so_far ∙ ap (λ left. option_map (λ piece. before ++ piece) (record_bytes left row)) end ∙ ap Some (append-nil before)

pub forms_behind : (left others : List CopyCol) (c : CopyCol) → left ≡ c ∷ others → IsTrue (have_forms left) → IsTrue (have_forms others)
forms_behind left others c split forms = (both (is_copy_form c.form) (have_forms others) (ap have_forms (sym split) ∙ forms)).1

-- ---- files

bytes_more : (before piece after : List ℕ) (r : Result (List (List ℕ)) ℕ) → before ++ piece ≡ after
    → bytes_before before (elim (elim r as (λ r. Result (List (List ℕ)) ℕ) [ Ok pieces ↦ Ok (piece ∷ pieces) | Err missing ↦ Err missing ]) as (λ r. Result (List ℕ) ℕ) [ Ok pieces ↦ Ok (concat pieces) | Err missing ↦ Err missing ])
    ≡ bytes_before after (elim r as (λ r. Result (List ℕ) ℕ) [ Ok pieces ↦ Ok (concat pieces) | Err missing ↦ Err missing ])
bytes_more before piece after (Ok pieces) e = ap Ok (sym (append_assoc before piece (concat pieces)) ∙ ap (λ bytes. bytes ++ concat pieces) e)
bytes_more before piece after (Err missing) e = refl

abbrev whole : Result (List (List ℕ)) ℕ → Result (List ℕ) ℕ
whole r = elim r as (λ r. Result (List ℕ) ℕ) [ Ok pieces ↦ Ok (concat pieces) | Err missing ↦ Err missing ]

first_written : (columns : List CopyCol) (number : ℕ) (row : Row) (rows : List Row) (before after : List ℕ) → option_map (λ piece. before ++ piece) (record_bytes columns row) ≡ Some after
    → bytes_before before (file_from number columns (row ∷ rows)) ≡ bytes_before after (file_from (suc number) columns rows)
first_written columns number row rows before after e = go (record_bytes columns row) e
  where
    go : (o : Option (List ℕ)) → option_map (λ piece. before ++ piece) o ≡ Some after
        → bytes_before before (whole (numbered_from number (o ∷ map (record_bytes columns) rows))) ≡ bytes_before after (file_from (suc number) columns rows)
    go None e = cc e
    go (Some piece) e = bytes_more before piece after (numbered_from (suc number) (map (record_bytes columns) rows)) (the (before ++ piece) after e)

first_is_bad : (columns : List CopyCol) (number : ℕ) (row : Row) (rows : List Row) (before : List ℕ) → option_map (λ piece. before ++ piece) (record_bytes columns row) ≡ None
    → bytes_before before (file_from number columns (row ∷ rows)) ≡ Err number
first_is_bad columns number row rows before e = go (record_bytes columns row) e
  where
    go : (o : Option (List ℕ)) → option_map (λ piece. before ++ piece) o ≡ None
        → bytes_before before (whole (numbered_from number (o ∷ map (record_bytes columns) rows))) ≡ Err number
    go None e = refl
    go (Some piece) e = cc e

-- one more row
pub row_written : (columns : List CopyCol) (rows : List Row) (i : ℕ) (row : Row) (file : Result (List ℕ) ℕ) (before after : List ℕ) (put : Bool) → i < length rows → row ≡ get_or rows i row
    → file ≡ bytes_before before (file_from (i + 1) columns (drop i rows)) → option_map (λ piece. before ++ piece) (record_bytes columns row) ≡ where_put put after → put ≡ true
    → file ≡ bytes_before after (file_from (i + 1 + 1) columns (drop (i + 1) rows))
row_written columns rows i row file before after put less is so_far e was =
    so_far ∙ (λ j. bytes_before before (file_from (i + 1) columns (split j))) ∙ first_written columns (i + 1) row (drop (i + 1) rows) before after (e ∙ ap (λ put. where_put put after) was)
    ∙ (let one : suc (i + 1) ≡ i + 1 + 1 = omega arith in ap (λ n. bytes_before after (file_from n columns (drop (i + 1) rows))) one)
  where
    split : drop i rows ≡ row ∷ drop (i + 1) rows
    split = drop-cons rows i row less ∙ (let one : suc i ≡ i + 1 = omega arith in ap (λ n. get_or rows i row ∷ drop n rows) one) ∙ ap (λ row. row ∷ drop (i + 1) rows) (sym is)

-- the first bad one
pub row_not_written : (columns : List CopyCol) (rows : List Row) (i : ℕ) (row : Row) (file : Result (List ℕ) ℕ) (before after : List ℕ) (put : Bool) → i < length rows → row ≡ get_or rows i row
    → file ≡ bytes_before before (file_from (i + 1) columns (drop i rows)) → option_map (λ piece. before ++ piece) (record_bytes columns row) ≡ where_put put after → put ≡ false
    → file ≡ Err (i + 1)
row_not_written columns rows i row file before after put less is so_far e was =
    so_far ∙ (λ j. bytes_before before (file_from (i + 1) columns (split j))) ∙ first_is_bad columns (i + 1) row (drop (i + 1) rows) before (e ∙ ap (λ put. where_put put after) was)
  where
    split : drop i rows ≡ row ∷ drop (i + 1) rows
    split = drop-cons rows i row less ∙ (let one : suc i ≡ i + 1 = omega arith in ap (λ n. get_or rows i row ∷ drop n rows) one) ∙ ap (λ row. row ∷ drop (i + 1) rows) (sym is)

none_behind : (xs : List Row) → length xs ≤ 0 → xs ≡ []
none_behind [] h = refl
none_behind (x ∷ xs) h = absurd (omega (arith, h))

-- no more rows
pub all_written : (columns : List CopyCol) (rows : List Row) (i : ℕ) (file : Result (List ℕ) ℕ) (before : List ℕ) → length rows ≤ i
    → file ≡ bytes_before before (file_from (i + 1) columns (drop i rows)) → file ≡ Ok before
all_written columns rows i file before end so_far =
    so_far ∙ (λ j. bytes_before before (file_from (i + 1) columns (none_behind (drop i rows) (omega (arith, end, length-drop i rows)) j))) ∙ ap Ok (append-nil before)

-- none yet
pub none_written : (columns : List CopyCol) (rows : List Row) (out : List ℕ) → out ≡ [] → file_of_rows columns rows ≡ bytes_before out (file_from (0 + 1) columns (drop 0 rows))
unfolding file_of_rows
none_written columns rows out empty = go (file_from 1 columns rows) ∙ ap (λ out. bytes_before out (file_from 1 columns rows)) (sym empty)
  where
    go : (r : Result (List ℕ) ℕ) → r ≡ bytes_before [] r
    go (Ok bytes) = refl
    go (Err number) = refl
