-- A record is read, and the bytes behind it are left.
use Rattle.std.proofs.Common.{◌≡◌, ◌⊎◌, inl, inr, refl, sym, ap, subst, ◌∙◌, ℕ, ◌<◌, true, not, IsTrue, List, [], ◌∷◌, ◌++◌, Option, Some, None, length, arith, append_assoc, length-append}
use Rattle.std.specs.Prelude.{option_map, slice_get}
use Rattle.std.specs.List.{list_all}
use Rattle.calculus.specs.declared.value.Kind.{Kind}
use Rattle.calculus.specs.declared.value.Value.{Value}
use Rattle.calculus.specs.declared.request.CopyCol.{CopyCol}
use Rattle.calculus.specs.Lists.{is_any}
use Rattle.quel_meaning.specs.Columns.{is_copy_form, column_value}
use Rattle.quel_meaning.specs.Copying.{record_values}
use Rattle.reading_laws.specs.Records.{IsWrittenAs, IsValueOf, IsRecord, IsEndedRecord}
use Rattle.reading_laws.proofs.FieldsRead.{the_pair, both, field_read, unended_read, IsTaken, field_taken, field_some}

-- ---- what stands in front is read

-- the value in front of the others
abbrev value_first : Value → List Value × List ℕ → List Value × List ℕ
value_first v others = (v ∷ others.0, others.1)

record-cons : (kinds : List Kind) (c : CopyCol) (columns : List CopyCol) (bytes rest : List ℕ) (v : Value)
    → column_value (not (is_any columns)) c.form (slice_get kinds c.attr) bytes ≡ Some (v, rest)
    → record_values kinds (c ∷ columns) bytes ≡ option_map (value_first v) (record_values kinds columns rest)
record-cons kinds c columns bytes rest v e = rw (e, record_values) refl

-- the value of a first field, and then those of the others
fields_read : (kinds : List Kind) (c : CopyCol) (columns : List CopyCol) (file bytes first behind rest : List ℕ) (v : Value) (values : List Value)
    → file ≡ first ++ behind → IsWrittenAs c.form bytes first → IsValueOf c.form (slice_get kinds c.attr) bytes v
    → record_values kinds columns behind ≡ Some (values, rest) → record_values kinds (c ∷ columns) file ≡ Some (v ∷ values, rest)
fields_read kinds c columns file bytes first behind rest v values is w value others =
    ap (record_values kinds (c ∷ columns)) is
    ∙ record-cons kinds c columns (first ++ behind) behind v (field_read (not (is_any columns)) c.form (slice_get kinds c.attr) v bytes first behind w value)
    ∙ ap (option_map (value_first v)) others

pub record_read : (kinds : List Kind) (columns : List CopyCol) (piece rest : List ℕ) (values : List Value) → IsRecord kinds columns piece values
    → record_values kinds columns (piece ++ rest) ≡ Some (values, rest)
record_read kinds [] piece rest [] h = ap (λ piece. Some ([], piece ++ rest)) h
record_read kinds [] piece rest (v ∷ values) h = absurd h
record_read kinds (c ∷ columns) piece rest [] h = absurd h
record_read kinds (c ∷ columns) piece rest (v ∷ values) h =
    let (bytes, first, others, is, w, value, more) = h in
    fields_read kinds c columns (piece ++ rest) bytes first (others ++ rest) rest v values (ap (λ piece. piece ++ rest) is ∙ append_assoc first others rest) w value
    (record_read kinds columns others rest values more)

pub ended_read : (kinds : List Kind) (columns : List CopyCol) (piece : List ℕ) (values : List Value) → IsEndedRecord kinds columns piece values
    → record_values kinds columns piece ≡ Some (values, [])
ended_read kinds [] piece values h = absurd h
ended_read kinds (c ∷ columns) piece [] h = absurd h
ended_read kinds (c ∷ columns) piece (v ∷ values) (inl h) =
    let (no_more, no_value, unended, value) = h in
    let column : column_value (not (is_any columns)) c.form (slice_get kinds c.attr) piece ≡ Some (v, []) =
    ap (λ columns. column_value (not (is_any columns)) c.form (slice_get kinds c.attr) piece) no_more
    ∙ unended_read c.form (slice_get kinds c.attr) v piece unended value in
    record-cons kinds c columns piece [] v column
    ∙ ap (λ columns. option_map (value_first v) (record_values kinds columns [])) no_more ∙ ap (λ values. Some (v ∷ values, [])) (sym no_value)
ended_read kinds (c ∷ columns) piece (v ∷ values) (inr h) =
    let (bytes, first, others, is, w, value, more) = h in
    fields_read kinds c columns piece bytes first others [] v values is w value (ended_read kinds columns others values more)

-- ---- what is read is a record

-- a record in front of the rest; or the whole, where the end of the file ends it
abbrev pub IsReadOf : List Kind → List CopyCol → List ℕ → List ℕ → List Value → Type 0
IsReadOf kinds columns file rest values =
    ((piece : List ℕ) × (file ≡ piece ++ rest) × IsRecord kinds columns piece values) ⊎ ((rest ≡ []) × IsEndedRecord kinds columns file values)

-- the value of the first column, and what is read of the others behind it
first_value : (kinds : List Kind) (c : CopyCol) (columns : List CopyCol) (file rest : List ℕ) (values : List Value) → record_values kinds (c ∷ columns) file ≡ Some (values, rest)
    → (v : Value) × (behind : List ℕ) × (others : List Value) × (column_value (not (is_any columns)) c.form (slice_get kinds c.attr) file ≡ Some (v, behind))
    × (record_values kinds columns behind ≡ Some (others, rest)) × (v ∷ others ≡ values)
first_value kinds c columns file rest values h = go (column_value (not (is_any columns)) c.form (slice_get kinds c.attr) file) refl h
  where
    more : (v : Value) (behind : List ℕ) → column_value (not (is_any columns)) c.form (slice_get kinds c.attr) file ≡ Some (v, behind)
        → (o : Option (List Value × List ℕ)) → record_values kinds columns behind ≡ o → option_map (value_first v) o ≡ Some (values, rest)
        → (w : Value) × (left : List ℕ) × (others : List Value) × (column_value (not (is_any columns)) c.form (slice_get kinds c.attr) file ≡ Some (w, left))
        × (record_values kinds columns left ≡ Some (others, rest)) × (w ∷ others ≡ values)
    more v behind e None f h = cc h
    more v behind e (Some p) f h =
        let (whole, left) = the_pair (v ∷ p.0) values p.1 rest h in
        (v, behind, p.0, e, f ∙ ap (λ left. Some (p.0, left)) left, whole)

    go : (o : Option (Value × List ℕ)) → column_value (not (is_any columns)) c.form (slice_get kinds c.attr) file ≡ o
        → (elim o as (λ o. Option (List Value × List ℕ)) [
          | None ↦ None
          | Some first ↦ option_map (λ others. (first.0 ∷ others.0, others.1)) (record_values kinds columns first.1)
        ]) ≡ Some (values, rest)
        → (w : Value) × (left : List ℕ) × (others : List Value) × (column_value (not (is_any columns)) c.form (slice_get kinds c.attr) file ≡ Some (w, left))
        × (record_values kinds columns left ≡ Some (others, rest)) × (w ∷ others ≡ values)
    go None e h = cc h
    go (Some first) e h = more first.0 first.1 e (record_values kinds columns first.1) refl h

no_more : (columns : List CopyCol) → not (is_any columns) ≡ true → columns ≡ []
no_more [] h = refl
no_more (c ∷ columns) h = cc h

pub record_taken : (kinds : List Kind) (columns : List CopyCol) (file rest : List ℕ) (values : List Value) → record_values kinds columns file ≡ Some (values, rest)
    → IsReadOf kinds columns file rest values
record_taken kinds [] file rest values h =
    let (none, whole) = the_pair [] values file rest h in
    inl ([], whole, subst (IsRecord kinds [] []) none refl)
record_taken kinds (c ∷ columns) file rest values h =
    let (v, behind, others, column, more, whole) = first_value kinds c columns file rest values h in
    let (bytes, taken, value) = field_taken (not (is_any columns)) c.form (slice_get kinds c.attr) file behind v column in
    subst (IsReadOf kinds (c ∷ columns) file rest) whole (go v behind others bytes value taken more (record_taken kinds columns behind rest others more))
  where
    go : (v : Value) (behind : List ℕ) (others : List Value) (bytes : List ℕ) → IsValueOf c.form (slice_get kinds c.attr) bytes v
        → IsTaken (not (is_any columns)) c.form file bytes behind → record_values kinds columns behind ≡ Some (others, rest) → IsReadOf kinds columns behind rest others
        → IsReadOf kinds (c ∷ columns) file rest (v ∷ others)
    go v behind others bytes value (inl (first, is, w)) more (inl (piece, front, of)) =
        inl (first ++ piece, is ∙ ap (λ left. first ++ left) front ∙ sym (append_assoc first piece rest), (bytes, first, piece, refl, w, value, of))
    go v behind others bytes value (inl (first, is, w)) more (inr (none_left, ended)) = inr (none_left, inr (bytes, first, behind, is, w, value, ended))
    go v behind others bytes value (inr (last, none_left, whole, unended)) more later =
        let none = no_more columns last in
        let ended : record_values kinds columns behind ≡ record_values kinds [] [] = λ i. record_values kinds (none i) (none_left i) in
        let (no_value, nothing_left) = the_pair [] others [] rest (sym ended ∙ more) in
        inr (
          sym nothing_left,
          inl (none, sym no_value, unended, subst (λ bytes. IsValueOf c.form (slice_get kinds c.attr) bytes v) whole value),
        )

-- ---- a record has a byte, where there is a column

pub record_some : (kinds : List Kind) (columns : List CopyCol) (piece : List ℕ) (values : List Value)
    → IsTrue (is_any columns) → IsTrue (list_all (λ c. is_copy_form c.form) columns) → IsRecord kinds columns piece values → 0 < length piece
record_some kinds [] piece values some forms h = cc some
record_some kinds (c ∷ columns) piece [] some forms h = absurd h
record_some kinds (c ∷ columns) piece (v ∷ values) some forms h =
    let (bytes, first, others, is, w, value, more) = h in
    let stands = both (is_copy_form c.form) (list_all (λ c. is_copy_form c.form) columns) forms in
    let long : length piece ≡ length (first ++ others) = ap length is in
    omega (arith, long, length-append first others, field_some c.form bytes first stands.0 w)
