-- A record is read by putting each value into its place.
use Rattle.std.proofs.Common.{◌≡◌, refl, sym, ap, ◌∙◌, ℕ, List, [], ◌∷◌, Option, Some, None, map, length, not}
use Rattle.std.specs.Prelude.{option_map, option_and_then, slice_get, slice_set}
use Rattle.calculus.specs.declared.value.Kind.{Kind}
use Rattle.calculus.specs.declared.value.Value.{Value}
use Rattle.calculus.specs.declared.request.CopyCol.{CopyCol}
use Rattle.calculus.specs.Lists.{is_any}
use Rattle.calculus.specs.Pairs.{blank, with_values}
use Rattle.calculus.specs.Rows.{Row}
use Rattle.quel_meaning.specs.Columns.{column_value}
use Rattle.quel_meaning.specs.Copying.{record_row, record_values}
use Rattle.copy_util.specs.Reading.{column_put, record_put}

abbrev places : List CopyCol → List ℕ
places columns = map (λ c. c.attr) columns

put_is : (kinds : List Kind) (columns : List CopyCol) (row : Row) (bytes : List ℕ)
    → record_put kinds columns row bytes ≡ option_map (λ (p : List Value × List ℕ). (with_values (places columns) p.0 row, p.1)) (record_values kinds columns bytes)
put_is kinds [] row bytes = refl
put_is kinds (c ∷ columns) row bytes = go (λ row bytes. put_is kinds columns row bytes) (column_value (not (is_any columns)) c.form (slice_get kinds c.attr) bytes)
  where
    behind : (v : Value) (o : Option (List Value × List ℕ))
        → ◌≡◌ {A = Option (Row × List ℕ)} (option_map (λ (p : List Value × List ℕ). (with_values (places columns) p.0 (slice_set row c.attr v), p.1)) o)
        (option_map (λ (p : List Value × List ℕ). (with_values (places (c ∷ columns)) p.0 row, p.1)) (option_map (λ (others : List Value × List ℕ). (v ∷ others.0, others.1)) o))
    behind v None = refl
    behind v (Some p) = refl

    go : ((row : Row) (bytes : List ℕ) → record_put kinds columns row bytes ≡ option_map (λ (p : List Value × List ℕ). (with_values (places columns) p.0 row, p.1)) (record_values kinds columns bytes))
        → (o : Option (Value × List ℕ))
        → option_and_then (λ (p : Row × List ℕ). record_put kinds columns p.0 p.1) (option_map (λ (first : Value × List ℕ). (slice_set row c.attr first.0, first.1)) o)
        ≡ option_map (λ (p : List Value × List ℕ). (with_values (places (c ∷ columns)) p.0 row, p.1)) (elim o as (λ o. Option (List Value × List ℕ)) [
          | None ↦ None
          | Some first ↦ option_map (λ (others : List Value × List ℕ). (first.0 ∷ others.0, others.1)) (record_values kinds columns first.1)
        ])
    go later None = refl
    go later (Some first) = later (slice_set row c.attr first.0) first.1 ∙ behind first.0 (record_values kinds columns first.1)

-- the row, and how many bytes are behind it
abbrev pub counted : Option (Row × List ℕ) → Option (Row × ℕ)
counted o = option_map (λ p. (p.0, length p.1)) o

-- and of what is said of a record
abbrev pub record_counted : List Kind → List CopyCol → List ℕ → Option (Row × ℕ)
record_counted kinds columns bytes = option_map (λ (p : List Value × List ℕ). (record_row kinds columns p.0, length p.1)) (record_values kinds columns bytes)

pub record_is : (kinds : List Kind) (columns : List CopyCol) (bytes : List ℕ) (o : Option (Row × List ℕ)) → o ≡ record_put kinds columns (map blank kinds) bytes
    → counted o ≡ record_counted kinds columns bytes
record_is kinds columns bytes o e = ap counted (e ∙ put_is kinds columns (map blank kinds) bytes) ∙ go (record_values kinds columns bytes)
  where
    go : (o : Option (List Value × List ℕ))
        → ◌≡◌ {A = Option (Row × ℕ)} (counted (option_map (λ (p : List Value × List ℕ). (with_values (places columns) p.0 (map blank kinds), p.1)) o)) (option_map (λ (p : List Value × List ℕ). (record_row kinds columns p.0, length p.1)) o)
    go None = refl
    go (Some p) = refl

-- the record that was read
pub record_was_read : (kinds : List Kind) (columns : List CopyCol) (bytes : List ℕ) (start row made : Row) (rest : List ℕ) → start ≡ map blank kinds → made ≡ row
    → Some (row, rest) ≡ record_put kinds columns start bytes → Some (made, length rest) ≡ record_counted kinds columns bytes
record_was_read kinds columns bytes start row made rest begun is e =
    ap (λ made. Some (made, length rest)) is ∙ record_is kinds columns bytes (Some (row, rest)) (e ∙ ap (λ start. record_put kinds columns start bytes) begun)

-- the one that is bad
pub record_was_bad : (kinds : List Kind) (columns : List CopyCol) (bytes : List ℕ) (start : Row) → start ≡ map blank kinds
    → None ≡ record_put kinds columns start bytes → None ≡ record_counted kinds columns bytes
record_was_bad kinds columns bytes start begun e = record_is kinds columns bytes None (e ∙ ap (λ start. record_put kinds columns start bytes) begun)

-- ---- column by column

-- one more column
pub one_more_column : (kinds : List Kind) (left others : List CopyCol) (c : CopyCol) (row after : Row) (bytes rest : List ℕ) (whole : Option (Row × List ℕ)) → left ≡ c ∷ others
    → record_put kinds left row bytes ≡ whole → Some (after, rest) ≡ column_put (not (is_any others)) (slice_get kinds c.attr) c row bytes → record_put kinds others after rest ≡ whole
one_more_column kinds left others c row after bytes rest whole split so_far e =
    ap (option_and_then (λ (p : Row × List ℕ). record_put kinds others p.0 p.1)) e ∙ ap (λ left. record_put kinds left row bytes) (sym split) ∙ so_far

-- one that is bad
pub one_bad_column : (kinds : List Kind) (left others : List CopyCol) (c : CopyCol) (row : Row) (bytes : List ℕ) (whole : Option (Row × List ℕ)) → left ≡ c ∷ others
    → record_put kinds left row bytes ≡ whole → None ≡ column_put (not (is_any others)) (slice_get kinds c.attr) c row bytes → None ≡ whole
one_bad_column kinds left others c row bytes whole split so_far e =
    ap (option_and_then (λ (p : Row × List ℕ). record_put kinds others p.0 p.1)) e ∙ ap (λ left. record_put kinds left row bytes) (sym split) ∙ so_far
