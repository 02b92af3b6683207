-- The rows that are read of a file fit the relation.
use Rattle.std.proofs.Common.{◌≡◌, refl, sym, ap, subst, ◌∙◌, ℕ, zero, suc, ◌-◌, Bool, true, false, not, ◌&&◌, IsTrue, List, [], ◌∷◌, Option, Some, None, map, length, nat_le, arith}
use Rattle.std.specs.Prelude.{option_map, option_and_then, slice_get, slice_set, Result, Ok, Err, if◌then◌else◌}
use Rattle.std.specs.List.{list_all, AllByRecursion}
use Rattle.std.proofs.lemmas.Bool.Decides.{nat_tests}
use Rattle.std.proofs.lemmas.Option.{option_and_then_some}
use Rattle.calculus.specs.declared.value.Value.{Value}
use Rattle.calculus.specs.declared.value.Value.TheVariants.{Int, Text}
use Rattle.calculus.specs.declared.value.Domain.TheVariants.{I1, I2, I4, C}
use Rattle.calculus.specs.declared.value.Kind.{Kind}
use Rattle.calculus.specs.declared.value.Kind.TheVariants.{Of, Wide}
use Rattle.calculus.specs.declared.schema.Attr.{Attr}
use Rattle.calculus.specs.declared.request.CopyCol.{CopyCol}
use Rattle.calculus.specs.declared.request.CopyForm.{CopyForm}
use Rattle.calculus.specs.declared.request.CopyForm.TheVariants.{Bin, Fixed, Until}
use Rattle.calculus.specs.Chars.{is_printable, is_chars}
use Rattle.calculus.specs.Text.{is_text, trimmed, text_of}
use Rattle.calculus.specs.Value.{fits}
use Rattle.calculus.specs.Kinds.{is_text_kind}
use Rattle.calculus.specs.Lists.{is_any}
use Rattle.calculus.specs.Rows.{Row}
use Rattle.calculus.specs.IsDatabase.{value_fits, row_fits, are_stored, is_stored_kind}
use Rattle.calculus.specs.Pairs.{blank, with_values}
use Rattle.calculus.specs.Replacement.{is_of_kind}
use Rattle.calculus.proofs.Texts.{trimmed_text}
use Rattle.quel_meaning.specs.Columns.{piece_of, printed_value, piece_value, fitting, column_value, spelled_signed, without_front_blanks}
use Rattle.quel_meaning.specs.Copying.{numbered_from, record_values, record_row, records, rows_in_file}
use Rattle.plan_laws.proofs.Kept.{both, each}

-- ---- values

-- a text is one in the language's sense; a number always is
abbrev IsTextual : Value → Type 0
IsTextual (Int z) = Unit {0}
IsTextual (Text t) = IsTrue (is_text t)

option_map_is : {A B P : Type 0} (f : A → B) (o : Option A) (y : B) → option_map f o ≡ Some y → ((x : A) → o ≡ Some x → f x ≡ y → P) → P
option_map_is f None y e go = cc e
option_map_is f (Some x) y e go = go x refl (the (f x) y e)
  where
    the : {B : Type 0} (x y : B) → Some x ≡ Some y → x ≡ y
    the x y e = cc e

text_of_is_text : (bytes text : List ℕ) → text_of bytes ≡ Some text → IsTrue (is_text text)
unfolding text_of
text_of_is_text bytes text e = go (list_all is_printable bytes) refl (nat_le (length (trimmed bytes)) 255) refl e
  where
    go : (a : Bool) → list_all is_printable bytes ≡ a → (b : Bool) → nat_le (length (trimmed bytes)) 255 ≡ b
        → (if a && b then Some (trimmed bytes) else None) ≡ Some text → IsTrue (is_text text)
    go true p true n e = ap is_text (sym (the (trimmed bytes) text e)) ∙ trimmed_text bytes p n
      where
        the : (x y : List ℕ) → Some x ≡ Some y → x ≡ y
        the x y e = cc e
    go true p false n e = cc e
    go false p b n e = cc e

printed_textual : (kind : Option Kind) (bytes : List ℕ) (v : Value) → printed_value kind bytes ≡ Some v → IsTextual v
printed_textual kind bytes v e = go (is_text_kind kind) e
  where
    go : (b : Bool) → (elim b as (λ b. Option Value) [ true ↦ option_map Text (text_of bytes) | false ↦ option_map Int (spelled_signed (trimmed (without_front_blanks bytes))) ]) ≡ Some v → IsTextual v
    go true e = option_map_is Text (text_of bytes) v e λ text e1 e2. subst IsTextual e2 (text_of_is_text bytes text e1)
    go false e = option_map_is Int (spelled_signed (trimmed (without_front_blanks bytes))) v e λ z e1 e2. subst IsTextual e2 tt

piece_textual : (form : CopyForm) (kind : Option Kind) (bytes : List ℕ) (v : Value) → piece_value form kind bytes ≡ Some v → IsTextual v
piece_textual (Bin n) kind bytes v e = subst IsTextual (the v e) tt
  where
    the : {x : Value} (v : Value) → Some x ≡ Some v → x ≡ v
    the v e = cc e
piece_textual (Fixed n) kind bytes v e = printed_textual kind bytes v e
piece_textual (Until stop) kind bytes v e = printed_textual kind bytes v e

-- a value of a stored kind fits it
of_kind_fits : (v : Value) (k : Kind) → IsTextual v → IsTrue (is_stored_kind k) → is_of_kind v (Some k) ≡ true → IsTrue (value_fits v k)
of_kind_fits v Wide textual stored e = cc stored
of_kind_fits (Int z) (Of d) textual stored e = e
of_kind_fits (Text t) (Of d) textual stored e = each (fits (Text t) d) (is_text t) e textual

kept_if : {X : Type 0} (b : Bool) (x y : X) → (if b then Some x else None) ≡ Some y → (b ≡ true) × (x ≡ y)
kept_if true x y e = (refl, cc e)
kept_if false x y e = cc e

-- the value that is read of a column is of the kind
column_of_kind : (last : Bool) (form : CopyForm) (kind : Option Kind) (bytes rest : List ℕ) (v : Value) → column_value last form kind bytes ≡ Some (v, rest)
    → IsTextual v × (is_of_kind v kind ≡ true)
column_of_kind last form kind bytes rest v e =
    option_and_then_some (λ cut. option_map (λ v. (v, cut.1)) (option_and_then (fitting kind) (piece_value form kind cut.0))) (piece_of last form bytes) (v, rest) e λ cut e1 e2.
    option_map_is (λ v. (v, cut.1)) (option_and_then (fitting kind) (piece_value form kind cut.0)) (v, rest) e2 λ w e3 e4.
    option_and_then_some (fitting kind) (piece_value form kind cut.0) w e3 λ u e5 e6.
    let fit = kept_if (is_of_kind u kind) u w e6 in
    let one : u ≡ v = fit.1 ∙ ap (λ p. p.0) e4 in
    (subst IsTextual one (piece_textual form kind cut.0 u e5), ap (λ v. is_of_kind v kind) (sym one) ∙ fit.0)

-- ---- rows

-- the values are of the kinds at the places of the columns, one by one
abbrev ValuesFit : List Kind → List CopyCol → List Value → Type 0
ValuesFit kinds [] [] = Unit {0}
ValuesFit kinds [] (v ∷ vs) = ⊥
ValuesFit kinds (c ∷ columns) [] = ⊥
ValuesFit kinds (c ∷ columns) (v ∷ vs) = (IsTextual v × (is_of_kind v (slice_get kinds c.attr) ≡ true)) × ValuesFit kinds columns vs

record_fits : (kinds : List Kind) (columns : List CopyCol) (bytes rest : List ℕ) (values : List Value) → record_values kinds columns bytes ≡ Some (values, rest) → ValuesFit kinds columns values
record_fits kinds [] bytes rest values e = subst (ValuesFit kinds []) (ap (λ p. p.0) (the e)) tt
  where
    the : {x y : List Value × List ℕ} → Some x ≡ Some y → x ≡ y
    the e = cc e
record_fits kinds (c ∷ columns) bytes rest values e =
    go (column_value (not (is_any columns)) c.form (slice_get kinds c.attr) bytes) refl e
    (λ bytes rest values. record_fits kinds columns bytes rest values)
  where
    go : (o : Option (Value × List ℕ)) → column_value (not (is_any columns)) c.form (slice_get kinds c.attr) bytes ≡ o
        → (elim o as (λ o. Option (List Value × List ℕ)) [ None ↦ None | Some first ↦ option_map (λ others. (first.0 ∷ others.0, others.1)) (record_values kinds columns first.1) ]) ≡ Some (values, rest)
        → ((bytes rest : List ℕ) (values : List Value) → record_values kinds columns bytes ≡ Some (values, rest) → ValuesFit kinds columns values)
        → ValuesFit kinds (c ∷ columns) values
    go None f e later = cc e
    go (Some first) f e later =
        option_map_is (λ others. (first.0 ∷ others.0, others.1)) (record_values kinds columns first.1) (values, rest) e λ others e1 e2.
        subst (ValuesFit kinds (c ∷ columns)) (ap (λ p. p.0) e2)
        (column_of_kind (not (is_any columns)) c.form (slice_get kinds c.attr) bytes first.1 first.0 f, later first.1 others.1 others.0 e1)

-- the kinds of attributes
abbrev kinds_of : List Attr → List Kind
kinds_of attrs = map (λ a. a.kind) attrs

set_fits : (attrs : List Attr) (row : Row) (i : ℕ) (v : Value) → IsTrue (are_stored attrs) → IsTrue (row_fits attrs row) → IsTextual v → is_of_kind v (slice_get (kinds_of attrs) i) ≡ true
    → IsTrue (row_fits attrs (slice_set row i v))
set_fits [] [] i v stored fit textual e = refl
set_fits [] (w ∷ row) i v stored fit textual e = cc fit
set_fits (a ∷ attrs) [] i v stored fit textual e = cc fit
set_fits (a ∷ attrs) (w ∷ row) zero v stored fit textual e =
    let store = both (is_stored_kind a.kind) (are_stored attrs) stored in
    let parts = both (value_fits w a.kind) (row_fits attrs row) fit in
    each (value_fits v a.kind) (row_fits attrs row) (of_kind_fits v a.kind textual store.0 e) parts.1
set_fits (a ∷ attrs) (w ∷ row) (suc i) v stored fit textual e =
    let store = both (is_stored_kind a.kind) (are_stored attrs) stored in
    let parts = both (value_fits w a.kind) (row_fits attrs row) fit in
    each (value_fits w a.kind) (row_fits attrs (slice_set row i v)) parts.0 (set_fits attrs row i v store.1 parts.1 textual e)

put_fits : (attrs : List Attr) (columns : List CopyCol) (values : List Value) (row : Row) → IsTrue (are_stored attrs) → IsTrue (row_fits attrs row) → ValuesFit (kinds_of attrs) columns values
    → IsTrue (row_fits attrs (with_values (map (λ c. c.attr) columns) values row))
put_fits attrs [] [] row stored fit h = fit
put_fits attrs [] (v ∷ vs) row stored fit h = absurd h
put_fits attrs (c ∷ columns) [] row stored fit h = absurd h
put_fits attrs (c ∷ columns) (v ∷ vs) row stored fit h =
    put_fits attrs columns vs (slice_set row c.attr v) stored (set_fits attrs row c.attr v stored fit h.0.0 h.0.1) h.1

blank_fits : (k : Kind) → IsTrue (is_stored_kind k) → IsTrue (value_fits (blank k) k)
unfolding is_text is_chars
blank_fits Wide t = cc t
blank_fits (Of I1) t = refl
blank_fits (Of I2) t = refl
blank_fits (Of I4) t = refl
blank_fits (Of (C width)) t = each (nat_le 0 width) true (grind (arith, nat_tests)) refl

blanks_fit : (attrs : List Attr) → IsTrue (are_stored attrs) → IsTrue (row_fits attrs (map blank (kinds_of attrs)))
blanks_fit [] t = refl
blanks_fit (a ∷ attrs) t =
    let store = both (is_stored_kind a.kind) (are_stored attrs) t in
    each (value_fits (blank a.kind) a.kind) (row_fits attrs (map blank (kinds_of attrs))) (blank_fits a.kind store.0) (blanks_fit attrs store.1)

-- ---- all rows

items_are : {X : Type 0} (xs ys : List X) → ◌≡◌ {A = Result (List X) ℕ} (Ok xs) (Ok ys) → xs ≡ ys
items_are xs ys e = cc e

-- what stands for each record is something that the record at the front of some bytes gave
given_by_next : {X : Type 0} (next : List ℕ → Option (X × List ℕ)) (P : X → Type 0) → ((bytes rest : List ℕ) (x : X) → next bytes ≡ Some (x, rest) → P x)
    → (skipped : ℕ) (bytes : List ℕ) → AllByRecursion (λ o. (x : X) → o ≡ Some x → P x) (records next skipped bytes)
given_by_next next P h skipped [] = tt
given_by_next next P h (suc skipped) (b ∷ bytes) = given_by_next next P h skipped bytes
given_by_next {X} next P h zero (b ∷ bytes) = go (next (b ∷ bytes)) refl (λ skipped. given_by_next next P h skipped bytes)
  where
    go : (o : Option (X × List ℕ)) → next (b ∷ bytes) ≡ o → ((skipped : ℕ) → AllByRecursion (λ o. (x : X) → o ≡ Some x → P x) (records next skipped bytes))
        → AllByRecursion (λ o. (x : X) → o ≡ Some x → P x) (elim o as (λ o. List (Option X)) [ None ↦ None ∷ [] | Some r ↦ Some r.0 ∷ records next (length bytes - length r.1) bytes ])
    go None f later = (λ x e. cc e, tt)
    go (Some r) f later = (λ x e. subst P (the r.0 x e) (h (b ∷ bytes) r.1 r.0 f), later (length bytes - length r.1))
      where
        the : (x y : X) → Some x ≡ Some y → x ≡ y
        the x y e = cc e

given_all : {X : Type 0} (P : X → Type 0) (number : ℕ) (xs : List (Option X)) (items : List X) → AllByRecursion (λ o. (x : X) → o ≡ Some x → P x) xs
    → numbered_from number xs ≡ Ok items → AllByRecursion P items
given_all P number [] items h e = subst (AllByRecursion P) (items_are [] items e) tt
given_all P number (None ∷ xs) items h e = cc e
given_all {X} P number (Some x ∷ xs) items h e = go (numbered_from (suc number) xs) refl e (λ others. given_all P (suc number) xs others h.1)
  where
    go : (r : Result (List X) ℕ) → numbered_from (suc number) xs ≡ r → (elim r as (λ r. Result (List X) ℕ) [ Ok items ↦ Ok (x ∷ items) | Err missing ↦ Err missing ]) ≡ Ok items
        → ((others : List X) → numbered_from (suc number) xs ≡ Ok others → AllByRecursion P others) → AllByRecursion P items
    go (Ok others) f e later = subst (AllByRecursion P) (items_are (x ∷ others) items e) (h.0 x refl, later others f)
    go (Err missing) f e later = cc e

rows_all_fit : (attrs : List Attr) (columns : List CopyCol) (items : List (List Value)) → IsTrue (are_stored attrs) → AllByRecursion (ValuesFit (kinds_of attrs) columns) items
    → IsTrue (list_all (row_fits attrs) (map (record_row (kinds_of attrs) columns) items))
rows_all_fit attrs columns [] stored h = refl
rows_all_fit attrs columns (values ∷ items) stored h =
    each (row_fits attrs (record_row (kinds_of attrs) columns values)) (list_all (row_fits attrs) (map (record_row (kinds_of attrs) columns) items))
    (put_fits attrs columns values (map blank (kinds_of attrs)) stored (blanks_fit attrs stored) h.0) (rows_all_fit attrs columns items stored h.1)

-- the rows of a file fit attributes that are stored
pub read_rows_fit : (attrs : List Attr) (columns : List CopyCol) (bytes : List ℕ) (rows : List Row) → IsTrue (are_stored attrs)
    → rows_in_file (kinds_of attrs) columns bytes ≡ Ok rows → IsTrue (list_all (row_fits attrs) rows)
unfolding rows_in_file
read_rows_fit attrs columns bytes rows stored e = go (numbered_from 1 (records (record_values (kinds_of attrs) columns) 0 bytes)) refl e
  where
    go : (r : Result (List (List Value)) ℕ) → numbered_from 1 (records (record_values (kinds_of attrs) columns) 0 bytes) ≡ r
        → (elim r as (λ r. Result (List Row) ℕ) [ Ok values ↦ Ok (map (record_row (kinds_of attrs) columns) values) | Err number ↦ Err number ]) ≡ Ok rows → IsTrue (list_all (row_fits attrs) rows)
    go (Ok items) f e =
        let given = given_by_next (record_values (kinds_of attrs) columns) (ValuesFit (kinds_of attrs) columns)
        (λ bytes rest values e. record_fits (kinds_of attrs) columns bytes rest values e) 0 bytes in
        let each_fits = given_all (ValuesFit (kinds_of attrs) columns) 1 (records (record_values (kinds_of attrs) columns) 0 bytes) items given f in
        ap (list_all (row_fits attrs)) (sym (items_are (map (record_row (kinds_of attrs) columns) items) rows e)) ∙ rows_all_fit attrs columns items stored each_fits
    go (Err number) f e = cc e
