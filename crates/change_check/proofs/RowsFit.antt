-- Rows that go and come, part by part.
use Rattle.std.proofs.Common.{◌≡◌, refl, ap, ◌∙◌, ◌+◌, ◌-◌, nat_le, Bool, true, false, ◌&&◌, not, List, length}
use Rattle.std.specs.List.{list_all, list_any}
use Rattle.calculus.specs.declared.query.RelKey.{RelKey}
use Rattle.calculus.specs.declared.schema.Attr.{Attr}
use Rattle.calculus.specs.Limits.{most_rows}
use Rattle.calculus.specs.Rows.{Row, has}
use Rattle.calculus.specs.Database.{Db, is_relation}
use Rattle.calculus.specs.Stored.{rows_at, attrs_at}
use Rattle.calculus.specs.IsDatabase.{row_fits}
use Rattle.calculus.specs.Change.{rows_differ}
use Rattle.change_laws.specs.Fit.{rows_are_fit}
use Rattle.change_check.proofs.Parts.{stops, goes_on, and_then}

-- the rows that go are there, and none that comes is
abbrev pub moves : Db → RelKey → List Row → List Row → Bool
moves db rel remove add = list_all (has (rows_at db rel)) remove && not (list_any (has (rows_at db rel)) add)

-- the lists stand by themselves
abbrev pub stand : List Attr → List Row → List Row → Bool
stand attrs remove add = rows_differ remove && (rows_differ add && list_all (row_fits attrs) add)

pub no_relation : (db : Db) (rel : RelKey) (remove add : List Row) → is_relation db rel ≡ false → false ≡ rows_are_fit db rel remove add
unfolding rows_are_fit
no_relation db rel remove add h = stops (is_relation db rel) _ false h refl

pub not_moved : (db : Db) (rel : RelKey) (remove add : List Row) → is_relation db rel ≡ true → moves db rel remove add ≡ false → false ≡ rows_are_fit db rel remove add
unfolding rows_are_fit
not_moved db rel remove add h m = goes_on (is_relation db rel) _ false h (and_then (list_all (has (rows_at db rel)) remove) (not (list_any (has (rows_at db rel)) add)) _ false (stops (moves db rel remove add) _ false m refl))

pub by_number : (db : Db) (rel : RelKey) (attrs : List Attr) (remove add : List Row) (fit : Bool) → is_relation db rel ≡ true → moves db rel remove add ≡ true → attrs_at db rel ≡ attrs → stand attrs remove add ≡ true
    → fit ≡ nat_le (length (rows_at db rel) + length add - length remove) most_rows → fit ≡ rows_are_fit db rel remove add
unfolding rows_are_fit
by_number db rel attrs remove add fit h m a s f =
    goes_on (is_relation db rel) _ fit h
    (and_then (list_all (has (rows_at db rel)) remove) (not (list_any (has (rows_at db rel)) add)) _ fit
    (goes_on (moves db rel remove add) _ fit m
    (shut (rows_differ remove) (rows_differ add) (list_all (row_fits (attrs_at db rel)) add) _ fit (ap (λ attrs. stand attrs remove add) a ∙ s) f)))
  where
    shut : (a b c d r : Bool) → (a && (b && c)) ≡ true → r ≡ d → r ≡ (a && (b && (c && d)))
    shut true true true d r h f = f
    shut true true false d r h f = absurd (cc h)
    shut true false c d r h f = absurd (cc h)
    shut false b c d r h f = absurd (cc h)

pub not_standing : (db : Db) (rel : RelKey) (attrs : List Attr) (remove add : List Row) → is_relation db rel ≡ true → moves db rel remove add ≡ true → attrs_at db rel ≡ attrs → stand attrs remove add ≡ false
    → false ≡ rows_are_fit db rel remove add
unfolding rows_are_fit
not_standing db rel attrs remove add h m a s =
    goes_on (is_relation db rel) _ false h
    (and_then (list_all (has (rows_at db rel)) remove) (not (list_any (has (rows_at db rel)) add)) _ false
    (goes_on (moves db rel remove add) _ false m
    (shut (rows_differ remove) (rows_differ add) (list_all (row_fits (attrs_at db rel)) add) _ (ap (λ attrs. stand attrs remove add) a ∙ s))))
  where
    shut : (a b c d : Bool) → (a && (b && c)) ≡ false → false ≡ (a && (b && (c && d)))
    shut true true true d h = absurd (cc h)
    shut true true false d h = refl
    shut true false c d h = refl
    shut false b c d h = refl
