-- What a copy from a file appends is a lawful change.
use Rattle.std.proofs.Common.{◌≡◌, refl, sym, ap, ◌∙◌, subst, ℕ, nat_le, nat_lt, Bool, true, false, not, IsTrue, List, [], ◌∷◌, Option, Some, None, map, filter, length, arith}
use Rattle.std.specs.Prelude.{find, is_some, if◌then◌else◌, Result, Ok, Err}
use Rattle.std.specs.List.{list_all, AllByRecursion}
use Rattle.std.proofs.lemmas.Bool.Decides.{nat_tests}
use Rattle.std.proofs.lemmas.List.Kept.{IsStrictlySortedBy-filter}
use Rattle.calculus.specs.declared.query.RelKey.{RelKey}
use Rattle.calculus.specs.declared.request.CopyCol.{CopyCol}
use Rattle.calculus.specs.declared.change.DbChange.{DbChange}
use Rattle.calculus.specs.declared.change.DbChange.TheVariants as change
use Rattle.calculus.specs.declared.reply.Refusal.{Refusal}
use Rattle.calculus.specs.Keys.{same_key}
use Rattle.calculus.specs.Limits.{most_rows}
use Rattle.calculus.specs.Rows.{Row, Ascends, has}
use Rattle.calculus.specs.Value.{row_cmp}
use Rattle.calculus.specs.Database.{Db, Relation, relation_at, is_relation}
use Rattle.calculus.specs.Stored.{rows_at, kinds_at}
use Rattle.calculus.specs.Replacement.{first_refusal, with_rows, without_rows}
use Rattle.calculus.specs.IsDatabase.{IsDatabase, row_fits, are_stored, relation_rows_fit}
use Rattle.calculus.specs.Change.{laid, names_what_is_there, adds_what_is_new, lists_once, rows_differ, IsLawful}
use Rattle.fault_io.specs.Files.{Files, fetched}
use Rattle.quel_meaning.specs.Planned.{owner_refusals}
use Rattle.quel_meaning.specs.Copying.{file_of_constant, refusal, bad_row, keeps_rules, rows_in_file, rows_appended, file_appended, copied_from, most_file_bytes}
use Rattle.plan_laws.specs.Fitting.{is_ranged}
use Rattle.plan_laws.proofs.Kept.{both, each, all_filter}
use Rattle.plan_laws.proofs.Planned.{all_absent, base_relation}
use Rattle.plan_laws.proofs.ReadRows.{read_rows_fit}
use Rattle.plan_laws.proofs.RowsChanged.{Ascends-with_rows, new_ones_put, new_ones_are_new, rows_that_ascend_differ, all_with_rows, its_rows, its_kinds, rows_leave}

-- ---- the relation under a key

-- a test that each relation passes the one that is found passes, and so for what isn't a truth value
pub found_passes : (P : Relation → Type 0) (test : Relation → Bool) (rs : List Relation) (relation : Relation) → AllByRecursion P rs → find test rs ≡ Some relation → P relation
found_passes P test [] relation h e = cc e
found_passes P test (r ∷ rs) relation h e = go (test r) e (λ e. found_passes P test rs relation h.1 e)
  where
    the : {x y : Relation} → Some x ≡ Some y → x ≡ y
    the e = cc e

    go : (b : Bool) → (if b then Some r else find test rs) ≡ Some relation → (find test rs ≡ Some relation → P relation) → P relation
    go true e later = subst P (the e) h.0
    go false e later = later e

as_each : (test : Relation → Bool) (rs : List Relation) → IsTrue (list_all test rs) → AllByRecursion (λ r. IsTrue (test r)) rs
as_each test [] t = tt
as_each test (r ∷ rs) t = let parts = both (test r) (list_all test rs) t in (parts.0, as_each test rs parts.1)

-- where there is one, it is this one
there_is : {P : Type 0} (o : Option Relation) → is_some o ≡ true → ((r : Relation) → o ≡ Some r → P) → P
there_is None e go = cc e
there_is (Some r) e go = go r refl

-- ---- appended rows

-- rows that fit, appended as one set, make a lawful change
appended_lawful : (db : Db) (rel : RelKey) (relation : Relation) (rows : List Row) (made : DbChange) → IsDatabase db → relation_at db rel ≡ Some relation
    → IsTrue (list_all (row_fits relation.info.attrs) rows) → rows_appended db rel rows ≡ Ok made → IsLawful db made
unfolding laid names_what_is_there adds_what_is_new lists_once
appended_lawful db rel relation rows made is found fit e = go (nat_lt most_rows (length after)) refl e
  where
    kept : List Row
    kept = filter (keeps_rules db rel) rows

    after : List Row
    after = with_rows kept (rows_at db rel)

    before : rows_at db rel ≡ relation.rows
    before = its_rows db rel relation found

    ascend_before : Ascends (rows_at db rel)
    ascend_before = subst Ascends (sym before) (found_passes (λ r. Ascends r.rows) (λ r. same_key r.info.key rel) db.relations relation is.rows_ascend found)

    ascend : Ascends after
    ascend = Ascends-with_rows kept (rows_at db rel) ascend_before

    fit_before : IsTrue (list_all (row_fits relation.info.attrs) (rows_at db rel))
    fit_before = subst (λ rows. IsTrue (list_all (row_fits relation.info.attrs) rows)) (sym before)
        (found_passes (λ r. IsTrue (relation_rows_fit r)) (λ r. same_key r.info.key rel) db.relations relation (as_each relation_rows_fit db.relations is.rows_fit) found)

    fits_after : IsTrue (list_all (row_fits relation.info.attrs) after)
    fits_after = all_with_rows (row_fits relation.info.attrs) kept (rows_at db rel) (all_filter (row_fits relation.info.attrs) (keeps_rules db rel) rows fit) fit_before

    lawful : nat_lt most_rows (length after) ≡ false → IsLawful db (change.Rows rel [] (without_rows (rows_at db rel) after))
    lawful few = record {
      names_are_there = each (is_relation db rel) true (ap is_some found) refl;
      additions_are_new = ap not (new_ones_are_new (rows_at db rel) after);
      nothing_is_listed_twice = each true (rows_differ (without_rows (rows_at db rel) after)) refl
          (rows_that_ascend_differ (without_rows (rows_at db rel) after) (IsStrictlySortedBy-filter row_cmp (λ row. not (has (rows_at db rel) row)) after ascend));
      leaves_a_database = rows_leave db rel relation [] (without_rows (rows_at db rel) after) after is found
          (ap (λ rows. with_rows (without_rows (rows_at db rel) after) (without_rows [] rows)) (sym before) ∙ new_ones_put kept (rows_at db rel) ascend_before)
          ascend fits_after (short (length after) few);
    }
      where
        short : (n : ℕ) → nat_lt most_rows n ≡ false → IsTrue (nat_le n most_rows)
        short n h = grind (arith, nat_tests, h)

    go : (b : Bool) → nat_lt most_rows (length after) ≡ b
        → (elim b as (λ b. Result DbChange Refusal) [ true ↦ Err (refusal 29) | false ↦ Ok (change.Rows rel [] (without_rows (rows_at db rel) after)) ]) ≡ Ok made → IsLawful db made
    go true f e = cc e
    go false f e = subst (IsLawful db) (the e) (lawful f)
      where
        the : {x y : DbChange} → ◌≡◌ {A = Result DbChange Refusal} (Ok x) (Ok y) → x ≡ y
        the e = cc e

-- the rows of a file, appended, make a lawful change
file_lawful : (db : Db) (rel : RelKey) (relation : Relation) (columns : List CopyCol) (file : Option (List ℕ)) (change : DbChange) → IsDatabase db → relation_at db rel ≡ Some relation
    → file_appended db rel columns file ≡ Ok change → IsLawful db change
file_lawful db rel relation columns None change is found e = cc e
file_lawful db rel relation columns (Some bytes) change is found e = short (nat_lt most_file_bytes (length bytes)) e
  where
    stored : IsTrue (are_stored relation.info.attrs)
    stored = found_passes (λ r. IsTrue (are_stored r.info.attrs)) (λ r. same_key r.info.key rel) db.relations relation
        (as_each (λ r. are_stored r.info.attrs) db.relations is.relations_are_stored) found

    read : (r : Result (List Row) ℕ) → rows_in_file (kinds_at db rel) columns bytes ≡ r
        → (elim r as (λ r. Result DbChange Refusal) [ Ok rows ↦ rows_appended db rel rows | Err row ↦ Err (bad_row row) ]) ≡ Ok change → IsLawful db change
    read (Ok rows) f e =
        let kinds : rows_in_file (map (λ a. a.kind) relation.info.attrs) columns bytes ≡ Ok rows = ap (λ kinds. rows_in_file kinds columns bytes) (sym (its_kinds db rel relation found)) ∙ f in
        appended_lawful db rel relation rows change is found (read_rows_fit relation.info.attrs columns bytes rows stored kinds) e
    read (Err row) f e = cc e

    short : (b : Bool) → (elim b as (λ b. Result DbChange Refusal) [
      | true ↦ Err (refusal 14)
      | false ↦ elim (rows_in_file (kinds_at db rel) columns bytes) as (λ r. Result DbChange Refusal) [ Ok rows ↦ rows_appended db rel rows | Err row ↦ Err (bad_row row) ]
    ]) ≡ Ok change → IsLawful db change
    short true e = cc e
    short false e = read (rows_in_file (kinds_at db rel) columns bytes) refl e

pub copy_lawful : (db : Db) (shelf : Files) (user : List ℕ) (rel : RelKey) (columns : List CopyCol) (constant : List ℕ) (change : DbChange) → IsDatabase db → IsTrue (is_ranged db rel)
    → copied_from db shelf user rel columns constant ≡ Ok change → IsLawful db change
unfolding copied_from
copy_lawful db shelf user rel columns constant change is there e = go (first_refusal (owner_refusals db user rel)) refl e
  where
    go : (o : Option ℕ) → first_refusal (owner_refusals db user rel) ≡ o
        → (elim o as (λ o. Result DbChange Refusal) [ Some number ↦ Err (refusal number) | None ↦ file_appended db rel columns (fetched shelf (file_of_constant constant)) ]) ≡ Ok change → IsLawful db change
    go (Some number) f e = cc e
    go None f e =
        let absent = all_absent (owner_refusals db user rel) f in
        there_is (relation_at db rel) (base_relation db rel there absent.0 absent.1.0) λ relation found.
        file_lawful db rel relation columns (fetched shelf (file_of_constant constant)) change is found e
