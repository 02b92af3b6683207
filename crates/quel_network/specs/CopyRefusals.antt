-- The refusals of copies have a spelling.
use Rattle.std.specs.List.{concat}
use Rattle.std.specs.Prelude.{◌≡◌, ℕ, zero, suc, ◌+◌, ◌-◌, ◌<◌, ◌≤◌, nat_le, nat_lt, Bool, true, false, ◌||◌, List, [], ◌∷◌, map, length, Option, Some, None, Result, Ok, Err, option_map}
use Rattle.std.proofs.Common.{refl, subst, arith}
use Rattle.std.proofs.lemmas.Bool.{leb-true, ltb-false}
use Rattle.std.proofs.lemmas.List.{length-map}
use Rattle.calculus.specs.declared.change.DbChange.{DbChange}
use Rattle.calculus.specs.declared.query.RelKey.{RelKey}
use Rattle.calculus.specs.declared.reply.Refusal.{Refusal}
use Rattle.calculus.specs.declared.request.CopyCol.{CopyCol}
use Rattle.calculus.specs.declared.value.Kind.{Kind}
use Rattle.calculus.specs.Catalogue.{catalogue_at, is_catalogue, relation_key, attribute_key}
use Rattle.calculus.specs.Database.{Db, Relation, View, relation_at, view_at}
use Rattle.calculus.specs.IsDatabase.{IsDatabase}
use Rattle.calculus.specs.Keys.{same_key}
use Rattle.calculus.specs.Limits.{most_rows}
use Rattle.calculus.specs.Replacement.{first_refusal}
use Rattle.calculus.specs.Rows.{Row}
use Rattle.calculus.specs.Stored.{Kept, Viewed, range_at, kept_rows, rows_at, kinds_at}
use Rattle.fault_io.specs.Files.{Files, fetched}
use Rattle.quel_meaning.specs.Copying.{refusal, bad_row, most_file_bytes, numbered_from, records, record_values, record_row, record_bytes, rows_in_file, rows_appended, file_appended, copied_from, file_of_rows, copied_into, file_of_constant}
use Rattle.quel_meaning.specs.Planned.{has_view, is_not_the_owner, owner_refusals}
use Rattle.quel_meaning.proofs.DatabaseFacts.{found_passes}
use Rattle.quel_network.specs.RefusalLaws.{HasSpelling, numbered_has, bad_row_has, cause_known}

-- ---- numbers of rows

-- the first item that is missing is one of the items
missing_within : {X : Type 0} (first : ℕ) (xs : List (Option X)) (n : ℕ) → numbered_from first xs ≡ Err n → n < first + length xs
missing_within first [] n e = absurd (cc e)
missing_within first (None ∷ xs) n e = let same : first ≡ n = cc e in omega (arith, same)
missing_within {X = X} first (Some x ∷ xs) n e = go (λ m. missing_within (suc first) xs m) (numbered_from (suc first) xs) refl e
  where
    go : ((m : ℕ) → numbered_from (suc first) xs ≡ Err m → m < suc first + length xs) → (r : Result (List X) ℕ) → numbered_from (suc first) xs ≡ r
        → ◌≡◌ {A = Result (List X) ℕ} (elim r [ Ok items ↦ Ok (x ∷ items) | Err missing ↦ Err missing ]) (Err n) → n < first + suc (length xs)
    go later (Ok items) f e = absurd (cc e)
    go later (Err m) f e = let same : m ≡ n = cc e in let within : m < suc first + length xs = later m f in omega (arith, same, within)

-- each record has a byte
records_few : {X : Type 0} (next : List ℕ → Option (X × List ℕ)) (skipped : ℕ) (bytes : List ℕ) → length (records next skipped bytes) ≤ length bytes
records_few next skipped [] = omega arith
records_few next (suc skipped) (b ∷ bytes) = let few = records_few next skipped bytes in omega (arith, few)
records_few {X = X} next zero (b ∷ bytes) = go (λ skipped. records_few next skipped bytes) (next (b ∷ bytes))
  where
    go : ((skipped : ℕ) → length (records next skipped bytes) ≤ length bytes) → (o : Option (X × List ℕ))
        → length (elim o as (λ o. List (Option X)) [ None ↦ None ∷ [] | Some r ↦ Some r.0 ∷ records next (length bytes - length r.1) bytes ]) ≤ suc (length bytes)
    go later None = omega arith
    go later (Some r) = let few : length (records next (length bytes - length r.1) bytes) ≤ length bytes = later (length bytes - length r.1) in omega (arith, few)

-- the number of a bad row of a file is at most that of its bytes
bad_row_within : (kinds : List Kind) (columns : List CopyCol) (bytes : List ℕ) (n : ℕ) → rows_in_file kinds columns bytes ≡ Err n → n ≤ length bytes
unfolding rows_in_file
bad_row_within kinds columns bytes n e = go (numbered_from 1 (records (record_values kinds columns) 0 bytes)) refl e
  where
    go : (r : _) → numbered_from 1 (records (record_values kinds columns) 0 bytes) ≡ r
        → ◌≡◌ {A = Result (List Row) ℕ} (elim r [ Ok values ↦ Ok (map (record_row kinds columns) values) | Err number ↦ Err number ]) (Err n) → n ≤ length bytes
    go (Ok values) f e = absurd (cc e)
    go (Err m) f e =
        let same : m ≡ n = cc e in
        let within = missing_within 1 (records (record_values kinds columns) 0 bytes) m f in
        let few = records_few (record_values kinds columns) 0 bytes in
        omega (arith, same, within, few)

-- the number of a bad row of a relation is at most that of its rows
bad_row_among : (columns : List CopyCol) (rows : List Row) (n : ℕ) → file_of_rows columns rows ≡ Err n → n ≤ length rows
unfolding file_of_rows
bad_row_among columns rows n e = go (numbered_from 1 (map (record_bytes columns) rows)) refl e
  where
    go : (r : Result (List (List ℕ)) ℕ) → numbered_from 1 (map (record_bytes columns) rows) ≡ r
        → ◌≡◌ {A = Result (List ℕ) ℕ} (elim r [ Ok pieces ↦ Ok (concat pieces) | Err number ↦ Err number ]) (Err n) → n ≤ length rows
    go (Ok pieces) f e = absurd (cc e)
    go (Err m) f e =
        let same : m ≡ n = cc e in
        let within = missing_within 1 (map (record_bytes columns) rows) m f in
        let many = length-map rows (record_bytes columns) in
        omega (arith, same, within, many)

-- ---- rows of a relation

no_catalogue : (a b : Bool) (x y : Relation) → (a || b) ≡ false → ◌≡◌ {A = Option Relation} (elim a [ true ↦ Some x | false ↦ elim b [ true ↦ Some y | false ↦ None ] ]) None
no_catalogue true b x y h = absurd (cc h)
no_catalogue false true x y h = absurd (cc h)
no_catalogue false false x y h = refl

kept_few : (r : Option Relation) (v : Option View) (c : Option Relation) → ((x : Relation) → r ≡ Some x → length x.rows ≤ most_rows) → c ≡ None
    → length (kept_rows (elim r [ Some relation ↦ Some (Kept relation) | None ↦ elim v [ Some view ↦ Some (Viewed view) | None ↦ option_map Kept c ] ])) ≤ most_rows
kept_few (Some x) v c few none = few x refl
kept_few None (Some view) c few none = omega arith
kept_few None None (Some x) few none = absurd (cc none)
kept_few None None None few none = omega arith

-- at most 100,000 rows are kept under a key that is no catalogue's
pub few_rows : (db : Db) (key : RelKey) → IsDatabase db → is_catalogue db key ≡ false → length (rows_at db key) ≤ most_rows
unfolding range_at catalogue_at
few_rows db key is none =
    kept_few (relation_at db key) (view_at db key) (catalogue_at db key)
    (λ r e. leb-true (length r.rows) most_rows (found_passes (λ (x : Relation). same_key x.info.key key) (λ (x : Relation). nat_le (length x.rows) most_rows) db.relations r is.few_rows e))
    (no_catalogue (same_key key (relation_key db)) (same_key key (attribute_key db)) _ _ none)

-- ---- copies

-- a copy is refused because of its relation, as another utility is
owner_refusal : (db : Db) (user : List ℕ) (rel : RelKey) (n : ℕ) → first_refusal (owner_refusals db user rel) ≡ Some n → HasSpelling (refusal n)
owner_refusal db user rel n e = numbered_has n (cause_known (owner_refusals db user rel) n refl e)

-- where nothing is said against the relation, it is no catalogue
owner_catalogue : (db : Db) (user : List ℕ) (rel : RelKey) → first_refusal (owner_refusals db user rel) ≡ None → is_catalogue db rel ≡ false
owner_catalogue db user rel e = go (is_catalogue db rel) e
  where
    go : (b : Bool) → first_refusal ((28, b) ∷ (26, has_view db rel) ∷ (24, is_not_the_owner user rel) ∷ []) ≡ None → b ≡ false
    go true e = absurd (cc e)
    go false e = refl

appended_has : (db : Db) (rel : RelKey) (rows : List Row) (r : Refusal) → rows_appended db rel rows ≡ Err r → HasSpelling r
appended_has db rel rows r e = go _ _ e
  where
    go : (b : Bool) (change : DbChange) → ◌≡◌ {A = Result DbChange Refusal} (elim b [ true ↦ Err (refusal 29) | false ↦ Ok change ]) (Err r) → HasSpelling r
    go true change e = let same : refusal 29 ≡ r = cc e in subst HasSpelling same (numbered_has 29 refl)
    go false change e = absurd (cc e)

file_has : (db : Db) (rel : RelKey) (columns : List CopyCol) (file : Option (List ℕ)) (r : Refusal) → file_appended db rel columns file ≡ Err r → HasSpelling r
file_has db rel columns None r e = let same : refusal 32 ≡ r = cc e in subst HasSpelling same (numbered_has 32 refl)
file_has db rel columns (Some bytes) r e = sized (nat_lt most_file_bytes (length bytes)) refl e
  where
    read : length bytes ≤ most_file_bytes → (rows : Result (List Row) ℕ) → rows_in_file (kinds_at db rel) columns bytes ≡ rows
        → ◌≡◌ {A = Result DbChange Refusal} (elim rows [ Ok rows ↦ rows_appended db rel rows | Err row ↦ Err (bad_row row) ]) (Err r) → HasSpelling r
    read short (Ok rows) f e = appended_has db rel rows r e
    read short (Err row) f e =
        let same : bad_row row ≡ r = cc e in
        let within = bad_row_within (kinds_at db rel) columns bytes row f in
        subst HasSpelling same (bad_row_has row (omega (arith, short, within)))

    sized : (b : Bool) → nat_lt most_file_bytes (length bytes) ≡ b
        → ◌≡◌ {A = Result DbChange Refusal} (elim b [
          | true ↦ Err (refusal 14)
          | false ↦ elim (rows_in_file (kinds_at db rel) columns bytes) [ Ok rows ↦ rows_appended db rel rows | Err row ↦ Err (bad_row row) ]
        ]) (Err r) → HasSpelling r
    sized true f e = let same : refusal 14 ≡ r = cc e in subst HasSpelling same (numbered_has 14 refl)
    sized false f e = read (ltb-false most_file_bytes (length bytes) f) (rows_in_file (kinds_at db rel) columns bytes) refl e

-- what refuses a copy from a file has a spelling
pub copied_from_has : (db : Db) (shelf : Files) (user : List ℕ) (rel : RelKey) (columns : List CopyCol) (constant : List ℕ) (r : Refusal)
    → copied_from db shelf user rel columns constant ≡ Err r → HasSpelling r
unfolding copied_from
copied_from_has db shelf user rel columns constant r e = go (first_refusal (owner_refusals db user rel)) refl e
  where
    go : (o : Option ℕ) → first_refusal (owner_refusals db user rel) ≡ o
        → ◌≡◌ {A = Result DbChange Refusal} (elim o [ Some number ↦ Err (refusal number) | None ↦ file_appended db rel columns (fetched shelf (file_of_constant constant)) ]) (Err r)
        → HasSpelling r
    go (Some n) f e = let same : refusal n ≡ r = cc e in subst HasSpelling same (owner_refusal db user rel n f)
    go None f e = file_has db rel columns (fetched shelf (file_of_constant constant)) r e

-- what refuses a copy into a file has a spelling
pub copied_into_has : (db : Db) (user : List ℕ) (rel : RelKey) (columns : List CopyCol) (r : Refusal) → IsDatabase db → copied_into db user rel columns ≡ Err r → HasSpelling r
unfolding copied_into
copied_into_has db user rel columns r is e = go (first_refusal (owner_refusals db user rel)) refl e
  where
    wrote : length (rows_at db rel) ≤ most_rows → (bytes : Result (List ℕ) ℕ) → file_of_rows columns (rows_at db rel) ≡ bytes
        → ◌≡◌ {A = Result (List ℕ) Refusal} (elim bytes [ Ok bytes ↦ Ok bytes | Err row ↦ Err (bad_row row) ]) (Err r) → HasSpelling r
    wrote few (Ok bytes) f e = absurd (cc e)
    wrote few (Err row) f e =
        let same : bad_row row ≡ r = cc e in
        let among = bad_row_among columns (rows_at db rel) row f in
        subst HasSpelling same (bad_row_has row (omega (arith, few, among)))

    go : (o : Option ℕ) → first_refusal (owner_refusals db user rel) ≡ o
        → ◌≡◌ {A = Result (List ℕ) Refusal} (elim o [
          | Some number ↦ Err (refusal number)
          | None ↦ elim (file_of_rows columns (rows_at db rel)) [ Ok bytes ↦ Ok bytes | Err row ↦ Err (bad_row row) ]
        ]) (Err r) → HasSpelling r
    go (Some n) f e = let same : refusal n ≡ r = cc e in subst HasSpelling same (owner_refusal db user rel n f)
    go None f e = wrote (few_rows db rel is (owner_catalogue db user rel f)) (file_of_rows columns (rows_at db rel)) refl e
