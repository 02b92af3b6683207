-- What a copy makes, from what its parts are.
use Rattle.std.proofs.Common.{◌≡◌, sym, ap, ◌∙◌, subst, ℕ, nat_lt, ◌≤◌, List, [], Option, Some, None, Bool, true, false, length}
use Rattle.std.specs.Prelude.{Result, Ok, Err, IfOk}
use Rattle.std.proofs.lemmas.Bool.{le-ltb}
use Rattle.quel_meaning.proofs.Declared.{stored_itself}
use Rattle.calculus.specs.declared.change.DbChange.{DbChange}
use Rattle.calculus.specs.declared.query.RelKey.{RelKey}
use Rattle.calculus.specs.declared.reply.Refusal.{Refusal}
use Rattle.calculus.specs.declared.request.CopyCol.{CopyCol}
use Rattle.calculus.specs.Database.{Db}
use Rattle.calculus.specs.Replacement.{first_refusal}
use Rattle.calculus.specs.Stored.{rows_at, kinds_at}
use Rattle.fault_io.specs.Files.{Files, fetched, stored}
use Rattle.quel_meaning.specs.Copying.{bad_row, copied_from, copied_into, file_appended, file_of_constant, file_of_rows, most_file_bytes, refusal, rows_appended, rows_in_file}
use Rattle.quel_meaning.specs.Planned.{owner_refusals}
use Rattle.copy_util.specs.Causes.{Copies, Refuses}
use Rattle.copy_util.specs.Reading.{ComesOf, rows_from_bytes, short_file}
use Rattle.copy_util.specs.declared.fault.CopyFault.{CopyFault}
use Rattle.copy_util.specs.declared.fault.CopyFault.TheVariants.{No, BadRow, NoFile, Shelf, Base, OutOfMemory}

-- ---- into a file

abbrev put_as : Db → RelKey → List CopyCol → Option ℕ → Result (List ℕ) Refusal
put_as db rel columns o = elim o as (λ o. Result (List ℕ) Refusal) [
  | Some number ↦ Err (refusal number)
  | None ↦ elim (file_of_rows columns (rows_at db rel)) as (λ r. Result (List ℕ) Refusal) [ Ok bytes ↦ Ok bytes | Err row ↦ Err (bad_row row) ]
]

pub into_refused : (db : Db) (user : List ℕ) (rel : RelKey) (columns : List CopyCol) (number : ℕ) → Some number ≡ first_refusal (owner_refusals db user rel)
    → copied_into db user rel columns ≡ Err (refusal number)
unfolding copied_into
into_refused db user rel columns number e = ap (put_as db rel columns) (sym e)

pub into_made : (db : Db) (user : List ℕ) (rel : RelKey) (columns : List CopyCol) (bytes : List ℕ) → None ≡ first_refusal (owner_refusals db user rel)
    → file_of_rows columns (rows_at db rel) ≡ Ok bytes → copied_into db user rel columns ≡ Ok bytes
unfolding copied_into
into_made db user rel columns bytes e made =
    ap (put_as db rel columns) (sym e) ∙ ap (λ r. elim r as (λ r. Result (List ℕ) Refusal) [ Ok bytes ↦ Ok bytes | Err row ↦ Err (bad_row row) ]) made

pub into_bad : (db : Db) (user : List ℕ) (rel : RelKey) (columns : List CopyCol) (row : ℕ) → None ≡ first_refusal (owner_refusals db user rel)
    → file_of_rows columns (rows_at db rel) ≡ Err row → copied_into db user rel columns ≡ Err (bad_row row)
unfolding copied_into
into_bad db user rel columns row e made =
    ap (put_as db rel columns) (sym e) ∙ ap (λ r. elim r as (λ r. Result (List ℕ) Refusal) [ Ok bytes ↦ Ok bytes | Err row ↦ Err (bad_row row) ]) made

-- ---- from a file

abbrev took_as : Db → Files → RelKey → List CopyCol → List ℕ → Option ℕ → Result DbChange Refusal
took_as db files rel columns constant o = elim o as (λ o. Result DbChange Refusal) [
  | Some number ↦ Err (refusal number)
  | None ↦ file_appended db rel columns (fetched files (file_of_constant constant))
]

pub from_refused : (db : Db) (files : Files) (user : List ℕ) (rel : RelKey) (columns : List CopyCol) (constant : List ℕ) (number : ℕ) → Some number ≡ first_refusal (owner_refusals db user rel)
    → copied_from db files user rel columns constant ≡ Err (refusal number)
unfolding copied_from
from_refused db files user rel columns constant number e = ap (took_as db files rel columns constant) (sym e)

unrefused : (db : Db) (files : Files) (user : List ℕ) (rel : RelKey) (columns : List CopyCol) (constant : List ℕ) → None ≡ first_refusal (owner_refusals db user rel)
    → copied_from db files user rel columns constant ≡ file_appended db rel columns (fetched files (file_of_constant constant))
unfolding copied_from
unrefused db files user rel columns constant e = ap (took_as db files rel columns constant) (sym e)

abbrev read_as : Db → RelKey → List CopyCol → List ℕ → Result DbChange Refusal
read_as db rel columns bytes = elim (rows_in_file (kinds_at db rel) columns bytes) as (λ r. Result DbChange Refusal) [ Ok rows ↦ rows_appended db rel rows | Err row ↦ Err (bad_row row) ]

short_read : (db : Db) (rel : RelKey) (columns : List CopyCol) (o : Option (List ℕ)) (bytes : List ℕ) → short_file o ≡ Ok bytes → file_appended db rel columns o ≡ rows_from_bytes db rel columns bytes
short_read db rel columns None bytes e = cc e
short_read db rel columns (Some file) bytes e = go (nat_lt most_file_bytes (length file)) e
  where
    go : (b : Bool) → (elim b as (λ b. Result (List ℕ) Refusal) [ true ↦ Err (refusal 14) | false ↦ Ok file ]) ≡ Ok bytes
        → (elim b as (λ b. Result DbChange Refusal) [ true ↦ Err (refusal 14) | false ↦ read_as db rel columns file ]) ≡ rows_from_bytes db rel columns bytes
    go true e = cc e
    go false e = let same : file ≡ bytes = cc e in ap (read_as db rel columns) same

short_refused : (db : Db) (rel : RelKey) (columns : List CopyCol) (o : Option (List ℕ)) (r : Refusal) → short_file o ≡ Err r → file_appended db rel columns o ≡ Err r
short_refused db rel columns None r e = let same : refusal 32 ≡ r = cc e in ap Err same
short_refused db rel columns (Some file) r e = go (nat_lt most_file_bytes (length file)) e
  where
    go : (b : Bool) → (elim b as (λ b. Result (List ℕ) Refusal) [ true ↦ Err (refusal 14) | false ↦ Ok file ]) ≡ Err r
        → (elim b as (λ b. Result DbChange Refusal) [ true ↦ Err (refusal 14) | false ↦ read_as db rel columns file ]) ≡ Err r
    go true e = let same : refusal 14 ≡ r = cc e in ap Err same
    go false e = cc e

-- what is known of one result is known of another that is the same
pub known_by : {T : Type 0} (x y : Result T Refusal) (result : Result T CopyFault) → x ≡ y
    → Copies (λ t. y ≡ Ok t) (λ r. y ≡ Err r) result → Copies (λ t. x ≡ Ok t) (λ r. x ≡ Err r) result
known_by {T} x y result e = subst (λ x. Copies (λ t. x ≡ Ok t) (λ r. x ≡ Err r) result) (sym e)

pub refused_by : (P Q : Refusal → Type 0) → ((r : Refusal) → P r → Q r) → (fault : CopyFault) → Refuses P fault → Refuses Q fault
refused_by P Q so (No number) p = so (refusal number) p
refused_by P Q so (BadRow row) p = so (bad_row row) p
refused_by P Q so NoFile p = so (refusal 32) p
refused_by P Q so Shelf p = p
refused_by P Q so (Base fault) p = p
refused_by P Q so OutOfMemory p = p

-- the bytes were fetched, and then their rows read
pub from_bytes : (db : Db) (files : Files) (user : List ℕ) (rel : RelKey) (columns : List CopyCol) (constant bytes : List ℕ) (result : Result DbChange CopyFault)
    → None ≡ first_refusal (owner_refusals db user rel) → short_file (fetched files (file_of_constant constant)) ≡ Ok bytes
    → Copies (λ c. rows_from_bytes db rel columns bytes ≡ Ok c) (λ r. rows_from_bytes db rel columns bytes ≡ Err r) result
    → Copies (λ c. copied_from db files user rel columns constant ≡ Ok c) (λ r. copied_from db files user rel columns constant ≡ Err r) result
from_bytes db files user rel columns constant bytes result e short known =
    known_by (copied_from db files user rel columns constant) (rows_from_bytes db rel columns bytes) result
    (unrefused db files user rel columns constant e ∙ short_read db rel columns (fetched files (file_of_constant constant)) bytes short) known

-- none were fetched
pub from_no_bytes : (db : Db) (files : Files) (user : List ℕ) (rel : RelKey) (columns : List CopyCol) (constant : List ℕ) (fault : CopyFault)
    → None ≡ first_refusal (owner_refusals db user rel) → Refuses (λ r. short_file (fetched files (file_of_constant constant)) ≡ Err r) fault
    → Refuses (λ r. copied_from db files user rel columns constant ≡ Err r) fault
from_no_bytes db files user rel columns constant fault e known =
    refused_by _ _ (λ r short. unrefused db files user rel columns constant e ∙ short_refused db rel columns (fetched files (file_of_constant constant)) r short) fault known

-- ---- whatever the shelf tells

-- where one file is on the shelf, which has these bytes, it is there and not too long
some_file : (constant bytes : List ℕ) → length bytes ≤ most_file_bytes → short_file (fetched (stored [] (file_of_constant constant) bytes) (file_of_constant constant)) ≡ Ok bytes
some_file constant bytes few =
    ap short_file (stored_itself [] (file_of_constant constant) bytes)
    ∙ ap (λ b. elim b as (λ b. Result (List ℕ) Refusal) [ true ↦ Err (refusal 14) | false ↦ Ok bytes ]) (le-ltb most_file_bytes (length bytes) few)

-- what is made of a file's bytes is made of a copy from it
pub comes_of : (db : Db) (user : List ℕ) (rel : RelKey) (columns : List CopyCol) (constant bytes : List ℕ) (result : Result DbChange CopyFault)
    → None ≡ first_refusal (owner_refusals db user rel) → length bytes ≤ most_file_bytes
    → Copies (λ change. rows_from_bytes db rel columns bytes ≡ Ok change) (λ refusal. rows_from_bytes db rel columns bytes ≡ Err refusal) result
    → IfOk result (ComesOf db user rel columns constant)
comes_of db user rel columns constant bytes (Ok change) none few known = (
  stored [] (file_of_constant constant) bytes,
  from_bytes db (stored [] (file_of_constant constant) bytes) user rel columns constant bytes (Ok change) none (some_file constant bytes few) known,
)
comes_of db user rel columns constant bytes (Err fault) none few known = tt
