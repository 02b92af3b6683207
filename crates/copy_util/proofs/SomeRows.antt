-- Rows that some database has, and what a copy of them leaves on the shelf.
use Rattle.std.proofs.Common.{◌≡◌, ◌+◌, refl, sym, ap, ◌∙◌, subst, ℕ, Bool, true, false, ◌||◌, cond, List, [], ◌∷◌, length, Some, None, Result, Ok, Err, IsErrOf, arith}
use Rattle.std.specs.Prelude.{IfOk, codes, is_some, option_map}
use Rattle.std.specs.declared.option.Option.{Option}
use Rattle.std.specs.List.{find}
use Rattle.calculus.specs.declared.query.RelKey.{RelKey}
use Rattle.calculus.specs.declared.reply.Refusal.{Refusal}
use Rattle.calculus.specs.declared.request.CopyCol.{CopyCol}
use Rattle.calculus.specs.declared.schema.Spec.TheVariants.{Heap}
use Rattle.calculus.specs.Catalogue.{attribute_key, catalogue_at, is_catalogue, relation_key}
use Rattle.calculus.specs.Database.{Db, Relation, relation_at, view_at}
use Rattle.calculus.specs.Keys.{key_of, same_key}
use Rattle.calculus.specs.Replacement.{first_refusal}
use Rattle.calculus.specs.Rows.{Row}
use Rattle.calculus.specs.Stored.{Range, Kept, Viewed, kept_rows, range_at, rows_at}
use Rattle.fault_io.specs.Files.{Files, stored}
use Rattle.quel_meaning.proofs.Keys.{keys_same, same_keys}
use Rattle.quel_meaning.specs.Copying.{copied_into, file_of_rows}
use Rattle.quel_meaning.specs.Planned.{is_not_the_owner, owner_refusals}
use Rattle.copy_util.proofs.Copied.{into_made}
use Rattle.copy_util.specs.declared.fault.CopyFault.{CopyFault}
use Rattle.copy_util.specs.declared.fault.CopyFault.TheVariants.{No, BadRow, NoFile, Shelf, Base, OutOfMemory}
use Rattle.copy_util.specs.Reading.{up_to_bad}
use Rattle.copy_util.specs.Stored.{IsStored, MayBeCopied, SparesFiles}
use Rattle.copy_util.specs.Writing.{IsFileOfRows}

-- ---- a database with these rows under a key that is no catalogue's

abbrev relation_of : RelKey → List Row → Relation
relation_of rel rows = record { info = record { key = rel; spec = Heap; attrs = []; keys = [] }; rows = rows }

abbrev db_of : RelKey → List Row → Db
db_of rel rows = record { dba = 0 ∷ rel.owner; relations = relation_of rel rows ∷ []; indexes = []; views = []; rules = []; permits = [] }

longer : (xs : List ℕ) → xs ≡ 0 ∷ xs → ⊥
longer xs e = let l = ap (λ (ys : List ℕ). length ys) e in omega (arith, l)

not_true : (b : Bool) → (b ≡ true → ⊥) → b ≡ false
not_true true h = absurd (h refl)
not_true false h = refl

other_owner : (rel : RelKey) (name : List ℕ) → same_key rel (key_of (0 ∷ rel.owner) name) ≡ false
other_owner rel name = not_true _ (λ e. longer rel.owner (ap (λ (k : RelKey). k.owner) (same_keys rel (key_of (0 ∷ rel.owner) name) e)))

no_catalogue : (rel : RelKey) (rows : List Row) → is_catalogue (db_of rel rows) rel ≡ false
no_catalogue rel rows = rw (other_owner rel (codes "relation")) (other_owner rel (codes "attribute"))

stands : (rel : RelKey) (rows : List Row) → relation_at (db_of rel rows) rel ≡ Some (relation_of rel rows)
stands rel rows = ap (λ (b : Bool). cond b (Some (relation_of rel rows)) None) (keys_same rel rel refl)

-- what stands under a key, by the relation that is there
abbrev ranged_as : Db → RelKey → Option Relation → Option Range
ranged_as db rel o = elim o as (λ _. Option Range) [
  | Some relation ↦ Some (Kept relation)
  | None ↦ elim (view_at db rel) as (λ _. Option Range) [ Some view ↦ Some (Viewed view) | None ↦ option_map Kept (catalogue_at db rel) ]
]

ranged_by : (db : Db) (rel : RelKey) (r : Relation) → relation_at db rel ≡ Some r → range_at db rel ≡ Some (Kept r)
unfolding range_at
ranged_by db rel r e = ap (ranged_as db rel) e

rows_stand : (rel : RelKey) (rows : List Row) → rows_at (db_of rel rows) rel ≡ rows
rows_stand rel rows = ap (λ (o : Option Range). kept_rows o) (ranged_by (db_of rel rows) rel (relation_of rel rows) (stands rel rows))

-- nothing refuses the owner
unrefused : (user : List ℕ) (rel : RelKey) (rows : List Row) → is_not_the_owner user rel ≡ false → None ≡ first_refusal (owner_refusals (db_of rel rows) user rel)
unrefused user rel rows e = by (is_catalogue (db_of rel rows) rel) (is_not_the_owner user rel) (no_catalogue rel rows) e
  where
    by : (a b : Bool) → a ≡ false → b ≡ false → ◌≡◌ {A = Option ℕ} None (first_refusal ((28, a) ∷ (26, false) ∷ (24, b) ∷ []))
    by true b e f = absurd (cc e)
    by false true e f = absurd (cc f)
    by false false e f = refl

-- so the file of any rows is one that a copy makes for the owner
pub may_be_copied : (user : List ℕ) (rel : RelKey) (columns : List CopyCol) (rows : List Row) (bytes : List ℕ) → is_not_the_owner user rel ≡ false → file_of_rows columns rows ≡ Ok bytes → MayBeCopied user rel columns bytes
may_be_copied user rel columns rows bytes owner made = (
  db_of rel rows,
  into_made (db_of rel rows) user rel columns bytes (unrefused user rel rows owner) (ap (file_of_rows columns) (rows_stand rel rows) ∙ made),
)

-- the rows that were put are some rows
pub some_rows : {E : Type 0} (columns : List CopyCol) (rows : List Row) (bytes : List ℕ) (bad : Option ℕ) (r : Result (Option ℕ) E) → file_of_rows columns rows ≡ up_to_bad bytes bad → IfOk r (λ number. number ≡ bad) → IfOk r (λ number. IsFileOfRows columns bytes number)
some_rows columns rows bytes bad (Ok number) made same = (rows, made ∙ ap (up_to_bad bytes) (sym same))
some_rows columns rows bytes bad (Err e) made same = tt

-- ---- what is left on the shelf

-- where such bytes were to be stored
pub stored_spares : (user : List ℕ) (rel : RelKey) (columns : List CopyCol) (bytes file : List ℕ) (old : Files) (new : Option Files) (result : Result (Unit {0}) CopyFault) → MayBeCopied user rel columns bytes → IsStored (Ok bytes) file old new result
    → SparesFiles user rel columns file old new result
stored_spares user rel columns bytes file old new (Ok done) may h = let same : bytes ≡ h.0 = cc h.1 in (h.0, subst (MayBeCopied user rel columns) same may, h.2)
stored_spares user rel columns bytes file old new (Err (No number)) may h = absurd (cc h.0)
stored_spares user rel columns bytes file old new (Err (BadRow row)) may h = absurd (cc h.0)
stored_spares user rel columns bytes file old new (Err NoFile) may h = absurd h
stored_spares user rel columns bytes file old new (Err Shelf) may h = let same : bytes ≡ h.0 = cc h.1 in (h.0, subst (MayBeCopied user rel columns) same may, h.2)
stored_spares user rel columns bytes file old new (Err (Base fault)) may h = h
stored_spares user rel columns bytes file old new (Err OutOfMemory) may h = h

-- where nothing was to be stored
pub unstored_spares : (user : List ℕ) (rel : RelKey) (columns : List CopyCol) (file : List ℕ) (old : Files) (new : Option Files) (fault : CopyFault) → (IsErrOf {T = Unit {0}} (Err fault) Shelf → ⊥) → new ≡ Some old
    → SparesFiles user rel columns file old new (Err fault)
unstored_spares user rel columns file old new (No number) never e = e
unstored_spares user rel columns file old new (BadRow row) never e = e
unstored_spares user rel columns file old new NoFile never e = e
unstored_spares user rel columns file old new Shelf never e = absurd (never refl)
unstored_spares user rel columns file old new (Base fault) never e = e
unstored_spares user rel columns file old new OutOfMemory never e = e
