-- What a round says of the database that the changes make, and what building says.
use Rattle.std.proofs.Common.{◌≡◌, sym, ap, ◌∙◌, subst, ℕ, ◌≤◌, Bool, true, false, List, [], ◌∷◌, length, Some, arith}
use Rattle.std.specs.Prelude.{Result, Ok, Err, IfOk}
use Rattle.std.specs.List.{list_all}
use Rattle.calculus.specs.declared.change.DbChange.{DbChange}
use Rattle.calculus.specs.Database.{Db}
use Rattle.calculus.specs.IsDatabase.{IsDatabase}
use Rattle.catalog_read.specs.declared.parts.SchemaParts.{SchemaParts}
use Rattle.catalog_read.specs.Parts.{Parts, parts_in, index_in, whole, index_owners_agree}
use Rattle.catalog_read.specs.Applying.{IsLeft, nothing_in, round, changes_of, is_of_its_base}
use Rattle.catalog_read.proofs.Rounds.{round_left, round_length, none_fits}
use Rattle.catalog_read.proofs.Starts.{all_is_left, of_their_bases}
use Rattle.catalog_read.proofs.Stuck.{stuck}
use Rattle.catalog_read.proofs.Whole.{nothing_left}

-- what is left after a round is left
pub left_after : (db later : Db) (changes left : List DbChange) → IsDatabase db → (later, left) ≡ round db changes → (dba : List ℕ) (parts : Parts) → IsLeft dba changes db parts → IsLeft dba left later parts
left_after db later changes left is e dba parts l = subst (λ (s : Db × List DbChange). IsLeft dba s.1 s.0 parts) (sym e) (round_left changes db is dba parts l)

-- no more are left
pub fewer_after : (db later : Db) (changes left : List DbChange) → (later, left) ≡ round db changes → length left ≤ length changes
fewer_after db later changes left e = subst (λ (s : Db × List DbChange). length s.1 ≤ length changes) (sym e) (round_length changes db)

-- where a round applies nothing of some changes, there is no such database
pub stuck_after : (db later : Db) (changes left : List DbChange) → IsDatabase db → (later, left) ≡ round db changes → length left ≡ length changes → (length changes ≡ 0 → ⊥)
    → (dba : List ℕ) (parts : Parts) (whole_db : Db) → IsLeft dba changes db parts → whole dba parts ≡ Some whole_db → IsDatabase whole_db → ⊥
stuck_after db later changes left is e same some = stuck changes db is (none_fits changes db (ap (λ (s : Db × List DbChange). length s.1) (sym e) ∙ same)) some

-- what is built of all changes is what the parts make
pub built : (dba : List ℕ) (p : SchemaParts) (db start : Db) → list_all (λ x. is_of_its_base (index_in x)) p.indexes ≡ true → IsDatabase db → start ≡ nothing_in dba
    → ((owner : List ℕ) (parts : Parts) → IsLeft owner (changes_of p) start parts → IsLeft owner [] db parts) → whole dba (parts_in p) ≡ Some db
built dba p db start own is e laid = nothing_left dba (parts_in p) db is (laid dba (parts_in p) (subst (λ d. IsLeft dba (changes_of p) d (parts_in p)) (sym e) (all_is_left dba p own)))

-- where changes are left for good, the parts make no database
pub refused : (dba : List ℕ) (p : SchemaParts) (start : Db) → list_all (λ x. is_of_its_base (index_in x)) p.indexes ≡ true → start ≡ nothing_in dba
    → ((owner : List ℕ) (parts : Parts) (db : Db) → IsLeft owner (changes_of p) start parts → whole owner parts ≡ Some db → IsDatabase db → ⊥)
    → (db : Db) → whole dba (parts_in p) ≡ Some db → IsDatabase db → index_owners_agree db ≡ true → ⊥
refused dba p start own e none db w is agree = none dba (parts_in p) db (subst (λ d. IsLeft dba (changes_of p) d (parts_in p)) (sym e) (all_is_left dba p own)) w is

-- where an index isn't of its base, owners of indexes don't agree
pub not_agreed : (dba : List ℕ) (p : SchemaParts) → list_all (λ x. is_of_its_base (index_in x)) p.indexes ≡ false → (db : Db) → whole dba (parts_in p) ≡ Some db → IsDatabase db → index_owners_agree db ≡ true → ⊥
not_agreed dba p own db w is agree = contrary (list_all (λ x. is_of_its_base (index_in x)) p.indexes) (of_their_bases dba p db w is agree) own
  where
    contrary : (b : Bool) → b ≡ true → b ≡ false → ⊥
    contrary b this that = cc (sym this ∙ that)

-- where no items are left, nothing is
pub all_laid : (dba : List ℕ) (parts : Parts) (left : List DbChange) (db : Db) → length left ≡ 0 → IsLeft dba left db parts → IsLeft dba [] db parts
all_laid dba parts [] db none l = l
all_laid dba parts (c ∷ left) db none l = absurd (omega (arith, none))

-- what follows of an answer
pub if_answered : {A E : Type 0} {P Q : A → Type 0} (r : Result A E) → ((a : A) → P a → Q a) → IfOk r P → IfOk r Q
if_answered (Ok a) follows h = follows a h
if_answered (Err e) follows h = tt
