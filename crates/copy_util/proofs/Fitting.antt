-- The columns of a copy that is fit are readable.
use Rattle.std.proofs.Common.{◌≡◌, refl, sym, ap, ◌∙◌, ℕ, zero, suc, Bool, true, false, ◌&&◌, not, IsTrue, List, [], ◌∷◌, Some, map}
use Rattle.std.specs.Prelude.{IfOk, slice_get, Result, Ok, Err}
use Rattle.fault_io.specs.Files.{Files}
use Rattle.calculus.specs.declared.value.Kind.{Kind}
use Rattle.calculus.specs.declared.value.Kind.TheVariants.{Of, Wide}
use Rattle.calculus.specs.declared.change.DbChange.{DbChange}
use Rattle.calculus.specs.declared.query.RelKey.{RelKey}
use Rattle.calculus.specs.declared.request.CopyCol.{CopyCol}
use Rattle.calculus.specs.declared.request.Utility.{Utility}
use Rattle.calculus.specs.declared.request.Utility.TheVariants as utility
use Rattle.calculus.specs.declared.request.Checked.TheVariants as checked
use Rattle.calculus.specs.declared.schema.Attr.{Attr}
use Rattle.calculus.specs.Change.{IsLawful}
use Rattle.calculus.specs.Database.{Db, relation_at}
use Rattle.calculus.specs.IsDatabase.{IsDatabase, are_stored, is_stored_kind}
use Rattle.calculus.specs.Keys.{same_key}
use Rattle.calculus.specs.Stored.{kinds_at}
use Rattle.plan_laws.proofs.Created.{each_true}
use Rattle.plan_laws.proofs.FitUtilities.{fitting_copy_lawful, named_is_ranged}
use Rattle.plan_laws.proofs.Kept.{both, each}
use Rattle.plan_laws.proofs.Planned.{all_absent, base_relation}
use Rattle.plan_laws.proofs.RowsChanged.{its_kinds}
use Rattle.plan_laws.proofs.Tests.{found_has, there_is}
use Rattle.quel_meaning.specs.Columns.{is_copy_form}
use Rattle.quel_meaning.specs.Fit.{columns_fit, is_fit, fits, suits, utility_fits}
use Rattle.quel_meaning.specs.Copying.{copied_from}
use Rattle.quel_meaning.specs.FitQueries.{can_be_ranged_over, kept_alone}
use Rattle.quel_meaning.specs.Planned.{owner_refusals}
use Rattle.quel_meaning.specs.SpelledTree.{tree_is_spelled, utility_is_spelled}
use Rattle.copy_util.specs.Causes.{Copies}
use Rattle.copy_util.specs.Copies.{IsCopy}
use Rattle.copy_util.specs.declared.fault.CopyFault.{CopyFault}
use Rattle.copy_util.proofs.Copied.{known_by}
use Rattle.copy_util.specs.Reading.{ComesOf, are_readable, have_forms, is_readable, is_wide, WouldBeReadable}

-- what a copy that is fit has
copy_fits : (db : Db) (user : List ℕ) (rel : RelKey) (columns : List CopyCol) (from : Bool) (file : List ℕ) → is_fit db user (checked.Utility (utility.Copy rel columns from file)) ≡ true
    → IsTrue (can_be_ranged_over db rel && columns_fit db rel columns)
unfolding fits tree_is_spelled suits utility_fits
copy_fits db user rel columns from file h = (both (utility_is_spelled (utility.Copy rel columns from file)) (can_be_ranged_over db rel && columns_fit db rel columns) h).1

pub fit_forms : (db : Db) (user : List ℕ) (u : Utility) (rel : RelKey) (columns : List CopyCol) (from : Bool) (file : List ℕ) → u ≡ utility.Copy rel columns from file
    → is_fit db user (checked.Utility u) ≡ true → have_forms columns ≡ true
fit_forms db user u rel columns from file is h =
    let parts = both (can_be_ranged_over db rel) (columns_fit db rel columns) (copy_fits db user rel columns from file (ap (λ u. is_fit db user (checked.Utility u)) (sym is) ∙ h)) in
    (both (have_forms columns) _ (both _ _ parts.1).1).0

-- the kind of a stored attribute is not of 64 bits
stored_kind : (attrs : List Attr) (i : ℕ) → IsTrue (are_stored attrs) → is_wide (slice_get (map (λ a. a.kind) attrs) i) ≡ false
stored_kind [] i t = refl
stored_kind (a ∷ attrs) zero t = go a.kind (both (is_stored_kind a.kind) (are_stored attrs) t).0
  where
    go : (k : Kind) → IsTrue (is_stored_kind k) → is_wide (Some k) ≡ false
    go Wide t = cc t
    go (Of d) t = refl
stored_kind (a ∷ attrs) (suc i) t = stored_kind attrs i (both (is_stored_kind a.kind) (are_stored attrs) t).1

readable_by : (kinds : List Kind) → ((i : ℕ) → is_wide (slice_get kinds i) ≡ false) → (columns : List CopyCol) → IsTrue (have_forms columns) → IsTrue (are_readable kinds columns)
readable_by kinds plain [] t = refl
readable_by kinds plain (c ∷ columns) t =
    let parts = both (is_copy_form c.form) (have_forms columns) t in
    each (is_readable kinds c) (are_readable kinds columns) (each (is_copy_form c.form) (not (is_wide (slice_get kinds c.attr))) parts.0 (ap not (plain c.attr)))
    (readable_by kinds plain columns parts.1)

pub fit_readable : (db : Db) (user : List ℕ) (u : Utility) (rel : RelKey) (columns : List CopyCol) (from : Bool) (file : List ℕ) → IsDatabase db → u ≡ utility.Copy rel columns from file
    → is_fit db user (checked.Utility u) ≡ true → WouldBeReadable db user rel columns
fit_readable db user u rel columns from file is same h free =
    let fit = copy_fits db user rel columns from file (ap (λ u. is_fit db user (checked.Utility u)) (sym same) ∙ h) in
    let there = named_is_ranged db rel (both (can_be_ranged_over db rel) (columns_fit db rel columns) fit).0 in
    let absent = all_absent (owner_refusals db user rel) free in
    there_is (relation_at db rel) (base_relation db rel there absent.0 absent.1.0) λ relation found.
    let stored : IsTrue (are_stored relation.info.attrs) = found_has (λ r. IsTrue (are_stored r.info.attrs)) (λ r. same_key r.info.key rel) db.relations relation
    (each_true (λ r. are_stored r.info.attrs) db.relations is.relations_are_stored) found in
    readable_by (kinds_at db rel)
    (λ i. ap (λ kinds. is_wide (slice_get kinds i)) (its_kinds db rel relation found) ∙ stored_kind relation.info.attrs i stored) columns (fit_forms db user u rel columns from file same h)

-- ---- what is known of a copy from a file

pub copy_known : (db : Db) (files : Files) (user : List ℕ) (u : Utility) (rel : RelKey) (columns cols : List CopyCol) (from : Bool) (file bytes : List ℕ) (result : Result DbChange CopyFault)
    → IsDatabase db → u ≡ utility.Copy rel columns from file → cols ≡ columns → bytes ≡ file → is_fit db user (checked.Utility u) ≡ true
    → Copies (λ c. copied_from db files user rel cols bytes ≡ Ok c) (λ r. copied_from db files user rel cols bytes ≡ Err r) result
    → (k : IsCopy u true)
    → Copies (λ c. copied_from db files user k.rel k.columns k.constant ≡ Ok c) (λ r. copied_from db files user k.rel k.columns k.constant ≡ Err r) result
copy_known db files user u rel columns cols from file bytes result is same listed named fit known k =
    let both_are : utility.Copy k.rel k.columns true k.constant ≡ utility.Copy rel columns from file = sym k.is ∙ same in
    let rel_is : k.rel ≡ rel = cc both_are in
    let columns_are : k.columns ≡ cols = (let e : k.columns ≡ columns = cc both_are in e ∙ sym listed) in
    let file_is : k.constant ≡ bytes = (let e : k.constant ≡ file = cc both_are in e ∙ sym named) in
    known_by (copied_from db files user k.rel k.columns k.constant) (copied_from db files user rel cols bytes) result
    (λ i. copied_from db files user (rel_is i) (columns_are i) (file_is i)) known

-- a change that comes of a copy that is fit is lawful
pub copy_lawful : (db : Db) (user : List ℕ) (u : Utility) (rel : RelKey) (columns cols : List CopyCol) (from : Bool) (file bytes : List ℕ) (result : Result DbChange CopyFault)
    → IsDatabase db → u ≡ utility.Copy rel columns from file → cols ≡ columns → bytes ≡ file → is_fit db user (checked.Utility u) ≡ true → IsCopy u true
    → IfOk result (ComesOf db user rel cols bytes) → IfOk result (λ change. IsLawful db change)
copy_lawful db user u rel columns cols from file bytes (Ok change) is same listed named fit k comes =
    let both_are : utility.Copy k.rel k.columns true k.constant ≡ utility.Copy rel columns from file = sym k.is ∙ same in
    let rel_is : k.rel ≡ rel = cc both_are in
    let columns_are : k.columns ≡ cols = (let e : k.columns ≡ columns = cc both_are in e ∙ sym listed) in
    let file_is : k.constant ≡ bytes = (let e : k.constant ≡ file = cc both_are in e ∙ sym named) in
    fitting_copy_lawful (kept_alone db) db comes.0 user k.rel k.columns k.constant change is (ap (λ u. is_fit db user (checked.Utility u)) (sym k.is) ∙ fit)
    ((λ i. copied_from db comes.0 user (rel_is i) (columns_are i) (file_is i)) ∙ comes.1)
copy_lawful db user u rel columns cols from file bytes (Err fault) is same listed named fit k comes = tt
