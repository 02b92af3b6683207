-- The files after a change agree with those before, and what is new has a file of its own.
use Rattle.std.proofs.Common.{◌≡◌, refl, sym, ap, ap₂, ◌∙◌, inl, inr, true≢false, ℕ, ◌==◌, Bool, true, false, Some}
use Rattle.std.specs.Prelude.{if◌then◌else◌}
use Rattle.std.proofs.lemmas.Option.{same_Some, none-some}
use Rattle.calculus.specs.declared.query.RelKey.{RelKey}
use Rattle.calculus.specs.declared.change.DbChange.{DbChange}
use Rattle.calculus.specs.declared.change.DbChange.TheVariants as change
use Rattle.calculus.specs.Change.{laid, IsLawful}
use Rattle.calculus.specs.Database.{Db, is_there}
use Rattle.calculus.specs.Keys.{same_key, key_of}
use Rattle.stored_database.specs.Printed.{Files}
use Rattle.stored_database.proofs.Orders.{same_key_is, same_key_itself}
use Rattle.stored_database.proofs.PrintedEntries.{equal_turned}
use Rattle.stored_database.specs.ChangeLaws.{Agree, FilesDiffer, NewFilesDiffer, resizes}
use Rattle.stored_database.proofs.FilesDiffer.{differ_again}
use Rattle.stored_database.proofs.Staying.{relation_is_there}
use Rattle.catalog_moves.specs.Files.{files_after, placed_key, with_file}
use Rattle.catalog_laws.specs.Placed.{Suits, IsFree}
use Rattle.catalog_laws.proofs.From.{new_key, new_is_new, info_from, found_under}

-- ---- a file that is said anew

pub file_same : (key k : RelKey) (file used : ℕ) (f : Files) → same_key key k ≡ true → (with_file k file used f).file key ≡ file
unfolding with_file
file_same key k file used f e = ap (λ (b : Bool). if b then file else f.file key) e

pub file_other : (key k : RelKey) (file used : ℕ) (f : Files) → same_key key k ≡ false → (with_file k file used f).file key ≡ f.file key
unfolding with_file
file_other key k file used f e = ap (λ (b : Bool). if b then file else f.file key) e

pub used_same : (key k : RelKey) (file used : ℕ) (f : Files) → same_key key k ≡ true → (with_file k file used f).used key ≡ used
unfolding with_file
used_same key k file used f e = ap (λ (b : Bool). if b then used else f.used key) e

pub used_other : (key k : RelKey) (file used : ℕ) (f : Files) → same_key key k ≡ false → (with_file k file used f).used key ≡ f.used key
unfolding with_file
used_other key k file used f e = ap (λ (b : Bool). if b then used else f.used key) e

-- what is there isn't what wasn't
not_that : (db : Db) (key k : RelKey) → is_there db key ≡ true → is_there db k ≡ false → same_key key k ≡ false
not_that db key k here off = go (same_key key k) refl
  where
    go : (b : Bool) → same_key key k ≡ b → b ≡ false
    go false e = refl
    go true e = absurd (true≢false (sym here ∙ ap (is_there db) (same_key_is key k e) ∙ off))

-- a file that a relation keeps
kept_file : (key rel : RelKey) (file used : ℕ) (f : Files) → file ≡ f.file rel → (with_file rel file used f).file key ≡ f.file key
kept_file key rel file used f is = go (same_key key rel) refl
  where
    go : (b : Bool) → same_key key rel ≡ b → (with_file rel file used f).file key ≡ f.file key
    go true e = file_same key rel file used f e ∙ is ∙ ap f.file (sym (same_key_is key rel e))
    go false e = file_other key rel file used f e

module _ (f : Files) (file used : ℕ) (db : Db) where
  file_stays : (made : DbChange) → IsLawful db made → Suits made f file used → (key : RelKey) → is_there db key ≡ true → (files_after made file used f).file key ≡ f.file key
  unfolding files_after placed_key Suits new_key
  file_stays (change.Rows rel remove add) lawful suits key here = kept_file key rel file used f suits.0
  file_stays (change.Create info rows) lawful suits key here = file_other key info.key file used f (not_that db key info.key here (new_is_new (change.Create info rows) db info.key lawful refl))
  file_stays (change.Destroy rels) lawful suits key here = refl
  file_stays (change.Modify rel to keys) lawful suits key here = kept_file key rel file used f suits.0
  file_stays (change.Index base name keys) lawful suits key here =
      file_other key (key_of base.owner name) file used f (not_that db key (key_of base.owner name) here (new_is_new (change.Index base name keys) db (key_of base.owner name) lawful refl))
  file_stays (change.View info query) lawful suits key here = file_other key info.key file used f (not_that db key info.key here (new_is_new (change.View info query) db info.key lawful refl))
  file_stays (change.Permit rel permit) lawful suits key here = refl
  file_stays (change.Rule rel rule) lawful suits key here = refl
  file_stays (change.DropPermits rel numbers) lawful suits key here = refl
  file_stays (change.DropRules rel numbers) lawful suits key here = refl

  used_stays : (made : DbChange) → IsLawful db made → (key : RelKey) → is_there db key ≡ true → resizes made key ≡ false → (files_after made file used f).used key ≡ f.used key
  unfolding files_after placed_key resizes new_key
  used_stays (change.Rows rel remove add) lawful key here off = used_other key rel file used f off
  used_stays (change.Create info rows) lawful key here off = used_other key info.key file used f (not_that db key info.key here (new_is_new (change.Create info rows) db info.key lawful refl))
  used_stays (change.Destroy rels) lawful key here off = refl
  used_stays (change.Modify rel to keys) lawful key here off = used_other key rel file used f off
  used_stays (change.Index base name keys) lawful key here off =
      used_other key (key_of base.owner name) file used f (not_that db key (key_of base.owner name) here (new_is_new (change.Index base name keys) db (key_of base.owner name) lawful refl))
  used_stays (change.View info query) lawful key here off = used_other key info.key file used f (not_that db key info.key here (new_is_new (change.View info query) db info.key lawful refl))
  used_stays (change.Permit rel permit) lawful key here off = refl
  used_stays (change.Rule rel rule) lawful key here off = refl
  used_stays (change.DropPermits rel numbers) lawful key here off = refl
  used_stays (change.DropRules rel numbers) lawful key here off = refl

-- the files agree on what stays
pub files_agree : (made : DbChange) (db : Db) (f : Files) (file used : ℕ) → IsLawful db made → Suits made f file used → Agree db made f (files_after made file used f)
files_agree made db f file used lawful suits = record {
  file_stays = λ key here there. file_stays f file used db made lawful suits key here;
  used_stays = λ key here there off. used_stays f file used db made lawful key (relation_is_there db key here) off;
}

-- ---- what is new

-- it has the file that is given, and nothing else had it
pub new_file : (made : DbChange) (f : Files) (file used : ℕ) (key : RelKey) → Suits made f file used → new_key made ≡ Some key → IsFree f file × (files_after made file used f ≡ with_file key file used f)
unfolding files_after placed_key Suits new_key
new_file (change.Rows rel remove add) f file used key suits e = absurd (none-some key e)
new_file (change.Create info rows) f file used key suits e = (suits.0, ap (λ (k : RelKey). with_file k file used f) (same_Some info.key key e))
new_file (change.Destroy rels) f file used key suits e = absurd (none-some key e)
new_file (change.Modify rel to keys) f file used key suits e = absurd (none-some key e)
new_file (change.Index base name keys) f file used key suits e = (suits, ap (λ (k : RelKey). with_file k file used f) (same_Some (key_of base.owner name) key e))
new_file (change.View info query) f file used key suits e = (suits, ap (λ (k : RelKey). with_file k file used f) (same_Some info.key key e))
new_file (change.Permit rel permit) f file used key suits e = absurd (none-some key e)
new_file (change.Rule rel rule) f file used key suits e = absurd (none-some key e)
new_file (change.DropPermits rel numbers) f file used key suits e = absurd (none-some key e)
new_file (change.DropRules rel numbers) f file used key suits e = absurd (none-some key e)

-- it is what the given key names
pub is_new : (made : DbChange) (db : Db) (key : RelKey) → is_there (laid db made) key ≡ true → is_there db key ≡ false → new_key made ≡ Some key
is_new made db key there off =
    let i = found_under (laid db made) key there in
    elim (info_from made db i.0 i.1) [
      | inl here ↦ absurd (true≢false (sym here ∙ ap (is_there db) i.2 ∙ off))
      | inr e ↦ e ∙ ap Some i.2
    ]

pub new_files_differ : (made : DbChange) (db : Db) (f : Files) (file used : ℕ) → Suits made f file used → NewFilesDiffer db made (files_after made file used f)
new_files_differ made db f file used suits key other off there its apart =
    let n = new_file made f file used key suits (is_new made db key there off) in
    let here : (files_after made file used f).file key ≡ file = ap (λ (g : Files). g.file key) n.1 ∙ file_same key key file used f (same_key_itself key) in
    let elsewhere : (files_after made file used f).file other ≡ f.file other = ap (λ (g : Files). g.file other) n.1 ∙ file_other other key file used f (turned (same_key other key) refl) in
    ap₂ (λ (m n : ℕ). m == n) here elsewhere ∙ equal_turned file (f.file other) ∙ n.0.free other
  where
    turned : (b : Bool) → same_key other key ≡ b → same_key other key ≡ false
    turned false e = e
    turned true e = absurd (true≢false (sym (ap (same_key key) (same_key_is other key e) ∙ same_key_itself key) ∙ apart))

-- files differ afterwards
pub files_differ_after : (made : DbChange) (db : Db) (f : Files) (file used : ℕ) → IsLawful db made → FilesDiffer db f → Suits made f file used → FilesDiffer (laid db made) (files_after made file used f)
files_differ_after made db f file used lawful differ suits =
    differ_again made db f (files_after made file used f) lawful.leaves_a_database differ (files_agree made db f file used lawful suits) (new_files_differ made db f file used suits)
