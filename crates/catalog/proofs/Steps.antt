-- The steps by which a change is applied.
use Rattle.std.proofs.Common.{◌≡◌, refl, sym, ap, subst, ◌∙◌, ℕ, Bool, true, false, List, [], ◌∷◌, map, Option, Some}
use Rattle.std.specs.Prelude.{OnOk, Result, Ok, Err}
use Rattle.am_traits.specs.Causes.{IsAtFault}
use Rattle.calculus.specs.declared.query.RelKey.{RelKey}
use Rattle.calculus.specs.declared.change.DbChange.{DbChange}
use Rattle.calculus.specs.declared.change.DbChange.TheVariants as change
use Rattle.calculus.specs.Change.{IsLawful, laid}
use Rattle.calculus.specs.Database.{Db, Relation, is_relation}
use Rattle.calculus.specs.IsDatabase.{IsDatabase}
use Rattle.calculus.specs.Keys.{same_key}
use Rattle.calculus.specs.Replacement.{with_rows, without_rows}
use Rattle.calculus.specs.Rows.{Row}
use Rattle.calculus.specs.Schema.{bare, schema_of}
use Rattle.disk_model.specs.Disk.{Image}
use Rattle.disk_model.specs.declared.disk.Addr.{Addr}
use Rattle.page_chain.specs.Pages.{pages_of}
use Rattle.plain_base.specs.Shown.{database_of}
use Rattle.plain_base.specs.declared.db_plain.DbPlain.{DbPlain}
use Rattle.stored_database.specs.Catalogue.{Catalogue, catalogue_in}
use Rattle.stored_database.specs.Printed.{printed}
use Rattle.stored_database.specs.After.{changed}
use Rattle.catalog_moves.specs.Bases.{IndexBases}
use Rattle.catalog_moves.specs.Files.{files_of, is_in}
use Rattle.catalog_moves.specs.Moves.{HavePlaces}
use Rattle.catalog_pages.specs.Ends.{AreEnds, NoCatalogue, Written}
use Rattle.catalog_laws.specs.Loaded.{known_after, knows_rows}
use Rattle.catalog_laws.proofs.Changes.{takes_changes}
use Rattle.catalog_laws.proofs.Part.{has_schema, starts_bare}
use Rattle.catalog.specs.Knows.{Knows, KnowsAfter, KnowsNoneFor}
use Rattle.catalog.specs.Laid.{MayTake, NoneMayTake, HasMade, IsPrepared, IsKept, going_of, coming_of}
use Rattle.catalog.specs.declared.catalog.Catalog.{Catalog}
use Rattle.catalog.specs.Lies.{LiesAfter, LiesOn}
use Rattle.catalog.proofs.Known.{may_take, part_lawful, ends_there, catalogue_there, part_bases, prepared, known_then}
use Rattle.catalog.proofs.LiesLaid.{catalogue_in_place, ends_in_place, lies_then, part_may_take, part_prepared}

-- the same is known where the database in memory is the same
pub knows_same : (c : Catalog) (p : DbPlain) (m : Image) (db : Db) → database_of p ≡ database_of c.plain → Knows c m db → Knows (record c { plain = p }) m db
knows_same c p m db e knows = record { plain = e ∙ knows.plain; catalogue = knows.catalogue; has = knows.has; ends = knows.ends; owners = knows.owners; bases = knows.bases }

-- what is known when all steps are done
pub write_knows : {T E : Type 0} (r : Result T E) (c : Catalog) (p : DbPlain) (now : Catalog) (m : Image) (db : Db) (made : DbChange) (file used : ℕ) (mid known : Option Image)
    → database_of p ≡ database_of c.plain → IsDatabase db → Knows c m db → IsLawful db made → knows_rows made (is_in c.loaded) ≡ true
    → (MayTake (database_of c.plain) db (files_of c.files) made m → HasMade made db (files_of c.files) file used m mid)
    → OnOk r (HavePlaces (coming_of made (files_of c.files) file used (database_of p)))
    → OnOk r ((n : Image) (cat : Catalogue) → mid ≡ Some n → AreEnds n c.ends → catalogue_in (pages_of n) ≡ Some cat → IndexBases c.files (database_of p) → IsPrepared made (files_of c.files) file used (database_of p) cat
    → Written n known now.ends (changed (going_of made (files_of c.files) file used (database_of p)) (coming_of made (files_of c.files) file used (database_of p)) cat))
    → OnOk r (IsKept (record c { plain = p }) now made file used) → OnOk r (KnowsAfter now m known db made)
write_knows (Err e) c p now m db made file used mid known same is knows lawful read makes places writes kept = tt
write_knows (Ok x) c p now m db made file used mid known same is knows lawful read makes places writes kept =
    let its = makes (may_take c m db made is knows lawful) in
    let cat = printed db (files_of c.files) in
    let written = writes its.image cat its.still_known (ends_there c m db made is knows lawful file used mid its) (catalogue_there c m db made is knows lawful file used mid its)
    (subst (IndexBases c.files) (sym same) (part_bases c m db knows)) (subst (λ d. IsPrepared made (files_of c.files) file used d cat) (sym same) (prepared c m db made is knows lawful read file used mid its)) in
    known_then c m db made is knows lawful read file used mid its now known
    (record { plain = kept.plain ∙ ap (λ (d : Db). laid d made) same; loaded = kept.loaded; places = kept.places })
    (subst (λ d. HavePlaces (coming_of made (files_of c.files) file used d)) same places)
    (subst (λ d. Written its.image known now.ends (changed (going_of made (files_of c.files) file used d) (coming_of made (files_of c.files) file used d) cat)) same written)

-- damage to the pages of a relation
pub pages_fault : (c : Catalog) (made : DbChange) (old : Option Image) (a : Addr) → IsAtFault old (NoneMayTake (database_of c.plain) (files_of c.files) made) a → IsAtFault old (KnowsNoneFor c made) a
pages_fault c made old a fault m is db base knows lawful = fault m is db (may_take c m db made base knows lawful)

-- and to those of the catalogues
pub catalogue_fault : (c : Catalog) (made : DbChange) (file used : ℕ) (old mid : Option Image)
    → ((m : Image) (db : Db) → old ≡ Some m → MayTake (database_of c.plain) db (files_of c.files) made m → HasMade made db (files_of c.files) file used m mid)
    → (a : Addr) → IsAtFault mid (NoCatalogue c.ends) a → IsAtFault old (KnowsNoneFor c made) a
catalogue_fault c made file used old mid makes a fault m is db base knows lawful =
    let its = makes m db is (may_take c m db made base knows lawful) in
    fault its.image its.still_known (printed db (files_of c.files)) (catalogue_there c m db made base knows lawful file used mid its) (ends_there c m db made base knows lawful file used mid its)

-- ---- schemas

-- rows that go and come leave the schema
bare_changed : (rel : RelKey) (remove add : List Row) (rs : List Relation)
    → map bare (map (λ r. elim (same_key r.info.key rel) as (λ b. Relation) [ true ↦ record r { rows = with_rows add (without_rows remove r.rows) } | false ↦ r ]) rs) ≡ map bare rs
bare_changed rel remove add [] = refl
bare_changed rel remove add (r ∷ rs) = (λ i. go (same_key r.info.key rel) i ∷ bare_changed rel remove add rs i)
  where
    go : (b : Bool) → bare (elim b as (λ b. Relation) [ true ↦ record r { rows = with_rows add (without_rows remove r.rows) } | false ↦ r ]) ≡ bare r
    go true = refl
    go false = refl

rows_leave_schema : (rel : RelKey) (remove add : List Row) (db : Db) → schema_of (laid db (change.Rows rel remove add)) ≡ schema_of db
unfolding schema_of laid
rows_leave_schema rel remove add db = λ i. record db { relations = bare_changed rel remove add db.relations i }

-- a schema has itself as its schema
pub schema_again : (db : Db) → schema_of (schema_of db) ≡ schema_of db
schema_again db = ap schema_of (sym (starts_bare db)) ∙ has_schema (λ key. false) db

-- a change that names no rows makes of a schema that of what it makes
no_rows_laid : (made : DbChange) (p old : Db) → IsDatabase p → IsLawful p made → schema_of p ≡ schema_of old → knows_rows made (λ key. false) ≡ true → schema_of (laid p made) ≡ schema_of (laid (schema_of old) made)
no_rows_laid made p old is lawful same none =
    sym (has_schema (known_after made (λ key. false)) (laid p made))
    ∙ ap schema_of (sym (takes_changes.after (λ key. false) p made is lawful none))
    ∙ ap (λ (d : Db). schema_of (laid d made)) (starts_bare p ∙ same)

-- a change makes the same schema of a database and of its schema
pub schema_laid : (made : DbChange) (p old : Db) → IsDatabase p → IsLawful p made → schema_of p ≡ schema_of old → schema_of (laid p made) ≡ schema_of (laid (schema_of old) made)
unfolding knows_rows
schema_laid (change.Rows rel remove add) p old is lawful same = rows_leave_schema rel remove add p ∙ same ∙ sym (schema_again old) ∙ sym (rows_leave_schema rel remove add (schema_of old))
schema_laid (change.Create info rows) p old is lawful same = no_rows_laid (change.Create info rows) p old is lawful same refl
schema_laid (change.Destroy rels) p old is lawful same = no_rows_laid (change.Destroy rels) p old is lawful same refl
schema_laid (change.Modify rel to keys) p old is lawful same = no_rows_laid (change.Modify rel to keys) p old is lawful same refl
schema_laid (change.Index base name keys) p old is lawful same = no_rows_laid (change.Index base name keys) p old is lawful same refl
schema_laid (change.View info query) p old is lawful same = no_rows_laid (change.View info query) p old is lawful same refl
schema_laid (change.Permit rel permit) p old is lawful same = no_rows_laid (change.Permit rel permit) p old is lawful same refl
schema_laid (change.Rule rel rule) p old is lawful same = no_rows_laid (change.Rule rel rule) p old is lawful same refl
schema_laid (change.DropPermits rel numbers) p old is lawful same = no_rows_laid (change.DropPermits rel numbers) p old is lawful same refl
schema_laid (change.DropRules rel numbers) p old is lawful same = no_rows_laid (change.DropRules rel numbers) p old is lawful same refl

-- ---- a change that isn't lawful

-- where what is in memory isn't one of which the change is lawful, it is none of a database of which it is
pub unlawful : (c : Catalog) (made : DbChange) (m : Image) (db : Db) → knows_rows made (is_in c.loaded) ≡ true → (IsLawful (database_of c.plain) made → ⊥) → IsDatabase db → Knows c m db → IsLawful db made → ⊥
unlawful c made m db read off is knows lawful = off (part_lawful c m db made is knows lawful read)

-- what follows of what holds where a call succeeded
pub on_ok : {T E : Type 0} (r : Result T E) (P Q : Type 0) → (P → Q) → OnOk r P → OnOk r Q
on_ok (Ok x) P Q then h = then h
on_ok (Err e) P Q then h = h

-- ---- what lies on the pages

-- the same lies on them where the database in memory is the same
pub lies_still : (c : Catalog) (p : DbPlain) (m : Image) → database_of p ≡ database_of c.plain → LiesOn c m → LiesOn (record c { plain = p }) m
lies_still c p m e lies = record {
  over = lies.over;
  first = lies.first;
  read = λ key here known. lies.read key (ap (λ (d : Db). is_relation d key) (sym e) ∙ here) known;
  knows = subst (Knows (record c { plain = p }) lies.over) (sym e) (knows_same c p lies.over (database_of c.plain) e lies.knows);
}

-- what lies on them when all steps are done
pub write_lies : {T E : Type 0} (r : Result T E) (c : Catalog) (p : DbPlain) (now : Catalog) (m : Image) (made : DbChange) (file used : ℕ) (mid known : Option Image)
    → database_of p ≡ database_of c.plain → LiesOn c m → IsLawful (database_of c.plain) made → knows_rows made (is_in c.loaded) ≡ true
    → (MayTake (database_of c.plain) (database_of c.plain) (files_of c.files) made m → HasMade made (database_of c.plain) (files_of c.files) file used m mid)
    → OnOk r (HavePlaces (coming_of made (files_of c.files) file used (database_of p)))
    → OnOk r ((n : Image) (cat : Catalogue) → mid ≡ Some n → AreEnds n c.ends → catalogue_in (pages_of n) ≡ Some cat → IndexBases c.files (database_of p) → IsPrepared made (files_of c.files) file used (database_of p) cat
    → Written n known now.ends (changed (going_of made (files_of c.files) file used (database_of p)) (coming_of made (files_of c.files) file used (database_of p)) cat))
    → OnOk r (IsKept (record c { plain = p }) now made file used) → OnOk r (LiesAfter now m known)
write_lies (Err e) c p now m made file used mid known same lies lawful read makes places writes kept = tt
write_lies (Ok x) c p now m made file used mid known same lies lawful read makes places writes kept =
    let its = makes (part_may_take c m made lies lawful read) in
    let cat = printed (database_of c.plain) (files_of c.files) in
    let written = writes its.image cat its.still_known (ends_in_place c m made lies lawful file used mid its) (catalogue_in_place c m made lies lawful file used mid its)
    (subst (IndexBases c.files) (sym same) lies.knows.bases) (subst (λ d. IsPrepared made (files_of c.files) file used d cat) (sym same) (part_prepared c m made lies lawful file used mid its read)) in
    lies_then c m made lies lawful file used mid its read now known
    (record { plain = kept.plain ∙ ap (λ (d : Db). laid d made) same; loaded = kept.loaded; places = kept.places })
    (subst (λ d. HavePlaces (coming_of made (files_of c.files) file used d)) same places)
    (subst (λ d. Written its.image known now.ends (changed (going_of made (files_of c.files) file used d) (coming_of made (files_of c.files) file used d) cat)) same written)
