-- A catalogue spells what its parts make, on pages on which no row of a relation lies; and one schema on whatever pages.
use Rattle.std.proofs.Common.{◌≡◌, sym, ap, ap₂, subst, ◌∙◌, refl, inl, inr, ◌≤◌, ◌&&◌, nat_le, true, ℕ, List, [], ◌∷◌, map, Option, Some, option_map}
use Rattle.std.specs.declared.cmp.Ordering.{Ordering}
use Rattle.std.proofs.lemmas.Bool.{leb-true}
use Rattle.std.proofs.lemmas.Cmp.{on_total}
use Rattle.std.proofs.lemmas.Option.{same_Some}
use Rattle.calculus.specs.declared.schema.Permit.{Permit}
use Rattle.calculus.specs.declared.schema.RelInfo.{RelInfo}
use Rattle.calculus.specs.declared.schema.Rule.{Rule}
use Rattle.calculus.specs.Database.{Db, Relation, Index, View}
use Rattle.calculus.specs.IsDatabase.{IsDatabase, are_stored}
use Rattle.calculus.specs.Keys.{key_cmp, numbered_cmp}
use Rattle.calculus.specs.Schema.{schema_of}
use Rattle.calculus.specs.Structures.{is_structure, is_view, is_index}
use Rattle.disk_model.specs.Disk.{Image}
use Rattle.page_chain.specs.Lists.{◌>>=◌, check, each, once}
use Rattle.page_chain.specs.Pages.{pages_of}
use Rattle.stored_database.specs.Catalogue.{Catalogue, IsCatalogue}
use Rattle.stored_database.specs.Entries.{Entry}
use Rattle.stored_database.specs.Parts.{of_rule, of_permit}
use Rattle.stored_database.specs.Spelled.{relation_of, relations_of, index_of, indexes_of, view_of, views_of, numbered_of, rules_of, permits_of, columns_stand, parts_stand, entries_that, spelled}
use Rattle.stored_database.specs.Trees.{rule_of, permit_of, firsts}
use Rattle.stored_database.proofs.Members.{IsIn, of_tests, in_map, filter_in, each_parts}
use Rattle.stored_database.proofs.Orders.{key_total}
use Rattle.stored_database.proofs.Reading.{bind_some}
use Rattle.stored_database.proofs.Sets.{is_once}
use Rattle.catalog_read.specs.Parts.{Parts, relation_in, whole}
use Rattle.catalog_read.specs.Read.{relation_info, parts_of}
use Rattle.catalog_read.proofs.SpellsSchema.{spells_its_schema}
use Rattle.catalog_laws.specs.Unread.{PartsAreSpelled, AreSpelledOnce}
use Rattle.catalog_laws.proofs.Images.{have_pages, image_without, low_stays, relation_without, relations_have_pages}

-- ---- the parts, and what they make

-- What is read of a catalogue, part by part.
record AreRead (cat : Catalogue) (parts : Parts) : Type 0 where
  sound : check (columns_stand cat && parts_stand cat) ≡ Some tt
  relations : each (relation_info cat) (entries_that is_structure cat) ≡ Some parts.relations
  indexes : each (index_of cat) (entries_that is_index cat) ≡ Some parts.indexes
  views : each (view_of cat) (entries_that is_view cat) ≡ Some parts.views
  rules : each (numbered_of rule_of (λ r. r.number) cat) (firsts of_rule cat.parts) ≡ Some parts.rules
  permits : each (numbered_of permit_of (λ p. p.number) cat) (firsts of_permit cat.parts) ≡ Some parts.permits

are_read : (cat : Catalogue) (parts : Parts) → parts_of cat ≡ Some parts → AreRead cat parts
unfolding parts_of
are_read cat parts h =
    let s = bind_some (check (columns_stand cat && parts_stand cat)) _ parts h in
    let r = bind_some (each (relation_info cat) (entries_that is_structure cat)) _ parts s.2 in
    let x = bind_some (each (index_of cat) (entries_that is_index cat)) _ parts r.2 in
    let v = bind_some (each (view_of cat) (entries_that is_view cat)) _ parts x.2 in
    let u = bind_some (each (numbered_of rule_of (λ r. r.number) cat) (firsts of_rule cat.parts)) _ parts v.2 in
    let p = bind_some (each (numbered_of permit_of (λ p. p.number) cat) (firsts of_permit cat.parts)) _ parts u.2 in
    let is : record { relations = r.0; indexes = x.0; views = v.0; rules = u.0; permits = p.0 } ≡ parts = same_Some _ parts p.2 in
    record {
      sound = s.1;
      relations = r.1 ∙ ap (λ (p : Parts). Some p.relations) is;
      indexes = x.1 ∙ ap (λ (p : Parts). Some p.indexes) is;
      views = v.1 ∙ ap (λ (p : Parts). Some p.views) is;
      rules = u.1 ∙ ap (λ (p : Parts). Some p.rules) is;
      permits = p.1 ∙ ap (λ (p : Parts). Some p.permits) is;
    }

-- the orders of relations, indexes and views
abbrev by_key : Relation → Relation → Ordering
by_key a b = key_cmp a.info.key b.info.key

abbrev index_by_key : Index → Index → Ordering
index_by_key a b = key_cmp a.info.key b.info.key

abbrev view_by_key : View → View → Ordering
view_by_key a b = key_cmp a.info.key b.info.key

-- What parts make, list by list.
record Make (dba : List ℕ) (parts : Parts) (db : Db) : Type 0 where
  dba_is : dba ≡ db.dba
  relations : once by_key (map relation_in parts.relations) ≡ Some db.relations
  indexes : once index_by_key parts.indexes ≡ Some db.indexes
  views : once view_by_key parts.views ≡ Some db.views
  rules : once (numbered_cmp (λ (r : Rule). r.number)) parts.rules ≡ Some db.rules
  permits : once (numbered_cmp (λ (p : Permit). p.number)) parts.permits ≡ Some db.permits

make : (dba : List ℕ) (parts : Parts) (db : Db) → whole dba parts ≡ Some db → Make dba parts db
unfolding whole
make dba parts db h =
    let r = bind_some (once by_key (map relation_in parts.relations)) _ db h in
    let x = bind_some (once index_by_key parts.indexes) _ db r.2 in
    let v = bind_some (once view_by_key parts.views) _ db x.2 in
    let u = bind_some (once (numbered_cmp (λ (r : Rule). r.number)) parts.rules) _ db v.2 in
    let p = bind_some (once (numbered_cmp (λ (p : Permit). p.number)) parts.permits) _ db u.2 in
    let is : record { dba = dba; relations = r.0; indexes = x.0; views = v.0; rules = u.0; permits = p.0 } ≡ db = same_Some _ db p.2 in
    record {
      dba_is = ap (λ (d : Db). d.dba) is;
      relations = r.1 ∙ ap (λ (d : Db). Some d.relations) is;
      indexes = x.1 ∙ ap (λ (d : Db). Some d.indexes) is;
      views = v.1 ∙ ap (λ (d : Db). Some d.views) is;
      rules = u.1 ∙ ap (λ (d : Db). Some d.rules) is;
      permits = p.1 ∙ ap (λ (d : Db). Some d.permits) is;
    }

-- ---- the relations

-- what is read of each is read another way, where that holds of each that is there
each_if : {A B C : Type 0} (f : A → Option B) (g : A → Option C) (h : B → C) (xs : List A) (ys : List B) → each f xs ≡ Some ys
    → ((x : A) (y : B) → IsIn x xs → IsIn y ys → f x ≡ Some y → g x ≡ Some (h y)) → each g xs ≡ Some (map h ys)
each_if f g h [] ys e one = ap (λ l. Some (map h l)) (same_Some [] ys e)
each_if {A} {B} {C} f g h (x ∷ xs) ys e one =
    let p = each_parts f x xs ys e in
    let own : (y : B) → IsIn y (p.0 ∷ p.1) → IsIn y ys = λ y k. subst (IsIn y) (sym p.4) k in
    ap₂ (λ (o : Option C) (l : Option (List C)). o >>= (λ y. option_map (λ ys. y ∷ ys) l)) (one x p.0 (inl refl) (own p.0 (inl refl)) p.2)
    (each_if f g h xs p.1 p.3 (λ z y at k read. one z y (inr at) (own y (inr k)) read))
    ∙ ap (λ l. Some (map h l)) (sym p.4)

module _ (dba : List ℕ) (cat : Catalogue) (parts : Parts) (db : Db) (m : Image) (is : IsCatalogue cat) (read : AreRead cat parts) (made : Make dba parts db) (stand : IsDatabase db)
    (pages : have_pages cat ≡ true) where
  -- the attributes of each relation are stored
  stored : (info : RelInfo) → IsIn info parts.relations → are_stored info.attrs ≡ true
  stored info at =
      of_tests (λ (r : Relation). are_stored r.info.attrs) db.relations (relation_in info) stand.relations_are_stored
      ((is_once (on_total (λ (r : Relation). r.info.key) key_total) (map relation_in parts.relations) db.relations made.relations).to (relation_in info) (in_map relation_in parts.relations info at))

  -- each relation is read without rows
  relations_read : each (relation_of (pages_of (image_without cat m)) cat) (entries_that is_structure cat) ≡ Some (map relation_in parts.relations)
  relations_read =
      each_if (relation_info cat) (relation_of (pages_of (image_without cat m)) cat) relation_in (entries_that is_structure cat) parts.relations read.relations (λ e info at it known.
      let f = filter_in (λ (e : Entry). is_structure e.spec) cat.entries e at in
      let some : 1 ≤ e.used = leb-true 1 e.used (of_tests (λ (e : Entry). nat_le 1 e.used) (entries_that is_structure cat) e pages at) in
      relation_without cat m is e info f.0 f.1 some (stored info it) known)

  -- so the database is spelled
  spelled_without : spelled dba (pages_of (image_without cat m)) cat ≡ Some db
  unfolding spelled relations_of indexes_of views_of rules_of permits_of
  spelled_without =
      (λ i. read.sound i >>= (λ sound. (relations_read i >>= once by_key) >>= (λ relations. (read.indexes i >>= once index_by_key) >>= (λ indexes. (read.views i >>= once view_by_key) >>= (λ views.
      (read.rules i >>= once (numbered_cmp (λ (r : Rule). r.number))) >>= (λ rules. (read.permits i >>= once (numbered_cmp (λ (p : Permit). p.number))) >>= (λ permits.
      Some (record { dba = dba; relations = relations; indexes = indexes; views = views; rules = rules; permits = permits }))))))))
      ∙ (λ i. made.relations i >>= (λ relations. made.indexes i >>= (λ indexes. made.views i >>= (λ views. made.rules i >>= (λ rules. made.permits i >>= (λ permits.
      Some (record { dba = made.dba_is i; relations = relations; indexes = indexes; views = views; rules = rules; permits = permits })))))))

pub parts_are_spelled : PartsAreSpelled
parts_are_spelled dba cat parts db m is h made stand = record {
  image = image_without cat m;
  low = low_stays cat m is;
  spells = spelled_without dba cat parts db m is (are_read cat parts h) (make dba parts db made) stand (relations_have_pages cat is);
}

-- ---- one schema

pub are_spelled_once : AreSpelledOnce
are_spelled_once dba cat one other files there h k =
    let a = spells_its_schema dba files cat one h in
    let b = spells_its_schema dba there cat other k in
    let same : a.parts ≡ b.parts = same_Some a.parts b.parts (sym a.are ∙ b.are) in
    same_Some (schema_of one) (schema_of other) (sym a.make ∙ ap (whole dba) same ∙ b.make)
