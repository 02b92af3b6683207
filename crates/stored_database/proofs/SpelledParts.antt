-- What is known of a catalogue that spells a database.
use Rattle.std.proofs.Common.{◌≡◌, sym, ap, ◌∙◌, ℕ, ◌==◌, ◌&&◌, Bool, true, List, [], Option, Some}
use Rattle.std.proofs.lemmas.Option.{same_Some}
use Rattle.std.proofs.lemmas.Cmp.{on_total}
use Rattle.calculus.specs.declared.value.Domain.{Domain}
use Rattle.calculus.specs.declared.query.RelKey.{RelKey}
use Rattle.calculus.specs.declared.schema.Permit.{Permit}
use Rattle.calculus.specs.declared.schema.Rule.{Rule}
use Rattle.calculus.specs.Database.{Db, Relation, Index, View}
use Rattle.calculus.specs.Keys.{key_cmp, numbered_cmp}
use Rattle.calculus.specs.Structures.{is_structure, is_view, is_index}
use Rattle.page_chain.specs.Lists.{check, each}
use Rattle.page_chain.specs.Pages.{Pages}
use Rattle.page_chain.specs.Rows.{set_on, reader}
use Rattle.stored_database.specs.Catalogue.{Catalogue}
use Rattle.stored_database.specs.Entries.{Entry}
use Rattle.stored_database.specs.Parts.{Part, of_view, of_rule, of_permit}
use Rattle.stored_database.specs.Spelled.{entry_at, attrs_of, info_of, domain_of, relation_of, index_of, view_of, numbered_of, columns_stand, parts_stand, entries_that, relations_of, indexes_of, views_of, rules_of, permits_of, spelled}
use Rattle.stored_database.specs.Trees.{query_of, rule_of, permit_of, tree_at, firsts}
use Rattle.stored_database.proofs.Members.{IsIn, found_in}
use Rattle.stored_database.proofs.Orders.{key_total, numbered_total}
use Rattle.stored_database.proofs.ReadSets.{IsRead, is_read}
use Rattle.stored_database.proofs.Reading.{both, bind_some, when_some, same_number}

-- the entry that is found has this file
pub entry_found : (cat : Catalogue) (file : ℕ) (e : Entry) → entry_at cat file ≡ Some e → IsIn e cat.entries × (e.file ≡ file)
unfolding entry_at
entry_found cat file e h = let f = found_in (λ e. e.file == file) cat.entries e h in (f.0, same_number e.file file f.1)

-- ---- the five lists

-- A catalogue spells a database: its columns and parts stand, and each list is read.
pub record Spells (files : ℕ → Pages) (cat : Catalogue) (db : Db) : Type 0 where
  pub columns : columns_stand cat ≡ true
  pub parts : parts_stand cat ≡ true
  pub relations : IsRead (relation_of files cat) (λ a b. key_cmp a.info.key b.info.key) (entries_that is_structure cat) db.relations
  pub indexes : IsRead (index_of cat) (λ a b. key_cmp a.info.key b.info.key) (entries_that is_index cat) db.indexes
  pub views : IsRead (view_of cat) (λ a b. key_cmp a.info.key b.info.key) (entries_that is_view cat) db.views
  pub rules : IsRead (numbered_of rule_of (λ r. r.number) cat) (numbered_cmp (λ r. r.number)) (firsts of_rule cat.parts) db.rules
  pub permits : IsRead (numbered_of permit_of (λ p. p.number) cat) (numbered_cmp (λ p. p.number)) (firsts of_permit cat.parts) db.permits

check_passes : (test : Bool) (x : Unit {0}) → check test ≡ Some x → test ≡ true
check_passes test x h = (when_some test tt x h).0

pub spells : (dba : List ℕ) (files : ℕ → Pages) (cat : Catalogue) (db : Db) → spelled dba files cat ≡ Some db → Spells files cat db
unfolding spelled relations_of indexes_of views_of rules_of permits_of
spells dba files cat db h =
    let a = bind_some (check (columns_stand cat && parts_stand cat)) _ db h in
    let b = bind_some (relations_of files cat) _ db a.2 in
    let c = bind_some (indexes_of cat) _ db b.2 in
    let d = bind_some (views_of cat) _ db c.2 in
    let e = bind_some (rules_of cat) _ db d.2 in
    let f = bind_some (permits_of cat) _ db e.2 in
    let is : record { dba = dba; relations = b.0; indexes = c.0; views = d.0; rules = e.0; permits = f.0 } ≡ db = same_Some _ db f.2 in
    let sound = both (columns_stand cat) (parts_stand cat) (check_passes (columns_stand cat && parts_stand cat) a.0 a.1) in
    record {
      columns = sound.0;
      parts = sound.1;
      relations = is_read (relation_of files cat) (λ a b. key_cmp a.info.key b.info.key) (on_total (λ (r : Relation). r.info.key) key_total) (entries_that is_structure cat) db.relations (b.1 ∙ ap (λ (d : Db). Some d.relations) is);
      indexes = is_read (index_of cat) (λ a b. key_cmp a.info.key b.info.key) (on_total (λ (x : Index). x.info.key) key_total) (entries_that is_index cat) db.indexes (c.1 ∙ ap (λ (d : Db). Some d.indexes) is);
      views = is_read (view_of cat) (λ a b. key_cmp a.info.key b.info.key) (on_total (λ (v : View). v.info.key) key_total) (entries_that is_view cat) db.views (d.1 ∙ ap (λ (d : Db). Some d.views) is);
      rules = is_read (numbered_of rule_of (λ r. r.number) cat) (numbered_cmp (λ r. r.number)) (numbered_total (λ (r : Rule). r.number)) (firsts of_rule cat.parts) db.rules (e.1 ∙ ap (λ (d : Db). Some d.rules) is);
      permits = is_read (numbered_of permit_of (λ p. p.number) cat) (numbered_cmp (λ p. p.number)) (numbered_total (λ (p : Permit). p.number)) (firsts of_permit cat.parts) db.permits (f.1 ∙ ap (λ (d : Db). Some d.permits) is);
    }

-- ---- one of each

-- What is read of the entry of a relation.
pub record OfRelation (files : ℕ → Pages) (cat : Catalogue) (e : Entry) (r : Relation) : Type 0 where
  pub attrs : attrs_of cat e.file ≡ Some r.info.attrs
  pub domains : List Domain
  pub domains_are : each domain_of r.info.attrs ≡ Some domains
  pub rows : set_on (reader domains) e.used (files e.file) ≡ Some r.rows
  pub info : r.info ≡ info_of e r.info.attrs

pub relation_parts : (files : ℕ → Pages) (cat : Catalogue) (e : Entry) (r : Relation) → relation_of files cat e ≡ Some r → OfRelation files cat e r
unfolding relation_of
relation_parts files cat e r h =
    let a = bind_some (attrs_of cat e.file) _ r h in
    let b = bind_some (each domain_of a.0) _ r a.2 in
    let c = bind_some (set_on (reader b.0) e.used (files e.file)) _ r b.2 in
    let is : record { info = info_of e a.0; rows = c.0 } ≡ r = same_Some _ r c.2 in
    let attrs : a.0 ≡ r.info.attrs = ap (λ (r : Relation). r.info.attrs) is in
    record {
      attrs = a.1 ∙ ap Some attrs;
      domains = b.0;
      domains_are = ap (each domain_of) (sym attrs) ∙ b.1;
      rows = c.1 ∙ ap (λ (r : Relation). Some r.rows) is;
      info = sym (ap (λ (r : Relation). r.info) is) ∙ ap (info_of e) attrs;
    }

-- What is read of the entry of a view.
pub record OfView (cat : Catalogue) (e : Entry) (v : View) : Type 0 where
  pub attrs : attrs_of cat e.file ≡ Some v.info.attrs
  pub bytes : List ℕ
  pub tree : tree_at cat.parts e.file of_view 0 ≡ Some bytes
  pub query : query_of bytes ≡ Some v.query
  pub info : v.info ≡ info_of e v.info.attrs

pub view_parts : (cat : Catalogue) (e : Entry) (v : View) → view_of cat e ≡ Some v → OfView cat e v
unfolding view_of
view_parts cat e v h =
    let a = bind_some (attrs_of cat e.file) _ v h in
    let b = bind_some (tree_at cat.parts e.file of_view 0) _ v a.2 in
    let c = bind_some (query_of b.0) _ v b.2 in
    let is : record { info = info_of e a.0; query = c.0 } ≡ v = same_Some _ v c.2 in
    let attrs : a.0 ≡ v.info.attrs = ap (λ (v : View). v.info.attrs) is in
    record {
      attrs = a.1 ∙ ap Some attrs;
      bytes = b.0;
      tree = b.1;
      query = c.1 ∙ ap (λ (v : View). Some v.query) is;
      info = sym (ap (λ (v : View). v.info) is) ∙ ap (info_of e) attrs;
    }

-- What is read of the entry of an index.
pub record OfIndex (cat : Catalogue) (e : Entry) (x : Index) : Type 0 where
  pub base : Entry
  pub base_is : entry_at cat e.base ≡ Some base
  pub key : x.base ≡ base.key
  pub info : x.info ≡ info_of e []

pub index_parts : (cat : Catalogue) (e : Entry) (x : Index) → index_of cat e ≡ Some x → OfIndex cat e x
unfolding index_of
index_parts cat e x h =
    let a = bind_some (entry_at cat e.base) _ x h in
    let is : record { info = info_of e []; base = a.0.key } ≡ x = same_Some _ x a.2 in
    record { base = a.0; base_is = a.1; key = sym (ap (λ (x : Index). x.base) is); info = sym (ap (λ (x : Index). x.info) is) }

-- What is read of the first part of a rule or a permit.
pub record OfPart {X : Type 0} (read : List ℕ → Option X) (number : X → ℕ) (cat : Catalogue) (p : Part) (y : RelKey × X) : Type 0 where
  pub entry : Entry
  pub entry_is : entry_at cat p.file ≡ Some entry
  pub bytes : List ℕ
  pub tree : tree_at cat.parts p.file p.sort p.number ≡ Some bytes
  pub content : read bytes ≡ Some y.1
  pub key : y.0 ≡ entry.key
  pub number_is : number y.1 ≡ p.number

pub part_parts : {X : Type 0} (read : List ℕ → Option X) (number : X → ℕ) (cat : Catalogue) (p : Part) (y : RelKey × X) → numbered_of read number cat p ≡ Some y → OfPart read number cat p y
unfolding numbered_of
part_parts {X} read number cat p y h =
    let a = bind_some (entry_at cat p.file) _ y h in
    let b = bind_some (tree_at cat.parts p.file p.sort p.number) _ y a.2 in
    let c = bind_some (read b.0) _ y b.2 in
    let w = when_some (number c.0 == p.number) (a.0.key, c.0) y c.2 in
    let content : c.0 ≡ y.1 = ap (λ (y : RelKey × X). y.1) w.1 in
    record {
      entry = a.0;
      entry_is = a.1;
      bytes = b.0;
      tree = b.1;
      content = c.1 ∙ ap Some content;
      key = sym (ap (λ (y : RelKey × X). y.0) w.1);
      number_is = ap number (sym content) ∙ same_number (number c.0) p.number w.0;
    }
