-- The rows of the catalogues hold numbers and texts in the language's sense.
use Rattle.std.proofs.Common.{◌≡◌, refl, sym, subst, ℕ, ◌+◌, Bool, true, false, ◌&&◌, not, IsTrue, List, [], ◌∷◌, ◌++◌, Option, Some, None, map}
use Rattle.std.specs.Prelude.{codes, flat_map}
use Rattle.std.specs.List.{enumerate_from}
use Rattle.std.specs.declared.cmp.Ordering.{Ordering}
use Rattle.std.specs.declared.cmp.Ordering.TheVariants.{Less, Equal, Greater}
use Rattle.calculus.specs.declared.query.RelKey.{RelKey}
use Rattle.calculus.specs.declared.schema.Attr.{Attr}
use Rattle.calculus.specs.declared.schema.RelInfo.{RelInfo}
use Rattle.calculus.specs.Lists.{is_any}
use Rattle.calculus.specs.Name.{is_name}
use Rattle.calculus.specs.Text.{is_text}
use Rattle.calculus.specs.Keys.{same_key}
use Rattle.calculus.specs.Rows.{Row, put, set_of}
use Rattle.calculus.specs.Value.{row_cmp}
use Rattle.calculus.specs.Database.{Db, Relation, Index, entries, is_relation}
use Rattle.calculus.specs.Catalogue.{is_catalogue_name, relation_key, attribute_key, relation_info, attribute_info, relation_attrs, attribute_attrs, all_entries, relation_row, format_text, attribute_row, attribute_rows, catalogue_at}
use Rattle.calculus.specs.Structures.{is_index, spec_text}
use Rattle.calculus.specs.IsDatabase.{IsDatabase, key_is_named, attrs_stand, is_kind, valid_index}
use Rattle.quel_meaning.proofs.DatabaseFacts.{stood}
use Rattle.quel_meaning.proofs.Each.{Each, both_of, in_map, in_flat_map, each_to, each_passes}
use Rattle.update_laws.specs.Proper.{row_is_proper}
use Rattle.update_laws.proofs.Lists.{two_each}
use Rattle.update_laws.proofs.Texts.{both, each, name_is_text}
use Rattle.update_laws.proofs.Formats.{spec_is_text, format_is_text}

abbrev pub Proper : Row → Type 0
Proper row = IsTrue (row_is_proper row)

-- ---- sets

abbrev put_as : Ordering → Row → Row → List Row → List Row → List Row
put_as Less row first rest more = row ∷ first ∷ rest
put_as Equal row first rest more = first ∷ rest
put_as Greater row first rest more = first ∷ more

put_is : (row first : Row) (rest : List Row) (o : Ordering) → row_cmp row first ≡ o → put row (first ∷ rest) ≡ put_as o row first rest (put row rest)
put_is row first rest Less e = rw (e, put) refl
put_is row first rest Equal e = rw (e, put) refl
put_is row first rest Greater e = rw (e, put) refl

pub put_each : (P : Row → Type 0) (row : Row) (rows : List Row) → P row → Each P rows → Each P (put row rows)
put_each P row [] p h = (p, tt)
put_each P row (first ∷ rest) p h = subst (Each P) (sym (put_is row first rest (row_cmp row first) refl)) (go (row_cmp row first) (put_each P row rest p h.1))
  where
    go : (o : Ordering) → Each P (put row rest) → Each P (put_as o row first rest (put row rest))
    go Less later = (p, h)
    go Equal later = h
    go Greater later = (h.0, later)

pub set_each : (P : Row → Type 0) (rows : List Row) → Each P rows → Each P (set_of rows)
set_each P [] h = tt
set_each P (row ∷ rows) h = put_each P row (set_of rows) h.0 (set_each P rows h.1)

-- ---- entries

-- the owner and the name are texts, and so are the attributes' names and formats
abbrev attr_is_text : Attr → Bool
attr_is_text a = is_text a.name && is_text (format_text a.kind)

abbrev KeyIsText : RelInfo → Type 0
KeyIsText i = IsTrue (is_text i.key.name) × IsTrue (is_text i.key.owner)

abbrev AttrsAreTexts : RelInfo → Type 0
AttrsAreTexts i = Each (λ a. IsTrue (attr_is_text a)) i.attrs

abbrev AreTexts : RelInfo → Type 0
AreTexts i = KeyIsText i × AttrsAreTexts i

key_is_text : (i : RelInfo) → IsTrue (key_is_named i.key) → KeyIsText i
key_is_text i h =
    let parts = both (is_name i.key.owner) (is_name i.key.name && not (is_catalogue_name i.key.name)) h in
    (name_is_text i.key.name (both (is_name i.key.name) (not (is_catalogue_name i.key.name)) parts.1).0, name_is_text i.key.owner parts.0)

each_is_text : (attrs : List Attr) → Each (λ a. IsTrue (is_name a.name)) attrs → Each (λ a. IsTrue (is_kind a.kind)) attrs → Each (λ a. IsTrue (attr_is_text a)) attrs
each_is_text [] n k = tt
each_is_text (a ∷ attrs) n k = (each (is_text a.name) (is_text (format_text a.kind)) (name_is_text a.name n.0) (format_is_text a.kind k.0), each_is_text attrs n.1 k.1)

standing_are_texts : (attrs : List Attr) → IsTrue (attrs_stand attrs) → Each (λ a. IsTrue (attr_is_text a)) attrs
standing_are_texts attrs h =
    let facts = stood attrs h in
    each_is_text attrs (each_passes (λ a. is_name a.name) attrs facts.named) (each_passes (λ a. is_kind a.kind) attrs facts.kinds)

index_is_text : (db : Db) (x : Index) → IsTrue (valid_index db x) → AttrsAreTexts x.info
index_is_text db x h = none x.info.attrs (both (not (is_any x.info.attrs)) _ (both (is_relation db x.base) _ (both (is_index x.info.spec) _ h).1).1).0
  where
    none : (attrs : List Attr) → IsTrue (not (is_any attrs)) → Each (λ a. IsTrue (attr_is_text a)) attrs
    none [] h = tt
    none (a ∷ attrs) h = cc h

catalogue_attrs : Each (λ a. IsTrue (attr_is_text a)) relation_attrs × Each (λ a. IsTrue (attr_is_text a)) attribute_attrs
unfolding is_name
catalogue_attrs = (standing_are_texts relation_attrs refl, standing_are_texts attribute_attrs refl)

catalogue_keys : (db : Db) → IsTrue (is_name db.dba) → KeyIsText (relation_info db) × KeyIsText (attribute_info db)
unfolding is_name
catalogue_keys db h = ((name_is_text (codes "relation") refl, name_is_text db.dba h), (name_is_text (codes "attribute") refl, name_is_text db.dba h))

entries_are_texts : (db : Db) → IsDatabase db → Each AreTexts (all_entries db)
entries_are_texts db is =
    let keys = catalogue_keys db is.dba_is_named in
    ((keys.0, catalogue_attrs.0), ((keys.1, catalogue_attrs.1), two_each KeyIsText AttrsAreTexts (entries db) named attributed))
  where
    named : Each KeyIsText (entries db)
    named = each_to (λ i. IsTrue (key_is_named i.key)) KeyIsText key_is_text (entries db) (each_passes (λ i. key_is_named i.key) (entries db) is.keys_are_named)

    of_relations : Each AttrsAreTexts (map (λ r. r.info) db.relations)
    of_relations = in_map AttrsAreTexts (λ r. r.info) db.relations
        (each_to (λ r. IsTrue (attrs_stand r.info.attrs)) (λ r. AttrsAreTexts r.info) (λ r h. standing_are_texts r.info.attrs h) db.relations (each_passes (λ r. attrs_stand r.info.attrs) db.relations is.relation_attrs_stand))

    of_views : Each AttrsAreTexts (map (λ v. v.info) db.views)
    of_views = in_map AttrsAreTexts (λ v. v.info) db.views
        (each_to (λ v. IsTrue (attrs_stand v.info.attrs)) (λ v. AttrsAreTexts v.info) (λ v h. standing_are_texts v.info.attrs h) db.views (each_passes (λ v. attrs_stand v.info.attrs) db.views is.view_attrs_stand))

    of_indexes : Each AttrsAreTexts (map (λ x. x.info) db.indexes)
    of_indexes = in_map AttrsAreTexts (λ x. x.info) db.indexes
        (each_to (λ x. IsTrue (valid_index db x)) (λ x. AttrsAreTexts x.info) (index_is_text db) db.indexes (each_passes (valid_index db) db.indexes is.indexes_stand))

    attributed : Each AttrsAreTexts (entries db)
    attributed = both_of AttrsAreTexts (map (λ r. r.info) db.relations) (map (λ v. v.info) db.views ++ map (λ x. x.info) db.indexes) of_relations
        (both_of AttrsAreTexts (map (λ v. v.info) db.views) (map (λ x. x.info) db.indexes) of_views of_indexes)

-- ---- rows

relation_row_proper : (i : RelInfo) → AreTexts i → Proper (relation_row i)
relation_row_proper i t =
    each (is_text i.key.name) (is_text i.key.owner && (is_text (spec_text i.spec) && true)) t.0.0
    (each (is_text i.key.owner) (is_text (spec_text i.spec) && true) t.0.1 (each (is_text (spec_text i.spec)) true (spec_is_text i.spec) refl))

attribute_row_proper : (i : RelInfo) (n : ℕ) (a : Attr) → KeyIsText i → IsTrue (attr_is_text a) → Proper (attribute_row i.key n a)
attribute_row_proper i n a k h =
    each (is_text i.key.name) (is_text i.key.owner && (is_text a.name && (is_text (format_text a.kind) && true))) k.0
    (each (is_text i.key.owner) (is_text a.name && (is_text (format_text a.kind) && true)) k.1 (again (is_text a.name) (is_text (format_text a.kind)) h))
  where
    again : (a b : Bool) → IsTrue (a && b) → IsTrue (a && (b && true))
    again true true h = refl
    again true false h = h
    again false b h = h

numbered_proper : (i : RelInfo) (n : ℕ) (attrs : List Attr) → KeyIsText i → Each (λ a. IsTrue (attr_is_text a)) attrs
    → Each Proper (map (λ p. attribute_row i.key p.0 p.1) (enumerate_from n attrs))
numbered_proper i n [] k h = tt
numbered_proper i n (a ∷ attrs) k h = (attribute_row_proper i n a k h.0, numbered_proper i (n + 1) attrs k h.1)

attribute_rows_proper : (i : RelInfo) → AreTexts i → Each Proper (attribute_rows i)
attribute_rows_proper i t = go (is_index i.spec)
  where
    rows : List Row
    rows = map (λ p. attribute_row i.key p.0 p.1) (enumerate_from 1 i.attrs)

    go : (b : Bool) → Each Proper (elim b as (λ b. List Row) [ true ↦ [] | false ↦ rows ])
    go true = tt
    go false = numbered_proper i 1 i.attrs t.0 t.1

-- the rows of a relation that may be there
abbrev pub RowsProper : Option Relation → Type 0
RowsProper None = Unit {0}
RowsProper (Some r) = Each Proper r.rows

pub catalogue_proper : (db : Db) (key : RelKey) → IsDatabase db → RowsProper (catalogue_at db key)
unfolding catalogue_at
catalogue_proper db key is = go (same_key key (relation_key db)) (same_key key (attribute_key db))
  where
    of_relation : Each Proper (set_of (map relation_row (all_entries db)))
    of_relation = set_each Proper (map relation_row (all_entries db))
        (in_map Proper relation_row (all_entries db) (each_to AreTexts (λ i. Proper (relation_row i)) relation_row_proper (all_entries db) (entries_are_texts db is)))

    of_attribute : Each Proper (set_of (flat_map attribute_rows (all_entries db)))
    of_attribute = set_each Proper (flat_map attribute_rows (all_entries db))
        (in_flat_map Proper attribute_rows (all_entries db) (each_to AreTexts (λ i. Each Proper (attribute_rows i)) attribute_rows_proper (all_entries db) (entries_are_texts db is)))

    go : (a b : Bool)
        → RowsProper (elim a as (λ a. Option Relation) [
          | true ↦ Some (record { info = relation_info db; rows = set_of (map relation_row (all_entries db)) })
          | false ↦
              elim b as (λ b. Option Relation) [ true ↦ Some (record { info = attribute_info db; rows = set_of (flat_map attribute_rows (all_entries db)) }) | false ↦ None ]
        ])
    go true b = of_relation
    go false true = of_attribute
    go false false = tt
