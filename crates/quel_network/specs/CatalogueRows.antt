-- The rows of the catalogues suit their attributes, and are few.
use Rattle.std.specs.Prelude.{ℕ, ◌+◌, ◌≤◌, Bool, true, false, ◌&&◌, not, IsTrue, List, [], ◌∷◌, ◌++◌, length, map, flat_map, nat_eq, nat_le, nat_lt, codes, Option, Some, None}
use Rattle.std.specs.List.{list_all, enumerate_from}
use Rattle.std.proofs.Common.{refl, arith}
use Rattle.std.proofs.lemmas.Bool.{and_parts, leb-true}
use Rattle.std.proofs.lemmas.List.{length-map}
use Rattle.std.proofs.lemmas.List.FromFn.{length-enumerate_from}
use Rattle.calculus.specs.declared.query.RelKey.{RelKey}
use Rattle.calculus.specs.declared.schema.Attr.{Attr}
use Rattle.calculus.specs.declared.schema.RelInfo.{RelInfo}
use Rattle.calculus.specs.declared.value.Domain.TheVariants.{C}
use Rattle.calculus.specs.declared.value.Kind.{Kind}
use Rattle.calculus.specs.declared.value.Kind.TheVariants.{Of}
use Rattle.calculus.specs.declared.value.Value.TheVariants.{Text}
use Rattle.calculus.specs.Catalogue.{is_catalogue_name, relation_key, attribute_key, relation_info, attribute_info, relation_attrs, attribute_attrs, all_entries, column_count, relation_row, format_text, attribute_row, attribute_rows, catalogue_at}
use Rattle.calculus.specs.Database.{Db, Relation, Index, entries, is_relation}
use Rattle.calculus.specs.IsDatabase.{IsDatabase, value_fits, key_is_named, attrs_stand, keys_stand, is_kind, valid_index, valid_structure, valid_view_info}
use Rattle.calculus.specs.Keys.{same_key}
use Rattle.calculus.specs.Lists.{is_any, differ_by}
use Rattle.calculus.specs.Name.{is_name}
use Rattle.calculus.specs.Rows.{Row, set_of}
use Rattle.calculus.specs.Structures.{is_index, is_keyed, is_view, is_structure}
use Rattle.quel_meaning.proofs.DatabaseFacts.{stood}
use Rattle.quel_meaning.proofs.Each.{Each, both_of, in_map, in_flat_map, each_to, each_passes}
use Rattle.quel_meaning.proofs.FitMade.{both_hold}
use Rattle.quel_network.specs.NumberRange.{short_number}
use Rattle.quel_network.specs.Parts.{no_items, flat_map_short, in_set, set_short}
use Rattle.quel_network.specs.Suiting.{RowSuits}
use Rattle.quel_network.specs.TextFacts.{name_fits, spec_fits, format_fits}

-- the kinds of attributes
abbrev pub attr_kinds : List Attr → List Kind
attr_kinds attrs = map (λ a. a.kind) attrs

-- the rows suit the kinds of the attributes, and are at most a million
pub record RowsStand (r : Relation) : Type 0 where
  pub suit : Each (RowSuits (attr_kinds r.info.attrs)) r.rows
  pub few : length r.rows ≤ 1000000

-- so it is where there is a relation
abbrev pub RelationStands : Option Relation → Type 0
RelationStands None = Unit {0}
RelationStands (Some r) = RowsStand r

-- ---- entries

-- what is known of an attribute are texts, no longer than they may be
record AttrIsText (a : Attr) : Type 0 where
  name : IsTrue (value_fits (Text a.name) (Of (C 12)))
  format : IsTrue (value_fits (Text (format_text a.kind)) (Of (C 4)))

-- what is known of an entry's key are texts, no longer than they may be
record KeyIsText (i : RelInfo) : Type 0 where
  name : IsTrue (value_fits (Text i.key.name) (Of (C 12)))
  owner : IsTrue (value_fits (Text i.key.owner) (Of (C 12)))

-- what is known of an entry's attributes are texts, and both they and key attributes are few
record AttrsAreTexts (i : RelInfo) : Type 0 where
  attrs : Each AttrIsText i.attrs
  few : length i.attrs ≤ 49
  few_keys : length i.keys ≤ 49

-- both
record AreTexts (i : RelInfo) : Type 0 where
  key : KeyIsText i
  attrs : AttrsAreTexts i

key_is_text : (i : RelInfo) → IsTrue (key_is_named i.key) → KeyIsText i
key_is_text i h =
    let parts = and_parts (is_name i.key.owner) (is_name i.key.name && not (is_catalogue_name i.key.name)) h in
    record { name = name_fits i.key.name (and_parts (is_name i.key.name) (not (is_catalogue_name i.key.name)) parts.1).0; owner = name_fits i.key.owner parts.0 }

attrs_are_texts : (attrs : List Attr) → IsTrue (attrs_stand attrs) → Each AttrIsText attrs
attrs_are_texts attrs h =
    let facts = stood attrs h in
    both_hold (λ a. IsTrue (is_name a.name)) (λ a. IsTrue (is_kind a.kind)) AttrIsText (λ a n k. record { name = name_fits a.name n; format = format_fits a.kind k }) attrs
    (each_passes (λ a. is_name a.name) attrs facts.named) (each_passes (λ a. is_kind a.kind) attrs facts.kinds)

standing_are_texts : (i : RelInfo) → IsTrue (attrs_stand i.attrs) → length i.keys ≤ 49 → AttrsAreTexts i
standing_are_texts i h keys = record { attrs = attrs_are_texts i.attrs h; few = leb-true (length i.attrs) 49 (stood i.attrs h).few; few_keys = keys }

few_keys : (attrs : List Attr) (keys : List ℕ) → IsTrue (keys_stand attrs keys) → length keys ≤ 49
few_keys attrs keys h =
    let behind = and_parts (list_all (λ k. nat_lt k (length attrs)) keys) (differ_by nat_eq keys && nat_le (length keys) 6) h in
    let few = leb-true (length keys) 6 (and_parts (differ_by nat_eq keys) (nat_le (length keys) 6) behind.1).1 in
    omega (arith, few)

no_keys : (keys : List ℕ) → IsTrue (not (is_any keys)) → length keys ≤ 49
no_keys keys h = let none = no_items keys h in omega (arith, none)

structure_keys : (i : RelInfo) → IsTrue (valid_structure i) → length i.keys ≤ 49
structure_keys i h = go (is_keyed i.spec) h
  where
    go : (b : Bool) → IsTrue (elim b as (λ b. Bool) [ true ↦ is_any i.keys && keys_stand i.attrs i.keys | false ↦ is_structure i.spec && not (is_any i.keys) ]) → length i.keys ≤ 49
    go true h = few_keys i.attrs i.keys (and_parts (is_any i.keys) (keys_stand i.attrs i.keys) h).1
    go false h = no_keys i.keys (and_parts (is_structure i.spec) (not (is_any i.keys)) h).1

index_is_text : (db : Db) (x : Index) → IsTrue (valid_index db x) → AttrsAreTexts x.info
index_is_text db x h =
    let w = and_parts (is_index x.info.spec) _ h in
    let v = and_parts (is_relation db x.base) _ w.1 in
    let u = and_parts (not (is_any x.info.attrs)) _ v.1 in
    none x.info.attrs u.0 (few_keys _ x.info.keys (and_parts (is_any x.info.keys) _ u.1).1)
  where
    none : (attrs : List Attr) → IsTrue (not (is_any attrs)) → length x.info.keys ≤ 49 → AttrsAreTexts (record x.info { attrs = attrs })
    none [] h keys = record { attrs = tt; few = omega arith; few_keys = keys }
    none (a ∷ attrs) h keys = absurd (cc h)

entries_are_texts : (db : Db) → IsDatabase db → Each AttrsAreTexts (entries db)
entries_are_texts db is =
    both_of AttrsAreTexts (map (λ r. r.info) db.relations) (map (λ v. v.info) db.views ++ map (λ x. x.info) db.indexes) of_relations
    (both_of AttrsAreTexts (map (λ v. v.info) db.views) (map (λ x. x.info) db.indexes) of_views of_indexes)
  where
    of_relations : Each AttrsAreTexts (map (λ r. r.info) db.relations)
    of_relations = in_map AttrsAreTexts (λ r. r.info) db.relations
        (both_hold (λ r. IsTrue (attrs_stand r.info.attrs)) (λ r. IsTrue (valid_structure r.info)) (λ r. AttrsAreTexts r.info) (λ r h k. standing_are_texts r.info h (structure_keys r.info k)) db.relations
        (each_passes (λ r. attrs_stand r.info.attrs) db.relations is.relation_attrs_stand) (each_passes (λ r. valid_structure r.info) db.relations is.structures_stand))

    of_views : Each AttrsAreTexts (map (λ v. v.info) db.views)
    of_views = in_map AttrsAreTexts (λ v. v.info) db.views
        (both_hold (λ v. IsTrue (attrs_stand v.info.attrs)) (λ v. IsTrue (valid_view_info v.info)) (λ v. AttrsAreTexts v.info)
        (λ v h k. standing_are_texts v.info h (no_keys v.info.keys (and_parts (is_view v.info.spec) (not (is_any v.info.keys)) k).1)) db.views
        (each_passes (λ v. attrs_stand v.info.attrs) db.views is.view_attrs_stand) (each_passes (λ v. valid_view_info v.info) db.views is.view_infos_stand))

    of_indexes : Each AttrsAreTexts (map (λ x. x.info) db.indexes)
    of_indexes = in_map AttrsAreTexts (λ x. x.info) db.indexes
        (each_to (λ x. IsTrue (valid_index db x)) (λ x. AttrsAreTexts x.info) (index_is_text db) db.indexes (each_passes (valid_index db) db.indexes is.indexes_stand))

-- ---- the catalogues themselves

relation_is_text : (db : Db) → IsTrue (is_name db.dba) → AreTexts (relation_info db)
unfolding is_name
relation_is_text db h = record {
  key = record { name = name_fits (codes "relation") refl; owner = name_fits db.dba h };
  attrs = standing_are_texts (relation_info db) refl (omega arith);
}

attribute_is_text : (db : Db) → IsTrue (is_name db.dba) → AreTexts (attribute_info db)
unfolding is_name
attribute_is_text db h = record {
  key = record { name = name_fits (codes "attribute") refl; owner = name_fits db.dba h };
  attrs = standing_are_texts (attribute_info db) refl (omega arith);
}

all_are_texts : (db : Db) → IsDatabase db → Each AreTexts (all_entries db)
all_are_texts db is = (
  relation_is_text db is.dba_is_named,
  (
    attribute_is_text db is.dba_is_named,
    both_hold KeyIsText AttrsAreTexts AreTexts (λ i k a. record { key = k; attrs = a }) (entries db)
        (each_to (λ i. IsTrue (key_is_named i.key)) KeyIsText key_is_text (entries db) (each_passes (λ i. key_is_named i.key) (entries db) is.keys_are_named)) (entries_are_texts db is),
  ),
)

-- ---- rows

-- the kinds of the attributes of `relation`
abbrev relation_kinds : List Kind
relation_kinds = attr_kinds relation_attrs

-- the kinds of the attributes of `attribute`
abbrev attribute_kinds : List Kind
attribute_kinds = attr_kinds attribute_attrs

columns_few : (i : RelInfo) → AreTexts i → column_count i ≤ 49
columns_few i t = go (is_index i.spec)
  where
    go : (b : Bool) → elim b as (λ b. ℕ) [ true ↦ length i.keys | false ↦ length i.attrs ] ≤ 49
    go true = t.attrs.few_keys
    go false = t.attrs.few

relation_row_suits : (i : RelInfo) → AreTexts i → RowSuits relation_kinds (relation_row i)
relation_row_suits i t =
    let few = columns_few i t in
    (t.key.name, (t.key.owner, (spec_fits i.spec, (short_number (column_count i) (omega (arith, few)), tt))))

attribute_row_suits : (i : RelInfo) (n : ℕ) (a : Attr) → KeyIsText i → AttrIsText a → n ≤ 1000 → RowSuits attribute_kinds (attribute_row i.key n a)
attribute_row_suits i n a k t few = (k.name, (k.owner, (short_number n (omega (arith, few)), (t.name, (t.format, tt)))))

numbered_suit : (i : RelInfo) (n : ℕ) (attrs : List Attr) → KeyIsText i → Each AttrIsText attrs → n + length attrs ≤ 1000
    → Each (RowSuits attribute_kinds) (map (λ p. attribute_row i.key p.0 p.1) (enumerate_from n attrs))
numbered_suit i n [] k h few = tt
numbered_suit i n (a ∷ attrs) k h few = (attribute_row_suits i n a k h.0 (omega (arith, few)), numbered_suit i (n + 1) attrs k h.1 (omega (arith, few)))

-- the rows of `attribute` for an entry
record EntryRows (rows : List Row) : Type 0 where
  suit : Each (RowSuits attribute_kinds) rows
  few : length rows ≤ 49

attribute_rows_stand : (i : RelInfo) → AreTexts i → EntryRows (attribute_rows i)
attribute_rows_stand i t = go (is_index i.spec)
  where
    rows : List Row
    rows = map (λ p. attribute_row i.key p.0 p.1) (enumerate_from 1 i.attrs)

    few_numbers : 1 + length i.attrs ≤ 1000
    few_numbers = let few = t.attrs.few in omega (arith, few)

    few_rows : length rows ≤ 49
    few_rows =
        let mapped = length-map (enumerate_from 1 i.attrs) (λ p. attribute_row i.key p.0 p.1) in
        let numbered = length-enumerate_from 1 i.attrs in
        let few = t.attrs.few in
        omega (arith, mapped, numbered, few)

    go : (b : Bool) → EntryRows (elim b as (λ b. List Row) [ true ↦ [] | false ↦ rows ])
    go true = record { suit = tt; few = omega arith }
    go false = record { suit = numbered_suit i 1 i.attrs t.key t.attrs.attrs few_numbers; few = few_rows }

few_entries : (db : Db) → IsDatabase db → length (all_entries db) ≤ 10002
few_entries db is = let few = leb-true (length (entries db)) 10000 is.few_entries in omega (arith, few)

-- the rows of a catalogue
pub catalogue_stands : (db : Db) (key : RelKey) → IsDatabase db → RelationStands (catalogue_at db key)
unfolding catalogue_at
catalogue_stands db key is = go (same_key key (relation_key db)) (same_key key (attribute_key db))
  where
    of_relation : RowsStand (record { info = relation_info db; rows = set_of (map relation_row (all_entries db)) })
    of_relation = record {
      suit = in_set (RowSuits relation_kinds) (map relation_row (all_entries db))
          (in_map (RowSuits relation_kinds) relation_row (all_entries db) (each_to AreTexts (λ i. RowSuits relation_kinds (relation_row i)) relation_row_suits (all_entries db) (all_are_texts db is)));
      few =
          let shorter = set_short (map relation_row (all_entries db)) in
          let mapped = length-map (all_entries db) relation_row in
          let few = few_entries db is in
          omega (arith, shorter, mapped, few);
    }

    of_entries : Each (λ i. EntryRows (attribute_rows i)) (all_entries db)
    of_entries = each_to AreTexts (λ i. EntryRows (attribute_rows i)) attribute_rows_stand (all_entries db) (all_are_texts db is)

    of_attribute : RowsStand (record { info = attribute_info db; rows = set_of (flat_map attribute_rows (all_entries db)) })
    of_attribute = record {
      suit = in_set (RowSuits attribute_kinds) (flat_map attribute_rows (all_entries db))
          (in_flat_map (RowSuits attribute_kinds) attribute_rows (all_entries db)
          (each_to (λ i. EntryRows (attribute_rows i)) (λ i. Each (RowSuits attribute_kinds) (attribute_rows i)) (λ i h. h.suit) (all_entries db) of_entries));
      few =
          let shorter = set_short (flat_map attribute_rows (all_entries db)) in
          let each = flat_map_short attribute_rows (all_entries db) (each_to (λ i. EntryRows (attribute_rows i)) (λ i. length (attribute_rows i) ≤ 49) (λ i h. h.few) (all_entries db) of_entries) in
          let few = few_entries db is in
          omega (arith, shorter, each, few);
    }

    go : (a b : Bool) → RelationStands (elim a as (λ a. Option Relation) [
      | true ↦ Some (record { info = relation_info db; rows = set_of (map relation_row (all_entries db)) })
      | false ↦ elim b as (λ b. Option Relation) [ true ↦ Some (record { info = attribute_info db; rows = set_of (flat_map attribute_rows (all_entries db)) }) | false ↦ None ]
    ])
    go true b = of_relation
    go false true = of_attribute
    go false false = tt
