-- What is printed is a catalogue.
use Rattle.std.proofs.Common.{◌≡◌, refl, sym, ap, subst, ◌∙◌, inl, inr, ℕ, suc, ◌+◌, ◌<◌, ◌&&◌, not, nat_le, nat_lt, true, false, List, [], ◌∷◌, map, length, Option, Some, None, is_some, option_map, arith}
use Rattle.std.specs.Prelude.{◌⊎◌}
use Rattle.std.proofs.lemmas.Bool.Decides.{nat_tests}
use Rattle.std.specs.List.{list_all, flat_map}
use Rattle.calculus.specs.declared.query.RelKey.{RelKey}
use Rattle.calculus.specs.declared.schema.Attr.{Attr}
use Rattle.calculus.specs.declared.schema.Permit.{Permit}
use Rattle.calculus.specs.declared.schema.RelInfo.{RelInfo}
use Rattle.calculus.specs.declared.schema.Rule.{Rule}
use Rattle.calculus.specs.declared.schema.Spec.{Spec}
use Rattle.calculus.specs.declared.schema.Spec.TheVariants.{Heap, Hash, Isam, View, Index}
use Rattle.calculus.specs.Catalogue.{catalogue_at}
use Rattle.calculus.specs.Database as database
use Rattle.calculus.specs.IsDatabase.{IsDatabase, key_is_named, attrs_stand, keys_stand, valid_structure, valid_view_info, valid_index, is_kind, valid_row_qual, valid_permit}
use Rattle.calculus.specs.Keys.{same_key}
use Rattle.calculus.specs.Limits.{greatest_number, most_attributes, most_keys}
use Rattle.calculus.specs.Lists.{is_any, differ_by}
use Rattle.calculus.specs.Name.{is_name}
use Rattle.calculus.specs.Stored.{attrs_at, attrs_in, range_at, info_at, range_info, Kept, Viewed}
use Rattle.calculus.specs.Structures.{is_structure, is_view, is_index, is_keyed}
use Rattle.page_chain.specs.Lists.{in_order}
use Rattle.page_chain.specs.Pages.{Pages}
use Rattle.quel_tree.specs.Permits as spellings
use Rattle.quel_tree.specs.Queries as queries
use Rattle.stored_database.specs.Catalogue.{IsCatalogue}
use Rattle.stored_database.specs.Columns.{Column, column_cmp, is_column}
use Rattle.stored_database.specs.Entries.{Entry, entry_cmp, is_entry, are_keys, suits_spec}
use Rattle.stored_database.specs.Laws.{WhatIsPrintedIsACatalogue}
use Rattle.stored_database.specs.Names.{is_number32}
use Rattle.stored_database.specs.Parts.{Part, part_cmp, is_part, of_view, of_rule, of_permit}
use Rattle.stored_database.specs.Printed.{Files, HasFiles, MayHave, is_file, relation_entry, view_entry, index_entry, entries_for, columns_from, columns_for, view_parts, numbered_parts, parts_for, printed, trees_are_short}
use Rattle.stored_database.specs.Trees.{parts_from, cut, tree_bytes}
use Rattle.stored_database.proofs.EntriesAgain.{suits}
use Rattle.stored_database.proofs.Members.{IsIn, all_of, of_tests, tests_of, in_map, map_in, in_first, in_second, in_either, flat_map_in, found_in}
use Rattle.stored_database.proofs.Orders.{entry_total, column_total, part_total, same_key_is}
use Rattle.stored_database.proofs.Reading.{both, together}
use Rattle.stored_database.proofs.Sets.{sorted_in_order, in_order_in}

-- ---- keys

no_keys : (keys : List ℕ) → not (is_any keys) ≡ true → are_keys keys ≡ true
no_keys [] h = refl
no_keys (k ∷ keys) h = cc

small : (k n : ℕ) → nat_lt k n ≡ true → nat_le n most_attributes ≡ true → nat_lt k 256 ≡ true
small k n h le = grind (arith, nat_tests)

-- places of attributes, of which there are few, are bytes
few_keys : (attrs : List Attr) (keys : List ℕ) → nat_le (length attrs) most_attributes ≡ true → keys_stand attrs keys ≡ true → are_keys keys ≡ true
few_keys attrs keys few h =
    let a = both (list_all (λ k. nat_lt k (length attrs)) keys) _ h in
    let b = both (differ_by _ keys) (nat_le (length keys) most_keys) a.1 in
    together (nat_le (length keys) most_keys) (list_all (λ k. nat_lt k 256) keys) b.1
    (tests_of (λ k. nat_lt k 256) keys (λ k at. small k (length attrs) (of_tests (λ k. nat_lt k (length attrs)) keys k a.0 at) few))

few_attrs : (attrs : List Attr) → attrs_stand attrs ≡ true → nat_le (length attrs) most_attributes ≡ true
few_attrs attrs h = (both (nat_le (length attrs) most_attributes) _ (both (is_any attrs) _ h).1).0

-- the structure of a relation and its keys
relation_keys : (s : Spec) (attrs : List Attr) (keys : List ℕ) → nat_le (length attrs) most_attributes ≡ true
    → elim (is_keyed s) [ true ↦ is_any keys && keys_stand attrs keys | false ↦ is_structure s && not (is_any keys) ] ≡ true → (is_structure s ≡ true) × (are_keys keys ≡ true)
relation_keys Heap attrs keys few h = (refl, no_keys keys h)
relation_keys Hash attrs keys few h = (refl, few_keys attrs keys few (both (is_any keys) (keys_stand attrs keys) h).1)
relation_keys Isam attrs keys few h = (refl, few_keys attrs keys few (both (is_any keys) (keys_stand attrs keys) h).1)
relation_keys View attrs keys few h = cc
relation_keys Index attrs keys few h = cc

-- ---- what entries have by what they are

relation_suits : (s : Spec) (e : Entry) → is_structure s ≡ true → e.base ≡ 0 → e.primary ≡ 1 → e.directory ≡ 0 → nat_le 1 e.used ≡ true → suits s e ≡ true
unfolding suits
relation_suits Heap e is b p d u = grind (arith, nat_tests)
relation_suits Hash e is b p d u = grind (arith, nat_tests)
relation_suits Isam e is b p d u = grind (arith, nat_tests)
relation_suits View e is b p d u = cc is
relation_suits Index e is b p d u = cc is

view_suits : (s : Spec) (e : Entry) → is_view s ≡ true → e.base ≡ 0 → e.primary ≡ 0 → e.directory ≡ 0 → e.used ≡ 0 → not (is_any e.keys) ≡ true → suits s e ≡ true
unfolding suits
view_suits Heap e is b p d u k = cc is
view_suits Hash e is b p d u k = cc is
view_suits Isam e is b p d u k = cc is
view_suits Index e is b p d u k = cc is
view_suits View e is b p d u k = grind (arith, nat_tests)

index_suits : (s : Spec) (e : Entry) → is_index s ≡ true → e.primary ≡ 0 → e.directory ≡ 0 → e.used ≡ 0 → suits s e ≡ true
unfolding suits
index_suits Heap e is p d u = cc is
index_suits Hash e is p d u = cc is
index_suits Isam e is p d u = cc is
index_suits View e is p d u = cc is
index_suits Index e is p d u = grind (arith, nat_tests)

is_suited : (e : Entry) → suits e.spec e ≡ true → suits_spec e ≡ true
unfolding suits suits_spec
is_suited e h = h

-- an entry stands where its parts do
entry_of_parts : (e : Entry) → is_file e.file ≡ true → key_is_named e.key ≡ true → is_number32 e.base ≡ true → is_number32 e.primary ≡ true → is_number32 e.directory ≡ true → is_number32 e.used ≡ true
    → are_keys e.keys ≡ true → suits e.spec e ≡ true → is_entry e ≡ true
unfolding is_entry
entry_of_parts e file named base primary directory used keys s =
    let f = both (nat_le 16 e.file) (is_number32 e.file) file in
    let o = both (is_name e.key.owner) _ named in
    let n = both (is_name e.key.name) _ o.1 in
    together (nat_le 16 e.file) _ f.0 (together (is_number32 e.file) _ f.1 (together (is_name e.key.owner) _ o.0 (together (is_name e.key.name) _ n.0
    (together (is_number32 e.base) _ base (together (is_number32 e.primary) _ primary (together (is_number32 e.directory) _ directory (together (is_number32 e.used) _ used
    (together (are_keys e.keys) (suits_spec e) keys (is_suited e s)))))))))

-- ---- attributes

-- A column among those of attributes.
record Among (file place : ℕ) (attrs : List Attr) (c : Column) : Type 0 where
  of_file : c.file ≡ file
  below : c.place < place + length attrs
  attr : IsIn c.attr attrs

column_in : (file place : ℕ) (attrs : List Attr) (c : Column) → IsIn c (columns_from file place attrs) → Among file place attrs c
unfolding columns_from
column_in file place [] c at = absurd at
column_in file place (a ∷ attrs) c (inl e) = record { of_file = ap (λ (c : Column). c.file) e; below = omega (arith, ap (λ (c : Column). c.place) e); attr = inl (ap (λ (c : Column). c.attr) e) }
column_in file place (a ∷ attrs) c (inr at) = let r = column_in file (suc place) attrs c at in record { of_file = r.of_file; below = omega (arith, r.below); attr = inr r.attr }

place_small : (n m : ℕ) → n < m → nat_le m most_attributes ≡ true → nat_lt n 256 ≡ true
place_small n m h le = grind (arith, nat_tests)

column_stands : (file : ℕ) (attrs : List Attr) (c : Column) → is_number32 file ≡ true → attrs_stand attrs ≡ true → IsIn c (columns_from file 0 attrs) → is_column c ≡ true
unfolding is_column
column_stands file attrs c number h at =
    let r = column_in file 0 attrs c at in
    let a = both (is_any attrs) _ h in
    let b = both (nat_le (length attrs) most_attributes) _ a.1 in
    let n = both (list_all (λ a. is_name a.name) attrs) _ b.1 in
    let d = both (differ_by _ (map (λ a. a.name) attrs)) _ n.1 in
    let k = both (list_all (λ a. is_kind a.kind) attrs) _ d.1 in
    together (is_number32 c.file) _ (ap is_number32 r.of_file ∙ number) (together (nat_lt c.place 256) _ (place_small c.place (length attrs) (omega (arith, r.below)) b.0)
    (together (is_name c.attr.name) (is_kind c.attr.kind) (of_tests (λ a. is_name a.name) attrs c.attr n.0 r.attr) (of_tests (λ a. is_kind a.kind) attrs c.attr k.0 r.attr)))

-- ---- parts

-- What a part of a tree has.
record OfTree (file sort number : ℕ) (p : Part) : Type 0 where
  of_file : p.file ≡ file
  of_sort : p.sort ≡ sort
  of_number : p.number ≡ number

part_in : (file sort number place : ℕ) (ps : List (List ℕ)) (p : Part) → IsIn p (parts_from file sort number place ps) → OfTree file sort number p
unfolding parts_from
part_in file sort number place [] p at = absurd at
part_in file sort number place (b ∷ ps) p (inl e) = record { of_file = ap (λ (p : Part). p.file) e; of_sort = ap (λ (p : Part). p.sort) e; of_number = ap (λ (p : Part). p.number) e }
part_in file sort number place (b ∷ ps) p (inr at) = part_in file sort number (suc place) ps p at

part_stands : (file sort number : ℕ) (p : Part) → OfTree file sort number p → is_number32 file ≡ true → nat_le sort of_permit ≡ true → is_number32 number ≡ true → nat_lt p.place 65536 ≡ true → is_part p ≡ true
unfolding is_part
part_stands file sort number p r f s n place =
    together (is_number32 p.file) _ (ap is_number32 r.of_file ∙ f) (together (nat_le p.sort of_permit) _ (ap (λ s. nat_le s of_permit) r.of_sort ∙ s) (together (is_number32 p.number) _ (ap is_number32 r.of_number ∙ n) place))

at_most_greatest : (n : ℕ) → nat_le n greatest_number ≡ true → is_number32 n ≡ true
at_most_greatest n h = grind (arith, nat_tests)

-- ---- a database

-- what is known of a relation that is there
there : (db : database.Db) (key : RelKey) → database.is_relation db key ≡ true → (r : database.Relation) × IsIn r db.relations × (r.info.key ≡ key) × (database.relation_at db key ≡ Some r)
there db key h = go (database.relation_at db key) refl h
  where
    go : (o : Option database.Relation) → database.relation_at db key ≡ o → is_some o ≡ true → (r : database.Relation) × IsIn r db.relations × (r.info.key ≡ key) × (database.relation_at db key ≡ Some r)
    go None e h = cc
    go (Some r) e h = let f = found_in (λ r. same_key r.info.key key) db.relations r e in (r, f.0, same_key_is r.info.key key f.1, e)

attrs_there : (db : database.Db) (key : RelKey) (r : database.Relation) → database.relation_at db key ≡ Some r → attrs_at db key ≡ r.info.attrs
unfolding range_at info_at
attrs_there db key r h = ap (λ (o : Option database.Relation). attrs_in (option_map range_info (elim o [
  | Some relation ↦ Some (Kept relation)
  | None ↦ elim (database.view_at db key) [ Some view ↦ Some (Viewed view) | None ↦ option_map Kept (catalogue_at db key) ]
]))) h

-- a database that has files may have them
pub may_have : (db : database.Db) (files : ℕ → Pages) (f : Files) → HasFiles db files f → MayHave db f
may_have db files f has = record { are_files = has.are_files; files_differ = has.files_differ; some_pages = has.some_pages }

module _ (f : Files) (db : database.Db) (is_one : IsDatabase db) (may : MayHave db f) where
  in_relations : (r : database.Relation) → IsIn r db.relations → IsIn r.info (database.entries db)
  in_relations r at = in_first (map (λ r. r.info) db.relations) _ r.info (in_map (λ r. r.info) db.relations r at)

  in_views : (v : database.View) → IsIn v db.views → IsIn v.info (database.entries db)
  in_views v at = in_second (map (λ r. r.info) db.relations) _ v.info (in_first (map (λ v. v.info) db.views) _ v.info (in_map (λ v. v.info) db.views v at))

  in_indexes : (x : database.Index) → IsIn x db.indexes → IsIn x.info (database.entries db)
  in_indexes x at = in_second (map (λ r. r.info) db.relations) _ x.info (in_second (map (λ v. v.info) db.views) _ x.info (in_map (λ x. x.info) db.indexes x at))

  file_of : (i : RelInfo) → IsIn i (database.entries db) → is_file (f.file i.key) ≡ true
  file_of i at = of_tests (λ i. is_file (f.file i.key)) (database.entries db) i may.are_files at

  named : (i : RelInfo) → IsIn i (database.entries db) → key_is_named i.key ≡ true
  named i at = of_tests (λ i. key_is_named i.key) (database.entries db) i is_one.keys_are_named at

  number_of : (i : RelInfo) → IsIn i (database.entries db) → is_number32 (f.file i.key) ≡ true
  number_of i at = (both (nat_le 16 (f.file i.key)) (is_number32 (f.file i.key)) (file_of i at)).1

  number_under : (key : RelKey) → database.is_relation db key ≡ true → is_number32 (f.file key) ≡ true
  number_under key h = let r = there db key h in ap (λ k. is_number32 (f.file k)) (sym r.2) ∙ number_of r.0.info (in_relations r.0 r.1)

  relation_attrs : (r : database.Relation) → IsIn r db.relations → attrs_stand r.info.attrs ≡ true
  relation_attrs r at = of_tests (λ r. attrs_stand r.info.attrs) db.relations r is_one.relation_attrs_stand at

  relation_stands : (r : database.Relation) → IsIn r db.relations → is_entry (relation_entry f r) ≡ true
  relation_stands r at =
      let k = relation_keys r.info.spec r.info.attrs r.info.keys (few_attrs r.info.attrs (relation_attrs r at)) (of_tests (λ r. valid_structure r.info) db.relations r is_one.structures_stand at) in
      let u = both (nat_le 1 (f.used r.info.key)) (is_number32 (f.used r.info.key)) (of_tests (λ r. nat_le 1 (f.used r.info.key) && is_number32 (f.used r.info.key)) db.relations r may.some_pages at) in
      entry_of_parts (relation_entry f r) (file_of r.info (in_relations r at)) (named r.info (in_relations r at)) refl refl refl u.1 k.1 (relation_suits r.info.spec (relation_entry f r) k.0 refl refl refl u.0)

  view_stands : (v : database.View) → IsIn v db.views → is_entry (view_entry f v) ≡ true
  view_stands v at =
      let k = both (is_view v.info.spec) (not (is_any v.info.keys)) (of_tests (λ v. valid_view_info v.info) db.views v is_one.view_infos_stand at) in
      entry_of_parts (view_entry f v) (file_of v.info (in_views v at)) (named v.info (in_views v at)) refl refl refl refl (no_keys v.info.keys k.1) (view_suits v.info.spec (view_entry f v) k.0 refl refl refl refl k.1)

  index_parts : (x : database.Index) → IsIn x db.indexes → (is_index x.info.spec ≡ true) × (database.is_relation db x.base ≡ true) × (not (is_any x.info.attrs) ≡ true) × (keys_stand (attrs_at db x.base) x.info.keys ≡ true)
  index_parts x at =
      let a = both (is_index x.info.spec) _ (of_tests (valid_index db) db.indexes x is_one.indexes_stand at) in
      let b = both (database.is_relation db x.base) _ a.1 in
      let c = both (not (is_any x.info.attrs)) _ b.1 in
      let d = both (is_any x.info.keys) _ c.1 in
      (a.0, b.0, c.0, d.1)

  index_entry_stands : (x : database.Index) → IsIn x db.indexes → is_entry (index_entry f x) ≡ true
  index_entry_stands x at =
      let p = index_parts x at in
      let r = there db x.base p.1 in
      let few = ap (λ (l : List Attr). nat_le (length l) most_attributes) (attrs_there db x.base r.0 r.3) ∙ few_attrs r.0.info.attrs (relation_attrs r.0 r.1) in
      entry_of_parts (index_entry f x) (file_of x.info (in_indexes x at)) (named x.info (in_indexes x at)) (number_under x.base p.1) refl refl refl (few_keys (attrs_at db x.base) x.info.keys few p.3)
      (index_suits x.info.spec (index_entry f x) p.0 refl refl refl)

  entries_stand : (e : Entry) → IsIn e (entries_for f db) → is_entry e ≡ true
  unfolding entries_for
  entries_stand e at = elim (in_either (map (relation_entry f) db.relations) _ e at) [
    | inl a ↦ (let m = map_in (relation_entry f) db.relations e a in ap is_entry m.2 ∙ relation_stands m.0 m.1)
    | inr b ↦ elim (in_either (map (view_entry f) db.views) _ e b) [
      | inl a ↦ (let m = map_in (view_entry f) db.views e a in ap is_entry m.2 ∙ view_stands m.0 m.1)
      | inr c ↦ (let m = map_in (index_entry f) db.indexes e c in ap is_entry m.2 ∙ index_entry_stands m.0 m.1)
    ]
  ]

  no_attrs : (attrs : List Attr) → not (is_any attrs) ≡ true → attrs ≡ []
  no_attrs [] h = refl
  no_attrs (a ∷ attrs) h = cc

  -- attributes stand, or there are none
  info_attrs : (i : RelInfo) → IsIn i (database.entries db) → (attrs_stand i.attrs ≡ true) ⊎ (i.attrs ≡ [])
  info_attrs i at = elim (in_either (map (λ r. r.info) db.relations) _ i at) [
    | inl a ↦ (let m = map_in (λ r. r.info) db.relations i a in inl (ap (λ (i : RelInfo). attrs_stand i.attrs) m.2 ∙ relation_attrs m.0 m.1))
    | inr b ↦ elim (in_either (map (λ v. v.info) db.views) _ i b) [
      | inl a ↦ (let m = map_in (λ v. v.info) db.views i a in inl (ap (λ (i : RelInfo). attrs_stand i.attrs) m.2 ∙ of_tests (λ v. attrs_stand v.info.attrs) db.views m.0 is_one.view_attrs_stand m.1))
      | inr c ↦ (let m = map_in (λ x. x.info) db.indexes i c in inr (ap (λ (i : RelInfo). i.attrs) m.2 ∙ no_attrs m.0.info.attrs (index_parts m.0 m.1).2))
    ]
  ]

  columns_stand : (c : Column) → IsIn c (columns_for f db) → is_column c ≡ true
  unfolding columns_for columns_from
  columns_stand c at =
      let m = flat_map_in (λ i. columns_from (f.file i.key) 0 i.attrs) (database.entries db) c at in
      elim (info_attrs m.0 m.1) [
        | inl stand ↦ column_stands (f.file m.0.key) m.0.attrs c (number_of m.0 m.1) stand m.2
        | inr none ↦ absurd (subst (λ attrs. IsIn c (columns_from (f.file m.0.key) 0 attrs)) none m.2)
      ]

  rule_file : (p : RelKey × Rule) → IsIn p db.rules → is_number32 (f.file p.0) ≡ true
  rule_file p at = number_under p.0 (both (database.is_relation db p.0) (valid_row_qual db p.0 p.1.qual) (of_tests (λ p. database.is_relation db p.0 && valid_row_qual db p.0 p.1.qual) db.rules p is_one.rules_stand at)).0

  permit_file : (p : RelKey × Permit) → IsIn p db.permits → is_number32 (f.file p.0) ≡ true
  permit_file p at = number_under p.0 (both (database.is_relation db p.0) _ (of_tests (λ p. valid_permit db p.0 p.1) db.permits p is_one.permits_stand at)).0

  parts_stand : (p : Part) → IsIn p (parts_for f db) → nat_lt p.place 65536 ≡ true → is_part p ≡ true
  unfolding parts_for
  parts_stand p at place = elim (in_either (flat_map (view_parts f) db.views) _ p at) [
    | inl a ↦ (
        let m = flat_map_in (view_parts f) db.views p a in
        part_stands (f.file m.0.info.key) of_view 0 p (part_in (f.file m.0.info.key) of_view 0 0 (cut (tree_bytes queries.query m.0.query)) p m.2) (number_of m.0.info (in_views m.0 m.1)) refl refl place)
    | inr b ↦ elim (in_either (flat_map (numbered_parts spellings.rule (λ r. r.number) of_rule f) db.rules) _ p b) [
      | inl a ↦ (
          let m = flat_map_in (numbered_parts spellings.rule (λ r. r.number) of_rule f) db.rules p a in
          part_stands (f.file m.0.0) of_rule m.0.1.number p (part_in (f.file m.0.0) of_rule m.0.1.number 0 (cut (tree_bytes spellings.rule m.0.1)) p m.2) (rule_file m.0 m.1) refl
          (at_most_greatest m.0.1.number (of_tests (λ p. nat_le p.1.number greatest_number) db.rules m.0 is_one.small_rule_numbers m.1)) place)
      | inr c ↦ (
          let m = flat_map_in (numbered_parts spellings.permit (λ p. p.number) of_permit f) db.permits p c in
          part_stands (f.file m.0.0) of_permit m.0.1.number p (part_in (f.file m.0.0) of_permit m.0.1.number 0 (cut (tree_bytes spellings.permit m.0.1)) p m.2) (permit_file m.0 m.1) refl
          (at_most_greatest m.0.1.number (of_tests (λ p. nat_le p.1.number greatest_number) db.permits m.0 is_one.small_permit_numbers m.1)) place)
    ]
  ]

  pub is_a_catalogue : trees_are_short db f ≡ true → IsCatalogue (printed db f)
  unfolding printed trees_are_short
  is_a_catalogue short = record {
    entries_ascend = sorted_in_order entry_total (entries_for f db);
    columns_ascend = sorted_in_order column_total (columns_for f db);
    parts_ascend = sorted_in_order part_total (parts_for f db);
    are_entries = all_of (λ e. is_entry e ≡ true) (in_order entry_cmp (entries_for f db)) (λ e at. entries_stand e (in_order_in entry_cmp (entries_for f db) e at));
    are_columns = all_of (λ c. is_column c ≡ true) (in_order column_cmp (columns_for f db)) (λ c at. columns_stand c (in_order_in column_cmp (columns_for f db) c at));
    are_parts = all_of (λ p. is_part p ≡ true) (in_order part_cmp (parts_for f db)) (λ p at. (let k = in_order_in part_cmp (parts_for f db) p at in parts_stand p k (of_tests (λ p. nat_lt p.place 65536) (parts_for f db) p short k)));
  }

pub what_is_printed_is_a_catalogue : WhatIsPrintedIsACatalogue
what_is_printed_is_a_catalogue files f db is_one has short = is_a_catalogue f db is_one (may_have db files f has) short
