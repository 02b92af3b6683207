-- The entries of a catalogue are those that its database has.
use Rattle.std.proofs.Common.{◌≡◌, refl, sym, ap, subst, ◌∙◌, inl, inr, ℕ, ◌==◌, ◌&&◌, not, nat_le, Bool, true, map, Some}
use Rattle.calculus.specs.declared.schema.RelInfo.{RelInfo}
use Rattle.calculus.specs.declared.schema.Spec.{Spec}
use Rattle.calculus.specs.declared.schema.Spec.TheVariants.{Heap, Hash, Isam, View, Index}
use Rattle.calculus.specs.Database as database
use Rattle.calculus.specs.Keys.{same_key}
use Rattle.calculus.specs.Lists.{differ_by, is_any}
use Rattle.calculus.specs.Structures.{is_structure, is_view, is_index}
use Rattle.page_chain.specs.Lists.{in_order}
use Rattle.page_chain.specs.Pages.{Pages}
use Rattle.stored_database.specs.Catalogue.{Catalogue, IsCatalogue}
use Rattle.stored_database.specs.Entries.{Entry, entry_cmp, is_entry, suits_spec, has_no_pages, is_one_chain}
use Rattle.stored_database.specs.Printed.{files_in, relation_entry, view_entry, index_entry, entries_for}
use Rattle.stored_database.specs.Spelled.{relation_of, view_of, index_of}
use Rattle.stored_database.proofs.EntryBytes.{stands}
use Rattle.stored_database.proofs.Infos.{which, file_is, used_is}
use Rattle.stored_database.proofs.Members.{IsIn, of_all, in_filter, filter_in, in_map, map_in, in_first, in_second, in_either}
use Rattle.stored_database.proofs.Orders.{entry_total}
use Rattle.stored_database.proofs.Reading.{both, same_number}
use Rattle.stored_database.proofs.Sets.{set_is}
use Rattle.stored_database.proofs.SpelledParts.{Spells, entry_found, relation_parts, view_parts, index_parts}

-- ---- what entries have by what they are

-- An entry with these numbers.
record Has (e : Entry) (b p d : ℕ) : Type 0 where
  base : e.base ≡ b
  primary : e.primary ≡ p
  directory : e.directory ≡ d

one_chain : (e : Entry) → ((e.base == 0) && is_one_chain e) ≡ true → Has e 0 1 0 × (nat_le 1 e.used ≡ true)
one_chain e h =
    let a = both (e.base == 0) (is_one_chain e) h in
    let b = both (e.primary == 1) _ a.1 in
    let c = both (e.directory == 0) (nat_le 1 e.used) b.1 in
    (record { base = same_number e.base 0 a.0; primary = same_number e.primary 1 b.0; directory = same_number e.directory 0 c.0 }, c.1)

no_pages : (e : Entry) → has_no_pages e ≡ true → Has e e.base 0 0 × (e.used ≡ 0)
no_pages e h =
    let b = both (e.primary == 0) _ h in
    let c = both (e.directory == 0) (e.used == 0) b.1 in
    (record { base = refl; primary = same_number e.primary 0 b.0; directory = same_number e.directory 0 c.0 }, same_number e.used 0 c.1)

-- the case of what an entry is
unfoldable pub suits : Spec → Entry → Bool
suits s e = elim s [
  | Heap ↦ (e.base == 0) && is_one_chain e
  | Hash ↦ (e.base == 0) && is_one_chain e
  | Isam ↦ (e.base == 0) && is_one_chain e
  | View ↦ (e.base == 0) && (has_no_pages e && not (is_any e.keys))
  | Index ↦ has_no_pages e
]

suited : (e : Entry) → is_entry e ≡ true → suits e.spec e ≡ true
unfolding suits suits_spec
suited e h = (stands e h).suits

relation_has : (s : Spec) (e : Entry) → is_structure s ≡ true → suits s e ≡ true → Has e 0 1 0 × (nat_le 1 e.used ≡ true)
unfolding suits
relation_has Heap e is h = one_chain e h
relation_has Hash e is h = one_chain e h
relation_has Isam e is h = one_chain e h
relation_has View e is h = cc is
relation_has Index e is h = cc is

view_has : (s : Spec) (e : Entry) → is_view s ≡ true → suits s e ≡ true → Has e 0 0 0 × (e.used ≡ 0)
unfolding suits
view_has Heap e is h = cc is
view_has Hash e is h = cc is
view_has Isam e is h = cc is
view_has Index e is h = cc is
view_has View e is h =
    let a = both (e.base == 0) _ h in
    let n = no_pages e (both (has_no_pages e) _ a.1).0 in
    (record { base = same_number e.base 0 a.0; primary = n.0.primary; directory = n.0.directory }, n.1)

index_has : (s : Spec) (e : Entry) → is_index s ≡ true → suits s e ≡ true → Has e e.base 0 0 × (e.used ≡ 0)
unfolding suits
index_has Heap e is h = cc is
index_has Hash e is h = cc is
index_has Isam e is h = cc is
index_has View e is h = cc is
index_has Index e is h = no_pages e h

-- ---- one entry again

module _ (files : ℕ → Pages) (cat : Catalogue) (db : database.Db) (s : Spells files cat db) (is_cat : IsCatalogue cat)
    (differ : differ_by same_key (map (λ i. i.key) (database.entries db)) ≡ true) where
  pub entry_stands : (e : Entry) → IsIn e cat.entries → is_entry e ≡ true
  entry_stands e at = of_all (λ e. is_entry e ≡ true) cat.entries e is_cat.are_entries at

  pub some_pages : (e : Entry) → IsIn e cat.entries → is_structure e.spec ≡ true → nat_le 1 e.used ≡ true
  some_pages e at is = (relation_has e.spec e is (suited e (entry_stands e at))).1

  relation_again : (e : Entry) (r : database.Relation) → IsIn e cat.entries → is_structure e.spec ≡ true → relation_of files cat e ≡ Some r → relation_entry (files_in cat) r ≡ e
  relation_again e r at is h =
      let p = (relation_parts files cat e r h).info in
      let key = ap (λ (i : RelInfo). i.key) p in
      let has = relation_has e.spec e is (suited e (entry_stands e at)) in
      λ i. record {
        file = (ap (files_in cat).file key ∙ file_is files cat db s differ e at) i;
        key = key i;
        spec = ap (λ (i : RelInfo). i.spec) p i;
        base = sym has.0.base i;
        primary = sym has.0.primary i;
        directory = sym has.0.directory i;
        used = (ap (files_in cat).used key ∙ used_is files cat db s differ e at) i;
        keys = ap (λ (i : RelInfo). i.keys) p i;
      }

  view_again : (e : Entry) (v : database.View) → IsIn e cat.entries → is_view e.spec ≡ true → view_of cat e ≡ Some v → view_entry (files_in cat) v ≡ e
  view_again e v at is h =
      let p = (view_parts cat e v h).info in
      let key = ap (λ (i : RelInfo). i.key) p in
      let has = view_has e.spec e is (suited e (entry_stands e at)) in
      λ i. record {
        file = (ap (files_in cat).file key ∙ file_is files cat db s differ e at) i;
        key = key i;
        spec = ap (λ (i : RelInfo). i.spec) p i;
        base = sym has.0.base i;
        primary = sym has.0.primary i;
        directory = sym has.0.directory i;
        used = sym has.1 i;
        keys = ap (λ (i : RelInfo). i.keys) p i;
      }

  index_again : (e : Entry) (x : database.Index) → IsIn e cat.entries → is_index e.spec ≡ true → index_of cat e ≡ Some x → index_entry (files_in cat) x ≡ e
  index_again e x at is h =
      let o = index_parts cat e x h in
      let p = o.info in
      let key = ap (λ (i : RelInfo). i.key) p in
      let has = index_has e.spec e is (suited e (entry_stands e at)) in
      let b = entry_found cat e.base o.base o.base_is in
      let base : (files_in cat).file x.base ≡ e.base = ap (files_in cat).file o.key ∙ file_is files cat db s differ o.base b.0 ∙ b.1 in
      λ i. record {
        file = (ap (files_in cat).file key ∙ file_is files cat db s differ e at) i;
        key = key i;
        spec = ap (λ (i : RelInfo). i.spec) p i;
        base = base i;
        primary = sym has.0.primary i;
        directory = sym has.0.directory i;
        used = sym has.1 i;
        keys = ap (λ (i : RelInfo). i.keys) p i;
      }

  -- ---- all of them

  to_list : (e : Entry) → IsIn e cat.entries → IsIn e (entries_for (files_in cat) db)
  unfolding entries_for
  to_list e at = elim (which e.spec) [
    | inl is ↦ (
        let r = s.relations.to e (in_filter (λ e. is_structure e.spec) cat.entries e at is) in
        in_first (map (relation_entry (files_in cat)) db.relations) _ e
        (subst (λ e. IsIn e (map (relation_entry (files_in cat)) db.relations)) (relation_again e r.0 at is r.2) (in_map (relation_entry (files_in cat)) db.relations r.0 r.1)))
    | inr (inl is) ↦ (
        let v = s.views.to e (in_filter (λ e. is_view e.spec) cat.entries e at is) in
        in_second (map (relation_entry (files_in cat)) db.relations) _ e (in_first (map (view_entry (files_in cat)) db.views) _ e
        (subst (λ e. IsIn e (map (view_entry (files_in cat)) db.views)) (view_again e v.0 at is v.2) (in_map (view_entry (files_in cat)) db.views v.0 v.1))))
    | inr (inr is) ↦ (
        let x = s.indexes.to e (in_filter (λ e. is_index e.spec) cat.entries e at is) in
        in_second (map (relation_entry (files_in cat)) db.relations) _ e (in_second (map (view_entry (files_in cat)) db.views) _ e
        (subst (λ e. IsIn e (map (index_entry (files_in cat)) db.indexes)) (index_again e x.0 at is x.2) (in_map (index_entry (files_in cat)) db.indexes x.0 x.1))))
  ]

  of_list : (e : Entry) → IsIn e (entries_for (files_in cat) db) → IsIn e cat.entries
  unfolding entries_for
  of_list e at = elim (in_either (map (relation_entry (files_in cat)) db.relations) _ e at) [
    | inl a ↦ (
        let m = map_in (relation_entry (files_in cat)) db.relations e a in
        let r = s.relations.from m.0 m.1 in
        let f = filter_in (λ e. is_structure e.spec) cat.entries r.0 r.1 in
        subst (λ e. IsIn e cat.entries) (sym (relation_again r.0 m.0 f.0 f.1 r.2) ∙ sym m.2) f.0)
    | inr b ↦ elim (in_either (map (view_entry (files_in cat)) db.views) _ e b) [
      | inl a ↦ (
          let m = map_in (view_entry (files_in cat)) db.views e a in
          let v = s.views.from m.0 m.1 in
          let f = filter_in (λ e. is_view e.spec) cat.entries v.0 v.1 in
          subst (λ e. IsIn e cat.entries) (sym (view_again v.0 m.0 f.0 f.1 v.2) ∙ sym m.2) f.0)
      | inr c ↦ (
          let m = map_in (index_entry (files_in cat)) db.indexes e c in
          let x = s.indexes.from m.0 m.1 in
          let f = filter_in (λ e. is_index e.spec) cat.entries x.0 x.1 in
          subst (λ e. IsIn e cat.entries) (sym (index_again x.0 m.0 f.0 f.1 x.2) ∙ sym m.2) f.0)
    ]
  ]

  pub entries_again : cat.entries ≡ in_order entry_cmp (entries_for (files_in cat) db)
  entries_again = set_is entry_total cat.entries (entries_for (files_in cat) db) is_cat.entries_ascend to_list of_list
