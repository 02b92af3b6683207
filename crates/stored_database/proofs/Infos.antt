-- The entries of a catalogue and what a database knows of its relations, views and indexes.
use Rattle.std.proofs.Common.{◌≡◌, refl, sym, ap, subst, ◌∙◌, inl, inr, ℕ, ◌||◌, not, Bool, true, false, List, [], ◌∷◌, map, Option, Some, None}
use Rattle.std.specs.Prelude.{◌⊎◌}
use Rattle.std.specs.List.{AllByRecursion, list_any}
use Rattle.std.specs.Ordering.{is_eq}
use Rattle.calculus.specs.declared.schema.RelInfo.{RelInfo}
use Rattle.calculus.specs.declared.schema.Spec.{Spec}
use Rattle.calculus.specs.declared.schema.Spec.TheVariants.{Heap, Hash, Isam, View, Index}
use Rattle.calculus.specs.Database as database
use Rattle.calculus.specs.Keys.{key_cmp, same_key}
use Rattle.calculus.specs.Lists.{differ_by}
use Rattle.calculus.specs.Structures.{is_structure, is_view, is_index}
use Rattle.page_chain.specs.Pages.{Pages}
use Rattle.stored_database.specs.Catalogue.{Catalogue}
use Rattle.stored_database.specs.Entries.{Entry}
use Rattle.stored_database.specs.Printed.{entry_under, files_in}
use Rattle.stored_database.specs.Spelled.{attrs_of, entries_that, relation_of, view_of, index_of}
use Rattle.stored_database.proofs.Members.{IsIn, Apart, apart_same, in_filter, filter_in, in_map, map_in, in_first, in_second, in_either, in_found}
use Rattle.stored_database.proofs.Orders.{key_exact, same_key_itself, same_key_turned}
use Rattle.stored_database.proofs.Reading.{both}
use Rattle.stored_database.proofs.SpelledParts.{Spells, relation_parts, view_parts, index_parts}

-- This is known of the entry: it has the entry's key, structure and keys; where it is no index its attributes are those of the file, and else there are none.
pub record IsKnown (cat : Catalogue) (e : Entry) (i : RelInfo) : Type 0 where
  pub key : i.key ≡ e.key
  pub spec : i.spec ≡ e.spec
  pub keys : i.keys ≡ e.keys
  pub attrs : (is_index e.spec ≡ false) → attrs_of cat e.file ≡ Some i.attrs
  pub none : is_index e.spec ≡ true → i.attrs ≡ []

-- every structure is one of the three
pub which : (s : Spec) → (is_structure s ≡ true) ⊎ ((is_view s ≡ true) ⊎ (is_index s ≡ true))
which Heap = inl refl
which Hash = inl refl
which Isam = inl refl
which View = inr (inl refl)
which Index = inr (inr refl)

pub structure_is_no_index : (s : Spec) → is_structure s ≡ true → is_index s ≡ false
structure_is_no_index Heap h = refl
structure_is_no_index Hash h = refl
structure_is_no_index Isam h = refl
structure_is_no_index View h = cc
structure_is_no_index Index h = cc

pub view_is_no_index : (s : Spec) → is_view s ≡ true → is_index s ≡ false
view_is_no_index Heap h = cc
view_is_no_index Hash h = cc
view_is_no_index Isam h = cc
view_is_no_index View h = refl
view_is_no_index Index h = cc

-- no two of the mapped items are the same
pub differ_apart : {A K : Type 0} (same : K → K → Bool) (k : A → K) (xs : List A) → differ_by same (map k xs) ≡ true → Apart (λ a b. same (k a) (k b)) xs
differ_apart same k [] h = tt
differ_apart {A} {K} same k (x ∷ xs) h =
    let t = both (not (list_any (same (k x)) (map k xs))) (differ_by same (map k xs)) h in
    (none xs t.0, differ_apart same k xs t.1)
  where
    none : (ys : List A) → not (list_any (same (k x)) (map k ys)) ≡ true → AllByRecursion (λ y. same (k x) (k y) ≡ false) ys
    none [] h = tt
    none (y ∷ ys) h = go (same (k x) (k y)) refl h (none ys)
      where
        go : (t : Bool) → same (k x) (k y) ≡ t → not (same (k x) (k y) || list_any (same (k x)) (map k ys)) ≡ true
            → (not (list_any (same (k x)) (map k ys)) ≡ true → AllByRecursion (λ y. same (k x) (k y) ≡ false) ys) → AllByRecursion (λ y. same (k x) (k y) ≡ false) (y ∷ ys)
        go true e h later = cc h
        go false e h later = (e, later (sym (ap (λ t. not (t || list_any (same (k x)) (map k ys))) e) ∙ h))

module _ (files : ℕ → Pages) (cat : Catalogue) (db : database.Db) (s : Spells files cat db) where
  of_relation : (e : Entry) (r : database.Relation) → is_structure e.spec ≡ true → relation_of files cat e ≡ Some r → IsKnown cat e r.info
  of_relation e r is h =
      let p = relation_parts files cat e r h in
      record {
        key = ap (λ (i : RelInfo). i.key) p.info;
        spec = ap (λ (i : RelInfo). i.spec) p.info;
        keys = ap (λ (i : RelInfo). i.keys) p.info;
        attrs = λ _. p.attrs;
        none = λ index. cc (structure_is_no_index e.spec is, index);
      }

  of_view : (e : Entry) (v : database.View) → is_view e.spec ≡ true → view_of cat e ≡ Some v → IsKnown cat e v.info
  of_view e v is h =
      let p = view_parts cat e v h in
      record {
        key = ap (λ (i : RelInfo). i.key) p.info;
        spec = ap (λ (i : RelInfo). i.spec) p.info;
        keys = ap (λ (i : RelInfo). i.keys) p.info;
        attrs = λ _. p.attrs;
        none = λ index. cc (view_is_no_index e.spec is, index);
      }

  of_index : (e : Entry) (x : database.Index) → is_index e.spec ≡ true → index_of cat e ≡ Some x → IsKnown cat e x.info
  of_index e x is h =
      let p = index_parts cat e x h in
      record {
        key = ap (λ (i : RelInfo). i.key) p.info;
        spec = ap (λ (i : RelInfo). i.spec) p.info;
        keys = ap (λ (i : RelInfo). i.keys) p.info;
        attrs = λ apart. cc (apart, is);
        none = λ _. ap (λ (i : RelInfo). i.attrs) p.info;
      }

  -- of each entry something is known
  pub to_info : (e : Entry) → IsIn e cat.entries → (i : RelInfo) × IsIn i (database.entries db) × IsKnown cat e i
  to_info e at = elim (which e.spec) [
    | inl is ↦ (
        let r = s.relations.to e (in_filter (λ e. is_structure e.spec) cat.entries e at is) in
        (r.0.info, in_first (map (λ r. r.info) db.relations) _ r.0.info (in_map (λ r. r.info) db.relations r.0 r.1), of_relation e r.0 is r.2))
    | inr (inl is) ↦ (
        let v = s.views.to e (in_filter (λ e. is_view e.spec) cat.entries e at is) in
        (v.0.info, in_second (map (λ r. r.info) db.relations) _ v.0.info (in_first (map (λ v. v.info) db.views) _ v.0.info (in_map (λ v. v.info) db.views v.0 v.1)), of_view e v.0 is v.2))
    | inr (inr is) ↦ (
        let x = s.indexes.to e (in_filter (λ e. is_index e.spec) cat.entries e at is) in
        (x.0.info, in_second (map (λ r. r.info) db.relations) _ x.0.info (in_second (map (λ v. v.info) db.views) _ x.0.info (in_map (λ x. x.info) db.indexes x.0 x.1)), of_index e x.0 is x.2))
  ]

  -- and what is known is known of an entry
  pub of_info : (i : RelInfo) → IsIn i (database.entries db) → (e : Entry) × IsIn e cat.entries × IsKnown cat e i
  of_info i at = elim (in_either (map (λ r. r.info) db.relations) _ i at) [
    | inl a ↦ (
        let m = map_in (λ r. r.info) db.relations i a in
        let r = s.relations.from m.0 m.1 in
        let f = filter_in (λ e. is_structure e.spec) cat.entries r.0 r.1 in
        (r.0, f.0, subst (IsKnown cat r.0) (sym m.2) (of_relation r.0 m.0 f.1 r.2)))
    | inr b ↦ elim (in_either (map (λ v. v.info) db.views) _ i b) [
      | inl a ↦ (
          let m = map_in (λ v. v.info) db.views i a in
          let v = s.views.from m.0 m.1 in
          let f = filter_in (λ e. is_view e.spec) cat.entries v.0 v.1 in
          (v.0, f.0, subst (IsKnown cat v.0) (sym m.2) (of_view v.0 m.0 f.1 v.2)))
      | inr c ↦ (
          let m = map_in (λ x. x.info) db.indexes i c in
          let x = s.indexes.from m.0 m.1 in
          let f = filter_in (λ e. is_index e.spec) cat.entries x.0 x.1 in
          (x.0, f.0, subst (IsKnown cat x.0) (sym m.2) (of_index x.0 m.0 f.1 x.2)))
    ]
  ]

  -- ---- no two entries have one key

  same_entry_key : Entry → Entry → Bool
  same_entry_key a b = same_key a.key b.key

  turned : (a b : Entry) → same_key a.key b.key ≡ true → same_key b.key a.key ≡ true
  turned a b h = same_key_turned a.key b.key h

  keeps_key : (a b : Entry) (i j : RelInfo) → i.key ≡ a.key → j.key ≡ b.key → is_eq (key_cmp i.key j.key) ≡ same_key a.key b.key
  keeps_key a b i j e f = key_exact i.key j.key ∙ (λ k. same_key (e k) (f k))

  relations_apart : Apart (λ a b. same_key a.key b.key) (entries_that is_structure cat)
  relations_apart = s.relations.apart (λ a b. same_key a.key b.key) (λ a b x y h k. keeps_key a b x.info y.info
      (ap (λ (i : RelInfo). i.key) (relation_parts files cat a x h).info) (ap (λ (i : RelInfo). i.key) (relation_parts files cat b y k).info))

  views_apart : Apart (λ a b. same_key a.key b.key) (entries_that is_view cat)
  views_apart = s.views.apart (λ a b. same_key a.key b.key) (λ a b x y h k. keeps_key a b x.info y.info
      (ap (λ (i : RelInfo). i.key) (view_parts cat a x h).info) (ap (λ (i : RelInfo). i.key) (view_parts cat b y k).info))

  indexes_apart : Apart (λ a b. same_key a.key b.key) (entries_that is_index cat)
  indexes_apart = s.indexes.apart (λ a b. same_key a.key b.key) (λ a b x y h k. keeps_key a b x.info y.info
      (ap (λ (i : RelInfo). i.key) (index_parts cat a x h).info) (ap (λ (i : RelInfo). i.key) (index_parts cat b y k).info))

  module _ (differ : differ_by same_key (map (λ i. i.key) (database.entries db)) ≡ true) where
    same_spec : (a b : Entry) → IsIn a cat.entries → IsIn b cat.entries → same_key a.key b.key ≡ true → a.spec ≡ b.spec
    same_spec a b at bt h =
        let i = to_info a at in
        let j = to_info b bt in
        let one : i.0 ≡ j.0 = apart_same (λ (i j : RelInfo). same_key i.key j.key) (λ i j e. same_key_turned i.key j.key e) (database.entries db) i.0 j.0
        (differ_apart same_key (λ i. i.key) (database.entries db) differ) i.1 j.1 ((λ k. same_key (i.2.key k) (j.2.key k)) ∙ h) in
        sym i.2.spec ∙ ap (λ (i : RelInfo). i.spec) one ∙ j.2.spec

    -- entries with one key are one
    pub one_entry : (a b : Entry) → IsIn a cat.entries → IsIn b cat.entries → same_key a.key b.key ≡ true → a ≡ b
    one_entry a b at bt h =
        let same = same_spec a b at bt h in
        elim (which a.spec) [
          | inl is ↦ apart_same (λ a b. same_key a.key b.key) turned (entries_that is_structure cat) a b relations_apart
              (in_filter (λ e. is_structure e.spec) cat.entries a at is) (in_filter (λ e. is_structure e.spec) cat.entries b bt (ap is_structure (sym same) ∙ is)) h
          | inr (inl is) ↦ apart_same (λ a b. same_key a.key b.key) turned (entries_that is_view cat) a b views_apart
              (in_filter (λ e. is_view e.spec) cat.entries a at is) (in_filter (λ e. is_view e.spec) cat.entries b bt (ap is_view (sym same) ∙ is)) h
          | inr (inr is) ↦ apart_same (λ a b. same_key a.key b.key) turned (entries_that is_index cat) a b indexes_apart
              (in_filter (λ e. is_index e.spec) cat.entries a at is) (in_filter (λ e. is_index e.spec) cat.entries b bt (ap is_index (sym same) ∙ is)) h
        ]

    pub under_its_key : (e : Entry) → IsIn e cat.entries → entry_under cat e.key ≡ Some e
    unfolding entry_under
    under_its_key e at = in_found (λ x. same_key x.key e.key) cat.entries e at (same_key_itself e.key) (λ x xt h. one_entry x e xt at h)

    -- the files of a catalogue are those of its entries
    pub file_is : (e : Entry) → IsIn e cat.entries → (files_in cat).file e.key ≡ e.file
    unfolding files_in
    file_is e at = ap (λ (o : Option Entry). elim o [ None ↦ 0 | Some e ↦ e.file ]) (under_its_key e at)

    pub used_is : (e : Entry) → IsIn e cat.entries → (files_in cat).used e.key ≡ e.used
    unfolding files_in
    used_is e at = ap (λ (o : Option Entry). elim o [ None ↦ 0 | Some e ↦ e.used ]) (under_its_key e at)
