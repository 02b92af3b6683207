-- What stands under a key, told by what is known of it.
use Rattle.std.proofs.Common.{◌≡◌, refl, sym, ap, ◌∙◌, Bool, true, false, not, ◌&&◌, ◌||◌, map, Option, Some, None, is_some}
use Rattle.std.specs.List.{flat_map}
use Rattle.std.specs.Option.{option_map, option_or}
use Rattle.base_trait.specs.Known.{known_at}
use Rattle.calculus.specs.declared.query.RelKey.{RelKey}
use Rattle.calculus.specs.declared.schema.RelInfo.{RelInfo}
use Rattle.calculus.specs.declared.schema.Spec.{Spec}
use Rattle.calculus.specs.declared.schema.Spec.TheVariants as spec
use Rattle.calculus.specs.Catalogue.{catalogue_at, relation_key, attribute_key, relation_info, attribute_info, relation_row, attribute_rows, all_entries}
use Rattle.calculus.specs.Database.{Db, Relation, View, Index, entry_at, relation_at, view_at, index_at, is_relation}
use Rattle.calculus.specs.IsDatabase.{IsDatabase, keys_stand, valid_structure, valid_view_info, valid_index}
use Rattle.calculus.specs.Keys.{same_key}
use Rattle.calculus.specs.Lists.{is_any}
use Rattle.calculus.specs.Rows.{set_of}
use Rattle.calculus.specs.Stored.{Range, Kept, Viewed, range_at, info_at, attrs_at, attrs_in}
use Rattle.calculus.specs.Structures.{is_structure, is_keyed, is_view, is_index}
use Rattle.quel_refusals.proofs.Entries.{no_catalogue, named_apart}
use Rattle.quel_meaning.proofs.DatabaseFacts.{found_passes}
use Rattle.quel_meaning.specs.Fit.{is_entry}
use Rattle.quel_meaning.specs.FitQueries.{can_be_ranged_over, is_kept, keeps_rows}
use Rattle.quel_names.proofs.Known.{entry_parts, info_parts, known_parts}
use Rattle.tree_check.specs.Standing.{is_kept_info}

-- ---- what keeps its rows

a_structure : (info : RelInfo) → valid_structure info ≡ true → is_structure info.spec ≡ true
a_structure info h = go info.spec h
  where
    go : (s : Spec)
        → ◌≡◌ {A = Bool} (elim (is_keyed s) [ true ↦ is_any info.keys && keys_stand info.attrs info.keys | false ↦ is_structure s && not (is_any info.keys) ]) true
        → is_structure s ≡ true
    go spec.Heap k = refl
    go spec.Hash k = refl
    go spec.Isam k = refl
    go spec.View k = absurd (cc k)
    go spec.Index k = absurd (cc k)

no_view : (info : RelInfo) → valid_view_info info ≡ true → is_structure info.spec ≡ false
no_view info h = go info.spec h
  where
    go : (s : Spec) → (is_view s && not (is_any info.keys)) ≡ true → is_structure s ≡ false
    go spec.Heap k = absurd (cc k)
    go spec.Hash k = absurd (cc k)
    go spec.Isam k = absurd (cc k)
    go spec.View k = refl
    go spec.Index k = absurd (cc k)

no_index : (db : Db) (x : Index) → valid_index db x ≡ true → is_structure x.info.spec ≡ false
no_index db x h = go x.info.spec h
  where
    go : (s : Spec) → (is_index s && (is_relation db x.base && (not (is_any x.info.attrs) && (is_any x.info.keys && keys_stand (attrs_at db x.base) x.info.keys)))) ≡ true
        → is_structure s ≡ false
    go spec.Heap k = absurd (cc k)
    go spec.Hash k = absurd (cc k)
    go spec.Isam k = absurd (cc k)
    go spec.View k = absurd (cc k)
    go spec.Index k = refl

a_catalogue : (db : Db) (key : RelKey) (r : Relation) → catalogue_at db key ≡ Some r → is_structure r.info.spec ≡ true
unfolding catalogue_at
a_catalogue db key r h = go (same_key key (relation_key db)) (same_key key (attribute_key db)) h
  where
    go : (a b : Bool)
        → ◌≡◌ {A = Option Relation} (elim a [
          | true ↦ Some (record { info = relation_info db; rows = set_of (map relation_row (all_entries db)) })
          | false ↦ elim b [ true ↦ Some (record { info = attribute_info db; rows = set_of (flat_map attribute_rows (all_entries db)) }) | false ↦ None ]
        ]) (Some r) → is_structure r.info.spec ≡ true
    go true b k =
        let same : record { info = relation_info db; rows = set_of (map relation_row (all_entries db)) } ≡ r = cc k in
        sym (ap (λ (x : Relation). is_structure x.info.spec) same)
    go false true k =
        let same : record { info = attribute_info db; rows = set_of (flat_map attribute_rows (all_entries db)) } ≡ r = cc k in
        sym (ap (λ (x : Relation). is_structure x.info.spec) same)
    go false false k = absurd (cc k)

-- what keeps its rows is known of by its structure
pub kept_known : (db : Db) → IsDatabase db → (key : RelKey) → is_kept_info (known_at db key) ≡ is_kept db key
unfolding range_at
kept_known db is key =
    ap is_kept_info (known_parts db key ∙ ap (λ o. option_or o (option_map (λ (r : Relation). r.info) (catalogue_at db key))) (entry_parts db key))
    ∙ go (relation_at db key) refl (view_at db key) refl (index_at db key) refl (catalogue_at db key) refl
  where
    indexed : (x : Index) → relation_at db key ≡ None → view_at db key ≡ None → index_at db key ≡ Some x → catalogue_at db key ≡ None
    indexed x e f g =
        let there : entry_at db key ≡ Some x.info =
        entry_parts db key ∙ (λ i. option_or (option_map (λ (r : Relation). r.info) (e i)) (option_or (option_map (λ (v : View). v.info) (f i)) (option_map (λ (x : Index). x.info) (g i)))) in
        no_catalogue db key (named_apart db is key x.info there)

    go : (r : Option Relation) → relation_at db key ≡ r → (v : Option View) → view_at db key ≡ v → (x : Option Index) → index_at db key ≡ x
        → (c : Option Relation) → catalogue_at db key ≡ c
        → is_kept_info (option_or (option_or (option_map (λ (r : Relation). r.info) r) (option_or (option_map (λ (v : View). v.info) v) (option_map (λ (x : Index). x.info) x))) (option_map (λ (r : Relation). r.info) c))
        ≡ keeps_rows (elim r as (λ x. Option Range) [ Some relation ↦ Some (Kept relation) | None ↦ elim v as (λ x. Option Range) [ Some view ↦ Some (Viewed view) | None ↦ option_map Kept c ] ])
    go (Some r) e v f x g c h =
        a_structure r.info (found_passes (λ (r : Relation). same_key r.info.key key) (λ (r : Relation). valid_structure r.info) db.relations r is.structures_stand e)
    go None e (Some v) f x g c h =
        no_view v.info (found_passes (λ (v : View). same_key v.info.key key) (λ (v : View). valid_view_info v.info) db.views v is.view_infos_stand f)
    go None e None f (Some x) g c h =
        no_index db x (found_passes (λ (x : Index). same_key x.info.key key) (valid_index db) db.indexes x is.indexes_stand g)
        ∙ ap (λ (c : Option Relation). keeps_rows (option_map Kept c)) (sym (indexed x e f g) ∙ h)
    go None e None f None g (Some c) h = a_catalogue db key c h
    go None e None f None g None h = refl

-- ---- entries

-- something is known of it exactly where it is an entry or can be ranged over
pub entry_known : (db : Db) (key : RelKey) → is_some (known_at db key) ≡ is_entry db key
entry_known db key =
    ap is_some (known_parts db key ∙ ap (λ o. option_or o (option_map (λ (r : Relation). r.info) (catalogue_at db key))) (entry_parts db key))
    ∙ go (relation_at db key) (view_at db key) (index_at db key) (catalogue_at db key)
    ∙ sym (λ i. is_some (entry_parts db key i) || is_some (info_parts db key i))
  where
    go : (r : Option Relation) (v : Option View) (x : Option Index) (c : Option Relation)
        → is_some (option_or (option_or (option_map (λ (r : Relation). r.info) r) (option_or (option_map (λ (v : View). v.info) v) (option_map (λ (x : Index). x.info) x))) (option_map (λ (r : Relation). r.info) c))
        ≡ (is_some (option_or (option_map (λ (r : Relation). r.info) r) (option_or (option_map (λ (v : View). v.info) v) (option_map (λ (x : Index). x.info) x)))
        || is_some (option_or (option_map (λ (r : Relation). r.info) r) (option_or (option_map (λ (v : View). v.info) v) (option_map (λ (r : Relation). r.info) c))))
    go (Some r) v x c = refl
    go None (Some v) x c = refl
    go None None (Some x) c = refl
    go None None None c = refl

-- ---- what can be ranged over

pub there : (db : Db) (key : RelKey) (info : Option RelInfo) (i : RelInfo) → info ≡ info_at db key → info ≡ Some i → can_be_ranged_over db key ≡ true
there db key info i e h = ap is_some (sym e ∙ h)

pub not_there : (db : Db) (key : RelKey) (info : Option RelInfo) → info ≡ info_at db key → info ≡ None → can_be_ranged_over db key ≡ false
not_there db key info e h = ap is_some (sym e ∙ h)

pub attrs_there : (db : Db) (key : RelKey) (info : Option RelInfo) (i : RelInfo) → info ≡ info_at db key → info ≡ Some i → i.attrs ≡ attrs_at db key
attrs_there db key info i e h = sym (ap attrs_in (sym e ∙ h))
