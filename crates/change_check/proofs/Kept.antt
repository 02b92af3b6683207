-- What is known of a base relation.
use Rattle.std.proofs.Common.{◌≡◌, refl, sym, ap, ◌∙◌, true, false, not, ◌&&◌, Bool, Option, Some, None, is_some}
use Rattle.std.specs.Option.{option_map, option_or}
use Rattle.calculus.specs.declared.query.RelKey.{RelKey}
use Rattle.calculus.specs.declared.schema.RelInfo.{RelInfo}
use Rattle.calculus.specs.declared.schema.Spec.{Spec}
use Rattle.calculus.specs.declared.schema.Spec.TheVariants as spec
use Rattle.calculus.specs.Keys.{same_key}
use Rattle.calculus.specs.Lists.{is_any}
use Rattle.calculus.specs.Database.{Db, Relation, Index, View, entry_at, relation_at, view_at, index_at, is_relation}
use Rattle.calculus.specs.IsDatabase.{IsDatabase, valid_index, keys_stand, valid_structure, valid_view_info}
use Rattle.calculus.specs.Stored.{attrs_at}
use Rattle.calculus.specs.Structures.{is_structure, is_keyed, is_view, is_index}
use Rattle.quel_meaning.proofs.DatabaseFacts.{found_passes}
use Rattle.plan_laws.proofs.RowsChanged.{its_attrs}
use Rattle.quel_names.proofs.Known.{entry_parts}
use Rattle.change_check.specs.Kept.{kept_info}

kept_structure : (info : RelInfo) → valid_structure info ≡ true → kept_info (Some info) ≡ Some info
kept_structure info h = go info.spec h
  where
    go : (s : Spec) → (elim (is_keyed s) as (λ b. Bool) [
      | true ↦ is_any info.keys && keys_stand info.attrs info.keys
      | false ↦ is_structure s && not (is_any info.keys)
    ]) ≡ true → ◌≡◌ {A = Option RelInfo} (elim (is_structure s) as (λ b. Option RelInfo) [ true ↦ Some info | false ↦ None ]) (Some info)
    go spec.Heap h = refl
    go spec.Hash h = refl
    go spec.Isam h = refl
    go spec.View h = absurd (cc h)
    go spec.Index h = absurd (cc h)

kept_view : (info : RelInfo) → valid_view_info info ≡ true → kept_info (Some info) ≡ None
kept_view info h = go info.spec h
  where
    go : (s : Spec) → (is_view s && not (is_any info.keys)) ≡ true
        → ◌≡◌ {A = Option RelInfo} (elim (is_structure s) as (λ b. Option RelInfo) [ true ↦ Some info | false ↦ None ]) None
    go spec.Heap h = absurd (cc h)
    go spec.Hash h = absurd (cc h)
    go spec.Isam h = absurd (cc h)
    go spec.View h = refl
    go spec.Index h = absurd (cc h)

kept_index : (db : Db) (x : Index) → valid_index db x ≡ true → kept_info (Some x.info) ≡ None
kept_index db x h = go x.info.spec h
  where
    go : (s : Spec) → (is_index s && (is_relation db x.base && (not (is_any x.info.attrs) && (is_any x.info.keys && keys_stand (attrs_at db x.base) x.info.keys)))) ≡ true
        → ◌≡◌ {A = Option RelInfo} (elim (is_structure s) as (λ b. Option RelInfo) [ true ↦ Some x.info | false ↦ None ]) None
    go spec.Heap h = absurd (cc h)
    go spec.Hash h = absurd (cc h)
    go spec.Isam h = absurd (cc h)
    go spec.View h = absurd (cc h)
    go spec.Index h = refl

-- an entry that is kept as a base relation is, is the base relation's
pub kept_is : (db : Db) → IsDatabase db → (key : RelKey) → kept_info (entry_at db key) ≡ option_map (λ r. r.info) (relation_at db key)
kept_is db is key = ap kept_info (entry_parts db key) ∙ go (relation_at db key) refl (view_at db key) refl (index_at db key) refl
  where
    go : (r : Option Relation) → relation_at db key ≡ r → (v : Option View) → view_at db key ≡ v → (x : Option Index) → index_at db key ≡ x
        → kept_info (option_or (option_map (λ r. r.info) r) (option_or (option_map (λ v. v.info) v) (option_map (λ x. x.info) x))) ≡ option_map (λ r. r.info) r
    go (Some r) e v f x g =
        kept_structure r.info (found_passes (λ (r : Relation). same_key r.info.key key) (λ (r : Relation). valid_structure r.info) db.relations r is.structures_stand e)
    go None e (Some v) f x g =
        kept_view v.info (found_passes (λ (v : View). same_key v.info.key key) (λ (v : View). valid_view_info v.info) db.views v is.view_infos_stand f)
    go None e None f (Some x) g = kept_index db x (found_passes (λ (x : Index). same_key x.info.key key) (valid_index db) db.indexes x is.indexes_stand g)
    go None e None f None g = refl

-- something is known of it exactly where it is there
pub there_where_known : (db : Db) (key : RelKey) (info : Option RelInfo) → info ≡ option_map (λ r. r.info) (relation_at db key) → is_some info ≡ is_relation db key
there_where_known db key info e = ap is_some e ∙ go (relation_at db key)
  where
    go : (r : Option Relation) → is_some (option_map (λ (r : Relation). r.info) r) ≡ is_some r
    go None = refl
    go (Some r) = refl

pub none_there : (db : Db) (key : RelKey) (info : Option RelInfo) → info ≡ option_map (λ r. r.info) (relation_at db key) → info ≡ None → is_relation db key ≡ false
none_there db key info e n = sym (there_where_known db key info e) ∙ ap is_some n

pub one_there : (db : Db) (key : RelKey) (info : Option RelInfo) (i : RelInfo) → info ≡ option_map (λ r. r.info) (relation_at db key) → info ≡ Some i → is_relation db key ≡ true
one_there db key info i e n = sym (there_where_known db key info e) ∙ ap is_some n

-- its attributes are those that are known
pub attrs_there : (db : Db) (key : RelKey) (info : Option RelInfo) (i : RelInfo) → info ≡ option_map (λ r. r.info) (relation_at db key) → info ≡ Some i → attrs_at db key ≡ i.attrs
attrs_there db key info i e n = go (relation_at db key) refl (sym n ∙ e)
  where
    go : (r : Option Relation) → relation_at db key ≡ r → Some i ≡ option_map (λ (r : Relation). r.info) r → attrs_at db key ≡ i.attrs
    go None f h = absurd (cc h)
    go (Some r) f h = let same : r.info ≡ i = cc h in its_attrs db key r f ∙ ap (λ (i : RelInfo). i.attrs) same
