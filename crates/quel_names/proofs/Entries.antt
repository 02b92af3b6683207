-- What `destroy` may name, told by what is known of the user's key and of the administrator's.
use Rattle.std.proofs.Common.{◌≡◌, refl, sym, ap, ◌∙◌, ℕ, Bool, true, false, ◌||◌, cond, List, map, Option, Some, None, is_some}
use Rattle.std.specs.List.{flat_map}
use Rattle.std.specs.Option.{option_map, option_or}
use Rattle.base_trait.specs.Known.{known_at}
use Rattle.calculus.specs.declared.query.RelKey.{RelKey}
use Rattle.calculus.specs.declared.schema.RelInfo.{RelInfo}
use Rattle.calculus.specs.Catalogue.{catalogue_at, relation_key, attribute_key, relation_info, attribute_info, relation_row, attribute_rows, all_entries}
use Rattle.calculus.specs.Database.{Db, Relation, View, Index, entry_at, relation_at, view_at, index_at}
use Rattle.calculus.specs.Keys.{key_of, same_key}
use Rattle.calculus.specs.Rows.{set_of}
use Rattle.calculus.specs.Stored.{info_at}
use Rattle.quel_meaning.proofs.Keys.{same_keys}
use Rattle.quel_meaning.specs.Naming.{Entry, mention_refusal}
use Rattle.quel_meaning.specs.Ranges.{Ranges}
use Rattle.quel_meaning.specs.Scope.{entry_named}
use Rattle.quel_names.proofs.Known.{entry_parts, info_parts, known_parts}
use Rattle.quel_names.specs.Asking.{scope_of}

-- what is known of a catalogue
abbrev info_in : Option Relation → Option RelInfo
info_in c = option_map (λ (r : Relation). r.info) c

-- where no relation, view or index stands under a key, only a catalogue may
catalogue_else : (db : Db) (key : RelKey) → entry_at db key ≡ None → info_at db key ≡ info_in (catalogue_at db key)
catalogue_else db key h = info_parts db key ∙ go (relation_at db key) (view_at db key) (index_at db key) (sym (entry_parts db key) ∙ h)
  where
    go : (r : Option Relation) (v : Option View) (x : Option Index)
        → option_or (info_in r) (option_or (option_map (λ (v : View). v.info) v) (option_map (λ (x : Index). x.info) x)) ≡ None
        → option_or (info_in r) (option_or (option_map (λ (v : View). v.info) v) (info_in (catalogue_at db key))) ≡ info_in (catalogue_at db key)
    go (Some r) v x h = absurd (cc h)
    go None (Some v) x h = absurd (cc h)
    go None None x h = refl

-- a key under which a catalogue stands is the administrator's
of_administrator : (db : Db) (key : RelKey) (r : Relation) → catalogue_at db key ≡ Some r → key.owner ≡ db.dba
unfolding catalogue_at
of_administrator db key r h = go (same_key key (relation_key db)) refl (same_key key (attribute_key db)) refl h
  where
    go : (a : Bool) → same_key key (relation_key db) ≡ a → (b : Bool) → same_key key (attribute_key db) ≡ b
        → ◌≡◌ {A = Option Relation} (elim a [
          | true ↦ Some (record { info = relation_info db; rows = set_of (map relation_row (all_entries db)) })
          | false ↦ elim b [ true ↦ Some (record { info = attribute_info db; rows = set_of (flat_map attribute_rows (all_entries db)) }) | false ↦ None ]
        ]) (Some r) → key.owner ≡ db.dba
    go true e b f k = ap (λ (x : RelKey). x.owner) (same_keys key (relation_key db) e)
    go false e true f k = ap (λ (x : RelKey). x.owner) (same_keys key (attribute_key db) f)
    go false e false f k = absurd (cc k)

-- a catalogue that stands under the user's key stands under the administrator's
stands_there : (db : Db) (user name : List ℕ) (r : Relation) → catalogue_at db (key_of user name) ≡ Some r → catalogue_at db (key_of db.dba name) ≡ Some r
stands_there db user name r h = sym (ap (λ owner. catalogue_at db (key_of owner name)) (of_administrator db (key_of user name) r h)) ∙ h

-- `destroy` may name what is known of the user's key or of the administrator's
pub entry_if : (db : Db) (user : List ℕ) (ranges : Ranges) (name : List ℕ)
    → cond (is_some (known_at db (key_of user name)) || is_some (known_at db (key_of db.dba name))) None (Some 10) ≡ mention_refusal (scope_of db user ranges) (Entry name)
unfolding entry_named
entry_if db user ranges name =
    (λ i. cond (is_some (known_parts db (key_of user name) i) || is_some (known_parts db (key_of db.dba name) i)) None (Some 10))
    ∙ go (entry_at db (key_of user name)) (entry_at db (key_of db.dba name)) refl (catalogue_at db (key_of user name)) refl (catalogue_at db (key_of db.dba name)) refl
  where
    last : (c : Option Relation) → info_at db (key_of db.dba name) ≡ info_in c
        → ◌≡◌ {A = Option ℕ} (cond (is_some (info_in c)) None (Some 10))
        (elim (option_map (λ (i : RelInfo). i.key) (info_at db (key_of db.dba name))) [ None ↦ Some 10 | Some key ↦ None ])
    last None e = ap (λ o. elim (option_map (λ (i : RelInfo). i.key) o) as (λ x. Option ℕ) [ None ↦ Some 10 | Some key ↦ None ]) (sym e)
    last (Some r) e = ap (λ o. elim (option_map (λ (i : RelInfo). i.key) o) as (λ x. Option ℕ) [ None ↦ Some 10 | Some key ↦ None ]) (sym e)

    go : (own other : Option RelInfo) → entry_at db (key_of db.dba name) ≡ other → (c : Option Relation) → catalogue_at db (key_of user name) ≡ c → (d : Option Relation)
        → catalogue_at db (key_of db.dba name) ≡ d
        → ◌≡◌ {A = Option ℕ} (cond (is_some (option_or own (info_in c)) || is_some (option_or other (info_in d))) None (Some 10))
        (elim (elim own as (λ x. Option RelKey) [
          | Some own ↦ Some own.key
          | None ↦
              elim other as (λ x. Option RelKey) [
                | Some other ↦ Some other.key
                | None ↦ option_map (λ (i : RelInfo). i.key) (info_at db (key_of db.dba name))
              ]
        ]) [ None ↦ Some 10 | Some key ↦ None ])
    go (Some own) other e c f d g = refl
    go None (Some other) e None f d g = refl
    go None (Some other) e (Some r) f d g = refl
    go None None e None f d g = last d (catalogue_else db (key_of db.dba name) e ∙ ap info_in g)
    go None None e (Some r) f d g = last (Some r) (catalogue_else db (key_of db.dba name) e ∙ ap info_in (stands_there db user name r f))
