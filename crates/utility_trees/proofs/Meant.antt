-- What names mean, told by what is known of the user's key and of the administrator's.
use Rattle.std.proofs.Common.{◌≡◌, refl, sym, ap, ◌∙◌, ℕ, ◌+◌, ◌<◌, ◌≤◌, arith, Bool, true, false, List, [], ◌∷◌, ◌++◌, length, map, take, get_or, Option, Some, None}
use Rattle.std.specs.List.{filter_map, cons_option, flat_map}
use Rattle.std.specs.Option.{option_map, option_or, option_to_list}
use Rattle.std.proofs.lemmas.Bool.{leb-true}
use Rattle.std.proofs.lemmas.List.{take_more}
use Rattle.std.proofs.lemmas.List.Elements.{filter_map-append}
use Rattle.base_trait.specs.Known.{known_at}
use Rattle.calculus.specs.declared.query.RelKey.{RelKey}
use Rattle.calculus.specs.declared.schema.RelInfo.{RelInfo}
use Rattle.calculus.specs.Catalogue.{catalogue_at, relation_key, attribute_key, relation_info, attribute_info, relation_row, attribute_rows, all_entries}
use Rattle.calculus.specs.Database.{Db, Relation, View, Index, entry_at, relation_at, view_at, index_at}
use Rattle.calculus.specs.Finding.{found}
use Rattle.calculus.specs.IsDatabase.{IsDatabase}
use Rattle.calculus.specs.Keys.{key_of, same_key}
use Rattle.calculus.specs.Rows.{set_of}
use Rattle.calculus.specs.Stored.{info_at}
use Rattle.quel_meaning.proofs.DatabaseFacts.{info_stands, stood}
use Rattle.quel_meaning.proofs.Keys.{same_keys}
use Rattle.quel_meaning.specs.Ranges.{Ranges}
use Rattle.quel_meaning.specs.Scope.{entry_named}
use Rattle.quel_names.proofs.Known.{entry_parts, info_parts, known_parts}
use Rattle.quel_names.specs.Asking.{scope_of}

-- ---- few attributes

few_under : (db : Db) → IsDatabase db → (key : RelKey) (info : RelInfo) → info_at db key ≡ Some info → length info.attrs ≤ 256
few_under db is key info h = omega (arith, leb-true _ _ (stood info.attrs (info_stands db is key info h)).few)

-- what was found has few attributes
pub few_found : (db : Db) → IsDatabase db → (user name : List ℕ) (info : RelInfo) → found db user name ≡ Some info → length info.attrs ≤ 256
unfolding found
few_found db is user name info h = go (info_at db (key_of user name)) refl h
  where
    go : (o : Option RelInfo) → info_at db (key_of user name) ≡ o → ◌≡◌ {A = Option RelInfo} (elim o [ Some own ↦ Some own | None ↦ info_at db (key_of db.dba name) ]) (Some info)
        → length info.attrs ≤ 256
    go None f k = few_under db is (key_of db.dba name) info k
    go (Some own) f k = few_under db is (key_of user name) info (f ∙ k)

-- ---- entries

-- what is known of a catalogue
abbrev info_in : Option Relation → Option RelInfo
info_in c = option_map (λ (r : Relation). r.info) c

-- where no relation, view or index stands under a key, only a catalogue may
catalogue_else : (db : Db) (key : RelKey) → entry_at db key ≡ None → info_at db key ≡ info_in (catalogue_at db key)
catalogue_else db key h = info_parts db key ∙ go (relation_at db key) (view_at db key) (index_at db key) (sym (entry_parts db key) ∙ h)
  where
    go : (r : Option Relation) (v : Option View) (x : Option Index)
        → option_or (info_in r) (option_or (option_map (λ (v : View). v.info) v) (option_map (λ (x : Index). x.info) x)) ≡ None
        → option_or (info_in r) (option_or (option_map (λ (v : View). v.info) v) (info_in (catalogue_at db key))) ≡ info_in (catalogue_at db key)
    go (Some r) v x h = absurd (cc h)
    go None (Some v) x h = absurd (cc h)
    go None None x h = refl

-- a key under which a catalogue stands is the administrator's
of_administrator : (db : Db) (key : RelKey) (r : Relation) → catalogue_at db key ≡ Some r → key.owner ≡ db.dba
unfolding catalogue_at
of_administrator db key r h = go (same_key key (relation_key db)) refl (same_key key (attribute_key db)) refl h
  where
    go : (a : Bool) → same_key key (relation_key db) ≡ a → (b : Bool) → same_key key (attribute_key db) ≡ b
        → ◌≡◌ {A = Option Relation} (elim a [
          | true ↦ Some (record { info = relation_info db; rows = set_of (map relation_row (all_entries db)) })
          | false ↦ elim b [ true ↦ Some (record { info = attribute_info db; rows = set_of (flat_map attribute_rows (all_entries db)) }) | false ↦ None ]
        ]) (Some r) → key.owner ≡ db.dba
    go true e b f k = ap (λ (x : RelKey). x.owner) (same_keys key (relation_key db) e)
    go false e true f k = ap (λ (x : RelKey). x.owner) (same_keys key (attribute_key db) f)
    go false e false f k = absurd (cc k)

-- what stands under the user's own key is meant
pub own_entry : (db : Db) (user : List ℕ) (ranges : Ranges) (name : List ℕ) (key : RelKey) → option_map (λ (i : RelInfo). i.key) (known_at db (key_of user name)) ≡ Some key
    → Some key ≡ entry_named (scope_of db user ranges) name
unfolding entry_named
own_entry db user ranges name key h =
    go (entry_at db (key_of user name)) refl (catalogue_at db (key_of user name)) refl (sym (ap (option_map (λ (i : RelInfo). i.key)) (known_parts db (key_of user name))) ∙ h)
  where
    -- a catalogue stands under the administrator's key, which is the user's
    catalogue : (r : Relation) → catalogue_at db (key_of user name) ≡ Some r → entry_at db (key_of user name) ≡ None → r.info.key ≡ key
        → ◌≡◌ {A = Option RelKey} (Some key)
        (elim (entry_at db (key_of db.dba name)) [
          | Some other ↦ Some other.key
          | None ↦ option_map (λ (i : RelInfo). i.key) (info_at db (key_of db.dba name))
        ])
    catalogue r f e k =
        let mine : user ≡ db.dba = of_administrator db (key_of user name) r f in
        let none : entry_at db (key_of db.dba name) ≡ None = ap (λ owner. entry_at db (key_of owner name)) (sym mine) ∙ e in
        let there : info_at db (key_of db.dba name) ≡ Some r.info =
        catalogue_else db (key_of db.dba name) none ∙ ap info_in (ap (λ owner. catalogue_at db (key_of owner name)) (sym mine) ∙ f) in
        sym (ap (λ o. elim o as (λ x. Option RelKey) [ Some other ↦ Some other.key | None ↦ option_map (λ (i : RelInfo). i.key) (info_at db (key_of db.dba name)) ]) none
        ∙ ap (option_map (λ (i : RelInfo). i.key)) there ∙ ap (λ k. Some k) k)

    go : (own : Option RelInfo) → entry_at db (key_of user name) ≡ own → (c : Option Relation) → catalogue_at db (key_of user name) ≡ c
        → option_map (λ (i : RelInfo). i.key) (option_or own (info_in c)) ≡ Some key
        → ◌≡◌ {A = Option RelKey} (Some key) (elim own [
          | Some own ↦ Some own.key
          | None ↦ elim (entry_at db (key_of db.dba name)) [ Some other ↦ Some other.key | None ↦ option_map (λ (i : RelInfo). i.key) (info_at db (key_of db.dba name)) ]
        ])
    go (Some own) e c f k = sym k
    go None e None f k = absurd (cc k)
    go None e (Some r) f k = catalogue r f e (cc k)

-- where nothing stands there, what stands under the administrator's is
pub other_entry : (db : Db) (user : List ℕ) (ranges : Ranges) (name : List ℕ) → option_map (λ (i : RelInfo). i.key) (known_at db (key_of user name)) ≡ None
    → option_map (λ (i : RelInfo). i.key) (known_at db (key_of db.dba name)) ≡ entry_named (scope_of db user ranges) name
unfolding entry_named
other_entry db user ranges name h =
    ap (option_map (λ (i : RelInfo). i.key)) (known_parts db (key_of db.dba name))
    ∙ go (entry_at db (key_of user name)) (entry_at db (key_of db.dba name)) refl (catalogue_at db (key_of user name)) (sym (ap (option_map (λ (i : RelInfo). i.key)) (known_parts db (key_of user name))) ∙ h)
  where
    go : (own other : Option RelInfo) → entry_at db (key_of db.dba name) ≡ other → (c : Option Relation) → option_map (λ (i : RelInfo). i.key) (option_or own (info_in c)) ≡ None
        → ◌≡◌ {A = Option RelKey} (option_map (λ (i : RelInfo). i.key) (option_or other (info_in (catalogue_at db (key_of db.dba name)))))
        (elim own [
          | Some own ↦ Some own.key
          | None ↦ elim other [ Some other ↦ Some other.key | None ↦ option_map (λ (i : RelInfo). i.key) (info_at db (key_of db.dba name)) ]
        ])
    go (Some own) other e c k = absurd (cc k)
    go None other e (Some r) k = absurd (cc k)
    go None (Some other) e None k = refl
    go None None e None k = ap (option_map (λ (i : RelInfo). i.key)) (sym (catalogue_else db (key_of db.dba name) e))

consed : {X : Type 0} (o : Option X) → cons_option o [] ≡ option_to_list o
consed None = refl
consed (Some x) = refl

-- what is given of one more
pub filter_more : {X Y : Type 0} (f : X → Option Y) (xs : List X) (i : ℕ) (x : X) → i < length xs → x ≡ get_or xs i x
    → filter_map f (take (i + 1) xs) ≡ filter_map f (take i xs) ++ option_to_list (f x)
filter_more f xs i x h e =
    ap (filter_map f) (take_more xs i x h) ∙ filter_map-append f (take i xs) (get_or xs i x ∷ []) ∙ (λ j. filter_map f (take i xs) ++ cons_option (f (sym e j)) [])
    ∙ ap (λ ys. filter_map f (take i xs) ++ ys) (consed (f x))
