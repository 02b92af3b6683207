-- What stands under a key in the schema of a database: what stands there in the database, without its rows.
use Rattle.std.proofs.Common.{◌≡◌, refl, sym, ap, ◌∙◌, ℕ, true, false, List, [], ◌∷◌, map, ◌++◌, Option, Some, None}
use Rattle.std.specs.Prelude.{Bool, find, is_some, flat_map}
use Rattle.std.specs.Option.{option_map}
use Rattle.calculus.specs.declared.query.RelKey.{RelKey}
use Rattle.calculus.specs.declared.schema.RelInfo.{RelInfo}
use Rattle.calculus.specs.Rows.{set_of}
use Rattle.calculus.specs.Keys.{key_of, same_key}
use Rattle.calculus.specs.Database.{Db, Relation, View, relation_at, is_relation, entries, entry_at, is_there, view_at}
use Rattle.calculus.specs.Catalogue.{relation_key, attribute_key, relation_info, attribute_info, relation_row, attribute_rows, catalogue_at}
use Rattle.calculus.specs.Stored.{Range, Kept, Viewed, range_at, range_info, info_at, attrs_in, attrs_at, kinds_at}
use Rattle.calculus.specs.Finding.{found}
use Rattle.calculus.specs.Schema.{bare, schema_of}

-- the first relation under a key, without its rows
found_bare : (key : RelKey) (relations : List Relation)
    → find (λ r. same_key r.info.key key) (map bare relations) ≡ option_map bare (find (λ r. same_key r.info.key key) relations)
found_bare key [] = refl
found_bare key (r ∷ relations) = by_test (same_key r.info.key key) refl (found_bare key relations)
  where
    by_test : (b : Bool) → same_key r.info.key key ≡ b
        → find (λ (r : Relation). same_key r.info.key key) (map bare relations) ≡ option_map bare (find (λ r. same_key r.info.key key) relations)
        → find (λ (r : Relation). same_key r.info.key key) (bare r ∷ map bare relations) ≡ option_map bare (find (λ r. same_key r.info.key key) (r ∷ relations))
    by_test true e rest = rw e refl
    by_test false e rest = rw (e, rest) refl

pub relation_bare : (db : Db) (key : RelKey) → relation_at (schema_of db) key ≡ option_map bare (relation_at db key)
unfolding schema_of
relation_bare db key = found_bare key db.relations

there_bare : (o : Option Relation) → is_some (option_map bare o) ≡ is_some o
there_bare None = refl
there_bare (Some r) = refl

pub is_relation_alike : (db : Db) (key : RelKey) → is_relation (schema_of db) key ≡ is_relation db key
is_relation_alike db key = ap is_some (relation_bare db key) ∙ there_bare (relation_at db key)

infos_bare : (relations : List Relation) → map (λ (r : Relation). r.info) (map bare relations) ≡ map (λ r. r.info) relations
infos_bare [] = refl
infos_bare (r ∷ relations) = ap (λ is. r.info ∷ is) (infos_bare relations)

pub entries_alike : (db : Db) → entries (schema_of db) ≡ entries db
unfolding schema_of
entries_alike db = ap (λ is. is ++ (map (λ v. v.info) db.views ++ map (λ x. x.info) db.indexes)) (infos_bare db.relations)

pub entry_alike : (db : Db) (key : RelKey) → entry_at (schema_of db) key ≡ entry_at db key
entry_alike db key = ap (find (λ (i : RelInfo). same_key i.key key)) (entries_alike db)

pub is_there_alike : (db : Db) (key : RelKey) → is_there (schema_of db) key ≡ is_there db key
is_there_alike db key = ap is_some (entry_alike db key)

-- the catalogue under a key, where these are the entries
catalogue_by : Db → RelKey → List RelInfo → Option Relation
catalogue_by db key infos = elim (same_key key (relation_key db)) [
  | true ↦ Some (record { info = relation_info db; rows = set_of (map relation_row (relation_info db ∷ attribute_info db ∷ infos)) })
  | false ↦
      elim (same_key key (attribute_key db)) [
        | true ↦ Some (record { info = attribute_info db; rows = set_of (flat_map attribute_rows (relation_info db ∷ attribute_info db ∷ infos)) })
        | false ↦ None
      ]
]

pub catalogue_alike : (db : Db) (key : RelKey) → catalogue_at (schema_of db) key ≡ catalogue_at db key
unfolding catalogue_at schema_of catalogue_by
catalogue_alike db key = ap (catalogue_by db key) (entries_alike db)

-- what doesn't look at the rows that are kept is the same of what a variable ranges over
pub range_alike : {Y : Type 0} (of_range : Option Range → Y) → ((r : Relation) → of_range (Some (Kept (bare r))) ≡ of_range (Some (Kept r)))
    → (db : Db) (key : RelKey) → of_range (range_at (schema_of db) key) ≡ of_range (range_at db key)
unfolding range_at schema_of
range_alike of_range same db key =
    ap (λ r. of_range (elim r [ Some relation ↦ Some (Kept relation) | None ↦ elim (view_at (schema_of db) key) [ Some view ↦ Some (Viewed view) | None ↦ option_map Kept (catalogue_at (schema_of db) key) ] ])) (relation_bare db key)
    ∙ by_relation (relation_at db key)
  where
    by_relation : (r : Option Relation)
        → of_range (elim (option_map bare r) [ Some relation ↦ Some (Kept relation) | None ↦ elim (view_at (schema_of db) key) [ Some view ↦ Some (Viewed view) | None ↦ option_map Kept (catalogue_at (schema_of db) key) ] ])
        ≡ of_range (elim r [ Some relation ↦ Some (Kept relation) | None ↦ elim (view_at db key) [ Some view ↦ Some (Viewed view) | None ↦ option_map Kept (catalogue_at db key) ] ])
    by_relation (Some relation) = same relation
    by_relation None = ap (λ c. of_range (elim (view_at db key) [ Some view ↦ Some (Viewed view) | None ↦ option_map Kept c ])) (catalogue_alike db key)

pub info_alike : (db : Db) (key : RelKey) → info_at (schema_of db) key ≡ info_at db key
unfolding info_at
info_alike db key = range_alike (option_map range_info) (λ r. refl) db key

pub attrs_alike : (db : Db) (key : RelKey) → attrs_at (schema_of db) key ≡ attrs_at db key
attrs_alike db key = ap attrs_in (info_alike db key)

pub kinds_alike : (db : Db) (key : RelKey) → kinds_at (schema_of db) key ≡ kinds_at db key
kinds_alike db key = ap (map (λ a. a.kind)) (attrs_alike db key)

pub found_alike : (db : Db) (user name : List ℕ) → found (schema_of db) user name ≡ found db user name
unfolding found schema_of
found_alike db user name =
    ap (λ i. elim i [ Some own ↦ Some own | None ↦ info_at (schema_of db) (key_of db.dba name) ]) (info_alike db (key_of user name))
    ∙ ap (λ i. elim (info_at db (key_of user name)) [ Some own ↦ Some own | None ↦ i ]) (info_alike db (key_of db.dba name))
