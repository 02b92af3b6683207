-- Two databases of one schema have the same but rows.
use Rattle.std.proofs.Common.{◌≡◌, refl, sym, ap, ◌∙◌, ℕ, Bool, true, false, cond, List, [], ◌∷◌, ◌++◌, map, Option, Some, None, option_map, find, flat_map}
use Rattle.calculus.specs.declared.query.RelKey.{RelKey}
use Rattle.calculus.specs.declared.query.AggSource.{AggSource, Named}
use Rattle.calculus.specs.declared.query.QAgg.{QAgg}
use Rattle.calculus.specs.declared.schema.RelInfo.{RelInfo}
use Rattle.calculus.specs.Tree.{rows_of_query}
use Rattle.calculus.specs.Rows.{Row, set_of}
use Rattle.calculus.specs.Keys.{same_key}
use Rattle.calculus.specs.Who.{Who, Unrestricted, AsUser}
use Rattle.calculus.specs.Database.{Db, Relation, View, entries, relation_at, view_at}
use Rattle.calculus.specs.Catalogue.{relation_key, attribute_key, relation_info, attribute_info, relation_row, attribute_rows, catalogue_at}
use Rattle.calculus.specs.Stored.{Range, Kept, Viewed, range_at, range_info, info_at, attrs_in, kinds_at}
use Rattle.calculus.specs.Rights.{Right, may}
use Rattle.calculus.specs.Kinds.{kind_of, is_text_kind}
use Rattle.calculus.specs.declared.value.Value.TheVariants.{Int, Text}
use Rattle.std.specs.Prelude.{pos, if◌then◌else◌}
use Rattle.calculus.specs.Aggregate.{source_kinds, none_value}
use Rattle.calculus.specs.Schema.{bare, schema_of}

the : {X : Type 0} (x y : X) → Some x ≡ Some y → x ≡ y
the x y h = cc h

-- ---- a database and its schema

entries_bare : (db : Db) → entries (schema_of db) ≡ entries db
unfolding schema_of
entries_bare db = ap (λ infos. infos ++ (map (λ v. v.info) db.views ++ map (λ x. x.info) db.indexes)) (infos_bare db.relations)
  where
    infos_bare : (rs : List Relation) → map (λ r. r.info) (map bare rs) ≡ map (λ r. r.info) rs
    infos_bare [] = refl
    infos_bare (r ∷ rs) = ap (λ infos. r.info ∷ infos) (infos_bare rs)

catalogue_bare : (db : Db) (key : RelKey) → catalogue_at (schema_of db) key ≡ catalogue_at db key
unfolding schema_of catalogue_at
catalogue_bare db key = ap (catalogue_of (same_key key (relation_key db)) (same_key key (attribute_key db))) (entries_bare db)
  where
    catalogue_of : Bool → Bool → List RelInfo → Option Relation
    catalogue_of a b infos = elim a [
      | true ↦ Some (record { info = relation_info db; rows = set_of (map relation_row (relation_info db ∷ attribute_info db ∷ infos)) })
      | false ↦
          elim b [
            | true ↦ Some (record { info = attribute_info db; rows = set_of (flat_map attribute_rows (relation_info db ∷ attribute_info db ∷ infos)) })
            | false ↦ None
          ]
    ]

relation_bare : (db : Db) (key : RelKey) → relation_at (schema_of db) key ≡ option_map bare (relation_at db key)
unfolding schema_of
relation_bare db key = found db.relations
  where
    is : Relation → Bool
    is r = same_key r.info.key key

    go : (r : Relation) (rs : List Relation) (b : Bool) → find is (map bare rs) ≡ option_map bare (find is rs)
        → cond b (Some (bare r)) (find is (map bare rs)) ≡ option_map bare (cond b (Some r) (find is rs))
    go r rs true later = refl
    go r rs false later = later

    found : (rs : List Relation) → find is (map bare rs) ≡ option_map bare (find is rs)
    found [] = refl
    found (r ∷ rs) = go r rs (is r) (found rs)

views_bare : (db : Db) → (schema_of db).views ≡ db.views
unfolding schema_of
views_bare db = refl

may_bare : (db : Db) (who : Who) (right : Right) (attrs : List ℕ) (key : RelKey) (row : Row) → may (schema_of db) who right attrs key row ≡ may db who right attrs key row
unfolding schema_of may
may_bare db Unrestricted right attrs key row = refl
may_bare db (AsUser asker) right attrs key row = refl

-- ---- what two ranges have in common

-- nothing both times, the same view, or rows that are kept of the same relation or catalogue
abbrev pub AreAlike : Option Range → Option Range → Type 0
AreAlike None None = Unit {0}
AreAlike None (Some s) = ⊥
AreAlike (Some r) None = ⊥
AreAlike (Some (Kept relation)) (Some (Kept other)) = relation.info ≡ other.info
AreAlike (Some (Kept relation)) (Some (Viewed other)) = ⊥
AreAlike (Some (Viewed view)) (Some (Kept other)) = ⊥
AreAlike (Some (Viewed view)) (Some (Viewed other)) = view ≡ other

pub nothing_alike : (r s : Option Range) → AreAlike r s → r ≡ None → s ≡ None
nothing_alike None None h e = refl
nothing_alike None (Some s) h e = absurd h
nothing_alike (Some r) s h e = cc e

pub kept_alike : (r s : Option Range) (relation : Relation) → AreAlike r s → r ≡ Some (Kept relation) → (other : Relation) × (s ≡ Some (Kept other))
kept_alike None s relation h e = cc e
kept_alike (Some r) None relation h e = absurd h
kept_alike (Some (Kept first)) (Some (Kept other)) relation h e = (other, refl)
kept_alike (Some (Kept first)) (Some (Viewed other)) relation h e = absurd h
kept_alike (Some (Viewed view)) s relation h e = cc e

pub view_alike : (r s : Option Range) (view : View) → AreAlike r s → r ≡ Some (Viewed view) → s ≡ Some (Viewed view)
view_alike None s view h e = cc e
view_alike (Some r) None view h e = absurd h
view_alike (Some (Kept relation)) s view h e = cc e
view_alike (Some (Viewed first)) (Some (Kept other)) view h e = absurd h
view_alike (Some (Viewed first)) (Some (Viewed other)) view h e = ap (λ v. Some (Viewed v)) (sym h) ∙ e

infos_alike : (r s : Option Range) → AreAlike r s → option_map range_info r ≡ option_map range_info s
infos_alike None None h = refl
infos_alike None (Some s) h = absurd h
infos_alike (Some r) None h = absurd h
infos_alike (Some (Kept relation)) (Some (Kept other)) h = ap Some h
infos_alike (Some (Kept relation)) (Some (Viewed other)) h = absurd h
infos_alike (Some (Viewed view)) (Some (Kept other)) h = absurd h
infos_alike (Some (Viewed view)) (Some (Viewed other)) h = ap (λ v. Some v.info) h

-- ---- two databases of one schema

module _ (db other : Db) (same : schema_of db ≡ schema_of other) where
  ranges_found : (r s : Option Relation) → option_map bare r ≡ option_map bare s → (v w : Option View) → v ≡ w → (c d : Option Relation) → c ≡ d
      → AreAlike (elim r [ Some relation ↦ Some (Kept relation) | None ↦ elim v [ Some view ↦ Some (Viewed view) | None ↦ option_map Kept c ] ])
      (elim s [ Some relation ↦ Some (Kept relation) | None ↦ elim w [ Some view ↦ Some (Viewed view) | None ↦ option_map Kept d ] ])
  ranges_found (Some r) (Some s) h v w i c d j = ap (λ x. x.info) (the (bare r) (bare s) h)
  ranges_found (Some r) None h v w i c d j = cc h
  ranges_found None (Some s) h v w i c d j = cc h
  ranges_found None None h (Some v) (Some w) i c d j = the v w i
  ranges_found None None h (Some v) None i c d j = cc i
  ranges_found None None h None (Some w) i c d j = cc i
  ranges_found None None h None None i (Some c) (Some d) j = ap (λ x. x.info) (the c d j)
  ranges_found None None h None None i (Some c) None j = cc j
  ranges_found None None h None None i None (Some d) j = cc j
  ranges_found None None h None None i None None j = tt

  pub ranges_alike : (key : RelKey) → AreAlike (range_at db key) (range_at other key)
  unfolding range_at
  ranges_alike key =
      ranges_found (relation_at db key) (relation_at other key) (sym (relation_bare db key) ∙ ap (λ d. relation_at d key) same ∙ relation_bare other key)
      (view_at db key) (view_at other key) (ap (find (λ v. same_key v.info.key key)) (sym (views_bare db) ∙ ap (λ d. d.views) same ∙ views_bare other))
      (catalogue_at db key) (catalogue_at other key) (sym (catalogue_bare db key) ∙ ap (λ d. catalogue_at d key) same ∙ catalogue_bare other key)

  pub may_same : (who : Who) (right : Right) (attrs : List ℕ) (key : RelKey) (row : Row) → may db who right attrs key row ≡ may other who right attrs key row
  may_same who right attrs key row =
      sym (may_bare db who right attrs key row) ∙ ap (λ d. may d who right attrs key row) same ∙ may_bare other who right attrs key row

  pub kinds_same : (key : RelKey) → kinds_at db key ≡ kinds_at other key
  unfolding info_at
  kinds_same key = ap (λ info. map (λ a. a.kind) (attrs_in info)) (infos_alike (range_at db key) (range_at other key) (ranges_alike key))

  source_kinds_same : (source : AggSource) → source_kinds db source ≡ source_kinds other source
  source_kinds_same (Named key) = kinds_same key
  source_kinds_same (rows_of_query q) = refl

  -- the least and the greatest of no value
  pub none_same : (g : QAgg) → none_value db g ≡ none_value other g
  none_same g = ap (λ kinds. if is_text_kind (kind_of g.arg (kinds ∷ [])) then Text [] else Int (pos 0)) (source_kinds_same g.source)
