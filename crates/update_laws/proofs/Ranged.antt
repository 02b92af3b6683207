-- The rows of the variables of an update: of base relations, catalogues and views.
use Rattle.std.proofs.Common.{◌≡◌, refl, sym, ap, subst, ◌∙◌, ℕ, zero, suc, ◌+◌, ◌==◌, nat_le, Bool, true, false, ◌&&◌, IsTrue, List, [], ◌∷◌, Option, Some, None}
use Rattle.std.specs.Prelude.{is_some, option_map}
use Rattle.std.specs.List.{list_all, enumerate_from}
use Rattle.calculus.specs.declared.query.RelKey.{RelKey}
use Rattle.calculus.specs.declared.schema.Attr.{Attr}
use Rattle.calculus.specs.declared.request.Update.{Update}
use Rattle.calculus.specs.declared.value.Value.{Value}
use Rattle.calculus.specs.declared.value.Value.TheVariants.{Int, Text}
use Rattle.calculus.specs.declared.value.Kind.{Kind}
use Rattle.calculus.specs.declared.value.Kind.TheVariants.{Of, Wide}
use Rattle.calculus.specs.Keys.{same_key}
use Rattle.calculus.specs.Rows.{Row}
use Rattle.calculus.specs.Text.{is_text}
use Rattle.calculus.specs.Value.{fits}
use Rattle.calculus.specs.Who.{Who}
use Rattle.calculus.specs.Database.{Db, Relation, View, relation_at, view_at, is_relation}
use Rattle.calculus.specs.Catalogue.{catalogue_at}
use Rattle.calculus.specs.Stored.{Range, Kept, Viewed, range_at, range_info, info_at, kept_rows, attrs_in, attrs_at, rows_at}
use Rattle.calculus.specs.Rights.{Right, Retrieve, may}
use Rattle.calculus.specs.QueryParts.{vars_of}
use Rattle.calculus.specs.Used.{used_in_query}
use Rattle.calculus.specs.Assignments.{variable_rows, changed, may_read, changed_rows}
use Rattle.calculus.specs.VariableRows.{range_rows, view_rows, rows_within, rows_of}
use Rattle.calculus.specs.Limits.{greatest_level, most_levels}
use Rattle.calculus.specs.Spelled.{query_is_spelled}
use Rattle.calculus.specs.Storable.{query_is_storable}
use Rattle.calculus.specs.TreeLevels.{query_levels}
use Rattle.calculus.proofs.OldRows.{seen_rows, seen_assigned}
use Rattle.calculus.specs.IsDatabase.{IsDatabase, value_fits, row_fits, relation_rows_fit}
use Rattle.quel_meaning.proofs.DatabaseFacts.{found_passes}
use Rattle.quel_meaning.proofs.Each.{Each, in_filter, each_to, each_passes}
use Rattle.update_laws.specs.Proper.{is_proper, row_is_proper}
use Rattle.update_laws.proofs.Lists.{two_each}
use Rattle.update_laws.proofs.Texts.{both, each}
use Rattle.plan_laws.proofs.Created.{viewed_is_found}
use Rattle.update_laws.proofs.Queried.{AllProper, variable_proper, query_proper}
use Rattle.update_laws.proofs.Assigned.{OfVariable, Chosen, OfRows, chosen}
use Rattle.update_laws.proofs.Catalogued.{Proper, RowsProper, catalogue_proper}

-- ---- base relations

-- what is made of the three that may stand under a key
abbrev ranged : Option Relation → Option View → Option Relation → Option Range
ranged r v c = elim r as (λ o. Option Range) [
  | Some relation ↦ Some (Kept relation)
  | None ↦ elim v as (λ o. Option Range) [ Some view ↦ Some (Viewed view) | None ↦ option_map Kept c ]
]

range_is : (db : Db) (key : RelKey) (relation : Relation) → relation_at db key ≡ Some relation → range_at db key ≡ Some (Kept relation)
unfolding range_at
range_is db key relation e = ap (λ o. ranged o (view_at db key) (catalogue_at db key)) e

pub its_rows : (db : Db) (key : RelKey) (relation : Relation) → relation_at db key ≡ Some relation → rows_at db key ≡ relation.rows
its_rows db key relation e = ap kept_rows (range_is db key relation e)

pub its_attrs : (db : Db) (key : RelKey) (relation : Relation) → relation_at db key ≡ Some relation → attrs_at db key ≡ relation.info.attrs
unfolding info_at
its_attrs db key relation e = ap (λ r. attrs_in (option_map range_info r)) (range_is db key relation e)

relation_fits : (db : Db) (key : RelKey) (relation : Relation) → IsDatabase db → relation_at db key ≡ Some relation → IsTrue (relation_rows_fit relation)
relation_fits db key relation is e = found_passes (λ (r : Relation). same_key r.info.key key) relation_rows_fit db.relations relation is.rows_fit e

-- the rows of a base relation fit its attributes
pub stored_fit : (db : Db) (key : RelKey) → IsDatabase db → IsTrue (is_relation db key) → IsTrue (list_all (row_fits (attrs_at db key)) (rows_at db key))
stored_fit db key is there = go (relation_at db key) refl there
  where
    go : (o : Option Relation) → relation_at db key ≡ o → IsTrue (is_some o) → IsTrue (list_all (row_fits (attrs_at db key)) (rows_at db key))
    go None e h = cc h
    go (Some r) e h = (λ i. list_all (row_fits (its_attrs db key r e i)) (its_rows db key r e i)) ∙ relation_fits db key r is e

fitting_value : (v : Value) (k : Kind) → IsTrue (value_fits v k) → IsTrue (is_proper v)
fitting_value v Wide h = cc h
fitting_value (Int n) (Of d) h = refl
fitting_value (Text t) (Of d) h = (both (fits (Text t) d) (is_text t) h).1

fitting_row : (attrs : List Attr) (row : Row) → IsTrue (row_fits attrs row) → Proper row
fitting_row [] [] h = refl
fitting_row [] (v ∷ row) h = cc h
fitting_row (a ∷ attrs) [] h = refl
fitting_row (a ∷ attrs) (v ∷ row) h =
    let parts = both (value_fits v a.kind) (row_fits attrs row) h in
    each (is_proper v) (row_is_proper row) (fitting_value v a.kind parts.0) (fitting_row attrs row parts.1)

-- the rows of what is kept are of numbers and texts
pub stored_proper : (db : Db) (key : RelKey) → IsDatabase db → Each Proper (rows_at db key)
unfolding range_at
stored_proper db key is = go (relation_at db key) refl
  where
    of_catalogue : (c : Option Relation) → RowsProper c → Each Proper (kept_rows (option_map Kept c))
    of_catalogue None h = tt
    of_catalogue (Some r) h = h

    no_relation : (v : Option View) → Each Proper (kept_rows (ranged None v (catalogue_at db key)))
    no_relation None = of_catalogue (catalogue_at db key) (catalogue_proper db key is)
    no_relation (Some view) = tt

    go : (o : Option Relation) → relation_at db key ≡ o → Each Proper (kept_rows (ranged o (view_at db key) (catalogue_at db key)))
    go None e = no_relation (view_at db key)
    go (Some r) e =
        each_to (λ row. IsTrue (row_fits r.info.attrs row)) Proper (fitting_row r.info.attrs) r.rows (each_passes (row_fits r.info.attrs) r.rows (relation_fits db key r is e))

-- ---- the rows of a variable

-- the constants of a view stand
view_spelled : (db : Db) (key : RelKey) (view : View) → IsDatabase db → range_at db key ≡ Some (Viewed view) → IsTrue (query_is_spelled view.query)
view_spelled db key view is e =
    (both (nat_le (query_levels view.query) most_levels) (query_is_spelled view.query)
    (found_passes (λ (v : View). same_key v.info.key key) (λ (v : View). query_is_storable v.query) db.views view is.storable_views (viewed_is_found db key view e))).1

-- the rows of what stands under a key, where those of a view are such
ranged_proper : (db : Db) (who : Who) (key : RelKey) (attrs : List ℕ) (of_view : View → List Row) → IsDatabase db → ((view : View) → range_at db key ≡ Some (Viewed view) → Each Proper (of_view view))
    → Each Proper (range_rows of_view db who key attrs (range_at db key))
ranged_proper db who key attrs of_view is views = go (range_at db key) refl
  where
    go : (o : Option Range) → range_at db key ≡ o → Each Proper (range_rows of_view db who key attrs o)
    go None e = tt
    go (Some (Kept relation)) e = in_filter Proper (may db who Retrieve attrs key) relation.rows (subst (Each Proper) (ap kept_rows e) (stored_proper db key is))
    go (Some (Viewed view)) e = views view e

within_proper : (db : Db) (who : Who) → IsDatabase db → (n : ℕ) → AllProper (rows_within n db who)
within_proper db who is zero key attrs = ranged_proper db who key attrs (λ view. []) is (λ view e. tt)
within_proper db who is (suc n) key attrs =
    ranged_proper db who key attrs (view_rows (rows_within n db who)) is
    (λ view e. query_proper (rows_within n db who) (within_proper db who is n) view.query (view_spelled db key view is e))

-- so it is of base relations, catalogues and views
pub named_proper : (db : Db) (who : Who) → IsDatabase db → AllProper (rows_of db who)
unfolding rows_of
named_proper db who is = within_proper db who is greatest_level

-- the place is that of the variable that is changed
abbrev pub is_at : Option (ℕ × Right) → ℕ → Bool
is_at o v = elim o as (λ o. Bool) [ None ↦ false | Some c ↦ c.0 == v ]

-- a row of a variable holds numbers and texts; where the variable is changed and ranges over a base relation, it fits that
abbrev pub RowOf : Db → Option (ℕ × Right) → OfVariable
RowOf db o v key row = Proper row × (is_at o v ≡ true → IsTrue (is_relation db key) → IsTrue (row_fits (attrs_at db key) row))

each_any : (P : Row → Type 0) → ((row : Row) → P row) → (rows : List Row) → Each P rows
each_any P f [] = tt
each_any P f (row ∷ rows) = (f row, each_any P f rows)

stored_are : (db : Db) (o : Option (ℕ × Right)) (v : ℕ) (key : RelKey) → IsDatabase db → Each (RowOf db o v key) (rows_at db key)
stored_are db o v key is =
    two_each Proper (λ row. is_at o v ≡ true → IsTrue (is_relation db key) → IsTrue (row_fits (attrs_at db key) row)) (rows_at db key) (stored_proper db key is)
    (go (is_relation db key) refl)
  where
    go : (b : Bool) → is_relation db key ≡ b → Each (λ row. is_at o v ≡ true → IsTrue b → IsTrue (row_fits (attrs_at db key) row)) (rows_at db key)
    go true e =
        each_to (λ row. IsTrue (row_fits (attrs_at db key) row)) (λ row. is_at o v ≡ true → IsTrue true → IsTrue (row_fits (attrs_at db key) row)) (λ row h a b. h) (rows_at db key)
        (each_passes (row_fits (attrs_at db key)) (rows_at db key) (stored_fit db key is e))
    go false e = each_any (λ row. is_at o v ≡ true → IsTrue false → IsTrue (row_fits (attrs_at db key) row)) (λ row a b. cc b) (rows_at db key)

seen_rows_are : (db : Db) (who : Who) (u : Update) (v : ℕ) (key : RelKey) → IsDatabase db → Each (RowOf db (changed u) v key) (seen_rows db who (rows_of db who) u v key)
seen_rows_are db who u v key is = go (changed u)
  where
    others : List Row
    others = variable_rows (rows_of db who) u.query v key

    read : List ℕ
    read = used_in_query v u.query

    unchanged : (o : Option (ℕ × Right)) → is_at o v ≡ false → Each (RowOf db o v key) others
    unchanged o e = each_to Proper (RowOf db o v key) (λ row p. (p, λ h. cc (sym h ∙ e))) others (variable_proper (rows_of db who) (named_proper db who is) u.query v key)

    choice : (c : ℕ × Right) (b : Bool) → (c.0 == v) ≡ b
        → Each (RowOf db (Some c) v key) (elim b as (λ b. List Row) [ true ↦ changed_rows db who c.1 u.places read key | false ↦ others ])
    choice c true e = in_filter (RowOf db (Some c) v key) (λ row. may db who c.1 u.places key row && may_read db who read key row) (rows_at db key) (stored_are db (Some c) v key is)
    choice c false e = unchanged (Some c) e

    go : (o : Option (ℕ × Right)) → Each (RowOf db o v key) (elim o as (λ o. List Row) [
      | None ↦ others
      | Some c ↦ elim (c.0 == v) as (λ b. List Row) [ true ↦ changed_rows db who c.1 u.places read key | false ↦ others ]
    ])
    go None = unchanged None refl
    go (Some c) = choice c (c.0 == v) refl

-- ---- assignments

-- each row of each assignment of an update is such
pub assignments_are : (db : Db) (who : Who) (u : Update) → IsDatabase db → Each (Chosen (RowOf db (changed u)) 0 (vars_of u.query)) (seen_assigned db who (rows_of db who) u)
assignments_are db who u is = chosen (RowOf db (changed u)) (seen_rows db who (rows_of db who) u) 0 (vars_of u.query) (of_keys 0 (vars_of u.query))
  where
    of_keys : (n : ℕ) (keys : List RelKey) → OfRows (RowOf db (changed u)) (seen_rows db who (rows_of db who) u) (enumerate_from n keys)
    of_keys n [] = tt
    of_keys n (key ∷ keys) = (seen_rows_are db who u n key is, of_keys (n + 1) keys)
