-- The rows of base relations and catalogues suit their attributes, and are few.
use Rattle.std.specs.Prelude.{◌≡◌, ℕ, zero, suc, ◌≤◌, true, IsTrue, List, [], ◌∷◌, length, nat_le, option_map, Option, Some, None}
use Rattle.std.proofs.Common.{refl, arith}
use Rattle.std.proofs.lemmas.Bool.{and_parts, leb-true}
use Rattle.calculus.specs.declared.query.RelKey.{RelKey}
use Rattle.calculus.specs.declared.schema.Attr.{Attr}
use Rattle.calculus.specs.declared.value.Kind.{Kind}
use Rattle.calculus.specs.declared.value.Kind.TheVariants.{Of, Wide}
use Rattle.calculus.specs.declared.value.Value.{Value}
use Rattle.calculus.specs.Catalogue.{catalogue_at}
use Rattle.calculus.specs.Database.{Db, Relation, View, relation_at, view_at}
use Rattle.calculus.specs.IsDatabase.{IsDatabase, value_fits, row_fits, relation_rows_fit}
use Rattle.calculus.specs.Keys.{same_key}
use Rattle.calculus.specs.Limits.{greatest_level, most_rows}
use Rattle.calculus.specs.Rights.{Retrieve, may}
use Rattle.calculus.specs.Rows.{Row}
use Rattle.calculus.specs.Stored.{Range, Kept, Viewed, range_at, range_info, info_at, attrs_in, kinds_at}
use Rattle.calculus.specs.VariableRows.{range_rows, rows_within, rows_of}
use Rattle.calculus.specs.Who.{Who}
use Rattle.quel_meaning.specs.FitQueries.{keeps_rows, is_kept}
use Rattle.quel_meaning.proofs.DatabaseFacts.{found_passes}
use Rattle.quel_meaning.proofs.Each.{Each, in_filter, each_to, each_passes}
use Rattle.quel_network.specs.CatalogueRows.{attr_kinds, RowsStand, RelationStands, catalogue_stands}
use Rattle.quel_network.specs.Parts.{filter_short}
use Rattle.quel_network.specs.Suiting.{SuitsKind, RowSuits}

-- ---- base relations

value_suits : (v : Value) (k : Kind) → IsTrue (value_fits v k) → SuitsKind k v
value_suits v Wide h = absurd (cc h)
value_suits v (Of domain) h = h

row_suits : (attrs : List Attr) (row : Row) → IsTrue (row_fits attrs row) → RowSuits (attr_kinds attrs) row
row_suits [] row h = tt
row_suits (a ∷ attrs) [] h = tt
row_suits (a ∷ attrs) (v ∷ row) h =
    let parts = and_parts (value_fits v a.kind) (row_fits attrs row) h in
    (value_suits v a.kind parts.0, row_suits attrs row parts.1)

relation_stands : (db : Db) (key : RelKey) (r : Relation) → IsDatabase db → relation_at db key ≡ Some r → RowsStand r
relation_stands db key r is e =
    let fit = found_passes (λ (x : Relation). same_key x.info.key key) relation_rows_fit db.relations r is.rows_fit e in
    let few = leb-true (length r.rows) 100000 (found_passes (λ (x : Relation). same_key x.info.key key) (λ (x : Relation). nat_le (length x.rows) most_rows) db.relations r is.few_rows e) in
    record {
      suit = each_to (λ row. IsTrue (row_fits r.info.attrs row)) (RowSuits (attr_kinds r.info.attrs)) (row_suits r.info.attrs) r.rows (each_passes (row_fits r.info.attrs) r.rows fit);
      few = omega (arith, few);
    }

-- ---- what stands under a key

-- where rows are kept, they suit and are few
abbrev RangeStands : Option Range → Type 0
RangeStands None = Unit {0}
RangeStands (Some (Kept r)) = RowsStand r
RangeStands (Some (Viewed v)) = Unit {0}

range_stands : (db : Db) (key : RelKey) → IsDatabase db → RangeStands (range_at db key)
unfolding range_at
range_stands db key is = at_relation (relation_at db key) refl
  where
    at_catalogue : (c : Option Relation) → RelationStands c → RangeStands (option_map Kept c)
    at_catalogue None h = tt
    at_catalogue (Some r) h = h

    at_view : (v : Option View) → RangeStands (elim v as (λ v. Option Range) [ Some view ↦ Some (Viewed view) | None ↦ option_map Kept (catalogue_at db key) ])
    at_view None = at_catalogue (catalogue_at db key) (catalogue_stands db key is)
    at_view (Some view) = tt

    at_relation : (r : Option Relation) → relation_at db key ≡ r → RangeStands (elim r as (λ r. Option Range) [
      | Some relation ↦ Some (Kept relation)
      | None ↦ elim (view_at db key) as (λ v. Option Range) [ Some view ↦ Some (Viewed view) | None ↦ option_map Kept (catalogue_at db key) ]
    ])
    at_relation None e = at_view (view_at db key)
    at_relation (Some r) e = relation_stands db key r is e

-- ---- the rows of a variable

-- rows that suit these kinds, at most a million
pub record FewSuit (kinds : List Kind) (rows : List Row) : Type 0 where
  pub suit : Each (RowSuits kinds) rows
  pub few : length rows ≤ 1000000

-- the kinds of the attributes of what stands there
abbrev range_kinds : Option Range → List Kind
range_kinds range = attr_kinds (attrs_in (option_map range_info range))

range_suits : (of_view : View → List Row) (db : Db) (who : Who) (key : RelKey) (attrs : List ℕ) (range : Option Range) → RangeStands range → keeps_rows range ≡ true
    → FewSuit (range_kinds range) (range_rows of_view db who key attrs range)
range_suits of_view db who key attrs None h kept = absurd (cc kept)
range_suits of_view db who key attrs (Some (Viewed view)) h kept = absurd (cc kept)
range_suits of_view db who key attrs (Some (Kept r)) h kept =
    let shorter = filter_short (may db who Retrieve attrs key) r.rows in
    let few = h.few in
    record { suit = in_filter (RowSuits (attr_kinds r.info.attrs)) (may db who Retrieve attrs key) r.rows h.suit; few = omega (arith, shorter, few) }

within_suits : (n : ℕ) (db : Db) (who : Who) (key : RelKey) (attrs : List ℕ) → IsDatabase db → is_kept db key ≡ true → FewSuit (kinds_at db key) (rows_within n db who key attrs)
unfolding info_at
within_suits zero db who key attrs is kept = range_suits _ db who key attrs (range_at db key) (range_stands db key is) kept
within_suits (suc n) db who key attrs is kept = range_suits _ db who key attrs (range_at db key) (range_stands db key is) kept

-- the rows of a base relation or a catalogue, for whomever
pub kept_suit : (db : Db) (who : Who) (key : RelKey) (attrs : List ℕ) → IsDatabase db → is_kept db key ≡ true → FewSuit (kinds_at db key) (rows_of db who key attrs)
unfolding rows_of
kept_suit db who key attrs is kept = within_suits greatest_level db who key attrs is kept
