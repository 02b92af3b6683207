-- What a variable may range over, in one place: a base relation or a catalogue, whose rows are kept, or a view.
use Rattle.std.specs.Prelude.{List, [], map, Option, Some, None}
use Rattle.std.specs.Option.{option_map}
use Rattle.calculus.specs.declared.value.Kind.{Kind}
use Rattle.calculus.specs.declared.query.RelKey.{RelKey}
use Rattle.calculus.specs.declared.schema.Attr.{Attr}
use Rattle.calculus.specs.declared.schema.RelInfo.{RelInfo}
use Rattle.calculus.specs.Rows.{Row}
use Rattle.calculus.specs.Database.{Db, Relation, View, relation_at, view_at}
use Rattle.calculus.specs.Catalogue.{catalogue_at}

-- rows that are kept, or a view
pub data Range : Type 0 where
  Kept : Relation → Range
  Viewed : View → Range

-- what stands under a key: the base relation, else the view, else the catalogue; an index is nothing to range over
unfoldable pub range_at : Db → RelKey → Option Range
range_at db key = elim (relation_at db key) [
  | Some relation ↦ Some (Kept relation)
  | None ↦ elim (view_at db key) [ Some view ↦ Some (Viewed view) | None ↦ option_map Kept (catalogue_at db key) ]
]

-- what is known of it without its rows
abbrev pub range_info : Range → RelInfo
range_info (Kept relation) = relation.info
range_info (Viewed view) = view.info

-- what is known, without rows, of the base relation, view or catalogue under a key
unfoldable pub info_at : Db → RelKey → Option RelInfo
info_at db key = option_map range_info (range_at db key)

-- the rows that are kept
abbrev pub kept_rows : Option Range → List Row
kept_rows None = []
kept_rows (Some (Kept relation)) = relation.rows
kept_rows (Some (Viewed view)) = []

-- the rows of the base relation or catalogue under a key
abbrev pub rows_at : Db → RelKey → List Row
rows_at db key = kept_rows (range_at db key)

-- the attributes of what is there
abbrev pub attrs_in : Option RelInfo → List Attr
attrs_in None = []
attrs_in (Some info) = info.attrs

-- the attributes of the base relation, view or catalogue under a key
abbrev pub attrs_at : Db → RelKey → List Attr
attrs_at db key = attrs_in (info_at db key)

-- the kinds of these attributes
abbrev pub kinds_at : Db → RelKey → List Kind
kinds_at db key = map (λ a. a.kind) (attrs_at db key)
