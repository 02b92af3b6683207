-- What a database that is known answers.
use Rattle.std.specs.Prelude.{Bool, not, ◌&&◌, List, Option, Some, None, option_map}
use Rattle.std.specs.List.{list_any}
use Rattle.calculus.specs.declared.query.RelKey.{RelKey}
use Rattle.calculus.specs.declared.query.Query.{Query}
use Rattle.calculus.specs.declared.schema.RelInfo.{RelInfo}
use Rattle.calculus.specs.Keys.{has_key}
use Rattle.calculus.specs.Database.{Db, entry_at, view_at}
use Rattle.calculus.specs.Catalogue.{catalogue_at}
use Rattle.calculus.specs.QueryParts.{vars_of}

-- what is known of the relation, view, index or catalogue under a key
unfoldable pub known_at : Db → RelKey → Option RelInfo
known_at db key = elim (entry_at db key) [ Some info ↦ Some info | None ↦ option_map (λ r. r.info) (catalogue_at db key) ]

-- the query of the view under a key
abbrev pub query_at : Db → RelKey → Option Query
query_at db key = option_map (λ v. v.query) (view_at db key)

-- a view other than these names what stands under the key
abbrev pub is_named_by_view : Db → List RelKey → RelKey → Bool
is_named_by_view db but key = list_any (λ v. not (has_key but v.info.key) && has_key (vars_of v.query) key) db.views
