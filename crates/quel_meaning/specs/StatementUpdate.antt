-- The updates that statements are, where the names in them were found.
use Rattle.std.specs.Prelude.{ℕ, List, [], map, Option}
use Rattle.std.specs.List.{enumerate_from}
use Rattle.calculus.specs.declared.query.QQual.{True}
use Rattle.calculus.specs.declared.query.Query.{Query}
use Rattle.calculus.specs.declared.request.Update.{Update}
use Rattle.calculus.specs.declared.request.UpdateOp.{UpdateOp}
use Rattle.calculus.specs.declared.request.UpdateOp.TheVariants as op
use Rattle.calculus.specs.declared.schema.RelInfo.{RelInfo}
use Rattle.calculus.specs.Keys.{key_of}
use Rattle.calculus.specs.QueryParts.{targets_of}
use Rattle.quel_meaning.specs.Scope.{Scope, named, ranged, key_found, place_found}

-- the titles of a query's targets, in order
abbrev pub titles_of : Query → List (List ℕ)
titles_of q = map (λ t. t.name) (targets_of q)

-- an update of what was found, which gives new values to the attributes that the titles name; nothing is checked yet, and no new row is cut off
abbrev pub changing : UpdateOp → ℕ → Option RelInfo → Query → Update
changing does old info q = record { op = does; rel = key_found info; old = old; places = map (place_found info) (titles_of q); query = q; checks = []; new_cut = True }

-- an append to the relation of this name
unfoldable pub append_of : Scope → List ℕ → Query → Update
append_of s rel q = changing op.Append 255 (named s rel) q

-- a replacement in the rows of this variable, which is the query's first
unfoldable pub replace_of : Scope → List ℕ → Query → Update
replace_of s var q = changing op.Replace 0 (ranged s var) q

-- a deletion of rows of this variable, which is the query's first and has no targets
unfoldable pub delete_of : Scope → List ℕ → Query → Update
delete_of s var q = changing op.Delete 0 (ranged s var) q

-- a new relation of the user's with this name, whose attributes are for the targets in their order
unfoldable pub into_of : Scope → List ℕ → Query → Update
into_of s name q = record {
  op = op.Into;
  rel = key_of s.user name;
  old = 255;
  places = map (λ p. p.0) (enumerate_from 0 (targets_of q));
  query = q;
  checks = [];
  new_cut = True;
}
