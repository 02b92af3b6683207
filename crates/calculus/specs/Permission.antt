-- Whether all that a query or an update reads and changes is permitted, whatever the rows.
use Rattle.std.specs.Prelude.{ℕ, Bool, true, false, ◌&&◌, not, List, [], ◌∷◌, filter, Option, Some, None}
use Rattle.std.specs.List.{list_all}
use Rattle.calculus.specs.declared.query.RelKey.{RelKey}
use Rattle.calculus.specs.declared.query.AggSource.{AggSource, Named}
use Rattle.calculus.specs.declared.query.Query.{Query}
use Rattle.calculus.specs.declared.request.Update.{Update}
use Rattle.calculus.specs.declared.request.UpdateOp.TheVariants as op
use Rattle.calculus.specs.Tree.{rows_of_query}
use Rattle.calculus.specs.Limits.{greatest_level}
use Rattle.calculus.specs.Who.{Who}
use Rattle.calculus.specs.Database.{Db, View}
use Rattle.calculus.specs.Stored.{Range, Kept, Viewed}
use Rattle.calculus.specs.Through.{through}
use Rattle.calculus.specs.Rights.{Right, Retrieve, Append, permitted}
use Rattle.calculus.specs.QueryParts.{query_aggregates}
use Rattle.calculus.specs.Used.{used_in_query, used_in_aggregate, used_vars}
use Rattle.calculus.specs.Assignments.{changed, is_changed}

-- whether these attributes of what has this key may be read
abbrev pub Reads : Type 0
Reads = RelKey → List ℕ → Bool

-- each variable among these may be read, as far as the query uses it
abbrev pub vars_permitted : Reads → Query → List (ℕ × RelKey) → Bool
vars_permitted reads q vars = list_all (λ p. reads p.1 (used_in_query p.0 q)) vars

-- reading what a variable ranges over, where `of_view` says it of a view
abbrev pub range_permitted : (View → Bool) → Db → Who → RelKey → List ℕ → Option Range → Bool
range_permitted of_view db who key attrs None = permitted db who Retrieve attrs key
range_permitted of_view db who key attrs (Some (Kept relation)) = permitted db who Retrieve attrs key
range_permitted of_view db who key attrs (Some (Viewed view)) = of_view view

-- whether these attributes may be read through at most so many levels of views: of a view all variables in its text, with the attributes that the text uses
abbrev pub permitted_within : ℕ → Db → Who → Reads
permitted_within n db who =
    through (λ of_view key range attrs. range_permitted (λ view. of_view view attrs) db who key attrs range)
    (λ below view attrs. vars_permitted below view.query (used_vars view.query)) (λ attrs. false) n db

-- whether these attributes of a relation, view or catalogue may be read
unfoldable pub readable : Db → Who → Reads
readable db who = permitted_within greatest_level db who

-- whether what an aggregate names may be read
abbrev pub source_permitted : Reads → List ℕ → AggSource → Bool
source_permitted reads attrs (Named key) = reads key attrs
source_permitted reads attrs (rows_of_query q) = vars_permitted reads q (used_vars q)

-- whether what the aggregates of a query name may be read
abbrev pub aggregates_permitted : Reads → Query → Bool
aggregates_permitted reads q = list_all (λ g. source_permitted reads (used_in_aggregate g) g.source) (query_aggregates q)

-- a query is permitted: each used variable and each aggregate may be read
unfoldable pub query_permitted : Db → Who → Query → Bool
query_permitted db who q = vars_permitted (readable db who) q (used_vars q) && aggregates_permitted (readable db who) q

-- the right to change, with the attributes of the target list; and to read, where any attribute is read
abbrev pub change_permitted : Db → Who → Right → List ℕ → RelKey → List ℕ → Bool
change_permitted db who right places key [] = permitted db who right places key
change_permitted db who right places key (a ∷ read) = permitted db who right places key && permitted db who Retrieve (a ∷ read) key

-- the relation that an update changes may be so changed
abbrev pub target_permitted : Db → Who → Update → Bool
target_permitted db who u = elim u.op [
  | op.Append ↦ permitted db who Append u.places u.rel
  | op.Replace ↦ changing
  | op.Delete ↦ changing
  | op.Into ↦ true
]
  where
    changing : Bool
    changing = elim (changed u) [ None ↦ true | Some c ↦ change_permitted db who c.1 u.places u.rel (used_in_query c.0 u.query) ]

-- an update is permitted: the relation may be so changed, and each other used variable and each aggregate may be read
unfoldable pub update_permitted : Db → Who → Update → Bool
update_permitted db who u =
    target_permitted db who u
    && (vars_permitted (readable db who) u.query (filter (λ p. not (is_changed u p.0)) (used_vars u.query)) && aggregates_permitted (readable db who) u.query)
