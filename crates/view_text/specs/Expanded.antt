-- Queries and updates with its variables expanded: views by what they stand for, permits as conditions on rows.
use Rattle.std.specs.Prelude.{ℕ, ◌-◌, ◌==◌, true, false, List, [], ◌∷◌, ◌++◌, map, Option, Some, None}
use Rattle.std.specs.List.{enumerate_from}
use Rattle.calculus.specs.declared.query.RelKey.{RelKey}
use Rattle.calculus.specs.declared.query.QTerm.{QTerm, Agg', items-the_row-QTerm, Row_of-QAgg, end_of-QAgg, more_of-QAgg}
use Rattle.calculus.specs.declared.query.QQual.{QQual}
use Rattle.calculus.specs.declared.query.QAgg.{QAgg}
use Rattle.calculus.specs.declared.query.AggSource.{AggSource, Named}
use Rattle.calculus.specs.declared.query.Query.{Query}
use Rattle.calculus.specs.declared.request.Asked.{Asked}
use Rattle.calculus.specs.declared.request.Update.{Update}
use Rattle.calculus.specs.declared.request.UpdateOp.{UpdateOp}
use Rattle.calculus.specs.declared.request.UpdateOp.TheVariants as op
use Rattle.calculus.specs.declared.request.Checked.{Checked}
use Rattle.calculus.specs.declared.request.Checked.TheVariants as checked
use Rattle.calculus.specs.Tree.{rows_of_query, query, aggregate}
use Rattle.calculus.specs.Limits.{greatest_level}
use Rattle.calculus.specs.Who.{Who}
use Rattle.calculus.specs.Database.{Db}
use Rattle.calculus.specs.Stored.{Range, Kept, Viewed, range_at}
use Rattle.calculus.specs.Rights.{Right, Retrieve, Append}
use Rattle.calculus.specs.QueryParts.{vars_of, targets_of, qual_of}
use Rattle.calculus.specs.Used.{used_in_query, used_in_aggregate}
use Rattle.calculus.specs.Assignments.{changed}
use Rattle.view_text.specs.declared.expansion.Expansion.{Expansion}
use Rattle.view_text.specs.Replaced.{Substitution, replaced, replaced_in_qual, replaced_target, no_aggregate, without_value}
use Rattle.view_text.specs.Halves.{all_of}
use Rattle.view_text.specs.Expansions.{ExpansionSource, used_expansion, query_expansions, expansions_vars, substituted_from, conditions_from, place_from}
use Rattle.view_text.specs.ExpansionOf.{restriction, kept_expansion, expansion_within, expansion_of}

-- the query over the variables of these expansions, one for each of its own: their terms stand in place of its attributes, and their conditions hold too
abbrev pub substituted_query : (QTerm → QTerm) → List Expansion → Query → Query
substituted_query made expansions q =
    query (expansions_vars expansions) (map (replaced_target made (substituted_from 0 expansions)) (targets_of q))
    (all_of (replaced_in_qual made (substituted_from 0 expansions) (qual_of q) ∷ conditions_from 0 expansions))

-- a query without aggregates, with its variables expanded
abbrev pub expanded_plain : ExpansionSource → Query → Query
expanded_plain source q = substituted_query no_aggregate (query_expansions source q) q

-- ---- aggregates

-- what an aggregate is over that was over what has this key: over a view the rows of its query, with the expansion of what it names put in
abbrev pub expanded_range : Db → Who → RelKey → Option Range → AggSource
expanded_range db who key None = Named key
expanded_range db who key (Some (Kept relation)) = Named key
expanded_range db who key (Some (Viewed view)) = rows_of_query (expanded_plain (expansion_within (greatest_level - 1) db who) view.query)

-- what an aggregate is over
abbrev pub expanded_source : Db → Who → AggSource → AggSource
expanded_source db who (Named key) = expanded_range db who key (range_at db key)
expanded_source db who (rows_of_query q) = rows_of_query (expanded_plain (expansion_of db who) q)

-- the conditions on the rows of what has a key, of which these attributes are used; a view has them in the query that stands for it
abbrev pub range_restriction : Db → Who → List ℕ → RelKey → Option Range → List QQual
range_restriction db who attrs key None = restriction db who Retrieve attrs key
range_restriction db who attrs key (Some (Kept relation)) = restriction db who Retrieve attrs key
range_restriction db who attrs key (Some (Viewed view)) = []

-- the conditions on the rows that an aggregate is over
abbrev pub source_restriction : Db → Who → List ℕ → AggSource → List QQual
source_restriction db who attrs (Named key) = range_restriction db who attrs key (range_at db key)
source_restriction db who attrs (rows_of_query q) = []

-- the aggregate over what its source stands for, restricted to what may be read, and with these terms in place of the attributes of its links
abbrev pub expanded_aggregate : Db → Who → Substitution → QAgg → QAgg
expanded_aggregate db who put g = record {
  slot = g.slot;
  op = g.op;
  source = expanded_source db who g.source;
  arg = g.arg;
  by = g.by;
  link = map (replaced no_aggregate put) g.link;
  qual = all_of (g.qual ∷ source_restriction db who (used_in_aggregate g) g.source);
}

-- the aggregate that a term is, so
abbrev pub put_row : Db → Who → Substitution → {n : _} → Row_of-QAgg n → QTerm
put_row db who put end_of-QAgg = without_value
put_row db who put (more_of-QAgg slot op source arg bys by links link qual rest) =
    aggregate (expanded_aggregate db who put (record { slot = slot; op = op; source = source; arg = arg; by = items-the_row-QTerm _ by; link = items-the_row-QTerm _ link; qual = qual }))

-- what is made of an aggregate
abbrev pub expanded_made : Db → Who → Substitution → QTerm → QTerm
expanded_made db who put (Agg' mark row) = put_row db who put row
expanded_made db who put t = without_value

-- ---- queries and updates

-- the query over these expansions, aggregates and all
abbrev pub expanded_over : Db → Who → List Expansion → Query → Query
expanded_over db who expansions q = substituted_query (expanded_made db who (substituted_from 0 expansions)) expansions q

-- the query with its variables expanded
unfoldable pub expanded : Db → Who → Query → Query
expanded db who q = expanded_over db who (query_expansions (expansion_of db who) q) q

-- the conditions on a row of which these attributes are read; none where none is
abbrev pub read_restriction : Db → Who → List ℕ → RelKey → List QQual
read_restriction db who [] key = []
read_restriction db who (a ∷ attrs) key = restriction db who Retrieve (a ∷ attrs) key

-- the expansion of the variable whose rows are replaced or deleted: its relation, restricted to the rows that may be so changed, and read where they are read
abbrev pub changed_expansion : Db → Who → Right → List ℕ → List ℕ → RelKey → Expansion
changed_expansion db who right places read key = kept_expansion (restriction db who right places key ++ read_restriction db who read key) key

-- the expansion of an update's variable
abbrev pub update_expansion : Db → Who → Update → ℕ → RelKey → Expansion
update_expansion db who u v key = elim (changed u) [
  | None ↦ used_expansion (expansion_of db who) key (used_in_query v u.query)
  | Some c ↦
      elim (c.0 == v) [
        | true ↦ changed_expansion db who c.1 u.places (used_in_query v u.query) key
        | false ↦ used_expansion (expansion_of db who) key (used_in_query v u.query)
      ]
]

-- the expansion of an update's variables
abbrev pub update_expansions : Db → Who → Update → List Expansion
update_expansions db who u = map (λ p. update_expansion db who u p.0 p.1) (enumerate_from 0 (vars_of u.query))

-- what must hold of the row that an append puts: that it may be appended
abbrev pub append_restriction : Db → Who → Update → UpdateOp → QQual
append_restriction db who u op.Append = all_of (u.new_cut ∷ restriction db who Append u.places u.rel)
append_restriction db who u op.Replace = u.new_cut
append_restriction db who u op.Delete = u.new_cut
append_restriction db who u op.Into = u.new_cut

-- the place of the variable whose rows are replaced or deleted, where it is shifted
abbrev pub put_place : List Expansion → Update → ℕ
put_place expansions u = elim (changed u) [ None ↦ u.old | Some c ↦ place_from 0 expansions c.0 ]

-- the update with its variables expanded
unfoldable pub expanded_update : Db → Who → Update → Update
expanded_update db who u =
    let expansions = update_expansions db who u in
    record u { old = put_place expansions u; query = expanded_over db who expansions u.query; new_cut = append_restriction db who u u.op }

-- ---- trees

-- the query that is asked, so
abbrev pub expanded_asked : Db → Who → Asked → Asked
expanded_asked db who a = record { query = expanded db who a.query; sort = a.sort }

-- the tree with its variables expanded; a utility stays as it is
unfoldable pub expanded_tree : Db → Who → Checked → Checked
expanded_tree db who (checked.Answer asked) = checked.Answer (map (expanded_asked db who) asked)
expanded_tree db who (checked.Update u) = checked.Update (expanded_update db who u)
expanded_tree db who (checked.Utility work) = checked.Utility work
