-- What a schema tells of queries and updates: levels, sizes, variables, and what is permitted.
use Rattle.std.proofs.Common.{◌≡◌, refl, sym, ap, ◌∙◌, ℕ, ◌+◌, Bool, true, false, List, [], ◌∷◌, map, Option, Some, None}
use Rattle.std.specs.Prelude.{◌&&◌, filter, not, sum, sum_by}
use Rattle.calculus.specs.declared.query.RelKey.{RelKey}
use Rattle.calculus.specs.declared.query.Query.{Query}
use Rattle.calculus.specs.declared.request.Update.{Update}
use Rattle.calculus.specs.declared.request.UpdateOp.{UpdateOp}
use Rattle.calculus.specs.declared.request.UpdateOp.TheVariants as op
use Rattle.calculus.specs.Who.{Who}
use Rattle.calculus.specs.Database.{Db}
use Rattle.calculus.specs.QueryParts.{vars_of, query_aggregates}
use Rattle.calculus.specs.Rights as right
use Rattle.calculus.specs.Rights.{Right, Retrieve, Append, permitted}
use Rattle.calculus.specs.Used.{used_in_query, used_vars}
use Rattle.calculus.specs.Assignments.{is_changed}
use Rattle.calculus.specs.Permission.{Reads, vars_permitted, aggregates_permitted, readable, query_permitted, change_permitted, target_permitted, update_permitted}
use Rattle.calculus.specs.Sizes.{Known, query_measure, source_variables, measure_of, query_size, expanded_variables, update_vars, update_expanded_variables, level_of, level_above, query_level}
use Rattle.calculus.specs.Schema.{schema_of}
use Rattle.schema_laws.proofs.Through.{level_alike, measure_alike, permitted_alike, readable_alike}

-- ---- sizes

-- what is known of each key
pub known_alike : (db : Db) → measure_of (schema_of db) ≡ measure_of db
known_alike db = λ i key. measure_alike db key i

pub size_alike : (db : Db) (q : Query) → query_size (schema_of db) q ≡ query_size db q
unfolding query_size
size_alike db q = ap (λ (known : Known). sum (query_measure known q).attrs + (query_measure known q).qual) (known_alike db)

pub expanded_alike : (db : Db) (q : Query) → expanded_variables (schema_of db) q ≡ expanded_variables db q
unfolding expanded_variables
expanded_alike db q =
    ap (λ (known : Known). (query_measure known q).variables + sum_by (λ g. source_variables known g.source) (query_aggregates q)) (known_alike db)

pub update_expanded_alike : (db : Db) (u : Update) → update_expanded_variables (schema_of db) u ≡ update_expanded_variables db u
unfolding update_expanded_variables
update_expanded_alike db u =
    ap (λ (known : Known). sum_by (λ p. (known p.1).variables) (update_vars u) + sum_by (λ g. source_variables known g.source) (query_aggregates u.query))
    (known_alike db)

pub query_level_alike : (db : Db) (q : Query) → query_level (schema_of db) q ≡ query_level db q
unfolding query_level
query_level_alike db q = λ i. level_above (map (λ key. level_alike db key i) (vars_of q))

-- ---- what is permitted

reads_same : (db : Db) (who : Who) → readable (schema_of db) who ≡ readable db who
reads_same db who = λ i key attrs. readable_alike db who key attrs i

pub query_permitted_alike : (db : Db) (who : Who) (q : Query) → query_permitted (schema_of db) who q ≡ query_permitted db who q
unfolding query_permitted
query_permitted_alike db who q = ap (λ (reads : Reads). vars_permitted reads q (used_vars q) && aggregates_permitted reads q) (reads_same db who)

change_alike : (db : Db) (who : Who) (right : Right) (places : List ℕ) (key : RelKey) (read : List ℕ)
    → change_permitted (schema_of db) who right places key read ≡ change_permitted db who right places key read
change_alike db who right places key [] = permitted_alike db who right places key
change_alike db who right places key (a ∷ read) =
    λ i. permitted_alike db who right places key i && permitted_alike db who Retrieve (a ∷ read) key i

-- the variable that an update changes may be so changed
abbrev changing : Db → Who → Update → Option (ℕ × Right) → Bool
changing db who u None = true
changing db who u (Some c) = change_permitted db who c.1 u.places u.rel (used_in_query c.0 u.query)

changing_alike : (db : Db) (who : Who) (u : Update) (c : Option (ℕ × Right)) → changing (schema_of db) who u c ≡ changing db who u c
changing_alike db who u None = refl
changing_alike db who u (Some c) = change_alike db who c.1 u.places u.rel (used_in_query c.0 u.query)

target_alike : (db : Db) (who : Who) (u : Update) (does : UpdateOp) → target_permitted (schema_of db) who (record u { op = does }) ≡ target_permitted db who (record u { op = does })
target_alike db who u op.Append = permitted_alike db who Append u.places u.rel
target_alike db who u op.Replace = changing_alike db who (record u { op = op.Replace }) (Some (u.old, right.Replace))
target_alike db who u op.Delete = changing_alike db who (record u { op = op.Delete }) (Some (u.old, right.Delete))
target_alike db who u op.Into = refl

pub update_permitted_alike : (db : Db) (who : Who) (u : Update) → update_permitted (schema_of db) who u ≡ update_permitted db who u
unfolding update_permitted
update_permitted_alike db who u =
    λ i. target_alike db who u u.op i
    && (vars_permitted (reads_same db who i) u.query (filter (λ p. not (is_changed u p.0)) (used_vars u.query)) && aggregates_permitted (reads_same db who i) u.query)
