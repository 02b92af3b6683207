-- The values of aggregates are numbers and texts in the language's sense.
use Rattle.std.proofs.Common.{◌≡◌, refl, ap, ◌∙◌, ℕ, Bool, true, false, ◌&&◌, IsTrue, List, [], ◌∷◌, Option, Some, None}
use Rattle.std.specs.Prelude.{pos, if◌then◌else◌}
use Rattle.std.specs.declared.cmp.Ordering.{Ordering}
use Rattle.std.specs.declared.cmp.Ordering.TheVariants.{Less, Equal, Greater}
use Rattle.calculus.specs.declared.operator.AggOp.{AggOp}
use Rattle.calculus.specs.declared.operator.AggOp.TheVariants.{Count, Countu, Sum, Sumu, Avg, Avgu, Min, Max, Any}
use Rattle.calculus.specs.declared.query.AggSource.{AggSource, Named}
use Rattle.calculus.specs.declared.query.QAgg.{QAgg}
use Rattle.calculus.specs.declared.value.Value.{Value}
use Rattle.calculus.specs.declared.value.Value.TheVariants.{Int, Text}
use Rattle.calculus.specs.Chars.{is_chars}
use Rattle.calculus.specs.Lists.{insert_by}
use Rattle.calculus.specs.Kinds.{kind_of, is_text_kind}
use Rattle.calculus.specs.Number.{number}
use Rattle.calculus.specs.Rows.{Row}
use Rattle.calculus.specs.Text.{is_text}
use Rattle.calculus.specs.Tree.{rows_of_query}
use Rattle.calculus.specs.Value.{value_cmp}
use Rattle.calculus.specs.Who.{Who}
use Rattle.calculus.specs.Database.{Db}
use Rattle.calculus.specs.Term.{Env, val, holds, no_aggs, values_of}
use Rattle.calculus.specs.QueryParts.{term_aggregates}
use Rattle.calculus.specs.Used.{used_in_aggregate}
use Rattle.calculus.specs.Spelled.{term_is_spelled, source_is_spelled}
use Rattle.calculus.specs.VariableRows.{rows_of}
use Rattle.calculus.specs.Aggregate.{source_rows, agree, folded_rows, arguments, different, total, first_or, last_or, fold_values, source_kinds, none_value, fold_arguments, fold_linked, aggregates}
use Rattle.calculus.specs.IsDatabase.{IsDatabase}
use Rattle.quel_meaning.proofs.Each.{Each, in_filter}
use Rattle.update_laws.specs.Proper.{is_proper, row_is_proper}
use Rattle.update_laws.proofs.Texts.{both, each}
use Rattle.update_laws.proofs.Valued.{gives_proper, gives_row, before_proper, number_proper, val_proper}
use Rattle.update_laws.proofs.Catalogued.{Proper}
use Rattle.update_laws.proofs.Standing.{AggregateStands}
use Rattle.update_laws.proofs.Queried.{none_proper, query_proper}
use Rattle.update_laws.proofs.Ranged.{named_proper}

-- ---- the rows of a source

source_proper : (db : Db) (who : Who) (attrs : List ℕ) (source : AggSource) → IsDatabase db → IsTrue (source_is_spelled source) → Each Proper (source_rows (rows_of db who) attrs source)
source_proper db who attrs (Named key) is spelled = named_proper db who is key attrs
source_proper db who attrs (rows_of_query q) is spelled = query_proper (rows_of db who) (named_proper db who is) q spelled

-- ---- the arguments

arguments_proper : (g : QAgg) (rows : List Row) → IsTrue (term_is_spelled g.arg) → Each Proper rows → IsTrue (gives_row (arguments g rows))
arguments_proper g [] spelled h = refl
arguments_proper g (row ∷ rows) spelled h =
    before_proper (val no_aggs g.arg (row ∷ [])) (arguments g rows)
    (val_proper no_aggs g.arg (row ∷ []) spelled (each (row_is_proper row) true h.0 refl) (none_proper (row ∷ []) (term_aggregates g.arg))) (arguments_proper g rows spelled h.1)

-- ---- what is made of them

abbrev insert_as : Ordering → Value → Value → List Value → List Value → List Value
insert_as Less v w ws more = v ∷ w ∷ ws
insert_as Equal v w ws more = v ∷ ws
insert_as Greater v w ws more = w ∷ more

insert_is : (v w : Value) (ws : List Value) (o : Ordering) → value_cmp v w ≡ o → insert_by value_cmp v (w ∷ ws) ≡ insert_as o v w ws (insert_by value_cmp v ws)
insert_is v w ws Less e = rw (e, insert_by) refl
insert_is v w ws Equal e = rw (e, insert_by) refl
insert_is v w ws Greater e = rw (e, insert_by) refl

insert_proper : (v : Value) (ws : List Value) → IsTrue (is_proper v) → Proper ws → Proper (insert_by value_cmp v ws)
insert_proper v [] p h = each (is_proper v) true p refl
insert_proper v (w ∷ ws) p h =
    let parts = both (is_proper w) (row_is_proper ws) h in
    ap row_is_proper (insert_is v w ws (value_cmp v w) refl) ∙ go (value_cmp v w) parts (insert_proper v ws p parts.1)
  where
    go : (o : Ordering) → IsTrue (is_proper w) × Proper ws → Proper (insert_by value_cmp v ws) → Proper (insert_as o v w ws (insert_by value_cmp v ws))
    go Less parts later = each (is_proper v) (row_is_proper (w ∷ ws)) p (each (is_proper w) (row_is_proper ws) parts.0 parts.1)
    go Equal parts later = each (is_proper v) (row_is_proper ws) p parts.1
    go Greater parts later = each (is_proper w) (row_is_proper (insert_by value_cmp v ws)) parts.0 later

different_proper : (vs : List Value) → Proper vs → Proper (different vs)
different_proper [] h = refl
different_proper (v ∷ vs) h = let parts = both (is_proper v) (row_is_proper vs) h in insert_proper v (different vs) parts.0 (different_proper vs parts.1)

first_proper : (none : Value) (vs : List Value) → IsTrue (is_proper none) → Proper vs → IsTrue (is_proper (first_or none vs))
first_proper none [] n h = n
first_proper none (v ∷ vs) n h = (both (is_proper v) (row_is_proper vs) h).0

last_proper : (none : Value) (vs : List Value) → IsTrue (is_proper none) → Proper vs → IsTrue (is_proper (last_or none vs))
last_proper none [] n h = n
last_proper none (v ∷ vs) n h = let parts = both (is_proper v) (row_is_proper vs) h in last_proper v vs parts.0 parts.1

fold_proper : (op : AggOp) (none : Value) (vs : List Value) → IsTrue (is_proper none) → Proper vs → IsTrue (gives_proper (fold_values op none vs))
fold_proper Count none vs n h = refl
fold_proper Countu none vs n h = refl
fold_proper Sum none vs n h = number_proper (number (total vs))
fold_proper Sumu none vs n h = number_proper (number (total (different vs)))
fold_proper Avg none vs n h = refl
fold_proper Avgu none vs n h = refl
fold_proper Min none vs n h = first_proper none (different vs) n (different_proper vs h)
fold_proper Max none vs n h = last_proper none (different vs) n (different_proper vs h)
fold_proper Any none vs n h = refl

none_value_proper : (db : Db) (g : QAgg) → IsTrue (is_proper (none_value db g))
unfolding is_text is_chars
none_value_proper db g = go (is_text_kind (kind_of g.arg (source_kinds db g.source ∷ [])))
  where
    go : (b : Bool) → IsTrue (is_proper (if b then Text [] else Int (pos 0)))
    go true = refl
    go false = refl

-- ---- aggregates

-- what an aggregate gives whose constants stand
pub aggregate_gives_proper : (db : Db) (who : Who) (g : QAgg) (e : Env) → IsDatabase db → AggregateStands g → IsTrue (gives_proper (aggregates db who g e))
unfolding aggregates
aggregate_gives_proper db who g e is stands = linked (values_of g.link e)
  where
    folded : (vs : Option (List Value)) → IsTrue (gives_row vs) → IsTrue (gives_proper (fold_arguments db g vs))
    folded None h = refl
    folded (Some vs) h = fold_proper g.op (none_value db g) vs (none_value_proper db g) h

    linked : (link : Option Row) → IsTrue (gives_proper (fold_linked db (rows_of db who) g link))
    linked None = refl
    linked (Some link) =
        folded (arguments g (folded_rows (rows_of db who) g link))
        (arguments_proper g (folded_rows (rows_of db who) g link) stands.1
        (in_filter Proper (λ s. holds no_aggs g.qual (s ∷ []) && agree link (values_of g.by (s ∷ []))) (source_rows (rows_of db who) (used_in_aggregate g) g.source)
        (source_proper db who (used_in_aggregate g) g.source is stands.0)))
