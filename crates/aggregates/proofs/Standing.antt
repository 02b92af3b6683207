-- A table of the groups of a source's rows stands for the aggregate.
use Rattle.std.proofs.Common.{◌≡◌, refl, sym, ap, ◌∙◌, Bool, true, false, ◌&&◌, List, [], ◌∷◌, map, cond, Option, Some, None}
use Rattle.std.specs.Prelude.{filter}
use Rattle.std.specs.List.{cons_option}
use Rattle.std.specs.Ordering.{is_eq}
use Rattle.calculus.specs.declared.agg_table.AggTable.{AggTable}
use Rattle.calculus.specs.declared.query.QAgg.{QAgg}
use Rattle.calculus.specs.declared.value.Value.{Value}
use Rattle.calculus.specs.Aggregate.{agree, source_rows, folded_rows, arguments, fold_arguments, fold_linked, none_value, aggregates}
use Rattle.calculus.specs.Database.{Db}
use Rattle.calculus.specs.Rows.{Row}
use Rattle.calculus.specs.Table.{in_groups, said, StandsFor}
use Rattle.calculus.specs.Term.{val, holds, no_aggs, values_of}
use Rattle.calculus.specs.Used.{used_in_aggregate}
use Rattle.calculus.specs.Value.{row_cmp}
use Rattle.calculus.specs.VariableRows.{rows_of}
use Rattle.calculus.specs.Who.{Unrestricted}
use Rattle.aggregates.specs.Members.{Member, member_by, members}
use Rattle.aggregates.specs.Runs.{folded, folded_where}

-- the arguments of the rows that are folded with these by-values
abbrev pub args_for : QAgg → List Row → Row → List (Option Value)
args_for g rows link = map (λ m. m.1) (filter (λ m. is_eq (row_cmp link m.0)) (members g rows))

both_taken : {X : Type 0} (f : X → Option Value) (s : X) (by : Row) (rest : List X) (more : List Member) (b : Bool) → map f rest ≡ map (λ m. m.1) more
    → map f (cond b (s ∷ rest) rest) ≡ map (λ m. m.1) (cond b ((by, f s) ∷ more) more)
both_taken f s by rest more true ih = ap (λ vs. f s ∷ vs) ih
both_taken f s by rest more false ih = ih

both_by : {X : Type 0} (f : X → Option Value) (s : X) (link : Row) (rest : List X) (ms : List Member) (b : Bool) (by : Option Row)
    → map f rest ≡ map (λ m. m.1) (filter (λ m. is_eq (row_cmp link m.0)) ms)
    → map f (cond (b && agree link by) (s ∷ rest) rest)
    ≡ map (λ m. m.1) (filter (λ m. is_eq (row_cmp link m.0)) (cons_option (cond b (member_by by (f s)) None) ms))
both_by f s link rest ms false by ih = ih
both_by f s link rest ms true None ih = ih
both_by f s link rest ms true (Some by) ih = both_taken f s by rest (filter (λ m. is_eq (row_cmp link m.0)) ms) (is_eq (row_cmp link by)) ih

gathered : (g : QAgg) (link : Row) (rows : List Row)
    → map (λ s. val no_aggs g.arg (s ∷ [])) (filter (λ s. holds no_aggs g.qual (s ∷ []) && agree link (values_of g.by (s ∷ []))) rows) ≡ args_for g rows link
unfolding members
gathered g link [] = refl
gathered g link (s ∷ rows) =
    both_by (λ s. val no_aggs g.arg (s ∷ [])) s link _ _ (holds no_aggs g.qual (s ∷ [])) (values_of g.by (s ∷ [])) (gathered g link rows)

folded_is : (db : Db) (g : QAgg) (o : Option (List Value)) → folded_where g.op (none_value db g) o ≡ fold_arguments db g o
folded_is db g None = refl
folded_is db g (Some vs) = refl

pub stands : (db : Db) (g : QAgg) (table : AggTable) (none : Value) (rows : List Row) → none ≡ none_value db g
    → rows ≡ source_rows (rows_of db Unrestricted) (used_in_aggregate g) g.source
    → ((link : Row) → in_groups table.empty table.groups link ≡ folded g.op none (args_for g rows link)) → StandsFor table g (aggregates db Unrestricted)
unfolding said aggregates
stands db g table none rows least all found e = by_links (values_of g.link e)
  where
    by_links : (o : Option Row) → said table o ≡ fold_linked db (rows_of db Unrestricted) g o
    by_links None = refl
    by_links (Some link) =
        found link
        ∙ (λ i. folded g.op (least i) (args_for g (all i) link))
        ∙ ap (λ args. folded g.op (none_value db g) args) (sym (gathered g link (source_rows (rows_of db Unrestricted) (used_in_aggregate g) g.source)))
        ∙ folded_is db g (arguments g (folded_rows (rows_of db Unrestricted) g link))
