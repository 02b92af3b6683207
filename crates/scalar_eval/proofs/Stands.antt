-- Tables that stand for aggregates give the values of the aggregates.
use Rattle.std.proofs.Common.{◌≡◌, refl, ap, ◌∙◌, not, ◌&&◌, ◌||◌, List}
use Rattle.calculus.specs.declared.query.QTerm.{QTerm, Int, Chars, Attr, Agg', items-the_row-QTerm, Row_of-QAgg, end_of-QAgg, more_of-QAgg}
use Rattle.calculus.specs.declared.query.QQual.{QQual, True, Cmp, Like}
use Rattle.calculus.specs.declared.query.QAgg.{QAgg}
use Rattle.calculus.specs.declared.agg_table.AggTable.{AggTable}
use Rattle.calculus.specs.Tree.{neg, abs, operation, concat, both, either, negated}
use Rattle.calculus.specs.Term.{Env, Aggs, val, holds, aggregate_value, opposite_value, value_without_sign, operated_values, joined_values, compared_values, matched_value, values_of}
use Rattle.calculus.specs.Table.{said_by, tabled, HasTable, has_its_table, HasTables, HasAllTables}

table_is : (tables : List AggTable) (aggs : Aggs) (g : QAgg) (e : Env) → HasTable tables aggs g → tabled tables g e ≡ aggs g e
unfolding tabled
table_is tables aggs g e h = ap (λ t. said_by t (values_of g.link e)) h.1 ∙ h.2 e

row_is : (tables : List AggTable) (aggs : Aggs) {n : _} (row : Row_of-QAgg n) (e : Env) → has_its_table tables aggs row → aggregate_value (tabled tables) row e ≡ aggregate_value aggs row e
row_is tables aggs end_of-QAgg e h = refl
row_is tables aggs (more_of-QAgg slot op source arg bys by links link qual rest) e h =
    table_is tables aggs (record { slot = slot; op = op; source = source; arg = arg; by = items-the_row-QTerm _ by; link = items-the_row-QTerm _ link; qual = qual }) e h

pub same_value : (tables : List AggTable) (aggs : Aggs) (t : QTerm) (e : Env) → HasTables tables aggs t → val (tabled tables) t e ≡ val aggs t e
unfolding val HasTables
same_value tables aggs (Int n) e h = refl
same_value tables aggs (Chars bytes) e h = refl
same_value tables aggs (Attr var attr) e h = refl
same_value tables aggs (neg t) e h = ap opposite_value (same_value tables aggs t e h)
same_value tables aggs (abs t) e h = ap value_without_sign (same_value tables aggs t e h)
same_value tables aggs (operation op t u) e h = λ i. operated_values op (same_value tables aggs t e h.0 i) (same_value tables aggs u e h.1 i)
same_value tables aggs (concat t u) e h = λ i. joined_values (same_value tables aggs t e h.0 i) (same_value tables aggs u e h.1 i)
same_value tables aggs (Agg' mark row) e h = row_is tables aggs row e h

pub same_truth : (tables : List AggTable) (aggs : Aggs) (q : QQual) (e : Env) → HasAllTables tables aggs q → holds (tabled tables) q e ≡ holds aggs q e
unfolding holds HasAllTables
same_truth tables aggs True e h = refl
same_truth tables aggs (Cmp op t u) e h = λ i. compared_values op (same_value tables aggs t e h.0 i) (same_value tables aggs u e h.1 i)
same_truth tables aggs (Like t pattern same) e h = ap (matched_value pattern same) (same_value tables aggs t e h)
same_truth tables aggs (both p q) e h = λ i. same_truth tables aggs p e h.0 i && same_truth tables aggs q e h.1 i
same_truth tables aggs (either p q) e h = λ i. same_truth tables aggs p e h.0 i || same_truth tables aggs q e h.1 i
same_truth tables aggs (negated p) e h = ap not (same_truth tables aggs p e h)
