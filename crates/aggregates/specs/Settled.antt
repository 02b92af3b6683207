-- Tables that stand for aggregates, one for each.
use Rattle.std.specs.Prelude.{pos, if◌then◌else◌, List, [], ◌∷◌, filter_map, ⊤}
use Rattle.std.specs.List.{AllByRecursion}
use Rattle.calculus.specs.declared.agg_table.AggTable.{AggTable}
use Rattle.calculus.specs.declared.query.QAgg.{QAgg}
use Rattle.calculus.specs.declared.query.QTerm.{QTerm}
use Rattle.calculus.specs.declared.query.Query.{Query}
use Rattle.calculus.specs.declared.value.Kind.{Kind}
use Rattle.calculus.specs.declared.value.Value.{Value}
use Rattle.calculus.specs.declared.value.Value.TheVariants.{Int, Text}
use Rattle.calculus.specs.Aggregate.{aggregates}
use Rattle.calculus.specs.Database.{Db}
use Rattle.calculus.specs.Kinds.{kind_of, is_text_kind}
use Rattle.calculus.specs.QueryParts.{targets_of}
use Rattle.calculus.specs.Rows.{Row}
use Rattle.calculus.specs.Table.{StandsFor, HasTables}
use Rattle.calculus.specs.Targets.{target_values, qualifying}
use Rattle.calculus.specs.Term.{Env, no_aggs}
use Rattle.calculus.specs.Who.{Unrestricted}
use Rattle.calculus.specs.Groups.{GroupsAscend}

-- the least and the greatest of no value of a term, whose only variable has attributes of these kinds
abbrev pub none_over : QTerm → List Kind → Value
none_over arg kinds = if is_text_kind (kind_of arg (kinds ∷ [])) then Text [] else Int (pos 0)

-- the rows that the targets of a query have in qualifying assignments, in their order and with repeats
unfoldable pub given_rows : Query → List Env → List Row
given_rows q es = filter_map (target_values no_aggs (targets_of q)) (qualifying no_aggs q es)

-- there are as many tables as aggregates, and each stands for the aggregate at its place
abbrev pub AllStand : Db → List AggTable → List QAgg → Type 0
AllStand db [] [] = ⊤
AllStand db [] (g ∷ gs) = ⊥
AllStand db (t ∷ ts) [] = ⊥
AllStand db (t ∷ ts) (g ∷ gs) = StandsFor t g (aggregates db Unrestricted) × AllStand db ts gs

-- each aggregate of each target has its table
abbrev pub TargetsHaveTables : List AggTable → Db → Query → Type 0
TargetsHaveTables tables db q = AllByRecursion (λ t. HasTables tables (aggregates db Unrestricted) t.term) (targets_of q)

-- in each table the by-values of the groups ascend strictly
abbrev pub AllAscend : List AggTable → Type 0
AllAscend tables = AllByRecursion (λ t. GroupsAscend t.groups) tables
