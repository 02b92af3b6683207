-- What a table of an aggregate's groups says, and when it stands for the aggregate.
use Rattle.std.specs.Prelude.{true, false, ◌≡◌, List, [], ◌∷◌, slice_get, Option, Some, None}
use Rattle.std.specs.Ordering.{is_eq}
use Rattle.calculus.specs.Value.{row_cmp}
use Rattle.calculus.specs.declared.value.Value.{Value}
use Rattle.calculus.specs.declared.query.QAgg.{QAgg}
use Rattle.calculus.specs.declared.query.QTerm.{QTerm, Int, Chars, Attr, Agg', items-the_row-QTerm, Row_of-QAgg, end_of-QAgg, more_of-QAgg}
use Rattle.calculus.specs.declared.query.QQual.{QQual, True, Cmp, Like}
use Rattle.calculus.specs.Tree.{neg, abs, operation, concat, both, either, negated}
use Rattle.calculus.specs.declared.agg_table.AggTable.{AggTable}
use Rattle.calculus.specs.Term.{Env, Aggs, values_of}

-- what the first group with these values gives; where no group has them, what no rows give
abbrev pub in_groups : Value → List (List Value × Option Value) → List Value → Option Value
in_groups empty [] link = Some empty
in_groups empty (g ∷ gs) link = elim (is_eq (row_cmp g.0 link)) [ true ↦ g.1 | false ↦ in_groups empty gs link ]

-- what a table says of the values of the links; none where a link has none
unfoldable pub said : AggTable → Option (List Value) → Option Value
said table None = None
said table (Some link) = in_groups table.empty table.groups link

-- what a table that may be there says
abbrev pub said_by : Option AggTable → Option (List Value) → Option Value
said_by None link = None
said_by (Some table) link = said table link

-- what the tables say: each aggregate has the table at its slot
unfoldable pub tabled : List AggTable → Aggs
tabled tables g e = said_by (slice_get tables g.slot) (values_of g.link e)

-- a table stands for an aggregate: in each assignment it says what the aggregate gives there
abbrev pub StandsFor : AggTable → QAgg → Aggs → Type 0
StandsFor table g aggs = (e : Env) → said table (values_of g.link e) ≡ aggs g e

-- the table at the aggregate's slot is there and stands for it
abbrev pub HasTable : List AggTable → Aggs → QAgg → Type 0
HasTable tables aggs g = (table : AggTable) × (slice_get tables g.slot ≡ Some table) × StandsFor table g aggs

-- the aggregate of a tree has its table
abbrev pub has_its_table : List AggTable → Aggs → {n : _} → Row_of-QAgg n → Type 0
has_its_table tables aggs end_of-QAgg = Unit {0}
has_its_table tables aggs (more_of-QAgg slot op source arg bys by links link qual rest) =
    HasTable tables aggs (record { slot = slot; op = op; source = source; arg = arg; by = items-the_row-QTerm _ by; link = items-the_row-QTerm _ link; qual = qual })

-- each aggregate of a term has its table
unfoldable pub HasTables : List AggTable → Aggs → QTerm → Type 0
HasTables tables aggs (Int n) = Unit {0}
HasTables tables aggs (Chars bytes) = Unit {0}
HasTables tables aggs (Attr var attr) = Unit {0}
HasTables tables aggs (neg t) = HasTables tables aggs t
HasTables tables aggs (abs t) = HasTables tables aggs t
HasTables tables aggs (operation op t u) = HasTables tables aggs t × HasTables tables aggs u
HasTables tables aggs (concat t u) = HasTables tables aggs t × HasTables tables aggs u
HasTables tables aggs (Agg' mark row) = has_its_table tables aggs row

-- each aggregate of a qualification has its table
unfoldable pub HasAllTables : List AggTable → Aggs → QQual → Type 0
HasAllTables tables aggs True = Unit {0}
HasAllTables tables aggs (Cmp op t u) = HasTables tables aggs t × HasTables tables aggs u
HasAllTables tables aggs (Like t pattern same) = HasTables tables aggs t
HasAllTables tables aggs (both p q) = HasAllTables tables aggs p × HasAllTables tables aggs q
HasAllTables tables aggs (either p q) = HasAllTables tables aggs p × HasAllTables tables aggs q
HasAllTables tables aggs (negated p) = HasAllTables tables aggs p
