-- The query of a statement whose names were found.
use Rattle.std.specs.Prelude.{ℕ, ◌+◌, List, [], ◌∷◌, ◌++◌, map, flat_map, length, unwrap_or}
use Rattle.std.specs.List.{enumerate_from}
use Rattle.calculus.specs.declared.value.Kind.{Kind}
use Rattle.calculus.specs.declared.value.Kind.TheVariants.{Wide}
use Rattle.calculus.specs.declared.query.QTerm.{QTerm}
use Rattle.calculus.specs.declared.query.QTerm.TheVariants as qterm
use Rattle.calculus.specs.declared.query.QQual.{QQual}
use Rattle.calculus.specs.declared.query.Target.{Target}
use Rattle.calculus.specs.declared.query.Query.{Query}
use Rattle.calculus.specs.declared.schema.Attr.{Attr}
use Rattle.calculus.specs.declared.statement.Item.{Item}
use Rattle.calculus.specs.declared.statement.Item.TheVariants as item
use Rattle.calculus.specs.declared.statement.Statement.{Statement}
use Rattle.calculus.specs.Stored.{kinds_at, attrs_in}
use Rattle.calculus.specs.Tree.{query}
use Rattle.quel_meaning.specs.Scope.{Scope, ranged}
use Rattle.quel_meaning.specs.WrittenParts.{aggregates_in_item, items_of, where_of, vars_in}
use Rattle.quel_meaning.specs.WrittenTree.{Vars, var_place, key_over, attr_in, term_tree, qual_tree}
use Rattle.quel_meaning.specs.KindsInQueries.{kind_in_query}

-- the kinds of the attributes of each variable
abbrev pub kinds_over : Scope → Vars → List (List Kind)
kinds_over s vars = map (λ var. kinds_at s.db (key_over s var)) vars

-- the target of this name for a term, with the term's kind; a kind of numbers where it has none, to which no statement comes whose kinds fit
abbrev pub target : Scope → Vars → List ℕ → QTerm → Target
target s vars name term = record { name = name; kind = unwrap_or (kind_in_query s.db term (kinds_over s vars)) Wide; term = term }

-- a target for each of these attributes of a variable, under its own name
abbrev pub attr_targets : ℕ → List Attr → List Target
attr_targets var attrs = map (λ p. record { name = p.1.name; kind = p.1.kind; term = qterm.Attr var p.0 }) (enumerate_from 0 attrs)

-- the targets of an item of a target list before which this many aggregates stand
abbrev pub item_targets : Scope → Vars → ℕ → Item → List Target
item_targets s vars n (item.Set name term) = target s vars name (term_tree s vars n term) ∷ []
item_targets s vars n (item.Attr var attr) = target s vars attr (qterm.Attr (var_place vars var) (attr_in s var attr)) ∷ []
item_targets s vars n (item.All var) = attr_targets (var_place vars var) (attrs_in (ranged s var))

-- the targets of the items of a target list
abbrev pub targets_from : Scope → Vars → ℕ → List Item → List Target
targets_from s vars n [] = []
targets_from s vars n (i ∷ items) = item_targets s vars n i ++ targets_from s vars (n + length (aggregates_in_item i)) items

-- the tree of a statement's qualification, behind its target list
unfoldable pub where_tree : Scope → Statement → QQual
where_tree s stmt = qual_tree s (vars_in stmt) (length (flat_map aggregates_in_item (items_of stmt))) (where_of stmt)

-- the query of a statement: its variables in the order in which they first stand, its targets and its qualification
unfoldable pub query_of : Scope → Statement → Query
query_of s stmt = query (map (key_over s) (vars_in stmt)) (targets_from s (vars_in stmt) 0 (items_of stmt)) (where_tree s stmt)
