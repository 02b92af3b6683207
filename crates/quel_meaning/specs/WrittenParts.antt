-- The parts of a statement as it is written: its target list and qualification, the attributes and the aggregates in them.
use Rattle.std.specs.Prelude.{ℕ, not, List, [], ◌∷◌, ◌++◌, map, filter, flat_map, bytes_eq}
use Rattle.calculus.specs.declared.statement.Term.{Term, Int, Chars, Attr, Agg', Row_of-Term, end_of-Term, more_of-Term, items-the_row-Term, Row_of-AggTerm, end_of-AggTerm, more_of-AggTerm}
use Rattle.calculus.specs.declared.statement.AggTerm.{AggTerm}
use Rattle.calculus.specs.declared.statement.Qual.{Qual, True, Cmp}
use Rattle.calculus.specs.declared.statement.Item.{Item}
use Rattle.calculus.specs.declared.statement.Item.TheVariants as item
use Rattle.calculus.specs.declared.statement.Statement.{Statement}
use Rattle.calculus.specs.declared.statement.Statement.TheVariants as statement
use Rattle.calculus.specs.Written.{neg, abs, operation, concat, both, either, negated}

-- ---- names

-- each name once, in the order in which they first stand
abbrev pub once : List (List ℕ) → List (List ℕ)
once [] = []
once (n ∷ ns) = n ∷ filter (λ m. not (bytes_eq m n)) (once ns)

-- ---- attributes

-- an attribute as it is written: a variable, and the attribute's name
abbrev pub Dotted : Type 0
Dotted = List ℕ × List ℕ

-- the attributes in a term, from left to right; of an aggregate those of its term, of its by-list and of its qualification
abbrev mutual
  pub attributes : Term → List Dotted
  attributes (Int n) = []
  attributes (Chars bytes) = []
  attributes (Attr var attr) = (var, attr) ∷ []
  attributes (neg t) = attributes t
  attributes (abs t) = attributes t
  attributes (operation op t u) = attributes t ++ attributes u
  attributes (concat t u) = attributes t ++ attributes u
  attributes (Agg' mark row) = attributes_in_aggregate row

  pub attributes_in_aggregate : {n : _} → Row_of-AggTerm n → List Dotted
  attributes_in_aggregate end_of-AggTerm = []
  attributes_in_aggregate (more_of-AggTerm op arg bys by qual rest) = attributes arg ++ (attributes_in_row by ++ attributes_in_qual qual)

  pub attributes_in_row : {n : _} → Row_of-Term n → List Dotted
  attributes_in_row end_of-Term = []
  attributes_in_row (more_of-Term t rest) = attributes t ++ attributes_in_row rest

  pub attributes_in_qual : Qual → List Dotted
  attributes_in_qual True = []
  attributes_in_qual (Cmp op t u) = attributes t ++ attributes u
  attributes_in_qual (both p q) = attributes_in_qual p ++ attributes_in_qual q
  attributes_in_qual (either p q) = attributes_in_qual p ++ attributes_in_qual q
  attributes_in_qual (negated p) = attributes_in_qual p

-- the variables of a term outside aggregates and in the by-lists of aggregates, from left to right, one as often as it stands there
abbrev mutual
  pub outer_vars : Term → List (List ℕ)
  outer_vars (Int n) = []
  outer_vars (Chars bytes) = []
  outer_vars (Attr var attr) = var ∷ []
  outer_vars (neg t) = outer_vars t
  outer_vars (abs t) = outer_vars t
  outer_vars (operation op t u) = outer_vars t ++ outer_vars u
  outer_vars (concat t u) = outer_vars t ++ outer_vars u
  outer_vars (Agg' mark row) = linked_vars row

  pub linked_vars : {n : _} → Row_of-AggTerm n → List (List ℕ)
  linked_vars end_of-AggTerm = []
  linked_vars (more_of-AggTerm op arg bys by qual rest) = outer_vars_in_row by

  pub outer_vars_in_row : {n : _} → Row_of-Term n → List (List ℕ)
  outer_vars_in_row end_of-Term = []
  outer_vars_in_row (more_of-Term t rest) = outer_vars t ++ outer_vars_in_row rest

-- the same for a qualification
abbrev pub outer_vars_in_qual : Qual → List (List ℕ)
outer_vars_in_qual True = []
outer_vars_in_qual (Cmp op t u) = outer_vars t ++ outer_vars u
outer_vars_in_qual (both p q) = outer_vars_in_qual p ++ outer_vars_in_qual q
outer_vars_in_qual (either p q) = outer_vars_in_qual p ++ outer_vars_in_qual q
outer_vars_in_qual (negated p) = outer_vars_in_qual p

-- the same for an item of a target list
abbrev pub outer_vars_in_item : Item → List (List ℕ)
outer_vars_in_item (item.Set name term) = outer_vars term
outer_vars_in_item (item.Attr var attr) = var ∷ []
outer_vars_in_item (item.All var) = var ∷ []

-- ---- aggregates

-- the different variables that an aggregate names, in its term, its by-list and its qualification together
unfoldable pub aggregate_vars : AggTerm → List (List ℕ)
aggregate_vars g = once (map (λ d. d.0) (attributes g.arg ++ (flat_map attributes g.by ++ attributes_in_qual g.qual)))

-- the aggregate that a term is, as a list of one
abbrev pub aggregate_of : {n : _} → Row_of-AggTerm n → List AggTerm
aggregate_of end_of-AggTerm = []
aggregate_of (more_of-AggTerm op arg bys by qual rest) = record { op = op; arg = arg; by = items-the_row-Term _ by; qual = qual } ∷ []

-- the aggregates in a term that stand in no other, from left to right
unfoldable pub aggregates_in : Term → List AggTerm
aggregates_in (Int n) = []
aggregates_in (Chars bytes) = []
aggregates_in (Attr var attr) = []
aggregates_in (neg t) = aggregates_in t
aggregates_in (abs t) = aggregates_in t
aggregates_in (operation op t u) = aggregates_in t ++ aggregates_in u
aggregates_in (concat t u) = aggregates_in t ++ aggregates_in u
aggregates_in (Agg' mark row) = aggregate_of row

-- the same for a qualification
unfoldable pub aggregates_in_qual : Qual → List AggTerm
aggregates_in_qual True = []
aggregates_in_qual (Cmp op t u) = aggregates_in t ++ aggregates_in u
aggregates_in_qual (both p q) = aggregates_in_qual p ++ aggregates_in_qual q
aggregates_in_qual (either p q) = aggregates_in_qual p ++ aggregates_in_qual q
aggregates_in_qual (negated p) = aggregates_in_qual p

-- the same for an item of a target list
abbrev pub aggregates_in_item : Item → List AggTerm
aggregates_in_item (item.Set name term) = aggregates_in term
aggregates_in_item (item.Attr var attr) = []
aggregates_in_item (item.All var) = []

-- ---- statements

-- the target list of a statement; none where it has none
abbrev pub items_of : Statement → List Item
items_of (statement.Retrieve into items qual sort) = items
items_of (statement.Append rel items qual) = items
items_of (statement.Replace var items qual) = items
items_of (statement.View name items qual) = items
items_of _ = []

-- the qualification of a statement; True where it has none
abbrev pub where_of : Statement → Qual
where_of (statement.Retrieve into items qual sort) = qual
where_of (statement.Append rel items qual) = qual
where_of (statement.Replace var items qual) = qual
where_of (statement.Delete var qual) = qual
where_of (statement.View name items qual) = qual
where_of (statement.Permit ops var attrs user qual) = qual
where_of (statement.Rule var qual) = qual
where_of _ = True

-- the aggregates of a statement that stand in no other: those of its target list, then those of its qualification
abbrev pub text_aggregates : Statement → List AggTerm
text_aggregates s = flat_map aggregates_in_item (items_of s) ++ aggregates_in_qual (where_of s)

-- the variable that a statement names by itself: whose rows are replaced or deleted, or that stands for the relation of a permit or a rule
abbrev pub first_vars : Statement → List (List ℕ)
first_vars (statement.Replace var items qual) = var ∷ []
first_vars (statement.Delete var qual) = var ∷ []
first_vars (statement.Permit ops var attrs user qual) = var ∷ []
first_vars (statement.Rule var qual) = var ∷ []
first_vars _ = []

-- the variables of a statement's query, each once, in the order of the text: the one that it names by itself, then those outside aggregates and in by-lists
unfoldable pub vars_in : Statement → List (List ℕ)
vars_in s = once (first_vars s ++ (flat_map outer_vars_in_item (items_of s) ++ outer_vars_in_qual (where_of s)))
