-- Short trees: what stands in a tree fits the fields in which it is spelled, but for constants, levels and the names of what is made.
use Rattle.std.specs.Prelude.{ℕ, Bool, true, ◌&&◌, nat_le, List, length}
use Rattle.std.specs.List.{list_all}
use Rattle.calculus.specs.declared.query.AggSource.{AggSource, Named}
use Rattle.calculus.specs.declared.query.QTerm.{QTerm, Int, Chars, Attr, Agg', items-the_row-QTerm, Row_of-QTerm, end_of-QTerm, more_of-QTerm, Row_of-QAgg, end_of-QAgg, more_of-QAgg}
use Rattle.calculus.specs.declared.query.QQual.{QQual, True, Cmp, Like}
use Rattle.calculus.specs.declared.query.Query.{Query, Query', items-the_row-Target, Row_of-Target, end_of-Target, more_of-Target}
use Rattle.calculus.specs.declared.request.Asked.{Asked}
use Rattle.calculus.specs.declared.request.Checked.{Checked}
use Rattle.calculus.specs.declared.request.Checked.TheVariants as checked
use Rattle.calculus.specs.declared.request.CopyCol.{CopyCol}
use Rattle.calculus.specs.declared.request.Update.{Update}
use Rattle.calculus.specs.declared.request.Utility.{Utility}
use Rattle.calculus.specs.declared.request.Utility.TheVariants as utility
use Rattle.calculus.specs.declared.schema.Attr.{Attr as Attribute}
use Rattle.calculus.specs.declared.schema.Permit.{Permit}
use Rattle.calculus.specs.declared.schema.Rule.{Rule}
use Rattle.calculus.specs.Name.{is_name}
use Rattle.calculus.specs.Limits.{greatest_number}
use Rattle.calculus.specs.IsDatabase.{is_kind}
use Rattle.calculus.specs.Tree.{neg, abs, operation, concat, both, either, negated, rows_of_query}
use Rattle.quel_meaning.specs.Columns.{is_copy_form}
use Rattle.quel_meaning.specs.SpelledTree.{key_is_spelled}

-- ---- fields

-- a place: one byte says it
abbrev pub is_place : ℕ → Bool
is_place n = nat_le n 255

-- how many there are in a list, a slot, or a column: two bytes say it
abbrev pub is_count : ℕ → Bool
is_count n = nat_le n 65535

-- the number of a permit or a rule: four bytes say it
abbrev pub is_number : ℕ → Bool
is_number n = nat_le n greatest_number

-- no more items than a count can say, each of which passes the test
abbrev pub are_short : {A : Type 0} → (A → Bool) → List A → Bool
are_short test xs = is_count (length xs) && list_all test xs

-- ---- terms, qualifications and queries

abbrev mutual
  -- in a term the places of variables and attributes are ones, in aggregates too
  pub term_is_short : QTerm → Bool
  term_is_short (Int n) = true
  term_is_short (Chars bytes) = true
  term_is_short (Attr var attr) = is_place var && is_place attr
  term_is_short (neg t) = term_is_short t
  term_is_short (abs t) = term_is_short t
  term_is_short (operation op t u) = term_is_short t && term_is_short u
  term_is_short (concat t u) = term_is_short t && term_is_short u
  term_is_short (Agg' mark row) = aggregate_is_short row

  -- of the aggregate that a term is, the slot is one, and the terms that group and those that link are no more than a count can say
  pub aggregate_is_short : {n : _} → Row_of-QAgg n → Bool
  aggregate_is_short end_of-QAgg = true
  aggregate_is_short (more_of-QAgg slot op source arg bys by links link qual rest) =
      is_count slot
      && (source_is_short source
      && (term_is_short arg
      && (is_count (length (items-the_row-QTerm _ by))
      && (terms_are_short by && (is_count (length (items-the_row-QTerm _ link)) && (terms_are_short link && qual_is_short qual))))))

  -- an aggregate's source has a key of names, or is a short query
  pub source_is_short : AggSource → Bool
  source_is_short (Named key) = key_is_spelled key
  source_is_short (rows_of_query q) = query_is_short q

  -- several terms
  pub terms_are_short : {n : _} → Row_of-QTerm n → Bool
  terms_are_short end_of-QTerm = true
  terms_are_short (more_of-QTerm t rest) = term_is_short t && terms_are_short rest

  -- a qualification
  pub qual_is_short : QQual → Bool
  qual_is_short True = true
  qual_is_short (Cmp op t u) = term_is_short t && term_is_short u
  qual_is_short (Like t pattern same) = term_is_short t
  qual_is_short (both p q) = qual_is_short p && qual_is_short q
  qual_is_short (either p q) = qual_is_short p && qual_is_short q
  qual_is_short (negated p) = qual_is_short p

  -- several targets, whose kinds are ones
  pub targets_are_short : {n : _} → Row_of-Target n → Bool
  targets_are_short end_of-Target = true
  targets_are_short (more_of-Target name kind term rest) = is_kind kind && (term_is_short term && targets_are_short rest)

  -- a query: its variables range over keys of names, and they and its targets are no more than a count can say
  pub query_is_short : Query → Bool
  query_is_short (Query' vars marks targets qual) =
      is_count (length vars)
      && (list_all key_is_spelled vars && (is_count (length (items-the_row-Target _ targets)) && (targets_are_short targets && qual_is_short qual)))

-- ---- trees

-- a query that is asked, with no more columns to sort by than a count can say
abbrev pub asked_is_short : Asked → Bool
asked_is_short a = query_is_short a.query && are_short (λ k. is_count k.column) a.sort

-- an update: the places of the attributes that it sets, its query, and what must hold of new rows
abbrev pub update_is_short : Update → Bool
update_is_short u =
    key_is_spelled u.rel
    && (is_place u.old && (are_short is_place u.places && (query_is_short u.query && (are_short qual_is_short u.checks && qual_is_short u.new_cut))))

-- a permit: its number, the places of the attributes that it lists, and its qualification
abbrev pub permit_is_short : Permit → Bool
permit_is_short permit = is_number permit.number && (are_short is_place permit.attrs && qual_is_short permit.qual)

-- a rule: its number and its qualification
abbrev pub rule_is_short : Rule → Bool
rule_is_short rule = is_number rule.number && qual_is_short rule.qual

-- an attribute has a name and a kind
abbrev pub attr_is_short : Attribute → Bool
attr_is_short a = is_name a.name && is_kind a.kind

-- a column of a file has the place of its attribute and a form that is one
abbrev pub column_is_short : CopyCol → Bool
column_is_short c = is_place c.attr && is_copy_form c.form

-- what the utilities are asked for: keys of names, and lists that a count can say
abbrev pub utility_is_short : Utility → Bool
utility_is_short (utility.Create rel attrs) = are_short attr_is_short attrs
utility_is_short (utility.Destroy rels) = are_short key_is_spelled rels
utility_is_short (utility.Modify rel to keys) = key_is_spelled rel && are_short is_place keys
utility_is_short (utility.Index base name keys) = key_is_spelled base && are_short is_place keys
utility_is_short (utility.Copy rel columns from file) = key_is_spelled rel && are_short column_is_short columns
utility_is_short (utility.View rel query) = query_is_short query
utility_is_short (utility.Permit rel permit) = key_is_spelled rel && permit_is_short permit
utility_is_short (utility.Rule rel rule) = key_is_spelled rel && rule_is_short rule
utility_is_short (utility.DropPermits rel numbers) = key_is_spelled rel && are_short is_number numbers
utility_is_short (utility.DropRules rel numbers) = key_is_spelled rel && are_short is_number numbers

-- a tree is short: its lists have no more items than their counts can say, its places, slots and numbers are no greater than their fields, its keys are of names and its kinds are ones
unfoldable pub tree_is_short : Checked → Bool
tree_is_short (checked.Answer asked) = are_short asked_is_short asked
tree_is_short (checked.Update update) = update_is_short update
tree_is_short (checked.Utility request) = utility_is_short request
