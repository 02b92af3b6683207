-- What each statement has that is read from a text.
use Rattle.std.specs.Prelude.{ℕ, Bool, true, ◌&&◌, nat_le, List, length, Option, Some, None}
use Rattle.std.specs.List.{list_all}
use Rattle.calculus.specs.declared.statement.Term.{Term, Int, Chars, Attr, Agg', Row_of-Term, end_of-Term, more_of-Term, Row_of-AggTerm, end_of-AggTerm, more_of-AggTerm}
use Rattle.calculus.specs.declared.statement.Qual.{Qual, True, Cmp}
use Rattle.calculus.specs.declared.statement.Item.{Item}
use Rattle.calculus.specs.declared.statement.Item.TheVariants as item
use Rattle.calculus.specs.declared.statement.Statement.{Statement}
use Rattle.calculus.specs.declared.statement.Statement.TheVariants as statement
use Rattle.calculus.specs.Chars.{is_chars}
use Rattle.calculus.specs.IsDatabase.{is_domain, user_is_named}
use Rattle.calculus.specs.Limits.{most_keys}
use Rattle.calculus.specs.Lists.{is_any}
use Rattle.calculus.specs.Name.{is_name}
use Rattle.calculus.specs.Number.{has_64_bits}
use Rattle.calculus.specs.Rights.{are_rights}
use Rattle.calculus.specs.Structures.{is_structure}
use Rattle.calculus.specs.Written.{neg, abs, operation, concat, both, either, negated}
use Rattle.quel_meaning.specs.Columns.{is_copy_form}

abbrev mutual
  -- in a term each number has 64 bits, and each text constant is one, in aggregates too
  pub term_is_written : Term → Bool
  term_is_written (Int n) = has_64_bits n
  term_is_written (Chars bytes) = is_chars bytes
  term_is_written (Attr var attr) = true
  term_is_written (neg t) = term_is_written t
  term_is_written (abs t) = term_is_written t
  term_is_written (operation op t u) = term_is_written t && term_is_written u
  term_is_written (concat t u) = term_is_written t && term_is_written u
  term_is_written (Agg' mark row) = aggregate_is_written row

  -- so it is in the aggregate that a term is
  pub aggregate_is_written : {n : _} → Row_of-AggTerm n → Bool
  aggregate_is_written end_of-AggTerm = true
  aggregate_is_written (more_of-AggTerm op arg bys by qual rest) = term_is_written arg && (terms_are_written by && qual_is_written qual)

  -- in several terms
  pub terms_are_written : {n : _} → Row_of-Term n → Bool
  terms_are_written end_of-Term = true
  terms_are_written (more_of-Term t rest) = term_is_written t && terms_are_written rest

  -- in a qualification
  pub qual_is_written : Qual → Bool
  qual_is_written True = true
  qual_is_written (Cmp op t u) = term_is_written t && term_is_written u
  qual_is_written (both p q) = qual_is_written p && qual_is_written q
  qual_is_written (either p q) = qual_is_written p && qual_is_written q
  qual_is_written (negated p) = qual_is_written p

-- an item of a target list: its title is a name, and its constants are ones of their types
abbrev pub item_is_written : Item → Bool
item_is_written (item.Set name term) = is_name name && term_is_written term
item_is_written (item.Attr var attr) = true
item_is_written (item.All var) = true

-- a target list has an item
abbrev pub items_are_written : List Item → Bool
items_are_written items = is_any items && list_all item_is_written items

-- a target list and a qualification
abbrev pub query_is_written : List Item → Qual → Bool
query_is_written items qual = items_are_written items && qual_is_written qual

-- key attributes, not too many
abbrev pub keys_are_written : List (List ℕ) → Bool
keys_are_written keys = nat_le (length keys) most_keys

-- what a `retrieve` makes has a name; where it prints it makes nothing
abbrev pub result_is_named : Option (List ℕ) → Bool
result_is_named None = true
result_is_named (Some name) = is_name name

-- what a statement has that is read: a target list, attributes, keys of an index and columns are there, these of forms that are ones, what it makes has a name, its rights are a sum of rights, and its constants are ones of their types
unfoldable pub is_written : Statement → Bool
is_written (statement.Retrieve into items qual sort) = result_is_named into && query_is_written items qual
is_written (statement.Append rel items qual) = query_is_written items qual
is_written (statement.Replace var items qual) = query_is_written items qual
is_written (statement.Delete var qual) = qual_is_written qual
is_written (statement.View name items qual) = is_name name && query_is_written items qual
is_written (statement.Create rel attrs) = is_name rel && (is_any attrs && list_all (λ a. is_name a.0 && is_domain a.1) attrs)
is_written (statement.Modify rel to keys) = is_structure to && keys_are_written keys
is_written (statement.Index base name keys) = is_name name && (is_any keys && keys_are_written keys)
is_written (statement.Copy rel columns from file) = is_any columns && (list_all (λ c. is_copy_form c.1) columns && is_chars file)
is_written (statement.Permit ops var attrs user qual) = are_rights ops && (user_is_named user && qual_is_written qual)
is_written (statement.Rule var qual) = qual_is_written qual
is_written _ = true
