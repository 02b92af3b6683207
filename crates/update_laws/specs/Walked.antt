-- What a walk through a tree, as a program holds it, finds of its constants.
use Rattle.std.specs.Prelude.{ℕ, Bool, true, ◌&&◌, List}
use Rattle.std.specs.List.{list_all}
use Rattle.calculus.specs.declared.query.AggSource.{AggSource}
use Rattle.calculus.specs.declared.query.QAgg.{QAgg}
use Rattle.calculus.specs.declared.query.QQual.{QQual}
use Rattle.calculus.specs.declared.query.QTerm.{QTerm}
use Rattle.calculus.specs.declared.query.Target.{Target}
use Rattle.calculus.specs.declared.request.Asked.{Asked}
use Rattle.calculus.specs.declared.request.Checked.{Checked}
use Rattle.calculus.specs.declared.request.Checked.TheVariants as checked
use Rattle.calculus.specs.declared.request.Utility.TheVariants as utility
use Rattle.calculus.specs.Name.{is_name}
use Rattle.calculus.specs.Rights.{are_rights}
use Rattle.calculus.specs.Spelled.{term_is_spelled, source_is_spelled, qual_is_spelled, query_is_spelled}
use Rattle.calculus.specs.Tree.{aggregate}

-- the constants of a term are those of their types
unfoldable pub term_is_walked : QTerm → Bool
term_is_walked t = term_is_spelled t

-- so are those of each of these terms
unfoldable pub terms_are_walked : List QTerm → Bool
terms_are_walked ts = list_all term_is_walked ts

-- those of an aggregate's source
unfoldable pub source_is_walked : AggSource → Bool
source_is_walked source = source_is_spelled source

-- those of an aggregate
unfoldable pub aggregate_is_walked : QAgg → Bool
aggregate_is_walked g = term_is_spelled (aggregate g)

-- a target's name, and the constants of its term
unfoldable pub target_is_walked : List ℕ → QTerm → Bool
target_is_walked name term = is_name name && term_is_walked term

-- those of these targets
unfoldable pub targets_are_walked : List Target → Bool
targets_are_walked targets = list_all (λ t. target_is_walked t.name t.term) targets

-- those of a qualification
unfoldable pub qual_is_walked : QQual → Bool
qual_is_walked q = qual_is_spelled q

-- those of these qualifications
unfoldable pub quals_are_walked : List QQual → Bool
quals_are_walked quals = list_all qual_is_walked quals

-- those of these queries
unfoldable pub asked_are_walked : List Asked → Bool
asked_are_walked asked = list_all (λ a. query_is_spelled a.query) asked

-- where the tree defines a permit, what this allows is a sum of rights
abbrev pub names_rights : Checked → Bool
names_rights (checked.Utility (utility.Permit rel permit)) = are_rights permit.ops
names_rights _ = true
