-- What is said of the tree of one statement, and of its parts.
use Rattle.std.specs.Prelude.{◌≡◌, ℕ, Bool, ◌&&◌, List, map, slice_get, Some, Result, Ok, Err}
use Rattle.calculus.specs.declared.query.QTerm.{Attr}
use Rattle.calculus.specs.declared.query.Target.{Target}
use Rattle.calculus.specs.declared.request.Checked.{Checked}
use Rattle.calculus.specs.declared.request.CopyForm.{CopyForm}
use Rattle.calculus.specs.declared.schema.RelInfo.{RelInfo}
use Rattle.calculus.specs.declared.statement.Statement.{Statement}
use Rattle.calculus.specs.declared.value.Domain.{Domain}
use Rattle.calculus.specs.declared.value.Kind.TheVariants.{Of}
use Rattle.calculus.specs.Kinds.{is_text_kind}
use Rattle.quel_meaning.specs.Causes.{is_binary}
use Rattle.quel_meaning.specs.Resolved.{resolved}
use Rattle.quel_meaning.specs.Scope.{Scope, place_found}
use Rattle.utility_trees.specs.Answers.{Says}
use Rattle.utility_trees.specs.declared.fault.CheckFault.{CheckFault}

-- what comes is what the statement asks for; a number that refuses is the one that refuses it
abbrev pub Serves : Scope → Statement → Result Checked CheckFault → Type 0
Serves s stmt r = Says (λ tree. resolved s.db s.user s.ranges stmt ≡ Ok tree) (λ number. resolved s.db s.user s.ranges stmt ≡ Err number) r

-- the target of the attribute of this name and domain at this place of the first variable's row
abbrev pub column_target : ℕ → List ℕ → Domain → Target
column_target place name domain = record { name = name; kind = Of domain; term = Attr 0 place }

-- a column has a number's bytes, and the attribute of this relation that it names is a text
abbrev pub is_binary_text_of : RelInfo → (List ℕ × CopyForm) → Bool
is_binary_text_of info c = is_binary c.1 && is_text_kind (slice_get (map (λ a. a.kind) info.attrs) (place_found (Some info) c.0))
