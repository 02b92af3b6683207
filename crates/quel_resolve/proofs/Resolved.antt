-- What a statement is resolved to, by what refuses it.
use Rattle.std.proofs.Common.{◌≡◌, refl, ap, ◌∙◌, ℕ, List, Option, Some, None, Result, Ok, Err}
use Rattle.calculus.specs.Database.{Db}
use Rattle.calculus.specs.Replacement.{first_refusal}
use Rattle.calculus.specs.declared.request.Checked.{Checked}
use Rattle.calculus.specs.declared.statement.Statement.{Statement}
use Rattle.quel_meaning.specs.Causes.{refusals}
use Rattle.quel_meaning.specs.Naming.{name_refusal}
use Rattle.quel_meaning.specs.Ranges.{Ranges}
use Rattle.quel_meaning.specs.Resolved.{resolved, tree_of}
use Rattle.quel_names.specs.Asking.{scope_of}

-- what is resolved, where this is the number of a name and this that of a cause
abbrev resolved_by : Db → List ℕ → Ranges → Statement → Option ℕ → Option ℕ → Result Checked ℕ
resolved_by db user ranges stmt name cause = elim name as (λ o. Result Checked ℕ) [
  | Some number ↦ Err number
  | None ↦ elim cause as (λ o. Result Checked ℕ) [ Some number ↦ Err number | None ↦ Ok (tree_of (scope_of db user ranges) stmt) ]
]

by_both : (db : Db) (user : List ℕ) (ranges : Ranges) (stmt : Statement)
    → resolved db user ranges stmt ≡ resolved_by db user ranges stmt (name_refusal (scope_of db user ranges) stmt) (first_refusal (refusals (scope_of db user ranges) stmt))
unfolding resolved
by_both db user ranges stmt = refl

-- a name refuses it
pub by_name : (db : Db) (user : List ℕ) (ranges : Ranges) (stmt : Statement) (n : ℕ) → name_refusal (scope_of db user ranges) stmt ≡ Some n → resolved db user ranges stmt ≡ Err n
by_name db user ranges stmt n h = by_both db user ranges stmt ∙ ap (λ o. resolved_by db user ranges stmt o (first_refusal (refusals (scope_of db user ranges) stmt))) h

-- a cause refuses it
pub by_cause : (db : Db) (user : List ℕ) (ranges : Ranges) (stmt : Statement) (n : ℕ) → name_refusal (scope_of db user ranges) stmt ≡ None
    → first_refusal (refusals (scope_of db user ranges) stmt) ≡ Some n → resolved db user ranges stmt ≡ Err n
by_cause db user ranges stmt n h k = by_both db user ranges stmt ∙ (λ i. resolved_by db user ranges stmt (h i) (k i))

-- nothing refuses it
pub by_nothing : (db : Db) (user : List ℕ) (ranges : Ranges) (stmt : Statement) → name_refusal (scope_of db user ranges) stmt ≡ None
    → first_refusal (refusals (scope_of db user ranges) stmt) ≡ None → resolved db user ranges stmt ≡ Ok (tree_of (scope_of db user ranges) stmt)
by_nothing db user ranges stmt h k = by_both db user ranges stmt ∙ (λ i. resolved_by db user ranges stmt (h i) (k i))
