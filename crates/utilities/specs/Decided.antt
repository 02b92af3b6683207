-- What the schema alone decides of a utility.
use Rattle.std.specs.Prelude.{◌≡◌, ◌⊎◌, ℕ, Bool, true, false, not, nat_eq, List, filter, Option, Some, None, Result, Ok, Err, ⊤}
use Rattle.calculus.specs.declared.change.DbChange.{DbChange}
use Rattle.calculus.specs.declared.request.Utility.{Utility}
use Rattle.calculus.specs.declared.request.Utility.TheVariants as utility
use Rattle.calculus.specs.Database.{Db}
use Rattle.calculus.specs.Replacement.{first_refusal}
use Rattle.quel_meaning.specs.Planned.{plan_refusals, plan_change}
use Rattle.utilities.specs.declared.fault.UtilFault.{UtilFault}
use Rattle.utilities.specs.declared.fault.UtilFault.TheVariants.{No, Base, OutOfMemory}

-- the utility makes a rule; no other is refused because of rows
abbrev pub is_rule : Utility → Bool
is_rule (utility.Rule rel rule) = true
is_rule u = false

-- the causes that may refuse a utility whatever the rows are: all but 27, that a row breaks a rule
abbrev pub schema_refusals : Db → List ℕ → Utility → List (ℕ × Bool)
schema_refusals s user u = filter (λ cause. not (nat_eq cause.0 27)) (plan_refusals s user u)

-- what is planned where no row breaks a rule
abbrev pub planned_but_rows : Db → List ℕ → Utility → Result DbChange ℕ
planned_but_rows s user u = elim (first_refusal (schema_refusals s user u)) [ None ↦ Ok (plan_change s u) | Some number ↦ Err number ]

-- a change is the one that is planned where no row breaks a rule, and a number refuses it there; or it is 27 and refuses a rule that nothing else refuses. Nothing is said of other faults
abbrev pub IsDecided : Db → List ℕ → Utility → Result DbChange UtilFault → Type 0
IsDecided s user u (Ok change) = planned_but_rows s user u ≡ Ok change
IsDecided s user u (Err (No number)) =
    (planned_but_rows s user u ≡ Err number) ⊎ ((number ≡ 27) × (is_rule u ≡ true) × (planned_but_rows s user u ≡ Ok (plan_change s u)))
IsDecided s user u (Err (Base fault)) = ⊤
IsDecided s user u (Err OutOfMemory) = ⊤

-- this cause, or where there is none, that a row breaks a rule. No public clause cites it
abbrev pub ButRows : Option ℕ → Option ℕ → Type 0
ButRows decided cause = (cause ≡ decided) ⊎ ((decided ≡ None) × (cause ≡ Some 27))
