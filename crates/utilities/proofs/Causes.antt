-- The first of several causes, and what a plan is where there is one or none.
use Rattle.std.proofs.Common.{◌≡◌, sym, ap, ◌∙◌, ℕ, Bool, true, false, List, ◌∷◌}
use Rattle.std.specs.Prelude.{Option, Some, None, Ok, Err}
use Rattle.calculus.specs.declared.request.Utility.{Utility}
use Rattle.calculus.specs.Database.{Db}
use Rattle.calculus.specs.Replacement.{first_refusal}
use Rattle.quel_meaning.specs.Planned.{planned, plan_refusals, plan_change}

-- this number where it is there, else those behind it
abbrev by : Bool → ℕ → Option ℕ → Option ℕ
by b n behind = elim b [ true ↦ Some n | false ↦ behind ]

-- the first of all decides where it is there
pub first_there : (n : ℕ) (b : Bool) (rest : List (ℕ × Bool)) → b ≡ true → Some n ≡ first_refusal ((n, b) ∷ rest)
first_there n b rest h = sym (ap (λ b. by b n (first_refusal rest)) h)

-- and those behind where it isn't
pub first_past : (n : ℕ) (b : Bool) (rest : List (ℕ × Bool)) (o : Option ℕ) → b ≡ false → o ≡ first_refusal rest → o ≡ first_refusal ((n, b) ∷ rest)
first_past n b rest o h e = e ∙ sym (ap (λ b. by b n (first_refusal rest)) h)

-- a cause that is there refuses
pub refused : (db : Db) (user : List ℕ) (u : Utility) (n : ℕ) → Some n ≡ first_refusal (plan_refusals db user u) → planned db user u ≡ Err n
unfolding planned
refused db user u n h = sym (ap (λ o. elim o [ None ↦ Ok (plan_change db u) | Some number ↦ Err number ]) h)

-- where none is, the change is made
pub accepted : (db : Db) (user : List ℕ) (u : Utility) → None ≡ first_refusal (plan_refusals db user u) → planned db user u ≡ Ok (plan_change db u)
unfolding planned
accepted db user u h = sym (ap (λ o. elim o [ None ↦ Ok (plan_change db u) | Some number ↦ Err number ]) h)
