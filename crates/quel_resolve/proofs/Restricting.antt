-- The trees of statements that define or drop permits or rules.
use Rattle.std.proofs.Common.{◌≡◌, sym, ap, ◌∙◌, subst, ℕ, ◌≤◌, List, length, Option, Result, Ok, Err}
use Rattle.std.specs.Option.{IfSome}
use Rattle.std.specs.Result.{IfOk}
use Rattle.calculus.specs.declared.query.Query.{Query}
use Rattle.calculus.specs.declared.request.Checked.{Checked}
use Rattle.calculus.specs.declared.schema.RelInfo.{RelInfo}
use Rattle.calculus.specs.declared.statement.Qual.{Qual}
use Rattle.calculus.specs.declared.statement.Statement.{Statement}
use Rattle.calculus.specs.declared.statement.Statement.TheVariants as statement
use Rattle.calculus.specs.Stored.{attrs_in}
use Rattle.quel_meaning.specs.Resolved.{tree_by}
use Rattle.quel_meaning.specs.Scope.{Scope, named, ranged}
use Rattle.quel_resolve.specs.Changed.{changed}

-- what comes is the tree of the statement wherever this is what it changes
abbrev IsTree : {E : Type 0} → Statement → Query → Option RelInfo → Result (Option Checked) E → Type 0
IsTree s q target r = IfOk r (λ tree. (scope : Scope) → changed scope s ≡ target → length (attrs_in target) ≤ 256 → IfSome tree (λ (checked : Checked). checked ≡ tree_by scope q s))

pub permit_tree : {E : Type 0} (s : Statement) (q : Query) (target : Option RelInfo) (ops : ℕ) (var : List ℕ) (attrs names : List (List ℕ)) (user : Option (List ℕ)) (qual : Qual) → names ≡ attrs
    → s ≡ statement.Permit ops var attrs user qual → (r : Result (Option Checked) E)
    → IfOk r (λ tree. (scope : Scope) (var : List ℕ) (qual : Qual) → ranged scope var ≡ target → length (attrs_in target) ≤ 256 → IfSome tree (λ (checked : Checked). checked ≡ tree_by scope q (statement.Permit ops var names user qual)))
    → IsTree s q target r
permit_tree s q target ops var attrs names user qual n is (Ok tree) k = λ scope ch few.
    subst (λ s. IfSome tree (λ (checked : Checked). checked ≡ tree_by scope q s)) (ap (λ ns. statement.Permit ops var ns user qual) n ∙ sym is) (k scope var qual (ap (changed scope) (sym is) ∙ ch) few)
permit_tree s q target ops var attrs names user qual n is (Err e) k = k

pub rule_tree : {E : Type 0} (s : Statement) (q : Query) (target : Option RelInfo) (var : List ℕ) (qual : Qual) → s ≡ statement.Rule var qual → (r : Result (Option Checked) E)
    → IfOk r (λ tree. (scope : Scope) (var : List ℕ) (qual : Qual) → ranged scope var ≡ target → IfSome tree (λ (checked : Checked). checked ≡ tree_by scope q (statement.Rule var qual)))
    → IsTree s q target r
rule_tree s q target var qual is (Ok tree) k = λ scope ch few.
    subst (λ s. IfSome tree (λ (checked : Checked). checked ≡ tree_by scope q s)) (sym is) (k scope var qual (ap (changed scope) (sym is) ∙ ch))
rule_tree s q target var qual is (Err e) k = k

pub permits_tree : {E : Type 0} (s : Statement) (q : Query) (target : Option RelInfo) (rel : List ℕ) (numbers : List ℕ) → s ≡ statement.DropPermits rel numbers → (r : Result (Option Checked) E)
    → IfOk r (λ tree. (scope : Scope) (rel : List ℕ) (q : Query) → named scope rel ≡ target → IfSome tree (λ (checked : Checked). checked ≡ tree_by scope q (statement.DropPermits rel numbers)))
    → IsTree s q target r
permits_tree s q target rel numbers is (Ok tree) k = λ scope ch few.
    subst (λ s. IfSome tree (λ (checked : Checked). checked ≡ tree_by scope q s)) (sym is) (k scope rel q (ap (changed scope) (sym is) ∙ ch))
permits_tree s q target rel numbers is (Err e) k = k

pub rules_tree : {E : Type 0} (s : Statement) (q : Query) (target : Option RelInfo) (rel : List ℕ) (numbers : List ℕ) → s ≡ statement.DropRules rel numbers → (r : Result (Option Checked) E)
    → IfOk r (λ tree. (scope : Scope) (rel : List ℕ) (q : Query) → named scope rel ≡ target → IfSome tree (λ (checked : Checked). checked ≡ tree_by scope q (statement.DropRules rel numbers)))
    → IsTree s q target r
rules_tree s q target rel numbers is (Ok tree) k = λ scope ch few.
    subst (λ s. IfSome tree (λ (checked : Checked). checked ≡ tree_by scope q s)) (sym is) (k scope rel q (ap (changed scope) (sym is) ∙ ch))
rules_tree s q target rel numbers is (Err e) k = k
