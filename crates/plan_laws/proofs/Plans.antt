-- What the utilities plan of permits and rules is lawful.
use Rattle.std.proofs.Common.{◌≡◌, subst, ℕ, IsTrue, List}
use Rattle.std.specs.Prelude.{Ok}
use Rattle.std.specs.List.{list_all}
use Rattle.calculus.specs.declared.query.RelKey.{RelKey}
use Rattle.calculus.specs.declared.schema.Permit.{Permit}
use Rattle.calculus.specs.declared.schema.Rule.{Rule}
use Rattle.calculus.specs.declared.request.Utility.TheVariants as utility
use Rattle.calculus.specs.declared.change.DbChange.{DbChange}
use Rattle.calculus.specs.Lists.{has_number}
use Rattle.calculus.specs.Database.{Db}
use Rattle.calculus.specs.IsDatabase.{IsDatabase}
use Rattle.calculus.specs.Change.{permit_numbers, rule_numbers, IsLawful}
use Rattle.quel_meaning.specs.Planned.{planned, plan_refusals, plan_change}
use Rattle.plan_laws.specs.Fitting.{IsFitPermit, IsFitRule, is_ranged}
use Rattle.plan_laws.proofs.Planned.{is_not, all_absent, not_refused, base_relation, administrator_owns}
use Rattle.plan_laws.proofs.NewNumbers.{permit_lawful, rule_lawful}
use Rattle.plan_laws.proofs.GoneNumbers.{permits_gone, rules_gone}

pub permit_planned : (db : Db) (user : List ℕ) (rel : RelKey) (permit : Permit) (change : DbChange) → IsDatabase db → IsFitPermit db rel permit
    → planned db user (utility.Permit rel permit) ≡ Ok change → IsLawful db change
unfolding plan_refusals plan_change
permit_planned db user rel permit change is fit e =
    let plan = not_refused db user (utility.Permit rel permit) change e in
    let absent = all_absent (plan_refusals db user (utility.Permit rel permit)) plan.0 in
    subst (IsLawful db) plan.1
    (permit_lawful db rel permit is fit (base_relation db rel fit.there absent.1.0 absent.1.1.0) (administrator_owns db user rel absent.1.1.1.0) absent.0)

pub rule_planned : (db : Db) (user : List ℕ) (rel : RelKey) (rule : Rule) (change : DbChange) → IsDatabase db → IsFitRule db rel rule
    → planned db user (utility.Rule rel rule) ≡ Ok change → IsLawful db change
unfolding plan_refusals plan_change
rule_planned db user rel rule change is fit e =
    let plan = not_refused db user (utility.Rule rel rule) change e in
    let absent = all_absent (plan_refusals db user (utility.Rule rel rule)) plan.0 in
    subst (IsLawful db) plan.1 (rule_lawful db rel rule is fit (base_relation db rel fit.there absent.1.0 absent.1.1.0) absent.0)

pub dropped_permits_planned : (db : Db) (user : List ℕ) (rel : RelKey) (numbers : List ℕ) (change : DbChange) → IsDatabase db → IsTrue (is_ranged db rel)
    → planned db user (utility.DropPermits rel numbers) ≡ Ok change → IsLawful db change
unfolding plan_refusals plan_change
dropped_permits_planned db user rel numbers change is there e =
    let plan = not_refused db user (utility.DropPermits rel numbers) change e in
    let absent = all_absent (plan_refusals db user (utility.DropPermits rel numbers)) plan.0 in
    subst (IsLawful db) plan.1
    (permits_gone db rel numbers is (base_relation db rel there absent.0 absent.1.0) (is_not (list_all (has_number (permit_numbers db rel)) numbers) absent.1.1.1.0))

pub dropped_rules_planned : (db : Db) (user : List ℕ) (rel : RelKey) (numbers : List ℕ) (change : DbChange) → IsDatabase db → IsTrue (is_ranged db rel)
    → planned db user (utility.DropRules rel numbers) ≡ Ok change → IsLawful db change
unfolding plan_refusals plan_change
dropped_rules_planned db user rel numbers change is there e =
    let plan = not_refused db user (utility.DropRules rel numbers) change e in
    let absent = all_absent (plan_refusals db user (utility.DropRules rel numbers)) plan.0 in
    subst (IsLawful db) plan.1
    (rules_gone db rel numbers is (base_relation db rel there absent.0 absent.1.0) (is_not (list_all (has_number (rule_numbers db rel)) numbers) absent.1.1.1.0))
