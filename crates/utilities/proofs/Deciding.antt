-- What the schema decides of a utility, and what follows of it where the database is known.
use Rattle.std.proofs.Common.{◌≡◌, ◌⊎◌, inl, inr, refl, sym, ap, ◌∙◌, subst, cond, ℕ, ◌≤◌, Bool, true, false, not, List, [], ◌∷◌, ◌++◌}
use Rattle.std.specs.Prelude.{Option, Some, None, Result, Ok, Err, IsTrue, IfOk, is_some}
use Rattle.calculus.specs.declared.change.DbChange.{DbChange}
use Rattle.calculus.specs.declared.change.DbChange.TheVariants as change
use Rattle.calculus.specs.declared.query.RelKey.{RelKey}
use Rattle.calculus.specs.declared.request.Utility.{Utility}
use Rattle.calculus.specs.declared.request.Utility.TheVariants as utility
use Rattle.calculus.specs.declared.schema.Rule.{Rule}
use Rattle.calculus.specs.Change.{rule_numbers}
use Rattle.calculus.specs.Database.{Db}
use Rattle.calculus.specs.Replacement.{first_refusal}
use Rattle.quel_meaning.specs.Planned.{planned, plan_refusals, plan_change, is_past_limit, next_number, owner_refusals}
use Rattle.utilities.specs.Causes.{IsCaused, HasCause, HasCauseBy}
use Rattle.utilities.specs.Decided.{ButRows, IsDecided, is_rule, planned_but_rows, schema_refusals}
use Rattle.utilities.specs.declared.fault.UtilFault.{UtilFault}
use Rattle.utilities.specs.declared.fault.UtilFault.TheVariants.{No, Base, OutOfMemory}
use Rattle.utilities.proofs.Causes.{first_there, first_past}

-- ---- what is no rule is planned by the schema

but_rows : (s : Db) (user : List ℕ) (u : Utility) → is_rule u ≡ false → planned s user u ≡ planned_but_rows s user u
unfolding plan_refusals planned
but_rows s user (utility.Create rel attrs) h = refl
but_rows s user (utility.Destroy rels) h = refl
but_rows s user (utility.Modify rel to keys) h = refl
but_rows s user (utility.Index base name keys) h = refl
but_rows s user (utility.Copy rel columns from file) h = refl
but_rows s user (utility.View rel query) h = refl
but_rows s user (utility.Permit rel permit) h = refl
but_rows s user (utility.Rule rel rule) h = absurd (cc h)
but_rows s user (utility.DropPermits rel numbers) h = refl
but_rows s user (utility.DropRules rel numbers) h = refl

pub no_rule : (u : Utility) → ((rel : RelKey) (rule : Rule) → u ≡ utility.Rule rel rule → ⊥) → is_rule u ≡ false
no_rule (utility.Create rel attrs) not = refl
no_rule (utility.Destroy rels) not = refl
no_rule (utility.Modify rel to keys) not = refl
no_rule (utility.Index base name keys) not = refl
no_rule (utility.Copy rel columns from file) not = refl
no_rule (utility.View rel query) not = refl
no_rule (utility.Permit rel permit) not = refl
no_rule (utility.Rule rel rule) not = absurd (not rel rule refl)
no_rule (utility.DropPermits rel numbers) not = refl
no_rule (utility.DropRules rel numbers) not = refl

pub decided : (s : Db) (user : List ℕ) (u : Utility) (schema known : Option Db) (before now : ℕ) (result : Result DbChange UtilFault) → is_rule u ≡ false → schema ≡ Some s
    → IfOk result (λ c. planned s user u ≡ Ok c) → HasCauseBy user u schema known before now result → IsDecided s user u result
decided s user u schema known before now result plain is made cause = by_result result made cause.caused
  where
    by_result : (result : Result DbChange UtilFault) → IfOk result (λ c. planned s user u ≡ Ok c) → IsCaused user u schema known before now result → IsDecided s user u result
    by_result (Ok c) made caused = sym (but_rows s user u plain) ∙ made
    by_result (Err (No number)) made caused = inl (sym (but_rows s user u plain) ∙ caused.1 s is)
    by_result (Err (Base fault)) made caused = tt
    by_result (Err OutOfMemory) made caused = tt

-- what comes of a schema comes of the database whose it is
pub known_cause : {T : Type 0} (user : List ℕ) (u : Utility) (schema known : Option Db) (before now : ℕ) (result : Result T UtilFault) → ((db : Db) → known ≡ Some db → schema ≡ Some db)
    → HasCauseBy {T = T} user u schema known before now result → HasCause {T = T} user u known before now result
known_cause {T = T} user u schema known before now result own cause = record { later = cause.later; caused = by_result result cause.caused }
  where
    by_result : (result : Result T UtilFault) → IsCaused {T = T} user u schema known before now result → IsCaused {T = T} user u known known before now result
    by_result (Ok x) caused = caused
    by_result (Err (No number)) caused = (caused.0, λ db e. caused.1 db (own db e))
    by_result (Err (Base fault)) caused = caused
    by_result (Err OutOfMemory) caused = caused

-- ---- a rule

-- what refuses a rule whatever the rows are
abbrev rule_refusals : Db → List ℕ → RelKey → List (ℕ × Bool)
rule_refusals s user rel = (14, is_past_limit 100 (rule_numbers s rel)) ∷ owner_refusals s user rel

abbrev planned_by : Db → Utility → Option ℕ → Result DbChange ℕ
planned_by s u o = elim o [ None ↦ Ok (plan_change s u) | Some number ↦ Err number ]

rule_but_rows : (s : Db) (user : List ℕ) (rel : RelKey) (rule : Rule) → planned_but_rows s user (utility.Rule rel rule) ≡ planned_by s (utility.Rule rel rule) (first_refusal (rule_refusals s user rel))
unfolding plan_refusals
rule_but_rows s user rel rule = refl

pub rule_past_decided : (s : Db) (user : List ℕ) (rel : RelKey) (rule : Rule) (standing : List ℕ) → standing ≡ rule_numbers s rel → is_past_limit 100 standing ≡ true
    → IsDecided s user (utility.Rule rel rule) (Err (No 14))
rule_past_decided s user rel rule standing e h =
    inl (rule_but_rows s user rel rule ∙ ap (planned_by s (utility.Rule rel rule)) (sym (first_there 14 (is_past_limit 100 (rule_numbers s rel)) (owner_refusals s user rel) (ap (is_past_limit 100) (sym e) ∙ h))))

-- nothing refuses it but rows
unrefused : (s : Db) (user : List ℕ) (rel : RelKey) (rule : Rule) (standing : List ℕ) → standing ≡ rule_numbers s rel → is_past_limit 100 standing ≡ false
    → None ≡ first_refusal (owner_refusals s user rel) → planned_but_rows s user (utility.Rule rel rule) ≡ Ok (plan_change s (utility.Rule rel rule))
unrefused s user rel rule standing e h none =
    rule_but_rows s user rel rule ∙ ap (planned_by s (utility.Rule rel rule)) (sym (first_past 14 (is_past_limit 100 (rule_numbers s rel)) (owner_refusals s user rel) None (ap (is_past_limit 100) (sym e) ∙ h) none))

pub rule_refused_decided : (s : Db) (user : List ℕ) (rel : RelKey) (rule : Rule) (standing : List ℕ) (number : ℕ) (cause : Option ℕ) → standing ≡ rule_numbers s rel → is_past_limit 100 standing ≡ false
    → ButRows (first_refusal (owner_refusals s user rel)) cause → cause ≡ Some number → IsDecided s user (utility.Rule rel rule) (Err (No number))
rule_refused_decided s user rel rule standing number cause e h (inl is) some =
    inl (rule_but_rows s user rel rule ∙ ap (planned_by s (utility.Rule rel rule))
    (sym (first_past 14 (is_past_limit 100 (rule_numbers s rel)) (owner_refusals s user rel) (Some number) (ap (is_past_limit 100) (sym e) ∙ h) (sym some ∙ is))))
rule_refused_decided s user rel rule standing number cause e h (inr broken) some =
    inr (cc (broken.1, some), refl, unrefused s user rel rule standing e h (sym broken.0))

pub rule_made_decided : (s : Db) (user : List ℕ) (rel : RelKey) (rule : Rule) (standing : List ℕ) (number : ℕ) (c : DbChange) (cause : Option ℕ) → standing ≡ rule_numbers s rel
    → is_past_limit 100 standing ≡ false → number ≡ next_number standing → ButRows (first_refusal (owner_refusals s user rel)) cause → cause ≡ None
    → c ≡ change.Rule rel (record rule { number = number }) → IsDecided s user (utility.Rule rel rule) (Ok c)
unfolding plan_change
rule_made_decided s user rel rule standing number c cause e h next (inl is) none made =
    unrefused s user rel rule standing e h (sym none ∙ is)
    ∙ ap Ok (sym (made ∙ ap (λ n. change.Rule rel (record rule { number = n })) (next ∙ ap next_number e)))
rule_made_decided s user rel rule standing number c cause e h next (inr broken) none made = absurd (cc (broken.1, none))

-- ---- the schema that the first question fixes

-- what is known before stays, so it is what is known behind
pub by_first : (old new : Option Db) (P : Db → Type 0) → IsTrue (is_some old) → ((s : Db) → old ≡ Some s → new ≡ Some s) → ((s : Db) → old ≡ Some s → P s)
    → (s : Db) → new ≡ Some s → P s
by_first None new P schema stays holds s e = absurd (cc schema)
by_first (Some t) new P schema stays holds s e = let same : t ≡ s = cc (stays t refl, e) in subst P same (holds t refl)
