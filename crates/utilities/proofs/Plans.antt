-- What is planned of each kind, where its causes are there or not.
use Rattle.std.proofs.Common.{◌≡◌, refl, sym, ap, ◌∙◌, ℕ, Bool, true, false, List, [], ◌∷◌, ◌++◌}
use Rattle.std.specs.Prelude.{Some, None, Ok, Err, not}
use Rattle.std.specs.List.{list_all, list_any}
use Rattle.calculus.specs.declared.change.DbChange.{DbChange}
use Rattle.calculus.specs.declared.change.DbChange.TheVariants as change
use Rattle.calculus.specs.declared.query.Query.{Query}
use Rattle.calculus.specs.declared.query.RelKey.{RelKey}
use Rattle.calculus.specs.declared.request.Utility.TheVariants as utility
use Rattle.calculus.specs.declared.schema.Attr.{Attr}
use Rattle.calculus.specs.declared.schema.Permit.{Permit}
use Rattle.calculus.specs.declared.schema.Rule.{Rule}
use Rattle.calculus.specs.declared.schema.Spec.{Spec}
use Rattle.calculus.specs.Catalogue.{is_catalogue}
use Rattle.calculus.specs.Change.{permit_numbers, rule_numbers}
use Rattle.calculus.specs.Database.{Db}
use Rattle.calculus.specs.Lists.{has_number}
use Rattle.calculus.specs.Replacement.{first_refusal}
use Rattle.quel_meaning.specs.Planned.{planned, plan_refusals, plan_change, heap_info, view_info, is_past_limit, next_number, has_view, is_not_the_owner, may_not_grant, is_in_use, is_broken, owner_refusals, dropped}
use Rattle.quel_meaning.specs.Structures.{structure_keys}
use Rattle.utilities.proofs.Causes.{first_there, first_past, refused, accepted}

-- ---- what nothing refuses

pub create_planned : (db : Db) (user : List ℕ) (rel : RelKey) (attrs : List Attr) → planned db user (utility.Create rel attrs) ≡ Ok (change.Create (heap_info rel attrs) [])
unfolding plan_refusals plan_change
create_planned db user rel attrs = accepted db user (utility.Create rel attrs) refl

pub view_planned : (db : Db) (user : List ℕ) (rel : RelKey) (q : Query) → planned db user (utility.View rel q) ≡ Ok (change.View (view_info rel q) q)
unfolding plan_refusals plan_change
view_planned db user rel q = accepted db user (utility.View rel q) refl

-- ---- what is destroyed

-- what refuses that what has these keys goes
abbrev pub destroying_refusals : Db → List ℕ → List RelKey → List (ℕ × Bool)
destroying_refusals db user rels = (28, list_any (is_catalogue db) rels) ∷ (24, list_any (is_not_the_owner user) rels) ∷ (25, is_in_use db rels) ∷ []

pub destroy_refused : (db : Db) (user : List ℕ) (rels : List RelKey) (n : ℕ) → Some n ≡ first_refusal (destroying_refusals db user rels) → planned db user (utility.Destroy rels) ≡ Err n
unfolding plan_refusals
destroy_refused db user rels n cause = refused db user (utility.Destroy rels) n cause

pub destroy_planned : (db : Db) (user : List ℕ) (rels : List RelKey) (c : DbChange) → None ≡ first_refusal (destroying_refusals db user rels) → c ≡ change.Destroy rels
    → planned db user (utility.Destroy rels) ≡ Ok c
unfolding plan_refusals plan_change
destroy_planned db user rels c cause made = accepted db user (utility.Destroy rels) cause ∙ ap Ok (sym made)

-- ---- another structure, and an index

pub modify_refused : (db : Db) (user : List ℕ) (rel : RelKey) (to : Spec) (keys : List ℕ) (n : ℕ) → Some n ≡ first_refusal (owner_refusals db user rel)
    → planned db user (utility.Modify rel to keys) ≡ Err n
unfolding plan_refusals
modify_refused db user rel to keys n cause = refused db user (utility.Modify rel to keys) n cause

pub modify_planned : (db : Db) (user : List ℕ) (rel : RelKey) (to : Spec) (keys : List ℕ) (c : DbChange) → None ≡ first_refusal (owner_refusals db user rel)
    → c ≡ change.Modify rel to (structure_keys to keys) → planned db user (utility.Modify rel to keys) ≡ Ok c
unfolding plan_refusals plan_change
modify_planned db user rel to keys c cause made = accepted db user (utility.Modify rel to keys) cause ∙ ap Ok (sym made)

pub index_refused : (db : Db) (user : List ℕ) (rel : RelKey) (name : List ℕ) (keys : List ℕ) (n : ℕ) → Some n ≡ first_refusal (owner_refusals db user rel)
    → planned db user (utility.Index rel name keys) ≡ Err n
unfolding plan_refusals
index_refused db user rel name keys n cause = refused db user (utility.Index rel name keys) n cause

pub index_planned : (db : Db) (user : List ℕ) (rel : RelKey) (name : List ℕ) (keys : List ℕ) (c : DbChange) → None ≡ first_refusal (owner_refusals db user rel)
    → c ≡ change.Index rel name keys → planned db user (utility.Index rel name keys) ≡ Ok c
unfolding plan_refusals plan_change
index_planned db user rel name keys c cause made = accepted db user (utility.Index rel name keys) cause ∙ ap Ok (sym made)

-- ---- a permit

-- what refuses a change of permits because of the relation and the user
abbrev pub permitting_refusals : Db → List ℕ → RelKey → List (ℕ × Bool)
permitting_refusals db user rel = (28, is_catalogue db rel) ∷ (26, has_view db rel) ∷ (24, may_not_grant db user rel) ∷ []

pub permit_past : (db : Db) (user : List ℕ) (rel : RelKey) (permit : Permit) (standing : List ℕ) → standing ≡ permit_numbers db rel → is_past_limit 100 standing ≡ true
    → planned db user (utility.Permit rel permit) ≡ Err 14
unfolding plan_refusals
permit_past db user rel permit standing e h =
    refused db user (utility.Permit rel permit) 14
    (first_there 14 (is_past_limit 100 (permit_numbers db rel)) (permitting_refusals db user rel) (ap (is_past_limit 100) (sym e) ∙ h))

pub permit_refused : (db : Db) (user : List ℕ) (rel : RelKey) (permit : Permit) (standing : List ℕ) (n : ℕ) → standing ≡ permit_numbers db rel → is_past_limit 100 standing ≡ false
    → Some n ≡ first_refusal (permitting_refusals db user rel) → planned db user (utility.Permit rel permit) ≡ Err n
unfolding plan_refusals
permit_refused db user rel permit standing n e h cause =
    refused db user (utility.Permit rel permit) n
    (first_past 14 (is_past_limit 100 (permit_numbers db rel)) (permitting_refusals db user rel) (Some n) (ap (is_past_limit 100) (sym e) ∙ h) cause)

pub permit_made : (db : Db) (user : List ℕ) (rel : RelKey) (permit : Permit) (standing : List ℕ) (number : ℕ) (c : DbChange) → standing ≡ permit_numbers db rel
    → is_past_limit 100 standing ≡ false → number ≡ next_number standing → None ≡ first_refusal (permitting_refusals db user rel)
    → c ≡ change.Permit rel (record permit { number = number }) → planned db user (utility.Permit rel permit) ≡ Ok c
unfolding plan_refusals plan_change
permit_made db user rel permit standing number c e h next cause made =
    accepted db user (utility.Permit rel permit)
    (first_past 14 (is_past_limit 100 (permit_numbers db rel)) (permitting_refusals db user rel) None (ap (is_past_limit 100) (sym e) ∙ h) cause)
    ∙ ap Ok (sym (made ∙ ap (λ n. change.Permit rel (record permit { number = n })) (next ∙ ap next_number e)))

-- ---- a rule

pub rule_past : (db : Db) (user : List ℕ) (rel : RelKey) (rule : Rule) (standing : List ℕ) → standing ≡ rule_numbers db rel → is_past_limit 100 standing ≡ true
    → planned db user (utility.Rule rel rule) ≡ Err 14
unfolding plan_refusals
rule_past db user rel rule standing e h =
    refused db user (utility.Rule rel rule) 14
    (first_there 14 (is_past_limit 100 (rule_numbers db rel)) (owner_refusals db user rel ++ (27, is_broken db rel rule) ∷ []) (ap (is_past_limit 100) (sym e) ∙ h))

pub rule_refused : (db : Db) (user : List ℕ) (rel : RelKey) (rule : Rule) (standing : List ℕ) (n : ℕ) → standing ≡ rule_numbers db rel → is_past_limit 100 standing ≡ false
    → Some n ≡ first_refusal (owner_refusals db user rel ++ (27, is_broken db rel rule) ∷ []) → planned db user (utility.Rule rel rule) ≡ Err n
unfolding plan_refusals
rule_refused db user rel rule standing n e h cause =
    refused db user (utility.Rule rel rule) n
    (first_past 14 (is_past_limit 100 (rule_numbers db rel)) (owner_refusals db user rel ++ (27, is_broken db rel rule) ∷ []) (Some n) (ap (is_past_limit 100) (sym e) ∙ h) cause)

pub rule_made : (db : Db) (user : List ℕ) (rel : RelKey) (rule : Rule) (standing : List ℕ) (number : ℕ) (c : DbChange) → standing ≡ rule_numbers db rel
    → is_past_limit 100 standing ≡ false → number ≡ next_number standing → None ≡ first_refusal (owner_refusals db user rel ++ (27, is_broken db rel rule) ∷ [])
    → c ≡ change.Rule rel (record rule { number = number }) → planned db user (utility.Rule rel rule) ≡ Ok c
unfolding plan_refusals plan_change
rule_made db user rel rule standing number c e h next cause made =
    accepted db user (utility.Rule rel rule)
    (first_past 14 (is_past_limit 100 (rule_numbers db rel)) (owner_refusals db user rel ++ (27, is_broken db rel rule) ∷ []) None (ap (is_past_limit 100) (sym e) ∙ h) cause)
    ∙ ap Ok (sym (made ∙ ap (λ n. change.Rule rel (record rule { number = n })) (next ∙ ap next_number e)))

-- ---- what goes

pub permits_refused : (db : Db) (user : List ℕ) (rel : RelKey) (numbers standing : List ℕ) (n : ℕ) → standing ≡ permit_numbers db rel
    → Some n ≡ first_refusal (permitting_refusals db user rel ++ (19, not (list_all (has_number standing) numbers)) ∷ []) → planned db user (utility.DropPermits rel numbers) ≡ Err n
unfolding plan_refusals
permits_refused db user rel numbers standing n e cause =
    refused db user (utility.DropPermits rel numbers) n
    (cause ∙ ap (λ (stand : List ℕ). first_refusal (permitting_refusals db user rel ++ (19, not (list_all (has_number stand) numbers)) ∷ [])) e)

pub permits_gone : (db : Db) (user : List ℕ) (rel : RelKey) (numbers standing : List ℕ) (c : DbChange) → standing ≡ permit_numbers db rel
    → None ≡ first_refusal (permitting_refusals db user rel ++ (19, not (list_all (has_number standing) numbers)) ∷ [])
    → c ≡ change.DropPermits rel (dropped standing numbers) → planned db user (utility.DropPermits rel numbers) ≡ Ok c
unfolding plan_refusals plan_change
permits_gone db user rel numbers standing c e cause gone =
    accepted db user (utility.DropPermits rel numbers)
    (cause ∙ ap (λ (stand : List ℕ). first_refusal (permitting_refusals db user rel ++ (19, not (list_all (has_number stand) numbers)) ∷ [])) e)
    ∙ ap Ok (sym (gone ∙ ap (λ (stand : List ℕ). change.DropPermits rel (dropped stand numbers)) e))

pub rules_refused : (db : Db) (user : List ℕ) (rel : RelKey) (numbers standing : List ℕ) (n : ℕ) → standing ≡ rule_numbers db rel
    → Some n ≡ first_refusal (owner_refusals db user rel ++ (19, not (list_all (has_number standing) numbers)) ∷ []) → planned db user (utility.DropRules rel numbers) ≡ Err n
unfolding plan_refusals
rules_refused db user rel numbers standing n e cause =
    refused db user (utility.DropRules rel numbers) n
    (cause ∙ ap (λ (stand : List ℕ). first_refusal (owner_refusals db user rel ++ (19, not (list_all (has_number stand) numbers)) ∷ [])) e)

pub rules_gone : (db : Db) (user : List ℕ) (rel : RelKey) (numbers standing : List ℕ) (c : DbChange) → standing ≡ rule_numbers db rel
    → None ≡ first_refusal (owner_refusals db user rel ++ (19, not (list_all (has_number standing) numbers)) ∷ [])
    → c ≡ change.DropRules rel (dropped standing numbers) → planned db user (utility.DropRules rel numbers) ≡ Ok c
unfolding plan_refusals plan_change
rules_gone db user rel numbers standing c e cause gone =
    accepted db user (utility.DropRules rel numbers)
    (cause ∙ ap (λ (stand : List ℕ). first_refusal (owner_refusals db user rel ++ (19, not (list_all (has_number stand) numbers)) ∷ [])) e)
    ∙ ap Ok (sym (gone ∙ ap (λ (stand : List ℕ). change.DropRules rel (dropped stand numbers)) e))
