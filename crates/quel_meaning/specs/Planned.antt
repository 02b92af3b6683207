-- Utilities as changes of a database, and what refuses them.
use Rattle.std.specs.Prelude.{ℕ, suc, max, Bool, not, ◌||◌, ◌&&◌, nat_le, nat_lt, bytes_eq, List, [], ◌∷◌, map, length, Some, None, is_some, Result, Ok, Err}
use Rattle.std.specs.List.{list_any, list_all}
use Rattle.std.specs.Ordering.{nat_cmp}
use Rattle.calculus.specs.declared.query.RelKey.{RelKey}
use Rattle.calculus.specs.declared.query.Target.{Target}
use Rattle.calculus.specs.declared.query.Query.{Query}
use Rattle.calculus.specs.declared.schema.Attr.{Attr}
use Rattle.calculus.specs.declared.schema.RelInfo.{RelInfo}
use Rattle.calculus.specs.declared.schema.Rule.{Rule}
use Rattle.calculus.specs.declared.schema.Spec.TheVariants as spec
use Rattle.calculus.specs.declared.request.Utility.{Utility}
use Rattle.calculus.specs.declared.request.Utility.TheVariants as utility
use Rattle.calculus.specs.declared.change.DbChange.{DbChange}
use Rattle.calculus.specs.declared.change.DbChange.TheVariants as change
use Rattle.calculus.specs.Term.{holds, no_aggs}
use Rattle.calculus.specs.Lists.{has_number, insert_by}
use Rattle.calculus.specs.Limits.{most_permits, most_rules, greatest_number}
use Rattle.calculus.specs.Keys.{has_key}
use Rattle.calculus.specs.Database.{Db, view_at}
use Rattle.calculus.specs.Catalogue.{is_catalogue}
use Rattle.calculus.specs.Stored.{rows_at}
use Rattle.calculus.specs.QueryParts.{vars_of, targets_of}
use Rattle.calculus.specs.Replacement.{first_refusal}
use Rattle.calculus.specs.Change.{permit_numbers, rule_numbers}
use Rattle.quel_meaning.specs.Structures.{structure_keys}

-- ---- numbers of permits and rules

-- the greatest of these numbers; 0 where there is none
abbrev pub greatest : List ℕ → ℕ
greatest [] = 0
greatest (n ∷ ns) = max n (greatest ns)

-- one more than the greatest of these numbers; so 1 where there is none
abbrev pub next_number : List ℕ → ℕ
next_number numbers = suc (greatest numbers)

-- so many permits or rules stand already that there may be no more, or the next one would have too great a number
abbrev pub is_past_limit : ℕ → List ℕ → Bool
is_past_limit most numbers = nat_le most (length numbers) || nat_lt greatest_number (next_number numbers)

-- the numbers in ascending order, each once
abbrev pub ascending : List ℕ → List ℕ
ascending [] = []
ascending (n ∷ ns) = insert_by nat_cmp n (ascending ns)

-- the numbers of those that go: the listed ones, or all that stand where none is listed
abbrev pub dropped : List ℕ → List ℕ → List ℕ
dropped standing [] = standing
dropped standing (n ∷ ns) = ascending (n ∷ ns)

-- ---- what refuses a utility

-- a view stands under the key
abbrev pub has_view : Db → RelKey → Bool
has_view db key = is_some (view_at db key)

-- the user is not the owner
abbrev pub is_not_the_owner : List ℕ → RelKey → Bool
is_not_the_owner user key = not (bytes_eq key.owner user)

-- the user is not the owner, or not the administrator, who alone gives permits
abbrev pub may_not_grant : Db → List ℕ → RelKey → Bool
may_not_grant db user key = is_not_the_owner user key || not (bytes_eq db.dba user)

-- some view outside these keys names what has one of them
abbrev pub is_in_use : Db → List RelKey → Bool
is_in_use db keys = list_any (λ v. not (has_key keys v.info.key) && list_any (has_key keys) (vars_of v.query)) db.views

-- some row of the relation breaks the rule
abbrev pub is_broken : Db → RelKey → Rule → Bool
is_broken db rel rule = list_any (λ row. not (holds no_aggs rule.qual (row ∷ []))) (rows_at db rel)

-- what has the key can't be changed as a base relation of the user's: it is a catalogue, a view, or another's
abbrev pub owner_refusals : Db → List ℕ → RelKey → List (ℕ × Bool)
owner_refusals db user key = (28, is_catalogue db key) ∷ (26, has_view db key) ∷ (24, is_not_the_owner user key) ∷ []

-- each cause that refuses a utility, by its number, and whether it is there; in the order in which they count. Of a copy, which is no plan, there is none here
unfoldable pub plan_refusals : Db → List ℕ → Utility → List (ℕ × Bool)
plan_refusals db user (utility.Create rel attrs) = []
plan_refusals db user (utility.Destroy rels) =
    (28, list_any (is_catalogue db) rels) ∷ (24, list_any (is_not_the_owner user) rels) ∷ (25, is_in_use db rels) ∷ []
plan_refusals db user (utility.Modify rel to keys) = owner_refusals db user rel
plan_refusals db user (utility.Index base name keys) = owner_refusals db user base
plan_refusals db user (utility.Copy rel columns from file) = []
plan_refusals db user (utility.View rel query) = []
plan_refusals db user (utility.Permit rel permit) =
    (14, is_past_limit most_permits (permit_numbers db rel)) ∷ (28, is_catalogue db rel) ∷ (26, has_view db rel) ∷ (24, may_not_grant db user rel) ∷ []
plan_refusals db user (utility.Rule rel rule) =
    (14, is_past_limit most_rules (rule_numbers db rel))
    ∷ (28, is_catalogue db rel) ∷ (26, has_view db rel) ∷ (24, is_not_the_owner user rel) ∷ (27, is_broken db rel rule) ∷ []
plan_refusals db user (utility.DropPermits rel numbers) =
    (28, is_catalogue db rel)
    ∷ (26, has_view db rel) ∷ (24, may_not_grant db user rel) ∷ (19, not (list_all (has_number (permit_numbers db rel)) numbers)) ∷ []
plan_refusals db user (utility.DropRules rel numbers) =
    (28, is_catalogue db rel)
    ∷ (26, has_view db rel) ∷ (24, is_not_the_owner user rel) ∷ (19, not (list_all (has_number (rule_numbers db rel)) numbers)) ∷ []

-- ---- the change

-- what is known of a new relation: a heap without keys
abbrev pub heap_info : RelKey → List Attr → RelInfo
heap_info rel attrs = record { key = rel; spec = spec.Heap; attrs = attrs; keys = [] }

-- the attribute of a view that a target is
abbrev pub target_attr : Target → Attr
target_attr t = record { name = t.name; kind = t.kind }

-- what is known of a view: its attributes have the names and kinds of its targets
abbrev pub view_info : RelKey → Query → RelInfo
view_info rel q = record { key = rel; spec = spec.View; attrs = map target_attr (targets_of q); keys = [] }

-- the change that a utility makes. A copy, which is no plan, makes none here
unfoldable pub plan_change : Db → Utility → DbChange
plan_change db (utility.Create rel attrs) = change.Create (heap_info rel attrs) []
plan_change db (utility.Destroy rels) = change.Destroy rels
plan_change db (utility.Modify rel to keys) = change.Modify rel to (structure_keys to keys)
plan_change db (utility.Index base name keys) = change.Index base name keys
plan_change db (utility.Copy rel columns from file) = change.Rows rel [] []
plan_change db (utility.View rel query) = change.View (view_info rel query) query
plan_change db (utility.Permit rel permit) = change.Permit rel (record permit { number = next_number (permit_numbers db rel) })
plan_change db (utility.Rule rel rule) = change.Rule rel (record rule { number = next_number (rule_numbers db rel) })
plan_change db (utility.DropPermits rel numbers) = change.DropPermits rel (dropped (permit_numbers db rel) numbers)
plan_change db (utility.DropRules rel numbers) = change.DropRules rel (dropped (rule_numbers db rel) numbers)

-- the change that a utility makes for the user, or the number of the cause that refuses it
unfoldable pub planned : Db → List ℕ → Utility → Result DbChange ℕ
planned db user u = elim (first_refusal (plan_refusals db user u)) [ None ↦ Ok (plan_change db u) | Some number ↦ Err number ]
