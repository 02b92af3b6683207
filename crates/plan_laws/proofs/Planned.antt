-- What is so where a utility is not refused.
use Rattle.std.proofs.Common.{◌≡◌, refl, sym, ◌∙◌, ℕ, Bool, true, false, ◌||◌, not, IsTrue, List, [], ◌∷◌, Option, Some, None}
use Rattle.std.specs.Prelude.{map, flat_map, is_some, option_map, bytes_eq, Result, Ok, Err}
use Rattle.std.specs.List.{AllByRecursion}
use Rattle.std.proofs.lemmas.Slice.Eq.{bytes_eq-Decides}
use Rattle.calculus.specs.declared.query.RelKey.{RelKey}
use Rattle.calculus.specs.declared.request.Utility.{Utility}
use Rattle.calculus.specs.declared.change.DbChange.{DbChange}
use Rattle.calculus.specs.Rows.{set_of}
use Rattle.calculus.specs.Keys.{same_key}
use Rattle.calculus.specs.Database.{Db, Relation, View, relation_at, view_at, is_relation}
use Rattle.calculus.specs.Catalogue.{relation_key, attribute_key, is_catalogue, catalogue_at, relation_info, attribute_info, relation_row, attribute_rows, all_entries}
use Rattle.calculus.specs.Stored.{Range, Kept, Viewed, range_at}
use Rattle.calculus.specs.Replacement.{first_refusal}
use Rattle.quel_meaning.specs.Planned.{plan_refusals, plan_change, planned, has_view, is_not_the_owner, may_not_grant}
use Rattle.plan_laws.specs.Fitting.{is_ranged}

-- ---- no cause is there

pub neither : (a b : Bool) → (a || b) ≡ false → (a ≡ false) × (b ≡ false)
neither true b h = cc h
neither false b h = (refl, h)

pub is_not : (a : Bool) → not a ≡ false → a ≡ true
is_not true h = refl
is_not false h = cc h

-- where no cause is there, each is absent
pub all_absent : (refusals : List (ℕ × Bool)) → first_refusal refusals ≡ None → AllByRecursion (λ c. c.1 ≡ false) refusals
all_absent [] h = tt
all_absent (c ∷ refusals) h = go c.1 h (all_absent refusals)
  where
    go : (b : Bool) → (elim b as (λ b. Option ℕ) [ true ↦ Some c.0 | false ↦ first_refusal refusals ]) ≡ None → (first_refusal refusals ≡ None → AllByRecursion (λ c. c.1 ≡ false) refusals)
        → (b ≡ false) × AllByRecursion (λ c. c.1 ≡ false) refusals
    go true h later = cc h
    go false h later = (refl, later h)

-- a plan that isn't refused has no cause, and is the change
pub not_refused : (db : Db) (user : List ℕ) (u : Utility) (change : DbChange) → planned db user u ≡ Ok change
    → (first_refusal (plan_refusals db user u) ≡ None) × (plan_change db u ≡ change)
unfolding planned
not_refused db user u change h = go (first_refusal (plan_refusals db user u)) refl h
  where
    go : (o : Option ℕ) → first_refusal (plan_refusals db user u) ≡ o → (elim o as (λ o. Result DbChange ℕ) [ None ↦ Ok (plan_change db u) | Some number ↦ Err number ]) ≡ Ok change
        → (first_refusal (plan_refusals db user u) ≡ None) × (plan_change db u ≡ change)
    go None e h = (e, cc h)
    go (Some number) e h = cc h

-- ---- a base relation

pub no_catalogue : (db : Db) (key : RelKey) → is_catalogue db key ≡ false → catalogue_at db key ≡ None
unfolding catalogue_at
no_catalogue db key h =
    let parts = neither (same_key key (relation_key db)) (same_key key (attribute_key db)) h in
    go (same_key key (relation_key db)) (same_key key (attribute_key db)) parts.0 parts.1
  where
    go : (a b : Bool) → a ≡ false → b ≡ false
        → (elim a as (λ a. Option Relation) [
          | true ↦ Some (record { info = relation_info db; rows = set_of (map relation_row (all_entries db)) })
          | false ↦ elim b as (λ b. Option Relation) [ true ↦ Some (record { info = attribute_info db; rows = set_of (flat_map attribute_rows (all_entries db)) }) | false ↦ None ]
        ]) ≡ None
    go true b e f = cc e
    go false true e f = cc f
    go false false e f = refl

-- what is there and is no catalogue and no view is a base relation
pub base_relation : (db : Db) (key : RelKey) → IsTrue (is_ranged db key) → is_catalogue db key ≡ false → has_view db key ≡ false → is_relation db key ≡ true
unfolding range_at
base_relation db key there catalogue view = go (relation_at db key) (view_at db key) view (catalogue_at db key) (no_catalogue db key catalogue) there
  where
    go : (r : Option Relation) (v : Option View) → is_some v ≡ false → (c : Option Relation) → c ≡ None
        → IsTrue (is_some (elim r as (λ r. Option Range) [ Some relation ↦ Some (Kept relation) | None ↦ elim v as (λ v. Option Range) [ Some view ↦ Some (Viewed view) | None ↦ option_map Kept c ] ]))
        → is_some r ≡ true
    go (Some r) v e c f t = refl
    go None (Some v) e c f t = cc e
    go None None e None f t = t
    go None None e (Some c) f t = cc f

-- ---- the owner

pub owner_is : (user : List ℕ) (key : RelKey) → is_not_the_owner user key ≡ false → key.owner ≡ user
owner_is user key h = (bytes_eq-Decides key.owner user).0 (is_not (bytes_eq key.owner user) h)

-- one who may give permits on it is the administrator, and its owner
pub administrator_owns : (db : Db) (user : List ℕ) (key : RelKey) → may_not_grant db user key ≡ false → bytes_eq key.owner db.dba ≡ true
administrator_owns db user key h =
    let parts = neither (is_not_the_owner user key) (not (bytes_eq db.dba user)) h in
    (bytes_eq-Decides key.owner db.dba).1 (owner_is user key parts.0 ∙ sym ((bytes_eq-Decides db.dba user).0 (is_not (bytes_eq db.dba user) parts.1)))
