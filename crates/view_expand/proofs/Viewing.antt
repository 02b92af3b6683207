-- What is told of a key where a view stands there, and where none does.
use Rattle.std.proofs.Common.{◌≡◌, refl, sym, ap, ◌∙◌, ℕ, zero, suc, ◌-◌, ◌<◌, ◌≤◌, Bool, true, false, cond, ◌&&◌, nat_le, List, [], ◌∷◌, length, Option, Some, None, option_map, find, arith}
use denote.Hole.Carrier.{out}
use Rattle.std.specs.List.{list_all}
use Rattle.std.proofs.lemmas.Bool.{leb-true}
use Rattle.calculus.specs.declared.query.RelKey.{RelKey}
use Rattle.calculus.specs.declared.query.Query.{Query, Query', out-Query}
use Rattle.calculus.specs.Keys.{same_key}
use Rattle.calculus.specs.Limits.{most_expanded_variables}
use Rattle.calculus.specs.Who.{Who}
use Rattle.calculus.specs.Database.{Db, Relation, View, relation_at, view_at}
use Rattle.calculus.specs.Catalogue.{catalogue_at}
use Rattle.calculus.specs.IsDatabase.{IsDatabase}
use Rattle.calculus.specs.Stored.{Range, Kept, Viewed, range_at}
use Rattle.calculus.specs.Rights.{Retrieve, permitted}
use Rattle.calculus.specs.QueryParts.{vars_of}
use Rattle.calculus.specs.Used.{used_vars}
use Rattle.calculus.specs.Sizes.{range_measure, measure_within, query_measure}
use Rattle.calculus.specs.Permission.{vars_permitted, range_permitted, permitted_within}
use Rattle.calculus_laws.proofs.ViewAnswer.{ranged}
use Rattle.base_trait.specs.Known.{query_at}
use Rattle.view_text.specs.declared.expansion.Expansion.{Expansion}
use Rattle.view_text.specs.Expansions.{query_expansions}
use Rattle.view_text.specs.ExpansionOf.{restriction, kept_expansion, rows_expansion, range_expansion, view_text, past_expansion, expansion_within}
use Rattle.view_expand.specs.Found.{IsExpansionOf}

-- ---- a view

record Stands (db : Db) (key : RelKey) (q : Query) : Type 0 where
  view : View
  found : view_at db key ≡ Some view
  there : range_at db key ≡ Some (Viewed view)
  is : view.query ≡ q

stands : (db : Db) → IsDatabase db → (key : RelKey) (q : Query) → Some q ≡ query_at db key → Stands db key q
stands db d key q h = go (view_at db key) refl h
  where
    go : (o : Option View) → view_at db key ≡ o → Some q ≡ option_map (λ v. v.query) o → Stands db key q
    go None e h = absurd (cc h)
    go (Some v) e h = record { view = v; found = e; there = ranged db d key v e; is = cc h }

next_level : (levels : ℕ) → 0 < levels → levels ≡ suc (levels - 1)
next_level levels h = omega arith

pub expansion_of_view : (levels : ℕ) (db : Db) → IsDatabase db → (who : Who) (key : RelKey) (attrs : List ℕ) (q : Query) → 0 < levels → Some q ≡ query_at db key
    → rows_expansion (query_expansions (expansion_within (levels - 1) db who) q) q ≡ expansion_within levels db who key attrs
expansion_of_view levels db d who key attrs q h e =
    let s = stands db d key q e in
    ap (λ q. rows_expansion (query_expansions (expansion_within (levels - 1) db who) q) q) (sym s.is)
    ∙ sym (ap (range_expansion (view_text (expansion_within (levels - 1) db who)) db who key attrs) s.there)
    ∙ ap (λ n. expansion_within n db who key attrs) (sym (next_level levels h))

pub permitted_of_view : (levels : ℕ) (db : Db) → IsDatabase db → (who : Who) (key : RelKey) (attrs : List ℕ) (q : Query) → 0 < levels → Some q ≡ query_at db key
    → vars_permitted (permitted_within (levels - 1) db who) q (used_vars q) ≡ permitted_within levels db who key attrs
permitted_of_view levels db d who key attrs q h e =
    let s = stands db d key q e in
    ap (λ q. vars_permitted (permitted_within (levels - 1) db who) q (used_vars q)) (sym s.is)
    ∙ sym (ap (range_permitted (λ view. vars_permitted (permitted_within (levels - 1) db who) view.query (used_vars view.query)) db who key attrs) s.there)
    ∙ ap (λ n. permitted_within n db who key attrs) (sym (next_level levels h))

pub permitted_past : (levels : ℕ) (db : Db) → IsDatabase db → (who : Who) (key : RelKey) (attrs : List ℕ) (q : Query) → levels ≡ 0 → Some q ≡ query_at db key
    → permitted_within levels db who key attrs ≡ false
permitted_past levels db d who key attrs q h e =
    let s = stands db d key q e in
    ap (λ n. permitted_within n db who key attrs) h ∙ ap (range_permitted (λ view. false) db who key attrs) s.there

pub measure_of_view : (levels : ℕ) (db : Db) → IsDatabase db → (key : RelKey) (q : Query) → 0 < levels → Some q ≡ query_at db key
    → (query_measure (measure_within (levels - 1) db) q).variables ≡ (measure_within levels db key).variables
measure_of_view levels db d key q h e =
    let s = stands db d key q e in
    ap (λ q. (query_measure (measure_within (levels - 1) db) q).variables) (sym s.is)
    ∙ sym (ap (λ r. (range_measure (λ view. query_measure (measure_within (levels - 1) db) view.query) r).variables) s.there)
    ∙ ap (λ n. (measure_within n db key).variables) (sym (next_level levels h))

passes_where_found : (p f : View → Bool) (vs : List View) (v : View) → find p vs ≡ Some v → list_all f vs ≡ true → f v ≡ true
passes_where_found p f [] v h k = cc h
passes_where_found p f (first ∷ vs) v h k = go (p first) (f first) refl h k (passes_where_found p f vs v)
  where
    go : (b a : Bool) → f first ≡ a → cond b (Some first) (find p vs) ≡ Some v → (a && list_all f vs) ≡ true
        → (find p vs ≡ Some v → list_all f vs ≡ true → f v ≡ true) → f v ≡ true
    go b false e h k later = cc k
    go true true e h k later = let same : first ≡ v = cc h in ap f (sym same) ∙ e
    go false true e h k later = later h k

pub few_listed : (db : Db) → IsDatabase db → (key : RelKey) (q : Query) → Some q ≡ query_at db key → length (vars_of q) ≤ 256
few_listed db d key q e =
    let s = stands db d key q e in
    let few : nat_le (length (vars_of s.view.query)) most_expanded_variables ≡ true =
    passes_where_found (λ v. same_key v.info.key key) (λ v. nat_le (length (vars_of v.query)) most_expanded_variables) db.views s.view s.found d.few_listed_variables in
    let same : length (vars_of s.view.query) ≡ length (vars_of q) = ap (λ q. length (vars_of q)) s.is in
    omega (arith, leb-true (length (vars_of s.view.query)) most_expanded_variables few, same)

-- ---- no view

pub expansion_of_kept : (levels : ℕ) (db : Db) (who : Who) (key : RelKey) (attrs : List ℕ) → None ≡ query_at db key
    → kept_expansion (restriction db who Retrieve attrs key) key ≡ expansion_within levels db who key attrs
unfolding range_at
expansion_of_kept levels db who key attrs h = levelled levels
  where
    go : (f : View → Expansion) (r : Option Relation) (v : Option View) (c : Option Relation) → None ≡ option_map (λ v. v.query) v
        → kept_expansion (restriction db who Retrieve attrs key) key
        ≡ range_expansion f db who key attrs (elim r as (λ x. Option Range) [ Some relation ↦ Some (Kept relation) | None ↦ elim v as (λ x. Option Range) [ Some view ↦ Some (Viewed view) | None ↦ option_map Kept c ] ])
    go f (Some r) v c h = refl
    go f None (Some v) c h = absurd (cc h)
    go f None None None h = refl
    go f None None (Some r) h = refl

    levelled : (n : ℕ) → kept_expansion (restriction db who Retrieve attrs key) key ≡ expansion_within n db who key attrs
    levelled zero = go (λ view. past_expansion) (relation_at db key) (view_at db key) (catalogue_at db key) h
    levelled (suc n) = go (view_text (expansion_within n db who)) (relation_at db key) (view_at db key) (catalogue_at db key) h

pub permitted_of_kept : (levels : ℕ) (db : Db) (who : Who) (key : RelKey) (attrs : List ℕ) → None ≡ query_at db key
    → permitted db who Retrieve attrs key ≡ permitted_within levels db who key attrs
unfolding range_at
permitted_of_kept levels db who key attrs h = levelled levels
  where
    go : (f : View → Bool) (r : Option Relation) (v : Option View) (c : Option Relation) → None ≡ option_map (λ v. v.query) v
        → permitted db who Retrieve attrs key
        ≡ range_permitted f db who key attrs (elim r as (λ x. Option Range) [ Some relation ↦ Some (Kept relation) | None ↦ elim v as (λ x. Option Range) [ Some view ↦ Some (Viewed view) | None ↦ option_map Kept c ] ])
    go f (Some r) v c h = refl
    go f None (Some v) c h = absurd (cc h)
    go f None None None h = refl
    go f None None (Some r) h = refl

    levelled : (n : ℕ) → permitted db who Retrieve attrs key ≡ permitted_within n db who key attrs
    levelled zero = go (λ view. false) (relation_at db key) (view_at db key) (catalogue_at db key) h
    levelled (suc n) = go (λ view. vars_permitted (permitted_within n db who) view.query (used_vars view.query)) (relation_at db key) (view_at db key) (catalogue_at db key) h

-- ---- as the program reads it

pub vars_is : (q : Query) → (out-Query q).vars ≡ vars_of q
unfolding out-Query out
vars_is (Query' vars marks targets qual) = refl

-- ---- a view, as it is kept

pub is_expansion_of : (levels : ℕ) (db : Db) → IsDatabase db → (who : Who) (key : RelKey) (q : Query) → 0 < levels → Some q ≡ query_at db key → (expansion : Expansion)
    → expansion ≡ rows_expansion (query_expansions (expansion_within (levels - 1) db who) q) q → vars_permitted (permitted_within (levels - 1) db who) q (used_vars q) ≡ true → IsExpansionOf db who key levels expansion
is_expansion_of levels db d who key q h e expansion t p = record {
  is = λ attrs. t ∙ expansion_of_view levels db d who key attrs q h e;
  permitted = λ attrs. sym (permitted_of_view levels db d who key attrs q h e) ∙ p;
}
