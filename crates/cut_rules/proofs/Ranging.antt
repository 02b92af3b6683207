-- What an aggregate is over, where a view stands under a key, and where none does.
use Rattle.std.proofs.Common.{◌≡◌, refl, sym, ap, ◌∙◌, subst, ℕ, ◌≤◌, nat_le, Bool, true, false, cond, ◌&&◌, List, [], ◌∷◌, filter, length, Option, Some, None, option_map, arith}
use Rattle.std.specs.List.{enumerate_from, list_all, sum_by}
use Rattle.std.proofs.lemmas.Bool.{leb-true}
use Rattle.calculus.specs.declared.query.RelKey.{RelKey}
use Rattle.calculus.specs.declared.query.AggSource.{AggSource}
use Rattle.calculus.specs.declared.query.AggSource.TheVariants.{Named, Rows}
use Rattle.calculus.specs.declared.query.Query.{Query}
use Rattle.calculus.specs.Tree.{rows_of_query}
use Rattle.calculus.specs.Who.{Who}
use Rattle.calculus.specs.Database.{Db, Relation, View, relation_at, view_at}
use Rattle.calculus.specs.Catalogue.{catalogue_at}
use Rattle.calculus.specs.IsDatabase.{IsDatabase, valid_query}
use Rattle.calculus.specs.Stored.{Range, Kept, Viewed, range_at}
use Rattle.calculus.specs.Lists.{is_any}
use Rattle.calculus.specs.Rights.{Retrieve, permitted}
use Rattle.calculus.specs.Permission.{permitted_within, readable, source_permitted, vars_permitted}
use Rattle.calculus.specs.QueryParts.{vars_of}
use Rattle.calculus.specs.Used.{used_in_query, used_vars}
use Rattle.calculus.specs.Sizes.{measure_of, measure_within, query_measure}
use Rattle.calculus.proofs.Forms.{rows_is}
use Rattle.calculus_laws.proofs.ViewAnswer.{ranged}
use Rattle.base_trait.specs.Known.{query_at}
use Rattle.quel_meaning.specs.FitQueries.{can_be_ranged_over, has_few_targets, kept_or_viewed, source_fits}
use Rattle.view_text.specs.Expanded.{expanded_plain, expanded_range, expanded_source, range_restriction, source_restriction}
use Rattle.view_text.specs.ExpansionOf.{restriction, expansion_of, expansion_within}
use Rattle.view_expand.proofs.Viewing.{measure_of_view, permitted_of_kept, permitted_of_view}

-- ---- what is said of what a variable ranges over

of_view : {X : Type 0} (said : Option Range → X) (of : Query → X) → ((view : View) → of view.query ≡ said (Some (Viewed view)))
    → (db : Db) → IsDatabase db → (key : RelKey) (q : Query) → Some q ≡ query_at db key → of q ≡ said (range_at db key)
of_view {X} said of same db d key q h = go (view_at db key) refl h
  where
    go : (o : Option View) → view_at db key ≡ o → Some q ≡ option_map (λ v. v.query) o → of q ≡ said (range_at db key)
    go None e h = absurd (cc h)
    go (Some v) e h = let is : q ≡ v.query = cc h in ap of is ∙ same v ∙ ap said (sym (ranged db d key v e))

of_kept : {X : Type 0} (said : Option Range → X) (x : X) → x ≡ said None → ((relation : Relation) → x ≡ said (Some (Kept relation)))
    → (db : Db) (key : RelKey) → None ≡ query_at db key → x ≡ said (range_at db key)
unfolding range_at
of_kept {X} said x nothing same db key h = go (relation_at db key) (view_at db key) (catalogue_at db key) h
  where
    go : (r : Option Relation) (v : Option View) (c : Option Relation) → None ≡ option_map (λ v. v.query) v
        → x ≡ said (elim r as (λ x. Option Range) [ Some relation ↦ Some (Kept relation) | None ↦ elim v as (λ x. Option Range) [ Some view ↦ Some (Viewed view) | None ↦ option_map Kept c ] ])
    go (Some r) v c h = same r
    go None (Some v) c h = absurd (cc h)
    go None None None h = nothing
    go None None (Some r) h = same r

-- ---- the source and its condition

pub source_of_view : (db : Db) → IsDatabase db → (who : Who) (key : RelKey) (q : Query) → Some q ≡ query_at db key
    → rows_of_query (expanded_plain (expansion_within 15 db who) q) ≡ expanded_range db who key (range_at db key)
source_of_view db d who key q h = of_view (expanded_range db who key) (λ q. rows_of_query (expanded_plain (expansion_within 15 db who) q)) (λ view. refl) db d key q h

pub restriction_of_view : (db : Db) → IsDatabase db → (who : Who) (attrs : List ℕ) (key : RelKey) (q : Query) → Some q ≡ query_at db key → [] ≡ range_restriction db who attrs key (range_at db key)
restriction_of_view db d who attrs key q h = of_view (range_restriction db who attrs key) (λ q. []) (λ view. refl) db d key q h

pub source_of_kept : (db : Db) (who : Who) (key : RelKey) → None ≡ query_at db key → Named key ≡ expanded_range db who key (range_at db key)
source_of_kept db who key h = of_kept (expanded_range db who key) (Named key) refl (λ relation. refl) db key h

pub restriction_of_kept : (db : Db) (who : Who) (attrs : List ℕ) (key : RelKey) → None ≡ query_at db key → restriction db who Retrieve attrs key ≡ range_restriction db who attrs key (range_at db key)
restriction_of_kept db who attrs key h = of_kept (range_restriction db who attrs key) (restriction db who Retrieve attrs key) refl (λ relation. refl) db key h

-- ---- what may be read of it

pub readable_of_view : (db : Db) → IsDatabase db → (who : Who) (key : RelKey) (attrs : List ℕ) (q : Query) → Some q ≡ query_at db key
    → vars_permitted (permitted_within 15 db who) q (used_vars q) ≡ readable db who key attrs
unfolding readable
readable_of_view db d who key attrs q h = permitted_of_view 16 db d who key attrs q (omega arith) h

pub readable_of_kept : (db : Db) (who : Who) (key : RelKey) (attrs : List ℕ) → None ≡ query_at db key → permitted db who Retrieve attrs key ≡ readable db who key attrs
unfolding readable
readable_of_kept db who key attrs h = permitted_of_kept 16 db who key attrs h

-- ---- the rows of a query

pub rows_put : (db : Db) (who : Who) (source : AggSource) (q given : Query) → source ≡ Rows q → given ≡ q
    → rows_of_query (expanded_plain (expansion_within 16 db who) given) ≡ expanded_source db who source
unfolding expansion_of
rows_put db who source q given h e = ap (λ q. rows_of_query (expanded_plain (expansion_within 16 db who) q)) e ∙ sym (ap (expanded_source db who) (h ∙ rows_is q))

pub rows_restriction : (db : Db) (who : Who) (attrs : List ℕ) (source : AggSource) (q : Query) → source ≡ Rows q → [] ≡ source_restriction db who attrs source
rows_restriction db who attrs source q h = sym (ap (source_restriction db who attrs) (h ∙ rows_is q))

pub rows_readable : (db : Db) (who : Who) (attrs : List ℕ) (source : AggSource) (q given : Query) → source ≡ Rows q → given ≡ q
    → vars_permitted (permitted_within 16 db who) given (used_vars given) ≡ source_permitted (readable db who) attrs source
unfolding readable
rows_readable db who attrs source q given h e =
    ap (λ q. vars_permitted (permitted_within 16 db who) q (used_vars q)) e ∙ sym (ap (source_permitted (readable db who) attrs) (h ∙ rows_is q))

-- ---- at most so many variables

pub few_of_view : (db : Db) → IsDatabase db → (key : RelKey) (q : Query) → Some q ≡ query_at db key → (measure_of db key).variables ≤ 256
    → (query_measure (measure_within 15 db) q).variables ≤ 256
unfolding measure_of
few_of_view db d key q h few = subst (λ n. n ≤ 256) (sym (measure_of_view 16 db d key q (omega arith) h)) few

left_true : (a b : Bool) → (a && b) ≡ true → a ≡ true
left_true true b h = refl
left_true false b h = cc h

right_true : (a b : Bool) → (a && b) ≡ true → b ≡ true
right_true true b h = h
right_true false b h = cc h

may_few : (db : Db) (key : RelKey) → (kept_or_viewed db).source key ≡ true → (measure_of db key).variables ≤ 1
may_few db key h = leb-true (measure_of db key).variables 1 (right_true (can_be_ranged_over db key) (nat_le (measure_of db key).variables 1) h)

pub named_few : (db : Db) (key : RelKey) → source_fits (kept_or_viewed db) db (Named key) ≡ true → (measure_of db key).variables ≤ 256
unfolding source_fits
named_few db key h = let k = may_few db key h in omega (arith, k)

one_few : (b : Bool) (p : ℕ × RelKey) (f : RelKey → ℕ) → f p.1 ≤ 1 → sum_by (λ (p : ℕ × RelKey). f p.1) (cond b (p ∷ []) []) ≤ 256
one_few true p f h = omega arith
one_few false p f h = omega arith

listed_few : (may : RelKey → Bool) (f : RelKey → ℕ) → ((key : RelKey) → may key ≡ true → f key ≤ 1) → (used : ℕ → Bool) (keys : List RelKey)
    → list_all may keys ≡ true → length keys ≤ 1 → sum_by (λ (p : ℕ × RelKey). f p.1) (filter (λ (p : ℕ × RelKey). used p.0) (enumerate_from 0 keys)) ≤ 256
listed_few may f few used [] h k = omega arith
listed_few may f few used (key ∷ []) h k = one_few (used 0) (0, key) f (few key (left_true (may key) true h))
listed_few may f few used (key ∷ other ∷ keys) h k = absurd (omega arith)

lists_one : (db : Db) (q : Query) → source_fits (kept_or_viewed db) db (rows_of_query q) ≡ true → length (vars_of q) ≤ 1
unfolding source_fits
lists_one db q h =
    leb-true (length (vars_of q)) 1
    (left_true (nat_le (length (vars_of q)) 1) (has_few_targets q && valid_query db q)
    (right_true (list_all (kept_or_viewed db).source (vars_of q)) (nat_le (length (vars_of q)) 1 && (has_few_targets q && valid_query db q)) h))

all_may : (db : Db) (q : Query) → source_fits (kept_or_viewed db) db (rows_of_query q) ≡ true → list_all (kept_or_viewed db).source (vars_of q) ≡ true
unfolding source_fits
all_may db q h = left_true (list_all (kept_or_viewed db).source (vars_of q)) (nat_le (length (vars_of q)) 1 && (has_few_targets q && valid_query db q)) h

fits_so : (db : Db) (q : Query) → source_fits (kept_or_viewed db) db (Rows q) ≡ true → source_fits (kept_or_viewed db) db (rows_of_query q) ≡ true
fits_so db q h = sym (ap (source_fits (kept_or_viewed db) db) (rows_is q)) ∙ h

pub rows_listed : (db : Db) (q : Query) → source_fits (kept_or_viewed db) db (Rows q) ≡ true → length (vars_of q) ≤ 256
rows_listed db q h = let k = lists_one db q (fits_so db q h) in omega (arith, k)

pub rows_few : (db : Db) (q : Query) → source_fits (kept_or_viewed db) db (Rows q) ≡ true → (query_measure (measure_within 16 db) q).variables ≤ 256
unfolding measure_of
rows_few db q h =
    listed_few (kept_or_viewed db).source (λ key. (measure_of db key).variables) (may_few db) (λ n. is_any (used_in_query n q)) (vars_of q)
    (all_may db q (fits_so db q h)) (lists_one db q (fits_so db q h))
