-- What stands in a database has few variables once the views in it are expanded.
use Rattle.std.proofs.Common.{◌≡◌, refl, sym, ap, ap₂, ◌∙◌, subst, ℕ, zero, suc, ◌+◌, ◌≤◌, nat_le, true, List, [], ◌∷◌, map, Option, Some, None, is_some, arith}
use Rattle.std.specs.List.{sum_by, enumerate_from}
use Rattle.std.specs.Option.{option_map}
use Rattle.std.proofs.lemmas.Bool.{leb-true}
use Rattle.std.proofs.lemmas.List.Sums.{sum_by-cons}
use Rattle.calculus.specs.declared.query.RelKey.{RelKey}
use Rattle.calculus.specs.declared.query.Query.{Query}
use Rattle.calculus.specs.Database.{Db, Relation, View, relation_at, view_at}
use Rattle.calculus.specs.Catalogue.{catalogue_at}
use Rattle.calculus.specs.IsDatabase.{IsDatabase}
use Rattle.calculus.specs.Keys.{same_key}
use Rattle.calculus.specs.Limits.{greatest_level, most_expanded_variables}
use Rattle.calculus.specs.Lists.{is_any}
use Rattle.calculus.specs.QueryParts.{vars_of}
use Rattle.calculus.specs.Sizes.{greater_level, greatest_of, level_above, range_level, level_within, level_of, Known, plain_measure, query_measure, range_measure, measure_within, measure_of, expanded_variables}
use Rattle.calculus.specs.Stored.{Range, Kept, Viewed, range_at}
use Rattle.calculus.specs.Used.{used_in_query, used_vars}
use Rattle.quel_meaning.proofs.Each.{Each, of_map, in_filter, each_to}
use Rattle.quel_meaning.proofs.Keys.{view_key_is}
use Rattle.quel_meaning.proofs.DatabaseFacts.{found_passes}

-- ---- levels

greater_some : (k l : Option ℕ) → is_some (greater_level k l) ≡ true → (is_some k ≡ true) × (is_some l ≡ true)
greater_some None l h = absurd (cc h)
greater_some (Some k) None h = absurd (cc h)
greater_some (Some k) (Some l) h = (refl, refl)

each_level : (ls : List (Option ℕ)) → is_some (greatest_of ls) ≡ true → Each (λ l. is_some l ≡ true) ls
each_level [] h = tt
each_level (l ∷ ls) h = let k = greater_some l (greatest_of ls) h in (k.0, each_level ls k.1)

below_above : (o : Option ℕ) → is_some (option_map suc o) ≡ true → is_some o ≡ true
below_above None h = absurd (cc h)
below_above (Some n) h = refl

-- where a view has a level, what it names has levels
levels_below : (level : RelKey → Option ℕ) (keys : List RelKey) → is_some (level_above (map level keys)) ≡ true → Each (λ key. is_some (level key) ≡ true) keys
levels_below level keys h = of_map (λ (l : Option ℕ). is_some l ≡ true) level keys (each_level (map level keys) (below_above (greatest_of (map level keys)) h))

-- ---- what is known of variables

same_sums : {X : Type 0} (f g : X → ℕ) (xs : List X) → Each (λ x. f x ≡ g x) xs → sum_by f xs ≡ sum_by g xs
same_sums f g [] h = refl
same_sums f g (x ∷ xs) h = sum_by-cons f x xs ∙ ap₂ (λ m n. m + n) h.0 (same_sums f g xs h.1) ∙ sym (sum_by-cons g x xs)

in_numbered : (P : RelKey → Type 0) (k : ℕ) (keys : List RelKey) → Each P keys → Each (λ (p : ℕ × RelKey). P p.1) (enumerate_from k keys)
in_numbered P k [] h = tt
in_numbered P k (key ∷ keys) h = (h.0, in_numbered P (k + 1) keys h.1)

-- queries count the same variables where the same is known of what they name
same_counts : (known other : Known) (q : Query) → Each (λ key. (known key).variables ≡ (other key).variables) (vars_of q)
    → (query_measure known q).variables ≡ (query_measure other q).variables
same_counts known other q h =
    same_sums (λ (p : ℕ × RelKey). (known p.1).variables) (λ p. (other p.1).variables) (used_vars q)
    (in_filter _ (λ p. is_any (used_in_query p.0 q)) (enumerate_from 0 (vars_of q)) (in_numbered _ 0 (vars_of q) h))

-- one level of views more changes nothing where there are enough
enough : (n : ℕ) (db : Db) (key : RelKey) → is_some (level_within n db key) ≡ true → (measure_within n db key).variables ≡ (measure_within (suc n) db key).variables
enough zero db key h = go (range_at db key) h
  where
    go : (r : Option Range) → is_some (range_level (λ view. None) r) ≡ true
        → (range_measure (λ view. plain_measure) r).variables ≡ (range_measure (λ view. query_measure (measure_within zero db) view.query) r).variables
    go None h = absurd (cc h)
    go (Some (Kept relation)) h = refl
    go (Some (Viewed view)) h = absurd (cc h)
enough (suc n) db key h = go (λ other k. enough n db other k) (range_at db key) h
  where
    go : ((other : RelKey) → is_some (level_within n db other) ≡ true → (measure_within n db other).variables ≡ (measure_within (suc n) db other).variables)
        → (r : Option Range) → is_some (range_level (λ view. level_above (map (level_within n db) (vars_of view.query))) r) ≡ true
        → (range_measure (λ view. query_measure (measure_within n db) view.query) r).variables ≡ (range_measure (λ view. query_measure (measure_within (suc n) db) view.query) r).variables
    go below None h = absurd (cc h)
    go below (Some (Kept relation)) h = refl
    go below (Some (Viewed view)) h =
        same_counts (measure_within n db) (measure_within (suc n) db) view.query
        (each_to _ _ below (vars_of view.query) (levels_below (level_within n db) (vars_of view.query) h))

-- ---- in a database

of_view : (db : Db) → IsDatabase db → (key : RelKey) (view : View) → view_at db key ≡ Some view → range_at db key ≡ Some (Viewed view)
    → (query_measure (measure_within 15 db) view.query).variables ≤ most_expanded_variables
unfolding level_of measure_of expanded_variables
of_view db is key view e f =
    let level : is_some (level_within greatest_level db view.info.key) ≡ true = found_passes (λ (v : View). same_key v.info.key key) (λ (v : View). is_some (level_of db v.info.key)) db.views view is.views_have_levels e in
    let here : is_some (level_within greatest_level db key) ≡ true = subst (λ k. is_some (level_within greatest_level db k) ≡ true) (view_key_is db key view e) level in
    let above : is_some (level_above (map (level_within 15 db) (vars_of view.query))) ≡ true = subst (λ r. is_some (range_level (λ view. level_above (map (level_within 15 db) (vars_of view.query))) r) ≡ true) f here in
    let same : (query_measure (measure_within 15 db) view.query).variables ≡ (query_measure (measure_within 16 db) view.query).variables =
    same_counts (measure_within 15 db) (measure_within 16 db) view.query (each_to _ _ (λ other k. enough 15 db other k) (vars_of view.query) (levels_below (level_within 15 db) (vars_of view.query) above)) in
    let few : nat_le (expanded_variables db view.query) most_expanded_variables ≡ true =
    found_passes (λ (v : View). same_key v.info.key key) (λ (v : View). nat_le (expanded_variables db v.query) most_expanded_variables) db.views view is.few_expanded_variables e in
    omega (arith, same, leb-true (expanded_variables db view.query) most_expanded_variables few)

-- what stands in a database has few variables
pub few_variables_in : (db : Db) → IsDatabase db → (key : RelKey) → (measure_of db key).variables ≤ most_expanded_variables
unfolding measure_of range_at
few_variables_in db is key = at_relation (relation_at db key) refl
  where
    measured : Option Range → ℕ
    measured r = (range_measure (λ view. query_measure (measure_within 15 db) view.query) r).variables

    at_catalogue : (c : Option Relation) → measured (option_map Kept c) ≤ most_expanded_variables
    at_catalogue None = omega arith
    at_catalogue (Some relation) = omega arith

    at_view : (v : Option View) → relation_at db key ≡ None → view_at db key ≡ v
        → measured (elim v [ Some view ↦ Some (Viewed view) | None ↦ option_map Kept (catalogue_at db key) ]) ≤ most_expanded_variables
    at_view None e f = at_catalogue (catalogue_at db key)
    at_view (Some view) e f = of_view db is key view f (viewed e f)
      where
        viewed : relation_at db key ≡ None → view_at db key ≡ Some view → range_at db key ≡ Some (Viewed view)
        viewed e f =
            ap (λ (o : Option Relation). elim o as (λ x. Option Range) [ Some relation ↦ Some (Kept relation) | None ↦ elim (view_at db key) [ Some view ↦ Some (Viewed view) | None ↦ option_map Kept (catalogue_at db key) ] ]) e
            ∙ ap (λ (o : Option View). elim o as (λ x. Option Range) [ Some view ↦ Some (Viewed view) | None ↦ option_map Kept (catalogue_at db key) ]) f

    at_relation : (o : Option Relation) → relation_at db key ≡ o
        → measured (elim o [ Some relation ↦ Some (Kept relation) | None ↦ elim (view_at db key) [ Some view ↦ Some (Viewed view) | None ↦ option_map Kept (catalogue_at db key) ] ]) ≤ most_expanded_variables
    at_relation None e = at_view (view_at db key) e refl
    at_relation (Some relation) e = omega arith
