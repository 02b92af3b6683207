-- What is known of the variables of a query and of an update that are fit.
use Rattle.std.proofs.Common.{◌≡◌, refl, sym, ap, ◌∙◌, subst, ℕ, ◌≤◌, Bool, true, false, cond, ◌&&◌, ◌||◌, nat_le, List, [], ◌∷◌, map, length, Option, Some, None, is_some, option_map, arith}
use Rattle.std.proofs.lemmas.Bool.Decides.{nat_tests}
use Rattle.std.specs.Prelude.{slice_get, sum_by, ◌==◌}
use Rattle.std.specs.List.{enumerate_from, list_all}
use Rattle.calculus.specs.declared.query.RelKey.{RelKey}
use Rattle.calculus.specs.declared.query.Query.{Query}
use Rattle.calculus.specs.declared.request.Asked.{Asked}
use Rattle.calculus.specs.declared.request.Checked.{Checked}
use Rattle.calculus.specs.declared.request.Checked.TheVariants as checked
use Rattle.calculus.specs.declared.request.Update.{Update}
use Rattle.calculus.specs.declared.request.UpdateOp.{UpdateOp}
use Rattle.calculus.specs.declared.request.UpdateOp.TheVariants as op
use Rattle.calculus.specs.Lists.{is_any}
use Rattle.calculus.specs.Limits.{greatest_level, most_expanded_variables}
use Rattle.calculus.specs.Who.{Who}
use Rattle.calculus.specs.Database.{Db, Relation, View, relation_at, view_at, is_relation}
use Rattle.calculus.specs.Catalogue.{catalogue_at}
use Rattle.calculus.specs.Stored.{Range, Kept, Viewed, range_at}
use Rattle.calculus.specs.Rights.{Right}
use Rattle.calculus.specs.QueryParts.{vars_of}
use Rattle.calculus.specs.Used.{used_in_query, used_vars}
use Rattle.calculus.specs.Assignments.{changed, is_changed}
use Rattle.calculus.specs.Sizes.{range_measure, query_measure, measure_within, measure_of, expanded_variables, update_vars, update_expanded_variables}
use Rattle.quel_meaning.specs.FitQueries.{Allowed, kept_or_viewed, sources_fit, slots_count_up, lists_few_vars, has_few_targets, reads_fit, sort_is_in_range, asked_fits}
use Rattle.quel_meaning.specs.Fit.{update_kinds_fit, places_fit, checks_fit, relation_fits, is_this_key, update_fits, suits, fits, is_fit_with_views}
use Rattle.quel_meaning.specs.KindsInQueries.{query_fits, assignments_fit}
use Rattle.quel_meaning.specs.SpelledTree.{tree_is_spelled}
use Rattle.view_text.specs.declared.expansion.Expansion.{Expansion}
use Rattle.view_text.specs.Expansions.{used_expansion, expansions_vars}
use Rattle.view_text.specs.ExpansionOf.{expansion_of}
use Rattle.view_text.specs.Expanded.{changed_expansion}
use Rattle.view_expand.proofs.Few.{few_known}
use Rattle.calculus_laws.proofs.Enough.{same_key-exact}
use Rattle.cut_rules.specs.Placed.{read_expansion, is_small, changed_by, expansion_in, is_small_in}
use Rattle.cut_rules.proofs.Listing.{both_true, stands_at, each_small, expansions_small, all_so}

-- ---- a query that may be read

pub aggregates_fit : (may : Allowed) (db : Db) (q : Query) → reads_fit may db q ≡ true → sources_fit may db q ≡ true
unfolding reads_fit
aggregates_fit may db q h = (both_true (sources_fit may db q) _ (both_true (list_all may.variable (vars_of q)) _ h).1).0

pub slots_fit : (may : Allowed) (db : Db) (q : Query) → reads_fit may db q ≡ true → slots_count_up q ≡ true
unfolding reads_fit
slots_fit may db q h = (both_true (slots_count_up q) _ (both_true (sources_fit may db q) _ (both_true (list_all may.variable (vars_of q)) _ h).1).1).0

pub few_listed : (may : Allowed) (db : Db) (q : Query) → reads_fit may db q ≡ true → length (vars_of q) ≤ 256
unfolding reads_fit
few_listed may db q h =
    let few : lists_few_vars q ≡ true = (both_true (lists_few_vars q) (has_few_targets q) (both_true (slots_count_up q) _ (both_true (sources_fit may db q) _ (both_true (list_all may.variable (vars_of q)) _ h).1).1).1).0 in
    grind (arith, nat_tests, few)

-- its variables are few once the views in them are expanded
abbrev counted : Db → ℕ × RelKey → ℕ
counted db p = (measure_of db p.1).variables

used_count : (db : Db) (q : Query) → expanded_variables db q ≤ 50 → sum_by (counted db) (used_vars q) ≤ 50
unfolding expanded_variables
used_count db q h = omega (arith, h)

pub small_vars : (db : Db) (q : Query) → expanded_variables db q ≤ 50 → list_all (is_small db q) (enumerate_from 0 (vars_of q)) ≡ true
small_vars db q h =
    let few = used_count db q h in
    each_small (λ p. is_any (used_in_query p.0 q)) (counted db) 256 (enumerate_from 0 (vars_of q)) (omega (arith, few))

-- a variable that is used is small there
pub small_there : (db : Db) (q : Query) (place : ℕ) (key : RelKey) → is_small db q (place, key) ≡ true → is_any (used_in_query place q) ≡ true → (measure_within 16 db key).variables ≤ 256
unfolding measure_of
small_there db q place key h used = by (is_any (used_in_query place q)) used h
  where
    by : (b : Bool) → b ≡ true → cond b (nat_le (measure_within 16 db key).variables 256) true ≡ true → (measure_within 16 db key).variables ≤ 256
    by true e h = grind (arith, nat_tests, h)
    by false e h = cc e

used_small : (db : Db) (who : Who) (key : RelKey) (attrs : List ℕ) → length (used_expansion (expansion_of db who) key attrs).vars ≤ cond (is_any attrs) (measure_of db key).variables 0
unfolding expansion_of measure_of
used_small db who key [] = let none : 0 ≤ 0 = omega arith in none
used_small db who key (a ∷ attrs) = few_known db who greatest_level key (a ∷ attrs)

pub small_expansions : (db : Db) (who : Who) (q : Query) → expanded_variables db q ≤ 50 → length (expansions_vars (map (read_expansion db who q) (enumerate_from 0 (vars_of q)))) ≤ 256
small_expansions db who q h =
    let few = used_count db q h in
    let less = expansions_small (λ p. is_any (used_in_query p.0 q)) (counted db) (read_expansion db who q) (enumerate_from 0 (vars_of q)) (λ p inside. used_small db who p.1 (used_in_query p.0 q)) in
    omega (arith, few, less)

-- ---- an update

pub update_reads : (may : Allowed) (db : Db) (u : Update) → update_fits may db u ≡ true → reads_fit may db u.query ≡ true
unfolding update_fits
update_reads may db u h = (both_true (reads_fit may db u.query) _ h).0

-- of what is asked of an update the number of its variables, and the relation
record IsCounted (db : Db) (u : Update) : Type 0 where
  pub few : nat_le (update_expanded_variables db u) most_expanded_variables ≡ true
  pub relation : relation_fits db u ≡ true

counts : (may : Allowed) (db : Db) (u : Update) → update_fits may db u ≡ true → IsCounted db u
unfolding update_fits
counts may db u h =
    let one = both_true (reads_fit may db u.query) _ h in
    let two = both_true (update_kinds_fit db u.query) _ one.1 in
    let three = both_true (assignments_fit db u) _ two.1 in
    let four = both_true (nat_le (update_expanded_variables db u) most_expanded_variables) _ three.1 in
    let five = both_true (places_fit db u) _ four.1 in
    record { few = four.0; relation = (both_true (checks_fit db u) _ five.1).1 }

update_count : (db : Db) (u : Update) → nat_le (update_expanded_variables db u) most_expanded_variables ≡ true → sum_by (counted db) (update_vars u) ≤ 50
unfolding update_expanded_variables
update_count db u h = grind (arith, nat_tests, h)

small_by : (b c d : Bool) → cond (b || c) d true ≡ true → cond b d true ≡ true
small_by true c d h = h
small_by false c d h = refl

small_at : (db : Db) (u : Update) (p : ℕ × RelKey) → cond (is_any (used_in_query p.0 u.query) || is_changed u p.0) (nat_le (measure_of db p.1).variables 256) true ≡ true → is_small_in db u p ≡ true
small_at db u p h = by (changed_by u p.0)
  where
    by : (o : Option Right) → elim o as (λ x. Bool) [ None ↦ is_small db u.query p | Some right ↦ true ] ≡ true
    by None = small_by (is_any (used_in_query p.0 u.query)) (is_changed u p.0) (nat_le (measure_of db p.1).variables 256) h
    by (Some right) = refl

pub small_in : (may : Allowed) (db : Db) (u : Update) → update_fits may db u ≡ true → list_all (is_small_in db u) (enumerate_from 0 (vars_of u.query)) ≡ true
small_in may db u h =
    let few = update_count db u (counts may db u h).few in
    all_so (λ p. cond (is_any (used_in_query p.0 u.query) || is_changed u p.0) (nat_le (measure_of db p.1).variables 256) true) (is_small_in db u) (enumerate_from 0 (vars_of u.query))
    (λ p inside. small_at db u p)
    (each_small (λ p. is_any (used_in_query p.0 u.query) || is_changed u p.0) (counted db) 256 (enumerate_from 0 (vars_of u.query)) (omega (arith, few)))

-- ---- the variable that is changed

-- a variable that is changed: its place, and the right
abbrev pair : ℕ → Right → Option (ℕ × Right)
pair v right = Some (v, right)

abbrev place_of : Option (ℕ × Right) → ℕ
place_of None = 0
place_of (Some c) = c.0

-- the update changes the variable at this place, by this right
pub right_is : (u : Update) (v : ℕ) (right : Right) → changed_by u v ≡ Some right → changed u ≡ Some (v, right)
right_is u v right h = with_changed (changed u) h
  where
    at : (n : ℕ) (r : Right) (b : Bool) → (n == v) ≡ b → elim b as (λ x. Option Right) [ true ↦ Some r | false ↦ None ] ≡ Some right → pair n r ≡ pair v right
    at n r true e h = let same : n ≡ v = grind (arith, nat_tests, e) in let also : r ≡ right = cc h in λ i. pair (same i) (also i)
    at n r false e h = cc h

    with_changed : (o : Option (ℕ × Right)) → elim o as (λ x. Option Right) [ None ↦ None | Some c ↦ elim (c.0 == v) as (λ x. Option Right) [ true ↦ Some c.1 | false ↦ None ] ] ≡ Some right → o ≡ Some (v, right)
    with_changed None h = cc h
    with_changed (Some c) h = at c.0 c.1 (c.0 == v) refl h

-- the key of the relation stands at the place of what is changed, and a base relation is there
pub record IsTarget (db : Db) (u : Update) (v : ℕ) : Type 0 where
  pub stands : slice_get (vars_of u.query) v ≡ Some u.rel
  pub there : is_relation db u.rel ≡ true

this_key : (o : Option RelKey) (rel : RelKey) → is_this_key o rel ≡ true → o ≡ Some rel
this_key None rel h = cc h
this_key (Some k) rel h = ap Some (same_key-exact k rel h)

pub target_there : (may : Allowed) (db : Db) (u : Update) → update_fits may db u ≡ true → (v : ℕ) (right : Right) → changed u ≡ Some (v, right) → IsTarget db u v
target_there may db u h v right c = by u.op (counts may db u h).relation c
  where
    replaced : u.old ≡ v → (is_relation db u.rel && is_this_key (slice_get (vars_of u.query) u.old) u.rel) ≡ true → IsTarget db u v
    replaced same r =
        let parts = both_true (is_relation db u.rel) (is_this_key (slice_get (vars_of u.query) u.old) u.rel) r in
        record { stands = ap (slice_get (vars_of u.query)) (sym same) ∙ this_key (slice_get (vars_of u.query) u.old) u.rel parts.1; there = parts.0 }

    by : (o : UpdateOp) → relation_fits db (record u { op = o }) ≡ true → changed (record u { op = o }) ≡ Some (v, right) → IsTarget db u v
    by op.Append r c = cc c
    by op.Into r c = cc c
    by op.Replace r c = let same : u.old ≡ v = ap place_of c in replaced same r
    by op.Delete r c = let same : u.old ≡ v = ap place_of c in replaced same r

-- ---- the expansions of an update's variables

abbrev ranged_by : Option Relation → Option View → Option Relation → Option Range
ranged_by r v c = elim r [
  | Some relation ↦ Some (Kept relation)
  | None ↦ elim v [ Some view ↦ Some (Viewed view) | None ↦ option_map Kept c ]
]

kept_count : (db : Db) (key : RelKey) → is_relation db key ≡ true → (measure_of db key).variables ≡ 1
unfolding measure_of range_at
kept_count db key h = by (relation_at db key) h
  where
    by : (r : Option Relation) → is_some r ≡ true
        → (range_measure (λ view. query_measure (measure_within 15 db) view.query) (ranged_by r (view_at db key) (catalogue_at db key))).variables ≡ 1
    by (Some relation) h = refl
    by None h = cc h

own_small : (b c : Bool) (n m : ℕ) → c ≡ true → n ≡ 1 → m ≡ 1 → n ≤ cond (b || c) m 0
own_small true true n m e one other = omega (arith, one, other)
own_small false true n m e one other = omega (arith, one, other)
own_small b false n m e one other = cc e

or_more : (b c : Bool) (n m : ℕ) → n ≤ cond b m 0 → n ≤ cond (b || c) m 0
or_more true c n m h = h
or_more false true n m h = omega (arith, h)
or_more false false n m h = h

small_expansion : (may : Allowed) (db : Db) (who : Who) (u : Update) → update_fits may db u ≡ true → (v : ℕ) (key : RelKey) → slice_get (vars_of u.query) v ≡ Some key
    → length (expansion_in db who u (v, key)).vars ≤ cond (is_any (used_in_query v u.query) || is_changed u v) (measure_of db key).variables 0
small_expansion may db who u h v key there = by (changed u) refl
  where
    used : List ℕ
    used = used_in_query v u.query

    at : (n : ℕ) (right : Right) → changed u ≡ Some (n, right) → (b : Bool) → (n == v) ≡ b
        → length (elim b as (λ x. Expansion) [ true ↦ changed_expansion db who right u.places used key | false ↦ used_expansion (expansion_of db who) key used ]).vars ≤ cond (is_any used || b) (measure_of db key).variables 0
    at n right e true same =
        let is : n ≡ v = grind (arith, nat_tests, same) in
        let target = target_there may db u h v right (e ∙ ap (λ n. Some (n, right)) is) in
        let key_is : key ≡ u.rel = cc (sym there ∙ target.stands) in
        own_small (is_any used) true 1 (measure_of db key).variables refl refl (ap (λ key. (measure_of db key).variables) key_is ∙ kept_count db u.rel target.there)
    at n right e false same = or_more (is_any used) false (length (used_expansion (expansion_of db who) key used).vars) (measure_of db key).variables (used_small db who key used)

    by : (o : Option (ℕ × Right)) → changed u ≡ o
        → length (elim o as (λ x. Expansion) [
          | None ↦ used_expansion (expansion_of db who) key used
          | Some c ↦ elim (c.0 == v) as (λ x. Expansion) [ true ↦ changed_expansion db who c.1 u.places used key | false ↦ used_expansion (expansion_of db who) key used ]
        ]).vars
        ≤ cond (is_any used || elim o as (λ x. Bool) [ None ↦ false | Some c ↦ c.0 == v ]) (measure_of db key).variables 0
    by None e = or_more (is_any used) false (length (used_expansion (expansion_of db who) key used).vars) (measure_of db key).variables (used_small db who key used)
    by (Some c) e = at c.0 c.1 e (c.0 == v) refl

pub small_expansions_in : (may : Allowed) (db : Db) (who : Who) (u : Update) → update_fits may db u ≡ true → length (expansions_vars (map (expansion_in db who u) (enumerate_from 0 (vars_of u.query)))) ≤ 255
small_expansions_in may db who u h =
    let few = update_count db u (counts may db u h).few in
    let less = expansions_small (λ p. is_any (used_in_query p.0 u.query) || is_changed u p.0) (counted db) (expansion_in db who u) (enumerate_from 0 (vars_of u.query))
    (λ p inside. small_expansion may db who u h p.0 p.1 (stands_at (vars_of u.query) p.0 p.1 inside)) in
    omega (arith, few, less)

-- ---- the expansion of an update's variable

pub changed_expansion_is : (db : Db) (who : Who) (u : Update) (v : ℕ) (key : RelKey) (right : Right) → Some right ≡ changed_by u v → changed_expansion db who right u.places (used_in_query v u.query) key ≡ expansion_in db who u (v, key)
changed_expansion_is db who u v key right h = by (changed u) h
  where
    at : (r : Right) (b : Bool) → Some right ≡ elim b as (λ x. Option Right) [ true ↦ Some r | false ↦ None ]
        → changed_expansion db who right u.places (used_in_query v u.query) key
        ≡ elim b as (λ x. Expansion) [ true ↦ changed_expansion db who r u.places (used_in_query v u.query) key | false ↦ used_expansion (expansion_of db who) key (used_in_query v u.query) ]
    at r true h = let same : right ≡ r = cc h in ap (λ r. changed_expansion db who r u.places (used_in_query v u.query) key) same
    at r false h = cc h

    by : (o : Option (ℕ × Right)) → Some right ≡ elim o as (λ x. Option Right) [ None ↦ None | Some c ↦ elim (c.0 == v) as (λ x. Option Right) [ true ↦ Some c.1 | false ↦ None ] ]
        → changed_expansion db who right u.places (used_in_query v u.query) key
        ≡ elim o as (λ x. Expansion) [
          | None ↦ used_expansion (expansion_of db who) key (used_in_query v u.query)
          | Some c ↦ elim (c.0 == v) as (λ x. Expansion) [ true ↦ changed_expansion db who c.1 u.places (used_in_query v u.query) key | false ↦ used_expansion (expansion_of db who) key (used_in_query v u.query) ]
        ]
    by None h = cc h
    by (Some c) h = at c.1 (c.0 == v) h

pub read_expansion_is : (db : Db) (who : Who) (u : Update) (v : ℕ) (key : RelKey) → None ≡ changed_by u v → read_expansion db who u.query (v, key) ≡ expansion_in db who u (v, key)
read_expansion_is db who u v key h = by (changed u) h
  where
    at : (r : Right) (b : Bool) → None ≡ elim b as (λ x. Option Right) [ true ↦ Some r | false ↦ None ]
        → used_expansion (expansion_of db who) key (used_in_query v u.query)
        ≡ elim b as (λ x. Expansion) [ true ↦ changed_expansion db who r u.places (used_in_query v u.query) key | false ↦ used_expansion (expansion_of db who) key (used_in_query v u.query) ]
    at r true h = cc h
    at r false h = refl

    by : (o : Option (ℕ × Right)) → None ≡ elim o as (λ x. Option Right) [ None ↦ None | Some c ↦ elim (c.0 == v) as (λ x. Option Right) [ true ↦ Some c.1 | false ↦ None ] ]
        → used_expansion (expansion_of db who) key (used_in_query v u.query)
        ≡ elim o as (λ x. Expansion) [
          | None ↦ used_expansion (expansion_of db who) key (used_in_query v u.query)
          | Some c ↦ elim (c.0 == v) as (λ x. Expansion) [ true ↦ changed_expansion db who c.1 u.places (used_in_query v u.query) key | false ↦ used_expansion (expansion_of db who) key (used_in_query v u.query) ]
        ]
    by None h = refl
    by (Some c) h = at c.1 (c.0 == v) h

pub small_stays : (db : Db) (u : Update) (v : ℕ) (key : RelKey) → None ≡ changed_by u v → is_small_in db u (v, key) ≡ true → is_small db u.query (v, key) ≡ true
small_stays db u v key e h = ap (λ o. elim o as (λ x. Bool) [ None ↦ is_small db u.query (v, key) | Some right ↦ true ]) e ∙ h

-- ---- queries that are asked, and trees

pub asked_reads : (may : Allowed) (db : Db) (a : Asked) → asked_fits may db a ≡ true → reads_fit may db a.query ≡ true
unfolding asked_fits
asked_reads may db a h = (both_true (reads_fit may db a.query) _ h).0

pub asked_few : (may : Allowed) (db : Db) (a : Asked) → asked_fits may db a ≡ true → expanded_variables db a.query ≤ 50
unfolding asked_fits
asked_few may db a h =
    let one = both_true (reads_fit may db a.query) _ h in
    let two = both_true (query_fits db a.query) _ one.1 in
    let few : nat_le (expanded_variables db a.query) most_expanded_variables ≡ true = (both_true (nat_le (expanded_variables db a.query) most_expanded_variables) (sort_is_in_range a) two.1).0 in
    grind (arith, nat_tests, few)

suiting : (db : Db) (user : List ℕ) (tree : Checked) → is_fit_with_views db user tree ≡ true → suits (kept_or_viewed db) db user tree ≡ true
unfolding fits
suiting db user tree h = (both_true (tree_is_spelled tree) (suits (kept_or_viewed db) db user tree) h).1

pub answer_fits : (db : Db) (user : List ℕ) (tree : Checked) (asked : List Asked) → is_fit_with_views db user tree ≡ true → tree ≡ checked.Answer asked → list_all (asked_fits (kept_or_viewed db) db) asked ≡ true
unfolding suits
answer_fits db user tree asked h e = suiting db user (checked.Answer asked) (subst (λ t. is_fit_with_views db user t ≡ true) e h)

pub change_fits : (db : Db) (user : List ℕ) (tree : Checked) (u : Update) → is_fit_with_views db user tree ≡ true → tree ≡ checked.Update u → update_fits (kept_or_viewed db) db u ≡ true
unfolding suits
change_fits db user tree u h e = suiting db user (checked.Update u) (subst (λ t. is_fit_with_views db user t ≡ true) e h)
