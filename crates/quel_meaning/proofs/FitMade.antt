-- Resolved results and views are fit.
use Rattle.std.proofs.Common.{◌≡◌, refl, ap, ◌∙◌, subst, ℕ, ◌+◌, ◌<◌, nat_eq, nat_lt, Bool, true, false, ◌&&◌, ◌||◌, not, List, [], ◌∷◌, map, length, Option, Some, None, is_some, arith}
use Rattle.std.specs.List.{list_all, list_any, enumerate_from, flat_map, zip}
use Rattle.std.specs.Option.{option_map}
use Rattle.std.proofs.lemmas.Bool.{eq-eqb, lt-ltb, ne_eqb}
use Rattle.std.proofs.lemmas.List.{length-map}
use Rattle.std.proofs.lemmas.List.FromFn.{length-enumerate_from}
use Rattle.calculus.specs.declared.query.RelKey.{RelKey}
use Rattle.calculus.specs.declared.query.Query.{Query}
use Rattle.calculus.specs.declared.query.Target.{Target}
use Rattle.calculus.specs.declared.schema.Attr.{Attr}
use Rattle.calculus.specs.declared.statement.Item.{Item}
use Rattle.calculus.specs.declared.statement.Qual.{Qual}
use Rattle.calculus.specs.declared.statement.Statement.{Statement}
use Rattle.calculus.specs.declared.statement.Statement.TheVariants as statement
use Rattle.calculus.specs.declared.value.Domain.TheVariants.{I1, I2, I4, C}
use Rattle.calculus.specs.declared.value.Kind.{Kind}
use Rattle.calculus.specs.declared.value.Kind.TheVariants.{Of, Wide}
use Rattle.calculus.specs.Database.{Db}
use Rattle.calculus.specs.IsDatabase.{IsDatabase, attrs_stand, are_stored, is_kind, is_stored_kind, has_kind, var_kinds, valid_query}
use Rattle.calculus.specs.Kinds.{comparable, kinds_fit, kind_of}
use Rattle.calculus.specs.Lists.{is_any, differ_by}
use Rattle.calculus.specs.Name.{is_name}
use Rattle.calculus.specs.QueryParts.{vars_of, targets_of, qual_of, term_aggregates, qual_aggregates, query_aggregates}
use Rattle.calculus.specs.Replacement.{first_refusal, made_attr}
use Rattle.calculus.specs.Stored.{Range, range_at, range_info, info_at}
use Rattle.quel_meaning.specs.Planned.{target_attr}
use Rattle.quel_meaning.specs.Scope.{Scope}
use Rattle.quel_meaning.specs.Naming.{mentions, new_title, name_refusal}
use Rattle.quel_meaning.specs.WrittenParts.{text_aggregates}
use Rattle.quel_meaning.specs.Aggregates.{aggregates_allowed}
use Rattle.quel_meaning.specs.WrittenQuery.{query_of}
use Rattle.quel_meaning.specs.KindsInQueries.{kind_in_query, query_fits, assignments_fit}
use Rattle.quel_meaning.specs.Passing.{has_too_many, is_full, is_too_large}
use Rattle.quel_meaning.specs.StatementUpdate.{into_of}
use Rattle.quel_meaning.specs.Causes.{into_refusals, view_refusals, refusals}
use Rattle.quel_meaning.specs.Resolved.{tree_of}
use Rattle.quel_meaning.specs.FitQueries.{kept_or_viewed, can_be_ranged_over}
use Rattle.quel_meaning.specs.Fit.{view_fits, update_fits, utility_fits, suits}
use Rattle.quel_meaning.specs.IsWritten.{items_are_written, is_written}
use Rattle.quel_meaning.proofs.Each.{Each, in_map, each_to, passed, each_passes, left, right, and, not_left, not_right, not_not, not_so}
use Rattle.quel_meaning.proofs.Few.{listed_few, variables_few, expanded_few, update_expanded_few}
use Rattle.quel_meaning.proofs.FitKept.{made_stand}
use Rattle.quel_meaning.proofs.FitUpdates.{fitting_kinds}
use Rattle.quel_meaning.proofs.Found.{names_found}
use Rattle.quel_meaning.proofs.GoodTargets.{IsGood, targets_good, some_target}
use Rattle.quel_meaning.proofs.KindFacts.{same_kinds, same_fit, none_before, none_behind}
use Rattle.quel_meaning.proofs.LawfulKinds.{IsKind}
use Rattle.quel_meaning.proofs.ReadsFit.{none_of, reads, narrow_targets, vars_named}
use Rattle.quel_meaning.proofs.Slots.{as_many}

-- ---- a result

made_kind_is : (t : Target) → IsKind t.kind → is_kind (made_attr t).kind ≡ true
made_kind_is t h = go t.kind h
  where
    go : (k : Kind) → IsKind k → is_kind (made_attr (record { name = t.name; kind = k; term = t.term })).kind ≡ true
    go Wide h = refl
    go (Of d) h = h

made_kind_stored : (t : Target) → IsKind t.kind → is_stored_kind (made_attr t).kind ≡ true
made_kind_stored t h = go t.kind h
  where
    go : (k : Kind) → IsKind k → is_stored_kind (made_attr (record { name = t.name; kind = k; term = t.term })).kind ≡ true
    go Wide h = refl
    go (Of d) h = h

made_comparable : (t : Target) → comparable (Some t.kind) (Some (made_attr t).kind) ≡ true
unfolding comparable
made_comparable t = go t.kind
  where
    go : (k : Kind) → comparable (Some k) (Some (made_attr (record { name = t.name; kind = k; term = t.term })).kind) ≡ true
    go Wide = refl
    go (Of I1) = refl
    go (Of I2) = refl
    go (Of I4) = refl
    go (Of (C n)) = refl

results_fit : (ts : List Target) → list_all (λ (p : Target × Option Kind). comparable (Some p.0.kind) p.1) (zip ts (map (λ (t : Target). Some (made_attr t).kind) ts)) ≡ true
results_fit [] = refl
results_fit (t ∷ ts) = and _ _ (made_comparable t) (results_fit ts)

counted : {X : Type 0} (k n : ℕ) (xs : List X) → k + length xs ≡ n → Each (λ p. nat_lt p n ≡ true) (map (λ (p : ℕ × X). p.0) (enumerate_from k xs))
counted k n [] e = tt
counted k n (x ∷ xs) e = let here : k < n = omega (arith, e) in let rest : k + 1 + length xs ≡ n = omega (arith, e) in (lt-ltb k n here, counted (k + 1) n xs rest)

none_back : {X : Type 0} (j k : ℕ) (xs : List X) → j < k → list_any (nat_eq j) (map (λ (p : ℕ × X). p.0) (enumerate_from k xs)) ≡ false
none_back j k [] h = refl
none_back j k (x ∷ xs) h =
    let other : nat_eq j k ≡ false = ne_eqb j k (λ e. omega (arith, h, e)) in
    let later : j < k + 1 = omega (arith, h) in
    rw other (none_back j (k + 1) xs later)

counts_differ : {X : Type 0} (k : ℕ) (xs : List X) → differ_by nat_eq (map (λ (p : ℕ × X). p.0) (enumerate_from k xs)) ≡ true
counts_differ k [] = refl
counts_differ k (x ∷ xs) = let next : k < k + 1 = omega arith in and _ _ (not_so _ (none_back k (k + 1) xs next)) (counts_differ (k + 1) xs)

places_counted : (ts : List Target)
    → (list_all (λ p. nat_lt p (length (map made_attr ts))) (map (λ (p : ℕ × Target). p.0) (enumerate_from 0 ts))
    && (differ_by nat_eq (map (λ (p : ℕ × Target). p.0) (enumerate_from 0 ts)) && nat_eq (length (map (λ (p : ℕ × Target). p.0) (enumerate_from 0 ts))) (length ts))) ≡ true
places_counted ts =
    let all : 0 + length ts ≡ length (map made_attr ts) = omega (arith, length-map ts made_attr) in
    and _ _ (passed (λ p. nat_lt p (length (map made_attr ts))) _ (counted 0 (length (map made_attr ts)) ts all))
    (and _ _ (counts_differ 0 ts) (eq-eqb _ _ (length-map (enumerate_from 0 ts) (λ (p : ℕ × Target). p.0) ∙ length-enumerate_from 0 ts)))

pub into_fits : (s : Scope) → IsDatabase s.db → (name : List ℕ) (items : List Item) (qual : Qual) (sort : List (List ℕ × Bool))
    → is_written (statement.Retrieve (Some name) items qual sort) ≡ true
    → name_refusal s (statement.Retrieve (Some name) items qual sort) ≡ None → first_refusal (refusals s (statement.Retrieve (Some name) items qual sort)) ≡ None
    → suits (kept_or_viewed s.db) s.db s.user (tree_of s (statement.Retrieve (Some name) items qual sort)) ≡ true
unfolding refusals tree_of suits update_fits aggregates_allowed mentions into_of assignments_fit kinds_fit is_written
into_fits s is name items qual sort w h k =
    and _ _ (reads s stmt h (not_not _ none.0) few (narrow_targets q (λ t. (made_attr t).kind) none.1.1.1.1.1.0))
    (and _ _ (fitting_kinds s.db q (each_to _ _ (λ (t : Target) g. g.1) (targets_of q) good) (not_not _ none.1.1.1.0))
    (and _ _ (results_fit (targets_of q))
    (and _ _ (update_expanded_few s.db (into_of s name q) few)
    (and _ _ (places_counted (targets_of q))
    (and _ _ refl (and _ _ (and _ _ (not_so _ none.1.1.1.1.1.1.0) (not_so _ (not_right _ _ none.1.0))) (and _ _ attributes stored)))))))
  where
    stmt : Statement
    stmt = statement.Retrieve (Some name) items qual sort

    q : Query
    q = query_of s stmt

    items_written : items_are_written items ≡ true
    items_written = left _ _ (right (is_name name) _ w)

    none : Each (λ c. c.1 ≡ false) (into_refusals s (aggregates_allowed s stmt) name sort q)
    none = none_of (into_refusals s (aggregates_allowed s stmt) name sort q) k

    few : has_too_many s.db q ≡ false
    few = not_left _ _ none.1.0

    good : Each (λ (t : Target). IsGood t.name t.kind) (targets_of q)
    good = targets_good s is new_title stmt qual items_written (names_found s stmt h)

    attributes : attrs_stand (map made_attr (targets_of q)) ≡ true
    attributes =
        made_stand made_attr (targets_of q) (some_target s is new_title stmt qual items_written (names_found s stmt h))
        (each_to _ _ (λ (t : Target) g. g.0) (targets_of q) good) (not_not _ none.1.1.0) (each_to _ _ (λ (t : Target) g. made_kind_is t g.1) (targets_of q) good) none.1.1.1.1.1.0

    stored : are_stored (map made_attr (targets_of q)) ≡ true
    stored = passed (λ (a : Attr). is_stored_kind a.kind) _ (in_map _ made_attr (targets_of q) (each_to _ _ (λ (t : Target) g. made_kind_stored t g.1) (targets_of q) good))

-- ---- a view

range_there : (db : Db) (key : RelKey) → can_be_ranged_over db key ≡ true → is_some (range_at db key) ≡ true
unfolding info_at
range_there db key h = go (range_at db key) h
  where
    go : (o : Option Range) → is_some (option_map range_info o) ≡ true → is_some o ≡ true
    go None h = absurd (cc h)
    go (Some r) h = refl

nothing : {X : Type 0} (xs : List X) → is_any xs ≡ false → xs ≡ []
nothing [] h = refl
nothing (x ∷ xs) h = absurd (cc h)

none_long : {X : Type 0} (xs : List X) → length xs ≡ 0 → xs ≡ []
none_long [] h = refl
none_long (x ∷ xs) h = absurd (omega (arith, h))

no_aggregates : (s : Scope) (stmt : Statement) → not (is_any (text_aggregates stmt)) ≡ true → query_aggregates (query_of s stmt) ≡ []
no_aggregates s stmt h = none_long _ (as_many s stmt ∙ ap length (nothing (text_aggregates stmt) (go (is_any (text_aggregates stmt)) h)))
  where
    go : (b : Bool) → not b ≡ true → b ≡ false
    go true h = absurd (cc h)
    go false h = refl

each_empty : {X Y : Type 0} (f : X → List Y) (xs : List X) → flat_map f xs ≡ [] → Each (λ x. f x ≡ []) xs
each_empty f [] h = tt
each_empty f (x ∷ xs) h = (none_before (f x) _ h, each_empty f xs (none_behind (f x) _ h))

pub both_hold : {X : Type 0} (P Q R : X → Type 0) → ((x : X) → P x → Q x → R x) → (xs : List X) → Each P xs → Each Q xs → Each R xs
both_hold P Q R f [] h k = tt
both_hold P Q R f (x ∷ xs) h k = (f x h.0 k.0, both_hold P Q R f xs h.1 k.1)

query_alone : (db : Db) (q : Query) → query_aggregates q ≡ [] → query_fits db q ≡ true → valid_query db q ≡ true
unfolding query_fits
query_alone db q none h =
    and _ _
    (passed (λ (t : Target). has_kind (kind_of t.term (var_kinds db q)) t.kind) (targets_of q)
    (both_hold (λ (t : Target). term_aggregates t.term ≡ []) _ _ (λ (t : Target) e k. subst (λ o. has_kind o t.kind ≡ true) (same_kinds db t.term (var_kinds db q) e) k) (targets_of q)
    (each_empty (λ (t : Target). term_aggregates t.term) (targets_of q) (none_before _ (qual_aggregates (qual_of q)) none))
    (each_passes (λ (t : Target). has_kind (kind_in_query db t.term (var_kinds db q)) t.kind) (targets_of q) (left _ _ h))))
    (subst (λ b. b ≡ true) (same_fit db (qual_of q) (var_kinds db q) (none_behind (flat_map (λ (t : Target). term_aggregates t.term) (targets_of q)) _ none)) (right _ _ h))

pub view_stmt_fits : (s : Scope) → IsDatabase s.db → (name : List ℕ) (items : List Item) (qual : Qual) → is_written (statement.View name items qual) ≡ true
    → name_refusal s (statement.View name items qual) ≡ None → first_refusal (refusals s (statement.View name items qual)) ≡ None
    → suits (kept_or_viewed s.db) s.db s.user (tree_of s (statement.View name items qual)) ≡ true
unfolding refusals tree_of suits utility_fits view_fits aggregates_allowed mentions is_written
view_stmt_fits s is name items qual w h k =
    and _ _ (and _ _ (not_so _ none.1.1.1.1.1.0) (not_so _ (not_left _ _ room)))
    (and _ _ (passed (λ key. is_some (range_at s.db key)) _ (each_to _ _ (λ key e. range_there s.db key e) (vars_of q) (each_passes (can_be_ranged_over s.db) (vars_of q) (vars_named s stmt h))))
    (and _ _ (query_alone s.db q (no_aggregates s stmt (not_not _ none.0)) (not_not _ none.1.1.1.0))
    (and _ _ attributes
    (and _ _ (listed_few s.db q few) (and _ _ (variables_few s.db q few) (and _ _ (expanded_few s.db q few) (not_so _ (not_right (is_full s.db) _ room))))))))
  where
    stmt : Statement
    stmt = statement.View name items qual

    q : Query
    q = query_of s stmt

    items_written : items_are_written items ≡ true
    items_written = left _ _ (right (is_name name) _ w)

    none : Each (λ c. c.1 ≡ false) (view_refusals s (aggregates_allowed s stmt) name q)
    none = none_of (view_refusals s (aggregates_allowed s stmt) name q) k

    few : has_too_many s.db q ≡ false
    few = not_left _ _ none.1.0

    room : (is_full s.db || is_too_large s.db q) ≡ false
    room = not_right (has_too_many s.db q) _ none.1.0

    good : Each (λ (t : Target). IsGood t.name t.kind) (targets_of q)
    good = targets_good s is new_title stmt qual items_written (names_found s stmt h)

    attributes : attrs_stand (map target_attr (targets_of q)) ≡ true
    attributes =
        made_stand target_attr (targets_of q) (some_target s is new_title stmt qual items_written (names_found s stmt h))
        (each_to _ _ (λ (t : Target) g. g.0) (targets_of q) good) (not_not _ none.1.1.0) (each_to _ _ (λ (t : Target) g. g.1) (targets_of q) good) none.1.1.1.1.0
