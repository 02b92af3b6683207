-- Each assignment of an update stands beside one of the update with its expansions substituted: the same values, and the same old row.
use Rattle.std.proofs.Common.{◌≡◌, ◌⊎◌, refl, sym, ap, ◌∙◌, inl, inr, ℕ, zero, suc, ◌+◌, Bool, true, false, List, [], ◌∷◌, ◌++◌, map, length, Option, Some, None, arith}
use Rattle.std.proofs.lemmas.Bool.Decides.{nat_tests}
use Rattle.std.specs.Prelude.{slice_get, nat_lt, ◌==◌, option_map}
use Rattle.std.specs.List.{enumerate_from}
use Rattle.calculus.specs.declared.query.RelKey.{RelKey}
use Rattle.calculus.specs.declared.query.Query.{Query}
use Rattle.calculus.specs.declared.request.Update.{Update}
use Rattle.calculus.specs.declared.request.UpdateOp.{UpdateOp}
use Rattle.calculus.specs.declared.request.UpdateOp.TheVariants as op
use Rattle.calculus.specs.Rows.{Row}
use Rattle.calculus.specs.Term.{Env, Aggs, val, no_aggs, value_in, attribute_value, holds}
use Rattle.calculus.specs.Lists.{is_any}
use Rattle.calculus.specs.Who.{Who, Unrestricted}
use Rattle.calculus.specs.Database.{Db}
use Rattle.calculus.specs.IsDatabase.{IsDatabase}
use Rattle.calculus.specs.Stored.{range_at, rows_at}
use Rattle.calculus.specs.Rights.{Right}
use Rattle.calculus.specs.QueryParts.{vars_of, query_aggregates, qual_of}
use Rattle.calculus.specs.Used.{used_in_query}
use Rattle.calculus.specs.Assignments.{choices, variable_rows, changed, is_changed, changed_rows}
use Rattle.calculus.specs.VariableRows.{rows_of}
use Rattle.calculus.specs.Aggregate.{aggregates}
use Rattle.calculus.proofs.OldRows.{seen_rows, seen_assigned, old_in}
use Rattle.calculus_laws.specs.Expansion.{is_no_view}
use Rattle.calculus_laws.proofs.Members.{In, Chosen, choices-Chosen}
use Rattle.view_text.specs.declared.expansion.Expansion.{Expansion}
use Rattle.view_text.specs.Replaced.{without_value, replaced, shifted}
use Rattle.view_text.specs.ExpansionOf.{expansion_of}
use Rattle.view_text.specs.Expansions.{used_expansion, expansions_vars, substituted_from, conditions_from, place_from, own_or}
use Rattle.view_text.specs.Expanded.{expanded_made, expanded_over, update_expansion, update_expansions, expanded_update}
use Rattle.tree_laws.specs.Nesting.{aggregates_nest_none}
use Rattle.tree_laws.proofs.Values.{StandsFor, without_value_has_none}
use Rattle.tree_laws.proofs.Joint.{kept_lists, DenoteEach}
use Rattle.tree_laws.proofs.Queries.{Beside, is_denoted, denotes}
use Rattle.tree_laws.proofs.Named.{Names, KeepsNames}
use Rattle.tree_laws.proofs.Placed.{placed_first, condition_used, attribute_used}
use Rattle.tree_laws.proofs.Sound.{unrestricted_used, all_kept}
use Rattle.tree_laws.proofs.Answering.{put_makes, put_keeps}
use Rattle.tree_laws.proofs.Changing.{expansion_by, expansion_with, update_denoted, update_named, IsSeen, update_seen, update_kept, changed_at, unrestricted_changed, same_place, get_past}

-- ---- the changed variable, where it is shifted

-- the changed variable at the place where its expansion begins
abbrev pub shifted_by : List Expansion → Option (ℕ × Right) → Option (ℕ × Right)
shifted_by expansions o = option_map (λ c. (place_from 0 expansions c.0, c.1)) o

changed_once : (expansions : List Expansion) (o : UpdateOp) (old : ℕ) → changed_at o (elim (changed_at o old) [ None ↦ old | Some c ↦ place_from 0 expansions c.0 ]) ≡ shifted_by expansions (changed_at o old)
changed_once expansions op.Append old = refl
changed_once expansions op.Replace old = refl
changed_once expansions op.Delete old = refl
changed_once expansions op.Into old = refl

pub changed_shifted : (db : Db) (who : Who) (u : Update) → changed (expanded_update db who u) ≡ shifted_by (update_expansions db who u) (changed u)
unfolding expanded_update
changed_shifted db who u = changed_once (update_expansions db who u) u.op u.old

-- ---- the expansion of the changed variable

abbrev is_changed_by : ℕ → Option (ℕ × Right) → Bool
is_changed_by v o = elim o [ None ↦ false | Some c ↦ c.0 == v ]

module _ (db : Db) (who : Who) (u : Update) where
  -- its relation alone, each attribute standing for itself
  abbrev pub IsOwn : Expansion → RelKey → Type 0
  IsOwn expansion key = (expansion.vars ≡ key ∷ []) × (expansion.terms ≡ None)

  own_by : (v : ℕ) (key : RelKey) (right : Right) (b : Bool) → b ≡ true → IsOwn (expansion_by db who u v key right b) key
  own_by v key right true h = (refl, refl)
  own_by v key right false h = cc h

  own_with : (v : ℕ) (key : RelKey) (o : Option (ℕ × Right)) → is_changed_by v o ≡ true → IsOwn (expansion_with db who u v key o) key
  own_with v key None h = cc h
  own_with v key (Some c) h = own_by v key c.1 (c.0 == v) h

  pub own_expansion : (v : ℕ) (key : RelKey) → is_changed u v ≡ true → IsOwn (update_expansion db who u v key) key
  own_expansion v key h = own_with v key (changed u) h

  -- the expansion of another variable is that of a query's
  plain_by : (v : ℕ) (key : RelKey) (right : Right) (b : Bool) → b ≡ false → expansion_by db who u v key right b ≡ used_expansion (expansion_of db who) key (used_in_query v u.query)
  plain_by v key right true h = cc h
  plain_by v key right false h = refl

  plain_with : (v : ℕ) (key : RelKey) (o : Option (ℕ × Right)) → is_changed_by v o ≡ false → expansion_with db who u v key o ≡ used_expansion (expansion_of db who) key (used_in_query v u.query)
  plain_with v key None h = refl
  plain_with v key (Some c) h = plain_by v key c.1 (c.0 == v) h

  pub plain_expansion : (v : ℕ) (key : RelKey) → is_changed u v ≡ false → update_expansion db who u v key ≡ used_expansion (expansion_of db who) key (used_in_query v u.query)
  plain_expansion v key h = plain_with v key (changed u) h

  -- the expansions from this variable on
  abbrev expansions_at : ℕ → List RelKey → List Expansion
  expansions_at k keys = map (λ p. update_expansion db who u p.0 p.1) (enumerate_from k keys)

  length_behind : {X : Type 0} (xs ys : List X) → length (xs ++ ys) ≡ length xs + length ys
  length_behind [] ys = omega arith
  length_behind (x ∷ xs) ys = let more = length_behind xs ys in omega (arith, more)

  -- it begins among the variables where it is one of the update's, and else behind them all
  pub place_inside : (keys : List RelKey) (k n v : ℕ) → is_changed u (k + v) ≡ true → nat_lt v (length keys) ≡ nat_lt (place_from n (expansions_at k keys) v) (n + length (expansions_vars (expansions_at k keys)))
  place_inside [] k n v h =
      let first : nat_lt v 0 ≡ false = grind (arith, nat_tests) in
      let second : nat_lt n (n + 0) ≡ false = grind (arith, nat_tests) in
      first ∙ sym second
  place_inside (key ∷ keys) k n zero h =
      let same : k + 0 ≡ k = omega arith in
      let own = own_expansion k key (ap (is_changed u) (sym same) ∙ h) in
      let one : length (update_expansion db who u k key).vars ≡ 1 = ap length own.0 in
      let long = length_behind (update_expansion db who u k key).vars (expansions_vars (expansions_at (k + 1) keys)) in
      let first : nat_lt 0 (length (key ∷ keys)) ≡ true = grind (arith, nat_tests) in
      let second : nat_lt n (n + length (expansions_vars (expansions_at k (key ∷ keys)))) ≡ true = grind (arith, nat_tests, long, one) in
      first ∙ sym second
  place_inside (key ∷ keys) k n (suc v) h =
      let same : k + suc v ≡ k + 1 + v = omega arith in
      let more = place_inside keys (k + 1) (n + length (update_expansion db who u k key).vars) v (ap (is_changed u) (sym same) ∙ h) in
      let long = length_behind (update_expansion db who u k key).vars (expansions_vars (expansions_at (k + 1) keys)) in
      let total : n + length (update_expansion db who u k key).vars + length (expansions_vars (expansions_at (k + 1) keys)) ≡ n + length (expansions_vars (expansions_at k (key ∷ keys))) = omega (arith, long) in
      let step : nat_lt (suc v) (length (key ∷ keys)) ≡ nat_lt v (length keys) = less_suc v (length keys) in
      step ∙ more ∙ ap (nat_lt (place_from (n + length (update_expansion db who u k key).vars) (expansions_at (k + 1) keys) v)) total
    where
      less_suc : (v n : ℕ) → nat_lt (suc v) (suc n) ≡ nat_lt v n
      less_suc v n = by (nat_lt v n) refl
        where
          by : (b : Bool) → nat_lt v n ≡ b → nat_lt (suc v) (suc n) ≡ b
          by true e = grind (arith, nat_tests, e)
          by false e = grind (arith, nat_tests, e)

  -- what is put in for its attributes are the attributes at that place
  pub put_inside : (keys : List RelKey) (k n v : ℕ) → is_changed u (k + v) ≡ true → (f : Env) → length f ≡ n + length (expansions_vars (expansions_at k keys)) → (a : ℕ)
      → val no_aggs (substituted_from n (expansions_at k keys) v a) f ≡ attribute_value f (place_from n (expansions_at k keys) v) a
  unfolding val attribute_value replaced
  put_inside [] k n v h f long a =
      let past : nat_lt n (length f) ≡ false = grind (arith, nat_tests, long) in
      without_value_has_none no_aggs f ∙ sym (ap (λ r. value_in r a) (get_past f n past))
  put_inside (key ∷ keys) k n zero h f long a =
      let same : k + 0 ≡ k = omega arith in
      let own = own_expansion k key (ap (is_changed u) (sym same) ∙ h) in
      ap (λ terms. val no_aggs (shifted n (own_or terms a)) f) own.1 ∙ here
    where
      none_more : n + 0 ≡ n
      none_more = omega arith

      here : value_in (slice_get f (n + 0)) a ≡ value_in (slice_get f n) a
      here = ap (λ m. value_in (slice_get f m) a) none_more
  put_inside (key ∷ keys) k n (suc v) h f long a =
      let same : k + suc v ≡ k + 1 + v = omega arith in
      let more = length_behind (update_expansion db who u k key).vars (expansions_vars (expansions_at (k + 1) keys)) in
      let total : length f ≡ n + length (update_expansion db who u k key).vars + length (expansions_vars (expansions_at (k + 1) keys)) = omega (arith, long, more) in
      put_inside keys (k + 1) (n + length (update_expansion db who u k key).vars) v (ap (is_changed u) (sym same) ∙ h) f total a

-- ---- what whoever is unrestricted has

module _ (db : Db) (d : IsDatabase db) (who : Who) (u : Update) (nest : aggregates_nest_none u.query ≡ true)
    (over : (v : ℕ) (key : RelKey) → slice_get (vars_of u.query) v ≡ Some key → is_changed u v ≡ true → is_no_view (range_at db key) ≡ true) where
  abbrev pub expansions : List Expansion
  expansions = update_expansions db who u

  abbrev unrestricted_query : Query
  unrestricted_query = expanded_over db who expansions u.query

  keeps : KeepsNames (expanded_made db who (substituted_from 0 expansions)) (substituted_from 0 expansions) (query_aggregates u.query)
  keeps = put_keeps db d who (substituted_from 0 expansions) (query_aggregates u.query) nest

  -- the rows of a variable, where this one is changed
  abbrev unrestricted_by : ℕ → RelKey → Right → Bool → List Row
  unrestricted_by w key right b = elim b [
    | true ↦ changed_rows db Unrestricted right u.places (used_in_query w unrestricted_query) key
    | false ↦ variable_rows (rows_of db Unrestricted) unrestricted_query w key
  ]

  abbrev unrestricted_with : ℕ → RelKey → Option (ℕ × Right) → List Row
  unrestricted_with w key o = elim o [ None ↦ variable_rows (rows_of db Unrestricted) unrestricted_query w key | Some c ↦ unrestricted_by w key c.1 (c.0 == w) ]

  rows_used_all : (w : ℕ) (key : RelKey) → is_no_view (range_at db key) ≡ true → is_any (used_in_query w unrestricted_query) ≡ true → variable_rows (rows_of db Unrestricted) unrestricted_query w key ≡ rows_at db key
  rows_used_all w key kept h = unrestricted_used db key (used_in_query w unrestricted_query) kept h

  -- a variable is used, or is the changed one
  abbrev IsUsedOr : Option (ℕ × Right) → ℕ → Type 0
  IsUsedOr o w = (is_any (used_in_query w unrestricted_query) ≡ true) ⊎ ((i : ℕ) × (is_changed_by i o ≡ true) × (w ≡ place_from 0 expansions i))

  used_or : (w : ℕ) → nat_lt w (length (expansions_vars expansions)) ≡ true → IsUsedOr (changed u) w
  used_or w h =
      elim (placed_first (update_expansion db who u) (IsSeen db d who u) (λ v key. (update_named db d who u v key).0) (λ v key. (update_named db d who u v key).1) (update_seen db d who u) (vars_of u.query) w h) [
        | inl condition ↦ inl (condition_used (expanded_made db who (substituted_from 0 expansions)) expansions u.query keeps w condition)
        | inr (i, j, at, meant, names) ↦ seen i j at meant names
      ]
    where
      seen : (i j : ℕ) → w ≡ place_from 0 expansions i + j → IsSeen db d who u i j → Names (substituted_from 0 expansions) i w → IsUsedOr (changed u) w
      seen i j at (inl is_used) names = inl (attribute_used (expanded_made db who (substituted_from 0 expansions)) expansions u.query keeps i w names is_used)
      seen i j at (inr (changes, first)) names = let exact : w ≡ place_from 0 expansions i = omega (arith, at, first) in inr (i, changes, exact)

  unrestricted_one : (w : ℕ) (key : RelKey) → is_no_view (range_at db key) ≡ true → (right : Right) (b : Bool) → (b ≡ false → is_any (used_in_query w unrestricted_query) ≡ true) → unrestricted_by w key right b ≡ rows_at db key
  unrestricted_one w key kept right true h = unrestricted_changed db right u.places (used_in_query w unrestricted_query) key
  unrestricted_one w key kept right false h = rows_used_all w key kept (h refl)

  unrestricted_each : (w : ℕ) (key : RelKey) → is_no_view (range_at db key) ≡ true → (o : Option (ℕ × Right)) → IsUsedOr o w → unrestricted_with w key (shifted_by expansions o) ≡ rows_at db key
  unrestricted_each w key kept None (inl h) = rows_used_all w key kept h
  unrestricted_each w key kept None (inr (i, changes, at)) = cc changes
  unrestricted_each w key kept (Some c) (inl h) = unrestricted_one w key kept c.1 (place_from 0 expansions c.0 == w) (λ e. h)
  unrestricted_each w key kept (Some c) (inr (i, changes, at)) = unrestricted_one w key kept c.1 (place_from 0 expansions c.0 == w) (λ e. absurd (differs e))
    where
      same : c.0 ≡ i
      same = grind (arith, nat_tests, changes)

      differs : (place_from 0 expansions c.0 == w) ≡ false → ⊥
      differs e =
          let there : place_from 0 expansions c.0 ≡ w = ap (place_from 0 expansions) same ∙ sym at in
          grind (arith, nat_tests, e, there)

  pub unrestricted_seen : seen_assigned db Unrestricted (rows_of db Unrestricted) (expanded_update db who u) ≡ choices (kept_lists db (expansions_vars expansions))
  unfolding expanded_update
  unrestricted_seen =
      ap choices
      (all_kept db (seen_rows db Unrestricted (rows_of db Unrestricted) (expanded_update db who u)) 0 (expansions_vars expansions) each
      (update_kept db d who u 0 (vars_of u.query) (λ v key there e. over v key there (ap (is_changed u) (none_before v) ∙ e))))
    where
      none_before : (v : ℕ) → v ≡ 0 + v
      none_before v = omega arith

      each : (v : ℕ) (key : RelKey) → nat_lt v (length (expansions_vars expansions)) ≡ true → is_no_view (range_at db key) ≡ true
          → seen_rows db Unrestricted (rows_of db Unrestricted) (expanded_update db who u) (0 + v) key ≡ rows_at db key
      each v key inside kept =
          ap (λ v. seen_rows db Unrestricted (rows_of db Unrestricted) (expanded_update db who u) v key) (sym (none_before v))
          ∙ ap (unrestricted_with v key) (changed_shifted db who u)
          ∙ unrestricted_each v key kept (changed u) (used_or v inside)

  -- ---- assignments beside each other

  abbrev pub rowss : List (List Row)
  rowss = map (λ p. seen_rows db who (rows_of db who) u p.0 p.1) (enumerate_from 0 (vars_of u.query))

  pub denoted : DenoteEach db rowss expansions
  denoted = update_denoted db who u 0 (vars_of u.query)

  -- an assignment of the update, and one of what is put in
  pub record IsBeside (f e : Env) : Type 0 where
    pub beside : Beside db (aggregates db who) (aggregates db Unrestricted) (expanded_made db who (substituted_from 0 expansions)) u.query rowss expansions denoted (put_makes db d who (substituted_from 0 expansions) (query_aggregates u.query) nest) f e
    pub old : old_in (expanded_update db who u) f ≡ old_in u e

  chosen_long : (lists : List (List Row)) (e : Env) → Chosen lists e → length e ≡ length lists
  chosen_long [] [] h = refl
  chosen_long [] (row ∷ e) h = absurd h
  chosen_long (rows ∷ lists) [] h = absurd h
  chosen_long (rows ∷ lists) (row ∷ e) h = ap suc (chosen_long lists e h.1)

  map_long : {X Y : Type 0} (f : X → Y) (xs : List X) → length (map f xs) ≡ length xs
  map_long f [] = refl
  map_long f (x ∷ xs) = ap suc (map_long f xs)

  numbered_long : {X : Type 0} (k : ℕ) (xs : List X) → length (enumerate_from k xs) ≡ length xs
  numbered_long k [] = refl
  numbered_long k (x ∷ xs) = ap suc (numbered_long (k + 1) xs)

  e_long : (e : Env) → In e (choices rowss) → length e ≡ length (vars_of u.query)
  e_long e inside =
      chosen_long rowss e (choices-Chosen rowss e inside)
      ∙ map_long (λ p. seen_rows db who (rows_of db who) u p.0 p.1) (enumerate_from 0 (vars_of u.query)) ∙ numbered_long 0 (vars_of u.query)

  f_long : (f : Env) → In f (choices (kept_lists db (expansions_vars expansions))) → length f ≡ length (expansions_vars expansions)
  f_long f inside = chosen_long (kept_lists db (expansions_vars expansions)) f (choices-Chosen (kept_lists db (expansions_vars expansions)) f inside) ∙ map_long (rows_at db) (expansions_vars expansions)

  -- the row of the changed variable, where one is
  abbrev old_by : Option (ℕ × Right) → Env → Option Row
  old_by o e = elim o [ None ↦ None | Some c ↦ slice_get e c.0 ]

  old_one : (e f : Env) → length e ≡ length (vars_of u.query) → length f ≡ length (expansions_vars expansions) → StandsFor (substituted_from 0 expansions) f e → (o : Option (ℕ × Right))
      → ((v : ℕ) → is_changed_by v o ≡ true → is_changed u v ≡ true)
      → old_by (shifted_by expansions o) f ≡ old_by o e
  old_one e f long_e long_f stands None is = refl
  old_one e f long_e long_f stands (Some c) is =
      sym (same_place e f c.0 (place_from 0 expansions c.0) inside (λ a. sym (stands no_aggs c.0 a) ∙ put_inside db who u (vars_of u.query) 0 0 c.0 changes f total a))
    where
      itself : (c.0 == c.0) ≡ true
      itself = grind (arith, nat_tests)

      none_before : c.0 ≡ 0 + c.0
      none_before = omega arith

      changes : is_changed u (0 + c.0) ≡ true
      changes = ap (is_changed u) (sym none_before) ∙ is c.0 itself

      total : length f ≡ 0 + length (expansions_vars expansions)
      total = omega (arith, long_f)

      inside : nat_lt c.0 (length e) ≡ nat_lt (place_from 0 expansions c.0) (length f)
      inside = ap (nat_lt c.0) long_e ∙ place_inside db who u (vars_of u.query) 0 0 c.0 changes ∙ ap (nat_lt (place_from 0 expansions c.0)) (sym total)

  old_same : (e f : Env) → In e (choices rowss) → In f (choices (kept_lists db (expansions_vars expansions))) → StandsFor (substituted_from 0 expansions) f e → old_in (expanded_update db who u) f ≡ old_in u e
  old_same e f in_e in_f stands =
      ap (λ o. old_by o f) (changed_shifted db who u)
      ∙ old_one e f (e_long e in_e) (f_long f in_f) stands (changed u) (λ v h. h)

  -- each assignment has one beside it
  pub to_unrestricted : (e : Env) → In e (choices rowss) → (f : Env) × In f (choices (kept_lists db (expansions_vars expansions))) × IsBeside f e
  to_unrestricted e inside =
      let (f, there, by) = denotes db (aggregates db who) (aggregates db Unrestricted) (expanded_made db who (substituted_from 0 expansions)) u.query rowss expansions denoted
      (put_makes db d who (substituted_from 0 expansions) (query_aggregates u.query) nest) e inside in
      (f, there, record { beside = by; old = old_same e f inside there by.stands })

  pub from_unrestricted : (f : Env) → In f (choices (kept_lists db (expansions_vars expansions))) → holds (aggregates db Unrestricted) (qual_of unrestricted_query) f ≡ true
      → (e : Env) × In e (choices rowss) × IsBeside f e
  from_unrestricted f inside h =
      let (e, there, by) = is_denoted db (aggregates db who) (aggregates db Unrestricted) (expanded_made db who (substituted_from 0 expansions)) u.query rowss expansions denoted
      (put_makes db d who (substituted_from 0 expansions) (query_aggregates u.query) nest) f inside h in
      (e, there, record { beside = by; old = old_same e f there inside by.stands })
