-- Of views that wait to be applied some may be applied: one of the least level.
use Rattle.std.proofs.Common.{◌≡◌, refl, sym, ap, ◌∙◌, subst, inl, inr, ◌⊎◌, ℕ, zero, suc, ◌+◌, nat_le, Bool, true, false, IsTrue, List, [], ◌∷◌, ◌++◌, Option, Some, None, map, length}
use Rattle.std.specs.Prelude.{is_some, flat_map, sum, sum_by}
use Rattle.std.specs.List.{list_all, AllByRecursion}
use Rattle.calculus.specs.declared.query.QAgg.{QAgg}
use Rattle.calculus.specs.declared.query.Query.{Query}
use Rattle.calculus.specs.declared.query.RelKey.{RelKey}
use Rattle.calculus.specs.declared.schema.RelInfo.{RelInfo}
use Rattle.calculus.specs.declared.change.DbChange.{DbChange}
use Rattle.calculus.specs.Database.{Db, Relation, View, entries, relation_at, view_at}
use Rattle.calculus.specs.IsDatabase.{IsDatabase, key_is_named, valid_view_info, attrs_stand, attrs_are_targets, vars_are_there, valid_query}
use Rattle.calculus.specs.Keys.{same_key}
use Rattle.calculus.specs.Limits.{most_expanded_variables, most_variables, greatest_size}
use Rattle.calculus.specs.QueryParts.{vars_of, targets_of, query_aggregates}
use Rattle.calculus.specs.Sizes.{Measure, level_above, range_level, level_within, level_of, query_measure, measure_of, variables, expanded_variables, query_size, source_variables}
use Rattle.calculus.specs.Storable.{query_is_storable}
use Rattle.calculus.specs.Stored.{Viewed, range_at, kinds_at}
use Rattle.calculus.specs.Catalogue.{catalogue_at}
use Rattle.change_laws.specs.Fit.{key_is_free, view_is_fit, view_is_small}
use Rattle.plan_laws.proofs.Created.{each_true, each_from}
use Rattle.plan_laws.proofs.Kept.{each}
use Rattle.plan_laws.proofs.Levels.{there_below, not_too_high}
use Rattle.plan_laws.proofs.NewIndexes.{other_way}
use Rattle.plan_laws.proofs.Orders.{same_key_itself}
use Rattle.plan_laws.proofs.PlainQueries.{query_plain}
use Rattle.plan_laws.proofs.Ranging.{ranged}
use Rattle.plan_laws.proofs.Staying.{Staying, map_same, all_same, level_stays, query_stays, kinds_stay}
use Rattle.plan_laws.proofs.StayingFacts.{stands_with}
use Rattle.catalog_read.specs.Applying.{view_of}
use Rattle.catalog_read.proofs.Shuffles.{back, Pairwise}
use Rattle.catalog_read.proofs.Members.{IsIn, of_all, in_shuffled, in_front, in_either, in_test, all_front, all_rest, all_unmapped, as_test, within_both, within_pairs, waits_within, stands_within}
use Rattle.catalog_read.proofs.Steps.{infos_of}
use Rattle.catalog_read.proofs.Waiting.{views_of, indexes_of, within_mapped, second_first, key_free, entries_differ}
use Rattle.catalog_read.proofs.Ranged.{IsPart, HasViews, ViewsDiffer, IsThere, found_in, view_found, part_stays, there_by_cases, view_there}
use Rattle.catalog_read.proofs.Fits.{Waits, relations_within, indexes_within}

-- ---- keys that differ

in_map : {X Y : Type 0} (f : X → Y) (x : X) (xs : List X) → IsIn x xs → IsIn (f x) (map f xs)
in_map f x [] at = absurd at
in_map f x (y ∷ ys) (inl e) = inl (ap f e)
in_map f x (y ∷ ys) (inr at) = inr (in_map f x ys at)

pairs_rest : {X : Type 0} (R : X → X → Type 0) (xs ys : List X) → Pairwise R (xs ++ ys) → Pairwise R ys
pairs_rest R [] ys h = h
pairs_rest R (x ∷ xs) ys h = pairs_rest R xs ys h.1

pairs_front : {X : Type 0} (R : X → X → Type 0) (xs ys : List X) → Pairwise R (xs ++ ys) → Pairwise R xs
pairs_front R [] ys h = tt
pairs_front R (x ∷ xs) ys h = (all_front (R x) xs ys h.0, pairs_front R xs ys h.1)

pairs_cross : {X : Type 0} (R : X → X → Type 0) (xs ys : List X) (x y : X) → Pairwise R (xs ++ ys) → IsIn x xs → IsIn y ys → R x y
pairs_cross R [] ys x y h at bt = absurd at
pairs_cross R (z ∷ xs) ys x y h (inl e) bt = subst (λ z. R z y) (sym e) (of_all (R z) ys y (all_rest (R z) xs ys h.0) bt)
pairs_cross R (z ∷ xs) ys x y h (inr at) bt = pairs_cross R xs ys x y h.1 at bt

pairs_unmapped : {X Y : Type 0} (R : Y → Y → Type 0) (f : X → Y) (xs : List X) → Pairwise R (map f xs) → Pairwise (λ x y. R (f x) (f y)) xs
pairs_unmapped R f [] h = tt
pairs_unmapped R f (x ∷ xs) h = (all_unmapped (R (f x)) f xs h.0, pairs_unmapped R f xs h.1)

Unlike : RelInfo → RelInfo → Type 0
Unlike i j = same_key i.key j.key ≡ false

-- the views of a database have names, and their keys differ
pub has_views : (db : Db) → IsDatabase db → HasViews db
unfolding Unlike
has_views db is = record {
  differ = pairs_unmapped Unlike (λ v. v.info) db.views (pairs_front Unlike (views_of db) (indexes_of db) (pairs_rest Unlike (infos_of db) (views_of db ++ indexes_of db) (entries_differ (entries db) is.keys_differ)));
  named = as_test (λ v. key_is_named v.info.key) db.views (all_unmapped (λ i. IsTrue (key_is_named i.key)) (λ v. v.info) db.views
      (all_front (λ i. IsTrue (key_is_named i.key)) (views_of db) (indexes_of db) (all_rest (λ i. IsTrue (key_is_named i.key)) (infos_of db) (views_of db ++ indexes_of db)
      (each_true (λ i. key_is_named i.key) (entries db) is.keys_are_named))));
}

-- a view of a database is what stands under its key
pub view_ranged : (db : Db) (view : View) → IsDatabase db → IsIn view db.views → range_at db view.info.key ≡ Some (Viewed view)
unfolding range_at Unlike
view_ranged db view is at = go (relation_at db view.info.key) refl (view_at db view.info.key) (view_found view.info.key db.views view (has_views db is).differ at (same_key_itself view.info.key)) (catalogue_at db view.info.key)
  where
    crossed : (r : Relation) → relation_at db view.info.key ≡ Some r → ⊥
    crossed r e =
        let found = found_in (λ r. same_key r.info.key view.info.key) db.relations r e in
        let unlike : same_key r.info.key view.info.key ≡ false = pairs_cross Unlike (infos_of db) (views_of db ++ indexes_of db) r.info view.info (entries_differ (entries db) is.keys_differ)
        (in_map (λ (r : Relation). r.info) r db.relations found.0) (in_front view.info (views_of db) (indexes_of db) (in_map (λ (v : View). v.info) view db.views at)) in
        cc (sym found.1 ∙ unlike)

    go : (r : Option Relation) → relation_at db view.info.key ≡ r → (v : Option View) → v ≡ Some view → (c : Option Relation) → ranged r v c ≡ Some (Viewed view)
    go (Some r) e v f c = absurd (crossed r e)
    go None e v f c = ap (λ v. ranged None v c) f

-- what a view with a level names is below the greatest level
levels_below : (db : Db) (view : View) → range_at db view.info.key ≡ Some (Viewed view) → is_some (level_of db view.info.key) ≡ true → IsTrue (list_all (λ key. is_some (level_within 15 db key)) (vars_of view.query))
unfolding level_of
levels_below db view range there =
    let above : is_some (level_above (map (level_within 15 db) (vars_of view.query))) ≡ true = sym (ap (λ r. is_some (range_level (λ view. level_above (map (level_within 15 db) (vars_of view.query))) r)) range) ∙ there in
    there_below (level_within 15 db) (vars_of view.query) above

module _ (left : List DbChange) (part whole : Db) (w : Waits left part whole) (is : IsPart part whole) where
  among : (view : View) → IsIn view (flat_map view_of left) → IsIn view whole.views
  among view at = in_shuffled view (flat_map view_of left ++ part.views) whole.views w.views (in_front view (flat_map view_of left) part.views at)

  stay : Staying (IsThere part) part whole
  stay = part_stays part whole w.database is (has_views whole w.all)

  -- a view may be applied where all that it names is there
  pub view_fits : (view : View) → IsIn view (flat_map view_of left) → IsTrue (vars_are_there part view.query) → view_is_fit part view.info view.query ≡ true
  unfolding view_is_fit view_is_small query_size expanded_variables
  view_fits view at there =
      each _ _ free (each _ _ (its (λ v. valid_view_info v.info) w.all.view_infos_stand) (each _ _ (its (λ v. attrs_stand v.info.attrs) w.all.view_attrs_stand)
      (each _ _ (its (λ v. attrs_are_targets v.info.attrs (targets_of v.query)) w.all.view_attrs_are_targets) (each _ _ there (each _ _ (not_too_high part q levels) (each _ _ stands
      (each _ _ (its (λ v. nat_le (length_of v.query) most_expanded_variables) w.all.few_listed_variables) (each _ _ (its (λ v. nat_le (variables v.query) most_variables) w.all.few_variables)
      (each _ _ expanded (each _ _ small (its (λ v. query_is_storable v.query) w.all.storable_views)))))))))))
    where
      q : Query
      q = view.query

      length_of : Query → ℕ
      length_of q = length (vars_of q)

      its : (test : View → Bool) → IsTrue (list_all test whole.views) → IsTrue (test view)
      its test t = in_test test whole.views view t (among view at)

      own_vars : AllByRecursion (IsThere part) (vars_of q)
      own_vars = each_true (λ key. is_some (range_at part key)) (vars_of q) there

      free : IsTrue (key_is_free part view.info.key)
      free = key_free part whole view.info w.all (second_first (infos_of part) (views_of part) (indexes_of part) (entries whole) view.info
          (within_both (infos_of part) (infos_of whole) ((view.info ∷ views_of part) ++ indexes_of part) (views_of whole ++ indexes_of whole) (relations_within left part whole w)
          (within_both (view.info ∷ views_of part) (views_of whole) (indexes_of part) (indexes_of whole)
          (within_mapped (λ v. v.info) (view ∷ part.views) whole.views (waits_within view (flat_map view_of left) part.views whole.views w.views at)) (indexes_within left part whole w))))

      levels : IsTrue (list_all (λ key. is_some (level_within 15 part key)) (vars_of q))
      levels = all_same (IsThere part) (λ key. is_some (level_within 15 part key)) (λ key. is_some (level_within 15 whole key)) (vars_of q) own_vars (λ key p. ap is_some (level_stays (IsThere part) part whole stay 15 key p))
          ∙ levels_below whole view (view_ranged whole view w.all (among view at)) (its (λ v. is_some (level_of whole v.info.key)) w.all.views_have_levels)

      stands : IsTrue (valid_query part q)
      stands = ap (λ kinds. stands_with kinds q) (map_same (IsThere part) (kinds_at part) (kinds_at whole) (vars_of q) own_vars (λ key p. kinds_stay (IsThere part) part whole stay key p))
          ∙ its (λ v. valid_query whole v.query) w.all.view_queries_stand

      with : Db → Measure → List QAgg → ℕ
      with d m gs = m.variables + sum_by (λ g. source_variables (measure_of d) g.source) gs

      expansion : with part (query_measure (measure_of part) q) (query_aggregates q) ≡ with whole (query_measure (measure_of whole) q) (query_aggregates q)
      expansion =
          let plain = query_plain part q stands in
          ap (with part (query_measure (measure_of part) q)) plain ∙ ap (λ (m : Measure). m.variables + 0) (query_stays (IsThere part) part whole stay q own_vars)
          ∙ sym (ap (with whole (query_measure (measure_of whole) q)) plain)

      expanded : IsTrue (nat_le (expanded_variables part q) most_expanded_variables)
      expanded = ap (λ n. nat_le n most_expanded_variables) expansion ∙ its (λ v. nat_le (expanded_variables whole v.query) most_expanded_variables) w.all.few_expanded_variables

      small : IsTrue (nat_le (query_size part q) greatest_size)
      small = ap (λ (m : Measure). nat_le (sum m.attrs + m.qual) greatest_size) (query_stays (IsThere part) part whole stay q own_vars) ∙ its (λ v. nat_le (query_size whole v.query) greatest_size) w.all.small_views

  -- no view that waits may be applied
  abbrev pub NoneFits : Type 0
  NoneFits = AllByRecursion (λ v. view_is_fit part v.info v.query ≡ false) (flat_map view_of left)

  -- so what has a level is there
  refused : NoneFits → (view : View) → IsIn view (flat_map view_of left) → AllByRecursion (IsThere part) (vars_of view.query) → ⊥
  refused none view at there =
      let no = of_all (λ v. view_is_fit part v.info v.query ≡ false) (flat_map view_of left) view none at in
      let yes = view_fits view at (as_test (λ key. is_some (range_at part key)) (vars_of view.query) there) in
      cc (sym yes ∙ no)

  differ : ViewsDiffer part.views
  differ = within_pairs (λ v v2. same_key v.info.key v2.info.key ≡ false) (λ v v2 h. other_way v.info.key v2.info.key h) part.views whole.views (stands_within (flat_map view_of left) part.views whole.views w.views)
      (has_views whole w.all).differ

  view_is_there : NoneFits → (key : RelKey) (view : View) → view_at whole key ≡ Some view → AllByRecursion (IsThere part) (vars_of view.query) → IsThere part key
  view_is_there none key view e there =
      let found = found_in (λ v. same_key v.info.key key) whole.views view e in
      go found.1 (in_either view (flat_map view_of left) part.views (in_shuffled view whole.views (flat_map view_of left ++ part.views) (back (flat_map view_of left ++ part.views) whole.views w.views) found.0))
    where
      go : same_key view.info.key key ≡ true → IsIn view (flat_map view_of left) ⊎ IsIn view part.views → IsThere part key
      go f (inl at) = absurd (refused none view at there)
      go f (inr at) = view_there part key view differ at f

  pub levels_there : NoneFits → (n : ℕ) (key : RelKey) → is_some (level_within n whole key) ≡ true → IsThere part key
  levels_there none zero key level = go (there_by_cases part whole is key)
    where
      go : IsThere part key ⊎ ((view : View) × (view_at whole key ≡ Some view) × (range_at whole key ≡ Some (Viewed view))) ⊎ (range_at whole key ≡ None) → IsThere part key
      go (inl there) = there
      go (inr (inl v)) = let no : false ≡ true = sym (ap (λ r. is_some (range_level (λ view. None) r)) v.2) ∙ level in cc no
      go (inr (inr e)) = let no : false ≡ true = sym (ap (λ r. is_some (range_level (λ view. None) r)) e) ∙ level in cc no
  levels_there none (suc n) key level = go (levels_there none n) (there_by_cases part whole is key)
    where
      go : ((key : RelKey) → is_some (level_within n whole key) ≡ true → IsThere part key)
          → IsThere part key ⊎ ((view : View) × (view_at whole key ≡ Some view) × (range_at whole key ≡ Some (Viewed view))) ⊎ (range_at whole key ≡ None) → IsThere part key
      go ih (inl there) = there
      go ih (inr (inl v)) =
          let above : is_some (level_above (map (level_within n whole) (vars_of (v.0).query))) ≡ true = sym (ap (λ r. is_some (range_level (λ view. level_above (map (level_within n whole) (vars_of view.query))) r)) v.2) ∙ level in
          view_is_there none key v.0 v.1 (each_from (λ key. is_some (level_within n whole key) ≡ true) (IsThere part) (vars_of (v.0).query)
          (each_true (λ key. is_some (level_within n whole key)) (vars_of (v.0).query) (there_below (level_within n whole) (vars_of (v.0).query) above)) (λ key level. ih key level))
      go ih (inr (inr e)) = let no : false ≡ true = sym (ap (λ r. is_some (range_level (λ view. level_above (map (level_within n whole) (vars_of view.query))) r)) e) ∙ level in cc no

  -- so none waits
  pub no_view_waits : NoneFits → (view : View) → IsIn view (flat_map view_of left) → ⊥
  no_view_waits none view at =
      let level = in_test (λ v. is_some (level_of whole v.info.key)) whole.views view w.all.views_have_levels (among view at) in
      let below = levels_below whole view (view_ranged whole view w.all (among view at)) level in
      refused none view at (each_from (λ key. is_some (level_within 15 whole key) ≡ true) (IsThere part) (vars_of view.query) (each_true (λ key. is_some (level_within 15 whole key)) (vars_of view.query) below)
      (λ key level. levels_there none 15 key level))
