-- The text of each key that has a level is fit; it has no more variables than are counted of the key.
use Rattle.std.proofs.Common.{◌≡◌, refl, sym, ap, ◌∙◌, subst, inl, inr, ℕ, ◌+◌, ◌≤◌, true, cond, ◌&&◌, List, [], ◌∷◌, ◌++◌, map, length, filter, Option, Some, None, is_some, arith}
use Rattle.std.proofs.lemmas.List.Sums.{sum_by-cons}
use Rattle.std.specs.Prelude.{sum_by}
use Rattle.std.specs.List.{enumerate_from, AllByRecursion}
use Rattle.calculus.specs.declared.query.RelKey.{RelKey}
use Rattle.calculus.specs.declared.query.Query.{Query}
use Rattle.calculus.specs.Keys.{same_key}
use Rattle.calculus.specs.Lists.{is_any}
use Rattle.calculus.specs.Limits.{greatest_level}
use Rattle.calculus.specs.Sizes.{Measure, Known, plain_measure, query_measure, range_measure, measure_within, measure_of, level_above, level_within, level_of}
use Rattle.calculus.specs.Who.{Who}
use Rattle.calculus.specs.Database.{Db, View, Relation}
use Rattle.calculus.specs.IsDatabase.{IsDatabase, valid_query}
use Rattle.calculus.specs.Stored.{Range, Kept, Viewed, range_at}
use Rattle.calculus.specs.Rights.{Retrieve}
use Rattle.calculus.specs.QueryParts.{vars_of}
use Rattle.calculus.specs.Used.{used_in_query}
use Rattle.calculus_laws.proofs.Enough.{all_there, same_key-exact}
use Rattle.calculus_laws.proofs.Members.{In}
use Rattle.calculus_laws.proofs.SameRows.{all_at}
use Rattle.calculus_laws.proofs.Through.{Said, said_at, level_said, both_said}
use Rattle.calculus_laws.proofs.ViewAnswer.{found}
use Rattle.quel_meaning.specs.FitQueries.{keeps_rows}
use Rattle.view_text.specs.declared.expansion.Expansion.{Expansion}
use Rattle.view_text.specs.Scoped.{is_qual_within, is_scoped}
use Rattle.view_text.specs.Expansions.{ExpansionSource, no_expansion, used_expansion, query_expansions, expansions_vars}
use Rattle.view_text.specs.ExpansionOf.{restriction, view_text, expansion_within, expansion_of, kept_expansion}
use Rattle.tree_laws.proofs.Aggregated.{view_kinds}
use Rattle.tree_laws.proofs.Sound.{viewed}
use Rattle.tree_laws.proofs.Denoted.{restriction_within, expansions_said}
use Rattle.tree_laws.proofs.Within.{all_scoped, rows_expansion_scoped}
use Rattle.tree_laws.proofs.FitExpansions.{IsFitExpansion, restriction_fits, kept_fits}
use Rattle.tree_laws.proofs.FitViews.{rows_fit}

-- ---- levels

pub all_in : (P : RelKey → Type 0) (keys : List RelKey) → AllByRecursion P keys → (key : RelKey) → In key keys → P key
all_in P [] all key h = absurd h
all_in P (k ∷ keys) all key (inl same) = subst P same all.0
all_in P (k ∷ keys) all key (inr h) = all_in P keys all.1 key h

-- what stands in a database has a level
pub has_level : (db : Db) → IsDatabase db → (key : RelKey) → is_some (range_at db key) ≡ true → is_some (level_of db key) ≡ true
unfolding level_of
has_level db d key there = by (range_at db key) refl there
  where
    by : (r : Option Range) → range_at db key ≡ r → is_some r ≡ true → is_some (level_within greatest_level db key) ≡ true
    by None e h = cc h
    by (Some (Kept relation)) e h = ap is_some (said_at level_said greatest_level db key (Some (Kept relation)) e)
    by (Some (Viewed view)) e h =
        let (inside, same) = found (λ v. same_key v.info.key key) db.views view (viewed db key view e) in
        ap (λ k. is_some (level_within greatest_level db k)) (sym (same_key-exact view.info.key key same)) ∙ all_at (λ v. is_some (level_of db v.info.key)) db.views view inside d.views_have_levels

-- ---- texts

no_expansion_scoped : is_scoped no_expansion ≡ true
no_expansion_scoped = refl

-- texts of keys, of which those that have a level fit
module _ (db : Db) (d : IsDatabase db) (who : Who) where
  FitsWhere : RelKey → Option ℕ → (List ℕ → Expansion) → Type 0
  FitsWhere key level expansion = ((attrs : List ℕ) → is_scoped (expansion attrs) ≡ true) × (is_some level ≡ true → (attrs : List ℕ) → IsFitExpansion db key (expansion attrs))

  kept_where : (key : RelKey) (relation : Relation) → range_at db key ≡ Some (Kept relation) → (attrs : List ℕ)
      → IsFitExpansion db key (kept_expansion (restriction db who Retrieve attrs key) key)
  kept_where key relation h attrs = kept_fits db key (restriction db who Retrieve attrs key) (ap keeps_rows h) (restriction_within db who Retrieve attrs key) (restriction_fits db d who Retrieve attrs key)

  pub used_scoped : (g : ExpansionSource) → ((key : RelKey) (attrs : List ℕ) → is_scoped (g key attrs) ≡ true) → (key : RelKey) (attrs : List ℕ) → is_scoped (used_expansion g key attrs) ≡ true
  used_scoped g scoped key [] = refl
  used_scoped g scoped key (a ∷ attrs) = scoped key (a ∷ attrs)

  pub each_scoped : (g : ExpansionSource) → ((key : RelKey) (attrs : List ℕ) → is_scoped (g key attrs) ≡ true) → (q : Query) (k : ℕ) (keys : List RelKey)
      → all_scoped (map (λ p. used_expansion g p.1 (used_in_query p.0 q)) (enumerate_from k keys)) ≡ true
  each_scoped g scoped q k [] = refl
  each_scoped g scoped q k (key ∷ keys) = λ i. used_scoped g scoped key (used_in_query k q) i && each_scoped g scoped q (k + 1) keys i

  view_where : (f : RelKey → Option ℕ) (g : ExpansionSource) → ((key : RelKey) → FitsWhere key (f key) (g key)) → (key : RelKey) (view : View) → range_at db key ≡ Some (Viewed view)
      → FitsWhere key (level_above (map f (vars_of view.query))) (λ attrs. view_text g view)
  unfolding FitsWhere
  view_where f g below key view h =
      let scoped : (key : RelKey) (attrs : List ℕ) → is_scoped (g key attrs) ≡ true = λ key attrs. (below key).0 attrs in
      let is_within : is_scoped (view_text g view) ≡ true = rows_expansion_scoped (query_expansions g view.query) view.query (each_scoped g scoped view.query 0 (vars_of view.query)) in (
        λ attrs. is_within,
        λ level attrs.
            rows_fit db g (used_scoped g scoped) view.query
            (λ other inside attrs. (below other).1 (all_in (λ k. is_some (f k) ≡ true) (vars_of view.query) (all_there f (vars_of view.query) level) other inside) attrs)
            key (view_kinds db d who key view h) (all_at (λ v. valid_query db v.query) db.views view (found (λ v. same_key v.info.key key) db.views view (viewed db key view h)).0 d.view_queries_stand) is_within,
      )

  within_where : (n : ℕ) (key : RelKey) → FitsWhere key (level_within n db key) (expansion_within n db who key)
  unfolding FitsWhere is_qual_within
  within_where n key =
      both_said level_said (expansions_said db who) db (λ n key level expansion. FitsWhere key level expansion)
      (record {
        nothing = λ n f g key h. (λ attrs. restriction_within db who Retrieve attrs key, λ level attrs. cc level);
        kept = λ n f g key relation h. (λ attrs. restriction_within db who Retrieve attrs key, λ level attrs. kept_where key relation h attrs);
        view_past = λ key view h. (λ attrs. refl, λ level attrs. cc level);
        view_above = λ n f g below key view h. view_where f g below key view h;
      })
      n key

  pub fits_within : (n : ℕ) (key : RelKey) → is_some (level_within n db key) ≡ true → (attrs : List ℕ) → IsFitExpansion db key (expansion_within n db who key attrs)
  unfolding FitsWhere
  fits_within n key level attrs = (within_where n key).1 level attrs

  pub fits_of : (key : RelKey) → is_some (range_at db key) ≡ true → (attrs : List ℕ) → IsFitExpansion db key (expansion_of db who key attrs)
  unfolding expansion_of level_of
  fits_of key there attrs = fits_within greatest_level key (has_level db d key there) attrs

-- ---- how many variables there are

abbrev pub measure_said : Said Measure
measure_said = record { of_range = λ of_view key range. range_measure of_view range; of_view = λ below view. query_measure below view.query; past = plain_measure }

-- no more variables than are counted
abbrev pub Counts : (RelKey → Measure) → ExpansionSource → Type 0
Counts known expansions = (key : RelKey) (attrs : List ℕ) → length (expansions key attrs).vars ≤ (known key).variables

length_behind : {X : Type 0} (xs ys : List X) → length (xs ++ ys) ≡ length xs + length ys
length_behind [] ys = omega arith
length_behind (x ∷ xs) ys = let more = length_behind xs ys in omega (arith, more)

pub query_counts : (known : Known) (expansions : ExpansionSource) → Counts known expansions → (q : Query) (k : ℕ) (keys : List RelKey)
    → length (expansions_vars (map (λ p. used_expansion expansions p.1 (used_in_query p.0 q)) (enumerate_from k keys)))
    ≤ sum_by (λ p. (known p.1).variables) (filter (λ p. is_any (used_in_query p.0 q)) (enumerate_from k keys))
query_counts known expansions counts q k [] = omega arith
query_counts known expansions counts q k (key ∷ keys) = by (used_in_query k q) (counts key) (query_counts known expansions counts q (k + 1) keys)
  where
    rest : List Expansion
    rest = map (λ p. used_expansion expansions p.1 (used_in_query p.0 q)) (enumerate_from (k + 1) keys)

    more : List (ℕ × RelKey)
    more = filter (λ p. is_any (used_in_query p.0 q)) (enumerate_from (k + 1) keys)

    by : (attrs : List ℕ) → ((attrs : List ℕ) → length (expansions key attrs).vars ≤ (known key).variables) → length (expansions_vars rest) ≤ sum_by (λ p. (known p.1).variables) more
        → length (expansions_vars (used_expansion expansions key attrs ∷ rest)) ≤ sum_by (λ p. (known p.1).variables) (cond (is_any attrs) ((k, key) ∷ more) more)
    by [] one h = h
    by (a ∷ attrs) one h =
        let own = one (a ∷ attrs) in
        let long = length_behind (expansions key (a ∷ attrs)).vars (expansions_vars rest) in
        let sum : sum_by (λ p. (known p.1).variables) ((k, key) ∷ more) ≡ (known key).variables + sum_by (λ p. (known p.1).variables) more = sum_by-cons (λ p. (known p.1).variables) (k, key) more in
        let fits : length (expansions key (a ∷ attrs)).vars + length (expansions_vars rest) ≤ (known key).variables + sum_by (λ p. (known p.1).variables) more = omega (arith, own, h) in
        subst (λ n. n ≤ sum_by (λ p. (known p.1).variables) ((k, key) ∷ more)) (sym long) (subst (λ m. length (expansions key (a ∷ attrs)).vars + length (expansions_vars rest) ≤ m) (sym sum) fits)

one_is : 1 ≤ 1
one_is = omega arith

none_is : 0 ≤ 1
none_is = omega arith

pub within_counts : (n : ℕ) (db : Db) (who : Who) → Counts (measure_within n db) (expansion_within n db who)
within_counts n db who key attrs =
    both_said measure_said (expansions_said db who) db (λ n key m expansion. (attrs : List ℕ) → length (expansion attrs).vars ≤ m.variables)
    (record {
      nothing = λ n f g key h attrs. one_is;
      kept = λ n f g key relation h attrs. one_is;
      view_past = λ key view h attrs. none_is;
      view_above = λ n f g below key view h attrs. query_counts f g below view.query 0 (vars_of view.query);
    })
    n key attrs

pub all_count : (db : Db) (who : Who) → Counts (measure_of db) (expansion_of db who)
unfolding measure_of expansion_of
all_count db who = within_counts greatest_level db who
