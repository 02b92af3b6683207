-- In a database the terms and the conditions of what stands under a key have few levels, and the conditions are not too many.
use Rattle.std.proofs.Common.{◌≡◌, refl, sym, ap, subst, ℕ, zero, suc, ◌+◌, ◌≤◌, List, [], ◌∷◌, ◌++◌, map, length, Option, Some, None, arith}
use Rattle.std.proofs.lemmas.List.Sums.{sum_by-cons}
use Rattle.std.specs.Prelude.{slice_get, unwrap_or, sum, nat_le}
use Rattle.std.specs.List.{AllByRecursion, enumerate_from}
use Rattle.calculus.specs.declared.query.RelKey.{RelKey}
use Rattle.calculus.specs.declared.query.QTerm.{QTerm}
use Rattle.calculus.specs.declared.query.QQual.{QQual}
use Rattle.calculus.specs.declared.query.Target.{Target}
use Rattle.calculus.specs.declared.query.Query.{Query}
use Rattle.calculus.specs.Keys.{same_key}
use Rattle.calculus.specs.Limits.{most_variables, greatest_size}
use Rattle.calculus.specs.Who.{Who}
use Rattle.calculus.specs.Database.{Db, View}
use Rattle.calculus.specs.IsDatabase.{IsDatabase}
use Rattle.calculus.specs.Stored.{Range, Kept, Viewed, range_at}
use Rattle.calculus.specs.Rights.{Retrieve}
use Rattle.calculus.specs.QueryParts.{vars_of, targets_of, qual_of}
use Rattle.calculus.specs.Used.{used_in_query, used_vars}
use Rattle.calculus.specs.Sizes.{Measure, Known, attr_size, term_size, qual_size, measures, plain_measure, query_measure, measure_within, measure_of, query_size, variables}
use Rattle.calculus.specs.TreeLevels.{term_levels, qual_levels}
use Rattle.calculus_laws.proofs.Members.{In}
use Rattle.calculus_laws.proofs.SameRows.{all_at}
use Rattle.calculus_laws.proofs.Through.{said_at, each_said}
use Rattle.calculus_laws.proofs.ViewAnswer.{found}
use Rattle.view_text.specs.declared.expansion.Expansion.{Expansion}
use Rattle.view_text.specs.Replaced.{replaced, replaced_in_qual, no_aggregate}
use Rattle.view_text.specs.Expansions.{ExpansionSource, term_at, attr_term, used_expansion, query_expansions, expansions_vars, substituted_from, conditions_from}
use Rattle.view_text.specs.ExpansionOf.{restriction, kept_expansion, past_expansion, has_value, substituted_terms, rows_conditions, view_text, expansion_within, expansion_of}
use Rattle.tree_laws.proofs.Sound.{viewed}
use Rattle.tree_laws.proofs.Denoted.{expansions_said}
use Rattle.tree_laws.proofs.FitWithin.{measure_said}
use Rattle.tree_laws.proofs.Joined.{Low, low_append}
use Rattle.tree_laws.proofs.Replaced.{none_sized, some_size, shifted_low, term_sized, qual_sized}
use Rattle.tree_laws.proofs.Permits.{le_is, restriction_low}
use Rattle.tree_laws.proofs.Counted.{times, times_more, room, room_some, room_more, conditions_low, used_few, all_expansions, settled_low, settled_few}

-- the size of an attribute of what is so measured
abbrev pub own_size : Measure → ℕ → ℕ
own_size m a = unwrap_or (slice_get m.attrs a) 1

none_own : (a : ℕ) → unwrap_or (slice_get {X = ℕ} [] a) 1 ≡ 1
none_own zero = refl
none_own (suc a) = refl

-- ---- sizes

sizes_some : (g : Target → ℕ) → ((t : Target) → 1 ≤ g t) → (ts : List Target) (a : ℕ) → 1 ≤ unwrap_or (slice_get (map g ts) a) 1
sizes_some g some [] a = let own = none_own a in omega (arith, own)
sizes_some g some (t ∷ ts) zero = some t
sizes_some g some (t ∷ ts) (suc a) = sizes_some g some ts a

sizes_few : (g : Target → ℕ) (m : ℕ) → 1 ≤ m → (ts : List Target) → AllByRecursion (λ t. g t ≤ m) ts → (a : ℕ) → unwrap_or (slice_get (map g ts) a) 1 ≤ m
sizes_few g m one [] few a = let own = none_own a in omega (arith, own, one)
sizes_few g m one (t ∷ ts) few zero = few.0
sizes_few g m one (t ∷ ts) few (suc a) = sizes_few g m one ts few.1 a

-- an attribute of a variable has the size that it has in what the variable ranges over
known_some : (known : Known) → ((key : RelKey) (a : ℕ) → 1 ≤ own_size (known key) a) → (keys : List RelKey) (v a : ℕ) → 1 ≤ attr_size (map known keys) v a
known_some known some [] v a = let own = none_sized v a in omega (arith, own)
known_some known some (key ∷ keys) zero a = some key a
known_some known some (key ∷ keys) (suc v) a = known_some known some keys v a

pub some_own : (n : ℕ) (db : Db) (key : RelKey) (a : ℕ) → 1 ≤ own_size (measure_within n db key) a
some_own n db key =
    each_said measure_said db (λ n key m. (a : ℕ) → 1 ≤ own_size m a)
    (record {
      nothing = λ n f key e a. plain_some a;
      kept = λ n f key relation e a. plain_some a;
      view_past = λ key view e a. plain_some a;
      view_above = λ n f below key view e a. sizes_some (λ t. term_size (measures f view.query) t.term)
          (λ t. some_size (measures f view.query) (known_some f below (vars_of view.query)) t.term) (targets_of view.query) a;
    })
    n key
  where
    plain_some : (a : ℕ) → 1 ≤ own_size plain_measure a
    plain_some a = let own = none_own a in omega (arith, own)

-- each of these is at most their sum, and so is their number where none is 0
within_sum : (g : Target → ℕ) (m : ℕ) (ts : List Target) → sum (map g ts) ≤ m → AllByRecursion (λ t. g t ≤ m) ts
within_sum g m [] h = tt
within_sum g m (t ∷ ts) h =
    let sums = sum_by-cons (λ (x : ℕ). x) (g t) (map g ts) in
    let less : sum (map g ts) ≤ m = omega (arith, sums, h) in
    (omega (arith, sums, h), within_sum g m ts less)

long_sum : (g : Target → ℕ) → ((t : Target) → 1 ≤ g t) → (ts : List Target) → length ts ≤ sum (map g ts)
long_sum g some [] = omega arith
long_sum g some (t ∷ ts) =
    let sums = sum_by-cons (λ (x : ℕ). x) (g t) (map g ts) in
    let one = some t in let more = long_sum g some ts in omega (arith, sums, one, more)

-- ---- what is put in of expansions whose terms are sized

module _ (known : Known) (expansions : ExpansionSource) (sized : (key : RelKey) (attrs : List ℕ) (a : ℕ) → term_levels (attr_term (expansions key attrs) a) ≤ suc (own_size (known key) a))
    (some : (key : RelKey) (a : ℕ) → 1 ≤ own_size (known key) a) (q : Query) where
  used_sized : (key : RelKey) (attrs : List ℕ) (a : ℕ) → term_levels (attr_term (used_expansion expansions key attrs) a) ≤ suc (own_size (known key) a)
  used_sized key [] a = let one = some key a in omega (arith, one)
  used_sized key (b ∷ attrs) a = sized key (b ∷ attrs) a

  put_sized : (k n : ℕ) (keys : List RelKey) (v a : ℕ) → term_levels (substituted_from n (map (λ p. used_expansion expansions p.1 (used_in_query p.0 q)) (enumerate_from k keys)) v a) ≤ suc (attr_size (map known keys) v a)
  put_sized k n [] v a = let size = none_sized v a in omega (arith, size)
  put_sized k n (key ∷ keys) zero a =
      let own = used_sized key (used_in_query k q) a in
      let less = shifted_low n (attr_term (used_expansion expansions key (used_in_query k q)) a) in
      omega (arith, own, less)
  put_sized k n (key ∷ keys) (suc v) a = put_sized (k + 1) (n + length (used_expansion expansions key (used_in_query k q)).vars) keys v a

  puts : (v a : ℕ) → term_levels (substituted_from 0 (query_expansions expansions q) v a) ≤ suc (attr_size (measures known q) v a)
  puts v a = put_sized 0 0 (vars_of q) v a

  pub targets_sized : (t : Target) → term_levels (replaced no_aggregate (substituted_from 0 (query_expansions expansions q)) t.term) ≤ suc (term_size (measures known q) t.term)
  targets_sized t = term_sized (substituted_from 0 (query_expansions expansions q)) (measures known q) puts t.term

  pub qualification_sized : qual_levels (replaced_in_qual no_aggregate (substituted_from 0 (query_expansions expansions q)) (qual_of q)) ≤ suc (qual_size (measures known q) (qual_of q))
  qualification_sized = qual_sized (substituted_from 0 (query_expansions expansions q)) (measures known q) puts (qual_of q)

  pub terms_sized : (ts : List Target) (a : ℕ)
      → term_levels (term_at (map (λ t. replaced no_aggregate (substituted_from 0 (query_expansions expansions q)) t.term) ts) a) ≤ suc (unwrap_or (slice_get (map (λ t. term_size (measures known q) t.term) ts) a) 1)
  terms_sized [] a = let own = none_own a in omega (arith, own)
  terms_sized (t ∷ ts) zero = targets_sized t
  terms_sized (t ∷ ts) (suc a) = terms_sized ts a

-- ---- views in a database

module _ (db : Db) (d : IsDatabase db) where
  pub view_in : (key : RelKey) (view : View) → range_at db key ≡ Some (Viewed view) → In view db.views
  view_in key view e = (found (λ v. same_key v.info.key key) db.views view (viewed db key view e)).0

  view_small : (view : View) → In view db.views → sum (map (λ t. term_size (measures (measure_within 16 db) view.query) t.term) (targets_of view.query)) + (query_measure (measure_within 16 db) view.query).qual ≤ 1000
  unfolding query_size measure_of
  view_small view inside = le_is (query_size db view.query) greatest_size (all_at (λ v. nat_le (query_size db v.query) greatest_size) db.views view inside d.small_views)

  pub view_targets : (view : View) → In view db.views → AllByRecursion (λ t. term_size (measures (measure_within 16 db) view.query) t.term ≤ 1000) (targets_of view.query)
  view_targets view inside =
      let small = view_small view inside in
      within_sum (λ t. term_size (measures (measure_within 16 db) view.query) t.term) 1000 (targets_of view.query) (omega (arith, small))

  pub view_qual : (view : View) → In view db.views → qual_size (measures (measure_within 16 db) view.query) (qual_of view.query) ≤ 1000
  view_qual view inside = let small = view_small view inside in omega (arith, small)

  view_long : (view : View) → In view db.views → length (targets_of view.query) ≤ 1000
  view_long view inside =
      let small = view_small view inside in
      let long = long_sum (λ t. term_size (measures (measure_within 16 db) view.query) t.term)
      (λ t. some_size (measures (measure_within 16 db) view.query) (known_some (measure_within 16 db) (some_own 16 db) (vars_of view.query)) t.term) (targets_of view.query) in
      omega (arith, small, long)

  view_uses : (view : View) → In view db.views → length (used_vars view.query) ≤ 10
  unfolding variables
  view_uses view inside =
      let few = le_is (variables view.query) most_variables (all_at (λ v. nat_le (variables v.query) most_variables) db.views view inside d.few_variables) in
      omega (arith, few)

  pub greatest_own : (key : RelKey) (a : ℕ) → own_size (measure_within 17 db key) a ≤ 1000
  greatest_own key a = by (range_at db key) refl
    where
      by : (r : Option Range) → range_at db key ≡ r → own_size (measure_within 17 db key) a ≤ 1000
      by None e =
          let own = none_own a in let same = ap (λ m. own_size m a) (said_at measure_said 17 db key None e) in omega (arith, own, same)
      by (Some (Kept relation)) e =
          let own = none_own a in let same = ap (λ m. own_size m a) (said_at measure_said 17 db key (Some (Kept relation)) e) in omega (arith, own, same)
      by (Some (Viewed view)) e =
          let same = ap (λ m. own_size m a) (said_at measure_said 17 db key (Some (Viewed view)) e) in
          let one : 1 ≤ 1000 = omega arith in
          let few = sizes_few (λ t. term_size (measures (measure_within 16 db) view.query) t.term) 1000 one (targets_of view.query) (view_targets view (view_in key view e)) a in
          subst (λ n. n ≤ 1000) (sym same) few

  -- ---- texts

  module _ (who : Who) where
    -- the terms are as deep as they are large, through these levels or more; the conditions are no deeper than a size is great, and not too many
    pub record IsLow (n : ℕ) (key : RelKey) (expansion : Expansion) : Type 0 where
      pub terms : (m : ℕ) → n ≤ m → (a : ℕ) → term_levels (attr_term expansion a) ≤ suc (own_size (measure_within m db key) a)
      pub conditions : n ≤ 17 → Low 1008 expansion.conditions
      pub few : length expansion.conditions ≤ room n

    kept_low : (n : ℕ) (key : RelKey) (attrs : List ℕ) → IsLow n key (kept_expansion (restriction db who Retrieve attrs key) key)
    kept_low n key attrs =
        let low = restriction_low db d who Retrieve attrs key in
        let some = room_some n in let short = low.1 in
        record { terms = λ m h a. omega arith; conditions = λ h. low.0; few = omega (arith, some, short) }

    past_low : (key : RelKey) → IsLow 0 key past_expansion
    past_low key = record {
      terms = λ m h a. let one = some_own m db key a in omega (arith, one);
      conditions = λ h. (omega arith, tt);
      few = let some = room_some 0 in omega (arith, some);
    }

    values_low : (g : QTerm → QTerm) (ts : List Target) → AllByRecursion (λ t. term_levels (g t.term) ≤ 1001) ts → Low 1008 (map has_value (map (λ t. g t.term) ts))
    values_low g [] low = tt
    values_low g (t ∷ ts) low = let own = low.0 in (omega (arith, own), values_low g ts low.1)

    values_long : (g : QTerm → QTerm) (ts : List Target) (more : List QQual) → length (map has_value (map (λ t. g t.term) ts) ++ more) ≡ length ts + length more
    values_long g [] more = omega arith
    values_long g (t ∷ ts) more = let long = values_long g ts more in omega (arith, long)

    module _ (n : ℕ) (expansions : ExpansionSource) (below : (key : RelKey) (attrs : List ℕ) → IsLow n key (expansions key attrs)) (view : View) (inside : In view db.views) where
      sized_at : (m : ℕ) → n ≤ m → (key : RelKey) (attrs : List ℕ) (a : ℕ) → term_levels (attr_term (expansions key attrs) a) ≤ suc (own_size (measure_within m db key) a)
      sized_at m h key attrs a = (below key attrs).terms m h a

      each_term : (ts : List Target) → n ≤ 16 → AllByRecursion (λ t. term_size (measures (measure_within 16 db) view.query) t.term ≤ 1000) ts
          → AllByRecursion (λ t. term_levels (replaced no_aggregate (substituted_from 0 (query_expansions expansions view.query)) t.term) ≤ 1001) ts
      each_term [] h few = tt
      each_term (t ∷ ts) h few =
          let own = few.0 in
          let low = targets_sized (measure_within 16 db) expansions (sized_at 16 h) (some_own 16 db) view.query t in
          (omega (arith, own, low), each_term ts h few.1)

      -- the terms of the view's targets, once texts are put in
      pub view_terms_low : n ≤ 16 → AllByRecursion (λ t. term_levels (replaced no_aggregate (substituted_from 0 (query_expansions expansions view.query)) t.term) ≤ 1001) (targets_of view.query)
      view_terms_low h = each_term (targets_of view.query) h (view_targets view inside)

      pub view_qual_low : n ≤ 16 → qual_levels (replaced_in_qual no_aggregate (substituted_from 0 (query_expansions expansions view.query)) (qual_of view.query)) ≤ 1001
      view_qual_low h =
          let size = view_qual view inside in
          let low = qualification_sized (measure_within 16 db) expansions (sized_at 16 h) (some_own 16 db) view.query in
          omega (arith, size, low)

      used_low : n ≤ 17 → (key : RelKey) (attrs : List ℕ) → Low 1008 (used_expansion expansions key attrs).conditions
      used_low h key [] = tt
      used_low h key (a ∷ attrs) = (below key (a ∷ attrs)).conditions h

      pub view_conditions_low : n ≤ 17 → Low 1008 (conditions_from 0 (query_expansions expansions view.query))
      view_conditions_low h =
          conditions_low 1008 (query_expansions expansions view.query) (all_expansions (λ t. Low 1008 t.conditions) expansions (used_low h) view.query 0 (vars_of view.query)) 0

      pub view_conditions_few : length (conditions_from 0 (query_expansions expansions view.query)) ≤ times 10 (room n)
      view_conditions_few =
          let used = used_few (room n) expansions (λ key attrs. (below key attrs).few) view.query 0 0 (vars_of view.query) in
          let ten = times_more (length (used_vars view.query)) 10 (room n) (view_uses view inside) in
          omega (arith, used, ten)

      rows_low : suc n ≤ 17 → Low 1008 (rows_conditions (query_expansions expansions view.query) view.query)
      rows_low h =
          let less : n ≤ 16 = omega (arith, h) in
          let more : n ≤ 17 = omega (arith, h) in
          let own = view_qual_low less in (
            omega (arith, own),
            low_append 1008 (map has_value (substituted_terms (query_expansions expansions view.query) view.query)) (conditions_from 0 (query_expansions expansions view.query))
                (values_low (replaced no_aggregate (substituted_from 0 (query_expansions expansions view.query))) (targets_of view.query) (view_terms_low less))
                (view_conditions_low more),
          )

      rows_few : length (rows_conditions (query_expansions expansions view.query) view.query) ≤ room (suc n)
      rows_few =
          let long = values_long (replaced no_aggregate (substituted_from 0 (query_expansions expansions view.query))) (targets_of view.query) (conditions_from 0 (query_expansions expansions view.query)) in
          let targets = view_long view inside in
          let below = view_conditions_few in
          let more = room_more n in
          omega (arith, long, targets, below, more)

      pub view_is_low : (key : RelKey) → range_at db key ≡ Some (Viewed view) → IsLow (suc n) key (view_text expansions view)
      view_is_low key e = record {
        terms = λ m h a. terms_at m h a;
        conditions = λ h. let two : 2 ≤ 1008 = omega arith in settled_low 1008 (expansions_vars (query_expansions expansions view.query)) (rows_conditions (query_expansions expansions view.query) view.query) two (rows_low h);
        few =
            let some = room_some (suc n) in
            let one : 1 ≤ room (suc n) = omega (arith, some) in
            settled_few (room (suc n)) (expansions_vars (query_expansions expansions view.query)) (rows_conditions (query_expansions expansions view.query) view.query) one rows_few;
      }
        where
          terms_at : (m : ℕ) → suc n ≤ m → (a : ℕ) → term_levels (attr_term (view_text expansions view) a) ≤ suc (own_size (measure_within m db key) a)
          terms_at zero h a = absurd (omega (arith, h))
          terms_at (suc m) h a =
              let less : n ≤ m = omega (arith, h) in
              subst (λ s. term_levels (attr_term (view_text expansions view) a) ≤ suc (own_size s a)) (sym (said_at measure_said (suc m) db key (Some (Viewed view)) e))
              (terms_sized (measure_within m db) expansions (sized_at m less) (some_own m db) view.query (targets_of view.query) a)

    pub all_low : (n : ℕ) (key : RelKey) (attrs : List ℕ) → IsLow n key (expansion_within n db who key attrs)
    all_low n key =
        each_said (expansions_said db who) db (λ n key expansion. (attrs : List ℕ) → IsLow n key (expansion attrs))
        (record {
          nothing = λ n f key e attrs. kept_low n key attrs;
          kept = λ n f key relation e attrs. kept_low n key attrs;
          view_past = λ key view e attrs. past_low key;
          view_above = λ n f below key view e attrs. view_is_low n f below view (view_in key view e) key e;
        })
        n key

    -- ---- what stands under a key

    pub term_low : (key : RelKey) (attrs : List ℕ) (a : ℕ) → term_levels (attr_term (expansion_of db who key attrs) a) ≤ 1001
    unfolding expansion_of
    term_low key attrs a =
        let more : 16 ≤ 17 = omega arith in
        let deep = (all_low 16 key attrs).terms 17 more a in let size = greatest_own key a in omega (arith, deep, size)

    pub expansion_low : (key : RelKey) (attrs : List ℕ) → Low 1008 (expansion_of db who key attrs).conditions
    unfolding expansion_of
    expansion_low key attrs = let more : 16 ≤ 17 = omega arith in (all_low 16 key attrs).conditions more

    pub expansion_few : (key : RelKey) (attrs : List ℕ) → length (expansion_of db who key attrs).conditions ≤ room 16
    unfolding expansion_of
    expansion_few key attrs = (all_low 16 key attrs).few
