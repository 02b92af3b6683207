-- Short terms, qualifications, aggregates and queries whose constants are ones have spellings, with as many levels as they have.
use Rattle.std.proofs.Common.{◌≡◌, ℕ, zero, suc, ◌+◌, ◌≤◌, max, IsTrue, Bool, true, ◌&&◌, length, arith}
use Rattle.std.specs.Prelude.{nat_lt}
use Rattle.std.specs.List.{list_all}
use Rattle.std.proofs.lemmas.Bool.{and_parts, lt-ltb}
use Rattle.calculus.specs.declared.operator.AggOp.{AggOp}
use Rattle.calculus.specs.declared.query.AggSource.{AggSource, Named}
use Rattle.calculus.specs.declared.query.QAgg.{QAgg}
use Rattle.calculus.specs.declared.query.QQual.{QQual}
use Rattle.calculus.specs.declared.query.QQual.TheVariants as quals
use Rattle.calculus.specs.declared.query.QTerm.{QTerm, Agg', Row_of-QTerm, end_of-QTerm, more_of-QTerm, items-the_row-QTerm, end_of-QAgg, more_of-QAgg}
use Rattle.calculus.specs.declared.query.QTerm.TheVariants as terms
use Rattle.calculus.specs.declared.query.Query.{Query, Query', Row_of-Target, end_of-Target, more_of-Target, items-the_row-Target}
use Rattle.calculus.specs.Chars.{is_chars}
use Rattle.calculus.specs.IsDatabase.{is_kind}
use Rattle.calculus.specs.Name.{is_name}
use Rattle.calculus.specs.Spelled.{term_is_spelled, source_is_spelled, terms_are_spelled, qual_is_spelled, targets_are_spelled, query_is_spelled}
use Rattle.calculus.specs.Tree as tree
use Rattle.calculus.specs.TreeLevels.{term_levels, source_levels, greatest_term_levels, qual_levels, greatest_target_levels, query_levels}
use Rattle.quel_meaning.specs.SpelledTree.{key_is_spelled}
use Rattle.quel_meaning.proofs.Each.{Each, each_to, each_passes}
use Rattle.quel_tree.specs.Names.{chars}
use Rattle.quel_tree.specs.Queries.{trees, term, qual, agg, query, source, target}
use Rattle.quel_tree.specs.Relations.{rel_key}
use Rattle.tree_words.specs.Words.{number64}
use Rattle.spelling_laws.specs.Short.{is_place, is_count, term_is_short, source_is_short, terms_are_short, qual_is_short, targets_are_short, query_is_short}
use Rattle.spelling_laws.proofs.Fields.{place_fits, count_fits, bits_fit, list_fits, name_fits, key_fits, kind_fits, ariths_fit, cmps_fit, aggs_fit, flags_fit}

-- ---- how many levels there are at least

some_term : (t : QTerm) → 1 ≤ term_levels t
some_term (terms.Int k) = omega arith
some_term (terms.Chars bs) = omega arith
some_term (terms.Attr var attr) = omega arith
some_term (tree.neg t) = omega arith
some_term (tree.abs t) = omega arith
some_term (tree.operation op t u) = omega arith
some_term (tree.concat t u) = omega arith
some_term (Agg' mark row) = omega arith

some_qual : (q : QQual) → 1 ≤ qual_levels q
some_qual quals.True = omega arith
some_qual (quals.Cmp op t u) = omega arith
some_qual (quals.Like t pattern same) = omega arith
some_qual (tree.both p q) = omega arith
some_qual (tree.either p q) = omega arith
some_qual (tree.negated q) = omega arith

two_of_query : (q : Query) → 2 ≤ query_levels q
two_of_query (Query' vars marks targets q) = let one = some_qual q in omega (arith, one)

-- the aggregate that is made of these, the terms as a tree holds them
abbrev agg_with : {j k : _} → ℕ → AggOp → AggSource → QTerm → Row_of-QTerm j → Row_of-QTerm k → QQual → QAgg
agg_with slot op from arg by link q = record { slot = slot; op = op; source = from; arg = arg; by = items-the_row-QTerm _ by; link = items-the_row-QTerm _ link; qual = q }

-- its levels
abbrev agg_levels : {j k : _} → AggSource → QTerm → Row_of-QTerm j → Row_of-QTerm k → QQual → ℕ
agg_levels from arg by link q = 1 + max (source_levels from) (max (term_levels arg) (max (greatest_term_levels by) (max (greatest_term_levels link) (qual_levels q))))

-- its constants are ones
abbrev agg_spelled : {j k : _} → AggSource → QTerm → Row_of-QTerm j → Row_of-QTerm k → QQual → Bool
agg_spelled from arg by link q = source_is_spelled from && (term_is_spelled arg && (terms_are_spelled by && (terms_are_spelled link && qual_is_spelled q)))

-- it is short
abbrev agg_short : {j k : _} → ℕ → AggSource → QTerm → Row_of-QTerm j → Row_of-QTerm k → QQual → Bool
agg_short slot from arg by link q =
    is_count slot
    && (source_is_short from
    && (term_is_short arg && (is_count (length (items-the_row-QTerm _ by)) && (terms_are_short by && (is_count (length (items-the_row-QTerm _ link)) && (terms_are_short link && qual_is_short q))))))

two_of_agg : {j k : _} (from : AggSource) (arg : QTerm) (by : Row_of-QTerm j) (link : Row_of-QTerm k) (q : QQual) → 2 ≤ agg_levels from arg by link q
two_of_agg from arg by link q = let one = some_term arg in omega (arith, one)

-- a way is open where something fits behind it
is_open : (k least n : ℕ) → suc k ≤ least → least ≤ n → IsTrue (nat_lt k n)
is_open k least n some most = lt-ltb k n (omega (arith, some, most))

left_of : (m k n : ℕ) → 1 + max m k ≤ suc n → m ≤ n
left_of m k n h = omega (arith, h)

right_of : (m k n : ℕ) → 1 + max m k ≤ suc n → k ≤ n
right_of m k n h = omega (arith, h)

below : (m n : ℕ) → 1 + m ≤ suc n → m ≤ n
below m n h = omega (arith, h)

-- ---- with n levels

record FitsAt (n : ℕ) : Type 0 where
  of_term : (t : QTerm) → term_levels t ≤ n → term_is_spelled t ≡ true → term_is_short t ≡ true → (term n).Fits t
  of_qual : (q : QQual) → qual_levels q ≤ n → qual_is_spelled q ≡ true → qual_is_short q ≡ true → (qual n).Fits q
  of_agg : {j k : _} (slot : ℕ) (op : AggOp) (from : AggSource) (arg : QTerm) (by : Row_of-QTerm j) (link : Row_of-QTerm k) (q : QQual)
      → agg_levels from arg by link q ≤ n → agg_spelled from arg by link q ≡ true → agg_short slot from arg by link q ≡ true → (agg n).Fits (agg_with slot op from arg by link q)
  of_query : (q : Query) → query_levels q ≤ n → query_is_spelled q ≡ true → query_is_short q ≡ true → (query n).Fits q

module _ (n : ℕ) (at : FitsAt n) where
  -- ---- what is made of them without a level more

  of_source : (s : AggSource) → source_levels s ≤ n → source_is_spelled s ≡ true → source_is_short s ≡ true → (source n).Fits s
  of_source (Named key) h spelled short = key_fits key short
  of_source (tree.rows_of_query q) h spelled short = (is_open 1 (query_levels q) n (two_of_query q) h, at.of_query q h spelled short)

  each_term : {k : _} (row : Row_of-QTerm k) → greatest_term_levels row ≤ n → terms_are_spelled row ≡ true → terms_are_short row ≡ true → Each (term n).Fits (items-the_row-QTerm _ row)
  each_term end_of-QTerm h spelled short = tt
  each_term (more_of-QTerm t rest) h spelled short =
      let one = and_parts (term_is_spelled t) (terms_are_spelled rest) spelled in
      let two = and_parts (term_is_short t) (terms_are_short rest) short in
      (at.of_term t (omega (arith, h)) one.0 two.0, each_term rest (omega (arith, h)) one.1 two.1)

  each_target : {k : _} (row : Row_of-Target k) → greatest_target_levels row ≤ n → targets_are_spelled row ≡ true → targets_are_short row ≡ true → Each (target n).Fits (items-the_row-Target _ row)
  each_target end_of-Target h spelled short = tt
  each_target (more_of-Target called of t rest) h spelled short =
      let one = and_parts (is_name called) (term_is_spelled t && targets_are_spelled rest) spelled in
      let two = and_parts (term_is_spelled t) (targets_are_spelled rest) one.1 in
      let three = and_parts (is_kind of) (term_is_short t && targets_are_short rest) short in
      let four = and_parts (term_is_short t) (targets_are_short rest) three.1 in
      ((name_fits called one.0, (kind_fits of three.0, at.of_term t (omega (arith, h)) two.0 four.0)), each_target rest (omega (arith, h)) two.1 four.1)

  -- ---- with one level more

  around_term : (t : QTerm) → term_levels t ≤ suc n → term_is_spelled t ≡ true → term_is_short t ≡ true → (term (suc n)).Fits t
  unfolding trees number64 chars
  around_term (terms.Int k) h spelled short = bits_fit k spelled
  around_term (terms.Chars bs) h spelled short = spelled
  around_term (terms.Attr var attr) h spelled short = let two = and_parts (is_place var) (is_place attr) short in (place_fits var two.0, place_fits attr two.1)
  around_term (tree.neg t) h spelled short = let most = below (term_levels t) n h in (is_open 0 (term_levels t) n (some_term t) most, at.of_term t most spelled short)
  around_term (tree.abs t) h spelled short = let most = below (term_levels t) n h in (is_open 0 (term_levels t) n (some_term t) most, at.of_term t most spelled short)
  around_term (tree.operation op t u) h spelled short =
      let most = left_of (term_levels t) (term_levels u) n h in
      let one = and_parts (term_is_spelled t) (term_is_spelled u) spelled in let two = and_parts (term_is_short t) (term_is_short u) short in
      (is_open 0 (term_levels t) n (some_term t) most, (ariths_fit op, (at.of_term t most one.0 two.0, at.of_term u (right_of (term_levels t) (term_levels u) n h) one.1 two.1)))
  around_term (tree.concat t u) h spelled short =
      let most = left_of (term_levels t) (term_levels u) n h in
      let one = and_parts (term_is_spelled t) (term_is_spelled u) spelled in let two = and_parts (term_is_short t) (term_is_short u) short in
      (is_open 0 (term_levels t) n (some_term t) most, (at.of_term t most one.0 two.0, at.of_term u (right_of (term_levels t) (term_levels u) n h) one.1 two.1))
  around_term (Agg' tt (more_of-QAgg slot op from arg bys by links link q end_of-QAgg)) h spelled short =
      let most = below (agg_levels from arg by link q) n h in
      (is_open 1 (agg_levels from arg by link q) n (two_of_agg from arg by link q) most, at.of_agg slot op from arg by link q most spelled short)

  around_qual : (q : QQual) → qual_levels q ≤ suc n → qual_is_spelled q ≡ true → qual_is_short q ≡ true → (qual (suc n)).Fits q
  unfolding trees chars
  around_qual quals.True h spelled short = tt
  around_qual (quals.Cmp op t u) h spelled short =
      let most = left_of (term_levels t) (term_levels u) n h in
      let one = and_parts (term_is_spelled t) (term_is_spelled u) spelled in let two = and_parts (term_is_short t) (term_is_short u) short in
      (is_open 0 (term_levels t) n (some_term t) most, (cmps_fit op, (at.of_term t most one.0 two.0, at.of_term u (right_of (term_levels t) (term_levels u) n h) one.1 two.1)))
  around_qual (quals.Like t pattern same) h spelled short =
      let most = below (term_levels t) n h in
      let one = and_parts (term_is_spelled t) (is_chars pattern) spelled in
      (is_open 0 (term_levels t) n (some_term t) most, (at.of_term t most one.0 short, (one.1, flags_fit same)))
  around_qual (tree.both p q) h spelled short =
      let most = left_of (qual_levels p) (qual_levels q) n h in
      let one = and_parts (qual_is_spelled p) (qual_is_spelled q) spelled in let two = and_parts (qual_is_short p) (qual_is_short q) short in
      (is_open 0 (qual_levels p) n (some_qual p) most, (at.of_qual p most one.0 two.0, at.of_qual q (right_of (qual_levels p) (qual_levels q) n h) one.1 two.1))
  around_qual (tree.either p q) h spelled short =
      let most = left_of (qual_levels p) (qual_levels q) n h in
      let one = and_parts (qual_is_spelled p) (qual_is_spelled q) spelled in let two = and_parts (qual_is_short p) (qual_is_short q) short in
      (is_open 0 (qual_levels p) n (some_qual p) most, (at.of_qual p most one.0 two.0, at.of_qual q (right_of (qual_levels p) (qual_levels q) n h) one.1 two.1))
  around_qual (tree.negated q) h spelled short = let most = below (qual_levels q) n h in (is_open 0 (qual_levels q) n (some_qual q) most, at.of_qual q most spelled short)

  around_agg : {j k : _} (slot : ℕ) (op : AggOp) (from : AggSource) (arg : QTerm) (by : Row_of-QTerm j) (link : Row_of-QTerm k) (q : QQual)
      → agg_levels from arg by link q ≤ suc n → agg_spelled from arg by link q ≡ true → agg_short slot from arg by link q ≡ true → (agg (suc n)).Fits (agg_with slot op from arg by link q)
  unfolding trees
  around_agg slot op from arg by link q h spelled short =
      let s1 = and_parts (source_is_spelled from) _ spelled in
      let s2 = and_parts (term_is_spelled arg) _ s1.1 in
      let s3 = and_parts (terms_are_spelled by) _ s2.1 in
      let s4 = and_parts (terms_are_spelled link) (qual_is_spelled q) s3.1 in
      let c1 = and_parts (is_count slot) _ short in
      let c2 = and_parts (source_is_short from) _ c1.1 in
      let c3 = and_parts (term_is_short arg) _ c2.1 in
      let c4 = and_parts (is_count (length (items-the_row-QTerm _ by))) _ c3.1 in
      let c5 = and_parts (terms_are_short by) _ c4.1 in
      let c6 = and_parts (is_count (length (items-the_row-QTerm _ link))) _ c5.1 in
      let c7 = and_parts (terms_are_short link) (qual_is_short q) c6.1 in
      let most = below (max (source_levels from) (max (term_levels arg) (max (greatest_term_levels by) (max (greatest_term_levels link) (qual_levels q))))) n h in (
        count_fits slot c1.0,
        (
          aggs_fit op,
          (
            of_source from (omega (arith, most)) s1.0 c2.0,
            (
              at.of_term arg (omega (arith, most)) s2.0 c3.0,
              (
                list_fits (term n) (items-the_row-QTerm _ by) c4.0 (each_term by (omega (arith, most)) s3.0 c5.0),
                (list_fits (term n) (items-the_row-QTerm _ link) c6.0 (each_term link (omega (arith, most)) s4.0 c7.0), at.of_qual q (omega (arith, most)) s4.1 c7.1),
              ),
            ),
          ),
        ),
      )

  around_query : (q : Query) → query_levels q ≤ suc n → query_is_spelled q ≡ true → query_is_short q ≡ true → (query (suc n)).Fits q
  unfolding trees
  around_query (Query' vars marks targets q) h spelled short =
      let one = and_parts (targets_are_spelled targets) (qual_is_spelled q) spelled in
      let c1 = and_parts (is_count (length vars)) _ short in
      let c2 = and_parts (list_all key_is_spelled vars) _ c1.1 in
      let c3 = and_parts (is_count (length (items-the_row-Target _ targets))) _ c2.1 in
      let c4 = and_parts (targets_are_short targets) (qual_is_short q) c3.1 in (
        list_fits rel_key vars c1.0 (each_to (λ key. key_is_spelled key ≡ true) rel_key.Fits key_fits vars (each_passes key_is_spelled vars c2.0)),
        (list_fits (target n) (items-the_row-Target _ targets) c3.0 (each_target targets (left_of (greatest_target_levels targets) (qual_levels q) n h) one.0 c4.0), at.of_qual q (right_of (greatest_target_levels targets) (qual_levels q) n h) one.1 c4.1),
      )

-- ---- with each number of levels

fits_at : (n : ℕ) → FitsAt n
unfolding trees
fits_at zero = record {
  of_term = λ t h spelled short. let some = some_term t in absurd (omega (arith, h, some));
  of_qual = λ q h spelled short. let some = some_qual q in absurd (omega (arith, h, some));
  of_agg = λ slot op from arg by link q h spelled short. let some = two_of_agg from arg by link q in absurd (omega (arith, h, some));
  of_query = λ q h spelled short. let some = two_of_query q in absurd (omega (arith, h, some));
}
fits_at (suc n) = let at = fits_at n in record { of_term = around_term n at; of_qual = around_qual n at; of_agg = around_agg n at; of_query = around_query n at }

pub qual_fits : (n : ℕ) (q : QQual) → qual_levels q ≤ n → qual_is_spelled q ≡ true → qual_is_short q ≡ true → (qual n).Fits q
qual_fits n = (fits_at n).of_qual

pub query_fits : (n : ℕ) (q : Query) → query_levels q ≤ n → query_is_spelled q ≡ true → query_is_short q ≡ true → (query n).Fits q
query_fits n = (fits_at n).of_query
