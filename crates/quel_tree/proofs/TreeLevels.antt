-- A spelling asks for as many levels as the tree has.
use Rattle.std.proofs.Common.{ℕ, zero, suc, ◌+◌, ◌≤◌, max, IsTrue, nat_lt, ◌∷◌, length, refl, arith}
use Rattle.std.proofs.lemmas.Bool.{lt-ltb}
use Rattle.tree_words.specs.Words.{both, byte, items, ItemsFit, list, nothing, number16, number64}
use Rattle.tree_words.specs.Ways.{flag}
use Rattle.calculus.specs.declared.operator.AggOp.{AggOp}
use Rattle.calculus.specs.declared.query.AggSource.{AggSource}
use Rattle.calculus.specs.declared.query.AggSource.TheVariants as sources
use Rattle.calculus.specs.declared.query.QAgg.{QAgg}
use Rattle.calculus.specs.declared.query.QQual.{QQual}
use Rattle.calculus.specs.declared.query.QQual.TheVariants as quals
use Rattle.calculus.specs.declared.query.QTerm.{QTerm, Agg', Row_of-QTerm, end_of-QTerm, more_of-QTerm, items-the_row-QTerm, end_of-QAgg, more_of-QAgg}
use Rattle.calculus.specs.declared.query.QTerm.TheVariants as terms
use Rattle.calculus.specs.declared.query.Query.{Query, Query', Row_of-Target, end_of-Target, more_of-Target, items-the_row-Target}
use Rattle.calculus.specs.Tree as tree
use Rattle.calculus.specs.TreeLevels.{term_levels, source_levels, greatest_term_levels, qual_levels, greatest_target_levels, query_levels}
use Rattle.quel_tree.specs.Levels.{HasLevels}
use Rattle.quel_tree.specs.Names.{chars, name}
use Rattle.quel_tree.specs.Operators.{agg_op, arith_op, cmp_op}
use Rattle.quel_tree.specs.Queries.{trees, term, qual, agg, query, source, target}
use Rattle.quel_tree.specs.Relations.{rel_key}
use Rattle.quel_tree.specs.Values.{kind}
use Rattle.quel_tree.proofs.Levelled.{fixed, made, around, pair, behind, before, no_items, one_more, counted}
use Rattle.quel_tree.proofs.Written.{two_terms, two_quals}

-- ---- how many levels there are at least

some_term : (t : QTerm) → 1 ≤ term_levels t
some_term (terms.Int k) = omega arith
some_term (terms.Chars bs) = omega arith
some_term (terms.Attr var attr) = omega arith
some_term (tree.neg t) = omega arith
some_term (tree.abs t) = omega arith
some_term (tree.operation op t u) = omega arith
some_term (tree.concat t u) = omega arith
some_term (Agg' mark row) = omega arith

some_qual : (q : QQual) → 1 ≤ qual_levels q
some_qual quals.True = omega arith
some_qual (quals.Cmp op t u) = omega arith
some_qual (quals.Like t pattern same) = omega arith
some_qual (tree.both p q) = omega arith
some_qual (tree.either p q) = omega arith
some_qual (tree.negated q) = omega arith

two_of_query : (q : Query) → 2 ≤ query_levels q
two_of_query (Query' vars marks targets q) = let one = some_qual q in omega (arith, one)

some_of_terms : (t u : QTerm) → 1 ≤ max (term_levels t) (term_levels u)
some_of_terms t u = let one = some_term t in omega (arith, one)

some_of_quals : (p q : QQual) → 1 ≤ max (qual_levels p) (qual_levels q)
some_of_quals p q = let one = some_qual p in omega (arith, one)

-- the aggregate that is made of these, the terms as a tree holds them
abbrev agg_with : {j k : _} → ℕ → AggOp → AggSource → QTerm → Row_of-QTerm j → Row_of-QTerm k → QQual → QAgg
agg_with slot op from arg by link q = record { slot = slot; op = op; source = from; arg = arg; by = items-the_row-QTerm _ by; link = items-the_row-QTerm _ link; qual = q }

-- the levels of that aggregate
abbrev agg_levels : {j k : _} → AggSource → QTerm → Row_of-QTerm j → Row_of-QTerm k → QQual → ℕ
agg_levels from arg by link q = 1 + max (source_levels from) (max (term_levels arg) (max (greatest_term_levels by) (max (greatest_term_levels link) (qual_levels q))))

two_of_agg : {j k : _} (from : AggSource) (arg : QTerm) (by : Row_of-QTerm j) (link : Row_of-QTerm k) (q : QQual) → 2 ≤ agg_levels from arg by link q
two_of_agg from arg by link q = let one = some_term arg in omega (arith, one)

-- a way is open where there are enough levels
is_open : (k m : ℕ) → suc k ≤ m → IsTrue (nat_lt k m)
is_open k m h = lt-ltb k m (omega arith)

-- ---- the laws with n levels

record LevelsAt (n : ℕ) : Type 0 where
  of_term : (t : QTerm) → (term n).Fits t → HasLevels term t (term_levels t) n
  of_qual : (q : QQual) → (qual n).Fits q → HasLevels qual q (qual_levels q) n
  of_agg : {j k : _} (slot : ℕ) (op : AggOp) (from : AggSource) (arg : QTerm) (by : Row_of-QTerm j) (link : Row_of-QTerm k) (q : QQual)
      → (agg n).Fits (agg_with slot op from arg by link q) → HasLevels agg (agg_with slot op from arg by link q) (agg_levels from arg by link q) n
  of_query : (q : Query) → (query n).Fits q → HasLevels query q (query_levels q) n

module _ (n : ℕ) (at : LevelsAt n) where
  -- ---- what is made of them without a level more

  of_two_terms : (t u : QTerm) → (two_terms n).Fits (t, u) → HasLevels two_terms (t, u) (max (term_levels t) (term_levels u)) n
  of_two_terms t u f = pair (at.of_term t f.0) (at.of_term u f.1)

  of_two_quals : (p q : QQual) → (two_quals n).Fits (p, q) → HasLevels two_quals (p, q) (max (qual_levels p) (qual_levels q)) n
  of_two_quals p q f = pair (at.of_qual p f.0) (at.of_qual q f.1)

  of_source : (s : AggSource) → (source n).Fits s → HasLevels source s (source_levels s) n
  of_source (sources.Named key) f = made source (sources.Named key) (λ bs. 0 ∷ bs) 0 (fixed rel_key key n f) (omega arith) (λ m h g. g) (λ m. refl)
  of_source (tree.rows_of_query q) f = made source (tree.rows_of_query q) (λ bs. 1 ∷ bs) 2 (at.of_query q f.1) (two_of_query q) (λ m h g. (is_open 1 m h, g)) (λ m. refl)

  of_each_term : {k : _} (row : Row_of-QTerm k) → ItemsFit (term n) (length (items-the_row-QTerm _ row)) (items-the_row-QTerm _ row)
      → HasLevels (λ m. items (term m) (length (items-the_row-QTerm _ row))) (items-the_row-QTerm _ row) (greatest_term_levels row) n
  of_each_term end_of-QTerm f = no_items term n
  of_each_term (more_of-QTerm t rest) f = one_more term t (items-the_row-QTerm _ rest) (at.of_term t f.0) (of_each_term rest f.1)

  of_terms : {k : _} (row : Row_of-QTerm k) → (list number16 (term n)).Fits (items-the_row-QTerm _ row)
      → HasLevels (λ m. list number16 (term m)) (items-the_row-QTerm _ row) (greatest_term_levels row) n
  unfolding list
  of_terms row f = counted number16 term (items-the_row-QTerm _ row) f.0 (of_each_term row f.1)

  of_each_target : {k : _} (row : Row_of-Target k) → ItemsFit (target n) (length (items-the_row-Target _ row)) (items-the_row-Target _ row)
      → HasLevels (λ m. items (target m) (length (items-the_row-Target _ row))) (items-the_row-Target _ row) (greatest_target_levels row) n
  of_each_target end_of-Target f = no_items target n
  of_each_target (more_of-Target called of t rest) f =
      one_more target (record { name = called; kind = of; term = t }) (items-the_row-Target _ rest)
      (made target (record { name = called; kind = of; term = t }) (λ bs. bs) 0 (behind name called f.0.0 (behind kind of f.0.1.0 (at.of_term t f.0.1.1))) (omega arith) (λ m h g. g) (λ m. refl))
      (of_each_target rest f.1)

  of_targets : {k : _} (row : Row_of-Target k) → (list number16 (target n)).Fits (items-the_row-Target _ row)
      → HasLevels (λ m. list number16 (target m)) (items-the_row-Target _ row) (greatest_target_levels row) n
  unfolding list
  of_targets row f = counted number16 target (items-the_row-Target _ row) f.0 (of_each_target row f.1)

  -- ---- with one level more

  around_term : (t : QTerm) → (term (suc n)).Fits t → HasLevels term t (term_levels t) (suc n)
  unfolding trees
  around_term (terms.Int k) f = around term (terms.Int k) (λ bs. 0 ∷ bs) 0 (fixed number64 k n f) (omega arith) (λ m h g. g) (λ m. refl)
  around_term (terms.Chars bs) f = around term (terms.Chars bs) (λ bs. 1 ∷ bs) 0 (fixed chars bs n f) (omega arith) (λ m h g. g) (λ m. refl)
  around_term (terms.Attr var attr) f = around term (terms.Attr var attr) (λ bs. 2 ∷ bs) 0 (fixed (both byte byte) (var, attr) n f) (omega arith) (λ m h g. g) (λ m. refl)
  around_term (tree.neg t) f = around term (tree.neg t) (λ bs. 3 ∷ bs) 1 (at.of_term t f.1) (some_term t) (λ m h g. (is_open 0 m h, g)) (λ m. refl)
  around_term (tree.abs t) f = around term (tree.abs t) (λ bs. 4 ∷ bs) 1 (at.of_term t f.1) (some_term t) (λ m h g. (is_open 0 m h, g)) (λ m. refl)
  around_term (tree.operation op t u) f =
      around term (tree.operation op t u) (λ bs. 5 ∷ bs) 1 (behind arith_op op f.1.0 (of_two_terms t u f.1.1)) (some_of_terms t u) (λ m h g. (is_open 0 m h, g)) (λ m. refl)
  around_term (tree.concat t u) f = around term (tree.concat t u) (λ bs. 6 ∷ bs) 1 (of_two_terms t u f.1) (some_of_terms t u) (λ m h g. (is_open 0 m h, g)) (λ m. refl)
  around_term (Agg' tt (more_of-QAgg slot op from arg bys by links link q end_of-QAgg)) f =
      around term (Agg' tt (more_of-QAgg slot op from arg bys by links link q end_of-QAgg)) (λ bs. 7 ∷ bs) 2
      (at.of_agg slot op from arg by link q f.1) (two_of_agg from arg by link q) (λ m h g. (is_open 1 m h, g)) (λ m. refl)

  around_qual : (q : QQual) → (qual (suc n)).Fits q → HasLevels qual q (qual_levels q) (suc n)
  unfolding trees
  around_qual quals.True f = around qual quals.True (λ bs. 0 ∷ bs) 0 (fixed nothing tt n f) (omega arith) (λ m h g. g) (λ m. refl)
  around_qual (quals.Cmp op t u) f =
      around qual (quals.Cmp op t u) (λ bs. 1 ∷ bs) 1 (behind cmp_op op f.1.0 (of_two_terms t u f.1.1)) (some_of_terms t u) (λ m h g. (is_open 0 m h, g)) (λ m. refl)
  around_qual (quals.Like t pattern same) f =
      around qual (quals.Like t pattern same) (λ bs. 2 ∷ bs) 1 (before (both chars flag) (pattern, same) (at.of_term t f.1.0) f.1.1) (some_term t) (λ m h g. (is_open 0 m h, g)) (λ m. refl)
  around_qual (tree.both p q) f = around qual (tree.both p q) (λ bs. 3 ∷ bs) 1 (of_two_quals p q f.1) (some_of_quals p q) (λ m h g. (is_open 0 m h, g)) (λ m. refl)
  around_qual (tree.either p q) f = around qual (tree.either p q) (λ bs. 4 ∷ bs) 1 (of_two_quals p q f.1) (some_of_quals p q) (λ m h g. (is_open 0 m h, g)) (λ m. refl)
  around_qual (tree.negated q) f = around qual (tree.negated q) (λ bs. 5 ∷ bs) 1 (at.of_qual q f.1) (some_qual q) (λ m h g. (is_open 0 m h, g)) (λ m. refl)

  around_agg : {j k : _} (slot : ℕ) (op : AggOp) (from : AggSource) (arg : QTerm) (by : Row_of-QTerm j) (link : Row_of-QTerm k) (q : QQual)
      → (agg (suc n)).Fits (agg_with slot op from arg by link q) → HasLevels agg (agg_with slot op from arg by link q) (agg_levels from arg by link q) (suc n)
  unfolding trees
  around_agg slot op from arg by link q f =
      around agg (agg_with slot op from arg by link q) (λ bs. bs) 0
      (behind number16 slot f.0 (behind agg_op op f.1.0 (pair (of_source from f.1.1.0) (pair (at.of_term arg f.1.1.1.0) (pair (of_terms by f.1.1.1.1.0) (pair (of_terms link f.1.1.1.1.1.0) (at.of_qual q f.1.1.1.1.1.1)))))))
      (omega arith) (λ m h g. g) (λ m. refl)

  around_query : (q : Query) → (query (suc n)).Fits q → HasLevels query q (query_levels q) (suc n)
  unfolding trees
  around_query (Query' vars marks targets q) f =
      around query (Query' vars marks targets q) (λ bs. bs) 0 (behind (list number16 rel_key) vars f.0 (pair (of_targets targets f.1.0) (at.of_qual q f.1.1))) (omega arith) (λ m h g. g) (λ m. refl)

-- ---- with each number of levels

levels_at : (n : ℕ) → LevelsAt n
unfolding trees
levels_at zero = record { of_term = λ t f. absurd f; of_qual = λ q f. absurd f; of_agg = λ slot op from arg by link q f. absurd f; of_query = λ q f. absurd f }
levels_at (suc n) = let at = levels_at n in record { of_term = around_term n at; of_qual = around_qual n at; of_agg = around_agg n at; of_query = around_query n at }

pub levels_of_term : (n : ℕ) (t : QTerm) → (term n).Fits t → HasLevels term t (term_levels t) n
levels_of_term n = (levels_at n).of_term

pub levels_of_qual : (n : ℕ) (q : QQual) → (qual n).Fits q → HasLevels qual q (qual_levels q) n
levels_of_qual n = (levels_at n).of_qual

pub levels_of_query : (n : ℕ) (q : Query) → (query n).Fits q → HasLevels query q (query_levels q) n
levels_of_query n = (levels_at n).of_query
