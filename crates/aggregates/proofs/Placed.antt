-- Tables at their slots, and what they say of a query.
use Rattle.std.proofs.Common.{◌≡◌, refl, sym, ap, ◌∙◌, subst, Bool, true, ◌&&◌, List, [], ◌∷◌, ◌++◌, append_assoc, ℕ, ◌+◌, ◌<◌, length, get_or, take, map, filter_map, nat_eq, slice_get, Some, arith}
use Rattle.std.specs.Prelude.{filter, is_none}
use Rattle.std.specs.List.{AllByRecursion, flat_map, list_all, list_any}
use Rattle.std.proofs.lemmas.List.{length-append, map_more}
use Rattle.std.proofs.lemmas.Bool.{eqb-true}
use Rattle.calculus.specs.declared.agg_table.AggTable.{AggTable}
use Rattle.calculus.specs.declared.query.QAgg.{QAgg}
use Rattle.calculus.specs.declared.query.QTerm.{QTerm, Int, Chars, Attr, Agg', Row_of-QAgg, end_of-QAgg, more_of-QAgg}
use Rattle.calculus.specs.declared.query.QQual.{QQual, True, Cmp, Like}
use Rattle.calculus.specs.declared.query.Query.{Query}
use Rattle.calculus.specs.declared.query.Target.{Target}
use Rattle.calculus.specs.Aggregate.{aggregates}
use Rattle.calculus.specs.Database.{Db}
use Rattle.calculus.specs.QueryParts.{aggregates_of, term_aggregates, qual_aggregates, query_aggregates, targets_of, qual_of}
use Rattle.calculus.specs.Rows.{set_of}
use Rattle.calculus.specs.Table.{tabled, StandsFor, HasTable, has_its_table, HasTables, HasAllTables}
use Rattle.calculus.specs.Targets.{target_values, rows_given, some_lacks}
use Rattle.calculus.specs.Term.{Env, Aggs, holds, value_before}
use Rattle.calculus.specs.Tree.{neg, abs, operation, concat, both, either, negated}
use Rattle.calculus.specs.Who.{Unrestricted}
use Rattle.quel_meaning.proofs.Each.{left, right}
use Rattle.quel_meaning.specs.FitQueries.{slots_count_from, slots_count_up}
use Rattle.scalar_eval.proofs.Stands.{same_value, same_truth}
use Rattle.aggregates.specs.Settled.{AllStand, TargetsHaveTables}

found_behind : (before : List AggTable) (t : AggTable) (ts : List AggTable) → slice_get (before ++ t ∷ ts) (length before) ≡ Some t
found_behind [] t ts = refl
found_behind (b ∷ before) t ts = found_behind before t ts

placed : (db : Db) (all before ts : List AggTable) (gs : List QAgg) (n : ℕ) → all ≡ before ++ ts → length before ≡ n → slots_count_from n gs ≡ true → AllStand db ts gs
    → AllByRecursion (HasTable all (aggregates db Unrestricted)) gs
placed db all before [] [] n e many slots stand = tt
placed db all before [] (g ∷ gs) n e many slots stand = absurd stand
placed db all before (t ∷ ts) [] n e many slots stand = tt
placed db all before (t ∷ ts) (g ∷ gs) n e many slots stand =
    let at : g.slot ≡ n = eqb-true g.slot n (left (nat_eq g.slot n) (slots_count_from (n + 1) gs) slots) in (
      (t, (λ i. slice_get (e i) ((at ∙ sym many) i)) ∙ found_behind before t ts, stand.0),
      placed db all (before ++ t ∷ []) ts gs (n + 1) (e ∙ sym (append_assoc before (t ∷ []) ts)) (omega (arith, length-append before (t ∷ []), many)) (right (nat_eq g.slot n) (slots_count_from (n + 1) gs) slots) stand.1,
    )

-- ---- the parts of a query

all_left : {X : Type 0} (P : X → Type 0) (xs ys : List X) → AllByRecursion P (xs ++ ys) → AllByRecursion P xs
all_left P [] ys h = tt
all_left P (x ∷ xs) ys h = (h.0, all_left P xs ys h.1)

all_right : {X : Type 0} (P : X → Type 0) (xs ys : List X) → AllByRecursion P (xs ++ ys) → AllByRecursion P ys
all_right P [] ys h = h
all_right P (x ∷ xs) ys h = all_right P xs ys h.1

row_has : (tables : List AggTable) (aggs : Aggs) {n : _} (row : Row_of-QAgg n) → AllByRecursion (HasTable tables aggs) (aggregates_of row) → has_its_table tables aggs row
row_has tables aggs end_of-QAgg h = tt
row_has tables aggs (more_of-QAgg slot op source arg bys by links link qual rest) h = h.0

term_has : (tables : List AggTable) (aggs : Aggs) (t : QTerm) → AllByRecursion (HasTable tables aggs) (term_aggregates t) → HasTables tables aggs t
unfolding term_aggregates HasTables
term_has tables aggs (Int n) h = tt
term_has tables aggs (Chars bytes) h = tt
term_has tables aggs (Attr var attr) h = tt
term_has tables aggs (neg t) h = term_has tables aggs t h
term_has tables aggs (abs t) h = term_has tables aggs t h
term_has tables aggs (operation op t u) h =
    (term_has tables aggs t (all_left _ (term_aggregates t) (term_aggregates u) h), term_has tables aggs u (all_right _ (term_aggregates t) (term_aggregates u) h))
term_has tables aggs (concat t u) h =
    (term_has tables aggs t (all_left _ (term_aggregates t) (term_aggregates u) h), term_has tables aggs u (all_right _ (term_aggregates t) (term_aggregates u) h))
term_has tables aggs (Agg' mark row) h = row_has tables aggs row h

qual_has : (tables : List AggTable) (aggs : Aggs) (q : QQual) → AllByRecursion (HasTable tables aggs) (qual_aggregates q) → HasAllTables tables aggs q
unfolding qual_aggregates HasAllTables
qual_has tables aggs True h = tt
qual_has tables aggs (Cmp op t u) h =
    (term_has tables aggs t (all_left _ (term_aggregates t) (term_aggregates u) h), term_has tables aggs u (all_right _ (term_aggregates t) (term_aggregates u) h))
qual_has tables aggs (Like t pattern same) h = term_has tables aggs t h
qual_has tables aggs (both p q) h =
    (qual_has tables aggs p (all_left _ (qual_aggregates p) (qual_aggregates q) h), qual_has tables aggs q (all_right _ (qual_aggregates p) (qual_aggregates q) h))
qual_has tables aggs (either p q) h =
    (qual_has tables aggs p (all_left _ (qual_aggregates p) (qual_aggregates q) h), qual_has tables aggs q (all_right _ (qual_aggregates p) (qual_aggregates q) h))
qual_has tables aggs (negated p) h = qual_has tables aggs p h

targets_have : (tables : List AggTable) (aggs : Aggs) (ts : List Target) → AllByRecursion (HasTable tables aggs) (flat_map (λ t. term_aggregates t.term) ts)
    → AllByRecursion (λ t. HasTables tables aggs t.term) ts
targets_have tables aggs [] h = tt
targets_have tables aggs (t ∷ ts) h = (
  term_has tables aggs t.term (all_left _ (term_aggregates t.term) (flat_map (λ (t : Target). term_aggregates t.term) ts) h),
  targets_have tables aggs ts (all_right _ (term_aggregates t.term) (flat_map (λ (t : Target). term_aggregates t.term) ts) h),
)

-- ---- a query whose tables stand

all_placed : (db : Db) (q : Query) (tables : List AggTable) → slots_count_up q ≡ true → AllStand db tables (query_aggregates q)
    → AllByRecursion (HasTable tables (aggregates db Unrestricted)) (query_aggregates q)
all_placed db q tables slots stand = placed db tables [] tables (query_aggregates q) 0 refl refl slots stand

pub targets_settled : (db : Db) (q : Query) (tables : List AggTable) → slots_count_up q ≡ true → AllStand db tables (query_aggregates q) → TargetsHaveTables tables db q
targets_settled db q tables slots stand =
    targets_have tables (aggregates db Unrestricted) (targets_of q)
    (all_left _ (flat_map (λ (t : Target). term_aggregates t.term) (targets_of q)) (qual_aggregates (qual_of q)) (all_placed db q tables slots stand))

pub qual_settled : (db : Db) (q : Query) (tables : List AggTable) → slots_count_up q ≡ true → AllStand db tables (query_aggregates q)
    → HasAllTables tables (aggregates db Unrestricted) (qual_of q)
qual_settled db q tables slots stand =
    qual_has tables (aggregates db Unrestricted) (qual_of q)
    (all_right _ (flat_map (λ (t : Target). term_aggregates t.term) (targets_of q)) (qual_aggregates (qual_of q)) (all_placed db q tables slots stand))

same_targets : (tables : List AggTable) (aggs : Aggs) (ts : List Target) (e : Env) → AllByRecursion (λ t. HasTables tables aggs t.term) ts
    → target_values (tabled tables) ts e ≡ target_values aggs ts e
same_targets tables aggs [] e h = refl
same_targets tables aggs (t ∷ ts) e h = λ i. value_before (same_value tables aggs t.term e h.0 i) (same_targets tables aggs ts e h.1 i)

pub values_settled : (db : Db) (q : Query) (tables : List AggTable) → slots_count_up q ≡ true → AllStand db tables (query_aggregates q) → (e : Env)
    → target_values (tabled tables) (targets_of q) e ≡ target_values (aggregates db Unrestricted) (targets_of q) e
values_settled db q tables slots stand e = same_targets tables (aggregates db Unrestricted) (targets_of q) e (targets_settled db q tables slots stand)

pub truth_settled : (db : Db) (q : Query) (tables : List AggTable) → slots_count_up q ≡ true → AllStand db tables (query_aggregates q) → (e : Env)
    → holds (tabled tables) (qual_of q) e ≡ holds (aggregates db Unrestricted) (qual_of q) e
truth_settled db q tables slots stand e = same_truth tables (aggregates db Unrestricted) (qual_of q) e (qual_settled db q tables slots stand)

pub rows_settled : (db : Db) (q : Query) (tables : List AggTable) → slots_count_up q ≡ true → AllStand db tables (query_aggregates q) → (es : List Env)
    → rows_given (tabled tables) q es ≡ rows_given (aggregates db Unrestricted) q es
unfolding rows_given
rows_settled db q tables slots stand es =
    λ i. set_of (filter_map (λ e. same_targets tables (aggregates db Unrestricted) (targets_of q) e (targets_settled db q tables slots stand) i)
    (filter (λ e. same_truth tables (aggregates db Unrestricted) (qual_of q) e (qual_settled db q tables slots stand) i) es))

pub lacks_settled : (db : Db) (q : Query) (tables : List AggTable) → slots_count_up q ≡ true → AllStand db tables (query_aggregates q) → (es : List Env)
    → some_lacks (tabled tables) q es ≡ some_lacks (aggregates db Unrestricted) q es
unfolding some_lacks
lacks_settled db q tables slots stand es =
    λ i. list_any (λ e. is_none (same_targets tables (aggregates db Unrestricted) (targets_of q) e (targets_settled db q tables slots stand) i))
    (filter (λ e. same_truth tables (aggregates db Unrestricted) (qual_of q) e (qual_settled db q tables slots stand) i) es)

-- ---- one table behind the others

pub one_more_stands : (db : Db) (ts : List AggTable) (gs : List QAgg) (t : AggTable) (g : QAgg) → AllStand db ts gs → StandsFor t g (aggregates db Unrestricted)
    → AllStand db (ts ++ t ∷ []) (gs ++ g ∷ [])
one_more_stands db [] [] t g all one = (one, tt)
one_more_stands db [] (h ∷ gs) t g all one = absurd all
one_more_stands db (u ∷ ts) [] t g all one = absurd all
one_more_stands db (u ∷ ts) (h ∷ gs) t g all one = (all.0, one_more_stands db ts gs t g all.1 one)

pub all_behind : {X : Type 0} (P : X → Type 0) (xs : List X) (x : X) → AllByRecursion P xs → P x → AllByRecursion P (xs ++ x ∷ [])
all_behind P [] x all one = (one, tt)
all_behind P (y ∷ ys) x all one = (all.0, all_behind P ys x all.1 one)

-- the tables of the first of these, and of one more
pub next_stands : {X : Type 0} (f : X → QAgg) (db : Db) (xs : List X) (i : ℕ) (x : X) (ts new : List AggTable) (t : AggTable) → i < length xs → x ≡ get_or xs i x
    → AllStand db ts (map f (take i xs)) → StandsFor t (f x) (aggregates db Unrestricted) → new ≡ ts ++ t ∷ [] → AllStand db new (map f (take (i + 1) xs))
next_stands f db xs i x ts new t h is all one more =
    subst (λ us. AllStand db us (map f (take (i + 1) xs))) (sym more)
    (subst (AllStand db (ts ++ t ∷ [])) (ap (λ y. map f (take i xs) ++ f y ∷ []) is ∙ sym (map_more f xs i x h))
    (one_more_stands db ts (map f (take i xs)) t (f x) all one))

-- a test of what items are made of
pub all_mapped : {X Y : Type 0} (p : Y → Bool) (f : X → Y) (xs : List X) → list_all (λ x. p (f x)) xs ≡ list_all p (map f xs)
all_mapped p f [] = refl
all_mapped p f (x ∷ xs) = ap (λ b. p (f x) && b) (all_mapped p f xs)
