-- The rows of a query fit the kinds of its targets.
use Rattle.std.specs.Prelude.{◌≡◌, ℕ, ◌+◌, ◌≤◌, true, IsTrue, List, [], ◌∷◌, length, map, filter_map, flat_map}
use Rattle.std.specs.List.{list_all, enumerate_from}
use Rattle.std.proofs.Common.{arith}
use Rattle.std.proofs.lemmas.Bool.{and_parts}
use Rattle.calculus.specs.declared.query.Query.{Query}
use Rattle.calculus.specs.declared.query.RelKey.{RelKey}
use Rattle.calculus.specs.declared.query.Target.{Target}
use Rattle.calculus.specs.declared.value.Kind.{Kind}
use Rattle.calculus.specs.Assignments.{Source, choices, rows_used, variable_rows, assigned}
use Rattle.calculus.specs.Database.{Db}
use Rattle.calculus.specs.IsDatabase.{has_kind, var_kinds, valid_query}
use Rattle.calculus.specs.Kinds.{kind_of, kinds_fit}
use Rattle.calculus.specs.QueryParts.{vars_of, targets_of, qual_of, term_aggregates}
use Rattle.calculus.specs.Rows.{Row}
use Rattle.calculus.specs.Spelled.{term_is_spelled, query_is_spelled}
use Rattle.calculus.specs.Stored.{kinds_at}
use Rattle.calculus.specs.Targets.{target_values, qualifying, rows_given}
use Rattle.calculus.specs.Term.{Env, Aggs, holds, no_aggs}
use Rattle.calculus.specs.Used.{used_in_query}
use Rattle.quel_meaning.proofs.Each.{Each, in_map, in_flat_map, in_filter, each_to, each_passes}
use Rattle.quel_meaning.proofs.FitMade.{both_hold}
use Rattle.quel_network.specs.Parts.{in_filter_map, filter_map_short, filter_short, in_set, set_short}
use Rattle.quel_network.specs.StoredRows.{FewSuit}
use Rattle.quel_network.specs.Suiting.{RowFits, RowSuits, EnvSuits, nothing_suits, fits_suits}
use Rattle.quel_network.specs.TermValues.{AggGives, TargetStands, target_kinds, none_give, has_too, targets_fit, targets_spelled}

-- the rows of what has this key suit its kinds and are at most a million, whichever attributes are read
abbrev pub SourceSuits : Db → Source → RelKey → Type 0
SourceSuits db source key = (attrs : List ℕ) → FewSuit (kinds_at db key) (source key attrs)

used_suit : (db : Db) (source : Source) (key : RelKey) → SourceSuits db source key → (attrs : List ℕ) → FewSuit (kinds_at db key) (rows_used source key attrs)
used_suit db source key h [] = record { suit = (nothing_suits (kinds_at db key), tt); few = omega arith }
used_suit db source key h (a ∷ attrs) = h (a ∷ attrs)

-- so are those of a variable
variable_suits : (db : Db) (source : Source) (q : Query) (v : ℕ) (key : RelKey) → SourceSuits db source key → FewSuit (kinds_at db key) (variable_rows source q v key)
variable_suits db source q v key h = used_suit db source key h (used_in_query v q)

-- ---- assignments

choices_suit : (db : Db) (source : Source) (q : Query) (n : ℕ) (keys : List RelKey) → Each (SourceSuits db source) keys
    → Each (EnvSuits (map (kinds_at db) keys)) (choices (map (λ p. variable_rows source q p.0 p.1) (enumerate_from n keys)))
choices_suit db source q n [] h = (tt, tt)
choices_suit db source q n (key ∷ keys) h =
    in_flat_map (EnvSuits (map (kinds_at db) (key ∷ keys))) (λ row. map (λ e. row ∷ e) others) (variable_rows source q n key)
    (each_to (RowSuits (kinds_at db key)) (λ row. Each (EnvSuits (map (kinds_at db) (key ∷ keys))) (map (λ e. row ∷ e) others)) (in_front (choices_suit db source q (n + 1) keys h.1))
    (variable_rows source q n key) (variable_suits db source q n key h.0).suit)
  where
    others : List Env
    others = choices (map (λ p. variable_rows source q p.0 p.1) (enumerate_from (n + 1) keys))

    in_front : Each (EnvSuits (map (kinds_at db) keys)) others → (row : Row) → RowSuits (kinds_at db key) row → Each (EnvSuits (map (kinds_at db) (key ∷ keys))) (map (λ e. row ∷ e) others)
    in_front later row s =
        in_map (EnvSuits (map (kinds_at db) (key ∷ keys))) (λ e. row ∷ e) others
        (each_to (EnvSuits (map (kinds_at db) keys)) (λ e. EnvSuits (map (kinds_at db) (key ∷ keys)) (row ∷ e)) (λ e r. (s, r)) others later)

assigned_suit : (db : Db) (source : Source) (q : Query) → Each (SourceSuits db source) (vars_of q) → Each (EnvSuits (var_kinds db q)) (assigned source q)
unfolding assigned
assigned_suit db source q h = choices_suit db source q 0 (vars_of q) h

singles : (rows : List Row) → length (flat_map (λ row. map (λ e. row ∷ e) ([] ∷ [])) rows) ≤ length rows
singles [] = omega arith
singles (row ∷ rows) = let later = singles rows in omega (arith, later)

few_choices : (db : Db) (source : Source) (q : Query) (keys : List RelKey) → length keys ≤ 1 → Each (SourceSuits db source) keys
    → length (choices (map (λ p. variable_rows source q p.0 p.1) (enumerate_from 0 keys))) ≤ 1000000
few_choices db source q [] one h = omega arith
few_choices db source q (key ∷ []) one h =
    let as_many = singles (variable_rows source q 0 key) in
    let few = (variable_suits db source q 0 key h.0).few in
    omega (arith, as_many, few)
few_choices db source q (key ∷ other ∷ keys) one h = absurd (omega (arith, one))

few_assigned : (db : Db) (source : Source) (q : Query) → length (vars_of q) ≤ 1 → Each (SourceSuits db source) (vars_of q) → length (assigned source q) ≤ 1000000
unfolding assigned
few_assigned db source q one h = few_choices db source q (vars_of q) one h

-- ---- rows

given_fit : (db : Db) (aggs : Aggs) (q : Query) (es : List Env) → Each (TargetStands db (var_kinds db q)) (targets_of q)
    → ((e : Env) → Each (λ t. Each (AggGives db aggs (var_kinds db q) e) (term_aggregates t.term)) (targets_of q)) → Each (EnvSuits (var_kinds db q)) es
    → Each (RowFits (target_kinds (targets_of q))) (rows_given aggs q es)
unfolding rows_given
given_fit db aggs q es stand give suit =
    in_set (RowFits (target_kinds (targets_of q))) (filter_map (target_values aggs (targets_of q)) (qualifying aggs q es))
    (in_filter_map (EnvSuits (var_kinds db q)) (RowFits (target_kinds (targets_of q))) (target_values aggs (targets_of q))
    (λ e s. targets_fit db aggs (targets_of q) (var_kinds db q) e stand s (give e)) (qualifying aggs q es)
    (in_filter (EnvSuits (var_kinds db q)) (holds aggs (qual_of q)) es suit))

-- the rows that a query gives in its assignments, where its targets are of their kinds and its aggregates give what suits theirs
pub query_rows_fit : (db : Db) (aggs : Aggs) (source : Source) (q : Query) → Each (SourceSuits db source) (vars_of q) → Each (TargetStands db (var_kinds db q)) (targets_of q)
    → ((e : Env) → Each (λ t. Each (AggGives db aggs (var_kinds db q) e) (term_aggregates t.term)) (targets_of q))
    → Each (RowFits (target_kinds (targets_of q))) (rows_given aggs q (assigned source q))
query_rows_fit db aggs source q h stand give = given_fit db aggs q (assigned source q) stand give (assigned_suit db source q h)

-- no aggregate of these targets gives a value
none_in_targets : (db : Db) (vars : List (List Kind)) (e : Env) (ts : List Target) → Each (λ t. Each (AggGives db no_aggs vars e) (term_aggregates t.term)) ts
none_in_targets db vars e [] = tt
none_in_targets db vars e (t ∷ ts) = (none_give db vars e (term_aggregates t.term), none_in_targets db vars e ts)

-- the targets of a query without aggregates are of their kinds
alone_stand : (db : Db) (q : Query) → IsTrue (query_is_spelled q) → valid_query db q ≡ true → Each (TargetStands db (var_kinds db q)) (targets_of q)
alone_stand db q spelled stands =
    both_hold (λ t. has_kind (kind_of t.term (var_kinds db q)) t.kind ≡ true) (λ t. IsTrue (term_is_spelled t.term)) (TargetStands db (var_kinds db q))
    (λ t h s. record { kind = has_too db t.term (var_kinds db q) t.kind h; spelled = s }) (targets_of q)
    (each_passes (λ t. has_kind (kind_of t.term (var_kinds db q)) t.kind) (targets_of q)
    (and_parts (list_all (λ t. has_kind (kind_of t.term (var_kinds db q)) t.kind) (targets_of q)) (kinds_fit (qual_of q) (var_kinds db q)) stands).0)
    (targets_spelled q spelled)

given_few : (aggs : Aggs) (q : Query) (es : List Env) → length (rows_given aggs q es) ≤ length es
unfolding rows_given
given_few aggs q es =
    let set = set_short (filter_map (target_values aggs (targets_of q)) (qualifying aggs q es)) in
    let given = filter_map_short (target_values aggs (targets_of q)) (qualifying aggs q es) in
    let passed = filter_short (holds aggs (qual_of q)) es in
    omega (arith, set, given, passed)

-- the rows of a query of at most one variable in which no aggregate stands
pub alone_rows_suit : (db : Db) (source : Source) (q : Query) → length (vars_of q) ≤ 1 → Each (SourceSuits db source) (vars_of q) → IsTrue (query_is_spelled q) → valid_query db q ≡ true
    → FewSuit (target_kinds (targets_of q)) (rows_given no_aggs q (assigned source q))
alone_rows_suit db source q one h spelled stands =
    let shorter = given_few no_aggs q (assigned source q) in
    let few = few_assigned db source q one h in
    record {
      suit = each_to (RowFits (target_kinds (targets_of q))) (RowSuits (target_kinds (targets_of q))) (fits_suits (target_kinds (targets_of q))) (rows_given no_aggs q (assigned source q))
          (query_rows_fit db no_aggs source q h (alone_stand db q spelled stands) (λ e. none_in_targets db (var_kinds db q) e (targets_of q)));
      few = omega (arith, shorter, few);
    }
