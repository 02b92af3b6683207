-- Queries that fit are short, where their aggregates are few and have few grouping terms.
use Rattle.std.proofs.Common.{◌≡◌, refl, sym, ap, true≢false, ℕ, ◌+◌, ◌≤◌, true, ◌&&◌, List, [], ◌∷◌, map, length, Option, Some, None, option_map, arith}
use Rattle.std.specs.Prelude.{is_some, nat_le, nat_eq, flat_map}
use Rattle.std.specs.List.{list_all}
use Rattle.std.proofs.lemmas.Bool.{and_parts, leb-true, eqb-true}
use Rattle.std.proofs.lemmas.List.{length-map}
use Rattle.calculus.specs.declared.query.AggSource.{AggSource, Named}
use Rattle.calculus.specs.declared.query.QAgg.{QAgg}
use Rattle.calculus.specs.declared.query.QQual.{QQual}
use Rattle.calculus.specs.declared.query.QQual.TheVariants as quals
use Rattle.calculus.specs.declared.query.Query.{Query, Query', items-the_row-Target, Row_of-Target, end_of-Target, more_of-Target}
use Rattle.calculus.specs.declared.query.QTerm.{QTerm, Agg', Row_of-QAgg, end_of-QAgg, more_of-QAgg}
use Rattle.calculus.specs.declared.query.QTerm.TheVariants as terms
use Rattle.calculus.specs.declared.query.RelKey.{RelKey}
use Rattle.calculus.specs.declared.query.Target.{Target}
use Rattle.calculus.specs.Aggregate.{source_kinds}
use Rattle.calculus.specs.Database.{Db}
use Rattle.calculus.specs.IsDatabase.{IsDatabase, is_kind, has_kind, var_kinds, valid_query}
use Rattle.calculus.specs.Kinds.{kind_of, kinds_fit}
use Rattle.calculus.specs.Limits.{most_attributes, most_expanded_variables}
use Rattle.calculus.specs.Name.{is_name}
use Rattle.calculus.specs.QueryParts.{vars_of, targets_of, qual_of, aggregates_of, term_aggregates, qual_aggregates, query_aggregates}
use Rattle.calculus.specs.Spelled.{term_is_spelled, aggregate_is_spelled, source_is_spelled, terms_are_spelled, qual_is_spelled, targets_are_spelled, query_is_spelled}
use Rattle.calculus.specs.Stored.{range_at, range_info, info_at, Range}
use Rattle.calculus.specs.Tree as tree
use Rattle.quel_meaning.specs.FitQueries.{Allowed, keeps_rows, is_kept, kept_alone, kept_or_viewed, can_be_ranged_over, lists_few_vars, has_few_targets, source_fits, sources_fit, slots_count_from, slots_count_up, reads_fit}
use Rattle.quel_meaning.specs.KindsInQueries.{kind_in_query, kinds_fit_in_query}
use Rattle.quel_meaning.specs.SpelledTree.{key_is_spelled}
use Rattle.quel_meaning.proofs.Each.{Each, front_of, back_of, both_of, of_flat_map, in_flat_map, each_to, each_passes, passed, and}
use Rattle.quel_meaning.proofs.LawfulKinds.{IsKind, kinds_stored}
use Rattle.spelling_laws.specs.Short.{is_count, term_is_short, source_is_short, targets_are_short, qual_is_short, query_is_short}
use Rattle.spelling_laws.proofs.LawfulKinds.{kind_same, has_this}
use Rattle.spelling_laws.proofs.Named.{IsNamed, ranged_named, few_kinds_at}
use Rattle.spelling_laws.proofs.Numbers.{There, count_is}
use Rattle.spelling_laws.proofs.Terms.{AreFew, few_vars, kinds_vars, plain_short, plain_qual_short, GoodAgg, short_in, qual_short_in, kind_lawful, plain_lawful}

-- ---- a query of short parts

-- a target of a kind, whose term is short
abbrev pub IsShort : Target → Type 0
IsShort t = (is_kind t.kind ≡ true) × (term_is_short t.term ≡ true)

targets_short : {n : _} (row : Row_of-Target n) → Each IsShort (items-the_row-Target _ row) → targets_are_short row ≡ true
targets_short end_of-Target each = refl
targets_short (more_of-Target name kind t rest) each =
    and (is_kind kind) (term_is_short t && targets_are_short rest) each.0.0 (and (term_is_short t) (targets_are_short rest) each.0.1 (targets_short rest each.1))

pub built_short : (q : Query) → length (vars_of q) ≤ 65535 → Each IsNamed (vars_of q) → length (targets_of q) ≤ 65535 → Each IsShort (targets_of q) → qual_is_short (qual_of q) ≡ true
    → query_is_short q ≡ true
built_short (Query' keys marks targets q) few named short each qual =
    and (is_count (length keys)) _ (count_is (length keys) few)
    (and (list_all key_is_spelled keys) _ (passed key_is_spelled keys named)
    (and (is_count (length (items-the_row-Target _ targets))) _ (count_is (length (items-the_row-Target _ targets)) short)
    (and (targets_are_short targets) (qual_is_short q) (targets_short targets each) qual)))

-- ---- constants of parts

targets_spelled : {n : _} (row : Row_of-Target n) → targets_are_spelled row ≡ true → Each (λ (t : Target). term_is_spelled t.term ≡ true) (items-the_row-Target _ row)
targets_spelled end_of-Target h = tt
targets_spelled (more_of-Target name kind t rest) h =
    let one = and_parts (is_name name) (term_is_spelled t && targets_are_spelled rest) h in
    let two = and_parts (term_is_spelled t) (targets_are_spelled rest) one.1 in
    (two.0, targets_spelled rest two.1)

pub spelled_parts : (q : Query) → query_is_spelled q ≡ true → Each (λ (t : Target). term_is_spelled t.term ≡ true) (targets_of q) × (qual_is_spelled (qual_of q) ≡ true)
spelled_parts (Query' keys marks targets q) h = let two = and_parts (targets_are_spelled targets) (qual_is_spelled q) h in (targets_spelled targets two.0, two.1)

-- the source of an aggregate has constants that are ones
abbrev IsSpelled : QAgg → Type 0
IsSpelled g = source_is_spelled g.source ≡ true

row_spelled : {n : _} (row : Row_of-QAgg n) → aggregate_is_spelled row ≡ true → Each IsSpelled (aggregates_of row)
row_spelled end_of-QAgg h = tt
row_spelled (more_of-QAgg slot op source arg bys by links link q rest) h = ((and_parts (source_is_spelled source) (term_is_spelled arg && (terms_are_spelled by && (terms_are_spelled link && qual_is_spelled q))) h).0, tt)

term_spelled : (t : QTerm) → term_is_spelled t ≡ true → Each IsSpelled (term_aggregates t)
unfolding term_aggregates
term_spelled (terms.Int k) h = tt
term_spelled (terms.Chars bs) h = tt
term_spelled (terms.Attr var attr) h = tt
term_spelled (tree.neg t) h = term_spelled t h
term_spelled (tree.abs t) h = term_spelled t h
term_spelled (tree.operation op t u) h =
    let two = and_parts (term_is_spelled t) (term_is_spelled u) h in both_of IsSpelled (term_aggregates t) (term_aggregates u) (term_spelled t two.0) (term_spelled u two.1)
term_spelled (tree.concat t u) h =
    let two = and_parts (term_is_spelled t) (term_is_spelled u) h in both_of IsSpelled (term_aggregates t) (term_aggregates u) (term_spelled t two.0) (term_spelled u two.1)
term_spelled (Agg' mark row) h = row_spelled row h

qual_spelled : (q : QQual) → qual_is_spelled q ≡ true → Each IsSpelled (qual_aggregates q)
unfolding qual_aggregates
qual_spelled quals.True h = tt
qual_spelled (quals.Cmp op t u) h =
    let two = and_parts (term_is_spelled t) (term_is_spelled u) h in both_of IsSpelled (term_aggregates t) (term_aggregates u) (term_spelled t two.0) (term_spelled u two.1)
qual_spelled (quals.Like t pattern same) h = term_spelled t (and_parts (term_is_spelled t) _ h).0
qual_spelled (tree.both p q) h =
    let two = and_parts (qual_is_spelled p) (qual_is_spelled q) h in both_of IsSpelled (qual_aggregates p) (qual_aggregates q) (qual_spelled p two.0) (qual_spelled q two.1)
qual_spelled (tree.either p q) h =
    let two = and_parts (qual_is_spelled p) (qual_is_spelled q) h in both_of IsSpelled (qual_aggregates p) (qual_aggregates q) (qual_spelled p two.0) (qual_spelled q two.1)
qual_spelled (tree.negated q) h = qual_spelled q h

aggregates_spelled : (q : Query) → query_is_spelled q ≡ true → Each IsSpelled (query_aggregates q)
aggregates_spelled q h =
    let two = spelled_parts q h in
    both_of IsSpelled (flat_map (λ (t : Target). term_aggregates t.term) (targets_of q)) (qual_aggregates (qual_of q))
    (in_flat_map IsSpelled (λ (t : Target). term_aggregates t.term) (targets_of q) (each_to (λ (t : Target). term_is_spelled t.term ≡ true) (λ (t : Target). Each IsSpelled (term_aggregates t.term)) (λ t e. term_spelled t.term e) (targets_of q) two.0))
    (qual_spelled (qual_of q) two.1)

-- ---- slots

slots_below : (n : ℕ) (gs : List QAgg) → n + length gs ≤ 65536 → slots_count_from n gs ≡ true → Each (λ (g : QAgg). is_count g.slot ≡ true) gs
slots_below n [] few h = tt
slots_below n (g ∷ gs) few h =
    let two = and_parts (nat_eq g.slot n) (slots_count_from (n + 1) gs) h in
    let same = eqb-true g.slot n two.0 in
    (count_is g.slot (omega (arith, same, few)), slots_below (n + 1) gs (omega (arith, few)) two.1)

-- ---- in a database

-- a query that may be read has few variables and few targets
pub few_vars_in : (may : Allowed) (db : Db) (q : Query) → reads_fit may db q ≡ true → length (vars_of q) ≤ 50
unfolding reads_fit
few_vars_in may db q reads =
    let one = and_parts (list_all may.variable (vars_of q)) _ reads in
    let two = and_parts (sources_fit may db q) _ one.1 in
    let three = and_parts (slots_count_up q) _ two.1 in
    leb-true (length (vars_of q)) most_expanded_variables (and_parts (lists_few_vars q) (has_few_targets q) three.1).0

pub few_targets_in : (may : Allowed) (db : Db) (q : Query) → reads_fit may db q ≡ true → length (targets_of q) ≤ 49
unfolding reads_fit
few_targets_in may db q reads =
    let one = and_parts (list_all may.variable (vars_of q)) _ reads in
    let two = and_parts (sources_fit may db q) _ one.1 in
    let three = and_parts (slots_count_up q) _ two.1 in
    leb-true (length (targets_of q)) most_attributes (and_parts (lists_few_vars q) (has_few_targets q) three.1).1

-- what may be read is there
pub record Ranged (db : Db) (may : Allowed) : Type 0 where
  pub variable : (key : RelKey) → may.variable key ≡ true → can_be_ranged_over db key ≡ true
  pub source : (key : RelKey) → may.source key ≡ true → can_be_ranged_over db key ≡ true

pub kept_there : (db : Db) (key : RelKey) → is_kept db key ≡ true → can_be_ranged_over db key ≡ true
unfolding info_at
kept_there db key h = go (range_at db key) h
  where
    go : (o : Option Range) → keeps_rows o ≡ true → is_some (option_map range_info o) ≡ true
    go None h = absurd (true≢false (sym h))
    go (Some r) h = refl

pub kept_ranged : (db : Db) → Ranged db (kept_alone db)
kept_ranged db = record { variable = kept_there db; source = kept_there db }

pub viewed_ranged : (db : Db) → Ranged db (kept_or_viewed db)
viewed_ranged db = record { variable = λ key h. h; source = λ key h. (and_parts (can_be_ranged_over db key) _ h).0 }

-- a query's aggregates are at most 65,536, and each has at most 65,535 grouping terms
pub record FewIn (q : Query) : Type 0 where
  pub number : length (query_aggregates q) ≤ 65536
  pub groups : Each (λ (g : QAgg). length g.by ≤ 65535) (query_aggregates q)

module _ (db : Db) (d : IsDatabase db) where
  -- a query without aggregates that stands: it is short, and its targets are of kinds
  module _ (q : Query) (few : length (vars_of q) ≤ 256) where
    vars_few : AreFew (var_kinds db q)
    vars_few = few_vars db d (vars_of q) few

    each_target : (ts : List Target) → list_all (λ t. has_kind (kind_of t.term (var_kinds db q)) t.kind) ts ≡ true → Each (λ (t : Target). term_is_spelled t.term ≡ true) ts → Each IsShort ts
    each_target [] h spelled = tt
    each_target (t ∷ ts) h spelled =
        let two = and_parts (has_kind (kind_of t.term (var_kinds db q)) t.kind) (list_all (λ t. has_kind (kind_of t.term (var_kinds db q)) t.kind) ts) h in
        let this = has_this (kind_of t.term (var_kinds db q)) t.kind two.0 in
        let own : IsKind this.0 = plain_lawful db (var_kinds db q) (kinds_vars db d (vars_of q)) t.term spelled.0 this.0 this.1 in
        ((kind_same this.0 t.kind this.2 own, plain_short (var_kinds db q) vars_few t.term (ap is_some this.1)), each_target ts two.1 spelled.1)

    pub plain_query_short : Each IsNamed (vars_of q) → length (targets_of q) ≤ 65535 → valid_query db q ≡ true → query_is_spelled q ≡ true → (query_is_short q ≡ true) × Each IsShort (targets_of q)
    plain_query_short named short stands spelled =
        let two = and_parts (list_all (λ t. has_kind (kind_of t.term (var_kinds db q)) t.kind) (targets_of q)) (kinds_fit (qual_of q) (var_kinds db q)) stands in
        let each = each_target (targets_of q) two.0 (spelled_parts q spelled).0 in
        (built_short q (omega (arith, few)) named short each (plain_qual_short (var_kinds db q) vars_few (qual_of q) two.1), each)

  -- ---- sources

  target_kinds_lawful : (ts : List Target) → Each IsShort ts → Each IsKind (map (λ (t : Target). t.kind) ts)
  target_kinds_lawful [] h = tt
  target_kinds_lawful (t ∷ ts) h = (h.0.0, target_kinds_lawful ts h.1)

  module _ (may : Allowed) (ranged : Ranged db may) where
    record GoodSource (s : AggSource) : Type 0 where
      short : source_is_short s ≡ true
      kinds : length (source_kinds db s) ≤ 256
      lawful : Each IsKind (source_kinds db s)

    source_good : (s : AggSource) → source_fits may db s ≡ true → source_is_spelled s ≡ true → GoodSource s
    unfolding source_fits
    source_good (Named key) fit spelled =
        let few = few_kinds_at db d key in record { short = ranged_named db d key (ranged.source key fit); kinds = omega (arith, few); lawful = kinds_stored db d key }
    source_good (tree.rows_of_query q) fit spelled =
        let one = and_parts (list_all may.source (vars_of q)) _ fit in
        let two = and_parts (nat_le (length (vars_of q)) 1) _ one.1 in
        let three = and_parts (has_few_targets q) (valid_query db q) two.1 in
        let vars = leb-true (length (vars_of q)) 1 two.0 in
        let targets = leb-true (length (targets_of q)) most_attributes three.0 in
        let named = each_to (λ key. may.source key ≡ true) IsNamed (λ key h. ranged_named db d key (ranged.source key h)) (vars_of q) (each_passes may.source (vars_of q) one.0) in
        let all = plain_query_short q (omega (arith, vars)) named (omega (arith, targets)) three.1 spelled in
        let same = length-map (targets_of q) (λ (t : Target). t.kind) in
        record { short = all.0; kinds = omega (arith, targets, same); lawful = target_kinds_lawful (targets_of q) all.1 }

    each_good : (gs : List QAgg) → list_all (λ g. source_fits may db g.source) gs ≡ true → Each IsSpelled gs → Each (λ (g : QAgg). is_count g.slot ≡ true) gs → Each (λ (g : QAgg). length g.by ≤ 65535) gs → Each (GoodAgg db) gs
    each_good [] fit spelled slots groups = tt
    each_good (g ∷ gs) fit spelled slots groups =
        let two = and_parts (source_fits may db g.source) (list_all (λ g. source_fits may db g.source) gs) fit in
        let own = source_good g.source two.0 spelled.0 in
        (record { slot = slots.0; source = own.short; groups = count_is (length g.by) groups.0; kinds = own.kinds; lawful = own.lawful }, each_good gs two.1 spelled.1 slots.1 groups.1)

    module _ (q : Query) (reads : reads_fit may db q ≡ true) (spelled : query_is_spelled q ≡ true) (few : FewIn q) where
      variables : list_all may.variable (vars_of q) ≡ true
      unfolding reads_fit
      variables = (and_parts (list_all may.variable (vars_of q)) _ reads).0

      sources : sources_fit may db q ≡ true
      unfolding reads_fit
      sources = (and_parts (sources_fit may db q) _ (and_parts (list_all may.variable (vars_of q)) _ reads).1).0

      slots : slots_count_up q ≡ true
      unfolding reads_fit
      slots = (and_parts (slots_count_up q) _ (and_parts (sources_fit may db q) _ (and_parts (list_all may.variable (vars_of q)) _ reads).1).1).0

      pub all_good : Each (GoodAgg db) (query_aggregates q)
      all_good = let number = few.number in each_good (query_aggregates q) sources (aggregates_spelled q spelled) (slots_below 0 (query_aggregates q) (omega (arith, number)) slots) few.groups

      pub targets_good : Each (λ (t : Target). Each (GoodAgg db) (term_aggregates t.term)) (targets_of q)
      targets_good = of_flat_map (GoodAgg db) (λ (t : Target). term_aggregates t.term) (targets_of q) (front_of (GoodAgg db) (flat_map (λ (t : Target). term_aggregates t.term) (targets_of q)) (qual_aggregates (qual_of q)) all_good)

      in_few : AreFew (var_kinds db q)
      in_few = let vars = few_vars_in may db q reads in few_vars db d (vars_of q) (omega (arith, vars))

      -- short, where its targets are of kinds and their terms have kinds, and the kinds in its qualification fit
      pub query_short : Each (λ (t : Target). IsKind t.kind × There (kind_in_query db t.term (var_kinds db q))) (targets_of q) → kinds_fit_in_query db (qual_of q) (var_kinds db q) ≡ true → query_is_short q ≡ true
      query_short kinds fit =
          let vars = few_vars_in may db q reads in let targets = few_targets_in may db q reads in
          built_short q (omega (arith, vars)) (each_to (λ key. may.variable key ≡ true) IsNamed (λ key h. ranged_named db d key (ranged.variable key h)) (vars_of q) (each_passes may.variable (vars_of q) variables))
          (omega (arith, targets)) (each_short (targets_of q) kinds targets_good)
          (qual_short_in db (var_kinds db q) in_few (qual_of q) fit (back_of (GoodAgg db) (flat_map (λ (t : Target). term_aggregates t.term) (targets_of q)) (qual_aggregates (qual_of q)) all_good))
        where
          each_short : (ts : List Target) → Each (λ (t : Target). IsKind t.kind × There (kind_in_query db t.term (var_kinds db q))) ts → Each (λ (t : Target). Each (GoodAgg db) (term_aggregates t.term)) ts → Each IsShort ts
          each_short [] kinds good = tt
          each_short (t ∷ ts) kinds good = ((kinds.0.0, short_in db (var_kinds db q) in_few t.term kinds.0.1 good.0), each_short ts kinds.1 good.1)

      -- the targets of a query whose kinds fit are of kinds
      pub targets_kinds : list_all (λ t. has_kind (kind_in_query db t.term (var_kinds db q)) t.kind) (targets_of q) ≡ true → Each (λ (t : Target). IsKind t.kind × There (kind_in_query db t.term (var_kinds db q))) (targets_of q)
      targets_kinds h = go (targets_of q) h (spelled_parts q spelled).0 targets_good
        where
          go : (ts : List Target) → list_all (λ t. has_kind (kind_in_query db t.term (var_kinds db q)) t.kind) ts ≡ true → Each (λ (t : Target). term_is_spelled t.term ≡ true) ts → Each (λ (t : Target). Each (GoodAgg db) (term_aggregates t.term)) ts
              → Each (λ (t : Target). IsKind t.kind × There (kind_in_query db t.term (var_kinds db q))) ts
          go [] h spelled good = tt
          go (t ∷ ts) h spelled good =
              let two = and_parts (has_kind (kind_in_query db t.term (var_kinds db q)) t.kind) (list_all (λ t. has_kind (kind_in_query db t.term (var_kinds db q)) t.kind) ts) h in
              let this = has_this (kind_in_query db t.term (var_kinds db q)) t.kind two.0 in
              let own : IsKind this.0 = kind_lawful db (var_kinds db q) (kinds_vars db d (vars_of q)) t.term spelled.0 good.0 this.0 this.1 in
              ((kind_same this.0 t.kind this.2 own, ap is_some this.1), go ts two.1 spelled.1 good.1)
