-- Queries and aggregates in which texts were put in have few levels more.
use Rattle.std.proofs.Common.{◌≡◌, refl, ◌∙◌, subst, inl, ℕ, suc, ◌+◌, ◌≤◌, ◌&&◌, max, true, List, [], ◌∷◌, map, length, Option, Some, None, arith}
use Rattle.std.specs.Prelude.{nat_le, flat_map}
use Rattle.std.specs.List.{AllByRecursion, list_all}
use Rattle.calculus.specs.declared.query.RelKey.{RelKey}
use Rattle.calculus.specs.declared.query.AggSource.{AggSource, Named}
use Rattle.calculus.specs.declared.query.QAgg.{QAgg}
use Rattle.calculus.specs.declared.query.QTerm.{QTerm, Int, Chars, Attr, Agg', items-the_row-QTerm, more_of-QAgg}
use Rattle.calculus.specs.declared.query.QQual.{QQual}
use Rattle.calculus.specs.declared.query.Target.{Target}
use Rattle.calculus.specs.declared.query.Query.{Query}
use Rattle.calculus.specs.Tree.{neg, abs, operation, concat, rows_of_query, term_row}
use Rattle.calculus.specs.TreeLevels.{term_levels, source_levels, greatest_term_levels, qual_levels, query_levels}
use Rattle.calculus.specs.Who.{Who}
use Rattle.calculus.specs.Database.{Db}
use Rattle.calculus.specs.IsDatabase.{IsDatabase, valid_query}
use Rattle.calculus.specs.Stored.{Range, Kept, Viewed, range_at}
use Rattle.calculus.specs.Rights.{Retrieve}
use Rattle.calculus.specs.QueryParts.{vars_of, targets_of, qual_of, query_aggregates, term_aggregates, qual_aggregates}
use Rattle.calculus.specs.Used.{used_in_aggregate}
use Rattle.calculus_laws.proofs.Members.{Within}
use Rattle.calculus_laws.proofs.SameRows.{all_at}
use Rattle.quel_meaning.specs.FitQueries.{kept_or_viewed, has_few_targets, source_fits}
use Rattle.view_text.specs.declared.expansion.Expansion.{Expansion}
use Rattle.view_text.specs.Replaced.{Substitution, replaced, replaced_in_qual, replaced_target, no_aggregate}
use Rattle.view_text.specs.Halves.{all_of}
use Rattle.view_text.specs.Expansions.{attr_term, used_expansion, query_expansions, expansions_vars, substituted_from, conditions_from}
use Rattle.view_text.specs.ExpansionOf.{expansion_within, expansion_of}
use Rattle.view_text.specs.Expanded.{substituted_query, expanded_plain, expanded_range, expanded_source, range_restriction, source_restriction, expanded_made}
use Rattle.tree_laws.proofs.Scopes.{both_true}
use Rattle.tree_laws.proofs.Values.{within_left, within_right}
use Rattle.tree_laws.proofs.Joined.{doubled, Low, low_all, low_more}
use Rattle.tree_laws.proofs.Replaced.{term_replaced, qual_replaced, none_made, greatest_terms, row_terms, terms_row, greatest_targets, query_is, built_is, some_qual}
use Rattle.tree_laws.proofs.Permits.{le_is, restriction_low}
use Rattle.tree_laws.proofs.Counted.{times, times_more, exponent, room, room_some, room_more, conditions_few, conditions_low, put_low, all_expansions, expansions_long}
use Rattle.tree_laws.proofs.TextLaws.{all_low, view_in, view_terms_low, view_qual_low, view_conditions_low, view_conditions_few, term_low, expansion_low, expansion_few}

-- ---- a query whose parts are low

targets_at_most : (made : QTerm → QTerm) (put : Substitution) (m : ℕ) (ts : List Target) → AllByRecursion (λ t. term_levels (replaced made put t.term) ≤ m) ts
    → greatest_targets (map (replaced_target made put) ts) ≤ m
targets_at_most made put m [] low = omega arith
targets_at_most made put m (t ∷ ts) low = let own = low.0 in let more = targets_at_most made put m ts low.1 in omega (arith, own, more)

-- the targets have at most `m` levels, the conditions at most `c`, and they are at most as many as one doubled `k` times
pub put_query_low : (made : QTerm → QTerm) (expansions : List Expansion) (q : Query) (m c k : ℕ)
    → greatest_targets (map (replaced_target made (substituted_from 0 expansions)) (targets_of q)) ≤ m → qual_levels (replaced_in_qual made (substituted_from 0 expansions) (qual_of q)) ≤ c
    → Low c (conditions_from 0 expansions) → suc (length (conditions_from 0 expansions)) ≤ doubled k → 1 ≤ c
    → query_levels (substituted_query made expansions q) ≤ 1 + max m (c + k)
put_query_low made expansions q m c k targets qual conditions few one =
    let all = low_all k c (replaced_in_qual made (substituted_from 0 expansions) (qual_of q) ∷ conditions_from 0 expansions) few one (qual, conditions) in
    let is = built_is (expansions_vars expansions) (map (replaced_target made (substituted_from 0 expansions)) (targets_of q)) (all_of (replaced_in_qual made (substituted_from 0 expansions) (qual_of q) ∷ conditions_from 0 expansions)) in
    omega (arith, all, is, targets)

-- the targets of a query, replaced
module _ (made : QTerm → QTerm) (put : Substitution) (m : ℕ) (gs : List QAgg) (puts : (v a : ℕ) → term_levels (put v a) ≤ suc m)
    (makes : (t : QTerm) → 2 ≤ term_levels t → Within (term_aggregates t) gs → term_levels (made t) ≤ term_levels t + m) where
  pub targets_replaced : (ts : List Target) → Within (flat_map (λ t. term_aggregates t.term) ts) gs → greatest_targets (map (replaced_target made put) ts) ≤ greatest_targets ts + m
  targets_replaced [] w = omega arith
  targets_replaced (t ∷ ts) w =
      let own = term_replaced made put m gs puts makes t.term (within_left (term_aggregates t.term) (flat_map (λ t. term_aggregates t.term) ts) gs w) in
      let more = targets_replaced ts (within_right (term_aggregates t.term) (flat_map (λ t. term_aggregates t.term) ts) gs w) in
      omega (arith, own, more)

-- a query of which terms and aggregates grow by at most `m`, with conditions of at most 1,008 levels
pub put_query_more : (made : QTerm → QTerm) (expansions : List Expansion) (q : Query) (m k : ℕ) → ((v a : ℕ) → term_levels (substituted_from 0 expansions v a) ≤ suc m)
    → ((t : QTerm) → 2 ≤ term_levels t → Within (term_aggregates t) (query_aggregates q) → term_levels (made t) ≤ term_levels t + m)
    → Low 1008 (conditions_from 0 expansions) → suc (length (conditions_from 0 expansions)) ≤ doubled k
    → query_levels (substituted_query made expansions q) ≤ 1 + max (greatest_targets (targets_of q) + m) (max (qual_levels (qual_of q) + m) 1008 + k)
put_query_more made expansions q m k puts makes conditions few =
    let targets = targets_replaced made (substituted_from 0 expansions) m (query_aggregates q) puts makes (targets_of q)
    (within_left (flat_map (λ t. term_aggregates t.term) (targets_of q)) (qual_aggregates (qual_of q)) (query_aggregates q) (λ g h. h)) in
    let qual = qual_replaced made (substituted_from 0 expansions) m (query_aggregates q) puts makes (qual_of q)
    (within_right (flat_map (λ t. term_aggregates t.term) (targets_of q)) (qual_aggregates (qual_of q)) (query_aggregates q) (λ g h. h)) in
    let less : 1008 ≤ max (qual_levels (qual_of q) + m) 1008 = omega arith in
    let one : 1 ≤ max (qual_levels (qual_of q) + m) 1008 = omega arith in
    let own : qual_levels (replaced_in_qual made (substituted_from 0 expansions) (qual_of q)) ≤ max (qual_levels (qual_of q) + m) 1008 = omega (arith, qual) in
    put_query_low made expansions q (greatest_targets (targets_of q) + m) (max (qual_levels (qual_of q) + m) 1008) k targets own
    (low_more 1008 (max (qual_levels (qual_of q) + m) 1008) less (conditions_from 0 expansions) conditions) few one

-- ---- how many conditions there are

exponent_is : exponent 16 ≡ 72
unfolding exponent
exponent_is = refl

-- one expansion of a base relation or a view
one_few : (k : ℕ) → 256 ≤ doubled k → suc (times 1 (doubled k)) ≤ doubled (suc k)
unfolding times doubled
one_few k some = omega (arith, some)

-- fifty texts
pub fifty_few : (k : ℕ) → 256 ≤ doubled k → suc (times 50 (doubled k)) ≤ doubled (suc (suc (suc (suc (suc (suc k))))))
unfolding times doubled
fifty_few k some = omega (arith, some)

two_doubled : doubled 1 ≡ 2
unfolding doubled
two_doubled = refl

-- the greater of two numbers grows no more than they do
more_of_both : (m a b c e : ℕ) → a ≤ c + m → b ≤ e + m → max a b ≤ max c e + m
more_of_both m a b c e h k = omega (arith, h, k)

-- an aggregate grows no more than its parts
parts_low : (source source_put arg by by_put link link_put qual qual_put : ℕ) → source_put ≤ source + 1081 → by_put ≤ by + 1081 → link_put ≤ link + 1081 → qual_put ≤ qual + 1081
    → 1 + (1 + max source_put (max arg (max by_put (max link_put qual_put)))) ≤ 1 + (1 + max source (max arg (max by (max link qual)))) + 1082
parts_low source source_put arg by by_put link link_put qual qual_put over bys links quals =
    let ends = more_of_both 1081 link_put qual_put link qual links quals in
    let lists = more_of_both 1081 by_put (max link_put qual_put) by (max link qual) bys ends in
    let same : arg ≤ arg + 1081 = omega arith in
    let inner = more_of_both 1081 arg (max by_put (max link_put qual_put)) arg (max by (max link qual)) same lists in
    let all = more_of_both 1081 source_put (max arg (max by_put (max link_put qual_put))) source (max arg (max by (max link qual))) over inner in
    grown (max source_put (max arg (max by_put (max link_put qual_put)))) (max source (max arg (max by (max link qual)))) all
  where
    grown : (x y : ℕ) → x ≤ y + 1081 → 1 + (1 + x) ≤ 1 + (1 + y) + 1082
    grown x y h = omega (arith, h)

-- ---- what an aggregate is over

module _ (db : Db) (d : IsDatabase db) (who : Who) where
  pub used_term_low : (key : RelKey) (attrs : List ℕ) → (a : ℕ) → term_levels (attr_term (used_expansion (expansion_of db who) key attrs) a) ≤ 1001
  used_term_low key [] a = omega arith
  used_term_low key (b ∷ attrs) a = term_low db d who key (b ∷ attrs) a

  pub used_expansion_low : (key : RelKey) (attrs : List ℕ) → Low 1008 (used_expansion (expansion_of db who) key attrs).conditions
  used_expansion_low key [] = tt
  used_expansion_low key (b ∷ attrs) = expansion_low db d who key (b ∷ attrs)

  pub used_expansion_few : (key : RelKey) (attrs : List ℕ) → length (used_expansion (expansion_of db who) key attrs).conditions ≤ room 16
  used_expansion_few key [] = omega arith
  used_expansion_few key (b ∷ attrs) = expansion_few db d who key (b ∷ attrs)

  -- the expansions of a query's variables
  pub puts_low : (q : Query) (v a : ℕ) → term_levels (substituted_from 0 (query_expansions (expansion_of db who) q) v a) ≤ 1001
  puts_low q v a =
      let two : 2 ≤ 1001 = omega arith in
      put_low 1001 (query_expansions (expansion_of db who) q) two (all_expansions (λ t. (a : ℕ) → term_levels (attr_term t a) ≤ 1001) (expansion_of db who) used_term_low q 0 (vars_of q)) 0 v a

  pub query_conditions_low : (q : Query) → Low 1008 (conditions_from 0 (query_expansions (expansion_of db who) q))
  query_conditions_low q = conditions_low 1008 (query_expansions (expansion_of db who) q) (all_expansions (λ t. Low 1008 t.conditions) (expansion_of db who) used_expansion_low q 0 (vars_of q)) 0

  pub query_conditions_few : (q : Query) → length (conditions_from 0 (query_expansions (expansion_of db who) q)) ≤ times (length (vars_of q)) (room 16)
  query_conditions_few q =
      let few = conditions_few (room 16) (query_expansions (expansion_of db who) q) (all_expansions (λ t. length t.conditions ≤ room 16) (expansion_of db who) used_expansion_few q 0 (vars_of q)) 0 in
      subst (λ n. length (conditions_from 0 (query_expansions (expansion_of db who) q)) ≤ times n (room 16)) (expansions_long (expansion_of db who) q 0 (vars_of q)) few

  -- a view through one level less
  range_low : (key : RelKey) (r : Option Range) → range_at db key ≡ r → source_levels (expanded_range db who key r) ≤ 1081
  range_low key None e = omega arith
  range_low key (Some (Kept relation)) e = omega arith
  range_low key (Some (Viewed view)) e =
      let inside = view_in db d key view e in
      let below = all_low db d who 15 in
      let near : 15 ≤ 16 = omega arith in
      let nearer : 15 ≤ 17 = omega arith in
      let expansions = query_expansions (expansion_within 15 db who) view.query in
      let targets = targets_at_most no_aggregate (substituted_from 0 expansions) 1001 (targets_of view.query) (view_terms_low db d who 15 (expansion_within 15 db who) below view inside near) in
      let own = view_qual_low db d who 15 (expansion_within 15 db who) below view inside near in
      let qual : qual_levels (replaced_in_qual no_aggregate (substituted_from 0 expansions) (qual_of view.query)) ≤ 1008 = omega (arith, own) in
      let conditions = view_conditions_low db d who 15 (expansion_within 15 db who) below view inside nearer in
      let counted = view_conditions_few db d who 15 (expansion_within 15 db who) below view inside in
      let more = room_more 15 in
      let few : suc (length (conditions_from 0 expansions)) ≤ room 16 = omega (arith, counted, more) in
      let one : 1 ≤ 1008 = omega arith in
      let low = put_query_low no_aggregate expansions view.query 1001 1008 (exponent 16) targets qual conditions few one in
      let is = exponent_is in
      omega (arith, low, is)

  named_low : (key : RelKey) → source_levels (expanded_range db who key (range_at db key)) ≤ 1081
  named_low key = range_low key (range_at db key) refl

  plain_low : (q : Query) → length (vars_of q) ≤ 1 → query_levels (expanded_plain (expansion_of db who) q) ≤ query_levels q + 1081
  plain_low q short =
      let expansions = query_expansions (expansion_of db who) q in
      let counted = query_conditions_few q in
      let one = times_more (length (vars_of q)) 1 (room 16) short in
      let some = room_some 16 in
      let double = one_few (exponent 16) some in
      let few : suc (length (conditions_from 0 expansions)) ≤ doubled (suc (exponent 16)) = omega (arith, counted, one, double) in
      let low = put_query_more no_aggregate expansions q 1000 (suc (exponent 16)) (puts_low q) (none_made 1000 (query_aggregates q)) (query_conditions_low q) few in
      let is = exponent_is in let before = query_is q in let deep = some_qual (qual_of q) in
      omega (arith, low, is, before, deep)

  pub source_low : (source : AggSource) → source_fits (kept_or_viewed db) db source ≡ true → source_levels (expanded_source db who source) ≤ source_levels source + 1081
  unfolding source_fits
  source_low (Named key) h = let low = named_low key in omega (arith, low)
  source_low (rows_of_query q) h =
      let parts = both_true (list_all (kept_or_viewed db).source (vars_of q)) (nat_le (length (vars_of q)) 1 && (has_few_targets q && valid_query db q)) h in
      let short = le_is (length (vars_of q)) 1 (both_true (nat_le (length (vars_of q)) 1) (has_few_targets q && valid_query db q) parts.1).0 in
      plain_low q short

  -- ---- aggregates

  range_restriction_low : (attrs : List ℕ) (key : RelKey) (r : Option Range) → Low 1008 (range_restriction db who attrs key r) × (length (range_restriction db who attrs key r) ≤ 1)
  range_restriction_low attrs key None = restriction_low db d who Retrieve attrs key
  range_restriction_low attrs key (Some (Kept relation)) = restriction_low db d who Retrieve attrs key
  range_restriction_low attrs key (Some (Viewed view)) = (tt, omega arith)

  source_restriction_low : (attrs : List ℕ) (source : AggSource) → Low 1008 (source_restriction db who attrs source) × (length (source_restriction db who attrs source) ≤ 1)
  source_restriction_low attrs (Named key) = range_restriction_low attrs key (range_at db key)
  source_restriction_low attrs (rows_of_query q) = (tt, omega arith)

  -- a qualification joined with one more condition at most
  pub with_one_low : (q : QQual) (conditions : List QQual) → Low 1008 conditions → length conditions ≤ 1 → qual_levels (all_of (q ∷ conditions)) ≤ qual_levels q + 1009
  with_one_low q conditions low short =
      let some = some_qual q in
      let less : 1008 ≤ qual_levels q + 1008 = omega arith in
      let one : 1 ≤ qual_levels q + 1008 = omega arith in
      let own : qual_levels q ≤ qual_levels q + 1008 = omega arith in
      let twice = two_doubled in
      let few : length (q ∷ conditions) ≤ doubled 1 = omega (arith, short, twice) in
      let all = low_all 1 (qual_levels q + 1008) (q ∷ conditions) few one (own, low_more 1008 (qual_levels q + 1008) less conditions low) in
      omega (arith, all)

  module _ (put : Substitution) (puts : (v a : ℕ) → term_levels (put v a) ≤ 1001) where
    links_low : (link : List QTerm) → greatest_terms (map (replaced no_aggregate put) link) ≤ greatest_terms link + 1000
    links_low [] = omega arith
    links_low (t ∷ link) =
        let own = term_replaced no_aggregate put 1000 (term_aggregates t) puts (none_made 1000 (term_aggregates t)) t (λ g h. h) in
        let more = links_low link in omega (arith, own, more)

    made_low : (gs : List QAgg) → list_all (λ g. source_fits (kept_or_viewed db) db g.source) gs ≡ true
        → (t : QTerm) → 2 ≤ term_levels t → Within (term_aggregates t) gs → term_levels (expanded_made db who put t) ≤ term_levels t + 1082
    unfolding term_aggregates
    made_low gs fit (Int n) two w = omega arith
    made_low gs fit (Chars bytes) two w = omega arith
    made_low gs fit (Attr var attr) two w = omega arith
    made_low gs fit (neg t) two w = omega (arith, two)
    made_low gs fit (abs t) two w = omega (arith, two)
    made_low gs fit (operation op t u) two w = omega (arith, two)
    made_low gs fit (concat t u) two w = omega (arith, two)
    made_low gs fit (Agg' mark (more_of-QAgg slot op source arg bys by links link qual rest)) two w =
        let g : QAgg = record { slot = slot; op = op; source = source; arg = arg; by = items-the_row-QTerm _ by; link = items-the_row-QTerm _ link; qual = qual } in
        let stands = all_at (λ g. source_fits (kept_or_viewed db) db g.source) gs g (w g (inl refl)) fit in
        let over = source_low source stands in
        let bys_are = terms_row (items-the_row-QTerm _ by) ∙ row_terms by in
        let links_are = terms_row (map (replaced no_aggregate put) (items-the_row-QTerm _ link)) in
        let links_were = row_terms link in
        let linked = links_low (items-the_row-QTerm _ link) in
        let restriction = source_restriction_low (used_in_aggregate g) source in
        let joined = with_one_low qual (source_restriction db who (used_in_aggregate g) source) restriction.0 restriction.1 in
        let bys_low : greatest_term_levels (term_row (items-the_row-QTerm _ by)) ≤ greatest_term_levels by + 1081 = omega (arith, bys_are) in
        let links_put : greatest_term_levels (term_row (map (replaced no_aggregate put) (items-the_row-QTerm _ link))) ≤ greatest_term_levels link + 1081 = omega (arith, links_are, links_were, linked) in
        let qual_put : qual_levels (all_of (qual ∷ source_restriction db who (used_in_aggregate g) source)) ≤ qual_levels qual + 1081 = omega (arith, joined) in
        parts_low (source_levels source) (source_levels (expanded_source db who source)) (term_levels arg) (greatest_term_levels by) (greatest_term_levels (term_row (items-the_row-QTerm _ by)))
        (greatest_term_levels link) (greatest_term_levels (term_row (map (replaced no_aggregate put) (items-the_row-QTerm _ link)))) (qual_levels qual)
        (qual_levels (all_of (qual ∷ source_restriction db who (used_in_aggregate g) source))) over bys_low links_put qual_put

  -- ---- queries

  -- a query over these expansions, of which the terms have at most 1,001 levels and the conditions at most 1,008
  pub over_low : (expansions : List Expansion) (q : Query) → list_all (λ g. source_fits (kept_or_viewed db) db g.source) (query_aggregates q) ≡ true
      → ((v a : ℕ) → term_levels (substituted_from 0 expansions v a) ≤ 1001) → Low 1008 (conditions_from 0 expansions) → length (conditions_from 0 expansions) ≤ times 50 (room 16)
      → query_levels (substituted_query (expanded_made db who (substituted_from 0 expansions)) expansions q) ≤ query_levels q + 1160
  over_low expansions q fit puts conditions counted =
      let some = room_some 16 in
      let fold = fifty_few (exponent 16) some in
      let few : suc (length (conditions_from 0 expansions)) ≤ doubled (suc (suc (suc (suc (suc (suc (exponent 16))))))) = omega (arith, counted, fold) in
      let low = put_query_more (expanded_made db who (substituted_from 0 expansions)) expansions q 1082 (suc (suc (suc (suc (suc (suc (exponent 16))))))) (wider puts) (made_low (substituted_from 0 expansions) puts (query_aggregates q) fit) conditions few in
      let is = exponent_is in let before = query_is q in let deep = some_qual (qual_of q) in
      omega (arith, low, is, before, deep)
    where
      wider : ((v a : ℕ) → term_levels (substituted_from 0 expansions v a) ≤ 1001) → (v a : ℕ) → term_levels (substituted_from 0 expansions v a) ≤ 1083
      wider puts v a = let own = puts v a in omega (arith, own)
