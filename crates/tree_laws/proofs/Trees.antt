-- Trees in which views, permits and rules were put in have few levels more.
use Rattle.std.proofs.Common.{◌≡◌, refl, ap, ℕ, suc, ◌+◌, ◌≤◌, ◌==◌, ◌&&◌, max, Bool, true, false, List, [], ◌∷◌, ◌++◌, map, length, Option, Some, None, arith}
use Rattle.std.specs.List.{AllByRecursion, list_all, enumerate_from}
use Rattle.calculus.specs.declared.query.RelKey.{RelKey}
use Rattle.calculus.specs.declared.query.QQual.{QQual}
use Rattle.calculus.specs.declared.query.Query.{Query}
use Rattle.calculus.specs.declared.request.Asked.{Asked}
use Rattle.calculus.specs.declared.request.Update.{Update}
use Rattle.calculus.specs.declared.request.UpdateOp.{UpdateOp}
use Rattle.calculus.specs.declared.request.UpdateOp.TheVariants as op
use Rattle.calculus.specs.declared.request.Checked.{Checked}
use Rattle.calculus.specs.declared.request.Checked.TheVariants as checked
use Rattle.calculus.specs.Limits.{most_expanded_variables}
use Rattle.calculus.specs.TreeLevels.{term_levels, qual_levels, query_levels}
use Rattle.calculus.specs.Who.{Who}
use Rattle.calculus.specs.Database.{Db, rules_on}
use Rattle.calculus.specs.IsDatabase.{IsDatabase}
use Rattle.calculus.specs.Pairs.{ruled}
use Rattle.calculus.specs.Rights.{Right, Retrieve, Append}
use Rattle.calculus.specs.QueryParts.{vars_of}
use Rattle.calculus.specs.Used.{used_in_query}
use Rattle.calculus.specs.Assignments.{changed}
use Rattle.quel_meaning.specs.Fit.{update_fits, suits, fits, is_fit_with_views}
use Rattle.quel_meaning.specs.FitQueries.{kept_or_viewed, sources_fit, slots_count_up, lists_few_vars, has_few_targets, reads_fit, asked_fits}
use Rattle.quel_meaning.specs.Meaning.{ruled_tree}
use Rattle.quel_meaning.specs.Planned.{greatest}
use Rattle.quel_meaning.specs.SpelledTree.{tree_is_spelled}
use Rattle.view_text.specs.declared.expansion.Expansion.{Expansion}
use Rattle.view_text.specs.Expansions.{attr_term, used_expansion}
use Rattle.view_text.specs.ExpansionOf.{restriction, expansion_of}
use Rattle.view_text.specs.Expanded.{expanded_over, expanded, read_restriction, changed_expansion, update_expansion, update_expansions, append_restriction, expanded_update, expanded_asked, expanded_tree}
use Rattle.tree_laws.proofs.Scopes.{both_true}
use Rattle.reading_laws.specs.Levels.{tree_levels}
use Rattle.tree_laws.proofs.Joined.{Low, low_append}
use Rattle.tree_laws.proofs.Permits.{le_is, restriction_low, rules_low}
use Rattle.tree_laws.proofs.Counted.{times_more, room, room_some, conditions_few, conditions_low, put_low}
use Rattle.tree_laws.proofs.QueryLevels.{used_term_low, used_expansion_low, used_expansion_few, puts_low, query_conditions_low, query_conditions_few, with_one_low, over_low}

module _ (db : Db) (d : IsDatabase db) (who : Who) where
  -- a query that reads what is allowed lists few variables, and the sources of its aggregates fit
  reads_parts : (q : Query) → reads_fit (kept_or_viewed db) db q ≡ true → (sources_fit (kept_or_viewed db) db q ≡ true) × (length (vars_of q) ≤ 50)
  unfolding reads_fit
  reads_parts q h =
      let one = both_true (list_all (kept_or_viewed db).variable (vars_of q)) (sources_fit (kept_or_viewed db) db q && (slots_count_up q && (lists_few_vars q && has_few_targets q))) h in
      let two = both_true (sources_fit (kept_or_viewed db) db q) (slots_count_up q && (lists_few_vars q && has_few_targets q)) one.1 in
      let three = both_true (slots_count_up q) (lists_few_vars q && has_few_targets q) two.1 in
      let four = both_true (lists_few_vars q) (has_few_targets q) three.1 in
      (two.0, le_is (length (vars_of q)) most_expanded_variables four.0)

  -- ---- queries

  pub query_low : (q : Query) → reads_fit (kept_or_viewed db) db q ≡ true → query_levels (expanded db who q) ≤ query_levels q + 1160
  unfolding expanded
  query_low q h =
      let parts = reads_parts q h in
      let counted = query_conditions_few db d who q in
      let more = times_more (length (vars_of q)) 50 (room 16) parts.1 in
      over_low db d who (map (λ p. used_expansion (expansion_of db who) p.1 (used_in_query p.0 q)) (enumerate_from 0 (vars_of q))) q parts.0
      (puts_low db d who q) (query_conditions_low db d who q) (omega (arith, counted, more))

  asked_low : (asked : List Asked) → list_all (asked_fits (kept_or_viewed db) db) asked ≡ true
      → greatest (map (λ (a : Asked). query_levels a.query) (map (expanded_asked db who) asked)) ≤ greatest (map (λ (a : Asked). query_levels a.query) asked) + 1160
  unfolding asked_fits
  asked_low [] h = omega arith
  asked_low (a ∷ asked) h =
      let parts = both_true (asked_fits (kept_or_viewed db) db a) (list_all (asked_fits (kept_or_viewed db) db) asked) h in
      let own = query_low a.query (both_true (reads_fit (kept_or_viewed db) db a.query) _ parts.0).0 in
      let more = asked_low asked parts.1 in
      omega (arith, own, more)

  -- ---- updates

  -- an expansion of which the terms have at most 1,001 levels and the conditions at most 1,008, and are not too many
  record IsLowExpansion (expansion : Expansion) : Type 0 where
    pub terms : (a : ℕ) → term_levels (attr_term expansion a) ≤ 1001
    pub conditions : Low 1008 expansion.conditions
    pub few : length expansion.conditions ≤ room 16

  used_is_low : (key : RelKey) (attrs : List ℕ) → IsLowExpansion (used_expansion (expansion_of db who) key attrs)
  used_is_low key attrs = record { terms = used_term_low db d who key attrs; conditions = used_expansion_low db d who key attrs; few = used_expansion_few db d who key attrs }

  read_low : (attrs : List ℕ) (key : RelKey) → Low 1008 (read_restriction db who attrs key) × (length (read_restriction db who attrs key) ≤ 1)
  read_low [] key = (tt, omega arith)
  read_low (a ∷ attrs) key = restriction_low db d who Retrieve (a ∷ attrs) key

  long_both : (xs ys : List QQual) → length (xs ++ ys) ≡ length xs + length ys
  long_both [] ys = omega arith
  long_both (x ∷ xs) ys = let more = long_both xs ys in omega (arith, more)

  changed_is_low : (right : Right) (places read : List ℕ) (key : RelKey) → IsLowExpansion (changed_expansion db who right places read key)
  changed_is_low right places read key =
      let may = restriction_low db d who right places key in
      let reads = read_low read key in
      let own = may.1 in let more = reads.1 in
      let long = long_both (restriction db who right places key) (read_restriction db who read key) in
      let some = room_some 16 in
      record {
        terms = λ a. omega arith;
        conditions = low_append 1008 (restriction db who right places key) (read_restriction db who read key) may.0 reads.0;
        few = omega (arith, own, more, long, some);
      }

  update_is_low : (u : Update) (v : ℕ) (key : RelKey) → IsLowExpansion (update_expansion db who u v key)
  update_is_low u v key = by (changed u)
    where
      at : (right : Right) (b : Bool) → IsLowExpansion (elim b [
        | true ↦ changed_expansion db who right u.places (used_in_query v u.query) key
        | false ↦ used_expansion (expansion_of db who) key (used_in_query v u.query)
      ])
      at right true = changed_is_low right u.places (used_in_query v u.query) key
      at right false = used_is_low key (used_in_query v u.query)

      by : (c : Option (ℕ × Right)) → IsLowExpansion (elim c [
        | None ↦ used_expansion (expansion_of db who) key (used_in_query v u.query)
        | Some c ↦ elim (c.0 == v) [
          | true ↦ changed_expansion db who c.1 u.places (used_in_query v u.query) key
          | false ↦ used_expansion (expansion_of db who) key (used_in_query v u.query)
        ]
      ])
      by None = used_is_low key (used_in_query v u.query)
      by (Some c) = at c.1 (c.0 == v)

  update_all : (P : Expansion → Type 0) (u : Update) → ((expansion : Expansion) → IsLowExpansion expansion → P expansion) → (k : ℕ) (keys : List RelKey)
      → AllByRecursion P (map (λ p. update_expansion db who u p.0 p.1) (enumerate_from k keys))
  update_all P u holds k [] = tt
  update_all P u holds k (key ∷ keys) = (holds (update_expansion db who u k key) (update_is_low u k key), update_all P u holds (k + 1) keys)

  update_long : (u : Update) (k : ℕ) (keys : List RelKey) → length (map (λ p. update_expansion db who u p.0 p.1) (enumerate_from k keys)) ≡ length keys
  update_long u k [] = refl
  update_long u k (key ∷ keys) = ap suc (update_long u (k + 1) keys)

  update_query_low : (u : Update) → reads_fit (kept_or_viewed db) db u.query ≡ true → query_levels (expanded_over db who (update_expansions db who u) u.query) ≤ query_levels u.query + 1160
  update_query_low u h =
      let parts = reads_parts u.query h in
      let two : 2 ≤ 1001 = omega arith in
      let counted = conditions_few (room 16) (update_expansions db who u) (update_all (λ t. length t.conditions ≤ room 16) u (λ t low. low.few) 0 (vars_of u.query)) 0 in
      let long = update_long u 0 (vars_of u.query) in
      let short : length (update_expansions db who u) ≤ 50 = omega (arith, long, parts.1) in
      let more = times_more (length (update_expansions db who u)) 50 (room 16) short in
      over_low db d who (update_expansions db who u) u.query parts.0
      (put_low 1001 (update_expansions db who u) two (update_all (λ t. (a : ℕ) → term_levels (attr_term t a) ≤ 1001) u (λ t low. low.terms) 0 (vars_of u.query)) 0)
      (conditions_low 1008 (update_expansions db who u) (update_all (λ t. Low 1008 t.conditions) u (λ t low. low.conditions) 0 (vars_of u.query)) 0)
      (omega (arith, counted, more))

  new_cut_low : (u : Update) (o : UpdateOp) → qual_levels (append_restriction db who u o) ≤ qual_levels u.new_cut + 1160
  new_cut_low u op.Append =
      let may = restriction_low db d who Append u.places u.rel in
      let low = with_one_low db d who u.new_cut (restriction db who Append u.places u.rel) may.0 may.1 in omega (arith, low)
  new_cut_low u op.Replace = omega arith
  new_cut_low u op.Delete = omega arith
  new_cut_low u op.Into = omega arith

  update_low : (u : Update) → update_fits (kept_or_viewed db) db u ≡ true → tree_levels (checked.Update (expanded_update db who u)) ≤ tree_levels (checked.Update u) + 1160
  unfolding update_fits expanded_update tree_levels
  update_low u h =
      let query = update_query_low u (both_true (reads_fit (kept_or_viewed db) db u.query) _ h).0 in
      let restriction = new_cut_low u u.op in
      omega (arith, query, restriction)

  -- ---- rules

  with_rules_low : (rules checks : List QQual) → Low 1001 rules → greatest (map qual_levels (rules ++ checks)) ≤ max (greatest (map qual_levels checks)) 1001
  with_rules_low [] checks low = omega arith
  with_rules_low (q ∷ rules) checks low = let own = low.0 in let more = with_rules_low rules checks low.1 in omega (arith, own, more)

  ruled_low : (u : Update) (o : UpdateOp) → tree_levels (checked.Update (ruled db (record u { op = o }))) ≤ max (tree_levels (checked.Update u)) 1001
  unfolding ruled tree_levels
  ruled_low u op.Append = let low = with_rules_low (map (λ r. r.qual) (rules_on db u.rel)) u.checks (rules_low db d u.rel db.rules d.rules_stand d.storable_rules) in omega (arith, low)
  ruled_low u op.Replace = let low = with_rules_low (map (λ r. r.qual) (rules_on db u.rel)) u.checks (rules_low db d u.rel db.rules d.rules_stand d.storable_rules) in omega (arith, low)
  ruled_low u op.Delete = let low = with_rules_low (map (λ r. r.qual) (rules_on db u.rel)) u.checks (rules_low db d u.rel db.rules d.rules_stand d.storable_rules) in omega (arith, low)
  ruled_low u op.Into = omega arith

  -- ---- trees

  suits_low : (user : List ℕ) (tree : Checked) → suits (kept_or_viewed db) db user tree ≡ true → tree_levels (expanded_tree db who tree) ≤ tree_levels tree + 1160
  unfolding suits expanded_tree tree_levels
  suits_low user (checked.Answer asked) h = asked_low asked h
  suits_low user (checked.Update u) h = update_low u h
  suits_low user (checked.Utility work) h = omega arith

  rules_more : (tree : Checked) → tree_levels (ruled_tree db tree) ≤ max (tree_levels tree) 1001
  unfolding ruled_tree
  rules_more (checked.Answer asked) = omega arith
  rules_more (checked.Update u) = ruled_low u u.op
  rules_more (checked.Utility work) = omega arith

  pub expanded_low : (user : List ℕ) (tree : Checked) → is_fit_with_views db user tree ≡ true → tree_levels (expanded_tree db who tree) ≤ tree_levels tree + 1160
  unfolding fits
  expanded_low user tree h = suits_low user tree (both_true (tree_is_spelled tree) (suits (kept_or_viewed db) db user tree) h).1

  pub ruled_tree_low : (user : List ℕ) (tree : Checked) → is_fit_with_views db user tree ≡ true → tree_levels (ruled_tree db (expanded_tree db who tree)) ≤ tree_levels tree + 1160
  ruled_tree_low user tree h =
      let put = expanded_low user tree h in
      let rules = rules_more (expanded_tree db who tree) in
      omega (arith, put, rules)
