-- A tree of which nothing is too much stays so once views, permits and rules are put in.
use Rattle.std.proofs.Common.{◌≡◌, refl, sym, ap, ◌∙◌, subst, ℕ, ◌+◌, ◌≤◌, true, ◌&&◌, List, [], ◌∷◌, ◌++◌, map, length, length-append, arith}
use Rattle.std.specs.Prelude.{nat_le}
use Rattle.std.specs.List.{list_all, enumerate_from}
use Rattle.std.proofs.lemmas.Bool.{and_parts, leb-true}
use Rattle.std.proofs.lemmas.List.{length-map}
use Rattle.calculus.specs.declared.query.QAgg.{QAgg}
use Rattle.calculus.specs.declared.query.Query.{Query}
use Rattle.calculus.specs.declared.query.RelKey.{RelKey}
use Rattle.calculus.specs.declared.request.Asked.{Asked}
use Rattle.calculus.specs.declared.request.Checked.{Checked}
use Rattle.calculus.specs.declared.request.Checked.TheVariants as checked
use Rattle.calculus.specs.declared.request.Update.{Update}
use Rattle.calculus.specs.declared.request.UpdateOp.{UpdateOp}
use Rattle.calculus.specs.declared.request.UpdateOp.TheVariants as op
use Rattle.calculus.specs.declared.schema.Rule.{Rule}
use Rattle.calculus.specs.Database.{Db, Relation, relation_at, is_relation, rules_on}
use Rattle.calculus.specs.IsDatabase.{IsDatabase}
use Rattle.calculus.specs.Keys.{same_key}
use Rattle.calculus.specs.Limits.{most_rules, most_expanded_variables}
use Rattle.calculus.specs.Pairs.{ruled}
use Rattle.calculus.specs.QueryParts.{vars_of, targets_of, qual_of, qual_aggregates, query_aggregates}
use Rattle.calculus.specs.Sizes.{update_expanded_variables}
use Rattle.calculus.specs.Who.{Who}
use Rattle.quel_meaning.specs.Fit.{update_kinds_fit, places_fit, checks_fit, relation_fits, update_fits, suits, is_fit_with_views, fits}
use Rattle.quel_meaning.specs.FitQueries.{Allowed, kept_alone, kept_or_viewed, reads_fit, asked_fits}
use Rattle.quel_meaning.specs.KindsInQueries.{assignments_fit}
use Rattle.quel_meaning.specs.Meaning.{ruled_tree}
use Rattle.quel_meaning.specs.SpelledTree.{tree_is_spelled}
use Rattle.quel_meaning.proofs.DatabaseFacts.{found_passes}
use Rattle.quel_meaning.proofs.Each.{Each, in_map, and}
use Rattle.quel_meaning.proofs.Keys.{find_passes, same_keys}
use Rattle.quel_meaning.proofs.Slots.{in_targets}
use Rattle.view_text.specs.declared.expansion.Expansion.{Expansion}
use Rattle.view_text.specs.Replaced.{Substitution, replaced_in_qual}
use Rattle.view_text.specs.Scoped.{is_within, is_qual_within}
use Rattle.view_text.specs.Expansions.{expansions_vars, query_expansions, substituted_from, conditions_from}
use Rattle.view_text.specs.ExpansionOf.{expansion_of}
use Rattle.view_text.specs.Expanded.{expanded_aggregate, expanded_made, expanded_over, expanded, update_expansion, update_expansions, expanded_update, expanded_asked, expanded_tree}
use Rattle.tree_laws.proofs.Changing.{update_named}
use Rattle.tree_laws.proofs.Queries.{targets_of-put}
use Rattle.tree_laws.proofs.Denoted.{all_denoted}
use Rattle.tree_laws.proofs.Within.{all_scoped, put_within, conditions_are_within}
use Rattle.tree_laws.proofs.FitPut.{targets_made, qual_made, all_of_made, conditions_made}
use Rattle.tree_laws.proofs.FitAsked.{asked_put}
use Rattle.tree_laws.proofs.FitRuled.{suits_ruled}
use Rattle.tree_laws.proofs.FitTree.{update_put}
use Rattle.tree_laws.proofs.FitWithin.{each_scoped}
use Rattle.spelling_laws.specs.Short.{tree_is_short}
use Rattle.spelling_laws.proofs.Numbers.{there_is}
use Rattle.spelling_laws.proofs.Queries.{FewIn, kept_ranged}
use Rattle.spelling_laws.proofs.Trees.{FewAsked, FewTree, fewer, tree_short}

module _ (db : Db) (d : IsDatabase db) (who : Who) where
  -- ---- queries

  module _ (q : Query) (texts : List Expansion) (scoped : all_scoped texts ≡ true) where
    abbrev put : Substitution
    put = substituted_from 0 texts

    abbrev total : ℕ
    total = length (expansions_vars texts)

    room : 0 + length (expansions_vars texts) ≤ total
    room = omega arith

    within : (v a : ℕ) → is_within total (put v a) ≡ true
    within v a = put_within texts 0 total room scoped v a

    conditions_within : list_all (is_qual_within total) (conditions_from 0 texts) ≡ true
    conditions_within = conditions_are_within texts 0 total room scoped

    -- each aggregate becomes one
    aggregates_over : query_aggregates (expanded_over db who texts q) ≡ map (expanded_aggregate db who put) (query_aggregates q)
    aggregates_over =
        (λ i. in_targets (targets_of-put (expanded_made db who put) texts q i) ++ all_of_made (replaced_in_qual (expanded_made db who put) put (qual_of q) ∷ conditions_from 0 texts) i)
        ∙ (λ i. targets_made db who put total within (targets_of q) i ++ (qual_made db who put total within (qual_of q) i ++ conditions_made total (conditions_from 0 texts) conditions_within i))
        ∙ ap (λ l. map (expanded_aggregate db who put) (in_targets (targets_of q)) ++ l) (behind_none (map (expanded_aggregate db who put) (qual_aggregates (qual_of q))))
        ∙ map_behind (expanded_aggregate db who put) (in_targets (targets_of q)) (qual_aggregates (qual_of q))
      where
        behind_none : {X : Type 0} (xs : List X) → xs ++ [] ≡ xs
        behind_none [] = refl
        behind_none (x ∷ xs) = ap (λ l. x ∷ l) (behind_none xs)

        map_behind : {X Y : Type 0} (f : X → Y) (xs ys : List X) → map f xs ++ map f ys ≡ map f (xs ++ ys)
        map_behind f [] ys = refl
        map_behind f (x ∷ xs) ys = ap (λ l. f x ∷ l) (map_behind f xs ys)

    few_over : FewIn q → FewIn (expanded_over db who texts q)
    few_over few =
        let number = few.number in let same = length-map (query_aggregates q) (expanded_aggregate db who put) in
        record {
          number = subst (λ gs. length gs ≤ 65536) (sym aggregates_over) (omega (arith, number, same));
          groups = subst (λ gs. Each (λ (g : QAgg). length g.by ≤ 65535) gs) (sym aggregates_over) (in_map (λ (g : QAgg). length g.by ≤ 65535) (expanded_aggregate db who put) (query_aggregates q) few.groups);
        }

  few_asked : (asked : List Asked) → Each FewAsked asked → Each FewAsked (map (expanded_asked db who) asked)
  unfolding expanded
  few_asked [] few = tt
  few_asked (a ∷ asked) few =
      let texts = query_expansions (expansion_of db who) a.query in (
        record {
          query = few_over a.query texts (each_scoped db d who (expansion_of db who) (λ key attrs. (all_denoted db who key attrs).scoped) a.query 0 (vars_of a.query)) few.0.query;
          sort = few.0.sort;
        },
        few_asked asked few.1,
      )

  update_scoped : (u : Update) (k : ℕ) (keys : List RelKey) → all_scoped (map (λ p. update_expansion db who u p.0 p.1) (enumerate_from k keys)) ≡ true
  update_scoped u k [] = refl
  update_scoped u k (key ∷ keys) = λ i. (update_named db d who u k key).0 i && update_scoped u (k + 1) keys i

  few_put : (n : ℕ) (tree : Checked) → FewTree n tree → FewTree n (expanded_tree db who tree)
  unfolding expanded_tree expanded_update
  few_put n (checked.Answer asked) few = let same = length-map asked (expanded_asked db who) in let number = few.0 in (omega (arith, same, number), few_asked asked few.1)
  few_put n (checked.Update u) few = (few_over u.query (update_expansions db who u) (update_scoped u 0 (vars_of u.query)) few.0, few.1)
  few_put n (checked.Utility work) few = few

-- ---- rules

-- at most 100 rules stand on a relation
few_rules_on : (db : Db) → IsDatabase db → (key : RelKey) → is_relation db key ≡ true → length (rules_on db key) ≤ 100
few_rules_on db d key h =
    let one = there_is (relation_at db key) h in
    let same = same_keys one.0.info.key key (find_passes (λ (r : Relation). same_key r.info.key key) db.relations one.0 one.1) in
    let few = found_passes (λ (r : Relation). same_key r.info.key key) (λ (r : Relation). nat_le (length (rules_on db r.info.key)) most_rules) db.relations one.0 d.few_rules one.1 in
    subst (λ key. length (rules_on db key) ≤ 100) same (leb-true (length (rules_on db one.0.info.key)) most_rules few)

module _ (db : Db) (d : IsDatabase db) (may : Allowed) where
  few_rules : (n : ℕ) (u : Update) → is_relation db u.rel ≡ true → length u.checks ≤ n → length (map (λ (r : Rule). r.qual) (rules_on db u.rel) ++ u.checks) ≤ n + 100
  few_rules n u there few =
      let most = few_rules_on db d u.rel there in
      let long = length-append (map (λ (r : Rule). r.qual) (rules_on db u.rel)) u.checks in
      let same = length-map (rules_on db u.rel) (λ (r : Rule). r.qual) in
      omega (arith, few, most, long, same)

  ruled_op : (n : ℕ) (u : Update) (o : UpdateOp) → relation_fits db (record u { op = o }) ≡ true → FewTree n (checked.Update (record u { op = o })) → FewTree (n + 100) (checked.Update (ruled db (record u { op = o })))
  unfolding ruled
  ruled_op n u op.Append h few = (few.0, few_rules n u (and_parts (is_relation db u.rel) _ h).0 few.1)
  ruled_op n u op.Replace h few = (few.0, few_rules n u (and_parts (is_relation db u.rel) _ h).0 few.1)
  ruled_op n u op.Delete h few = (few.0, few_rules n u (and_parts (is_relation db u.rel) _ h).0 few.1)
  ruled_op n u op.Into h few = let checks = few.1 in (few.0, omega (arith, checks))

  relation_of : (u : Update) → update_fits may db u ≡ true → relation_fits db u ≡ true
  unfolding update_fits
  relation_of u h =
      let one = and_parts (reads_fit may db u.query) _ h in
      let two = and_parts (update_kinds_fit db u.query) _ one.1 in
      let three = and_parts (assignments_fit db u) _ two.1 in
      let four = and_parts (nat_le (update_expanded_variables db u) most_expanded_variables) _ three.1 in
      let five = and_parts (places_fit db u) _ four.1 in
      (and_parts (checks_fit db u) (relation_fits db u) five.1).1

  few_ruled : (n : ℕ) (user : List ℕ) (tree : Checked) → suits may db user tree ≡ true → FewTree n tree → FewTree (n + 100) (ruled_tree db tree)
  unfolding suits ruled_tree
  few_ruled n user (checked.Answer asked) h few = few
  few_ruled n user (checked.Update u) h few = ruled_op n u u.op (relation_of u h) few
  few_ruled n user (checked.Utility work) h few = few

-- ---- what is put in is short

module _ (db : Db) (d : IsDatabase db) (who : Who) (user : List ℕ) where
  asked_suits : (asked : List Asked) → list_all (asked_fits (kept_or_viewed db) db) asked ≡ true → list_all (asked_fits (kept_alone db) db) (map (expanded_asked db who) asked) ≡ true
  asked_suits [] h = refl
  asked_suits (a ∷ asked) h =
      let two = and_parts (asked_fits (kept_or_viewed db) db a) (list_all (asked_fits (kept_or_viewed db) db) asked) h in
      and (asked_fits (kept_alone db) db (expanded_asked db who a)) (list_all (asked_fits (kept_alone db) db) (map (expanded_asked db who) asked)) (asked_put db d who a two.0) (asked_suits asked two.1)

  put_suits : (tree : Checked) → suits (kept_or_viewed db) db user tree ≡ true → suits (kept_alone db) db user (expanded_tree db who tree) ≡ true
  unfolding suits expanded_tree
  put_suits (checked.Answer asked) h = asked_suits asked h
  put_suits (checked.Update u) h = update_put db d who u h
  put_suits (checked.Utility work) h = h

  pub put_short : (tree : Checked) → is_fit_with_views db user tree ≡ true → FewTree 0 tree → tree_is_spelled (ruled_tree db (expanded_tree db who tree)) ≡ true → tree_is_short (ruled_tree db (expanded_tree db who tree)) ≡ true
  unfolding fits
  put_short tree h few spelled =
      let fit = and_parts (tree_is_spelled tree) (suits (kept_or_viewed db) db user tree) h in
      let put = put_suits tree fit.1 in
      let room : 0 + 100 ≤ 65535 = omega arith in
      tree_short db d (kept_alone db) (kept_ranged db) user (ruled_tree db (expanded_tree db who tree)) (suits_ruled db d (kept_alone db) user (expanded_tree db who tree) put) spelled
      (fewer (0 + 100) 65535 room (ruled_tree db (expanded_tree db who tree)) (few_ruled db d (kept_alone db) 0 user (expanded_tree db who tree) put (few_put db d who 0 tree few)))
