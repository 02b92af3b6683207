-- A query answers for the one who asks what it answers unrestricted once its expansions are put in.
use Rattle.std.proofs.Common.{◌≡◌, refl, sym, ap, ◌∙◌, inl, inr, ℕ, true, not, List, [], map}
use Rattle.std.specs.List.{list_all, enumerate_from}
use Rattle.calculus.specs.declared.query.QAgg.{QAgg}
use Rattle.calculus.specs.declared.query.QTerm.{Int, Chars, Attr, Agg', items-the_row-QTerm, Row_of-QTerm, end_of-QTerm, more_of-QTerm, more_of-QAgg}
use Rattle.calculus.specs.declared.query.Query.{Query}
use Rattle.calculus.specs.Tree.{neg, abs, operation, concat, term_row}
use Rattle.calculus.specs.Lists.{is_any}
use Rattle.calculus.specs.Term.{Env, val}
use Rattle.calculus.specs.Who.{Who, Unrestricted}
use Rattle.calculus.specs.Database.{Db}
use Rattle.calculus.specs.IsDatabase.{IsDatabase}
use Rattle.calculus.specs.QueryParts.{term_aggregates, query_aggregates, vars_of}
use Rattle.calculus.specs.Used.{used, used_in_row}
use Rattle.calculus.specs.Assignments.{variable_rows, assigned, choices}
use Rattle.calculus.specs.Targets.{rows_given, some_lacks}
use Rattle.calculus.specs.VariableRows.{rows_of}
use Rattle.calculus.specs.Aggregate.{aggregates}
use Rattle.calculus.specs.Answer.{answer, lacks}
use Rattle.calculus_laws.proofs.Members.{In}
use Rattle.calculus_laws.proofs.SameRows.{all_at}
use Rattle.view_text.specs.Replaced.{Substitution, replaced, no_aggregate}
use Rattle.view_text.specs.Expansions.{substituted_from, query_expansions, expansions_vars}
use Rattle.view_text.specs.ExpansionOf.{expansion_of}
use Rattle.view_text.specs.Expanded.{expanded_aggregate, expanded_made, expanded}
use Rattle.tree_laws.specs.Nesting.{source_is_plain, nests_none, aggregates_nest_none}
use Rattle.tree_laws.proofs.Values.{StandsFor, MakesAll}
use Rattle.tree_laws.proofs.Halves.{any_append}
use Rattle.tree_laws.proofs.Scopes.{both_true}
use Rattle.tree_laws.proofs.Queries.{same_given, same_lack}
use Rattle.tree_laws.proofs.Denoted.{query_denoted, all_denoted}
use Rattle.tree_laws.proofs.Named.{Names, KeepsNames, term_named, none_keep, either_true, left_true, right_true}
use Rattle.tree_laws.proofs.Placed.{within_none}
use Rattle.tree_laws.proofs.Sound.{all_sound}
use Rattle.tree_laws.proofs.Unrestrictedly.{unrestricted_assigned}
use Rattle.tree_laws.proofs.Aggregated.{aggregate_put, val_aggregate, none_any}
use Rattle.tree_laws.proofs.Joint.{kept_lists}

-- the aggregate is one of these, of which each nests none
nested : (gs : List QAgg) → list_all nests_none gs ≡ true → (g : QAgg) → In g gs → nests_none g ≡ true
nested gs nest g inside = all_at nests_none gs g inside nest

module _ (db : Db) (d : IsDatabase db) (who : Who) (put : Substitution) (gs : List QAgg) (nest : list_all nests_none gs ≡ true) where
  pub put_makes : (e f : Env) → StandsFor put f e → MakesAll (aggregates db who) (aggregates db Unrestricted) (expanded_made db who put) f e gs
  unfolding val term_aggregates
  put_makes e f stands (Agg' mark (more_of-QAgg slot op source arg bys by links link qual rest)) h within =
      let g : QAgg = record { slot = slot; op = op; source = source; arg = arg; by = items-the_row-QTerm _ by; link = items-the_row-QTerm _ link; qual = qual } in
      val_aggregate (aggregates db Unrestricted) (expanded_aggregate db who put g) f
      ∙ aggregate_put db d who put e f stands g (both_true (source_is_plain source) (list_all (λ t. not (is_any (term_aggregates t))) (items-the_row-QTerm _ link)) (nested gs nest g (within g (inl refl)))).0
  put_makes e f stands (Int n) h within = cc h
  put_makes e f stands (Chars bytes) h within = cc h
  put_makes e f stands (Attr var attr) h within = cc h
  put_makes e f stands (neg t) h within = cc h
  put_makes e f stands (abs t) h within = cc h
  put_makes e f stands (operation op t u) h within = cc h
  put_makes e f stands (concat t u) h within = cc h

  row_named : (v w : ℕ) → Names put v w → {n : _} (row : Row_of-QTerm n) → list_all (λ t. not (is_any (term_aggregates t))) (items-the_row-QTerm _ row) ≡ true
      → is_any (used_in_row v row) ≡ true → is_any (used_in_row w (term_row (map (replaced no_aggregate put) (items-the_row-QTerm _ row)))) ≡ true
  row_named v w names end_of-QTerm plain h = cc h
  row_named v w names (more_of-QTerm t rest) plain h =
      let parts = both_true (not (is_any (term_aggregates t))) (list_all (λ t. not (is_any (term_aggregates t))) (items-the_row-QTerm _ rest)) plain in
      any_append (used w (replaced no_aggregate put t)) (used_in_row w (term_row (map (replaced no_aggregate put) (items-the_row-QTerm _ rest))))
      ∙ elim (either_true (is_any (used v t)) (is_any (used_in_row v rest)) (sym (any_append (used v t) (used_in_row v rest)) ∙ h)) [
        | inl k ↦
            left_true (is_any (used w (replaced no_aggregate put t))) (is_any (used_in_row w (term_row (map (replaced no_aggregate put) (items-the_row-QTerm _ rest)))))
            (term_named no_aggregate put [] (none_keep put) v w names t (within_none (term_aggregates t) (none_any (term_aggregates t) parts.0)) k)
        | inr k ↦
            right_true (is_any (used w (replaced no_aggregate put t))) (is_any (used_in_row w (term_row (map (replaced no_aggregate put) (items-the_row-QTerm _ rest)))))
            (row_named v w names rest parts.1 k)
      ]

  pub put_keeps : KeepsNames (expanded_made db who put) put gs
  unfolding term_aggregates
  put_keeps v w names (Agg' mark (more_of-QAgg slot op source arg bys by links link qual rest)) h within is_used =
      let g : QAgg = record { slot = slot; op = op; source = source; arg = arg; by = items-the_row-QTerm _ by; link = items-the_row-QTerm _ link; qual = qual } in
      row_named v w names link (both_true (source_is_plain source) (list_all (λ t. not (is_any (term_aggregates t))) (items-the_row-QTerm _ link)) (nested gs nest g (within g (inl refl)))).1 is_used
  put_keeps v w names (Int n) h within is_used = cc h
  put_keeps v w names (Chars bytes) h within is_used = cc h
  put_keeps v w names (Attr var attr) h within is_used = cc h
  put_keeps v w names (neg t) h within is_used = cc h
  put_keeps v w names (abs t) h within is_used = cc h
  put_keeps v w names (operation op t u) h within is_used = cc h
  put_keeps v w names (concat t u) h within is_used = cc h

module _ (db : Db) (d : IsDatabase db) (who : Who) (q : Query) (nest : aggregates_nest_none q ≡ true) where
  put_assigned : assigned (rows_of db Unrestricted) (expanded db who q) ≡ choices (kept_lists db (expansions_vars (query_expansions (expansion_of db who) q)))
  unfolding expanded
  put_assigned =
      unrestricted_assigned db (expansion_of db who) (all_sound db who d) (expanded_made db who (substituted_from 0 (query_expansions (expansion_of db who) q))) q
      (put_keeps db d who (substituted_from 0 (query_expansions (expansion_of db who) q)) (query_aggregates q) nest)

  pub answer_put : answer db who q ≡ answer db Unrestricted (expanded db who q)
  unfolding answer assigned expanded
  answer_put =
      same_given db (aggregates db who) (aggregates db Unrestricted) (expanded_made db who (substituted_from 0 (query_expansions (expansion_of db who) q))) q
      (map (λ p. variable_rows (rows_of db who) q p.0 p.1) (enumerate_from 0 (vars_of q))) (query_expansions (expansion_of db who) q)
      (query_denoted db (rows_of db who) (expansion_of db who) (all_denoted db who) q 0 (vars_of q))
      (put_makes db d who (substituted_from 0 (query_expansions (expansion_of db who) q)) (query_aggregates q) nest)
      ∙ ap (rows_given (aggregates db Unrestricted) (expanded db who q)) (sym put_assigned)

  pub lacks_put : lacks db who q ≡ lacks db Unrestricted (expanded db who q)
  unfolding lacks assigned expanded
  lacks_put =
      same_lack db (aggregates db who) (aggregates db Unrestricted) (expanded_made db who (substituted_from 0 (query_expansions (expansion_of db who) q))) q
      (map (λ p. variable_rows (rows_of db who) q p.0 p.1) (enumerate_from 0 (vars_of q))) (query_expansions (expansion_of db who) q)
      (query_denoted db (rows_of db who) (expansion_of db who) (all_denoted db who) q 0 (vars_of q))
      (put_makes db d who (substituted_from 0 (query_expansions (expansion_of db who) q)) (query_aggregates q) nest)
      ∙ ap (some_lacks (aggregates db Unrestricted) (expanded db who q)) (sym put_assigned)
