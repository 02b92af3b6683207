-- Nobody in particular has all assignments of kept rows for what is put in.
use Rattle.std.proofs.Common.{◌≡◌, sym, ap, ◌∙◌, subst, inl, inr, ℕ, ◌+◌, true, [], map, length, arith}
use Rattle.std.specs.Prelude.{nat_lt}
use Rattle.std.specs.List.{enumerate_from}
use Rattle.calculus.specs.declared.query.RelKey.{RelKey}
use Rattle.calculus.specs.declared.query.QTerm.{QTerm}
use Rattle.calculus.specs.declared.query.Query.{Query}
use Rattle.calculus.specs.Lists.{is_any}
use Rattle.calculus.specs.Term.{no_aggs}
use Rattle.calculus.specs.Who.{Who, Unrestricted}
use Rattle.calculus.specs.Database.{Db}
use Rattle.calculus.specs.IsDatabase.{IsDatabase}
use Rattle.calculus.specs.Stored.{range_at, rows_at}
use Rattle.calculus.specs.QueryParts.{query_aggregates, vars_of}
use Rattle.calculus.specs.Used.{used_in_query}
use Rattle.calculus.specs.Assignments.{choices, variable_rows, assigned}
use Rattle.calculus.specs.Targets.{rows_given}
use Rattle.calculus.specs.VariableRows.{rows_within, rows_of}
use Rattle.calculus_laws.specs.Expansion.{is_no_view}
use Rattle.view_text.specs.declared.expansion.Expansion.{Expansion}
use Rattle.view_text.specs.Replaced.{no_aggregate}
use Rattle.view_text.specs.Expansions.{ExpansionSource, used_expansion, query_expansions, expansions_vars, substituted_from}
use Rattle.view_text.specs.ExpansionOf.{expansion_within}
use Rattle.view_text.specs.Expanded.{substituted_query, expanded_plain}
use Rattle.tree_laws.proofs.Values.{makes_none}
use Rattle.tree_laws.proofs.Joint.{kept_lists}
use Rattle.tree_laws.proofs.Queries.{same_given}
use Rattle.tree_laws.proofs.Denoted.{query_denoted, within_denoted}
use Rattle.tree_laws.proofs.Named.{KeepsNames, none_keep}
use Rattle.tree_laws.proofs.Placed.{placed_first, condition_used, attribute_used}
use Rattle.tree_laws.proofs.Sound.{IsSound, AreSound, used_sound, used_meant, each_kept_at, within_sound, unrestricted_used, all_kept}

module _ (db : Db) (source : ExpansionSource) (sound : AreSound db source) (made : QTerm → QTerm) (q : Query)
    (keeps : KeepsNames made (substituted_from 0 (query_expansions source q)) (query_aggregates q)) where
  -- the expansion of a variable
  abbrev expansion_at : ℕ → RelKey → Expansion
  expansion_at v key = used_expansion source key (used_in_query v q)

  at_sound : (v : ℕ) (key : RelKey) → IsSound db (used_expansion source key (used_in_query v q))
  at_sound v key = used_sound db source sound key (used_in_query v q)

  all_used : (w : ℕ) → nat_lt w (length (expansions_vars (query_expansions source q))) ≡ true → is_any (used_in_query w (substituted_query made (query_expansions source q) q)) ≡ true
  all_used w h =
      elim (placed_first expansion_at (λ v j. is_any (used_in_query v q) ≡ true) (λ v key. (at_sound v key).scoped) (λ v key. (at_sound v key).names)
      (λ v key. used_meant source key (used_in_query v q)) (vars_of q) w h) [
        | inl condition ↦ condition_used made (query_expansions source q) q keeps w condition
        | inr (v, j, at, is_used, names) ↦ attribute_used made (query_expansions source q) q keeps v w names is_used
      ]

  pub unrestricted_assigned : assigned (rows_of db Unrestricted) (substituted_query made (query_expansions source q) q) ≡ choices (kept_lists db (expansions_vars (query_expansions source q)))
  unfolding assigned
  unrestricted_assigned =
      ap choices
      (all_kept db (variable_rows (rows_of db Unrestricted) (substituted_query made (query_expansions source q) q)) 0 (expansions_vars (query_expansions source q)) each (each_kept_at db expansion_at at_sound 0 (vars_of q)))
    where
      each : (v : ℕ) (key : RelKey) → nat_lt v (length (expansions_vars (query_expansions source q))) ≡ true → is_no_view (range_at db key) ≡ true
          → variable_rows (rows_of db Unrestricted) (substituted_query made (query_expansions source q) q) (0 + v) key ≡ rows_at db key
      each v key inside kept =
          let same : 0 + v ≡ v = omega arith in
          ap (λ v. variable_rows (rows_of db Unrestricted) (substituted_query made (query_expansions source q) q) v key) same
          ∙ unrestricted_used db key (used_in_query v (substituted_query made (query_expansions source q) q)) kept (all_used v inside)

-- a query without aggregates gives the same rows with its expansions substituted
pub plain_put : (n : ℕ) (db : Db) (who : Who) → IsDatabase db → (q : Query) → query_aggregates q ≡ []
    → rows_given no_aggs q (assigned (rows_within n db who) q) ≡ rows_given no_aggs (expanded_plain (expansion_within n db who) q) (assigned (rows_of db Unrestricted) (expanded_plain (expansion_within n db who) q))
unfolding assigned
plain_put n db who d q plain =
    same_given db no_aggs no_aggs no_aggregate q (map (λ p. variable_rows (rows_within n db who) q p.0 p.1) (enumerate_from 0 (vars_of q))) (query_expansions (expansion_within n db who) q)
    (query_denoted db (rows_within n db who) (expansion_within n db who) (within_denoted n db who) q 0 (vars_of q)) (λ e f stands. makes_none no_aggs f e (query_aggregates q))
    ∙ ap (rows_given no_aggs (expanded_plain (expansion_within n db who) q))
    (sym (unrestricted_assigned db (expansion_within n db who) (within_sound n db who d) no_aggregate q
    (subst (KeepsNames no_aggregate (substituted_from 0 (query_expansions (expansion_within n db who) q))) (sym plain) (none_keep (substituted_from 0 (query_expansions (expansion_within n db who) q))))))
