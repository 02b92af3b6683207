-- A query with expansions substituted is answered as the query is over the rows that the expansions tell of.
use Rattle.std.proofs.Common.{◌≡◌, refl, sym, ap, ◌∙◌, Bool, true, false, ◌&&◌, List, [], ◌∷◌, map, Option, Some, None}
use Rattle.std.specs.List.{filter_map}
use Rattle.calculus.specs.declared.query.QTerm.{QTerm}
use Rattle.calculus.specs.declared.query.Query.{Query}
use Rattle.calculus.specs.Rows.{Row, Ascends, has}
use Rattle.calculus.specs.Term.{Env, Aggs, holds}
use Rattle.calculus.specs.Database.{Db}
use Rattle.calculus.specs.Assignments.{choices}
use Rattle.calculus.specs.QueryParts.{targets_of, qual_of, qual_aggregates, query_aggregates}
use Rattle.calculus.specs.Targets.{target_values, qualifying, rows_given, some_lacks}
use Rattle.calculus.proofs.Sets.{same_set, Ascends-set_of}
use Rattle.calculus_laws.proofs.Given.{IsOutcome, given-is, is-given, lack-is, is-lack}
use Rattle.calculus_laws.proofs.Members.{In, choices-Chosen, Chosen-choices}
use Rattle.calculus_laws.proofs.Plain.{in_targets}
use Rattle.calculus_laws.proofs.SameRows.{equal_by}
use Rattle.calculus_laws.proofs.UsedIn.{targets_of-query}
use Rattle.view_text.specs.declared.expansion.Expansion.{Expansion}
use Rattle.view_text.specs.Replaced.{replaced_in_qual, replaced_target}
use Rattle.view_text.specs.Expansions.{expansions_vars, substituted_from, conditions_from}
use Rattle.view_text.specs.Expanded.{substituted_query}
use Rattle.tree_laws.proofs.Values.{StandsFor, MakesAll, holds_replaced, targets_replaced, within_left, within_right, within_itself}
use Rattle.tree_laws.proofs.Halves.{holds_all_of}
use Rattle.tree_laws.proofs.Scopes.{both_true}
use Rattle.tree_laws.proofs.Joint.{all_hold, kept_lists, DenoteEach, Says, to_rows, from_rows}

pub targets_of-put : (made : QTerm → QTerm) (expansions : List Expansion) (q : Query) → targets_of (substituted_query made expansions q) ≡ map (replaced_target made (substituted_from 0 expansions)) (targets_of q)
targets_of-put made expansions q = targets_of-query (expansions_vars expansions) (map (replaced_target made (substituted_from 0 expansions)) (targets_of q)) (qual_of (substituted_query made expansions q))

pub Ascends-given : (aggs : Aggs) (q : Query) (es : List Env) → Ascends (rows_given aggs q es)
unfolding rows_given
Ascends-given aggs q es = Ascends-set_of (filter_map (target_values aggs (targets_of q)) (qualifying aggs q es))

module _ (db : Db) (aggs bggs : Aggs) (made : QTerm → QTerm) (q : Query) (rowss : List (List Row)) (expansions : List Expansion) (denote : DenoteEach db rowss expansions)
    (makes : (e f : Env) → StandsFor (substituted_from 0 expansions) f e → MakesAll aggs bggs made f e (query_aggregates q)) where
  -- the assignments of the query, and those of what is put in
  abbrev es : List Env
  es = choices rowss

  abbrev fs : List Env
  fs = choices (kept_lists db (expansions_vars expansions))

  -- the qualification of what is put in, in parts
  qual_put : (e f : Env) → StandsFor (substituted_from 0 expansions) f e → holds bggs (qual_of (substituted_query made expansions q)) f ≡ (holds aggs (qual_of q) e && all_hold bggs (conditions_from 0 expansions) f)
  qual_put e f stands =
      holds_all_of bggs f (replaced_in_qual made (substituted_from 0 expansions) (qual_of q) ∷ conditions_from 0 expansions)
      ∙ ap (λ b. b && all_hold bggs (conditions_from 0 expansions) f) (holds_replaced aggs bggs made (substituted_from 0 expansions) e f (query_aggregates q) stands (makes e f stands) (qual_of q)
      (within_right (in_targets (targets_of q)) (qual_aggregates (qual_of q)) (query_aggregates q) (within_itself (query_aggregates q))))

  values_put : (e f : Env) → StandsFor (substituted_from 0 expansions) f e → target_values bggs (targets_of (substituted_query made expansions q)) f ≡ target_values aggs (targets_of q) e
  values_put e f stands =
      ap (λ ts. target_values bggs ts f) (targets_of-put made expansions q) ∙ targets_replaced aggs bggs made (substituted_from 0 expansions) e f (query_aggregates q) stands (makes e f stands) (targets_of q)
      (within_left (in_targets (targets_of q)) (qual_aggregates (qual_of q)) (query_aggregates q) (within_itself (query_aggregates q)))

  -- that the conditions hold where the qualification of what is put in does
  held : (f : Env) → holds bggs (qual_of (substituted_query made expansions q)) f ≡ true → all_hold bggs (conditions_from 0 expansions) f ≡ true
  held f h = (both_true (holds bggs (replaced_in_qual made (substituted_from 0 expansions) (qual_of q)) f) (all_hold bggs (conditions_from 0 expansions) f)
      (sym (holds_all_of bggs f (replaced_in_qual made (substituted_from 0 expansions) (qual_of q) ∷ conditions_from 0 expansions)) ∙ h)).1

  -- an assignment of what is put in, with the one that it tells of
  pub record Beside (f e : Env) : Type 0 where
    pub qual : holds bggs (qual_of (substituted_query made expansions q)) f ≡ holds aggs (qual_of q) e
    pub values : target_values bggs (targets_of (substituted_query made expansions q)) f ≡ target_values aggs (targets_of q) e
    pub stands : StandsFor (substituted_from 0 expansions) f e

  beside : (f e : Env) → Says db bggs 0 expansions [] f e → Beside f e
  beside f e says = record {
    qual = qual_put e f says.attributes ∙ ap (λ b. holds aggs (qual_of q) e && b) says.conditions ∙ true_right (holds aggs (qual_of q) e);
    values = values_put e f says.attributes;
    stands = says.attributes;
  }
    where
      true_right : (b : Bool) → (b && true) ≡ b
      true_right true = refl
      true_right false = refl

  pub is_denoted : (f : Env) → In f fs → holds bggs (qual_of (substituted_query made expansions q)) f ≡ true → (e : Env) × In e es × Beside f e
  is_denoted f inside h =
      let (e, chosen, says) = to_rows db bggs rowss expansions 0 [] f refl denote (choices-Chosen (kept_lists db (expansions_vars expansions)) f inside) (held f h) in
      (e, Chosen-choices rowss e chosen, beside f e says)

  pub denotes : (e : Env) → In e es → (f : Env) × In f fs × Beside f e
  denotes e inside =
      let (f, chosen, says) = from_rows db bggs rowss expansions 0 [] e refl denote (choices-Chosen rowss e inside) in
      (f, Chosen-choices (kept_lists db (expansions_vars expansions)) f chosen, beside f e says)

  to_put : (outcome : Option Row) → IsOutcome aggs q es outcome → IsOutcome bggs (substituted_query made expansions q) fs outcome
  to_put outcome (e, inside, holding, values) = let (f, there, by) = denotes e inside in (f, there, by.qual ∙ holding, by.values ∙ values)

  from_put : (outcome : Option Row) → IsOutcome bggs (substituted_query made expansions q) fs outcome → IsOutcome aggs q es outcome
  from_put outcome (f, inside, holding, values) = let (e, there, by) = is_denoted f inside holding in (e, there, sym by.qual ∙ holding, sym by.values ∙ values)

  pub same_given : rows_given aggs q es ≡ rows_given bggs (substituted_query made expansions q) fs
  same_given =
      same_set (rows_given aggs q es) (rows_given bggs (substituted_query made expansions q) fs) (Ascends-given aggs q es) (Ascends-given bggs (substituted_query made expansions q) fs)
      (λ row. equal_by (has (rows_given aggs q es) row) (has (rows_given bggs (substituted_query made expansions q) fs) row)
      (λ h. is-given bggs (substituted_query made expansions q) fs row (to_put (Some row) (given-is aggs q es row h)))
      (λ h. is-given aggs q es row (from_put (Some row) (given-is bggs (substituted_query made expansions q) fs row h))))

  pub same_lack : some_lacks aggs q es ≡ some_lacks bggs (substituted_query made expansions q) fs
  same_lack =
      equal_by (some_lacks aggs q es) (some_lacks bggs (substituted_query made expansions q) fs)
      (λ h. is-lack bggs (substituted_query made expansions q) fs (to_put None (lack-is aggs q es h)))
      (λ h. is-lack aggs q es (from_put None (lack-is bggs (substituted_query made expansions q) fs h)))
