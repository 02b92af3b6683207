-- The expansion of a query's rows tells of them.
use Rattle.std.proofs.Common.{◌≡◌, refl, sym, ap, ◌∙◌, ℕ, zero, suc, true, ◌&&◌, List, [], ◌∷◌, map, Option, Some, None, Bool, false}
use Rattle.std.proofs.lemmas.Cmp.{tied_itself}
use Rattle.std.specs.List.{list_all}
use Rattle.std.specs.Prelude.{slice_get, is_some}
use Rattle.std.specs.Ordering.{is_eq}
use Rattle.calculus.specs.declared.operator.CmpOp.TheVariants.{Eq}
use Rattle.calculus.specs.declared.value.Value.{Value}
use Rattle.calculus.specs.declared.query.QTerm.{QTerm}
use Rattle.calculus.specs.declared.query.QQual.{QQual, True}
use Rattle.calculus.specs.declared.query.RelKey.{RelKey}
use Rattle.calculus.specs.Tree.{negated}
use Rattle.calculus.specs.declared.query.Target.{Target}
use Rattle.calculus.specs.declared.query.Query.{Query}
use Rattle.calculus.specs.Orders.{value_total}
use Rattle.calculus.specs.Rows.{Row}
use Rattle.calculus.specs.Term.{Env, val, holds, no_aggs, compared_values, value_before}
use Rattle.calculus.specs.Database.{Db}
use Rattle.calculus.specs.Assignments.{choices}
use Rattle.calculus.specs.QueryParts.{term_aggregates, qual_aggregates, targets_of, qual_of}
use Rattle.calculus.specs.Targets.{target_values, rows_given}
use Rattle.calculus_laws.proofs.Given.{given-is, is-given}
use Rattle.calculus_laws.proofs.Members.{In, Chosen, choices-Chosen, Chosen-choices, has-In, In-has}
use Rattle.calculus_laws.proofs.Substituted.{before-is}
use Rattle.view_text.specs.declared.expansion.Expansion.{Expansion}
use Rattle.view_text.specs.Replaced.{Substitution, replaced, replaced_in_qual, no_aggregate}
use Rattle.view_text.specs.Expansions.{term_at, expansions_vars, substituted_from, conditions_from}
use Rattle.view_text.specs.ExpansionOf.{has_value, substituted_terms, rows_conditions, settled, rows_expansion}
use Rattle.tree_laws.proofs.Values.{without_value_has_none, StandsFor, makes_none, val_replaced, holds_replaced, within_itself}
use Rattle.tree_laws.proofs.Scopes.{both_true}
use Rattle.tree_laws.proofs.Within.{all_scoped, rows_expansion_scoped}
use Rattle.tree_laws.proofs.Joint.{both_are, all_append, all_hold, kept_lists, IsRow, Denotes, DenoteEach, to_rows, from_rows}

pub each_scoped : (db : Db) (rowss : List (List Row)) (expansions : List Expansion) → DenoteEach db rowss expansions → all_scoped expansions ≡ true
each_scoped db [] [] denote = refl
each_scoped db [] (expansion ∷ expansions) denote = absurd denote
each_scoped db (rows ∷ more) [] denote = absurd denote
each_scoped db (rows ∷ more) (expansion ∷ expansions) denote = λ i. denote.0.scoped i && each_scoped db more expansions denote.1 i

-- a value equals itself, and no value equals nothing
equals_itself : (v : Option Value) → compared_values Eq v v ≡ is_some v
unfolding compared_values
equals_itself None = refl
equals_itself (Some v) = ap is_eq (tied_itself value_total v)

some_before : (v : Option Value) (vs : Option Row) → is_some (value_before v vs) ≡ (is_some v && is_some vs)
some_before None vs = refl
some_before (Some v) None = refl
some_before (Some v) (Some vs) = refl

there_is : {X : Type 0} (o : Option X) → is_some o ≡ true → (x : X) × (o ≡ Some x)
there_is None h = cc h
there_is (Some x) h = (x, refl)

nowhere : (a : ℕ) → slice_get {X = Value} [] a ≡ None
nowhere zero = refl
nowhere (suc a) = refl

-- targets, and what stands in their place for an assignment that tells of theirs
module _ (put : Substitution) (e f : Env) (stands : StandsFor put f e) where
  -- the term in place of a target
  abbrev term_put : Target → QTerm
  term_put t = replaced no_aggregate put t.term

  same_value : (t : Target) → val no_aggs (term_put t) f ≡ val no_aggs t.term e
  same_value t = val_replaced no_aggs no_aggs no_aggregate put e f (term_aggregates t.term) stands (makes_none no_aggs f e (term_aggregates t.term)) t.term (within_itself (term_aggregates t.term))

  values_needed : (ts : List Target) → all_hold no_aggs (map has_value (map term_put ts)) f ≡ is_some (target_values no_aggs ts e)
  unfolding holds
  values_needed [] = refl
  values_needed (t ∷ ts) =
      (λ i. equals_itself (val no_aggs (term_put t) f) i && values_needed ts i)
      ∙ (λ i. is_some (same_value t i) && is_some (target_values no_aggs ts e))
      ∙ sym (some_before (val no_aggs t.term e) (target_values no_aggs ts e))

  row_at : (ts : List Target) (row : Row) → target_values no_aggs ts e ≡ Some row → (a : ℕ) → val no_aggs (term_at (map term_put ts) a) f ≡ slice_get row a
  row_at [] row h a =
      let empty : [] ≡ row = cc h in
      without_value_has_none no_aggs f ∙ sym (nowhere a) ∙ ap (λ r. slice_get r a) empty
  row_at (t ∷ ts) row h zero =
      let (first, rest, here, there, same) = before-is (val no_aggs t.term e) (target_values no_aggs ts e) row h in
      same_value t ∙ here ∙ ap (λ r. slice_get r 0) same
  row_at (t ∷ ts) row h (suc a) =
      let (first, rest, here, there, same) = before-is (val no_aggs t.term e) (target_values no_aggs ts e) row h in
      row_at ts rest there a ∙ ap (λ r. slice_get r (suc a)) same

  holds_put : (q : QQual) → holds no_aggs (replaced_in_qual no_aggregate put q) f ≡ holds no_aggs q e
  holds_put q = holds_replaced no_aggs no_aggs no_aggregate put e f (qual_aggregates q) stands (makes_none no_aggs f e (qual_aggregates q)) q (within_itself (qual_aggregates q))

-- conditions that are settled hold where they do
settled_hold : (db : Db) (vars : List RelKey) (conditions : List QQual) (f : Env) → Chosen (kept_lists db vars) f → all_hold no_aggs (settled vars conditions) f ≡ all_hold no_aggs conditions f
unfolding settled holds
settled_hold db [] conditions [] chosen = by (list_all (λ q. holds no_aggs q []) conditions) refl
  where
    by : (b : Bool) → list_all (λ q. holds no_aggs q []) conditions ≡ b → all_hold no_aggs (elim b [ true ↦ [] | false ↦ negated True ∷ [] ]) [] ≡ list_all (λ q. holds no_aggs q []) conditions
    by true e = sym e
    by false e = sym e
settled_hold db [] conditions (row ∷ f) chosen = absurd chosen
settled_hold db (key ∷ vars) conditions f chosen = refl

module _ (db : Db) (q : Query) (rowss : List (List Row)) (expansions : List Expansion) (denote : DenoteEach db rowss expansions) where
  -- the qualification, and what is needed beside it
  abbrev qual_put : QQual
  qual_put = replaced_in_qual no_aggregate (substituted_from 0 expansions) (qual_of q)

  abbrev needed : List QQual
  needed = map has_value (substituted_terms expansions q)

  conditions_are : (f : Env) → Chosen (kept_lists db (expansions_vars expansions)) f
      → all_hold no_aggs (rows_expansion expansions q).conditions f ≡ (holds no_aggs qual_put f && (all_hold no_aggs needed f && all_hold no_aggs (conditions_from 0 expansions) f))
  conditions_are f chosen = settled_hold db (expansions_vars expansions) (rows_conditions expansions q) f chosen ∙ ap (λ b. holds no_aggs qual_put f && b) (all_append (λ q. holds no_aggs q f) needed (conditions_from 0 expansions))

  to : (f : Env) → Chosen (kept_lists db (expansions_vars expansions)) f → all_hold no_aggs (rows_expansion expansions q).conditions f ≡ true
      → (row : Row) × In row (rows_given no_aggs q (choices rowss)) × IsRow (rows_expansion expansions q) row f
  to f chosen h =
      let outer = both_true (holds no_aggs qual_put f) (all_hold no_aggs needed f && all_hold no_aggs (conditions_from 0 expansions) f) (sym (conditions_are f chosen) ∙ h) in
      let inner = both_true (all_hold no_aggs needed f) (all_hold no_aggs (conditions_from 0 expansions) f) outer.1 in
      let (e, there, says) = to_rows db no_aggs rowss expansions 0 [] f refl denote chosen inner.1 in
      let (row, values) = there_is (target_values no_aggs (targets_of q) e) (sym (values_needed (substituted_from 0 expansions) e f says.attributes (targets_of q)) ∙ inner.0) in (
        row,
        has-In (rows_given no_aggs q (choices rowss)) row
            (is-given no_aggs q (choices rowss) row
            (e, Chosen-choices rowss e there, sym (holds_put (substituted_from 0 expansions) e f says.attributes (qual_of q)) ∙ outer.0, values)),
        row_at (substituted_from 0 expansions) e f says.attributes (targets_of q) row values,
      )

  from : (row : Row) → In row (rows_given no_aggs q (choices rowss))
      → (f : Env) × Chosen (kept_lists db (expansions_vars expansions)) f × (all_hold no_aggs (rows_expansion expansions q).conditions f ≡ true) × IsRow (rows_expansion expansions q) row f
  from row inside =
      let (e, there, holding, values) = given-is no_aggs q (choices rowss) row (In-has (rows_given no_aggs q (choices rowss)) row inside) in
      let (f, chosen, says) = from_rows db no_aggs rowss expansions 0 [] e refl denote (choices-Chosen rowss e there) in (
        f,
        chosen,
        conditions_are f chosen
            ∙ both_are (holds no_aggs qual_put f) (all_hold no_aggs needed f && all_hold no_aggs (conditions_from 0 expansions) f)
            (holds_put (substituted_from 0 expansions) e f says.attributes (qual_of q) ∙ holding)
            (both_are (all_hold no_aggs needed f) (all_hold no_aggs (conditions_from 0 expansions) f)
            (values_needed (substituted_from 0 expansions) e f says.attributes (targets_of q) ∙ ap is_some values) says.conditions),
        row_at (substituted_from 0 expansions) e f says.attributes (targets_of q) row values,
      )

  pub rows_denoted_by : Denotes db (rows_given no_aggs q (choices rowss)) (rows_expansion expansions q)
  rows_denoted_by = record { scoped = rows_expansion_scoped expansions q (each_scoped db rowss expansions denote); to = to; from = from }
