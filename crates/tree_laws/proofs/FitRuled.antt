-- A tree that is fit is fit with the rules of the relation that it changes.
use Rattle.std.proofs.Common.{◌≡◌, refl, ◌∙◌, subst, Bool, true, false, cond, ◌&&◌, List, [], ◌∷◌, ◌++◌, map, filter, ℕ}
use Rattle.std.specs.Prelude.{nat_le}
use Rattle.std.specs.List.{list_all}
use Rattle.calculus.specs.declared.query.RelKey.{RelKey}
use Rattle.calculus.specs.declared.query.QQual.{QQual}
use Rattle.calculus.specs.declared.schema.Rule.{Rule}
use Rattle.calculus.specs.declared.request.Checked.{Checked}
use Rattle.calculus.specs.declared.request.Checked.TheVariants as checked
use Rattle.calculus.specs.declared.request.Update.{Update}
use Rattle.calculus.specs.declared.request.UpdateOp.{UpdateOp}
use Rattle.calculus.specs.declared.request.UpdateOp.TheVariants as op
use Rattle.calculus.specs.Keys.{same_key}
use Rattle.calculus.specs.Limits.{most_expanded_variables}
use Rattle.calculus.specs.Kinds.{kinds_fit}
use Rattle.calculus.specs.Sizes.{update_expanded_variables}
use Rattle.calculus.specs.Database.{Db, is_relation, rules_on}
use Rattle.calculus.specs.IsDatabase.{IsDatabase, valid_row_qual}
use Rattle.calculus.specs.Pairs.{ruled}
use Rattle.calculus.specs.Stored.{kinds_at}
use Rattle.calculus_laws.proofs.Enough.{same_key-exact}
use Rattle.quel_meaning.specs.KindsInQueries.{assignments_fit}
use Rattle.quel_meaning.specs.FitQueries.{Allowed, reads_fit}
use Rattle.quel_meaning.specs.Fit.{places_fit, update_kinds_fit, checks_fit, relation_fits, update_fits, suits}
use Rattle.quel_meaning.specs.Meaning.{ruled_tree}
use Rattle.tree_laws.proofs.Scopes.{both_true}
use Rattle.tree_laws.proofs.Joint.{both_are, all_append}
use Rattle.tree_laws.proofs.FitExpansions.{all_fit}

module _ (db : Db) (d : IsDatabase db) where
  rules_fit : (key : RelKey) (rules : List (RelKey × Rule)) → list_all (λ p. is_relation db p.0 && valid_row_qual db p.0 p.1.qual) rules ≡ true
      → all_fit (kinds_at db key ∷ []) (map (λ r. r.qual) (map (λ p. p.1) (filter (λ p. same_key p.0 key) rules))) ≡ true
  rules_fit key [] h = refl
  rules_fit key (p ∷ rules) h =
      let parts = both_true (is_relation db p.0 && valid_row_qual db p.0 p.1.qual) (list_all (λ p. is_relation db p.0 && valid_row_qual db p.0 p.1.qual) rules) h in
      by (same_key p.0 key) refl (both_true (is_relation db p.0) (valid_row_qual db p.0 p.1.qual) parts.0).1 (rules_fit key rules parts.1)
    where
      by : (b : Bool) → same_key p.0 key ≡ b → kinds_fit p.1.qual (kinds_at db p.0 ∷ []) ≡ true
          → all_fit (kinds_at db key ∷ []) (map (λ r. r.qual) (map (λ p. p.1) (filter (λ p. same_key p.0 key) rules))) ≡ true
          → all_fit (kinds_at db key ∷ []) (map (λ r. r.qual) (map (λ p. p.1) (cond b (p ∷ filter (λ p. same_key p.0 key) rules) (filter (λ p. same_key p.0 key) rules)))) ≡ true
      by true e one more =
          both_are (kinds_fit p.1.qual (kinds_at db key ∷ [])) (all_fit (kinds_at db key ∷ []) (map (λ r. r.qual) (map (λ p. p.1) (filter (λ p. same_key p.0 key) rules))))
          (subst (λ k. kinds_fit p.1.qual (kinds_at db k ∷ []) ≡ true) (same_key-exact p.0 key e) one) more
      by false e one more = more

  -- the checks with the rules before them
  checks_ruled : (rel : RelKey) (restriction : QQual) (checks : List QQual) → all_fit (kinds_at db rel ∷ []) (restriction ∷ checks) ≡ true → all_fit (kinds_at db rel ∷ []) (restriction ∷ (map (λ r. r.qual) (rules_on db rel) ++ checks)) ≡ true
  checks_ruled rel restriction checks h =
      let parts = both_true (kinds_fit restriction (kinds_at db rel ∷ [])) (all_fit (kinds_at db rel ∷ []) checks) h in
      both_are (kinds_fit restriction (kinds_at db rel ∷ [])) (all_fit (kinds_at db rel ∷ []) (map (λ r. r.qual) (rules_on db rel) ++ checks)) parts.0
      (all_append (λ q. kinds_fit q (kinds_at db rel ∷ [])) (map (λ r. r.qual) (rules_on db rel)) checks
      ∙ both_are (all_fit (kinds_at db rel ∷ []) (map (λ r. r.qual) (rules_on db rel))) (all_fit (kinds_at db rel ∷ []) checks) (rules_fit rel db.rules d.rules_stand) parts.1)

  ruled_op : (u : Update) (o : UpdateOp) → checks_fit db (record u { op = o }) ≡ true → checks_fit db (ruled db (record u { op = o })) ≡ true
  unfolding ruled
  ruled_op u op.Append h = checks_ruled u.rel u.new_cut u.checks h
  ruled_op u op.Replace h = checks_ruled u.rel u.new_cut u.checks h
  ruled_op u op.Delete h = checks_ruled u.rel u.new_cut u.checks h
  ruled_op u op.Into h = h

  -- an update with other checks is fit where they fit
  with_checks : (reads kinds assigned few places old new relation : Bool) → new ≡ true
      → (reads && (kinds && (assigned && (few && (places && (old && relation)))))) ≡ true → (reads && (kinds && (assigned && (few && (places && (new && relation)))))) ≡ true
  with_checks true true true true true true new relation h k = (λ i. h i && relation) ∙ k
  with_checks true true true true true false new relation h k = cc k
  with_checks true true true true false old new relation h k = cc k
  with_checks true true true false places old new relation h k = cc k
  with_checks true true false few places old new relation h k = cc k
  with_checks true false assigned few places old new relation h k = cc k
  with_checks false kinds assigned few places old new relation h k = cc k

  parts_op : (may : Allowed) (u : Update) (o : UpdateOp) → checks_fit db (ruled db (record u { op = o })) ≡ true → update_fits may db (record u { op = o }) ≡ true → update_fits may db (ruled db (record u { op = o })) ≡ true
  unfolding ruled update_fits assignments_fit update_expanded_variables
  parts_op may u op.Append checks h =
      let v : Update = record u { op = op.Append } in
      with_checks (reads_fit may db u.query) (update_kinds_fit db u.query) (assignments_fit db v) (nat_le (update_expanded_variables db v) most_expanded_variables) (places_fit db v) (checks_fit db v)
      (checks_fit db (ruled db v)) (relation_fits db v) checks h
  parts_op may u op.Replace checks h =
      let v : Update = record u { op = op.Replace } in
      with_checks (reads_fit may db u.query) (update_kinds_fit db u.query) (assignments_fit db v) (nat_le (update_expanded_variables db v) most_expanded_variables) (places_fit db v) (checks_fit db v)
      (checks_fit db (ruled db v)) (relation_fits db v) checks h
  parts_op may u op.Delete checks h =
      let v : Update = record u { op = op.Delete } in
      with_checks (reads_fit may db u.query) (update_kinds_fit db u.query) (assignments_fit db v) (nat_le (update_expanded_variables db v) most_expanded_variables) (places_fit db v) (checks_fit db v)
      (checks_fit db (ruled db v)) (relation_fits db v) checks h
  parts_op may u op.Into checks h = h

  checks_of : (may : Allowed) (u : Update) → update_fits may db u ≡ true → checks_fit db u ≡ true
  unfolding update_fits
  checks_of may u h =
      let one = both_true (reads_fit may db u.query) _ h in
      let two = both_true (update_kinds_fit db u.query) _ one.1 in
      let three = both_true (assignments_fit db u) _ two.1 in
      let four = both_true _ (places_fit db u && (checks_fit db u && relation_fits db u)) three.1 in
      let five = both_true (places_fit db u) (checks_fit db u && relation_fits db u) four.1 in
      (both_true (checks_fit db u) (relation_fits db u) five.1).0

  pub suits_ruled : (may : Allowed) (user : List ℕ) (tree : Checked) → suits may db user tree ≡ true → suits may db user (ruled_tree db tree) ≡ true
  unfolding suits ruled_tree
  suits_ruled may user (checked.Answer asked) h = h
  suits_ruled may user (checked.Update u) h = parts_op may u u.op (ruled_op u u.op (checks_of may u h)) h
  suits_ruled may user (checked.Utility work) h = h
