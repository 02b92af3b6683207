-- A tree that is fit but for views is fit once texts are put in.
use Rattle.std.proofs.Common.{◌≡◌, refl, sym, ap, ◌∙◌, ℕ, zero, suc, ◌+◌, Bool, true, false, ◌&&◌, List, [], ◌∷◌, ◌++◌, map, length, zip, Option, Some, None, arith}
use Rattle.std.proofs.lemmas.Bool.Decides.{nat_tests}
use Rattle.std.specs.Prelude.{nat_le, nat_lt, nat_eq, slice_get, ◌==◌}
use Rattle.std.specs.List.{list_all, enumerate_from}
use Rattle.calculus.specs.declared.value.Kind.{Kind}
use Rattle.calculus.specs.declared.query.RelKey.{RelKey}
use Rattle.calculus.specs.declared.query.QTerm.{QTerm}
use Rattle.calculus.specs.declared.query.QQual.{QQual}
use Rattle.calculus.specs.declared.query.Target.{Target}
use Rattle.calculus.specs.declared.schema.Attr.{Attr as Attribute}
use Rattle.calculus.specs.declared.request.Asked.{Asked}
use Rattle.calculus.specs.declared.request.Checked.{Checked}
use Rattle.calculus.specs.declared.request.Checked.TheVariants as checked
use Rattle.calculus.specs.declared.request.Update.{Update}
use Rattle.calculus.specs.declared.request.UpdateOp.{UpdateOp}
use Rattle.calculus.specs.declared.request.UpdateOp.TheVariants as op
use Rattle.calculus.specs.Keys.{same_key}
use Rattle.calculus.specs.Lists.{differ_by}
use Rattle.calculus.specs.Limits.{most_expanded_variables}
use Rattle.calculus.specs.Kinds.{comparable, kinds_fit}
use Rattle.calculus.specs.Sizes.{update_expanded_variables}
use Rattle.calculus.specs.Who.{Who}
use Rattle.calculus.specs.Database.{Db, is_relation}
use Rattle.calculus.specs.IsDatabase.{IsDatabase, attrs_stand, are_stored}
use Rattle.calculus.specs.Stored.{attrs_at, kinds_at}
use Rattle.calculus.specs.Rights.{Right, Append, Replace, Delete}
use Rattle.calculus.specs.QueryParts.{vars_of, targets_of}
use Rattle.calculus.specs.Replacement.{made_attr, wanted_kinds}
use Rattle.calculus.specs.Assignments.{is_changed}
use Rattle.quel_meaning.specs.KindsInQueries.{assignments_fit}
use Rattle.quel_meaning.specs.FitQueries.{Allowed, is_kept, kept_alone, kept_or_viewed, reads_fit, asked_fits}
use Rattle.quel_meaning.specs.Fit.{new_attrs, places_fit, update_kinds_fit, checks_fit, is_this_key, is_new, relation_fits, update_fits, suits, fits, is_fit_with_views, is_fit}
use Rattle.quel_meaning.specs.Meaning.{ruled_tree}
use Rattle.quel_meaning.specs.SpelledTree.{tree_is_spelled}
use Rattle.view_text.specs.declared.expansion.Expansion.{Expansion}
use Rattle.view_text.specs.Replaced.{Substitution, replaced_target}
use Rattle.view_text.specs.Expansions.{expansions_vars, substituted_from, place_from}
use Rattle.view_text.specs.ExpansionOf.{restriction}
use Rattle.view_text.specs.Expanded.{expanded_made, expanded_over, append_restriction, put_place, update_expansion, update_expansions, expanded_update, expanded_asked, expanded_tree}
use Rattle.tree_laws.proofs.Scopes.{both_true}
use Rattle.tree_laws.proofs.Joint.{both_are}
use Rattle.tree_laws.proofs.Queries.{targets_of-put}
use Rattle.tree_laws.proofs.Beside.{own_expansion}
use Rattle.tree_laws.proofs.Updating.{attrs_put, kinds_put as wanted_put}
use Rattle.tree_laws.proofs.FitExpansions.{all_fit, restriction_fits}
use Rattle.tree_laws.proofs.FitPlain.{all_of_fit, targets_long}
use Rattle.tree_laws.proofs.FitAsked.{asked_put}
use Rattle.tree_laws.proofs.FitRuled.{suits_ruled}
use Rattle.tree_laws.proofs.FitUpdated.{over_op, kinds_put, expanded_put, reads_update}

-- ---- by the operation

-- the attributes of new rows, where the relation has these, and these are made of the targets
abbrev attrs_by : UpdateOp → List Attribute → List Attribute → List Attribute
attrs_by o stored made = elim o [ op.Append ↦ stored | op.Replace ↦ stored | op.Delete ↦ stored | op.Into ↦ made ]

-- the kinds of what the targets are for, so
abbrev wanted_by : UpdateOp → List (Option Kind) → List (Option Kind) → List (Option Kind)
wanted_by o stored made = elim o [ op.Append ↦ stored | op.Replace ↦ stored | op.Delete ↦ stored | op.Into ↦ made ]

zip_put : (made : QTerm → QTerm) (put : Substitution) (ts : List Target) (ks : List (Option Kind))
    → list_all (λ p. comparable (Some p.0.kind) p.1) (zip (map (replaced_target made put) ts) ks) ≡ list_all (λ p. comparable (Some p.0.kind) p.1) (zip ts ks)
zip_put made put [] ks = refl
zip_put made put (t ∷ ts) [] = refl
zip_put made put (t ∷ ts) (k ∷ ks) = ap (λ b. comparable (Some t.kind) k && b) (zip_put made put ts ks)

module _ (db : Db) (d : IsDatabase db) (who : Who) where
  abbrev may : Allowed
  may = kept_or_viewed db

  module _ (u : Update) where
    abbrev expansions : List Expansion
    expansions = update_expansions db who u

    abbrev made : QTerm → QTerm
    made = expanded_made db who (substituted_from 0 expansions)

    targets_are : targets_of (expanded_update db who u).query ≡ map (replaced_target made (substituted_from 0 expansions)) (targets_of u.query)
    unfolding expanded_update
    targets_are = targets_of-put made expansions u.query

    attrs_same : new_attrs db (expanded_update db who u) ≡ new_attrs db u
    unfolding expanded_update
    attrs_same = ap (attrs_by u.op (attrs_at db u.rel)) (ap (map made_attr) targets_are ∙ attrs_put made (substituted_from 0 expansions) (targets_of u.query))

    wanted_same : wanted_kinds db (expanded_update db who u) ≡ wanted_kinds db u
    unfolding expanded_update
    wanted_same = ap (wanted_by u.op (map (slice_get (kinds_at db u.rel)) u.places)) (ap (map (λ t. Some (made_attr t).kind)) targets_are ∙ wanted_put made (substituted_from 0 expansions) (targets_of u.query))

    assignments_put : assignments_fit db u ≡ true → assignments_fit db (expanded_update db who u) ≡ true
    unfolding assignments_fit
    assignments_put h =
        (λ i. list_all (λ p. comparable (Some p.0.kind) p.1) (zip (targets_are i) (wanted_same i))) ∙ zip_put made (substituted_from 0 expansions) (targets_of u.query) (wanted_kinds db u) ∙ h

    places_by : List Attribute → ℕ → Bool
    places_by attrs n = list_all (λ p. nat_lt p (length attrs)) u.places && (differ_by nat_eq u.places && nat_eq (length u.places) n)

    places_put : places_fit db u ≡ true → places_fit db (expanded_update db who u) ≡ true
    unfolding expanded_update places_by
    places_put h = (λ i. places_by (attrs_same i) ((ap length targets_are ∙ targets_long made (substituted_from 0 expansions) (targets_of u.query)) i)) ∙ h

    -- the kinds of the new rows' attributes
    abbrev new_kinds : List Attribute → List (List Kind)
    new_kinds attrs = map (λ a. a.kind) attrs ∷ []

    restriction_put : (o : UpdateOp) → kinds_fit u.new_cut (new_kinds (attrs_by o (attrs_at db u.rel) (map made_attr (targets_of u.query)))) ≡ true
        → kinds_fit (append_restriction db who u o) (new_kinds (attrs_by o (attrs_at db u.rel) (map made_attr (targets_of u.query)))) ≡ true
    restriction_put op.Append h =
        all_of_fit (new_kinds (attrs_at db u.rel)) (u.new_cut ∷ restriction db who Append u.places u.rel)
        ∙ both_are (kinds_fit u.new_cut (new_kinds (attrs_at db u.rel))) (all_fit (new_kinds (attrs_at db u.rel)) (restriction db who Append u.places u.rel)) h (restriction_fits db d who Append u.places u.rel)
    restriction_put op.Replace h = h
    restriction_put op.Delete h = h
    restriction_put op.Into h = h

    checks_by : List Attribute → QQual → Bool
    checks_by attrs restriction = kinds_fit restriction (new_kinds attrs) && list_all (λ check. kinds_fit check (new_kinds attrs)) u.checks

    checks_put : checks_fit db u ≡ true → checks_fit db (expanded_update db who u) ≡ true
    unfolding expanded_update checks_by
    checks_put h =
        let parts = both_true (kinds_fit u.new_cut (new_kinds (new_attrs db u))) (list_all (λ check. kinds_fit check (new_kinds (new_attrs db u))) u.checks) h in
        ap (λ attrs. checks_by attrs (append_restriction db who u u.op)) attrs_same
        ∙ both_are (kinds_fit (append_restriction db who u u.op) (new_kinds (new_attrs db u))) (list_all (λ check. kinds_fit check (new_kinds (new_attrs db u))) u.checks) (restriction_put u.op parts.0) parts.1

    -- ---- the changed variable

    length_behind : {X : Type 0} (xs ys : List X) → length (xs ++ ys) ≡ length xs + length ys
    length_behind [] ys = omega arith
    length_behind (x ∷ xs) ys = let more = length_behind xs ys in omega (arith, more)

    behind_assoc : {X : Type 0} (xs ys zs : List X) → (xs ++ ys) ++ zs ≡ xs ++ (ys ++ zs)
    behind_assoc [] ys zs = refl
    behind_assoc (x ∷ xs) ys zs = ap (λ l. x ∷ l) (behind_assoc xs ys zs)

    get_behind : {X : Type 0} (pre : List X) (x : X) (rest : List X) (n : ℕ) → length pre ≡ n → slice_get (pre ++ (x ∷ rest)) n ≡ Some x
    get_behind [] x rest zero h = refl
    get_behind [] x rest (suc n) h = absurd (omega (arith, h))
    get_behind (y ∷ pre) x rest zero h = absurd (omega (arith, h))
    get_behind (y ∷ pre) x rest (suc n) h = let less : length pre ≡ n = omega (arith, h) in get_behind pre x rest n less

    -- where its expansion begins stands what it ranged over
    place_key : (keys : List RelKey) (k n v : ℕ) (key : RelKey) (pre : List RelKey) → length pre ≡ n → slice_get keys v ≡ Some key → is_changed u (k + v) ≡ true
        → slice_get (pre ++ expansions_vars (map (λ p. update_expansion db who u p.0 p.1) (enumerate_from k keys))) (place_from n (map (λ p. update_expansion db who u p.0 p.1) (enumerate_from k keys)) v) ≡ Some key
    place_key [] k n zero key pre long there h = cc there
    place_key [] k n (suc v) key pre long there h = cc there
    place_key (first ∷ keys) k n zero key pre long there h =
        let same : k + 0 ≡ k = omega arith in
        let own = own_expansion db who u k first (ap (is_changed u) (sym same) ∙ h) in
        let exact : first ≡ key = cc there in
        ap (λ vars. slice_get (pre ++ (vars ++ expansions_vars (map (λ p. update_expansion db who u p.0 p.1) (enumerate_from (k + 1) keys)))) n) own.0
        ∙ get_behind pre first (expansions_vars (map (λ p. update_expansion db who u p.0 p.1) (enumerate_from (k + 1) keys))) n long ∙ ap Some exact
    place_key (first ∷ keys) k n (suc v) key pre long there h =
        let same : k + suc v ≡ k + 1 + v = omega arith in
        let vars = (update_expansion db who u k first).vars in
        let both : length (pre ++ vars) ≡ n + length vars = length_behind pre vars ∙ (λ i. long i + length vars) in
        ap (λ l. slice_get l (place_from (n + length vars) (map (λ p. update_expansion db who u p.0 p.1) (enumerate_from (k + 1) keys)) v)) (sym (behind_assoc pre vars (expansions_vars (map (λ p. update_expansion db who u p.0 p.1) (enumerate_from (k + 1) keys)))))
        ∙ place_key keys (k + 1) (n + length vars) v key (pre ++ vars) both there (ap (is_changed u) (sym same) ∙ h)

    this_key : (o : Option RelKey) (rel : RelKey) → is_this_key o rel ≡ true → (key : RelKey) × (o ≡ Some key) × (same_key key rel ≡ true)
    this_key None rel h = cc h
    this_key (Some key) rel h = (key, refl, h)

    -- the place of the changed variable
    abbrev place_by : Option (ℕ × Right) → ℕ → ℕ
    place_by o old = elim o [ None ↦ old | Some c ↦ place_from 0 expansions c.0 ]

    key_put : (old : ℕ) → is_changed u old ≡ true → is_this_key (slice_get (vars_of u.query) old) u.rel ≡ true → is_this_key (slice_get (expansions_vars expansions) (place_from 0 expansions old)) u.rel ≡ true
    key_put old changes h =
        let none_before : 0 + old ≡ old = omega arith in
        let (key, there, same) = this_key (slice_get (vars_of u.query) old) u.rel h in
        ap (λ o. is_this_key o u.rel) (place_key (vars_of u.query) 0 0 old key [] refl there (ap (is_changed u) none_before ∙ changes)) ∙ same

    abbrev changed_at : UpdateOp → ℕ → Option (ℕ × Right)
    changed_at o old = elim o [ op.Append ↦ None | op.Replace ↦ Some (old, Replace) | op.Delete ↦ Some (old, Delete) | op.Into ↦ None ]

    abbrev changes_at : Option (ℕ × Right) → ℕ → Bool
    changes_at o v = elim o [ None ↦ false | Some c ↦ c.0 == v ]

    -- whether the relation fits, by what is known of the update
    abbrev relation_by : UpdateOp → ℕ → List RelKey → List Attribute → Bool
    relation_by o old vars attrs = elim o [
      | op.Append ↦ is_relation db u.rel && nat_eq old 255
      | op.Replace ↦ is_relation db u.rel && is_this_key (slice_get vars old) u.rel
      | op.Delete ↦ is_relation db u.rel && is_this_key (slice_get vars old) u.rel
      | op.Into ↦ nat_eq old 255 && (is_new db u.rel.owner u.rel.name && (attrs_stand attrs && are_stored attrs))
    ]

    relation_op : (o : UpdateOp) → (is_this_key (slice_get (vars_of u.query) u.old) u.rel ≡ true → changes_at (changed_at o u.old) u.old ≡ true → is_this_key (slice_get (expansions_vars expansions) (place_from 0 expansions u.old)) u.rel ≡ true)
        → (attrs : List Attribute) → relation_by o u.old (vars_of u.query) attrs ≡ true → relation_by o (place_by (changed_at o u.old) u.old) (expansions_vars expansions) attrs ≡ true
    relation_op op.Append moves attrs h = h
    relation_op op.Replace moves attrs h =
        let parts = both_true (is_relation db u.rel) (is_this_key (slice_get (vars_of u.query) u.old) u.rel) h in
        let itself : (u.old == u.old) ≡ true = grind (arith, nat_tests) in
        both_are (is_relation db u.rel) (is_this_key (slice_get (expansions_vars expansions) (place_from 0 expansions u.old)) u.rel) parts.0 (moves parts.1 itself)
    relation_op op.Delete moves attrs h =
        let parts = both_true (is_relation db u.rel) (is_this_key (slice_get (vars_of u.query) u.old) u.rel) h in
        let itself : (u.old == u.old) ≡ true = grind (arith, nat_tests) in
        both_are (is_relation db u.rel) (is_this_key (slice_get (expansions_vars expansions) (place_from 0 expansions u.old)) u.rel) parts.0 (moves parts.1 itself)
    relation_op op.Into moves attrs h = h

    relation_put : relation_fits db u ≡ true → relation_fits db (expanded_update db who u) ≡ true
    unfolding expanded_update
    relation_put h =
        ap (relation_by u.op (put_place expansions u) (expansions_vars expansions)) attrs_same
        ∙ relation_op u.op (λ this changes. key_put u.old changes this) (new_attrs db u) h

    kinds_same : update_kinds_fit db (expanded_over db who expansions u.query) ≡ true → update_kinds_fit db (expanded_update db who u).query ≡ true
    unfolding expanded_update
    kinds_same h = h

    pub update_put : update_fits may db u ≡ true → update_fits (kept_alone db) db (expanded_update db who u) ≡ true
    unfolding update_fits
    update_put h =
        let one = both_true (reads_fit may db u.query) _ h in
        let two = both_true (update_kinds_fit db u.query) _ one.1 in
        let three = both_true (assignments_fit db u) _ two.1 in
        let four = both_true (nat_le (update_expanded_variables db u) most_expanded_variables) (places_fit db u && (checks_fit db u && relation_fits db u)) three.1 in
        let five = both_true (places_fit db u) (checks_fit db u && relation_fits db u) four.1 in
        let six = both_true (checks_fit db u) (relation_fits db u) five.1 in
        let over : (v : ℕ) (key : RelKey) → slice_get (vars_of u.query) v ≡ Some key → is_changed u v ≡ true → is_kept db key ≡ true = over_op db u u.op six.1 in
        let put = expanded_update db who u in
        both_are (reads_fit (kept_alone db) db put.query) _ (reads_update db d who u one.0 over four.0)
        (both_are (update_kinds_fit db put.query) _ (kinds_same (kinds_put db d who u one.0 over two.0))
        (both_are (assignments_fit db put) _ (assignments_put three.0)
        (both_are (nat_le (update_expanded_variables db put) most_expanded_variables) _ (expanded_put db d who u one.0 over four.0)
        (both_are (places_fit db put) _ (places_put five.0) (both_are (checks_fit db put) (relation_fits db put) (checks_put six.0) (relation_put six.1))))))

  -- ---- trees

  asked_all : (asked : List Asked) → list_all (asked_fits may db) asked ≡ true → list_all (asked_fits (kept_alone db) db) (map (expanded_asked db who) asked) ≡ true
  asked_all [] h = refl
  asked_all (a ∷ asked) h = let parts = both_true (asked_fits may db a) (list_all (asked_fits may db) asked) h in λ i. asked_put db d who a parts.0 i && asked_all asked parts.1 i

  suits_put : (user : List ℕ) (tree : Checked) → suits may db user tree ≡ true → suits (kept_alone db) db user (expanded_tree db who tree) ≡ true
  unfolding suits expanded_tree
  suits_put user (checked.Answer asked) h = asked_all asked h
  suits_put user (checked.Update u) h = update_put u h
  suits_put user (checked.Utility work) h = h

  pub fit_put_in : (user : List ℕ) (tree : Checked) → is_fit_with_views db user tree ≡ true → tree_is_spelled (expanded_tree db who tree) ≡ true → is_fit db user (expanded_tree db who tree) ≡ true
  unfolding fits
  fit_put_in user tree h spelled =
      both_are (tree_is_spelled (expanded_tree db who tree)) (suits (kept_alone db) db user (expanded_tree db who tree)) spelled (suits_put user tree (both_true (tree_is_spelled tree) (suits may db user tree) h).1)

  -- and with the rules of the relation that it changes
  pub fit_ruled : (user : List ℕ) (tree : Checked) → is_fit_with_views db user tree ≡ true → tree_is_spelled (ruled_tree db (expanded_tree db who tree)) ≡ true
      → is_fit db user (ruled_tree db (expanded_tree db who tree)) ≡ true
  unfolding fits
  fit_ruled user tree h spelled =
      both_are (tree_is_spelled (ruled_tree db (expanded_tree db who tree))) (suits (kept_alone db) db user (ruled_tree db (expanded_tree db who tree))) spelled
      (suits_ruled db d (kept_alone db) user (expanded_tree db who tree) (suits_put user tree (both_true (tree_is_spelled tree) (suits may db user tree) h).1))
