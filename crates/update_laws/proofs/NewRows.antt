-- The new rows of an update fit.
use Rattle.std.proofs.Common.{◌≡◌, refl, sym, ap, subst, ℕ, zero, suc, ◌==◌, Bool, true, IsTrue, List, [], ◌∷◌, Option, Some, None, map, length, nat_le, arith, rules}
use Rattle.std.specs.Prelude.{option_map, slice_get, slice_set, zip}
use Rattle.std.specs.List.{list_all}
use Rattle.std.proofs.lemmas.Bool.Decides.{nat_tests}
use Rattle.calculus.specs.declared.query.RelKey.{RelKey}
use Rattle.calculus.specs.declared.query.Target.{Target}
use Rattle.calculus.specs.declared.schema.Attr.{Attr}
use Rattle.calculus.specs.declared.request.Update.{Update}
use Rattle.calculus.specs.declared.request.UpdateOp.{UpdateOp}
use Rattle.calculus.specs.declared.request.UpdateOp.TheVariants.{Append, Replace, Delete, Into}
use Rattle.calculus.specs.declared.value.Value.{Value}
use Rattle.calculus.specs.declared.value.Value.TheVariants.{Int, Text}
use Rattle.calculus.specs.declared.value.Domain.TheVariants.{I1, I2, I4, C}
use Rattle.calculus.specs.declared.value.Kind.{Kind}
use Rattle.calculus.specs.declared.value.Kind.TheVariants.{Of, Wide}
use Rattle.calculus.specs.Chars.{is_chars}
use Rattle.calculus.specs.Text.{is_text}
use Rattle.calculus.specs.Rows.{Row}
use Rattle.calculus.specs.Term.{Env, Aggs, val, value_before}
use Rattle.calculus.specs.Value.{fits}
use Rattle.calculus.specs.Database.{Db, is_relation}
use Rattle.calculus.specs.Stored.{attrs_at, kinds_at}
use Rattle.calculus.specs.QueryParts.{vars_of, targets_of}
use Rattle.calculus.specs.Assignments.{changed}
use Rattle.calculus.specs.Targets.{target_values}
use Rattle.calculus.specs.IsDatabase.{value_fits, row_fits, are_stored, is_stored_kind}
use Rattle.calculus.specs.Pairs.{blank, with_values, pair_of}
use Rattle.calculus.specs.Replacement.{is_of_kind, all_fit, made_attr, wanted_kinds}
use Rattle.calculus.proofs.OldRows.{old_in}
use Rattle.quel_meaning.specs.Fit.{new_attrs, is_this_key, relation_fits}
use Rattle.quel_meaning.proofs.Keys.{same_keys}
use Rattle.update_laws.specs.Proper.{is_proper, row_is_proper}
use Rattle.update_laws.proofs.Texts.{both, each}
use Rattle.update_laws.proofs.Assigned.{Chosen, chosen_at}
use Rattle.update_laws.proofs.Catalogued.{Proper}
use Rattle.update_laws.proofs.Ranged.{RowOf}

-- ---- values at places

-- a number or a text in the language's sense that is a value of a stored kind fits it
of_kind_fits : (v : Value) (k : Kind) → IsTrue (is_proper v) → IsTrue (is_stored_kind k) → IsTrue (is_of_kind v (Some k)) → IsTrue (value_fits v k)
of_kind_fits v Wide proper stored h = stored
of_kind_fits (Int z) (Of d) proper stored h = h
of_kind_fits (Text t) (Of d) proper stored h = each (fits (Text t) d) (is_text t) h proper

-- the kinds of attributes
abbrev kinds_of : List Attr → List Kind
kinds_of attrs = map (λ a. a.kind) attrs

set_fits : (attrs : List Attr) (row : Row) (i : ℕ) (v : Value) → IsTrue (are_stored attrs) → IsTrue (row_fits attrs row) → IsTrue (is_proper v) → IsTrue (is_of_kind v (slice_get (kinds_of attrs) i))
    → IsTrue (row_fits attrs (slice_set row i v))
set_fits [] [] i v stored fit proper h = refl
set_fits [] (w ∷ row) i v stored fit proper h = cc fit
set_fits (a ∷ attrs) [] i v stored fit proper h = cc fit
set_fits (a ∷ attrs) (w ∷ row) zero v stored fit proper h =
    let store = both (is_stored_kind a.kind) (are_stored attrs) stored in
    let parts = both (value_fits w a.kind) (row_fits attrs row) fit in
    each (value_fits v a.kind) (row_fits attrs row) (of_kind_fits v a.kind proper store.0 h) parts.1
set_fits (a ∷ attrs) (w ∷ row) (suc i) v stored fit proper h =
    let store = both (is_stored_kind a.kind) (are_stored attrs) stored in
    let parts = both (value_fits w a.kind) (row_fits attrs row) fit in
    each (value_fits w a.kind) (row_fits attrs (slice_set row i v)) parts.0 (set_fits attrs row i v store.1 parts.1 proper h)

-- each value is one of the kind beside it
abbrev are_of_kinds : List Value → List (Option Kind) → Bool
are_of_kinds values kinds = list_all (λ p. is_of_kind p.0 p.1) (zip values kinds)

put_fits : (attrs : List Attr) (places : List ℕ) (values row : Row) → IsTrue (are_stored attrs) → IsTrue (row_fits attrs row) → Proper values
    → IsTrue (are_of_kinds values (map (slice_get (kinds_of attrs)) places)) → IsTrue (row_fits attrs (with_values places values row))
put_fits attrs [] values row stored fit proper h = fit
put_fits attrs (place ∷ places) [] row stored fit proper h = fit
put_fits attrs (place ∷ places) (v ∷ values) row stored fit proper h =
    let p = both (is_proper v) (row_is_proper values) proper in
    let k = both (is_of_kind v (slice_get (kinds_of attrs) place)) (are_of_kinds values (map (slice_get (kinds_of attrs)) places)) h in
    put_fits attrs places values (slice_set row place v) stored (set_fits attrs row place v stored fit p.0 k.0) p.1 k.1

blank_fits : (k : Kind) → IsTrue (is_stored_kind k) → IsTrue (value_fits (blank k) k)
unfolding is_text is_chars
blank_fits Wide t = t
blank_fits (Of I1) t = refl
blank_fits (Of I2) t = refl
blank_fits (Of I4) t = refl
blank_fits (Of (C width)) t = each (nat_le 0 width) true (grind (arith, nat_tests)) refl

blanks_fit : (attrs : List Attr) → IsTrue (are_stored attrs) → IsTrue (row_fits attrs (map blank (kinds_of attrs)))
blanks_fit [] t = refl
blanks_fit (a ∷ attrs) t =
    let store = both (is_stored_kind a.kind) (are_stored attrs) t in
    each (value_fits (blank a.kind) a.kind) (row_fits attrs (map blank (kinds_of attrs))) (blank_fits a.kind store.0) (blanks_fit attrs store.1)

-- ---- the values of targets

-- there are as many values as targets
Length : Option Row → ℕ → Type 0
Length None n = Unit {0}
Length (Some values) n = length values ≡ n

as_many : (aggs : Aggs) (ts : List Target) (e : Env) → Length (target_values aggs ts e) (length ts)
unfolding Length
as_many aggs [] e = refl
as_many aggs (t ∷ ts) e = go (val aggs t.term e) (target_values aggs ts e) (as_many aggs ts e)
  where
    go : (v : Option Value) (vs : Option Row) → Length vs (length ts) → Length (value_before v vs) (suc (length ts))
    go None vs h = tt
    go (Some v) None h = tt
    go (Some v) (Some vs) h = ap suc h

pub length_is : (aggs : Aggs) (ts : List Target) (e : Env) (values : Row) → target_values aggs ts e ≡ Some values → length values ≡ length ts
unfolding Length
length_is aggs ts e values h = subst (λ o. Length o (length ts)) h (as_many aggs ts e)

made_fits : (ts : List Target) (values : Row) → length values ≡ length ts → IsTrue (are_stored (map made_attr ts)) → Proper values
    → IsTrue (are_of_kinds values (map (λ t. Some (made_attr t).kind) ts)) → IsTrue (row_fits (map made_attr ts) values)
made_fits [] [] n stored proper h = refl
made_fits [] (v ∷ values) n stored proper h = cc n
made_fits (t ∷ ts) [] n stored proper h = cc n
made_fits (t ∷ ts) (v ∷ values) n stored proper h =
    let store = both (is_stored_kind (made_attr t).kind) (are_stored (map made_attr ts)) stored in
    let p = both (is_proper v) (row_is_proper values) proper in
    let k = both (is_of_kind v (Some (made_attr t).kind)) (are_of_kinds values (map (λ t. Some (made_attr t).kind) ts)) h in
    each (value_fits v (made_attr t).kind) (row_fits (map made_attr ts) values) (of_kind_fits v (made_attr t).kind p.0 store.0 k.0) (made_fits ts values (omega (arith, n)) store.1 p.1 k.1)

-- ---- the pair of an assignment

-- the row, where there is one, fits
abbrev pub Fits : List Attr → Option Row → Type 0
Fits attrs None = Unit {0}
Fits attrs (Some row) = IsTrue (row_fits attrs row)

-- what is known of an assignment of the update and of its values
pub record Fitting (db : Db) (u : Update) (e : Env) (values : Row) : Type 0 where
  pub assigned : Chosen (RowOf db (changed u)) 0 (vars_of u.query) e
  pub relation : IsTrue (relation_fits db u)
  pub stored : IsTrue (are_stored (new_attrs db u))
  pub proper : Proper values
  pub many : length values ≡ length (targets_of u.query)
  pub kinds : IsTrue (all_fit (wanted_kinds db u) (Some values))

abbrev PairFits : Update → Type 0
PairFits u = (db : Db) (e : Env) (values : Row) → Fitting db u e values → Fits (new_attrs db u) (pair_of db u (old_in u e) values).new

same_number : (n : ℕ) → (n == n) ≡ true
same_number n = search rules

-- the row of the variable that is replaced fits the relation
old_fits : (db : Db) (u : Update) (e : Env) (values : Row) → Fitting db (record u { op = Replace }) e values → Fits (attrs_at db u.rel) (slice_get e u.old)
old_fits db u e values f = go (slice_get e u.old) refl
  where
    parts : IsTrue (is_relation db u.rel) × IsTrue (is_this_key (slice_get (vars_of u.query) u.old) u.rel)
    parts = both (is_relation db u.rel) (is_this_key (slice_get (vars_of u.query) u.old) u.rel) f.relation

    of_key : (row : Row) → slice_get e u.old ≡ Some row → (k : Option RelKey) → slice_get (vars_of u.query) u.old ≡ k → IsTrue (is_this_key k u.rel) → IsTrue (row_fits (attrs_at db u.rel) row)
    of_key row r None k h = cc h
    of_key row r (Some key) k h =
        let one : key ≡ u.rel = same_keys key u.rel h in
        let row_of = chosen_at (RowOf db (changed (record u { op = Replace }))) 0 u.old u.old (omega arith) (vars_of u.query) e f.assigned key k row r in
        subst (λ key. IsTrue (row_fits (attrs_at db key) row)) one (row_of.1 (same_number u.old) (subst (λ key. IsTrue (is_relation db key)) (sym one) parts.0))

    go : (o : Option Row) → slice_get e u.old ≡ o → Fits (attrs_at db u.rel) o
    go None r = tt
    go (Some row) r = of_key row r (slice_get (vars_of u.query) u.old) refl parts.1

replaced : (attrs : List Attr) (places : List ℕ) (values : Row) (old : Option Row) → IsTrue (are_stored attrs) → Proper values
    → IsTrue (are_of_kinds values (map (slice_get (kinds_of attrs)) places)) → Fits attrs old → Fits attrs (option_map (with_values places values) old)
replaced attrs places values None stored proper h fit = tt
replaced attrs places values (Some row) stored proper h fit = put_fits attrs places values row stored fit proper h

-- the new row of a pair fits the attributes of new rows
pub pair_fits : (u : Update) → PairFits u
pair_fits u = go u.op
  where
    go : (o : UpdateOp) → PairFits (record u { op = o })
    go Append db e values f = put_fits (attrs_at db u.rel) u.places values (map blank (kinds_at db u.rel)) f.stored (blanks_fit (attrs_at db u.rel) f.stored) f.proper f.kinds
    go Replace db e values f = replaced (attrs_at db u.rel) u.places values (slice_get e u.old) f.stored f.proper f.kinds (old_fits db u e values f)
    go Delete db e values f = tt
    go Into db e values f = made_fits (targets_of u.query) values f.many f.stored f.proper f.kinds
