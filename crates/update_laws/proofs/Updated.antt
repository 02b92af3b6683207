-- An update that isn't refused makes a lawful change.
use Rattle.std.proofs.Common.{◌≡◌, refl, sym, ap, subst, ◌∙◌, ℕ, Bool, true, false, not, IsTrue, List, [], ◌∷◌, Option, Some, None, map, filter, length, nat_le, nat_lt, nat_eq, arith}
use Rattle.std.specs.Prelude.{is_some, option_map, filter_map, slice_get, Result, Ok, Err}
use Rattle.std.specs.List.{list_all}
use Rattle.std.proofs.lemmas.Bool.Decides.{nat_tests}
use Rattle.std.proofs.lemmas.List.Kept.{IsStrictlySortedBy-filter}
use Rattle.calculus.specs.declared.query.RelKey.{RelKey}
use Rattle.calculus.specs.declared.schema.Attr.{Attr}
use Rattle.calculus.specs.declared.change.Pair.{Pair}
use Rattle.calculus.specs.declared.change.DbChange.{DbChange}
use Rattle.calculus.specs.declared.request.Update.{Update}
use Rattle.calculus.specs.declared.request.UpdateOp.{UpdateOp}
use Rattle.calculus.specs.declared.request.UpdateOp.TheVariants.{Append, Replace, Delete, Into}
use Rattle.calculus.specs.Keys.{same_key}
use Rattle.calculus.specs.Limits.{most_rows}
use Rattle.calculus.specs.Rows.{Row, Ascends, has}
use Rattle.calculus.specs.Value.{row_cmp}
use Rattle.calculus.specs.Who.{Who}
use Rattle.calculus.specs.Database.{Db, Relation, relation_at, is_relation}
use Rattle.calculus.specs.Stored.{kept_rows, attrs_at, rows_at}
use Rattle.calculus.specs.Term.{Env, holds}
use Rattle.calculus.specs.QueryParts.{vars_of, targets_of, qual_of, term_aggregates}
use Rattle.calculus.specs.Assignments.{changed}
use Rattle.calculus.specs.Targets.{target_values}
use Rattle.calculus.specs.VariableRows.{rows_of}
use Rattle.calculus.specs.Aggregate.{aggregates}
use Rattle.calculus.specs.IsDatabase.{IsDatabase, are_stored, row_fits}
use Rattle.calculus.specs.Pairs.{pair_of, pair_allowed, pairs}
use Rattle.calculus.specs.Replacement.{old_rows, new_rows, with_rows, without_rows, after, made_attr, wanted_kinds, all_fit, values_fit, rows_after, rows_change, update_refusals, first_refusal, change_of, updated}
use Rattle.calculus.specs.Change.{IsLawful}
use Rattle.calculus.proofs.Sets.{Ascends-nil, Ascends-put}
use Rattle.quel_meaning.specs.Fit.{new_attrs, is_this_key, relation_fits}
use Rattle.quel_meaning.proofs.DatabaseFacts.{found_passes}
use Rattle.quel_meaning.proofs.Each.{Each, in_filter, each_passes, passed}
use Rattle.plan_laws.specs.Fitting.{IsFitRelation}
use Rattle.plan_laws.proofs.CopiedRows.{found_passes as found_has}
use Rattle.plan_laws.proofs.Created.{made_lawful, nothing_ranges}
use Rattle.plan_laws.proofs.Replaced.{replaced_lawful}
use Rattle.calculus.proofs.OldRows.{old_in, pair_in, seen_assigned, seen_qualifying, pairs_with_old, fit_with_old}
use Rattle.quel_meaning.specs.SpelledTree.{key_is_spelled, made_key_is_spelled}
use Rattle.plan_laws.proofs.FitUtilities.{fit_relation}
use Rattle.update_laws.proofs.Standing.{TargetStands}
use Rattle.update_laws.proofs.Texts.{both}
use Rattle.update_laws.proofs.Valued.{AggsProper, gives_row, targets_proper}
use Rattle.update_laws.proofs.Assigned.{Chosen, all_proper}
use Rattle.update_laws.proofs.Lists.{in_filter_map, two_each}
use Rattle.update_laws.proofs.Catalogued.{put_each}
use Rattle.update_laws.proofs.Ranged.{RowOf, its_rows, its_attrs, stored_fit, assignments_are}
use Rattle.update_laws.proofs.NewRows.{Fits, length_is, pair_fits}

-- ---- the new rows

-- the assignment has a row of each variable
abbrev pub IsAssigned : Db → Update → Env → Type 0
IsAssigned db u e = Chosen (RowOf db (changed u)) 0 (vars_of u.query) e

-- the aggregates of each target give numbers and texts in the language's sense
abbrev pub TargetAggsProper : Db → Who → Update → Env → Type 0
TargetAggsProper db who u e = Each (λ t. AggsProper (aggregates db who) e (term_aggregates t.term)) (targets_of u.query)

-- what is known of an update before it is asked whether it is refused
pub record Given (db : Db) (who : Who) (u : Update) : Type 0 where
  pub is : IsDatabase db
  pub relation : IsTrue (relation_fits db u)
  pub stored : IsTrue (are_stored (new_attrs db u))
  pub spelled : Each TargetStands (targets_of u.query)
  pub aggs : (e : Env) → IsAssigned db u e → TargetAggsProper db who u e

-- the new row of the pair of an assignment fits
new_fits : (db : Db) (who : Who) (u : Update) → Given db who u → (e : Env)
    → IsAssigned db u e × IsTrue (all_fit (wanted_kinds db u) (target_values (aggregates db who) (targets_of u.query) e))
    → (p : Pair) → pair_in db who u e ≡ Some p → Fits (new_attrs db u) p.new
new_fits db who u g e h p f = go (target_values (aggregates db who) (targets_of u.query) e) refl proper h.1 f
  where
    proper : IsTrue (gives_row (target_values (aggregates db who) (targets_of u.query) e))
    proper = targets_proper (aggregates db who) (targets_of u.query) e g.spelled (all_proper (RowOf db (changed u)) (λ n key row h. h.0) 0 (vars_of u.query) e h.0) (g.aggs e h.0)

    go : (o : Option Row) → target_values (aggregates db who) (targets_of u.query) e ≡ o → IsTrue (gives_row o) → IsTrue (all_fit (wanted_kinds db u) o)
        → option_map (pair_of db u (old_in u e)) o ≡ Some p → Fits (new_attrs db u) p.new
    go None v r k f = cc f
    go (Some values) v r k f =
        let same : pair_of db u (old_in u e) values ≡ p = cc f in
        subst (λ p. Fits (new_attrs db u) p.new) same
        (pair_fits u db e values (record {
          assigned = h.0;
          relation = g.relation;
          stored = g.stored;
          proper = r;
          many = length_is (aggregates db who) (targets_of u.query) e values v;
          kinds = k;
        }))

-- each new row fits
new_rows_fit : (db : Db) (who : Who) (u : Update) → Given db who u → IsTrue (values_fit db who u)
    → Each (λ row. IsTrue (row_fits (new_attrs db u) row)) (new_rows (pairs db who u))
new_rows_fit db who u g fit = subst (λ ps. Each (λ row. IsTrue (row_fits (new_attrs db u) row)) (new_rows ps)) (sym (pairs_with_old db who u))
    (in_filter_map (λ p. Fits (new_attrs db u) p.new) (λ row. IsTrue (row_fits (new_attrs db u) row)) (λ p. p.new) (λ p h row e. subst (Fits (new_attrs db u)) e h)
    (filter (pair_allowed db who u) (filter_map (pair_in db who u) (seen_qualifying db who u)))
    (in_filter (λ p. Fits (new_attrs db u) p.new) (pair_allowed db who u) (filter_map (pair_in db who u) (seen_qualifying db who u))
    (in_filter_map (λ e. IsAssigned db u e × IsTrue (all_fit (wanted_kinds db u) (target_values (aggregates db who) (targets_of u.query) e))) (λ p. Fits (new_attrs db u) p.new) (pair_in db who u)
    (new_fits db who u g) (seen_qualifying db who u)
    (two_each (IsAssigned db u) (λ e. IsTrue (all_fit (wanted_kinds db u) (target_values (aggregates db who) (targets_of u.query) e))) (seen_qualifying db who u)
    (in_filter (IsAssigned db u) (holds (aggregates db who) (qual_of u.query)) (seen_assigned db who (rows_of db who) u) (assignments_are db who u g.is))
    (each_passes (λ e. all_fit (wanted_kinds db u) (target_values (aggregates db who) (targets_of u.query) e)) (seen_qualifying db who u) (sym (fit_with_old db who u) ∙ fit))))))

-- ---- the rows before

-- the rows before fit the attributes of the new rows, and ascend; these attributes have domains
pub record Before (db : Db) (u : Update) : Type 0 where
  pub stored : IsTrue (are_stored (new_attrs db u))
  pub fit : IsTrue (list_all (row_fits (new_attrs db u)) (rows_at db u.rel))
  pub ascend : Ascends (rows_at db u.rel)

-- where there is one, it is this one
there_is : {P : Type 0} (o : Option Relation) → IsTrue (is_some o) → ((r : Relation) → o ≡ Some r → P) → P
there_is None e go = cc e
there_is (Some r) e go = go r refl

-- of a base relation
record BeforeAt (db : Db) (key : RelKey) : Type 0 where
  stored : IsTrue (are_stored (attrs_at db key))
  fit : IsTrue (list_all (row_fits (attrs_at db key)) (rows_at db key))
  ascend : Ascends (rows_at db key)

relation_before : (db : Db) (key : RelKey) → IsDatabase db → IsTrue (is_relation db key) → BeforeAt db key
relation_before db key is there = there_is (relation_at db key) there λ relation found. record {
  stored = ap are_stored (its_attrs db key relation found)
      ∙ found_passes (λ (r : Relation). same_key r.info.key key) (λ (r : Relation). are_stored r.info.attrs) db.relations relation is.relations_are_stored found;
  fit = stored_fit db key is there;
  ascend = subst Ascends (sym (its_rows db key relation found)) (found_has (λ r. Ascends r.rows) (λ r. same_key r.info.key key) db.relations relation is.rows_ascend found);
}

-- a relation that is made
into_fits : (db : Db) (u : Update) → IsTrue (key_is_spelled u.rel) → IsTrue (relation_fits db (record u { op = Into })) → IsFitRelation db u.rel (map made_attr (targets_of u.query))
into_fits db u spelled fit = fit_relation db u.rel (map made_attr (targets_of u.query)) spelled (both (nat_eq u.old 255) _ fit).1

abbrev BeforeIs : Update → Type 0
BeforeIs u = (db : Db) → IsDatabase db → IsTrue (made_key_is_spelled u) → IsTrue (relation_fits db u) → Before db u

before : (u : Update) → BeforeIs u
before u = go u.op
  where
    of_relation : (db : Db) → IsDatabase db → IsTrue (is_relation db u.rel) → BeforeAt db u.rel
    of_relation db is h = relation_before db u.rel is h

    go : (o : UpdateOp) → BeforeIs (record u { op = o })
    go Append db is spelled h = let b = of_relation db is (both (is_relation db u.rel) (nat_eq u.old 255) h).0 in record { stored = b.stored; fit = b.fit; ascend = b.ascend }
    go Replace db is spelled h =
        let b = of_relation db is (both (is_relation db u.rel) (is_this_key (slice_get (vars_of u.query) u.old) u.rel) h).0 in record { stored = b.stored; fit = b.fit; ascend = b.ascend }
    go Delete db is spelled h =
        let b = of_relation db is (both (is_relation db u.rel) (is_this_key (slice_get (vars_of u.query) u.old) u.rel) h).0 in record { stored = b.stored; fit = b.fit; ascend = b.ascend }
    go Into db is spelled h =
        let f = into_fits db u spelled h in
        let none : rows_at db u.rel ≡ [] = ap kept_rows (nothing_ranges db u.rel f.named f.unused) in
        record { stored = f.domains; fit = ap (list_all (row_fits (map made_attr (targets_of u.query)))) none; ascend = subst Ascends (sym none) Ascends-nil }

-- ---- the rows after

with_each : (P : Row → Type 0) (others rows : List Row) → Each P others → Each P rows → Each P (with_rows others rows)
with_each P [] rows o h = h
with_each P (row ∷ others) rows o h = put_each P row (with_rows others rows) o.0 (with_each P others rows o.1 h)

with_ascends : (others rows : List Row) → Ascends rows → Ascends (with_rows others rows)
with_ascends [] rows h = h
with_ascends (row ∷ others) rows h = Ascends-put row (with_rows others rows) (with_ascends others rows h)

after_ascends : (rows : List Row) (ps : List Pair) → Ascends rows → Ascends (after rows ps)
unfolding after
after_ascends rows ps h = with_ascends (new_rows ps) (without_rows (old_rows ps) rows) (IsStrictlySortedBy-filter row_cmp (λ row. not (has (old_rows ps) row)) rows h)

after_fits : (attrs : List Attr) (rows : List Row) (ps : List Pair) → IsTrue (list_all (row_fits attrs) rows) → Each (λ row. IsTrue (row_fits attrs row)) (new_rows ps)
    → IsTrue (list_all (row_fits attrs) (after rows ps))
unfolding after
after_fits attrs rows ps h new =
    passed (row_fits attrs) (with_rows (new_rows ps) (without_rows (old_rows ps) rows))
    (with_each (λ row. IsTrue (row_fits attrs row)) (new_rows ps) (without_rows (old_rows ps) rows) new
    (in_filter (λ row. IsTrue (row_fits attrs row)) (λ row. not (has (old_rows ps) row)) rows (each_passes (row_fits attrs) rows h)))

-- ---- the change

-- rows that ascend, fit and are few make the change lawful
abbrev Lawful : Update → Type 0
Lawful u = (db : Db) (who : Who) → IsDatabase db → IsTrue (made_key_is_spelled u) → IsTrue (relation_fits db u) → Ascends (rows_after db who u)
    → IsTrue (list_all (row_fits (new_attrs db u)) (rows_after db who u)) → IsTrue (nat_le (length (rows_after db who u)) most_rows) → IsLawful db (change_of db who u)

change_lawful : (u : Update) → Lawful u
change_lawful u = go u.op
  where
    rows_lawful : (u : Update) (db : Db) (who : Who) → IsDatabase db → IsTrue (is_relation db u.rel) → (new : List Row) → Ascends new
        → IsTrue (list_all (row_fits (attrs_at db u.rel)) new) → IsTrue (nat_le (length new) most_rows) → IsLawful db (rows_change u (rows_at db u.rel) new)
    rows_lawful u db who is there new ascend fit few = there_is (relation_at db u.rel) there λ relation found.
        replaced_lawful db u relation new is found ascend (subst (λ attrs. IsTrue (list_all (row_fits attrs) new)) (its_attrs db u.rel relation found) fit) few

    go : (o : UpdateOp) → Lawful (record u { op = o })
    go Append db who is spelled h ascend fit few =
        rows_lawful (record u { op = Append }) db who is (both (is_relation db u.rel) (nat_eq u.old 255) h).0 (rows_after db who (record u { op = Append })) ascend fit few
    go Replace db who is spelled h ascend fit few =
        rows_lawful (record u { op = Replace }) db who is (both (is_relation db u.rel) (is_this_key (slice_get (vars_of u.query) u.old) u.rel) h).0 (rows_after db who (record u { op = Replace })) ascend fit few
    go Delete db who is spelled h ascend fit few =
        rows_lawful (record u { op = Delete }) db who is (both (is_relation db u.rel) (is_this_key (slice_get (vars_of u.query) u.old) u.rel) h).0 (rows_after db who (record u { op = Delete })) ascend fit few
    go Into db who is spelled h ascend fit few =
        made_lawful db u.rel (map made_attr (targets_of u.query)) (rows_after db who (record u { op = Into })) is (into_fits db u spelled h) ascend fit few

-- ---- no cause is there

is_not : (a : Bool) → not a ≡ false → a ≡ true
is_not true h = refl
is_not false h = cc h

few_rows : (n : ℕ) → nat_lt most_rows n ≡ false → IsTrue (nat_le n most_rows)
few_rows n h = grind (arith, nat_tests, h)

-- where no cause is there, each is absent
all_absent : (refusals : List (ℕ × Bool)) → first_refusal refusals ≡ None → Each (λ c. c.1 ≡ false) refusals
all_absent [] h = tt
all_absent (c ∷ refusals) h = go c.1 h (all_absent refusals)
  where
    go : (b : Bool) → (elim b as (λ b. Option ℕ) [ true ↦ Some c.0 | false ↦ first_refusal refusals ]) ≡ None → (first_refusal refusals ≡ None → Each (λ c. c.1 ≡ false) refusals)
        → (b ≡ false) × Each (λ c. c.1 ≡ false) refusals
    go true h later = cc h
    go false h later = (refl, later h)

not_refused : (db : Db) (who : Who) (u : Update) (change : DbChange) → updated db who u ≡ Ok change → (first_refusal (update_refusals db who u) ≡ None) × (change_of db who u ≡ change)
unfolding updated
not_refused db who u change h = go (first_refusal (update_refusals db who u)) refl h
  where
    go : (o : Option ℕ) → first_refusal (update_refusals db who u) ≡ o → (elim o as (λ o. Result DbChange ℕ) [ None ↦ Ok (change_of db who u) | Some number ↦ Err number ]) ≡ Ok change
        → (first_refusal (update_refusals db who u) ≡ None) × (change_of db who u ≡ change)
    go None e h = (e, cc h)
    go (Some number) e h = cc h

-- an update whose constants stand, whose aggregates give numbers and texts, and which isn't refused
pub update_lawful : (db : Db) (who : Who) (u : Update) (change : DbChange) → IsDatabase db → IsTrue (relation_fits db u) → IsTrue (made_key_is_spelled u) → Each TargetStands (targets_of u.query)
    → ((e : Env) → IsAssigned db u e → TargetAggsProper db who u e) → updated db who u ≡ Ok change → IsLawful db change
update_lawful db who u change is relation spelled constants aggs h =
    let plan = not_refused db who u change h in
    let absent = all_absent (update_refusals db who u) plan.0 in
    let was = before u db is spelled relation in
    let given : Given db who u = record { is = is; relation = relation; stored = was.stored; spelled = constants; aggs = aggs } in
    subst (IsLawful db) plan.1
    (change_lawful u db who is spelled relation (after_ascends (rows_at db u.rel) (pairs db who u) was.ascend)
    (after_fits (new_attrs db u) (rows_at db u.rel) (pairs db who u) was.fit (new_rows_fit db who u given (is_not (values_fit db who u) absent.1.0)))
    (few_rows (length (rows_after db who u)) absent.1.1.1.0))
