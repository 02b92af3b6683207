-- Rows of a relation that go and come.
use Rattle.std.proofs.Common.{◌≡◌, refl, sym, ap, ◌∙◌, subst, ℕ, ◌+◌, ◌-◌, nat_le, Bool, true, false, ◌&&◌, ◌||◌, not, cond, IsTrue, List, [], ◌∷◌, Some, length, arith}
use Rattle.std.specs.Prelude.{◌↔◌, find}
use Rattle.std.specs.List.{list_all, list_any}
use Rattle.std.proofs.lemmas.Bool.Decides.{nat_tests}
use Rattle.std.proofs.lemmas.List.Kept.{IsStrictlySortedBy-filter}
use Rattle.calculus.specs.declared.query.RelKey.{RelKey}
use Rattle.calculus.specs.declared.change.DbChange.TheVariants as change
use Rattle.calculus.specs.Keys.{same_key}
use Rattle.calculus.specs.Limits.{most_rows}
use Rattle.calculus.specs.Rows.{Row, Ascends, has}
use Rattle.calculus.specs.Value.{row_cmp}
use Rattle.calculus.specs.Database.{Db, Relation, relation_at, is_relation}
use Rattle.calculus.specs.Stored.{rows_at, attrs_at}
use Rattle.calculus.specs.Replacement.{with_rows, without_rows}
use Rattle.calculus.specs.IsDatabase.{IsDatabase, row_fits, relation_rows_fit}
use Rattle.calculus.specs.Change.{laid, change_at, rows_differ, names_what_is_there, adds_what_is_new, lists_once, IsLawful}
use Rattle.change_laws.specs.Fit.{rows_are_fit}
use Rattle.plan_laws.proofs.Kept.{both, each, all_filter}
use Rattle.plan_laws.proofs.Indexes.{is_no}
use Rattle.plan_laws.proofs.Created.{each_true}
use Rattle.plan_laws.proofs.RowsChanged.{Ascends-with_rows, has-filter, all_with_rows, its_rows, its_attrs, rows_leave}
use Rattle.plan_laws.proofs.Tests.{there_is, found_has}
use Rattle.change_laws.proofs.Counted.{length_with, length_without, all_that_come}

-- what each that stands passes, the one that is changed passes
pub changed_passes : (rel : RelKey) (f : Relation → Relation) (test : Relation → Bool) (rs : List Relation) (r : Relation) → find (λ r. same_key r.info.key rel) rs ≡ Some r
    → IsTrue (list_all test (change_at rel f rs)) → IsTrue (test (f r))
changed_passes rel f test [] r e t = cc e
changed_passes rel f test (x ∷ xs) r e t = go (same_key x.info.key rel) e t (changed_passes rel f test xs r)
  where
    the : {x y : Relation} → Some x ≡ Some y → x ≡ y
    the e = cc e

    go : (b : Bool) → cond b (Some x) (find (λ r. same_key r.info.key rel) xs) ≡ Some r
        → IsTrue (test (elim b as (λ b. Relation) [ true ↦ f x | false ↦ x ]) && list_all test (change_at rel f xs))
        → (find (λ r. same_key r.info.key rel) xs ≡ Some r → IsTrue (list_all test (change_at rel f xs)) → IsTrue (test (f r))) → IsTrue (test (f r))
    go true e t later = ap (λ x. test (f x)) (sym (the e)) ∙ (both (test (f x)) (list_all test (change_at rel f xs)) t).0
    go false e t later = later e (both (test x) (list_all test (change_at rel f xs)) t).1

-- none of the rows that come is among those that stay
none_stays : (remove rows add : List Row) → list_any (has rows) add ≡ false → list_any (has (without_rows remove rows)) add ≡ false
none_stays remove rows [] h = refl
none_stays remove rows (row ∷ add) h = go (has rows row) refl h (none_stays remove rows add)
  where
    go : (b : Bool) → has rows row ≡ b → (b || list_any (has rows) add) ≡ false → (list_any (has rows) add ≡ false → list_any (has (without_rows remove rows)) add ≡ false)
        → (has (without_rows remove rows) row || list_any (has (without_rows remove rows)) add) ≡ false
    go true e h later = cc h
    go false e h later =
        ap (λ b. b || list_any (has (without_rows remove rows)) add) (has-filter (λ row. not (has remove row)) rows row ∙ ap (λ b. b && not (has remove row)) e) ∙ later h

-- how many there are then
counted : (relation : Relation) (remove add : List Row) → Ascends relation.rows → IsTrue (list_all (has relation.rows) remove) → IsTrue (not (list_any (has relation.rows) add))
    → IsTrue (rows_differ remove) → IsTrue (rows_differ add)
    → length remove + length (with_rows add (without_rows remove relation.rows)) ≡ length relation.rows + length add
counted relation remove add ascend there new gone_once come_once =
    let come = length_with add (without_rows remove relation.rows) come_once (none_stays remove relation.rows add (is_no _ new)) in
    let gone = length_without remove relation.rows ascend gone_once there in
    omega (arith, come, gone)

pub rows_fit_exactly : (db : Db) (rel : RelKey) (remove add : List Row) → IsDatabase db → (rows_are_fit db rel remove add ≡ true) ↔ IsLawful db (change.Rows rel remove add)
unfolding rows_are_fit laid names_what_is_there adds_what_is_new lists_once
rows_fit_exactly db rel remove add is = (to, from)
  where
    Its : Relation → Type 0
    Its relation = Ascends relation.rows × IsTrue (relation_rows_fit relation)

    its : (relation : Relation) → relation_at db rel ≡ Some relation → Its relation
    its relation found = (
      found_has (λ r. Ascends r.rows) (λ r. same_key r.info.key rel) db.relations relation is.rows_ascend found,
      found_has (λ r. IsTrue (relation_rows_fit r)) (λ r. same_key r.info.key rel) db.relations relation (each_true relation_rows_fit db.relations is.rows_fit) found,
    )

    enough : (a b c : ℕ) → a + b ≡ c → IsTrue (nat_le (c - a) most_rows) → IsTrue (nat_le b most_rows)
    enough a b c e t = grind (arith, nat_tests, e, t)

    no_more : (a b c : ℕ) → a + b ≡ c → IsTrue (nat_le b most_rows) → IsTrue (nat_le (c - a) most_rows)
    no_more a b c e t = grind (arith, nat_tests, e, t)

    lawful : (relation : Relation) → relation_at db rel ≡ Some relation → rows_are_fit db rel remove add ≡ true → IsLawful db (change.Rows rel remove add)
    lawful relation found t =
        let old = its_rows db rel relation found in
        let relation_there = both (is_relation db rel) _ t in
        let there = both (list_all (has (rows_at db rel)) remove) _ relation_there.1 in
        let new = both (not (list_any (has (rows_at db rel)) add)) _ there.1 in
        let gone_once = both (rows_differ remove) _ new.1 in
        let come_once = both (rows_differ add) _ gone_once.1 in
        let fits = both (list_all (row_fits (attrs_at db rel)) add) _ come_once.1 in
        let own = its relation found in
        let own_there : IsTrue (list_all (has relation.rows) remove) = subst (λ rows. IsTrue (list_all (has rows) remove)) old there.0 in
        let own_new : IsTrue (not (list_any (has relation.rows) add)) = subst (λ rows. IsTrue (not (list_any (has rows) add))) old new.0 in
        let number = counted relation remove add own.0 own_there own_new gone_once.0 come_once.0 in
        let few : IsTrue (nat_le (length relation.rows + length add - length remove) most_rows) =
        subst (λ (rows : List Row). IsTrue (nat_le (length rows + length add - length remove) most_rows)) old fits.1 in
        let fitting : IsTrue (list_all (row_fits relation.info.attrs) add) = subst (λ attrs. IsTrue (list_all (row_fits attrs) add)) (its_attrs db rel relation found) fits.0 in
        record {
          names_are_there = each _ _ relation_there.0 there.0;
          additions_are_new = new.0;
          nothing_is_listed_twice = each _ _ gone_once.0 come_once.0;
          leaves_a_database = rows_leave db rel relation remove add (with_rows add (without_rows remove relation.rows)) is found refl
              (Ascends-with_rows add (without_rows remove relation.rows) (IsStrictlySortedBy-filter row_cmp (λ row. not (has remove row)) relation.rows own.0))
              (all_with_rows (row_fits relation.info.attrs) add (without_rows remove relation.rows) fitting (all_filter (row_fits relation.info.attrs) (λ row. not (has remove row)) relation.rows own.1))
              (enough (length remove) (length (with_rows add (without_rows remove relation.rows))) (length relation.rows + length add) number few);
        }

    to : rows_are_fit db rel remove add ≡ true → IsLawful db (change.Rows rel remove add)
    to t = there_is (relation_at db rel) (both (is_relation db rel) _ t).0 (λ relation found. lawful relation found t)

    fit : (relation : Relation) → relation_at db rel ≡ Some relation → IsLawful db (change.Rows rel remove add) → rows_are_fit db rel remove add ≡ true
    fit relation found l =
        let old = its_rows db rel relation found in
        let names = both (is_relation db rel) (list_all (has (rows_at db rel)) remove) l.names_are_there in
        let once = both (rows_differ remove) (rows_differ add) l.nothing_is_listed_twice in
        let own = its relation found in
        let own_there : IsTrue (list_all (has relation.rows) remove) = subst (λ rows. IsTrue (list_all (has rows) remove)) old names.1 in
        let own_new : IsTrue (not (list_any (has relation.rows) add)) = subst (λ rows. IsTrue (not (list_any (has rows) add))) old l.additions_are_new in
        let number = counted relation remove add own.0 own_there own_new once.0 once.1 in
        let changed : Relation → Relation = λ r. record r { rows = with_rows add (without_rows remove r.rows) } in
        let few = changed_passes rel changed (λ r. nat_le (length r.rows) most_rows) db.relations relation found l.leaves_a_database.few_rows in
        let fitting = all_that_come (row_fits relation.info.attrs) add (without_rows remove relation.rows) (changed_passes rel changed relation_rows_fit db.relations relation found l.leaves_a_database.rows_fit) in
        let bound = no_more (length remove) (length (with_rows add (without_rows remove relation.rows))) (length relation.rows + length add) number few in
        each _ _ names.0 (each _ _ names.1 (each _ _ l.additions_are_new (each _ _ once.0 (each _ _ once.1 (each _ _
        (subst (λ attrs. IsTrue (list_all (row_fits attrs) add)) (sym (its_attrs db rel relation found)) fitting)
        (subst (λ (rows : List Row). IsTrue (nat_le (length rows + length add - length remove) most_rows)) (sym old) bound))))))

    from : IsLawful db (change.Rows rel remove add) → rows_are_fit db rel remove add ≡ true
    from l = there_is (relation_at db rel) (both (is_relation db rel) _ l.names_are_there).0 (λ relation found. fit relation found l)
