-- A relation whose rows become another set.
use Rattle.std.proofs.Common.{◌≡◌, refl, sym, ap, ◌∙◌, subst, nat_le, Bool, true, false, ◌&&◌, ◌||◌, not, IsTrue, List, [], ◌∷◌, Some, length}
use Rattle.std.specs.Prelude.{is_some}
use Rattle.std.specs.List.{list_all}
use Rattle.std.specs.Ordering.{eq_by_cmp}
use Rattle.std.proofs.lemmas.Cmp.{eq_by_cmp_equiv}
use Rattle.std.proofs.lemmas.List.Kept.{IsStrictlySortedBy-filter}
use Rattle.calculus.specs.declared.request.Update.{Update}
use Rattle.calculus.specs.Keys.{same_key}
use Rattle.calculus.specs.Limits.{most_rows}
use Rattle.calculus.specs.Orders.{row_total}
use Rattle.calculus.specs.Rows.{Row, Ascends, has}
use Rattle.calculus.specs.Value.{row_cmp}
use Rattle.calculus.specs.Database.{Db, Relation, relation_at, is_relation}
use Rattle.calculus.specs.Stored.{rows_at}
use Rattle.calculus.specs.Replacement.{with_rows, without_rows, rows_change}
use Rattle.calculus.specs.IsDatabase.{IsDatabase, row_fits}
use Rattle.calculus.specs.Change.{laid, names_what_is_there, adds_what_is_new, lists_once, rows_differ, IsLawful}
use Rattle.calculus.proofs.Sets.{same_set}
use Rattle.plan_laws.proofs.Kept.{each, all_filter}
use Rattle.plan_laws.proofs.RowsChanged.{Ascends-with_rows, has-with_rows, has-filter, new_ones_are_new, rows_that_ascend_differ, its_rows, rows_leave}
use Rattle.plan_laws.proofs.CopiedRows.{found_passes}

-- each row is one of the rows
all_themselves : (rows more : List Row) → ((q : Row) → has rows q ≡ true → has more q ≡ true) → IsTrue (list_all (has more) rows)
all_themselves [] more h = refl
all_themselves (row ∷ rows) more h =
    each (has more row) (list_all (has more) rows) (h row (ap (λ b. b || has rows row) ((eq_by_cmp_equiv row_total).refl row)))
    (all_themselves rows more (λ q t. h q (later (eq_by_cmp row_cmp q row) (has rows q) t)))
  where
    later : (a b : Bool) → b ≡ true → (a || b) ≡ true
    later true b t = refl
    later false b t = t

-- the rows that go taken out and those that come put in make the other set
exchanged : (old new : List Row) → Ascends old → Ascends new → with_rows (without_rows old new) (without_rows (without_rows new old) old) ≡ new
exchanged old new o n =
    same_set (with_rows (without_rows old new) (without_rows (without_rows new old) old)) new
    (Ascends-with_rows (without_rows old new) (without_rows (without_rows new old) old) (IsStrictlySortedBy-filter row_cmp (λ row. not (has (without_rows new old) row)) old o)) n
    (λ q. has-with_rows (without_rows old new) (without_rows (without_rows new old) old) q
    ∙ (λ i. has-filter (λ row. not (has old row)) new q i || has-filter (λ row. not (has (without_rows new old) row)) old q i)
    ∙ ap (λ b. (has new q && not (has old q)) || (has old q && not b)) (has-filter (λ row. not (has new row)) old q) ∙ again (has new q) (has old q))
  where
    again : (a b : Bool) → ((a && not b) || (b && not (b && not a))) ≡ a
    again true true = refl
    again true false = refl
    again false true = refl
    again false false = refl

-- rows of a relation that become another set, of rows that fit and aren't too many, are a lawful change
pub replaced_lawful : (db : Db) (u : Update) (relation : Relation) (new : List Row) → IsDatabase db → relation_at db u.rel ≡ Some relation
    → Ascends new → IsTrue (list_all (row_fits relation.info.attrs) new) → IsTrue (nat_le (length new) most_rows) → IsLawful db (rows_change u (rows_at db u.rel) new)
unfolding laid names_what_is_there adds_what_is_new lists_once
replaced_lawful db u relation new is found ascend fit few = record {
  names_are_there = each (is_relation db u.rel) (list_all (has old) (without_rows new old)) (ap is_some found)
      (all_filter (has old) (λ row. not (has new row)) old (all_themselves old old (λ q t. t)));
  additions_are_new = ap not (new_ones_are_new old new);
  nothing_is_listed_twice = each (rows_differ (without_rows new old)) (rows_differ (without_rows old new))
      (rows_that_ascend_differ (without_rows new old) (IsStrictlySortedBy-filter row_cmp (λ row. not (has new row)) old ascend_old))
      (rows_that_ascend_differ (without_rows old new) (IsStrictlySortedBy-filter row_cmp (λ row. not (has old row)) new ascend));
  leaves_a_database = rows_leave db u.rel relation (without_rows new old) (without_rows old new) new is found
      (ap (λ rows. with_rows (without_rows old new) (without_rows (without_rows new old) rows)) (sym (its_rows db u.rel relation found)) ∙ exchanged old new ascend_old ascend)
      ascend fit few;
}
  where
    old : List Row
    old = rows_at db u.rel

    ascend_old : Ascends old
    ascend_old = subst Ascends (sym (its_rows db u.rel relation found)) (found_passes (λ r. Ascends r.rows) (λ r. same_key r.info.key u.rel) db.relations relation is.rows_ascend found)
