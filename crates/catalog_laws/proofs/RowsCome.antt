-- Rows of a relation that weren't known come to be known.
use Rattle.std.proofs.Common.{◌≡◌, refl, sym, ap, subst, ◌∙◌, ℕ, Bool, true, false, not, ◌||◌, IsTrue, List, [], ◌∷◌, map, length, Some, arith}
use Rattle.std.specs.Prelude.{nat_le, ◌+◌, ◌-◌, is_some, option_map}
use Rattle.std.specs.List.{AllByRecursion, list_all, list_any}
use Rattle.std.proofs.lemmas.Bool.Decides.{nat_tests}
use Rattle.calculus.specs.declared.query.RelKey.{RelKey}
use Rattle.calculus.specs.declared.schema.RelInfo.{RelInfo}
use Rattle.calculus.specs.declared.change.DbChange.TheVariants as change
use Rattle.calculus.specs.Change.{IsLawful, laid, change_at, rows_differ}
use Rattle.calculus.specs.Database.{Db, Relation, relation_at}
use Rattle.calculus.specs.IsDatabase.{IsDatabase, row_fits, relation_rows_fit}
use Rattle.calculus.specs.Keys.{same_key}
use Rattle.calculus.specs.Limits.{most_rows}
use Rattle.calculus.specs.Replacement.{with_rows, without_rows}
use Rattle.calculus.specs.Rows as rows
use Rattle.calculus.specs.Rows.{Row, put, set_of}
use Rattle.calculus.specs.Schema.{bare}
use Rattle.calculus.specs.Stored.{rows_at, attrs_at}
use Rattle.calculus.specs.Value.{row_cmp}
use Rattle.page_chain.specs.Lists.{once}
use Rattle.plan_laws.proofs.Changed.{owned}
use Rattle.plan_laws.proofs.Created.{each_true}
use Rattle.plan_laws.proofs.Kept.{each}
use Rattle.plan_laws.proofs.NewIndexes.{other_way}
use Rattle.plan_laws.proofs.Orders.{same_key_itself}
use Rattle.plan_laws.proofs.RowsChanged.{its_rows, its_attrs}
use Rattle.plan_laws.proofs.Tests.{found_has}
use Rattle.change_laws.specs.Fit.{change_is_fit, rows_are_fit}
use Rattle.change_laws.proofs.Counted.{all_that_come}
use Rattle.change_laws.proofs.Exactly.{fits_exactly}
use Rattle.relation_rows.proofs.Once.{length_set, once_differ}
use Rattle.catalog_laws.specs.Loaded.{loaded_part, with_key, TakesRows}
use Rattle.catalog_laws.proofs.Changes.{other_part}
use Rattle.catalog_laws.proofs.Part.{part, part_if, part_info, part_unknown, relation_part}
use Rattle.catalog_laws.proofs.Stands.{part_is_database}

-- ---- the rows

-- all of them are put in their places
all_put : (rs : List Row) → with_rows rs [] ≡ set_of rs
all_put [] = refl
all_put (row ∷ rs) = ap (put row) (all_put rs)

none_there : (rs : List Row) → list_any (rows.has []) rs ≡ false
none_there [] = refl
none_there (row ∷ rs) = none_there rs

-- what each of their set passes, each of them passes
all_pass : (test : Row → Bool) (rs set : List Row) → set_of rs ≡ set → IsTrue (list_all test set) → IsTrue (list_all test rs)
all_pass test rs set e t = all_that_come test rs [] (subst (λ s. IsTrue (list_all test s)) (sym (all_put rs ∙ e)) t)

module _ (has : RelKey → Bool) (db : Db) (r : Relation) (rs : List Row) (is : IsDatabase db) (found : Some r ≡ relation_at db r.info.key) (unknown : has r.info.key ≡ false) (come : once row_cmp rs ≡ Some r.rows) where
  once_each : (rows_differ rs ≡ true) × (set_of rs ≡ r.rows)
  once_each = once_differ rs r.rows come

  -- the part has the relation without rows
  there : relation_at (loaded_part has db) r.info.key ≡ Some (bare r)
  there = relation_part has db r.info.key ∙ ap (option_map (part has)) (sym found) ∙ ap Some (part_unknown has r unknown)

  no_rows : rows_at (loaded_part has db) r.info.key ≡ []
  no_rows = its_rows (loaded_part has db) r.info.key (bare r) there

  attrs : attrs_at (loaded_part has db) r.info.key ≡ r.info.attrs
  attrs = its_attrs (loaded_part has db) r.info.key (bare r) there

  fit : IsTrue (list_all (row_fits r.info.attrs) rs)
  fit = all_pass (row_fits r.info.attrs) rs r.rows once_each.1
      (found_has (λ r. IsTrue (relation_rows_fit r)) (λ x. same_key x.info.key r.info.key) db.relations r (each_true relation_rows_fit db.relations is.rows_fit) (sym found))

  few : IsTrue (nat_le (0 + length rs - 0) most_rows)
  few = go (length rs) (length r.rows) (sym (length_set rs once_each.0) ∙ ap length once_each.1)
      (found_has (λ (r : Relation). IsTrue (nat_le (length r.rows) most_rows)) (λ x. same_key x.info.key r.info.key) db.relations r (each_true (λ (r : Relation). nat_le (length r.rows) most_rows) db.relations is.few_rows) (sym found))
    where
      go : (n k : ℕ) → n ≡ k → IsTrue (nat_le k most_rows) → IsTrue (nat_le (0 + n - 0) most_rows)
      go n k e t = grind (arith, nat_tests, e, t)

  may_come : IsLawful (loaded_part has db) (change.Rows r.info.key [] rs)
  unfolding change_is_fit rows_are_fit
  may_come =
      (fits_exactly (loaded_part has db) (change.Rows r.info.key [] rs) (part_is_database has db is)).0
      (each _ _ (ap is_some there) (each _ _ refl (each _ _ (ap (λ old. not (list_any (rows.has old) rs)) no_rows ∙ ap not (none_there rs)) (each _ _ refl (each _ _ once_each.0 (each _ _
      (subst (λ attrs. IsTrue (list_all (row_fits attrs) rs)) (sym attrs) fit)
      (subst (λ (old : List Row). IsTrue (nat_le (length old + length rs - 0) most_rows)) (sym no_rows) few)))))))

  -- ---- the relations after it

  new : RelKey → Bool
  new = with_key r.info.key has

  f : Relation → Relation
  f x = record x { rows = with_rows rs (without_rows [] x.rows) }

  Owned : Relation → Type 0
  Owned x = same_key x.info.key r.info.key ≡ true → relation_at db r.info.key ≡ Some x

  own : f (part has r) ≡ part new r
  unfolding f new
  own =
      ap f (part_unknown has r unknown)
      ∙ (λ i. record r { rows = (all_put rs ∙ once_each.1) i })
      ∙ ap (λ b. part_if (b || has r.info.key) r) (sym (same_key_itself r.info.key))

  each_relation : (x : Relation) → Owned x → elim (same_key (part has x).info.key r.info.key) as (λ b. Relation) [ true ↦ f (part has x) | false ↦ part has x ] ≡ part new x
  unfolding Owned new
  each_relation x o =
      ap (λ (info : RelInfo). elim (same_key info.key r.info.key) as (λ b. Relation) [ true ↦ f (part has x) | false ↦ part has x ]) (part_info has x) ∙ go (same_key x.info.key r.info.key) refl
    where
      the : {x y : Relation} → Some x ≡ Some y → x ≡ y
      the e = cc e

      go : (b : Bool) → same_key x.info.key r.info.key ≡ b → elim b as (λ b. Relation) [ true ↦ f (part has x) | false ↦ part has x ] ≡ part new x
      go true e = subst (λ x. f (part has x) ≡ part new x) (the (found ∙ o e)) own
      go false e = other_part has r.info.key x (other_way x.info.key r.info.key e)

  relations_after : (xs : List Relation) → AllByRecursion Owned xs → change_at r.info.key f (map (part has) xs) ≡ map (part new) xs
  relations_after [] all = refl
  relations_after (x ∷ xs) all = λ i. each_relation x all.0 i ∷ relations_after xs all.1 i

  known_then : laid (loaded_part has db) (change.Rows r.info.key [] rs) ≡ loaded_part (with_key r.info.key has) db
  unfolding laid loaded_part f new Owned
  known_then = λ i. record db { relations = relations_after db.relations (owned r.info.key db.relations is.relations_ascend) i }

pub takes_rows : TakesRows
takes_rows = record { lawful = may_come; after = known_then }
