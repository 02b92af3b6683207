-- A change is lawful exactly where what its schema decides and what the rows decide hold.
use Rattle.std.proofs.Common.{◌≡◌, refl, sym, ap, ◌∙◌, subst, ℕ, ◌+◌, ◌-◌, ◌≤◌, nat_le, Bool, true, false, ◌&&◌, ◌||◌, not, IsTrue, List, [], ◌∷◌, Some, length, arith}
use Rattle.std.specs.Prelude.{◌↔◌, nat_eq}
use Rattle.std.specs.List.{list_all, list_any}
use Rattle.std.proofs.lemmas.Bool.Decides.{nat_tests}
use Rattle.calculus.specs.declared.query.RelKey.{RelKey}
use Rattle.calculus.specs.declared.change.DbChange.{DbChange}
use Rattle.calculus.specs.declared.change.DbChange.TheVariants as change
use Rattle.calculus.specs.Lists.{is_any, differ_by, has_number}
use Rattle.calculus.specs.Keys.{key_of, same_key}
use Rattle.calculus.specs.Rows.{Row, Ascends, has}
use Rattle.calculus.specs.Database.{Db, Relation, relation_at, is_relation}
use Rattle.calculus.specs.Stored.{rows_at, attrs_at}
use Rattle.calculus.specs.Storable.{row_qual_is_storable, permit_lists_are_storable, query_is_storable}
use Rattle.calculus.specs.Limits.{most_expanded_variables, most_variables, greatest_size, most_permits, most_rules, most_rows}
use Rattle.calculus.specs.QueryParts.{vars_of, targets_of}
use Rattle.calculus.specs.Sizes.{variables}
use Rattle.calculus.specs.IsDatabase.{IsDatabase, key_is_named, keys_stand, valid_structure, attrs_stand, are_stored, row_fits, relation_rows_fit, valid_view_info, attrs_are_targets}
use Rattle.calculus.specs.Change.{rows_differ, IsLawful}
use Rattle.calculus.specs.Schema.{bare, schema_of, without_going, going_rows_stand, IsLawfulBySchema, rows_allow}
use Rattle.calculus.proofs.Sets.{same_exact}
use Rattle.calculus.specs.declared.query.Query.{Query}
use Rattle.std.specs.Option.{option_map}
use Rattle.std.specs.Ordering.{eq_by_cmp}
use Rattle.calculus.specs.Value.{row_cmp}
use Rattle.quel_meaning.specs.Passing.{is_too_high}
use Rattle.plan_laws.proofs.Kept.{both, each}
use Rattle.plan_laws.proofs.Indexes.{is_no}
use Rattle.plan_laws.proofs.Created.{each_true}
use Rattle.plan_laws.proofs.RowsChanged.{its_rows, its_attrs}
use Rattle.plan_laws.proofs.Tests.{there_is, found_has}
use Rattle.change_laws.specs.Fit.{key_is_free, rows_are_fit, relation_is_fit, destroying_is_fit, structure_is_fit, index_is_fit, view_is_small, view_is_fit, number_is_free, permit_is_fit, rule_is_fit, numbers_may_go, permits_may_go, rules_may_go, is_named_outside, change_is_fit}
use Rattle.change_laws.proofs.Counted.{length_without}
use Rattle.change_laws.proofs.Exactly.{fits_exactly}
use Rattle.schema_laws.proofs.Alike.{relation_bare, is_relation_alike, is_there_alike, attrs_alike}
use Rattle.schema_laws.proofs.Known.{size_alike, expanded_alike, query_level_alike}
use Rattle.schema_laws.proofs.SchemaStands.{valid_query_alike, vars_there_alike, row_qual_alike, permit_alike, schema_is_database}
use Rattle.schema_laws.proofs.CheckedTrees.{full_alike, permit_numbers_alike, rule_numbers_alike}

-- ---- the tests of changes that move no rows

free_alike : (db : Db) (key : RelKey) → key_is_free (schema_of db) key ≡ key_is_free db key
unfolding key_is_free
free_alike db key = λ i. key_is_named key && (not (is_there_alike db key i) && not (full_alike db i))

outside_alike : (db : Db) (rels : List RelKey) (key : RelKey) → is_named_outside (schema_of db) rels key ≡ is_named_outside db rels key
unfolding is_named_outside schema_of
outside_alike db rels key = refl

small_alike : (db : Db) (q : Query) → view_is_small (schema_of db) q ≡ view_is_small db q
unfolding view_is_small
small_alike db q = λ i.
    nat_le (length (vars_of q)) most_expanded_variables
    && (nat_le (variables q) most_variables
    && (nat_le (expanded_alike db q i) most_expanded_variables && (nat_le (size_alike db q i) greatest_size && query_is_storable q)))

going_alike : (db : Db) (rel : RelKey) (standing numbers : List ℕ) → numbers_may_go (schema_of db) rel standing numbers ≡ numbers_may_go db rel standing numbers
unfolding numbers_may_go
going_alike db rel standing numbers =
    λ i. is_relation_alike db rel i && (list_all (has_number standing) numbers && differ_by nat_eq numbers)

-- the test of a change by which no rows of a relation come and go
moves_no_rows : DbChange → Bool
moves_no_rows (change.Rows rel remove add) = false
moves_no_rows made = true

fit_alike : (db : Db) (made : DbChange) → moves_no_rows made ≡ true → change_is_fit (schema_of db) made ≡ change_is_fit db made
unfolding moves_no_rows change_is_fit relation_is_fit destroying_is_fit structure_is_fit index_is_fit view_is_fit permit_is_fit rule_is_fit permits_may_go rules_may_go
fit_alike db (change.Rows rel remove add) h = cc h
fit_alike db (change.Create info rows) h = λ i.
    free_alike db info.key i
    && (valid_structure info
    && (attrs_stand info.attrs && (are_stored info.attrs && (rows_differ rows && (list_all (row_fits info.attrs) rows && nat_le (length rows) most_rows)))))
fit_alike db (change.Destroy rels) h = λ i.
    list_all (λ key. is_there_alike db key i) rels && (differ_by same_key rels && not (list_any (λ key. outside_alike db rels key i) rels))
fit_alike db (change.Modify rel to keys) h = λ i.
    is_relation_alike db rel i && valid_structure (record { key = rel; spec = to; attrs = attrs_alike db rel i; keys = keys })
fit_alike db (change.Index base name keys) h = λ i.
    is_relation_alike db base i && (is_any keys && (keys_stand (attrs_alike db base i) keys && free_alike db (key_of base.owner name) i))
fit_alike db (change.View info query) h = λ i.
    free_alike db info.key i
    && (valid_view_info info
    && (attrs_stand info.attrs
    && (attrs_are_targets info.attrs (targets_of query)
    && (vars_there_alike db query i && (not (is_too_high (query_level_alike db query i)) && (valid_query_alike db query i && small_alike db query i))))))
fit_alike db (change.Permit rel permit) h = λ i.
    permit_alike db rel permit i
    && (row_qual_is_storable permit.qual && (permit_lists_are_storable permit && number_is_free most_permits (permit_numbers_alike db rel i) permit.number))
fit_alike db (change.Rule rel rule) h = λ i.
    is_relation_alike db rel i
    && (row_qual_alike db rel rule.qual i && (row_qual_is_storable rule.qual && number_is_free most_rules (rule_numbers_alike db rel i) rule.number))
fit_alike db (change.DropPermits rel numbers) h = λ i. going_alike db rel (permit_numbers_alike db rel i) numbers i
fit_alike db (change.DropRules rel numbers) h = λ i. going_alike db rel (rule_numbers_alike db rel i) numbers i

-- ---- rows

-- the schema has no rows of a base relation
no_rows : (db : Db) (rel : RelKey) (relation : Relation) → relation_at db rel ≡ Some relation → rows_at (schema_of db) rel ≡ []
no_rows db rel relation found = its_rows (schema_of db) rel (bare relation) (relation_bare db rel ∙ ap (option_map bare) found)

none_of_none : (add : List Row) → list_any (has []) add ≡ false
none_of_none [] = refl
none_of_none (row ∷ add) = none_of_none add

row_is : (test : Row → Bool) (row : Row) (rows : List Row) → has rows row ≡ true → IsTrue (list_all test rows) → IsTrue (test row)
row_is test row [] h t = cc h
row_is test row (first ∷ rows) h t = go (eq_by_cmp row_cmp row first) refl h (λ h. row_is test row rows h (both (test first) (list_all test rows) t).1)
  where
    go : (b : Bool) → eq_by_cmp row_cmp row first ≡ b → (b || has rows row) ≡ true → (has rows row ≡ true → IsTrue (test row)) → IsTrue (test row)
    go true e h later = subst (λ r. IsTrue (test r)) (sym (same_exact row first e)) (both (test first) (list_all test rows) t).0
    go false e h later = later h

all_are : (test : Row → Bool) (some rows : List Row) → IsTrue (list_all (has rows) some) → IsTrue (list_all test rows) → IsTrue (list_all test some)
all_are test [] rows h t = refl
all_are test (row ∷ some) rows h t =
    let parts = both (has rows row) (list_all (has rows) some) h in each _ _ (row_is test row rows parts.0 t) (all_are test some rows parts.1 t)

fewer : (a b c d : ℕ) → a + b ≡ c → IsTrue (nat_le (c + d - a) most_rows) → IsTrue (nat_le (0 + d - 0) most_rows)
fewer a b c d e t = grind (arith, nat_tests, e, t)

neither : (a b : Bool) → IsTrue (not (a || b)) → IsTrue (not a) × IsTrue (not b)
neither true b t = cc t
neither false b t = (refl, t)

nor : (a b : Bool) → IsTrue (not a) → IsTrue (not b) → IsTrue (not (a || b))
nor true b s t = cc s
nor false b s t = t

-- a row that isn't among rows isn't among some of them
absent : (rows some : List Row) (row : Row) → IsTrue (list_all (has rows) some) → IsTrue (not (has rows row)) → IsTrue (not (has some row))
absent rows some row h k = go (has some row) refl
  where
    go : (b : Bool) → has some row ≡ b → IsTrue (not b)
    go true e = let there = row_is (has rows) row some e h in cc (there, k)
    go false e = refl

-- rows that are there and rows that aren't have none in common
apart : (rows some others : List Row) → IsTrue (list_all (has rows) some) → IsTrue (not (list_any (has rows) others)) → IsTrue (not (list_any (has some) others))
apart rows some [] h k = refl
apart rows some (row ∷ others) h k =
    let parts = neither (has rows row) (list_any (has rows) others) k in
    nor (has some row) (list_any (has some) others) (absent rows some row h parts.0) (apart rows some others h parts.1)

no_more : (a b c : ℕ) → a + b ≡ c → IsTrue (nat_le c most_rows) → IsTrue (nat_le a most_rows)
no_more a b c e t = grind (arith, nat_tests, e, t)

module _ (db : Db) (rel : RelKey) (remove add : List Row) (is : IsDatabase db) where
  Halves : Type 0
  Halves = IsTrue (rows_are_fit (schema_of db) rel [] add) × IsTrue (going_rows_stand (schema_of db) (change.Rows rel remove add)) × IsTrue (rows_allow db (change.Rows rel remove add))

  parted : (relation : Relation) → relation_at db rel ≡ Some relation → IsTrue (rows_are_fit db rel remove add) → Halves
  unfolding rows_are_fit rows_allow Halves
  parted relation found t =
      let old = its_rows db rel relation found in
      let relation_there = both (is_relation db rel) _ t in
      let there = both (list_all (has (rows_at db rel)) remove) _ relation_there.1 in
      let new = both (not (list_any (has (rows_at db rel)) add)) _ there.1 in
      let gone_once = both (rows_differ remove) _ new.1 in
      let come_once = both (rows_differ add) _ gone_once.1 in
      let fits = both (list_all (row_fits (attrs_at db rel)) add) _ come_once.1 in
      let ascend : Ascends relation.rows = found_has (λ (r : Relation). Ascends r.rows) (λ r. same_key r.info.key rel) db.relations relation is.rows_ascend found in
      let rows_fit : IsTrue (relation_rows_fit relation) =
      found_has (λ (r : Relation). IsTrue (relation_rows_fit r)) (λ r. same_key r.info.key rel) db.relations relation (each_true relation_rows_fit db.relations is.rows_fit) found in
      let own_there : IsTrue (list_all (has relation.rows) remove) = subst (λ rows. IsTrue (list_all (has rows) remove)) old there.0 in
      let gone = length_without remove relation.rows ascend gone_once.0 own_there in
      let enough : IsTrue (nat_le (length relation.rows) most_rows) =
      found_has (λ (r : Relation). IsTrue (nat_le (length r.rows) most_rows)) (λ r. same_key r.info.key rel) db.relations relation
      (each_true (λ (r : Relation). nat_le (length r.rows) most_rows) db.relations is.few_rows) found in
      let few : IsTrue (nat_le (length relation.rows + length add - length remove) most_rows) =
      subst (λ (rows : List Row). IsTrue (nat_le (length rows + length add - length remove) most_rows)) old fits.1 in
      let none = no_rows db rel relation found in
      let attrs : attrs_at (schema_of db) rel ≡ relation.info.attrs = attrs_alike db rel ∙ its_attrs db rel relation found in (
        each _ _ (is_relation_alike db rel ∙ relation_there.0) (each _ _ refl (each _ _
            (subst (λ rows. IsTrue (not (list_any (has rows) add))) (sym none) (ap not (none_of_none add))) (each _ _ refl (each _ _ come_once.0 (each _ _
            (subst (λ attrs. IsTrue (list_all (row_fits attrs) add)) (sym (attrs_alike db rel)) fits.0)
            (subst (λ (rows : List Row). IsTrue (nat_le (length rows + length add - 0) most_rows)) (sym none)
            (fewer (length remove) _ (length relation.rows) (length add) gone few))))))),
        each _ _ gone_once.0 (each _ _ (subst (λ attrs. IsTrue (list_all (row_fits attrs) remove)) (sym attrs) (all_are (row_fits relation.info.attrs) remove relation.rows own_there rows_fit))
            (each _ _ (apart (rows_at db rel) remove add there.0 new.0) (no_more (length remove) _ (length relation.rows) gone enough))),
        each _ _ there.0 (each _ _ new.0 fits.1),
      )

  joined : Halves → IsTrue (rows_are_fit db rel remove add)
  unfolding rows_are_fit rows_allow Halves
  joined (schema, going, allow) =
      let relation_there = both (is_relation (schema_of db) rel) _ schema in
      let there = both true _ relation_there.1 in
      let new = both (not (list_any (has (rows_at (schema_of db) rel)) add)) _ there.1 in
      let gone = both true _ new.1 in
      let come_once = both (rows_differ add) _ gone.1 in
      let fits = both (list_all (row_fits (attrs_at (schema_of db) rel)) add) _ come_once.1 in
      let rows = both (list_all (has (rows_at db rel)) remove) _ allow in
      let number = both (not (list_any (has (rows_at db rel)) add)) _ rows.1 in
      each _ _ (sym (is_relation_alike db rel) ∙ relation_there.0) (each _ _ rows.0 (each _ _ number.0 (each _ _ (both (rows_differ remove) _ going).0 (each _ _ come_once.0 (each _ _
      (subst (λ attrs. IsTrue (list_all (row_fits attrs) add)) (attrs_alike db rel) fits.0) number.1)))))

-- ---- the halves

lawful_alike : (db : Db) (made : DbChange) → moves_no_rows made ≡ true → IsDatabase db → IsLawful db made ↔ IsLawful (schema_of db) made
lawful_alike db made h is =
    let schema = schema_is_database db is in (
      λ l. (fits_exactly (schema_of db) made schema).0 (fit_alike db made h ∙ (fits_exactly db made is).1 l),
      λ l. (fits_exactly db made is).0 (sym (fit_alike db made h) ∙ (fits_exactly (schema_of db) made schema).1 l),
    )

-- of a change by which no rows come and go the schema's half is the whole
pub by_schema : (db : Db) (made : DbChange) → IsDatabase db → IsLawful db made ↔ (IsLawfulBySchema db made × IsTrue (rows_allow db made))
unfolding rows_allow moves_no_rows change_is_fit rows_are_fit Halves
by_schema db (change.Rows rel remove add) is = (
  λ l. there_is (relation_at db rel) (both (is_relation db rel) _ ((fits_exactly db (change.Rows rel remove add) is).1 l)).0 (λ relation found.
      let halves = parted db rel remove add is relation found ((fits_exactly db (change.Rows rel remove add) is).1 l) in
      (record { lawful = (fits_exactly (schema_of db) (change.Rows rel [] add) (schema_is_database db is)).0 halves.0; going = halves.1 }, halves.2)),
  λ h.
      (fits_exactly db (change.Rows rel remove add) is).0
      (joined db rel remove add is ((fits_exactly (schema_of db) (change.Rows rel [] add) (schema_is_database db is)).1 h.0.lawful, h.0.going, h.1)),
)
by_schema db (change.Create info rows) is = (λ l. (record { lawful = (lawful_alike db (change.Create info rows) refl is).0 l; going = refl }, refl), λ h. (lawful_alike db (change.Create info rows) refl is).1 h.0.lawful)
by_schema db (change.Destroy rels) is = (λ l. (record { lawful = (lawful_alike db (change.Destroy rels) refl is).0 l; going = refl }, refl), λ h. (lawful_alike db (change.Destroy rels) refl is).1 h.0.lawful)
by_schema db (change.Modify rel to keys) is = (λ l. (record { lawful = (lawful_alike db (change.Modify rel to keys) refl is).0 l; going = refl }, refl), λ h. (lawful_alike db (change.Modify rel to keys) refl is).1 h.0.lawful)
by_schema db (change.Index base name keys) is = (λ l. (record { lawful = (lawful_alike db (change.Index base name keys) refl is).0 l; going = refl }, refl), λ h. (lawful_alike db (change.Index base name keys) refl is).1 h.0.lawful)
by_schema db (change.View info query) is = (λ l. (record { lawful = (lawful_alike db (change.View info query) refl is).0 l; going = refl }, refl), λ h. (lawful_alike db (change.View info query) refl is).1 h.0.lawful)
by_schema db (change.Permit rel permit) is = (λ l. (record { lawful = (lawful_alike db (change.Permit rel permit) refl is).0 l; going = refl }, refl), λ h. (lawful_alike db (change.Permit rel permit) refl is).1 h.0.lawful)
by_schema db (change.Rule rel rule) is = (λ l. (record { lawful = (lawful_alike db (change.Rule rel rule) refl is).0 l; going = refl }, refl), λ h. (lawful_alike db (change.Rule rel rule) refl is).1 h.0.lawful)
by_schema db (change.DropPermits rel numbers) is = (λ l. (record { lawful = (lawful_alike db (change.DropPermits rel numbers) refl is).0 l; going = refl }, refl), λ h. (lawful_alike db (change.DropPermits rel numbers) refl is).1 h.0.lawful)
by_schema db (change.DropRules rel numbers) is = (λ l. (record { lawful = (lawful_alike db (change.DropRules rel numbers) refl is).0 l; going = refl }, refl), λ h. (lawful_alike db (change.DropRules rel numbers) refl is).1 h.0.lawful)
