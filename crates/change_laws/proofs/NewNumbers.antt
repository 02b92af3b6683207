-- A permit or a rule that is put beside those that stand.
use Rattle.std.proofs.Common.{◌∙◌, ◌≡◌, refl, subst, suc, ◌<◌, ◌≤◌, nat_le, nat_lt, Bool, true, ◌&&◌, not, IsTrue, List, filter, length, arith}
use Rattle.std.specs.Prelude.{◌↔◌}
use Rattle.std.specs.List.{list_all}
use Rattle.std.proofs.lemmas.List.{length-map}
use Rattle.calculus.specs.declared.query.RelKey.{RelKey}
use Rattle.calculus.specs.declared.schema.Permit.{Permit}
use Rattle.calculus.specs.declared.schema.Rule.{Rule}
use Rattle.calculus.specs.declared.change.DbChange.TheVariants as change
use Rattle.calculus.specs.Keys.{same_key, numbered_cmp}
use Rattle.calculus.specs.Lists.{has_number, insert_by}
use Rattle.calculus.specs.Limits.{most_permits, most_rules, greatest_number}
use Rattle.calculus.specs.Database.{Db, Relation, relation_at, is_relation, rules_on, permits_on}
use Rattle.calculus.specs.IsDatabase.{IsDatabase, valid_row_qual, valid_permit}
use Rattle.calculus.specs.Storable.{row_qual_is_storable, permit_lists_are_storable}
use Rattle.calculus.specs.Change.{laid, permit_numbers, rule_numbers, names_what_is_there, adds_what_is_new, lists_once, IsLawful}
use Rattle.quel_meaning.proofs.InOrder.{in_order-insert}
use Rattle.change_laws.specs.Fit.{number_is_free, permit_is_fit, rule_is_fit}
use Rattle.plan_laws.proofs.Alike.{permits_stay, rules_stay}
use Rattle.plan_laws.proofs.NewNumbers.{still_few, le_true, le_is, of_key, all_imply}
use Rattle.plan_laws.proofs.Indexes.{is_no}
use Rattle.plan_laws.proofs.Created.{each_true}
use Rattle.plan_laws.proofs.Kept.{both, each, count, all_insert}
use Rattle.plan_laws.proofs.Orders.{numbered_total, same_key_itself}
use Rattle.plan_laws.proofs.Numbered.{permits_alike, rules_alike, PermitsStand, with_permits, RulesStand, with_rules}
use Rattle.plan_laws.proofs.Tests.{lt_true, lt_is, there_is, found_has, key_found}
use Rattle.change_laws.proofs.Inserted.{insert_passes, count_insert, number_unequal}

-- ---- a permit

-- the permits that stand then stand in the database as it was
permits_as_before : (db : Db) (permits : List (RelKey × Permit)) → IsTrue (list_all (λ p. valid_permit (record db { permits = permits }) p.0 p.1) permits) → IsTrue (list_all (λ p. valid_permit db p.0 p.1) permits)
permits_as_before db permits t = permits_stay db (record db { permits = permits }) (permits_alike db permits) refl permits ∙ t

pub permit_lawful : (db : Db) (rel : RelKey) (permit : Permit) → IsDatabase db → IsTrue (valid_permit db rel permit) → IsTrue (row_qual_is_storable permit.qual) → IsTrue (permit_lists_are_storable permit)
    → IsTrue (nat_le permit.number greatest_number) → IsTrue (not (has_number (permit_numbers db rel) permit.number)) → IsTrue (nat_lt (length (permit_numbers db rel)) most_permits)
    → IsLawful db (change.Permit rel permit)
unfolding laid names_what_is_there adds_what_is_new lists_once
permit_lawful db rel permit is stands storable lists low new few =
    record { names_are_there = (both (is_relation db rel) _ stands).0; additions_are_new = new; nothing_is_listed_twice = refl; leaves_a_database = with_permits db later is stand }
  where
    later : List (RelKey × Permit)
    later = insert_by (numbered_cmp (λ p. p.number)) (rel, permit) db.permits

    counted : (permits : List (RelKey × Permit)) (key : RelKey) → length (permits_on (record db { permits = permits }) key) ≡ count (of_key key) permits
    counted permits key = length-map (filter (of_key key) permits) (λ p. p.1)

    own : count (of_key rel) db.permits < most_permits
    own = omega (arith, lt_is (length (permit_numbers db rel)) most_permits few, length-map (permits_on db rel) (λ p. p.number), counted db.permits rel)

    put : (test : RelKey × Permit → Bool) → IsTrue (test (rel, permit)) → IsTrue (list_all test db.permits) → IsTrue (list_all test later)
    put test = all_insert (numbered_cmp (λ p. p.number)) test (rel, permit) db.permits

    few_later : (key : RelKey) → length (permits_on db key) ≤ most_permits → IsTrue (nat_le (length (permits_on (record db { permits = later }) key)) most_permits)
    few_later key before =
        let bound = still_few (λ p. p.number) most_permits rel key permit db.permits own (omega (arith, before, counted db.permits key)) in
        le_true (length (permits_on (record db { permits = later }) key)) most_permits (omega (arith, bound, counted later key))

    stand : PermitsStand db later
    stand = record {
      ascend = in_order-insert (numbered_total (λ p. p.number)) (rel, permit) db.permits is.permits_ascend;
      stand = put (λ p. valid_permit db p.0 p.1) stands is.permits_stand;
      are_storable = put (λ p. row_qual_is_storable p.1.qual) storable is.storable_permits;
      have_storable_lists = put (λ p. permit_lists_are_storable p.1) lists is.storable_lists;
      are_few = all_imply (λ (r : Relation). nat_le (length (permits_on db r.info.key)) most_permits) (λ r. nat_le (length (permits_on (record db { permits = later }) r.info.key)) most_permits)
          (λ r t. few_later r.info.key (le_is (length (permits_on db r.info.key)) most_permits t)) db.relations is.few_permits;
      have_small_numbers = put (λ p. nat_le p.1.number greatest_number) low is.small_permit_numbers;
    }

pub permit_fits_exactly : (db : Db) (rel : RelKey) (permit : Permit) → IsDatabase db → (permit_is_fit db rel permit ≡ true) ↔ IsLawful db (change.Permit rel permit)
unfolding permit_is_fit number_is_free laid names_what_is_there adds_what_is_new
permit_fits_exactly db rel permit is = (to, from)
  where
    to : permit_is_fit db rel permit ≡ true → IsLawful db (change.Permit rel permit)
    to t =
        let stands = both (valid_permit db rel permit) _ t in
        let storable = both (row_qual_is_storable permit.qual) _ stands.1 in
        let lists = both (permit_lists_are_storable permit) _ storable.1 in
        let low = both (nat_le permit.number greatest_number) _ lists.1 in
        let new = both (not (has_number (permit_numbers db rel) permit.number)) (nat_lt (length (permit_numbers db rel)) most_permits) low.1 in
        permit_lawful db rel permit is stands.0 storable.0 lists.0 low.0 new.0 new.1

    from : IsLawful db (change.Permit rel permit) → permit_is_fit db rel permit ≡ true
    from l =
        each _ _ stands (each _ _ (its (λ p. row_qual_is_storable p.1.qual) after.storable_permits) (each _ _ (its (λ p. permit_lists_are_storable p.1) after.storable_lists)
        (each _ _ (its (λ p. nat_le p.1.number greatest_number) after.small_permit_numbers) (each _ _ l.additions_are_new few))))
      where
        later : Db
        later = record db { permits = insert_by (numbered_cmp (λ p. p.number)) (rel, permit) db.permits }

        after : IsDatabase later
        after = l.leaves_a_database

        its : (test : RelKey × Permit → Bool) → IsTrue (list_all test later.permits) → IsTrue (test (rel, permit))
        its test = insert_passes (numbered_cmp (λ p. p.number)) test (rel, permit) db.permits

        stands : IsTrue (valid_permit db rel permit)
        stands = its (λ p. valid_permit db p.0 p.1) (permits_as_before db later.permits after.permits_stand)

        one_more : length (permits_on later rel) ≡ suc (length (permit_numbers db rel))
        one_more =
            let counted = count_insert (numbered_cmp (λ p. p.number)) (of_key rel) (rel, permit) db.permits
            (number_unequal (λ p. p.number) rel permit db.permits (is_no (has_number (permit_numbers db rel) permit.number) l.additions_are_new)) (same_key_itself rel) in
            let many = length-map (filter (of_key rel) later.permits) (λ p. p.1) in
            let before = length-map (filter (of_key rel) db.permits) (λ p. p.1) in
            let numbers = length-map (permits_on db rel) (λ p. p.number) in
            omega (arith, counted, many, before, numbers)

        few : IsTrue (nat_lt (length (permit_numbers db rel)) most_permits)
        few = there_is (relation_at db rel) l.names_are_there (λ relation found.
            let most = found_has (λ r. IsTrue (nat_le (length (permits_on later r.info.key)) most_permits)) (λ r. same_key r.info.key rel) db.relations relation
            (each_true (λ r. nat_le (length (permits_on later r.info.key)) most_permits) db.relations after.few_permits) found in
            let own : IsTrue (nat_le (length (permits_on later rel)) most_permits) = subst (λ key. IsTrue (nat_le (length (permits_on later key)) most_permits)) (key_found rel db.relations relation found) most in
            let bound = le_is (length (permits_on later rel)) most_permits own in
            lt_true (length (permit_numbers db rel)) most_permits (omega (arith, bound, one_more)))

-- ---- a rule

-- the rules that stand then stand in the database as it was
rules_as_before : (db : Db) (rules : List (RelKey × Rule)) → IsTrue (list_all (λ p. is_relation (record db { rules = rules }) p.0 && valid_row_qual (record db { rules = rules }) p.0 p.1.qual) rules)
    → IsTrue (list_all (λ p. is_relation db p.0 && valid_row_qual db p.0 p.1.qual) rules)
rules_as_before db rules t = rules_stay db (record db { rules = rules }) (rules_alike db rules) rules ∙ t

pub rule_lawful : (db : Db) (rel : RelKey) (rule : Rule) → IsDatabase db → IsTrue (is_relation db rel) → IsTrue (valid_row_qual db rel rule.qual) → IsTrue (row_qual_is_storable rule.qual)
    → IsTrue (nat_le rule.number greatest_number) → IsTrue (not (has_number (rule_numbers db rel) rule.number)) → IsTrue (nat_lt (length (rule_numbers db rel)) most_rules)
    → IsLawful db (change.Rule rel rule)
unfolding laid names_what_is_there adds_what_is_new lists_once
rule_lawful db rel rule is relation stands storable low new few =
    record { names_are_there = relation; additions_are_new = new; nothing_is_listed_twice = refl; leaves_a_database = with_rules db later is stand }
  where
    later : List (RelKey × Rule)
    later = insert_by (numbered_cmp (λ p. p.number)) (rel, rule) db.rules

    counted : (rules : List (RelKey × Rule)) (key : RelKey) → length (rules_on (record db { rules = rules }) key) ≡ count (of_key key) rules
    counted rules key = length-map (filter (of_key key) rules) (λ p. p.1)

    own : count (of_key rel) db.rules < most_rules
    own = omega (arith, lt_is (length (rule_numbers db rel)) most_rules few, length-map (rules_on db rel) (λ p. p.number), counted db.rules rel)

    own_stands : IsTrue (is_relation db rel && valid_row_qual db rel rule.qual)
    own_stands = each _ _ relation stands

    put : (test : RelKey × Rule → Bool) → IsTrue (test (rel, rule)) → IsTrue (list_all test db.rules) → IsTrue (list_all test later)
    put test = all_insert (numbered_cmp (λ p. p.number)) test (rel, rule) db.rules

    few_later : (key : RelKey) → length (rules_on db key) ≤ most_rules → IsTrue (nat_le (length (rules_on (record db { rules = later }) key)) most_rules)
    few_later key before =
        let bound = still_few (λ p. p.number) most_rules rel key rule db.rules own (omega (arith, before, counted db.rules key)) in
        le_true (length (rules_on (record db { rules = later }) key)) most_rules (omega (arith, bound, counted later key))

    stand : RulesStand db later
    stand = record {
      ascend = in_order-insert (numbered_total (λ p. p.number)) (rel, rule) db.rules is.rules_ascend;
      stand = put (λ p. is_relation db p.0 && valid_row_qual db p.0 p.1.qual) own_stands is.rules_stand;
      are_storable = put (λ p. row_qual_is_storable p.1.qual) storable is.storable_rules;
      are_few = all_imply (λ (r : Relation). nat_le (length (rules_on db r.info.key)) most_rules) (λ r. nat_le (length (rules_on (record db { rules = later }) r.info.key)) most_rules)
          (λ r t. few_later r.info.key (le_is (length (rules_on db r.info.key)) most_rules t)) db.relations is.few_rules;
      have_small_numbers = put (λ p. nat_le p.1.number greatest_number) low is.small_rule_numbers;
    }

pub rule_fits_exactly : (db : Db) (rel : RelKey) (rule : Rule) → IsDatabase db → (rule_is_fit db rel rule ≡ true) ↔ IsLawful db (change.Rule rel rule)
unfolding rule_is_fit number_is_free laid names_what_is_there adds_what_is_new
rule_fits_exactly db rel rule is = (to, from)
  where
    to : rule_is_fit db rel rule ≡ true → IsLawful db (change.Rule rel rule)
    to t =
        let relation = both (is_relation db rel) _ t in
        let stands = both (valid_row_qual db rel rule.qual) _ relation.1 in
        let storable = both (row_qual_is_storable rule.qual) _ stands.1 in
        let low = both (nat_le rule.number greatest_number) _ storable.1 in
        let new = both (not (has_number (rule_numbers db rel) rule.number)) (nat_lt (length (rule_numbers db rel)) most_rules) low.1 in
        rule_lawful db rel rule is relation.0 stands.0 storable.0 low.0 new.0 new.1

    from : IsLawful db (change.Rule rel rule) → rule_is_fit db rel rule ≡ true
    from l =
        each _ _ l.names_are_there (each _ _ (both (is_relation db rel) (valid_row_qual db rel rule.qual) stands).1 (each _ _ (its (λ p. row_qual_is_storable p.1.qual) after.storable_rules)
        (each _ _ (its (λ p. nat_le p.1.number greatest_number) after.small_rule_numbers) (each _ _ l.additions_are_new few))))
      where
        later : Db
        later = record db { rules = insert_by (numbered_cmp (λ r. r.number)) (rel, rule) db.rules }

        after : IsDatabase later
        after = l.leaves_a_database

        its : (test : RelKey × Rule → Bool) → IsTrue (list_all test later.rules) → IsTrue (test (rel, rule))
        its test = insert_passes (numbered_cmp (λ r. r.number)) test (rel, rule) db.rules

        stands : IsTrue (is_relation db rel && valid_row_qual db rel rule.qual)
        stands = its (λ p. is_relation db p.0 && valid_row_qual db p.0 p.1.qual) (rules_as_before db later.rules after.rules_stand)

        one_more : length (rules_on later rel) ≡ suc (length (rule_numbers db rel))
        one_more =
            let counted = count_insert (numbered_cmp (λ r. r.number)) (of_key rel) (rel, rule) db.rules
            (number_unequal (λ r. r.number) rel rule db.rules (is_no (has_number (rule_numbers db rel) rule.number) l.additions_are_new)) (same_key_itself rel) in
            let many = length-map (filter (of_key rel) later.rules) (λ p. p.1) in
            let before = length-map (filter (of_key rel) db.rules) (λ p. p.1) in
            let numbers = length-map (rules_on db rel) (λ r. r.number) in
            omega (arith, counted, many, before, numbers)

        few : IsTrue (nat_lt (length (rule_numbers db rel)) most_rules)
        few = there_is (relation_at db rel) l.names_are_there (λ relation found.
            let most = found_has (λ r. IsTrue (nat_le (length (rules_on later r.info.key)) most_rules)) (λ r. same_key r.info.key rel) db.relations relation
            (each_true (λ r. nat_le (length (rules_on later r.info.key)) most_rules) db.relations after.few_rules) found in
            let own : IsTrue (nat_le (length (rules_on later rel)) most_rules) = subst (λ key. IsTrue (nat_le (length (rules_on later key)) most_rules)) (key_found rel db.relations relation found) most in
            let bound = le_is (length (rules_on later rel)) most_rules own in
            lt_true (length (rule_numbers db rel)) most_rules (omega (arith, bound, one_more)))
