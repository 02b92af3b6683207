-- Permits or rules that go, by their numbers.
use Rattle.std.proofs.Common.{◌≡◌, refl, ℕ, ◌≤◌, nat_eq, nat_le, Bool, true, ◌&&◌, not, IsTrue, List, filter, length, arith}
use Rattle.std.specs.Prelude.{◌↔◌}
use Rattle.std.specs.List.{list_all}
use Rattle.std.proofs.lemmas.List.{length-map}
use Rattle.std.proofs.lemmas.List.Kept.{IsStrictlySortedBy-filter}
use Rattle.calculus.specs.declared.query.RelKey.{RelKey}
use Rattle.calculus.specs.declared.schema.Permit.{Permit}
use Rattle.calculus.specs.declared.schema.Rule.{Rule}
use Rattle.calculus.specs.declared.change.DbChange.TheVariants as change
use Rattle.calculus.specs.Keys.{same_key, numbered_cmp}
use Rattle.calculus.specs.Lists.{has_number, differ_by}
use Rattle.calculus.specs.Limits.{most_permits, most_rules, greatest_number}
use Rattle.calculus.specs.Database.{Db, Relation, is_relation, rules_on, permits_on}
use Rattle.calculus.specs.IsDatabase.{IsDatabase, valid_permit, valid_row_qual}
use Rattle.calculus.specs.Storable.{row_qual_is_storable, permit_lists_are_storable}
use Rattle.calculus.specs.Change.{laid, permit_numbers, rule_numbers, names_what_is_there, adds_what_is_new, lists_once, IsLawful}
use Rattle.change_laws.specs.Fit.{numbers_may_go, permits_may_go, rules_may_go}
use Rattle.plan_laws.proofs.Kept.{both, each, count, all_filter, filter_fewer}
use Rattle.plan_laws.proofs.Numbered.{PermitsStand, with_permits, RulesStand, with_rules}
use Rattle.plan_laws.proofs.NewNumbers.{le_true, le_is, of_key, all_imply}

-- ---- permits

permits_gone : (db : Db) (rel : RelKey) (gone : List ℕ) → IsDatabase db → IsTrue (is_relation db rel) → IsTrue (list_all (has_number (permit_numbers db rel)) gone)
    → IsTrue (differ_by nat_eq gone) → IsLawful db (change.DropPermits rel gone)
unfolding laid names_what_is_there adds_what_is_new lists_once
permits_gone db rel gone is relation there differ = record {
  names_are_there = each _ _ relation there;
  additions_are_new = refl;
  nothing_is_listed_twice = differ;
  leaves_a_database = with_permits db later is stand;
}
  where
    kept : RelKey × Permit → Bool
    kept p = not (same_key p.0 rel && has_number gone p.1.number)

    later : List (RelKey × Permit)
    later = filter kept db.permits

    counted : (permits : List (RelKey × Permit)) (key : RelKey) → length (permits_on (record db { permits = permits }) key) ≡ count (of_key key) permits
    counted permits key = length-map (filter (of_key key) permits) (λ p. p.1)

    few_later : (key : RelKey) → length (permits_on db key) ≤ most_permits → IsTrue (nat_le (length (permits_on (record db { permits = later }) key)) most_permits)
    few_later key before =
        le_true (length (permits_on (record db { permits = later }) key)) most_permits
        (omega (arith, before, filter_fewer (of_key key) kept db.permits, counted db.permits key, counted later key))

    stand : PermitsStand db later
    stand = record {
      ascend = IsStrictlySortedBy-filter (numbered_cmp (λ p. p.number)) kept db.permits is.permits_ascend;
      stand = all_filter (λ p. valid_permit db p.0 p.1) kept db.permits is.permits_stand;
      are_storable = all_filter (λ p. row_qual_is_storable p.1.qual) kept db.permits is.storable_permits;
      have_storable_lists = all_filter (λ p. permit_lists_are_storable p.1) kept db.permits is.storable_lists;
      are_few = all_imply (λ (r : Relation). nat_le (length (permits_on db r.info.key)) most_permits) (λ r. nat_le (length (permits_on (record db { permits = later }) r.info.key)) most_permits)
          (λ r t. few_later r.info.key (le_is (length (permits_on db r.info.key)) most_permits t)) db.relations is.few_permits;
      have_small_numbers = all_filter (λ p. nat_le p.1.number greatest_number) kept db.permits is.small_permit_numbers;
    }

pub permits_dropped : (db : Db) (rel : RelKey) (numbers : List ℕ) → IsDatabase db → (permits_may_go db rel numbers ≡ true) ↔ IsLawful db (change.DropPermits rel numbers)
unfolding permits_may_go numbers_may_go names_what_is_there lists_once
permits_dropped db rel numbers is = (to, from)
  where
    to : permits_may_go db rel numbers ≡ true → IsLawful db (change.DropPermits rel numbers)
    to t =
        let parts = both (is_relation db rel) _ t in
        let rest = both (list_all (has_number (permit_numbers db rel)) numbers) (differ_by nat_eq numbers) parts.1 in
        permits_gone db rel numbers is parts.0 rest.0 rest.1

    from : IsLawful db (change.DropPermits rel numbers) → permits_may_go db rel numbers ≡ true
    from lawful =
        let parts = both (is_relation db rel) (list_all (has_number (permit_numbers db rel)) numbers) lawful.names_are_there in
        each _ _ parts.0 (each _ _ parts.1 lawful.nothing_is_listed_twice)

-- ---- rules

rules_gone : (db : Db) (rel : RelKey) (gone : List ℕ) → IsDatabase db → IsTrue (is_relation db rel) → IsTrue (list_all (has_number (rule_numbers db rel)) gone)
    → IsTrue (differ_by nat_eq gone) → IsLawful db (change.DropRules rel gone)
unfolding laid names_what_is_there adds_what_is_new lists_once
rules_gone db rel gone is relation there differ = record {
  names_are_there = each _ _ relation there;
  additions_are_new = refl;
  nothing_is_listed_twice = differ;
  leaves_a_database = with_rules db later is stand;
}
  where
    kept : RelKey × Rule → Bool
    kept p = not (same_key p.0 rel && has_number gone p.1.number)

    later : List (RelKey × Rule)
    later = filter kept db.rules

    counted : (rules : List (RelKey × Rule)) (key : RelKey) → length (rules_on (record db { rules = rules }) key) ≡ count (of_key key) rules
    counted rules key = length-map (filter (of_key key) rules) (λ p. p.1)

    few_later : (key : RelKey) → length (rules_on db key) ≤ most_rules → IsTrue (nat_le (length (rules_on (record db { rules = later }) key)) most_rules)
    few_later key before =
        le_true (length (rules_on (record db { rules = later }) key)) most_rules
        (omega (arith, before, filter_fewer (of_key key) kept db.rules, counted db.rules key, counted later key))

    stand : RulesStand db later
    stand = record {
      ascend = IsStrictlySortedBy-filter (numbered_cmp (λ p. p.number)) kept db.rules is.rules_ascend;
      stand = all_filter (λ p. is_relation db p.0 && valid_row_qual db p.0 p.1.qual) kept db.rules is.rules_stand;
      are_storable = all_filter (λ p. row_qual_is_storable p.1.qual) kept db.rules is.storable_rules;
      are_few = all_imply (λ (r : Relation). nat_le (length (rules_on db r.info.key)) most_rules) (λ r. nat_le (length (rules_on (record db { rules = later }) r.info.key)) most_rules)
          (λ r t. few_later r.info.key (le_is (length (rules_on db r.info.key)) most_rules t)) db.relations is.few_rules;
      have_small_numbers = all_filter (λ p. nat_le p.1.number greatest_number) kept db.rules is.small_rule_numbers;
    }

pub rules_dropped : (db : Db) (rel : RelKey) (numbers : List ℕ) → IsDatabase db → (rules_may_go db rel numbers ≡ true) ↔ IsLawful db (change.DropRules rel numbers)
unfolding rules_may_go numbers_may_go names_what_is_there lists_once
rules_dropped db rel numbers is = (to, from)
  where
    to : rules_may_go db rel numbers ≡ true → IsLawful db (change.DropRules rel numbers)
    to t =
        let parts = both (is_relation db rel) _ t in
        let rest = both (list_all (has_number (rule_numbers db rel)) numbers) (differ_by nat_eq numbers) parts.1 in
        rules_gone db rel numbers is parts.0 rest.0 rest.1

    from : IsLawful db (change.DropRules rel numbers) → rules_may_go db rel numbers ≡ true
    from lawful =
        let parts = both (is_relation db rel) (list_all (has_number (rule_numbers db rel)) numbers) lawful.names_are_there in
        each _ _ parts.0 (each _ _ parts.1 lawful.nothing_is_listed_twice)
