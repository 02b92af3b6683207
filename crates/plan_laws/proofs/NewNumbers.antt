-- A permit or a rule that is put beside those that stand.
use Rattle.std.proofs.Common.{◌≡◌, refl, ap, ℕ, ◌<◌, ◌≤◌, nat_le, nat_lt, Bool, true, false, ◌&&◌, not, IsTrue, List, [], ◌∷◌, filter, length, arith}
use Rattle.std.specs.Prelude.{bytes_eq}
use Rattle.std.specs.List.{list_all}
use Rattle.std.proofs.lemmas.Bool.Decides.{nat_tests}
use Rattle.std.proofs.lemmas.List.{length-map}
use Rattle.calculus.specs.declared.query.RelKey.{RelKey}
use Rattle.calculus.specs.declared.schema.Permit.{Permit}
use Rattle.calculus.specs.declared.schema.Rule.{Rule}
use Rattle.calculus.specs.declared.change.DbChange.TheVariants as change
use Rattle.calculus.specs.Keys.{same_key, numbered_cmp}
use Rattle.calculus.specs.Lists.{has_number, insert_by}
use Rattle.calculus.specs.Limits.{most_permits, most_rules, greatest_number}
use Rattle.calculus.specs.Database.{Db, Relation, is_relation, rules_on, permits_on}
use Rattle.calculus.specs.IsDatabase.{IsDatabase, valid_row_qual, valid_permit}
use Rattle.calculus.specs.Storable.{row_qual_is_storable, permit_lists_are_storable}
use Rattle.calculus.specs.Change.{laid, permit_numbers, rule_numbers, names_what_is_there, adds_what_is_new, lists_once, IsLawful}
use Rattle.quel_meaning.specs.Planned.{next_number, is_past_limit}
use Rattle.quel_meaning.proofs.InOrder.{in_order-insert}
use Rattle.quel_meaning.proofs.Numbers.{next_is_new}
use Rattle.plan_laws.specs.Fitting.{IsFitPermit, IsFitRule}
use Rattle.plan_laws.proofs.Kept.{both, each, count, all_insert, insert_one_more, insert_none_more}
use Rattle.plan_laws.proofs.Orders.{numbered_total, same_key_is}
use Rattle.plan_laws.proofs.Numbered.{PermitsStand, with_permits, RulesStand, with_rules}
use Rattle.plan_laws.proofs.Planned.{neither}

-- ---- numbers

pub le_true : (m n : ℕ) → m ≤ n → IsTrue (nat_le m n)
le_true m n h = grind (arith, nat_tests, h)

pub le_is : (m n : ℕ) → IsTrue (nat_le m n) → m ≤ n
le_is m n t = grind (arith, nat_tests, t)

-- those of one key among rules or permits
abbrev pub of_key : {X : Type 0} → RelKey → (RelKey × X) → Bool
of_key key p = same_key p.0 key

-- there are few enough, and the next number isn't too great
below_limit : (most : ℕ) (numbers : List ℕ) → is_past_limit most numbers ≡ false → (length numbers < most) × (next_number numbers ≤ greatest_number)
below_limit most numbers h =
    let parts = neither (nat_le most (length numbers)) (nat_lt greatest_number (next_number numbers)) h in
    (grind (arith, nat_tests, parts.0), grind (arith, nat_tests, parts.1))

-- with one more there are few enough of each key, where there were, and fewer of its own key
pub still_few : {X : Type 0} (number : X → ℕ) (most : ℕ) (rel key : RelKey) (x : X) (xs : List (RelKey × X))
    → count (of_key rel) xs < most → count (of_key key) xs ≤ most → count (of_key key) (insert_by (numbered_cmp number) (rel, x) xs) ≤ most
still_few number most rel key x xs own before = go (same_key rel key) refl
  where
    go : (b : Bool) → same_key rel key ≡ b → count (of_key key) (insert_by (numbered_cmp number) (rel, x) xs) ≤ most
    go true e =
        let one : count (of_key rel) xs ≡ count (of_key key) xs = ap (λ key. count (of_key key) xs) (same_key_is rel key e) in
        omega (arith, own, one, insert_one_more (numbered_cmp number) (of_key key) (rel, x) xs)
    go false e = omega (arith, before, insert_none_more (numbered_cmp number) (of_key key) (rel, x) xs e)

pub all_imply : {X : Type 0} (f g : X → Bool) → ((x : X) → IsTrue (f x) → IsTrue (g x)) → (xs : List X) → IsTrue (list_all f xs) → IsTrue (list_all g xs)
all_imply f g h [] t = refl
all_imply f g h (x ∷ xs) t = let parts = both (f x) (list_all f xs) t in each (g x) (list_all g xs) (h x parts.0) (all_imply f g h xs parts.1)

-- the next number isn't among them
next_is_none : (numbers : List ℕ) → IsTrue (not (has_number numbers (next_number numbers)))
next_is_none numbers = go (has_number numbers (next_number numbers)) refl
  where
    go : (b : Bool) → has_number numbers (next_number numbers) ≡ b → IsTrue (not b)
    go true e = absurd (let below = next_is_new numbers (next_number numbers) e in omega (arith, below))
    go false e = refl

-- ---- a permit

pub permit_lawful : (db : Db) (rel : RelKey) (permit : Permit) → IsDatabase db → IsFitPermit db rel permit → is_relation db rel ≡ true → bytes_eq rel.owner db.dba ≡ true
    → is_past_limit most_permits (permit_numbers db rel) ≡ false → IsLawful db (change.Permit rel (record permit { number = next_number (permit_numbers db rel) }))
unfolding laid names_what_is_there adds_what_is_new lists_once
permit_lawful db rel permit is fit relation owner few =
    record { names_are_there = relation; additions_are_new = next_is_none (permit_numbers db rel); nothing_is_listed_twice = refl; leaves_a_database = with_permits db later is stand }
  where
    numbered : Permit
    numbered = record permit { number = next_number (permit_numbers db rel) }

    later : List (RelKey × Permit)
    later = insert_by (numbered_cmp (λ p. p.number)) (rel, numbered) db.permits

    limit : (length (permit_numbers db rel) < most_permits) × (next_number (permit_numbers db rel) ≤ greatest_number)
    limit = below_limit most_permits (permit_numbers db rel) few

    counted : (permits : List (RelKey × Permit)) (key : RelKey) → length (permits_on (record db { permits = permits }) key) ≡ count (of_key key) permits
    counted permits key = length-map (filter (of_key key) permits) (λ p. p.1)

    own : count (of_key rel) db.permits < most_permits
    own = omega (arith, limit.0, length-map (permits_on db rel) (λ p. p.number), counted db.permits rel)

    new : IsTrue (valid_permit db rel numbered)
    new = each _ _ relation (each _ _ owner (each _ _ fit.user (each _ _ fit.attrs fit.qual)))

    put : (test : RelKey × Permit → Bool) → IsTrue (test (rel, numbered)) → IsTrue (list_all test db.permits) → IsTrue (list_all test later)
    put test = all_insert (numbered_cmp (λ p. p.number)) test (rel, numbered) db.permits

    few_later : (key : RelKey) → length (permits_on db key) ≤ most_permits → IsTrue (nat_le (length (permits_on (record db { permits = later }) key)) most_permits)
    few_later key before =
        let bound = still_few (λ p. p.number) most_permits rel key numbered db.permits own (omega (arith, before, counted db.permits key)) in
        le_true (length (permits_on (record db { permits = later }) key)) most_permits (omega (arith, bound, counted later key))

    stand : PermitsStand db later
    stand = record {
      ascend = in_order-insert (numbered_total (λ p. p.number)) (rel, numbered) db.permits is.permits_ascend;
      stand = put (λ p. valid_permit db p.0 p.1) new is.permits_stand;
      are_storable = put (λ p. row_qual_is_storable p.1.qual) fit.storable is.storable_permits;
      have_storable_lists = put (λ p. permit_lists_are_storable p.1) fit.lists is.storable_lists;
      are_few = all_imply (λ (r : Relation). nat_le (length (permits_on db r.info.key)) most_permits) (λ r. nat_le (length (permits_on (record db { permits = later }) r.info.key)) most_permits)
          (λ r t. few_later r.info.key (le_is (length (permits_on db r.info.key)) most_permits t)) db.relations is.few_permits;
      have_small_numbers = put (λ p. nat_le p.1.number greatest_number) (le_true (next_number (permit_numbers db rel)) greatest_number limit.1) is.small_permit_numbers;
    }

-- ---- a rule

pub rule_lawful : (db : Db) (rel : RelKey) (rule : Rule) → IsDatabase db → IsFitRule db rel rule → is_relation db rel ≡ true
    → is_past_limit most_rules (rule_numbers db rel) ≡ false → IsLawful db (change.Rule rel (record rule { number = next_number (rule_numbers db rel) }))
unfolding laid names_what_is_there adds_what_is_new lists_once
rule_lawful db rel rule is fit relation few =
    record { names_are_there = relation; additions_are_new = next_is_none (rule_numbers db rel); nothing_is_listed_twice = refl; leaves_a_database = with_rules db later is stand }
  where
    numbered : Rule
    numbered = record rule { number = next_number (rule_numbers db rel) }

    later : List (RelKey × Rule)
    later = insert_by (numbered_cmp (λ p. p.number)) (rel, numbered) db.rules

    limit : (length (rule_numbers db rel) < most_rules) × (next_number (rule_numbers db rel) ≤ greatest_number)
    limit = below_limit most_rules (rule_numbers db rel) few

    counted : (rules : List (RelKey × Rule)) (key : RelKey) → length (rules_on (record db { rules = rules }) key) ≡ count (of_key key) rules
    counted rules key = length-map (filter (of_key key) rules) (λ p. p.1)

    own : count (of_key rel) db.rules < most_rules
    own = omega (arith, limit.0, length-map (rules_on db rel) (λ p. p.number), counted db.rules rel)

    new : IsTrue (is_relation db rel && valid_row_qual db rel rule.qual)
    new = each _ _ relation fit.qual

    put : (test : RelKey × Rule → Bool) → IsTrue (test (rel, numbered)) → IsTrue (list_all test db.rules) → IsTrue (list_all test later)
    put test = all_insert (numbered_cmp (λ p. p.number)) test (rel, numbered) db.rules

    few_later : (key : RelKey) → length (rules_on db key) ≤ most_rules → IsTrue (nat_le (length (rules_on (record db { rules = later }) key)) most_rules)
    few_later key before =
        let bound = still_few (λ p. p.number) most_rules rel key numbered db.rules own (omega (arith, before, counted db.rules key)) in
        le_true (length (rules_on (record db { rules = later }) key)) most_rules (omega (arith, bound, counted later key))

    stand : RulesStand db later
    stand = record {
      ascend = in_order-insert (numbered_total (λ p. p.number)) (rel, numbered) db.rules is.rules_ascend;
      stand = put (λ p. is_relation db p.0 && valid_row_qual db p.0 p.1.qual) new is.rules_stand;
      are_storable = put (λ p. row_qual_is_storable p.1.qual) fit.storable is.storable_rules;
      are_few = all_imply (λ (r : Relation). nat_le (length (rules_on db r.info.key)) most_rules) (λ r. nat_le (length (rules_on (record db { rules = later }) r.info.key)) most_rules)
          (λ r t. few_later r.info.key (le_is (length (rules_on db r.info.key)) most_rules t)) db.relations is.few_rules;
      have_small_numbers = put (λ p. nat_le p.1.number greatest_number) (le_true (next_number (rule_numbers db rel)) greatest_number limit.1) is.small_rule_numbers;
    }
