-- Permits or rules that go.
use Rattle.std.proofs.Common.{◌≡◌, refl, sym, ap, ◌∙◌, subst, ℕ, ◌≤◌, nat_eq, nat_le, Bool, true, false, ◌&&◌, ◌||◌, not, cond, IsTrue, List, [], ◌∷◌, map, filter, length, arith}
use Rattle.std.specs.List.{list_all, list_any, AllByRecursion}
use Rattle.std.specs.List.Sorted.{IsStrictlySortedBy}
use Rattle.std.specs.Ordering.{nat_cmp, ordering_then}
use Rattle.std.specs.declared.cmp.Ordering.{Ordering}
use Rattle.std.specs.declared.cmp.Ordering.TheVariants.{Less, Equal}
use Rattle.std.proofs.lemmas.Bool.Decides.{Decides-eqb}
use Rattle.std.proofs.lemmas.Cmp.{nat_cmp_total, tied_itself}
use Rattle.std.proofs.lemmas.List.{length-map}
use Rattle.std.proofs.lemmas.List.Kept.{IsStrictlySortedBy-filter}
use Rattle.std.proofs.lemmas.Map.Keys.{sorted_head, sorted_tail}
use Rattle.calculus.specs.declared.query.RelKey.{RelKey}
use Rattle.calculus.specs.declared.schema.Permit.{Permit}
use Rattle.calculus.specs.declared.schema.Rule.{Rule}
use Rattle.calculus.specs.declared.change.DbChange.TheVariants as change
use Rattle.calculus.specs.Keys.{same_key, key_cmp, numbered_cmp}
use Rattle.calculus.specs.Lists.{has_number, differ_by}
use Rattle.calculus.specs.Limits.{most_permits, most_rules, greatest_number}
use Rattle.calculus.specs.Database.{Db, Relation, is_relation, rules_on, permits_on}
use Rattle.calculus.specs.IsDatabase.{IsDatabase, valid_permit, valid_row_qual}
use Rattle.calculus.specs.Storable.{row_qual_is_storable, permit_lists_are_storable}
use Rattle.calculus.specs.Change.{laid, permit_numbers, rule_numbers, names_what_is_there, adds_what_is_new, lists_once, IsLawful}
use Rattle.quel_meaning.specs.Planned.{ascending, dropped}
use Rattle.quel_meaning.proofs.Numbers.{ascending_in_order}
use Rattle.plan_laws.proofs.Kept.{both, each, count, all_filter, filter_fewer, all_insert}
use Rattle.plan_laws.proofs.Orders.{key_total, same_key_is}
use Rattle.plan_laws.proofs.Numbered.{PermitsStand, with_permits, RulesStand, with_rules}
use Rattle.plan_laws.proofs.NewNumbers.{le_true, le_is, of_key, all_imply}

-- ---- ascending numbers differ

-- a number that is smaller than each of these is none of them
smaller_is_none : (n : ℕ) (ns : List ℕ) → AllByRecursion (λ m. nat_cmp n m ≡ Less) ns → list_any (nat_eq n) ns ≡ false
smaller_is_none n [] h = refl
smaller_is_none n (m ∷ ns) h = go (nat_eq n m) refl (smaller_is_none n ns h.1)
  where
    go : (b : Bool) → nat_eq n m ≡ b → list_any (nat_eq n) ns ≡ false → (nat_eq n m || list_any (nat_eq n) ns) ≡ false
    go true e later =
        let one : n ≡ m = (Decides-eqb n m).0 e in
        absurd (never (nat_cmp n m) h.0 (ap (nat_cmp n) (sym one) ∙ tied_itself nat_cmp_total n))
      where
        never : (o : Ordering) → o ≡ Less → o ≡ Equal → ⊥
        never o e f = let g : Less ≡ Equal = sym e ∙ f in cc g
    go false e later = rw e later

sorted_differ : (ns : List ℕ) → IsStrictlySortedBy nat_cmp ns → IsTrue (differ_by nat_eq ns)
sorted_differ [] h = refl
sorted_differ (n ∷ ns) h =
    each (not (list_any (nat_eq n) ns)) (differ_by nat_eq ns) (ap not (smaller_is_none n ns (sorted_head nat_cmp n ns h))) (sorted_differ ns (sorted_tail nat_cmp n ns h))

-- ---- the numbers that stand ascend

-- those of one key among rules or permits that ascend have ascending numbers
behind_first : {X : Type 0} (number : X → ℕ) (rel : RelKey) (x : X) (ps : List (RelKey × X)) → AllByRecursion (λ p. numbered_cmp number (rel, x) p ≡ Less) ps
    → IsTrue (list_all (of_key rel) ps) → AllByRecursion (λ m. nat_cmp (number x) m ≡ Less) (map number (map (λ p. p.1) ps))
behind_first number rel x [] h t = tt
behind_first {X} number rel x (p ∷ ps) h t =
    let parts = both (of_key rel p) (list_all (of_key rel) ps) t in
    let tied : key_cmp rel p.0 ≡ Equal = ap (key_cmp rel) (same_key_is p.0 rel parts.0) ∙ tied_itself key_total rel in
    (ap (λ o. ordering_then o (nat_cmp (number x) (number p.1))) (sym tied) ∙ h.0, behind_first number rel x ps h.1 parts.1)

sorted-cons : (n : ℕ) (ns : List ℕ) → AllByRecursion (λ m. nat_cmp n m ≡ Less) ns → IsStrictlySortedBy nat_cmp ns → IsStrictlySortedBy nat_cmp (n ∷ ns)
unfolding IsStrictlySortedBy
sorted-cons n ns h s = (h, s)

sorted-nil : IsStrictlySortedBy nat_cmp []
unfolding IsStrictlySortedBy
sorted-nil = tt

numbers_ascend : {X : Type 0} (number : X → ℕ) (rel : RelKey) (ps : List (RelKey × X)) → IsStrictlySortedBy (numbered_cmp number) ps → IsTrue (list_all (of_key rel) ps)
    → IsStrictlySortedBy nat_cmp (map number (map (λ p. p.1) ps))
numbers_ascend number rel [] h t = sorted-nil
numbers_ascend {X} number rel (p ∷ ps) h t =
    let parts = both (of_key rel p) (list_all (of_key rel) ps) t in
    let head : AllByRecursion (λ q. numbered_cmp number (rel, p.1) q ≡ Less) ps =
    subst (λ key. AllByRecursion (λ q. numbered_cmp number (key, p.1) q ≡ Less) ps) (same_key_is p.0 rel parts.0) (sorted_head (numbered_cmp number) p ps h) in
    sorted-cons (number p.1) (map number (map (λ p. p.1) ps)) (behind_first number rel p.1 ps head parts.1)
    (numbers_ascend number rel ps (sorted_tail (numbered_cmp number) p ps h) parts.1)

filtered_pass : {X : Type 0} (test : X → Bool) (xs : List X) → IsTrue (list_all test (filter test xs))
filtered_pass test [] = refl
filtered_pass {X} test (x ∷ xs) = go (test x) refl (filtered_pass test xs)
  where
    go : (b : Bool) → test x ≡ b → IsTrue (list_all test (filter test xs)) → IsTrue (list_all test (cond b (x ∷ filter test xs) (filter test xs)))
    go true e later = each (test x) (list_all test (filter test xs)) e later
    go false e later = later

standing_ascend : {X : Type 0} (number : X → ℕ) (rel : RelKey) (ps : List (RelKey × X)) → IsStrictlySortedBy (numbered_cmp number) ps
    → IsStrictlySortedBy nat_cmp (map number (map (λ p. p.1) (filter (of_key rel) ps)))
standing_ascend number rel ps h = numbers_ascend number rel (filter (of_key rel) ps) (IsStrictlySortedBy-filter (numbered_cmp number) (of_key rel) ps h) (filtered_pass (of_key rel) ps)

-- ---- the numbers that go

has_more : (n m : ℕ) (ns : List ℕ) → IsTrue (has_number ns n) → IsTrue (has_number (m ∷ ns) n)
has_more n m ns t = go (nat_eq m n)
  where
    go : (b : Bool) → IsTrue (b || has_number ns n)
    go true = refl
    go false = t

has_first : (n : ℕ) (ns : List ℕ) → IsTrue (has_number (n ∷ ns) n)
has_first n ns = ap (λ b. b || has_number ns n) ((Decides-eqb n n).1 refl)

all_has : (ns more : List ℕ) → ((n : ℕ) → IsTrue (has_number ns n) → IsTrue (has_number more n)) → IsTrue (list_all (has_number more) ns)
all_has [] more h = refl
all_has (n ∷ ns) more h = each (has_number more n) (list_all (has_number more) ns) (h n (has_first n ns)) (all_has ns more (λ m t. h m (has_more m n ns t)))

all_ascending : (test : ℕ → Bool) (ns : List ℕ) → IsTrue (list_all test ns) → IsTrue (list_all test (ascending ns))
all_ascending test [] t = refl
all_ascending test (n ∷ ns) t = let parts = both (test n) (list_all test ns) t in all_insert nat_cmp test n (ascending ns) parts.0 (all_ascending test ns parts.1)

-- each of them stands, where each that is listed does
dropped_stand : (standing numbers : List ℕ) → IsTrue (list_all (has_number standing) numbers) → IsTrue (list_all (has_number standing) (dropped standing numbers))
dropped_stand standing [] t = all_has standing standing (λ n t. t)
dropped_stand standing (n ∷ ns) t = all_ascending (has_number standing) (n ∷ ns) t

-- they differ, where those that stand ascend
dropped_differ : (standing numbers : List ℕ) → IsStrictlySortedBy nat_cmp standing → IsTrue (differ_by nat_eq (dropped standing numbers))
dropped_differ standing [] h = sorted_differ standing h
dropped_differ standing (n ∷ ns) h = sorted_differ (ascending (n ∷ ns)) (ascending_in_order (n ∷ ns))

-- ---- permits

pub permits_gone : (db : Db) (rel : RelKey) (numbers : List ℕ) → IsDatabase db → is_relation db rel ≡ true → IsTrue (list_all (has_number (permit_numbers db rel)) numbers)
    → IsLawful db (change.DropPermits rel (dropped (permit_numbers db rel) numbers))
unfolding laid names_what_is_there adds_what_is_new lists_once
permits_gone db rel numbers is relation there = record {
  names_are_there = each _ _ relation (dropped_stand (permit_numbers db rel) numbers there);
  additions_are_new = refl;
  nothing_is_listed_twice = dropped_differ (permit_numbers db rel) numbers (standing_ascend (λ p. p.number) rel db.permits is.permits_ascend);
  leaves_a_database = with_permits db later is stand;
}
  where
    gone : List ℕ
    gone = dropped (permit_numbers db rel) numbers

    kept : RelKey × Permit → Bool
    kept p = not (same_key p.0 rel && has_number gone p.1.number)

    later : List (RelKey × Permit)
    later = filter kept db.permits

    counted : (permits : List (RelKey × Permit)) (key : RelKey) → length (permits_on (record db { permits = permits }) key) ≡ count (of_key key) permits
    counted permits key = length-map (filter (of_key key) permits) (λ p. p.1)

    few_later : (key : RelKey) → length (permits_on db key) ≤ most_permits → IsTrue (nat_le (length (permits_on (record db { permits = later }) key)) most_permits)
    few_later key before =
        le_true (length (permits_on (record db { permits = later }) key)) most_permits
        (omega (arith, before, filter_fewer (of_key key) kept db.permits, counted db.permits key, counted later key))

    stand : PermitsStand db later
    stand = record {
      ascend = IsStrictlySortedBy-filter (numbered_cmp (λ p. p.number)) kept db.permits is.permits_ascend;
      stand = all_filter (λ p. valid_permit db p.0 p.1) kept db.permits is.permits_stand;
      are_storable = all_filter (λ p. row_qual_is_storable p.1.qual) kept db.permits is.storable_permits;
      have_storable_lists = all_filter (λ p. permit_lists_are_storable p.1) kept db.permits is.storable_lists;
      are_few = all_imply (λ (r : Relation). nat_le (length (permits_on db r.info.key)) most_permits) (λ r. nat_le (length (permits_on (record db { permits = later }) r.info.key)) most_permits)
          (λ r t. few_later r.info.key (le_is (length (permits_on db r.info.key)) most_permits t)) db.relations is.few_permits;
      have_small_numbers = all_filter (λ p. nat_le p.1.number greatest_number) kept db.permits is.small_permit_numbers;
    }

-- ---- rules

pub rules_gone : (db : Db) (rel : RelKey) (numbers : List ℕ) → IsDatabase db → is_relation db rel ≡ true → IsTrue (list_all (has_number (rule_numbers db rel)) numbers)
    → IsLawful db (change.DropRules rel (dropped (rule_numbers db rel) numbers))
unfolding laid names_what_is_there adds_what_is_new lists_once
rules_gone db rel numbers is relation there = record {
  names_are_there = each _ _ relation (dropped_stand (rule_numbers db rel) numbers there);
  additions_are_new = refl;
  nothing_is_listed_twice = dropped_differ (rule_numbers db rel) numbers (standing_ascend (λ p. p.number) rel db.rules is.rules_ascend);
  leaves_a_database = with_rules db later is stand;
}
  where
    gone : List ℕ
    gone = dropped (rule_numbers db rel) numbers

    kept : RelKey × Rule → Bool
    kept p = not (same_key p.0 rel && has_number gone p.1.number)

    later : List (RelKey × Rule)
    later = filter kept db.rules

    counted : (rules : List (RelKey × Rule)) (key : RelKey) → length (rules_on (record db { rules = rules }) key) ≡ count (of_key key) rules
    counted rules key = length-map (filter (of_key key) rules) (λ p. p.1)

    few_later : (key : RelKey) → length (rules_on db key) ≤ most_rules → IsTrue (nat_le (length (rules_on (record db { rules = later }) key)) most_rules)
    few_later key before =
        le_true (length (rules_on (record db { rules = later }) key)) most_rules
        (omega (arith, before, filter_fewer (of_key key) kept db.rules, counted db.rules key, counted later key))

    stand : RulesStand db later
    stand = record {
      ascend = IsStrictlySortedBy-filter (numbered_cmp (λ p. p.number)) kept db.rules is.rules_ascend;
      stand = all_filter (λ p. is_relation db p.0 && valid_row_qual db p.0 p.1.qual) kept db.rules is.rules_stand;
      are_storable = all_filter (λ p. row_qual_is_storable p.1.qual) kept db.rules is.storable_rules;
      are_few = all_imply (λ (r : Relation). nat_le (length (rules_on db r.info.key)) most_rules) (λ r. nat_le (length (rules_on (record db { rules = later }) r.info.key)) most_rules)
          (λ r t. few_later r.info.key (le_is (length (rules_on db r.info.key)) most_rules t)) db.relations is.few_rules;
      have_small_numbers = all_filter (λ p. nat_le p.1.number greatest_number) kept db.rules is.small_rule_numbers;
    }
