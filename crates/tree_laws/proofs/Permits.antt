-- In a database what permits and rules ask of a row has few levels.
use Rattle.std.proofs.Common.{◌≡◌, refl, sym, ap, ◌∙◌, subst, ℕ, suc, ◌≤◌, Bool, true, false, cond, ◌&&◌, List, [], ◌∷◌, map, length, filter, Option, Some, None, is_some, arith}
use Rattle.std.proofs.lemmas.Bool.Decides.{nat_tests}
use Rattle.std.specs.Prelude.{nat_le}
use Rattle.std.specs.List.{list_all}
use Rattle.calculus.specs.declared.query.RelKey.{RelKey}
use Rattle.calculus.specs.declared.query.QQual.{QQual}
use Rattle.calculus.specs.declared.schema.Permit.{Permit}
use Rattle.calculus.specs.declared.schema.Rule.{Rule}
use Rattle.calculus.specs.Keys.{same_key}
use Rattle.calculus.specs.Limits.{most_permits, greatest_qual_size, most_levels}
use Rattle.calculus.specs.Who.{Who, Unrestricted, AsUser}
use Rattle.calculus.specs.Database.{Db, Relation, relation_at, is_relation, permits_on}
use Rattle.calculus.specs.IsDatabase.{IsDatabase, valid_permit, valid_row_qual}
use Rattle.calculus.specs.Rights.{Right, covers, needs_none}
use Rattle.calculus.specs.Sizes.{qual_size}
use Rattle.calculus.specs.Spelled.{qual_is_spelled}
use Rattle.calculus.specs.Storable.{row_qual_is_small, row_qual_is_storable}
use Rattle.calculus.specs.Stored.{kinds_at}
use Rattle.calculus.specs.TreeLevels.{qual_levels}
use Rattle.calculus_laws.proofs.Enough.{same_key-exact}
use Rattle.calculus_laws.proofs.SameRows.{all_at}
use Rattle.calculus_laws.proofs.ViewAnswer.{found}
use Rattle.view_text.specs.Replaced.{of_only}
use Rattle.view_text.specs.Halves.{any_of}
use Rattle.view_text.specs.ExpansionOf.{permit_condition, covering, restriction}
use Rattle.tree_laws.proofs.Scopes.{both_true}
use Rattle.tree_laws.proofs.Joint.{both_are}
use Rattle.tree_laws.proofs.Joined.{doubled, Low, low_any}
use Rattle.tree_laws.proofs.Replaced.{only_low, qual_sized, qual_plain}

pub le_is : (m n : ℕ) → nat_le m n ≡ true → m ≤ n
le_is m n h = grind (arith, nat_tests, h)

-- what is stored of a rule or a permit is no larger than it may be
size_is : (q : QQual) → row_qual_is_storable q ≡ true → qual_size [] q ≤ 1000
size_is q h =
    let small = both_true (row_qual_is_small q) (qual_is_spelled q) h in
    let sized = both_true (nat_le (qual_size [] q) greatest_qual_size) (nat_le (qual_levels q) most_levels) small.0 in
    le_is (qual_size [] q) greatest_qual_size sized.0

-- ---- how many permits stand on a relation

none_on : (db : Db) (key : RelKey) (ps : List (RelKey × Permit)) → list_all (λ p. valid_permit db p.0 p.1) ps ≡ true → is_relation db key ≡ false
    → length (map (λ p. p.1) (filter (λ p. same_key p.0 key) ps)) ≤ 100
none_on db key [] h lacks = omega arith
none_on db key (p ∷ ps) h lacks =
    let parts = both_true (valid_permit db p.0 p.1) (list_all (λ p. valid_permit db p.0 p.1) ps) h in
    by (same_key p.0 key) refl (both_true (is_relation db p.0) _ parts.0).0 (none_on db key ps parts.1 lacks)
  where
    by : (b : Bool) → same_key p.0 key ≡ b → is_relation db p.0 ≡ true → length (map (λ p. p.1) (filter (λ p. same_key p.0 key) ps)) ≤ 100
        → length (map (λ p. p.1) (cond b (p ∷ filter (λ p. same_key p.0 key) ps) (filter (λ p. same_key p.0 key) ps))) ≤ 100
    by true e there more =
        let stands : is_relation db key ≡ true = subst (λ k. is_relation db k ≡ true) (same_key-exact p.0 key e) there in
        let wrong : false ≡ true = sym lacks ∙ stands in
        cc wrong
    by false e there more = more

module _ (db : Db) (d : IsDatabase db) where
  few_on : (key : RelKey) → length (permits_on db key) ≤ 100
  few_on key = by (relation_at db key) refl
    where
      by : (r : Option Relation) → relation_at db key ≡ r → length (permits_on db key) ≤ 100
      by None e = none_on db key db.permits d.permits_stand (ap is_some e)
      by (Some r) e =
          let (inside, same) = found (λ r. same_key r.info.key key) db.relations r e in
          subst (λ k. length (permits_on db k) ≤ 100) (same_key-exact r.info.key key same)
          (le_is (length (permits_on db r.info.key)) most_permits (all_at (λ r. nat_le (length (permits_on db r.info.key)) most_permits) db.relations r inside d.few_permits))

  -- ---- the conditions of permits

  permit_low : (p : Permit) → row_qual_is_storable p.qual ≡ true → qual_levels (permit_condition p) ≤ 1001
  permit_low p h = let size = size_is p.qual h in let low = qual_sized of_only [] only_low p.qual in omega (arith, size, low)

  each_low : (test : Permit → Bool) (ps : List Permit) → list_all (λ p. row_qual_is_storable p.qual) ps ≡ true → Low 1001 (map permit_condition (filter test ps))
  each_low test [] h = tt
  each_low test (p ∷ ps) h =
      let parts = both_true (row_qual_is_storable p.qual) (list_all (λ p. row_qual_is_storable p.qual) ps) h in
      by (test p) (permit_low p parts.0) (each_low test ps parts.1)
    where
      by : (b : Bool) → qual_levels (permit_condition p) ≤ 1001 → Low 1001 (map permit_condition (filter test ps)) → Low 1001 (map permit_condition (cond b (p ∷ filter test ps) (filter test ps)))
      by true one more = (one, more)
      by false one more = more

  all_storable : (key : RelKey) (ps : List (RelKey × Permit)) → list_all (λ p. row_qual_is_storable p.1.qual) ps ≡ true
      → list_all (λ p. row_qual_is_storable p.qual) (map (λ p. p.1) (filter (λ p. same_key p.0 key) ps)) ≡ true
  all_storable key [] h = refl
  all_storable key (p ∷ ps) h =
      let parts = both_true (row_qual_is_storable p.1.qual) (list_all (λ p. row_qual_is_storable p.1.qual) ps) h in
      by (same_key p.0 key) parts.0 (all_storable key ps parts.1)
    where
      by : (b : Bool) → row_qual_is_storable p.1.qual ≡ true → list_all (λ p. row_qual_is_storable p.qual) (map (λ p. p.1) (filter (λ p. same_key p.0 key) ps)) ≡ true
          → list_all (λ p. row_qual_is_storable p.qual) (map (λ p. p.1) (cond b (p ∷ filter (λ p. same_key p.0 key) ps) (filter (λ p. same_key p.0 key) ps))) ≡ true
      by true one more = both_are (row_qual_is_storable p.1.qual) (list_all (λ p. row_qual_is_storable p.qual) (map (λ p. p.1) (filter (λ p. same_key p.0 key) ps))) one more
      by false one more = more

  no_longer : (test : Permit → Bool) (ps : List Permit) → length (map permit_condition (filter test ps)) ≤ length ps
  no_longer test [] = omega arith
  no_longer test (p ∷ ps) = by (test p) (no_longer test ps)
    where
      by : (b : Bool) → length (map permit_condition (filter test ps)) ≤ length ps → length (map permit_condition (cond b (p ∷ filter test ps) (filter test ps))) ≤ suc (length ps)
      by true more = omega (arith, more)
      by false more = omega (arith, more)

  hundred : 100 ≤ doubled 7
  unfolding doubled
  hundred = omega arith

  pub restriction_low : (who : Who) (right : Right) (attrs : List ℕ) (key : RelKey) → Low 1008 (restriction db who right attrs key) × (length (restriction db who right attrs key) ≤ 1)
  restriction_low Unrestricted right attrs key = (tt, omega arith)
  restriction_low (AsUser asker) right attrs key = by (needs_none db asker right key)
    where
      joined : qual_levels (any_of (map permit_condition (covering db asker right attrs key))) ≤ 1008
      joined =
          let shorter = no_longer (λ p. covers p asker right attrs) (permits_on db key) in
          let few = few_on key in
          let enough = hundred in
          let short : length (map permit_condition (covering db asker right attrs key)) ≤ doubled 7 = omega (arith, shorter, few, enough) in
          let two : 2 ≤ 1001 = omega arith in
          let low = low_any 7 1001 (map permit_condition (covering db asker right attrs key)) short two (each_low (λ p. covers p asker right attrs) (permits_on db key) (all_storable key db.permits d.storable_permits)) in
          omega (arith, low)

      by : (b : Bool) → Low 1008 (elim b [ true ↦ [] | false ↦ any_of (map permit_condition (covering db asker right attrs key)) ∷ [] ])
          × (length {A = QQual} (elim b [ true ↦ [] | false ↦ any_of (map permit_condition (covering db asker right attrs key)) ∷ [] ]) ≤ 1)
      by true = (tt, omega arith)
      by false = ((joined, tt), omega arith)

  -- ---- rules

  rule_low : (rel : RelKey) (rule : Rule) → (is_relation db rel && valid_row_qual db rel rule.qual) ≡ true → row_qual_is_storable rule.qual ≡ true → qual_levels rule.qual ≤ 1001
  rule_low rel rule stands stored =
      let fits = (both_true (is_relation db rel) (valid_row_qual db rel rule.qual) stands).1 in
      let size = size_is rule.qual stored in
      let low = qual_plain (kinds_at db rel ∷ []) rule.qual fits in
      omega (arith, size, low)

  pub rules_low : (key : RelKey) (rules : List (RelKey × Rule)) → list_all (λ p. is_relation db p.0 && valid_row_qual db p.0 p.1.qual) rules ≡ true
      → list_all (λ p. row_qual_is_storable p.1.qual) rules ≡ true → Low 1001 (map (λ r. r.qual) (map (λ p. p.1) (filter (λ p. same_key p.0 key) rules)))
  rules_low key [] h k = tt
  rules_low key (p ∷ rules) h k =
      let stands = both_true (is_relation db p.0 && valid_row_qual db p.0 p.1.qual) (list_all (λ p. is_relation db p.0 && valid_row_qual db p.0 p.1.qual) rules) h in
      let stored = both_true (row_qual_is_storable p.1.qual) (list_all (λ p. row_qual_is_storable p.1.qual) rules) k in
      by (same_key p.0 key) (rule_low p.0 p.1 stands.0 stored.0) (rules_low key rules stands.1 stored.1)
    where
      by : (b : Bool) → qual_levels p.1.qual ≤ 1001 → Low 1001 (map (λ r. r.qual) (map (λ p. p.1) (filter (λ p. same_key p.0 key) rules)))
          → Low 1001 (map (λ r. r.qual) (map (λ p. p.1) (cond b (p ∷ filter (λ p. same_key p.0 key) rules) (filter (λ p. same_key p.0 key) rules))))
      by true one more = (one, more)
      by false one more = more
