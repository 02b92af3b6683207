-- Of what waits to be applied, relations may be applied, and where all relations stand, indexes, rules and permits may.
use Rattle.std.proofs.Common.{◌≡◌, refl, sym, ap, ◌∙◌, subst, ℕ, nat_le, nat_lt, ◌≤◌, Bool, true, ◌&&◌, not, IsTrue, List, [], ◌∷◌, ◌++◌, map, filter, length, arith}
use Rattle.std.specs.Prelude.{find, flat_map, bytes_eq}
use Rattle.std.specs.List.{list_all}
use Rattle.std.proofs.lemmas.Bool.Decides.{nat_tests}
use Rattle.std.proofs.lemmas.List.{length-map}
use Rattle.calculus.specs.declared.query.RelKey.{RelKey}
use Rattle.calculus.specs.declared.schema.Attr.{Attr}
use Rattle.calculus.specs.declared.schema.Permit.{Permit}
use Rattle.calculus.specs.declared.schema.RelInfo.{RelInfo}
use Rattle.calculus.specs.declared.schema.Rule.{Rule}
use Rattle.calculus.specs.declared.change.DbChange.{DbChange}
use Rattle.calculus.specs.Database.{Db, Relation, Index, entries, is_relation}
use Rattle.calculus.specs.IsDatabase.{IsDatabase, valid_structure, attrs_stand, are_stored, valid_index, keys_stand, valid_row_qual, valid_permit, user_is_named}
use Rattle.calculus.specs.Keys.{same_key, key_of}
use Rattle.calculus.specs.Kinds.{kinds_fit}
use Rattle.calculus.specs.Limits.{most_rules, most_permits, greatest_number}
use Rattle.calculus.specs.Lists.{is_any, has_number}
use Rattle.calculus.specs.Change.{rule_numbers, permit_numbers}
use Rattle.calculus.specs.Storable.{row_qual_is_storable, permit_lists_are_storable}
use Rattle.calculus.specs.Stored.{attrs_at}
use Rattle.calculus.specs.Structures.{is_index}
use Rattle.change_laws.specs.Fit.{key_is_free, number_is_free, relation_is_fit, index_is_fit, rule_is_fit, permit_is_fit}
use Rattle.plan_laws.proofs.Created.{each_true}
use Rattle.plan_laws.proofs.Indexes.{all-map}
use Rattle.plan_laws.proofs.Kept.{both, each, count}
use Rattle.plan_laws.proofs.NewIndexes.{is_yes}
use Rattle.plan_laws.proofs.NewNumbers.{of_key}
use Rattle.plan_laws.proofs.Tests.{there_is, found_has, key_found, lt_true}
use Rattle.catalog_read.specs.Applying.{Shuffled, relation_of, index_of, view_of, rule_of, permit_of}
use Rattle.catalog_read.proofs.Members.{IsIn, in_shuffled, in_front, in_test, Within, within_both, waits_within, stands_within}
use Rattle.catalog_read.proofs.Steps.{infos_of, IsBare}
use Rattle.catalog_read.proofs.Waiting.{views_of, indexes_of, within_mapped, third_first, key_free, number_free}
use Rattle.catalog_read.proofs.Ranged.{IsPart, relation_same, attrs_same}

-- what is left and what stands in the one database are the parts of the other, in any order
pub record Waits (left : List DbChange) (part whole : Db) : Type 0 where
  pub database : IsDatabase part
  pub all : IsDatabase whole
  pub administrator : part.dba ≡ whole.dba
  pub bare : IsBare part
  pub all_bare : IsBare whole
  pub relations : Shuffled (flat_map relation_of left ++ infos_of part) (infos_of whole)
  pub indexes : Shuffled (flat_map index_of left ++ part.indexes) whole.indexes
  pub views : Shuffled (flat_map view_of left ++ part.views) whole.views
  pub rules : Shuffled (flat_map rule_of left ++ part.rules) whole.rules
  pub permits : Shuffled (flat_map permit_of left ++ part.permits) whole.permits

module _ (left : List DbChange) (part whole : Db) (w : Waits left part whole) where
  pub relations_within : Within (infos_of part) (infos_of whole)
  relations_within = stands_within (flat_map relation_of left) (infos_of part) (infos_of whole) w.relations

  pub views_within : Within (views_of part) (views_of whole)
  views_within = within_mapped (λ v. v.info) part.views whole.views (stands_within (flat_map view_of left) part.views whole.views w.views)

  pub indexes_within : Within (indexes_of part) (indexes_of whole)
  indexes_within = within_mapped (λ x. x.info) part.indexes whole.indexes (stands_within (flat_map index_of left) part.indexes whole.indexes w.indexes)

  -- ---- relations

  pub relation_fits : (info : RelInfo) → IsIn info (flat_map relation_of left) → relation_is_fit part info [] ≡ true
  unfolding relation_is_fit
  relation_fits info at =
      each _ _ free (each _ _ (its valid_structure w.all.structures_stand) (each _ _ (its (λ i. attrs_stand i.attrs) w.all.relation_attrs_stand) (each _ _ (its (λ i. are_stored i.attrs) w.all.relations_are_stored) refl)))
    where
      among : IsIn info (infos_of whole)
      among = in_shuffled info (flat_map relation_of left ++ infos_of part) (infos_of whole) w.relations (in_front info (flat_map relation_of left) (infos_of part) at)

      its : (test : RelInfo → Bool) → IsTrue (list_all (λ r. test r.info) whole.relations) → IsTrue (test info)
      its test t = in_test test (infos_of whole) info (all-map test (λ r. r.info) whole.relations ∙ t) among

      free : IsTrue (key_is_free part info.key)
      free = key_free part whole info w.all
          (within_both (info ∷ infos_of part) (infos_of whole) (views_of part ++ indexes_of part) (views_of whole ++ indexes_of whole)
          (waits_within info (flat_map relation_of left) (infos_of part) (infos_of whole) w.relations at)
          (within_both (views_of part) (views_of whole) (indexes_of part) (indexes_of whole) views_within indexes_within))

  -- ---- indexes

  pub index_fits : IsPart part whole → (x : Index) → key_of x.base.owner x.info.key.name ≡ x.info.key → IsIn x (flat_map index_of left) → index_is_fit part x.base x.info.key.name x.info.keys ≡ true
  unfolding index_is_fit
  index_fits is x own at =
      let stands = in_test (valid_index whole) whole.indexes x w.all.indexes_stand
      (in_shuffled x (flat_map index_of left ++ part.indexes) whole.indexes w.indexes (in_front x (flat_map index_of left) part.indexes at)) in
      let kind = both (is_index x.info.spec) _ stands in
      let base = both (is_relation whole x.base) _ kind.1 in
      let attrs = both (not (is_any x.info.attrs)) _ base.1 in
      let keys = both (is_any x.info.keys) (keys_stand (attrs_at whole x.base) x.info.keys) attrs.1 in
      each _ _ (relation_same part whole is x.base ∙ base.0) (each _ _ keys.0 (each _ _ (ap (λ attrs. keys_stand attrs x.info.keys) (attrs_same part whole is x.base base.0) ∙ keys.1)
      (subst (λ k. IsTrue (key_is_free part k)) (sym own) free)))
    where
      free : IsTrue (key_is_free part x.info.key)
      free = key_free part whole x.info w.all (third_first (infos_of part) (views_of part) (indexes_of part) (entries whole) x.info
          (within_both (infos_of part) (infos_of whole) (views_of part ++ (x.info ∷ indexes_of part)) (views_of whole ++ indexes_of whole) relations_within
          (within_both (views_of part) (views_of whole) (x.info ∷ indexes_of part) (indexes_of whole) views_within
          (within_mapped (λ x. x.info) (x ∷ part.indexes) whole.indexes (waits_within x (flat_map index_of left) part.indexes whole.indexes w.indexes at)))))

  -- ---- rules and permits

  few_on : {X : Type 0} (rel : RelKey) (all : List (RelKey × X)) (most : ℕ) → is_relation whole rel ≡ true
      → IsTrue (list_all (λ r. nat_le (length (map (λ p. p.1) (filter (λ p. same_key p.0 r.info.key) all))) most) whole.relations) → count (of_key rel) all ≤ most
  few_on {X} rel all most there t =
      there_is (find (λ (r : Relation). same_key r.info.key rel) whole.relations) there (λ r e. (
      let fits = found_has (λ (r : Relation). IsTrue (nat_le (length (map (λ p. p.1) (filter (λ p. same_key p.0 r.info.key) all))) most)) (λ r. same_key r.info.key rel) whole.relations r
      (each_true (λ r. nat_le (length (map (λ p. p.1) (filter (λ p. same_key p.0 r.info.key) all))) most) whole.relations t) e in
      few (subst (λ k. IsTrue (nat_le (length (map (λ p. p.1) (filter (λ p. same_key p.0 k) all))) most)) (key_found rel whole.relations r e) fits)))
    where
      le_is : (m n : ℕ) → IsTrue (nat_le m n) → m ≤ n
      le_is m n t = grind (arith, nat_tests, t)

      few : IsTrue (nat_le (length (map (λ p. p.1) (filter (of_key rel) all))) most) → count (of_key rel) all ≤ most
      few t =
          let short = length-map (filter (of_key rel) all) (λ (p : RelKey × X). p.1) in
          let low = le_is (length (map (λ p. p.1) (filter (of_key rel) all))) most t in
          omega (arith, short, low)

  pub rule_fits : IsPart part whole → (x : RelKey × Rule) → IsIn x (flat_map rule_of left) → rule_is_fit part x.0 x.1 ≡ true
  unfolding rule_is_fit number_is_free
  rule_fits is x at =
      let stands = both (is_relation whole x.0) (valid_row_qual whole x.0 x.1.qual) (its (λ p. is_relation whole p.0 && valid_row_qual whole p.0 p.1.qual) w.all.rules_stand) in
      let free = number_free (λ (r : Rule). r.number) most_rules x.0 x.1 part.rules whole.rules (waits_within x (flat_map rule_of left) part.rules whole.rules w.rules at) w.all.rules_ascend
      (few_on x.0 whole.rules most_rules stands.0 w.all.few_rules) in
      each _ _ (relation_same part whole is x.0 ∙ stands.0) (each _ _ (ap (λ (attrs : List Attr). kinds_fit x.1.qual (map (λ a. a.kind) attrs ∷ [])) (attrs_same part whole is x.0 stands.0) ∙ stands.1)
      (each _ _ (its (λ p. row_qual_is_storable p.1.qual) w.all.storable_rules) (each _ _ (its (λ p. nat_le p.1.number greatest_number) w.all.small_rule_numbers)
      (each _ _ (is_yes (has_number (rule_numbers part x.0) x.1.number) free.0) (lt_true (length (rule_numbers part x.0)) most_rules free.1)))))
    where
      its : (test : RelKey × Rule → Bool) → IsTrue (list_all test whole.rules) → IsTrue (test x)
      its test t = in_test test whole.rules x t (in_shuffled x (flat_map rule_of left ++ part.rules) whole.rules w.rules (in_front x (flat_map rule_of left) part.rules at))

  pub permit_fits : IsPart part whole → (x : RelKey × Permit) → IsIn x (flat_map permit_of left) → permit_is_fit part x.0 x.1 ≡ true
  unfolding permit_is_fit number_is_free
  permit_fits is x at =
      let stands = its (λ p. valid_permit whole p.0 p.1) w.all.permits_stand in
      let there = (both (is_relation whole x.0) _ stands).0 in
      let free = number_free (λ (p : Permit). p.number) most_permits x.0 x.1 part.permits whole.permits (waits_within x (flat_map permit_of left) part.permits whole.permits w.permits at) w.all.permits_ascend
      (few_on x.0 whole.permits most_permits there w.all.few_permits) in
      each _ _ (stands_same (relation_same part whole is x.0) is.administrator (attrs_same part whole is x.0 there) ∙ stands)
      (each _ _ (its (λ p. row_qual_is_storable p.1.qual) w.all.storable_permits) (each _ _ (its (λ p. permit_lists_are_storable p.1) w.all.storable_lists)
      (each _ _ (its (λ p. nat_le p.1.number greatest_number) w.all.small_permit_numbers)
      (each _ _ (is_yes (has_number (permit_numbers part x.0) x.1.number) free.0) (lt_true (length (permit_numbers part x.0)) most_permits free.1)))))
    where
      its : (test : RelKey × Permit → Bool) → IsTrue (list_all test whole.permits) → IsTrue (test x)
      its test t = in_test test whole.permits x t (in_shuffled x (flat_map permit_of left ++ part.permits) whole.permits w.permits (in_front x (flat_map permit_of left) part.permits at))

      stands_same : is_relation part x.0 ≡ is_relation whole x.0 → part.dba ≡ whole.dba → attrs_at part x.0 ≡ attrs_at whole x.0 → valid_permit part x.0 x.1 ≡ valid_permit whole x.0 x.1
      stands_same there dba attrs = λ i.
          there i && (bytes_eq x.0.owner (dba i) && (user_is_named x.1.user && (list_all (λ a. nat_lt a (length (attrs i))) x.1.attrs && kinds_fit x.1.qual (map (λ a. a.kind) (attrs i) ∷ []))))
