-- A database with other rules or permits.
use Rattle.std.proofs.Common.{refl, sym, ◌∙◌, IsTrue, List}
use Rattle.std.specs.Prelude.{nat_le, length, ◌&&◌}
use Rattle.std.specs.List.{list_all}
use Rattle.std.specs.List.Sorted.{IsStrictlySortedBy}
use Rattle.calculus.specs.declared.query.RelKey.{RelKey}
use Rattle.calculus.specs.declared.schema.Permit.{Permit}
use Rattle.calculus.specs.declared.schema.Rule.{Rule}
use Rattle.calculus.specs.Keys.{numbered_cmp}
use Rattle.calculus.specs.Limits.{most_permits, most_rules, greatest_number}
use Rattle.calculus.specs.Database.{Db, is_relation, rules_on, permits_on}
use Rattle.calculus.specs.Catalogue.{catalogue_at}
use Rattle.calculus.specs.Stored.{range_at}
use Rattle.calculus.specs.IsDatabase.{IsDatabase, valid_row_qual, valid_permit}
use Rattle.calculus.specs.Storable.{row_qual_is_storable, permit_lists_are_storable}
use Rattle.plan_laws.proofs.Alike.{Alike, alike_itself, levels_stay, vars_stay, queries_stay, expansions_stay, sizes_stay, rules_stay, permits_stay, indexes_stay}

pub permits_alike : (db : Db) (permits : List (RelKey × Permit)) → Alike db (record db { permits = permits })
unfolding range_at catalogue_at
permits_alike db permits = record { ranges = λ key. alike_itself (range_at db key); relations = λ key. refl }

-- these permits may stand in the database
pub record PermitsStand (db : Db) (permits : List (RelKey × Permit)) : Type 0 where
  pub ascend : IsStrictlySortedBy (numbered_cmp (λ p. p.number)) permits
  pub stand : IsTrue (list_all (λ p. valid_permit db p.0 p.1) permits)
  pub are_storable : IsTrue (list_all (λ p. row_qual_is_storable p.1.qual) permits)
  pub have_storable_lists : IsTrue (list_all (λ p. permit_lists_are_storable p.1) permits)
  pub are_few : IsTrue (list_all (λ r. nat_le (length (permits_on (record db { permits = permits }) r.info.key)) most_permits) db.relations)
  pub have_small_numbers : IsTrue (list_all (λ p. nat_le p.1.number greatest_number) permits)

pub with_permits : (db : Db) (permits : List (RelKey × Permit)) → IsDatabase db → PermitsStand db permits → IsDatabase (record db { permits = permits })
with_permits db permits is new =
    let later : Db = record db { permits = permits } in
    let alike : Alike db later = permits_alike db permits in
    record {
      dba_is_named = is.dba_is_named;
      keys_are_named = is.keys_are_named;
      relations_ascend = is.relations_ascend;
      indexes_ascend = is.indexes_ascend;
      views_ascend = is.views_ascend;
      rules_ascend = is.rules_ascend;
      permits_ascend = new.ascend;
      keys_differ = is.keys_differ;
      structures_stand = is.structures_stand;
      relation_attrs_stand = is.relation_attrs_stand;
      relations_are_stored = is.relations_are_stored;
      rows_ascend = is.rows_ascend;
      rows_fit = is.rows_fit;
      indexes_stand = sym (indexes_stay db later alike db.indexes) ∙ is.indexes_stand;
      view_infos_stand = is.view_infos_stand;
      view_attrs_stand = is.view_attrs_stand;
      view_attrs_are_targets = is.view_attrs_are_targets;
      views_name_what_is_there = sym (vars_stay db later alike db.views) ∙ is.views_name_what_is_there;
      views_have_levels = sym (levels_stay db later alike db.views) ∙ is.views_have_levels;
      view_queries_stand = sym (queries_stay db later alike db.views) ∙ is.view_queries_stand;
      rules_stand = sym (rules_stay db later alike db.rules) ∙ is.rules_stand;
      permits_stand = sym (permits_stay db later alike refl permits) ∙ new.stand;
      few_entries = is.few_entries;
      few_rows = is.few_rows;
      few_listed_variables = is.few_listed_variables;
      few_variables = is.few_variables;
      few_expanded_variables = sym (expansions_stay db later alike db.views) ∙ is.few_expanded_variables;
      small_views = sym (sizes_stay db later alike db.views) ∙ is.small_views;
      storable_views = is.storable_views;
      storable_rules = is.storable_rules;
      storable_permits = new.are_storable;
      storable_lists = new.have_storable_lists;
      few_rules = is.few_rules;
      few_permits = new.are_few;
      small_rule_numbers = is.small_rule_numbers;
      small_permit_numbers = new.have_small_numbers;
    }

-- ---- rules

pub rules_alike : (db : Db) (rules : List (RelKey × Rule)) → Alike db (record db { rules = rules })
unfolding range_at catalogue_at
rules_alike db rules = record { ranges = λ key. alike_itself (range_at db key); relations = λ key. refl }

-- these rules may stand in the database
pub record RulesStand (db : Db) (rules : List (RelKey × Rule)) : Type 0 where
  pub ascend : IsStrictlySortedBy (numbered_cmp (λ r. r.number)) rules
  pub stand : IsTrue (list_all (λ p. is_relation db p.0 && valid_row_qual db p.0 p.1.qual) rules)
  pub are_storable : IsTrue (list_all (λ p. row_qual_is_storable p.1.qual) rules)
  pub are_few : IsTrue (list_all (λ r. nat_le (length (rules_on (record db { rules = rules }) r.info.key)) most_rules) db.relations)
  pub have_small_numbers : IsTrue (list_all (λ p. nat_le p.1.number greatest_number) rules)

pub with_rules : (db : Db) (rules : List (RelKey × Rule)) → IsDatabase db → RulesStand db rules → IsDatabase (record db { rules = rules })
with_rules db rules is new =
    let later : Db = record db { rules = rules } in
    let alike : Alike db later = rules_alike db rules in
    record {
      dba_is_named = is.dba_is_named;
      keys_are_named = is.keys_are_named;
      relations_ascend = is.relations_ascend;
      indexes_ascend = is.indexes_ascend;
      views_ascend = is.views_ascend;
      rules_ascend = new.ascend;
      permits_ascend = is.permits_ascend;
      keys_differ = is.keys_differ;
      structures_stand = is.structures_stand;
      relation_attrs_stand = is.relation_attrs_stand;
      relations_are_stored = is.relations_are_stored;
      rows_ascend = is.rows_ascend;
      rows_fit = is.rows_fit;
      indexes_stand = sym (indexes_stay db later alike db.indexes) ∙ is.indexes_stand;
      view_infos_stand = is.view_infos_stand;
      view_attrs_stand = is.view_attrs_stand;
      view_attrs_are_targets = is.view_attrs_are_targets;
      views_name_what_is_there = sym (vars_stay db later alike db.views) ∙ is.views_name_what_is_there;
      views_have_levels = sym (levels_stay db later alike db.views) ∙ is.views_have_levels;
      view_queries_stand = sym (queries_stay db later alike db.views) ∙ is.view_queries_stand;
      rules_stand = sym (rules_stay db later alike rules) ∙ new.stand;
      permits_stand = sym (permits_stay db later alike refl db.permits) ∙ is.permits_stand;
      few_entries = is.few_entries;
      few_rows = is.few_rows;
      few_listed_variables = is.few_listed_variables;
      few_variables = is.few_variables;
      few_expanded_variables = sym (expansions_stay db later alike db.views) ∙ is.few_expanded_variables;
      small_views = sym (sizes_stay db later alike db.views) ∙ is.small_views;
      storable_views = is.storable_views;
      storable_rules = new.are_storable;
      storable_permits = is.storable_permits;
      storable_lists = is.storable_lists;
      few_rules = new.are_few;
      few_permits = is.few_permits;
      small_rule_numbers = new.have_small_numbers;
      small_permit_numbers = is.small_permit_numbers;
    }
