-- The database without anything is a database.
use Rattle.std.proofs.Common.{refl, ℕ, List, [], IsTrue}
use Rattle.std.specs.List.Sorted.{IsStrictlySortedBy}
use Rattle.calculus.specs.Name.{is_name}
use Rattle.calculus.specs.IsDatabase.{IsDatabase}

pub empty : (dba : List ℕ) → IsTrue (is_name dba) → IsDatabase (record { dba = dba; relations = []; indexes = []; views = []; rules = []; permits = [] })
unfolding IsStrictlySortedBy
empty dba named = record {
  dba_is_named = named;
  keys_are_named = refl;
  relations_ascend = tt;
  indexes_ascend = tt;
  views_ascend = tt;
  rules_ascend = tt;
  permits_ascend = tt;
  keys_differ = refl;
  structures_stand = refl;
  relation_attrs_stand = refl;
  relations_are_stored = refl;
  rows_ascend = tt;
  rows_fit = refl;
  indexes_stand = refl;
  view_infos_stand = refl;
  view_attrs_stand = refl;
  view_attrs_are_targets = refl;
  views_name_what_is_there = refl;
  views_have_levels = refl;
  view_queries_stand = refl;
  rules_stand = refl;
  permits_stand = refl;
  few_entries = refl;
  few_rows = refl;
  few_listed_variables = refl;
  few_variables = refl;
  few_expanded_variables = refl;
  small_views = refl;
  storable_views = refl;
  storable_rules = refl;
  storable_permits = refl;
  storable_lists = refl;
  few_rules = refl;
  few_permits = refl;
  small_rule_numbers = refl;
  small_permit_numbers = refl;
}
