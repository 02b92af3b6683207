-- What a database is, as a test.
use Rattle.std.specs.Prelude.{Bool, true, ◌&&◌, nat_le, List, [], ◌∷◌, map, length, is_some}
use Rattle.std.specs.List.{list_all}
use Rattle.std.specs.Ordering.{is_lt}
use Rattle.std.specs.declared.cmp.Ordering.{Ordering}
use Rattle.calculus.specs.Name.{is_name}
use Rattle.calculus.specs.Limits.{most_variables, most_expanded_variables, greatest_size, most_permits, most_rules, greatest_number, most_entries, most_rows}
use Rattle.calculus.specs.Keys.{same_key, key_cmp, numbered_cmp}
use Rattle.calculus.specs.Lists.{differ_by}
use Rattle.calculus.specs.Value.{row_cmp}
use Rattle.calculus.specs.Database.{Db, is_relation, entries, rules_on, permits_on}
use Rattle.calculus.specs.QueryParts.{vars_of, targets_of}
use Rattle.calculus.specs.Sizes.{level_of, variables, expanded_variables, query_size}
use Rattle.calculus.specs.Storable.{query_is_storable, row_qual_is_storable, permit_lists_are_storable}
use Rattle.calculus.specs.IsDatabase.{key_is_named, valid_structure, attrs_stand, are_stored, relation_rows_fit, valid_index, valid_view_info, attrs_are_targets, vars_are_there, valid_query, valid_row_qual, valid_permit}

-- each item is smaller than every item behind it
abbrev pub ascends : {A : Type 0} → (A → A → Ordering) → List A → Bool
ascends cmp [] = true
ascends cmp (x ∷ xs) = list_all (λ y. is_lt (cmp x y)) xs && ascends cmp xs

-- the administrator, and relations, views and indexes, have names
abbrev pub is_named : Db → Bool
is_named db = is_name db.dba && list_all (λ i. key_is_named i.key) (entries db)

-- the lists ascend, and no key stands twice
abbrev pub is_ordered : Db → Bool
is_ordered db =
    ascends key_cmp (map (λ r. r.info.key) db.relations)
    && (ascends key_cmp (map (λ x. x.info.key) db.indexes)
    && (ascends key_cmp (map (λ v. v.info.key) db.views)
    && (ascends (numbered_cmp (λ r. r.number)) db.rules
    && (ascends (numbered_cmp (λ p. p.number)) db.permits && differ_by same_key (map (λ i. i.key) (entries db))))))

-- each relation has a structure, attributes with domains, and a set of rows that fit, and each index key attributes of one
abbrev pub relations_stand : Db → Bool
relations_stand db =
    list_all (λ r. valid_structure r.info) db.relations
    && (list_all (λ r. attrs_stand r.info.attrs) db.relations
    && (list_all (λ r. are_stored r.info.attrs) db.relations
    && (list_all (λ r. ascends row_cmp r.rows) db.relations && (list_all relation_rows_fit db.relations && list_all (valid_index db) db.indexes))))

-- each view has the attributes that its query gives it; what the query names is there and has a smaller level, and its kinds fit
abbrev pub views_stand : Db → Bool
views_stand db =
    list_all (λ v. valid_view_info v.info) db.views
    && (list_all (λ v. attrs_stand v.info.attrs) db.views
    && (list_all (λ v. attrs_are_targets v.info.attrs (targets_of v.query)) db.views
    && (list_all (λ v. vars_are_there db v.query) db.views
    && (list_all (λ v. is_some (level_of db v.info.key)) db.views && list_all (λ v. valid_query db v.query) db.views))))

-- rules stand on base relations, permits on those of the administrator
abbrev pub rules_and_permits_stand : Db → Bool
rules_and_permits_stand db = list_all (λ p. is_relation db p.0 && valid_row_qual db p.0 p.1.qual) db.rules && list_all (λ p. valid_permit db p.0 p.1) db.permits

-- what is stored as a tree can be
abbrev pub is_storable : Db → Bool
is_storable db =
    list_all (λ v. query_is_storable v.query) db.views
    && (list_all (λ p. row_qual_is_storable p.1.qual) db.rules
    && (list_all (λ p. row_qual_is_storable p.1.qual) db.permits && list_all (λ p. permit_lists_are_storable p.1) db.permits))

-- the limits on numbers of things hold
abbrev pub is_small : Db → Bool
is_small db =
    nat_le (length (entries db)) most_entries
    && (list_all (λ r. nat_le (length r.rows) most_rows) db.relations
    && (list_all (λ r. nat_le (length (rules_on db r.info.key)) most_rules) db.relations
    && (list_all (λ r. nat_le (length (permits_on db r.info.key)) most_permits) db.relations
    && (list_all (λ p. nat_le p.1.number greatest_number) db.rules && list_all (λ p. nat_le p.1.number greatest_number) db.permits))))

-- the limits on views hold
abbrev pub has_small_views : Db → Bool
has_small_views db =
    list_all (λ v. nat_le (length (vars_of v.query)) most_expanded_variables) db.views
    && (list_all (λ v. nat_le (variables v.query) most_variables) db.views
    && (list_all (λ v. nat_le (expanded_variables db v.query) most_expanded_variables) db.views && list_all (λ v. nat_le (query_size db v.query) greatest_size) db.views))

-- it is a database
unfoldable pub is_database : Db → Bool
is_database db = list_all (λ test. test db) (is_named ∷ is_ordered ∷ relations_stand ∷ views_stand ∷ rules_and_permits_stand ∷ is_storable ∷ is_small ∷ has_small_views ∷ [])
