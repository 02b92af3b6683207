-- Which changes a database may take, asked of it as it stands: a test for each kind of change.
use Rattle.std.specs.Prelude.{ℕ, Bool, not, ◌&&◌, ◌+◌, ◌-◌, nat_eq, nat_le, nat_lt, List, length}
use Rattle.std.specs.List.{list_all, list_any}
use Rattle.calculus.specs.declared.query.RelKey.{RelKey}
use Rattle.calculus.specs.declared.query.Query.{Query}
use Rattle.calculus.specs.declared.schema.Spec.{Spec}
use Rattle.calculus.specs.declared.schema.RelInfo.{RelInfo}
use Rattle.calculus.specs.declared.schema.Permit.{Permit}
use Rattle.calculus.specs.declared.schema.Rule.{Rule}
use Rattle.calculus.specs.declared.change.DbChange.{DbChange}
use Rattle.calculus.specs.declared.change.DbChange.TheVariants as change
use Rattle.calculus.specs.Keys.{key_of, same_key, has_key}
use Rattle.calculus.specs.Limits.{most_rows, most_permits, most_rules, greatest_number, most_expanded_variables, most_variables, greatest_size}
use Rattle.calculus.specs.Lists.{is_any, has_number, differ_by}
use Rattle.calculus.specs.Rows.{Row, has}
use Rattle.calculus.specs.Database.{Db, is_relation, is_there}
use Rattle.calculus.specs.Stored.{rows_at, attrs_at}
use Rattle.calculus.specs.QueryParts.{vars_of, targets_of}
use Rattle.calculus.specs.Sizes.{query_level, variables, expanded_variables, query_size}
use Rattle.calculus.specs.IsDatabase.{key_is_named, valid_structure, attrs_stand, are_stored, keys_stand, row_fits, valid_view_info, attrs_are_targets, vars_are_there, valid_query, valid_row_qual, valid_permit}
use Rattle.calculus.specs.Storable.{row_qual_is_storable, permit_lists_are_storable, query_is_storable}
use Rattle.calculus.specs.Change.{rows_differ, permit_numbers, rule_numbers}
use Rattle.quel_meaning.specs.Passing.{is_full, is_too_high}

-- something may be made under the key: it is named, is no catalogue's and is not in use, and there is room for one more entry
unfoldable pub key_is_free : Db → RelKey → Bool
key_is_free db key = key_is_named key && (not (is_there db key) && not (is_full db))

-- one more permit or rule may have the number: it is not too great, none of these is it, and there may be one more of them
unfoldable pub number_is_free : ℕ → List ℕ → ℕ → Bool
number_is_free most numbers n = nat_le n greatest_number && (not (has_number numbers n) && nat_lt (length numbers) most)

-- these numbers of permits or rules may go: the relation is there, each is one of those that stand, and none is listed twice
unfoldable pub numbers_may_go : Db → RelKey → List ℕ → List ℕ → Bool
numbers_may_go db rel standing numbers = is_relation db rel && (list_all (has_number standing) numbers && differ_by nat_eq numbers)

-- permits may go
unfoldable pub permits_may_go : Db → RelKey → List ℕ → Bool
permits_may_go db rel numbers = numbers_may_go db rel (permit_numbers db rel) numbers

-- rules may go
unfoldable pub rules_may_go : Db → RelKey → List ℕ → Bool
rules_may_go db rel numbers = numbers_may_go db rel (rule_numbers db rel) numbers

-- rows may go and come: the relation is there, each row that goes is one of its own and none that comes is, neither lists one twice, those that come fit, and afterwards there are no more than may be
unfoldable pub rows_are_fit : Db → RelKey → List Row → List Row → Bool
rows_are_fit db rel remove add =
    is_relation db rel
    && (list_all (has (rows_at db rel)) remove
    && (not (list_any (has (rows_at db rel)) add)
    && (rows_differ remove
    && (rows_differ add && (list_all (row_fits (attrs_at db rel)) add && nat_le (length (rows_at db rel) + length add - length remove) most_rows)))))

-- a relation may be made: its key is free, its structure and its attributes stand, these have domains, and its rows differ, fit and are no more than may be
unfoldable pub relation_is_fit : Db → RelInfo → List Row → Bool
relation_is_fit db info rows =
    key_is_free db info.key
    && (valid_structure info
    && (attrs_stand info.attrs && (are_stored info.attrs && (rows_differ rows && (list_all (row_fits info.attrs) rows && nat_le (length rows) most_rows)))))

-- a permit may be made: it stands on a relation, its qualification and what it lists can be stored, and it has a free number
unfoldable pub permit_is_fit : Db → RelKey → Permit → Bool
permit_is_fit db rel permit =
    valid_permit db rel permit
    && (row_qual_is_storable permit.qual && (permit_lists_are_storable permit && number_is_free most_permits (permit_numbers db rel) permit.number))

-- a rule may be made: it stands on a relation, its qualification can be stored, and it has a free number
unfoldable pub rule_is_fit : Db → RelKey → Rule → Bool
rule_is_fit db rel rule =
    is_relation db rel && (valid_row_qual db rel rule.qual && (row_qual_is_storable rule.qual && number_is_free most_rules (rule_numbers db rel) rule.number))

-- a relation may be stored so: it is there, and the structure with these keys would be one for its attributes
unfoldable pub structure_is_fit : Db → RelKey → Spec → List ℕ → Bool
structure_is_fit db rel to keys = is_relation db rel && valid_structure (record { key = rel; spec = to; attrs = attrs_at db rel; keys = keys })

-- an index may be made: its relation is there, it has key attributes of it, and its key is free
unfoldable pub index_is_fit : Db → RelKey → List ℕ → List ℕ → Bool
index_is_fit db base name keys = is_relation db base && (is_any keys && (keys_stand (attrs_at db base) keys && key_is_free db (key_of base.owner name)))

-- a view that is none of these names what stands under the key
unfoldable pub is_named_outside : Db → List RelKey → RelKey → Bool
is_named_outside db rels key = list_any (λ v. not (has_key rels v.info.key) && has_key (vars_of v.query) key) db.views

-- relations, views and indexes may go: each is there, none is listed twice, and no view that stays names one of them
unfoldable pub destroying_is_fit : Db → List RelKey → Bool
destroying_is_fit db rels = list_all (is_there db) rels && (differ_by same_key rels && not (list_any (is_named_outside db rels) rels))

-- the view is within the limits, once the views in it are expanded, and can be stored
unfoldable pub view_is_small : Db → Query → Bool
view_is_small db q =
    nat_le (length (vars_of q)) most_expanded_variables
    && (nat_le (variables q) most_variables
    && (nat_le (expanded_variables db q) most_expanded_variables && (nat_le (query_size db q) greatest_size && query_is_storable q)))

-- a view may be made: its key is free, it is kept as a view whose attributes are the targets of its query, what that names is there, its kinds fit, and its level and sizes are within the limits
unfoldable pub view_is_fit : Db → RelInfo → Query → Bool
view_is_fit db info q =
    key_is_free db info.key
    && (valid_view_info info
    && (attrs_stand info.attrs && (attrs_are_targets info.attrs (targets_of q) && (vars_are_there db q && (not (is_too_high (query_level db q)) && (valid_query db q && view_is_small db q))))))

-- the change may be applied
unfoldable pub change_is_fit : Db → DbChange → Bool
change_is_fit db (change.Rows rel remove add) = rows_are_fit db rel remove add
change_is_fit db (change.Create info rows) = relation_is_fit db info rows
change_is_fit db (change.Destroy rels) = destroying_is_fit db rels
change_is_fit db (change.Modify rel to keys) = structure_is_fit db rel to keys
change_is_fit db (change.Index base name keys) = index_is_fit db base name keys
change_is_fit db (change.View info query) = view_is_fit db info query
change_is_fit db (change.Permit rel permit) = permit_is_fit db rel permit
change_is_fit db (change.Rule rel rule) = rule_is_fit db rel rule
change_is_fit db (change.DropPermits rel numbers) = permits_may_go db rel numbers
change_is_fit db (change.DropRules rel numbers) = rules_may_go db rel numbers
