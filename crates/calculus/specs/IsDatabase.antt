-- What a database is: every fact by its name.
use Rattle.std.specs.Prelude.{ℕ, Bool, true, false, not, ◌&&◌, nat_eq, nat_le, nat_lt, bytes_eq, IsTrue, List, [], ◌∷◌, map, length, sum_by, Option, Some, None, is_some}
use Rattle.std.specs.List.{AllByRecursion, list_all}
use Rattle.std.specs.List.Sorted.{IsStrictlySortedBy}
use Rattle.calculus.specs.declared.value.Value.{Value}
use Rattle.calculus.specs.declared.value.Value.TheVariants.{Int, Text}
use Rattle.calculus.specs.declared.value.Domain.{Domain}
use Rattle.calculus.specs.declared.value.Domain.TheVariants.{I1, I2, I4, C}
use Rattle.calculus.specs.declared.value.Kind.{Kind}
use Rattle.calculus.specs.declared.value.Kind.TheVariants.{Of, Wide}
use Rattle.calculus.specs.declared.query.RelKey.{RelKey}
use Rattle.calculus.specs.declared.query.QQual.{QQual}
use Rattle.calculus.specs.declared.query.Target.{Target}
use Rattle.calculus.specs.declared.query.Query.{Query}
use Rattle.calculus.specs.declared.schema.Attr.{Attr}
use Rattle.calculus.specs.declared.schema.RelInfo.{RelInfo}
use Rattle.calculus.specs.declared.schema.Permit.{Permit}
use Rattle.calculus.specs.Structures.{is_structure, is_keyed, is_view, is_index}
use Rattle.calculus.specs.Name.{is_name}
use Rattle.calculus.specs.Text.{is_text}
use Rattle.calculus.specs.Value.{fits}
use Rattle.calculus.specs.Rows.{Row, Ascends}
use Rattle.calculus.specs.Limits.{most_attributes, most_row_bytes, most_keys, most_variables, most_expanded_variables, greatest_size, most_permits, most_rules, greatest_number, most_entries, most_rows}
use Rattle.calculus.specs.Keys.{same_key, key_cmp, numbered_cmp}
use Rattle.calculus.specs.Lists.{is_any, differ_by}
use Rattle.calculus.specs.Kinds.{kind_of, kinds_fit}
use Rattle.calculus.specs.Database.{Db, Relation, Index, is_relation, entries, rules_on, permits_on}
use Rattle.calculus.specs.Catalogue.{is_catalogue_name}
use Rattle.calculus.specs.Stored.{range_at, kinds_at, attrs_at}
use Rattle.calculus.specs.QueryParts.{vars_of, targets_of, qual_of}
use Rattle.calculus.specs.Sizes.{level_of, variables, expanded_variables, query_size}
use Rattle.calculus.specs.Storable.{query_is_storable, row_qual_is_storable, permit_lists_are_storable}

-- ---- names and attributes

-- the key has a name for its owner and one of its own, which is no catalogue's
abbrev pub key_is_named : RelKey → Bool
key_is_named key = is_name key.owner && (is_name key.name && not (is_catalogue_name key.name))

-- a domain: of texts one whose width is 1 to 255
abbrev pub is_domain : Domain → Bool
is_domain I1 = true
is_domain I2 = true
is_domain I4 = true
is_domain (C width) = nat_le 1 width && nat_le width 255

-- a domain, or whole numbers of 64 bits
abbrev pub is_kind : Kind → Bool
is_kind Wide = true
is_kind (Of domain) = is_domain domain

-- the kind is a domain
abbrev pub is_stored_kind : Kind → Bool
is_stored_kind Wide = false
is_stored_kind (Of domain) = is_domain domain

-- the bytes that a value of the kind takes in a row
abbrev pub kind_bytes : Kind → ℕ
kind_bytes Wide = 8
kind_bytes (Of I1) = 1
kind_bytes (Of I2) = 2
kind_bytes (Of I4) = 4
kind_bytes (Of (C width)) = width

-- attributes: at least one and at most the limit, with names that differ, of kinds, and together no wider than a row may be
abbrev pub attrs_stand : List Attr → Bool
attrs_stand attrs =
    is_any attrs
    && (nat_le (length attrs) most_attributes
    && (list_all (λ a. is_name a.name) attrs
    && (differ_by bytes_eq (map (λ a. a.name) attrs)
    && (list_all (λ a. is_kind a.kind) attrs && nat_le (sum_by (λ a. kind_bytes a.kind) attrs) most_row_bytes))))

-- key attributes: places of attributes, all different, at most the limit
abbrev pub keys_stand : List Attr → List ℕ → Bool
keys_stand attrs keys = list_all (λ k. nat_lt k (length attrs)) keys && (differ_by nat_eq keys && nat_le (length keys) most_keys)

-- ---- relations

-- the structure of a base relation: one without keys, or one whose rows lie by at least one key attribute
abbrev pub valid_structure : RelInfo → Bool
valid_structure info = elim (is_keyed info.spec) [
  | true ↦ is_any info.keys && keys_stand info.attrs info.keys
  | false ↦ is_structure info.spec && not (is_any info.keys)
]

-- the attributes of a base relation have domains
abbrev pub are_stored : List Attr → Bool
are_stored attrs = list_all (λ a. is_stored_kind a.kind) attrs

-- the value is one of the kind; a text is one in the language's sense
abbrev pub value_fits : Value → Kind → Bool
value_fits v Wide = false
value_fits (Int n) (Of domain) = fits (Int n) domain
value_fits (Text t) (Of domain) = fits (Text t) domain && is_text t

-- the row has a value for each attribute, and each fits
abbrev pub row_fits : List Attr → Row → Bool
row_fits [] [] = true
row_fits [] (v ∷ vs) = false
row_fits (a ∷ attrs) [] = false
row_fits (a ∷ attrs) (v ∷ vs) = value_fits v a.kind && row_fits attrs vs

-- the rows of a relation fit
abbrev pub relation_rows_fit : Relation → Bool
relation_rows_fit r = list_all (row_fits r.info.attrs) r.rows

-- ---- indexes

-- an index: no attributes of its own, and at least one key attribute of a base relation that is there
abbrev pub valid_index : Db → Index → Bool
valid_index db x =
    is_index x.info.spec && (is_relation db x.base && (not (is_any x.info.attrs) && (is_any x.info.keys && keys_stand (attrs_at db x.base) x.info.keys)))

-- ---- views

-- the same domain
abbrev pub same_domain : Domain → Domain → Bool
same_domain I1 d = elim d [ I1 ↦ true | I2 ↦ false | I4 ↦ false | C n ↦ false ]
same_domain I2 d = elim d [ I1 ↦ false | I2 ↦ true | I4 ↦ false | C n ↦ false ]
same_domain I4 d = elim d [ I1 ↦ false | I2 ↦ false | I4 ↦ true | C n ↦ false ]
same_domain (C m) d = elim d [ I1 ↦ false | I2 ↦ false | I4 ↦ false | C n ↦ nat_eq m n ]

-- the same kind
abbrev pub same_kind : Kind → Kind → Bool
same_kind Wide Wide = true
same_kind Wide (Of e) = false
same_kind (Of d) Wide = false
same_kind (Of d) (Of e) = same_domain d e

-- a view is kept as a view, and has no keys
abbrev pub valid_view_info : RelInfo → Bool
valid_view_info info = is_view info.spec && not (is_any info.keys)

-- the attributes have the names and kinds of the targets, one by one
abbrev pub attrs_are_targets : List Attr → List Target → Bool
attrs_are_targets [] [] = true
attrs_are_targets [] (t ∷ ts) = false
attrs_are_targets (a ∷ attrs) [] = false
attrs_are_targets (a ∷ attrs) (t ∷ ts) = bytes_eq a.name t.name && (same_kind a.kind t.kind && attrs_are_targets attrs ts)

-- the kinds of the attributes of each variable
abbrev pub var_kinds : Db → Query → List (List Kind)
var_kinds db q = map (kinds_at db) (vars_of q)

-- the kind is there and is this one
abbrev pub has_kind : Option Kind → Kind → Bool
has_kind None kind = false
has_kind (Some k) kind = same_kind k kind

-- the kinds in a query fit and each target is of its kind; so places are in range and there is no aggregate
abbrev pub valid_query : Db → Query → Bool
valid_query db q = list_all (λ t. has_kind (kind_of t.term (var_kinds db q)) t.kind) (targets_of q) && kinds_fit (qual_of q) (var_kinds db q)

-- each variable ranges over a base relation, a view or a catalogue that is there
abbrev pub vars_are_there : Db → Query → Bool
vars_are_there db q = list_all (λ key. is_some (range_at db key)) (vars_of q)

-- ---- rules and permits

-- the kinds in a qualification over a row of the relation fit; so it names attributes of that row alone, and there is no aggregate
abbrev pub valid_row_qual : Db → RelKey → QQual → Bool
valid_row_qual db rel q = kinds_fit q (kinds_at db rel ∷ [])

-- the user whom a permit names has a name
abbrev pub user_is_named : Option (List ℕ) → Bool
user_is_named None = true
user_is_named (Some user) = is_name user

-- the attributes of a permit are places of attributes of its relation
abbrev pub permit_attrs_stand : Db → RelKey → List ℕ → Bool
permit_attrs_stand db rel attrs = list_all (λ a. nat_lt a (length (attrs_at db rel))) attrs

-- a permit stands on a base relation of the administrator's
abbrev pub valid_permit : Db → RelKey → Permit → Bool
valid_permit db rel permit =
    is_relation db rel && (bytes_eq rel.owner db.dba && (user_is_named permit.user && (permit_attrs_stand db rel permit.attrs && valid_row_qual db rel permit.qual)))

-- ---- the facts

-- a database
pub record IsDatabase (db : Db) : Type 0 where
  -- its administrator has a name, and so have relations, views and indexes and their owners; none has a catalogue's
  pub dba_is_named : IsTrue (is_name db.dba)
  pub keys_are_named : IsTrue (list_all (λ i. key_is_named i.key) (entries db))
  -- the lists ascend by key, rules and permits by relation and then by number; no key stands twice
  pub relations_ascend : IsStrictlySortedBy key_cmp (map (λ r. r.info.key) db.relations)
  pub indexes_ascend : IsStrictlySortedBy key_cmp (map (λ x. x.info.key) db.indexes)
  pub views_ascend : IsStrictlySortedBy key_cmp (map (λ v. v.info.key) db.views)
  pub rules_ascend : IsStrictlySortedBy (numbered_cmp (λ r. r.number)) db.rules
  pub permits_ascend : IsStrictlySortedBy (numbered_cmp (λ p. p.number)) db.permits
  pub keys_differ : IsTrue (differ_by same_key (map (λ i. i.key) (entries db)))
  -- each relation has a structure, attributes with domains, and a set of rows that fit
  pub structures_stand : IsTrue (list_all (λ r. valid_structure r.info) db.relations)
  pub relation_attrs_stand : IsTrue (list_all (λ r. attrs_stand r.info.attrs) db.relations)
  pub relations_are_stored : IsTrue (list_all (λ r. are_stored r.info.attrs) db.relations)
  pub rows_ascend : AllByRecursion (λ r. Ascends r.rows) db.relations
  pub rows_fit : IsTrue (list_all relation_rows_fit db.relations)
  -- each index has key attributes of a base relation
  pub indexes_stand : IsTrue (list_all (valid_index db) db.indexes)
  -- each view has the attributes that its query gives it; what the query names is there and has a smaller level, and its kinds fit
  pub view_infos_stand : IsTrue (list_all (λ v. valid_view_info v.info) db.views)
  pub view_attrs_stand : IsTrue (list_all (λ v. attrs_stand v.info.attrs) db.views)
  pub view_attrs_are_targets : IsTrue (list_all (λ v. attrs_are_targets v.info.attrs (targets_of v.query)) db.views)
  pub views_name_what_is_there : IsTrue (list_all (λ v. vars_are_there db v.query) db.views)
  pub views_have_levels : IsTrue (list_all (λ v. is_some (level_of db v.info.key)) db.views)
  pub view_queries_stand : IsTrue (list_all (λ v. valid_query db v.query) db.views)
  -- rules stand on base relations, permits on those of the administrator
  pub rules_stand : IsTrue (list_all (λ p. is_relation db p.0 && valid_row_qual db p.0 p.1.qual) db.rules)
  pub permits_stand : IsTrue (list_all (λ p. valid_permit db p.0 p.1) db.permits)
  -- the limits hold, and what is stored as a tree can be
  pub few_entries : IsTrue (nat_le (length (entries db)) most_entries)
  pub few_rows : IsTrue (list_all (λ r. nat_le (length r.rows) most_rows) db.relations)
  pub few_listed_variables : IsTrue (list_all (λ v. nat_le (length (vars_of v.query)) most_expanded_variables) db.views)
  pub few_variables : IsTrue (list_all (λ v. nat_le (variables v.query) most_variables) db.views)
  pub few_expanded_variables : IsTrue (list_all (λ v. nat_le (expanded_variables db v.query) most_expanded_variables) db.views)
  pub small_views : IsTrue (list_all (λ v. nat_le (query_size db v.query) greatest_size) db.views)
  pub storable_views : IsTrue (list_all (λ v. query_is_storable v.query) db.views)
  pub storable_rules : IsTrue (list_all (λ p. row_qual_is_storable p.1.qual) db.rules)
  pub storable_permits : IsTrue (list_all (λ p. row_qual_is_storable p.1.qual) db.permits)
  pub storable_lists : IsTrue (list_all (λ p. permit_lists_are_storable p.1) db.permits)
  pub few_rules : IsTrue (list_all (λ r. nat_le (length (rules_on db r.info.key)) most_rules) db.relations)
  pub few_permits : IsTrue (list_all (λ r. nat_le (length (permits_on db r.info.key)) most_permits) db.relations)
  pub small_rule_numbers : IsTrue (list_all (λ p. nat_le p.1.number greatest_number) db.rules)
  pub small_permit_numbers : IsTrue (list_all (λ p. nat_le p.1.number greatest_number) db.permits)
