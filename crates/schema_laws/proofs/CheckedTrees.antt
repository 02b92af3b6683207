-- What refuses a statement before any row is looked at, and its tree, are told by the schema.
use Rattle.std.proofs.Common.{◌≡◌, refl, ap, ◌∙◌, ℕ, ◌+◌, List, [], ◌∷◌, ◌++◌, map, length, Option, Some, None}
use Rattle.std.specs.Prelude.{Bool, true, false, ◌&&◌, ◌||◌, not, nat_le, nat_lt, is_some, slice_get, flat_map, filter_map, option_map, sum_by, take, drop, Result, Ok, Err, zip}
use Rattle.std.specs.List.{list_any, list_all}
use Rattle.calculus.specs.declared.query.QQual.{QQual}
use Rattle.calculus.specs.declared.query.Query.{Query}
use Rattle.calculus.specs.declared.query.RelKey.{RelKey}
use Rattle.calculus.specs.declared.request.Asked.{Asked}
use Rattle.calculus.specs.declared.request.CopyForm.{CopyForm}
use Rattle.calculus.specs.declared.request.Update.{Update}
use Rattle.calculus.specs.declared.request.UpdateOp.{UpdateOp}
use Rattle.calculus.specs.declared.request.UpdateOp.TheVariants as op
use Rattle.calculus.specs.declared.request.Utility.TheVariants as utility
use Rattle.calculus.specs.declared.request.Checked.{Checked}
use Rattle.calculus.specs.declared.request.Checked.TheVariants as checked
use Rattle.calculus.specs.declared.schema.RelInfo.{RelInfo}
use Rattle.calculus.specs.declared.statement.AggTerm.{AggTerm}
use Rattle.calculus.specs.declared.statement.Item.{Item}
use Rattle.calculus.specs.declared.statement.Item.TheVariants as item
use Rattle.calculus.specs.declared.statement.Statement.{Statement}
use Rattle.calculus.specs.declared.statement.Statement.TheVariants as statement
use Rattle.calculus.specs.declared.value.Kind.{Kind}
use Rattle.calculus.specs.Storable.{row_qual_is_small}
use Rattle.calculus.specs.Change.{permit_numbers, rule_numbers}
use Rattle.calculus.specs.declared.value.Kind.TheVariants.{Of}
use Rattle.calculus.specs.Keys.{key_of, same_key}
use Rattle.calculus.specs.Kinds.{comparable, is_text_kind, kinds_fit}
use Rattle.calculus.specs.Limits.{most_permits, most_rules, most_listed_attributes, greatest_size, most_entries, most_expanded_variables, most_levels, most_variables}
use Rattle.calculus.specs.Lists.{differ_by, is_any}
use Rattle.calculus.specs.Who.{Who, Asker, AsUser}
use Rattle.calculus.specs.Database.{Db, entries, is_there}
use Rattle.calculus.specs.Stored.{kinds_at, attrs_in}
use Rattle.calculus.specs.QueryParts.{vars_of, targets_of, qual_of, query_aggregates}
use Rattle.calculus.specs.Sizes.{Known, measure_of, source_variables}
use Rattle.calculus.specs.IsDatabase.{has_kind, var_kinds, valid_row_qual}
use Rattle.calculus.specs.Replacement.{first_refusal, wanted_kinds}
use Rattle.calculus.specs.Schema.{schema_of}
use Rattle.calculus.specs.Tree.{query}
use Rattle.calculus.specs.Catalogue.{is_catalogue_name}
use Rattle.calculus.specs.TreeLevels.{query_levels}
use Rattle.quel_meaning.specs.Planned.{is_past_limit}
use Rattle.quel_meaning.specs.Structures.{structure_keys}
use Rattle.quel_meaning.specs.Ranges.{Ranges, range_of}
use Rattle.quel_meaning.specs.Scope.{Scope, named, ranged, entry_named, key_found, place_found}
use Rattle.quel_meaning.specs.WrittenParts.{text_aggregates, aggregate_vars, attributes_in_qual}
use Rattle.quel_meaning.specs.Naming.{Mention, Variable, AttrOf, Relation, AttrIn, Entry, refusal_in, no_refusal, attr_refusal, variable_refusal, mention_refusal, dotted, attr_names, item_mentions, query_mentions, mentions, first_number, name_refusal, new_title}
use Rattle.quel_meaning.specs.Aggregates.{holds_another, is_one_plain, aggregate_allowed, keeps_a_text, aggregates_allowed}
use Rattle.quel_meaning.specs.KindsInQueries.{kinds_fit_in_query, query_fits, assignments_fit}
use Rattle.quel_meaning.specs.WrittenQuery.{query_of}
use Rattle.quel_meaning.specs.Passing.{has_too_many, is_full, is_too_high, is_too_large, is_taken, listed_variables, is_too_wide}
use Rattle.quel_meaning.specs.StatementUpdate.{append_of, replace_of, delete_of, into_of, changing, titles_of}
use Rattle.quel_meaning.specs.Causes.{Causes, refusals_by, refusals, print_refusals, into_refusals, changed_refusals, update_refusals, delete_refusals, view_refusals, row_refusals, sorts_by_titles, target_kinds, made_kinds, repeats, is_binary, is_binary_text}
use Rattle.quel_meaning.specs.Resolved.{tree_by, tree_of, resolved, help_on_all, help_on, whole, copy_col}
use Rattle.quel_meaning.specs.Meaning.{checked_permitted, tree_if_permitted, checked_tree_by, checked_tree, permitted_tree}
use Rattle.schema_laws.proofs.Alike.{info_alike, kinds_alike, is_there_alike, entries_alike}
use Rattle.schema_laws.proofs.Known.{known_alike, size_alike, query_level_alike, query_permitted_alike, update_permitted_alike}
use Rattle.schema_laws.proofs.Scopes.{bare_scope, named_alike, ranged_alike, entry_named_alike, kind_alike, kinds_fit_alike, query_alike}

-- ---- the first name that isn't what it has to be

variable_alike : (s : Scope) (of_found : RelInfo → Option ℕ) (var : List ℕ) → variable_refusal (bare_scope s) of_found var ≡ variable_refusal s of_found var
variable_alike s of_found var = λ i. elim (range_of s.ranges var) [ None ↦ Some 11 | Some key ↦ refusal_in of_found (info_alike s.db key i) ]

mention_alike : (s : Scope) (m : Mention) → mention_refusal (bare_scope s) m ≡ mention_refusal s m
mention_alike s (Variable var) = variable_alike s no_refusal var
mention_alike s (AttrOf var attr) = variable_alike s (attr_refusal attr) var
mention_alike s (Relation name) = ap (refusal_in no_refusal) (named_alike s name)
mention_alike s (AttrIn name attr) = ap (refusal_in (attr_refusal attr)) (named_alike s name)
mention_alike s (Entry name) = ap (λ e. elim e [ None ↦ Some 10 | Some key ↦ None ]) (entry_named_alike s name)

item_mentions_alike : (s : Scope) (titled : List ℕ → List Mention) (it : Item) → item_mentions (bare_scope s) titled it ≡ item_mentions s titled it
item_mentions_alike s titled (item.Set name term) = refl
item_mentions_alike s titled (item.Attr var attr) = refl
item_mentions_alike s titled (item.All var) = λ i. Variable var ∷ flat_map titled (map (λ a. a.name) (attrs_in (ranged_alike s var i)))

mentions_alike : (s : Scope) (stmt : Statement) → mentions (bare_scope s) stmt ≡ mentions s stmt
unfolding mentions
mentions_alike s (statement.Range var rel) = refl
mentions_alike s (statement.Retrieve into items qual sort) = λ i. flat_map (λ it. item_mentions_alike s new_title it i) items ++ dotted (attributes_in_qual qual)
mentions_alike s (statement.Append rel items qual) = λ i. Relation rel ∷ (flat_map (λ it. item_mentions_alike s (λ a. AttrIn rel a ∷ []) it i) items ++ dotted (attributes_in_qual qual))
mentions_alike s (statement.Replace var items qual) = λ i. Variable var ∷ (flat_map (λ it. item_mentions_alike s (λ a. AttrOf var a ∷ []) it i) items ++ dotted (attributes_in_qual qual))
mentions_alike s (statement.Delete var qual) = refl
mentions_alike s (statement.Create rel attrs) = refl
mentions_alike s (statement.Destroy rels) = refl
mentions_alike s (statement.DropPermits rel numbers) = refl
mentions_alike s (statement.DropRules rel numbers) = refl
mentions_alike s (statement.Modify rel to keys) = refl
mentions_alike s (statement.Index base name keys) = refl
mentions_alike s (statement.Print rels) = refl
mentions_alike s (statement.Help None) = refl
mentions_alike s (statement.Help (Some rel)) = refl
mentions_alike s (statement.Copy rel columns from file) = refl
mentions_alike s (statement.View name items qual) = λ i. flat_map (λ it. item_mentions_alike s new_title it i) items ++ dotted (attributes_in_qual qual)
mentions_alike s (statement.Permit ops var attrs user qual) = refl
mentions_alike s (statement.Rule var qual) = refl

name_alike : (s : Scope) (stmt : Statement) → name_refusal (bare_scope s) stmt ≡ name_refusal s stmt
unfolding name_refusal
name_alike s stmt = λ i. first_number (map (λ m. mention_alike s m i) (mentions_alike s stmt i))

-- ---- the causes that count behind the names

one_plain_alike : (s : Scope) (vars : List (List ℕ)) → is_one_plain (bare_scope s) vars ≡ is_one_plain s vars
one_plain_alike s [] = refl
one_plain_alike s (var ∷ []) = λ i. nat_le (known_alike s.db i (key_found (ranged_alike s var i))).variables 1
one_plain_alike s (var ∷ other ∷ more) = refl

stands_alike : (s : Scope) (stmt : Statement) → aggregates_allowed (bare_scope s) stmt ≡ aggregates_allowed s stmt
unfolding aggregates_allowed aggregate_allowed
stands_alike s stmt = λ i. elim (keeps_a_text stmt) [
  | true ↦ not (is_any (text_aggregates stmt))
  | false ↦ list_all (λ g. not (holds_another g) && one_plain_alike s (aggregate_vars g) i) (text_aggregates stmt)
]

var_kinds_alike : (db : Db) (q : Query) → var_kinds (schema_of db) q ≡ var_kinds db q
var_kinds_alike db q = λ i. map (λ key. kinds_alike db key i) (vars_of q)

query_fits_alike : (db : Db) (q : Query) → query_fits (schema_of db) q ≡ query_fits db q
unfolding query_fits
query_fits_alike db q = λ i.
    list_all (λ t. has_kind (kind_alike db t.term (var_kinds_alike db q i) i) t.kind) (targets_of q) && kinds_fit_alike db (qual_of q) (var_kinds_alike db q i) i

wanted_alike : (db : Db) (u : Update) (does : UpdateOp) → wanted_kinds (schema_of db) (record u { op = does }) ≡ wanted_kinds db (record u { op = does })
wanted_alike db u op.Append = λ i. map (slice_get (kinds_alike db u.rel i)) u.places
wanted_alike db u op.Replace = λ i. map (slice_get (kinds_alike db u.rel i)) u.places
wanted_alike db u op.Delete = λ i. map (slice_get (kinds_alike db u.rel i)) u.places
wanted_alike db u op.Into = refl

assignments_alike : (db : Db) (u : Update) → assignments_fit (schema_of db) u ≡ assignments_fit db u
unfolding assignments_fit
assignments_alike db u = λ i. list_all (λ p. comparable (Some p.0.kind) p.1) (zip (targets_of u.query) (wanted_alike db u u.op i))

too_many_alike : (db : Db) (q : Query) → has_too_many (schema_of db) q ≡ has_too_many db q
unfolding has_too_many
too_many_alike db q = λ i.
    nat_lt most_variables (listed_variables q)
    || nat_lt most_expanded_variables
    (sum_by (λ key. (known_alike db i key).variables) (vars_of q) + sum_by (λ g. source_variables (known_alike db i) g.source) (query_aggregates q))

pub full_alike : (db : Db) → is_full (schema_of db) ≡ is_full db
unfolding is_full
full_alike db = ap (λ (es : List RelInfo). nat_le most_entries (length es)) (entries_alike db)

taken_alike : (db : Db) (user name : List ℕ) → is_taken (schema_of db) user name ≡ is_taken db user name
unfolding is_taken
taken_alike db user name = ap (λ b. b || is_catalogue_name name) (is_there_alike db (key_of user name))

large_alike : (db : Db) (q : Query) → is_too_large (schema_of db) q ≡ is_too_large db q
unfolding is_too_large
large_alike db q = λ i.
    nat_lt greatest_size (size_alike db q i)
    || (is_too_high (query_level_alike db q i) || nat_lt most_levels (query_levels q))

append_alike : (s : Scope) (rel : List ℕ) (q : Query) → append_of (bare_scope s) rel q ≡ append_of s rel q
unfolding append_of
append_alike s rel q = λ i. changing op.Append 255 (named_alike s rel i) q

replace_alike : (s : Scope) (var : List ℕ) (q : Query) → replace_of (bare_scope s) var q ≡ replace_of s var q
unfolding replace_of
replace_alike s var q = λ i. changing op.Replace 0 (ranged_alike s var i) q

delete_alike : (s : Scope) (var : List ℕ) (q : Query) → delete_of (bare_scope s) var q ≡ delete_of s var q
unfolding delete_of
delete_alike s var q = λ i. changing op.Delete 0 (ranged_alike s var i) q

print_refusals_alike : (s : Scope) (stand : Bool) (sort : List (List ℕ × Bool)) (q : Query) → print_refusals (bare_scope s) stand sort q ≡ print_refusals s stand sort q
print_refusals_alike s stand sort q = λ i.
    (18, not stand)
    ∷ (14, too_many_alike s.db q i)
    ∷ (13, not (query_fits_alike s.db q i)) ∷ (12, not (sorts_by_titles (targets_of q) sort)) ∷ (16, is_too_wide (target_kinds q)) ∷ []

into_refusals_alike : (s : Scope) (stand : Bool) (name : List ℕ) (sort : List (List ℕ × Bool)) (q : Query)
    → into_refusals (bare_scope s) stand name sort q ≡ into_refusals s stand name sort q
into_refusals_alike s stand name sort q = λ i.
    (18, not stand)
    ∷ (14, too_many_alike s.db q i || full_alike s.db i)
    ∷ (17, repeats (titles_of q))
    ∷ (13, not (query_fits_alike s.db q i))
    ∷ (12, not (sorts_by_titles (targets_of q) sort)) ∷ (16, is_too_wide (made_kinds q)) ∷ (15, taken_alike s.db s.user name i) ∷ []

changed_refusals_alike : (s : Scope) (u : Update) → changed_refusals (bare_scope s) u ≡ changed_refusals s u
unfolding schema_of
changed_refusals_alike s u = refl

update_refusals_alike : (s : Scope) (stand : Bool) (u : Update) → update_refusals (bare_scope s) stand u ≡ update_refusals s stand u
update_refusals_alike s stand u = λ i.
    (18, not stand)
    ∷ (14, too_many_alike s.db u.query i)
    ∷ (17, repeats (titles_of u.query))
    ∷ (13, not (query_fits_alike s.db u.query i && assignments_alike s.db u i)) ∷ changed_refusals_alike s u i

delete_refusals_alike : (s : Scope) (stand : Bool) (u : Update) → delete_refusals (bare_scope s) stand u ≡ delete_refusals s stand u
delete_refusals_alike s stand u = λ i.
    (18, not stand) ∷ (14, too_many_alike s.db u.query i) ∷ (13, not (query_fits_alike s.db u.query i)) ∷ changed_refusals_alike s u i

view_refusals_alike : (s : Scope) (stand : Bool) (name : List ℕ) (q : Query) → view_refusals (bare_scope s) stand name q ≡ view_refusals s stand name q
view_refusals_alike s stand name q = λ i.
    (18, not stand)
    ∷ (14, too_many_alike s.db q i || (full_alike s.db i || large_alike s.db q i))
    ∷ (17, repeats (titles_of q))
    ∷ (13, not (query_fits_alike s.db q i)) ∷ (16, is_too_wide (target_kinds q)) ∷ (15, taken_alike s.db s.user name i) ∷ []

row_refusals_alike : (s : Scope) (stand : Bool) (info : Option RelInfo) (no_room : Bool) (q : Query)
    → row_refusals (bare_scope s) stand info no_room q ≡ row_refusals s stand info no_room q
row_refusals_alike s stand info no_room q = λ i.
    (18, not stand)
    ∷ (14, nat_lt 1 (length (vars_of q)) || (no_room || not (row_qual_is_small (qual_of q))))
    ∷ (13, not (kinds_fit (qual_of q) (kinds_alike s.db (key_found info) i ∷ []))) ∷ []

pub permit_numbers_alike : (db : Db) (rel : RelKey) → permit_numbers (schema_of db) rel ≡ permit_numbers db rel
unfolding schema_of
permit_numbers_alike db rel = refl

pub rule_numbers_alike : (db : Db) (rel : RelKey) → rule_numbers (schema_of db) rel ≡ rule_numbers db rel
unfolding schema_of
rule_numbers_alike db rel = refl

binary_alike : (s : Scope) (rel : List ℕ) (c : List ℕ × CopyForm) → is_binary_text (bare_scope s) (named (bare_scope s) rel) c ≡ is_binary_text s (named s rel) c
binary_alike s rel c = λ i.
    is_binary c.1 && is_text_kind (slice_get (kinds_alike s.db (key_found (named_alike s rel i)) i) (place_found (named_alike s rel i) c.0))

refusals_by_alike : (s : Scope) (stand : Bool) (q : Query) (stmt : Statement) → refusals_by (bare_scope s) stand q stmt ≡ refusals_by s stand q stmt
refusals_by_alike s stand q (statement.Range var rel) = refl
refusals_by_alike s stand q (statement.Retrieve None items qual sort) = print_refusals_alike s stand sort q
refusals_by_alike s stand q (statement.Retrieve (Some name) items qual sort) = into_refusals_alike s stand name sort q
refusals_by_alike s stand q (statement.Append rel items qual) = λ i. update_refusals_alike s stand (append_alike s rel q i) i
refusals_by_alike s stand q (statement.Replace var items qual) = λ i. update_refusals_alike s stand (replace_alike s var q i) i
refusals_by_alike s stand q (statement.Delete var qual) = λ i. delete_refusals_alike s stand (delete_alike s var q i) i
refusals_by_alike s stand q (statement.Create rel attrs) = λ i.
    (14, full_alike s.db i)
    ∷ (17, repeats (map (λ a. a.0) attrs)) ∷ (16, is_too_wide (map (λ a. Of a.1) attrs)) ∷ (15, taken_alike s.db s.user rel i) ∷ []
refusals_by_alike s stand q (statement.Destroy rels) = λ i. (17, not (differ_by same_key (filter_map (λ name. entry_named_alike s name i) rels))) ∷ []
refusals_by_alike s stand q (statement.DropPermits rel numbers) = refl
refusals_by_alike s stand q (statement.DropRules rel numbers) = refl
refusals_by_alike s stand q (statement.Modify rel to keys) = refl
refusals_by_alike s stand q (statement.Index base name keys) = λ i. (17, repeats keys) ∷ (14, full_alike s.db i) ∷ (15, taken_alike s.db s.user name i) ∷ []
refusals_by_alike s stand q (statement.Print rels) = refl
refusals_by_alike s stand q (statement.Help rel) = refl
refusals_by_alike s stand q (statement.Copy rel columns from file) = λ i.
    (17, repeats (map (λ c. c.0) columns)) ∷ (13, list_any (λ c. binary_alike s rel c i) columns) ∷ []
refusals_by_alike s stand q (statement.View name items qual) = view_refusals_alike s stand name q
refusals_by_alike s stand q (statement.Permit ops var attrs user qual) = λ i.
    row_refusals_alike s stand (ranged_alike s var i)
    (is_past_limit most_permits (permit_numbers_alike s.db (key_found (ranged_alike s var i)) i) || nat_lt most_listed_attributes (length attrs)) q i
refusals_by_alike s stand q (statement.Rule var qual) = λ i.
    row_refusals_alike s stand (ranged_alike s var i) (is_past_limit most_rules (rule_numbers_alike s.db (key_found (ranged_alike s var i)) i)) q i

refusals_alike : (s : Scope) (stmt : Statement) → refusals (bare_scope s) stmt ≡ refusals s stmt
unfolding refusals
refusals_alike s stmt = λ i. refusals_by_alike s (stands_alike s stmt i) (query_alike s stmt i) stmt i

-- ---- the tree

keys_named : (s : Scope) (rel : List ℕ) → key_found (named (bare_scope s) rel) ≡ key_found (named s rel)
keys_named s rel = ap key_found (named_alike s rel)

places_named : (s : Scope) (rel : List ℕ) (keys : List (List ℕ)) → map (place_found (named (bare_scope s) rel)) keys ≡ map (place_found (named s rel)) keys
places_named s rel keys = λ i. map (place_found (named_alike s rel i)) keys

help_all_alike : (s : Scope) → help_on_all (bare_scope s) ≡ help_on_all s
unfolding schema_of
help_all_alike s = refl

help_alike : (s : Scope) (info : Option RelInfo) → help_on (bare_scope s) info ≡ help_on s info
unfolding schema_of
help_alike s info = refl

into_alike : (s : Scope) (name : List ℕ) (q : Query) → into_of (bare_scope s) name q ≡ into_of s name q
unfolding into_of
into_alike s name q = refl

tree_by_alike : (s : Scope) (q : Query) (stmt : Statement) → tree_by (bare_scope s) q stmt ≡ tree_by s q stmt
tree_by_alike s q (statement.Range var rel) = refl
tree_by_alike s q (statement.Retrieve None items qual sort) = refl
tree_by_alike s q (statement.Retrieve (Some name) items qual sort) = ap checked.Update (into_alike s name q)
tree_by_alike s q (statement.Append rel items qual) = ap checked.Update (append_alike s rel q)
tree_by_alike s q (statement.Replace var items qual) = ap checked.Update (replace_alike s var q)
tree_by_alike s q (statement.Delete var qual) = ap checked.Update (delete_alike s var q)
tree_by_alike s q (statement.Create rel attrs) = refl
tree_by_alike s q (statement.Destroy rels) = λ i. checked.Utility (utility.Destroy (filter_map (λ name. entry_named_alike s name i) rels))
tree_by_alike s q (statement.DropPermits rel numbers) = λ i. checked.Utility (utility.DropPermits (keys_named s rel i) numbers)
tree_by_alike s q (statement.DropRules rel numbers) = λ i. checked.Utility (utility.DropRules (keys_named s rel i) numbers)
tree_by_alike s q (statement.Modify rel to keys) = λ i. checked.Utility (utility.Modify (keys_named s rel i) to (structure_keys to (places_named s rel keys i)))
tree_by_alike s q (statement.Index base name keys) = λ i. checked.Utility (utility.Index (keys_named s base i) name (places_named s base keys i))
tree_by_alike s q (statement.Print rels) = λ i. checked.Answer (map (λ rel. whole (named_alike s rel i)) rels)
tree_by_alike s q (statement.Help None) = λ i. checked.Answer (help_all_alike s i ∷ [])
tree_by_alike s q (statement.Help (Some rel)) = λ i. checked.Answer (help_alike s (named_alike s rel i) i ∷ [])
tree_by_alike s q (statement.Copy rel columns from file) = λ i.
    checked.Utility (utility.Copy (keys_named s rel i) (map (copy_col (named_alike s rel i)) columns) from file)
tree_by_alike s q (statement.View name items qual) = refl
tree_by_alike s q (statement.Permit ops var attrs user qual) = λ i.
    checked.Utility
    (utility.Permit (key_found (ranged_alike s var i))
    (record { number = 0; ops = ops; attrs = map (place_found (ranged_alike s var i)) attrs; user = user; qual = qual_of q }))
tree_by_alike s q (statement.Rule var qual) = λ i. checked.Utility (utility.Rule (key_found (ranged_alike s var i)) (record { number = 0; qual = qual_of q }))

tree_alike : (s : Scope) (stmt : Statement) → tree_of (bare_scope s) stmt ≡ tree_of s stmt
unfolding tree_of
tree_alike s stmt = λ i. tree_by_alike s (query_alike s stmt i) stmt i

pub resolved_alike : (db : Db) (user : List ℕ) (ranges : Ranges) (stmt : Statement) → resolved (schema_of db) user ranges stmt ≡ resolved db user ranges stmt
unfolding resolved
resolved_alike db user ranges stmt =
    let s : Scope = record { db = db; user = user; ranges = ranges } in
    λ i. elim (name_alike s stmt i) [
      | Some number ↦ Err number
      | None ↦ elim (first_refusal (refusals_alike s stmt i)) [ Some number ↦ Err number | None ↦ Ok (tree_alike s stmt i) ]
    ]

-- ---- what is permitted of it

checked_alike : (db : Db) (who : Who) (tree : Checked) → checked_permitted (schema_of db) who tree ≡ checked_permitted db who tree
unfolding checked_permitted
checked_alike db who (checked.Answer asked) = λ i. list_all (λ a. query_permitted_alike db who a.query i) asked
checked_alike db who (checked.Update u) = update_permitted_alike db who u
checked_alike db who (checked.Utility work) = refl

tree_if_permitted_alike : (db : Db) (asker : Asker) (r : Result Checked ℕ) → tree_if_permitted (schema_of db) asker r ≡ tree_if_permitted db asker r
tree_if_permitted_alike db asker (Err number) = refl
tree_if_permitted_alike db asker (Ok tree) = ap (λ b. permitted_tree b tree) (checked_alike db (AsUser asker) tree)

pub checked_tree_alike : (db : Db) (asker : Asker) (ranges : Ranges) (stmt : Statement) → checked_tree (schema_of db) asker ranges stmt ≡ checked_tree db asker ranges stmt
unfolding checked_tree_by
checked_tree_alike db asker ranges stmt = λ i. tree_if_permitted_alike db asker (resolved_alike db asker.user ranges stmt i) i
