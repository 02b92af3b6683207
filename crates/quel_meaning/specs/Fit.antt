-- Which trees are fit for a database: what query processor and utilities may be asked for.
use Rattle.std.specs.Prelude.{ℕ, Bool, true, false, ◌&&◌, ◌||◌, not, nat_eq, nat_le, nat_lt, List, [], ◌∷◌, map, length, slice_get, Option, Some, None}
use Rattle.std.specs.List.{list_all}
use Rattle.calculus.specs.declared.query.RelKey.{RelKey}
use Rattle.calculus.specs.declared.query.QQual.{QQual}
use Rattle.calculus.specs.declared.query.Query.{Query}
use Rattle.calculus.specs.declared.schema.Attr.{Attr}
use Rattle.calculus.specs.declared.schema.Permit.{Permit}
use Rattle.calculus.specs.declared.request.CopyCol.{CopyCol}
use Rattle.calculus.specs.declared.request.Update.{Update}
use Rattle.calculus.specs.declared.request.UpdateOp.TheVariants as op
use Rattle.calculus.specs.declared.request.Utility.{Utility}
use Rattle.calculus.specs.declared.request.Utility.TheVariants as utility
use Rattle.calculus.specs.declared.request.Checked.{Checked}
use Rattle.calculus.specs.declared.request.Checked.TheVariants as checked
use Rattle.calculus.specs.Limits.{most_variables, most_expanded_variables, most_listed_attributes}
use Rattle.calculus.specs.Keys.{same_key}
use Rattle.calculus.specs.Lists.{is_any, differ_by}
use Rattle.calculus.specs.Kinds.{comparable, kinds_fit, is_text_kind}
use Rattle.calculus.specs.Database.{Db, is_relation, is_there}
use Rattle.calculus.specs.Stored.{attrs_at, kinds_at}
use Rattle.calculus.specs.QueryParts.{vars_of, targets_of, qual_of}
use Rattle.calculus.specs.Replacement.{made_attr}
use Rattle.calculus.specs.Sizes.{variables, expanded_variables, update_expanded_variables}
use Rattle.calculus.specs.IsDatabase.{is_kind, attrs_stand, are_stored, keys_stand, var_kinds, valid_query, vars_are_there, valid_row_qual, permit_attrs_stand}
use Rattle.calculus.specs.Storable.{row_qual_is_small}
use Rattle.calculus.specs.Structures.{is_structure}
use Rattle.quel_meaning.specs.Passing.{is_full, is_taken, is_too_large}
use Rattle.quel_meaning.specs.KindsInQueries.{kind_in_query, kinds_fit_in_query, assignments_fit}
use Rattle.quel_meaning.specs.FitQueries.{Allowed, kept_alone, kept_or_viewed, can_be_ranged_over, lists_few_vars, reads_fit, asked_fits}
use Rattle.quel_meaning.specs.Causes.{is_binary}
use Rattle.quel_meaning.specs.Columns.{is_copy_form}
use Rattle.quel_meaning.specs.Planned.{target_attr}
use Rattle.quel_meaning.specs.SpelledTree.{tree_is_spelled}

-- ---- updates

-- the attributes of the new rows of an update: of the relation that is changed, or of the one that is made
abbrev pub new_attrs : Db → Update → List Attr
new_attrs db u = elim u.op [
  | op.Append ↦ attrs_at db u.rel
  | op.Replace ↦ attrs_at db u.rel
  | op.Delete ↦ attrs_at db u.rel
  | op.Into ↦ map made_attr (targets_of u.query)
]

-- the attributes that get new values are some of the new rows', all different, one for each target
abbrev pub places_fit : Db → Update → Bool
places_fit db u =
    list_all (λ p. nat_lt p (length (new_attrs db u))) u.places && (differ_by nat_eq u.places && nat_eq (length u.places) (length (targets_of u.query)))

-- a target of an update is of a kind, it and its term are both numbers or both texts, and so are the sides of each comparison
abbrev pub update_kinds_fit : Db → Query → Bool
update_kinds_fit db q =
    list_all (λ t. is_kind t.kind) (targets_of q)
    && (list_all (λ t. comparable (kind_in_query db t.term (var_kinds db q)) (Some t.kind)) (targets_of q) && kinds_fit_in_query db (qual_of q) (var_kinds db q))

-- what must hold of a new row speaks of that row alone, and its kinds fit
abbrev pub checks_fit : Db → Update → Bool
checks_fit db u = list_all (λ check. kinds_fit check (map (λ a. a.kind) (new_attrs db u) ∷ [])) (u.new_cut ∷ u.checks)

-- the key is there and is this one
abbrev pub is_this_key : Option RelKey → RelKey → Bool
is_this_key None key = false
is_this_key (Some k) key = same_key k key

-- there is room for what is made, and its name is not in use
abbrev pub is_new : Db → List ℕ → List ℕ → Bool
is_new db owner name = not (is_taken db owner name) && not (is_full db)

-- what is changed or made: rows are put into a base relation; they are replaced and deleted in one that a variable ranges over; or a relation is made, with attributes as one has
abbrev pub relation_fits : Db → Update → Bool
relation_fits db u = elim u.op [
  | op.Append ↦ is_relation db u.rel && nat_eq u.old 255
  | op.Replace ↦ is_relation db u.rel && is_this_key (slice_get (vars_of u.query) u.old) u.rel
  | op.Delete ↦ is_relation db u.rel && is_this_key (slice_get (vars_of u.query) u.old) u.rel
  | op.Into ↦ nat_eq u.old 255 && (is_new db u.rel.owner u.rel.name && (attrs_stand (new_attrs db u) && are_stored (new_attrs db u)))
]

-- an update: what it reads, its kinds, its variables, its places and checks, and the relation
unfoldable pub update_fits : Allowed → Db → Update → Bool
update_fits may db u =
    reads_fit may db u.query
    && (update_kinds_fit db u.query
    && (assignments_fit db u
    && (nat_le (update_expanded_variables db u) most_expanded_variables && (places_fit db u && (checks_fit db u && relation_fits db u)))))

-- ---- utilities

-- a relation, view, index or catalogue is there under the key
abbrev pub is_entry : Db → RelKey → Bool
is_entry db key = is_there db key || can_be_ranged_over db key

-- the columns of a file: at least one, of forms that are ones, each for an attribute, all different, none of a number's bytes for a text
abbrev pub columns_fit : Db → RelKey → List CopyCol → Bool
columns_fit db rel columns =
    is_any columns
    && (list_all (λ c. is_copy_form c.form) columns
    && (list_all (λ c. nat_lt c.attr (length (attrs_at db rel))) columns
    && (differ_by nat_eq (map (λ c. c.attr) columns)
    && list_all (λ c. not (is_binary c.form && is_text_kind (slice_get (kinds_at db rel) c.attr))) columns)))

-- the query of a new view: what it names is there, its kinds fit and no aggregate stands; its attributes, variables, size and level are within the limits
unfoldable pub view_fits : Db → Query → Bool
view_fits db q =
    vars_are_there db q
    && (valid_query db q
    && (attrs_stand (map target_attr (targets_of q))
    && (lists_few_vars q
    && (nat_le (variables q) most_variables && (nat_le (expanded_variables db q) most_expanded_variables && not (is_too_large db q))))))

-- a qualification over a row of a relation, view or catalogue that is there: its kinds fit, no aggregate stands, and it isn't too large to be kept
abbrev pub row_qual_fits : Db → RelKey → QQual → Bool
row_qual_fits db rel q = can_be_ranged_over db rel && (valid_row_qual db rel q && row_qual_is_small q)

-- a permit lists attributes of its relation, and not too many
abbrev pub listed_attrs_fit : Db → RelKey → Permit → Bool
listed_attrs_fit db rel permit = permit_attrs_stand db rel permit.attrs && nat_le (length permit.attrs) most_listed_attributes

-- what a utility names is there, what it makes is new, and its places differ and are in range; the name of an index is one of the user's
unfoldable pub utility_fits : Db → List ℕ → Utility → Bool
utility_fits db user (utility.Create rel attrs) = is_new db rel.owner rel.name && (attrs_stand attrs && are_stored attrs)
utility_fits db user (utility.Destroy rels) = list_all (is_entry db) rels && differ_by same_key rels
utility_fits db user (utility.Modify rel to keys) = can_be_ranged_over db rel && (is_structure to && keys_stand (attrs_at db rel) keys)
utility_fits db user (utility.Index base name keys) = can_be_ranged_over db base && (is_new db user name && (is_any keys && keys_stand (attrs_at db base) keys))
utility_fits db user (utility.Copy rel columns from file) = can_be_ranged_over db rel && columns_fit db rel columns
utility_fits db user (utility.View rel query) = is_new db rel.owner rel.name && view_fits db query
utility_fits db user (utility.Permit rel permit) = row_qual_fits db rel permit.qual && listed_attrs_fit db rel permit
utility_fits db user (utility.Rule rel rule) = row_qual_fits db rel rule.qual
utility_fits db user (utility.DropPermits rel numbers) = can_be_ranged_over db rel
utility_fits db user (utility.DropRules rel numbers) = can_be_ranged_over db rel

-- what a tree asks for suits a database and a user where this is what it may read
unfoldable pub suits : Allowed → Db → List ℕ → Checked → Bool
suits may db user (checked.Answer asked) = list_all (asked_fits may db) asked
suits may db user (checked.Update update) = update_fits may db update
suits may db user (checked.Utility request) = utility_fits db user request

-- a tree is fit for a database and a user where this is what it may read: its parts are what their types ask for, and it suits
unfoldable pub fits : Allowed → Db → List ℕ → Checked → Bool
fits may db user tree = tree_is_spelled tree && suits may db user tree

-- a tree is fit for a database and a user: it reads base relations and catalogues alone
abbrev pub is_fit : Db → List ℕ → Checked → Bool
is_fit db user tree = fits (kept_alone db) db user tree

-- a tree is fit once the views in it are expanded
abbrev pub is_fit_with_views : Db → List ℕ → Checked → Bool
is_fit_with_views db user tree = fits (kept_or_viewed db) db user tree

-- a tree asks for an index
abbrev pub makes_an_index : Checked → Bool
makes_an_index (checked.Utility (utility.Index base name keys)) = true
makes_an_index _ = false
