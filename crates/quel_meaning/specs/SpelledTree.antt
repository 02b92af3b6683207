-- Trees whose parts are what their types ask for: names, constants, rights. What a tree names that is there has a name anyway.
use Rattle.std.specs.Prelude.{Bool, true, ◌&&◌, ◌∷◌}
use Rattle.std.specs.List.{list_all}
use Rattle.calculus.specs.declared.query.RelKey.{RelKey}
use Rattle.calculus.specs.declared.schema.Permit.{Permit}
use Rattle.calculus.specs.declared.request.Update.{Update}
use Rattle.calculus.specs.declared.request.UpdateOp.TheVariants as op
use Rattle.calculus.specs.declared.request.Utility.{Utility}
use Rattle.calculus.specs.declared.request.Utility.TheVariants as utility
use Rattle.calculus.specs.declared.request.Checked.{Checked}
use Rattle.calculus.specs.declared.request.Checked.TheVariants as checked
use Rattle.calculus.specs.Chars.{is_chars}
use Rattle.calculus.specs.Name.{is_name}
use Rattle.calculus.specs.Rights.{are_rights}
use Rattle.calculus.specs.Spelled.{qual_is_spelled, query_is_spelled}
use Rattle.calculus.specs.IsDatabase.{user_is_named}

-- the owner and the name of a key are names
abbrev pub key_is_spelled : RelKey → Bool
key_is_spelled key = is_name key.owner && is_name key.name

-- the relation that an update makes has a key of names
abbrev pub made_key_is_spelled : Update → Bool
made_key_is_spelled u = elim u.op [ op.Append ↦ true | op.Replace ↦ true | op.Delete ↦ true | op.Into ↦ key_is_spelled u.rel ]

-- an update: what it makes, its constants, and those of what must hold of new rows
unfoldable pub update_is_spelled : Update → Bool
update_is_spelled u = made_key_is_spelled u && (query_is_spelled u.query && list_all qual_is_spelled (u.new_cut ∷ u.checks))

-- a permit: its user, its rights and its constants
abbrev pub permit_is_spelled : Permit → Bool
permit_is_spelled permit = user_is_named permit.user && (are_rights permit.ops && qual_is_spelled permit.qual)

-- a utility: the names of what it makes, and its constants
unfoldable pub utility_is_spelled : Utility → Bool
utility_is_spelled (utility.Create rel attrs) = key_is_spelled rel
utility_is_spelled (utility.Destroy rels) = true
utility_is_spelled (utility.Modify rel to keys) = true
utility_is_spelled (utility.Index base name keys) = is_name name
utility_is_spelled (utility.Copy rel columns from file) = is_chars file
utility_is_spelled (utility.View rel query) = key_is_spelled rel && query_is_spelled query
utility_is_spelled (utility.Permit rel permit) = permit_is_spelled permit
utility_is_spelled (utility.Rule rel rule) = qual_is_spelled rule.qual
utility_is_spelled (utility.DropPermits rel numbers) = true
utility_is_spelled (utility.DropRules rel numbers) = true

-- a tree
unfoldable pub tree_is_spelled : Checked → Bool
tree_is_spelled (checked.Answer asked) = list_all (λ a. query_is_spelled a.query) asked
tree_is_spelled (checked.Update update) = update_is_spelled update
tree_is_spelled (checked.Utility request) = utility_is_spelled request
