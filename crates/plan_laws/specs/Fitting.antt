-- What must hold of a permit, a rule, or a structure for what the utilities plan of it to be lawful: that of which it speaks is there, and it would stand in the database.
use Rattle.std.specs.Prelude.{◌≡◌, ℕ, Bool, true, false, List, nat_le, nat_lt, is_some, length, IsTrue}
use Rattle.calculus.specs.declared.query.RelKey.{RelKey}
use Rattle.std.specs.List.{list_all}
use Rattle.calculus.specs.declared.query.Query.{Query}
use Rattle.calculus.specs.declared.schema.Attr.{Attr}
use Rattle.calculus.specs.declared.schema.Spec.{Spec}
use Rattle.calculus.specs.declared.schema.Permit.{Permit}
use Rattle.calculus.specs.declared.schema.Rule.{Rule}
use Rattle.calculus.specs.declared.request.Utility.{Utility}
use Rattle.calculus.specs.declared.request.Utility.TheVariants as utility
use Rattle.calculus.specs.Keys.{key_of}
use Rattle.calculus.specs.Lists.{is_any}
use Rattle.calculus.specs.Limits.{most_entries, most_expanded_variables, most_variables, greatest_size}
use Rattle.calculus.specs.Database.{Db, entries, is_there}
use Rattle.calculus.specs.Stored.{range_at, attrs_at}
use Rattle.calculus.specs.QueryParts.{vars_of}
use Rattle.calculus.specs.Sizes.{level_within, variables, expanded_variables, query_size}
use Rattle.quel_meaning.specs.Planned.{view_info}
use Rattle.calculus.specs.IsDatabase.{user_is_named, permit_attrs_stand, valid_row_qual, keys_stand, key_is_named, attrs_stand, are_stored, vars_are_there, valid_query}
use Rattle.calculus.specs.Storable.{row_qual_is_storable, permit_lists_are_storable, query_is_storable}
use Rattle.calculus.specs.Structures.{is_structure}

-- a relation, a view or a catalogue stands under the key
abbrev pub is_ranged : Db → RelKey → Bool
is_ranged db key = is_some (range_at db key)

-- the utility copies rows between a relation and a file, for which there is no plan
abbrev pub is_copy : Utility → Bool
is_copy (utility.Copy rel columns from file) = true
is_copy work = false

-- a permit on what is there: its user has a name, its attributes are there, its qualification fits, and what it lists and its qualification can be stored
pub record IsFitPermit (db : Db) (rel : RelKey) (permit : Permit) : Type 0 where
  pub there : IsTrue (is_ranged db rel)
  pub user : IsTrue (user_is_named permit.user)
  pub attrs : IsTrue (permit_attrs_stand db rel permit.attrs)
  pub lists : IsTrue (permit_lists_are_storable permit)
  pub qual : IsTrue (valid_row_qual db rel permit.qual)
  pub storable : IsTrue (row_qual_is_storable permit.qual)

-- a rule on what is there: its qualification fits and can be stored
pub record IsFitRule (db : Db) (rel : RelKey) (rule : Rule) : Type 0 where
  pub there : IsTrue (is_ranged db rel)
  pub qual : IsTrue (valid_row_qual db rel rule.qual)
  pub storable : IsTrue (row_qual_is_storable rule.qual)

-- a structure for what is there: its keys are places of attributes, all different, and not too many
pub record IsFitStructure (db : Db) (rel : RelKey) (to : Spec) (keys : List ℕ) : Type 0 where
  pub there : IsTrue (is_ranged db rel)
  pub structure : IsTrue (is_structure to)
  pub places : IsTrue (keys_stand (attrs_at db rel) keys)

-- an index on what is there: at least one key, and the keys places of attributes, all different, and not too many; its name is no catalogue's and is not in use by the owner, and there is room for one more entry
pub record IsFitIndex (db : Db) (base : RelKey) (name : List ℕ) (keys : List ℕ) : Type 0 where
  pub there : IsTrue (is_ranged db base)
  pub some : IsTrue (is_any keys)
  pub places : IsTrue (keys_stand (attrs_at db base) keys)
  pub named : IsTrue (key_is_named (key_of base.owner name))
  pub unused : is_there db (key_of base.owner name) ≡ false
  pub room : IsTrue (nat_lt (length (entries db)) most_entries)

-- a relation that may be made: its key is named, is no catalogue's and is not in use, its attributes stand and have domains, and there is room for one more entry
pub record IsFitRelation (db : Db) (rel : RelKey) (attrs : List Attr) : Type 0 where
  pub named : IsTrue (key_is_named rel)
  pub unused : is_there db rel ≡ false
  pub attributes : IsTrue (attrs_stand attrs)
  pub domains : IsTrue (are_stored attrs)
  pub room : IsTrue (nat_lt (length (entries db)) most_entries)

-- a view that may be made: its key is named, is no catalogue's and is not in use, there is room for one more entry, its attributes stand, what it names is there and below the greatest level, its kinds fit, and it is within the limits and can be stored
pub record IsFitView (db : Db) (rel : RelKey) (q : Query) : Type 0 where
  pub named : IsTrue (key_is_named rel)
  pub unused : is_there db rel ≡ false
  pub room : IsTrue (nat_lt (length (entries db)) most_entries)
  pub attributes : IsTrue (attrs_stand (view_info rel q).attrs)
  pub vars : IsTrue (vars_are_there db q)
  pub levels : IsTrue (list_all (λ key. is_some (level_within 15 db key)) (vars_of q))
  pub stands : IsTrue (valid_query db q)
  pub few_listed : IsTrue (nat_le (length (vars_of q)) most_expanded_variables)
  pub few : IsTrue (nat_le (variables q) most_variables)
  pub few_expanded : IsTrue (nat_le (expanded_variables db q) most_expanded_variables)
  pub small : IsTrue (nat_le (query_size db q) greatest_size)
  pub storable : IsTrue (query_is_storable q)
