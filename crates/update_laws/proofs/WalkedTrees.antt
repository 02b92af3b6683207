-- What a walk finds of updates, utilities and trees.
use Rattle.std.proofs.Common.{◌≡◌, refl, ℕ, Bool, true, IsTrue, List}
use Rattle.std.specs.List.{list_all}
use Rattle.calculus.specs.declared.query.QQual.{QQual}
use Rattle.calculus.specs.declared.query.Query.{Query}
use Rattle.calculus.specs.declared.query.RelKey.{RelKey}
use Rattle.calculus.specs.declared.schema.Attr.{Attr}
use Rattle.calculus.specs.declared.schema.Permit.{Permit}
use Rattle.calculus.specs.declared.schema.Rule.{Rule}
use Rattle.calculus.specs.declared.schema.Spec.{Spec}
use Rattle.calculus.specs.declared.request.Asked.{Asked}
use Rattle.calculus.specs.declared.request.Checked.TheVariants as checked
use Rattle.calculus.specs.declared.request.CopyCol.{CopyCol}
use Rattle.calculus.specs.declared.request.Update.{Update}
use Rattle.calculus.specs.declared.request.UpdateOp.{UpdateOp}
use Rattle.calculus.specs.declared.request.UpdateOp.TheVariants.{Append, Replace, Delete, Into}
use Rattle.calculus.specs.declared.request.Utility.{Utility}
use Rattle.calculus.specs.declared.request.Utility.TheVariants as utility
use Rattle.calculus.specs.Chars.{is_chars}
use Rattle.calculus.specs.IsDatabase.{user_is_named}
use Rattle.calculus.specs.Name.{is_name}
use Rattle.calculus.specs.Rights.{are_rights}
use Rattle.calculus.specs.Spelled.{qual_is_spelled, query_is_spelled}
use Rattle.quel_meaning.specs.SpelledTree.{key_is_spelled, made_key_is_spelled, permit_is_spelled, update_is_spelled, utility_is_spelled, tree_is_spelled}
use Rattle.update_laws.specs.Walked.{qual_is_walked, quals_are_walked, asked_are_walked, names_rights}
use Rattle.update_laws.proofs.Texts.{each}

-- ---- updates

quals_spelled : (quals : List QQual) → IsTrue (quals_are_walked quals) → IsTrue (list_all qual_is_spelled quals)
unfolding quals_are_walked qual_is_walked
quals_spelled quals h = h

made_key : (u : Update) → IsTrue (key_is_spelled u.rel) → IsTrue (made_key_is_spelled u)
made_key u h = go u.op
  where
    go : (op : UpdateOp) → IsTrue (elim op as (λ op. Bool) [ Append ↦ true | Replace ↦ true | Delete ↦ true | Into ↦ key_is_spelled u.rel ])
    go Append = refl
    go Replace = refl
    go Delete = refl
    go Into = h

pub walked_update : (u : Update) → IsTrue (key_is_spelled u.rel) → IsTrue (query_is_spelled u.query) → IsTrue (qual_is_walked u.new_cut) → IsTrue (quals_are_walked u.checks) → IsTrue (update_is_spelled u)
unfolding update_is_spelled qual_is_walked
walked_update u key query cut checks =
    each (made_key_is_spelled u) _ (made_key u key) (each (query_is_spelled u.query) _ query (each (qual_is_spelled u.new_cut) (list_all qual_is_spelled u.checks) cut (quals_spelled u.checks checks)))

-- ---- utilities

pub walked_permit : (permit : Permit) → IsTrue (user_is_named permit.user) → IsTrue (qual_is_walked permit.qual) → are_rights permit.ops ≡ true → IsTrue (permit_is_spelled permit)
unfolding qual_is_walked
walked_permit permit user qual rights = each _ _ user (each _ _ rights qual)

pub walked_create : (rel : RelKey) (attrs : List Attr) → IsTrue (key_is_spelled rel) → IsTrue (utility_is_spelled (utility.Create rel attrs))
unfolding utility_is_spelled
walked_create rel attrs h = h

pub walked_destroy : (rels : List RelKey) → IsTrue (utility_is_spelled (utility.Destroy rels))
unfolding utility_is_spelled
walked_destroy rels = refl

pub walked_modify : (rel : RelKey) (to : Spec) (keys : List ℕ) → IsTrue (utility_is_spelled (utility.Modify rel to keys))
unfolding utility_is_spelled
walked_modify rel to keys = refl

pub walked_index : (base : RelKey) (name keys : List ℕ) → IsTrue (is_name name) → IsTrue (utility_is_spelled (utility.Index base name keys))
unfolding utility_is_spelled
walked_index base name keys h = h

pub walked_copy : (rel : RelKey) (columns : List CopyCol) (from : Bool) (file : List ℕ) → IsTrue (is_chars file) → IsTrue (utility_is_spelled (utility.Copy rel columns from file))
unfolding utility_is_spelled
walked_copy rel columns from file h = h

pub walked_view : (rel : RelKey) (query : Query) → IsTrue (key_is_spelled rel) → IsTrue (query_is_spelled query) → IsTrue (utility_is_spelled (utility.View rel query))
unfolding utility_is_spelled
walked_view rel query h k = each (key_is_spelled rel) (query_is_spelled query) h k

pub walked_defined_permit : (rel : RelKey) (permit : Permit) → (are_rights permit.ops ≡ true → IsTrue (permit_is_spelled permit)) → names_rights (checked.Utility (utility.Permit rel permit)) ≡ true
    → IsTrue (utility_is_spelled (utility.Permit rel permit))
unfolding utility_is_spelled
walked_defined_permit rel permit h rights = h rights

pub walked_rule : (rel : RelKey) (rule : Rule) → IsTrue (qual_is_walked rule.qual) → IsTrue (utility_is_spelled (utility.Rule rel rule))
unfolding utility_is_spelled qual_is_walked
walked_rule rel rule h = h

pub walked_dropped_permits : (rel : RelKey) (numbers : List ℕ) → IsTrue (utility_is_spelled (utility.DropPermits rel numbers))
unfolding utility_is_spelled
walked_dropped_permits rel numbers = refl

pub walked_dropped_rules : (rel : RelKey) (numbers : List ℕ) → IsTrue (utility_is_spelled (utility.DropRules rel numbers))
unfolding utility_is_spelled
walked_dropped_rules rel numbers = refl

-- ---- trees

pub walked_answer : (asked : List Asked) → IsTrue (asked_are_walked asked) → IsTrue (tree_is_spelled (checked.Answer asked))
unfolding tree_is_spelled asked_are_walked
walked_answer asked h = h

pub walked_change : (u : Update) → IsTrue (update_is_spelled u) → IsTrue (tree_is_spelled (checked.Update u))
unfolding tree_is_spelled
walked_change u h = h

pub walked_utility : (work : Utility) → IsTrue (utility_is_spelled work) → IsTrue (tree_is_spelled (checked.Utility work))
unfolding tree_is_spelled
walked_utility work h = h
