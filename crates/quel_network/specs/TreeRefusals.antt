-- The refusals of trees and of statements have a spelling.
use Rattle.std.specs.Prelude.{◌≡◌, ℕ, Bool, true, false, List, ◌∷◌, map, Option, Some, None, Result, Ok, Err}
use Rattle.std.specs.List.{list_all}
use Rattle.std.proofs.Common.{refl, ap, subst}
use Rattle.calculus.specs.declared.change.DbChange.{DbChange}
use Rattle.calculus.specs.declared.query.RelKey.{RelKey}
use Rattle.calculus.specs.declared.reply.Refusal.{Refusal}
use Rattle.calculus.specs.declared.reply.Reply.{Reply}
use Rattle.calculus.specs.declared.reply.Reply.TheVariants as reply
use Rattle.calculus.specs.declared.request.Asked.{Asked}
use Rattle.calculus.specs.declared.request.Checked.{Checked}
use Rattle.calculus.specs.declared.request.Checked.TheVariants as checked
use Rattle.calculus.specs.declared.request.CopyCol.{CopyCol}
use Rattle.calculus.specs.declared.request.Update.{Update}
use Rattle.calculus.specs.declared.request.Utility.{Utility}
use Rattle.calculus.specs.declared.request.Utility.TheVariants as utility
use Rattle.calculus.specs.declared.schema.RelInfo.{RelInfo}
use Rattle.calculus.specs.declared.statement.Statement.{Statement}
use Rattle.calculus.specs.declared.statement.Statement.TheVariants as statement
use Rattle.calculus.specs.Database.{Db}
use Rattle.calculus.specs.Finding.{found}
use Rattle.calculus.specs.IsDatabase.{IsDatabase}
use Rattle.calculus.specs.Replacement.{update_refusals, updated}
use Rattle.calculus.specs.Who.{Who, Unrestricted, Asker, AsUser}
use Rattle.fault_io.specs.Files.{Files}
use Rattle.quel_meaning.specs.Copying.{refusal, copied_from, copied_into, file_of_constant}
use Rattle.quel_meaning.specs.Meaning.{change_effect, numbered_effect, file_effect, answer_reply, copy_effect, utility_effect, tree_meaning, checked_permitted, permitted_tree, tree_if_permitted, checked_tree_by, checked_tree}
use Rattle.quel_meaning.specs.Planned.{plan_refusals, planned}
use Rattle.quel_meaning.specs.Purpose.{refusal_numbers}
use Rattle.quel_meaning.specs.Ranges.{Ranges}
use Rattle.quel_meaning.specs.Resolved.{resolved}
use Rattle.quel_meaning.specs.Tables.{table_of, some_query_lacks}
use Rattle.quel_meaning.proofs.Accepted.{refused_by}
use Rattle.network_meaning.specs.Sorts.{Meaning.objects, Outcome.refuses}
use Rattle.quel_network.specs.Spelling.{is_refusal_number}
use Rattle.quel_network.specs.Trees.{outcome_by, outcome_of_tree, range_meaning, checked_meaning, meaning_of}
use Rattle.quel_network.specs.RefusalLaws.{HasSpelling, one_passes, numbered_has, caused_known}
use Rattle.quel_network.specs.CopyRefusals.{copied_from_has, copied_into_has}

-- ---- trees

answer_has : (db : Db) (who : Who) (asked : List Asked) (r : Refusal) → answer_reply db who asked ≡ reply.Refused r → HasSpelling r
answer_has db who asked r e = go (some_query_lacks db who asked) e
  where
    go : (b : Bool) → ◌≡◌ {A = Reply} (elim b [ true ↦ reply.Refused (refusal 20) | false ↦ reply.Tables (map (table_of db who) asked) ]) (reply.Refused r) → HasSpelling r
    go true e = let same : refusal 20 ≡ r = cc e in subst HasSpelling same (numbered_has 20 refl)
    go false e = absurd (cc e)

change_has : (db : Db) (shelf : Files) (change : Result DbChange Refusal) (r : Refusal) → ((x : Refusal) → change ≡ Err x → HasSpelling x)
    → (change_effect db shelf change).reply ≡ reply.Refused r → HasSpelling r
change_has db shelf (Ok change) r has e = absurd (cc e)
change_has db shelf (Err x) r has e = let same : x ≡ r = cc e in subst HasSpelling same (has x refl)

numbered_effect_has : (db : Db) (shelf : Files) (change : Result DbChange ℕ) (r : Refusal) → ((n : ℕ) → change ≡ Err n → is_refusal_number n ≡ true)
    → (numbered_effect db shelf change).reply ≡ reply.Refused r → HasSpelling r
numbered_effect_has db shelf (Ok change) r known e = absurd (cc e)
numbered_effect_has db shelf (Err n) r known e = let same : refusal n ≡ r = cc e in subst HasSpelling same (numbered_has n (known n refl))

file_effect_has : (db : Db) (shelf : Files) (file : List ℕ) (bytes : Result (List ℕ) Refusal) (r : Refusal) → ((x : Refusal) → bytes ≡ Err x → HasSpelling x)
    → (file_effect db shelf file bytes).reply ≡ reply.Refused r → HasSpelling r
file_effect_has db shelf file (Ok bytes) r has e = absurd (cc e)
file_effect_has db shelf file (Err x) r has e = let same : x ≡ r = cc e in subst HasSpelling same (has x refl)

copy_has : (db : Db) (shelf : Files) (user : List ℕ) (rel : RelKey) (columns : List CopyCol) (from : Bool) (constant : List ℕ) (r : Refusal) → IsDatabase db
    → (copy_effect db shelf user rel columns from constant).reply ≡ reply.Refused r → HasSpelling r
copy_has db shelf user rel columns true constant r is e =
    change_has db shelf (copied_from db shelf user rel columns constant) r (λ x. copied_from_has db shelf user rel columns constant x) e
copy_has db shelf user rel columns false constant r is e =
    file_effect_has db shelf (file_of_constant constant) (copied_into db user rel columns) r (λ x. copied_into_has db user rel columns x is) e

-- each number that may refuse an update is one of a refusal
updated_known : (db : Db) (who : Who) (u : Update) (n : ℕ) → updated db who u ≡ Err n → is_refusal_number n ≡ true
unfolding updated
updated_known db who u n e = caused_known (update_refusals db who u) _ n refl e

plan_numbers_known : (db : Db) (user : List ℕ) (u : Utility) → list_all is_refusal_number (map (λ c. c.0) (plan_refusals db user u)) ≡ true
unfolding plan_refusals
plan_numbers_known db user (utility.Create rel attrs) = refl
plan_numbers_known db user (utility.Destroy rels) = refl
plan_numbers_known db user (utility.Modify rel to keys) = refl
plan_numbers_known db user (utility.Index base name keys) = refl
plan_numbers_known db user (utility.Copy rel columns from file) = refl
plan_numbers_known db user (utility.View rel query) = refl
plan_numbers_known db user (utility.Permit rel permit) = refl
plan_numbers_known db user (utility.Rule rel rule) = refl
plan_numbers_known db user (utility.DropPermits rel numbers) = refl
plan_numbers_known db user (utility.DropRules rel numbers) = refl

-- each number that may refuse a utility is one of a refusal
planned_known : (db : Db) (user : List ℕ) (u : Utility) (n : ℕ) → planned db user u ≡ Err n → is_refusal_number n ≡ true
unfolding planned
planned_known db user u n e = caused_known (plan_refusals db user u) _ n (plan_numbers_known db user u) e

planned_has : (db : Db) (shelf : Files) (user : List ℕ) (u : Utility) (r : Refusal) → (numbered_effect db shelf (planned db user u)).reply ≡ reply.Refused r → HasSpelling r
planned_has db shelf user u r e = numbered_effect_has db shelf (planned db user u) r (planned_known db user u) e

utility_has : (db : Db) (shelf : Files) (user : List ℕ) (u : Utility) (r : Refusal) → IsDatabase db → (utility_effect db shelf user u).reply ≡ reply.Refused r → HasSpelling r
unfolding utility_effect
utility_has db shelf user (utility.Copy rel columns from constant) r is e = copy_has db shelf user rel columns from constant r is e
utility_has db shelf user u r is e = planned_has db shelf user u r e

-- what refuses a tree has a spelling
tree_has : (db : Db) (shelf : Files) (who : Who) (user : List ℕ) (tree : Checked) (r : Refusal) → IsDatabase db
    → (tree_meaning db shelf who user tree).reply ≡ reply.Refused r → HasSpelling r
unfolding tree_meaning
tree_has db shelf who user (checked.Answer asked) r is e = answer_has db who asked r e
tree_has db shelf who user (checked.Update u) r is e = numbered_effect_has db shelf (updated db who u) r (updated_known db who u) e
tree_has db shelf who user (checked.Utility work) r is e = utility_has db shelf user work r is e

refused_reply : (db : Db) (shelf : Files) (x : Reply) (r : Refusal) → outcome_by db shelf x ≡ refuses r → x ≡ reply.Refused r
refused_reply db shelf reply.Nothing r e = absurd (cc e)
refused_reply db shelf reply.Done r e = absurd (cc e)
refused_reply db shelf (reply.Refused x) r e = let same : x ≡ r = cc e in ap reply.Refused same
refused_reply db shelf (reply.Tables ts) r e = absurd (cc e)

-- the refusal that is the outcome of a tree has a spelling
pub outcome_has : (asker : Asker) (tree : Checked) (db : Db) (shelf : Files) (r : Refusal) → IsDatabase db → outcome_of_tree asker tree db shelf ≡ refuses r → HasSpelling r
unfolding outcome_of_tree
outcome_has asker tree db shelf r is e =
    let effect = tree_meaning db shelf Unrestricted asker.user tree in
    tree_has db shelf Unrestricted asker.user tree r is (refused_reply effect.db effect.shelf effect.reply r e)

-- ---- statements

numbers_known : (s : Statement) → list_all is_refusal_number (10 ∷ 11 ∷ 12 ∷ refusal_numbers s) ≡ true
unfolding refusal_numbers
numbers_known (statement.Range var rel) = refl
numbers_known (statement.Retrieve None items qual sort) = refl
numbers_known (statement.Retrieve (Some name) items qual sort) = refl
numbers_known (statement.Append rel items qual) = refl
numbers_known (statement.Replace var items qual) = refl
numbers_known (statement.Delete var qual) = refl
numbers_known (statement.Create rel attrs) = refl
numbers_known (statement.Destroy rels) = refl
numbers_known (statement.DropPermits rel numbers) = refl
numbers_known (statement.DropRules rel numbers) = refl
numbers_known (statement.Modify rel to keys) = refl
numbers_known (statement.Index base name keys) = refl
numbers_known (statement.Print rels) = refl
numbers_known (statement.Help rel) = refl
numbers_known (statement.Copy rel columns from file) = refl
numbers_known (statement.View name items qual) = refl
numbers_known (statement.Permit ops var attrs user qual) = refl
numbers_known (statement.Rule var qual) = refl

-- each number that may refuse a statement before its tree is handed on is one of a refusal
checked_known : (db : Db) (asker : Asker) (ranges : Ranges) (s : Statement) (n : ℕ) → checked_tree db asker ranges s ≡ Err n → is_refusal_number n ≡ true
unfolding checked_tree_by
checked_known db asker ranges s n e = go (resolved db asker.user ranges s) refl e
  where
    lacks : (tree : Checked) (permitted : Bool) → permitted_tree permitted tree ≡ Err n → is_refusal_number n ≡ true
    lacks tree true k = absurd (cc k)
    lacks tree false k = let same : 23 ≡ n = cc k in subst (λ m. is_refusal_number m ≡ true) same refl

    go : (r : Result Checked ℕ) → resolved db asker.user ranges s ≡ r → tree_if_permitted db asker r ≡ Err n → is_refusal_number n ≡ true
    go (Err m) f k =
        let same : m ≡ n = cc k in
        subst (λ x. is_refusal_number x ≡ true) same (one_passes is_refusal_number (10 ∷ 11 ∷ 12 ∷ refusal_numbers s) m (numbers_known s) (refused_by db asker.user ranges s m f))
    go (Ok tree) f k = lacks tree (checked_permitted db (AsUser asker) tree) k

range_has : (ranges : Ranges) (var : List ℕ) (info : Option RelInfo) (r : Refusal) → range_meaning ranges var info ≡ objects r → HasSpelling r
range_has ranges var None r e = let same : refusal 10 ≡ r = cc e in subst HasSpelling same (numbered_has 10 refl)
range_has ranges var (Some info) r e = absurd (cc e)

checked_has : (asker : Asker) (db : Db) (shelf : Files) (tree : Result Checked ℕ) (r : Refusal) → ((n : ℕ) → tree ≡ Err n → is_refusal_number n ≡ true)
    → checked_meaning asker db shelf tree ≡ objects r → HasSpelling r
checked_has asker db shelf (Err n) r known e = let same : refusal n ≡ r = cc e in subst HasSpelling same (numbered_has n (known n refl))
checked_has asker db shelf (Ok tree) r known e = absurd (cc e)

checking_has : (asker : Asker) (db : Db) (shelf : Files) (ranges : Ranges) (s : Statement) (r : Refusal) → checked_meaning asker db shelf (checked_tree db asker ranges s) ≡ objects r → HasSpelling r
checking_has asker db shelf ranges s r e = checked_has asker db shelf (checked_tree db asker ranges s) r (checked_known db asker ranges s) e

-- what stage 2 refuses a statement by has a spelling
pub objection_has : (asker : Asker) (db : Db) (shelf : Files) (ranges : Ranges) (s : Statement) (r : Refusal) → meaning_of asker db shelf ranges s ≡ objects r → HasSpelling r
unfolding meaning_of
objection_has asker db shelf ranges (statement.Range var rel) r e = range_has ranges var (found db asker.user rel) r e
objection_has asker db shelf ranges s r e = checking_has asker db shelf ranges s r e
