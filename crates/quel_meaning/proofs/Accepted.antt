-- What follows where a statement is resolved, or refused.
use Rattle.std.proofs.Common.{◌≡◌, refl, sym, ap, ◌∙◌, subst, ℕ, nat_eq, Bool, true, false, ◌||◌, List, [], ◌∷◌, ◌++◌, map, Option, Some, None, Result, Ok, Err}
use Rattle.std.proofs.lemmas.List.{length-map}
use Rattle.std.proofs.lemmas.Bool.{eq-eqb}
use Rattle.calculus.specs.Lists.{has_number}
use Rattle.calculus.specs.Replacement.{first_refusal}
use Rattle.calculus.specs.declared.request.Checked.{Checked}
use Rattle.calculus.specs.declared.statement.Statement.{Statement}
use Rattle.calculus.specs.declared.statement.Statement.TheVariants as statement
use Rattle.calculus.specs.Database.{Db}
use Rattle.quel_meaning.specs.Ranges.{Ranges, range_of}
use Rattle.quel_meaning.specs.Scope.{Scope, named, entry_named, attr_place}
use Rattle.calculus.specs.declared.query.RelKey.{RelKey}
use Rattle.calculus.specs.declared.schema.RelInfo.{RelInfo}
use Rattle.calculus.specs.Stored.{info_at}
use Rattle.quel_meaning.specs.Naming.{Mention, Variable, AttrOf, Relation, AttrIn, Entry, refusal_in, attr_refusal, variable_refusal, no_refusal, name_refusal, first_number, mention_refusal, mentions}
use Rattle.quel_meaning.specs.Causes.{Causes, refusals}
use Rattle.quel_meaning.specs.Resolved.{whole, tree_of, resolved}
use Rattle.quel_meaning.specs.Purpose.{Prints, purpose_of, purpose, refusal_numbers}
use Rattle.quel_meaning.specs.StatementUpdate.{append_of, replace_of, delete_of, into_of}

-- the tree, or the number of a name, else of a cause
checked_tree : Option ℕ → Option ℕ → Checked → Result Checked ℕ
checked_tree names more tree = elim names [ Some n ↦ Err n | None ↦ elim more [ Some n ↦ Err n | None ↦ Ok tree ] ]

-- nothing refuses a statement, and this is its tree
pub record IsAccepted (s : Scope) (stmt : Statement) (tree : Checked) : Type 0 where
  pub names : name_refusal s stmt ≡ None
  pub none : first_refusal (refusals s stmt) ≡ None
  pub is : tree_of s stmt ≡ tree

abbrev pub scope : Db → List ℕ → Ranges → Scope
scope db user ranges = record { db = db; user = user; ranges = ranges }

pub accepted : (db : Db) (user : List ℕ) (ranges : Ranges) (stmt : Statement) (tree : Checked) → resolved db user ranges stmt ≡ Ok tree
    → IsAccepted (scope db user ranges) stmt tree
unfolding resolved checked_tree
accepted db user ranges stmt tree e = go (name_refusal (scope db user ranges) stmt) (first_refusal (refusals (scope db user ranges) stmt)) refl refl e
  where
    go : (names more : Option ℕ) → name_refusal (scope db user ranges) stmt ≡ names → first_refusal (refusals (scope db user ranges) stmt) ≡ more
        → checked_tree names more (tree_of (scope db user ranges) stmt) ≡ Ok tree → IsAccepted (scope db user ranges) stmt tree
    go (Some n) more h k e = absurd (cc e)
    go None (Some n) h k e = absurd (cc e)
    go None None h k e = record { names = h; none = k; is = cc e }

purpose_is : (s : Scope) (stmt : Statement) → purpose_of (tree_of s stmt) ≡ purpose stmt
unfolding tree_of purpose_of purpose append_of replace_of delete_of into_of
purpose_is s (statement.Range var rel) = refl
purpose_is s (statement.Retrieve None items qual sort) = refl
purpose_is s (statement.Retrieve (Some name) items qual sort) = refl
purpose_is s (statement.Append rel items qual) = refl
purpose_is s (statement.Replace var items qual) = refl
purpose_is s (statement.Delete var qual) = refl
purpose_is s (statement.Create rel attrs) = refl
purpose_is s (statement.Destroy rels) = refl
purpose_is s (statement.DropPermits rel numbers) = refl
purpose_is s (statement.DropRules rel numbers) = refl
purpose_is s (statement.Modify rel to keys) = refl
purpose_is s (statement.Index base name keys) = refl
purpose_is s (statement.Print rels) = ap Prints (length-map rels (λ rel. whole (named s rel)))
purpose_is s (statement.Help None) = refl
purpose_is s (statement.Help (Some rel)) = refl
purpose_is s (statement.Copy rel columns from file) = refl
purpose_is s (statement.View name items qual) = refl
purpose_is s (statement.Permit ops var attrs user qual) = refl
purpose_is s (statement.Rule var qual) = refl

pub resolved_purpose : (db : Db) (user : List ℕ) (ranges : Ranges) (stmt : Statement) (tree : Checked) → resolved db user ranges stmt ≡ Ok tree → purpose_of tree ≡ purpose stmt
resolved_purpose db user ranges stmt tree e = ap purpose_of (sym (accepted db user ranges stmt tree e).is) ∙ purpose_is (scope db user ranges) stmt

-- ---- numbers

pub numbers_are : (s : Scope) (stmt : Statement) → map (λ c. c.0) (refusals s stmt) ≡ refusal_numbers stmt
unfolding refusals refusal_numbers
numbers_are s (statement.Range var rel) = refl
numbers_are s (statement.Retrieve None items qual sort) = refl
numbers_are s (statement.Retrieve (Some name) items qual sort) = refl
numbers_are s (statement.Append rel items qual) = refl
numbers_are s (statement.Replace var items qual) = refl
numbers_are s (statement.Delete var qual) = refl
numbers_are s (statement.Create rel attrs) = refl
numbers_are s (statement.Destroy rels) = refl
numbers_are s (statement.DropPermits rel numbers) = refl
numbers_are s (statement.DropRules rel numbers) = refl
numbers_are s (statement.Modify rel to keys) = refl
numbers_are s (statement.Index base name keys) = refl
numbers_are s (statement.Print rels) = refl
numbers_are s (statement.Help rel) = refl
numbers_are s (statement.Copy rel columns from file) = refl
numbers_are s (statement.View name items qual) = refl
numbers_are s (statement.Permit ops var attrs user qual) = refl
numbers_are s (statement.Rule var qual) = refl

or_true : (b c : Bool) → c ≡ true → (b || c) ≡ true
or_true true c h = refl
or_true false c h = h

-- the first cause that is there is one of the causes
refusal_listed : (cs : Causes) (n : ℕ) → first_refusal cs ≡ Some n → has_number (map (λ c. c.0) cs) n ≡ true
refusal_listed [] n e = absurd (cc e)
refusal_listed (c ∷ cs) n e = go (refusal_listed cs n) c.1 e
  where
    go : (first_refusal cs ≡ Some n → has_number (map (λ c. c.0) cs) n ≡ true) → (b : Bool)
        → ◌≡◌ {A = Option ℕ} (elim b [ true ↦ Some c.0 | false ↦ first_refusal cs ]) (Some n) → (nat_eq c.0 n || has_number (map (λ c. c.0) cs) n) ≡ true
    go later true e = ap (λ b. b || has_number (map (λ c. c.0) cs) n) (eq-eqb c.0 n (cc e))
    go later false e = or_true (nat_eq c.0 n) _ (later e)

-- the numbers that refuse a name
abbrev of_names : List ℕ
of_names = 10 ∷ 11 ∷ 12 ∷ []

-- what is said of a name is nothing or one of these numbers
IsOfNames : Option ℕ → Type 0
IsOfNames o = (n : ℕ) → o ≡ Some n → has_number of_names n ≡ true

none_of_names : IsOfNames None
unfolding IsOfNames
none_of_names n e = absurd (cc e)

some_of_names : (k : ℕ) → has_number of_names k ≡ true → IsOfNames (Some k)
unfolding IsOfNames
some_of_names k h n e = let same : k ≡ n = cc e in subst (λ m. has_number of_names m ≡ true) same h

in_found : (of_found : RelInfo → Option ℕ) → ((info : RelInfo) → IsOfNames (of_found info)) → (found : Option RelInfo) → IsOfNames (refusal_in of_found found)
in_found of_found h None = some_of_names 10 refl
in_found of_found h (Some info) = h info

of_attr : (name : List ℕ) (info : RelInfo) → IsOfNames (attr_refusal name info)
of_attr name info = go (attr_place info.attrs name)
  where
    go : (place : Option ℕ) → IsOfNames (elim place [ None ↦ Some 12 | Some place ↦ None ])
    go None = some_of_names 12 refl
    go (Some place) = none_of_names

of_variable : (s : Scope) (of_found : RelInfo → Option ℕ) → ((info : RelInfo) → IsOfNames (of_found info)) → (var : List ℕ) → IsOfNames (variable_refusal s of_found var)
of_variable s of_found h var = go (range_of s.ranges var)
  where
    go : (key : Option RelKey) → IsOfNames (elim key [ None ↦ Some 11 | Some key ↦ refusal_in of_found (info_at s.db key) ])
    go None = some_of_names 11 refl
    go (Some key) = in_found of_found h (info_at s.db key)

of_mention : (s : Scope) (m : Mention) → IsOfNames (mention_refusal s m)
of_mention s (Variable var) = of_variable s no_refusal (λ info. none_of_names) var
of_mention s (AttrOf var attr) = of_variable s (attr_refusal attr) (of_attr attr) var
of_mention s (Relation name) = in_found no_refusal (λ info. none_of_names) (named s name)
of_mention s (AttrIn name attr) = in_found (attr_refusal attr) (of_attr attr) (named s name)
of_mention s (Entry name) = go (entry_named s name)
  where
    go : (key : Option RelKey) → IsOfNames (elim key [ None ↦ Some 10 | Some key ↦ None ])
    go None = some_of_names 10 refl
    go (Some key) = none_of_names

of_mentions : (s : Scope) (ms : List Mention) → IsOfNames (first_number (map (mention_refusal s) ms))
of_mentions s [] = none_of_names
of_mentions s (m ∷ ms) = go (of_mentions s ms) (mention_refusal s m) (of_mention s m)
  where
    go : IsOfNames (first_number (map (mention_refusal s) ms)) → (o : Option ℕ) → IsOfNames o → IsOfNames (first_number (o ∷ map (mention_refusal s) ms))
    go later None h = later
    go later (Some n) h = h

in_both : (ms ns : List ℕ) (n : ℕ) → has_number ms n ≡ true → has_number (ms ++ ns) n ≡ true
in_both [] ns n h = absurd (cc h)
in_both (m ∷ ms) ns n h = go (in_both ms ns n) (nat_eq m n) h
  where
    go : (has_number ms n ≡ true → has_number (ms ++ ns) n ≡ true) → (b : Bool) → (b || has_number ms n) ≡ true → (b || has_number (ms ++ ns) n) ≡ true
    go later true h = refl
    go later false h = later h

in_second : (ms ns : List ℕ) (n : ℕ) → has_number ns n ≡ true → has_number (ms ++ ns) n ≡ true
in_second [] ns n h = h
in_second (m ∷ ms) ns n h = or_true (nat_eq m n) _ (in_second ms ns n h)

refused : (names more : Option ℕ) (tree : Checked) (numbers : List ℕ) → IsOfNames names → ((n : ℕ) → more ≡ Some n → has_number numbers n ≡ true)
    → (n : ℕ) → checked_tree names more tree ≡ Err n → has_number (of_names ++ numbers) n ≡ true
unfolding checked_tree IsOfNames
refused (Some k) more tree numbers h g n e = in_both of_names numbers n (h n (cc e))
refused None (Some k) tree numbers h g n e = in_second of_names numbers n (g n (cc e))
refused None None tree numbers h g n e = absurd (cc e)

pub refused_by : (db : Db) (user : List ℕ) (ranges : Ranges) (stmt : Statement) (n : ℕ) → resolved db user ranges stmt ≡ Err n
    → has_number (of_names ++ refusal_numbers stmt) n ≡ true
unfolding resolved checked_tree name_refusal
refused_by db user ranges stmt n e =
    refused (name_refusal (scope db user ranges) stmt) (first_refusal (refusals (scope db user ranges) stmt)) (tree_of (scope db user ranges) stmt) (refusal_numbers stmt)
    (of_mentions (scope db user ranges) (mentions (scope db user ranges) stmt))
    (λ k f. subst (λ ns. has_number ns k ≡ true) (numbers_are (scope db user ranges) stmt) (refusal_listed _ k f))
    n e
