-- What the statements that need no query are resolved to, by what refuses them.
use Rattle.std.proofs.Common.{◌≡◌, refl, sym, ap, ◌∙◌, ℕ, Bool, true, false, not, ◌||◌, ◌&&◌, List, [], ◌∷◌, map, slice_get, Option, Some, None, Result, Ok, Err, is_some}
use Rattle.std.specs.List.{filter_map, list_all, list_any}
use Rattle.calculus.specs.declared.query.Query.{Query}
use Rattle.calculus.specs.declared.request.Asked.{Asked}
use Rattle.calculus.specs.declared.request.Checked.{Checked}
use Rattle.calculus.specs.declared.request.Checked.TheVariants.{Answer, Utility}
use Rattle.calculus.specs.declared.request.CopyForm.{CopyForm}
use Rattle.calculus.specs.declared.request.Utility.TheVariants as utility
use Rattle.calculus.specs.declared.schema.RelInfo.{RelInfo}
use Rattle.calculus.specs.declared.schema.Spec.{Spec}
use Rattle.calculus.specs.declared.statement.Statement.{Statement}
use Rattle.calculus.specs.declared.statement.Statement.TheVariants as statement
use Rattle.calculus.specs.Database.{Db}
use Rattle.calculus.specs.Finding.{found}
use Rattle.calculus.specs.Keys.{same_key}
use Rattle.calculus.specs.Kinds.{is_text_kind}
use Rattle.calculus.specs.Lists.{differ_by}
use Rattle.calculus.specs.Replacement.{first_refusal}
use Rattle.calculus.specs.Stored.{attrs_in, kinds_at}
use Rattle.quel_meaning.proofs.Each.{Each, of_map}
use Rattle.quel_meaning.proofs.Found.{IsFound, names_found, named_there, named_again}
use Rattle.quel_meaning.specs.Aggregates.{aggregates_allowed}
use Rattle.quel_meaning.specs.Causes.{Causes, refusals, refusals_by, is_binary, is_binary_text, repeats}
use Rattle.quel_meaning.specs.Naming.{Relation, mentions, name_refusal, no_refusal, refusal_in}
use Rattle.quel_meaning.specs.Passing.{is_full, is_taken}
use Rattle.quel_meaning.specs.Ranges.{Ranges}
use Rattle.quel_meaning.specs.Resolved.{copy_col, help_on, help_on_all, resolved, tree_by, tree_of, whole}
use Rattle.quel_meaning.specs.Scope.{Scope, entry_named, key_found, named, place_found}
use Rattle.quel_meaning.specs.Structures.{structure_keys}
use Rattle.quel_meaning.specs.WrittenQuery.{query_of}
use Rattle.quel_names.specs.Asking.{scope_of}
use Rattle.utility_trees.specs.Serving.{is_binary_text_of}

-- ---- by what refuses

-- what is resolved, where this is the number of a name and this that of a cause
abbrev resolved_by : Db → List ℕ → Ranges → Statement → Option ℕ → Option ℕ → Result Checked ℕ
resolved_by db user ranges stmt name cause = elim name as (λ o. Result Checked ℕ) [
  | Some number ↦ Err number
  | None ↦ elim cause as (λ o. Result Checked ℕ) [ Some number ↦ Err number | None ↦ Ok (tree_of (scope_of db user ranges) stmt) ]
]

by_both : (db : Db) (user : List ℕ) (ranges : Ranges) (stmt : Statement)
    → resolved db user ranges stmt ≡ resolved_by db user ranges stmt (name_refusal (scope_of db user ranges) stmt) (first_refusal (refusals (scope_of db user ranges) stmt))
unfolding resolved
by_both db user ranges stmt = refl

-- a number, where it is that of the first cause whatever the query is
by_cause : (db : Db) (user : List ℕ) (ranges : Ranges) (stmt : Statement) (n : ℕ) → name_refusal (scope_of db user ranges) stmt ≡ None
    → ((stand : Bool) (q : Query) → first_refusal (refusals_by (scope_of db user ranges) stand q stmt) ≡ Some n) → resolved db user ranges stmt ≡ Err n
unfolding refusals
by_cause db user ranges stmt n h k =
    let s = scope_of db user ranges in
    by_both db user ranges stmt ∙ (λ i. resolved_by db user ranges stmt (h i) (k (aggregates_allowed s stmt) (query_of s stmt) i))

-- the tree, where there is no cause whatever the query is
by_nothing : (db : Db) (user : List ℕ) (ranges : Ranges) (stmt : Statement) (tree : Checked) → name_refusal (scope_of db user ranges) stmt ≡ None
    → ((stand : Bool) (q : Query) → first_refusal (refusals_by (scope_of db user ranges) stand q stmt) ≡ None) → ((q : Query) → tree ≡ tree_by (scope_of db user ranges) q stmt)
    → resolved db user ranges stmt ≡ Ok tree
unfolding refusals tree_of
by_nothing db user ranges stmt tree h k t =
    let s = scope_of db user ranges in
    by_both db user ranges stmt ∙ (λ i. resolved_by db user ranges stmt (h i) (k (aggregates_allowed s stmt) (query_of s stmt) i)) ∙ ap Ok (sym (t (query_of s stmt)))

-- a first cause that isn't there is passed over
passed_over : (n : ℕ) (b : Bool) (cs : Causes) → b ≡ false → first_refusal ((n, b) ∷ cs) ≡ first_refusal cs
passed_over n b cs e = ap (λ b. elim b as (λ x. Option ℕ) [ true ↦ Some n | false ↦ first_refusal cs ]) e

-- one that is there refuses
refuses : (n : ℕ) (b : Bool) (cs : Causes) → b ≡ true → first_refusal ((n, b) ∷ cs) ≡ Some n
refuses n b cs e = ap (λ b. elim b as (λ x. Option ℕ) [ true ↦ Some n | false ↦ first_refusal cs ]) e

-- ---- names that were found

-- what is meant by a name that is what it has to be is there
there : (s : Scope) (rel : List ℕ) → IsFound s (Relation rel) → found s.db s.user rel ≡ None → ⊥
unfolding named
there s rel h k = go (found s.db s.user rel) k h
  where
    go : (o : Option RelInfo) → o ≡ None → refusal_in no_refusal o ≡ None → ⊥
    go None e f = cc f
    go (Some info) e f = cc e

is_named : (s : Scope) (rel : List ℕ) (info : RelInfo) → found s.db s.user rel ≡ Some info → named s rel ≡ Some info
unfolding named
is_named s rel info e = e

-- ---- destroy

pub destroy_tree : (db : Db) (user : List ℕ) (ranges : Ranges) (rels : List (List ℕ)) (tree : Checked) → name_refusal (scope_of db user ranges) (statement.Destroy rels) ≡ None
    → differ_by same_key (filter_map (entry_named (scope_of db user ranges)) rels) ≡ true
    → tree ≡ Utility (utility.Destroy (filter_map (entry_named (scope_of db user ranges)) rels)) → resolved db user ranges (statement.Destroy rels) ≡ Ok tree
destroy_tree db user ranges rels tree h d t = by_nothing db user ranges (statement.Destroy rels) tree h (λ stand q. passed_over 17 _ [] (ap not d)) (λ q. t)

pub destroy_number : (db : Db) (user : List ℕ) (ranges : Ranges) (rels : List (List ℕ)) (n : ℕ) → name_refusal (scope_of db user ranges) (statement.Destroy rels) ≡ None
    → differ_by same_key (filter_map (entry_named (scope_of db user ranges)) rels) ≡ false → n ≡ 17 → resolved db user ranges (statement.Destroy rels) ≡ Err n
destroy_number db user ranges rels n h d e = by_cause db user ranges (statement.Destroy rels) 17 h (λ stand q. refuses 17 _ [] (ap not d)) ∙ ap Err (sym e)

-- ---- modify

pub modify_there : (db : Db) (user : List ℕ) (ranges : Ranges) (rel : List ℕ) (to : Spec) (keys : List (List ℕ)) → name_refusal (scope_of db user ranges) (statement.Modify rel to keys) ≡ None
    → found db user rel ≡ None → ⊥
unfolding mentions
modify_there db user ranges rel to keys h = there (scope_of db user ranges) rel (names_found (scope_of db user ranges) (statement.Modify rel to keys) h).0

pub modify_number : (db : Db) (user : List ℕ) (ranges : Ranges) (rel : List ℕ) (to : Spec) (keys : List (List ℕ)) → name_refusal (scope_of db user ranges) (statement.Modify rel to keys) ≡ None
    → repeats keys ≡ true → resolved db user ranges (statement.Modify rel to keys) ≡ Err 17
modify_number db user ranges rel to keys h e = by_cause db user ranges (statement.Modify rel to keys) 17 h (λ stand q. refuses 17 _ [] e)

pub modify_tree : (db : Db) (user : List ℕ) (ranges : Ranges) (rel : List ℕ) (to : Spec) (keys : List (List ℕ)) (info : RelInfo) (tree : Checked)
    → name_refusal (scope_of db user ranges) (statement.Modify rel to keys) ≡ None → repeats keys ≡ false → found db user rel ≡ Some info
    → tree ≡ Utility (utility.Modify info.key to (structure_keys to (map (place_found (Some info)) keys))) → resolved db user ranges (statement.Modify rel to keys) ≡ Ok tree
modify_tree db user ranges rel to keys info tree h e f t =
    by_nothing db user ranges (statement.Modify rel to keys) tree h (λ stand q. passed_over 17 _ [] e)
    (λ q. t ∙ sym (ap (λ o. Utility (utility.Modify (key_found o) to (structure_keys to (map (place_found o) keys)))) (is_named (scope_of db user ranges) rel info f)))

-- ---- index

pub index_there : (db : Db) (user : List ℕ) (ranges : Ranges) (rel name : List ℕ) (keys : List (List ℕ)) → name_refusal (scope_of db user ranges) (statement.Index rel name keys) ≡ None
    → found db user rel ≡ None → ⊥
unfolding mentions
index_there db user ranges rel name keys h = there (scope_of db user ranges) rel (names_found (scope_of db user ranges) (statement.Index rel name keys) h).0

-- what refuses an index
abbrev index_refusals : Db → List ℕ → List ℕ → List (List ℕ) → Causes
index_refusals db user name keys = (17, repeats keys) ∷ (14, is_full db) ∷ (15, is_taken db user name) ∷ []

pub index_number : (db : Db) (user : List ℕ) (ranges : Ranges) (rel name : List ℕ) (keys : List (List ℕ)) (n : ℕ) → name_refusal (scope_of db user ranges) (statement.Index rel name keys) ≡ None
    → first_refusal (index_refusals db user name keys) ≡ Some n → resolved db user ranges (statement.Index rel name keys) ≡ Err n
index_number db user ranges rel name keys n h e = by_cause db user ranges (statement.Index rel name keys) n h (λ stand q. e)

pub index_tree : (db : Db) (user : List ℕ) (ranges : Ranges) (rel name : List ℕ) (keys : List (List ℕ)) (info : RelInfo) (tree : Checked)
    → name_refusal (scope_of db user ranges) (statement.Index rel name keys) ≡ None → first_refusal (index_refusals db user name keys) ≡ None → found db user rel ≡ Some info
    → tree ≡ Utility (utility.Index info.key name (map (place_found (Some info)) keys)) → resolved db user ranges (statement.Index rel name keys) ≡ Ok tree
index_tree db user ranges rel name keys info tree h e f t =
    by_nothing db user ranges (statement.Index rel name keys) tree h (λ stand q. e)
    (λ q. t ∙ sym (ap (λ o. Utility (utility.Index (key_found o) name (map (place_found o) keys))) (is_named (scope_of db user ranges) rel info f)))

-- ---- print

pub print_there : (db : Db) (user : List ℕ) (ranges : Ranges) (rels : List (List ℕ)) → name_refusal (scope_of db user ranges) (statement.Print rels) ≡ None
    → list_all (λ rel. is_some (found db user rel)) rels ≡ false → ⊥
unfolding mentions
print_there db user ranges rels h k = all rels (of_map (IsFound (scope_of db user ranges)) Relation rels (names_found (scope_of db user ranges) (statement.Print rels) h)) k
  where
    all : (rels : List (List ℕ)) → Each (λ rel. IsFound (scope_of db user ranges) (Relation rel)) rels → list_all (λ rel. is_some (found db user rel)) rels ≡ false → ⊥
    all [] e k = cc k
    all (r ∷ rels) e k = go (found db user r) refl (all rels e.1) k
      where
        go : (o : Option RelInfo) → found db user r ≡ o → (list_all (λ rel. is_some (found db user rel)) rels ≡ false → ⊥) → (is_some o && list_all (λ rel. is_some (found db user rel)) rels) ≡ false → ⊥
        go None f later k = there (scope_of db user ranges) r e.0 f
        go (Some info) f later k = later k

pub print_tree : (db : Db) (user : List ℕ) (ranges : Ranges) (rels : List (List ℕ)) (asked : List Asked) → name_refusal (scope_of db user ranges) (statement.Print rels) ≡ None
    → asked ≡ map (λ rel. whole (found db user rel)) rels → resolved db user ranges (statement.Print rels) ≡ Ok (Answer asked)
unfolding named
print_tree db user ranges rels asked h e = by_nothing db user ranges (statement.Print rels) (Answer asked) h (λ stand q. refl) (λ q. ap Answer e)

-- ---- help

pub help_all_tree : (db : Db) (user : List ℕ) (ranges : Ranges) (tree : Checked) → name_refusal (scope_of db user ranges) (statement.Help None) ≡ None
    → tree ≡ Answer (help_on_all (scope_of db user ranges) ∷ []) → resolved db user ranges (statement.Help None) ≡ Ok tree
help_all_tree db user ranges tree h t = by_nothing db user ranges (statement.Help None) tree h (λ stand q. refl) (λ q. t)

pub help_there : (db : Db) (user : List ℕ) (ranges : Ranges) (rel : List ℕ) → name_refusal (scope_of db user ranges) (statement.Help (Some rel)) ≡ None → found db user rel ≡ None → ⊥
unfolding mentions
help_there db user ranges rel h = there (scope_of db user ranges) rel (names_found (scope_of db user ranges) (statement.Help (Some rel)) h).0

pub help_tree : (db : Db) (user : List ℕ) (ranges : Ranges) (rel : List ℕ) (info : RelInfo) (tree : Checked) → name_refusal (scope_of db user ranges) (statement.Help (Some rel)) ≡ None
    → found db user rel ≡ Some info → tree ≡ Answer (help_on (scope_of db user ranges) (Some info) ∷ []) → resolved db user ranges (statement.Help (Some rel)) ≡ Ok tree
help_tree db user ranges rel info tree h f t =
    by_nothing db user ranges (statement.Help (Some rel)) tree h (λ stand q. refl)
    (λ q. t ∙ sym (ap (λ o. Answer (help_on (scope_of db user ranges) o ∷ [])) (is_named (scope_of db user ranges) rel info f)))

-- ---- copy

pub copy_there : (db : Db) (user : List ℕ) (ranges : Ranges) (rel : List ℕ) (columns : List (List ℕ × CopyForm)) (from : Bool) (file : List ℕ)
    → name_refusal (scope_of db user ranges) (statement.Copy rel columns from file) ≡ None → found db user rel ≡ None → ⊥
unfolding mentions
copy_there db user ranges rel columns from file h = there (scope_of db user ranges) rel (names_found (scope_of db user ranges) (statement.Copy rel columns from file) h).0

-- the kinds under the key of what was found are those of its attributes
kinds_are : (s : Scope) (rel : List ℕ) (info : RelInfo) → named s rel ≡ Some info → kinds_at s.db (key_found (named s rel)) ≡ map (λ a. a.kind) info.attrs
kinds_are s rel info e =
    let r = named_there s rel info e in
    let same : Some r.info ≡ Some info = sym r.is ∙ e in
    ap (λ o. kinds_at s.db (key_found o)) r.is ∙ ap (λ o. map (λ a. a.kind) (attrs_in o)) (named_again s rel r ∙ same)

binary_texts : (s : Scope) (rel : List ℕ) (info : RelInfo) (columns : List (List ℕ × CopyForm)) → named s rel ≡ Some info
    → list_any (is_binary_text s (named s rel)) columns ≡ list_any (is_binary_text_of info) columns
binary_texts s rel info [] e = refl
binary_texts s rel info (c ∷ columns) e = λ i. one c i || binary_texts s rel info columns e i
  where
    one : (c : List ℕ × CopyForm) → is_binary_text s (named s rel) c ≡ is_binary_text_of info c
    one c = λ i. is_binary c.1 && is_text_kind (slice_get (kinds_are s rel info e i) (place_found (e i) c.0))

pub copy_twice : (db : Db) (user : List ℕ) (ranges : Ranges) (rel : List ℕ) (columns : List (List ℕ × CopyForm)) (from : Bool) (file : List ℕ)
    → name_refusal (scope_of db user ranges) (statement.Copy rel columns from file) ≡ None → repeats (map (λ c. c.0) columns) ≡ true
    → resolved db user ranges (statement.Copy rel columns from file) ≡ Err 17
copy_twice db user ranges rel columns from file h e =
    let s = scope_of db user ranges in
    by_cause db user ranges (statement.Copy rel columns from file) 17 h (λ stand q. refuses 17 _ ((13, list_any (is_binary_text s (named s rel)) columns) ∷ []) e)

pub copy_binary : (db : Db) (user : List ℕ) (ranges : Ranges) (rel : List ℕ) (columns : List (List ℕ × CopyForm)) (from : Bool) (file : List ℕ) (info : RelInfo) (n : ℕ)
    → name_refusal (scope_of db user ranges) (statement.Copy rel columns from file) ≡ None → repeats (map (λ c. c.0) columns) ≡ false → found db user rel ≡ Some info
    → list_any (is_binary_text_of info) columns ≡ true → n ≡ 13 → resolved db user ranges (statement.Copy rel columns from file) ≡ Err n
copy_binary db user ranges rel columns from file info n h e f b k =
    let s = scope_of db user ranges in
    by_cause db user ranges (statement.Copy rel columns from file) 13 h
    (λ stand q. passed_over 17 _ ((13, list_any (is_binary_text s (named s rel)) columns) ∷ []) e ∙ refuses 13 _ [] (binary_texts s rel info columns (is_named s rel info f) ∙ b)) ∙ ap Err (sym k)

pub copy_tree : (db : Db) (user : List ℕ) (ranges : Ranges) (rel : List ℕ) (columns : List (List ℕ × CopyForm)) (from : Bool) (file : List ℕ) (info : RelInfo) (tree : Checked)
    → name_refusal (scope_of db user ranges) (statement.Copy rel columns from file) ≡ None → repeats (map (λ c. c.0) columns) ≡ false → found db user rel ≡ Some info
    → list_any (is_binary_text_of info) columns ≡ false → tree ≡ Utility (utility.Copy info.key (map (copy_col (Some info)) columns) from file)
    → resolved db user ranges (statement.Copy rel columns from file) ≡ Ok tree
copy_tree db user ranges rel columns from file info tree h e f b t =
    let s = scope_of db user ranges in
    by_nothing db user ranges (statement.Copy rel columns from file) tree h
    (λ stand q. passed_over 17 _ ((13, list_any (is_binary_text s (named s rel)) columns) ∷ []) e ∙ passed_over 13 _ [] (binary_texts s rel info columns (is_named s rel info f) ∙ b))
    (λ q. t ∙ sym (ap (λ o. Utility (utility.Copy (key_found o) (map (copy_col o) columns) from file)) (is_named s rel info f)))
