-- What statements change, and the trees of those that change nothing.
use Rattle.std.proofs.Common.{◌≡◌, refl, ap, ◌∙◌, ℕ, ◌≤◌, arith, Bool, true, false, List, [], length, Option, Some, None}
use Rattle.std.proofs.lemmas.Bool.{leb-true}
use Rattle.calculus.specs.declared.query.Query.{Query}
use Rattle.calculus.specs.declared.query.Target.{Target}
use Rattle.calculus.specs.declared.request.Checked.TheVariants as checked
use Rattle.calculus.specs.declared.request.Update.{Update}
use Rattle.calculus.specs.declared.schema.RelInfo.{RelInfo}
use Rattle.calculus.specs.declared.statement.Item.{Item}
use Rattle.calculus.specs.declared.statement.Qual.{Qual}
use Rattle.calculus.specs.declared.statement.Statement.{Statement}
use Rattle.calculus.specs.declared.value.Domain.{Domain}
use Rattle.calculus.specs.declared.statement.Statement.TheVariants as statement
use Rattle.calculus.specs.IsDatabase.{IsDatabase}
use Rattle.calculus.specs.QueryParts.{targets_of}
use Rattle.calculus.specs.Replacement.{first_refusal, made_attr}
use Rattle.calculus.specs.Finding.{found}
use Rattle.calculus.specs.Keys.{key_of}
use Rattle.calculus.specs.Stored.{attrs_in, info_at}
use Rattle.quel_refusals.specs.CheckedStatements.{IsOn, is_checked, update_of}
use Rattle.quel_meaning.proofs.Each.{Each}
use Rattle.quel_meaning.proofs.Found.{names_found, named_with, ranged_with, ranged_is}
use Rattle.quel_meaning.proofs.ReadsFit.{narrow_targets, none_of}
use Rattle.quel_meaning.specs.Causes.{refusals, print_refusals, into_refusals, view_refusals}
use Rattle.quel_meaning.specs.Aggregates.{aggregates_allowed}
use Rattle.quel_meaning.specs.FitQueries.{has_few_targets}
use Rattle.quel_meaning.specs.Naming.{mentions, name_refusal, no_refusal}
use Rattle.quel_meaning.specs.Resolved.{tree_by, tree_of}
use Rattle.quel_meaning.specs.StatementUpdate.{append_of, replace_of, delete_of}
use Rattle.quel_meaning.specs.Scope.{Scope, named}
use Rattle.quel_meaning.specs.WrittenQuery.{query_of}
use Rattle.quel_resolve.specs.Changed.{changed, is_built as has_tree}
use Rattle.quel_resolve.proofs.Overs.{few_under, few_over}
use Rattle.quel_resolve.specs.Kinds.{changes_rows, is_range}

few_named : (s : Scope) → IsDatabase s.db → (rel : List ℕ) (info : RelInfo) → named s rel ≡ Some info → length info.attrs ≤ 256
unfolding named found
few_named s is rel info h = go (info_at s.db (key_of s.user rel)) refl h
  where
    go : (o : Option RelInfo) → info_at s.db (key_of s.user rel) ≡ o
        → ◌≡◌ {A = Option RelInfo} (elim o [ Some own ↦ Some own | None ↦ info_at s.db (key_of s.db.dba rel) ]) (Some info) → length info.attrs ≤ 256
    go None f k = few_under s.db is (key_of s.db.dba rel) info k
    go (Some own) f k = few_under s.db is (key_of s.user rel) info (f ∙ k)

-- what a statement changes has few attributes
pub few_changed : (s : Scope) → IsDatabase s.db → (stmt : Statement) (info : RelInfo) → changed s stmt ≡ Some info → length info.attrs ≤ 256
few_changed s is (statement.Append rel items qual) info h = few_named s is rel info h
few_changed s is (statement.Replace var items qual) info h = few_over s is var info h
few_changed s is (statement.Delete var qual) info h = few_over s is var info h
few_changed s is (statement.Range var rel) info h = absurd (cc h)
few_changed s is (statement.Retrieve into items qual sort) info h = absurd (cc h)
few_changed s is (statement.Create rel attrs) info h = absurd (cc h)
few_changed s is (statement.Destroy rels) info h = absurd (cc h)
few_changed s is (statement.DropPermits rel numbers) info h = few_named s is rel info h
few_changed s is (statement.DropRules rel numbers) info h = few_named s is rel info h
few_changed s is (statement.Modify rel to keys) info h = absurd (cc h)
few_changed s is (statement.Index base name keys) info h = absurd (cc h)
few_changed s is (statement.Print rels) info h = absurd (cc h)
few_changed s is (statement.Help rel) info h = absurd (cc h)
few_changed s is (statement.Copy rel columns from file) info h = absurd (cc h)
few_changed s is (statement.View name items qual) info h = absurd (cc h)
few_changed s is (statement.Permit ops var attrs user qual) info h = few_over s is var info h
few_changed s is (statement.Rule var qual) info h = few_over s is var info h

pub few_known : (s : Scope) → IsDatabase s.db → (stmt : Statement) (o : Option RelInfo) → changed s stmt ≡ o → length (attrs_in o) ≤ 256
few_known s is stmt None h = omega arith
few_known s is stmt (Some info) h = few_changed s is stmt info h

-- a statement whose names were found and that changes nothing is no update
pub no_update : (s : Scope) (stmt : Statement) (q : Query) → name_refusal s stmt ≡ None → changed s stmt ≡ None → None ≡ update_of s stmt q
unfolding mentions
no_update s (statement.Append rel items qual) q h k =
    let r = named_with s no_refusal rel (names_found s (statement.Append rel items qual) h).0 in
    absurd (cc (k, r.is))
no_update s (statement.Replace var items qual) q h k =
    let r = (ranged_with s no_refusal var (names_found s (statement.Replace var items qual) h).0).is in
    absurd (cc (k, ranged_is s var r))
no_update s (statement.Delete var qual) q h k =
    let r = (ranged_with s no_refusal var (names_found s (statement.Delete var qual) h).0).is in
    absurd (cc (k, ranged_is s var r))
no_update s (statement.Range var rel) q h k = refl
no_update s (statement.Retrieve into items qual sort) q h k = refl
no_update s (statement.Create rel attrs) q h k = refl
no_update s (statement.Destroy rels) q h k = refl
no_update s (statement.DropPermits rel numbers) q h k = refl
no_update s (statement.DropRules rel numbers) q h k = refl
no_update s (statement.Modify rel to keys) q h k = refl
no_update s (statement.Index base name keys) q h k = refl
no_update s (statement.Print rels) q h k = refl
no_update s (statement.Help rel) q h k = refl
no_update s (statement.Copy rel columns from file) q h k = refl
no_update s (statement.View name items qual) q h k = refl
no_update s (statement.Permit ops var attrs user qual) q h k = refl
no_update s (statement.Rule var qual) q h k = refl

-- the tree of an update is the update
pub update_tree : (s : Scope) (stmt : Statement) (q : Query) (u : Update) → Some u ≡ update_of s stmt q → checked.Update u ≡ tree_by s q stmt
update_tree s (statement.Append rel items qual) q u h = cc h
update_tree s (statement.Replace var items qual) q u h = cc h
update_tree s (statement.Delete var qual) q u h = cc h
update_tree s (statement.Range var rel) q u h = absurd (cc h)
update_tree s (statement.Retrieve into items qual sort) q u h = absurd (cc h)
update_tree s (statement.Create rel attrs) q u h = absurd (cc h)
update_tree s (statement.Destroy rels) q u h = absurd (cc h)
update_tree s (statement.DropPermits rel numbers) q u h = absurd (cc h)
update_tree s (statement.DropRules rel numbers) q u h = absurd (cc h)
update_tree s (statement.Modify rel to keys) q u h = absurd (cc h)
update_tree s (statement.Index base name keys) q u h = absurd (cc h)
update_tree s (statement.Print rels) q u h = absurd (cc h)
update_tree s (statement.Help rel) q u h = absurd (cc h)
update_tree s (statement.Copy rel columns from file) q u h = absurd (cc h)
update_tree s (statement.View name items qual) q u h = absurd (cc h)
update_tree s (statement.Permit ops var attrs user qual) q u h = absurd (cc h)
update_tree s (statement.Rule var qual) q u h = absurd (cc h)

-- a statement that changes rows is an update
pub is_update : (s : Scope) (stmt : Statement) (q : Query) → changes_rows stmt ≡ true → None ≡ update_of s stmt q → false ≡ true
is_update s (statement.Range var rel) q h k = absurd (cc h)
is_update s (statement.Retrieve into items qual sort) q h k = absurd (cc h)
is_update s (statement.Append rel items qual) q h k = absurd (cc k)
is_update s (statement.Replace var items qual) q h k = absurd (cc k)
is_update s (statement.Delete var qual) q h k = absurd (cc k)
is_update s (statement.Create rel attrs) q h k = absurd (cc h)
is_update s (statement.Destroy rels) q h k = absurd (cc h)
is_update s (statement.DropPermits rel numbers) q h k = absurd (cc h)
is_update s (statement.DropRules rel numbers) q h k = absurd (cc h)
is_update s (statement.Modify rel to keys) q h k = absurd (cc h)
is_update s (statement.Index base name keys) q h k = absurd (cc h)
is_update s (statement.Print rels) q h k = absurd (cc h)
is_update s (statement.Help rel) q h k = absurd (cc h)
is_update s (statement.Copy rel columns from file) q h k = absurd (cc h)
is_update s (statement.View name items qual) q h k = absurd (cc h)
is_update s (statement.Permit ops var attrs user qual) q h k = absurd (cc h)
is_update s (statement.Rule var qual) q h k = absurd (cc h)

-- one that changes none is no update
pub no_rows : (s : Scope) (stmt : Statement) (q : Query) → changes_rows stmt ≡ false → None ≡ update_of s stmt q
no_rows s (statement.Range var rel) q h = refl
no_rows s (statement.Retrieve into items qual sort) q h = refl
no_rows s (statement.Append rel items qual) q h = absurd (cc h)
no_rows s (statement.Replace var items qual) q h = absurd (cc h)
no_rows s (statement.Delete var qual) q h = absurd (cc h)
no_rows s (statement.Create rel attrs) q h = refl
no_rows s (statement.Destroy rels) q h = refl
no_rows s (statement.DropPermits rel numbers) q h = refl
no_rows s (statement.DropRules rel numbers) q h = refl
no_rows s (statement.Modify rel to keys) q h = refl
no_rows s (statement.Index base name keys) q h = refl
no_rows s (statement.Print rels) q h = refl
no_rows s (statement.Help rel) q h = refl
no_rows s (statement.Copy rel columns from file) q h = refl
no_rows s (statement.View name items qual) q h = refl
no_rows s (statement.Permit ops var attrs user qual) q h = refl
no_rows s (statement.Rule var qual) q h = refl

-- an update is no permit and no rule
pub update_on : (s : Scope) (stmt : Statement) (q : Query) (u : Update) → Some u ≡ update_of s stmt q → (on : Option RelInfo) → IsOn s stmt on
update_on s (statement.Range var rel) q u h on = tt
update_on s (statement.Retrieve into items qual sort) q u h on = tt
update_on s (statement.Append rel items qual) q u h on = tt
update_on s (statement.Replace var items qual) q u h on = tt
update_on s (statement.Delete var qual) q u h on = tt
update_on s (statement.Create rel attrs) q u h on = tt
update_on s (statement.Destroy rels) q u h on = tt
update_on s (statement.DropPermits rel numbers) q u h on = tt
update_on s (statement.DropRules rel numbers) q u h on = tt
update_on s (statement.Modify rel to keys) q u h on = tt
update_on s (statement.Index base name keys) q u h on = tt
update_on s (statement.Print rels) q u h on = tt
update_on s (statement.Help rel) q u h on = tt
update_on s (statement.Copy rel columns from file) q u h on = tt
update_on s (statement.View name items qual) q u h on = tt
update_on s (statement.Permit ops var attrs user qual) q u h on = absurd (cc h)
update_on s (statement.Rule var qual) q u h on = absurd (cc h)

-- what changes this and has a tree is, where it is a permit or a rule, on what this is known of
pub on_changed : (s : Scope) (stmt : Statement) (on : Option RelInfo) → changed s stmt ≡ on → has_tree stmt on ≡ true → IsOn s stmt on
on_changed s (statement.Range var rel) on h k = tt
on_changed s (statement.Retrieve into items qual sort) on h k = tt
on_changed s (statement.Append rel items qual) on h k = tt
on_changed s (statement.Replace var items qual) on h k = tt
on_changed s (statement.Delete var qual) on h k = tt
on_changed s (statement.Create rel attrs) on h k = tt
on_changed s (statement.Destroy rels) on h k = tt
on_changed s (statement.DropPermits rel numbers) on h k = tt
on_changed s (statement.DropRules rel numbers) on h k = tt
on_changed s (statement.Modify rel to keys) on h k = tt
on_changed s (statement.Index base name keys) on h k = tt
on_changed s (statement.Print rels) on h k = tt
on_changed s (statement.Help rel) on h k = tt
on_changed s (statement.Copy rel columns from file) on h k = tt
on_changed s (statement.View name items qual) on h k = tt
on_changed s (statement.Permit ops var attrs user qual) None h k = absurd (cc k)
on_changed s (statement.Permit ops var attrs user qual) (Some info) h k = h
on_changed s (statement.Rule var qual) None h k = absurd (cc k)
on_changed s (statement.Rule var qual) (Some info) h k = h

-- a statement that needs a query, declares nothing and changes no rows has a tree where what it changes is there
pub has_tree_on : (stmt : Statement) (info : RelInfo) → is_checked stmt ≡ true → is_range stmt ≡ false → changes_rows stmt ≡ false → has_tree stmt (Some info) ≡ true
has_tree_on (statement.Range var rel) info w h k = absurd (cc h)
has_tree_on (statement.Retrieve into items qual sort) info w h k = refl
has_tree_on (statement.Append rel items qual) info w h k = absurd (cc k)
has_tree_on (statement.Replace var items qual) info w h k = absurd (cc k)
has_tree_on (statement.Delete var qual) info w h k = absurd (cc k)
has_tree_on (statement.Create rel attrs) info w h k = refl
has_tree_on (statement.Destroy rels) info w h k = absurd (cc w)
has_tree_on (statement.DropPermits rel numbers) info w h k = refl
has_tree_on (statement.DropRules rel numbers) info w h k = refl
has_tree_on (statement.Modify rel to keys) info w h k = absurd (cc w)
has_tree_on (statement.Index base name keys) info w h k = absurd (cc w)
has_tree_on (statement.Print rels) info w h k = absurd (cc w)
has_tree_on (statement.Help rel) info w h k = absurd (cc w)
has_tree_on (statement.Copy rel columns from file) info w h k = absurd (cc w)
has_tree_on (statement.View name items qual) info w h k = refl
has_tree_on (statement.Permit ops var attrs user qual) info w h k = refl
has_tree_on (statement.Rule var qual) info w h k = refl

-- one whose names were found and that changes nothing has a tree
pub has_tree_alone : (s : Scope) (stmt : Statement) → name_refusal s stmt ≡ None → changed s stmt ≡ None → is_checked stmt ≡ true → is_range stmt ≡ false → has_tree stmt None ≡ true
unfolding mentions
has_tree_alone s (statement.Range var rel) n c w h = absurd (cc h)
has_tree_alone s (statement.Retrieve into items qual sort) n c w h = refl
has_tree_alone s (statement.Append rel items qual) n c w h =
    let r = named_with s no_refusal rel (names_found s (statement.Append rel items qual) n).0 in
    absurd (cc (c, r.is))
has_tree_alone s (statement.Replace var items qual) n c w h =
    let r = (ranged_with s no_refusal var (names_found s (statement.Replace var items qual) n).0).is in
    absurd (cc (c, ranged_is s var r))
has_tree_alone s (statement.Delete var qual) n c w h =
    let r = (ranged_with s no_refusal var (names_found s (statement.Delete var qual) n).0).is in
    absurd (cc (c, ranged_is s var r))
has_tree_alone s (statement.Create rel attrs) n c w h = refl
has_tree_alone s (statement.Destroy rels) n c w h = absurd (cc w)
has_tree_alone s (statement.DropPermits rel numbers) n c w h =
    let r = named_with s no_refusal rel (names_found s (statement.DropPermits rel numbers) n).0 in
    absurd (cc (c, r.is))
has_tree_alone s (statement.DropRules rel numbers) n c w h =
    let r = named_with s no_refusal rel (names_found s (statement.DropRules rel numbers) n).0 in
    absurd (cc (c, r.is))
has_tree_alone s (statement.Modify rel to keys) n c w h = absurd (cc w)
has_tree_alone s (statement.Index base name keys) n c w h = absurd (cc w)
has_tree_alone s (statement.Print rels) n c w h = absurd (cc w)
has_tree_alone s (statement.Help rel) n c w h = absurd (cc w)
has_tree_alone s (statement.Copy rel columns from file) n c w h = absurd (cc w)
has_tree_alone s (statement.View name items qual) n c w h = refl
has_tree_alone s (statement.Permit ops var attrs user qual) n c w h =
    let r = (ranged_with s no_refusal var (names_found s (statement.Permit ops var attrs user qual) n).0).is in
    absurd (cc (c, ranged_is s var r))
has_tree_alone s (statement.Rule var qual) n c w h =
    let r = (ranged_with s no_refusal var (names_found s (statement.Rule var qual) n).0).is in
    absurd (cc (c, ranged_is s var r))

few_if : (q : Query) → has_few_targets q ≡ true → length (targets_of q) ≤ 256
few_if q h = let few : length (targets_of q) ≤ 49 = leb-true _ _ h in omega (arith, few)

few_printed : (s : Scope) (items : List Item) (qual : Qual) (sort : List (List ℕ × Bool)) → first_refusal (refusals s (statement.Retrieve None items qual sort)) ≡ None
    → length (targets_of (query_of s (statement.Retrieve None items qual sort))) ≤ 256
unfolding refusals
few_printed s items qual sort n = few_if q (narrow_targets q (λ (t : Target). t.kind) none.1.1.1.1.0)
  where
    stmt : Statement
    stmt = statement.Retrieve None items qual sort

    q : Query
    q = query_of s stmt

    none : Each (λ c. c.1 ≡ false) (print_refusals s (aggregates_allowed s stmt) sort q)
    none = none_of (print_refusals s (aggregates_allowed s stmt) sort q) n

few_kept : (s : Scope) (name : List ℕ) (items : List Item) (qual : Qual) (sort : List (List ℕ × Bool)) → first_refusal (refusals s (statement.Retrieve (Some name) items qual sort)) ≡ None
    → length (targets_of (query_of s (statement.Retrieve (Some name) items qual sort))) ≤ 256
unfolding refusals
few_kept s name items qual sort n = few_if q (narrow_targets q (λ (t : Target). (made_attr t).kind) none.1.1.1.1.1.0)
  where
    stmt : Statement
    stmt = statement.Retrieve (Some name) items qual sort

    q : Query
    q = query_of s stmt

    none : Each (λ c. c.1 ≡ false) (into_refusals s (aggregates_allowed s stmt) name sort q)
    none = none_of (into_refusals s (aggregates_allowed s stmt) name sort q) n

no_target : (s : Scope) (rel : List ℕ) (attrs : List (List ℕ × Domain)) → length (targets_of (query_of s (statement.Create rel attrs))) ≤ 256
unfolding query_of
no_target s rel attrs = omega arith

no_targets_dropped : (s : Scope) (rel : List ℕ) (numbers : List ℕ) → length (targets_of (query_of s (statement.DropPermits rel numbers))) ≤ 256
unfolding query_of
no_targets_dropped s rel numbers = omega arith

no_rules_dropped : (s : Scope) (rel : List ℕ) (numbers : List ℕ) → length (targets_of (query_of s (statement.DropRules rel numbers))) ≤ 256
unfolding query_of
no_rules_dropped s rel numbers = omega arith

none_permitted : (s : Scope) (ops : ℕ) (var : List ℕ) (attrs : List (List ℕ)) (user : Option (List ℕ)) (qual : Qual) → length (targets_of (query_of s (statement.Permit ops var attrs user qual))) ≤ 256
unfolding query_of
none_permitted s ops var attrs user qual = omega arith

none_ruled : (s : Scope) (var : List ℕ) (qual : Qual) → length (targets_of (query_of s (statement.Rule var qual))) ≤ 256
unfolding query_of
none_ruled s var qual = omega arith

few_viewed : (s : Scope) (name : List ℕ) (items : List Item) (qual : Qual) → first_refusal (refusals s (statement.View name items qual)) ≡ None
    → length (targets_of (query_of s (statement.View name items qual))) ≤ 256
unfolding refusals
few_viewed s name items qual n = few_if q (narrow_targets q (λ (t : Target). t.kind) none.1.1.1.1.0)
  where
    stmt : Statement
    stmt = statement.View name items qual

    q : Query
    q = query_of s stmt

    none : Each (λ c. c.1 ≡ false) (view_refusals s (aggregates_allowed s stmt) name q)
    none = none_of (view_refusals s (aggregates_allowed s stmt) name q) n

-- such a statement has few targets, where no cause refuses it
pub few_targets : (s : Scope) (stmt : Statement) → is_checked stmt ≡ true → is_range stmt ≡ false → None ≡ update_of s stmt (query_of s stmt) → first_refusal (refusals s stmt) ≡ None
    → length (targets_of (query_of s stmt)) ≤ 256
unfolding refusals
few_targets s (statement.Append rel items qual) w h k n = absurd (cc k)
few_targets s (statement.Replace var items qual) w h k n = absurd (cc k)
few_targets s (statement.Delete var qual) w h k n = absurd (cc k)
few_targets s (statement.Range var rel) w h k n = absurd (cc h)
few_targets s (statement.Retrieve None items qual sort) w h k n = few_printed s items qual sort n
few_targets s (statement.Retrieve (Some name) items qual sort) w h k n = few_kept s name items qual sort n
few_targets s (statement.Create rel attrs) w h k n = no_target s rel attrs
few_targets s (statement.Destroy rels) w h k n = absurd (cc w)
few_targets s (statement.DropPermits rel numbers) w h k n = no_targets_dropped s rel numbers
few_targets s (statement.DropRules rel numbers) w h k n = no_rules_dropped s rel numbers
few_targets s (statement.Modify rel to keys) w h k n = absurd (cc w)
few_targets s (statement.Index base name keys) w h k n = absurd (cc w)
few_targets s (statement.Print rels) w h k n = absurd (cc w)
few_targets s (statement.Help rel) w h k n = absurd (cc w)
few_targets s (statement.Copy rel columns from file) w h k n = absurd (cc w)
few_targets s (statement.View name items qual) w h k n = few_viewed s name items qual n
few_targets s (statement.Permit ops var attrs user qual) w h k n = none_permitted s ops var attrs user qual
few_targets s (statement.Rule var qual) w h k n = none_ruled s var qual

-- the query of the update is the statement's
pub update_query : (s : Scope) (stmt : Statement) (q : Query) (u : Update) → Some u ≡ update_of s stmt q → u.query ≡ q
unfolding append_of replace_of delete_of
update_query s (statement.Append rel items qual) q u h = let same : u ≡ append_of s rel q = cc h in ap (λ (x : Update). x.query) same
update_query s (statement.Replace var items qual) q u h = let same : u ≡ replace_of s var q = cc h in ap (λ (x : Update). x.query) same
update_query s (statement.Delete var qual) q u h = let same : u ≡ delete_of s var q = cc h in ap (λ (x : Update). x.query) same
update_query s (statement.Range var rel) q u h = absurd (cc h)
update_query s (statement.Retrieve into items qual sort) q u h = absurd (cc h)
update_query s (statement.Create rel attrs) q u h = absurd (cc h)
update_query s (statement.Destroy rels) q u h = absurd (cc h)
update_query s (statement.DropPermits rel numbers) q u h = absurd (cc h)
update_query s (statement.DropRules rel numbers) q u h = absurd (cc h)
update_query s (statement.Modify rel to keys) q u h = absurd (cc h)
update_query s (statement.Index base name keys) q u h = absurd (cc h)
update_query s (statement.Print rels) q u h = absurd (cc h)
update_query s (statement.Help rel) q u h = absurd (cc h)
update_query s (statement.Copy rel columns from file) q u h = absurd (cc h)
update_query s (statement.View name items qual) q u h = absurd (cc h)
update_query s (statement.Permit ops var attrs user qual) q u h = absurd (cc h)
update_query s (statement.Rule var qual) q u h = absurd (cc h)

-- ---- declarations of variables

pub range_asks_nothing : (s : Scope) (stmt : Statement) → is_range stmt ≡ true → tree_of s stmt ≡ checked.Answer []
unfolding tree_of
range_asks_nothing s (statement.Range var rel) h = refl
range_asks_nothing s (statement.Retrieve into items qual sort) h = absurd (cc h)
range_asks_nothing s (statement.Append rel items qual) h = absurd (cc h)
range_asks_nothing s (statement.Replace var items qual) h = absurd (cc h)
range_asks_nothing s (statement.Delete var qual) h = absurd (cc h)
range_asks_nothing s (statement.Create rel attrs) h = absurd (cc h)
range_asks_nothing s (statement.Destroy rels) h = absurd (cc h)
range_asks_nothing s (statement.DropPermits rel numbers) h = absurd (cc h)
range_asks_nothing s (statement.DropRules rel numbers) h = absurd (cc h)
range_asks_nothing s (statement.Modify rel to keys) h = absurd (cc h)
range_asks_nothing s (statement.Index base name keys) h = absurd (cc h)
range_asks_nothing s (statement.Print rels) h = absurd (cc h)
range_asks_nothing s (statement.Help rel) h = absurd (cc h)
range_asks_nothing s (statement.Copy rel columns from file) h = absurd (cc h)
range_asks_nothing s (statement.View name items qual) h = absurd (cc h)
range_asks_nothing s (statement.Permit ops var attrs user qual) h = absurd (cc h)
range_asks_nothing s (statement.Rule var qual) h = absurd (cc h)

pub range_passes : (s : Scope) (stmt : Statement) → is_range stmt ≡ true → first_refusal (refusals s stmt) ≡ None
unfolding refusals
range_passes s (statement.Range var rel) h = refl
range_passes s (statement.Retrieve into items qual sort) h = absurd (cc h)
range_passes s (statement.Append rel items qual) h = absurd (cc h)
range_passes s (statement.Replace var items qual) h = absurd (cc h)
range_passes s (statement.Delete var qual) h = absurd (cc h)
range_passes s (statement.Create rel attrs) h = absurd (cc h)
range_passes s (statement.Destroy rels) h = absurd (cc h)
range_passes s (statement.DropPermits rel numbers) h = absurd (cc h)
range_passes s (statement.DropRules rel numbers) h = absurd (cc h)
range_passes s (statement.Modify rel to keys) h = absurd (cc h)
range_passes s (statement.Index base name keys) h = absurd (cc h)
range_passes s (statement.Print rels) h = absurd (cc h)
range_passes s (statement.Help rel) h = absurd (cc h)
range_passes s (statement.Copy rel columns from file) h = absurd (cc h)
range_passes s (statement.View name items qual) h = absurd (cc h)
range_passes s (statement.Permit ops var attrs user qual) h = absurd (cc h)
range_passes s (statement.Rule var qual) h = absurd (cc h)
