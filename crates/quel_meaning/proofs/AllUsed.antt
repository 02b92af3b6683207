-- All variables that a statement's query lists are used, or are replaced or deleted.
use Rattle.std.proofs.Common.{◌≡◌, refl, sym, ap, ◌∙◌, subst, ℕ, Bool, true, false, ◌||◌, not, List, [], ◌∷◌, ◌++◌, map, None}
use Rattle.std.specs.List.{filter, enumerate_from, flat_map}
use Rattle.std.specs.Str.{bytes_eq}
use Rattle.calculus.specs.declared.query.RelKey.{RelKey}
use Rattle.calculus.specs.declared.query.Query.{Query}
use Rattle.calculus.specs.declared.request.Update.{Update}
use Rattle.calculus.specs.declared.statement.Item.{Item}
use Rattle.calculus.specs.declared.statement.Qual.{Qual}
use Rattle.calculus.specs.declared.statement.Statement.{Statement}
use Rattle.calculus.specs.declared.statement.Statement.TheVariants as statement
use Rattle.calculus.specs.Assignments.{is_changed}
use Rattle.calculus.specs.IsDatabase.{IsDatabase}
use Rattle.calculus.specs.Lists.{is_any}
use Rattle.calculus.specs.QueryParts.{vars_of}
use Rattle.calculus.specs.Sizes.{update_vars}
use Rattle.calculus.specs.Used.{used_in_query, used_vars}
use Rattle.quel_meaning.specs.Naming.{Mention, AttrIn, AttrOf, mentions, query_mentions, new_title, name_refusal}
use Rattle.quel_meaning.specs.Scope.{Scope}
use Rattle.quel_meaning.specs.StatementUpdate.{replace_of, delete_of}
use Rattle.quel_meaning.specs.WrittenParts.{once, first_vars, items_of, where_of, vars_in, outer_vars_in_item, outer_vars_in_qual}
use Rattle.quel_meaning.specs.WrittenQuery.{query_of}
use Rattle.quel_meaning.specs.WrittenTree.{Vars, var_place, key_over}
use Rattle.quel_meaning.proofs.Each.{Each, each_to, in_filter}
use Rattle.quel_meaning.proofs.Found.{IsFound, names_found, in_once}
use Rattle.quel_meaning.proofs.UsedVars.{in_query}
use Rattle.quel_meaning.proofs.VarPlaces.{once_differs, first_place, at_places}

kept : {X : Type 0} (p : X → Bool) (xs : List X) → Each (λ x. p x ≡ true) xs → filter p xs ≡ xs
kept p [] h = refl
kept p (x ∷ xs) h = rw h.0 (ap (λ ys. x ∷ ys) (kept p xs h.1))

is_or : (b c : Bool) → b ≡ true → (b || c) ≡ true
is_or b c h = rw h refl

or_is : (b c : Bool) → c ≡ true → (b || c) ≡ true
or_is true c h = refl
or_is false c h = h

-- ---- of statements that name no variable by itself

all_of : (s : Scope) → IsDatabase s.db → (titled : List ℕ → List Mention) (stmt : Statement) → first_vars stmt ≡ []
    → Each (IsFound s) (query_mentions s titled (items_of stmt) (where_of stmt))
    → used_vars (query_of s stmt) ≡ enumerate_from 0 (vars_of (query_of s stmt))
unfolding query_of vars_in
all_of s is titled stmt e h =
    kept (λ (p : ℕ × RelKey). is_any (used_in_query p.0 (query_of s stmt))) _
    (at_places (λ n. is_any (used_in_query n (query_of s stmt)) ≡ true) (key_over s) (vars_in stmt) (once_differs (first_vars stmt ++ named)) (in_once (λ v. is_any (used_in_query (var_place (vars_in stmt) v) (query_of s stmt)) ≡ true) (first_vars stmt ++ named) each))
  where
    named : List (List ℕ)
    named = flat_map outer_vars_in_item (items_of stmt) ++ outer_vars_in_qual (where_of stmt)

    each : Each (λ v. is_any (used_in_query (var_place (vars_in stmt) v) (query_of s stmt)) ≡ true) (first_vars stmt ++ named)
    each = subst (λ front. Each (λ v. is_any (used_in_query (var_place (vars_in stmt) v) (query_of s stmt)) ≡ true) (front ++ named)) (sym e) (in_query s is titled stmt h)

pub all_used : (s : Scope) → IsDatabase s.db → (stmt : Statement) → name_refusal s stmt ≡ None → first_vars stmt ≡ []
    → used_vars (query_of s stmt) ≡ enumerate_from 0 (vars_of (query_of s stmt))
unfolding mentions query_of vars_in
all_used s is (statement.Retrieve into items qual sort) h e = all_of s is new_title (statement.Retrieve into items qual sort) refl (names_found s (statement.Retrieve into items qual sort) h)
all_used s is (statement.Append rel items qual) h e = all_of s is (λ a. AttrIn rel a ∷ []) (statement.Append rel items qual) refl (names_found s (statement.Append rel items qual) h).1
all_used s is (statement.View name items qual) h e = all_of s is new_title (statement.View name items qual) refl (names_found s (statement.View name items qual) h)
all_used s is (statement.Replace var items qual) h e = absurd (cc e)
all_used s is (statement.Delete var qual) h e = absurd (cc e)
all_used s is (statement.Permit ops var attrs user qual) h e = absurd (cc e)
all_used s is (statement.Rule var qual) h e = absurd (cc e)
all_used s is (statement.Range var rel) h e = refl
all_used s is (statement.Create rel attrs) h e = refl
all_used s is (statement.Destroy rels) h e = refl
all_used s is (statement.DropPermits rel numbers) h e = refl
all_used s is (statement.DropRules rel numbers) h e = refl
all_used s is (statement.Modify rel to keys) h e = refl
all_used s is (statement.Index base name keys) h e = refl
all_used s is (statement.Print rels) h e = refl
all_used s is (statement.Help rel) h e = refl
all_used s is (statement.Copy rel columns from file) h e = refl

-- ---- of replacements and deletions

-- what holds at the place of the first variable and of the others holds at all places
all_but_first : (Q : ℕ → Type 0) (s : Scope) (var : List ℕ) (named : List (List ℕ)) → Q 0 → Each (λ v. Q (var_place (once (var ∷ named)) v)) named
    → Each (λ (p : ℕ × RelKey). Q p.0) (enumerate_from 0 (map (key_over s) (once (var ∷ named))))
all_but_first Q s var named first others =
    at_places Q (key_over s) (once (var ∷ named)) (once_differs (var ∷ named)) (
      subst Q (sym (first_place var (filter (λ m. not (bytes_eq m var)) (once named)))) first,
      in_filter _ (λ m. not (bytes_eq m var)) (once named) (in_once (λ v. Q (var_place (once (var ∷ named)) v)) named others),
    )

-- a variable is used, or its rows are replaced or deleted
counts : Query → Update → ℕ → Bool
counts q u n = is_any (used_in_query n q) || is_changed u n

all_count : (s : Scope) (vars : Vars) (var : List ℕ) (named : List (List ℕ)) (q : Query) (u : Update) → once (var ∷ named) ≡ vars → vars_of q ≡ map (key_over s) vars
    → counts q u 0 ≡ true
    → Each (λ v. counts q u (var_place vars v) ≡ true) named → filter (λ (p : ℕ × RelKey). counts q u p.0) (enumerate_from 0 (vars_of q)) ≡ enumerate_from 0 (vars_of q)
all_count s vars var named q u e f first others =
    kept (λ (p : ℕ × RelKey). counts q u p.0) _
    (subst (λ keys. Each (λ (p : ℕ × RelKey). counts q u p.0 ≡ true) (enumerate_from 0 keys)) (ap (map (key_over s)) e ∙ sym f)
    (all_but_first (λ n. counts q u n ≡ true) s var named first (subst (λ vars. Each (λ v. counts q u (var_place vars v) ≡ true) named) (sym e) others)))

abbrev named_in : Statement → List (List ℕ)
named_in stmt = flat_map outer_vars_in_item (items_of stmt) ++ outer_vars_in_qual (where_of stmt)

counted : (s : Scope) → IsDatabase s.db → (titled : List ℕ → List Mention) (stmt : Statement) (u : Update)
    → Each (IsFound s) (query_mentions s titled (items_of stmt) (where_of stmt))
    → Each (λ v. counts (query_of s stmt) u (var_place (vars_in stmt) v) ≡ true) (named_in stmt)
unfolding counts
counted s is titled stmt u h =
    each_to (λ v. is_any (used_in_query (var_place (vars_in stmt) v) (query_of s stmt)) ≡ true) (λ v. counts (query_of s stmt) u (var_place (vars_in stmt) v) ≡ true)
    (λ v e. is_or (is_any (used_in_query (var_place (vars_in stmt) v) (query_of s stmt))) (is_changed u (var_place (vars_in stmt) v)) e) (named_in stmt) (in_query s is titled stmt h)

vars_are : (s : Scope) (stmt : Statement) → vars_of (query_of s stmt) ≡ map (key_over s) (vars_in stmt)
unfolding query_of
vars_are s stmt = refl

replaced_vars : (var : List ℕ) (items : List Item) (qual : Qual) → once (var ∷ named_in (statement.Replace var items qual)) ≡ vars_in (statement.Replace var items qual)
unfolding vars_in
replaced_vars var items qual = refl

deleted_vars : (var : List ℕ) (qual : Qual) → once (var ∷ named_in (statement.Delete var qual)) ≡ vars_in (statement.Delete var qual)
unfolding vars_in
deleted_vars var qual = refl

first_replaced : (s : Scope) (var : List ℕ) (q : Query) → counts q (replace_of s var q) 0 ≡ true
unfolding replace_of counts
first_replaced s var q = or_is (is_any (used_in_query 0 q)) _ refl

first_deleted : (s : Scope) (var : List ℕ) (q : Query) → counts q (delete_of s var q) 0 ≡ true
unfolding delete_of counts
first_deleted s var q = or_is (is_any (used_in_query 0 q)) _ refl

titled_found : (s : Scope) (var : List ℕ) (items : List Item) (qual : Qual) → name_refusal s (statement.Replace var items qual) ≡ None
    → Each (IsFound s) (query_mentions s (λ a. AttrOf var a ∷ []) items qual)
unfolding mentions
titled_found s var items qual h = (names_found s (statement.Replace var items qual) h).1

where_found : (s : Scope) (var : List ℕ) (qual : Qual) → name_refusal s (statement.Delete var qual) ≡ None → Each (IsFound s) (query_mentions s new_title [] qual)
unfolding mentions
where_found s var qual h = (names_found s (statement.Delete var qual) h).1

replaced_so : (s : Scope) (var : List ℕ) (q : Query) → filter (λ (p : ℕ × RelKey). counts q (replace_of s var q) p.0) (enumerate_from 0 (vars_of q)) ≡ enumerate_from 0 (vars_of q)
    → update_vars (replace_of s var q) ≡ enumerate_from 0 (vars_of q)
unfolding replace_of counts
replaced_so s var q h = h

deleted_so : (s : Scope) (var : List ℕ) (q : Query) → filter (λ (p : ℕ × RelKey). counts q (delete_of s var q) p.0) (enumerate_from 0 (vars_of q)) ≡ enumerate_from 0 (vars_of q)
    → update_vars (delete_of s var q) ≡ enumerate_from 0 (vars_of q)
unfolding delete_of counts
deleted_so s var q h = h

pub all_replaced : (s : Scope) → IsDatabase s.db → (var : List ℕ) (items : List Item) (qual : Qual) → name_refusal s (statement.Replace var items qual) ≡ None
    → update_vars (replace_of s var (query_of s (statement.Replace var items qual))) ≡ enumerate_from 0 (vars_of (query_of s (statement.Replace var items qual)))
all_replaced s is var items qual h =
    replaced_so s var q
    (all_count s (vars_in stmt) var (named_in stmt) q (replace_of s var q) (replaced_vars var items qual) (vars_are s stmt) (first_replaced s var q)
    (counted s is (λ a. AttrOf var a ∷ []) stmt (replace_of s var q) (titled_found s var items qual h)))
  where
    stmt : Statement
    stmt = statement.Replace var items qual

    q : Query
    q = query_of s stmt

pub all_deleted : (s : Scope) → IsDatabase s.db → (var : List ℕ) (qual : Qual) → name_refusal s (statement.Delete var qual) ≡ None
    → update_vars (delete_of s var (query_of s (statement.Delete var qual))) ≡ enumerate_from 0 (vars_of (query_of s (statement.Delete var qual)))
all_deleted s is var qual h =
    deleted_so s var q
    (all_count s (vars_in stmt) var (named_in stmt) q (delete_of s var q) (deleted_vars var qual) (vars_are s stmt) (first_deleted s var q)
    (counted s is new_title stmt (delete_of s var q) (where_found s var qual h)))
  where
    stmt : Statement
    stmt = statement.Delete var qual

    q : Query
    q = query_of s stmt
