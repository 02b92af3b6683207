-- The parts of what a written statement asks for are what their types ask for.
use Rattle.std.proofs.Common.{◌≡◌, refl, sym, subst, ℕ, true, List, [], ◌∷◌, map, Option, Some, None}
use Rattle.std.specs.List.{list_all}
use Rattle.calculus.specs.declared.query.RelKey.{RelKey}
use Rattle.calculus.specs.declared.query.Target.{Target}
use Rattle.calculus.specs.declared.request.Asked.{Asked}
use Rattle.calculus.specs.declared.schema.Attr.{Attr}
use Rattle.calculus.specs.declared.schema.RelInfo.{RelInfo}
use Rattle.calculus.specs.declared.statement.Statement.{Statement}
use Rattle.calculus.specs.declared.statement.Statement.TheVariants as statement
use Rattle.calculus.specs.Chars.{is_chars}
use Rattle.calculus.specs.Database.{Db, Relation, View, entries}
use Rattle.calculus.specs.IsDatabase.{IsDatabase, key_is_named, user_is_named}
use Rattle.calculus.specs.Lists.{is_any}
use Rattle.calculus.specs.Name.{is_name}
use Rattle.calculus.specs.QueryParts.{qual_of}
use Rattle.calculus.specs.Rights.{are_rights}
use Rattle.calculus.specs.Spelled.{qual_is_spelled, query_is_spelled}
use Rattle.calculus.specs.Stored.{info_at, attrs_in}
use Rattle.quel_meaning.specs.IsWritten.{items_are_written, qual_is_written, query_is_written, item_is_written, is_written}
use Rattle.quel_meaning.specs.Naming.{Mention, AttrIn, AttrOf, new_title, query_mentions, mentions, no_refusal, name_refusal}
use Rattle.quel_meaning.specs.Resolved.{whole, help_on_all, help_on, tree_of}
use Rattle.quel_meaning.specs.Scope.{Scope, named}
use Rattle.quel_meaning.specs.SpelledTree.{key_is_spelled, update_is_spelled, utility_is_spelled, tree_is_spelled}
use Rattle.quel_meaning.specs.StatementUpdate.{append_of, replace_of, delete_of, into_of}
use Rattle.quel_meaning.specs.WrittenParts.{items_of, where_of, vars_in}
use Rattle.quel_meaning.specs.WrittenQuery.{targets_from, query_of}
use Rattle.quel_meaning.proofs.DatabaseFacts.{info_passes, info_stands, stood}
use Rattle.quel_meaning.proofs.Each.{Each, front_of, back_of, of_map, in_map, each_to, passed, each_passes, left, right, and}
use Rattle.quel_meaning.proofs.Found.{IsFound, names_found, named_there, named_with, named_again}
use Rattle.quel_meaning.proofs.GoodTargets.{items_targets_good}
use Rattle.quel_meaning.proofs.NameChars.{name_is_chars}
use Rattle.quel_meaning.proofs.SpelledTerms.{AreNamed, all_attrs_spelled, query_spelled}

-- ---- queries of statements

written : (s : Scope) → IsDatabase s.db → (titled : List ℕ → List Mention) (stmt : Statement) → query_is_written (items_of stmt) (where_of stmt) ≡ true
    → Each (IsFound s) (query_mentions s titled (items_of stmt) (where_of stmt)) → query_is_spelled (query_of s stmt) ≡ true
written s is titled stmt w h =
    let items : list_all item_is_written (items_of stmt) ≡ true = right _ _ (left (items_are_written (items_of stmt)) _ w) in
    query_spelled s stmt (each_to _ _ (λ (t : Target) g. g.0) _ (items_targets_good s is titled stmt (where_of stmt) items h)) items (right (items_are_written (items_of stmt)) _ w)

-- of a query without targets its qualification
where_spelled : (s : Scope) (stmt : Statement) → items_of stmt ≡ [] → qual_is_written (where_of stmt) ≡ true → qual_is_spelled (qual_of (query_of s stmt)) ≡ true
unfolding query_of
where_spelled s stmt none q =
    right _ _
    (query_spelled s stmt (subst (λ items. AreNamed (targets_from s (vars_in stmt) 0 items)) (sym none) tt) (subst (λ items. list_all item_is_written items ≡ true) (sym none) refl) q)

whole_spelled : (info : Option RelInfo) → Each (λ (a : Attr). is_name a.name ≡ true) (attrs_in info) → query_is_spelled (whole info).query ≡ true
whole_spelled info h = and _ _ (all_attrs_spelled 0 (attrs_in info) h) refl

-- the attributes of what is found have names
found_named : (s : Scope) → IsDatabase s.db → (rel : List ℕ) → Each (λ (a : Attr). is_name a.name ≡ true) (attrs_in (named s rel))
found_named s is rel = go (named s rel) refl
  where
    go : (o : Option RelInfo) → named s rel ≡ o → Each (λ (a : Attr). is_name a.name ≡ true) (attrs_in o)
    go None e = tt
    go (Some info) e =
        let r = named_there s rel info e in
        let same : r.info ≡ info = cc (r.is, e) in
        subst (λ (i : RelInfo). Each (λ (a : Attr). is_name a.name ≡ true) i.attrs) same
        (each_passes (λ (a : Attr). is_name a.name) r.info.attrs (stood r.info.attrs (info_stands s.db is r.key r.info r.there)).named)

-- ---- names of what is there

with_name : (key : RelKey) → key_is_named key ≡ true → key_is_spelled key ≡ true
with_name key h = let named = right (is_name key.owner) _ h in and _ _ (left (is_name key.owner) _ h) (left (is_name key.name) _ named)

entries_spelled : (db : Db) → IsDatabase db → Each (λ (i : RelInfo). key_is_spelled i.key ≡ true) (entries db)
entries_spelled db is = each_to _ _ (λ (i : RelInfo) h. with_name i.key h) (entries db) (each_passes (λ (i : RelInfo). key_is_named i.key) (entries db) is.keys_are_named)

-- what is found in a database has a key of names
found_spelled : (db : Db) → IsDatabase db → (key : RelKey) (info : RelInfo) → info_at db key ≡ Some info → key_is_spelled info.key ≡ true
unfolding is_name
found_spelled db is = info_passes (λ (i : RelInfo). key_is_spelled i.key) db (record {
  relations = passed (λ (r : Relation). key_is_spelled r.info.key) db.relations (of_map _ (λ (r : Relation). r.info) db.relations (front_of _ (map (λ (r : Relation). r.info) db.relations) _ (entries_spelled db is)));
  views =
      passed (λ (v : View). key_is_spelled v.info.key) db.views
      (of_map _ (λ (v : View). v.info) db.views (front_of _ (map (λ (v : View). v.info) db.views) _ (back_of _ (map (λ (r : Relation). r.info) db.relations) _ (entries_spelled db is))));
  names = and _ _ is.dba_is_named refl;
  attributes = and _ _ is.dba_is_named refl;
})

-- ---- help

help_all_spelled : (s : Scope) → IsDatabase s.db → is_name s.user ≡ true → query_is_spelled (help_on_all s).query ≡ true
unfolding is_name
help_all_spelled s is user = and _ _ refl (and _ _ (name_is_chars s.user user) (name_is_chars s.db.dba is.dba_is_named))

help_of_spelled : (s : Scope) (info : RelInfo) → key_is_spelled info.key ≡ true → query_is_spelled (help_on s (Some info)).query ≡ true
unfolding is_name
help_of_spelled s info h = and _ _ refl (and _ _ (name_is_chars info.key.name (right (is_name info.key.owner) _ h)) (name_is_chars info.key.owner (left (is_name info.key.owner) _ h)))

help_spelled : (s : Scope) → IsDatabase s.db → (rel : List ℕ) → name_refusal s (statement.Help (Some rel)) ≡ None → query_is_spelled (help_on s (named s rel)).query ≡ true
unfolding mentions
help_spelled s is rel h =
    let r = named_with s no_refusal rel (names_found s (statement.Help (Some rel)) h).0 in
    subst (λ o. query_is_spelled (help_on s o).query ≡ true) (sym r.is) (help_of_spelled s r.info (found_spelled s.db is r.info.key r.info (named_again s rel r)))

-- ---- statements

pub tree_spelled : (s : Scope) → IsDatabase s.db → is_name s.user ≡ true → (stmt : Statement) → is_written stmt ≡ true → name_refusal s stmt ≡ None → tree_is_spelled (tree_of s stmt) ≡ true
unfolding is_written tree_of tree_is_spelled update_is_spelled utility_is_spelled append_of replace_of delete_of into_of mentions
tree_spelled s is user (statement.Range var rel) w h = refl
tree_spelled s is user (statement.Retrieve None items qual sort) w h =
    let stmt : Statement = statement.Retrieve None items qual sort in and _ _ (written s is new_title stmt w (names_found s stmt h)) refl
tree_spelled s is user (statement.Retrieve (Some name) items qual sort) w h =
    let stmt : Statement = statement.Retrieve (Some name) items qual sort in
    and _ _ (and _ _ user (left (is_name name) _ w)) (and _ _ (written s is new_title stmt (right (is_name name) _ w) (names_found s stmt h)) refl)
tree_spelled s is user (statement.Append rel items qual) w h =
    let stmt : Statement = statement.Append rel items qual in and _ _ (written s is (λ a. AttrIn rel a ∷ []) stmt w (names_found s stmt h).1) refl
tree_spelled s is user (statement.Replace var items qual) w h =
    let stmt : Statement = statement.Replace var items qual in and _ _ (written s is (λ a. AttrOf var a ∷ []) stmt w (names_found s stmt h).1) refl
tree_spelled s is user (statement.Delete var qual) w h = and _ _ (query_spelled s (statement.Delete var qual) tt refl w) refl
tree_spelled s is user (statement.Create rel attrs) w h = and _ _ user (left (is_name rel) _ w)
tree_spelled s is user (statement.Destroy rels) w h = refl
tree_spelled s is user (statement.DropPermits rel numbers) w h = refl
tree_spelled s is user (statement.DropRules rel numbers) w h = refl
tree_spelled s is user (statement.Modify rel to keys) w h = refl
tree_spelled s is user (statement.Index base name keys) w h = left (is_name name) _ w
tree_spelled s is user (statement.Print rels) w h =
    passed (λ (a : Asked). query_is_spelled a.query) _ (in_map _ (λ rel. whole (named s rel)) rels (every rels))
  where
    every : (rels : List (List ℕ)) → Each (λ rel. query_is_spelled (whole (named s rel)).query ≡ true) rels
    every [] = tt
    every (rel ∷ rels) = (whole_spelled (named s rel) (found_named s is rel), every rels)
tree_spelled s is user (statement.Help None) w h = and _ _ (help_all_spelled s is user) refl
tree_spelled s is user (statement.Help (Some rel)) w h = and _ _ (help_spelled s is rel h) refl
tree_spelled s is user (statement.Copy rel columns from file) w h = right _ (is_chars file) (right (is_any columns) _ w)
tree_spelled s is user (statement.View name items qual) w h =
    let stmt : Statement = statement.View name items qual in
    and _ _ (and _ _ user (left (is_name name) _ w)) (written s is new_title stmt (right (is_name name) _ w) (names_found s stmt h))
tree_spelled s is user (statement.Permit ops var attrs grantee qual) w h =
    let behind = right (are_rights ops) _ w in
    and _ _ (left (user_is_named grantee) _ behind)
    (and _ _ (left (are_rights ops) _ w) (where_spelled s (statement.Permit ops var attrs grantee qual) refl (right (user_is_named grantee) _ behind)))
tree_spelled s is user (statement.Rule var qual) w h = where_spelled s (statement.Rule var qual) refl w
