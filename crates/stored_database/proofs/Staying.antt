-- What stays with a change has the rows that it had.
use Rattle.std.proofs.Common.{◌≡◌, refl, sym, ap, ◌∙◌, inl, inr, true≢false, Bool, true, false, not, cond, List, [], ◌∷◌, map, find, Some}
use Rattle.std.specs.Prelude.{is_some}
use Rattle.std.specs.Ordering.{is_eq}
use Rattle.std.specs.declared.cmp.Ordering.TheVariants.{Equal}
use Rattle.calculus.specs.declared.query.RelKey.{RelKey}
use Rattle.calculus.specs.declared.change.DbChange.{DbChange}
use Rattle.calculus.specs.declared.schema.Permit.{Permit}
use Rattle.calculus.specs.declared.schema.Rule.{Rule}
use Rattle.calculus.specs.declared.schema.RelInfo.{RelInfo}
use Rattle.calculus.specs.Change.{laid}
use Rattle.calculus.specs.Database.{Db, Relation, View, Index, entries, is_there, is_relation}
use Rattle.calculus.specs.IsDatabase.{IsDatabase, valid_index}
use Rattle.calculus.specs.Keys.{same_key, key_cmp}
use Rattle.quel_tree.specs.Permits as spellings
use Rattle.quel_tree.specs.Queries as queries
use Rattle.stored_database.specs.Printed.{Files, relation_entry, view_entry, index_entry}
use Rattle.stored_database.specs.Trees.{tree_bytes}
use Rattle.stored_database.proofs.Members.{IsIn, of_all, of_tests, in_first, in_second, in_map}
use Rattle.stored_database.proofs.Orders.{key_exact, same_key_is, same_key_itself}
use Rattle.stored_database.proofs.PrintedTrees.{relation_under, view_tree, rule_tree, permit_tree}
use Rattle.stored_database.proofs.Reading.{both}
use Rattle.stored_database.specs.ChangeLaws.{Agree, resizes}
use Rattle.stored_database.proofs.Three.{attributes, Stands, rules_there, permits_there}

-- ---- what is there

-- one that passes is found
pub some_found : {A : Type 0} (test : A → Bool) (xs : List A) (x : A) → IsIn x xs → test x ≡ true → is_some (find test xs) ≡ true
some_found test [] x at e = absurd at
some_found {A} test (y ∷ ys) x at e = go (test y) refl at (some_found test ys x)
  where
    go : (b : Bool) → test y ≡ b → IsIn x (y ∷ ys) → (IsIn x ys → test x ≡ true → is_some (find test ys) ≡ true) → is_some (cond b (Some y) (find test ys)) ≡ true
    go true is at later = refl
    go false is (inl f) later = absurd (true≢false (sym e ∙ ap test f ∙ is))
    go false is (inr at) later = later at e

pub relation_is : (db : Db) (r : Relation) → IsIn r db.relations → is_relation db r.info.key ≡ true
relation_is db r at = some_found (λ (s : Relation). same_key s.info.key r.info.key) db.relations r at (same_key_itself r.info.key)

pub info_there : (db : Db) (i : RelInfo) → IsIn i (entries db) → is_there db i.key ≡ true
info_there db i at = some_found (λ (j : RelInfo). same_key j.key i.key) (entries db) i at (same_key_itself i.key)

pub relation_there : (db : Db) (r : Relation) → IsIn r db.relations → is_there db r.info.key ≡ true
relation_there db r at = info_there db r.info (in_first (map (λ (r : Relation). r.info) db.relations) _ r.info (in_map (λ (r : Relation). r.info) db.relations r at))

pub view_there : (db : Db) (v : View) → IsIn v db.views → is_there db v.info.key ≡ true
view_there db v at =
    info_there db v.info (in_second (map (λ (r : Relation). r.info) db.relations) _ v.info
    (in_first (map (λ (v : View). v.info) db.views) (map (λ (x : Index). x.info) db.indexes) v.info (in_map (λ (v : View). v.info) db.views v at)))

pub index_there : (db : Db) (x : Index) → IsIn x db.indexes → is_there db x.info.key ≡ true
index_there db x at =
    info_there db x.info (in_second (map (λ (r : Relation). r.info) db.relations) _ x.info
    (in_second (map (λ (v : View). v.info) db.views) (map (λ (x : Index). x.info) db.indexes) x.info (in_map (λ (x : Index). x.info) db.indexes x at)))

pub relation_is_there : (db : Db) (key : RelKey) → is_relation db key ≡ true → is_there db key ≡ true
relation_is_there db key e = let u = relation_under db key e in ap (is_there db) (sym u.its) ∙ relation_there db u.relation u.there

pub base_is : (db : Db) → IsDatabase db → (x : Index) → IsIn x db.indexes → is_relation db x.base ≡ true
base_is db is x at =
    let all = both _ _ (of_tests (valid_index db) db.indexes x is.indexes_stand at) in
    (both (is_relation db x.base) _ all.1).0

-- keys that are equal in their order are one
pub equal_keys : (a b : RelKey) → key_cmp a b ≡ Equal → a ≡ b
equal_keys a b e = same_key_is a b (sym (key_exact a b) ∙ ap is_eq e)

-- what is not there isn't equal to what is
pub is_fresh : (db : Db) (key other : RelKey) → not (is_there db key) ≡ true → is_there db other ≡ true → key_cmp key other ≡ Equal → ⊥
is_fresh db key other new there e = true≢false (sym new ∙ ap not (ap (is_there db) (equal_keys key other e) ∙ there))

-- ---- what stays

module _ (f after : Files) (db : Db) (made : DbChange) (stands : Stands f db) (new_allowed : Stands after (laid db made)) (agree : Agree db made f after) where
  -- a relation keeps its entry where it keeps the number of its pages
  pub relation_keeps : (r s : Relation) → IsIn r db.relations → IsIn s (laid db made).relations → s.info.key ≡ r.info.key → after.used r.info.key ≡ f.used r.info.key → relation_entry after r ≡ relation_entry f r
  relation_keeps r s at bt same used =
      let file = agree.file_stays r.info.key (relation_there db r at) (ap (is_there (laid db made)) (sym same) ∙ relation_there (laid db made) s bt) in
      λ i. record { file = file i; key = r.info.key; spec = r.info.spec; base = 0; primary = 1; directory = 0; used = used i; keys = r.info.keys }

  pub relation_stays : (r s : Relation) → IsIn r db.relations → IsIn s (laid db made).relations → s.info.key ≡ r.info.key → resizes made r.info.key ≡ false → relation_entry after r ≡ relation_entry f r
  relation_stays r s at bt same sized =
      relation_keeps r s at bt same (agree.used_stays r.info.key (relation_is db r at) (ap (is_relation (laid db made)) (sym same) ∙ relation_is (laid db made) s bt) sized)

  pub view_stays : (v : View) → IsIn v db.views → IsIn v (laid db made).views → view_entry after v ≡ view_entry f v
  view_stays v at bt =
      let file = agree.file_stays v.info.key (view_there db v at) (view_there (laid db made) v bt) in
      λ i. record { file = file i; key = v.info.key; spec = v.info.spec; base = 0; primary = 0; directory = 0; used = 0; keys = v.info.keys }

  pub index_stays : (x : Index) → IsIn x db.indexes → IsIn x (laid db made).indexes → index_entry after x ≡ index_entry f x
  index_stays x at bt =
      let file = agree.file_stays x.info.key (index_there db x at) (index_there (laid db made) x bt) in
      let base = agree.file_stays x.base (relation_is_there db x.base (base_is db stands.is x at)) (relation_is_there (laid db made) x.base (base_is (laid db made) new_allowed.is x bt)) in
      λ i. record { file = file i; key = x.info.key; spec = x.info.spec; base = base i; primary = 0; directory = 0; used = 0; keys = x.info.keys }

  attributes_stay : (i : RelInfo) → is_there db i.key ≡ true → is_there (laid db made) i.key ≡ true → attributes after i ≡ attributes f i
  attributes_stay i there still = let file = agree.file_stays i.key there still in λ t. record { file = file t; attrs = i.attrs }

  pub relation_attributes_stay : (r s : Relation) → IsIn r db.relations → IsIn s (laid db made).relations → s.info.key ≡ r.info.key → attributes after r.info ≡ attributes f r.info
  relation_attributes_stay r s at bt same = attributes_stay r.info (relation_there db r at) (ap (is_there (laid db made)) (sym same) ∙ relation_there (laid db made) s bt)

  pub view_attributes_stay : (v : View) → IsIn v db.views → IsIn v (laid db made).views → attributes after v.info ≡ attributes f v.info
  view_attributes_stay v at bt = attributes_stay v.info (view_there db v at) (view_there (laid db made) v bt)

  pub index_attributes_stay : (x : Index) → IsIn x db.indexes → IsIn x (laid db made).indexes → attributes after x.info ≡ attributes f x.info
  index_attributes_stay x at bt = attributes_stay x.info (index_there db x at) (index_there (laid db made) x bt)

  pub view_tree_stays : (v : View) → IsIn v db.views → IsIn v (laid db made).views → view_tree after v ≡ view_tree f v
  view_tree_stays v at bt =
      let file = agree.file_stays v.info.key (view_there db v at) (view_there (laid db made) v bt) in
      λ i. record { file = file i; sort = 0; number = 0; bytes = tree_bytes queries.query v.query }

  pub rule_tree_stays : (p : RelKey × Rule) → IsIn p db.rules → IsIn p (laid db made).rules → rule_tree after p ≡ rule_tree f p
  rule_tree_stays p at bt =
      let file = agree.file_stays p.0 (relation_is_there db p.0 (of_all (λ p. is_relation db p.0 ≡ true) db.rules p (rules_there f db stands) at))
      (relation_is_there (laid db made) p.0 (of_all (λ p. is_relation (laid db made) p.0 ≡ true) (laid db made).rules p (rules_there after (laid db made) new_allowed) bt)) in
      λ i. record { file = file i; sort = 1; number = p.1.number; bytes = tree_bytes spellings.rule p.1 }

  pub permit_tree_stays : (p : RelKey × Permit) → IsIn p db.permits → IsIn p (laid db made).permits → permit_tree after p ≡ permit_tree f p
  permit_tree_stays p at bt =
      let file = agree.file_stays p.0 (relation_is_there db p.0 (of_all (λ p. is_relation db p.0 ≡ true) db.permits p (permits_there f db stands) at))
      (relation_is_there (laid db made) p.0 (of_all (λ p. is_relation (laid db made) p.0 ≡ true) (laid db made).permits p (permits_there after (laid db made) new_allowed) bt)) in
      λ i. record { file = file i; sort = 2; number = p.1.number; bytes = tree_bytes spellings.permit p.1 }
