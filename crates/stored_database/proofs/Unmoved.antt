-- Lists of a database that a change leaves alone, and the law from what goes and comes.
use Rattle.std.proofs.Common.{◌≡◌, refl, false, [], ◌++◌, map}
use Rattle.calculus.specs.declared.query.RelKey.{RelKey}
use Rattle.calculus.specs.declared.change.DbChange.{DbChange}
use Rattle.calculus.specs.declared.schema.Permit.{Permit}
use Rattle.calculus.specs.declared.schema.Rule.{Rule}
use Rattle.calculus.specs.Change.{laid, IsLawful}
use Rattle.calculus.specs.Database.{Db, Relation, View, Index}
use Rattle.calculus.specs.IsDatabase.{IsDatabase}
use Rattle.stored_database.specs.Printed.{Files, relation_entry, view_entry, index_entry, entries_for, printed}
use Rattle.stored_database.proofs.Members.{IsIn}
use Rattle.stored_database.proofs.Pairs.{Pairs}
use Rattle.stored_database.proofs.PrintedEntries.{grouped_entries}
use Rattle.stored_database.proofs.PrintedTrees.{grouped_trees, same_tree, view_tree, rule_tree, permit_tree, trees_for}
use Rattle.stored_database.specs.After.{changed, AreChanges}
use Rattle.stored_database.specs.ChangeLaws.{Agree, FilesDiffer, resizes}
use Rattle.stored_database.specs.Moves.{going, coming}
use Rattle.stored_database.proofs.Lists.{moved_three, moved_none}
use Rattle.stored_database.proofs.Moved.{Moved}
use Rattle.stored_database.proofs.Three.{attributes, attributes_for, same_file, same_owner, grouped_attributes, Stands, entries_are_apart, attributes_are_apart, trees_are_apart, MovedAll, catalogue_after, rows_change}
use Rattle.stored_database.proofs.Staying.{relation_stays, view_stays, index_stays, relation_attributes_stay, view_attributes_stay, index_attributes_stay, view_tree_stays, rule_tree_stays, permit_tree_stays}

module _ (f after : Files) (db : Db) (made : DbChange) (stands : Stands f db) (new_allowed : Stands after (laid db made)) (agree : Agree db made f after) where
  -- ---- entries

  pub relations_same : ((r : Relation) → IsIn r db.relations → IsIn r (laid db made).relations) → ((r : Relation) → resizes made r.info.key ≡ false)
      → Moved same_file (map (relation_entry f) db.relations) [] [] (map (relation_entry after) db.relations)
  relations_same kept sized =
      moved_none same_file grouped_entries.itself grouped_entries.turned (relation_entry f) (relation_entry after) db.relations
      (λ r at. relation_stays f after db made stands new_allowed agree r r at (kept r at) refl (sized r))

  pub views_same : ((v : View) → IsIn v db.views → IsIn v (laid db made).views) → Moved same_file (map (view_entry f) db.views) [] [] (map (view_entry after) db.views)
  views_same kept =
      moved_none same_file grouped_entries.itself grouped_entries.turned (view_entry f) (view_entry after) db.views
      (λ v at. view_stays f after db made stands new_allowed agree v at (kept v at))

  pub indexes_same : ((x : Index) → IsIn x db.indexes → IsIn x (laid db made).indexes) → Moved same_file (map (index_entry f) db.indexes) [] [] (map (index_entry after) db.indexes)
  indexes_same kept =
      moved_none same_file grouped_entries.itself grouped_entries.turned (index_entry f) (index_entry after) db.indexes
      (λ x at. index_stays f after db made stands new_allowed agree x at (kept x at))

  -- ---- attributes

  pub relation_attributes_same : ((r : Relation) → IsIn r db.relations → IsIn r (laid db made).relations)
      → Moved same_owner (map (λ (r : Relation). attributes f r.info) db.relations) [] [] (map (λ (r : Relation). attributes after r.info) db.relations)
  relation_attributes_same kept =
      moved_none same_owner grouped_attributes.itself grouped_attributes.turned (λ (r : Relation). attributes f r.info) (λ (r : Relation). attributes after r.info) db.relations
      (λ r at. relation_attributes_stay f after db made stands new_allowed agree r r at (kept r at) refl)

  pub view_attributes_same : ((v : View) → IsIn v db.views → IsIn v (laid db made).views)
      → Moved same_owner (map (λ (v : View). attributes f v.info) db.views) [] [] (map (λ (v : View). attributes after v.info) db.views)
  view_attributes_same kept =
      moved_none same_owner grouped_attributes.itself grouped_attributes.turned (λ (v : View). attributes f v.info) (λ (v : View). attributes after v.info) db.views
      (λ v at. view_attributes_stay f after db made stands new_allowed agree v at (kept v at))

  pub index_attributes_same : ((x : Index) → IsIn x db.indexes → IsIn x (laid db made).indexes)
      → Moved same_owner (map (λ (x : Index). attributes f x.info) db.indexes) [] [] (map (λ (x : Index). attributes after x.info) db.indexes)
  index_attributes_same kept =
      moved_none same_owner grouped_attributes.itself grouped_attributes.turned (λ (x : Index). attributes f x.info) (λ (x : Index). attributes after x.info) db.indexes
      (λ x at. index_attributes_stay f after db made stands new_allowed agree x at (kept x at))

  -- ---- trees

  pub view_trees_same : ((v : View) → IsIn v db.views → IsIn v (laid db made).views) → Moved same_tree (map (view_tree f) db.views) [] [] (map (view_tree after) db.views)
  view_trees_same kept =
      moved_none same_tree grouped_trees.itself grouped_trees.turned (view_tree f) (view_tree after) db.views
      (λ v at. view_tree_stays f after db made stands new_allowed agree v at (kept v at))

  pub rule_trees_same : ((p : RelKey × Rule) → IsIn p db.rules → IsIn p (laid db made).rules) → Moved same_tree (map (rule_tree f) db.rules) [] [] (map (rule_tree after) db.rules)
  rule_trees_same kept =
      moved_none same_tree grouped_trees.itself grouped_trees.turned (rule_tree f) (rule_tree after) db.rules
      (λ p at. rule_tree_stays f after db made stands new_allowed agree p at (kept p at))

  pub permit_trees_same : ((p : RelKey × Permit) → IsIn p db.permits → IsIn p (laid db made).permits) → Moved same_tree (map (permit_tree f) db.permits) [] [] (map (permit_tree after) db.permits)
  permit_trees_same kept =
      moved_none same_tree grouped_trees.itself grouped_trees.turned (permit_tree f) (permit_tree after) db.permits
      (λ p at. permit_tree_stays f after db made stands new_allowed agree p at (kept p at))

  -- ---- all of them

  -- no entries go or come
  pub entries_same : ((r : Relation) → IsIn r db.relations → IsIn r (laid db made).relations) → ((r : Relation) → resizes made r.info.key ≡ false)
      → ((v : View) → IsIn v db.views → IsIn v (laid db made).views) → ((x : Index) → IsIn x db.indexes → IsIn x (laid db made).indexes)
      → Pairs (λ x y. same_file x y ≡ false) (map (relation_entry after) db.relations ++ (map (view_entry after) db.views ++ map (index_entry after) db.indexes))
      → Moved same_file (entries_for f db) [] [] (map (relation_entry after) db.relations ++ (map (view_entry after) db.views ++ map (index_entry after) db.indexes))
  unfolding entries_for
  entries_same relations sized views indexes new =
      moved_three same_file grouped_entries.itself grouped_entries.turned (relations_same relations sized) (views_same views) (indexes_same indexes) (entries_are_apart f db stands) new

  -- no attributes go or come
  pub attributes_same : ((r : Relation) → IsIn r db.relations → IsIn r (laid db made).relations)
      → ((v : View) → IsIn v db.views → IsIn v (laid db made).views) → ((x : Index) → IsIn x db.indexes → IsIn x (laid db made).indexes)
      → Pairs (λ x y. same_owner x y ≡ false) (map (λ (r : Relation). attributes after r.info) db.relations ++ (map (λ (v : View). attributes after v.info) db.views ++ map (λ (x : Index). attributes after x.info) db.indexes))
      → Moved same_owner (attributes_for f db) [] [] (map (λ (r : Relation). attributes after r.info) db.relations
      ++ (map (λ (v : View). attributes after v.info) db.views ++ map (λ (x : Index). attributes after x.info) db.indexes))
  attributes_same relations views indexes new =
      moved_three same_owner grouped_attributes.itself grouped_attributes.turned (relation_attributes_same relations) (view_attributes_same views) (index_attributes_same indexes) (attributes_are_apart f db stands) new

  -- no trees go or come
  pub trees_same : ((v : View) → IsIn v db.views → IsIn v (laid db made).views) → ((p : RelKey × Rule) → IsIn p db.rules → IsIn p (laid db made).rules)
      → ((p : RelKey × Permit) → IsIn p db.permits → IsIn p (laid db made).permits)
      → Pairs (λ x y. same_tree x y ≡ false) (map (view_tree after) db.views ++ (map (rule_tree after) db.rules ++ map (permit_tree after) db.permits))
      → Moved same_tree (trees_for f db) [] [] (map (view_tree after) db.views ++ (map (rule_tree after) db.rules ++ map (permit_tree after) db.permits))
  trees_same views rules permits new =
      moved_three same_tree grouped_trees.itself grouped_trees.turned (view_trees_same views) (rule_trees_same rules) (permit_trees_same permits) (trees_are_apart f db stands) new

-- ---- the laws

-- What goes and comes with a change, as its law has it.
abbrev pub Moves : DbChange → Type 0
Moves made = (db : Db) (f after : Files) → Stands f db → Stands after (laid db made) → IsLawful db made → Agree db made f after
    → MovedAll f db after (laid db made) (going f after db made) (coming f after db made)

module _ (made : DbChange) (moves : Moves made) (db : Db) (f after : Files) (is : IsDatabase db) (lawful : IsLawful db made)
    (differ : FilesDiffer db f) (differ_after : FilesDiffer (laid db made) after) (agree : Agree db made f after) where
  before : Stands f db
  before = record { files_differ = differ; is = is }

  later : Stands after (laid db made)
  later = record { files_differ = differ_after; is = lawful.leaves_a_database }

  pub its_catalogue : printed (laid db made) after ≡ changed (going f after db made) (coming f after db made) (printed db f)
  its_catalogue = catalogue_after f db after (laid db made) (going f after db made) (coming f after db made) before later (moves db f after before later lawful agree)

  pub its_rows : AreChanges (going f after db made) (coming f after db made) (printed db f)
  its_rows = rows_change f db after (laid db made) (going f after db made) (coming f after db made) before later (moves db f after before later lawful agree)
