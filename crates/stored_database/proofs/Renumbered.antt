-- What stands under a key gets another file.
use Rattle.std.proofs.Common.{◌≡◌, refl, sym, ap, ap₂, ◌∙◌, true≢false, ℕ, ◌==◌, ◌||◌, Bool, true, false, [], ◌∷◌, map}
use Rattle.std.specs.Prelude.{nat_eq}
use Rattle.calculus.specs.declared.query.RelKey.{RelKey}
use Rattle.calculus.specs.declared.schema.Permit.{Permit}
use Rattle.calculus.specs.declared.schema.Rule.{Rule}
use Rattle.calculus.specs.declared.schema.RelInfo.{RelInfo}
use Rattle.calculus.specs.Database.{Db, Relation, View, Index, entries, is_there}
use Rattle.calculus.specs.IsDatabase.{IsDatabase}
use Rattle.calculus.specs.Keys.{same_key, has_key}
use Rattle.quel_tree.specs.Permits as spellings
use Rattle.quel_tree.specs.Queries as queries
use Rattle.stored_database.specs.Printed.{Files, relation_entry, view_entry, index_entry, entries_for}
use Rattle.stored_database.specs.Trees.{tree_bytes}
use Rattle.stored_database.proofs.Orders.{same_key_is, same_key_itself, same_key_turned}
use Rattle.stored_database.proofs.Pairs.{differ_pairs, pairs_map, pairs_unmap}
use Rattle.stored_database.proofs.PrintedEntries.{grouped_entries, equal_turned}
use Rattle.stored_database.proofs.PrintedTrees.{parts_are, trees_for, same_tree, grouped_trees, view_tree, rule_tree, permit_tree}
use Rattle.stored_database.specs.ChangeLaws.{FilesDiffer}
use Rattle.stored_database.specs.Moves.{destroyed, rows_of}
use Rattle.stored_database.specs.Renumbered.{DifferAt, RenumbersTheCatalogue, RenumbersRows}
use Rattle.stored_database.proofs.FilesDiffer.{pairs_in, one_key}
use Rattle.stored_database.proofs.Lists.{moved_three, moved_again}
use Rattle.stored_database.proofs.Moved.{differ_of}
use Rattle.stored_database.proofs.Staying.{info_there}
use Rattle.stored_database.proofs.Three.{attributes, attributes_for, same_file, same_owner, grouped_attributes, columns_are, Stands, entries_are_apart, attributes_are_apart, trees_are_apart, relation_entries, view_entries, index_entries, relation_attributes, view_attributes, index_attributes, view_trees, rule_trees, permit_trees, MovedAll, catalogue_after, rows_change}

-- ---- keys

-- a key is the only one of a list of one
only : (key k : RelKey) → has_key (key ∷ []) k ≡ false → same_key k key ≡ false
only key k e = first (same_key k key) e
  where
    first : (b : Bool) → (b || false) ≡ false → b ≡ false
    first true e = e
    first false e = refl

-- neither of two
neither : (a b : Bool) → (a || b) ≡ false → (a ≡ false) × (b ≡ false)
neither true b e = absurd (true≢false e)
neither false b e = (refl, e)

module _ (key : RelKey) (db : Db) (f g : Files) (stands : Stands f db) (new_allowed : Stands g db) (differ : DifferAt key f g) where
  -- ---- what stays

  relation_stays : (r : Relation) → has_key (key ∷ []) r.info.key ≡ false → relation_entry g r ≡ relation_entry f r
  relation_stays r off =
      let other = only key r.info.key off in
      λ i. record { file = differ.file r.info.key other i; key = r.info.key; spec = r.info.spec; base = 0; primary = 1; directory = 0; used = differ.used r.info.key other i; keys = r.info.keys }

  view_stays : (v : View) → has_key (key ∷ []) v.info.key ≡ false → view_entry g v ≡ view_entry f v
  view_stays v off =
      let file = differ.file v.info.key (only key v.info.key off) in
      λ i. record { file = file i; key = v.info.key; spec = v.info.spec; base = 0; primary = 0; directory = 0; used = 0; keys = v.info.keys }

  index_stays : (x : Index) → (has_key (key ∷ []) x.info.key || has_key (key ∷ []) x.base) ≡ false → index_entry g x ≡ index_entry f x
  index_stays x off =
      let others = neither (has_key (key ∷ []) x.info.key) (has_key (key ∷ []) x.base) off in
      let file = differ.file x.info.key (only key x.info.key others.0) in
      let base = differ.file x.base (only key x.base others.1) in
      λ i. record { file = file i; key = x.info.key; spec = x.info.spec; base = base i; primary = 0; directory = 0; used = 0; keys = x.info.keys }

  attributes_stay : (i : RelInfo) → has_key (key ∷ []) i.key ≡ false → attributes g i ≡ attributes f i
  attributes_stay i off = let file = differ.file i.key (only key i.key off) in λ t. record { file = file t; attrs = i.attrs }

  index_attributes_stay : (x : Index) → (has_key (key ∷ []) x.info.key || has_key (key ∷ []) x.base) ≡ false → attributes g x.info ≡ attributes f x.info
  index_attributes_stay x off = attributes_stay x.info (neither (has_key (key ∷ []) x.info.key) (has_key (key ∷ []) x.base) off).0

  view_tree_stays : (v : View) → has_key (key ∷ []) v.info.key ≡ false → view_tree g v ≡ view_tree f v
  view_tree_stays v off =
      let file = differ.file v.info.key (only key v.info.key off) in
      λ i. record { file = file i; sort = 0; number = 0; bytes = tree_bytes queries.query v.query }

  rule_tree_stays : (p : RelKey × Rule) → has_key (key ∷ []) p.0 ≡ false → rule_tree g p ≡ rule_tree f p
  rule_tree_stays p off =
      let file = differ.file p.0 (only key p.0 off) in
      λ i. record { file = file i; sort = 1; number = p.1.number; bytes = tree_bytes spellings.rule p.1 }

  permit_tree_stays : (p : RelKey × Permit) → has_key (key ∷ []) p.0 ≡ false → permit_tree g p ≡ permit_tree f p
  permit_tree_stays p off =
      let file = differ.file p.0 (only key p.0 off) in
      λ i. record { file = file i; sort = 2; number = p.1.number; bytes = tree_bytes spellings.permit p.1 }

  -- ---- what goes and comes

  all_moved : MovedAll f db g db (rows_of f (destroyed (key ∷ []) db)) (rows_of g (destroyed (key ∷ []) db))
  unfolding entries_for
  all_moved = record {
    gone_attributes = attributes_for f (destroyed (key ∷ []) db);
    come_attributes = attributes_for g (destroyed (key ∷ []) db);
    gone_trees = trees_for f (destroyed (key ∷ []) db);
    come_trees = trees_for g (destroyed (key ∷ []) db);
    gone_columns_are = columns_are f (destroyed (key ∷ []) db);
    come_columns_are = columns_are g (destroyed (key ∷ []) db);
    gone_parts_are = parts_are f (destroyed (key ∷ []) db);
    come_parts_are = parts_are g (destroyed (key ∷ []) db);
    entries = moved_three same_file grouped_entries.itself grouped_entries.turned
        (moved_again same_file grouped_entries.itself grouped_entries.turned (relation_entry f) (relation_entry g) db.relations (λ r. has_key (key ∷ []) r.info.key) (relation_entries f db stands) (relation_entries g db new_allowed) (λ r at off. relation_stays r off))
        (moved_again same_file grouped_entries.itself grouped_entries.turned (view_entry f) (view_entry g) db.views (λ v. has_key (key ∷ []) v.info.key) (view_entries f db stands) (view_entries g db new_allowed) (λ v at off. view_stays v off))
        (moved_again same_file grouped_entries.itself grouped_entries.turned (index_entry f) (index_entry g) db.indexes (λ x. has_key (key ∷ []) x.info.key || has_key (key ∷ []) x.base) (index_entries f db stands) (index_entries g db new_allowed) (λ x at off. index_stays x off))
        (entries_are_apart f db stands) (entries_are_apart g db new_allowed);
    columns = moved_three same_owner grouped_attributes.itself grouped_attributes.turned
        (moved_again same_owner grouped_attributes.itself grouped_attributes.turned (λ (r : Relation). attributes f r.info) (λ (r : Relation). attributes g r.info) db.relations (λ r. has_key (key ∷ []) r.info.key) (relation_attributes f db stands) (relation_attributes g db new_allowed)
        (λ r at off. attributes_stay r.info off))
        (moved_again same_owner grouped_attributes.itself grouped_attributes.turned (λ (v : View). attributes f v.info) (λ (v : View). attributes g v.info) db.views (λ v. has_key (key ∷ []) v.info.key) (view_attributes f db stands) (view_attributes g db new_allowed)
        (λ v at off. attributes_stay v.info off))
        (moved_again same_owner grouped_attributes.itself grouped_attributes.turned (λ (x : Index). attributes f x.info) (λ (x : Index). attributes g x.info) db.indexes (λ x. has_key (key ∷ []) x.info.key || has_key (key ∷ []) x.base) (index_attributes f db stands) (index_attributes g db new_allowed)
        (λ x at off. index_attributes_stay x off))
        (attributes_are_apart f db stands) (attributes_are_apart g db new_allowed);
    trees = moved_three same_tree grouped_trees.itself grouped_trees.turned
        (moved_again same_tree grouped_trees.itself grouped_trees.turned (view_tree f) (view_tree g) db.views (λ v. has_key (key ∷ []) v.info.key) (view_trees f db stands) (view_trees g db new_allowed) (λ v at off. view_tree_stays v off))
        (moved_again same_tree grouped_trees.itself grouped_trees.turned (rule_tree f) (rule_tree g) db.rules (λ p. has_key (key ∷ []) p.0) (rule_trees f db stands) (rule_trees g db new_allowed) (λ p at off. rule_tree_stays p off))
        (moved_again same_tree grouped_trees.itself grouped_trees.turned (permit_tree f) (permit_tree g) db.permits (λ p. has_key (key ∷ []) p.0) (permit_trees f db stands) (permit_trees g db new_allowed) (λ p at off. permit_tree_stays p off))
        (trees_are_apart f db stands) (trees_are_apart g db new_allowed);
  }

-- ---- the laws

module _ (key : RelKey) (db : Db) (f g : Files) (is : IsDatabase db) (differ : FilesDiffer db f) (differ_after : FilesDiffer db g) (at : DifferAt key f g) where
  before : Stands f db
  before = record { files_differ = differ; is = is }

  later : Stands g db
  later = record { files_differ = differ_after; is = is }

  all : MovedAll f db g db (rows_of f (destroyed (key ∷ []) db)) (rows_of g (destroyed (key ∷ []) db))
  all = all_moved key db f g before later at

pub renumbers_the_catalogue : RenumbersTheCatalogue
renumbers_the_catalogue key db f g is differ differ_after at =
    catalogue_after f db g db (rows_of f (destroyed (key ∷ []) db)) (rows_of g (destroyed (key ∷ []) db)) (before key db f g is differ differ_after at) (later key db f g is differ differ_after at)
    (all key db f g is differ differ_after at)

pub renumbers_rows : RenumbersRows
renumbers_rows key db f g is differ differ_after at =
    rows_change f db g db (rows_of f (destroyed (key ∷ []) db)) (rows_of g (destroyed (key ∷ []) db)) (before key db f g is differ differ_after at) (later key db f g is differ differ_after at)
    (all key db f g is differ differ_after at)

-- ---- files that differ

-- With a file that nothing else has the files differ as they did.
pub differ_still : (key : RelKey) (db : Db) (f g : Files) → IsDatabase db → FilesDiffer db f → DifferAt key f g
    → ((k : RelKey) → is_there db k ≡ true → same_key k key ≡ false → (g.file key == f.file k) ≡ false) → FilesDiffer db g
differ_still key db f g is differ at own =
    differ_of nat_eq (map (λ (i : RelInfo). g.file i.key) (entries db))
    (pairs_map (λ (m n : ℕ). nat_eq m n ≡ false) (λ (i : RelInfo). g.file i.key) (entries db)
    (pairs_in (λ (i j : RelInfo). same_key i.key j.key ≡ false) (λ (i j : RelInfo). nat_eq (g.file i.key) (g.file j.key) ≡ false) (entries db)
    (λ i j k l apart. two i.key j.key (info_there db i k) (info_there db j l) apart)
    (pairs_unmap (λ (k l : RelKey). same_key k l ≡ false) (λ (i : RelInfo). i.key) (entries db)
    (differ_pairs same_key (map (λ (i : RelInfo). i.key) (entries db)) is.keys_differ))))
  where
    off : (k l : RelKey) → same_key k l ≡ false → (b : Bool) → same_key l k ≡ b → b ≡ false
    off k l e false is = refl
    off k l e true is = absurd (true≢false (sym (same_key_turned l k is) ∙ e))

    were : (k l : RelKey) → is_there db k ≡ true → is_there db l ≡ true → same_key k l ≡ false → (b : Bool) → (f.file k == f.file l) ≡ b → b ≡ false
    were k l here there apart false is = refl
    were k l here there apart true is = absurd (true≢false (sym (same_key_itself k) ∙ ap (same_key k) (one_key db f differ k l here there is) ∙ apart))

    two : (k l : RelKey) → is_there db k ≡ true → is_there db l ≡ true → same_key k l ≡ false → (g.file k == g.file l) ≡ false
    two k l here there apart = go (same_key k key) (same_key l key) refl refl
      where
        go : (b c : Bool) → same_key k key ≡ b → same_key l key ≡ c → (g.file k == g.file l) ≡ false
        go true true d e = absurd (true≢false (sym (ap (same_key k) (same_key_is l key e) ∙ d) ∙ apart))
        go true false d e = ap₂ (λ m n. m == n) (ap g.file (same_key_is k key d)) (at.file l e) ∙ own l there e
        go false true d e = equal_turned (g.file k) (g.file l) ∙ ap₂ (λ m n. m == n) (ap g.file (same_key_is l key e)) (at.file k d) ∙ own k here d
        go false false d e = ap₂ (λ m n. m == n) (at.file k d) (at.file l e) ∙ were k l here there apart (f.file k == f.file l) refl
