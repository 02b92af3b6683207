-- What comes and goes with each kind of change, row by row.
use Rattle.std.proofs.Common.{◌≡◌, refl, sym, ap, ◌∙◌, true≢false, ℕ, ◌==◌, ◌&&◌, Bool, true, false, not, cond, List, [], ◌∷◌, ◌++◌, map, filter, Some, None, Option, if◌then◌else◌}
use Rattle.std.specs.Prelude.{is_some}
use Rattle.std.specs.List.{find, flat_map}
use Rattle.std.specs.List.Sorted.{IsStrictlySortedBy}
use Rattle.std.proofs.lemmas.List.{append-nil}
use Rattle.calculus.specs.declared.query.RelKey.{RelKey}
use Rattle.calculus.specs.declared.query.Query.{Query}
use Rattle.calculus.specs.declared.schema.RelInfo.{RelInfo}
use Rattle.calculus.specs.declared.schema.Spec.{Spec}
use Rattle.calculus.specs.declared.schema.Permit.{Permit}
use Rattle.calculus.specs.declared.schema.Rule.{Rule}
use Rattle.calculus.specs.declared.change.DbChange.{DbChange}
use Rattle.calculus.specs.declared.change.DbChange.TheVariants as change
use Rattle.calculus.specs.Change.{index_info, restructured}
use Rattle.calculus.specs.Database.{Db, Relation, Index, is_relation, is_there, relation_at, rules_on, permits_on}
use Rattle.calculus.specs.Keys.{same_key, key_cmp, key_of}
use Rattle.calculus.specs.Lists.{has_number}
use Rattle.calculus.specs.Rows.{Row}
use Rattle.stored_database.specs.Moves.{going, coming, rows_of, destroyed}
use Rattle.stored_database.proofs.Staying.{relation_is_there}
use Rattle.quel_tree.specs.Permits.{rule, permit}
use Rattle.quel_tree.specs.Queries.{query}
use Rattle.stored_database.specs.Catalogue.{Catalogue}
use Rattle.stored_database.specs.Entries.{Entry}
use Rattle.stored_database.specs.Parts.{Part, of_view, of_rule, of_permit}
use Rattle.stored_database.specs.Printed.{Files, columns_from, entries_for, columns_for, parts_for, relation_entry, index_entry}
use Rattle.stored_database.specs.Trees.{cut, parts_from, tree_bytes}
use Rattle.std.proofs.lemmas.Cmp.{tied_itself}
use Rattle.std.proofs.lemmas.Map.Keys.{sorted_head, sorted_tail}
use Rattle.std.proofs.lemmas.Option.{same_Some}
use Rattle.std.specs.declared.cmp.Ordering.TheVariants.{Less}
use Rattle.calculus.specs.IsDatabase.{IsDatabase}
use Rattle.stored_database.proofs.Groups.{filter_fail}
use Rattle.stored_database.proofs.Members.{found_in}
use Rattle.stored_database.proofs.Orders.{key_total, same_key_is, same_key_itself}
use Rattle.stored_database.proofs.Pairs.{all_unmap, all_then}
use Rattle.catalog_moves.specs.Files.{files_after, placed_key, with_file}
use Rattle.catalog_moves.specs.Moves.{entry_with}

-- what comes, and what goes, where what the change makes or changes has this file and so many pages
abbrev pub that_comes : Files → ℕ → ℕ → Db → DbChange → Catalogue
that_comes f file used db made = coming f (files_after made file used f) db made

abbrev pub that_goes : Files → ℕ → ℕ → Db → DbChange → Catalogue
that_goes f file used db made = going f (files_after made file used f) db made

-- what has the key has this number
abbrev chosen : RelKey → RelKey → ℕ → ℕ → ℕ
chosen k key n other = if same_key k key then n else other

its_own : (key : RelKey) (n other : ℕ) → chosen key key n other ≡ n
its_own key n other = ap (λ b. if b then n else other) (same_key_itself key)

-- ---- what is made

pub created_comes : (f : Files) (file used : ℕ) (db : Db) (made : DbChange) (info : RelInfo) (rows : List Row) → made ≡ change.Create info rows
    → that_comes f file used db made ≡ record { entries = entry_with file 0 1 used info ∷ []; columns = columns_from file 0 info.attrs; parts = [] }
unfolding coming files_after placed_key with_file entries_for columns_for parts_for
created_comes f file used db made info rows e =
    ap (that_comes f file used db) e
    ∙ (λ i. record {
      entries = record { file = its_own info.key file (f.file info.key) i; key = info.key; spec = info.spec; base = 0; primary = 1; directory = 0; used = its_own info.key used (f.used info.key) i; keys = info.keys } ∷ [];
      columns = columns i;
      parts = [];
    })
  where
    columns : columns_from (chosen info.key info.key file (f.file info.key)) 0 info.attrs ++ [] ≡ columns_from file 0 info.attrs
    columns = append-nil _ ∙ ap (λ n. columns_from n 0 info.attrs) (its_own info.key file (f.file info.key))

pub viewed_comes : (f : Files) (file used : ℕ) (db : Db) (made : DbChange) (info : RelInfo) (q : Query) → made ≡ change.View info q
    → that_comes f file used db made ≡ record { entries = entry_with file 0 0 0 info ∷ []; columns = columns_from file 0 info.attrs; parts = parts_from file of_view 0 0 (cut (tree_bytes query q)) }
unfolding coming files_after placed_key with_file entries_for columns_for parts_for
viewed_comes f file used db made info q e =
    ap (that_comes f file used db) e
    ∙ (λ i. record {
      entries = record { file = its_own info.key file (f.file info.key) i; key = info.key; spec = info.spec; base = 0; primary = 0; directory = 0; used = 0; keys = info.keys } ∷ [];
      columns = columns i;
      parts = parts i;
    })
  where
    columns : columns_from (chosen info.key info.key file (f.file info.key)) 0 info.attrs ++ [] ≡ columns_from file 0 info.attrs
    columns = append-nil _ ∙ ap (λ n. columns_from n 0 info.attrs) (its_own info.key file (f.file info.key))

    parts : (parts_from (chosen info.key info.key file (f.file info.key)) of_view 0 0 (cut (tree_bytes query q)) ++ []) ++ [] ≡ parts_from file of_view 0 0 (cut (tree_bytes query q))
    parts = append-nil _ ∙ append-nil _ ∙ ap (λ n. parts_from n of_view 0 0 (cut (tree_bytes query q))) (its_own info.key file (f.file info.key))

pub indexed_comes : (f : Files) (file used : ℕ) (db : Db) (made : DbChange) (base : RelKey) (name keys : List ℕ) → made ≡ change.Index base name keys
    → is_relation db base ≡ true → not (is_there db (key_of base.owner name)) ≡ true
    → that_comes f file used db made ≡ record { entries = entry_with file (f.file base) 0 0 (index_info base name keys) ∷ []; columns = []; parts = [] }
unfolding coming files_after placed_key with_file
indexed_comes f file used db made base name keys e there new =
    ap (that_comes f file used db) e
    ∙ (λ i. record {
      entries = record { file = its_own (key_of base.owner name) file (f.file (key_of base.owner name)) i; key = key_of base.owner name; spec = (index_info base name keys).spec; base = below i; primary = 0; directory = 0; used = 0; keys = keys } ∷ [];
      columns = [];
      parts = [];
    })
  where
    other : (b : Bool) → same_key base (key_of base.owner name) ≡ b → b ≡ false
    other true s = absurd (true≢false (sym new ∙ ap not (ap (is_there db) (sym (same_key_is base (key_of base.owner name) s)) ∙ relation_is_there db base there)))
    other false s = refl

    below : chosen base (key_of base.owner name) file (f.file base) ≡ f.file base
    below = ap (λ b. if b then file else f.file base) (other (same_key base (key_of base.owner name)) refl)

pub permitted_comes : (f : Files) (file used : ℕ) (db : Db) (made : DbChange) (rel : RelKey) (p : Permit) → made ≡ change.Permit rel p
    → that_comes f file used db made ≡ record { entries = []; columns = []; parts = parts_from (f.file rel) of_permit p.number 0 (cut (tree_bytes permit p)) }
unfolding coming files_after placed_key entries_for columns_for parts_for
permitted_comes f file used db made rel p e = ap (that_comes f file used db) e ∙ (λ i. record { entries = []; columns = []; parts = append-nil (parts_from (f.file rel) of_permit p.number 0 (cut (tree_bytes permit p))) i })

pub ruled_comes : (f : Files) (file used : ℕ) (db : Db) (made : DbChange) (rel : RelKey) (r : Rule) → made ≡ change.Rule rel r
    → that_comes f file used db made ≡ record { entries = []; columns = []; parts = parts_from (f.file rel) of_rule r.number 0 (cut (tree_bytes rule r)) }
unfolding coming files_after placed_key entries_for columns_for parts_for
ruled_comes f file used db made rel r e = ap (that_comes f file used db) e ∙ (λ i. record { entries = []; columns = []; parts = parts i })
  where
    parts : (parts_from (f.file rel) of_rule r.number 0 (cut (tree_bytes rule r)) ++ []) ++ [] ≡ parts_from (f.file rel) of_rule r.number 0 (cut (tree_bytes rule r))
    parts = append-nil _ ∙ append-nil _

-- ---- what is changed

-- where keys ascend, one item has a key
pub one_under : {X : Type 0} (key_of : X → RelKey) (key : RelKey) (xs : List X) → IsStrictlySortedBy key_cmp (map key_of xs) → (x : X) → find (λ x. same_key (key_of x) key) xs ≡ Some x
    → filter (λ x. same_key (key_of x) key) xs ≡ x ∷ []
one_under key_of key [] up x e = cc e
one_under {X} key_of key (y ∷ ys) up x e = go (same_key (key_of y) key) refl e (one_under key_of key ys (sorted_tail key_cmp (key_of y) (map key_of ys) up) x)
  where
    other : same_key (key_of y) key ≡ true → (z : X) → key_cmp (key_of y) (key_of z) ≡ Less → same_key (key_of z) key ≡ false
    other s z less = differ (same_key (key_of z) key) refl
      where
        differ : (b : Bool) → same_key (key_of z) key ≡ b → b ≡ false
        differ true t = cc (sym (tied_itself key_total (key_of y)) ∙ ap (key_cmp (key_of y)) (same_key_is (key_of y) key s ∙ sym (same_key_is (key_of z) key t)) ∙ less)
        differ false t = refl

    go : (b : Bool) → same_key (key_of y) key ≡ b → cond b (Some y) (find (λ x. same_key (key_of x) key) ys) ≡ Some x
        → (find (λ x. same_key (key_of x) key) ys ≡ Some x → filter (λ x. same_key (key_of x) key) ys ≡ x ∷ []) → cond b (y ∷ filter (λ x. same_key (key_of x) key) ys) (filter (λ x. same_key (key_of x) key) ys) ≡ x ∷ []
    go true s e later =
        ap (λ l. y ∷ l) (filter_fail (λ x. same_key (key_of x) key) ys (all_then (λ z. key_cmp (key_of y) (key_of z) ≡ Less) (λ z. same_key (key_of z) key ≡ false) ys (other s)
        (all_unmap (λ k. key_cmp (key_of y) k ≡ Less) key_of ys (sorted_head key_cmp (key_of y) (map key_of ys) up))))
        ∙ ap (λ (z : X). z ∷ []) (same_Some y x e)
    go false s e later = later e

filter_and : {X : Type 0} (a b : X → Bool) (xs : List X) → filter (λ x. a x && b x) xs ≡ filter b (filter a xs)
filter_and a b [] = refl
filter_and {X} a b (x ∷ xs) = go (a x) (b x) refl (filter_and a b xs)
  where
    go : (p q : Bool) → b x ≡ q → filter (λ x. a x && b x) xs ≡ filter b (filter a xs)
        → cond (p && q) (x ∷ filter (λ x. a x && b x) xs) (filter (λ x. a x && b x) xs) ≡ filter b (cond p (x ∷ filter a xs) (filter a xs))
    go true true e later = ap (λ l. x ∷ l) later ∙ ap (λ c. cond c (x ∷ filter b (filter a xs)) (filter b (filter a xs))) (sym e)
    go true false e later = later ∙ ap (λ c. cond c (x ∷ filter b (filter a xs)) (filter b (filter a xs))) (sym e)
    go false q e later = later

-- what has the key has this number
its_at : (k key : RelKey) (n other : ℕ) → k ≡ key → chosen k key n other ≡ n
its_at k key n other e = ap (λ b. if b then n else other) (ap (same_key k) (sym e) ∙ same_key_itself k)

module _ (db : Db) (is : IsDatabase db) (rel : RelKey) (r : Relation) (at : relation_at db rel ≡ Some r) where
  its_key : r.info.key ≡ rel
  its_key = same_key_is r.info.key rel (found_in (λ (r : Relation). same_key r.info.key rel) db.relations r at).1

  alone : filter (λ (r : Relation). same_key r.info.key rel) db.relations ≡ r ∷ []
  alone = one_under (λ (r : Relation). r.info.key) rel db.relations is.relations_ascend r at

  its_resized : (f : Files) (used : RelKey → ℕ) (n : ℕ) → used rel ≡ n → filter (λ (r : Relation). same_key r.info.key rel && not (f.used r.info.key == used r.info.key)) db.relations ≡ cond (not (f.used rel == n)) (r ∷ []) []
  its_resized f used n e =
      filter_and (λ (r : Relation). same_key r.info.key rel) (λ (r : Relation). not (f.used r.info.key == used r.info.key)) db.relations
      ∙ ap (filter (λ (r : Relation). not (f.used r.info.key == used r.info.key))) alone
      ∙ ap (λ k. cond (not (f.used k == used k)) (r ∷ []) []) its_key
      ∙ ap (λ m. cond (not (f.used rel == m)) (r ∷ []) []) e

  mapped : (g : Relation → Entry) (b : Bool) (e : Entry) → g r ≡ e → map g (cond b (r ∷ []) []) ≡ cond b (e ∷ []) []
  mapped g true e h = ap (λ e. e ∷ []) h
  mapped g false e h = refl

  pub rows_come : (f : Files) (file used : ℕ) (made : DbChange) (remove add : List Row) → made ≡ change.Rows rel remove add
      → that_comes f file used db made ≡ record { entries = cond (not (f.used rel == used)) (entry_with file 0 1 used r.info ∷ []) []; columns = []; parts = [] }
  unfolding coming files_after placed_key with_file
  rows_come f file used made remove add e =
      ap (that_comes f file used db) e
      ∙ (λ i. record { entries = entries i; columns = []; parts = [] })
    where
      entries : map (λ (r : Relation). relation_entry (with_file rel file used f) r) (filter (λ (r : Relation). same_key r.info.key rel && not (f.used r.info.key == chosen r.info.key rel used (f.used r.info.key))) db.relations)
          ≡ cond (not (f.used rel == used)) (entry_with file 0 1 used r.info ∷ []) []
      entries =
          ap (map (λ (r : Relation). relation_entry (with_file rel file used f) r)) (its_resized f (λ k. chosen k rel used (f.used k)) used (its_at rel rel used (f.used rel) refl))
          ∙ mapped (λ (r : Relation). relation_entry (with_file rel file used f) r) (not (f.used rel == used)) (entry_with file 0 1 used r.info)
          (λ i. record { file = its_at r.info.key rel file (f.file r.info.key) its_key i; key = r.info.key; spec = r.info.spec; base = 0; primary = 1; directory = 0; used = its_at r.info.key rel used (f.used r.info.key) its_key i; keys = r.info.keys })

  pub rows_go : (f : Files) (file used : ℕ) (made : DbChange) (remove add : List Row) → made ≡ change.Rows rel remove add
      → that_goes f file used db made ≡ record { entries = cond (not (f.used rel == used)) (entry_with (f.file rel) 0 1 (f.used rel) r.info ∷ []) []; columns = []; parts = [] }
  unfolding going files_after placed_key with_file
  rows_go f file used made remove add e =
      ap (that_goes f file used db) e
      ∙ (λ i. record { entries = entries i; columns = []; parts = [] })
    where
      entries : map (relation_entry f) (filter (λ (r : Relation). same_key r.info.key rel && not (f.used r.info.key == chosen r.info.key rel used (f.used r.info.key))) db.relations)
          ≡ cond (not (f.used rel == used)) (entry_with (f.file rel) 0 1 (f.used rel) r.info ∷ []) []
      entries =
          ap (map (relation_entry f)) (its_resized f (λ k. chosen k rel used (f.used k)) used (its_at rel rel used (f.used rel) refl))
          ∙ mapped (relation_entry f) (not (f.used rel == used)) (entry_with (f.file rel) 0 1 (f.used rel) r.info)
          (λ i. record { file = f.file (its_key i); key = r.info.key; spec = r.info.spec; base = 0; primary = 1; directory = 0; used = f.used (its_key i); keys = r.info.keys })

  pub modify_comes : (f : Files) (file used : ℕ) (made : DbChange) (to : Spec) (keys : List ℕ) → made ≡ change.Modify rel to keys
      → that_comes f file used db made ≡ record { entries = entry_with file 0 1 used (restructured to keys r).info ∷ []; columns = []; parts = [] }
  unfolding coming files_after placed_key with_file
  modify_comes f file used made to keys e =
      ap (that_comes f file used db) e
      ∙ (λ i. record { entries = entries i; columns = []; parts = [] })
    where
      entries : map (λ (r : Relation). relation_entry (with_file rel file used f) (restructured to keys r)) (filter (λ (r : Relation). same_key r.info.key rel) db.relations) ≡ entry_with file 0 1 used (restructured to keys r).info ∷ []
      entries =
          ap (map (λ (r : Relation). relation_entry (with_file rel file used f) (restructured to keys r))) alone
          ∙ (λ i. record { file = its_at r.info.key rel file (f.file r.info.key) its_key i; key = r.info.key; spec = to; base = 0; primary = 1; directory = 0; used = its_at r.info.key rel used (f.used r.info.key) its_key i; keys = keys } ∷ [])

  pub modify_goes : (f : Files) (file used : ℕ) (made : DbChange) (to : Spec) (keys : List ℕ) → made ≡ change.Modify rel to keys
      → that_goes f file used db made ≡ record { entries = entry_with (f.file rel) 0 1 (f.used rel) r.info ∷ map (index_entry f) (filter (λ (x : Index). same_key x.base rel) db.indexes); columns = []; parts = [] }
  unfolding going files_after placed_key entries_for
  modify_goes f file used made to keys e =
      ap (that_goes f file used db) e
      ∙ (λ i. record { entries = entries i; columns = []; parts = [] })
    where
      entries : map (relation_entry f) (filter (λ (r : Relation). same_key r.info.key rel) db.relations) ++ map (index_entry f) (filter (λ (x : Index). same_key x.base rel) db.indexes)
          ≡ entry_with (f.file rel) 0 1 (f.used rel) r.info ∷ map (index_entry f) (filter (λ (x : Index). same_key x.base rel) db.indexes)
      entries =
          ap (λ rs. map (relation_entry f) rs ++ map (index_entry f) (filter (λ (x : Index). same_key x.base rel) db.indexes)) alone
          ∙ (λ i. record { file = f.file (its_key i); key = r.info.key; spec = r.info.spec; base = 0; primary = 1; directory = 0; used = f.used (its_key i); keys = r.info.keys } ∷ map (index_entry f) (filter (λ (x : Index). same_key x.base rel) db.indexes))

-- what is destroyed
pub destroy_goes : (f : Files) (file used : ℕ) (db : Db) (made : DbChange) (rels : List RelKey) → made ≡ change.Destroy rels → that_goes f file used db made ≡ rows_of f (destroyed rels db)
unfolding going files_after placed_key
destroy_goes f file used db made rels e = ap (that_goes f file used db) e

-- the relation under a key
pub the_relation : (db : Db) (rel : RelKey) → is_relation db rel ≡ true → (r : Relation) × (relation_at db rel ≡ Some r)
the_relation db rel e = go (relation_at db rel) refl e
  where
    go : (o : Option Relation) → relation_at db rel ≡ o → is_some o ≡ true → (r : Relation) × (relation_at db rel ≡ Some r)
    go None f h = absurd (true≢false (sym h))
    go (Some r) f h = (r, f)

-- ---- what is dropped

-- those with these numbers
abbrev ours : {X : Type 0} → (X → ℕ) → List ℕ → List X → List X
ours number numbers xs = filter (λ x. has_number numbers (number x)) xs

numbered_of : {X : Type 0} (g : ℕ → X → List Part) (f : Files) (number : X → ℕ) (rel : RelKey) (numbers : List ℕ) (ps : List (RelKey × X))
    → flat_map (λ (p : RelKey × X). g (f.file p.0) p.1) (filter (λ (p : RelKey × X). same_key p.0 rel && has_number numbers (number p.1)) ps)
    ≡ flat_map (g (f.file rel)) (filter (λ x. has_number numbers (number x)) (map (λ (p : RelKey × X). p.1) (filter (λ (p : RelKey × X). same_key p.0 rel) ps)))
numbered_of g f number rel numbers [] = refl
numbered_of {X} g f number rel numbers (p ∷ ps) = go (same_key p.0 rel) (has_number numbers (number p.1)) refl refl (numbered_of g f number rel numbers ps)
  where
    go : (a b : Bool) → same_key p.0 rel ≡ a → has_number numbers (number p.1) ≡ b → flat_map (λ (p : RelKey × X). g (f.file p.0) p.1) (filter (λ (p : RelKey × X). same_key p.0 rel && has_number numbers (number p.1)) ps) ≡ flat_map (g (f.file rel)) (ours number numbers (map (λ (p : RelKey × X). p.1) (filter (λ (p : RelKey × X). same_key p.0 rel) ps)))
        → flat_map (λ (p : RelKey × X). g (f.file p.0) p.1) (cond (a && b) (p ∷ filter (λ (p : RelKey × X). same_key p.0 rel && has_number numbers (number p.1)) ps) (filter (λ (p : RelKey × X). same_key p.0 rel && has_number numbers (number p.1)) ps))
        ≡ flat_map (g (f.file rel)) (ours number numbers (map (λ (p : RelKey × X). p.1) (cond a (p ∷ filter (λ (p : RelKey × X). same_key p.0 rel) ps) (filter (λ (p : RelKey × X). same_key p.0 rel) ps))))
    go true true e h later =
        ap (λ k. g (f.file k) p.1 ++ flat_map (λ (p : RelKey × X). g (f.file p.0) p.1) (filter (λ (p : RelKey × X). same_key p.0 rel && has_number numbers (number p.1)) ps)) (same_key_is p.0 rel e)
        ∙ ap (λ l. g (f.file rel) p.1 ++ l) later
        ∙ ap (λ c. flat_map (g (f.file rel)) (cond c (p.1 ∷ ours number numbers (map (λ (p : RelKey × X). p.1) (filter (λ (p : RelKey × X). same_key p.0 rel) ps))) (ours number numbers (map (λ (p : RelKey × X). p.1) (filter (λ (p : RelKey × X). same_key p.0 rel) ps))))) (sym h)
    go true false e h later =
        later
        ∙ ap (λ c. flat_map (g (f.file rel)) (cond c (p.1 ∷ ours number numbers (map (λ (p : RelKey × X). p.1) (filter (λ (p : RelKey × X). same_key p.0 rel) ps))) (ours number numbers (map (λ (p : RelKey × X). p.1) (filter (λ (p : RelKey × X). same_key p.0 rel) ps))))) (sym h)
    go false b e h later = later

pub permits_go : (f : Files) (file used : ℕ) (db : Db) (made : DbChange) (rel : RelKey) (numbers : List ℕ) → made ≡ change.DropPermits rel numbers
    → that_goes f file used db made ≡ record { entries = []; columns = []; parts = flat_map (λ p. parts_from (f.file rel) of_permit p.number 0 (cut (tree_bytes permit p))) (filter (λ p. has_number numbers p.number) (permits_on db rel)) }
unfolding going files_after placed_key entries_for columns_for parts_for
permits_go f file used db made rel numbers e =
    ap (that_goes f file used db) e
    ∙ (λ i. record { entries = []; columns = []; parts = numbered_of (λ n (p : Permit). parts_from n of_permit p.number 0 (cut (tree_bytes permit p))) f (λ (p : Permit). p.number) rel numbers db.permits i })

pub rules_go : (f : Files) (file used : ℕ) (db : Db) (made : DbChange) (rel : RelKey) (numbers : List ℕ) → made ≡ change.DropRules rel numbers
    → that_goes f file used db made ≡ record { entries = []; columns = []; parts = flat_map (λ r. parts_from (f.file rel) of_rule r.number 0 (cut (tree_bytes rule r))) (filter (λ r. has_number numbers r.number) (rules_on db rel)) }
unfolding going files_after placed_key entries_for columns_for parts_for
rules_go f file used db made rel numbers e =
    ap (that_goes f file used db) e
    ∙ (λ i. record { entries = []; columns = []; parts = (append-nil _ ∙ numbered_of (λ n (r : Rule). parts_from n of_rule r.number 0 (cut (tree_bytes rule r))) f (λ (r : Rule). r.number) rel numbers db.rules) i })

-- ---- where nothing goes or comes

pub nothing_comes : (f : Files) (file used : ℕ) (db : Db) (made other : DbChange) → made ≡ other → that_comes f file used db other ≡ record { entries = []; columns = []; parts = [] } → that_comes f file used db made ≡ record { entries = []; columns = []; parts = [] }
nothing_comes f file used db made other e h = ap (that_comes f file used db) e ∙ h

pub nothing_goes : (f : Files) (file used : ℕ) (db : Db) (made other : DbChange) → made ≡ other → that_goes f file used db other ≡ record { entries = []; columns = []; parts = [] } → that_goes f file used db made ≡ record { entries = []; columns = []; parts = [] }
nothing_goes f file used db made other e h = ap (that_goes f file used db) e ∙ h
