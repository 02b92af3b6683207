-- The trees of a printed catalogue: each is put together again from its parts.
use Rattle.std.proofs.Common.{◌≡◌, refl, sym, ap, ap₂, subst, ◌∙◌, true≢false, ℕ, ◌<◌, ◌==◌, ◌&&◌, Bool, true, false, List, [], ◌∷◌, ◌++◌, map, filter, find, length, Option, Some, None}
use Rattle.std.specs.Prelude.{nat_eq, is_some}
use Rattle.std.proofs.lemmas.Bool.{and_from}
use Rattle.std.proofs.lemmas.Cmp.{nat_cmp_total, tied_itself}
use Rattle.std.proofs.lemmas.List.Concat.{flat_map-append}
use Rattle.std.proofs.lemmas.List.Folds.{flat_map-map}
use Rattle.std.specs.List.{AllByRecursion, flat_map}
use Rattle.std.specs.List.Sorted.{IsStrictlySortedBy}
use Rattle.std.specs.Ordering.{is_eq, nat_cmp, ordering_then}
use Rattle.std.specs.declared.cmp.Ordering.TheVariants.{Less, Equal}
use Rattle.calculus.specs.declared.query.RelKey.{RelKey}
use Rattle.calculus.specs.declared.schema.RelInfo.{RelInfo}
use Rattle.calculus.specs.declared.schema.Permit.{Permit}
use Rattle.calculus.specs.declared.schema.Rule.{Rule}
use Rattle.calculus.specs.Database.{Db, Relation, View, entries, is_relation}
use Rattle.calculus.specs.Keys.{key_cmp, numbered_cmp, same_key}
use Rattle.calculus.specs.Lists.{differ_by}
use Rattle.page_chain.specs.Lists.{in_order}
use Rattle.quel_tree.specs.Permits as spellings
use Rattle.quel_tree.specs.Queries as queries
use Rattle.stored_database.specs.Parts.{Part, part_cmp, of_view, of_rule, of_permit}
use Rattle.stored_database.specs.Printed.{Files, parts_for, printed}
use Rattle.stored_database.specs.Trees.{tree_bytes, is_part_of, joined, tree_at, cut, parts_from}
use Rattle.stored_database.proofs.Members.{IsIn, found_in, apart_same}
use Rattle.stored_database.proofs.Pairs.{Pairs, all_then, all_each, all_map, all_append, all_both, pairs_then, pairs_map, pairs_unmap, pairs_append, pairs_front, pairs_behind, pairs_apart}
use Rattle.stored_database.proofs.InOrder.{NoneEqual}
use Rattle.stored_database.proofs.Groups.{Grouped, groups_found, groups_apart}
use Rattle.stored_database.proofs.Orders.{part_total, key_total, same_key_is}
use Rattle.stored_database.proofs.Pieces.{parts_decide, parts_ascend, parts_join}
use Rattle.stored_database.proofs.PrintedColumns.{then_equal}
use Rattle.stored_database.proofs.PrintedEntries.{nat_equal, equal_turned, infos_differ}
use Rattle.stored_database.proofs.Reading.{number_itself, same_number}

-- ---- trees

-- a tree's bytes, and where it belongs
pub record Tree : Type 0 where
  pub file : ℕ
  pub sort : ℕ
  pub number : ℕ
  pub bytes : List ℕ

-- its parts
abbrev pub parts_of : Tree → List Part
parts_of t = parts_from t.file t.sort t.number 0 (cut t.bytes)

-- the two belong to the same
abbrev pub same_tree : Tree → Tree → Bool
same_tree t u = (u.file == t.file) && ((u.sort == t.sort) && (u.number == t.number))

-- the parts of each tree, by where it belongs
pub grouped_trees : Grouped part_cmp parts_of (λ t p. is_part_of t.file t.sort t.number p) same_tree
grouped_trees = record {
  order = part_total;
  tests = λ t u. parts_decide t.file t.sort t.number u.file u.sort u.number 0 (cut u.bytes);
  equals = λ t a b e. alike t a b e;
  itself = λ t. and_from (t.file == t.file) ((t.sort == t.sort) && (t.number == t.number)) (number_itself t.file) (and_from (t.sort == t.sort) (t.number == t.number) (number_itself t.sort) (number_itself t.number));
  turned = λ t u i. equal_turned u.file t.file i && (equal_turned u.sort t.sort i && equal_turned u.number t.number i);
  ascends = λ t. parts_ascend t.file t.sort t.number 0 (cut t.bytes);
}
  where
    alike : (t : Tree) (a b : Part) → is_eq (part_cmp a b) ≡ true → is_part_of t.file t.sort t.number a ≡ is_part_of t.file t.sort t.number b
    alike t a b e =
        let one = then_equal (nat_cmp a.file b.file) _ e in
        let two = then_equal (nat_cmp a.sort b.sort) _ one.1 in
        let three = then_equal (nat_cmp a.number b.number) _ two.1 in
        λ i. (nat_equal a.file b.file one.0 i == t.file) && ((nat_equal a.sort b.sort two.0 i == t.sort) && (nat_equal a.number b.number three.0 i == t.number))

-- the tree of a view
abbrev pub view_tree : Files → View → Tree
view_tree f v = record { file = f.file v.info.key; sort = of_view; number = 0; bytes = tree_bytes queries.query v.query }

-- the tree of a rule or a permit
abbrev pub numbered_tree : {X : Type 0} → Files → ℕ → (X → ℕ) → (X → List ℕ) → RelKey × X → Tree
numbered_tree f sort number spell p = record { file = f.file p.0; sort = sort; number = number p.1; bytes = spell p.1 }

abbrev pub rule_tree : Files → RelKey × Rule → Tree
rule_tree f = numbered_tree f of_rule (λ r. r.number) (tree_bytes spellings.rule)

abbrev pub permit_tree : Files → RelKey × Permit → Tree
permit_tree f = numbered_tree f of_permit (λ p. p.number) (tree_bytes spellings.permit)

-- the trees of a database
abbrev pub trees_for : Files → Db → List Tree
trees_for f db = map (view_tree f) db.views ++ (map (rule_tree f) db.rules ++ map (permit_tree f) db.permits)

pub parts_are : (f : Files) (db : Db) → parts_for f db ≡ flat_map parts_of (trees_for f db)
unfolding parts_for
parts_are f db =
    sym (flat_map-append parts_of (map (view_tree f) db.views) (map (rule_tree f) db.rules ++ map (permit_tree f) db.permits)
    ∙ ap₂ (λ k l. k ++ l) (flat_map-map parts_of (view_tree f) db.views)
    (flat_map-append parts_of (map (rule_tree f) db.rules) (map (permit_tree f) db.permits)
    ∙ ap₂ (λ k l. k ++ l) (flat_map-map parts_of (rule_tree f) db.rules) (flat_map-map parts_of (permit_tree f) db.permits)))

-- ---- they differ

off : (b : Bool) → (b && false) ≡ false
off true = refl
off false = refl

-- what a key is that of
pub record Under (db : Db) (key : RelKey) : Type 0 where
  pub relation : Relation
  pub there : IsIn relation db.relations
  pub its : relation.info.key ≡ key

pub relation_under : (db : Db) (key : RelKey) → is_relation db key ≡ true → Under db key
relation_under db key e = go (find (λ r. same_key r.info.key key) db.relations) refl e
  where
    go : (o : Option Relation) → find (λ r. same_key r.info.key key) db.relations ≡ o → is_some o ≡ true → Under db key
    go None is e = absurd (true≢false (sym e))
    go (Some r) is e = let at = found_in (λ (r : Relation). same_key r.info.key key) db.relations r is in record { relation = r; there = at.0; its = same_key_is r.info.key key at.1 }

module _ (f : Files) (db : Db) (differ : differ_by nat_eq (map (λ i. f.file i.key) (entries db)) ≡ true) where
  -- relations of one file have one key
  one_key : (k l : RelKey) → is_relation db k ≡ true → is_relation db l ≡ true → (f.file l == f.file k) ≡ true → k ≡ l
  one_key k l here there same =
      let r = relation_under db k here in
      let s = relation_under db l there in
      let one : r.relation ≡ s.relation = apart_same (λ (r s : Relation). f.file s.info.key == f.file r.info.key) (λ r s e. equal_turned (f.file r.info.key) (f.file s.info.key) ∙ e) db.relations r.relation s.relation
      (pairs_apart (λ (r s : Relation). f.file s.info.key == f.file r.info.key) db.relations by_relation) r.there s.there ((λ i. f.file (s.its i) == f.file (r.its i)) ∙ same) in
      sym r.its ∙ ap (λ (r : Relation). r.info.key) one ∙ s.its
    where
      by_relation : Pairs (λ (r s : Relation). (f.file s.info.key == f.file r.info.key) ≡ false) db.relations
      by_relation = pairs_unmap (λ (i j : RelInfo). (f.file j.key == f.file i.key) ≡ false) (λ (r : Relation). r.info) db.relations
          (pairs_front (λ (i j : RelInfo). (f.file j.key == f.file i.key) ≡ false) (map (λ (r : Relation). r.info) db.relations) _ (infos_differ f db differ))

  module _ {X : Type 0} (sort : ℕ) (number : X → ℕ) (spell : X → List ℕ) where
    -- of two that ascend the trees differ
    two_differ : (p q : RelKey × X) → is_relation db p.0 ≡ true → is_relation db q.0 ≡ true → numbered_cmp number p q ≡ Less → same_tree (numbered_tree f sort number spell p) (numbered_tree f sort number spell q) ≡ false
    two_differ p q here there less = go (f.file q.0 == f.file p.0) (number q.1 == number p.1) refl refl
      where
        tied : p.0 ≡ q.0 → number q.1 ≡ number p.1 → numbered_cmp number p q ≡ Equal
        tied k n = (λ i. ordering_then (key_cmp p.0 (sym k i)) (nat_cmp (number p.1) (n i))) ∙ ap₂ ordering_then (tied_itself key_total p.0) (tied_itself nat_cmp_total (number p.1))

        go : (b c : Bool) → (f.file q.0 == f.file p.0) ≡ b → (number q.1 == number p.1) ≡ c → (b && ((sort == sort) && c)) ≡ false
        go true true e g = cc (less, tied (one_key p.0 q.0 here there e) (same_number (number q.1) (number p.1) g))
        go true false e g = off (sort == sort)
        go false c e g = refl

    one_behind : (p : RelKey × X) (qs : List (RelKey × X)) → is_relation db p.0 ≡ true → AllByRecursion (λ q. is_relation db q.0 ≡ true) qs → AllByRecursion (λ q. numbered_cmp number p q ≡ Less) qs
        → AllByRecursion (λ q. same_tree (numbered_tree f sort number spell p) (numbered_tree f sort number spell q) ≡ false) qs
    one_behind p [] here there less = tt
    one_behind p (q ∷ qs) here there less = (two_differ p q here there.0 less.0, one_behind p qs here there.1 less.1)

    numbered_differ : (ps : List (RelKey × X)) → IsStrictlySortedBy (numbered_cmp number) ps → AllByRecursion (λ p. is_relation db p.0 ≡ true) ps
        → Pairs (λ p q. same_tree (numbered_tree f sort number spell p) (numbered_tree f sort number spell q) ≡ false) ps
    unfolding IsStrictlySortedBy
    numbered_differ [] sorted there = tt
    numbered_differ (p ∷ ps) sorted there = (one_behind p ps there.0 there.1 sorted.0, numbered_differ ps sorted.1 there.1)

  views_differ : Pairs (λ v w. same_tree (view_tree f v) (view_tree f w) ≡ false) db.views
  views_differ =
      pairs_then (λ (v w : View). (f.file w.info.key == f.file v.info.key) ≡ false) (λ v w. same_tree (view_tree f v) (view_tree f w) ≡ false) db.views (λ v w e. ap (λ b. b && true) e)
      (pairs_unmap (λ (i j : RelInfo). (f.file j.key == f.file i.key) ≡ false) (λ (v : View). v.info) db.views
      (pairs_front (λ (i j : RelInfo). (f.file j.key == f.file i.key) ≡ false) (map (λ (v : View). v.info) db.views) _
      (pairs_behind (λ (i j : RelInfo). (f.file j.key == f.file i.key) ≡ false) (map (λ (r : Relation). r.info) db.relations) _ (infos_differ f db differ))))

  module _ (rules_ascend : IsStrictlySortedBy (numbered_cmp (λ (r : Rule). r.number)) db.rules) (permits_ascend : IsStrictlySortedBy (numbered_cmp (λ (p : Permit). p.number)) db.permits)
      (rules_there : AllByRecursion (λ p. is_relation db p.0 ≡ true) db.rules) (permits_there : AllByRecursion (λ p. is_relation db p.0 ≡ true) db.permits) where
    pub trees_differ : Pairs (λ t u. same_tree t u ≡ false) (trees_for f db)
    trees_differ =
        pairs_append R (map (view_tree f) db.views) (map (rule_tree f) db.rules ++ map (permit_tree f) db.permits) (pairs_map R (view_tree f) db.views views_differ)
        (pairs_append R (map (rule_tree f) db.rules) (map (permit_tree f) db.permits)
        (pairs_map R (rule_tree f) db.rules (numbered_differ of_rule (λ r. r.number) (tree_bytes spellings.rule) db.rules rules_ascend rules_there))
        (pairs_map R (permit_tree f) db.permits (numbered_differ of_permit (λ p. p.number) (tree_bytes spellings.permit) db.permits permits_ascend permits_there))
        (all_map (λ t. AllByRecursion (R t) (map (permit_tree f) db.permits)) (rule_tree f) db.rules (all_each _ db.rules (λ r. all_map (R (rule_tree f r)) (permit_tree f) db.permits (all_each _ db.permits (λ p. off _))))))
        (all_map (λ t. AllByRecursion (R t) (map (rule_tree f) db.rules ++ map (permit_tree f) db.permits)) (view_tree f) db.views (all_each _ db.views (λ v.
        all_append (R (view_tree f v)) (map (rule_tree f) db.rules) (map (permit_tree f) db.permits)
        (all_map (R (view_tree f v)) (rule_tree f) db.rules (all_each _ db.rules (λ p. off _))) (all_map (R (view_tree f v)) (permit_tree f) db.permits (all_each _ db.permits (λ p. off _))))))
      where
        R : Tree → Tree → Type 0
        R t u = same_tree t u ≡ false

    pub parts_apart : NoneEqual part_cmp (parts_for f db)
    parts_apart = subst (NoneEqual part_cmp) (sym (parts_are f db)) (groups_apart grouped_trees (trees_for f db) trees_differ)

    -- each tree is found again
    pub trees_at : AllByRecursion (λ t. 0 < length t.bytes) (trees_for f db) → AllByRecursion (λ t. tree_at (printed db f).parts t.file t.sort t.number ≡ Some t.bytes) (trees_for f db)
    unfolding printed
    trees_at some =
        all_then (λ t. (0 < length t.bytes) × (filter (is_part_of t.file t.sort t.number) (in_order part_cmp (flat_map parts_of (trees_for f db))) ≡ parts_of t))
        (λ t. tree_at (in_order part_cmp (parts_for f db)) t.file t.sort t.number ≡ Some t.bytes) (trees_for f db)
        (λ t is. ap (λ ps. joined (filter (is_part_of t.file t.sort t.number) (in_order part_cmp ps))) (parts_are f db) ∙ ap joined is.1 ∙ parts_join t.file t.sort t.number t.bytes is.0)
        (all_both (λ t. 0 < length t.bytes) (λ t. filter (is_part_of t.file t.sort t.number) (in_order part_cmp (flat_map parts_of (trees_for f db))) ≡ parts_of t) (trees_for f db)
        some (groups_found grouped_trees (trees_for f db) trees_differ))
