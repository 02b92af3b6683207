-- A table stays one of its database, where both change.
use Rattle.std.proofs.Common.{◌≡◌, refl, sym, ap, ◌∙◌, subst, ℕ, Bool, true, false, cond, List, [], ◌∷◌, ◌++◌, map, Some, None, Option}
use Rattle.std.specs.Prelude.{is_some, nat_eq}
use Rattle.std.specs.List.{AllByRecursion, find, list_all}
use Rattle.calculus.specs.declared.query.RelKey.{RelKey}
use Rattle.calculus.specs.declared.schema.Permit.{Permit}
use Rattle.calculus.specs.declared.schema.Rule.{Rule}
use Rattle.calculus.specs.declared.schema.RelInfo.{RelInfo}
use Rattle.calculus.specs.declared.change.DbChange.TheVariants as change
use Rattle.calculus.specs.Change.{laid}
use Rattle.calculus.specs.Database.{Db, Relation, Index, View, entries}
use Rattle.calculus.specs.Keys.{same_key}
use Rattle.calculus.specs.Lists.{differ_by, insert_by}
use Rattle.calculus.specs.Replacement.{with_rows, without_rows}
use Rattle.calculus.specs.Rows.{Row}
use Rattle.stored_database.specs.Printed.{is_file}
use Rattle.stored_database.proofs.Members.{of_all, all_of}
use Rattle.stored_database.proofs.Orders.{same_key_is}
use Rattle.stored_database.proofs.Pairs.{all_map, all_unmap}
use Rattle.catalog_moves.specs.declared.files.FilePlace.{FilePlace}
use Rattle.catalog_moves.specs.declared.files.FileTable.{FileTable}
use Rattle.catalog_moves.specs.Bases.{IndexBases}
use Rattle.catalog_moves.specs.Files.{place_at, places_of, files_of, files_at, base_at, by_place}
use Rattle.catalog_moves.proofs.Tables.{place_put}

-- ---- the table is the same

-- relations with the same infos, the same views and the same indexes
pub same_bases : (table : FileTable) (db new : Db) → map (λ (r : Relation). r.info) new.relations ≡ map (λ (r : Relation). r.info) db.relations → new.views ≡ db.views → new.indexes ≡ db.indexes
    → IndexBases table db → IndexBases table new
same_bases table db new infos views indexes b = record {
  there = λ k h. subst (λ (es : List RelInfo). is_some (find (λ (i : RelInfo). same_key i.key k) es) ≡ true) (sym all) (b.there k h);
  are_files = subst (λ (es : List RelInfo). list_all (λ (i : RelInfo). is_file ((files_of table).file i.key)) es ≡ true) (sym all) b.are_files;
  files_differ = subst (λ (es : List RelInfo). differ_by nat_eq (map (λ (i : RelInfo). (files_of table).file i.key) es) ≡ true) (sym all) b.files_differ;
  relations =
      all_unmap (λ (i : RelInfo). base_at (places_of table) i.key ≡ 0) (λ (r : Relation). r.info) new.relations
      (subst (λ (is : List RelInfo). AllByRecursion (λ (i : RelInfo). base_at (places_of table) i.key ≡ 0) is) (sym infos)
      (all_map (λ (i : RelInfo). base_at (places_of table) i.key ≡ 0) (λ (r : Relation). r.info) db.relations b.relations));
  views = subst (λ (vs : List View). AllByRecursion (λ (v : View). base_at (places_of table) v.info.key ≡ 0) vs) (sym views) b.views;
  indexes = subst (λ (xs : List Index). AllByRecursion (λ (x : Index). base_at (places_of table) x.info.key ≡ (files_of table).file x.base) xs) (sym indexes) b.indexes;
}
  where
    all : entries new ≡ entries db
    all = λ i. infos i ++ (map (λ (v : View). v.info) (views i) ++ map (λ (x : Index). x.info) (indexes i))

-- rows change
pub rows_bases : (table : FileTable) (db : Db) (rel : RelKey) (remove add : List Row) → IndexBases table db → IndexBases table (laid db (change.Rows rel remove add))
unfolding laid
rows_bases table db rel remove add b = same_bases table db (laid db (change.Rows rel remove add)) (infos db.relations) refl refl b
  where
    infos : (rs : List Relation) → map (λ (r : Relation). r.info) (map (λ (r : Relation). elim (same_key r.info.key rel) [ true ↦ record r { rows = with_rows add (without_rows remove r.rows) } | false ↦ r ]) rs) ≡ map (λ (r : Relation). r.info) rs
    infos [] = refl
    infos (r ∷ rs) = ap (λ i. i ∷ map (λ (r : Relation). r.info) (map (λ (r : Relation). elim (same_key r.info.key rel) [ true ↦ record r { rows = with_rows add (without_rows remove r.rows) } | false ↦ r ]) rs)) (go (same_key r.info.key rel)) ∙ ap (λ is. r.info ∷ is) (infos rs)
      where
        go : (b : Bool) → (elim b as (λ b. Relation) [ true ↦ record r { rows = with_rows add (without_rows remove r.rows) } | false ↦ r ]).info ≡ r.info
        go true = refl
        go false = refl

-- permits and rules come and go
pub permit_bases : (table : FileTable) (db : Db) (rel : RelKey) (p : Permit) → IndexBases table db → IndexBases table (laid db (change.Permit rel p))
unfolding laid
permit_bases table db rel p b = same_bases table db (laid db (change.Permit rel p)) refl refl refl b

pub rule_bases : (table : FileTable) (db : Db) (rel : RelKey) (r : Rule) → IndexBases table db → IndexBases table (laid db (change.Rule rel r))
unfolding laid
rule_bases table db rel r b = same_bases table db (laid db (change.Rule rel r)) refl refl refl b

pub permits_dropped_bases : (table : FileTable) (db : Db) (rel : RelKey) (numbers : List ℕ) → IndexBases table db → IndexBases table (laid db (change.DropPermits rel numbers))
unfolding laid
permits_dropped_bases table db rel numbers b = same_bases table db (laid db (change.DropPermits rel numbers)) refl refl refl b

pub rules_dropped_bases : (table : FileTable) (db : Db) (rel : RelKey) (numbers : List ℕ) → IndexBases table db → IndexBases table (laid db (change.DropRules rel numbers))
unfolding laid
rules_dropped_bases table db rel numbers b = same_bases table db (laid db (change.DropRules rel numbers)) refl refl refl b

-- ---- the database is the same

-- a place gets another number of pages
pub put_bases : (old new : FileTable) (db : Db) (p q : FilePlace) → places_of new ≡ insert_by by_place p (places_of old) → place_at (places_of old) p.key ≡ Some q → p.file ≡ q.file → p.base ≡ q.base
    → IndexBases old db → IndexBases new db
unfolding files_at base_at
put_bases old new db p q put was file_same base_same b = record {
  there = λ k h. b.there k (sym (by_all (Option FilePlace) is_some (λ k e f. ap is_some e ∙ sym (ap is_some f)) k) ∙ h);
  are_files = subst (λ (g : RelKey → ℕ). list_all (λ (i : RelInfo). is_file (g i.key)) (entries db) ≡ true) (sym files) b.are_files;
  files_differ = subst (λ (g : RelKey → ℕ). differ_by nat_eq (map (λ (i : RelInfo). g i.key) (entries db)) ≡ true) (sym files) b.files_differ;
  relations = subst (λ (g : RelKey → ℕ). AllByRecursion (λ (r : Relation). g r.info.key ≡ 0) db.relations) (sym bases) b.relations;
  views = subst (λ (g : RelKey → ℕ). AllByRecursion (λ (v : View). g v.info.key ≡ 0) db.views) (sym bases) b.views;
  indexes = all_of (λ (x : Index). base_at (places_of new) x.info.key ≡ (files_of new).file x.base) db.indexes
      (λ x at. ap (λ (g : RelKey → ℕ). g x.info.key) bases ∙ of_all (λ (x : Index). base_at (places_of old) x.info.key ≡ (files_of old).file x.base) db.indexes x b.indexes at ∙ sym (ap (λ (g : RelKey → ℕ). g x.base) files));
}
  where
    at : (k : RelKey) → place_at (places_of new) k ≡ cond (same_key p.key k) (Some p) (place_at (places_of old) k)
    at k = ap (λ (places : List FilePlace). place_at places k) put ∙ place_put p (places_of old) k

    by_all : (A : Type 0) (g : Option FilePlace → Bool) → ((k : RelKey) → place_at (places_of new) k ≡ Some p → place_at (places_of old) k ≡ Some q → g (place_at (places_of new) k) ≡ g (place_at (places_of old) k)) → (k : RelKey) → g (place_at (places_of new) k) ≡ g (place_at (places_of old) k)
    by_all A g h k = go (same_key p.key k) refl
      where
        go : (c : Bool) → same_key p.key k ≡ c → g (place_at (places_of new) k) ≡ g (place_at (places_of old) k)
        go true e = h k (at k ∙ ap (λ c. cond c (Some p) (place_at (places_of old) k)) e) (ap (place_at (places_of old)) (sym (same_key_is p.key k e)) ∙ was)
        go false e = ap g (at k ∙ ap (λ c. cond c (Some p) (place_at (places_of old) k)) e)

    files : (files_of new).file ≡ (files_of old).file
    files = λ i k. one k i
      where
        one : (k : RelKey) → (files_of new).file k ≡ (files_of old).file k
        one k = go (same_key p.key k) refl
          where
            go : (c : Bool) → same_key p.key k ≡ c → (files_of new).file k ≡ (files_of old).file k
            go true e =
                ap (λ (o : Option FilePlace). elim o [ None ↦ 0 | Some p ↦ p.file ]) (at k ∙ ap (λ c. cond c (Some p) (place_at (places_of old) k)) e)
                ∙ file_same ∙ sym (ap (λ (o : Option FilePlace). elim o [ None ↦ 0 | Some p ↦ p.file ]) (ap (place_at (places_of old)) (sym (same_key_is p.key k e)) ∙ was))
            go false e = ap (λ (o : Option FilePlace). elim o [ None ↦ 0 | Some p ↦ p.file ]) (at k ∙ ap (λ c. cond c (Some p) (place_at (places_of old) k)) e)

    bases : base_at (places_of new) ≡ base_at (places_of old)
    bases = λ i k. one k i
      where
        one : (k : RelKey) → base_at (places_of new) k ≡ base_at (places_of old) k
        one k = go (same_key p.key k) refl
          where
            go : (c : Bool) → same_key p.key k ≡ c → base_at (places_of new) k ≡ base_at (places_of old) k
            go true e =
                ap (λ (o : Option FilePlace). elim o [ None ↦ 0 | Some p ↦ p.base ]) (at k ∙ ap (λ c. cond c (Some p) (place_at (places_of old) k)) e)
                ∙ base_same ∙ sym (ap (λ (o : Option FilePlace). elim o [ None ↦ 0 | Some p ↦ p.base ]) (ap (place_at (places_of old)) (sym (same_key_is p.key k e)) ∙ was))
            go false e = ap (λ (o : Option FilePlace). elim o [ None ↦ 0 | Some p ↦ p.base ]) (at k ∙ ap (λ c. cond c (Some p) (place_at (places_of old) k)) e)
