-- The database that parts make, and its parts.
use Rattle.std.proofs.Common.{◌≡◌, refl, sym, ap, subst, ℕ, List, [], ◌∷◌, map, Option, Some, None}
use Rattle.std.specs.List.{AllByRecursion}
use Rattle.std.specs.List.Sorted.{IsStrictlySortedBy}
use Rattle.std.proofs.lemmas.Option.{same_Some}
use Rattle.std.proofs.lemmas.Cmp.{on_total}
use Rattle.calculus.specs.declared.schema.Permit.{Permit}
use Rattle.calculus.specs.declared.schema.RelInfo.{RelInfo}
use Rattle.calculus.specs.declared.schema.Rule.{Rule}
use Rattle.calculus.specs.Database.{Db, Relation, Index, View}
use Rattle.calculus.specs.IsDatabase.{IsDatabase}
use Rattle.calculus.specs.Keys.{key_cmp, numbered_cmp}
use Rattle.page_chain.specs.Lists.{◌>>=◌, once}
use Rattle.plan_laws.proofs.Beside.{sorted_by_rel}
use Rattle.plan_laws.proofs.BesideViews.{sorted_by_view}
use Rattle.plan_laws.proofs.Orders.{key_total, numbered_total}
use Rattle.catalog_read.specs.Parts.{Parts, relation_in, whole}
use Rattle.catalog_read.specs.Applying.{Shuffled, IsLeft}
use Rattle.catalog_read.proofs.Shuffles.{back, mapped, all_shuffled}
use Rattle.catalog_read.proofs.Members.{all_unmapped}
use Rattle.catalog_read.proofs.Once.{once_shuffled, shuffled_once}
use Rattle.catalog_read.proofs.Steps.{infos_of, IsBare}

-- ---- relations without rows

pub bare_again : (relations : List Relation) → AllByRecursion (λ r. r.rows ≡ []) relations → map relation_in (map (λ r. r.info) relations) ≡ relations
bare_again [] h = refl
bare_again (r ∷ relations) h = λ i. record { info = r.info; rows = sym h.0 i } ∷ bare_again relations h.1 i

infos_again : (infos : List RelInfo) → map (λ r. r.info) (map relation_in infos) ≡ infos
infos_again [] = refl
infos_again (info ∷ infos) = ap (λ is. info ∷ is) (infos_again infos)

all_without : (infos : List RelInfo) → AllByRecursion (λ r. r.rows ≡ []) (map relation_in infos)
all_without [] = tt
all_without (info ∷ infos) = (refl, all_without infos)

-- ---- what the parts make

sorted_by_index : (xs : List Index) → IsStrictlySortedBy key_cmp (map (λ x. x.info.key) xs) → IsStrictlySortedBy (λ a b. key_cmp a.info.key b.info.key) xs
unfolding IsStrictlySortedBy
sorted_by_index [] h = tt
sorted_by_index (x ∷ xs) h = (all_unmapped _ (λ x. x.info.key) xs h.0, sorted_by_index xs h.1)

-- the parts are those of the database, in any order
pub record IsWhole (dba : List ℕ) (parts : Parts) (db : Db) : Type 0 where
  pub administrator : db.dba ≡ dba
  pub bare : IsBare db
  pub relations : Shuffled parts.relations (infos_of db)
  pub indexes : Shuffled parts.indexes db.indexes
  pub views : Shuffled parts.views db.views
  pub rules : Shuffled parts.rules db.rules
  pub permits : Shuffled parts.permits db.permits

bound : {A B : Type 0} {P : Type 0} (o : Option A) (f : A → Option B) (b : B) → (o >>= f) ≡ Some b → ((a : A) → o ≡ Some a → f a ≡ Some b → P) → P
bound None f b e go = cc e
bound (Some a) f b e go = go a refl e

pub whole_is : (dba : List ℕ) (parts : Parts) (db : Db) → whole dba parts ≡ Some db → IsWhole dba parts db
unfolding whole
whole_is dba parts db e =
    bound (once (λ a b. key_cmp a.info.key b.info.key) (map relation_in parts.relations)) _ db e (λ relations e1 e.
    bound (once (λ a b. key_cmp a.info.key b.info.key) parts.indexes) _ db e (λ indexes e2 e.
    bound (once (λ a b. key_cmp a.info.key b.info.key) parts.views) _ db e (λ views e3 e.
    bound (once (numbered_cmp (λ r. r.number)) parts.rules) _ db e (λ rules e4 e.
    bound (once (numbered_cmp (λ p. p.number)) parts.permits) _ db e (λ permits e5 e. (
    let is = same_Some _ db e in
    let made = once_shuffled (λ a b. key_cmp a.info.key b.info.key) (map relation_in parts.relations) relations e1 in
    subst (IsWhole dba parts) is (record {
      administrator = refl;
      bare = all_shuffled (λ r. r.rows ≡ []) (map relation_in parts.relations) relations made (all_without parts.relations);
      relations = subst (λ l. Shuffled l (map (λ r. r.info) relations)) (infos_again parts.relations) (mapped (λ r. r.info) (map relation_in parts.relations) relations made);
      indexes = once_shuffled (λ a b. key_cmp a.info.key b.info.key) parts.indexes indexes e2;
      views = once_shuffled (λ a b. key_cmp a.info.key b.info.key) parts.views views e3;
      rules = once_shuffled (numbered_cmp (λ r. r.number)) parts.rules rules e4;
      permits = once_shuffled (numbered_cmp (λ p. p.number)) parts.permits permits e5;
    })))))))

-- where nothing is left the parts make the database
pub nothing_left : (dba : List ℕ) (parts : Parts) (db : Db) → IsDatabase db → IsLeft dba [] db parts → whole dba parts ≡ Some db
unfolding whole
nothing_left dba parts db is l = λ i.
    relations i >>= (λ relations. indexes i >>= (λ indexes. views i >>= (λ views. rules i >>= (λ rules. permits i >>= (λ permits.
    Some (record { dba = sym l.administrator i; relations = relations; indexes = indexes; views = views; rules = rules; permits = permits }))))))
  where
    relations : once (λ a b. key_cmp a.info.key b.info.key) (map relation_in parts.relations) ≡ Some db.relations
    relations = shuffled_once (on_total (λ (r : Relation). r.info.key) key_total) (map relation_in parts.relations) db.relations
        (subst (Shuffled (map relation_in parts.relations)) (bare_again db.relations l.bare) (mapped relation_in parts.relations (infos_of db) (back (infos_of db) parts.relations l.relations)))
        (sorted_by_rel db.relations is.relations_ascend)

    indexes : once (λ a b. key_cmp a.info.key b.info.key) parts.indexes ≡ Some db.indexes
    indexes = shuffled_once (on_total (λ (x : Index). x.info.key) key_total) parts.indexes db.indexes (back db.indexes parts.indexes l.indexes) (sorted_by_index db.indexes is.indexes_ascend)

    views : once (λ a b. key_cmp a.info.key b.info.key) parts.views ≡ Some db.views
    views = shuffled_once (on_total (λ (v : View). v.info.key) key_total) parts.views db.views (back db.views parts.views l.views) (sorted_by_view db.views is.views_ascend)

    rules : once (numbered_cmp (λ r. r.number)) parts.rules ≡ Some db.rules
    rules = shuffled_once (numbered_total (λ (r : Rule). r.number)) parts.rules db.rules (back db.rules parts.rules l.rules) is.rules_ascend

    permits : once (numbered_cmp (λ p. p.number)) parts.permits ≡ Some db.permits
    permits = shuffled_once (numbered_total (λ (p : Permit). p.number)) parts.permits db.permits (back db.permits parts.permits l.permits) is.permits_ascend
