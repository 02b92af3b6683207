-- Where changes are left and none of them may be applied, the parts make no database.
use Rattle.std.proofs.Common.{◌≡◌, refl, sym, ap, ◌∙◌, subst, inl, ℕ, Bool, true, false, IsTrue, List, [], ◌∷◌, ◌++◌, Some, map, length}
use Rattle.std.specs.Prelude.{flat_map}
use Rattle.std.specs.List.{list_all, AllByRecursion}
use Rattle.std.specs.List.Sorted.{IsStrictlySortedBy}
use Rattle.std.proofs.lemmas.Cmp.{on_total}
use Rattle.calculus.specs.declared.schema.RelInfo.{RelInfo}
use Rattle.calculus.specs.declared.change.DbChange.{DbChange}
use Rattle.calculus.specs.declared.change.DbChange.TheVariants as change
use Rattle.calculus.specs.Database.{Db, Relation}
use Rattle.calculus.specs.IsDatabase.{IsDatabase}
use Rattle.calculus.specs.Keys.{key_cmp, key_of}
use Rattle.change_laws.specs.Fit.{change_is_fit, relation_is_fit, index_is_fit, view_is_fit, rule_is_fit, permit_is_fit}
use Rattle.plan_laws.proofs.Created.{each_true, both_each}
use Rattle.plan_laws.proofs.Orders.{key_total}
use Rattle.catalog_read.specs.Parts.{Parts, relation_in, whole}
use Rattle.catalog_read.specs.Applying.{Shuffled, twice, relation_of, index_of, view_of, rule_of, permit_of, makes_a_part, IsLeft}
use Rattle.catalog_read.proofs.Members.{IsIn, of_all, in_shuffled, in_behind, all_made, all_mapped, all_unmapped}
use Rattle.catalog_read.proofs.Once.{sorted_same}
use Rattle.catalog_read.proofs.Steps.{infos_of, IsBare}
use Rattle.catalog_read.proofs.Ranged.{IsPart}
use Rattle.catalog_read.proofs.Fits.{Waits, relation_fits, index_fits, rule_fits, permit_fits}
use Rattle.catalog_read.proofs.FitViews.{no_view_waits}
use Rattle.catalog_read.proofs.Whole.{IsWhole, whole_is, bare_again}

-- ---- what may not be applied

-- the change makes a part, and may not be applied
abbrev Unfit : Db → DbChange → Type 0
Unfit db c = IsTrue (makes_a_part c) × (change_is_fit db c ≡ false)

unfit_relation : (db : Db) (c : DbChange) → Unfit db c → AllByRecursion (λ info. relation_is_fit db info [] ≡ false) (relation_of c)
unfolding change_is_fit
unfit_relation db (change.Create info []) h = (h.1, tt)
unfit_relation db (change.Create info (row ∷ rows)) h = cc h.0
unfit_relation db c h = tt

unfit_index : (db : Db) (c : DbChange) → Unfit db c → AllByRecursion (λ x. (index_is_fit db x.base x.info.key.name x.info.keys ≡ false) × (key_of x.base.owner x.info.key.name ≡ x.info.key)) (index_of c)
unfolding change_is_fit
unfit_index db (change.Index base name keys) h = ((h.1, refl), tt)
unfit_index db c h = tt

unfit_view : (db : Db) (c : DbChange) → Unfit db c → AllByRecursion (λ v. view_is_fit db v.info v.query ≡ false) (view_of c)
unfolding change_is_fit
unfit_view db (change.View info query) h = (h.1, tt)
unfit_view db c h = tt

unfit_rule : (db : Db) (c : DbChange) → Unfit db c → AllByRecursion (λ p. rule_is_fit db p.0 p.1 ≡ false) (rule_of c)
unfolding change_is_fit
unfit_rule db (change.Rule rel rule) h = (h.1, tt)
unfit_rule db c h = tt

unfit_permit : (db : Db) (c : DbChange) → Unfit db c → AllByRecursion (λ p. permit_is_fit db p.0 p.1 ≡ false) (permit_of c)
unfolding change_is_fit
unfit_permit db (change.Permit rel permit) h = (h.1, tt)
unfit_permit db c h = tt

-- ---- lists in which nothing is

none_in : {X : Type 0} (xs : List X) → ((x : X) → IsIn x xs → ⊥) → xs ≡ []
none_in [] h = refl
none_in (x ∷ xs) h = absurd (h x (inl refl))

contrary : {b : Bool} → b ≡ true → b ≡ false → ⊥
contrary this that = cc (sym this ∙ that)

-- changes that make nothing are none
make_nothing : (left : List DbChange) → IsTrue (list_all makes_a_part left) → flat_map relation_of left ≡ [] → flat_map index_of left ≡ [] → flat_map view_of left ≡ [] → flat_map rule_of left ≡ [] → flat_map permit_of left ≡ [] → left ≡ []
make_nothing [] k relations indexes views rules permits = refl
make_nothing (change.Create info rows ∷ left) k relations indexes views rules permits = cc relations
make_nothing (change.Index base name keys ∷ left) k relations indexes views rules permits = cc indexes
make_nothing (change.View info query ∷ left) k relations indexes views rules permits = cc views
make_nothing (change.Rule rel rule ∷ left) k relations indexes views rules permits = cc rules
make_nothing (change.Permit rel permit ∷ left) k relations indexes views rules permits = cc permits
make_nothing (change.Rows rel remove add ∷ left) k relations indexes views rules permits = cc k
make_nothing (change.Destroy rels ∷ left) k relations indexes views rules permits = cc k
make_nothing (change.Modify rel to keys ∷ left) k relations indexes views rules permits = cc k
make_nothing (change.DropPermits rel numbers ∷ left) k relations indexes views rules permits = cc k
make_nothing (change.DropRules rel numbers ∷ left) k relations indexes views rules permits = cc k

-- ---- relations that are all there

sorted_infos : (relations : List Relation) → IsStrictlySortedBy key_cmp (map (λ r. r.info.key) relations) → IsStrictlySortedBy (λ a b. key_cmp a.key b.key) (map (λ r. r.info) relations)
unfolding IsStrictlySortedBy
sorted_infos [] h = tt
sorted_infos (r ∷ relations) h =
    (all_mapped (λ i. key_cmp r.info.key i.key ≡ _) (λ r. r.info) relations (all_unmapped _ (λ r. r.info.key) relations h.0), sorted_infos relations h.1)

same_relations : (part whole : Db) → IsDatabase part → IsDatabase whole → IsBare part → IsBare whole → Shuffled (infos_of part) (infos_of whole) → part.relations ≡ whole.relations
same_relations part whole is all bare all_bare shuffled =
    let infos = sorted_same (on_total (λ (i : RelInfo). i.key) key_total) (infos_of part) (infos_of whole) (sorted_infos part.relations is.relations_ascend) (sorted_infos whole.relations all.relations_ascend) shuffled in
    sym (bare_again part.relations bare) ∙ ap (map relation_in) infos ∙ bare_again whole.relations all_bare

-- ---- nothing is left

module _ (left : List DbChange) (part whole : Db) (w : Waits left part whole) (kinds : IsTrue (list_all makes_a_part left)) (none : AllByRecursion (λ c. change_is_fit part c ≡ false) left) where
  unfit : AllByRecursion (Unfit part) left
  unfit = both_each (λ c. IsTrue (makes_a_part c)) (λ c. change_is_fit part c ≡ false) left (each_true makes_a_part left kinds) none

  no_relation : flat_map relation_of left ≡ []
  no_relation = none_in (flat_map relation_of left) (λ info at. contrary (relation_fits left part whole w info at)
      (of_all (λ info. relation_is_fit part info [] ≡ false) (flat_map relation_of left) info (all_made relation_of (Unfit part) _ (unfit_relation part) left unfit) at))

  is_part : IsPart part whole
  is_part = record {
    administrator = w.administrator;
    relations = same_relations part whole w.database w.all w.bare w.all_bare (subst (λ l. Shuffled (l ++ infos_of part) (infos_of whole)) no_relation w.relations);
    views = λ view at. in_shuffled view (flat_map view_of left ++ part.views) whole.views w.views (in_behind view (flat_map view_of left) part.views at);
  }

  no_index : flat_map index_of left ≡ []
  no_index = none_in (flat_map index_of left) (λ x at. (
      let no = of_all (λ x. (index_is_fit part x.base x.info.key.name x.info.keys ≡ false) × (key_of x.base.owner x.info.key.name ≡ x.info.key)) (flat_map index_of left) x
      (all_made index_of (Unfit part) _ (unfit_index part) left unfit) at in
      contrary (index_fits left part whole w is_part x no.1 at) no.0))

  no_view : flat_map view_of left ≡ []
  no_view = none_in (flat_map view_of left) (no_view_waits left part whole w is_part (all_made view_of (Unfit part) _ (unfit_view part) left unfit))

  no_rule : flat_map rule_of left ≡ []
  no_rule = none_in (flat_map rule_of left) (λ x at. contrary (rule_fits left part whole w is_part x at)
      (of_all (λ p. rule_is_fit part p.0 p.1 ≡ false) (flat_map rule_of left) x (all_made rule_of (Unfit part) _ (unfit_rule part) left unfit) at))

  no_permit : flat_map permit_of left ≡ []
  no_permit = none_in (flat_map permit_of left) (λ x at. contrary (permit_fits left part whole w is_part x at)
      (of_all (λ p. permit_is_fit part p.0 p.1 ≡ false) (flat_map permit_of left) x (all_made permit_of (Unfit part) _ (unfit_permit part) left unfit) at))

  pub none_left : left ≡ []
  none_left = make_nothing left kinds no_relation no_index no_view no_rule no_permit

-- where changes are left and none may be applied, the parts make no database
pub stuck : (left : List DbChange) (part : Db) → IsDatabase part → AllByRecursion (λ c. change_is_fit part c ≡ false) left → (length left ≡ 0 → ⊥)
    → (dba : List ℕ) (parts : Parts) (db : Db) → IsLeft dba left part parts → whole dba parts ≡ Some db → IsDatabase db → ⊥
stuck left part is none some dba parts db l e all = some (ap length (none_left left part db waits l.kinds none))
  where
    w : IsWhole dba parts db
    w = whole_is dba parts db e

    waits : Waits left part db
    waits = record {
      database = is;
      all = all;
      administrator = l.administrator ∙ sym w.administrator;
      bare = l.bare;
      all_bare = w.bare;
      relations = twice l.relations w.relations;
      indexes = twice l.indexes w.indexes;
      views = twice l.views w.views;
      rules = twice l.rules w.rules;
      permits = twice l.permits w.permits;
    }
