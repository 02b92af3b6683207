-- What a round does to the parts of a database, and what one that applies nothing says.
use Rattle.std.proofs.Common.{◌≡◌, refl, sym, ◌∙◌, subst, ℕ, suc, ◌≤◌, Bool, true, false, IsTrue, List, [], ◌∷◌, ◌++◌, length, arith, append_assoc}
use Rattle.std.specs.Prelude.{flat_map}
use Rattle.std.specs.List.{list_all, AllByRecursion}
use Rattle.calculus.specs.declared.change.DbChange.{DbChange}
use Rattle.calculus.specs.Change.{laid}
use Rattle.calculus.specs.Database.{Db}
use Rattle.calculus.specs.IsDatabase.{IsDatabase}
use Rattle.change_laws.specs.Fit.{change_is_fit}
use Rattle.change_laws.proofs.Exactly.{fits_exactly}
use Rattle.plan_laws.proofs.Kept.{both, each}
use Rattle.catalog_read.specs.Parts.{Parts}
use Rattle.catalog_read.specs.Applying.{Shuffled, twice, relation_of, index_of, view_of, rule_of, permit_of, makes_a_part, IsLeft, round}
use Rattle.catalog_read.proofs.Shuffles.{same, back, before_same, behind_same, turned}
use Rattle.catalog_read.proofs.Steps.{infos_of, IsBare, Puts, change_puts}

-- ---- parts that are moved

-- changes that were to be applied on the one database, and those that are left to be applied on the other
pub record Moves (changes : List DbChange) (db : Db) (left : List DbChange) (later : Db) : Type 0 where
  pub database : IsDatabase later
  pub administrator : later.dba ≡ db.dba
  pub kinds : IsTrue (list_all makes_a_part left)
  pub bare : IsBare db → IsBare later
  pub relations : Shuffled (flat_map relation_of changes ++ infos_of db) (flat_map relation_of left ++ infos_of later)
  pub indexes : Shuffled (flat_map index_of changes ++ db.indexes) (flat_map index_of left ++ later.indexes)
  pub views : Shuffled (flat_map view_of changes ++ db.views) (flat_map view_of left ++ later.views)
  pub rules : Shuffled (flat_map rule_of changes ++ db.rules) (flat_map rule_of left ++ later.rules)
  pub permits : Shuffled (flat_map permit_of changes ++ db.permits) (flat_map permit_of left ++ later.permits)

-- what is put among those that stand
laid_first : {X : Type 0} (its more standing later left : List X) → Shuffled (its ++ standing) later → Shuffled (more ++ later) left → Shuffled ((its ++ more) ++ standing) left
laid_first its more standing later left put rest =
    twice (before_same standing (its ++ more) (more ++ its) (turned its more))
    (subst (λ l. Shuffled l left) (sym (append_assoc more its standing)) (twice (behind_same more (its ++ standing) later put) rest))

-- what is left in front
left_first : {X : Type 0} (its more standing left later : List X) → Shuffled (more ++ standing) (left ++ later) → Shuffled ((its ++ more) ++ standing) ((its ++ left) ++ later)
left_first its more standing left later rest = rw append_assoc (rw append_assoc (behind_same its (more ++ standing) (left ++ later) rest))

laid_moves : (c : DbChange) (changes : List DbChange) (db : Db) (left : List DbChange) (later : Db) → Puts c db (laid db c) → Moves changes (laid db c) left later → Moves (c ∷ changes) db left later
laid_moves c changes db left later put m = record {
  database = m.database;
  administrator = m.administrator ∙ put.administrator;
  kinds = m.kinds;
  bare = λ b. m.bare (put.bare b);
  relations = laid_first (relation_of c) (flat_map relation_of changes) (infos_of db) (infos_of (laid db c)) (flat_map relation_of left ++ infos_of later) put.relations m.relations;
  indexes = laid_first (index_of c) (flat_map index_of changes) db.indexes (laid db c).indexes (flat_map index_of left ++ later.indexes) put.indexes m.indexes;
  views = laid_first (view_of c) (flat_map view_of changes) db.views (laid db c).views (flat_map view_of left ++ later.views) put.views m.views;
  rules = laid_first (rule_of c) (flat_map rule_of changes) db.rules (laid db c).rules (flat_map rule_of left ++ later.rules) put.rules m.rules;
  permits = laid_first (permit_of c) (flat_map permit_of changes) db.permits (laid db c).permits (flat_map permit_of left ++ later.permits) put.permits m.permits;
}

left_moves : (c : DbChange) (changes : List DbChange) (db : Db) (left : List DbChange) (later : Db) → IsTrue (makes_a_part c) → Moves changes db left later → Moves (c ∷ changes) db (c ∷ left) later
left_moves c changes db left later k m = record {
  database = m.database;
  administrator = m.administrator;
  kinds = each (makes_a_part c) (list_all makes_a_part left) k m.kinds;
  bare = m.bare;
  relations = left_first (relation_of c) (flat_map relation_of changes) (infos_of db) (flat_map relation_of left) (infos_of later) m.relations;
  indexes = left_first (index_of c) (flat_map index_of changes) db.indexes (flat_map index_of left) later.indexes m.indexes;
  views = left_first (view_of c) (flat_map view_of changes) db.views (flat_map view_of left) later.views m.views;
  rules = left_first (rule_of c) (flat_map rule_of changes) db.rules (flat_map rule_of left) later.rules m.rules;
  permits = left_first (permit_of c) (flat_map permit_of changes) db.permits (flat_map permit_of left) later.permits m.permits;
}

-- ---- a round

pub round_moves : (changes : List DbChange) (db : Db) → IsDatabase db → IsTrue (list_all makes_a_part changes) → Moves changes db (round db changes).1 (round db changes).0
unfolding round
round_moves [] db is k = record {
  database = is;
  administrator = refl;
  kinds = refl;
  bare = λ b. b;
  relations = same (infos_of db);
  indexes = same db.indexes;
  views = same db.views;
  rules = same db.rules;
  permits = same db.permits;
}
round_moves (c ∷ changes) db is k =
    let kinds = both (makes_a_part c) (list_all makes_a_part changes) k in
    go (change_is_fit db c) refl kinds.0 (λ after. round_moves changes (laid db c) after kinds.1) (round_moves changes db is kinds.1)
  where
    after : Bool → Db × List DbChange
    after b = elim b as (λ b. Db × List DbChange) [ true ↦ round (laid db c) changes | false ↦ (let later = round db changes in (later.0, c ∷ later.1)) ]

    go : (b : Bool) → change_is_fit db c ≡ b → IsTrue (makes_a_part c)
        → (IsDatabase (laid db c) → Moves changes (laid db c) (round (laid db c) changes).1 (round (laid db c) changes).0)
        → Moves changes db (round db changes).1 (round db changes).0 → Moves (c ∷ changes) db (after b).1 (after b).0
    go true e kind ih left =
        let lawful = (fits_exactly db c is).0 e in
        laid_moves c changes db (round (laid db c) changes).1 (round (laid db c) changes).0 (change_puts c db kind lawful) (ih lawful.leaves_a_database)
    go false e kind ih left = left_moves c changes db (round db changes).1 (round db changes).0 kind left

-- what was left is left
pub round_left : (changes : List DbChange) (db : Db) → IsDatabase db → (dba : List ℕ) (parts : Parts) → IsLeft dba changes db parts → IsLeft dba (round db changes).1 (round db changes).0 parts
round_left changes db is dba parts l =
    let m = round_moves changes db is l.kinds in
    record {
      administrator = m.administrator ∙ l.administrator;
      kinds = m.kinds;
      bare = m.bare l.bare;
      relations = twice (back (flat_map relation_of changes ++ infos_of db) (flat_map relation_of (round db changes).1 ++ infos_of (round db changes).0) m.relations) l.relations;
      indexes = twice (back (flat_map index_of changes ++ db.indexes) (flat_map index_of (round db changes).1 ++ (round db changes).0.indexes) m.indexes) l.indexes;
      views = twice (back (flat_map view_of changes ++ db.views) (flat_map view_of (round db changes).1 ++ (round db changes).0.views) m.views) l.views;
      rules = twice (back (flat_map rule_of changes ++ db.rules) (flat_map rule_of (round db changes).1 ++ (round db changes).0.rules) m.rules) l.rules;
      permits = twice (back (flat_map permit_of changes ++ db.permits) (flat_map permit_of (round db changes).1 ++ (round db changes).0.permits) m.permits) l.permits;
    }

pub round_length : (changes : List DbChange) (db : Db) → length (round db changes).1 ≤ length changes
unfolding round
round_length [] db = omega arith
round_length (c ∷ changes) db = go (change_is_fit db c) (round_length changes (laid db c)) (round_length changes db)
  where
    go : (b : Bool) → length (round (laid db c) changes).1 ≤ length changes → length (round db changes).1 ≤ length changes
        → length (elim b as (λ b. Db × List DbChange) [ true ↦ round (laid db c) changes | false ↦ (let later = round db changes in (later.0, c ∷ later.1)) ]).1 ≤ suc (length changes)
    go true h k = omega (arith, h)
    go false h k = omega (arith, k)

-- where as many are left, none may be applied
pub none_fits : (changes : List DbChange) (db : Db) → length (round db changes).1 ≡ length changes → AllByRecursion (λ c. change_is_fit db c ≡ false) changes
unfolding round
none_fits [] db h = tt
none_fits (c ∷ changes) db h = go (change_is_fit db c) refl h (none_fits changes db)
  where
    go : (b : Bool) → change_is_fit db c ≡ b
        → length (elim b as (λ b. Db × List DbChange) [ true ↦ round (laid db c) changes | false ↦ (let later = round db changes in (later.0, c ∷ later.1)) ]).1 ≡ suc (length changes)
        → (length (round db changes).1 ≡ length changes → AllByRecursion (λ c. change_is_fit db c ≡ false) changes) → AllByRecursion (λ c. change_is_fit db c ≡ false) (c ∷ changes)
    go true e h later = absurd (omega (arith, h, round_length changes (laid db c)))
    go false e h later = (e, later (omega (arith, h)))
