-- A database with an index, a rule and permits, and changes of it.
use Rattle.calculus.specs.Catalogue.{attribute_info}
use Rattle.calculus.specs.Change.{laid, adds_what_is_new, names_what_is_there, lists_once, IsLawful}
use Rattle.calculus.specs.Database.{Index}
use Rattle.calculus.specs.Finding.{found}
use Rattle.calculus.specs.IsDatabase.{IsDatabase, row_fits}
use Rattle.calculus.specs.declared.change.DbChange.TheVariants as change
use Rattle.calculus.specs.declared.change.DbChange.{DbChange}
use Rattle.calculus.specs.declared.schema.Permit.{Permit}
use Rattle.calculus.specs.declared.schema.RelInfo.{RelInfo}
use Rattle.calculus.specs.declared.schema.Rule.{Rule}
use Rattle.calculus.specs.declared.schema.Spec.TheVariants as spec
use Rattle.calculus.specs.declared.schema.Spec.{Spec}
use Rattle.calculus_examples.specs.Small.{key, num, text, attr, database, target}
use Rattle.std.specs.Prelude.{◌≡◌, ℕ, pos, false, List, [], ◌∷◌, Some, None, codes}
use Rattle.calculus_examples.specs.Words.{I2, C, Of, Gt, Int, Attr, True, Cmp, Query, query, Db, Relation}

-- a permit for everybody
abbrev pub for_all : ℕ → Permit
for_all number = record { number = number; ops = 15; attrs = []; user = None; qual = True }

-- what is known of p (a, b)
abbrev pub info : Spec → List ℕ → RelInfo
info structure keys = record { key = key (codes "p"); spec = structure; attrs = attr (codes "a") (Of I2) ∷ attr (codes "b") (Of (C 6)) ∷ []; keys = keys }

-- p holds 1 with x
abbrev pub p : Spec → List ℕ → Relation
p structure keys = record { info = info structure keys; rows = (num (pos 1) ∷ text (codes "x") ∷ []) ∷ [] }

-- the index pi on b of p
abbrev pub pi : Index
pi = record { info = record { key = key (codes "pi"); spec = spec.Index; attrs = []; keys = 1 ∷ [] }; base = key (codes "p") }

-- the rule that a is positive
abbrev pub positive : Rule
positive = record { number = 1; qual = Cmp Gt (Attr 0 0) (Int (pos 0)) }

-- p by a hash of a, with an index, a rule, and permits 1 and 3
abbrev pub db : Db
db = record {
  dba = codes "ann";
  relations = p spec.Hash (0 ∷ []) ∷ [];
  indexes = pi ∷ [];
  views = [];
  rules = (key (codes "p"), positive) ∷ [];
  permits = (key (codes "p"), for_all 1) ∷ (key (codes "p"), for_all 3) ∷ [];
}

-- p is stored by the order of b
abbrev pub to_isam : DbChange
to_isam = change.Modify (key (codes "p")) spec.Isam (1 ∷ [])

-- retrieve (x.b)
abbrev pub all_b : Query
all_b = query (key (codes "p") ∷ []) (target (codes "b") (Of (C 6)) (Attr 0 1) ∷ []) True

-- what changes leave, and what they don't
pub record Outcomes : Type 0 where
  pub a_structure_takes_the_indexes : laid db to_isam ≡ record db { relations = p spec.Isam (1 ∷ []) ∷ []; indexes = [] }
  pub a_permit_in_its_place :
      laid db (change.Permit (key (codes "p")) (for_all 2)) ≡ record db { permits = (key (codes "p"), for_all 1) ∷ (key (codes "p"), for_all 2) ∷ (key (codes "p"), for_all 3) ∷ [] }
  pub all_goes_with_a_relation : laid db (change.Destroy (key (codes "p") ∷ [])) ≡ database []
  pub rows_stay_a_set : (laid db (change.Rows (key (codes "p")) [] ((num (pos 0) ∷ text [] ∷ []) ∷ []))).relations
      ≡ record (p spec.Hash (0 ∷ [])) { rows = (num (pos 0) ∷ text [] ∷ []) ∷ (num (pos 1) ∷ text (codes "x") ∷ []) ∷ [] } ∷ []
  pub an_index_is_found_by_nobody : found db (codes "ann") (codes "pi") ≡ None
  pub its_relation_is : found db (codes "bob") (codes "p") ≡ Some (info spec.Hash (0 ∷ []))
  pub a_catalogue_is_found_last : found db (codes "bob") (codes "attribute") ≡ Some (attribute_info db)

-- which changes are lawful, and what others lack
pub record Lawful : Type 0 where
  pub is_one : IsDatabase db
  pub a_structure : IsLawful db to_isam
  pub a_new_permit : IsLawful db (change.Permit (key (codes "p")) (for_all 2))
  pub a_permit_that_is_there : adds_what_is_new db (change.Permit (key (codes "p")) (for_all 3)) ≡ false
  pub a_permit_that_is_not_there : names_what_is_there db (change.DropPermits (key (codes "p")) (2 ∷ [])) ≡ false
  pub a_number_twice : lists_once (change.DropPermits (key (codes "p")) (1 ∷ 1 ∷ [])) ≡ false
  pub the_key_of_an_index : adds_what_is_new db (change.Create (record (info spec.Heap []) { key = key (codes "pi") }) []) ≡ false
  pub a_row_that_is_there : adds_what_is_new db (change.Rows (key (codes "p")) [] ((num (pos 1) ∷ text (codes "x") ∷ []) ∷ [])) ≡ false
  pub a_row_that_does_not_fit : row_fits (info spec.Heap []).attrs (num (pos 1) ∷ text (codes "too long") ∷ []) ≡ false
