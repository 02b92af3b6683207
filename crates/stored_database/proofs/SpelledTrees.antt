-- Trees of a database that have spellings: their bytes are read again, and there are some.
use Rattle.std.proofs.Common.{◌≡◌, refl, ℕ, zero, suc, ◌<◌, length, Some, arith}
use Rattle.std.specs.List.{AllByRecursion}
use Rattle.calculus.specs.declared.query.Query.{Query}
use Rattle.calculus.specs.declared.schema.Permit.{Permit}
use Rattle.calculus.specs.declared.schema.Rule.{Rule}
use Rattle.calculus.specs.Database.{Db}
use Rattle.quel_tree.specs.Message.{most_tree_levels}
use Rattle.quel_tree.specs.Permits as spellings
use Rattle.quel_tree.specs.Queries as queries
use Rattle.tree_words.specs.Words.{list, number16, number32}
use Rattle.stored_database.specs.Trees.{tree_bytes, query_of, rule_of, permit_of}
use Rattle.stored_database.proofs.TreeBytes.{trees_are_their_bytes}

-- Each tree of the database has a spelling.
pub record AreSpelled (db : Db) : Type 0 where
  pub views : AllByRecursion (λ v. (queries.query most_tree_levels).Fits v.query) db.views
  pub rules : AllByRecursion (λ p. (spellings.rule most_tree_levels).Fits p.1) db.rules
  pub permits : AllByRecursion (λ p. (spellings.permit most_tree_levels).Fits p.1) db.permits

-- ---- a tree is read again from its bytes

pub query_again : (q : Query) → (queries.query most_tree_levels).Fits q → query_of (tree_bytes queries.query q) ≡ Some q
unfolding tree_bytes
query_again q fits = (trees_are_their_bytes.queries (tree_bytes queries.query q) q).1 (fits, refl)

pub rule_again : (r : Rule) → (spellings.rule most_tree_levels).Fits r → rule_of (tree_bytes spellings.rule r) ≡ Some r
unfolding tree_bytes
rule_again r fits = (trees_are_their_bytes.rules (tree_bytes spellings.rule r) r).1 (fits, refl)

pub permit_again : (p : Permit) → (spellings.permit most_tree_levels).Fits p → permit_of (tree_bytes spellings.permit p) ≡ Some p
unfolding tree_bytes
permit_again p fits = (trees_are_their_bytes.permits (tree_bytes spellings.permit p) p).1 (fits, refl)

-- ---- there are some bytes

some_query : (n : ℕ) (q : Query) → (queries.query n).Fits q → 0 < length ((queries.query n).write q)
unfolding queries.trees list number16
some_query zero q fits = absurd fits
some_query (suc n) q fits = omega arith

some_rule : (n : ℕ) (r : Rule) → 0 < length ((spellings.rule n).write r)
unfolding spellings.rule number32 number16
some_rule n r = omega arith

some_permit : (n : ℕ) (p : Permit) → 0 < length ((spellings.permit n).write p)
unfolding spellings.permit number32 number16
some_permit n p = omega arith

pub query_has_bytes : (q : Query) → (queries.query most_tree_levels).Fits q → 0 < length (tree_bytes queries.query q)
unfolding tree_bytes
query_has_bytes q fits = some_query most_tree_levels q fits

pub rule_has_bytes : (r : Rule) → 0 < length (tree_bytes spellings.rule r)
unfolding tree_bytes
rule_has_bytes r = some_rule most_tree_levels r

pub permit_has_bytes : (p : Permit) → 0 < length (tree_bytes spellings.permit p)
unfolding tree_bytes
permit_has_bytes p = some_permit most_tree_levels p
