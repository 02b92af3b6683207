-- The test of a change is that of its kind.
use Rattle.std.proofs.Common.{◌≡◌, sym, ap, ℕ, List}
use Rattle.calculus.specs.declared.query.RelKey.{RelKey}
use Rattle.calculus.specs.declared.query.Query.{Query}
use Rattle.calculus.specs.declared.schema.Spec.{Spec}
use Rattle.calculus.specs.declared.schema.RelInfo.{RelInfo}
use Rattle.calculus.specs.declared.schema.Permit.{Permit}
use Rattle.calculus.specs.declared.schema.Rule.{Rule}
use Rattle.calculus.specs.declared.change.DbChange.{DbChange}
use Rattle.calculus.specs.declared.change.DbChange.TheVariants as change
use Rattle.calculus.specs.Rows.{Row}
use Rattle.calculus.specs.Database.{Db}
use Rattle.change_laws.specs.Fit.{change_is_fit, rows_are_fit, relation_is_fit, destroying_is_fit, structure_is_fit, index_is_fit, view_is_fit, permit_is_fit, rule_is_fit, permits_may_go, rules_may_go}

pub of_rows : (db : Db) (made : DbChange) (rel : RelKey) (remove add : List Row) → made ≡ change.Rows rel remove add → rows_are_fit db rel remove add ≡ change_is_fit db made
unfolding change_is_fit
of_rows db made rel remove add e = sym (ap (change_is_fit db) e)

pub of_relation : (db : Db) (made : DbChange) (info : RelInfo) (rows : List Row) → made ≡ change.Create info rows → relation_is_fit db info rows ≡ change_is_fit db made
unfolding change_is_fit
of_relation db made info rows e = sym (ap (change_is_fit db) e)

pub of_destroying : (db : Db) (made : DbChange) (rels : List RelKey) → made ≡ change.Destroy rels → destroying_is_fit db rels ≡ change_is_fit db made
unfolding change_is_fit
of_destroying db made rels e = sym (ap (change_is_fit db) e)

pub of_structure : (db : Db) (made : DbChange) (rel : RelKey) (to : Spec) (keys : List ℕ) → made ≡ change.Modify rel to keys → structure_is_fit db rel to keys ≡ change_is_fit db made
unfolding change_is_fit
of_structure db made rel to keys e = sym (ap (change_is_fit db) e)

pub of_index : (db : Db) (made : DbChange) (base : RelKey) (name keys : List ℕ) → made ≡ change.Index base name keys → index_is_fit db base name keys ≡ change_is_fit db made
unfolding change_is_fit
of_index db made base name keys e = sym (ap (change_is_fit db) e)

pub of_view : (db : Db) (made : DbChange) (info : RelInfo) (query : Query) → made ≡ change.View info query → view_is_fit db info query ≡ change_is_fit db made
unfolding change_is_fit
of_view db made info query e = sym (ap (change_is_fit db) e)

pub of_permit : (db : Db) (made : DbChange) (rel : RelKey) (permit : Permit) → made ≡ change.Permit rel permit → permit_is_fit db rel permit ≡ change_is_fit db made
unfolding change_is_fit
of_permit db made rel permit e = sym (ap (change_is_fit db) e)

pub of_rule : (db : Db) (made : DbChange) (rel : RelKey) (rule : Rule) → made ≡ change.Rule rel rule → rule_is_fit db rel rule ≡ change_is_fit db made
unfolding change_is_fit
of_rule db made rel rule e = sym (ap (change_is_fit db) e)

pub of_permits : (db : Db) (made : DbChange) (rel : RelKey) (numbers : List ℕ) → made ≡ change.DropPermits rel numbers → permits_may_go db rel numbers ≡ change_is_fit db made
unfolding change_is_fit
of_permits db made rel numbers e = sym (ap (change_is_fit db) e)

pub of_rules : (db : Db) (made : DbChange) (rel : RelKey) (numbers : List ℕ) → made ≡ change.DropRules rel numbers → rules_may_go db rel numbers ≡ change_is_fit db made
unfolding change_is_fit
of_rules db made rel numbers e = sym (ap (change_is_fit db) e)
