-- The test of a utility is that of its kind.
use Rattle.std.proofs.Common.{◌≡◌, refl, sym, ap, ◌∙◌, ℕ, Bool, true, false, not, ◌&&◌, ◌||◌, nat_le, nat_lt, IsTrue, List, map, length}
use Rattle.std.specs.List.{list_all}
use Rattle.std.proofs.Common.{arith}
use Rattle.std.proofs.lemmas.Bool.Decides.{nat_tests}
use Rattle.calculus.specs.declared.query.QQual.{QQual}
use Rattle.calculus.specs.declared.query.Query.{Query}
use Rattle.calculus.specs.declared.query.RelKey.{RelKey}
use Rattle.calculus.specs.declared.schema.Attr.{Attr}
use Rattle.calculus.specs.declared.schema.Permit.{Permit}
use Rattle.calculus.specs.declared.schema.Rule.{Rule}
use Rattle.calculus.specs.declared.schema.Spec.{Spec}
use Rattle.calculus.specs.declared.request.CopyCol.{CopyCol}
use Rattle.calculus.specs.declared.request.Utility.{Utility}
use Rattle.calculus.specs.declared.request.Utility.TheVariants as utility
use Rattle.calculus.specs.Database.{Db}
use Rattle.calculus.specs.IsDatabase.{are_stored, attrs_stand, keys_stand, valid_query, valid_row_qual, vars_are_there}
use Rattle.calculus.specs.Keys.{same_key}
use Rattle.calculus.specs.Lists.{differ_by, is_any}
use Rattle.calculus.specs.QueryParts.{targets_of, vars_of}
use Rattle.calculus.specs.Sizes.{expanded_variables, query_level, query_size, variables}
use Rattle.calculus.specs.Spelled.{qual_is_spelled, query_is_spelled}
use Rattle.calculus.specs.Storable.{row_qual_is_small, row_qual_is_storable}
use Rattle.calculus.specs.Stored.{attrs_at}
use Rattle.calculus.specs.Structures.{is_structure}
use Rattle.calculus.specs.TreeLevels.{query_levels}
use Rattle.change_laws.specs.Fit.{view_is_small}
use Rattle.quel_meaning.specs.Fit.{columns_fit, is_entry, is_new, listed_attrs_fit, row_qual_fits, utility_fits, view_fits}
use Rattle.quel_meaning.specs.FitQueries.{can_be_ranged_over}
use Rattle.quel_meaning.specs.Passing.{is_too_high, is_too_large}
use Rattle.quel_meaning.specs.Planned.{target_attr}

pub of_create : (db : Db) (user : List ℕ) (work : Utility) (rel : RelKey) (attrs : List Attr) → work ≡ utility.Create rel attrs
    → (is_new db rel.owner rel.name && (attrs_stand attrs && are_stored attrs)) ≡ utility_fits db user work
unfolding utility_fits
of_create db user work rel attrs e = sym (ap (utility_fits db user) e)

pub of_destroy : (db : Db) (user : List ℕ) (work : Utility) (rels : List RelKey) → work ≡ utility.Destroy rels
    → (list_all (is_entry db) rels && differ_by same_key rels) ≡ utility_fits db user work
unfolding utility_fits
of_destroy db user work rels e = sym (ap (utility_fits db user) e)

pub of_modify : (db : Db) (user : List ℕ) (work : Utility) (rel : RelKey) (to : Spec) (keys : List ℕ) → work ≡ utility.Modify rel to keys
    → (can_be_ranged_over db rel && (is_structure to && keys_stand (attrs_at db rel) keys)) ≡ utility_fits db user work
unfolding utility_fits
of_modify db user work rel to keys e = sym (ap (utility_fits db user) e)

pub of_index : (db : Db) (user : List ℕ) (work : Utility) (base : RelKey) (name keys : List ℕ) → work ≡ utility.Index base name keys
    → (can_be_ranged_over db base && (is_new db user name && (is_any keys && keys_stand (attrs_at db base) keys))) ≡ utility_fits db user work
unfolding utility_fits
of_index db user work base name keys e = sym (ap (utility_fits db user) e)

pub of_copy : (db : Db) (user : List ℕ) (work : Utility) (rel : RelKey) (columns : List CopyCol) (from : Bool) (file : List ℕ) → work ≡ utility.Copy rel columns from file
    → (can_be_ranged_over db rel && columns_fit db rel columns) ≡ utility_fits db user work
unfolding utility_fits
of_copy db user work rel columns from file e = sym (ap (utility_fits db user) e)

pub of_view : (db : Db) (user : List ℕ) (work : Utility) (rel : RelKey) (query : Query) → work ≡ utility.View rel query
    → (is_new db rel.owner rel.name && view_fits db query) ≡ utility_fits db user work
unfolding utility_fits
of_view db user work rel query e = sym (ap (utility_fits db user) e)

pub of_permit : (db : Db) (user : List ℕ) (work : Utility) (rel : RelKey) (permit : Permit) → work ≡ utility.Permit rel permit
    → (row_qual_fits db rel permit.qual && listed_attrs_fit db rel permit) ≡ utility_fits db user work
unfolding utility_fits
of_permit db user work rel permit e = sym (ap (utility_fits db user) e)

pub of_rule : (db : Db) (user : List ℕ) (work : Utility) (rel : RelKey) (rule : Rule) → work ≡ utility.Rule rel rule → row_qual_fits db rel rule.qual ≡ utility_fits db user work
unfolding utility_fits
of_rule db user work rel rule e = sym (ap (utility_fits db user) e)

pub of_permits : (db : Db) (user : List ℕ) (work : Utility) (rel : RelKey) (numbers : List ℕ) → work ≡ utility.DropPermits rel numbers → can_be_ranged_over db rel ≡ utility_fits db user work
unfolding utility_fits
of_permits db user work rel numbers e = sym (ap (utility_fits db user) e)

pub of_rules : (db : Db) (user : List ℕ) (work : Utility) (rel : RelKey) (numbers : List ℕ) → work ≡ utility.DropRules rel numbers → can_be_ranged_over db rel ≡ utility_fits db user work
unfolding utility_fits
of_rules db user work rel numbers e = sym (ap (utility_fits db user) e)

-- ---- views

no_more : (m n : ℕ) → nat_lt n m ≡ not (nat_le m n)
no_more m n = go (nat_le m n) refl (nat_lt n m) refl
  where
    go : (a : Bool) → nat_le m n ≡ a → (b : Bool) → nat_lt n m ≡ b → b ≡ not a
    go true e true f = absurd (grind (arith, nat_tests, e, f))
    go true e false f = refl
    go false e true f = refl
    go false e false f = absurd (grind (arith, nat_tests, e, f))

ten : (a v h s l u e z d : Bool) → (a && (v && (not h && (s && (l && (u && (e && (z && (d && true)))))))))
    ≡ (v && (s && (a && (l && (u && (e && not (not z || (h || not d))))))))
ten false v h s l u e z d = none v s
  where
    none : (v s : Bool) → false ≡ (v && (s && false))
    none true true = refl
    none true false = refl
    none false s = refl
ten true false h s l u e z d = refl
ten true true h false l u e z d = none h
  where
    none : (h : Bool) → (not h && false) ≡ false
    none true = refl
    none false = refl
ten true true h true false u e z d = none h
  where
    none : (h : Bool) → (not h && false) ≡ false
    none true = refl
    none false = refl
ten true true h true true false e z d = none h
  where
    none : (h : Bool) → (not h && false) ≡ false
    none true = refl
    none false = refl
ten true true h true true true false z d = none h
  where
    none : (h : Bool) → (not h && false) ≡ false
    none true = refl
    none false = refl
ten true true true true true true true true d = refl
ten true true true true true true true false d = refl
ten true true false true true true true true true = refl
ten true true false true true true true true false = refl
ten true true false true true true true false d = refl

-- what the query of a new view must be, in another order
pub viewed : (db : Db) (q : Query) → IsTrue (query_is_spelled q)
    → (attrs_stand (map target_attr (targets_of q)) && (vars_are_there db q && (not (is_too_high (query_level db q)) && (valid_query db q && view_is_small db q)))) ≡ view_fits db q
unfolding view_fits view_is_small is_too_large
viewed db q h =
    ap (λ p. attrs_stand (map target_attr (targets_of q)) && (vars_are_there db q && (not (is_too_high (query_level db q)) && (valid_query db q
    && (nat_le (length (vars_of q)) 50 && (nat_le (variables q) 10 && (nat_le (expanded_variables db q) 50 && (nat_le (query_size db q) 1000 && (nat_le (query_levels q) 3000 && p))))))))) h
    ∙ ten (attrs_stand (map target_attr (targets_of q))) (vars_are_there db q) (is_too_high (query_level db q)) (valid_query db q) (nat_le (length (vars_of q)) 50) (nat_le (variables q) 10)
    (nat_le (expanded_variables db q) 50) (nat_le (query_size db q) 1000) (nat_le (query_levels q) 3000)
    ∙ (λ i. vars_are_there db q && (valid_query db q && (attrs_stand (map target_attr (targets_of q)) && (nat_le (length (vars_of q)) 50 && (nat_le (variables q) 10
    && (nat_le (expanded_variables db q) 50 && not (sym (no_more (query_size db q) 1000) i || (is_too_high (query_level db q) || sym (no_more (query_levels q) 3000) i))))))))

-- a qualification over one row is small where it can be stored
pub stored : (db : Db) (rel : RelKey) (q : QQual) → IsTrue (qual_is_spelled q)
    → (can_be_ranged_over db rel && (valid_row_qual db rel q && row_qual_is_storable q)) ≡ row_qual_fits db rel q
stored db rel q h = ap (λ b. can_be_ranged_over db rel && (valid_row_qual db rel q && b)) (also (row_qual_is_small q) (qual_is_spelled q) h)
  where
    also : (a b : Bool) → IsTrue b → (a && b) ≡ a
    also true b h = h
    also false b h = refl
