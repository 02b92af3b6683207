-- Permits and rules that are made, part by part.
use Rattle.std.proofs.Common.{◌≡◌, refl, ap, ◌∙◌, suc, nat_le, nat_lt, Bool, true, false, ◌&&◌, IsTrue, List, [], ◌∷◌, map, length}
use Rattle.std.specs.List.{list_all}
use Rattle.std.specs.Str.{bytes_eq}
use Rattle.calculus.specs.declared.schema.Attr.{Attr}
use Rattle.calculus.specs.declared.query.RelKey.{RelKey}
use Rattle.calculus.specs.declared.query.QQual.{QQual}
use Rattle.calculus.specs.declared.schema.Permit.{Permit}
use Rattle.calculus.specs.declared.schema.Rule.{Rule}
use Rattle.calculus.specs.Change.{permit_numbers, rule_numbers}
use Rattle.calculus.specs.Database.{Db, is_relation}
use Rattle.calculus.specs.IsDatabase.{valid_row_qual, permit_attrs_stand, user_is_named}
use Rattle.calculus.specs.Spelled.{qual_is_spelled}
use Rattle.calculus.specs.Storable.{row_qual_is_storable, permit_lists_are_storable}
use Rattle.calculus.specs.QueryParts.{qual_aggregates}
use Rattle.calculus.specs.Sizes.{qual_size}
use Rattle.calculus.specs.Stored.{attrs_at, kinds_at}
use Rattle.calculus.specs.Tree.{query}
use Rattle.calculus.specs.TreeLevels.{qual_levels}
use Rattle.change_laws.specs.Fit.{permit_is_fit, rule_is_fit, number_is_free}
use Rattle.plan_laws.proofs.PlainQueries.{query_plain}
use Rattle.view_sizes.specs.Sized.{qual_depth}
use Rattle.view_sizes.proofs.DepthForms.{qual_alone}
use Rattle.change_check.proofs.Parts.{also, turned}

-- in a qualification over a row whose kinds fit stands no aggregate
pub qual_none : (db : Db) (rel : RelKey) (q : QQual) → valid_row_qual db rel q ≡ true → qual_aggregates q ≡ []
qual_none db rel q h = query_plain db (query (rel ∷ []) [] q) h

-- where none stands its depth is its levels, and its constants are those of their types
pub small_and_spelled : (q : QQual) → qual_aggregates q ≡ [] → IsTrue (qual_is_spelled q) → (nat_le (qual_size [] q) 1000 && nat_le (qual_depth q) 3000) ≡ row_qual_is_storable q
small_and_spelled q none h =
    ap (λ n. nat_le (qual_size [] q) 1000 && nat_le n 3000) (qual_alone q none) ∙ also (nat_le (qual_size [] q) 1000 && nat_le (qual_levels q) 3000) (qual_is_spelled q) h

three : (a b c d : Bool) → (a && ((b && c) && d)) ≡ (a && (b && (c && d)))
three false b c d = refl
three true false c d = refl
three true true c d = refl

-- what a rule must have
pub rule_parts : (db : Db) (rel : RelKey) (rule : Rule)
    → (is_relation db rel && ((valid_row_qual db rel rule.qual && row_qual_is_storable rule.qual) && number_is_free 100 (rule_numbers db rel) rule.number)) ≡ rule_is_fit db rel rule
unfolding rule_is_fit
rule_parts db rel rule = three (is_relation db rel) (valid_row_qual db rel rule.qual) (row_qual_is_storable rule.qual) (number_is_free 100 (rule_numbers db rel) rule.number)

-- the same parts, in another order
eight : (a b c f p q s n : Bool) → (a && (b && ((c && f) && ((p && (q && s)) && n)))) ≡ ((a && (b && (c && (p && q)))) && (s && (f && n)))
eight false b c f p q s n = refl
eight true false c f p q s n = refl
eight true true false f p q s n = refl
eight true true true true false q s n = refl
eight true true true true true false s n = refl
eight true true true true true true s n = refl
eight true true true false false q s n = refl
eight true true true false true false s n = refl
eight true true true false true true false n = refl
eight true true true false true true true n = refl

as_many : (attrs : List Attr) → length (map (λ (a : Attr). a.kind) attrs) ≡ length attrs
as_many [] = refl
as_many (a ∷ attrs) = ap suc (as_many attrs)

-- what a permit must have
pub permit_parts : (db : Db) (rel : RelKey) (permit : Permit)
    → ((user_is_named permit.user && permit_lists_are_storable permit) && ((is_relation db rel && bytes_eq rel.owner db.dba)
    && ((list_all (λ a. nat_lt a (length (kinds_at db rel))) permit.attrs && (valid_row_qual db rel permit.qual && row_qual_is_storable permit.qual))
    && number_is_free 100 (permit_numbers db rel) permit.number))) ≡ permit_is_fit db rel permit
unfolding permit_is_fit
permit_parts db rel permit =
    turned (is_relation db rel) (bytes_eq rel.owner db.dba) (user_is_named permit.user && permit_lists_are_storable permit)
    ((list_all (λ a. nat_lt a (length (kinds_at db rel))) permit.attrs && (valid_row_qual db rel permit.qual && row_qual_is_storable permit.qual))
    && number_is_free 100 (permit_numbers db rel) permit.number)
    ∙ ap (λ n. is_relation db rel && (bytes_eq rel.owner db.dba && ((user_is_named permit.user && permit_lists_are_storable permit)
    && ((list_all (λ a. nat_lt a n) permit.attrs && (valid_row_qual db rel permit.qual && row_qual_is_storable permit.qual))
    && number_is_free 100 (permit_numbers db rel) permit.number)))) (as_many (attrs_at db rel))
    ∙ eight (is_relation db rel) (bytes_eq rel.owner db.dba) (user_is_named permit.user) (permit_lists_are_storable permit) (permit_attrs_stand db rel permit.attrs) (valid_row_qual db rel permit.qual)
    (row_qual_is_storable permit.qual) (number_is_free 100 (permit_numbers db rel) permit.number)
