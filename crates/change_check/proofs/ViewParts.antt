-- Views that are made, part by part.
use Rattle.std.proofs.Common.{◌≡◌, refl, sym, ap, ◌∙◌, nat_le, Bool, true, false, not, ◌&&◌, length}
use Rattle.calculus.specs.declared.query.Query.{Query}
use Rattle.calculus.specs.declared.schema.RelInfo.{RelInfo}
use Rattle.calculus.specs.Database.{Db}
use Rattle.calculus.specs.IsDatabase.{attrs_are_targets, attrs_stand, valid_query, vars_are_there, valid_view_info}
use Rattle.calculus.specs.QueryParts.{vars_of, targets_of}
use Rattle.calculus.specs.Sizes.{expanded_variables, query_level, query_size, variables}
use Rattle.calculus.specs.Storable.{query_is_storable}
use Rattle.change_laws.specs.Fit.{key_is_free, view_is_fit, view_is_small}
use Rattle.quel_meaning.specs.Passing.{is_too_high}

three : (a b c r : Bool) → ((a && (b && c)) && r) ≡ (a && (b && (c && r)))
three false b c r = refl
three true false c r = refl
three true true c r = refl

-- what a view must have
pub view_parts : (db : Db) (info : RelInfo) (q : Query)
    → (key_is_free db info.key && ((valid_view_info info && (attrs_stand info.attrs && attrs_are_targets info.attrs (targets_of q))) && (vars_are_there db q && (not (is_too_high (query_level db q)) && (valid_query db q && view_is_small db q)))))
    ≡ view_is_fit db info q
unfolding view_is_fit
view_parts db info q =
    ap (λ b. key_is_free db info.key && b)
    (three (valid_view_info info) (attrs_stand info.attrs) (attrs_are_targets info.attrs (targets_of q)) (vars_are_there db q && (not (is_too_high (query_level db q)) && (valid_query db q && view_is_small db q))))

-- too many variables are listed
pub lists_many : (db : Db) (q : Query) → nat_le (length (vars_of q)) 50 ≡ false → false ≡ view_is_small db q
unfolding view_is_small
lists_many db q h = sym (ap (λ b. b && (nat_le (variables q) 10 && (nat_le (expanded_variables db q) 50 && (nat_le (query_size db q) 1000 && query_is_storable q)))) h)

-- too many variables are used
pub uses_many : (db : Db) (q : Query) → nat_le (length (vars_of q)) 50 ≡ true → nat_le (variables q) 10 ≡ false → false ≡ view_is_small db q
unfolding view_is_small
uses_many db q h k = sym (λ i. h i && (k i && (nat_le (expanded_variables db q) 50 && (nat_le (query_size db q) 1000 && query_is_storable q))))

-- the rest decides
pub then_small : (db : Db) (q : Query) (fits deep : Bool) → nat_le (length (vars_of q)) 50 ≡ true → nat_le (variables q) 10 ≡ true
    → fits ≡ (nat_le (expanded_variables db q) 50 && nat_le (query_size db q) 1000) → deep ≡ query_is_storable q → (fits && deep) ≡ view_is_small db q
unfolding view_is_small
then_small db q fits deep h k f d =
    (λ i. f i && d i) ∙ two (nat_le (expanded_variables db q) 50) (nat_le (query_size db q) 1000) (query_is_storable q)
    ∙ sym (λ i. h i && (k i && (nat_le (expanded_variables db q) 50 && (nat_le (query_size db q) 1000 && query_is_storable q))))
  where
    two : (a b c : Bool) → ((a && b) && c) ≡ (a && (b && c))
    two false b c = refl
    two true b c = refl
