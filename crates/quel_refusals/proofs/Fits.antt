-- Whether kinds in queries, and those of updates, fit.
use Rattle.std.proofs.Common.{◌≡◌, refl, sym, ap, ◌∙◌, Bool, false, ◌&&◌, List, [], ◌∷◌, map, Option, Some, true, slice_get}
use Rattle.std.specs.List.{list_all, zip}
use Rattle.calculus.specs.declared.value.Kind.{Kind}
use Rattle.calculus.specs.declared.query.QQual.{QQual}
use Rattle.calculus.specs.declared.query.Query.{Query}
use Rattle.calculus.specs.declared.query.Target.{Target}
use Rattle.calculus.specs.declared.request.Update.{Update}
use Rattle.calculus.specs.Database.{Db}
use Rattle.calculus.specs.Replacement.{wanted_kinds}
use Rattle.calculus.specs.Stored.{kinds_at}
use Rattle.calculus.specs.IsDatabase.{has_kind, var_kinds}
use Rattle.calculus.specs.Kinds.{comparable}
use Rattle.calculus.specs.QueryParts.{targets_of, qual_of}
use Rattle.quel_meaning.specs.KindsInQueries.{assignments_fit, kind_in_query, kinds_fit_in_query, query_fits}

-- those of a query that is asked
pub fitted : (db : Db) (q : Query) (vars : List (List Kind)) (targets : List Target) (qual : QQual) → targets ≡ targets_of q → qual ≡ qual_of q → var_kinds db q ≡ vars
    → (list_all (λ (t : Target). has_kind (kind_in_query db t.term vars) t.kind) targets && kinds_fit_in_query db qual vars) ≡ query_fits db q
unfolding query_fits
fitted db q vars targets qual e f k =
    λ i. list_all (λ (t : Target). has_kind (kind_in_query db t.term (sym k i)) t.kind) (e i) && kinds_fit_in_query db (f i) (sym k i)

-- pairs with what is made of the others
pub all_paired : {X Y Z : Type 0} (p : X × Z → Bool) (f : Y → Z) (xs : List X) (ys : List Y) → list_all (λ (q : X × Y). p (q.0, f q.1)) (zip xs ys) ≡ list_all p (zip xs (map f ys))
all_paired p f [] ys = refl
all_paired p f (x ∷ xs) [] = refl
all_paired p f (x ∷ xs) (y ∷ ys) = ap (λ b. p (x, f y) && b) (all_paired p f xs ys)

-- the value of each target of an update fits the attribute that it is for, where these are the kinds of the attributes
pub assigned : (db : Db) (u : Update) (targets : List Target) (kinds : List Kind) (b fit : Bool) → targets ≡ targets_of u.query → kinds ≡ kinds_at db u.rel
    → wanted_kinds db u ≡ map (slice_get (kinds_at db u.rel)) u.places → b ≡ list_all (λ (p : Target × Option Kind). comparable (Some p.0.kind) p.1) (zip targets (map (slice_get kinds) u.places))
    → fit ≡ query_fits db u.query → fit ≡ true → b ≡ (query_fits db u.query && assignments_fit db u)
unfolding assignments_fit
assigned db u targets kinds b fit e k w h f t =
    h ∙ (λ i. list_all (λ (p : Target × Option Kind). comparable (Some p.0.kind) p.1) (zip (e i) ((ap (λ ks. map (slice_get ks) u.places) k ∙ sym w) i)))
    ∙ ap (λ c. c && assignments_fit db u) (sym t ∙ f)

-- a part that is false decides
pub stops : (a b r : Bool) → a ≡ false → r ≡ false → r ≡ (a && b)
stops a b r e f = f ∙ sym (ap (λ a. a && b) e)

-- after a part that is true the rest decides
pub goes_on : (a b r : Bool) → a ≡ true → r ≡ b → r ≡ (a && b)
goes_on a b r e f = f ∙ sym (ap (λ a. a && b) e)
