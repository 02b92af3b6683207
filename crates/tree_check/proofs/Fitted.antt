-- Whether the kinds in a query fit, told by its parts as the program reads them.
use Rattle.std.proofs.Common.{◌≡◌, sym, ◌&&◌, List, Some}
use Rattle.std.specs.List.{list_all}
use Rattle.calculus.specs.declared.query.QQual.{QQual}
use Rattle.calculus.specs.declared.query.Query.{Query}
use Rattle.calculus.specs.declared.query.Target.{Target}
use Rattle.calculus.specs.declared.value.Kind.{Kind}
use Rattle.calculus.specs.Database.{Db}
use Rattle.calculus.specs.IsDatabase.{is_kind, var_kinds}
use Rattle.calculus.specs.Kinds.{comparable}
use Rattle.calculus.specs.QueryParts.{targets_of, qual_of}
use Rattle.quel_meaning.specs.Fit.{update_kinds_fit}
use Rattle.quel_meaning.specs.KindsInQueries.{kind_in_query, kinds_fit_in_query}

-- those of an update's
pub changes_fitted : (db : Db) (q : Query) (vars : List (List Kind)) (targets : List Target) (qual : QQual) → targets ≡ targets_of q → qual ≡ qual_of q → var_kinds db q ≡ vars
    → (list_all (λ (t : Target). is_kind t.kind) targets
    && (list_all (λ (t : Target). comparable (kind_in_query db t.term vars) (Some t.kind)) targets && kinds_fit_in_query db qual vars)) ≡ update_kinds_fit db q
changes_fitted db q vars targets qual e f k =
    λ i. list_all (λ (t : Target). is_kind t.kind) (e i)
    && (list_all (λ (t : Target). comparable (kind_in_query db t.term (sym k i)) (Some t.kind)) (e i) && kinds_fit_in_query db (f i) (sym k i))
