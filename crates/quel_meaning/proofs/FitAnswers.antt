-- What a resolved `retrieve` asks for is fit.
use Rattle.std.proofs.Common.{◌≡◌, refl, ℕ, Bool, true, List, None}
use Rattle.calculus.specs.declared.query.Query.{Query}
use Rattle.calculus.specs.declared.statement.Item.{Item}
use Rattle.calculus.specs.declared.statement.Qual.{Qual}
use Rattle.calculus.specs.declared.statement.Statement.{Statement}
use Rattle.calculus.specs.declared.statement.Statement.TheVariants as statement
use Rattle.calculus.specs.Replacement.{first_refusal}
use Rattle.quel_meaning.specs.Scope.{Scope}
use Rattle.quel_meaning.specs.Naming.{name_refusal}
use Rattle.quel_meaning.specs.Aggregates.{aggregates_allowed}
use Rattle.quel_meaning.specs.WrittenQuery.{query_of}
use Rattle.quel_meaning.specs.Causes.{refusals, print_refusals}
use Rattle.quel_meaning.specs.Resolved.{tree_of}
use Rattle.quel_meaning.specs.FitQueries.{kept_or_viewed, asked_fits}
use Rattle.quel_meaning.specs.Fit.{suits}
use Rattle.quel_meaning.proofs.Each.{and, not_not}
use Rattle.quel_meaning.proofs.Few.{expanded_few}
use Rattle.quel_meaning.proofs.ReadsFit.{none_of, reads, narrow_targets, sorts}

pub retrieve_fits : (s : Scope) (items : List Item) (qual : Qual) (sort : List (List ℕ × Bool)) → name_refusal s (statement.Retrieve None items qual sort) ≡ None
    → first_refusal (refusals s (statement.Retrieve None items qual sort)) ≡ None → suits (kept_or_viewed s.db) s.db s.user (tree_of s (statement.Retrieve None items qual sort)) ≡ true
unfolding refusals tree_of suits asked_fits aggregates_allowed
retrieve_fits s items qual sort h k =
    let none = none_of (print_refusals s (aggregates_allowed s stmt) sort q) k in
    let few = none.1.0 in
    and _ _
    (and _ _ (reads s stmt h (not_not _ none.0) few (narrow_targets q (λ t. t.kind) none.1.1.1.1.0))
    (and _ _ (not_not _ none.1.1.0) (and _ _ (expanded_few s.db q few) (sorts q sort (not_not _ none.1.1.1.0)))))
    refl
  where
    stmt : Statement
    stmt = statement.Retrieve None items qual sort

    q : Query
    q = query_of s stmt
