-- An update that is fit, with its aggregates.
use Rattle.std.proofs.Common.{◌≡◌, true, IsTrue, ℕ, List}
use Rattle.std.specs.Prelude.{nat_le, Ok}
use Rattle.calculus.specs.declared.change.DbChange.{DbChange}
use Rattle.calculus.specs.declared.query.QAgg.{QAgg}
use Rattle.calculus.specs.declared.request.Checked.TheVariants as checked
use Rattle.calculus.specs.declared.request.Update.{Update}
use Rattle.calculus.specs.Limits.{most_expanded_variables}
use Rattle.calculus.specs.Who.{Who}
use Rattle.calculus.specs.Database.{Db}
use Rattle.calculus.specs.Term.{Env}
use Rattle.calculus.specs.QueryParts.{targets_of, term_aggregates}
use Rattle.calculus.specs.Sizes.{update_expanded_variables}
use Rattle.calculus.specs.Spelled.{query_is_spelled}
use Rattle.calculus.specs.Aggregate.{aggregates}
use Rattle.calculus.specs.IsDatabase.{IsDatabase}
use Rattle.calculus.specs.Replacement.{updated}
use Rattle.calculus.specs.Change.{IsLawful}
use Rattle.quel_meaning.specs.KindsInQueries.{assignments_fit}
use Rattle.quel_meaning.specs.FitQueries.{Allowed, reads_fit}
use Rattle.quel_meaning.specs.Fit.{update_kinds_fit, places_fit, checks_fit, relation_fits, update_fits, suits, fits}
use Rattle.quel_meaning.specs.SpelledTree.{made_key_is_spelled, update_is_spelled, tree_is_spelled}
use Rattle.quel_meaning.proofs.Each.{Each, each_to}
use Rattle.update_laws.proofs.Standing.{TargetStands, AggregateStands, in_targets, in_term}
use Rattle.update_laws.proofs.Texts.{both}
use Rattle.update_laws.proofs.Valued.{AggsProper, gives_proper}
use Rattle.update_laws.proofs.Aggregated.{aggregate_gives_proper}
use Rattle.update_laws.proofs.Updated.{TargetAggsProper, update_lawful}

-- the relation of an update that fits
relation_of : (may : Allowed) (db : Db) (u : Update) → IsTrue (update_fits may db u) → IsTrue (relation_fits db u)
unfolding update_fits
relation_of may db u h =
    let kinds = both (reads_fit may db u.query) _ h in
    let assignments = both (update_kinds_fit db u.query) _ kinds.1 in
    let few = both (assignments_fit db u) _ assignments.1 in
    let places = both (nat_le (update_expanded_variables db u) most_expanded_variables) _ few.1 in
    let checks = both (places_fit db u) _ places.1 in
    (both (checks_fit db u) (relation_fits db u) checks.1).1

-- the aggregates of the targets give numbers and texts
aggregates_proper : (db : Db) (who : Who) (u : Update) → IsDatabase db → Each TargetStands (targets_of u.query) → (e : Env) → TargetAggsProper db who u e
aggregates_proper db who u is spelled e =
    each_to TargetStands (λ t. AggsProper (aggregates db who) e (term_aggregates t.term))
    (λ t h. each_to AggregateStands Gives (λ g stands. aggregate_gives_proper db who g e is stands) (term_aggregates t.term) (in_term t.term h)) (targets_of u.query) spelled
  where
    Gives : QAgg → Type 0
    Gives g = IsTrue (gives_proper (aggregates db who g e))

-- an update that fits and whose constants stand, whatever it may read
pub fitting_update_lawful : (may : Allowed) (db : Db) (who : Who) (u : Update) (change : DbChange) → IsDatabase db → IsTrue (update_is_spelled u) → IsTrue (update_fits may db u)
    → updated db who u ≡ Ok change → IsLawful db change
unfolding update_is_spelled
fitting_update_lawful may db who u change is spelled fit h =
    let key = both (made_key_is_spelled u) _ spelled in
    let constants = in_targets u.query (both (query_is_spelled u.query) _ key.1).0 in
    update_lawful db who u change is (relation_of may db u fit) key.0 constants (λ e a. aggregates_proper db who u is constants e) h

pub fit_update_lawful : (may : Allowed) (db : Db) (user : List ℕ) (who : Who) (u : Update) (change : DbChange) → IsDatabase db → fits may db user (checked.Update u) ≡ true
    → updated db who u ≡ Ok change → IsLawful db change
unfolding fits tree_is_spelled suits
fit_update_lawful may db user who u change is fit h =
    let parts = both (update_is_spelled u) (update_fits may db u) fit in fitting_update_lawful may db who u change is parts.0 parts.1 h
