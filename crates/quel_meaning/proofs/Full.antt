-- Computed: limits on permits, on their numbers, and on relations.
use Rattle.std.proofs.Common.{refl}
use Rattle.std.specs.Prelude.{◌≡◌, ℕ, [], ◌∷◌, map, replicate, None, Ok, Err, codes}
use Rattle.std.specs.List.{enumerate_from}
use Rattle.calculus.specs.declared.value.Domain.TheVariants.{I1}
use Rattle.calculus.specs.declared.query.QQual.TheVariants as qual
use Rattle.calculus.specs.declared.request.Checked.{Checked}
use Rattle.calculus.specs.declared.request.Checked.TheVariants as checked
use Rattle.calculus.specs.declared.request.Utility.TheVariants as utility
use Rattle.calculus.specs.declared.schema.Permit.{Permit}
use Rattle.calculus.specs.declared.statement.Qual.{True}
use Rattle.calculus.specs.declared.statement.Statement.{Statement}
use Rattle.calculus.specs.declared.statement.Statement.TheVariants as statement
use Rattle.calculus.specs.Catalogue.{catalogue_at}
use Rattle.calculus.specs.Database.{Db}
use Rattle.calculus.specs.Finding.{found}
use Rattle.calculus.specs.Kinds.{kinds_fit}
use Rattle.calculus.specs.QueryParts.{qual_aggregates}
use Rattle.calculus.specs.Sizes.{qual_size, measure_of}
use Rattle.calculus.specs.Stored.{range_at, info_at}
use Rattle.quel_meaning.specs.Ranges.{range_of}
use Rattle.quel_meaning.specs.Scope.{named, ranged}
use Rattle.quel_meaning.specs.WrittenParts.{aggregates_in, aggregates_in_qual, vars_in}
use Rattle.quel_meaning.specs.Naming.{mentions, name_refusal}
use Rattle.quel_meaning.specs.Aggregates.{aggregates_allowed}
use Rattle.quel_meaning.specs.WrittenQuery.{where_tree, query_of}
use Rattle.quel_meaning.specs.Passing.{is_full, is_too_wide, is_taken}
use Rattle.quel_meaning.specs.Causes.{refusals}
use Rattle.quel_meaning.specs.Resolved.{tree_of, resolved}
use Rattle.quel_meaning.proofs.SmallTexts.{key, relation, db, ranges}

abbrev permit_of : ℕ → Permit
permit_of number = record { number = number; ops = 1; attrs = []; user = None; qual = qual.True }

-- so many permits on p
abbrev with_permits : ℕ → Db
with_permits n = record db { permits = map (λ p. (key (codes "p"), permit_of p.0)) (enumerate_from {X = ℕ} 1 (replicate n 0)) }

-- one permit on p with this number
abbrev with_number : ℕ → Db
with_number n = record db { permits = (key (codes "p"), permit_of n) ∷ [] }

-- so many relations, all of one name, as only their number counts here
abbrev with_relations : ℕ → Db
with_relations n = record db { relations = replicate n (relation (codes "r") []) }

abbrev permitting : Statement
permitting = statement.Permit 1 (codes "e") [] None True

abbrev permitted : Checked
permitted = checked.Utility (utility.Permit (key (codes "p")) (permit_of 0))

abbrev creating : Statement
creating = statement.Create (codes "w") ((codes "x", I1) ∷ (codes "x", I1) ∷ [])

record Limits : Type 0 where
  ninety_nine_permits : resolved (with_permits 99) (codes "ann") ranges permitting ≡ Ok permitted
  a_hundred_permits : resolved (with_permits 100) (codes "ann") ranges permitting ≡ Err 14
  a_number_is_left : resolved (with_number 4294967294) (codes "ann") ranges permitting ≡ Ok permitted
  no_number_is_left : resolved (with_number 4294967295) (codes "ann") ranges permitting ≡ Err 14
  room_for_a_relation : resolved (with_relations 9998) (codes "ann") ranges creating ≡ Err 17
  no_room_for_a_relation : resolved (with_relations 9999) (codes "ann") ranges creating ≡ Err 14

limits : Limits
unfolding resolved tree_of name_refusal mentions range_of ranged named found info_at range_at catalogue_at refusals aggregates_allowed aggregates_in aggregates_in_qual vars_in query_of where_tree kinds_fit is_full is_too_wide is_taken qual_aggregates qual_size measure_of
limits = record {
  ninety_nine_permits = refl;
  a_hundred_permits = refl;
  a_number_is_left = refl;
  no_number_is_left = refl;
  room_for_a_relation = refl;
  no_room_for_a_relation = refl;
}
