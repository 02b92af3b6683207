-- The expansion of what stands under a key, for one who asks: views are expanded, and permits restrict their rows as conditions on rows.
use Rattle.std.specs.Prelude.{ℕ, Bool, true, false, List, [], ◌∷◌, ◌++◌, map, filter, Option, Some, None}
use Rattle.calculus.specs.declared.operator.CmpOp.TheVariants.{Eq}
use Rattle.calculus.specs.declared.query.RelKey.{RelKey}
use Rattle.calculus.specs.declared.query.QTerm.{QTerm}
use Rattle.calculus.specs.declared.query.QQual.{QQual, True, Cmp}
use Rattle.calculus.specs.declared.query.Query.{Query}
use Rattle.calculus.specs.declared.schema.Permit.{Permit}
use Rattle.std.specs.List.{list_all}
use Rattle.calculus.specs.Term.{holds, no_aggs}
use Rattle.calculus.specs.Tree.{negated}
use Rattle.calculus.specs.Limits.{greatest_level}
use Rattle.calculus.specs.Who.{Who, Asker, Unrestricted, AsUser}
use Rattle.calculus.specs.Database.{Db, View, permits_on}
use Rattle.calculus.specs.Stored.{Range, Kept, Viewed}
use Rattle.calculus.specs.Through.{through}
use Rattle.calculus.specs.Rights.{Right, Retrieve, covers, needs_none}
use Rattle.calculus.specs.QueryParts.{targets_of, qual_of}
use Rattle.view_text.specs.declared.expansion.Expansion.{Expansion}
use Rattle.view_text.specs.Replaced.{replaced, replaced_in_qual, no_aggregate, of_only}
use Rattle.view_text.specs.Halves.{any_of}
use Rattle.view_text.specs.Expansions.{ExpansionSource, query_expansions, expansions_vars, substituted_from, conditions_from}

-- ---- permits

-- the qualification of a permit, about the only variable's row
abbrev pub permit_condition : Permit → QQual
permit_condition permit = replaced_in_qual no_aggregate of_only permit.qual

-- the permits of a relation that allow one who asks this, with these attributes
abbrev pub covering : Db → Asker → Right → List ℕ → RelKey → List Permit
covering db asker right attrs key = filter (λ p. covers p asker right attrs) (permits_on db key)

-- the conditions on a row with which one may do this with these attributes: none where no permit is needed, else that the qualification of a covering permit holds
abbrev pub restriction : Db → Who → Right → List ℕ → RelKey → List QQual
restriction db Unrestricted right attrs key = []
restriction db (AsUser asker) right attrs key = restriction_by (needs_none db asker right key)
  where
    restriction_by : Bool → List QQual
    restriction_by b = elim b [ true ↦ [] | false ↦ any_of (map permit_condition (covering db asker right attrs key)) ∷ [] ]

-- ---- what stands under a key

-- the expansion of a base relation or a catalogue: itself, with these conditions on its rows
abbrev pub kept_expansion : List QQual → RelKey → Expansion
kept_expansion conditions key = record { vars = key ∷ []; terms = None; conditions = conditions }

-- a term has a value
abbrev pub has_value : QTerm → QQual
has_value t = Cmp Eq t t

-- the terms of a query's targets, with its variables expanded
abbrev pub substituted_terms : List Expansion → Query → List QTerm
substituted_terms expansions q = map (λ t. replaced no_aggregate (substituted_from 0 expansions) t.term) (targets_of q)

-- what must hold of a query's assignments: its qualification, that each target has a value, and the conditions of its variables
abbrev pub rows_conditions : List Expansion → Query → List QQual
rows_conditions expansions q = replaced_in_qual no_aggregate (substituted_from 0 expansions) (qual_of q) ∷ (map has_value (substituted_terms expansions q) ++ conditions_from 0 expansions)

-- conditions about these variables; where there is none, whether they hold is settled, so that what stands on many views without variables stays small
unfoldable pub settled : List RelKey → List QQual → List QQual
settled [] conditions = elim (list_all (λ q. holds no_aggs q []) conditions) [ true ↦ [] | false ↦ negated True ∷ [] ]
settled (key ∷ vars) conditions = conditions

-- the expansion of a query's rows
abbrev pub rows_expansion : List Expansion → Query → Expansion
rows_expansion expansions q = record {
  vars = expansions_vars expansions;
  terms = Some (substituted_terms expansions q);
  conditions = settled (expansions_vars expansions) (rows_conditions expansions q);
}

-- the expansion of a view, where these are the expansions of what it names
abbrev pub view_text : ExpansionSource → View → Expansion
view_text below view = rows_expansion (query_expansions below view.query) view.query

-- the expansion of a view past the levels that there may be: it has no rows
abbrev pub past_expansion : Expansion
past_expansion = record { vars = []; terms = Some []; conditions = negated True ∷ [] }

-- the expansion of what a variable ranges over, where `of_view` is that of a view
abbrev pub range_expansion : (View → Expansion) → Db → Who → RelKey → List ℕ → Option Range → Expansion
range_expansion of_view db who key attrs None = kept_expansion (restriction db who Retrieve attrs key) key
range_expansion of_view db who key attrs (Some (Kept relation)) = kept_expansion (restriction db who Retrieve attrs key) key
range_expansion of_view db who key attrs (Some (Viewed view)) = of_view view

-- the expansion of what stands under a key, for one who uses these attributes of it, through at most so many levels of views
abbrev pub expansion_within : ℕ → Db → Who → ExpansionSource
expansion_within n db who =
    through (λ of_view key range attrs. range_expansion (λ view. of_view view attrs) db who key attrs range) (λ below view attrs. view_text below view) (λ attrs. past_expansion) n db

-- the expansion of what stands under a key, for one who uses these attributes of it
unfoldable pub expansion_of : Db → Who → ExpansionSource
expansion_of db who = expansion_within greatest_level db who
