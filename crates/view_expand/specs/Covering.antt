-- The conditions of permits that cover.
use Rattle.std.specs.Prelude.{ℕ, List, [], ◌∷◌, map, filter, Option, Some, None}
use Rattle.calculus.specs.declared.query.QQual.{QQual}
use Rattle.calculus.specs.declared.schema.Permit.{Permit}
use Rattle.calculus.specs.Who.{Asker}
use Rattle.calculus.specs.Rights.{Right, covers}
use Rattle.view_text.specs.Halves.{any_of}
use Rattle.view_text.specs.ExpansionOf.{permit_condition}

-- the conditions of those among these permits that allow one who asks this, with these attributes
abbrev pub covering_conditions : List Permit → Asker → Right → List ℕ → List QQual
covering_conditions permits asker right attrs = map permit_condition (filter (λ p. covers p asker right attrs) permits)

-- that one of these holds; none where there are none
abbrev pub one_of : List QQual → Option QQual
one_of [] = None
one_of (q ∷ qs) = Some (any_of (q ∷ qs))
