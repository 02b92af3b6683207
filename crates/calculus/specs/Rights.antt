-- What may be done with rows, and by whom.
use Rattle.std.specs.Prelude.{ℕ, Bool, true, false, not, ◌&&◌, ◌||◌, ◌==◌, nat_le, bit_and, List, [], ◌∷◌, Option, Some, None, bytes_eq}
use Rattle.std.specs.List.{list_any, list_all}
use Rattle.calculus.specs.declared.query.RelKey.{RelKey}
use Rattle.calculus.specs.declared.schema.Permit.{Permit}
use Rattle.calculus.specs.Rows.{Row}
use Rattle.calculus.specs.Term.{holds, no_aggs}
use Rattle.calculus.specs.Lists.{has_number}
use Rattle.calculus.specs.Who.{Who, Asker, Unrestricted, AsUser}
use Rattle.calculus.specs.Database.{Db, permits_on}
use Rattle.calculus.specs.Catalogue.{is_catalogue}

-- what a permit may allow
pub data Right : Type 0 where
  Retrieve : Right
  Append : Right
  Replace : Right
  Delete : Right

-- the number of a right in the sum that a permit has
abbrev pub right_number : Right → ℕ
right_number Retrieve = 1
right_number Append = 2
right_number Replace = 4
right_number Delete = 8

-- the number is a sum of rights, each at most once
abbrev pub are_rights : ℕ → Bool
are_rights ops = nat_le ops 15

-- the sum has this right
abbrev pub has_right : ℕ → Right → Bool
has_right ops right = not (bit_and ops (right_number right) == 0)

-- the permit is for this user, or for all
abbrev pub is_for : Option (List ℕ) → List ℕ → Bool
is_for None user = true
is_for (Some name) user = bytes_eq name user

-- the permit's attributes hold all of these; a permit without attributes is for all
abbrev pub has_attrs : List ℕ → List ℕ → Bool
has_attrs [] attrs = true
has_attrs (a ∷ more) attrs = list_all (has_number (a ∷ more)) attrs

-- the permit is for the one who asks, allows the operation, and is for all of these attributes
unfoldable pub covers : Permit → Asker → Right → List ℕ → Bool
covers permit asker right attrs = is_for permit.user asker.user && (has_right permit.ops right && has_attrs permit.attrs attrs)

-- to retrieve
abbrev pub is_retrieve : Right → Bool
is_retrieve Retrieve = true
is_retrieve Append = false
is_retrieve Replace = false
is_retrieve Delete = false

-- no permit is needed: the owner may do all, and everybody may read the catalogues
abbrev pub needs_none : Db → Asker → Right → RelKey → Bool
needs_none db asker right key = bytes_eq key.owner asker.user || (is_catalogue db key && is_retrieve right)

-- no permit is needed, or some permit of the relation covers
unfoldable pub permitted : Db → Who → Right → List ℕ → RelKey → Bool
permitted db Unrestricted right attrs key = true
permitted db (AsUser asker) right attrs key = needs_none db asker right key || list_any (λ p. covers p asker right attrs) (permits_on db key)

-- no permit is needed, or some permit of the relation covers and its qualification holds of the row
unfoldable pub may : Db → Who → Right → List ℕ → RelKey → Row → Bool
may db Unrestricted right attrs key row = true
may db (AsUser asker) right attrs key row =
    needs_none db asker right key || list_any (λ p. covers p asker right attrs && holds no_aggs p.qual (row ∷ [])) (permits_on db key)
