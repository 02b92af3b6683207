-- What was found in a database: expansions of views, and permits.
use Rattle.std.specs.Prelude.{◌≡◌, ℕ, true, List, [], ◌∷◌, ⊤}
use Rattle.calculus.specs.declared.query.RelKey.{RelKey}
use Rattle.calculus.specs.declared.schema.Permit.{Permit}
use Rattle.calculus.specs.Who.{Who}
use Rattle.calculus.specs.Database.{Db, permits_on}
use Rattle.calculus.specs.Permission.{permitted_within}
use Rattle.view_text.specs.declared.expansion.Expansion.{Expansion}
use Rattle.view_text.specs.ExpansionOf.{expansion_within}

-- what was found: of a key, through so many levels of views, this expansion; and of a key these permits
pub record Found : Type 0 where
  pub expansions : List ((RelKey × ℕ) × Expansion)
  pub permits : List (RelKey × List Permit)

-- nothing was found yet
abbrev pub nothing_found : Found
nothing_found = record { expansions = []; permits = [] }

-- this is the expansion of what has the key, through so many levels, whatever attributes of it are asked for, and all that it reads may be read
pub record IsExpansionOf (db : Db) (who : Who) (key : RelKey) (levels : ℕ) (expansion : Expansion) : Type 0 where
  pub is : (attrs : List ℕ) → expansion ≡ expansion_within levels db who key attrs
  pub permitted : (attrs : List ℕ) → permitted_within levels db who key attrs ≡ true

-- all texts that were found are so
abbrev pub AreExpansions : Db → Who → List ((RelKey × ℕ) × Expansion) → Type 0
AreExpansions db who [] = ⊤
AreExpansions db who (e ∷ expansions) = IsExpansionOf db who e.0.0 e.0.1 e.1 × AreExpansions db who expansions

-- all permits that were found are those of their key
abbrev pub ArePermits : Db → List (RelKey × List Permit) → Type 0
ArePermits db [] = ⊤
ArePermits db (e ∷ permits) = (e.1 ≡ permits_on db e.0) × ArePermits db permits

-- all that was found is so in this database for the one who asks
pub record IsFound (db : Db) (who : Who) (found : Found) : Type 0 where
  pub expansions : AreExpansions db who found.expansions
  pub permits : ArePermits db found.permits
