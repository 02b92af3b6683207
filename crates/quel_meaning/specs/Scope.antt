-- Where the names of a statement are found.
use Rattle.std.specs.Prelude.{ℕ, List, [], position, Option, Some, None, option_map, option_and_then, unwrap_or, bytes_eq}
use Rattle.calculus.specs.declared.query.RelKey.{RelKey}
use Rattle.calculus.specs.declared.schema.Attr.{Attr}
use Rattle.calculus.specs.declared.schema.RelInfo.{RelInfo}
use Rattle.calculus.specs.Keys.{key_of}
use Rattle.calculus.specs.Database.{Db, entry_at}
use Rattle.calculus.specs.Finding.{found}
use Rattle.calculus.specs.Stored.{info_at, attrs_in}
use Rattle.quel_meaning.specs.Ranges.{Ranges, range_of}

-- a database, the user whose statement it is, and the range variables
pub record Scope : Type 0 where
  pub db : Db
  pub user : List ℕ
  pub ranges : Ranges

-- what is known of the relation, view or catalogue that the user means by a name
unfoldable pub named : Scope → List ℕ → Option RelInfo
named s name = found s.db s.user name

-- what is known of what a variable ranges over; none where it was never declared, or where what it was declared for is gone
unfoldable pub ranged : Scope → List ℕ → Option RelInfo
ranged s var = option_and_then (info_at s.db) (range_of s.ranges var)

-- the key of what `destroy` means by a name: the user's own relation, view or index, else the administrator's, else the catalogue
unfoldable pub entry_named : Scope → List ℕ → Option RelKey
entry_named s name = elim (entry_at s.db (key_of s.user name)) [
  | Some own ↦ Some own.key
  | None ↦
      elim (entry_at s.db (key_of s.db.dba name)) [
        | Some other ↦ Some other.key
        | None ↦ option_map (λ catalogue. catalogue.key) (info_at s.db (key_of s.db.dba name))
      ]
]

-- the place of the attribute of this name
abbrev pub attr_place : List Attr → List ℕ → Option ℕ
attr_place attrs name = position (λ a. bytes_eq a.name name) attrs

-- the key of what was found; a key without a name where nothing was, to which no statement comes whose names were found
abbrev pub key_found : Option RelInfo → RelKey
key_found None = key_of [] []
key_found (Some info) = info.key

-- the place of an attribute of what was found; 0 where it has none of this name, to which no statement comes whose names were found
abbrev pub place_found : Option RelInfo → List ℕ → ℕ
place_found info name = unwrap_or (attr_place (attrs_in info) name) 0
