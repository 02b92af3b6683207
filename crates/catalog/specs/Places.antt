-- The places of a table of files after a change.
use Rattle.std.specs.Prelude.{ℕ, ◌==◌, cond, not, List, [], ◌∷◌, filter}
use Rattle.calculus.specs.declared.query.RelKey.{RelKey}
use Rattle.calculus.specs.declared.change.DbChange.{DbChange}
use Rattle.calculus.specs.declared.change.DbChange.TheVariants as change
use Rattle.calculus.specs.Keys.{key_of, same_key}
use Rattle.calculus.specs.Lists.{insert_by}
use Rattle.catalog_moves.specs.declared.files.FilePlace.{FilePlace}
use Rattle.catalog_moves.specs.Files.{by_place, files_at}

-- the places but that of what stood under a key
abbrev pub left_key : RelKey → List FilePlace → List FilePlace
left_key key places = filter (λ p. not (same_key p.key key)) places

-- the places but those of the indexes on the relation with this file
abbrev pub left_base : ℕ → List FilePlace → List FilePlace
left_base file places = filter (λ p. not (p.base == file)) places

-- the same, where the file is one: a number that isn't 0
abbrev pub left_below : ℕ → List FilePlace → List FilePlace
left_below file places = cond (file == 0) places (left_base file places)

-- the places but that of what stood under a key and, where that had a file, those of the indexes on it
unfoldable pub left_one : RelKey → List FilePlace → List FilePlace
left_one key places = left_below ((files_at places).file key) (left_key key places)

-- so of each of these keys, one after the other
unfoldable pub left_all : List RelKey → List FilePlace → List FilePlace
left_all [] places = places
left_all (key ∷ keys) places = left_all keys (left_one key places)

-- the places, with this one of what stands under a key, which isn't that of an index
abbrev pub with_place : RelKey → ℕ → ℕ → List FilePlace → List FilePlace
with_place key file used places = insert_by by_place (record { key = key; file = file; used = used; base = 0 }) places

-- the places after a change that gives what it makes this file, or what it changes so many pages
unfoldable pub places_after : DbChange → ℕ → ℕ → List FilePlace → List FilePlace
places_after (change.Rows rel remove add) file used places = with_place rel file used places
places_after (change.Create info rows) file used places = with_place info.key file used places
places_after (change.Destroy rels) file used places = left_all rels places
places_after (change.Modify rel to keys) file used places = with_place rel file used (left_below file places)
places_after (change.Index base name keys) file used places = insert_by by_place (record { key = key_of base.owner name; file = file; used = used; base = (files_at places).file base }) places
places_after (change.View info query) file used places = with_place info.key file used places
places_after (change.Permit rel permit) file used places = places
places_after (change.Rule rel rule) file used places = places
places_after (change.DropPermits rel numbers) file used places = places
places_after (change.DropRules rel numbers) file used places = places
