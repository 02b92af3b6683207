-- The rows of file 6: the attributes of relations and views.
use Rattle.std.specs.Prelude.{Bool, ℕ, ◌&&◌, nat_lt, bytes_eq, List, [], ◌∷◌, ◌++◌, take, drop, Option, Some, slice_get, slice_index}
use Rattle.std.specs.Ordering.{nat_cmp, ordering_then}
use Rattle.std.specs.declared.cmp.Ordering.{Ordering}
use Rattle.byteorder.specs.Endian.{little_from}
use Rattle.calculus.specs.declared.value.Domain.TheVariants.{I1, I2, I4, C}
use Rattle.calculus.specs.declared.value.Kind.{Kind}
use Rattle.calculus.specs.declared.value.Kind.TheVariants.{Of, Wide}
use Rattle.calculus.specs.declared.schema.Attr.{Attr}
use Rattle.calculus.specs.IsDatabase.{is_kind, kind_bytes}
use Rattle.calculus.specs.Name.{is_name}
use Rattle.page_chain.specs.Lists.{◌>>=◌, when}
use Rattle.stored_database.specs.Names.{name_of, name_bytes, is_number32, bytes32}

-- an attribute of what has this file, and its place there, from 0
pub record Column : Type 0 where
  pub file : ℕ
  pub place : ℕ
  pub attr : Attr

-- the number of a kind
abbrev pub kind_number : Kind → ℕ
kind_number (Of I1) = 0
kind_number (Of I2) = 1
kind_number (Of I4) = 2
kind_number (Of (C width)) = 3
kind_number Wide = 4

-- a kind, by its number and its width
abbrev pub kind_in : ℕ → ℕ → Option Kind
kind_in n width = slice_get (Of I1 ∷ Of I2 ∷ Of I4 ∷ Of (C width) ∷ Wide ∷ []) n

-- an attribute: a name, a kind, and numbers that their bytes hold
unfoldable pub is_column : Column → Bool
is_column c = is_number32 c.file && (nat_lt c.place 256 && (is_name c.attr.name && is_kind c.attr.kind))

-- the bytes of an attribute; its width is the bytes of its kind
unfoldable pub column_bytes : Column → List ℕ
column_bytes c = bytes32 c.file ++ (c.place ∷ (name_bytes c.attr.name ++ (kind_number c.attr.kind ∷ kind_bytes c.attr.kind ∷ [])))

-- what stands in the places of an attribute
unfoldable pub column_in : List ℕ → Option Column
column_in bytes = do
  name ← name_of (take 12 (drop 5 bytes))
  kind ← kind_in (slice_index (drop 17 bytes) 0) (slice_index (drop 17 bytes) 1)
  Some (record { file = little_from 0 4 bytes; place = slice_index bytes 4; attr = record { name = name; kind = kind } })

-- the attribute whose bytes these are
unfoldable pub column_of : List ℕ → Option Column
column_of bytes = do
  c ← column_in bytes
  when (is_column c && bytes_eq bytes (column_bytes c)) c

-- attributes by file and place
abbrev pub column_cmp : Column → Column → Ordering
column_cmp a b = ordering_then (nat_cmp a.file b.file) (nat_cmp a.place b.place)
