-- The rows of file 7: the parts of trees.
use Rattle.std.specs.Prelude.{Bool, ℕ, ◌&&◌, nat_le, nat_lt, bytes_eq, List, ◌∷◌, ◌++◌, drop, Option, slice_index}
use Rattle.std.specs.Ordering.{nat_cmp, ordering_then}
use Rattle.std.specs.declared.cmp.Ordering.{Ordering}
use Rattle.byteorder.specs.Endian.{little_bytes, little_from}
use Rattle.page_chain.specs.Lists.{when}
use Rattle.stored_database.specs.Names.{is_number32, bytes32}

-- a part of a tree: of what has this file, the tree of this sort and number, and the place of the part in it, from 0
pub record Part : Type 0 where
  pub file : ℕ
  pub sort : ℕ
  pub number : ℕ
  pub place : ℕ
  pub bytes : List ℕ

-- the sort of the tree of a view
abbrev pub of_view : ℕ
of_view = 0

-- the sort of a rule
abbrev pub of_rule : ℕ
of_rule = 1

-- the sort of a permit
abbrev pub of_permit : ℕ
of_permit = 2

-- a part: of a sort of trees, and numbers that their bytes hold
unfoldable pub is_part : Part → Bool
is_part p = is_number32 p.file && (nat_le p.sort of_permit && (is_number32 p.number && nat_lt p.place 65536))

-- the bytes of a part
unfoldable pub part_bytes : Part → List ℕ
part_bytes p = bytes32 p.file ++ (p.sort ∷ (bytes32 p.number ++ (little_bytes 2 p.place ++ p.bytes)))

-- what stands in the places of a part
unfoldable pub part_in : List ℕ → Part
part_in bytes = record {
  file = little_from 0 4 bytes;
  sort = slice_index bytes 4;
  number = little_from 5 4 bytes;
  place = little_from 9 2 bytes;
  bytes = drop 11 bytes;
}

-- the part whose bytes these are
unfoldable pub part_of : List ℕ → Option Part
part_of bytes = when (is_part (part_in bytes) && bytes_eq bytes (part_bytes (part_in bytes))) (part_in bytes)

-- parts by file, sort, number and place
abbrev pub part_cmp : Part → Part → Ordering
part_cmp a b = ordering_then (nat_cmp a.file b.file) (ordering_then (nat_cmp a.sort b.sort) (ordering_then (nat_cmp a.number b.number) (nat_cmp a.place b.place)))
