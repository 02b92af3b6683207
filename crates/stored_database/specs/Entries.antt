-- The rows of file 5: what is a relation, a view or an index, and which file is its own.
use Rattle.std.specs.Prelude.{Bool, ℕ, ◌-◌, ◌==◌, ◌&&◌, not, nat_le, nat_lt, bytes_eq, List, [], ◌∷◌, ◌++◌, length, take, drop, replicate, Option, Some, slice_get, slice_index}
use Rattle.std.specs.List.{list_all}
use Rattle.std.specs.Ordering.{nat_cmp}
use Rattle.std.specs.declared.cmp.Ordering.{Ordering}
use Rattle.byteorder.specs.Endian.{little_from}
use Rattle.calculus.specs.declared.query.RelKey.{RelKey}
use Rattle.calculus.specs.declared.schema.Spec.{Spec}
use Rattle.calculus.specs.declared.schema.Spec.TheVariants.{Heap, Hash, Isam, View, Index}
use Rattle.calculus.specs.Keys.{key_of}
use Rattle.calculus.specs.Limits.{most_keys}
use Rattle.calculus.specs.Lists.{is_any}
use Rattle.calculus.specs.Name.{is_name}
use Rattle.page_chain.specs.Lists.{◌>>=◌, when}
use Rattle.stored_database.specs.Names.{name_of, name_bytes, is_number32, bytes32}

-- a relation, a view or an index: the file that is its own; of an index the file of its relation; of a relation its primary pages, its directory's pages and all of its pages; and the places of its key attributes
pub record Entry : Type 0 where
  pub file : ℕ
  pub key : RelKey
  pub spec : Spec
  pub base : ℕ
  pub primary : ℕ
  pub directory : ℕ
  pub used : ℕ
  pub keys : List ℕ

-- ---- what an entry is

-- the number of what an entry is
abbrev pub spec_number : Spec → ℕ
spec_number Heap = 0
spec_number Hash = 1
spec_number Isam = 2
spec_number View = 3
spec_number Index = 4

-- what an entry is, by its number
abbrev pub spec_of : ℕ → Option Spec
spec_of n = slice_get (Heap ∷ Hash ∷ Isam ∷ View ∷ Index ∷ []) n

-- ---- which entries there are

-- there are no pages
abbrev pub has_no_pages : Entry → Bool
has_no_pages e = (e.primary == 0) && ((e.directory == 0) && (e.used == 0))

-- the pages are one chain from page 0 on, and there is no directory
abbrev pub is_one_chain : Entry → Bool
is_one_chain e = (e.primary == 1) && ((e.directory == 0) && nat_le 1 e.used)

-- a relation's pages are one chain, whatever its structure; a view has no pages and no keys; an index has no pages yet, and alone has a base
unfoldable pub suits_spec : Entry → Bool
suits_spec e = elim e.spec [
  | Heap ↦ (e.base == 0) && is_one_chain e
  | Hash ↦ (e.base == 0) && is_one_chain e
  | Isam ↦ (e.base == 0) && is_one_chain e
  | View ↦ (e.base == 0) && (has_no_pages e && not (is_any e.keys))
  | Index ↦ has_no_pages e
]

-- at most six keys, each a byte
abbrev pub are_keys : List ℕ → Bool
are_keys keys = nat_le (length keys) most_keys && list_all (λ k. nat_lt k 256) keys

-- an entry: a file from 16 on, names, and numbers that their bytes hold
unfoldable pub is_entry : Entry → Bool
is_entry e =
    nat_le 16 e.file
    && (is_number32 e.file
    && (is_name e.key.owner
    && (is_name e.key.name
    && (is_number32 e.base
    && (is_number32 e.primary && (is_number32 e.directory && (is_number32 e.used && (are_keys e.keys && suits_spec e))))))))

-- ---- its bytes

-- the keys in six bytes, behind their number
abbrev pub keys_bytes : List ℕ → List ℕ
keys_bytes keys = length keys ∷ (keys ++ replicate (6 - length keys) 0)

-- the bytes of an entry
unfoldable pub entry_bytes : Entry → List ℕ
entry_bytes e =
    bytes32 e.file ++ (name_bytes e.key.owner ++ (name_bytes e.key.name
    ++ (spec_number e.spec ∷ (bytes32 e.base ++ (bytes32 e.primary ++ (bytes32 e.directory ++ (bytes32 e.used ++ keys_bytes e.keys)))))))

-- what stands in the bytes of an entry, from the 28th on behind its names
unfoldable pub fields_in : ℕ → RelKey → Spec → List ℕ → Entry
fields_in file key spec rest = record {
  file = file;
  key = key;
  spec = spec;
  base = little_from 1 4 rest;
  primary = little_from 5 4 rest;
  directory = little_from 9 4 rest;
  used = little_from 13 4 rest;
  keys = take (slice_index rest 17) (drop 18 rest);
}

-- what stands in the places of an entry
unfoldable pub entry_in : List ℕ → Option Entry
entry_in bytes = do
  owner ← name_of (take 12 (drop 4 bytes))
  name ← name_of (take 12 (drop 16 bytes))
  spec ← spec_of (slice_index (drop 28 bytes) 0)
  Some (fields_in (little_from 0 4 bytes) (key_of owner name) spec (drop 28 bytes))

-- the entry whose bytes these are
unfoldable pub entry_of : List ℕ → Option Entry
entry_of bytes = do
  e ← entry_in bytes
  when (is_entry e && bytes_eq bytes (entry_bytes e)) e

-- entries by file
abbrev pub entry_cmp : Entry → Entry → Ordering
entry_cmp a b = nat_cmp a.file b.file
