-- How many bytes the rows of the catalogues have.
use Rattle.std.proofs.Common.{◌≡◌, refl, ap, ◌∙◌, ℕ, ◌-◌, ◌+◌, ◌≤◌, ◌<◌, nat_lt, nat_le, true, IsTrue, List, [], ◌∷◌, ◌++◌, length, replicate, Option, Some, None, arith, length-append}
use Rattle.std.proofs.lemmas.Bool.Decides.{nat_tests}
use Rattle.std.proofs.lemmas.List.{length-replicate}
use Rattle.page_chain.specs.Lying.{IsShort}
use Rattle.calculus.specs.Name.{is_name}
use Rattle.stored_database.specs.Columns.{Column, column_bytes, column_of, is_column, kind_number}
use Rattle.stored_database.specs.Entries.{Entry, are_keys, entry_bytes, entry_of, is_entry, keys_bytes, spec_number, suits_spec}
use Rattle.stored_database.specs.Parts.{Part, part_bytes, part_of}
use Rattle.stored_database.specs.Names.{name_bytes, bytes32, is_number32}
use Rattle.stored_database.proofs.Reading.{both, length_name}
use Rattle.stored_database.proofs.ColumnBytes.{columns_are_their_bytes}
use Rattle.stored_database.proofs.EntryBytes.{entries_are_their_bytes}
use Rattle.stored_database.proofs.PartBytes.{parts_are_their_bytes}
use Rattle.calculus.specs.IsDatabase.{kind_bytes}

-- a row of so many bytes is short
short : (row : List ℕ) (n : ℕ) → length row ≡ n → 0 < n → n ≤ 1012 → IsShort row
short row n l a b = record { some = omega arith; most = omega arith }

-- a test that fails of what there would be
pub none_where : {A : Type 0} (o : Option A) → ((x : A) → o ≡ Some x → ⊥) → o ≡ None
none_where None never = refl
none_where (Some x) never = absurd (never x refl)

-- ---- attributes

length_column : (c : Column) → is_name c.attr.name ≡ true → length (column_bytes c) ≡ 19
unfolding column_bytes
length_column c n = omega (arith, length_name c.attr.name n, length-append (name_bytes c.attr.name) (kind_number c.attr.kind ∷ kind_bytes c.attr.kind ∷ []))

pub column_is_short : (c : Column) → IsTrue (is_name c.attr.name) → IsShort (column_bytes c)
column_is_short c n = short (column_bytes c) 19 (length_column c n) (omega arith) (omega arith)

name_of_column : (c : Column) → is_column c ≡ true → is_name c.attr.name ≡ true
unfolding is_column
name_of_column c h =
    let a = both (is_number32 c.file) _ h in
    let b = both (nat_lt c.place 256) _ a.1 in
    (both (is_name c.attr.name) _ b.1).0

pub other_lengths_are_no_column : (bytes : List ℕ) → (length bytes ≡ 19 → ⊥) → column_of bytes ≡ None
other_lengths_are_no_column bytes other = none_where (column_of bytes) (λ c is.
    let h = (columns_are_their_bytes bytes c).0 is in
    other (ap length h.1 ∙ length_column c (name_of_column c h.0)))

-- ---- entries

length_keys : (keys : List ℕ) → length keys ≤ 6 → length (keys_bytes keys) ≡ 7
length_keys keys few = omega (arith, length-append keys (replicate (6 - length keys) 0), length-replicate {A = ℕ} (6 - length keys) 0)

length_entry : (e : Entry) → is_name e.key.owner ≡ true → is_name e.key.name ≡ true → length e.keys ≤ 6 → length (entry_bytes e) ≡ 52
unfolding entry_bytes
length_entry e o n few =
    let rest : List ℕ = spec_number e.spec ∷ (bytes32 e.base ++ (bytes32 e.primary ++ (bytes32 e.directory ++ (bytes32 e.used ++ keys_bytes e.keys)))) in
    omega (arith, length_name e.key.owner o, length_name e.key.name n, length_keys e.keys few, length-append (name_bytes e.key.owner) (name_bytes e.key.name ++ rest), length-append (name_bytes e.key.name) rest)

pub entry_is_short : (e : Entry) → IsTrue (is_name e.key.owner) → IsTrue (is_name e.key.name) → length e.keys ≤ 6 → IsShort (entry_bytes e)
entry_is_short e o n few = short (entry_bytes e) 52 (length_entry e o n few) (omega arith) (omega arith)

-- what of the test of an entry says how long its row is
few_keys : (keys : List ℕ) → are_keys keys ≡ true → length keys ≤ 6
few_keys keys h = let f = (both (nat_le (length keys) 6) _ h).0 in grind (arith, nat_tests)

named : (e : Entry) → is_entry e ≡ true → (is_name e.key.owner ≡ true) × (is_name e.key.name ≡ true) × (length e.keys ≤ 6)
unfolding is_entry
named e h =
    let a = both (nat_le 16 e.file) _ h in
    let b = both (is_number32 e.file) _ a.1 in
    let c = both (is_name e.key.owner) _ b.1 in
    let d = both (is_name e.key.name) _ c.1 in
    let f = both (is_number32 e.base) _ d.1 in
    let g = both (is_number32 e.primary) _ f.1 in
    let i = both (is_number32 e.directory) _ g.1 in
    let j = both (is_number32 e.used) _ i.1 in
    (c.0, d.0, few_keys e.keys (both (are_keys e.keys) (suits_spec e) j.1).0)

pub other_lengths_are_no_entry : (bytes : List ℕ) → (length bytes ≡ 52 → ⊥) → entry_of bytes ≡ None
other_lengths_are_no_entry bytes other = none_where (entry_of bytes) (λ e is.
    let h = (entries_are_their_bytes bytes e).0 is in
    let n = named e h.0 in
    other (ap length h.1 ∙ length_entry e n.0 n.1 n.2))

-- ---- parts

length_part : (p : Part) → length (part_bytes p) ≡ 11 + length p.bytes
unfolding part_bytes
length_part p = omega arith

pub part_is_short : (p : Part) → length p.bytes ≤ 900 → IsShort (part_bytes p)
part_is_short p few = short (part_bytes p) (11 + length p.bytes) (length_part p) (omega arith) (omega arith)

pub short_rows_are_no_part : (bytes : List ℕ) → length bytes < 11 → part_of bytes ≡ None
short_rows_are_no_part bytes few = none_where (part_of bytes) (λ p is.
    let h = (parts_are_their_bytes bytes p).0 is in
    omega (arith, ap length h.1, length_part p))
