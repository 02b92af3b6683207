-- The tests of the rows of catalogues, where numbers have so many bytes and names are names.
use Rattle.std.proofs.Common.{◌≡◌, refl, sym, ap, subst, ◌∙◌, ℕ, suc, ◌^◌, ◌<◌, nat_lt, nat_le, Bool, true, false, ◌&&◌, List, [], ◌∷◌, length, take, drop, slice_index, Option, Some, None}
use Rattle.std.specs.Prelude.{bytes_eq}
use Rattle.std.specs.List.{list_all}
use Rattle.std.proofs.lemmas.Bool.{lt-ltb}
use Rattle.std.proofs.lemmas.List.{get_or-drop}
use Rattle.std.proofs.lemmas.Option.{same_Some}
use Rattle.byteorder.specs.Endian.{little_from}
use Rattle.byteorder.specs.Numbers.{little_from-lt}
use Rattle.calculus.specs.Text.{trimmed}
use Rattle.calculus.specs.Name.{is_name}
use Rattle.calculus.specs.Keys.{key_of}
use Rattle.calculus.specs.declared.query.RelKey.{RelKey}
use Rattle.calculus.specs.declared.schema.Spec.{Spec}
use Rattle.calculus.specs.IsDatabase.{is_kind}
use Rattle.page_chain.specs.Lists.{◌>>=◌, when}
use Rattle.stored_database.specs.Columns.{Column, column_bytes, column_in, column_of, is_column, kind_in}
use Rattle.stored_database.specs.Entries.{Entry, entry_bytes, entry_in, entry_of, fields_in, is_entry, spec_of, suits_spec}
use Rattle.stored_database.specs.Names.{name_of}
use Rattle.stored_database.proofs.Reading.{bind_some, when_some}
use Rattle.catalog_rows.specs.Shown.{is_in_order, key_at}
use Rattle.catalog_rows.proofs.Fields.{AreBytes, bytes_dropped, bytes_taken}

column_known : (c : Column) → c.file < 4294967296 → c.place < 256 → is_name c.attr.name ≡ true → is_column c ≡ is_kind c.attr.kind
unfolding is_column
column_known c file place name = λ i. lt-ltb c.file (2 ^ 32) file i && (lt-ltb c.place 256 place i && (name i && is_kind c.attr.kind))

-- what was read is tested by another test
tested : {A : Type 0} (o : Option A) (test other : A → Bool) (spell : A → List ℕ) (bytes : List ℕ) → ((x : A) → o ≡ Some x → test x ≡ other x)
    → (o >>= (λ x. when (test x && bytes_eq bytes (spell x)) x)) ≡ (o >>= (λ x. when (other x && bytes_eq bytes (spell x)) x))
tested None test other spell bytes same = refl
tested (Some x) test other spell bytes same = ap (λ b. when (b && bytes_eq bytes (spell x)) x) (same x refl)

-- a name that is read is one
named : (bytes name : List ℕ) → name_of bytes ≡ Some name → is_name name ≡ true
unfolding name_of
named bytes name is = let w = when_some (is_name (trimmed bytes)) (trimmed bytes) name is in ap is_name (sym w.1) ∙ w.0

-- an attribute whose bytes these are has a kind that is one
pub column_where : (bytes : List ℕ) → AreBytes bytes → column_of bytes ≡ (column_in bytes >>= (λ c. when (is_kind c.attr.kind && bytes_eq bytes (column_bytes c)) c))
unfolding column_of column_in
column_where bytes small = tested (column_in bytes) is_column (λ c. is_kind c.attr.kind) column_bytes bytes (λ c is.
    let n = bind_some (name_of (take 12 (drop 5 bytes))) _ c is in
    let k = bind_some (kind_in (slice_index (drop 17 bytes) 0) (slice_index (drop 17 bytes) 1)) _ c n.2 in
    let e = same_Some _ c k.2 in
    subst (λ (c : Column). is_column c ≡ is_kind c.attr.kind) e
    (column_known (record { file = little_from 0 4 bytes; place = slice_index bytes 4; attr = record { name = n.0; kind = k.0 } }) (little_from-lt 0 4 bytes small) (small 4) (named (take 12 (drop 5 bytes)) n.0 n.1)))

keys_small : (keys : List ℕ) → AreBytes keys → list_all (λ k. nat_lt k 256) keys ≡ true
keys_small [] small = refl
keys_small (k ∷ keys) small = λ i. lt-ltb k 256 (small 0) i && keys_small keys (λ j. small (suc j)) i

passes_too : (b : Bool) → (b && true) ≡ b
passes_too true = refl
passes_too false = refl

entry_known : (e : Entry) → e.file < 4294967296 → is_name e.key.owner ≡ true → is_name e.key.name ≡ true → e.base < 4294967296 → e.primary < 4294967296 → e.directory < 4294967296 → e.used < 4294967296
    → AreBytes e.keys → is_entry e ≡ is_in_order e
unfolding is_entry
entry_known e file owner name base primary directory used keys = λ i.
    nat_le 16 e.file
    && (lt-ltb e.file (2 ^ 32) file i
    && (owner i
    && (name i
    && (lt-ltb e.base (2 ^ 32) base i
    && (lt-ltb e.primary (2 ^ 32) primary i
    && (lt-ltb e.directory (2 ^ 32) directory i
    && (lt-ltb e.used (2 ^ 32) used i && ((ap (λ b. nat_le (length e.keys) 6 && b) (keys_small e.keys keys) ∙ passes_too (nat_le (length e.keys) 6)) i && suits_spec e))))))))

-- what stands in the places of an entry, by its names
by_key : (owner name : Option (List ℕ)) (f : RelKey → Option Entry)
    → (owner >>= (λ o. name >>= (λ n. f (key_of o n)))) ≡ ((owner >>= (λ o. name >>= (λ n. Some (key_of o n)))) >>= f)
by_key None name f = refl
by_key (Some o) None f = refl
by_key (Some o) (Some n) f = refl

entry_by_key : (bytes : List ℕ) → entry_in bytes ≡ (key_at bytes >>= (λ key. spec_of (slice_index (drop 28 bytes) 0) >>= (λ spec. Some (fields_in (little_from 0 4 bytes) key spec (drop 28 bytes)))))
unfolding entry_in
entry_by_key bytes = by_key (name_of (take 12 (drop 4 bytes))) (name_of (take 12 (drop 16 bytes))) (λ key. spec_of (slice_index (drop 28 bytes) 0) >>= (λ spec. Some (fields_in (little_from 0 4 bytes) key spec (drop 28 bytes))))

-- what stands in the places of an entry of these names, where it is of such a sort
pub entry_at_key : (bytes : List ℕ) (key : RelKey) (what : Option Spec) → key_at bytes ≡ Some key → what ≡ spec_of (slice_index bytes 28)
    → (what >>= (λ spec. Some (fields_in (little_from 0 4 bytes) key spec (drop 28 bytes)))) ≡ entry_in bytes
entry_at_key bytes key what is sort =
    ap (λ w. w >>= (λ spec. Some (fields_in (little_from 0 4 bytes) key spec (drop 28 bytes)))) (sort ∙ ap spec_of (sym (get_or-drop 28 bytes 0 0)))
    ∙ ap (λ k. k >>= (λ key. spec_of (slice_index (drop 28 bytes) 0) >>= (λ spec. Some (fields_in (little_from 0 4 bytes) key spec (drop 28 bytes))))) (sym is)
    ∙ sym (entry_by_key bytes)

-- and nothing where there are no names
pub entry_at_no_key : (bytes : List ℕ) → key_at bytes ≡ None → None ≡ entry_in bytes
entry_at_no_key bytes is =
    ap (λ k. k >>= (λ key. spec_of (slice_index (drop 28 bytes) 0) >>= (λ spec. Some (fields_in (little_from 0 4 bytes) key spec (drop 28 bytes))))) (sym is)
    ∙ sym (entry_by_key bytes)

-- an entry whose bytes these are is in order
pub entry_where : (bytes : List ℕ) → AreBytes bytes → entry_of bytes ≡ (entry_in bytes >>= (λ e. when (is_in_order e && bytes_eq bytes (entry_bytes e)) e))
unfolding entry_of entry_in fields_in
entry_where bytes small = tested (entry_in bytes) is_entry is_in_order entry_bytes bytes (λ e is.
    let rest = drop 28 bytes in
    let some = bytes_dropped 28 bytes small in
    let o = bind_some (name_of (take 12 (drop 4 bytes))) _ e is in
    let n = bind_some (name_of (take 12 (drop 16 bytes))) _ e o.2 in
    let s = bind_some (spec_of (slice_index rest 0)) _ e n.2 in
    let same = same_Some _ e s.2 in
    subst (λ (e : Entry). is_entry e ≡ is_in_order e) same
    (entry_known (fields_in (little_from 0 4 bytes) (key_of o.0 n.0) s.0 rest) (little_from-lt 0 4 bytes small) (named (take 12 (drop 4 bytes)) o.0 o.1) (named (take 12 (drop 16 bytes)) n.0 n.1)
    (little_from-lt 1 4 rest some) (little_from-lt 5 4 rest some) (little_from-lt 9 4 rest some) (little_from-lt 13 4 rest some)
    (bytes_taken (slice_index rest 17) (drop 18 rest) (bytes_dropped 18 rest some))))
