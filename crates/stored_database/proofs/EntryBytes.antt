-- Entries and their bytes.
use Rattle.std.proofs.Common.{◌≡◌, refl, sym, ap, ◌∙◌, ℕ, ◌-◌, nat_le, true, List, [], ◌∷◌, ◌++◌, length, take, drop, replicate, slice_index, Option, Some, arith, append_assoc, length-append}
use Rattle.byteorder.specs.Endian.{little_from}
use Rattle.calculus.specs.declared.schema.Spec.{Spec}
use Rattle.calculus.specs.declared.schema.Spec.TheVariants.{Heap, Hash, Isam, View, Index}
use Rattle.calculus.specs.Keys.{key_of}
use Rattle.calculus.specs.Name.{is_name}
use Rattle.page_chain.specs.Lists.{◌>>=◌}
use Rattle.stored_database.specs.Entries.{Entry, spec_number, spec_of, are_keys, suits_spec, is_entry, keys_bytes, entry_bytes, fields_in, entry_in, entry_of}
use Rattle.stored_database.specs.Laws.{EntriesAreTheirBytes}
use Rattle.stored_database.specs.Names.{name_of, name_bytes, is_number32, bytes32}
use Rattle.stored_database.proofs.Reading.{both, strictly, read_again, take_front, drop_front, number_again, name_again, length_name}

-- what the test of an entry says
pub record Stands (e : Entry) : Type 0 where
  pub from : nat_le 16 e.file ≡ true
  pub file : is_number32 e.file ≡ true
  pub owner : is_name e.key.owner ≡ true
  pub name : is_name e.key.name ≡ true
  pub base : is_number32 e.base ≡ true
  pub primary : is_number32 e.primary ≡ true
  pub directory : is_number32 e.directory ≡ true
  pub used : is_number32 e.used ≡ true
  pub suits : suits_spec e ≡ true

pub stands : (e : Entry) → is_entry e ≡ true → Stands e
unfolding is_entry
stands e h =
    let a = both (nat_le 16 e.file) _ h in
    let b = both (is_number32 e.file) _ a.1 in
    let c = both (is_name e.key.owner) _ b.1 in
    let d = both (is_name e.key.name) _ c.1 in
    let f = both (is_number32 e.base) _ d.1 in
    let g = both (is_number32 e.primary) _ f.1 in
    let i = both (is_number32 e.directory) _ g.1 in
    let j = both (is_number32 e.used) _ i.1 in
    let k = both (are_keys e.keys) (suits_spec e) j.1 in
    record { from = a.0; file = b.0; owner = c.0; name = d.0; base = f.0; primary = g.0; directory = i.0; used = j.0; suits = k.1 }

spec_again : (s : Spec) → spec_of (spec_number s) ≡ Some s
spec_again Heap = refl
spec_again Hash = refl
spec_again Isam = refl
spec_again View = refl
spec_again Index = refl

-- the bytes behind the names
rest_bytes : Entry → List ℕ
rest_bytes e = spec_number e.spec ∷ (bytes32 e.base ++ (bytes32 e.primary ++ (bytes32 e.directory ++ (bytes32 e.used ++ keys_bytes e.keys))))

rest_again : (e : Entry) → Stands e → fields_in e.file (key_of e.key.owner e.key.name) e.spec (rest_bytes e) ≡ e
unfolding rest_bytes fields_in
rest_again e s = λ i. record {
  file = e.file;
  key = e.key;
  spec = e.spec;
  base = number_again e.base [] s.base i;
  primary = number_again e.primary [] s.primary i;
  directory = number_again e.directory [] s.directory i;
  used = number_again e.used [] s.used i;
  keys = take_front (length e.keys) e.keys (replicate (6 - length e.keys) 0) refl i;
}

-- the steps of reading an entry
steps : (owner name : Option (List ℕ)) (what : Option Spec) (file : ℕ) (rest : List ℕ) → Option Entry
steps owner name what file rest = owner >>= (λ o. name >>= (λ n. what >>= (λ w. Some (fields_in file (key_of o n) w rest))))

entry_again : (e : Entry) → is_entry e ≡ true → entry_in (entry_bytes e) ≡ Some e
unfolding entry_in entry_bytes steps rest_bytes
entry_again e h =
    let s = stands e h in
    let o = name_bytes e.key.owner in
    let n = name_bytes e.key.name in
    let r = rest_bytes e in
    let lo = length_name e.key.owner s.owner in
    let ln = length_name e.key.name s.name in
    let owner : take 12 (o ++ (n ++ r)) ≡ o = take_front 12 o (n ++ r) lo in
    let behind : drop 12 (o ++ (n ++ r)) ≡ n ++ r = drop_front 12 o (n ++ r) lo in
    let name : take 12 (drop 12 (o ++ (n ++ r))) ≡ n = ap (take 12) behind ∙ take_front 12 n r ln in
    let rest : drop 24 (o ++ (n ++ r)) ≡ r = drop_both o n r lo ln in
    let read = steps (name_of (take 12 (o ++ (n ++ r)))) (name_of (take 12 (drop 12 (o ++ (n ++ r))))) (spec_of (slice_index (drop 24 (o ++ (n ++ r))) 0)) (little_from 0 4 (bytes32 e.file ++ (o ++ (n ++ r)))) (drop 24 (o ++ (n ++ r))) in
    (λ i. steps (name_of (owner i)) (name_of (name i)) (spec_of (slice_index (rest i) 0)) (number_again e.file (o ++ (n ++ r)) s.file i) (rest i))
    ∙ (λ i. steps (name_again e.key.owner s.owner i) (name_again e.key.name s.name i) (spec_again e.spec i) e.file r)
    ∙ ap Some (rest_again e s)
  where
    drop_both : (o n r : List ℕ) → length o ≡ 12 → length n ≡ 12 → drop 24 (o ++ (n ++ r)) ≡ r
    drop_both o n r lo ln = ap (drop 24) (sym (append_assoc o n r)) ∙ drop_front 24 (o ++ n) r (omega (arith, length-append o n, lo, ln))

pub entries_are_their_bytes : EntriesAreTheirBytes
unfolding entry_of
entries_are_their_bytes bytes e = (
  strictly (entry_in bytes) is_entry entry_bytes bytes e,
  λ h. read_again (entry_in bytes) is_entry entry_bytes bytes e (ap entry_in h.1 ∙ entry_again e h.0) h.0 h.1,
)
