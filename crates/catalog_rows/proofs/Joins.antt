-- Bytes of parts joined, and what stands in the places of an attribute.
use Rattle.std.proofs.Common.{◌≡◌, sym, ap, ◌∙◌, ℕ, ◌+◌, ◌<◌, ◌≤◌, List, ◌∷◌, ◌++◌, append_assoc, length, map, take, drop, get_or, replicate, ◌-◌, slice_index, Option, Some, None, arith}
use Rattle.std.specs.List.{concat}
use Rattle.std.proofs.lemmas.List.{append-nil, drop_more, drop_all, drop-replicate, get_or-drop, length-replicate, take_all}
use Rattle.byteorder.specs.Endian.{little_from}
use Rattle.calculus.specs.declared.value.Kind.{Kind}
use Rattle.page_chain.specs.Lists.{◌>>=◌}
use Rattle.stored_database.specs.Columns.{column_in, kind_in}
use Rattle.stored_database.specs.Names.{name_of}
use Rattle.stored_database.specs.Parts.{Part}
use Rattle.catalog_rows.specs.declared.part_rows.PartRow.{PartRow}
use Rattle.catalog_rows.specs.Shown.{part_in}

-- the bytes of parts, one behind the other
abbrev pub bytes_of : List PartRow → List ℕ
bytes_of parts = concat (map (λ (p : Part). p.bytes) (map part_in parts))

-- the bytes of one more part came
pub one_joined : (parts : List PartRow) (i : ℕ) (part : PartRow) → i < length parts → part ≡ get_or parts i part → (old new piece all : List ℕ) → piece ≡ part.bytes → new ≡ old ++ piece
    → old ++ bytes_of (drop i parts) ≡ all → new ++ bytes_of (drop (i + 1) parts) ≡ all
one_joined parts i part within is old new piece all e f before =
    ap (λ l. l ++ bytes_of (drop (i + 1) parts)) (f ∙ ap (λ l. old ++ l) e)
    ∙ append_assoc old part.bytes (bytes_of (drop (i + 1) parts))
    ∙ ap (λ l. old ++ bytes_of l) (sym (drop_more parts i part within ∙ ap (λ p. p ∷ drop (i + 1) parts) (sym is)))
    ∙ before

-- those of all came
pub all_joined : (parts : List PartRow) (i : ℕ) → length parts ≤ i → (bytes all : List ℕ) → bytes ++ bytes_of (drop i parts) ≡ all → bytes ≡ all
all_joined parts i over bytes all before = sym (append-nil bytes) ∙ ap (λ l. bytes ++ bytes_of l) (sym (drop_all i parts over)) ∙ before

-- what stands in the places of an attribute of this name, where it is of such a kind
pub column_at_name : (bytes name : List ℕ) (kind : Option Kind) → name_of (take 12 (drop 5 bytes)) ≡ Some name → kind ≡ kind_in (slice_index bytes 17) (slice_index bytes 18)
    → (kind >>= (λ k. Some (record { file = little_from 0 4 bytes; place = slice_index bytes 4; attr = record { name = name; kind = k } }))) ≡ column_in bytes
unfolding column_in
column_at_name bytes name kind is sort =
    let shown : kind ≡ kind_in (slice_index (drop 17 bytes) 0) (slice_index (drop 17 bytes) 1) = sort ∙ (λ i. kind_in (sym (get_or-drop 17 bytes 0 0) i) (sym (get_or-drop 17 bytes 1 0) i)) in
    ap (λ (o : Option Kind). o >>= (λ k. Some (record { file = little_from 0 4 bytes; place = slice_index bytes 4; attr = record { name = name; kind = k } }))) shown
    ∙ ap (λ (o : Option (List ℕ)). o >>= (λ n. kind_in (slice_index (drop 17 bytes) 0) (slice_index (drop 17 bytes) 1) >>= (λ k. Some (record { file = little_from 0 4 bytes; place = slice_index bytes 4; attr = record { name = n; kind = k } })))) (sym is)

-- and nothing where there is no name
pub column_at_no_name : (bytes : List ℕ) → name_of (take 12 (drop 5 bytes)) ≡ None → None ≡ column_in bytes
unfolding column_in
column_at_no_name bytes is =
    ap (λ (o : Option (List ℕ)). o >>= (λ n. kind_in (slice_index (drop 17 bytes) 0) (slice_index (drop 17 bytes) 1) >>= (λ k. Some (record { file = little_from 0 4 bytes; place = slice_index bytes 4; attr = record { name = n; kind = k } })))) (sym is)

-- the blanks behind a text
pub blanks_behind : (n : ℕ) → n ≤ 12 → take {A = ℕ} (12 - n) (drop n (replicate 12 32)) ≡ replicate (12 - n) 32
blanks_behind n h = ap (take {A = ℕ} (12 - n)) (drop-replicate n 12 32) ∙ take_all {A = ℕ} (12 - n) (replicate (12 - n) 32) (omega (arith, length-replicate {A = ℕ} (12 - n) 32))
