-- Attributes and their bytes.
use Rattle.std.proofs.Common.{◌≡◌, refl, ap, ◌∙◌, ℕ, nat_lt, true, List, [], ◌∷◌, ◌++◌, take, drop, slice_index, Option, Some}
use Rattle.calculus.specs.declared.value.Domain.TheVariants.{I1, I2, I4, C}
use Rattle.calculus.specs.declared.value.Kind.{Kind}
use Rattle.calculus.specs.declared.value.Kind.TheVariants.{Of, Wide}
use Rattle.calculus.specs.IsDatabase.{kind_bytes}
use Rattle.calculus.specs.Name.{is_name}
use Rattle.page_chain.specs.Lists.{◌>>=◌}
use Rattle.stored_database.specs.Columns.{Column, kind_number, kind_in, is_column, column_bytes, column_in, column_of}
use Rattle.stored_database.specs.Laws.{ColumnsAreTheirBytes}
use Rattle.stored_database.specs.Names.{name_of, name_bytes, is_number32}
use Rattle.stored_database.proofs.Reading.{both, strictly, read_again, take_front, drop_front, number_again, name_again, length_name}

kind_again : (k : Kind) → kind_in (kind_number k) (kind_bytes k) ≡ Some k
kind_again (Of I1) = refl
kind_again (Of I2) = refl
kind_again (Of I4) = refl
kind_again (Of (C width)) = refl
kind_again Wide = refl

-- the steps of reading an attribute
steps : Option (List ℕ) → Option Kind → (file place : ℕ) → Option Column
steps name kind file place = name >>= (λ n. kind >>= (λ k. Some (record { file = file; place = place; attr = record { name = n; kind = k } })))

column_again : (c : Column) → is_column c ≡ true → column_in (column_bytes c) ≡ Some c
unfolding is_column column_in column_bytes steps
column_again c h =
    let a = both (is_number32 c.file) _ h in
    let b = both (nat_lt c.place 256) _ a.1 in
    let d = both (is_name c.attr.name) _ b.1 in
    let n = name_bytes c.attr.name in
    let r : List ℕ = kind_number c.attr.kind ∷ kind_bytes c.attr.kind ∷ [] in
    let name : take 12 (n ++ r) ≡ n = take_front 12 n r (length_name c.attr.name d.0) in
    let rest : drop 12 (n ++ r) ≡ r = drop_front 12 n r (length_name c.attr.name d.0) in
    (λ i. steps (name_of (name i)) (kind_in (slice_index (rest i) 0) (slice_index (rest i) 1)) (number_again c.file (c.place ∷ (n ++ r)) a.0 i) c.place)
    ∙ (λ i. steps (name_again c.attr.name d.0 i) (kind_again c.attr.kind i) c.file c.place)

pub columns_are_their_bytes : ColumnsAreTheirBytes
unfolding column_of
columns_are_their_bytes bytes c = (
  strictly (column_in bytes) is_column column_bytes bytes c,
  λ h. read_again (column_in bytes) is_column column_bytes bytes c (ap column_in h.1 ∙ column_again c h.0) h.0 h.1,
)
