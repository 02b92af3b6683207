-- The orders of keys, entries, attributes and parts are total.
use Rattle.std.proofs.Common.{◌≡◌, refl, ap, ◌∙◌, ℕ, true, ◌&&◌}
use Rattle.std.specs.Prelude.{bytes_eq}
use Rattle.std.specs.Cmp.{IsTotalOrder}
use Rattle.std.specs.Cmp.Lexicographic.{slice_cmp}
use Rattle.std.specs.Ordering.{nat_cmp, is_eq, ordering_then}
use Rattle.std.specs.declared.cmp.Ordering.{Ordering}
use Rattle.std.specs.declared.cmp.Ordering.TheVariants.{Less, Equal, Greater}
use Rattle.std.proofs.lemmas.Cmp.{nat_cmp_total, nat_list_cmp_total, on_total, then_total}
use Rattle.std.proofs.lemmas.Map.Text.{is_eq-slice_cmp}
use Rattle.std.proofs.lemmas.Slice.Eq.{bytes_eq-Decides}
use Rattle.calculus.specs.declared.query.RelKey.{RelKey}
use Rattle.calculus.specs.Keys.{key_cmp, numbered_cmp, same_key}
use Rattle.stored_database.specs.Columns.{Column, column_cmp}
use Rattle.stored_database.specs.Entries.{Entry, entry_cmp}
use Rattle.stored_database.specs.Parts.{Part, part_cmp}
use Rattle.stored_database.proofs.Reading.{both, together}

pub key_total : IsTotalOrder key_cmp
key_total = then_total (on_total (λ key. key.owner) nat_list_cmp_total) (on_total (λ key. key.name) nat_list_cmp_total)

pub numbered_total : {X : Type 0} (number : X → ℕ) → IsTotalOrder (numbered_cmp number)
numbered_total {X} number = then_total (on_total (λ (p : RelKey × X). p.0) key_total) (on_total (λ (p : RelKey × X). number p.1) nat_cmp_total)

pub entry_total : IsTotalOrder entry_cmp
entry_total = on_total (λ (e : Entry). e.file) nat_cmp_total

pub column_total : IsTotalOrder column_cmp
column_total = then_total (on_total (λ (c : Column). c.file) nat_cmp_total) (on_total (λ (c : Column). c.place) nat_cmp_total)

pub part_total : IsTotalOrder part_cmp
part_total =
    then_total (on_total (λ (p : Part). p.file) nat_cmp_total)
    (then_total (on_total (λ (p : Part). p.sort) nat_cmp_total) (then_total (on_total (λ (p : Part). p.number) nat_cmp_total) (on_total (λ (p : Part). p.place) nat_cmp_total)))

-- keys are equal in their order where they are the same
pub key_exact : (a b : RelKey) → is_eq (key_cmp a b) ≡ same_key a b
key_exact a b = go (slice_cmp nat_cmp a.owner b.owner) (slice_cmp nat_cmp a.name b.name) ∙ (λ i. is_eq-slice_cmp a.owner b.owner i && is_eq-slice_cmp a.name b.name i)
  where
    go : (o p : Ordering) → is_eq (ordering_then o p) ≡ (is_eq o && is_eq p)
    go Less p = refl
    go Equal p = refl
    go Greater p = refl

pub same_key_is : (a b : RelKey) → same_key a b ≡ true → a ≡ b
same_key_is a b h =
    let parts = both (bytes_eq a.owner b.owner) (bytes_eq a.name b.name) h in
    λ i. record { owner = (bytes_eq-Decides a.owner b.owner).0 parts.0 i; name = (bytes_eq-Decides a.name b.name).0 parts.1 i }

pub same_key_itself : (a : RelKey) → same_key a a ≡ true
same_key_itself a = together (bytes_eq a.owner a.owner) (bytes_eq a.name a.name) ((bytes_eq-Decides a.owner a.owner).1 refl) ((bytes_eq-Decides a.name a.name).1 refl)

pub same_key_turned : (a b : RelKey) → same_key a b ≡ true → same_key b a ≡ true
same_key_turned a b h = ap (same_key b) (same_key_is a b h) ∙ same_key_itself b
