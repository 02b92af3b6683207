-- The order of rules and permits is total, and a key is found by its bytes.
use Rattle.std.proofs.Common.{◌≡◌, refl, ℕ, true}
use Rattle.std.specs.Prelude.{bytes_eq}
use Rattle.std.specs.Cmp.{IsTotalOrder}
use Rattle.std.proofs.lemmas.Cmp.{nat_cmp_total, nat_list_cmp_total, on_total, then_total}
use Rattle.std.proofs.lemmas.Slice.Eq.{bytes_eq-Decides}
use Rattle.calculus.specs.declared.query.RelKey.{RelKey}
use Rattle.calculus.specs.Keys.{key_cmp, numbered_cmp, same_key}
use Rattle.plan_laws.proofs.Kept.{both, each}

pub key_total : IsTotalOrder key_cmp
key_total = then_total (on_total (λ key. key.owner) nat_list_cmp_total) (on_total (λ key. key.name) nat_list_cmp_total)

pub numbered_total : {X : Type 0} (number : X → ℕ) → IsTotalOrder (numbered_cmp number)
numbered_total {X} number = then_total (on_total (λ (p : RelKey × X). p.0) key_total) (on_total (λ (p : RelKey × X). number p.1) nat_cmp_total)

pub same_key_is : (a b : RelKey) → same_key a b ≡ true → a ≡ b
same_key_is a b h =
    let parts = both (bytes_eq a.owner b.owner) (bytes_eq a.name b.name) h in
    λ i. record { owner = (bytes_eq-Decides a.owner b.owner).0 parts.0 i; name = (bytes_eq-Decides a.name b.name).0 parts.1 i }

pub same_key_itself : (a : RelKey) → same_key a a ≡ true
same_key_itself a = each (bytes_eq a.owner a.owner) (bytes_eq a.name a.name) ((bytes_eq-Decides a.owner a.owner).1 refl) ((bytes_eq-Decides a.name a.name).1 refl)
