-- The one relation under a key, changed.
use Rattle.std.proofs.Common.{◌≡◌, refl, sym, ap, ◌∙◌, subst, ℕ, zero, suc, ◌<◌, Bool, true, false, ◌&&◌, List, [], ◌∷◌, length, map, slice_index_or, slice_set, rules, arith}
use Rattle.std.specs.Prelude.{bytes_eq}
use Rattle.std.specs.List.{AllByRecursion}
use Rattle.std.specs.List.Sorted.{IsStrictlySortedBy}
use Rattle.std.specs.Cmp.{IsTotalOrder}
use Rattle.std.specs.declared.cmp.Ordering.TheVariants.{Less}
use Rattle.std.proofs.lemmas.Cmp.{nat_list_cmp_total, on_total, then_total, tied_itself}
use Rattle.std.proofs.lemmas.Map.Keys.{sorted_head, sorted_tail}
use Rattle.std.proofs.lemmas.Slice.Eq.{bytes_eq-Decides}
use Rattle.calculus.specs.declared.query.RelKey.{RelKey}
use Rattle.calculus.specs.Change.{change_at}
use Rattle.calculus.specs.Database.{Relation}
use Rattle.calculus.specs.Keys.{same_key, key_cmp}

pub key_total : IsTotalOrder key_cmp
key_total = then_total (on_total (λ key. key.owner) nat_list_cmp_total) (on_total (λ key. key.name) nat_list_cmp_total)

both : (b c : Bool) → (b && c) ≡ true → (b ≡ true) × (c ≡ true)
both true true h = (refl, refl)
both true false h = (refl, h)
both false c h = (h, cc h)

pub same_key_is : (a b : RelKey) → same_key a b ≡ true → a ≡ b
same_key_is a b h =
    let parts = both (bytes_eq a.owner b.owner) (bytes_eq a.name b.name) h in
    λ i. record { owner = (bytes_eq-Decides a.owner b.owner).0 parts.0 i; name = (bytes_eq-Decides a.name b.name).0 parts.1 i }

-- the keys of relations ascend
abbrev pub KeysAscend : List Relation → Type 0
KeysAscend rs = IsStrictlySortedBy key_cmp (map (λ r. r.info.key) rs)

abbrev chosen : Bool → (Relation → Relation) → Relation → Relation
chosen b f r = elim b [ true ↦ f r | false ↦ r ]

-- where no key is this one, nothing changes
pub none_changed : (key : RelKey) (f : Relation → Relation) (rs : List Relation) → AllByRecursion (λ (r : Relation). same_key r.info.key key ≡ false) rs → change_at key f rs ≡ rs
none_changed key f [] h = refl
none_changed key f (r ∷ rs) h =
    ap (λ b. chosen b f r ∷ change_at key f rs) h.0 ∙ ap (λ rs. r ∷ rs) (none_changed key f rs h.1)

-- keys above a key are other ones
others : (key : RelKey) (rs : List Relation) → AllByRecursion (λ other. key_cmp key other ≡ Less) (map (λ r. r.info.key) rs)
    → AllByRecursion (λ (r : Relation). same_key r.info.key key ≡ false) rs
others key [] h = tt
others key (r ∷ rs) h = (go (same_key r.info.key key) refl, others key rs h.1)
  where
    go : (b : Bool) → same_key r.info.key key ≡ b → b ≡ false
    go true e = cc (sym (tied_itself key_total key), subst (λ k. key_cmp key k ≡ Less) (same_key_is r.info.key key e) h.0)
    go false e = refl

-- no relation before this place has the key
abbrev pub IsFirst : RelKey → List Relation → ℕ → Type 0
IsFirst key rs i = (k : ℕ) (d : Relation) → k < i → same_key (slice_index_or rs k d).info.key key ≡ false

pub one_changed : (key : RelKey) (f : Relation → Relation) (rs : List Relation) (d : Relation) → KeysAscend rs → (i : ℕ) → i < length rs → IsFirst key rs i
    → same_key (slice_index_or rs i d).info.key key ≡ true → change_at key f rs ≡ slice_set rs i (f (slice_index_or rs i d))
one_changed key f [] d h i within first same = absurd (omega (arith, within))
one_changed key f (r ∷ rs) d h zero within first same =
    ap (λ b. chosen b f r ∷ change_at key f rs) same
    ∙ ap (λ rs. f r ∷ rs)
    (none_changed key f rs
    (subst (λ k. AllByRecursion (λ (r : Relation). same_key r.info.key k ≡ false) rs) (same_key_is r.info.key key same)
    (others r.info.key rs (sorted_head key_cmp r.info.key (map (λ r. r.info.key) rs) h))))
one_changed key f (r ∷ rs) d h (suc i) within first same =
    ap (λ b. chosen b f r ∷ change_at key f rs) (first 0 d (search rules))
    ∙ ap (λ rs. r ∷ rs)
    (one_changed key f rs d (sorted_tail key_cmp r.info.key (map (λ r. r.info.key) rs) h) i (search rules) (λ k d h. first (suc k) d (search rules)) same)

pub none_first : (key : RelKey) (f : Relation → Relation) (rs : List Relation) → IsFirst key rs (length rs) → change_at key f rs ≡ rs
none_first key f [] first = refl
none_first key f (r ∷ rs) first =
    ap (λ b. chosen b f r ∷ change_at key f rs) (first 0 r (search rules))
    ∙ ap (λ rs. r ∷ rs) (none_first key f rs (λ k d h. first (suc k) d (search rules)))
