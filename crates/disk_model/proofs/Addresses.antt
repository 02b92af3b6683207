-- When two addresses are the same.
use Rattle.std.proofs.Common.{◌≡◌, ◌≢◌, ◌⊎◌, inl, inr, Bool, true, false, refl, subst, arith}
use Rattle.std.proofs.lemmas.Bool.Decides.{nat_tests}
use Rattle.disk_model.specs.declared.disk.Addr.{Addr}
use Rattle.disk_model.specs.Disk.{is_at}

pub same_addr : (a b : Addr) → a.file ≡ b.file → a.page ≡ b.page → a ≡ b
same_addr a b f p = λ i. record { file = f i; page = p i }

pub is_at_self : (a : Addr) → is_at a a ≡ true
is_at_self a = grind (arith, nat_tests)

pub is_at_true : (a b : Addr) → is_at a b ≡ true → a ≡ b
is_at_true a b h =
    let f : a.file ≡ b.file = grind (arith, nat_tests) in
    let p : a.page ≡ b.page = grind (arith, nat_tests) in
    same_addr a b f p

-- two addresses are the same, or they are not, and the test says which
pub at_cases : (a b : Addr) → ((a ≡ b) × (is_at a b ≡ true)) ⊎ ((a ≢ b) × (is_at a b ≡ false))
at_cases a b = elim (bool_cases (is_at a b)) [
  | inl t ↦ inl (is_at_true a b t, t)
  | inr f ↦ inr ((λ e. let t : is_at a b ≡ true = subst (λ x. is_at a x ≡ true) e (is_at_self a) in cc (t, f)), f)
]
  where
    bool_cases : (x : Bool) → (x ≡ true) ⊎ (x ≡ false)
    bool_cases true = inl refl
    bool_cases false = inr refl

pub off_at : (a b : Addr) → a ≢ b → is_at a b ≡ false
off_at a b other = elim (at_cases a b) [ inl same ↦ absurd (other same.0) | inr off ↦ off.1 ]
