-- A page that was put last, and a store that is begun anew.
use Rattle.std.proofs.Common.{◌≡◌, refl, sym, ap, subst, ◌∙◌, ℕ, ◌==◌, Bool, true, false, List, Some, Ok, Err, Result, if◌then◌else◌}
use Rattle.std.proofs.lemmas.Bool.{and_from, eq-eqb}
use Rattle.std.specs.Result.{OnOk, OnErr, is_err}
use Rattle.disk_model.specs.Disk.{Image, is_at}
use Rattle.disk_model.specs.declared.disk.Addr.{Addr}
use Rattle.am_traits.specs.Pages.{with_page}

-- an address is the same as itself
is_itself : (a : Addr) → is_at a a ≡ true
is_itself a = and_from (a.file == a.file) (a.page == a.page) (eq-eqb a.file a.file refl) (eq-eqb a.page a.page refl)

-- the page at an address is the one that was put there
put_here : (a : Addr) (p : List ℕ) (m : Image) → with_page a p m a ≡ Some p
put_here a p m = ap (λ t. if t then Some p else m a) (is_itself a)

-- and it is the one that is kept
pub put_last : (m n : Image) (a b : Addr) (p : List ℕ) → m ≡ with_page a p n → Some a ≡ Some b → m b ≡ Some p
put_last m n a b p put is =
    let same : a ≡ b = cc is in
    subst (λ x. m x ≡ Some p) same (ap (λ (f : Image). f a) put ∙ put_here a p n)

-- after an answer no restore is due
pub calm_so : {T E : Type 0} (result : Result T E) (now was : Bool) → now ≡ is_err result → was ≡ false → OnOk result (now ≡ was)
calm_so (Ok x) now was is calm = is ∙ sym calm
calm_so (Err e) now was is calm = tt

-- after an error one is
pub due_so : {T E : Type 0} (result : Result T E) (now : Bool) → now ≡ is_err result → OnErr result (now ≡ true)
due_so (Ok x) now is = tt
due_so (Err e) now is = is
