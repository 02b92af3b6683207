-- The first page at fault of a batch.
use Rattle.std.proofs.Common.{◌≡◌, ◌⊎◌, inl, inr, ℕ, zero, suc, ◌+◌, ◌/◌, ◌<◌, Bool, true, false, List, Some, None, is_some, Result, Ok, Err, refl, sym, ◌∙◌, ap, subst, arith, add-one}
use Rattle.disk_model.specs.declared.disk.Addr.{Addr}
use Rattle.disk_model.specs.Disk.{Image}
use Rattle.batch_file.specs.declared.fault.RestoreFault.{RestoreFault}
use Rattle.batch_file.specs.declared.fault.RestoreFault.TheVariants.{Disk, Damaged}
use Rattle.batch_file.specs.Layout.{addr, count, is_head, is_lawful, has_image}
use Rattle.batch_file.specs.Redone.{first_failing, next_failing, damage, damage_of}
use Rattle.batch_file.specs.Faults.{IsAddress, IsPage, IsAnswerOf, IsHeadOf, AreLawful, AreThere}

-- a test that fails after others that don't, and one more that doesn't
pub first_failing-fails : (ok : ℕ → Bool) (k : ℕ) → first_failing ok k ≡ None → ok k ≡ false → first_failing ok (suc k) ≡ Some k
first_failing-fails ok k none fails = λ i. next_failing (none i) (fails i) k

pub first_failing-passes : (ok : ℕ → Bool) (k : ℕ) → first_failing ok k ≡ None → ok k ≡ true → first_failing ok (k + 1) ≡ None
first_failing-passes ok k none passes = rw add-one (λ i. next_failing (none i) (passes i) k)

first_failing-later : (ok : ℕ → Bool) (k n : ℕ) → first_failing ok (suc k) ≡ Some k → k < n → first_failing ok n ≡ Some k
first_failing-later ok k zero fails lt = absurd (omega arith)
first_failing-later ok k (suc n) fails lt = elim (last_or_before k n lt) [
  | inl same ↦ subst (λ j. first_failing ok (suc j) ≡ Some k) same fails
  | inr below ↦ ap (λ x. next_failing x (ok n) n) (first_failing-later ok k n fails below)
]
  where
    last_or_before : (k n : ℕ) → k < suc n → (k ≡ n) ⊎ (k < n)
    last_or_before k n lt = grind arith

pub first_failing-at : (ok : ℕ → Bool) (k n : ℕ) → first_failing ok k ≡ None → ok k ≡ false → k < n → first_failing ok n ≡ Some k
first_failing-at ok k n none fails lt = first_failing-later ok k n (first_failing-fails ok k none fails) lt

-- an address that can't be read or isn't lawful ends the look
pub address_fails : (m : Image) (n k : ℕ) (e : RestoreFault) (r : Result Unit RestoreFault) → first_failing (is_lawful m) k ≡ None → k < n → IsAddress m k (Err e) → r ≡ Err e → AreLawful m n r
address_fails m n k e r none lt h is = subst (AreLawful m n) (sym is) (at e h)
  where
    at : (e : RestoreFault) → IsAddress m k (Err e) → AreLawful m n (Err e)
    at Disk h = tt
    at (Damaged file page) h = (k, first_failing-at (is_lawful m) k n none h.0 lt, h.1, h.2)

-- so does an image that can't be read or isn't there
pub image_fails : (m : Image) (n k : ℕ) (out : List ℕ) (e : RestoreFault) (r : Result Unit RestoreFault) → first_failing (has_image m) k ≡ None → k < n → IsPage (m (addr 4 k)) (addr 4 k) out (Err e) → r ≡ Err e → AreThere m n r
image_fails m n k out e r none lt h is = subst (AreThere m n) (sym is) (at e h)
  where
    at : (e : RestoreFault) → IsPage (m (addr 4 k)) (addr 4 k) out (Err e) → AreThere m n (Err e)
    at Disk h = tt
    at (Damaged file page) h = (k, first_failing-at (has_image m) k n none (ap is_some h.0) lt, h.1, h.2)

abbrev pub Answers : Image → Result ℕ RestoreFault → Type 0
Answers m r = (r ≡ Err Disk) ⊎ IsAnswerOf (damage m) (count m) r

answers_damage : (m : Image) (a : Addr) (r : Result ℕ RestoreFault) → damage m ≡ Some a → r ≡ Err (Damaged a.file a.page) → Answers m r
answers_damage m a r is e = inr (subst (λ d. IsAnswerOf d (count m) r) (sym is) e)

no_head : (m : Image) → is_head (m (addr 2 0)) ≡ false → damage m ≡ Some (addr 2 0)
unfolding damage
no_head m h = ap (λ t. damage_of t (first_failing (is_lawful m) (count m)) (first_failing (has_image m) (count m))) h

pub head_fails : (m : Image) (e : RestoreFault) (r : Result ℕ RestoreFault) → IsHeadOf m (Err e) → r ≡ Err e → Answers m r
head_fails m Disk r h is = inl is
head_fails m (Damaged file page) r h is = answers_damage m (addr 2 0) r (no_head m h.0) (is ∙ (λ i. Err (Damaged (h.1 i) (h.2 i))))

address_damage : (m : Image) (n k : ℕ) → IsHeadOf m (Ok n) → first_failing (is_lawful m) n ≡ Some k → damage m ≡ Some (addr 3 (k / 128))
unfolding damage
address_damage m n k head first =
    let there : first_failing (is_lawful m) (count m) ≡ Some k = ap (first_failing (is_lawful m)) head.1 ∙ first in
    λ i. damage_of (head.0 i) (there i) (first_failing (has_image m) (count m))

pub addresses_fail : (m : Image) (n : ℕ) (e : RestoreFault) (r : Result ℕ RestoreFault) → IsHeadOf m (Ok n) → AreLawful m n (Err e) → r ≡ Err e → Answers m r
addresses_fail m n Disk r head h is = inl is
addresses_fail m n (Damaged file page) r head h is = answers_damage m (addr 3 (h.0 / 128)) r (address_damage m n h.0 head h.1) (is ∙ (λ i. Err (Damaged (h.2 i) (h.3 i))))

image_damage : (m : Image) (n k : ℕ) → IsHeadOf m (Ok n) → first_failing (is_lawful m) n ≡ None → first_failing (has_image m) n ≡ Some k → damage m ≡ Some (addr 4 k)
unfolding damage
image_damage m n k head lawful first =
    let none : first_failing (is_lawful m) (count m) ≡ None = ap (first_failing (is_lawful m)) head.1 ∙ lawful in
    let there : first_failing (has_image m) (count m) ≡ Some k = ap (first_failing (has_image m)) head.1 ∙ first in
    λ i. damage_of (head.0 i) (none i) (there i)

pub images_fail : (m : Image) (n : ℕ) (e : RestoreFault) (r : Result ℕ RestoreFault) → IsHeadOf m (Ok n) → first_failing (is_lawful m) n ≡ None → AreThere m n (Err e) → r ≡ Err e → Answers m r
images_fail m n Disk r head lawful h is = inl is
images_fail m n (Damaged file page) r head lawful h is = answers_damage m (addr 4 h.0) r (image_damage m n h.0 head lawful h.1) (is ∙ (λ i. Err (Damaged (h.2 i) (h.3 i))))

whole_damage : (m : Image) (n : ℕ) → IsHeadOf m (Ok n) → first_failing (is_lawful m) n ≡ None → first_failing (has_image m) n ≡ None → damage m ≡ None
unfolding damage
whole_damage m n head lawful has =
    let one : first_failing (is_lawful m) (count m) ≡ None = ap (first_failing (is_lawful m)) head.1 ∙ lawful in
    let two : first_failing (has_image m) (count m) ≡ None = ap (first_failing (has_image m)) head.1 ∙ has in
    λ i. damage_of (head.0 i) (one i) (two i)

pub none_fails : (m : Image) (n : ℕ) (r : Result ℕ RestoreFault) → IsHeadOf m (Ok n) → first_failing (is_lawful m) n ≡ None → first_failing (has_image m) n ≡ None → r ≡ Ok n → Answers m r
none_fails m n r head lawful has is = inr (subst (λ d. IsAnswerOf d (count m) r) (sym (whole_damage m n head lawful has)) (is ∙ ap Ok (sym head.1)))

-- a lawful address is not damaged, nor is an image that is there
pub address_fault : (m : Image) (k : ℕ) (e : RestoreFault) → is_lawful m k ≡ true → IsAddress m k (Err e) → e ≡ Disk
address_fault m k Disk lawful h = refl
address_fault m k (Damaged file page) lawful h = absurd (cc (h.0, lawful))

pub page_fault : (m : Image) (a : Addr) (k : ℕ) (out : List ℕ) (e : RestoreFault) → has_image m k ≡ true → IsPage (m (addr 4 k)) a out (Err e) → e ≡ Disk
page_fault m a k out Disk has h = refl
page_fault m a k out (Damaged file page) has h = let gone : has_image m k ≡ false = ap is_some h.0 in absurd (cc (gone, has))
