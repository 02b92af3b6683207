-- Lists of entries: their length, an image of them, one of them renewed.
use Rattle.std.proofs.Common.{◌≡◌, ◌≢◌, ◌⊎◌, inl, inr, ℕ, zero, suc, ◌<◌, Bool, true, false, List, [], ◌∷◌, ◌++◌, length, Option, Some, None, is_some, if◌then◌else◌, refl, sym, ◌∙◌, ap, subst, arith, length-append}
use Rattle.disk_model.specs.declared.disk.Addr.{Addr}
use Rattle.batch_file.specs.Layout.{Entries, entries_of, or_empty}
use Rattle.batch_file.specs.OnDisk.{renewed, image_in}

pub entries_below : (f h : ℕ → Addr × List ℕ) (n : ℕ) → ((k : ℕ) → k < n → f k ≡ h k) → entries_of f n ≡ entries_of h n
entries_below f h zero same = refl
entries_below f h (suc n) same = λ i. entries_below f h n (λ k lt. same k (omega arith)) i ++ same n (omega arith) i ∷ []

pub length-entries : (f : ℕ → Addr × List ℕ) (n : ℕ) → length (entries_of f n) ≡ n
length-entries f zero = refl
length-entries f (suc n) = omega (arith, length-append (entries_of f n) (f n ∷ []), length-entries f n)

renewed_left : (xs ys : Entries) (i : ℕ) (page : List ℕ) → i < length xs → renewed (xs ++ ys) i page ≡ renewed xs i page ++ ys
renewed_left [] ys i page lt = absurd (omega arith)
renewed_left (x ∷ xs) ys zero page lt = refl
renewed_left (x ∷ xs) ys (suc i) page lt = ap (λ (l : Entries). x ∷ l) (renewed_left xs ys i page (omega arith))

renewed_last : (xs : Entries) (e : Addr × List ℕ) (i : ℕ) (page : List ℕ) → i ≡ length xs → renewed (xs ++ e ∷ []) i page ≡ xs ++ (e.0, page) ∷ []
renewed_last [] e zero page is = refl
renewed_last [] e (suc i) page is = absurd (omega arith)
renewed_last (x ∷ xs) e zero page is = absurd (omega arith)
renewed_last (x ∷ xs) e (suc i) page is = ap (λ (l : Entries). x ∷ l) (renewed_last xs e i page (omega arith))

last_or_before : (i n : ℕ) → i < suc n → (i ≡ n) ⊎ (i < n)
last_or_before i n lt = grind arith

pub entries_renewed : (f h : ℕ → Addr × List ℕ) (i : ℕ) (page : List ℕ) → ((k : ℕ) → k ≢ i → h k ≡ f k) → h i ≡ ((f i).0, page) → (n : ℕ) → i < n → entries_of h n ≡ renewed (entries_of f n) i page
entries_renewed f h i page others there zero lt = absurd (omega arith)
entries_renewed f h i page others there (suc n) lt = elim (last_or_before i n lt) [
  | inl last ↦
      let now : h n ≡ ((f n).0, page) = subst (λ j. h j ≡ ((f j).0, page)) last there in
      let below : entries_of h n ≡ entries_of f n = entries_below h f n (λ k less. others k (omega arith)) in
      (λ j. below j ++ now j ∷ []) ∙ sym (renewed_last (entries_of f n) (f n) i page (omega (arith, last, length-entries f n)))
  | inr before ↦
      (λ j. entries_renewed f h i page others there n before j ++ others n (omega arith) j ∷ [])
      ∙ sym (renewed_left (entries_of f n) (f n ∷ []) i page (omega (arith, before, length-entries f n)))
]

image_left : (xs ys : Entries) (i : ℕ) → i < length xs → image_in (xs ++ ys) i ≡ image_in xs i
image_left [] ys i lt = absurd (omega arith)
image_left (x ∷ xs) ys zero lt = refl
image_left (x ∷ xs) ys (suc i) lt = image_left xs ys i (omega arith)

image_last : (xs : Entries) (e : Addr × List ℕ) (i : ℕ) → i ≡ length xs → image_in (xs ++ e ∷ []) i ≡ Some e.1
image_last [] e zero is = refl
image_last [] e (suc i) is = absurd (omega arith)
image_last (x ∷ xs) e zero is = absurd (omega arith)
image_last (x ∷ xs) e (suc i) is = image_last xs e i (omega arith)

pub image_of_entries : (f : ℕ → Addr × List ℕ) (i n : ℕ) → i < n → image_in (entries_of f n) i ≡ Some (f i).1
image_of_entries f i zero lt = absurd (omega arith)
image_of_entries f i (suc n) lt = elim (last_or_before i n lt) [
  | inl last ↦ image_last (entries_of f n) (f n) i (omega (arith, last, length-entries f n)) ∙ ap (λ j. Some (f j).1) (sym last)
  | inr before ↦ image_left (entries_of f n) (f n ∷ []) i (omega (arith, before, length-entries f n)) ∙ image_of_entries f i n before
]

-- the page that a read found is the one that is there
pub page_found : (x : Option (List ℕ)) (found : Bool) (out : List ℕ) → x ≡ (if found then Some out else None) → is_some x ≡ true → or_empty x ≡ out
page_found x true out is there = ap or_empty is
page_found x false out is there = let gone : is_some x ≡ false = ap is_some is in absurd (cc (gone, there))
