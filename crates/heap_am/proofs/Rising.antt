-- Numbers of pages that rise, and the other pages.
use Rattle.std.proofs.Common.{◌≡◌, refl, sym, ap, subst, ◌∙◌, inl, inr, ℕ, zero, suc, ◌+◌, ◌<◌, ◌≤◌, Bool, List, [], ◌∷◌, ◌++◌, filter, length, take, get_or, arith, append_assoc}
use Rattle.std.proofs.lemmas.List.Elements.{filter-append}
use Rattle.std.proofs.lemmas.List.Sorted.{IsPermutation-refl, IsPermutation-trans, IsPermutation-append_left, IsPermutation-append_right, IsPermutation-append_comm}
use Rattle.std.specs.List.{AllByRecursion, flat_map}
use Rattle.std.specs.List.Sorted.{IsPermutation}
use Rattle.calculus.specs.declared.probe.Place.{Place}
use Rattle.page_chain.specs.Chains.{numbers_from}
use Rattle.page_chain.specs.Lying.{Lying}
use Rattle.page_chain.proofs.Reaching.{one_or_other}
use Rattle.heap_am.specs.Near.{IsRising}

-- ---- what holds of each number

pub all_map : {P Q : ℕ → Type 0} (ns : List ℕ) → ((k : ℕ) → P k → Q k) → AllByRecursion P ns → AllByRecursion Q ns
all_map [] f all = tt
all_map (n ∷ ns) f all = (f n all.0, all_map ns f all.1)

pub all_both : {P Q R : ℕ → Type 0} (ns : List ℕ) → ((k : ℕ) → P k → Q k → R k) → AllByRecursion P ns → AllByRecursion Q ns → AllByRecursion R ns
all_both [] f one two = tt
all_both (n ∷ ns) f one two = (f n one.0 two.0, all_both ns f one.1 two.1)

pub all_parts : (P : ℕ → Type 0) (ns ms : List ℕ) → AllByRecursion P (ns ++ ms) → AllByRecursion P ns × AllByRecursion P ms
all_parts P [] ms all = (tt, all)
all_parts P (n ∷ ns) ms all = let rest = all_parts P ns ms all.1 in ((all.0, rest.0), rest.1)

-- ---- numbers that rise

-- with a greater one behind them they rise
pub rising_more : (from bound n : ℕ) (ns : List ℕ) → IsRising from bound ns → AllByRecursion (λ k. k < n) ns → from ≤ n → n < bound → IsRising from bound (ns ++ n ∷ [])
rising_more from bound n [] is below le lt = (le, lt, tt)
rising_more from bound n (k ∷ ns) is below le lt = (is.0, is.1, rising_more (suc k) bound n ns is.2 below.1 (omega (arith, below.0)) lt)

-- those below one are below a greater one
pub below_greater : (least n : ℕ) (ns : List ℕ) → AllByRecursion (λ k. k < least) ns → least ≤ n → AllByRecursion (λ k. k < n) ns
below_greater least n ns below le = all_map ns (λ k lt. omega (arith, lt, le)) below

-- they and that one are below the next one
pub below_more : (least n next : ℕ) (ns : List ℕ) → AllByRecursion (λ k. k < least) ns → least ≤ n → next ≡ n + 1 → AllByRecursion (λ k. k < next) (ns ++ n ∷ [])
below_more least n next [] below le is = (omega (arith, is), tt)
below_more least n next (k ∷ ns) below le is = (omega (arith, below.0, le, is), below_more least n next ns below.1 le is)

-- each lies between
pub rising_at : (from bound i : ℕ) (ns : List ℕ) → IsRising from bound ns → i < length ns → (from + i ≤ get_or ns i 0) × (get_or ns i 0 < bound)
rising_at from bound i [] is lt = absurd (omega arith)
rising_at from bound zero (n ∷ ns) is lt = (omega (arith, is.0), is.1)
rising_at from bound (suc i) (n ∷ ns) is lt = let later = rising_at (suc n) bound i ns is.2 (omega arith) in (omega (arith, is.0, later.0), later.1)

-- none before it is the same
pub rising_new : (from bound i : ℕ) (ns : List ℕ) → IsRising from bound ns → i < length ns → AllByRecursion (λ k. k ≡ get_or ns i 0 → ⊥) (take i ns)
rising_new from bound i [] is lt = absurd (omega arith)
rising_new from bound zero (n ∷ ns) is lt = tt
rising_new from bound (suc i) (n ∷ ns) is lt =
    ((λ same. let later = rising_at (suc n) bound i ns is.2 (omega arith) in omega (arith, later.0, same)), rising_new (suc n) bound i ns is.2 (omega arith))

rising_above : (from bound : ℕ) (ns : List ℕ) → IsRising from bound ns → AllByRecursion (λ k. from ≤ k) ns
rising_above from bound [] is = tt
rising_above from bound (n ∷ ns) is = (is.0, all_map ns (λ k le. omega (arith, is.0, le)) (rising_above (suc n) bound ns is.2))

-- ---- some numbers and the others

-- Of the numbers from one on some are these, and the others are none of them.
pub record Apart (first : ℕ) (numbers done : List ℕ) : Type 0 where
  pub rest : List ℕ
  pub others : AllByRecursion (λ k. AllByRecursion (λ n. n ≡ k → ⊥) done) rest
  pub above : AllByRecursion (λ k. first ≤ k) rest
  pub split : (f : ℕ → Lying) → IsPermutation (flat_map f numbers) (flat_map f done ++ flat_map f rest)

front_changes : (a b c : Lying) → IsPermutation (a ++ (b ++ c)) (b ++ (a ++ c))
front_changes a b c =
    subst (λ rows. IsPermutation rows (b ++ (a ++ c))) (append_assoc a b c)
    (subst (λ rows. IsPermutation ((a ++ b) ++ c) rows) (append_assoc b a c)
    (IsPermutation-append_left c (a ++ b) (b ++ a) (IsPermutation-append_comm a b)))

-- the first number is another
skipped : (first : ℕ) (numbers done : List ℕ) → AllByRecursion (λ n. n ≡ first → ⊥) done → Apart (suc first) numbers done → Apart first (first ∷ numbers) done
skipped first numbers done other its = record {
  rest = first ∷ its.rest;
  others = (other, its.others);
  above = (omega arith, all_map its.rest (λ k le. omega (arith, le)) its.above);
  split = λ f.
      IsPermutation-trans (f first ++ flat_map f numbers) (f first ++ (flat_map f done ++ flat_map f its.rest)) (flat_map f done ++ (f first ++ flat_map f its.rest))
      (IsPermutation-append_right (f first) (flat_map f numbers) (flat_map f done ++ flat_map f its.rest) (its.split f))
      (front_changes (f first) (flat_map f done) (flat_map f its.rest));
}

-- the first number is one of them
met : (first : ℕ) (numbers done : List ℕ) → Apart (suc first) numbers done → Apart first (first ∷ numbers) (first ∷ done)
met first numbers done its = record {
  rest = its.rest;
  others = all_both its.rest (λ k le other. ((λ same. omega (arith, le, same)), other)) its.above its.others;
  above = all_map its.rest (λ k le. omega (arith, le)) its.above;
  split = λ f.
      subst (λ rows. IsPermutation (f first ++ flat_map f numbers) rows) (sym (append_assoc (f first) (flat_map f done) (flat_map f its.rest)))
      (IsPermutation-append_right (f first) (flat_map f numbers) (flat_map f done ++ flat_map f its.rest) (its.split f));
}

pub apart : (n first bound : ℕ) (done : List ℕ) → first + n ≡ bound → IsRising first bound done → Apart first (numbers_from n first) done
apart zero first bound [] e is = record { rest = []; others = tt; above = tt; split = λ f. IsPermutation-refl [] }
apart zero first bound (d ∷ done) e is = absurd (omega (arith, e, is.0, is.1))
apart (suc n) first bound [] e is = skipped first (numbers_from n (suc first)) [] tt (apart n (suc first) bound [] (omega (arith, e)) tt)
apart (suc n) first bound (d ∷ done) e is = elim (one_or_other d first) [
  | inl same ↦
      subst (λ k. Apart first (first ∷ numbers_from n (suc first)) (k ∷ done)) (sym same)
      (met first (numbers_from n (suc first)) done (apart n (suc first) bound done (omega (arith, e)) (subst (λ k. IsRising (suc k) bound done) same is.2)))
  | inr other ↦
      skipped first (numbers_from n (suc first)) (d ∷ done) (other, all_map done (λ k le same. omega (arith, le, same, is.0)) (rising_above (suc d) bound done is.2))
      (apart n (suc first) bound (d ∷ done) (omega (arith, e)) (let lt : suc first ≤ d = omega (arith, is.0, other) in lt, is.1, is.2))
]

-- ---- the rows on them that pass a test

-- they are those that pass it of each page
pub filter_pages : (p : Place × List ℕ → Bool) (f : ℕ → Lying) (ns : List ℕ) → filter p (flat_map f ns) ≡ flat_map (λ n. filter p (f n)) ns
filter_pages p f [] = refl
filter_pages p f (n ∷ ns) = filter-append p (f n) (flat_map f ns) ∙ ap (λ rows. filter p (f n) ++ rows) (filter_pages p f ns)

pub filtered_apart : (p : Place × List ℕ → Bool) (f : ℕ → Lying) (first : ℕ) (numbers done : List ℕ) (its : Apart first numbers done)
    → IsPermutation (filter p (flat_map f numbers)) (filter p (flat_map f done) ++ filter p (flat_map f its.rest))
filtered_apart p f first numbers done its =
    subst (λ rows. IsPermutation rows (filter p (flat_map f done) ++ filter p (flat_map f its.rest))) (sym (filter_pages p f numbers))
    (subst (λ rows. IsPermutation (flat_map (λ n. filter p (f n)) numbers) (rows ++ filter p (flat_map f its.rest))) (sym (filter_pages p f done))
    (subst (λ rows. IsPermutation (flat_map (λ n. filter p (f n)) numbers) (flat_map (λ n. filter p (f n)) done ++ rows)) (sym (filter_pages p f its.rest))
    (its.split (λ n. filter p (f n)))))
