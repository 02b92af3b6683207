-- The rows on the pages of a heap lie in the order of their places, and each line of a page has its row.
use Rattle.std.proofs.Common.{◌≡◌, refl, sym, ap, subst, ◌∙◌, ℕ, zero, suc, ◌+◌, ◌-◌, ◌<◌, Bool, true, false, List, [], ◌∷◌, ◌++◌, length, get_or, Option, Some, None, option_map, if◌then◌else◌, arith}
use Rattle.std.proofs.lemmas.Grind.{flat_map-append}
use Rattle.calculus.specs.declared.probe.Place.{Place}
use Rattle.calculus.specs.Rows.{Row}
use Rattle.am_traits.specs.Placed.{Placed, is_place}
use Rattle.page_cells.specs.Page.{Slot, slots}
use Rattle.page_chain.specs.Chains.{numbers_from}
use Rattle.page_chain.specs.Lists.{each, ◌>>=◌}
use Rattle.page_chain.specs.Lying.{Lying, place_of, lying_in, lying_on, lying}
use Rattle.page_chain.specs.Pages.{Pages}
use Rattle.page_chain.specs.Rows.{read_with}
use Rattle.heap_am.proofs.Counting.{numbers_append}
use Rattle.heap_am.proofs.Each.{First, each_first, each_parts}
use Rattle.heap_am.proofs.Places.{From, LieTo, lie_sooner, lie_later, lie_append, at_place, none_before, place_is, place_not_before, next_line}

pub lines_lie : (n l : ℕ) (slots : List Slot) → LieTo (place_of n l) (place_of n (l + length slots)) (lying_in n l slots)
lines_lie n l [] = grind arith
lines_lie n l (None ∷ s) =
    let e : suc l + length s ≡ l + suc (length s) = omega arith in
    lie_sooner (place_of n l) (place_of n (suc l)) (place_of n (l + suc (length s))) (lying_in n (suc l) s) (grind arith)
    (subst (λ k. LieTo (place_of n (suc l)) (place_of n k) (lying_in n (suc l) s)) e (lines_lie n (suc l) s))
lines_lie n l (Some row ∷ s) =
    let e : suc l + length s ≡ l + suc (length s) = omega arith in
    let f : suc l ≡ l + 1 = omega arith in
    (grind arith, subst (λ k. LieTo (place_of n k) (place_of n (l + suc (length s))) (lying_in n (suc l) s)) f (subst (λ k. LieTo (place_of n (suc l)) (place_of n k) (lying_in n (suc l) s)) e (lines_lie n (suc l) s)))

pub page_lies : (n : ℕ) (p : Option (List ℕ)) → LieTo (place_of n 0) (place_of (suc n) 0) (lying_on n p)
unfolding lying_on
page_lies n None = grind arith
page_lies n (Some p) = lie_later (place_of n 0) (place_of n (0 + length (slots p))) (place_of (suc n) 0) (lying_in n 0 (slots p)) (grind arith) (lines_lie n 0 (slots p))

pub pages_lie : (pages : Pages) (n k : ℕ) → LieTo (place_of k 0) (place_of (k + n) 0) (lying pages (numbers_from n k))
unfolding lying
pages_lie pages zero k = grind arith
pages_lie pages (suc n) k =
    let e : suc k + n ≡ k + suc n = omega arith in
    lie_append (place_of k 0) (place_of (suc k) 0) (place_of (k + suc n) 0) (lying_on k (pages k)) (lying pages (numbers_from n (suc k))) (page_lies k (pages k))
    (subst (λ j. LieTo (place_of (suc k) 0) (place_of j 0) (lying pages (numbers_from n (suc k)))) e (pages_lie pages n (suc k)))

-- what stands in a line, with its place
abbrev pub slot_with : Place → Slot → Option (Place × List ℕ)
slot_with at None = None
slot_with at (Some row) = Some (at, row)

pub line_has : (n l i : ℕ) (s : List Slot) → at_place (place_of n (l + i)) (lying_in n l s) ≡ slot_with (place_of n (l + i)) (get_or s i None)
line_has n l i [] = refl
line_has n l zero (None ∷ s) = none_before (place_of n (l + 0)) (place_of n (suc l)) (place_of n (suc l + length s)) (lying_in n (suc l) s) (grind arith) (lines_lie n (suc l) s)
line_has n l zero (Some row ∷ s) =
    let e : l ≡ l + 0 = omega arith in
    ap (λ b. if b then Some (place_of n l, row) else at_place (place_of n (l + 0)) (lying_in n (suc l) s)) (place_is (place_of n l) (place_of n (l + 0)) refl e)
    ∙ ap (λ k. Some (place_of n k, row)) e
line_has n l (suc i) (None ∷ s) =
    let e : suc l + i ≡ l + suc i = omega arith in
    subst (λ k. at_place (place_of n k) (lying_in n (suc l) s) ≡ slot_with (place_of n k) (get_or s i None)) e (line_has n (suc l) i s)
line_has n l (suc i) (Some row ∷ s) =
    let e : suc l + i ≡ l + suc i = omega arith in
    ap (λ b. if b then Some (place_of n l, row) else at_place (place_of n (l + suc i)) (lying_in n (suc l) s)) (place_not_before (place_of n l) (place_of n (l + suc i)) (grind arith))
    ∙ subst (λ k. at_place (place_of n k) (lying_in n (suc l) s) ≡ slot_with (place_of n k) (get_or s i None)) e (line_has n (suc l) i s)

pub page_has : (n l : ℕ) (p : List ℕ) → at_place (place_of n l) (lying_on n (Some p)) ≡ slot_with (place_of n l) (get_or (slots p) l None)
unfolding lying_on
page_has n l p = let e : 0 + l ≡ l = omega arith in subst (λ k. at_place (place_of n k) (lying_in n 0 (slots p)) ≡ slot_with (place_of n k) (get_or (slots p) l None)) e (line_has n 0 l (slots p))

module _ (read : List ℕ → Option Row) where
  -- what is read has the place
  pub record Kept (r : Place × List ℕ) (s : Place × Row) : Type 0 where
    pub place : s.0 ≡ r.0
    pub row : read r.1 ≡ Some s.1

  pub read_keeps : (r : Place × List ℕ) (s : Place × Row) → read_with read r ≡ Some s → Kept r s
  read_keeps r s e = by_row (read r.1) refl e
    where
      by_row : (o : Option Row) → read r.1 ≡ o → option_map (λ row. (r.0, row)) o ≡ Some s → Kept r s
      by_row None is e = cc
      by_row (Some row) is e = let same : (r.0, row) ≡ s = cc in record { place = ap (λ x. x.0) (sym same); row = is ∙ ap (λ x. Some x.1) same }

  pub each_lie : (a b : Place) (xs : Lying) (rows : Placed) → each (read_with read) xs ≡ Some rows → LieTo a b xs → LieTo a b rows
  each_lie a b [] rows e l = let same : [] ≡ rows = cc in subst (LieTo a b) same l
  each_lie a b (x ∷ xs) rows e l =
      let h = each_first (read_with read) x xs rows e in
      let k = read_keeps x h.y h.first in
      subst (LieTo a b) (sym h.are)
      (subst (λ p. From a p × LieTo (next_line p) b h.ys) (sym k.place) (l.0, each_lie (next_line x.0) b xs h.ys h.rest l.1))

  pub each_place : (at : Place) (xs : Lying) (rows : Placed) → each (read_with read) xs ≡ Some rows → at_place at rows ≡ (at_place at xs >>= read_with read)
  each_place at [] rows e = let same : [] ≡ rows = cc in ap (at_place at) (sym same)
  each_place at (x ∷ xs) rows e =
      let h = each_first (read_with read) x xs rows e in
      let k = read_keeps x h.y h.first in
      ap (at_place at) h.are
      ∙ ap (λ p. if is_place p at then Some h.y else at_place at h.ys) k.place
      ∙ by_test x h (is_place x.0 at) (each_place at xs h.ys h.rest)
    where
      by_test : (x : Place × List ℕ) (h : First (read_with read) x xs rows) (b : Bool) → at_place at h.ys ≡ (at_place at xs >>= read_with read)
          → (if b then Some h.y else at_place at h.ys) ≡ ((if b then Some x else at_place at xs) >>= read_with read)
      by_test x h true rest = sym h.first
      by_test x h false rest = rest

  -- the rows, cut before a page and behind it
  pub record Cut (pages : Pages) (used k : ℕ) (rows : Placed) : Type 0 where
    pub before : Placed
    pub on : Placed
    pub after : Placed
    pub are : rows ≡ before ++ (on ++ after)
    pub before_lie : LieTo (place_of 0 0) (place_of k 0) before
    pub on_read : each (read_with read) (lying_on k (pages k)) ≡ Some on
    pub after_lie : LieTo (place_of (suc k) 0) (place_of used 0) after

  lying_append : (pages : Pages) (xs ys : List ℕ) → lying pages (xs ++ ys) ≡ lying pages xs ++ lying pages ys
  unfolding lying
  lying_append pages xs ys = flat_map-append (λ n. lying_on n (pages n)) xs ys

  lying_first : (pages : Pages) (n : ℕ) (ns : List ℕ) → lying pages (n ∷ ns) ≡ lying_on n (pages n) ++ lying pages ns
  unfolding lying
  lying_first pages n ns = refl

  pub cut_at : (pages : Pages) (used k : ℕ) (rows : Placed) → k < used → each (read_with read) (lying pages (numbers_from used 0)) ≡ Some rows → Cut pages used k rows
  cut_at pages used k rows lt e =
      let m : ℕ = used - suc k in
      let n : numbers_from used 0 ≡ numbers_from k 0 ++ k ∷ numbers_from m (suc k) =
      ap (λ j. numbers_from j 0) (let a : used ≡ k + suc (used - suc k) = omega arith in a) ∙ sym (numbers_append k (suc m) 0) ∙ ap (λ j. numbers_from k 0 ++ numbers_from (suc m) j) (let a : 0 + k ≡ k = omega arith in a) in
      let all : each (read_with read) (lying pages (numbers_from k 0) ++ (lying_on k (pages k) ++ lying pages (numbers_from m (suc k)))) ≡ Some rows =
      ap (each (read_with read)) (ap (λ l. lying pages (numbers_from k 0) ++ l) (sym (lying_first pages k (numbers_from m (suc k)))) ∙ sym (lying_append pages (numbers_from k 0) (k ∷ numbers_from m (suc k))) ∙ ap (lying pages) (sym n)) ∙ e in
      let p = each_parts (read_with read) (lying pages (numbers_from k 0)) (lying_on k (pages k) ++ lying pages (numbers_from m (suc k))) rows all in
      let q = each_parts (read_with read) (lying_on k (pages k)) (lying pages (numbers_from m (suc k))) p.back p.back_read in
      record {
        before = p.front;
        on = q.front;
        after = q.back;
        are = p.are ∙ ap (λ l. p.front ++ l) q.are;
        before_lie = each_lie (place_of 0 0) (place_of k 0) (lying pages (numbers_from k 0)) p.front p.front_read (subst (λ j. LieTo (place_of 0 0) (place_of j 0) (lying pages (numbers_from k 0))) (let a : 0 + k ≡ k = omega arith in a) (pages_lie pages k 0));
        on_read = q.front_read;
        after_lie = each_lie (place_of (suc k) 0) (place_of used 0) (lying pages (numbers_from m (suc k))) q.back q.back_read (subst (λ j. LieTo (place_of (suc k) 0) (place_of j 0) (lying pages (numbers_from m (suc k)))) (let a : suc k + (used - suc k) ≡ used = omega arith in a) (pages_lie pages m (suc k)));
      }
