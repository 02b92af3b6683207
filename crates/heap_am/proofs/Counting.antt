-- A chain that is all pages of a file goes from each page to the one right behind it.
use Rattle.std.proofs.Common.{◌≡◌, ◌⊎◌, inl, inr, refl, sym, ap, subst, ◌∙◌, ℕ, zero, suc, ◌+◌, ◌-◌, ◌<◌, ◌≤◌, ◌==◌, ◌&&◌, nat_lt, Bool, true, false, List, [], ◌∷◌, ◌++◌, length, Option, Some, None, option_map, if◌then◌else◌, arith}
use Rattle.std.proofs.lemmas.Bool.Decides.{nat_tests}
use Rattle.page_cells.specs.Page.{next_page}
use Rattle.page_chain.specs.Pages.{Pages, next_of, may_follow, is_page}
use Rattle.page_chain.specs.Lists.{when, ◌>>=◌}
use Rattle.page_chain.specs.Chains.{chain_from, chain, whole_chain, IsChain, numbers_from}
use Rattle.page_chain.specs.Grown.{numbers_to}
use Rattle.heap_am.specs.Heap.{behind, is_number, goes_on}

-- the page that follows is none, or one behind the page and below the bound
pub follows : (bound page : ℕ) (p : Option (List ℕ)) (next : ℕ) → next_of bound page p ≡ Some next → (next ≡ 0) ⊎ ((page < next) × (next < bound))
unfolding next_of
follows bound page None next e = cc
follows bound page (Some p) next e = by_test (is_page p && may_follow bound page (next_page p)) refl e
  where
    both : (a b : Bool) → (a && b) ≡ true → b ≡ true
    both true b e = e
    both false b e = cc

    by_test : (t : Bool) → (is_page p && may_follow bound page (next_page p)) ≡ t → when t (next_page p) ≡ Some next → (next ≡ 0) ⊎ ((page < next) × (next < bound))
    by_test false is e = cc
    by_test true is e =
        let same : next_page p ≡ next = cc in
        let may : may_follow bound page (next_page p) ≡ true = both (is_page p) (may_follow bound page (next_page p)) is in
        let may : may_follow bound page next ≡ true = subst (λ n. may_follow bound page n ≡ true) same may in
        grind (arith, nat_tests)

-- each page from one on, below the bound, goes on to the one right behind it
abbrev pub EachGoes : ℕ → Pages → ℕ → ℕ → Type 0
EachGoes bound pages page n = (k : ℕ) → page ≤ k → k < page + n → goes_on bound k (pages k) ≡ true

behind_more : (bound page : ℕ) → suc page < bound → behind bound page ≡ suc page
behind_more bound page lt = let t : nat_lt (suc page) bound ≡ true = grind (arith, nat_tests) in ap (λ b. if b then suc page else 0) t

behind_last : (bound page : ℕ) → bound ≤ suc page → behind bound page ≡ 0
behind_last bound page le = let t : nat_lt (suc page) bound ≡ false = grind (arith, nat_tests) in ap (λ b. if b then suc page else 0) t

pub goes_to : (bound page : ℕ) (p : Option (List ℕ)) (next : ℕ) → next_of bound page p ≡ Some next → next ≡ behind bound page → goes_on bound page p ≡ true
goes_to bound page p next e is =
    ap (λ o. is_number (behind bound page) o) e ∙ (let t : (next == behind bound page) ≡ true = grind (arith, nat_tests) in t)

-- where it goes on as it must, that is where it goes
pub goes_where : (bound page : ℕ) (p : Option (List ℕ)) → goes_on bound page p ≡ true → next_of bound page p ≡ Some (behind bound page)
goes_where bound page p e = by_next (next_of bound page p) refl e
  where
    by_next : (o : Option ℕ) → next_of bound page p ≡ o → is_number (behind bound page) o ≡ true → next_of bound page p ≡ Some (behind bound page)
    by_next None is e = cc
    by_next (Some n) is e = let same : n ≡ behind bound page = grind (arith, nat_tests) in is ∙ ap Some same

record Walked (bound : ℕ) (pages : Pages) (page n : ℕ) (numbers : List ℕ) : Type 0 where
  short : length numbers ≤ n
  whole : length numbers ≡ n → (numbers ≡ numbers_from n page) × EachGoes bound pages page n

one_more : (bound : ℕ) (pages : Pages) (page n : ℕ) → goes_on bound page (pages page) ≡ true → EachGoes bound pages (suc page) n → EachGoes bound pages page (suc n)
one_more bound pages page n here rest k le lt = by_order (later page k le)
  where
    later : (a b : ℕ) → a ≤ b → (a ≡ b) ⊎ (suc a ≤ b)
    later a b le = grind arith

    by_order : (page ≡ k) ⊎ (suc page ≤ k) → goes_on bound k (pages k) ≡ true
    by_order (inl e) = subst (λ k. goes_on bound k (pages k) ≡ true) e here
    by_order (inr le) = rest k le (omega arith)

walk : (most bound : ℕ) (pages : Pages) (page n : ℕ) (numbers : List ℕ) → page + n ≡ bound → 0 < n → chain_from most bound pages page ≡ Some numbers → Walked bound pages page n numbers
walk zero bound pages page n numbers to some e = cc
walk (suc most) bound pages page n numbers to some e = by_next (next_of bound page (pages page)) refl (walk most bound pages) e
  where
    Rest : Type 0
    Rest = (page n : ℕ) (numbers : List ℕ) → page + n ≡ bound → 0 < n → chain_from most bound pages page ≡ Some numbers → Walked bound pages page n numbers

    last : next_of bound page (pages page) ≡ Some 0 → page ∷ [] ≡ numbers → Walked bound pages page n numbers
    last is same = record {
      short = omega (arith, ap length same);
      whole = λ long.
          let one : n ≡ 1 = omega (arith, ap length same, long) in (
            sym same ∙ ap (λ m. numbers_from m page) (sym one),
            λ k le lt. let here : page ≡ k = omega arith in subst (λ k. goes_on bound k (pages k) ≡ true) here (goes_to bound page (pages page) 0 is (sym (behind_last bound page (omega arith)))),
          );
    }

    further : (next : ℕ) (rest : List ℕ) → next_of bound page (pages page) ≡ Some (suc next) → Walked bound pages (suc next) (bound - suc next) rest → page < suc next → suc next < bound → page ∷ rest ≡ numbers → Walked bound pages page n numbers
    further next rest is walked up below same = record {
      short = omega (arith, ap length same, walked.short);
      whole = λ long.
          let l : 1 + length rest ≡ n = omega (arith, ap length same, long) in
          let e : suc next ≡ suc page = omega (arith, walked.short) in
          let m : bound - suc next ≡ length rest = omega (arith, walked.short) in
          let w = walked.whole (sym m) in
          let one : n ≡ suc (bound - suc next) = omega arith in (
            sym same ∙ ap (λ l. page ∷ l) (w.0 ∙ ap (λ k. numbers_from (bound - suc next) k) e) ∙ ap (λ m. numbers_from m page) (sym one),
            subst (λ m. EachGoes bound pages page m) (sym one)
                (one_more bound pages page (bound - suc next) (goes_to bound page (pages page) (suc next) is (e ∙ sym (behind_more bound page (omega arith)))) (subst (λ k. EachGoes bound pages k (bound - suc next)) e w.1)),
          );
    }

    by_follows : (next : ℕ) (ns : List ℕ) → next_of bound page (pages page) ≡ Some (suc next) → chain_from most bound pages (suc next) ≡ Some ns → Rest → page ∷ ns ≡ numbers → (suc next ≡ 0) ⊎ ((page < suc next) × (suc next < bound)) → Walked bound pages page n numbers
    by_follows next ns is p rest e (inl h) = absurd (omega arith)
    by_follows next ns is p rest e (inr h) = further next ns is (rest (suc next) (bound - suc next) ns (omega (arith, h.1)) (omega (arith, h.1)) p) h.0 h.1 e

    by_rest : (next : ℕ) (o : Option (List ℕ)) → next_of bound page (pages page) ≡ Some (suc next) → chain_from most bound pages (suc next) ≡ o → Rest → option_map (λ rest. page ∷ rest) o ≡ Some numbers → Walked bound pages page n numbers
    by_rest next None is p rest e = cc
    by_rest next (Some ns) is p rest e = by_follows next ns is p rest (cc) (follows bound page (pages page) (suc next) is)

    by_next : (o : Option ℕ) → next_of bound page (pages page) ≡ o → Rest → (elim o [ None ↦ None | Some zero ↦ Some (page ∷ []) | Some (suc next) ↦ option_map (λ rest. page ∷ rest) (chain_from most bound pages (suc next)) ]) ≡ Some numbers → Walked bound pages page n numbers
    by_next None is rest e = cc
    by_next (Some zero) is rest e = last is cc
    by_next (Some (suc next)) is rest e = by_rest next (chain_from most bound pages (suc next)) is refl rest e

-- the pages are all on one chain: each goes on to the one right behind it
pub record Counted (used : ℕ) (pages : Pages) (numbers : List ℕ) : Type 0 where
  pub are : numbers ≡ numbers_from used 0
  pub each : EachGoes used pages 0 used

pub counted : (used : ℕ) (pages : Pages) (numbers : List ℕ) → 0 < used → whole_chain used pages ≡ Some numbers → Counted used pages numbers
unfolding whole_chain chain
counted used pages numbers some e = by_chain (chain_from used used pages 0) refl e
  where
    by_length : (ns : List ℕ) (t : Bool) → chain_from used used pages 0 ≡ Some ns → (length ns == used) ≡ t → when t ns ≡ Some numbers → Counted used pages numbers
    by_length ns false is long e = cc
    by_length ns true is long e =
        let same : ns ≡ numbers = cc in
        let l : length ns ≡ used = grind (arith, nat_tests) in
        let w = (walk used used pages 0 used ns (omega arith) some is).whole l in
        record { are = sym same ∙ w.0; each = w.1 }

    by_chain : (o : Option (List ℕ)) → chain_from used used pages 0 ≡ o → (o >>= (λ ns. when (length ns == used) ns)) ≡ Some numbers → Counted used pages numbers
    by_chain None is e = cc
    by_chain (Some ns) is e = by_length ns (length ns == used) is refl e

length_numbers : (n page : ℕ) → length (numbers_from n page) ≡ n
length_numbers zero page = refl
length_numbers (suc n) page = ap suc (length_numbers n (suc page))

goes_from : (bound : ℕ) (pages : Pages) (n page most : ℕ) → page + suc n ≡ bound → n < most → EachGoes bound pages page (suc n) → chain_from most bound pages page ≡ Some (numbers_from (suc n) page)
goes_from bound pages n page zero to lt goes = absurd (omega arith)
goes_from bound pages zero page (suc most) to lt goes =
    let here = goes_where bound page (pages page) (goes page (omega arith) (omega arith)) ∙ ap Some (behind_last bound page (omega arith)) in
    ap (λ o. elim o [ None ↦ None | Some zero ↦ Some (page ∷ []) | Some (suc next) ↦ option_map (λ rest. page ∷ rest) (chain_from most bound pages (suc next)) ]) here
goes_from bound pages (suc n) page (suc most) to lt goes =
    let here = goes_where bound page (pages page) (goes page (omega arith) (omega arith)) ∙ ap Some (behind_more bound page (omega arith)) in
    ap (λ o. elim o [ None ↦ None | Some zero ↦ Some (page ∷ []) | Some (suc next) ↦ option_map (λ rest. page ∷ rest) (chain_from most bound pages (suc next)) ]) here
    ∙ ap (option_map (λ rest. page ∷ rest)) (goes_from bound pages n (suc page) most (omega arith) (omega arith) (λ k le lt. goes k (omega arith) (omega arith)))

-- where each page goes on to the one right behind it, they are all on one chain
pub whole_of : (used : ℕ) (pages : Pages) → 0 < used → EachGoes used pages 0 used → whole_chain used pages ≡ Some (numbers_from used 0)
unfolding whole_chain chain
whole_of zero pages some goes = absurd (omega arith)
whole_of (suc n) pages some goes =
    let long : (length (numbers_from (suc n) 0) == suc n) ≡ true = (let l = length_numbers (suc n) 0 in grind (arith, nat_tests)) in
    ap (λ o. o >>= (λ ns. when (length ns == suc n) ns)) (goes_from (suc n) pages n 0 (suc n) (omega arith) (omega arith) goes)
    ∙ ap (λ t. when t (numbers_from (suc n) 0)) long

-- the chain of the pages that go on so
pub chain_of_goes : (bound : ℕ) (pages : Pages) (n page : ℕ) → page + suc n ≡ bound → EachGoes bound pages page (suc n) → IsChain bound pages (numbers_from (suc n) page)
unfolding IsChain
chain_of_goes bound pages zero page to goes = goes_where bound page (pages page) (goes page (omega arith) (omega arith)) ∙ ap Some (behind_last bound page (omega arith))
chain_of_goes bound pages (suc n) page to goes = (
  omega arith,
  goes_where bound page (pages page) (goes page (omega arith) (omega arith)) ∙ ap Some (behind_more bound page (omega arith)),
  chain_of_goes bound pages n (suc page) (omega arith) (λ k le lt. goes k (omega arith) (omega arith)),
)

-- a chain of all pages goes on so
pub goes_of_chain : (bound : ℕ) (pages : Pages) (n page : ℕ) → page + suc n ≡ bound → IsChain bound pages (numbers_from (suc n) page) → EachGoes bound pages page (suc n)
unfolding IsChain
goes_of_chain bound pages zero page to h = λ k le lt.
    let here : page ≡ k = omega arith in
    subst (λ k. goes_on bound k (pages k) ≡ true) here (goes_to bound page (pages page) 0 h (sym (behind_last bound page (omega arith))))
goes_of_chain bound pages (suc n) page to h =
    one_more bound pages page (suc n) (goes_to bound page (pages page) (suc page) h.1 (sym (behind_more bound page (omega arith)))) (goes_of_chain bound pages n (suc page) (omega arith) h.2)

-- some numbers, and those behind them
pub numbers_append : (a b page : ℕ) → numbers_from a page ++ numbers_from b (page + a) ≡ numbers_from (a + b) page
numbers_append zero b page = let e : page + 0 ≡ page = omega arith in let f : 0 + b ≡ b = omega arith in ap (λ p. numbers_from b p) e ∙ ap (λ m. numbers_from m page) (sym f)
numbers_append (suc a) b page =
    let e : page + suc a ≡ suc page + a = omega arith in
    let f : suc a + b ≡ suc (a + b) = omega arith in
    ap (λ l. page ∷ l) (ap (λ p. numbers_from a (suc page) ++ numbers_from b p) e ∙ numbers_append a b (suc page)) ∙ ap (λ m. numbers_from m page) (sym f)

pub last_number : (last : ℕ) → numbers_from last 0 ++ last ∷ [] ≡ numbers_from (suc last) 0
last_number last =
    let e : 0 + last ≡ last = omega arith in
    let f : last + 1 ≡ suc last = omega arith in
    ap (λ p. numbers_from last 0 ++ numbers_from 1 p) (sym e) ∙ numbers_append last 1 0 ∙ ap (λ m. numbers_from m 0) f

pub grown_numbers : (last now : ℕ) → last ≤ now → numbers_from last 0 ++ numbers_to last now ≡ numbers_from (suc now) 0
grown_numbers last now le =
    let e : 0 + last ≡ last = omega arith in
    let f : last + (suc now - last) ≡ suc now = omega arith in
    ap (λ p. numbers_from last 0 ++ numbers_from (suc now - last) p) (sym e) ∙ numbers_append last (suc now - last) 0 ∙ ap (λ m. numbers_from m 0) f
