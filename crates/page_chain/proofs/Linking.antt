-- Chains that go on at their ends, and the numbers of their pages.
use Rattle.std.proofs.Common.{◌≡◌, ◌⊎◌, inl, inr, refl, sym, ap, subst, ◌∙◌, ℕ, zero, suc, ◌+◌, ◌-◌, ◌<◌, ◌≤◌, ◌==◌, ◌&&◌, ◌||◌, nat_lt, Bool, true, false, List, [], ◌∷◌, ◌++◌, Option, Some, None, arith, append_assoc, if◌then◌else◌}
use Rattle.std.specs.List.{AllByRecursion}
use Rattle.std.proofs.lemmas.Option.{same_Some, none-some}
use Rattle.std.proofs.lemmas.Bool.{and_parts, and_from, ltb-true}
use Rattle.page_cells.specs.Page.{IsPage, next_page}
use Rattle.page_chain.specs.Lists.{when}
use Rattle.page_chain.specs.Pages.{Pages, is_page, may_follow, next_of}
use Rattle.page_chain.specs.Chains.{IsChain, numbers_from}
use Rattle.page_chain.specs.Grown.{numbers_to}
use Rattle.page_chain.proofs.PageTest.{page_passes, passes_is_page}

-- ---- what follows a page

-- a value that is there was tested, and is what was there
pub whens : {A : Type 0} (test : Bool) (a b : A) → when test a ≡ Some b → (test ≡ true) × (a ≡ b)
whens true a b e = (refl, same_Some a b e)
whens false a b e = absurd (none-some b e)

-- a chain that goes on goes on behind its page and below the bound
goes_up : (bound page next : ℕ) → may_follow bound page (suc next) ≡ true → (page < suc next) × (suc next < bound)
goes_up bound page next e = (ltb-true page (suc next) both.0, ltb-true (suc next) bound both.1)
  where
    unequal : (suc next == 0) ≡ false
    unequal = grind arith

    both : (nat_lt page (suc next) ≡ true) × (nat_lt (suc next) bound ≡ true)
    both = and_parts (nat_lt page (suc next)) (nat_lt (suc next) bound) (sym (ap (λ b. b || (nat_lt page (suc next) && nat_lt (suc next) bound)) unequal) ∙ e)

-- what follows a page is its next page, where that may follow; and the other way round
pub follows_as : (bound page next : ℕ) (p : List ℕ) → next_of bound page (Some p) ≡ Some next → IsPage p × (next_page p ≡ next) × (may_follow bound page next ≡ true)
unfolding next_of
follows_as bound page next p e =
    let tested = whens (is_page p && may_follow bound page (next_page p)) (next_page p) next e in
    let both = and_parts (is_page p) (may_follow bound page (next_page p)) tested.0 in
    (passes_is_page p both.0, tested.1, subst (λ n. may_follow bound page n ≡ true) tested.1 both.1)

pub to_follow : (bound page next : ℕ) (p : List ℕ) → IsPage p → next_page p ≡ next → may_follow bound page next ≡ true → next_of bound page (Some p) ≡ Some next
unfolding next_of
to_follow bound page next p is e may =
    ap (λ b. when b (next_page p)) (and_from (is_page p) (may_follow bound page (next_page p)) (page_passes p is) (subst (λ n. may_follow bound page n ≡ true) (sym e) may)) ∙ ap Some e

-- nothing follows where these are the bytes of no page, or where it may not
pub follows_none : (bound page : ℕ) (p : List ℕ) → (IsPage p → ⊥) ⊎ (may_follow bound page (next_page p) ≡ false) → next_of bound page (Some p) ≡ None
unfolding next_of
follows_none bound page p off = go (is_page p && may_follow bound page (next_page p)) refl off
  where
    go : (b : Bool) → (is_page p && may_follow bound page (next_page p)) ≡ b → (IsPage p → ⊥) ⊎ (may_follow bound page (next_page p) ≡ false) → when (is_page p && may_follow bound page (next_page p)) (next_page p) ≡ None
    go false e off = ap (λ b. when b (next_page p)) e
    go true e (inl isnt) = absurd (isnt (passes_is_page p (and_parts (is_page p) (may_follow bound page (next_page p)) e).0))
    go true e (inr mustnt) = absurd (let yes = (and_parts (is_page p) (may_follow bound page (next_page p)) e).1 in cc)

-- nothing follows where there is no page
pub none_follows : (bound page : ℕ) → next_of bound page None ≡ None
unfolding next_of
none_follows bound page = refl

-- where a page may be there, and one follows, it is there
pub there_follows : (bound page next : ℕ) (there : Bool) (p : List ℕ) → next_of bound page (if there then Some p else None) ≡ Some next
    → (there ≡ true) × IsPage p × (next_page p ≡ next) × (may_follow bound page next ≡ true)
there_follows bound page next false p e = absurd (none-some next (sym (none_follows bound page) ∙ e))
there_follows bound page next true p e = let its = follows_as bound page next p e in (refl, its.0, its.1, its.2)

-- a page that follows lies behind
pub follows_up : (bound page next : ℕ) (p : Option (List ℕ)) → 0 < next → next_of bound page p ≡ Some next → (page < next) × (next < bound)
follows_up bound page next None some e = absurd (none-some next (sym (none_follows bound page) ∙ e))
follows_up bound page zero (Some p) some e = absurd (omega arith)
follows_up bound page (suc next) (Some p) some e = goes_up bound page next (follows_as bound page (suc next) p e).2

-- one that may follow lies below the bound
pub may_below : (bound page next : ℕ) → 0 < next → may_follow bound page next ≡ true → (page < next) × (next < bound)
may_below bound page zero some e = absurd (omega arith)
may_below bound page (suc next) some e = goes_up bound page next e

-- where a chain may go on, it may below a greater bound
may_wider : (bound more page next : ℕ) → bound ≤ more → may_follow bound page next ≡ true → may_follow more page next ≡ true
may_wider bound more page next le e = grind arith

pub follows_wider : (bound more page next : ℕ) (p : Option (List ℕ)) → bound ≤ more → next_of bound page p ≡ Some next → next_of more page p ≡ Some next
follows_wider bound more page next None le e = absurd (none-some next (sym (none_follows bound page) ∙ e))
follows_wider bound more page next (Some p) le e = let its = follows_as bound page next p e in to_follow more page next p its.0 its.1 (may_wider bound more page next le its.2)

-- the next page may follow, and the end
pub may_go_on : (more page : ℕ) → suc page < more → may_follow more page (suc page) ≡ true
may_go_on more page lt = grind arith

-- ---- chains

-- the end of a chain is another, by a greater bound
pub chain_glued : (bound more last : ℕ) (pages later : Pages) (ns rest : List ℕ) → bound ≤ more → AllByRecursion (λ n. later n ≡ pages n) ns
    → IsChain bound pages (ns ++ last ∷ []) → IsChain more later (last ∷ rest) → IsChain more later (ns ++ last ∷ rest)
unfolding IsChain
chain_glued bound more last pages later [] rest le same is end = end
chain_glued bound more last pages later (n ∷ []) rest le same is end =
    (is.0, ap (next_of more n) same.0 ∙ follows_wider bound more n last (pages n) le is.1, end)
chain_glued bound more last pages later (n ∷ k ∷ ns) rest le same is end =
    (is.0, ap (next_of more n) same.0 ∙ follows_wider bound more n k (pages n) le is.1, chain_glued bound more last pages later (k ∷ ns) rest le same.1 is.2 end)

-- the pages before the end of a chain have lower numbers
pub chain_below : (bound last : ℕ) (pages : Pages) (ns : List ℕ) → IsChain bound pages (ns ++ last ∷ []) → AllByRecursion (λ n. n < last) ns
unfolding IsChain
chain_below bound last pages [] is = tt
chain_below bound last pages (n ∷ []) is = ((follows_up bound n last (pages n) is.0 is.1).0, tt)
chain_below bound last pages (n ∷ k ∷ ns) is =
    let later = chain_below bound last pages (k ∷ ns) is.2 in
    let up = follows_up bound n k (pages n) is.0 is.1 in
    (omega (arith, up.0, later.0), later)

-- a chain of one page, and of one page and another behind it
pub chain_ends : (more last : ℕ) (pages : Pages) (p : List ℕ) → pages last ≡ Some p → IsPage p → next_page p ≡ 0 → IsChain more pages (last ∷ [])
unfolding IsChain
chain_ends more last pages p there is e = ap (next_of more last) there ∙ to_follow more last 0 p is e refl

pub chain_goes_on : (more last : ℕ) (pages : Pages) (p : List ℕ) → suc last < more → pages last ≡ Some p → IsPage p → next_page p ≡ suc last → IsChain more pages (suc last ∷ []) → IsChain more pages (last ∷ suc last ∷ [])
unfolding IsChain
chain_goes_on more last pages p lt there is e end = (omega arith, ap (next_of more last) there ∙ to_follow more last (suc last) p is e (may_go_on more last lt), end)

-- what holds below a number holds of lower numbers
pub all_of_below : (P : ℕ → Type 0) (last : ℕ) (ns : List ℕ) → ((n : ℕ) → n < last → P n) → AllByRecursion (λ n. n < last) ns → AllByRecursion P ns
all_of_below P last [] each below = tt
all_of_below P last (n ∷ ns) each below = (each n below.0, all_of_below P last ns each below.1)

-- ---- numbers

-- so many numbers, and one more behind them
numbers_more : (k first : ℕ) → numbers_from (suc k) first ≡ numbers_from k first ++ (first + k) ∷ []
numbers_more zero first = let e : first ≡ first + 0 = omega arith in ap (λ n. n ∷ []) e
numbers_more (suc k) first = ap (λ l. first ∷ l) (numbers_more k (suc first)) ∙ (let e : suc first + k ≡ first + suc k = omega arith in ap (λ n. first ∷ numbers_from k (suc first) ++ n ∷ []) e)

-- they are below it
numbers_below : (k first : ℕ) → AllByRecursion (λ n. n < first + k) (numbers_from k first)
numbers_below zero first = tt
numbers_below (suc k) first = (omega arith, subst (λ m. AllByRecursion (λ n. n < m) (numbers_from k (suc first))) (let e : suc first + k ≡ first + suc k = omega arith in e) (numbers_below k (suc first)))

-- the numbers before another
unfoldable pub numbers_until : ℕ → ℕ → List ℕ
numbers_until first at = numbers_from (at - first) first

pub until_below : (first at : ℕ) → first ≤ at → AllByRecursion (λ n. n < at) (numbers_until first at)
unfolding numbers_until
until_below first at le = subst (λ m. AllByRecursion (λ n. n < m) (numbers_from (at - first) first)) (let e : first + (at - first) ≡ at = omega arith in e) (numbers_below (at - first) first)

-- the numbers to the first
pub to_first : (first : ℕ) → numbers_to first first ≡ first ∷ []
to_first first = let e : suc first - first ≡ 1 = omega arith in ap (λ k. numbers_from k first) e

-- the numbers to another, of which that is the last
pub to_last : (first at : ℕ) → first ≤ at → numbers_to first at ≡ numbers_until first at ++ at ∷ []
unfolding numbers_until
to_last first at le =
    (let e : suc at - first ≡ suc (at - first) = omega arith in ap (λ k. numbers_from k first) e) ∙ numbers_more (at - first) first
    ∙ (let e : first + (at - first) ≡ at = omega arith in ap (λ n. numbers_from (at - first) first ++ n ∷ []) e)

-- the numbers to the next one
pub to_next : (first at : ℕ) → first ≤ at → numbers_to first (suc at) ≡ numbers_until first at ++ at ∷ suc at ∷ []
unfolding numbers_until
to_next first at le =
    to_last first (suc at) (omega arith)
    ∙ (let e : suc at - first ≡ suc (at - first) = omega arith in ap (λ k. numbers_from k first ++ suc at ∷ []) e)
    ∙ ap (λ l. l ++ suc at ∷ []) (numbers_more (at - first) first)
    ∙ append_assoc (numbers_from (at - first) first) ((first + (at - first)) ∷ []) (suc at ∷ [])
    ∙ (let e : first + (at - first) ≡ at = omega arith in ap (λ n. numbers_from (at - first) first ++ n ∷ suc at ∷ []) e)

-- the numbers to another, of which the first is the first
pub to_from : (first now : ℕ) → first ≤ now → numbers_to first now ≡ first ∷ numbers_from (now - first) (suc first)
to_from first now le = let e : suc now - first ≡ suc (now - first) = omega arith in ap (λ k. numbers_from k first) e

-- from page 0
pub to_from_zero : (now : ℕ) → numbers_to 0 now ≡ numbers_from (suc now) 0
to_from_zero now = let e : suc now - 0 ≡ suc now = omega arith in ap (λ k. numbers_from k 0) e
