-- A chain that is gone along.
use Rattle.std.proofs.Common.{◌≡◌, refl, sym, ap, subst, ◌∙◌, ℕ, zero, suc, ◌<◌, ◌≤◌, ◌==◌, not, Bool, true, false, List, [], ◌∷◌, ◌++◌, Option, Some, None, arith}
use Rattle.std.proofs.lemmas.Bool.{eqb-true, eq-eqb, true≢false}
use Rattle.std.proofs.lemmas.Option.{same_Some}
use Rattle.std.specs.List.{AllByRecursion}
use Rattle.page_chain.specs.Chains.{IsChain, is_on}
use Rattle.page_chain.specs.Pages.{Pages, next_of}
use Rattle.page_chain.proofs.Linking.{follows_up, follows_wider}

module _ (bound : ℕ) (pages : Pages) where
  -- the rest of a chain is one
  pub chain_rest : (done : List ℕ) (n : ℕ) (rest : List ℕ) → IsChain bound pages (done ++ n ∷ rest) → IsChain bound pages (n ∷ rest)
  unfolding IsChain
  chain_rest [] n rest is = is
  chain_rest (d ∷ []) n rest is = is.2
  chain_rest (d ∷ e ∷ more) n rest is = chain_rest (e ∷ more) n rest is.2

  -- from a page that says so it goes on to that page, and else it ends
  pub chain_ends : (n next : ℕ) (rest : List ℕ) → IsChain bound pages (n ∷ rest) → next_of bound n (pages n) ≡ Some next → next ≡ 0 → rest ≡ []
  unfolding IsChain
  chain_ends n next [] is e none = refl
  chain_ends n next (k ∷ rest) is e none = absurd (omega (arith, is.0, none, same_Some k next (sym is.1 ∙ e)))

  pub chain_goes : (n next : ℕ) (rest : List ℕ) → IsChain bound pages (n ∷ rest) → next_of bound n (pages n) ≡ Some next → 0 < next → (more : List ℕ) × (rest ≡ next ∷ more)
  unfolding IsChain
  chain_goes n next [] is e some = absurd (omega (arith, some, same_Some 0 next (sym is ∙ e)))
  chain_goes n next (k ∷ rest) is e some = (rest, ap (λ j. j ∷ rest) (same_Some k next (sym is.1 ∙ e)))

  -- the numbers of a chain rise
  pub chain_rises : (n : ℕ) (rest : List ℕ) → IsChain bound pages (n ∷ rest) → AllByRecursion (λ k. n < k) rest
  unfolding IsChain
  chain_rises n [] is = tt
  chain_rises n (k ∷ rest) is = let up = follows_up bound n k (pages n) is.0 is.1 in (up.0, higher rest (chain_rises k rest is.2))
    where
      higher : (ms : List ℕ) → AllByRecursion (λ m. k < m) ms → AllByRecursion (λ m. n < m) ms
      higher [] all = tt
      higher (m ∷ ms) all = (let up = follows_up bound n k (pages n) is.0 is.1 in omega (arith, up.0, all.0), higher ms all.1)

  middle : (P : ℕ → Type 0) (done : List ℕ) (n : ℕ) (rest : List ℕ) → AllByRecursion P (done ++ n ∷ rest) → P n
  middle P [] n rest all = all.0
  middle P (d ∷ done) n rest all = middle P done n rest all.1

  pub chain_before : (done : List ℕ) (n : ℕ) (rest : List ℕ) → IsChain bound pages (done ++ n ∷ rest) → AllByRecursion (λ k. k < n) done
  unfolding IsChain
  chain_before [] n rest is = tt
  chain_before (d ∷ done) n rest is = (middle (λ k. d < k) done n rest (chain_rises d (done ++ n ∷ rest) is), chain_before done n rest (later done is))
    where
      later : (done : List ℕ) → IsChain bound pages (d ∷ done ++ n ∷ rest) → IsChain bound pages (done ++ n ∷ rest)
      later [] is = is.2
      later (e ∷ more) is = is.2

  -- a chain by a greater bound
  pub chain_wider : (more : ℕ) (numbers : List ℕ) → bound ≤ more → IsChain bound pages numbers → IsChain more pages numbers
  unfolding IsChain
  chain_wider more [] le is = is
  chain_wider more (n ∷ []) le is = follows_wider bound more n 0 (pages n) le is
  chain_wider more (n ∷ k ∷ rest) le is = (is.0, follows_wider bound more n k (pages n) le is.1, chain_wider more (k ∷ rest) le is.2)

  -- pages that go on alike have the same chains
  pub chain_kept : (later : Pages) (numbers : List ℕ) → ((k : ℕ) → next_of bound k (later k) ≡ next_of bound k (pages k)) → IsChain bound pages numbers → IsChain bound later numbers
  unfolding IsChain
  chain_kept later [] links is = is
  chain_kept later (n ∷ []) links is = links n ∙ is
  chain_kept later (n ∷ k ∷ rest) links is = (is.0, links n ∙ is.1, chain_kept later (k ∷ rest) links is.2)

-- ---- the last number

last_number : List ℕ → ℕ
last_number [] = 0
last_number (n ∷ []) = n
last_number (n ∷ k ∷ rest) = last_number (k ∷ rest)

last_behind : (done : List ℕ) (n : ℕ) (rest : List ℕ) → last_number (done ++ n ∷ rest) ≡ last_number (n ∷ rest)
unfolding last_number
last_behind [] n rest = refl
last_behind (d ∷ []) n rest = refl
last_behind (d ∷ e ∷ done) n rest = last_behind (e ∷ done) n rest

last_of_all : (P : ℕ → Type 0) (n : ℕ) (rest : List ℕ) → AllByRecursion P (n ∷ rest) → P (last_number (n ∷ rest))
unfolding last_number
last_of_all P n [] all = all.0
last_of_all P n (k ∷ rest) all = last_of_all P k rest all.1

-- what holds of each number from one on holds of the last one
pub holds_last : (P : ℕ → Type 0) (done : List ℕ) (n : ℕ) (rest earlier : List ℕ) (last : ℕ) → done ++ n ∷ rest ≡ earlier ++ last ∷ [] → AllByRecursion P (n ∷ rest) → P last
unfolding last_number
holds_last P done n rest earlier last same all =
    subst P (sym (last_behind done n rest) ∙ ap last_number same ∙ last_behind earlier last []) (last_of_all P n rest all)

-- ---- damage

-- what `is_on` says, by what follows the page
unfoldable pub on_by : ℕ → ℕ → Option ℕ → Bool
on_by last page None = false
on_by last page (Some zero) = page == last
on_by last page (Some (suc next)) = not (page == last)

pub is_on_by : (bound last page : ℕ) (p : Option (List ℕ)) (o : Option ℕ) → next_of bound page p ≡ o → is_on bound last page p ≡ on_by last page o
unfolding on_by
is_on_by bound last page p None e = ap (λ o. elim o as (λ (o : Option ℕ). Bool) [ None ↦ false | Some zero ↦ page == last | Some (suc next) ↦ not (page == last) ]) e
is_on_by bound last page p (Some zero) e = ap (λ o. elim o as (λ (o : Option ℕ). Bool) [ None ↦ false | Some zero ↦ page == last | Some (suc next) ↦ not (page == last) ]) e
is_on_by bound last page p (Some (suc next)) e = ap (λ o. elim o as (λ (o : Option ℕ). Bool) [ None ↦ false | Some zero ↦ page == last | Some (suc next) ↦ not (page == last) ]) e

-- pages that go on alike are both on a chain, or both not
pub on_alike : (bound last page : ℕ) (p q : Option (List ℕ)) → next_of bound page p ≡ next_of bound page q → is_on bound last page p ≡ is_on bound last page q
on_alike bound last page p q e = is_on_by bound last page p (next_of bound page q) e ∙ sym (is_on_by bound last page q (next_of bound page q) refl)

-- a page where nothing follows isn't one of a chain
pub off_none : (bound last page : ℕ) (p : Option (List ℕ)) → next_of bound page p ≡ None → is_on bound last page p ≡ false
unfolding on_by
off_none bound last page p e = is_on_by bound last page p None e

-- nor is one where the chain ends elsewhere than it must, or goes on where it must end
pub off_end : (bound last page next : ℕ) (p : Option (List ℕ)) → next_of bound page p ≡ Some next → (next == 0) ≡ not (page == last) → is_on bound last page p ≡ false
unfolding on_by
off_end bound last page zero p e off = is_on_by bound last page p (Some zero) e ∙ go (page == last) off
  where
    go : (t : Bool) → true ≡ not t → t ≡ false
    go true e = absurd (cc e)
    go false e = refl
off_end bound last page (suc next) p e off = is_on_by bound last page p (Some (suc next)) e ∙ sym off ∙ (let none : (suc next == 0) ≡ false = grind arith in none)

-- on a chain that ends at page `last` no page is off it
pub none_off : (bound last : ℕ) (pages : Pages) (done : List ℕ) (n : ℕ) (rest earlier : List ℕ) → done ++ n ∷ rest ≡ earlier ++ last ∷ []
    → IsChain bound pages (n ∷ rest) → is_on bound last n (pages n) ≡ false → ⊥
unfolding IsChain on_by
none_off bound last pages done n [] earlier same is off =
    true≢false (sym (eq-eqb n last (sym (holds_last (λ k. k ≡ n) done n [] earlier last same (refl, tt)))) ∙ sym (is_on_by bound last n (pages n) (Some 0) is) ∙ off)
none_off bound last pages done n (zero ∷ rest) earlier same is off = absurd (omega (arith, is.0))
none_off bound last pages done n (suc k ∷ rest) earlier same is off = go (n == last) refl (sym (is_on_by bound last n (pages n) (Some (suc k)) is.1) ∙ off)
  where
    joined : (done : List ℕ) → (done ++ n ∷ []) ++ suc k ∷ rest ≡ done ++ n ∷ suc k ∷ rest
    joined [] = refl
    joined (d ∷ done) = ap (λ l. d ∷ l) (joined done)

    go : (t : Bool) → (n == last) ≡ t → not (n == last) ≡ false → ⊥
    go false e off = true≢false (sym (ap not e) ∙ off)
    go true e off =
        let above : n < last = holds_last (λ m. n < m) (done ++ n ∷ []) (suc k) rest earlier last (joined done ∙ same) (chain_rises bound pages n (suc k ∷ rest) is) in
        omega (arith, above, eqb-true n last e)
