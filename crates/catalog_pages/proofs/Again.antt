-- A chain is what is computed, and what is computed is a chain.
use Rattle.std.proofs.Common.{◌≡◌, refl, sym, ap, subst, ◌∙◌, ℕ, zero, suc, ◌+◌, ◌<◌, ◌≤◌, true, List, [], ◌∷◌, Option, Some, None, option_map, arith}
use Rattle.std.proofs.lemmas.Bool.{eqb-true, eq-eqb}
use Rattle.std.proofs.lemmas.Option.{same_Some, none-some}
use Rattle.page_chain.specs.Chains.{IsChain, chain, chain_from, starts}
use Rattle.page_chain.specs.Pages.{Pages, next_of}
use Rattle.page_chain.proofs.Linking.{follows_up}

-- a chain with one more page in front
in_front : (bound page next : ℕ) (pages : Pages) (rest : List ℕ) → 0 < next → next_of bound page (pages page) ≡ Some next → (more : List ℕ) × (rest ≡ next ∷ more) → IsChain bound pages rest
    → IsChain bound pages (page ∷ rest)
unfolding IsChain
in_front bound page next pages rest some goes begins is =
    subst (λ l. IsChain bound pages (page ∷ l)) (sym begins.1) (some, goes, subst (IsChain bound pages) begins.1 is)

-- what is found from a page on is a chain that begins there
found_from : (most bound page : ℕ) (pages : Pages) (ns : List ℕ) → chain_from most bound pages page ≡ Some ns → ((more : List ℕ) × (ns ≡ page ∷ more)) × IsChain bound pages ns
unfolding IsChain
found_from zero bound page pages ns e = absurd (none-some ns e)
found_from (suc most) bound page pages ns e = go (next_of bound page (pages page)) refl e (λ next rest e. found_from most bound next pages rest e)
  where
    on : (next : ℕ) → next_of bound page (pages page) ≡ Some (suc next) → (inner : Option (List ℕ)) → chain_from most bound pages (suc next) ≡ inner
        → option_map (λ rest. page ∷ rest) inner ≡ Some ns → ((next : ℕ) (rest : List ℕ) → chain_from most bound pages next ≡ Some rest → ((more : List ℕ) × (rest ≡ next ∷ more)) × IsChain bound pages rest)
        → ((more : List ℕ) × (ns ≡ page ∷ more)) × IsChain bound pages ns
    on next goes None it e later = absurd (none-some ns e)
    on next goes (Some rest) it e later =
        let its = later (suc next) rest it in
        subst (λ l. ((more : List ℕ) × (l ≡ page ∷ more)) × IsChain bound pages l) (same_Some (page ∷ rest) ns e) ((rest, refl), in_front bound page (suc next) pages rest (omega arith) goes its.0 its.1)

    go : (o : Option ℕ) → next_of bound page (pages page) ≡ o
        → (elim o as (λ (o : Option ℕ). Option (List ℕ)) [ None ↦ None | Some zero ↦ Some (page ∷ []) | Some (suc next) ↦ option_map (λ rest. page ∷ rest) (chain_from most bound pages (suc next)) ]) ≡ Some ns
        → ((next : ℕ) (rest : List ℕ) → chain_from most bound pages next ≡ Some rest → ((more : List ℕ) × (rest ≡ next ∷ more)) × IsChain bound pages rest)
        → ((more : List ℕ) × (ns ≡ page ∷ more)) × IsChain bound pages ns
    go None goes e later = absurd (none-some ns e)
    go (Some zero) goes e later = subst (λ l. ((more : List ℕ) × (l ≡ page ∷ more)) × IsChain bound pages l) (same_Some (page ∷ []) ns e) (([], refl), goes)
    go (Some (suc next)) goes e later = on next goes (chain_from most bound pages (suc next)) refl e later

-- what is computed is a chain from page 0 on
pub is_chain : (bound : ℕ) (pages : Pages) (numbers : List ℕ) → chain bound pages ≡ Some numbers → (starts numbers ≡ true) × IsChain bound pages numbers
unfolding chain
is_chain bound pages numbers e =
    let found = found_from bound bound 0 pages numbers e in
    (ap starts found.0.1 ∙ eq-eqb 0 0 refl, found.1)

-- a chain from a page on is found there
again_from : (most bound page : ℕ) (pages : Pages) (rest : List ℕ) → bound ≤ most + page → page < bound → IsChain bound pages (page ∷ rest) → chain_from most bound pages page ≡ Some (page ∷ rest)
unfolding IsChain
again_from zero bound page pages rest enough below is = absurd (omega arith)
again_from (suc most) bound page pages [] enough below is =
    ap (λ o. elim o [ None ↦ None | Some zero ↦ Some (page ∷ []) | Some (suc next) ↦ option_map (λ rest. page ∷ rest) (chain_from most bound pages (suc next)) ]) is
again_from (suc most) bound page pages (zero ∷ more) enough below is = absurd (omega (arith, is.0))
again_from (suc most) bound page pages (suc next ∷ more) enough below is =
    let up = follows_up bound page (suc next) (pages page) is.0 is.1 in
    ap (λ o. elim o [ None ↦ None | Some zero ↦ Some (page ∷ []) | Some (suc next) ↦ option_map (λ rest. page ∷ rest) (chain_from most bound pages (suc next)) ]) is.1
    ∙ ap (option_map (λ rest. page ∷ rest)) (again_from most bound (suc next) pages more (omega (arith, up.0)) up.1 is.2)

-- a chain from page 0 on is computed
pub chain_again : (bound : ℕ) (pages : Pages) (numbers : List ℕ) → 0 < bound → starts numbers ≡ true → IsChain bound pages numbers → chain bound pages ≡ Some numbers
unfolding chain
chain_again bound pages [] some first is = absurd (cc first)
chain_again bound pages (n ∷ rest) some first is =
    let zero_it = eqb-true n 0 first in
    subst (λ k. chain_from bound bound pages 0 ≡ Some (k ∷ rest)) (sym zero_it) (again_from bound bound 0 pages rest (omega arith) some (subst (λ k. IsChain bound pages (k ∷ rest)) zero_it is))
