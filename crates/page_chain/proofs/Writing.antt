-- Rows laid on pages, page by page.
use Rattle.std.proofs.Common.{◌≡◌, refl, sym, ap, ap₂, subst, ◌∙◌, ℕ, suc, ◌<◌, ◌≤◌, ◌==◌, Bool, true, false, List, [], ◌∷◌, ◌++◌, map, Some, arith, append_assoc, append-nil, if◌then◌else◌}
use Rattle.std.specs.List.Sorted.{IsPermutation}
use Rattle.std.specs.List.{AllByRecursion}
use Rattle.std.proofs.lemmas.List.{map-append}
use Rattle.std.proofs.lemmas.Bool.{and_parts, and_from, eqb-true, eq-eqb}
use Rattle.std.proofs.lemmas.Option.{same_Some}
use Rattle.std.proofs.lemmas.List.Sorted.{IsPermutation-append_left}
use Rattle.calculus.specs.declared.probe.Place.{Place}
use Rattle.disk_model.specs.Disk.{Image, is_at}
use Rattle.disk_model.specs.declared.disk.Addr.{Addr}
use Rattle.am_traits.specs.Pages.{SameElsewhere, with_page}
use Rattle.page_cells.specs.Page.{IsPage, next_page, slots}
use Rattle.page_chain.specs.Chains.{IsChain}
use Rattle.page_chain.specs.Filled.{HasOnly, IsLaid}
use Rattle.page_chain.specs.Grown.{numbers_to}
use Rattle.page_chain.specs.Lying.{Lying, lying_in, lying_on, lying, bytes_of}
use Rattle.page_chain.specs.Pages.{Pages, page_at, pages_of}
use Rattle.page_chain.proofs.Slots.{lying_join, lying_one, lying_same}
use Rattle.page_chain.proofs.Linking.{chain_glued, chain_ends, chain_goes_on, all_of_below, numbers_until, until_below, to_first, to_last, to_next}

-- ---- a page put into an image

-- there it is
pub put_there : (a : Addr) (p : List ℕ) (m : Image) → with_page a p m a ≡ Some p
put_there a p m = ap (λ b. if b then Some p else m a) (and_from (a.file == a.file) (a.page == a.page) (eq-eqb a.file a.file refl) (eq-eqb a.page a.page refl))

-- elsewhere it isn't
pub not_there : (a b : Addr) (p : List ℕ) (m : Image) → (b.file ≡ a.file → b.page ≡ a.page → ⊥) → with_page a p m b ≡ m b
not_there a b p m other = go (is_at b a) refl
  where
    go : (t : Bool) → is_at b a ≡ t → (if t then Some p else m b) ≡ m b
    go false e = refl
    go true e = let both = and_parts (b.file == a.file) (b.page == a.page) e in absurd (other (eqb-true b.file a.file both.0) (eqb-true b.page a.page both.1))

-- on another page of the file
pub other_page : (file at n : ℕ) (p : List ℕ) (m : Image) → (n ≡ at → ⊥) → with_page (page_at file at) p m (page_at file n) ≡ m (page_at file n)
other_page file at n p m other = not_there (page_at file at) (page_at file n) p m (λ f e. other e)

-- in another file
pub other_file : (file at : ℕ) (p : List ℕ) (m : Image) → SameElsewhere file m (with_page (page_at file at) p m)
other_file file at p m b other = not_there (page_at file at) b p m (λ f e. other f)

-- a page put where it is changes nothing
pub put_same : (a : Addr) (p : List ℕ) (m : Image) → m a ≡ Some p → with_page a p m ≡ m
put_same a p m there = λ i b. each b i
  where
    each : (b : Addr) → with_page a p m b ≡ m b
    each b = go (is_at b a) refl
      where
        go : (t : Bool) → is_at b a ≡ t → (if t then Some p else m b) ≡ m b
        go false e = refl
        go true e =
            let both = and_parts (b.file == a.file) (b.page == a.page) e in
            sym there ∙ sym (ap₂ (λ (f n : ℕ). m (page_at f n)) (eqb-true b.file a.file both.0) (eqb-true b.page a.page both.1))

-- ---- what lies on a page

pub lying_page : (pages : Pages) (n : ℕ) (p : List ℕ) → pages n ≡ Some p → lying pages (n ∷ []) ≡ lying_in n 0 (slots p)
unfolding lying_on
lying_page pages n p there = lying_one pages n ∙ ap (λ o. lying_on n o ++ []) there ∙ append-nil (lying_in n 0 (slots p))

-- the rows of filled lines
pub bytes_of_only : (n k : ℕ) (rows : List (List ℕ)) → bytes_of (lying_in n k (map Some rows)) ≡ rows
bytes_of_only n k [] = refl
bytes_of_only n k (row ∷ rows) = ap (λ l. row ∷ l) (bytes_of_only n (suc k) rows)

pub bytes_join : (xs ys : Lying) → bytes_of (xs ++ ys) ≡ bytes_of xs ++ bytes_of ys
bytes_join xs ys = map-append (λ (r : Place × List ℕ). r.1) xs ys

-- ---- the first page

-- rows on the page that was there
pub laid_first : (file first : ℕ) (m : Image) (p q : List ℕ) (rows : List (List ℕ)) (new : Lying) → IsPage q → next_page q ≡ 0
    → bytes_of new ≡ rows → IsPermutation (lying_in first 0 (slots q)) (lying_in first 0 (slots p) ++ new) → ((old : List (List ℕ)) → HasOnly p old → HasOnly q (old ++ rows))
    → IsLaid file first first new (with_page (page_at file first) p m) (with_page (page_at file first) q m)
laid_first file first m p q rows new is_page ends bytes came behind = record {
  forth = omega arith;
  elsewhere = λ b other. other_file file first q m b other ∙ sym (other_file file first p m b other);
  earlier = λ n lt. let unlike : n ≡ first → ⊥ = λ e. absurd (omega arith) in other_page file first n q m unlike ∙ sym (other_page file first n p m unlike);
  chain = λ more lt. subst (IsChain more (pages_of (with_page (page_at file first) q m) file)) (sym (to_first first)) (chain_ends more first (pages_of (with_page (page_at file first) q m) file) q there is_page ends);
  came = subst (λ l. IsPermutation l (lying (pages_of (with_page (page_at file first) p m) file) (first ∷ []) ++ new)) (sym now_lying)
      (subst (λ l. IsPermutation (lying_in first 0 (slots q)) (l ++ new)) (sym (lying_page (pages_of (with_page (page_at file first) p m) file) first p (put_there (page_at file first) p m))) came);
  behind = λ page old was only.
      ap bytes_of (now_lying ∙ ap (lying_in first 0) (behind old (ap slots (same_Some p page (sym (put_there (page_at file first) p m) ∙ was)) ∙ only))) ∙ bytes_of_only first 0 (old ++ rows) ∙ ap (λ l. old ++ l) (sym bytes);
}
  where
    there : with_page (page_at file first) q m (page_at file first) ≡ Some q
    there = put_there (page_at file first) q m

    now_lying : lying (pages_of (with_page (page_at file first) q m) file) (numbers_to first first) ≡ lying_in first 0 (slots q)
    now_lying = ap (lying (pages_of (with_page (page_at file first) q m) file)) (to_first first) ∙ lying_page (pages_of (with_page (page_at file first) q m) file) first q there

-- ---- one page more

module _ (file first at : ℕ) (m n : Image) (p linked q : List ℕ) (new : Lying) (laid : IsLaid file first at new m (with_page (page_at file at) p n))
    (is_linked : IsPage linked) (same_slots : slots linked ≡ slots p) (goes_on : next_page linked ≡ suc at) (is_fresh : IsPage q) (ends : next_page q ≡ 0) where
  abbrev was : Image
  was = with_page (page_at file at) p n

  abbrev now : Image
  now = with_page (page_at file (suc at)) q (with_page (page_at file at) linked n)

  there_now : now (page_at file (suc at)) ≡ Some q
  there_now = put_there (page_at file (suc at)) q (with_page (page_at file at) linked n)

  linked_now : now (page_at file at) ≡ Some linked
  linked_now = other_page file (suc at) at q (with_page (page_at file at) linked n) (λ e. absurd (omega arith)) ∙ put_there (page_at file at) linked n

  before_at : (k : ℕ) → k < at → now (page_at file k) ≡ was (page_at file k)
  before_at k lt =
      other_page file (suc at) k q (with_page (page_at file at) linked n) (λ e. absurd (omega arith))
      ∙ other_page file at k linked n (λ e. absurd (omega arith)) ∙ sym (other_page file at k p n (λ e. absurd (omega arith)))

  front_same : AllByRecursion (λ k. pages_of now file k ≡ pages_of was file k) (numbers_until first at)
  front_same = all_of_below (λ k. pages_of now file k ≡ pages_of was file k) at (numbers_until first at) before_at (until_below first at laid.forth)

  chain_now : (more : ℕ) → suc at < more → IsChain more (pages_of now file) (numbers_to first (suc at))
  chain_now more lt =
      subst (IsChain more (pages_of now file)) (sym (to_next first at laid.forth))
      (chain_glued more more at (pages_of was file) (pages_of now file) (numbers_until first at) (suc at ∷ []) (omega arith) front_same
      (subst (IsChain more (pages_of was file)) (to_last first at laid.forth) (laid.chain more (omega arith)))
      (chain_goes_on more at (pages_of now file) linked lt linked_now is_linked goes_on (chain_ends more (suc at) (pages_of now file) q there_now is_fresh ends)))

  at_same : lying (pages_of now file) (at ∷ []) ≡ lying (pages_of was file) (at ∷ [])
  at_same = lying_page (pages_of now file) at linked linked_now ∙ ap (lying_in at 0) same_slots ∙ sym (lying_page (pages_of was file) at p (put_there (page_at file at) p n))

  lying_now : lying (pages_of now file) (numbers_to first (suc at)) ≡ lying (pages_of was file) (numbers_to first at) ++ lying_in (suc at) 0 (slots q)
  lying_now =
      ap (lying (pages_of now file)) (to_next first at laid.forth ∙ sym (append_assoc (numbers_until first at) (at ∷ []) (suc at ∷ [])))
      ∙ lying_join (pages_of now file) (numbers_until first at ++ at ∷ []) (suc at ∷ [])
      ∙ ap₂ (λ (a b : Lying). a ++ b)
      (lying_join (pages_of now file) (numbers_until first at) (at ∷ []) ∙ ap₂ (λ (a b : Lying). a ++ b) (lying_same (pages_of was file) (pages_of now file) (numbers_until first at) front_same) at_same
      ∙ sym (lying_join (pages_of was file) (numbers_until first at) (at ∷ [])) ∙ ap (lying (pages_of was file)) (sym (to_last first at laid.forth)))
      (lying_page (pages_of now file) (suc at) q there_now)

  -- what lies on a page behind the last comes behind the rows
  pub laid_more : (rows : List (List ℕ)) → HasOnly q rows → IsLaid file first (suc at) (new ++ lying_in (suc at) 0 (slots q)) m now
  laid_more rows only = record {
    forth = let le : first ≤ at = laid.forth in omega arith;
    elsewhere = λ b other. other_file file (suc at) q (with_page (page_at file at) linked n) b other ∙ other_file file at linked n b other ∙ sym (other_file file at p n b other) ∙ laid.elsewhere b other;
    earlier = λ k lt. let le : first ≤ at = laid.forth in before_at k (omega arith) ∙ laid.earlier k lt;
    chain = chain_now;
    came =
        subst (λ l. IsPermutation l (lying (pages_of m file) (first ∷ []) ++ (new ++ lying_in (suc at) 0 (slots q)))) (sym lying_now)
        (subst (IsPermutation (lying (pages_of was file) (numbers_to first at) ++ lying_in (suc at) 0 (slots q))) (append_assoc (lying (pages_of m file) (first ∷ [])) new (lying_in (suc at) 0 (slots q)))
        (IsPermutation-append_left (lying_in (suc at) 0 (slots q)) (lying (pages_of was file) (numbers_to first at)) (lying (pages_of m file) (first ∷ []) ++ new) laid.came));
    behind = λ page old was_there has.
        ap bytes_of lying_now ∙ bytes_join (lying (pages_of was file) (numbers_to first at)) (lying_in (suc at) 0 (slots q)) ∙ ap (λ l. l ++ bytes_of (lying_in (suc at) 0 (slots q))) (laid.behind page old was_there has)
        ∙ append_assoc old (bytes_of new) (bytes_of (lying_in (suc at) 0 (slots q))) ∙ ap (λ l. old ++ l) (sym (bytes_join new (lying_in (suc at) 0 (slots q))));
  }
