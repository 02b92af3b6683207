-- One row goes from a chain.
use Rattle.std.proofs.Common.{◌≡◌, refl, sym, ap, ap₂, subst, ◌∙◌, ℕ, zero, suc, ◌<◌, ◌≤◌, ◌||◌, inl, inr, true, false, bytes_eq, List, [], ◌∷◌, ◌++◌, length, get_or, Option, Some, None, IfSome, IfNone, is_some, arith, append_assoc}
use Rattle.std.proofs.Math.ListN.{set}
use Rattle.std.proofs.lemmas.Bool.{eqb-true}
use Rattle.std.proofs.lemmas.List.{append-nil, map-append}
use Rattle.std.proofs.lemmas.List.Folds.{list_any-append}
use Rattle.std.proofs.lemmas.List.Sorted.{IsPermutation-refl, IsPermutation-trans, IsPermutation-append, IsPermutation-middle}
use Rattle.std.proofs.lemmas.Option.{none-some}
use Rattle.std.specs.List.{AllByRecursion}
use Rattle.std.specs.List.Sorted.{IsPermutation}
use Rattle.disk_model.specs.Disk.{Image}
use Rattle.disk_model.specs.declared.disk.Addr.{Addr}
use Rattle.am_traits.specs.Causes.{IsAtFault}
use Rattle.am_traits.specs.Pages.{KeepsOthers, with_page}
use Rattle.page_cells.specs.Page.{Slot, IsPage, next_page, slots}
use Rattle.page_chain.specs.Chains.{IsChain, starts, OffPage, NoChain}
use Rattle.page_chain.specs.Lying.{Lying, bytes_of, is_among, lying, lying_in, lying_on, place_of}
use Rattle.page_chain.specs.Pages.{Pages, page_at, pages_of, next_of}
use Rattle.page_chain.specs.Passing.{PageTook}
use Rattle.page_chain.specs.Renewed.{TookOne, WentFrom}
use Rattle.page_chain.proofs.Clearing.{few_lines}
use Rattle.page_chain.proofs.Counting.{same_bytes, not_true}
use Rattle.page_chain.proofs.Missing.{chain_missing}
use Rattle.page_chain.proofs.Reaching.{at_page, one_or_other}
use Rattle.page_chain.proofs.Slots.{row_is_cleared, lying_join, lying_one, lying_same}
use Rattle.page_chain.proofs.Stepping.{put_here, put_elsewhere, goes_alike}
use Rattle.page_chain.proofs.Along.{chain_rest, chain_ends, chain_goes, chain_rises, chain_before, chain_kept}

-- ---- one page

-- where no line has the row, it isn't among those that lie there
none_in : (n k : ℕ) (s : List Slot) (m : ℕ) (row : List ℕ) → length s ≤ m → ((i : ℕ) → i < m → get_or s i None ≡ Some row → ⊥) → is_among (bytes_of (lying_in n k s)) row ≡ false
none_in n k [] m row long none = refl
none_in n k (x ∷ s) zero row long none = absurd (omega arith)
none_in n k (None ∷ s) (suc m) row long none = none_in n (suc k) s m row (omega arith) (λ i lt. none (suc i) (omega arith))
none_in n k (Some r ∷ s) (suc m) row long none =
    ap₂ (λ a b. a || b) (not_true (bytes_eq row r) (λ e. none zero (omega arith) (ap Some (sym (same_bytes row r e)))))
    (none_in n (suc k) s m row (omega arith) (λ i lt. none (suc i) (omega arith)))

pub none_on : (n : ℕ) (p : List ℕ) (row : List ℕ) → IsPage p → ((i : ℕ) → i < 254 → get_or (slots p) i None ≡ Some row → ⊥) → is_among (bytes_of (lying_on n (Some p))) row ≡ false
unfolding lying_on
none_on n p row page none = none_in n 0 (slots p) 254 row (few_lines [] p page) none

-- the row of a line that was cleared went
pub row_went : (n : ℕ) (p q : List ℕ) (line : ℕ) (row : List ℕ) → get_or (slots p) line None ≡ Some row → slots q ≡ set (slots p) line None
    → IsPermutation (lying_on n (Some p)) ((place_of n line, row) ∷ lying_on n (Some q))
unfolding lying_on
row_went n p q line row there cleared =
    subst (λ s. IsPermutation (lying_in n 0 (slots p)) ((place_of n line, row) ∷ lying_in n 0 s)) (sym cleared) (row_is_cleared n (slots p) line row there)

-- a page from which a row went was put
pub page_took : (file bound page : ℕ) (row : List ℕ) (line next : ℕ) (p q : List ℕ) (m : Image) (known : Option Image)
    → m (page_at file page) ≡ Some p → known ≡ Some (with_page (page_at file page) q m) → next_of bound page (Some p) ≡ Some next → IsPage q → next_page q ≡ next_page p
    → ((n : ℕ) → IsPermutation (lying_on n (Some p)) ((place_of n line, row) ∷ lying_on n (Some q))) → PageTook file bound page row (Some line) next m known
page_took file bound page row line next p q m known there is follows q_is same went = record {
  image = with_page (page_at file page) q m;
  still_known = is;
  elsewhere = λ b other. put_elsewhere (page_at file page) b q m other;
  goes_on = ap (next_of bound page) there ∙ follows;
  goes_on_still = ap (next_of bound page) (put_here (page_at file page) q m) ∙ goes_alike bound page next p q follows q_is same;
  took =
      subst (λ o. WentFrom (Some (place_of page line)) row (lying_on page o) (lying_on page (with_page (page_at file page) q m (page_at file page)))) (sym there)
      (subst (λ o. WentFrom (Some (place_of page line)) row (lying_on page (Some p)) (lying_on page o)) (sym (put_here (page_at file page) q m)) (went page));
}

-- a page without such a row stayed
pub page_stayed : (file bound page : ℕ) (row : List ℕ) (next : ℕ) (p : List ℕ) (m : Image) (known : Option Image) → m (page_at file page) ≡ Some p → known ≡ Some m
    → next_of bound page (Some p) ≡ Some next → ((n : ℕ) → is_among (bytes_of (lying_on n (Some p))) row ≡ false) → PageTook file bound page row None next m known
page_stayed file bound page row next p m known there is follows none = record {
  image = m;
  still_known = is;
  elsewhere = λ b other. refl;
  goes_on = ap (next_of bound page) there ∙ follows;
  goes_on_still = ap (next_of bound page) there ∙ follows;
  took = (ap (λ o. is_among (bytes_of (lying_on page o)) row) there ∙ none page, refl);
}

-- the same of the line that was answered
pub page_took_line : (file bound page : ℕ) (row : List ℕ) (line : Option ℕ) (next : ℕ) (p q : List ℕ) (m : Image) (known : Option Image) → is_some line ≡ true
    → m (page_at file page) ≡ Some p → known ≡ Some (with_page (page_at file page) q m) → next_of bound page (Some p) ≡ Some next → IsPage q → next_page q ≡ next_page p
    → IfSome line (λ l. (n : ℕ) → IsPermutation (lying_on n (Some p)) ((place_of n l, row) ∷ lying_on n (Some q))) → PageTook file bound page row line next m known
page_took_line file bound page row None next p q m known some there is follows q_is same went = absurd (cc some)
page_took_line file bound page row (Some line) next p q m known some there is follows q_is same went = page_took file bound page row line next p q m known there is follows q_is same went

pub page_stayed_line : (file bound page : ℕ) (row : List ℕ) (line : Option ℕ) (next : ℕ) (p : List ℕ) (m : Image) (known : Option Image) → is_some line ≡ false
    → m (page_at file page) ≡ Some p → known ≡ Some m → next_of bound page (Some p) ≡ Some next → IfNone line ((n : ℕ) → is_among (bytes_of (lying_on n (Some p))) row ≡ false)
    → PageTook file bound page row line next m known
page_stayed_line file bound page row (Some line) next p m known none there is follows stays = absurd (cc none)
page_stayed_line file bound page row None next p m known none there is follows stays = page_stayed file bound page row next p m known there is follows stays

-- no page of another file is changed
pub others_took : (file bound page : ℕ) (row : List ℕ) (line : Option ℕ) (next : ℕ) (old known : Option Image) → ((m : Image) → old ≡ Some m → PageTook file bound page row line next m known)
    → KeepsOthers file old known
others_took file bound page row line next old known here = record {
  each = λ m is. let its = here m is in (its.image, its.still_known, λ b other. its.elsewhere b (λ same. other (ap (λ (b : Addr). b.file) same)));
}

-- ---- a chain

-- The first numbers of a chain are those of pages without the row, and this one comes next.
pub record Without (row : List ℕ) (next : ℕ) (pages : Pages) (numbers : List ℕ) : Type 0 where
  pub done : List ℕ
  pub rest : List ℕ
  pub are : numbers ≡ done ++ next ∷ rest
  pub none : is_among (bytes_of (lying pages done)) row ≡ false

-- The pages before one have no such row.
pub record Searched (file bound number : ℕ) (row : List ℕ) (m : Image) : Type 0 where
  pub walked : (numbers : List ℕ) → starts numbers ≡ true → IsChain bound (pages_of m file) numbers → Without row number (pages_of m file) numbers

pub searched_start : (file bound : ℕ) (row : List ℕ) (m : Image) → Searched file bound 0 row m
unfolding lying
searched_start file bound row m = record { walked = λ numbers first is. go numbers first }
  where
    go : (numbers : List ℕ) → starts numbers ≡ true → Without row 0 (pages_of m file) numbers
    go [] first = absurd (cc first)
    go (n ∷ numbers) first = record { done = []; rest = numbers; are = ap (λ k. k ∷ numbers) (eqb-true n 0 first); none = refl }

parts : (pages : Pages) (done : List ℕ) (n : ℕ) → lying pages (done ++ n ∷ []) ≡ lying pages done ++ lying_on n (pages n)
parts pages done n = lying_join pages done (n ∷ []) ∙ ap (λ rows. lying pages done ++ rows) (lying_one pages n ∙ append-nil (lying_on n (pages n)))

-- a row that is among neither rows is among none of both
among_both : (one two : Lying) (row : List ℕ) → is_among (bytes_of one) row ≡ false → is_among (bytes_of two) row ≡ false → is_among (bytes_of (one ++ two)) row ≡ false
among_both one two row e f =
    ap (λ rows. is_among rows row) (map-append (λ r. r.1) one two) ∙ list_any-append (bytes_eq row) (bytes_of one) (bytes_of two) ∙ ap₂ (λ a b. a || b) e f

none_done : (row : List ℕ) (pages : Pages) (done : List ℕ) (n : ℕ) → is_among (bytes_of (lying pages done)) row ≡ false → is_among (bytes_of (lying_on n (pages n))) row ≡ false
    → is_among (bytes_of (lying pages (done ++ n ∷ []))) row ≡ false
none_done row pages done n e f = ap (λ rows. is_among (bytes_of rows) row) (parts pages done n) ∙ among_both (lying pages done) (lying_on n (pages n)) row e f

-- from a page without such a row the search goes on
pub searched_next : (file bound number : ℕ) (row : List ℕ) (next : ℕ) (m : Image) (known : Option Image) → Searched file bound number row m → PageTook file bound number row None next m known
    → 0 < next → Searched file bound next row m
searched_next file bound number row next m known so_far here some = record {
  walked = λ numbers first is.
      let its = so_far.walked numbers first is in
      let goes = chain_goes bound (pages_of m file) number next its.rest (chain_rest bound (pages_of m file) its.done number its.rest (subst (IsChain bound (pages_of m file)) its.are is)) here.goes_on some in
      record {
        done = its.done ++ number ∷ [];
        rest = goes.0;
        are = its.are ∙ ap (λ rest. its.done ++ number ∷ rest) goes.1 ∙ sym (append_assoc its.done (number ∷ []) (next ∷ goes.0));
        none = none_done row (pages_of m file) its.done number its.none here.took.0;
      };
}

-- where the chain ends there is no such row on it
pub took_none : (file bound number : ℕ) (row : List ℕ) (next : ℕ) (m : Image) (known now : Option Image) → Searched file bound number row m → PageTook file bound number row None next m known → next ≡ 0
    → now ≡ Some m → (numbers : List ℕ) → starts numbers ≡ true → IsChain bound (pages_of m file) numbers → TookOne file bound numbers row None m now
took_none file bound number row next m known now so_far here ends is numbers first chain =
    let its = so_far.walked numbers first chain in
    let last : its.rest ≡ [] = chain_ends bound (pages_of m file) number next its.rest (chain_rest bound (pages_of m file) its.done number its.rest (subst (IsChain bound (pages_of m file)) its.are chain)) here.goes_on ends in
    let are : numbers ≡ its.done ++ number ∷ [] = its.are ∙ ap (λ rest. its.done ++ number ∷ rest) last in
    record {
      image = m;
      still_known = is;
      chain = chain;
      took = (ap (λ ns. is_among (bytes_of (lying (pages_of m file) ns)) row) are ∙ none_done row (pages_of m file) its.done number its.none here.took.0, refl);
    }

-- a row goes from the middle of rows
goes_from : {A : Type 0} (x : A) (first middle less rest : List A) → IsPermutation middle (x ∷ less) → IsPermutation ((first ++ middle) ++ rest) (x ∷ ((first ++ less) ++ rest))
goes_from x first middle less rest p =
    IsPermutation-trans ((first ++ middle) ++ rest) ((first ++ x ∷ less) ++ rest) (x ∷ ((first ++ less) ++ rest))
    (IsPermutation-append (first ++ middle) (first ++ x ∷ less) rest rest (IsPermutation-append first first middle (x ∷ less) (IsPermutation-refl first) p) (IsPermutation-refl rest))
    (IsPermutation-append (first ++ x ∷ less) (x ∷ (first ++ less)) rest rest (IsPermutation-middle first x less) (IsPermutation-refl rest))

module _ (file bound number : ℕ) (row : List ℕ) (line next : ℕ) (m : Image) (known : Option Image) (so_far : Searched file bound number row m) (here : PageTook file bound number row (Some line) next m known) where
  others : (k : ℕ) → (k ≡ number → ⊥) → here.image (page_at file k) ≡ m (page_at file k)
  others k other = here.elsewhere (page_at file k) (λ same. other (ap (λ (b : Addr). b.page) same))

  links : (k : ℕ) → next_of bound k (here.image (page_at file k)) ≡ next_of bound k (m (page_at file k))
  links k = elim (one_or_other k number) [
    | inl same ↦ subst (λ j. next_of bound j (here.image (page_at file j)) ≡ next_of bound j (m (page_at file j))) (sym same) (here.goes_on_still ∙ sym here.goes_on)
    | inr other ↦ ap (next_of bound k) (others k other)
  ]

  all_others : (numbers : List ℕ) → AllByRecursion (λ k. k ≡ number → ⊥) numbers → AllByRecursion (λ k. here.image (page_at file k) ≡ m (page_at file k)) numbers
  all_others [] all = tt
  all_others (k ∷ numbers) all = (others k all.0, all_others numbers all.1)

  lower : (numbers : List ℕ) → AllByRecursion (λ k. k < number) numbers → AllByRecursion (λ k. k ≡ number → ⊥) numbers
  lower [] all = tt
  lower (k ∷ numbers) all = ((λ same. omega (arith, same, all.0)), lower numbers all.1)

  higher : (numbers : List ℕ) → AllByRecursion (λ k. number < k) numbers → AllByRecursion (λ k. k ≡ number → ⊥) numbers
  higher [] all = tt
  higher (k ∷ numbers) all = ((λ same. omega (arith, same, all.0)), higher numbers all.1)

  -- the row went from the chain
  pub took_found : (numbers : List ℕ) → starts numbers ≡ true → IsChain bound (pages_of m file) numbers → TookOne file bound numbers row (Some (place_of number line)) m known
  took_found numbers first chain =
      let its = so_far.walked numbers first chain in
      let whole = subst (IsChain bound (pages_of m file)) its.are chain in
      let done = lying_same (pages_of m file) (pages_of here.image file) its.done (all_others its.done (lower its.done (chain_before bound (pages_of m file) its.done number its.rest whole))) in
      let rest = lying_same (pages_of m file) (pages_of here.image file) its.rest
      (all_others its.rest (higher its.rest (chain_rises bound (pages_of m file) number its.rest (chain_rest bound (pages_of m file) its.done number its.rest whole)))) in
      record {
        image = here.image;
        still_known = here.still_known;
        chain = chain_kept bound (pages_of m file) (pages_of here.image file) numbers links chain;
        took =
            subst (λ rows. IsPermutation (lying (pages_of m file) numbers) ((place_of number line, row) ∷ rows))
            (sym (ap (lying (pages_of here.image file)) its.are ∙ three (pages_of here.image file) its.done its.rest ∙ ap₂ (λ a b. (a ++ lying_on number (here.image (page_at file number))) ++ b) done rest))
            (subst (λ rows. IsPermutation rows ((place_of number line, row) ∷ ((lying (pages_of m file) its.done ++ lying_on number (here.image (page_at file number))) ++ lying (pages_of m file) its.rest)))
            (sym (ap (lying (pages_of m file)) its.are ∙ three (pages_of m file) its.done its.rest))
            (goes_from (place_of number line, row) (lying (pages_of m file) its.done) (lying_on number (m (page_at file number))) (lying_on number (here.image (page_at file number))) (lying (pages_of m file) its.rest) here.took));
      }
    where
      three : (pages : Pages) (done rest : List ℕ) → lying pages (done ++ number ∷ rest) ≡ (lying pages done ++ lying_on number (pages number)) ++ lying pages rest
      three pages done rest =
          ap (lying pages) (sym (append_assoc done (number ∷ []) rest)) ∙ lying_join pages (done ++ number ∷ []) rest ∙ ap (λ rows. rows ++ lying pages rest) (parts pages done number)

-- ---- damage

-- a page that is on no chain
chain_none : (bound n : ℕ) (pages : Pages) (rest : List ℕ) → IsChain bound pages (n ∷ rest) → next_of bound n (pages n) ≡ None → ⊥
unfolding IsChain
chain_none bound n pages [] is e = none-some 0 (sym e ∙ is)
chain_none bound n pages (k ∷ rest) is e = none-some k (sym e ∙ is.1)

-- a page that is come to and isn't one of a chain shows that there is none
pub off_searched : (file bound number : ℕ) (row : List ℕ) (known : Option Image) → ((m : Image) → known ≡ Some m → Searched file bound number row m)
    → (a : Addr) → IsAtFault known (OffPage file number bound) a → IsAtFault known (NoChain file bound) a
off_searched file bound number row known so_far a fault m is =
    let off = fault m is in
    let at = at_page file number a off.of_file off.of_page in
    record {
      of_file = off.of_file;
      off = subst (λ page. next_of bound page (m a) ≡ None) (sym off.of_page) off.off;
      none = chain_missing bound (pages_of m file) (λ numbers first chain.
          let its = (so_far m is).walked numbers first chain in
          chain_none bound number (pages_of m file) its.rest (chain_rest bound (pages_of m file) its.done number its.rest (subst (IsChain bound (pages_of m file)) its.are chain))
          (subst (λ b. next_of bound number (m b) ≡ None) at off.off));
    }
