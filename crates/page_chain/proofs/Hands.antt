-- The page in hand, as rows are laid.
use Rattle.std.proofs.Common.{◌≡◌, sym, ap, subst, ◌∙◌, ℕ, suc, ◌+◌, List, [], ◌++◌, take, drop, Option, Some, arith, append_assoc, append-nil}
use Rattle.std.proofs.lemmas.List.{take-append-drop}
use Rattle.disk_model.specs.Disk.{Image}
use Rattle.am_traits.specs.Pages.{with_page}
use Rattle.page_cells.specs.Page.{IsPage, next_page, slots}
use Rattle.page_chain.specs.Filled.{HasOnly, IsFilled, InHand, KnownLaid, IsLinked}
use Rattle.page_chain.specs.Lying.{lying_in, bytes_of}
use Rattle.page_chain.specs.Pages.{page_at}
use Rattle.page_chain.proofs.Writing.{laid_first, laid_more, bytes_of_only, bytes_join}

-- the first page is filled
pub hand_first : (file first : ℕ) (p q : List ℕ) (n : ℕ) (rows : List (List ℕ)) (m : Image) (known : Option Image) → known ≡ Some m
    → IsFilled p (take n rows) q → IsPage q → next_page q ≡ 0 → InHand file first first q (drop n rows) rows (with_page (page_at file first) p m) known
hand_first file first p q n rows m known is filled page ends = record {
  image = m;
  still_known = is;
  new = (filled.came first).new;
  all = ap (λ l. l ++ drop n rows) (filled.came first).bytes ∙ take-append-drop n rows;
  laid = laid_first file first m p q (take n rows) (filled.came first).new page ends (filled.came first).bytes (filled.came first).all filled.behind;
}

-- a fresh page that is filled has these rows alone
pub only_these : (fresh q : List ℕ) (rows : List (List ℕ)) → slots fresh ≡ [] → IsFilled fresh rows q → HasOnly q rows
only_these fresh q rows none filled = filled.behind [] none

-- a page more is filled
pub hand_more : (file first at : ℕ) (p fresh q : List ℕ) (n : ℕ) (left rows : List (List ℕ)) (m : Image) (before after : Option Image) → InHand file first at p left rows m before
    → ((image : Image) → before ≡ Some image → IsLinked file at p image after) → slots fresh ≡ [] → IsFilled fresh (take n left) q → IsPage q → next_page q ≡ 0
    → InHand file first (at + 1) q (drop n left) rows m after
hand_more file first at p fresh q n left rows m before after hand link none filled page ends = subst (λ k. InHand file first k q (drop n left) rows m after) (let e : suc at ≡ at + 1 = omega arith in e) (record {
  image = with_page (page_at file at) linked.linked hand.image;
  still_known = linked.still_known;
  new = hand.new ++ lying_in (suc at) 0 (slots q);
  all =
      ap (λ l. l ++ drop n left) (bytes_join hand.new (lying_in (suc at) 0 (slots q)) ∙ ap (λ l. bytes_of hand.new ++ l) (ap (λ s. bytes_of (lying_in (suc at) 0 s)) only ∙ bytes_of_only (suc at) 0 (take n left)))
      ∙ append_assoc (bytes_of hand.new) (take n left) (drop n left) ∙ ap (λ l. bytes_of hand.new ++ l) (take-append-drop n left) ∙ hand.all;
  laid = laid_more file first at m hand.image p linked.linked q hand.new hand.laid linked.is_page linked.same_slots (linked.goes_on ∙ (let e : at + 1 ≡ suc at = omega arith in e)) page ends (take n left) only;
})
  where
    linked : IsLinked file at p hand.image after
    linked = link hand.image hand.still_known

    only : HasOnly q (take n left)
    only = only_these fresh q (take n left) none filled

-- the last page is put
pub hand_put : (file first at : ℕ) (p : List ℕ) (rows : List (List ℕ)) (m : Image) (before after : Option Image) → InHand file first at p [] rows m before
    → ((image : Image) → before ≡ Some image → after ≡ Some (with_page (page_at file at) p image)) → KnownLaid file first at rows m after
hand_put file first at p rows m before after hand put = record {
  image = with_page (page_at file at) p hand.image;
  still_known = put hand.image hand.still_known;
  new = hand.new;
  bytes = sym (append-nil (bytes_of hand.new)) ∙ hand.all;
  laid = hand.laid;
}
