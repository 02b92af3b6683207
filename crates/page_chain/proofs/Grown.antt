-- What was laid on pages behind those of a chain, and in a file that was made anew.
use Rattle.std.proofs.Common.{◌≡◌, refl, sym, ap, ap₂, subst, ◌∙◌, ℕ, suc, ◌+◌, ◌-◌, ◌<◌, ◌≤◌, List, [], ◌∷◌, ◌++◌, length, Option, Some, arith, append_assoc}
use Rattle.std.specs.List.{AllByRecursion}
use Rattle.std.specs.List.Sorted.{IsPermutation}
use Rattle.std.proofs.lemmas.List.Sorted.{IsPermutation-append_right, IsPermutation-trans, IsPermutation-to_front, IsPermutation-sym}
use Rattle.calculus.specs.declared.probe.Place.{Place}
use Rattle.disk_model.specs.Disk.{Image}
use Rattle.am_traits.specs.Pages.{KeepsOthers, with_page}
use Rattle.page_cells.specs.Page.{Slot, IsPage, next_page, slots, line_for, with_row}
use Rattle.page_chain.specs.Chains.{IsChain, numbers_from}
use Rattle.page_chain.specs.Filled.{IsLaid, KnownLaid, OneLaid, IsLinked}
use Rattle.page_chain.specs.Grown.{numbers_to, IsGrown, IsOneMore, IsBuilt}
use Rattle.page_chain.specs.Lying.{Lying, place_of, lying_in, lying, bytes_of}
use Rattle.page_chain.specs.Pages.{page_at, pages_of}
use Rattle.page_chain.proofs.Slots.{lying_join, lying_same, row_is_placed}
use Rattle.page_chain.proofs.Coming.{none_new, filled_none, filled_more, fresh_has_room}
use Rattle.page_chain.proofs.Linking.{chain_glued, chain_below, all_of_below, to_from, to_from_zero}
use Rattle.page_chain.proofs.Writing.{put_there, put_same, other_file, laid_first, laid_more}

-- ---- behind a chain

module _ (file bound : ℕ) (earlier : List ℕ) (last now : ℕ) (new : Lying) (m image : Image) (laid : IsLaid file last now new m image)
    (is : IsChain bound (pages_of m file) (earlier ++ last ∷ [])) where
  earlier_same : AllByRecursion (λ k. pages_of image file k ≡ pages_of m file k) earlier
  earlier_same = all_of_below (λ k. pages_of image file k ≡ pages_of m file k) last earlier laid.earlier (chain_below bound last (pages_of m file) earlier is)

  -- the chain goes on so far
  pub laid_chain : (more : ℕ) → bound ≤ more → now < more → IsChain more (pages_of image file) (earlier ++ numbers_to last now)
  laid_chain more le lt =
      let from = to_from last now laid.forth in
      subst (λ l. IsChain more (pages_of image file) (earlier ++ l)) (sym from)
      (chain_glued bound more last (pages_of m file) (pages_of image file) earlier (numbers_from (now - last) (suc last)) le earlier_same is (subst (IsChain more (pages_of image file)) from (laid.chain more lt)))

  -- these rows came
  pub laid_came : IsPermutation (lying (pages_of image file) (earlier ++ numbers_to last now)) (lying (pages_of m file) (earlier ++ last ∷ []) ++ new)
  laid_came =
      subst (λ l. IsPermutation l (lying (pages_of m file) (earlier ++ last ∷ []) ++ new))
      (sym (lying_join (pages_of image file) earlier (numbers_to last now) ∙ ap (λ l. l ++ lying (pages_of image file) (numbers_to last now)) (lying_same (pages_of m file) (pages_of image file) earlier earlier_same)))
      (subst (IsPermutation (lying (pages_of m file) earlier ++ lying (pages_of image file) (numbers_to last now)))
      (sym (ap (λ l. l ++ new) (lying_join (pages_of m file) earlier (last ∷ [])) ∙ append_assoc (lying (pages_of m file) earlier) (lying (pages_of m file) (last ∷ [])) new))
      (IsPermutation-append_right (lying (pages_of m file) earlier) (lying (pages_of image file) (numbers_to last now)) (lying (pages_of m file) (last ∷ []) ++ new) laid.came))

-- a chain of which the last page was in hand has grown
pub has_grown : (file bound : ℕ) (earlier : List ℕ) (last now : ℕ) (rows : List (List ℕ)) (m : Image) (known : Option Image) → KnownLaid file last now rows m known
    → IsChain bound (pages_of m file) (earlier ++ last ∷ []) → IsGrown file bound earlier last now rows m known
has_grown file bound earlier last now rows m known laid is = record {
  image = laid.image;
  still_known = laid.still_known;
  chain = laid_chain file bound earlier last now laid.new m laid.image laid.laid is;
  came = record { new = laid.new; bytes = laid.bytes; all = laid_came file bound earlier last now laid.new m laid.image laid.laid is };
}

-- where the page in hand is the one that stands there, it may be laid there
pub laid_there : (file last now : ℕ) (rows : List (List ℕ)) (p : List ℕ) (m : Image) (known : Option Image) → m (page_at file last) ≡ Some p
    → KnownLaid file last now rows (with_page (page_at file last) p m) known → KnownLaid file last now rows m known
laid_there file last now rows p m known there laid = subst (λ n. KnownLaid file last now rows n known) (put_same (page_at file last) p m there) laid

-- ---- other files

pub others_kept : (file first now : ℕ) (rows : List (List ℕ)) (p : List ℕ) (before known : Option Image)
    → ((m : Image) → before ≡ Some m → KnownLaid file first now rows (with_page (page_at file first) p m) known) → KeepsOthers file before known
others_kept file first now rows p before known laid = record {
  each = λ m is. let its = laid m is in (its.image, its.still_known, λ b other. its.laid.elsewhere b other ∙ other_file file first p m b other);
}

-- ---- one row

-- the row that came has this place
pub one_more : (file bound : ℕ) (earlier : List ℕ) (last : ℕ) (place : Place) (row : List ℕ) (m image : Image) (known : Option Image) → known ≡ Some image
    → IsLaid file last place.page ((place, row) ∷ []) m image → IsChain bound (pages_of m file) (earlier ++ last ∷ []) → IsOneMore file earlier last place row m known
one_more file bound earlier last place row m image known is laid chain = record {
  image = image;
  still_known = is;
  all =
      IsPermutation-trans (lying (pages_of image file) (earlier ++ numbers_to last place.page)) (lying (pages_of m file) (earlier ++ last ∷ []) ++ (place, row) ∷ []) ((place, row) ∷ lying (pages_of m file) (earlier ++ last ∷ []))
      (laid_came file bound earlier last place.page ((place, row) ∷ []) m image laid chain)
      (IsPermutation-to_front (lying (pages_of m file) (earlier ++ last ∷ [])) (place, row));
}

-- the row is on the page in hand
pub one_here : (file last : ℕ) (p q : List ℕ) (long line : ℕ) (row : List ℕ) (m : Image) (known : Option Image) → IsPage q → next_page q ≡ 0 → line_for (slots p) long ≡ Some line
    → slots q ≡ with_row (slots p) (Some line) row → known ≡ Some (with_page (page_at file last) q m) → OneLaid file last (place_of last line) row (with_page (page_at file last) p m) known
one_here file last p q long line row m known page ends found is put = record {
  image = with_page (page_at file last) q m;
  still_known = put;
  laid = laid_first file last m p q (row ∷ []) ((place_of last line, row) ∷ []) page ends refl
      (IsPermutation-trans (lying_in last 0 (slots q)) ((place_of last line, row) ∷ lying_in last 0 (slots p)) (lying_in last 0 (slots p) ++ (place_of last line, row) ∷ [])
      (subst (λ s. IsPermutation (lying_in last 0 s) ((place_of last line, row) ∷ lying_in last 0 (slots p))) (sym is) (row_is_placed last (slots p) long line row found))
      (IsPermutation-sym (lying_in last 0 (slots p) ++ (place_of last line, row) ∷ []) ((place_of last line, row) ∷ lying_in last 0 (slots p)) (IsPermutation-to_front (lying_in last 0 (slots p)) (place_of last line, row))))
      (filled_more p p q [] long line row (filled_none p) found is).behind;
}

-- it is on a fresh page behind it
pub one_behind : (file last : ℕ) (p fresh q : List ℕ) (o : Option ℕ) (row : List ℕ) (m : Image) (mid known : Option Image) → IsPage p → next_page p ≡ 0 → IsLinked file last p m mid
    → slots fresh ≡ [] → length row ≤ 1012 → o ≡ line_for (slots fresh) (length row) → slots q ≡ with_row (slots fresh) o row → IsPage q → next_page q ≡ 0
    → ((n : Image) → mid ≡ Some n → known ≡ Some (with_page (page_at file (last + 1)) q n)) → OneLaid file last (place_of (last + 1) 0) row (with_page (page_at file last) p m) known
one_behind file last p fresh q o row m mid known page_p ends_p link none short found is page_q ends_q put =
    let next : suc last ≡ last + 1 = omega arith in
    record {
      image = with_page (page_at file (last + 1)) q (with_page (page_at file last) link.linked m);
      still_known = put (with_page (page_at file last) link.linked m) link.still_known;
      laid = subst (λ k. IsLaid file last k ((place_of k 0, row) ∷ []) (with_page (page_at file last) p m) (with_page (page_at file k) q (with_page (page_at file last) link.linked m))) next
          (subst (λ s. IsLaid file last (suc last) (lying_in (suc last) 0 s) (with_page (page_at file last) p m) (with_page (page_at file (suc last)) q (with_page (page_at file last) link.linked m))) only
          (laid_more file last last (with_page (page_at file last) p m) m p link.linked q [] nothing link.is_page link.same_slots (link.goes_on ∙ sym next) page_q ends_q (row ∷ []) only));
    }
  where
    zeroth : o ≡ Some 0
    zeroth = found ∙ ap (λ s. line_for s (length row)) none ∙ fresh_has_room (length row) short

    only : slots q ≡ Some row ∷ []
    only = is ∙ ap₂ (λ (s : List Slot) (l : Option ℕ). with_row s l row) none zeroth

    nothing : IsLaid file last last [] (with_page (page_at file last) p m) (with_page (page_at file last) p m)
    nothing = laid_first file last m p p [] [] page_p ends_p refl (none_new (lying_in last 0 (slots p))) (filled_none p).behind

-- it is among the rows that were laid
pub one_known : (file last : ℕ) (place : Place) (row : List ℕ) (m : Image) (known : Option Image) → OneLaid file last place row m known → KnownLaid file last place.page (row ∷ []) m known
one_known file last place row m known laid = record { image = laid.image; still_known = laid.still_known; new = (place, row) ∷ []; bytes = refl; laid = laid.laid }

pub one_there : (file last : ℕ) (place : Place) (row p : List ℕ) (m : Image) (known : Option Image) → m (page_at file last) ≡ Some p
    → OneLaid file last place row (with_page (page_at file last) p m) known → OneLaid file last place row m known
one_there file last place row p m known there laid = subst (λ n. OneLaid file last place row n known) (put_same (page_at file last) p m there) laid

-- ---- a file made anew

pub is_built : (file now : ℕ) (rows : List (List ℕ)) (fresh : List ℕ) (m : Image) (known : Option Image) → slots fresh ≡ []
    → KnownLaid file 0 now rows (with_page (page_at file 0) fresh m) known → IsBuilt file (now + 1) rows known
is_built file now rows fresh m known none laid = subst (λ n. IsBuilt file n rows known) (let e : suc now ≡ now + 1 = omega arith in e) (record {
  image = laid.image;
  still_known = laid.still_known;
  chain = subst (IsChain (suc now) (pages_of laid.image file)) (to_from_zero now) (laid.laid.chain (suc now) (omega arith));
  bytes =
      ap (λ ns. bytes_of (lying (pages_of laid.image file) ns)) (sym (to_from_zero now))
      ∙ laid.laid.behind fresh [] (put_there (page_at file 0) fresh m) none ∙ laid.bytes;
})
