-- A chain that is walked from page 0 on.
use Rattle.std.proofs.Common.{◌≡◌, refl, sym, ap, ap₂, subst, ◌∙◌, ℕ, zero, suc, ◌+◌, ◌<◌, ◌≤◌, Bool, true, false, nat_le, List, [], ◌∷◌, ◌++◌, length, take, get_or, Option, Some, None, arith, append_assoc, append-nil}
use Rattle.std.specs.Prelude.{option_map}
use Rattle.std.proofs.lemmas.Bool.{leb-true, leb-false}
use Rattle.std.proofs.lemmas.List.{take_more, take_all}
use Rattle.page_cells.specs.Page.{Slot, slots}
use Rattle.disk_model.specs.Disk.{Image}
use Rattle.disk_model.specs.declared.disk.Addr.{Addr}
use Rattle.page_chain.specs.Chains.{chain, chain_from, OffPage, NoChain}
use Rattle.page_chain.specs.Found.{Found, in_slot}
use Rattle.page_chain.specs.Lying.{lying_in, lying_on, lying, bytes_of}
use Rattle.page_chain.specs.Pages.{Pages, page_at, pages_of, next_of}
use Rattle.page_chain.proofs.Slots.{lying_append, lying_join, lying_one}
use Rattle.page_chain.proofs.Linking.{follows_up}
use Rattle.page_chain.proofs.Writing.{bytes_join}

-- ---- the rows on a page, line by line

-- the rows' bytes don't depend on where they lie
pub bytes_anywhere : (n k i j : ℕ) (s : List Slot) → bytes_of (lying_in n i s) ≡ bytes_of (lying_in k j s)
bytes_anywhere n k i j [] = refl
bytes_anywhere n k i j (None ∷ s) = bytes_anywhere n k (suc i) (suc j) s
bytes_anywhere n k i j (Some row ∷ s) = ap (λ l. row ∷ l) (bytes_anywhere n k (suc i) (suc j) s)

one_slot : (k : ℕ) (x : Slot) → bytes_of (lying_in 0 k (x ∷ [])) ≡ in_slot x
one_slot k None = refl
one_slot k (Some row) = refl

get_past : (s : List Slot) (i : ℕ) → length s ≤ i → get_or s i None ≡ None
get_past [] i le = refl
get_past (x ∷ s) zero le = absurd (omega arith)
get_past (x ∷ s) (suc i) le = get_past s i (omega arith)

-- one line more
pub line_more : (s : List Slot) (i : ℕ) (o : Slot) → o ≡ get_or s i None → bytes_of (lying_in 0 0 (take (i + 1) s)) ≡ bytes_of (lying_in 0 0 (take i s)) ++ in_slot o
line_more s i o is = go (nat_le (length s) i) refl
  where
    go : (b : Bool) → nat_le (length s) i ≡ b → bytes_of (lying_in 0 0 (take (i + 1) s)) ≡ bytes_of (lying_in 0 0 (take i s)) ++ in_slot o
    go true e =
        let le : length s ≤ i = leb-true (length s) i e in
        ap (λ l. bytes_of (lying_in 0 0 l)) (take_all (i + 1) s (omega arith) ∙ sym (take_all i s le)) ∙ sym (append-nil (bytes_of (lying_in 0 0 (take i s))))
        ∙ ap (λ x. bytes_of (lying_in 0 0 (take i s)) ++ in_slot x) (sym (is ∙ get_past s i le))
    go false e =
        let lt : i < length s = leb-false (length s) i e in
        ap (λ l. bytes_of (lying_in 0 0 l)) (take_more s i None lt) ∙ ap bytes_of (lying_append 0 0 (take i s) (get_or s i None ∷ []))
        ∙ bytes_join (lying_in 0 0 (take i s)) (lying_in 0 (0 + length (take i s)) (get_or s i None ∷ []))
        ∙ ap (λ l. bytes_of (lying_in 0 0 (take i s)) ++ l) (one_slot (0 + length (take i s)) (get_or s i None) ∙ ap in_slot (sym is))

-- the rows on a page
pub bytes_on_page : (n : ℕ) (pages : Pages) (p : List ℕ) → pages n ≡ Some p → bytes_of (lying_in 0 0 (slots p)) ≡ bytes_of (lying_on n (pages n))
unfolding lying_on
bytes_on_page n pages p there = bytes_anywhere 0 n 0 0 (slots p) ∙ ap (λ o. bytes_of (lying_on n o)) (sym there)

-- ---- page by page

-- The chain from page 0 on has these pages, with these rows, and then those of the chain from this page on, if there is one.
pub record IsWalked (bound : ℕ) (pages : Pages) (at : ℕ) (rows : List (List ℕ)) : Type 0 where
  pub earlier : List ℕ
  pub most : ℕ
  pub enough : bound ≤ most + at
  pub found : chain bound pages ≡ option_map (λ rest. earlier ++ rest) (chain_from most bound pages at)
  pub bytes : rows ≡ bytes_of (lying pages earlier)

pub walk_starts : (bound : ℕ) (pages : Pages) (rows : List (List ℕ)) → rows ≡ [] → IsWalked bound pages 0 rows
unfolding chain lying
walk_starts bound pages rows none = record { earlier = []; most = bound; enough = omega arith; found = same (chain_from bound bound pages 0); bytes = none }
  where
    same : (o : Option (List ℕ)) → o ≡ option_map (λ rest. [] ++ rest) o
    same None = refl
    same (Some ns) = refl

-- how many pages may still come is at least one
module _ (bound : ℕ) (pages : Pages) (at : ℕ) (rows : List (List ℕ)) (below : at < bound) where
  -- the chain from a page on, by what follows it
  on : ℕ → Option ℕ → Option (List ℕ)
  on most next = elim next [
    | None ↦ None
    | Some zero ↦ Some (at ∷ [])
    | Some (suc next) ↦ option_map (λ rest. at ∷ rest) (chain_from most bound pages (suc next))
  ]

  -- the chain that was walked, by what follows
  walked_on : (walked : IsWalked bound pages at rows) (next : Option ℕ) → next_of bound at (pages at) ≡ next
      → (most : ℕ) × (suc most ≡ walked.most) × (chain bound pages ≡ option_map (λ rest. walked.earlier ++ rest) (on most next))
  unfolding on
  walked_on walked next e = go walked.most refl
    where
      go : (most : ℕ) → most ≡ walked.most → (most : ℕ) × (suc most ≡ walked.most) × (chain bound pages ≡ option_map (λ rest. walked.earlier ++ rest) (on most next))
      go zero is = absurd (let le = walked.enough in omega (arith, is, le))
      go (suc most) is = (most, is, walked.found ∙ ap (λ n. option_map (λ rest. walked.earlier ++ rest) (chain_from n bound pages at)) (sym is) ∙ ap (λ o. option_map (λ rest. walked.earlier ++ rest) (on most o)) e)

  bytes_more : (walked : IsWalked bound pages at rows) → rows ++ bytes_of (lying_on at (pages at)) ≡ bytes_of (lying pages (walked.earlier ++ at ∷ []))
  bytes_more walked =
      ap (λ l. l ++ bytes_of (lying_on at (pages at))) walked.bytes ∙ sym (bytes_join (lying pages walked.earlier) (lying_on at (pages at)))
      ∙ ap (λ l. bytes_of (lying pages walked.earlier ++ l)) (sym (append-nil (lying_on at (pages at))) ∙ sym (lying_one pages at)) ∙ ap bytes_of (sym (lying_join pages walked.earlier (at ∷ [])))

  -- it goes on
  pub walk_more : (next : ℕ) → IsWalked bound pages at rows → 0 < next → next_of bound at (pages at) ≡ Some next → IsWalked bound pages next (rows ++ bytes_of (lying_on at (pages at)))
  unfolding on
  walk_more zero walked some e = absurd (omega arith)
  walk_more (suc next) walked some e =
      let step = walked_on walked (Some (suc next)) e in
      let up = follows_up bound at (suc next) (pages at) some e in
      record {
        earlier = walked.earlier ++ at ∷ [];
        most = step.0;
        enough = let le = walked.enough in let lt = up.0 in let is = step.1 in omega arith;
        found = step.2 ∙ joined (chain_from step.0 bound pages (suc next));
        bytes = bytes_more walked;
      }
    where
      joined : (o : Option (List ℕ)) → option_map (λ rest. walked.earlier ++ rest) (option_map (λ rest. at ∷ rest) o) ≡ option_map (λ rest. (walked.earlier ++ at ∷ []) ++ rest) o
      joined None = refl
      joined (Some rest) = ap Some (sym (append_assoc walked.earlier (at ∷ []) rest))

  -- it ends
  pub walk_ends : IsWalked bound pages at rows → next_of bound at (pages at) ≡ Some 0 → Found bound pages (rows ++ bytes_of (lying_on at (pages at))) at
  unfolding on
  walk_ends walked e = let step = walked_on walked (Some 0) e in record { earlier = walked.earlier; chain = step.2; bytes = bytes_more walked }

  -- it stops where a page is off
  pub walk_stops : IsWalked bound pages at rows → next_of bound at (pages at) ≡ None → chain bound pages ≡ None
  unfolding on
  walk_stops walked e = let step = walked_on walked None e in step.2

  -- so page 0 begins no chain
  pub no_chain : (file : ℕ) (m : Image) (a : Addr) → pages ≡ pages_of m file → IsWalked bound pages at rows → OffPage file at bound m a → NoChain file bound m a
  no_chain file m a are walked off =
      let here : pages_of m file at ≡ m a = sym (ap₂ (λ (f n : ℕ). m (page_at f n)) off.of_file off.of_page) in
      record {
        of_file = off.of_file;
        off = subst (λ n. next_of bound n (m a) ≡ None) (sym off.of_page) off.off;
        none = ap (chain bound) (sym are) ∙ walk_stops walked (ap (λ (p : Pages). next_of bound at (p at)) are ∙ ap (next_of bound at) here ∙ off.off);
      }
