-- A page of a chain that changed and was put in its place.
use Rattle.std.proofs.Common.{◌≡◌, refl, sym, ap, subst, ◌∙◌, ℕ, ◌+◌, ◌==◌, Bool, true, false, List, length, Option, Some, if◌then◌else◌}
use Rattle.std.proofs.lemmas.Bool.{and_from, and_parts, eqb-true, eq-eqb}
use Rattle.disk_model.specs.Disk.{Image, is_at}
use Rattle.disk_model.specs.declared.disk.Addr.{Addr}
use Rattle.am_traits.specs.Causes.{IsAtFault}
use Rattle.am_traits.specs.Pages.{with_page}
use Rattle.page_cells.specs.Page.{IsPage, next_page}
use Rattle.page_chain.specs.Chains.{OffPage}
use Rattle.page_chain.specs.Lying.{Came, lying_on, staying}
use Rattle.page_chain.specs.Pages.{page_at, next_of}
use Rattle.page_chain.specs.Passing.{OffChain, Changed, PageRenewed}
use Rattle.page_chain.proofs.Linking.{follows_as, to_follow}
use Rattle.page_chain.proofs.Along.{off_none}

-- the page at an address is the one that was put there
pub put_here : (a : Addr) (p : List ℕ) (m : Image) → with_page a p m a ≡ Some p
put_here a p m = ap (λ t. if t then Some p else m a) (and_from (a.file == a.file) (a.page == a.page) (eq-eqb a.file a.file refl) (eq-eqb a.page a.page refl))

-- any other is as before
pub put_elsewhere : (a b : Addr) (p : List ℕ) (m : Image) → (b ≡ a → ⊥) → with_page a p m b ≡ m b
put_elsewhere a b p m other = go (is_at b a) refl
  where
    go : (t : Bool) → is_at b a ≡ t → with_page a p m b ≡ m b
    go false e = ap (λ t. if t then Some p else m b) e
    go true e =
        let both = and_parts (b.file == a.file) (b.page == a.page) e in
        absurd (other (λ i. record { file = eqb-true b.file a.file both.0 i; page = eqb-true b.page a.page both.1 i }))

-- a page with the same next page goes on alike
pub goes_alike : (bound page next : ℕ) (p q : List ℕ) → next_of bound page (Some p) ≡ Some next → IsPage q → next_page q ≡ next_page p → next_of bound page (Some q) ≡ Some next
goes_alike bound page next p q e is same = let its = follows_as bound page next p e in to_follow bound page next q is (same ∙ its.1) its.2

-- a page from which rows went, and to which others came, was put
pub page_renewed : (file bound page : ℕ) (going coming : List (List ℕ)) (gone next : ℕ) (p q : List ℕ) (m : Image) (known : Option Image)
    → m (page_at file page) ≡ Some p → known ≡ Some (with_page (page_at file page) q m) → next_of bound page (Some p) ≡ Some next → IsPage q → next_page q ≡ next_page p
    → ((n : ℕ) → Came (staying going (lying_on n (Some p))) coming (lying_on n (Some q))) → ((n : ℕ) → gone + length (staying going (lying_on n (Some p))) ≡ length (lying_on n (Some p)))
    → PageRenewed file bound page going coming gone next m known
page_renewed file bound page going coming gone next p q m known there is follows q_is same came went = record {
  image = with_page (page_at file page) q m;
  still_known = is;
  elsewhere = λ b other. put_elsewhere (page_at file page) b q m other;
  goes_on = ap (next_of bound page) there ∙ follows;
  goes_on_still = ap (next_of bound page) (put_here (page_at file page) q m) ∙ goes_alike bound page next p q follows q_is same;
  changed =
      subst (λ o. Changed going coming gone (lying_on page o) (lying_on page (with_page (page_at file page) q m (page_at file page)))) (sym there)
      (subst (λ o. Changed going coming gone (lying_on page (Some p)) (lying_on page o)) (sym (put_here (page_at file page) q m))
      (record { came = came page; went = went page }));
}

-- a page that stayed as it was wasn't put
pub page_kept : (file bound page : ℕ) (going coming : List (List ℕ)) (gone next : ℕ) (p q : List ℕ) (m : Image) (known : Option Image)
    → m (page_at file page) ≡ Some p → known ≡ Some m → next_of bound page (Some p) ≡ Some next → q ≡ p
    → ((n : ℕ) → Came (staying going (lying_on n (Some p))) coming (lying_on n (Some q))) → ((n : ℕ) → gone + length (staying going (lying_on n (Some p))) ≡ length (lying_on n (Some p)))
    → PageRenewed file bound page going coming gone next m known
page_kept file bound page going coming gone next p q m known there is follows same came went = record {
  image = m;
  still_known = is;
  elsewhere = λ b other. refl;
  goes_on = ap (next_of bound page) there ∙ follows;
  goes_on_still = ap (next_of bound page) there ∙ follows;
  changed =
      subst (λ o. Changed going coming gone (lying_on page o) (lying_on page o)) (sym there)
      (record { came = subst (λ r. Came (staying going (lying_on page (Some p))) coming (lying_on page (Some r))) same (came page); went = went page });
}

-- a page that isn't one of a chain isn't one of a chain that ends as it must
pub off_any : (file page bound last : ℕ) (known : Option Image) (a : Addr) → IsAtFault known (OffPage file page bound) a → IsAtFault known (OffChain file page bound last) a
off_any file page bound last known a fault m is = let off = fault m is in record {
  of_file = off.of_file;
  of_page = off.of_page;
  off = off_none bound last page (m a) off.off;
}
