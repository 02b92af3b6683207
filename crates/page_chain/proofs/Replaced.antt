-- What stands on a chain when rows went from it and others came.
use Rattle.std.proofs.Common.{◌≡◌, refl, sym, ap, subst, ◌∙◌, ℕ, zero, suc, not, true, false, List, [], ◌∷◌, ◌++◌, length, take, drop, Option, Some, None}
use Rattle.std.proofs.lemmas.Bool.{eq-eqb}
use Rattle.std.proofs.lemmas.List.{take-append-drop}
use Rattle.std.proofs.lemmas.Option.{none-some}
use Rattle.std.specs.List.{list_all}
use Rattle.disk_model.specs.Disk.{Image}
use Rattle.disk_model.specs.declared.disk.Addr.{Addr}
use Rattle.am_traits.specs.Causes.{IsAtFault}
use Rattle.am_traits.specs.Pages.{SameElsewhere, KeepsOthers}
use Rattle.page_chain.specs.Chains.{IsChain, starts, is_on, OffPage, NoChainTo}
use Rattle.page_chain.specs.Grown.{IsGrown, numbers_to}
use Rattle.page_chain.specs.Lying.{Came, bytes_of, is_among, lying, staying}
use Rattle.page_chain.specs.Pages.{page_at, pages_of, next_of}
use Rattle.page_chain.specs.Passing.{Passed}
use Rattle.page_chain.specs.Renewed.{AllLie, IsRenewed}
use Rattle.page_chain.proofs.Beside.{came_then}
use Rattle.page_chain.proofs.Coming.{came_none}
use Rattle.page_chain.proofs.Counting.{all_stay}
use Rattle.page_chain.proofs.Linking.{follows_as, to_follow, to_first}
use Rattle.page_chain.proofs.Reaching.{at_page}
use Rattle.page_chain.proofs.Along.{chain_rest, chain_wider, chain_kept, none_off, off_none, on_by, is_on_by, on_alike}

-- without rows that are to go nothing is done
pub passed_nothing : (file bound : ℕ) (going : List (List ℕ)) (before : Image) (known : Option Image) → going ≡ [] → known ≡ Some before → Passed file bound going [] 0 before known
passed_nothing file bound going before known none is = record {
  image = before;
  still_known = is;
  elsewhere = λ b other. refl;
  links = λ k. refl;
  number = λ numbers first chain lie. sym (ap length none);
  all = λ numbers first chain enough differ once. record {
    rows_differ = differ;
    listed_once = once;
    are_there = subst (λ rows. list_all (is_among (bytes_of (lying (pages_of before file) numbers))) rows ≡ true) (sym none) refl;
  };
  came = λ numbers first chain lie.
      subst (λ rows. Came (staying rows (lying (pages_of before file) numbers)) [] (lying (pages_of before file) numbers)) (sym none)
      (subst (λ rows. Came rows [] (lying (pages_of before file) numbers)) (sym (all_stay (lying (pages_of before file) numbers))) (came_none (lying (pages_of before file) numbers)));
}

-- without rows that come a chain is as it was
pub grown_nothing : (file bound : ℕ) (earlier : List ℕ) (last : ℕ) (rows : List (List ℕ)) (before : Image) (known : Option Image) → rows ≡ [] → known ≡ Some before
    → IsChain bound (pages_of before file) (earlier ++ last ∷ []) → IsGrown file bound earlier last last rows before known
grown_nothing file bound earlier last rows before known none is chain = record {
  image = before;
  still_known = is;
  chain = λ more le lt. subst (λ numbers. IsChain more (pages_of before file) (earlier ++ numbers)) (sym (to_first last)) (chain_wider bound (pages_of before file) more (earlier ++ last ∷ []) le chain);
  came =
      subst (λ rows. Came (lying (pages_of before file) (earlier ++ last ∷ [])) rows (lying (pages_of before file) (earlier ++ numbers_to last last))) (sym none)
      (subst (λ numbers. Came (lying (pages_of before file) (earlier ++ last ∷ [])) [] (lying (pages_of before file) (earlier ++ numbers))) (sym (to_first last))
      (came_none (lying (pages_of before file) (earlier ++ last ∷ []))));
}

-- pages of other files that stayed twice stayed
pub others_twice : (file : ℕ) (old mid new : Option Image) → ((m : Image) → old ≡ Some m → (n : Image) × (mid ≡ Some n) × SameElsewhere file m n) → KeepsOthers file mid new → KeepsOthers file old new
others_twice file old mid new first later = record {
  each = λ m is. let one = first m is in let two = later.each one.0 one.1 in (two.0, two.1, λ b other. two.2 b other ∙ one.2 b other);
}

-- rows went and others came as there was room, and then the rest came behind
pub renewed : (file bound : ℕ) (earlier : List ℕ) (last now : ℕ) (going coming : List (List ℕ)) (put gone : ℕ) (before : Image) (between known : Option Image)
    → (its : Passed file bound going (take put coming) gone before between) → starts (earlier ++ last ∷ []) ≡ true → IsChain bound (pages_of before file) (earlier ++ last ∷ [])
    → AllLie (pages_of before file) (earlier ++ last ∷ []) going
    → (IsChain bound (pages_of its.image file) (earlier ++ last ∷ []) → IsGrown file bound earlier last now (drop put coming) its.image known)
    → (gone ≡ length going) × IsRenewed file bound earlier last now going coming before known
renewed file bound earlier last now going coming put gone before between known its first chain lie grows =
    let grown = grows (chain_kept bound (pages_of before file) (pages_of its.image file) (earlier ++ last ∷ []) its.links chain) in (
      its.number (earlier ++ last ∷ []) first chain lie,
      record {
        image = grown.image;
        still_known = grown.still_known;
        chain = grown.chain;
        came =
            subst (λ rows. Came (staying going (lying (pages_of before file) (earlier ++ last ∷ []))) rows (lying (pages_of grown.image file) (earlier ++ numbers_to last now))) (take-append-drop put coming)
            (came_then (staying going (lying (pages_of before file) (earlier ++ last ∷ []))) (lying (pages_of its.image file) (earlier ++ last ∷ [])) (lying (pages_of grown.image file) (earlier ++ numbers_to last now))
            (take put coming) (drop put coming) (its.came (earlier ++ last ∷ []) first chain lie) grown.came);
      },
    )

-- a page at which a chain ends by one bound ends it by each
ends_by : (bound more page : ℕ) (p : Option (List ℕ)) → next_of bound page p ≡ Some 0 → next_of more page p ≡ Some 0
unfolding next_of
ends_by bound more page None e = absurd (none-some 0 e)
ends_by bound more page (Some p) e = let its = follows_as bound page 0 p e in to_follow more page 0 p its.0 its.1 refl

-- where the last page of a chain isn't one at which it ends, there is no such chain
off_last : (bound other last : ℕ) (p : Option (List ℕ)) (o : Option ℕ) → next_of bound last p ≡ o → next_of other last p ≡ None → is_on bound last last p ≡ false
unfolding on_by
off_last bound other last p None e off = off_none bound last last p e
off_last bound other last p (Some zero) e off = absurd (none-some 0 (sym off ∙ ends_by bound other last p e))
off_last bound other last p (Some (suc next)) e off = is_on_by bound last last p (Some (suc next)) e ∙ ap not (eq-eqb last last refl)

pub off_behind : (file bound last other : ℕ) (going coming : List (List ℕ)) (gone : ℕ) (old mid : Option Image) → ((m : Image) → old ≡ Some m → Passed file bound going coming gone m mid)
    → (a : Addr) → IsAtFault mid (OffPage file last other) a → IsAtFault old (NoChainTo file bound last) a
off_behind file bound last other going coming gone old mid passed a fault m is =
    let its = passed m is in
    let off = fault its.image its.still_known in
    let at = at_page file last a off.of_file off.of_page in
    let later : is_on bound last last (its.image (page_at file last)) ≡ false =
    off_last bound other last (its.image (page_at file last)) (next_of bound last (its.image (page_at file last))) refl (subst (λ b. next_of other last (its.image b) ≡ None) at off.off) in
    let here : is_on bound last last (m (page_at file last)) ≡ false = sym (on_alike bound last last (its.image (page_at file last)) (m (page_at file last)) (its.links last)) ∙ later in
    record {
      of_file = off.of_file;
      off = subst (λ page. is_on bound last page (m a) ≡ false) (sym off.of_page) (subst (λ b. is_on bound last last (m b) ≡ false) (sym at) here);
      none = λ earlier first chain. none_off bound last (pages_of m file) earlier last [] earlier refl (chain_rest bound (pages_of m file) earlier last [] chain) here;
    }
