-- A file that lists a set, where rows of it went and others came.
use Rattle.std.proofs.Common.{◌≡◌, refl, sym, ap, subst, ◌∙◌, ℕ, ◌-◌, suc, ◌<◌, ◌≤◌, Bool, true, List, [], ◌∷◌, ◌++◌, map, Option, Some, arith, append_assoc}
use Rattle.std.specs.Prelude.{◌↔◌}
use Rattle.std.specs.Cmp.{IsTotalOrder}
use Rattle.std.specs.List.{AllByRecursion}
use Rattle.std.specs.List.Sorted.{IsPermutation}
use Rattle.std.specs.declared.cmp.Ordering.{Ordering}
use Rattle.am_traits.specs.Pages.{SameElsewhere, KeepsOthers}
use Rattle.disk_model.specs.Disk.{Image}
use Rattle.page_chain.specs.Chains.{IsChain, chain, starts, numbers_from}
use Rattle.page_chain.specs.Grown.{numbers_to}
use Rattle.page_chain.specs.Lying.{lying, staying, Came}
use Rattle.page_chain.specs.Pages.{Pages, page_at, pages_of}
use Rattle.page_chain.specs.Renewed.{AllLie, IsRenewed}
use Rattle.page_chain.proofs.Coming.{came_none}
use Rattle.page_chain.proofs.Counting.{all_stay}
use Rattle.page_chain.proofs.Linking.{to_first, to_from, to_last, numbers_until}
use Rattle.std.proofs.lemmas.Option.{same_Some}
use Rattle.stored_database.specs.Catalogue.{Lists, listed, most_pages}
use Rattle.stored_database.specs.After.{after_change, IsChange}
use Rattle.catalog_pages.specs.Ends.{EndsAt}
use Rattle.catalog_pages.specs.Rewritten.{IsRewritten}
use Rattle.catalog_pages.proofs.Again.{is_chain, chain_again}
use Rattle.catalog_pages.proofs.Listed.{on_pages, all_lie, lists_after}

-- ---- one file is written

-- without rows nothing is done
pub rewritten_nothing : (file last : ℕ) (going coming : List (List ℕ)) (before : Image) (known : Option Image) → going ≡ [] → coming ≡ [] → known ≡ Some before
    → IsRewritten file last last going coming before known
rewritten_nothing file last going coming before known none no_more is = record {
  image = before;
  still_known = is;
  elsewhere = λ b other. refl;
  on_chain = λ earlier first chained lie. (
      let rows = lying (pages_of before file) (earlier ++ last ∷ []) in
      let same : earlier ++ last ∷ [] ≡ earlier ++ numbers_to last last = ap (λ l. earlier ++ l) (sym (to_first last)) in
      record {
        chain = subst (IsChain most_pages (pages_of before file)) same chained;
        came = subst (λ numbers. Came (staying going rows) coming (lying (pages_of before file) numbers)) same
            (subst (λ come. Came (staying going rows) come rows) (sym no_more)
            (subst (λ go. Came (staying go rows) [] rows) (sym none) (subst (λ l. Came l [] rows) (sym (all_stay rows)) (came_none rows))));
      });
}

-- what a chain's renewal leaves
pub rewritten : (file last now : ℕ) (going coming : List (List ℕ)) (before : Image) (old known : Option Image) → now < most_pages → old ≡ Some before → KeepsOthers file old known
    → ((earlier : List ℕ) → starts (earlier ++ last ∷ []) ≡ true → IsChain most_pages (pages_of before file) (earlier ++ last ∷ []) → AllLie (pages_of before file) (earlier ++ last ∷ []) going
    → IsRenewed file most_pages earlier last now going coming before known)
    → IsRewritten file last now going coming before known
rewritten file last now going coming before old known below is others renewed =
    let kept = others.each before is in record {
      image = kept.0;
      still_known = kept.1;
      elsewhere = kept.2;
      on_chain = λ earlier first chained lie. (
          let its = renewed earlier first chained lie in
          let same : its.image ≡ kept.0 = same_Some its.image kept.0 (sym its.still_known ∙ kept.1) in
          record {
            chain = subst (λ (n : Image). IsChain most_pages (pages_of n file) (earlier ++ numbers_to last now)) same (its.chain most_pages (omega arith) below);
            came = subst (λ (n : Image). Came (staying going (lying (pages_of before file) (earlier ++ last ∷ []))) coming (lying (pages_of n file) (earlier ++ numbers_to last now))) same its.came;
          });
    }

-- ---- what it lists

starts_so : (earlier : List ℕ) (last : ℕ) (rest : List ℕ) → starts (earlier ++ last ∷ []) ≡ starts (earlier ++ last ∷ rest)
starts_so [] last rest = refl
starts_so (n ∷ earlier) last rest = refl

-- the pages of a file of which none is changed
pub same_pages : (file other : ℕ) (before image : Image) → SameElsewhere file before image → (other ≡ file → ⊥) → pages_of image other ≡ pages_of before other
same_pages file other before image elsewhere differ = λ i page. elsewhere (page_at other page) differ i

-- the numbers of a chain that ends there
pub ends_are : (pages : Pages) (last : ℕ) → (ends : EndsAt pages last) → (starts (ends.earlier ++ last ∷ []) ≡ true) × IsChain most_pages pages (ends.earlier ++ last ∷ [])
ends_are pages last ends = is_chain most_pages pages (ends.earlier ++ last ∷ []) ends.chain

module _ {A : Type 0} {cmp : A → A → Ordering} (order : IsTotalOrder cmp) (test : A → Bool) (spell : A → List ℕ) (read : List ℕ → Option A)
    (one : (bytes : List ℕ) (a : A) → (read bytes ≡ Some a) ↔ ((test a ≡ true) × (bytes ≡ spell a)))
    (lists : (pages : Pages) (xs : List A) → (listed read cmp pages ≡ Some xs) ↔ Lists cmp test spell pages xs) where
  -- What a file lists afterwards, and where its chain ends.
  pub record ListsThen (pages : Pages) (last : ℕ) (set : List A) : Type 0 where
    pub are : listed read cmp pages ≡ Some set
    pub ends : EndsAt pages last

  pub lists_then : (file last now : ℕ) (gone come : List (List ℕ)) (before : Image) (known : Option Image) (set going coming : List A) → (its : IsRewritten file last now gone come before known)
      → last ≤ now → EndsAt (pages_of before file) last → listed read cmp (pages_of before file) ≡ Some set → IsChange cmp going coming set
      → IsPermutation gone (map spell going) → IsPermutation come (map spell coming) → AllByRecursion (λ x. test x ≡ true) (after_change cmp going coming set)
      → ListsThen (pages_of its.image file) now (after_change cmp going coming set)
  lists_then file last now gone come before known set going coming its le ends is change goes comes stand =
      let pages = pages_of before file in
      let later = pages_of its.image file in
      let numbers = ends.earlier ++ last ∷ [] in
      let behind = ends.earlier ++ numbers_to last now in
      let chained = ends_are pages last ends in
      let on = on_pages order test spell read one pages numbers set ends.chain is in
      let done = its.on_chain ends.earlier chained.0 chained.1 (all_lie order test spell read one pages numbers set going coming on change gone come goes comes) in
      let first : starts behind ≡ true =
      ap (λ l. starts (ends.earlier ++ l)) (to_from last now le) ∙ sym (starts_so ends.earlier last (numbers_from (now - last) (suc last))) ∙ chained.0 in
      let found : chain most_pages later ≡ Some behind = chain_again most_pages later behind (omega arith) first done.chain in
      record {
        are = lists_after order test spell read one pages numbers set going coming on change gone come goes comes later behind done.came (lists later) found stand;
        ends = record {
          earlier = ends.earlier ++ numbers_until last now;
          chain = found ∙ ap Some (ap (λ l. ends.earlier ++ l) (to_last last now le) ∙ sym (append_assoc ends.earlier (numbers_until last now) (now ∷ [])));
        };
      }
