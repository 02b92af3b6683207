-- What was done on the pages on which rows that go were looked for first.
use Rattle.std.proofs.Common.{◌≡◌, refl, sym, ap, subst, ◌∙◌, inl, inr, ℕ, suc, ◌+◌, ◌-◌, ◌<◌, not, true, List, [], ◌∷◌, ◌++◌, filter, length, take, drop, Option, Some, None, arith}
use Rattle.std.proofs.lemmas.List.{append-nil, length-append, take-append-drop}
use Rattle.std.proofs.lemmas.List.Elements.{filter-append}
use Rattle.std.proofs.lemmas.List.Sorted.{IsPermutation-trans, IsPermutation-sym, IsPermutation-append_left, length_permutation}
use Rattle.std.specs.List.{AllByRecursion, list_all}
use Rattle.std.specs.List.Sorted.{IsPermutation}
use Rattle.disk_model.specs.Disk.{Image}
use Rattle.disk_model.specs.declared.disk.Addr.{Addr}
use Rattle.am_traits.specs.Causes.{IsAtFault}
use Rattle.calculus.specs.declared.schema.RelFile.{RelFile}
use Rattle.page_chain.specs.Chains.{IsChain, OffPage, numbers_from}
use Rattle.page_chain.specs.Grown.{IsGrown, numbers_to}
use Rattle.page_chain.specs.Lying.{Lying, Came, all_differ, bytes_of, lying, lying_on, is_among, staying}
use Rattle.page_chain.specs.Pages.{Pages, page_at, pages_of, next_of}
use Rattle.page_chain.specs.Passing.{PageRenewed}
use Rattle.page_chain.specs.Renewed.{AllLie, IsRenewed}
use Rattle.page_chain.proofs.Along.{chain_kept}
use Rattle.page_chain.proofs.Beside.{came_beside, came_then}
use Rattle.page_chain.proofs.Coming.{came_none}
use Rattle.page_chain.proofs.Counting.{all_counted, all_go, gone_count, none_left}
use Rattle.page_chain.proofs.Reaching.{at_page, one_or_other}
use Rattle.page_chain.proofs.Slots.{lying_join, lying_one, lying_same}
use Rattle.heap_am.specs.Heap.{HeapFault}
use Rattle.heap_am.specs.Near.{IsDoneOn, IsDoneNear}
use Rattle.heap_am.proofs.Counting.{last_number}
use Rattle.heap_am.proofs.Faults.{off_page}
use Rattle.heap_am.proofs.Rising.{Apart, apart, all_map, all_parts, filtered_apart}

-- ---- page by page

-- on no page nothing is done
pub done_nowhere : (file bound : ℕ) (going : List (List ℕ)) (before : Image) (known : Option Image) → known ≡ Some before → IsDoneOn file bound [] going [] before known
unfolding lying
done_nowhere file bound going before known is = record {
  image = before;
  still_known = is;
  elsewhere = λ b other. refl;
  links = λ k. refl;
  others = λ k other. refl;
  came = came_none [];
}

alone : (pages : Pages) (n : ℕ) → lying pages (n ∷ []) ≡ lying_on n (pages n)
alone pages n = lying_one pages n ∙ append-nil (lying_on n (pages n))

came_alone : (n : ℕ) (going coming : List (List ℕ)) (before now : Pages) → Came (staying going (lying_on n (before n))) coming (lying_on n (now n))
    → Came (staying going (lying before (n ∷ []))) coming (lying now (n ∷ []))
came_alone n going coming before now came =
    subst (λ rows. Came (staying going rows) coming (lying now (n ∷ []))) (sym (alone before n))
    (subst (λ rows. Came (staying going (lying_on n (before n))) coming rows) (sym (alone now n)) came)

-- a page was put
pub done_put : (file bound page : ℕ) (going coming : List (List ℕ)) (gone next : ℕ) (before : Image) (known : Option Image) → PageRenewed file bound page going coming gone next before known
    → IsDoneOn file bound (page ∷ []) going coming before known
done_put file bound page going coming gone next before known here = record {
  image = here.image;
  still_known = here.still_known;
  elsewhere = λ b other. here.elsewhere b (λ same. other (ap (λ (b : Addr). b.file) same));
  links = λ k. elim (one_or_other k page) [
    | inl same ↦ subst (λ j. next_of bound j (here.image (page_at file j)) ≡ next_of bound j (before (page_at file j))) (sym same) (here.goes_on_still ∙ sym here.goes_on)
    | inr other ↦ ap (next_of bound k) (here.elsewhere (page_at file k) (λ same. other (ap (λ (b : Addr). b.page) same)))
  ];
  others = λ k other. here.elsewhere (page_at file k) (λ same. other.0 (sym (ap (λ (b : Addr). b.page) same)));
  came = came_alone page going coming (pages_of before file) (pages_of here.image file) here.changed.came;
}

-- no row of a page went
pub done_not : (file bound page : ℕ) (going coming : List (List ℕ)) (p q : List ℕ) (before : Image) (known : Option Image) → known ≡ Some before → before (page_at file page) ≡ Some p → q ≡ p
    → ((n : ℕ) → Came (staying going (lying_on n (Some p))) coming (lying_on n (Some q))) → IsDoneOn file bound (page ∷ []) going coming before known
done_not file bound page going coming p q before known is there same came = record {
  image = before;
  still_known = is;
  elsewhere = λ b other. refl;
  links = λ k. refl;
  others = λ k other. refl;
  came =
      came_alone page going coming (pages_of before file) (pages_of before file)
      (subst (λ o. Came (staying going (lying_on page o)) coming (lying_on page o)) (sym there)
      (subst (λ r. Came (staying going (lying_on page (Some p))) coming (lying_on page (Some r))) same (came page)));
}

-- one page more
pub done_more : (file bound : ℕ) (first : List ℕ) (n : ℕ) (going coming more : List (List ℕ)) (before : Image) (between known : Option Image)
    → (one : IsDoneOn file bound first going coming before between) → IsDoneOn file bound (n ∷ []) going more one.image known → AllByRecursion (λ k. k ≡ n → ⊥) first
    → IsDoneOn file bound (first ++ n ∷ []) going (coming ++ more) before known
done_more file bound first n going coming more before between known one two new = record {
  image = two.image;
  still_known = two.still_known;
  elsewhere = λ b other. two.elsewhere b other ∙ one.elsewhere b other;
  links = λ k. two.links k ∙ one.links k;
  others = λ k other. let parts = all_parts (λ j. j ≡ k → ⊥) first (n ∷ []) other in two.others k parts.1 ∙ one.others k parts.0;
  came =
      subst (λ rows. Came rows (coming ++ more) (lying now (first ++ n ∷ []))) (sym stay)
      (subst (λ rows. Came (staying going (lying old first) ++ staying going (lying old (n ∷ []))) (coming ++ more) rows) (sym (lying_join now first (n ∷ [])))
      (came_beside (staying going (lying old first)) (lying now first) (staying going (lying old (n ∷ []))) (lying now (n ∷ [])) coming more
      (subst (λ rows. Came (staying going (lying old first)) coming rows) (sym (lying_same mid now first (all_map first (λ k other. two.others k ((λ same. other (sym same)), tt)) new))) one.came)
      (subst (λ rows. Came (staying going rows) more (lying now (n ∷ []))) (lying_same old mid (n ∷ []) (one.others n new, tt)) two.came)));
}
  where
    old : Pages
    old = pages_of before file

    mid : Pages
    mid = pages_of one.image file

    now : Pages
    now = pages_of two.image file

    stay : staying going (lying old (first ++ n ∷ [])) ≡ staying going (lying old first) ++ staying going (lying old (n ∷ []))
    stay = ap (staying going) (lying_join old first (n ∷ [])) ∙ filter-append (λ r. not (is_among going r.1)) (lying old first) (lying old (n ∷ []))

-- on no page no row is to go
pub count_nowhere : (pages : Pages) (going : List (List ℕ)) → 0 + length (staying going (lying pages [])) ≡ length (lying pages [])
unfolding lying
count_nowhere pages going = refl

-- of one page more so many rows are to go
pub count_more : (pages : Pages) (going : List (List ℕ)) (first : List ℕ) (n count more : ℕ) → count + length (staying going (lying pages first)) ≡ length (lying pages first)
    → more + length (staying going (lying_on n (pages n))) ≡ length (lying_on n (pages n))
    → (count + more) + length (staying going (lying pages (first ++ n ∷ []))) ≡ length (lying pages (first ++ n ∷ []))
count_more pages going first n count more one two =
    let all = ap length parts ∙ length-append (lying pages first) (lying_on n (pages n)) in
    let stay = ap (λ rows. length (staying going rows)) parts ∙ ap length (filter-append (λ r. not (is_among going r.1)) (lying pages first) (lying_on n (pages n)))
    ∙ length-append (staying going (lying pages first)) (staying going (lying_on n (pages n))) in
    omega (arith, all, stay, one, two)
  where
    parts : lying pages (first ++ n ∷ []) ≡ lying pages first ++ lying_on n (pages n)
    parts = lying_join pages first (n ∷ []) ∙ ap (λ rows. lying pages first ++ rows) (alone pages n)

-- ---- the whole chain

came_moved : (before before' now now' : Lying) (coming : List (List ℕ)) → Came before coming now → IsPermutation before' before → IsPermutation now' now → Came before' coming now'
came_moved before before' now now' coming came old new = record {
  new = came.new;
  bytes = came.bytes;
  all =
      IsPermutation-trans now' now (before' ++ came.new) new
      (IsPermutation-trans now (before ++ came.new) (before' ++ came.new) came.all (IsPermutation-append_left came.new before before' (IsPermutation-sym before' before old)));
}

-- where all rows that are to go lie on some pages, what was done on them was done on all
came_on_all : (file bound first : ℕ) (numbers done : List ℕ) (going coming : List (List ℕ)) (before : Image) (known : Option Image) → (its : IsDoneOn file bound done going coming before known)
    → Apart first numbers done → length going + length (staying going (lying (pages_of before file) done)) ≡ length (lying (pages_of before file) done) → AllLie (pages_of before file) numbers going
    → Came (staying going (lying (pages_of before file) numbers)) coming (lying (pages_of its.image file) numbers)
unfolding lying
came_on_all file bound first numbers done going coming before known its split all lie =
    came_moved (staying going (lying old done) ++ lying old split.rest) (staying going (lying old numbers)) (lying now done ++ lying now split.rest) (lying now numbers) coming
    (subst (λ rows. Came (staying going (lying old done) ++ lying old split.rest) coming (lying now done ++ rows)) (sym rest_same)
    (subst (λ rows. Came (staying going (lying old done) ++ lying old split.rest) rows (lying now done ++ lying old split.rest)) (append-nil coming)
    (came_beside (staying going (lying old done)) (lying now done) (lying old split.rest) (lying old split.rest) coming [] its.came (came_none (lying old split.rest)))))
    (subst (λ rows. IsPermutation (staying going (lying old numbers)) (staying going (lying old done) ++ rows)) rest_stays
    (filtered_apart (λ r. not (is_among going r.1)) (λ n. lying_on n (old n)) first numbers done split))
    (split.split (λ n. lying_on n (now n)))
  where
    old : Pages
    old = pages_of before file

    now : Pages
    now = pages_of its.image file

    rest_same : lying now split.rest ≡ lying old split.rest
    rest_same = lying_same old now split.rest (all_map split.rest (λ k other. its.others k other) split.others)

    counted : length (filter (λ r. is_among going r.1) (lying old done ++ lying old split.rest)) ≡ length going
    counted =
        ap length (filter-append (λ r. is_among going r.1) (lying old done) (lying old split.rest))
        ∙ length_permutation (filter (λ r. is_among going r.1) (lying old numbers)) (filter (λ r. is_among going r.1) (lying old done) ++ filter (λ r. is_among going r.1) (lying old split.rest))
        (filtered_apart (λ r. is_among going r.1) (λ n. lying_on n (old n)) first numbers done split)
        ∙ all_go old numbers going lie

    rest_stays : staying going (lying old split.rest) ≡ lying old split.rest
    rest_stays = (none_left (length going) going (lying old done) (lying old split.rest) all (omega arith) counted).stay

-- where as many went from some pages as are to go, all that are to go lie on the chain
pub near_all : (file bound last : ℕ) (going coming : List (List ℕ)) (before : Image) (known : Option Image) → IsDoneNear file bound going coming before known → last + 1 ≡ bound
    → all_differ (bytes_of (lying (pages_of before file) (numbers_from last 0 ++ last ∷ []))) ≡ true → all_differ going ≡ true
    → list_all (is_among (bytes_of (lying (pages_of before file) (numbers_from last 0 ++ last ∷ [])))) going ≡ true
unfolding lying
near_all file bound last going coming before known its is differ once =
    let old = pages_of before file in
    let all = numbers_from last 0 ++ last ∷ [] in
    let split = subst (λ numbers. Apart 0 numbers its.numbers) (sym (last_number last)) (apart (suc last) 0 bound its.numbers (omega (arith, is)) its.rising) in
    let here = gone_count (length going) going (lying old its.numbers) its.all in
    let sum = length_permutation (filter (λ r. is_among going r.1) (lying old all)) (filter (λ r. is_among going r.1) (lying old its.numbers) ++ filter (λ r. is_among going r.1) (lying old split.rest))
    (filtered_apart (λ r. is_among going r.1) (λ n. lying_on n (old n)) 0 all its.numbers split) in
    let parts = length-append (filter (λ r. is_among going r.1) (lying old its.numbers)) (filter (λ r. is_among going r.1) (lying old split.rest)) in
    all_counted going (lying old all) differ once (omega (arith, here, sum, parts))

-- rows went and others came there, and then the rest came behind
pub renewed_near : (file bound last now : ℕ) (going coming : List (List ℕ)) (put : ℕ) (before : Image) (between known : Option Image)
    → (its : IsDoneNear file bound going (take put coming) before between) → last + 1 ≡ bound → IsChain bound (pages_of before file) (numbers_from last 0 ++ last ∷ [])
    → AllLie (pages_of before file) (numbers_from last 0 ++ last ∷ []) going
    → (IsChain bound (pages_of its.done.image file) (numbers_from last 0 ++ last ∷ []) → IsGrown file bound (numbers_from last 0) last now (drop put coming) its.done.image known)
    → IsRenewed file bound (numbers_from last 0) last now going coming before known
renewed_near file bound last now going coming put before between known its is chain lie grows =
    let all = numbers_from last 0 ++ last ∷ [] in
    let grown = grows (chain_kept bound (pages_of before file) (pages_of its.done.image file) all its.done.links chain) in
    let split = subst (λ numbers. Apart 0 numbers its.numbers) (sym (last_number last)) (apart (suc last) 0 bound its.numbers (omega (arith, is)) its.rising) in
    record {
      image = grown.image;
      still_known = grown.still_known;
      chain = grown.chain;
      came =
          subst (λ rows. Came (staying going (lying (pages_of before file) all)) rows (lying (pages_of grown.image file) (numbers_from last 0 ++ numbers_to last now))) (take-append-drop put coming)
          (came_then (staying going (lying (pages_of before file) all)) (lying (pages_of its.done.image file) all) (lying (pages_of grown.image file) (numbers_from last 0 ++ numbers_to last now))
          (take put coming) (drop put coming) (came_on_all file bound 0 all its.numbers going (take put coming) before between its.done split its.all lie) grown.came);
    }

-- ---- damage

-- a page that goes on as before, and is off, was off
off_before : (file : RelFile) (n : ℕ) (m image : Image) (a : Addr) → n < file.used → next_of file.used n (image (page_at file.file n)) ≡ next_of file.used n (m (page_at file.file n))
    → OffPage file.file n file.used image a → HeapFault file m a
off_before file n m image a lt link off =
    let at = at_page file.file n a off.of_file off.of_page in
    let here : next_of file.used n (image (page_at file.file n)) ≡ None = subst (λ b. next_of file.used n (image b) ≡ None) at off.off in
    off_page file m a n lt (record { of_file = off.of_file; of_page = off.of_page; off = subst (λ b. next_of file.used n (m b) ≡ None) (sym at) (sym link ∙ here) })

pub off_next : (file : RelFile) (n : ℕ) (numbers : List ℕ) (going coming : List (List ℕ)) (old mid : Option Image) → n < file.used
    → ((m : Image) → old ≡ Some m → IsDoneOn file.file file.used numbers going coming m mid)
    → (a : Addr) → IsAtFault mid (OffPage file.file n file.used) a → IsAtFault old (HeapFault file) a
off_next file n numbers going coming old mid lt done a fault m is =
    let its = done m is in
    off_before file n m its.image a lt (its.links n) (fault its.image its.still_known)

pub off_rest : (file : RelFile) (going coming : List (List ℕ)) (old mid : Option Image) → 0 < file.used → ((m : Image) → old ≡ Some m → IsDoneNear file.file file.used going coming m mid)
    → (a : Addr) → IsAtFault mid (OffPage file.file (file.used - 1) (file.used - 1 + 1)) a → IsAtFault old (HeapFault file) a
off_rest file going coming old mid some done a fault m is =
    let its = (done m is).done in
    let e : file.used - 1 + 1 ≡ file.used = omega arith in
    off_before file (file.used - 1) m its.image a (omega arith) (its.links (file.used - 1))
    (subst (λ b. OffPage file.file (file.used - 1) b its.image a) e (fault its.image its.still_known))
