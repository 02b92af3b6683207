-- A pass over the pages of a chain, as far as it has come.
use Rattle.std.proofs.Common.{◌≡◌, refl, sym, ap, subst, ◌∙◌, ℕ, zero, suc, ◌+◌, ◌<◌, ◌≤◌, ◌==◌, ◌⊎◌, inl, inr, not, Bool, true, false, List, [], ◌∷◌, ◌++◌, filter, length, take, drop, Option, Some, arith, append_assoc}
use Rattle.std.proofs.lemmas.Bool.{eqb-true, eq-eqb}
use Rattle.std.proofs.lemmas.List.{append-nil, length-append}
use Rattle.std.proofs.lemmas.List.Elements.{filter-append}
use Rattle.std.specs.List.{AllByRecursion, list_all}
use Rattle.disk_model.specs.Disk.{Image, RisesUpTo}
use Rattle.disk_model.specs.declared.disk.Addr.{Addr}
use Rattle.am_traits.specs.Pages.{SameElsewhere}
use Rattle.page_chain.specs.Chains.{IsChain, starts, is_on, NoChainTo}
use Rattle.page_chain.specs.Lying.{Lying, Came, all_differ, bytes_of, lying, lying_on, staying, is_among}
use Rattle.page_chain.specs.Pages.{Pages, page_at, pages_of, next_of}
use Rattle.page_chain.specs.Passing.{OffChain, Changed, PageRenewed, Passed}
use Rattle.page_chain.specs.Renewed.{AllLie}
use Rattle.page_chain.proofs.Beside.{came_beside}
use Rattle.page_chain.proofs.Coming.{came_none}
use Rattle.page_chain.proofs.Counting.{NoneLeft, none_left, all_go, all_there, gone_count, less_go}
use Rattle.page_chain.proofs.Slots.{lying_join, lying_one, lying_same}
use Rattle.page_chain.proofs.Linking.{follows_up}
use Rattle.page_chain.proofs.Along.{chain_rest, chain_ends, chain_goes, chain_rises, chain_before, none_off}

-- ---- what was done

changed_nothing : (going : List (List ℕ)) (rows : Lying) → staying going rows ≡ rows → Changed going [] 0 rows rows
changed_nothing going rows stay = record {
  came = subst (λ before. Came before [] rows) (sym stay) (came_none rows);
  went = let e = ap length stay in omega (arith, e);
}

changed_beside : (going first later : List (List ℕ)) (gone more : ℕ) (before now before' now' : Lying)
    → Changed going first gone before now → Changed going later more before' now' → Changed going (first ++ later) (gone + more) (before ++ before') (now ++ now')
changed_beside going first later gone more before now before' now' one two = record {
  came = subst (λ rows. Came rows (first ++ later) (now ++ now')) (sym stay) (came_beside (staying going before) now (staying going before') now' first later one.came two.came);
  went = let lengths = ap length stay ∙ length-append (staying going before) (staying going before') in let all = length-append before before' in omega (arith, lengths, all, one.went, two.went);
}
  where
    stay : staying going (before ++ before') ≡ staying going before ++ staying going before'
    stay = filter-append (λ r. not (is_among going r.1)) before before'

-- the first items, and the first of the others
pub first_both : (m n : ℕ) (xs back : List (List ℕ)) → back ≡ drop m xs → take m xs ++ take n back ≡ take (m + n) xs
first_both m n xs back is = ap (λ rest. take m xs ++ take n rest) is ∙ go m n (m + n) xs refl
  where
    go : (m n k : ℕ) (xs : List (List ℕ)) → k ≡ m + n → take m xs ++ take n (drop m xs) ≡ take k xs
    go zero n k xs e = ap (λ j. take j xs) (let same : n ≡ k = omega arith in same)
    go (suc m) n zero xs e = absurd (omega (arith, e))
    go (suc m) zero (suc k) [] e = refl
    go (suc m) (suc n) (suc k) [] e = refl
    go (suc m) n (suc k) (x ∷ xs) e = ap (λ rest. x ∷ rest) (go m n k xs (omega arith))

-- ---- a chain as far as it was gone along

-- The first numbers of a chain are done, at most a page read for each, and this one comes next.
pub record Walked (going coming : List (List ℕ)) (gone next : ℕ) (before now : Pages) (was read : ℕ) (numbers : List ℕ) : Type 0 where
  pub done : List ℕ
  pub rest : List ℕ
  pub are : numbers ≡ done ++ next ∷ rest
  pub changed : Changed going coming gone (lying before done) (lying now done)
  pub few : RisesUpTo (length done) was read

-- The pages before one are done.
pub record Reached (file bound number : ℕ) (going coming : List (List ℕ)) (gone : ℕ) (before : Image) (known : Option Image) (was read : ℕ) : Type 0 where
  pub image : Image
  pub still_known : known ≡ Some image
  pub elsewhere : SameElsewhere file before image
  pub links : (k : ℕ) → next_of bound k (image (page_at file k)) ≡ next_of bound k (before (page_at file k))
  pub ahead : (k : ℕ) → number ≤ k → image (page_at file k) ≡ before (page_at file k)
  pub walked : (numbers : List ℕ) → starts numbers ≡ true → IsChain bound (pages_of before file) numbers
      → Walked going coming gone number (pages_of before file) (pages_of image file) was read numbers

-- before the first page nothing is done
pub reached_start : (file bound : ℕ) (going : List (List ℕ)) (before : Image) (known : Option Image) (was : ℕ) → known ≡ Some before → Reached file bound 0 going [] 0 before known was was
unfolding lying
reached_start file bound going before known was is = record {
  image = before;
  still_known = is;
  elsewhere = λ b other. refl;
  links = λ k. refl;
  ahead = λ k le. refl;
  walked = λ numbers first chain. first_of numbers first;
}
  where
    first_of : (numbers : List ℕ) → starts numbers ≡ true → Walked going [] 0 0 (pages_of before file) (pages_of before file) was was numbers
    first_of [] first = absurd (cc first)
    first_of (n ∷ numbers) first = record {
      done = [];
      rest = numbers;
      are = ap (λ k. k ∷ numbers) (eqb-true n 0 first);
      changed = changed_nothing going [] refl;
      few = record { later = omega arith; at_most = omega arith };
    }

pub one_or_other : (k n : ℕ) → (k ≡ n) ⊎ (k ≡ n → ⊥)
one_or_other k n = go (k == n) refl
  where
    go : (t : Bool) → (k == n) ≡ t → (k ≡ n) ⊎ (k ≡ n → ⊥)
    go true e = inl (eqb-true k n e)
    go false e = inr (λ same. absurd (cc (sym e ∙ eq-eqb k n same)))

-- a page more was read
one_more : (done : List ℕ) (number : ℕ) → {was read now : ℕ} → RisesUpTo (length done) was read → RisesUpTo 1 read now → RisesUpTo (length (done ++ number ∷ [])) was now
one_more done number few one = let both = length-append done (number ∷ []) in record {
  later = omega (arith, few.later, one.later);
  at_most = omega (arith, few.at_most, one.at_most, both);
}

module _ (file bound number : ℕ) (going first later : List (List ℕ)) (gone more next : ℕ) (before : Image) (between known : Option Image) (was read now : ℕ)
    (so_far : Reached file bound number going first gone before between was read)
    (here : PageRenewed file bound number going later more next so_far.image known) (one : RisesUpTo 1 read now) where
  old : Pages
  old = pages_of before file

  new : Pages
  new = pages_of here.image file

  -- other pages of the file are as they were before this one
  others : (k : ℕ) → (k ≡ number → ⊥) → here.image (page_at file k) ≡ so_far.image (page_at file k)
  others k other = here.elsewhere (page_at file k) (λ same. other (ap (λ (b : Addr). b.page) same))

  -- those behind it are as at first
  pub still_ahead : (k : ℕ) → number < k → here.image (page_at file k) ≡ before (page_at file k)
  still_ahead k lt = others k (λ same. omega (arith, lt, same)) ∙ so_far.ahead k (omega (arith, lt))

  pub still_links : (k : ℕ) → next_of bound k (here.image (page_at file k)) ≡ next_of bound k (before (page_at file k))
  still_links k = elim (one_or_other k number) [
    | inl same ↦
        subst (λ j. next_of bound j (here.image (page_at file j)) ≡ next_of bound j (before (page_at file j))) (sym same)
        (here.goes_on_still ∙ sym here.goes_on ∙ so_far.links number)
    | inr other ↦ ap (next_of bound k) (others k other) ∙ so_far.links k
  ]

  pub still_elsewhere : SameElsewhere file before here.image
  still_elsewhere b other = here.elsewhere b (λ same. other (ap (λ (b : Addr). b.file) same)) ∙ so_far.elsewhere b other

  -- with this page as many more are done
  page_done : (done : List ℕ) → AllByRecursion (λ k. k < number) done → Changed going first gone (lying (pages_of before file) done) (lying (pages_of so_far.image file) done)
      → Changed going (first ++ later) (gone + more) (lying (pages_of before file) (done ++ number ∷ [])) (lying (pages_of here.image file) (done ++ number ∷ []))
  page_done done below changed =
      subst (λ rows. Changed going (first ++ later) (gone + more) rows (lying (pages_of here.image file) (done ++ number ∷ []))) (sym (parts (pages_of before file)))
      (subst (λ rows. Changed going (first ++ later) (gone + more) (lying (pages_of before file) done ++ lying_on number (before (page_at file number))) rows) (sym (parts (pages_of here.image file)))
      (changed_beside going first later gone more (lying (pages_of before file) done) (lying (pages_of here.image file) done) (lying_on number (before (page_at file number))) (lying_on number (here.image (page_at file number)))
      (subst (λ rows. Changed going first gone (lying (pages_of before file) done) rows) (sym (lying_same (pages_of so_far.image file) (pages_of here.image file) done (kept done below))) changed)
      (subst (λ p. Changed going later more (lying_on number p) (lying_on number (here.image (page_at file number)))) (so_far.ahead number (omega arith)) here.changed)))
    where
      parts : (pages : Pages) → lying pages (done ++ number ∷ []) ≡ lying pages done ++ lying_on number (pages number)
      parts pages = lying_join pages done (number ∷ []) ∙ ap (λ rows. lying pages done ++ rows) (lying_one pages number ∙ append-nil (lying_on number (pages number)))

      kept : (done : List ℕ) → AllByRecursion (λ k. k < number) done → AllByRecursion (λ k. here.image (page_at file k) ≡ so_far.image (page_at file k)) done
      kept [] below = tt
      kept (k ∷ done) below = (others k (λ same. omega (arith, below.0, same)), kept done below.1)

  -- the numbers with this one done
  pub record WalkedOn (numbers : List ℕ) : Type 0 where
    pub done : List ℕ
    pub rest : List ℕ
    pub are : numbers ≡ done ++ number ∷ rest
    pub chain : IsChain bound (pages_of before file) (number ∷ rest)
    pub changed : Changed going (first ++ later) (gone + more) (lying (pages_of before file) (done ++ number ∷ [])) (lying (pages_of here.image file) (done ++ number ∷ []))
    pub few : RisesUpTo (length (done ++ number ∷ [])) was now

  walk : (numbers : List ℕ) → starts numbers ≡ true → IsChain bound (pages_of before file) numbers → WalkedOn numbers
  walk numbers first_is is =
      let came_to = so_far.walked numbers first_is is in
      let whole = subst (IsChain bound (pages_of before file)) came_to.are is in
      record {
        done = came_to.done;
        rest = came_to.rest;
        are = came_to.are;
        chain = chain_rest bound (pages_of before file) came_to.done number came_to.rest whole;
        changed = page_done came_to.done (chain_before bound (pages_of before file) came_to.done number came_to.rest whole) came_to.changed;
        few = one_more came_to.done number came_to.few one;
      }

  goes_on_at_first : next_of bound number (before (page_at file number)) ≡ Some next
  goes_on_at_first = ap (next_of bound number) (sym (so_far.ahead number (omega arith))) ∙ here.goes_on

  joined : (done : List ℕ) (n : ℕ) (rest : List ℕ) → done ++ n ∷ rest ≡ (done ++ n ∷ []) ++ rest
  joined done n rest = sym (append_assoc done (n ∷ []) rest)

  -- where the chain goes on the next page is reached
  pub reached_next : 0 < next → Reached file bound next going (first ++ later) (gone + more) before known was now
  reached_next some = record {
    image = here.image;
    still_known = here.still_known;
    elsewhere = still_elsewhere;
    links = still_links;
    ahead = λ k le. still_ahead k (let up = follows_up bound number next (so_far.image (page_at file number)) some here.goes_on in omega (arith, le, up.0));
    walked = λ numbers first_is is. let its = walk numbers first_is is in
        let goes = chain_goes bound (pages_of before file) number next its.rest its.chain goes_on_at_first some in
        record {
          done = its.done ++ number ∷ [];
          rest = goes.0;
          are = its.are ∙ ap (λ rest. its.done ++ number ∷ rest) goes.1 ∙ joined its.done number (next ∷ goes.0);
          changed = its.changed;
          few = its.few;
        };
  }

  nothing : length (filter (λ r. is_among going r.1) (lying (pages_of before file) [])) ≡ 0
  unfolding lying
  nothing = refl

  rest_same : (rest : List ℕ) → AllByRecursion (λ k. number < k) rest → lying (pages_of here.image file) rest ≡ lying (pages_of before file) rest
  rest_same rest above = lying_same (pages_of before file) (pages_of here.image file) rest (kept rest above)
    where
      kept : (rest : List ℕ) → AllByRecursion (λ k. number < k) rest → AllByRecursion (λ k. here.image (page_at file k) ≡ before (page_at file k)) rest
      kept [] above = tt
      kept (k ∷ rest) above = (still_ahead k above.0, kept rest above.1)

  -- what is left behind this page, where nothing follows or as many went as are to go
  left_behind : (numbers : List ℕ) (its : WalkedOn numbers) → AllLie (pages_of before file) numbers going → (next ≡ 0) ⊎ (length going ≤ gone + more)
      → NoneLeft (gone + more) going (lying (pages_of before file) its.rest)
  left_behind numbers its lie stops =
      none_left (gone + more) going (lying (pages_of before file) (its.done ++ number ∷ [])) (lying (pages_of before file) its.rest) its.changed.went (enough stops) all
    where
      all : length (filter (λ r. is_among going r.1) (lying (pages_of before file) (its.done ++ number ∷ []) ++ lying (pages_of before file) its.rest)) ≡ length going
      all =
          ap (λ rows. length (filter (λ r. is_among going r.1) rows)) (sym (lying_join (pages_of before file) (its.done ++ number ∷ []) its.rest))
          ∙ ap (λ ns. length (filter (λ r. is_among going r.1) (lying (pages_of before file) ns))) (sym (its.are ∙ joined its.done number its.rest))
          ∙ all_go (pages_of before file) numbers going lie

      -- where nothing follows, these are all
      enough : (next ≡ 0) ⊎ (length going ≤ gone + more) → length going ≤ gone + more
      enough (inr so) = so
      enough (inl none) =
          let ends : its.rest ≡ [] = chain_ends bound (pages_of before file) number next its.rest its.chain goes_on_at_first none in
          let here = gone_count (gone + more) going (lying (pages_of before file) (its.done ++ number ∷ [])) its.changed.went in
          let none_behind : length (filter (λ r. is_among going r.1) (lying (pages_of before file) its.rest)) ≡ 0 = ap (λ rest. length (filter (λ r. is_among going r.1) (lying (pages_of before file) rest))) ends ∙ nothing in
          let sum = ap length (filter-append (λ r. is_among going r.1) (lying (pages_of before file) (its.done ++ number ∷ [])) (lying (pages_of before file) its.rest))
          ∙ length-append (filter (λ r. is_among going r.1) (lying (pages_of before file) (its.done ++ number ∷ []))) (filter (λ r. is_among going r.1) (lying (pages_of before file) its.rest)) in
          omega (arith, here, none_behind, sum, all)

  -- what stands on the chain, where nothing follows or as many went as are to go
  pub passed : (next ≡ 0) ⊎ (length going ≤ gone + more) → Passed file bound going (first ++ later) (gone + more) before known
  passed stops = record {
    image = here.image;
    still_known = here.still_known;
    elsewhere = still_elsewhere;
    links = still_links;
    number = λ numbers first_is is lie. (left_behind numbers (walk numbers first_is is) lie stops).number;
    all = λ numbers first_is is enough differ once. were_all numbers (walk numbers first_is is) enough differ once;
    came = λ numbers first_is is lie. let its = walk numbers first_is is in all_came numbers its (left_behind numbers its lie stops).stay;
  }
    where
      were_all : (numbers : List ℕ) (its : WalkedOn numbers) → gone + more ≡ length going → all_differ (bytes_of (lying (pages_of before file) numbers)) ≡ true → all_differ going ≡ true → AllLie (pages_of before file) numbers going
      were_all numbers its enough differ once =
          let are : numbers ≡ (its.done ++ number ∷ []) ++ its.rest = its.are ∙ joined its.done number its.rest in
          let both : lying (pages_of before file) (its.done ++ number ∷ []) ++ lying (pages_of before file) its.rest ≡ lying (pages_of before file) numbers =
          sym (lying_join (pages_of before file) (its.done ++ number ∷ []) its.rest) ∙ ap (lying (pages_of before file)) (sym are) in
          record {
            rows_differ = differ;
            listed_once = once;
            are_there =
                subst (λ rows. list_all (is_among (bytes_of rows)) going ≡ true) both
                (all_there (gone + more) going (lying (pages_of before file) (its.done ++ number ∷ [])) (lying (pages_of before file) its.rest) its.changed.went (omega (arith, enough))
                (subst (λ rows. all_differ (bytes_of rows) ≡ true) (sym both) differ) once);
          }

      all_came : (numbers : List ℕ) (its : WalkedOn numbers) → staying going (lying (pages_of before file) its.rest) ≡ lying (pages_of before file) its.rest
          → Came (staying going (lying (pages_of before file) numbers)) (first ++ later) (lying (pages_of here.image file) numbers)
      all_came numbers its stay =
          let changed = changed_beside going (first ++ later) [] (gone + more) 0 (lying (pages_of before file) (its.done ++ number ∷ [])) (lying (pages_of here.image file) (its.done ++ number ∷ []))
          (lying (pages_of before file) its.rest) (lying (pages_of before file) its.rest) its.changed (changed_nothing going (lying (pages_of before file) its.rest) stay) in
          let rest = rest_same its.rest (chain_rises bound (pages_of before file) number its.rest its.chain) in
          let are : numbers ≡ (its.done ++ number ∷ []) ++ its.rest = its.are ∙ joined its.done number its.rest in
          let before_all : lying (pages_of before file) (its.done ++ number ∷ []) ++ lying (pages_of before file) its.rest ≡ lying (pages_of before file) numbers =
          sym (lying_join (pages_of before file) (its.done ++ number ∷ []) its.rest) ∙ ap (lying (pages_of before file)) (sym are) in
          let now_all : lying (pages_of here.image file) (its.done ++ number ∷ []) ++ lying (pages_of before file) its.rest ≡ lying (pages_of here.image file) numbers =
          ap (λ rows. lying (pages_of here.image file) (its.done ++ number ∷ []) ++ rows) (sym rest)
          ∙ sym (lying_join (pages_of here.image file) (its.done ++ number ∷ []) its.rest) ∙ ap (lying (pages_of here.image file)) (sym are) in
          subst (λ rows. Came (staying going rows) (first ++ later) (lying (pages_of here.image file) numbers)) before_all
          (subst (λ rows. Came (staying going (lying (pages_of before file) (its.done ++ number ∷ []) ++ lying (pages_of before file) its.rest)) (first ++ later) rows) now_all
          (subst (λ rows. Came (staying going (lying (pages_of before file) (its.done ++ number ∷ []) ++ lying (pages_of before file) its.rest)) rows (lying (pages_of here.image file) (its.done ++ number ∷ []) ++ lying (pages_of before file) its.rest)) (append-nil (first ++ later))
          changed.came))

-- ---- damage

-- an address by its file and its page
pub at_page : (file page : ℕ) (a : Addr) → a.file ≡ file → a.page ≡ page → a ≡ page_at file page
at_page file page a of_file of_page = λ i. record { file = of_file i; page = of_page i }

-- a page that is reached and isn't one of a chain that ends as it must shows that there is none
pub off_reached : (file bound number last : ℕ) (going coming : List (List ℕ)) (gone : ℕ) (before : Image) (known : Option Image) (was read : ℕ)
    (so_far : Reached file bound number going coming gone before known was read) (a : Addr) → OffChain file number bound last so_far.image a → NoChainTo file bound last before a
off_reached file bound number last going coming gone before known was read so_far a its = record {
  of_file = its.of_file;
  off = subst (λ page. is_on bound last page (before a) ≡ false) (sym its.of_page) here;
  none = λ earlier first is. let walked = so_far.walked (earlier ++ last ∷ []) first is in
      none_off bound last (pages_of before file) walked.done number walked.rest earlier (sym walked.are)
      (chain_rest bound (pages_of before file) walked.done number walked.rest (subst (IsChain bound (pages_of before file)) walked.are is))
      (subst (λ b. is_on bound last number (before b) ≡ false) (at_page file number a its.of_file its.of_page) here);
}
  where
    here : is_on bound last number (before a) ≡ false
    here =
        subst (λ b. is_on bound last number (before b) ≡ false) (sym (at_page file number a its.of_file its.of_page))
        (subst (λ p. is_on bound last number p ≡ false) (so_far.ahead number (omega arith))
        (subst (λ b. is_on bound last number (so_far.image b) ≡ false) (at_page file number a its.of_file its.of_page) its.off))

-- ---- page reads

-- the first items of a list that is cut in two in another way are items of its first part
behind : (first rest done : List ℕ) (n : ℕ) (tail : List ℕ) → first ++ rest ≡ done ++ n ∷ tail → length first ≤ length done → (more : List ℕ) × (done ≡ first ++ more)
behind [] rest done n tail same le = (done, refl)
behind (k ∷ first) rest [] n tail same le = absurd (omega (arith, le))
behind (k ∷ first) rest (j ∷ done) n tail same le =
    let its = behind first rest done n tail (ap (drop 1) same) (omega (arith, le)) in
    let head : j ≡ k = sym (cc same) in
    (its.0, ap (λ i. i ∷ done) head ∙ ap (λ ks. k ∷ ks) its.1)

-- where fewer went than are to go, not all of those on which these lie are done
left_to_read : (pages now : Pages) (going coming : List (List ℕ)) (gone : ℕ) (first done : List ℕ) → Changed going coming gone (lying pages done) (lying now done)
    → AllLie pages first going → gone < length going → ((more : List ℕ) × (done ≡ first ++ more)) → ⊥
left_to_read pages now going coming gone first done changed lie less its =
    less_go gone going (lying pages first) (lying pages its.0)
    (subst (λ rows. gone + length (staying going rows) ≡ length rows) (ap (lying pages) its.1 ∙ lying_join pages first its.0) changed.went)
    less (all_go pages first going lie)

module _ (file bound number : ℕ) (going coming : List (List ℕ)) (gone : ℕ) (before : Image) (known : Option Image) (was read now : ℕ)
    (so_far : Reached file bound number going coming gone before known was read) (one : RisesUpTo 1 read now) where
  -- with the page that comes next at most each page of the chain was read
  pub reads_chain : (numbers : List ℕ) → starts numbers ≡ true → IsChain bound (pages_of before file) numbers → RisesUpTo (length numbers) was now
  reads_chain numbers first_is is =
      let its = so_far.walked numbers first_is is in
      let both = ap length its.are ∙ length-append its.done (number ∷ its.rest) in
      record { later = omega (arith, its.few.later, one.later); at_most = omega (arith, its.few.at_most, one.at_most, both) }

  -- and where fewer went than are to go none behind those on which all these lie
  pub reads_first : (first rest : List ℕ) → starts (first ++ rest) ≡ true → IsChain bound (pages_of before file) (first ++ rest) → AllLie (pages_of before file) first going → gone < length going
      → RisesUpTo (length first) was now
  reads_first first rest first_is is lie less =
      let its = so_far.walked (first ++ rest) first_is is in
      let left : length its.done < length first = less_or (length its.done) (length first)
      (λ le. left_to_read (pages_of before file) (pages_of so_far.image file) going coming gone first its.done its.changed lie less (behind first rest its.done number its.rest its.are le)) in
      record { later = omega (arith, its.few.later, one.later); at_most = omega (arith, its.few.at_most, one.at_most, left) }
    where
      less_or : (m n : ℕ) → (n ≤ m → ⊥) → m < n
      less_or m n not_so = omega (arith, not_so)
