-- A file lists a set before and after rows of it went and others came.
use Rattle.std.proofs.Common.{◌≡◌, refl, sym, ap, ap₂, subst, ◌∙◌, ℕ, Bool, true, not, bytes_eq, List, [], ◌∷◌, ◌++◌, map, filter, Option, Some}
use Rattle.std.specs.Prelude.{◌↔◌}
use Rattle.std.specs.Cmp.{IsTotalOrder}
use Rattle.std.specs.List.{AllByRecursion, Contains, list_any}
use Rattle.std.specs.List.Sorted.{IsStrictlySortedBy, IsPermutation}
use Rattle.std.specs.Ordering.{is_eq, eq_by_cmp}
use Rattle.std.specs.declared.cmp.Ordering.{Ordering}
use Rattle.std.specs.declared.cmp.Ordering.TheVariants.{Less, Equal, Greater}
use Rattle.std.proofs.lemmas.Cmp.{tied_itself}
use Rattle.std.proofs.lemmas.List.{map-append}
use Rattle.std.proofs.lemmas.List.Sorted.{IsPermutation-refl, IsPermutation-sym, IsPermutation-trans, IsPermutation-append_right, IsPermutation-map}
use Rattle.std.proofs.lemmas.Option.{same_Some}
use Rattle.std.proofs.lemmas.Slice.Eq.{bytes_eq-Decides}
use Rattle.calculus.specs.declared.probe.Place.{Place}
use Rattle.page_chain.specs.Chains.{chain}
use Rattle.page_chain.specs.Lists.{◌>>=◌, each, once}
use Rattle.page_chain.specs.Lying.{Lying, lying, bytes_of, is_among, staying, all_differ, Came}
use Rattle.page_chain.specs.Pages.{Pages}
use Rattle.page_chain.specs.Renewed.{AllLie}
use Rattle.stored_database.specs.Catalogue.{Lists, listed, most_pages}
use Rattle.stored_database.proofs.Listing.{in_moved, in_order_moved}
use Rattle.stored_database.proofs.Members.{IsIn, of_all, tests_of, in_map, map_in, each_parts, read_of}
use Rattle.stored_database.proofs.Reading.{bind_some}
use Rattle.stored_database.proofs.Sets.{IsExact, IsOnce, is_once, sorted_in_order, sorted_exact}
use Rattle.stored_database.specs.After.{stays, after_change, IsChange}
use Rattle.catalog_pages.proofs.Items.{same_tests, any_of, of_any, within, among_in, in_among, distinct_of, differ_of, apart_distinct, map_distinct, differ_moved, filter_map}

equal_of : (o : Ordering) → is_eq o ≡ true → o ≡ Equal
equal_of Less e = cc e
equal_of Equal e = refl
equal_of Greater e = cc e

-- the bytes of the rows that stay are the bytes that stay
bytes_staying : (going : List (List ℕ)) (rows : Lying) → bytes_of (staying going rows) ≡ filter (λ row. not (is_among going row)) (bytes_of rows)
bytes_staying going rows = sym (filter_map (λ row. not (is_among going row)) (λ (r : Place × List ℕ). not (is_among going r.1)) (λ (r : Place × List ℕ). r.1) rows (λ r at. refl))

module _ {A : Type 0} {cmp : A → A → Ordering} (order : IsTotalOrder cmp) (test : A → Bool) (spell : A → List ℕ) (read : List ℕ → Option A)
    (one : (bytes : List ℕ) (a : A) → (read bytes ≡ Some a) ↔ ((test a ≡ true) × (bytes ≡ spell a))) where
  -- The items whose bytes lie on these pages, in the order of their places, and their set.
  pub record OnPages (pages : Pages) (numbers : List ℕ) (set : List A) : Type 0 where
    pub items : List A
    pub bytes : bytes_of (lying pages numbers) ≡ map spell items
    pub are : once cmp items ≡ Some set
    pub stand : (x : A) → IsIn x items → test x ≡ true

  -- rows that are read are the bytes of what is read
  spelled : (rows : List (List ℕ)) (xs : List A) → each read rows ≡ Some xs → rows ≡ map spell xs
  spelled [] xs h = ap (map spell) (same_Some [] xs h)
  spelled (row ∷ rows) xs h =
      let p = each_parts read row rows xs h in
      ap₂ (λ (r : List ℕ) (rs : List (List ℕ)). r ∷ rs) ((one row p.0).0 p.2).1 (spelled rows p.1 p.3) ∙ ap (map spell) (sym p.4)

  -- what a file lists lies on its pages
  pub on_pages : (pages : Pages) (numbers : List ℕ) (set : List A) → chain most_pages pages ≡ Some numbers → listed read cmp pages ≡ Some set → OnPages pages numbers set
  unfolding listed
  on_pages pages numbers set chained h =
      let a = bind_some (chain most_pages pages) (λ numbers. each read (bytes_of (lying pages numbers)) >>= once cmp) set h in
      let same : a.0 ≡ numbers = same_Some a.0 numbers (sym a.1 ∙ chained) in
      let its : (each read (bytes_of (lying pages numbers)) >>= once cmp) ≡ Some set = subst (λ numbers. (each read (bytes_of (lying pages numbers)) >>= once cmp) ≡ Some set) same a.2 in
      let b = bind_some (each read (bytes_of (lying pages numbers))) (once cmp) set its in
      record {
        items = b.0;
        bytes = spelled (bytes_of (lying pages numbers)) b.0 b.1;
        are = b.2;
        stand = λ x at. (let r = read_of read (bytes_of (lying pages numbers)) b.0 x b.1 at in ((one r.0 x).0 r.2).0);
      }

  module _ (pages : Pages) (numbers : List ℕ) (set going coming : List A) (on : OnPages pages numbers set) (change : IsChange cmp going coming set)
      (gone come : List (List ℕ)) (goes : IsPermutation gone (map spell going)) (comes : IsPermutation come (map spell coming)) where
    were : IsOnce order on.items set
    were = is_once order on.items set on.are

    exact : IsExact cmp set
    exact = sorted_exact order set (subst (IsStrictlySortedBy cmp) (sym were.set) (sorted_in_order order on.items))

    there : (y : A) → IsIn y going → IsIn y set
    there y at = within set y (of_all (Contains set) going y change.are_there at)

    same_item : (x y : A) → IsIn x set → IsIn y set → spell x ≡ spell y → x ≡ y
    same_item x y at bt e =
        same_Some x y (sym ((one (spell x) x).1 (on.stand x (were.from x at), refl)) ∙ (one (spell x) y).1 (on.stand y (were.from y bt), e))

    -- an item's bytes are those of a row that goes where it is equal to an item that goes
    among_going : (x : A) → IsIn x on.items → is_among gone (spell x) ≡ list_any (λ y. is_eq (cmp y x)) going
    among_going x at = same_tests (is_among gone (spell x)) (list_any (λ y. is_eq (cmp y x)) going) to from
      where
        to : is_among gone (spell x) ≡ true → list_any (λ y. is_eq (cmp y x)) going ≡ true
        to e =
            let m = map_in spell going (spell x) (in_moved gone (map spell going) (spell x) goes (among_in gone (spell x) e)) in
            let same : x ≡ m.0 = same_item x m.0 (were.to x at) (there m.0 m.1) m.2 in
            of_any (λ y. is_eq (cmp y x)) going m.0 m.1 (ap is_eq (ap (cmp m.0) same ∙ tied_itself order m.0))

        from : list_any (λ y. is_eq (cmp y x)) going ≡ true → is_among gone (spell x) ≡ true
        from e =
            let m = any_of (λ y. is_eq (cmp y x)) going e in
            let same : m.0 ≡ x = exact m.0 x (there m.0 m.1) (were.to x at) (equal_of (cmp m.0 x) m.2) in
            in_among gone (spell x) (in_moved (map spell going) gone (spell x) (IsPermutation-sym gone (map spell going) goes) (subst (λ z. IsIn (spell z) (map spell going)) same (in_map spell going m.0 m.1)))

    rows_stay : filter (λ row. not (is_among gone row)) (map spell on.items) ≡ map spell (filter (stays cmp going) on.items)
    rows_stay = filter_map (λ row. not (is_among gone row)) (stays cmp going) spell on.items (λ x at. ap not (among_going x at))

    alike : (a b : A) → IsIn a set → IsIn b set → bytes_eq (spell a) (spell b) ≡ true → is_eq (cmp a b) ≡ true
    alike a b at bt e = ap is_eq (ap (cmp a) (sym (same_item a b at bt ((bytes_eq-Decides (spell a) (spell b)).0 e))) ∙ tied_itself order a)

    -- the rows that are to go are there once
    pub all_lie : AllLie pages numbers gone
    all_lie = record {
      rows_differ = subst (λ rows. all_differ rows ≡ true) (sym on.bytes)
          (differ_of bytes_eq (map spell on.items)
          (map_distinct (λ a b. is_eq (cmp a b)) bytes_eq spell on.items (λ a b at bt. alike a b (were.to a at) (were.to b bt)) (apart_distinct (λ a b. is_eq (cmp a b)) on.items were.apart)));
      listed_once = differ_moved (map spell going) gone (IsPermutation-sym gone (map spell going) goes)
          (differ_of bytes_eq (map spell going)
          (map_distinct (eq_by_cmp cmp) bytes_eq spell going (λ a b at bt. alike a b (there a at) (there b bt)) (distinct_of (eq_by_cmp cmp) going change.listed_once)));
      are_there = tests_of (is_among (bytes_of (lying pages numbers))) gone (λ row at. in_among (bytes_of (lying pages numbers)) row (subst (IsIn row) (sym on.bytes) (lies row at)));
    }
      where
        lies : (row : List ℕ) → IsIn row gone → IsIn row (map spell on.items)
        lies row at =
            let m = map_in spell going row (in_moved gone (map spell going) row goes at) in
            subst (λ r. IsIn r (map spell on.items)) (sym m.2) (in_map spell on.items m.0 (were.from m.0 (there m.0 m.1)))

    module _ (later : Pages) (now : List ℕ) (came : Came (staying gone (lying pages numbers)) come (lying later now)) where
      here : List A
      here = filter (stays cmp going) on.items ++ coming

      abbrev pub after : List A
      after = after_change cmp going coming set

      is_now : once cmp here ≡ Some after
      unfolding here
      is_now = change.in_any_order on.items here on.are (IsPermutation-refl here)

      moved : IsPermutation here after
      moved = let are = is_once order here after is_now in subst (IsPermutation here) (sym are.set) (in_order_moved cmp here are.apart)

      joined : bytes_of (staying gone (lying pages numbers) ++ came.new) ≡ map spell (filter (stays cmp going) on.items) ++ come
      joined =
          map-append (λ (r : Place × List ℕ). r.1) (staying gone (lying pages numbers)) came.new
          ∙ ap₂ (λ (xs ys : List (List ℕ)). xs ++ ys) (bytes_staying gone (lying pages numbers) ∙ ap (filter (λ row. not (is_among gone row))) on.bytes ∙ rows_stay) came.bytes

      -- the rows afterwards are the bytes of the set afterwards
      pub rows_after : IsPermutation (bytes_of (lying later now)) (map spell after)
      unfolding here
      rows_after =
          IsPermutation-trans (bytes_of (lying later now)) (bytes_of (staying gone (lying pages numbers) ++ came.new)) (map spell after)
          (IsPermutation-map (λ (r : Place × List ℕ). r.1) (lying later now) (staying gone (lying pages numbers) ++ came.new) came.all)
          (subst (λ rows. IsPermutation rows (map spell after)) (sym joined)
          (IsPermutation-trans (map spell (filter (stays cmp going) on.items) ++ come) (map spell here) (map spell after)
          (subst (IsPermutation (map spell (filter (stays cmp going) on.items) ++ come)) (sym (map-append spell (filter (stays cmp going) on.items) coming))
          (IsPermutation-append_right (map spell (filter (stays cmp going) on.items)) come (map spell coming) comes))
          (IsPermutation-map spell here after moved)))

      -- so the file lists it
      pub lists_after : ((xs : List A) → (listed read cmp later ≡ Some xs) ↔ Lists cmp test spell later xs) → chain most_pages later ≡ Some now → AllByRecursion (λ x. test x ≡ true) after
          → listed read cmp later ≡ Some after
      lists_after lists chained stand =
          (lists after).1 (record { ascends = sorted_in_order order (filter (stays cmp going) set ++ coming); stand = stand; has = record { numbers = now; chain = chained; rows = rows_after } })
