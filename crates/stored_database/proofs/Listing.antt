-- A file lists items exactly where its rows are their bytes, in any order.
use Rattle.std.proofs.Common.{◌≡◌, refl, sym, ap, ap₂, subst, ◌∙◌, inl, inr, ℕ, suc, ◌==◌, Bool, true, false, List, [], ◌∷◌, map, length, Option, Some, option_map}
use Rattle.std.specs.Prelude.{◌↔◌}
use Rattle.std.proofs.lemmas.Option.{same_Some}
use Rattle.std.proofs.lemmas.List.Elements.{All-from_recursion, recursion_from_All}
use Rattle.std.proofs.lemmas.List.Sorted.{IsPermutation-refl, IsPermutation-sym, IsPermutation-trans, IsPermutation-cons, IsPermutation-middle, IsPermutation-map, All-permutation, length_permutation}
use Rattle.std.specs.Cmp.{IsTotalOrder}
use Rattle.std.specs.List.{AllByRecursion}
use Rattle.std.specs.List.Sorted.{IsStrictlySortedBy, IsPermutation}
use Rattle.std.specs.Ordering.{is_eq}
use Rattle.std.specs.declared.cmp.Ordering.{Ordering}
use Rattle.std.specs.declared.cmp.Ordering.TheVariants.{Less, Equal, Greater}
use Rattle.calculus.specs.Lists.{insert_by}
use Rattle.page_chain.specs.Chains.{chain}
use Rattle.page_chain.specs.Lists.{◌>>=◌, when, each, in_order, once}
use Rattle.page_chain.specs.Lying.{lying, bytes_of}
use Rattle.page_chain.specs.Pages.{Pages}
use Rattle.stored_database.specs.Catalogue.{Lists, listed, most_pages}
use Rattle.stored_database.specs.Columns.{column_of, column_bytes, is_column}
use Rattle.stored_database.specs.Entries.{entry_of, entry_bytes, is_entry}
use Rattle.stored_database.specs.Laws.{WhatIsListed}
use Rattle.stored_database.specs.Parts.{part_of, part_bytes, is_part}
use Rattle.stored_database.proofs.ColumnBytes.{columns_are_their_bytes}
use Rattle.stored_database.proofs.EntryBytes.{entries_are_their_bytes}
use Rattle.stored_database.proofs.Members.{IsIn, all_of, of_all, in_map, map_in, read_of, Apart, each_parts}
use Rattle.stored_database.proofs.Orders.{entry_total, column_total, part_total}
use Rattle.stored_database.proofs.PartBytes.{parts_are_their_bytes}
use Rattle.stored_database.proofs.Reading.{bind_some, number_itself}
use Rattle.stored_database.proofs.Sets.{IsOnce, is_once, sorted_in_order, insert_as, insert_cons, set_is, in_order_in}

-- ---- items in another order

-- what is in a list is in each with its items
pub in_moved : {A : Type 0} (xs ys : List A) (x : A) → IsPermutation xs ys → IsIn x xs → IsIn x ys
in_moved {A} xs ys x moved at =
    let all : AllByRecursion (λ y. IsIn y ys) ys = all_of (λ y. IsIn y ys) ys (λ y k. k) in
    of_all (λ y. IsIn y ys) xs x (recursion_from_All (λ y. IsIn y ys) xs (All-permutation (λ y. IsIn y ys) ys xs (IsPermutation-sym xs ys moved) (All-from_recursion (λ y. IsIn y ys) ys all))) at

-- an item that is equal to none is put among them
insert_moved : {A : Type 0} (cmp : A → A → Ordering) (x : A) (ys : List A) → AllByRecursion (λ y. is_eq (cmp x y) ≡ false) ys → IsPermutation (x ∷ ys) (insert_by cmp x ys)
insert_moved cmp x [] new = IsPermutation-refl (x ∷ [])
insert_moved {A} cmp x (y ∷ ys) new = subst (IsPermutation (x ∷ y ∷ ys)) (sym (insert_cons cmp x y ys)) (go (cmp x y) new.0 (insert_moved cmp x ys new.1))
  where
    go : (o : Ordering) → is_eq o ≡ false → IsPermutation (x ∷ ys) (insert_by cmp x ys) → IsPermutation (x ∷ y ∷ ys) (insert_as o x y ys (insert_by cmp x ys))
    go Less h later = IsPermutation-refl (x ∷ y ∷ ys)
    go Equal h later = cc h
    go Greater h later =
        IsPermutation-trans (x ∷ y ∷ ys) (y ∷ x ∷ ys) (y ∷ insert_by cmp x ys) (IsPermutation-sym (y ∷ x ∷ ys) (x ∷ y ∷ ys) (IsPermutation-middle (y ∷ []) x ys)) (IsPermutation-cons y (x ∷ ys) (insert_by cmp x ys) later)

-- items that are apart are those of their set
pub in_order_moved : {A : Type 0} (cmp : A → A → Ordering) (xs : List A) → Apart (λ a b. is_eq (cmp a b)) xs → IsPermutation xs (in_order cmp xs)
in_order_moved cmp [] apart = IsPermutation-refl []
in_order_moved {A} cmp (x ∷ xs) apart =
    let later = in_order_moved cmp xs apart.1 in
    let new : AllByRecursion (λ y. is_eq (cmp x y) ≡ false) (in_order cmp xs) = all_of (λ y. is_eq (cmp x y) ≡ false) (in_order cmp xs) (λ y at. of_all (λ y. is_eq (cmp x y) ≡ false) xs y apart.0 (in_order_in cmp xs y at)) in
    IsPermutation-trans (x ∷ xs) (x ∷ in_order cmp xs) (insert_by cmp x (in_order cmp xs)) (IsPermutation-cons x xs (in_order cmp xs) later) (insert_moved cmp x (in_order cmp xs) new)

-- ---- rows that are read

module _ {A : Type 0} {cmp : A → A → Ordering} (order : IsTotalOrder cmp) (test : A → Bool) (spell : A → List ℕ) (read : List ℕ → Option A)
    (one : (bytes : List ℕ) (a : A) → (read bytes ≡ Some a) ↔ ((test a ≡ true) × (bytes ≡ spell a))) where
  -- rows that are read are the bytes of what is read
  bytes_again : (rows : List (List ℕ)) (xs : List A) → each read rows ≡ Some xs → map spell xs ≡ rows
  bytes_again [] xs h = ap (map spell) (sym (same_Some [] xs h))
  bytes_again (row ∷ rows) xs h =
      let p = each_parts read row rows xs h in
      ap (map spell) p.4 ∙ ap₂ (λ (r : List ℕ) (rs : List (List ℕ)). r ∷ rs) (sym ((one row p.0).0 p.2).1) (bytes_again rows p.1 p.3)

  lists_of : (pages : Pages) (xs : List A) → listed read cmp pages ≡ Some xs → Lists cmp test spell pages xs
  unfolding listed
  lists_of pages xs h =
      let a = bind_some (chain most_pages pages) _ xs h in
      let b = bind_some (each read (bytes_of (lying pages a.0))) (once cmp) xs a.2 in
      let o : IsOnce order b.0 xs = is_once order b.0 xs b.2 in
      record {
        ascends = subst (IsStrictlySortedBy cmp) (sym o.set) (sorted_in_order order b.0);
        stand = all_of (λ x. test x ≡ true) xs (λ x at. (let r = read_of read (bytes_of (lying pages a.0)) b.0 x b.1 (o.from x at) in ((one r.0 x).0 r.2).0));
        has = record {
          numbers = a.0;
          chain = a.1;
          rows = subst (λ rows. IsPermutation rows (map spell xs)) (bytes_again (bytes_of (lying pages a.0)) b.0 b.1)
              (IsPermutation-map spell b.0 xs (subst (IsPermutation b.0) (sym o.set) (in_order_moved cmp b.0 o.apart)));
        };
      }

  -- rows that can be read are
  each_reads : (rows : List (List ℕ)) → ((row : List ℕ) → IsIn row rows → (a : A) × (read row ≡ Some a)) → (xs : List A) × (each read rows ≡ Some xs)
  each_reads [] h = ([], refl)
  each_reads (row ∷ rows) h =
      let first = h row (inl refl) in
      let rest = each_reads rows (λ r at. h r (inr at)) in
      (first.0 ∷ rest.0, λ i. first.1 i >>= (λ y. option_map (λ ys. y ∷ ys) (rest.1 i)))

  length_map : {X Y : Type 0} (f : X → Y) (xs : List X) → length (map f xs) ≡ length xs
  length_map f [] = refl
  length_map f (x ∷ xs) = ap suc (length_map f xs)

  of_lists : (pages : Pages) (xs : List A) → Lists cmp test spell pages xs → listed read cmp pages ≡ Some xs
  unfolding listed
  of_lists pages xs l =
      let e = each_reads rows (λ row at. (let x = item row at in (x.0, x.2))) in
      let es = e.0 in
      let again = bytes_again rows es e.1 in
      let is : xs ≡ in_order cmp es = set_is order xs es l.ascends (λ z at. to es again (λ x k. (read_of read rows es x e.1 k)) z at) (λ z at. (let r = read_of read rows es z e.1 at in
      let x = item r.0 r.1 in subst (λ z. IsIn z xs) (same_Some x.0 z (sym x.2 ∙ r.2)) x.1)) in
      let long : length (in_order cmp es) ≡ length es = ap length (sym is) ∙ sym (length_map spell xs) ∙ length_permutation rows (map spell xs) l.has.rows ∙ sym (ap length again) ∙ length_map spell es in
      let passes : (length (in_order cmp es) == length es) ≡ true = ap (λ n. n == length es) long ∙ number_itself (length es) in
      ap (λ o. o >>= (λ numbers. each read (bytes_of (lying pages numbers)) >>= once cmp)) l.has.chain
      ∙ ap (λ o. o >>= once cmp) e.1
      ∙ (λ i. when (passes i) (sym is i))
    where
      rows : List (List ℕ)
      rows = bytes_of (lying pages l.has.numbers)

      item : (row : List ℕ) → IsIn row rows → (x : A) × IsIn x xs × (read row ≡ Some x)
      item row at =
          let m = map_in spell xs row (in_moved rows (map spell xs) row l.has.rows at) in
          (m.0, m.1, (one row m.0).1 (of_all (λ x. test x ≡ true) xs m.0 l.stand m.1, m.2))

      to : (es : List A) → map spell es ≡ rows → ((x : A) → IsIn x es → (row : List ℕ) × IsIn row rows × (read row ≡ Some x)) → (z : A) → IsIn z xs → IsIn z es
      to es again back z at =
          let there = in_moved (map spell xs) rows (spell z) (IsPermutation-sym rows (map spell xs) l.has.rows) (in_map spell xs z at) in
          let m = map_in spell es (spell z) (subst (IsIn (spell z)) (sym again) there) in
          let r = back m.0 m.1 in
          let own = (one (spell z) z).1 (of_all (λ x. test x ≡ true) xs z l.stand at, refl) in
          let its = (one (spell z) m.0).1 (((one r.0 m.0).0 r.2).0, m.2) in
          subst (λ z. IsIn z es) (same_Some m.0 z (sym its ∙ own)) m.1

  lists_exactly : (pages : Pages) (xs : List A) → (listed read cmp pages ≡ Some xs) ↔ Lists cmp test spell pages xs
  lists_exactly pages xs = (lists_of pages xs, of_lists pages xs)

pub what_is_listed : WhatIsListed
what_is_listed = record {
  entries = lists_exactly entry_total is_entry entry_bytes entry_of entries_are_their_bytes;
  columns = lists_exactly column_total is_column column_bytes column_of columns_are_their_bytes;
  parts = lists_exactly part_total is_part part_bytes part_of parts_are_their_bytes;
}
