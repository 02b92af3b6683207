-- What is among rows, by their bytes and by the rows themselves.
use Rattle.std.proofs.Common.{◌≡◌, refl, sym, ap, ap₂, subst, ◌∙◌, ℕ, suc, ◌&&◌, ◌||◌, not, true, IsTrue, List, [], ◌∷◌, map, Some, option_map, arith, bytes_eq}
use Rattle.std.specs.List.{list_all, All}
use Rattle.std.specs.Cmp.{both_ways}
use Rattle.std.specs.Ordering.{eq_by_cmp}
use Rattle.std.proofs.lemmas.Bool.{and_parts}
use Rattle.std.proofs.lemmas.Cmp.{eq_by_cmp_equiv}
use Rattle.std.proofs.lemmas.List.Elements.{All-cons}
use Rattle.std.proofs.lemmas.Slice.Eq.{bytes_eq-Decides}
use Rattle.calculus.specs.declared.value.Domain.{Domain}
use Rattle.calculus.specs.Orders.{row_total}
use Rattle.calculus.specs.Rows.{Row, has}
use Rattle.calculus.specs.Value.{row_cmp}
use Rattle.calculus.proofs.Sets.{same_exact}
use Rattle.am_traits.specs.Placed.{Placed, rows_of, rows_differ}
use Rattle.page_cells.specs.RowBytes.{is_row, row_bytes}
use Rattle.page_chain.specs.Lists.{each}
use Rattle.page_chain.specs.Lying.{Lying, bytes_of, is_among, all_differ}
use Rattle.page_chain.specs.Rows.{read_with, reader}
use Rattle.heap_am.proofs.Each.{each_first, each_cons}
use Rattle.heap_am.proofs.Lying.{read_keeps}
use Rattle.heap_am.proofs.RowLaws.{reader_row, reader_spelled, same_bytes}

module _ (ds : List Domain) where
  -- the bytes of a row of the domains
  abbrev pub bytes : Row → List ℕ
  bytes row = row_bytes row ds

  -- each is a row of the domains
  abbrev pub AreRows : List Row → Type 0
  AreRows rows = All (λ row. IsTrue (is_row row ds)) rows

  pub same_test : (r s : Row) → IsTrue (is_row r ds) → IsTrue (is_row s ds) → bytes_eq (bytes r) (bytes s) ≡ eq_by_cmp row_cmp r s
  same_test r s t u =
      both_ways (bytes_eq (bytes r) (bytes s)) (eq_by_cmp row_cmp r s)
      (λ h. let e = same_bytes r s ds t u ((bytes_eq-Decides (bytes r) (bytes s)).0 h) in ap (eq_by_cmp row_cmp r) (sym e) ∙ (eq_by_cmp_equiv row_total).refl r)
      (λ h. (bytes_eq-Decides (bytes r) (bytes s)).1 (ap bytes (same_exact r s h)))

  -- among rows of the domains
  pub among_rows : (row : Row) (rows : List Row) → IsTrue (is_row row ds) → AreRows rows → is_among (map bytes rows) (bytes row) ≡ has rows row
  among_rows row [] t all = refl
  among_rows row (r ∷ rows) t all = ap₂ (λ a b. a || b) (same_test row r t (all 0 r (omega arith))) (among_rows row rows t (λ k d lt. all (suc k) d (omega arith)))

  pub differ_rows : (rows : List Row) → AreRows rows → all_differ (map bytes rows) ≡ rows_differ rows
  differ_rows [] all = refl
  differ_rows (r ∷ rows) all =
      ap₂ (λ a b. not a && b) (among_rows r rows (all 0 r (omega arith)) (λ k d lt. all (suc k) d (omega arith))) (differ_rows rows (λ k d lt. all (suc k) d (omega arith)))

  -- rows that are read from what lies on pages are rows of the domains, and have its bytes
  pub record Lain (xs : Lying) (rows : Placed) : Type 0 where
    pub all : AreRows (rows_of rows)
    pub same : bytes_of xs ≡ map bytes (rows_of rows)

  pub lain : (xs : Lying) (rows : Placed) → each (read_with (reader ds)) xs ≡ Some rows → Lain xs rows
  lain [] rows e = let same : [] ≡ rows = cc in subst (Lain []) same (record { all = λ k d lt. absurd (omega arith); same = refl })
  lain (x ∷ xs) rows e =
      let h = each_first (read_with (reader ds)) x xs rows e in
      let k = read_keeps (reader ds) x h.y h.first in
      let s = reader_spelled ds x.1 h.y.1 k.row in
      let l = lain xs h.ys h.rest in
      subst (Lain (x ∷ xs)) (sym h.are) (record {
        all = All-cons (λ row. IsTrue (is_row row ds)) h.y.1 (rows_of h.ys) s.fits l.all;
        same = ap₂ (λ b bs. b ∷ bs) (sym s.spells) l.same;
      })

  -- what lies on pages with the bytes of rows is read as those rows
  pub record ReadAs (xs : Lying) (rows : List Row) : Type 0 where
    pub placed : Placed
    pub read : each (read_with (reader ds)) xs ≡ Some placed
    pub are : rows_of placed ≡ rows

  pub read_as : (xs : Lying) (rows : List Row) → AreRows rows → bytes_of xs ≡ map bytes rows → ReadAs xs rows
  read_as [] [] all e = record { placed = []; read = refl; are = refl }
  read_as [] (r ∷ rows) all e = cc
  read_as (x ∷ xs) [] all e = cc
  read_as (x ∷ xs) (r ∷ rows) all e =
      let first : x.1 ≡ bytes r = cc in
      let rest : bytes_of xs ≡ map bytes rows = cc in
      let h = read_as xs rows (λ k d lt. all (suc k) d (omega arith)) rest in
      let here : read_with (reader ds) x ≡ Some (x.0, r) = ap (option_map (λ row. (x.0, row))) (ap (reader ds) first ∙ reader_row r ds (all 0 r (omega arith))) in
      record { placed = (x.0, r) ∷ h.placed; read = each_cons (read_with (reader ds)) x xs (x.0, r) h.placed here h.read; are = ap (λ l. r ∷ l) h.are }

  pub all_among : (rows going : List Row) → AreRows rows → AreRows going → All (λ row. IsTrue (has rows row)) going → list_all (is_among (map bytes rows)) (map bytes going) ≡ true
  all_among rows [] all go there = refl
  all_among rows (g ∷ going) all go there =
      let here : is_among (map bytes rows) (bytes g) ≡ true = among_rows g rows (go 0 g (omega arith)) all ∙ there 0 g (omega arith) in
      (λ i. here i && all_among rows going all (λ k d lt. go (suc k) d (omega arith)) (λ k d lt. there (suc k) d (omega arith)) i)

  -- and back
  pub among_all : (rows going : List Row) → AreRows rows → AreRows going → list_all (is_among (map bytes rows)) (map bytes going) ≡ true → All (λ row. IsTrue (has rows row)) going
  among_all rows [] all go there = λ k d lt. absurd (omega arith)
  among_all rows (g ∷ going) all go there =
      let both = and_parts (is_among (map bytes rows) (bytes g)) (list_all (is_among (map bytes rows)) (map bytes going)) there in
      All-cons (λ row. IsTrue (has rows row)) g going (sym (among_rows g rows (go 0 g (omega arith)) all) ∙ both.0) (among_all rows going all (λ k d lt. go (suc k) d (omega arith)) both.1)
