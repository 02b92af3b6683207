-- The attributes that columns say.
use Rattle.std.proofs.Common.{◌≡◌, refl, sym, ap, ap₂, ◌∙◌, ℕ, suc, ◌+◌, ◌<◌, ◌≤◌, ◌==◌, ◌&&◌, Bool, true, false, List, [], ◌∷◌, map, filter, length, drop, get_or}
use Rattle.std.proofs.Common.{add-one}
use Rattle.std.proofs.lemmas.List.{drop_all}
use Rattle.page_chain.specs.Lists.{when, are_from}
use Rattle.stored_database.specs.Catalogue.{Catalogue}
use Rattle.stored_database.specs.Columns.{Column}
use Rattle.stored_database.specs.Spelled.{attrs_of}
use Rattle.catalog_rows.specs.Shown.{column_in}
use Rattle.catalog_rows.specs.declared.columns.ColumnRow.{ColumnRow}
use Rattle.std.specs.Ordering.{is_eq}
use Rattle.catalog_read.specs.Read.{catalogue_shown}
use Rattle.catalog_read.specs.Rows.{column_side}
use Rattle.catalog_read.specs.declared.rows.CatalogueRows.{CatalogueRows}
use Rattle.catalog_read.proofs.Each.{dropped}
use Rattle.catalog_read.proofs.Sides.{filter_alike, at_column}

-- the places of rows are those of the columns that they say
places_said : (n : ℕ) (cs : List ColumnRow) → are_from (λ (c : ColumnRow). c.place) n cs ≡ are_from (λ (c : Column). c.place) n (map column_in cs)
places_said n [] = refl
places_said n (c ∷ cs) = ap (λ b. (c.place == n) && b) (places_said (suc n) cs)

-- and so are their attributes
attrs_said : (cs : List ColumnRow) → map (λ (c : ColumnRow). c.attr) cs ≡ map (λ (c : Column). c.attr) (map column_in cs)
attrs_said [] = refl
attrs_said (c ∷ cs) = ap (λ l. c.attr ∷ l) (attrs_said cs)

-- the attributes of a file are those of its columns, where their places are 0, 1, 2 and so on
pub attrs_are : (cat : Catalogue) (file : ℕ) (run : List ColumnRow) (r : Bool) → map column_in run ≡ filter (λ (c : Column). c.file == file) cat.columns → r ≡ are_from (λ (c : ColumnRow). c.place) 0 run
    → when r (map (λ (c : ColumnRow). c.attr) run) ≡ attrs_of cat file
unfolding attrs_of
attrs_are cat file run r is e =
    ap₂ when (e ∙ places_said 0 run) (attrs_said run) ∙ ap (λ (l : List Column). when (are_from (λ (c : Column). c.place) 0 l) (map (λ (c : Column). c.attr) l)) is

-- those that rows say
pub attrs_found : (rows : CatalogueRows) (file : ℕ) (cs run : List ColumnRow) (r : Bool) → cs ≡ rows.columns → map column_in run ≡ filter (λ c. is_eq (column_side file c)) (map column_in cs)
    → r ≡ are_from (λ (c : ColumnRow). c.place) 0 run → when r (map (λ (c : ColumnRow). c.attr) run) ≡ attrs_of (catalogue_shown rows) file
unfolding catalogue_shown
attrs_found rows file cs run r are is e =
    attrs_are (catalogue_shown rows) file run r
    (is ∙ filter_alike (λ c. is_eq (column_side file c)) (λ (c : Column). c.file == file) (at_column file) (map column_in cs) ∙ ap (λ l. filter (λ (c : Column). c.file == file) (map column_in l)) are) e

-- ---- places, one by one

both_true : (a b : Bool) → a ≡ true → (a && b) ≡ b
both_true true b h = refl
both_true false b h = cc

one_false : (a b : Bool) → a ≡ false → (a && b) ≡ false
one_false true b h = cc
one_false false b h = refl

module _ {X : Type 0} (number : X → ℕ) (xs : List X) (i : ℕ) (x : X) (low : i < length xs) (is : x ≡ get_or xs i x) where
  -- the place is the one
  pub place_next : (n : ℕ) (all : Bool) → (number x == n) ≡ true → are_from number n (drop i xs) ≡ all → are_from number (n + 1) (drop (i + 1) xs) ≡ all
  place_next n all e inv =
      (λ j. are_from number (add-one n j) (drop (i + 1) xs))
      ∙ sym (both_true (number x == n) (are_from number (suc n) (drop (i + 1) xs)) e)
      ∙ ap (are_from number n) (sym (dropped xs i x low is))
      ∙ inv

  -- it is another
  pub place_fails : (n : ℕ) (all : Bool) → (number x == n) ≡ false → are_from number n (drop i xs) ≡ all → false ≡ all
  place_fails n all e inv =
      sym (one_false (number x == n) (are_from number (suc n) (drop (i + 1) xs)) e)
      ∙ ap (are_from number n) (sym (dropped xs i x low is))
      ∙ inv

pub places_end : {X : Type 0} (number : X → ℕ) (n : ℕ) (xs : List X) (i : ℕ) (all : Bool) → length xs ≤ i → are_from number n (drop i xs) ≡ all → true ≡ all
places_end number n xs i all end inv = ap (are_from number n) (sym (drop_all i xs end)) ∙ inv
