-- Rows in their order lie beside what they belong to in runs.
use Rattle.std.specs.Prelude.{◌≡◌, ℕ}
use Rattle.std.proofs.Common.{refl, sym, ap, ◌∙◌}
use Rattle.std.specs.Cmp.{IsTotalOrder}
use Rattle.std.specs.Ordering.{nat_cmp, ordering_reverse, ordering_then}
use Rattle.std.specs.declared.cmp.Ordering.{Ordering}
use Rattle.std.specs.declared.cmp.Ordering.TheVariants.{Less, Equal, Greater}
use Rattle.std.proofs.lemmas.Cmp.{nat_cmp_total, on_total, then_total}
use Rattle.stored_database.specs.Columns.{Column, column_cmp}
use Rattle.stored_database.specs.Entries.{Entry, entry_cmp}
use Rattle.stored_database.specs.Parts.{Part, part_cmp}
use Rattle.catalog_read.specs.Rows.{Splits, entry_side, column_side, part_side}
use Rattle.catalog_read.specs.declared.rows.TreeKey.{TreeKey}

module _ {K A : Type 0} {c : K → K → Ordering} (total : IsTotalOrder c) (key : A → K) (order : A → A → Ordering)
    (coarse : (a b : A) → order a b ≡ Less → c (key a) (key b) ≡ Greater → ⊥) (k : K) where
  lower : (a b : A) (o : Ordering) → c (key a) (key b) ≡ o → order a b ≡ Less → c (key b) k ≡ Less → c (key a) k ≡ Less
  lower a b Less e h low = total.trans (key a) (key b) k e low
  lower a b Equal e h low = total.congr (key a) (key b) k e ∙ low
  lower a b Greater e h low = absurd (coarse a b h e)

  greater : (a b : A) (o : Ordering) → c (key a) (key b) ≡ o → order a b ≡ Less → c (key a) k ≡ Greater → c (key b) k ≡ Greater
  greater a b Less e h high =
      let behind : c k (key a) ≡ Less = total.antisymm k (key a) ∙ ap ordering_reverse high in
      total.antisymm (key b) k ∙ ap ordering_reverse (total.trans k (key a) (key b) behind e)
  greater a b Equal e h high = sym (total.congr (key a) (key b) k e) ∙ high
  greater a b Greater e h high = absurd (coarse a b h e)

  splits_by : Splits order (λ a. c (key a) k)
  splits_by = record { below = λ a b h low. lower a b (c (key a) (key b)) refl h low; above = λ a b h high. greater a b (c (key a) (key b)) refl h high }

pub entries_split : (file : ℕ) → Splits entry_cmp (entry_side file)
entries_split file = splits_by nat_cmp_total (λ (e : Entry). e.file) entry_cmp (λ a b h g. cc (h, g)) file

first_of_two : (o p : Ordering) → ordering_then o p ≡ Less → o ≡ Greater → ⊥
first_of_two Less p h g = cc g
first_of_two Equal p h g = cc g
first_of_two Greater p h g = cc h

pub columns_split : (file : ℕ) → Splits column_cmp (column_side file)
columns_split file = splits_by nat_cmp_total (λ (c : Column). c.file) column_cmp (λ a b h g. first_of_two (nat_cmp a.file b.file) (nat_cmp a.place b.place) h g) file

-- the tree that a part is of
abbrev pub key_of_part : Part → TreeKey
key_of_part p = record { file = p.file; sort = p.sort; number = p.number }

abbrev tree_cmp : TreeKey → TreeKey → Ordering
tree_cmp a b = ordering_then (nat_cmp a.file b.file) (ordering_then (nat_cmp a.sort b.sort) (nat_cmp a.number b.number))

tree_total : IsTotalOrder tree_cmp
tree_total =
    then_total (on_total (λ (t : TreeKey). t.file) nat_cmp_total) (then_total (on_total (λ (t : TreeKey). t.sort) nat_cmp_total) (on_total (λ (t : TreeKey). t.number) nat_cmp_total))

first_of_four : (f s n p : Ordering) → ordering_then f (ordering_then s (ordering_then n p)) ≡ Less → ordering_then f (ordering_then s n) ≡ Greater → ⊥
first_of_four Less s n p h g = cc g
first_of_four Greater s n p h g = cc h
first_of_four Equal Less n p h g = cc g
first_of_four Equal Greater n p h g = cc h
first_of_four Equal Equal n p h g = first_of_two n p h g

pub parts_split : (t : TreeKey) → Splits part_cmp (part_side t)
parts_split t =
    splits_by tree_total key_of_part part_cmp
    (λ a b h g. first_of_four (nat_cmp a.file b.file) (nat_cmp a.sort b.sort) (nat_cmp a.number b.number) (nat_cmp a.place b.place) h g) t
