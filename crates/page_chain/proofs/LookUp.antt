-- Rows that are to go, as a set in which they are looked up.
use Rattle.std.proofs.Common.{◌≡◌, refl, ap, ap₂, ◌∙◌, ℕ, ◌||◌, List, [], ◌∷◌, map, Bor}
use Rattle.std.proofs.lemmas.Map.Text.{is_eq-slice_cmp}
use Rattle.std.specs.BTreeSet.{BTreeSet, contains}
use Rattle.std.specs.Cmp.Lexicographic.{slice_cmp}
use Rattle.std.specs.List.{list_any}
use Rattle.std.specs.Ordering.{is_eq, nat_cmp, eq_by_cmp}
use Rattle.std.specs.Set.{is_member}
use Rattle.std.specs.declared.cmp.Ordering.{Ordering}
use Rattle.page_chain.specs.Going.{IsSetOf}
use Rattle.page_chain.specs.Lying.{is_among}

-- the order of references to bytes
abbrev by_bytes : Bor (List ℕ) → Bor (List ℕ) → Ordering
by_bytes a b = slice_cmp nat_cmp a.now b.now

-- a row is looked up among references as among the bytes that they lead to
looked_up : (row : List ℕ) (rows : List (Bor (List ℕ))) → list_any (λ k. is_eq (slice_cmp nat_cmp row k.now)) rows ≡ is_among (map (λ k. k.now) rows) row
looked_up row [] = refl
looked_up row (k ∷ rows) = ap₂ (λ a b. a || b) (is_eq-slice_cmp row k.now) (looked_up row rows)

-- what a set that was collected from them holds
pub collected : (listed : List (List ℕ)) (rows : List (Bor (List ℕ))) (set : BTreeSet (Bor (List ℕ))) → map (λ k. k.now) rows ≡ listed
    → ((q : Bor (List ℕ)) → contains by_bytes set q ≡ is_member (eq_by_cmp by_bytes) rows q) → IsSetOf listed set.keys
collected listed rows set are has = record {
  same = λ row. has (record { ref_ptr = (0, 0); now = row }) ∙ looked_up row rows ∙ ap (λ l. is_among l row) are;
}
