-- Rows that come to others.
use Rattle.std.proofs.Common.{sym, ap, ap₂, subst, ◌∙◌, ℕ, List, ◌++◌, append_assoc}
use Rattle.std.proofs.lemmas.List.{map-append}
use Rattle.std.proofs.lemmas.List.Sorted.{IsPermutation-refl, IsPermutation-trans, IsPermutation-append, IsPermutation-append_comm}
use Rattle.std.specs.List.Sorted.{IsPermutation}
use Rattle.page_chain.specs.Lying.{Lying, Came}

-- some came, and then others
pub came_then : (before between now : Lying) (first later : List (List ℕ)) → Came before first between → Came between later now → Came before (first ++ later) now
came_then before between now first later one two = record {
  new = one.new ++ two.new;
  bytes = map-append (λ r. r.1) one.new two.new ∙ ap₂ (λ a b. a ++ b) one.bytes two.bytes;
  all =
      subst (λ rows. IsPermutation now rows) (append_assoc before one.new two.new)
      (IsPermutation-trans now (between ++ two.new) ((before ++ one.new) ++ two.new) two.all
      (IsPermutation-append between (before ++ one.new) two.new two.new one.all (IsPermutation-refl two.new)));
}

-- the two lists in the middle of four change places
middle_changes : {A : Type 0} (a b c d : List A) → IsPermutation ((a ++ b) ++ (c ++ d)) ((a ++ c) ++ (b ++ d))
middle_changes a b c d =
    subst (λ rows. IsPermutation rows ((a ++ c) ++ (b ++ d))) (sym (append_assoc a b (c ++ d) ∙ ap (λ rows. a ++ rows) (sym (append_assoc b c d))))
    (subst (λ rows. IsPermutation (a ++ ((b ++ c) ++ d)) rows) (sym (append_assoc a c (b ++ d) ∙ ap (λ rows. a ++ rows) (sym (append_assoc c b d))))
    (IsPermutation-append a a ((b ++ c) ++ d) ((c ++ b) ++ d) (IsPermutation-refl a)
    (IsPermutation-append (b ++ c) (c ++ b) d d (IsPermutation-append_comm b c) (IsPermutation-refl d))))

-- some came to the first rows, and others to those behind them
pub came_beside : (before now before' now' : Lying) (first later : List (List ℕ)) → Came before first now → Came before' later now' → Came (before ++ before') (first ++ later) (now ++ now')
came_beside before now before' now' first later one two = record {
  new = one.new ++ two.new;
  bytes = map-append (λ r. r.1) one.new two.new ∙ ap₂ (λ a b. a ++ b) one.bytes two.bytes;
  all =
      IsPermutation-trans (now ++ now') ((before ++ one.new) ++ (before' ++ two.new)) ((before ++ before') ++ (one.new ++ two.new))
      (IsPermutation-append now (before ++ one.new) now' (before' ++ two.new) one.all two.all)
      (middle_changes before one.new before' two.new);
}
