-- Where a column ends that goes up to a byte.
use Rattle.std.proofs.Common.{◌≡◌, refl, sym, ap, ◌∙◌, ℕ, zero, suc, ◌+◌, ◌<◌, ◌≤◌, nat_eq, Bool, true, false, ◌||◌, List, [], ◌∷◌, Option, Some, None, length, take, drop, get_or, arith}
use Rattle.std.specs.Prelude.{option_map}
use Rattle.std.proofs.lemmas.Bool.Decides.{nat_tests, Decides-eqb}
use Rattle.std.proofs.lemmas.List.{take_all}
use Rattle.std.proofs.lemmas.List.Folds.{list_any_more}
use Rattle.calculus.specs.Lists.{has_number}
use Rattle.quel_meaning.specs.Columns.{cut_at}

neither : (a b : Bool) → (a || b) ≡ false → (a ≡ false) × (b ≡ false)
neither true b h = cc h
neither false b h = (refl, h)

abbrev cut_as : Bool → ℕ → List ℕ → Option (List ℕ × List ℕ) → Option (List ℕ × List ℕ)
cut_as true b bytes more = Some ([], bytes)
cut_as false b bytes more = option_map (λ cut. (b ∷ cut.0, cut.1)) more

cut-cons : (stop b : ℕ) (bytes : List ℕ) (t : Bool) → nat_eq b stop ≡ t → cut_at stop (b ∷ bytes) ≡ cut_as t b bytes (cut_at stop bytes)
cut-cons stop b bytes true e = rw (e, cut_at) refl
cut-cons stop b bytes false e = rw (e, cut_at) refl

found_here : (stop i : ℕ) (bytes : List ℕ) → i < length bytes → has_number (take i bytes) stop ≡ false → get_or bytes i 0 ≡ stop
    → Some (take i bytes, drop (suc i) bytes) ≡ cut_at stop bytes
found_here stop i [] less none e = absurd (omega (arith, less))
found_here stop zero (b ∷ bytes) less none e = sym (cut-cons stop b bytes true ((Decides-eqb b stop).1 e))
found_here stop (suc i) (b ∷ bytes) less none e =
    let parts = neither (nat_eq b stop) (has_number (take i bytes) stop) none in
    ap (option_map (λ cut. (b ∷ cut.0, cut.1))) (found_here stop i bytes (omega (arith, less)) parts.1 e) ∙ sym (cut-cons stop b bytes false parts.0)

-- at the first such byte
pub found_at : (stop i : ℕ) (bytes : List ℕ) → i < length bytes → has_number (take i bytes) stop ≡ false → get_or bytes i 0 ≡ stop
    → Some (take i bytes, drop (i + 1) bytes) ≡ cut_at stop bytes
found_at stop i bytes less none e =
    let one : i + 1 ≡ suc i = omega arith in ap (λ n. Some (take i bytes, drop n bytes)) one ∙ found_here stop i bytes less none e

-- one more byte that isn't it
pub none_more : (stop i : ℕ) (bytes : List ℕ) → i < length bytes → has_number (take i bytes) stop ≡ false → (get_or bytes i 0 ≡ stop → ⊥) → has_number (take (i + 1) bytes) stop ≡ false
none_more stop i bytes less none differs =
    let other : nat_eq (get_or bytes i 0) stop ≡ false = grind (arith, nat_tests, differs) in
    list_any_more (λ m. nat_eq m stop) bytes i 0 less ∙ (λ j. none j || other j)

none_at : (stop : ℕ) (bytes : List ℕ) → has_number bytes stop ≡ false → None ≡ cut_at stop bytes
none_at stop [] none = refl
none_at stop (b ∷ bytes) none =
    let parts = neither (nat_eq b stop) (has_number bytes stop) none in
    ap (option_map (λ cut. (b ∷ cut.0, cut.1))) (none_at stop bytes parts.1) ∙ sym (cut-cons stop b bytes false parts.0)

-- at none of all bytes
pub not_found : (stop i : ℕ) (bytes : List ℕ) → length bytes ≤ i → has_number (take i bytes) stop ≡ false → None ≡ cut_at stop bytes
not_found stop i bytes end none = none_at stop bytes (ap (λ bytes. has_number bytes stop) (sym (take_all i bytes end)) ∙ none)
