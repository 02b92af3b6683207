-- Entries of a map are ranges.
use Rattle.std.proofs.Common.{◌≡◌, ℕ, Bool, true, false, cond, List, [], ◌∷◌, Some, refl, sym, ap, ◌∙◌}
use Rattle.std.specs.Str.{bytes_eq}
use Rattle.std.specs.Map.{lookup}
use Rattle.indexmap.specs.IndexMap.{insert_entry}
use Rattle.calculus.specs.declared.query.RelKey.{RelKey}
use Rattle.quel_meaning.specs.Ranges.{Ranges, range_of, declared}
use Rattle.quel_meaning.proofs.Keys.{bytes_same, same_bytes}

-- two names are the same in either order
pub flip : (a b : List ℕ) → bytes_eq a b ≡ bytes_eq b a
flip a b = by_cases (bytes_eq a b) refl (bytes_eq b a) refl
  where
    by_cases : (x : Bool) → bytes_eq a b ≡ x → (y : Bool) → bytes_eq b a ≡ y → x ≡ y
    by_cases true e true f = refl
    by_cases false e false f = refl
    by_cases true e false f = let g : bytes_eq b a ≡ true = bytes_same b a (sym (same_bytes a b e)) in absurd cc
    by_cases false e true f = let g : bytes_eq a b ≡ true = bytes_same a b (sym (same_bytes b a f)) in absurd cc

one : (e : List ℕ × RelKey) (var : List ℕ) (key : RelKey) (x : Bool) (es more : Ranges) → bytes_eq var e.0 ≡ x → more ≡ declared es var key
    → cond x ((e.0, key) ∷ es) (e ∷ more) ≡ cond (bytes_eq e.0 var) ((var, key) ∷ es) (e ∷ declared es var key)
one e var key true es more f g = let same : var ≡ e.0 = same_bytes var e.0 f in rw (sym (flip var e.0) ∙ f, same) refl
one e var key false es more f g = rw (sym (flip var e.0) ∙ f, g) refl

-- what is put into the map is declared
pub inserted : (es : Ranges) (var : List ℕ) (key : RelKey) → insert_entry bytes_eq es var key ≡ declared es var key
unfolding declared
inserted [] var key = refl
inserted (e ∷ es) var key = one e var key (bytes_eq var e.0) es (insert_entry bytes_eq es var key) refl (inserted es var key)

-- what is looked up in the map is what the variable ranges over
pub looked : (es : Ranges) (var : List ℕ) → lookup (bytes_eq var) es ≡ range_of es var
unfolding range_of
looked [] var = refl
looked (e ∷ es) var = ap (λ b. cond b (Some e.1) (lookup (bytes_eq var) es)) (flip var e.0) ∙ ap (cond (bytes_eq e.0 var) (Some e.1)) (looked es var)
