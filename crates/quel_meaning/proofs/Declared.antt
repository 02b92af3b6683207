-- What a variable ranges over once one was declared, and which file stands on a shelf once one was stored.
use Rattle.std.proofs.Common.{◌≡◌, refl, sym, ap, ◌∙◌, ℕ, Bool, true, false, cond, List, [], ◌∷◌, Some, None}
use Rattle.std.proofs.lemmas.Slice.Eq.{bytes_eq-Decides}
use Rattle.std.specs.Prelude.{bytes_eq}
use Rattle.std.specs.Cmp.Lexicographic.{slice_cmp}
use Rattle.std.specs.FinMap.{nat_cmp-IsAntisymmetric, slice_cmp-IsAntisymmetric}
use Rattle.std.proofs.lemmas.Map.Text.{is_eq-slice_cmp}
use Rattle.std.specs.Ordering.{nat_cmp, is_eq, match_ordering}
use Rattle.std.specs.Map.{lookup}
use Rattle.std.specs.declared.cmp.Ordering.{Ordering}
use Rattle.std.specs.declared.cmp.Ordering.TheVariants.{Less, Equal, Greater}
use Rattle.calculus.specs.declared.query.RelKey.{RelKey}
use Rattle.quel_meaning.specs.Ranges.{Ranges, range_of, declared}
use Rattle.fault_io.specs.Files.{Files, fetched, stored}

-- ---- names

same_itself : (a : List ℕ) → bytes_eq a a ≡ true
same_itself a = (bytes_eq-Decides a a).1 refl

same_is : (a b : List ℕ) → bytes_eq a b ≡ true → a ≡ b
same_is a b h = (bytes_eq-Decides a b).0 h

other_way : (a b : List ℕ) (t : Bool) → bytes_eq a b ≡ false → bytes_eq b a ≡ t → t ≡ false
other_way a b true h e = sym (sym h ∙ (bytes_eq-Decides a b).1 (sym (same_is b a e)))
other_way a b false h e = refl

differ_other_way : (a b : List ℕ) → bytes_eq a b ≡ false → bytes_eq b a ≡ false
differ_other_way a b h = other_way a b (bytes_eq b a) h refl

-- ---- ranges

-- the variable ranges over what it was declared for
pub declared_itself : (ranges : Ranges) (var : List ℕ) (key : RelKey) → range_of (declared ranges var key) var ≡ Some key
unfolding range_of declared
declared_itself [] var key = ap (λ b. cond b (Some key) None) (same_itself var)
declared_itself (r ∷ ranges) var key = go (declared_itself ranges var key) (bytes_eq r.0 var) refl
  where
    go : range_of (declared ranges var key) var ≡ Some key → (b : Bool) → bytes_eq r.0 var ≡ b
        → range_of (cond b ((var, key) ∷ ranges) (r ∷ declared ranges var key)) var ≡ Some key
    go later true e = ap (λ b. cond b (Some key) (range_of ranges var)) (same_itself var)
    go later false e = ap (λ b. cond b (Some r.1) (range_of (declared ranges var key) var)) e ∙ later

-- every other variable ranges over what it did
pub declared_others : (ranges : Ranges) (var other : List ℕ) (key : RelKey) → bytes_eq var other ≡ false → range_of (declared ranges var key) other ≡ range_of ranges other
unfolding range_of declared
declared_others [] var other key h = ap (λ b. cond b (Some key) None) h
declared_others (r ∷ ranges) var other key h = go (declared_others ranges var other key h) (bytes_eq r.0 var) refl
  where
    not_this : bytes_eq r.0 var ≡ true → bytes_eq r.0 other ≡ false
    not_this e = ap (λ name. bytes_eq name other) (same_is r.0 var e) ∙ h

    go : range_of (declared ranges var key) other ≡ range_of ranges other → (b : Bool) → bytes_eq r.0 var ≡ b
        → range_of (cond b ((var, key) ∷ ranges) (r ∷ declared ranges var key)) other ≡ cond (bytes_eq r.0 other) (Some r.1) (range_of ranges other)
    go later true e = ap (λ b. cond b (Some key) (range_of ranges other)) h ∙ sym (ap (λ b. cond b (Some r.1) (range_of ranges other)) (not_this e))
    go later false e = ap (λ range. cond (bytes_eq r.0 other) (Some r.1) range) later

-- ---- the shelf

differ_by_order : (name other : List ℕ) → slice_cmp nat_cmp name other ≡ Greater → bytes_eq name other ≡ false
differ_by_order name other e = sym (is_eq-slice_cmp name other) ∙ ap is_eq e

-- the file has the bytes that were stored
pub stored_itself : (shelf : Files) (name bytes : List ℕ) → fetched (stored shelf name bytes) name ≡ Some bytes
unfolding fetched stored
stored_itself [] name bytes = ap (λ b. cond b (Some bytes) None) (same_itself name)
stored_itself (f ∷ shelf) name bytes = go (stored_itself shelf name bytes) (slice_cmp nat_cmp name f.0) refl
  where
    go : fetched (stored shelf name bytes) name ≡ Some bytes → (o : Ordering) → slice_cmp nat_cmp name f.0 ≡ o
        → lookup (bytes_eq name) (match_ordering o ((name, bytes) ∷ f ∷ shelf) ((f.0, bytes) ∷ shelf) (f ∷ stored shelf name bytes)) ≡ Some bytes
    go later Less e = ap (λ b. cond b (Some bytes) (lookup (bytes_eq name) (f ∷ shelf))) (same_itself name)
    go later Equal e = ap (λ b. cond b (Some bytes) (lookup (bytes_eq name) shelf)) (sym (is_eq-slice_cmp name f.0) ∙ ap is_eq e)
    go later Greater e = ap (λ b. cond b (Some f.1) (lookup (bytes_eq name) (stored shelf name bytes))) (differ_by_order name f.0 e) ∙ later

-- every other file has the bytes that it had
pub stored_others : (shelf : Files) (name bytes other : List ℕ) → bytes_eq other name ≡ false → fetched (stored shelf name bytes) other ≡ fetched shelf other
unfolding fetched stored
stored_others [] name bytes other h = ap (λ b. cond b (Some bytes) None) h
stored_others (f ∷ shelf) name bytes other h = go (stored_others shelf name bytes other h) (slice_cmp nat_cmp name f.0) refl
  where
    not_this : slice_cmp nat_cmp name f.0 ≡ Equal → bytes_eq other f.0 ≡ false
    not_this e = ap (bytes_eq other) (sym (slice_cmp-IsAntisymmetric nat_cmp-IsAntisymmetric name f.0 e)) ∙ h

    go : fetched (stored shelf name bytes) other ≡ fetched shelf other → (o : Ordering) → slice_cmp nat_cmp name f.0 ≡ o
        → lookup (bytes_eq other) (match_ordering o ((name, bytes) ∷ f ∷ shelf) ((f.0, bytes) ∷ shelf) (f ∷ stored shelf name bytes)) ≡ lookup (bytes_eq other) (f ∷ shelf)
    go later Less e = ap (λ b. cond b (Some bytes) (lookup (bytes_eq other) (f ∷ shelf))) h
    go later Equal e =
        ap (λ b. cond b (Some bytes) (lookup (bytes_eq other) shelf)) (not_this e) ∙ sym (ap (λ b. cond b (Some f.1) (lookup (bytes_eq other) shelf)) (not_this e))
    go later Greater e = ap (cond (bytes_eq other f.0) (Some f.1)) later
