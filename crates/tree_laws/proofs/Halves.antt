-- What is joined by halves holds where all of it, or one of it, holds.
use Rattle.std.proofs.Common.{◌≡◌, refl, sym, ap, ◌∙◌, ℕ, zero, suc, Bool, true, false, ◌&&◌, ◌||◌, List, [], ◌∷◌, ◌++◌, length}
use Rattle.std.specs.List.{list_all, list_any}
use Rattle.calculus.specs.declared.query.QQual.{QQual, True}
use Rattle.calculus.specs.Tree.{both, either, negated}
use Rattle.calculus.specs.Term.{Env, Aggs, holds}
use Rattle.calculus.specs.Lists.{is_any}
use Rattle.calculus.specs.Used.{used_in_qual}
use Rattle.view_text.specs.Scoped.{is_qual_within}
use Rattle.view_text.specs.Halves.{Joining, paired, chained, joined_within, all_of, any_of}

-- a test of qualifications that goes through a joining as this operation does
module _ (join : Joining) (none : QQual) (test : QQual → Bool) (meet : Bool → Bool → Bool) (unit : Bool)
    (through : (p q : QQual) → test (join p q) ≡ meet (test p) (test q)) (nothing : test none ≡ unit)
    (assoc : (a b c : Bool) → meet a (meet b c) ≡ meet (meet a b) c) (right : (a : Bool) → meet a unit ≡ a) where
  -- the operation over all of them
  abbrev pub over : List QQual → Bool
  over [] = unit
  over (q ∷ qs) = meet (test q) (over qs)

  over_paired : (qs : List QQual) → over (paired join qs) ≡ over qs
  unfolding paired
  over_paired [] = refl
  over_paired (p ∷ []) = refl
  over_paired (p ∷ q ∷ more) = (λ i. meet (through p q i) (over_paired more i)) ∙ sym (assoc (test p) (test q) (over more))

  test_chained : (qs : List QQual) → test (chained join none qs) ≡ over qs
  unfolding chained
  test_chained [] = nothing
  test_chained (p ∷ []) = sym (right (test p))
  test_chained (p ∷ q ∷ more) = through p (chained join none (q ∷ more)) ∙ ap (meet (test p)) (test_chained (q ∷ more))

  pub test_joined : (n : ℕ) (qs : List QQual) → test (joined_within n join none qs) ≡ over qs
  unfolding joined_within
  test_joined zero qs = test_chained qs
  test_joined (suc n) qs = test_joined n (paired join qs) ∙ over_paired qs

pub and_assoc : (a b c : Bool) → (a && (b && c)) ≡ ((a && b) && c)
and_assoc true b c = refl
and_assoc false b c = refl

pub and_right : (a : Bool) → (a && true) ≡ a
and_right true = refl
and_right false = refl

pub or_assoc : (a b c : Bool) → (a || (b || c)) ≡ ((a || b) || c)
or_assoc true b c = refl
or_assoc false b c = refl

pub or_right : (a : Bool) → (a || false) ≡ a
or_right true = refl
or_right false = refl

pub holds_all_of : (aggs : Aggs) (e : Env) (qs : List QQual) → holds aggs (all_of qs) e ≡ list_all (λ q. holds aggs q e) qs
unfolding holds
holds_all_of aggs e qs = test_joined both True (λ q. holds aggs q e) (λ a b. a && b) true (λ p q. refl) refl and_assoc and_right (length qs) qs ∙ is qs
  where
    is : (qs : List QQual) → over both True (λ q. holds aggs q e) (λ a b. a && b) true (λ p q. refl) refl and_assoc and_right qs ≡ list_all (λ q. holds aggs q e) qs
    is [] = refl
    is (q ∷ qs) = ap (λ b. holds aggs q e && b) (is qs)

pub holds_any_of : (aggs : Aggs) (e : Env) (qs : List QQual) → holds aggs (any_of qs) e ≡ list_any (λ q. holds aggs q e) qs
unfolding holds
holds_any_of aggs e qs = test_joined either (negated True) (λ q. holds aggs q e) (λ a b. a || b) false (λ p q. refl) refl or_assoc or_right (length qs) qs ∙ is qs
  where
    is : (qs : List QQual) → over either (negated True) (λ q. holds aggs q e) (λ a b. a || b) false (λ p q. refl) refl or_assoc or_right qs ≡ list_any (λ q. holds aggs q e) qs
    is [] = refl
    is (q ∷ qs) = ap (λ b. holds aggs q e || b) (is qs)

-- ---- what is joined names what its parts name

pub any_append : {X : Type 0} (xs ys : List X) → is_any (xs ++ ys) ≡ (is_any xs || is_any ys)
any_append [] ys = refl
any_append (x ∷ xs) ys = refl

pub any_within : (n : ℕ) (qs : List QQual) → list_all (is_qual_within n) qs ≡ true → is_qual_within n (any_of qs) ≡ true
unfolding is_qual_within
any_within n qs h =
    test_joined either (negated True) (is_qual_within n) (λ a b. a && b) true (λ p q. refl) refl and_assoc and_right (length qs) qs ∙ is qs ∙ h
  where
    is : (qs : List QQual) → over either (negated True) (is_qual_within n) (λ a b. a && b) true (λ p q. refl) refl and_assoc and_right qs ≡ list_all (is_qual_within n) qs
    is [] = refl
    is (q ∷ qs) = ap (λ b. is_qual_within n q && b) (is qs)

pub used_all_of : (v : ℕ) (qs : List QQual) → is_any (used_in_qual v (all_of qs)) ≡ list_any (λ q. is_any (used_in_qual v q)) qs
used_all_of v qs =
    test_joined both True (λ q. is_any (used_in_qual v q)) (λ a b. a || b) false (λ p q. any_append (used_in_qual v p) (used_in_qual v q)) refl or_assoc or_right (length qs) qs ∙ is qs
  where
    is : (qs : List QQual)
        → over both True (λ q. is_any (used_in_qual v q)) (λ a b. a || b) false (λ p q. any_append (used_in_qual v p) (used_in_qual v q)) refl or_assoc or_right qs
        ≡ list_any (λ q. is_any (used_in_qual v q)) qs
    is [] = refl
    is (q ∷ qs) = ap (λ b. is_any (used_in_qual v q) || b) (is qs)
