-- Aggregates of statements that may stand.
use Rattle.std.proofs.Common.{◌≡◌, refl, sym, ap, ◌∙◌, length, ℕ, zero, suc, ◌<◌, arith, Bool, true, false, not, ◌||◌, ◌&&◌, List, [], ◌∷◌, map, get_or, nat_le, is_some, Option, Some, None}
use Rattle.std.specs.List.{list_all, list_any, flat_map}
use Rattle.std.specs.Option.{option_and_then}
use Rattle.std.proofs.lemmas.List.Folds.{list_all-append}
use Rattle.calculus.specs.declared.schema.RelInfo.{RelInfo}
use Rattle.calculus.specs.declared.statement.AggTerm.{AggTerm}
use Rattle.calculus.specs.declared.statement.Statement.{Statement}
use Rattle.calculus.specs.declared.statement.Term.{Term}
use Rattle.calculus.specs.Lists.{is_any}
use Rattle.calculus.specs.Sizes.{measure_of, measure_within}
use Rattle.calculus.specs.Stored.{info_at}
use Rattle.quel_check.specs.Known.{front}
use Rattle.quel_check.proofs.AggregateForms.{any_joined}
use Rattle.quel_meaning.specs.Aggregates.{aggregate_allowed, aggregates_allowed, holds_another, is_one_plain, keeps_a_text}
use Rattle.quel_meaning.specs.Naming.{name_refusal}
use Rattle.quel_meaning.specs.Ranges.{Ranges, range_of}
use Rattle.quel_meaning.specs.Scope.{Scope, key_found, ranged}
use Rattle.quel_meaning.specs.WrittenParts.{aggregate_vars, aggregates_in, text_aggregates}
use Rattle.quel_names.proofs.Inner.{inner_vars_range}
use Rattle.quel_names.specs.Ranging.{each_ranges}

pub any_of_terms : (ts : List Term) → is_any (flat_map aggregates_in ts) ≡ list_any (λ t. is_any (aggregates_in t)) ts
any_of_terms [] = refl
any_of_terms (t ∷ ts) = any_joined (aggregates_in t) (flat_map aggregates_in ts) ∙ ap (λ b. is_any (aggregates_in t) || b) (any_of_terms ts)

-- where all pass, the one at a place does
pub one_passes : {X Y : Type 0} (p : Y → Bool) (f : X → Y) (xs : List X) (i : ℕ) (x : X) → i < length xs → x ≡ get_or xs i x → list_all p (map f xs) ≡ true → p (f x) ≡ true
one_passes p f [] i x lt e h = absurd (omega (arith, lt))
one_passes p f (y ∷ ys) zero x lt e h = ap (λ z. p (f z)) e ∙ left (p (f y)) _ h
  where
    left : (b c : Bool) → (b && c) ≡ true → b ≡ true
    left true c k = refl
    left false c k = absurd (cc k)
one_passes p f (y ∷ ys) (suc i) x lt e h = one_passes p f ys i x (omega (arith, lt)) e (right (p (f y)) _ h)
  where
    right : (b c : Bool) → (b && c) ≡ true → c ≡ true
    right true c k = k
    right false c k = absurd (cc k)

-- each aggregate's first variable ranges over something
pub fronts_range : (s : Scope) (stmt : Statement) → name_refusal s stmt ≡ None → list_all (λ g. each_ranges s (front (aggregate_vars g))) (text_aggregates stmt) ≡ true
fronts_range s stmt h = go (text_aggregates stmt) (inner_vars_range s stmt h)
  where
    both_so : (a b : Bool) → (a && b) ≡ true → (a ≡ true) × (b ≡ true)
    both_so true b k = (refl, k)
    both_so false b k = cc k

    go : (gs : List AggTerm) → each_ranges s (flat_map (λ g. front (aggregate_vars g)) gs) ≡ true → list_all (λ g. each_ranges s (front (aggregate_vars g))) gs ≡ true
    go [] k = refl
    go (g ∷ gs) k =
        let parts = both_so _ _ (sym (list_all-append (λ var. is_some (ranged s var)) (front (aggregate_vars g)) (flat_map (λ g. front (aggregate_vars g)) gs)) ∙ k) in
        λ i. parts.0 i && go gs parts.1 i

mapped : {X Y : Type 0} (p : Y → Bool) (f : X → Y) (xs : List X) → list_all (λ x. p (f x)) xs ≡ list_all p (map f xs)
mapped p f [] = refl
mapped p f (x ∷ xs) = ap (λ b. p (f x) && b) (mapped p f xs)

-- the aggregates of a text that is kept
pub kept_stand : (s : Scope) (stmt : Statement) (b c : Bool) → b ≡ is_any (text_aggregates stmt) → c ≡ keeps_a_text stmt → c ≡ true → not b ≡ aggregates_allowed s stmt
unfolding aggregates_allowed
kept_stand s stmt b c e f t =
    ap not e ∙ sym (ap (λ k. elim k as (λ x. Bool) [ true ↦ not (is_any (text_aggregates stmt)) | false ↦ list_all (aggregate_allowed s) (text_aggregates stmt) ]) (sym f ∙ t))

-- those of others
pub others_stand : {X : Type 0} (s : Scope) (stmt : Statement) (f : X → AggTerm) (xs : List X) (c : Bool) → map f xs ≡ text_aggregates stmt → c ≡ keeps_a_text stmt → c ≡ false
    → list_all (λ x. aggregate_allowed s (f x)) xs ≡ aggregates_allowed s stmt
unfolding aggregates_allowed
others_stand s stmt f xs c e g t =
    mapped (aggregate_allowed s) f xs ∙ ap (list_all (aggregate_allowed s)) e
    ∙ sym (ap (λ k. elim k as (λ x. Bool) [ true ↦ not (is_any (text_aggregates stmt)) | false ↦ list_all (aggregate_allowed s) (text_aggregates stmt) ]) (sym g ∙ t))

-- an aggregate by its parts
pub stands_not : (s : Scope) (g : AggTerm) (b : Bool) → b ≡ holds_another g → b ≡ true → false ≡ aggregate_allowed s g
unfolding aggregate_allowed
stands_not s g b e t = sym (ap (λ c. not c && is_one_plain s (aggregate_vars g)) (sym e ∙ t))

pub stands_by : (s : Scope) (g : AggTerm) (b : Bool) → b ≡ holds_another g → b ≡ false → is_one_plain s (aggregate_vars g) ≡ aggregate_allowed s g
unfolding aggregate_allowed
stands_by s g b e t = sym (ap (λ c. not c && is_one_plain s (aggregate_vars g)) (sym e ∙ t))

-- what is known of what a variable ranges over
pub known_plain : (s : Scope) (var : List ℕ) (info : RelInfo) → ranged s var ≡ Some info → nat_le (measure_within 16 s.db info.key).variables 1 ≡ nat_le (measure_of s.db (key_found (ranged s var))).variables 1
unfolding measure_of
known_plain s var info e = ap (λ o. nat_le (measure_within 16 s.db (key_found o)).variables 1) (sym e)

over_is : (s : Scope) (ranges : Ranges) (var : List ℕ) → s.ranges ≡ ranges → option_and_then (info_at s.db) (range_of ranges var) ≡ ranged s var
unfolding ranged
over_is s ranges var e = ap (λ r. option_and_then (info_at s.db) (range_of r var)) (sym e)

-- what was found of a variable is what it ranges over
pub found_is : (s : Scope) (ranges : Ranges) (var : List ℕ) (o p : Option RelInfo) → s.ranges ≡ ranges → o ≡ option_and_then (info_at s.db) (range_of ranges var) → o ≡ p → ranged s var ≡ p
found_is s ranges var o p e f g = sym (f ∙ over_is s ranges var e) ∙ g
