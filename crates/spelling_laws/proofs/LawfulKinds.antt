-- The kinds of terms, of operations and of folds are kinds that an attribute may have, where those that they are made of are.
use Rattle.std.proofs.Common.{◌≡◌, refl, sym, ap, ◌∙◌, true≢false, subst, ℕ, ◌+◌, ◌≤◌, min, max, nat_le, Bool, true, false, ◌&&◌, cond, List, length, slice_get, Option, Some, None, arith}
use Rattle.std.proofs.lemmas.Bool.{and_parts, le-leb, leb-true, eqb-true}
use Rattle.calculus.specs.declared.operator.AggOp.{AggOp}
use Rattle.calculus.specs.declared.value.Domain.{Domain}
use Rattle.calculus.specs.declared.value.Domain.TheVariants.{I1, I2, I4, C}
use Rattle.calculus.specs.declared.value.Kind.{Kind}
use Rattle.calculus.specs.declared.value.Kind.TheVariants.{Of, Wide}
use Rattle.calculus.specs.Chars.{is_chars}
use Rattle.calculus.specs.Constant.{constant_text}
use Rattle.calculus.specs.IsDatabase.{is_domain, same_domain, same_kind, has_kind}
use Rattle.calculus.specs.Kinds.{kind_in, attribute_kind, constant_kind, is_number_kind, number_kind, operated_kind, joined_kind}
use Rattle.quel_meaning.specs.KindsInQueries.{adds_up, picks, folded_kind, fitting_kind}
use Rattle.quel_meaning.proofs.Each.{Each, and}
use Rattle.quel_meaning.proofs.ConstantLengths.{constant_short}
use Rattle.quel_meaning.proofs.LawfulKinds.{IsKind, AreKinds, got}

pub attribute_lawful : (vars : List (List Kind)) (var attr : ℕ) (k : Kind) → AreKinds vars → attribute_kind vars var attr ≡ Some k → IsKind k
unfolding attribute_kind
attribute_lawful vars var attr k h e = go (slice_get vars var) refl e
  where
    go : (o : Option (List Kind)) → slice_get vars var ≡ o → kind_in o attr ≡ Some k → IsKind k
    go None f e = absurd (cc e)
    go (Some kinds) f e = got IsKind kinds attr k (got (λ kinds. Each IsKind kinds) vars var kinds h f) e

pub wide : (k : Kind) → ◌≡◌ {A = Option Kind} (Some Wide) (Some k) → IsKind k
wide k e = let same : Wide ≡ k = cc e in subst IsKind same refl

pub number_lawful : (o : Option Kind) (k : Kind) → number_kind o ≡ Some k → IsKind k
unfolding number_kind
number_lawful None k e = absurd (cc e)
number_lawful (Some l) k e = go (is_number_kind l) e
  where
    go : (b : Bool) → cond b (Some Wide) None ≡ Some k → IsKind k
    go true e = wide k e
    go false e = absurd (cc e)

pub operated_lawful : (o p : Option Kind) (k : Kind) → operated_kind o p ≡ Some k → IsKind k
unfolding operated_kind
operated_lawful None p k e = absurd (cc e)
operated_lawful (Some l) p k e = go (is_number_kind l) e
  where
    go : (b : Bool) → cond b (number_kind p) None ≡ Some k → IsKind k
    go true e = number_lawful p k e
    go false e = absurd (cc e)

widths : (m n : ℕ) → (nat_le 1 m && nat_le m 255) ≡ true → (nat_le 1 (min (m + n) 255) && nat_le (min (m + n) 255) 255) ≡ true
widths m n h =
    let some = leb-true 1 m (and_parts (nat_le 1 m) (nat_le m 255) h).0 in
    let above : 1 ≤ min (m + n) 255 = omega (arith, some) in
    let below : min (m + n) 255 ≤ 255 = omega arith in
    and (nat_le 1 (min (m + n) 255)) (nat_le (min (m + n) 255) 255) (le-leb 1 (min (m + n) 255) above) (le-leb (min (m + n) 255) 255 below)

pub joined_lawful : (o p : Option Kind) (k : Kind) → ((l : Kind) → o ≡ Some l → IsKind l) → joined_kind o p ≡ Some k → IsKind k
unfolding joined_kind
joined_lawful None p k h e = absurd (cc e)
joined_lawful (Some l) None k h e = absurd (cc e)
joined_lawful (Some (Of (C m))) (Some (Of (C n))) k h e = let same : Of (C (min (m + n) 255)) ≡ k = cc e in subst IsKind same (widths m n (h (Of (C m)) refl))
joined_lawful (Some l) (Some m) k h e = absurd (cc e)

folded_lawful : (op : AggOp) (l k : Kind) → IsKind l → folded_kind op l ≡ Some k → IsKind k
folded_lawful op l k h e = number (is_number_kind l) e
  where
    pick : (b : Bool) → ◌≡◌ {A = Option Kind} (elim b [ true ↦ Some l | false ↦ Some Wide ]) (Some k) → IsKind k
    pick true e = let same : l ≡ k = cc e in subst IsKind same h
    pick false e = wide k e

    add : (b : Bool) → ◌≡◌ {A = Option Kind} (elim b [ true ↦ None | false ↦ elim (picks op) [ true ↦ Some l | false ↦ Some Wide ] ]) (Some k) → IsKind k
    add true e = absurd (cc e)
    add false e = pick (picks op) e

    number : (b : Bool)
        → ◌≡◌ {A = Option Kind} (elim b [ true ↦ Some Wide | false ↦ elim (adds_up op) [ true ↦ None | false ↦ elim (picks op) [ true ↦ Some l | false ↦ Some Wide ] ] ]) (Some k) → IsKind k
    number true e = wide k e
    number false e = add (adds_up op) e

pub fitting_lawful : (fit : Bool) (op : AggOp) (o : Option Kind) (k : Kind) → ((l : Kind) → o ≡ Some l → IsKind l) → fitting_kind fit op o ≡ Some k → IsKind k
fitting_lawful fit op None k h e = absurd (cc e)
fitting_lawful false op (Some l) k h e = absurd (cc e)
fitting_lawful true op (Some l) k h e = folded_lawful op l k (h l refl) e

pub constant_lawful : (bytes : List ℕ) → is_chars bytes ≡ true → IsKind (constant_kind bytes)
unfolding constant_kind
constant_lawful bytes h =
    let short = constant_short bytes h in
    let above : 1 ≤ max 1 (length (constant_text bytes)) = omega arith in
    let below : max 1 (length (constant_text bytes)) ≤ 255 = omega (arith, short) in
    and (nat_le 1 (max 1 (length (constant_text bytes)))) (nat_le (max 1 (length (constant_text bytes))) 255) (le-leb 1 (max 1 (length (constant_text bytes))) above) (le-leb (max 1 (length (constant_text bytes))) 255 below)

-- ---- the same kind as one

domain_too : (d e : Domain) → same_domain d e ≡ true → is_domain d ≡ true → is_domain e ≡ true
domain_too d I1 same is = refl
domain_too d I2 same is = refl
domain_too d I4 same is = refl
domain_too I1 (C n) same is = absurd (true≢false (sym same))
domain_too I2 (C n) same is = absurd (true≢false (sym same))
domain_too I4 (C n) same is = absurd (true≢false (sym same))
domain_too (C m) (C n) same is = ap (λ w. nat_le 1 w && nat_le w 255) (sym (eqb-true m n same)) ∙ is

pub kind_same : (k l : Kind) → same_kind k l ≡ true → IsKind k → IsKind l
kind_same k Wide same is = refl
kind_same Wide (Of e) same is = absurd (true≢false (sym same))
kind_same (Of d) (Of e) same is = domain_too d e same is

-- a kind that is there, and is this one
pub has_this : (o : Option Kind) (k : Kind) → has_kind o k ≡ true → (l : Kind) × (o ≡ Some l) × (same_kind l k ≡ true)
has_this None k e = absurd (true≢false (sym e))
has_this (Some l) k e = (l, refl, e)
