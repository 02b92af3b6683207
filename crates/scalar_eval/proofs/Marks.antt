-- The bytes of a constant as they are meant, read from the front.
use Rattle.std.proofs.Common.{◌≡◌, refl, sym, ap, ◌∙◌, ℕ, zero, suc, ◌+◌, ◌<◌, Bool, true, false, ◌&&◌, ◌==◌, if◌then◌else◌, List, [], ◌∷◌, length, take, drop, Option, Some, None, rules, arith}
use Rattle.calculus.specs.Constant.{unescaped_byte, unescaped, unescaped_behind}
use Rattle.calculus.specs.Pattern.{is_bare, one_more, class_length, ranges, in_class}
use Rattle.calculus.specs.declared.unescaped.Unescaped.{Unescaped}
use Rattle.scalar_eval.specs.Walk.{IsClass, after_dash, close_from}

-- a backslash that isn't plain makes the byte behind it plain
pub slash : (b : ℕ) (bs : List ℕ) → (b == 92) ≡ true → unescaped_behind false (b ∷ bs) ≡ unescaped_behind true bs
slash b bs e = ap (λ u. elim u [ true ↦ unescaped_behind true bs | false ↦ unescaped_byte b false ∷ unescaped_behind false bs ]) e

-- any other byte is itself
pub itself : (b : ℕ) (bs : List ℕ) → (b == 92) ≡ false → unescaped_behind false (b ∷ bs) ≡ unescaped_byte b false ∷ unescaped_behind false bs
itself b bs e = ap (λ u. elim u [ true ↦ unescaped_behind true bs | false ↦ unescaped_byte b false ∷ unescaped_behind false bs ]) e

pub marks_of_none : unescaped [] ≡ []
unfolding unescaped
marks_of_none = refl

and_false : (t : Bool) → (t && false) ≡ false
and_false true = refl
and_false false = refl

pub plain_is_not_bare : (k b : ℕ) → is_bare k (unescaped_byte b true) ≡ false
plain_is_not_bare k b = and_false (b == k)

and_true : (t : Bool) → (t && true) ≡ t
and_true true = refl
and_true false = refl

pub bare_is : (k b : ℕ) → is_bare k (unescaped_byte b false) ≡ (b == k)
bare_is k b = and_true (b == k)

-- ---- classes

pub class_step : (m : Unescaped) (ms : List Unescaped) → is_bare 93 m ≡ false → class_length (m ∷ ms) ≡ one_more (class_length ms)
class_step m ms e = ap (λ u. elim u [ true ↦ Some 0 | false ↦ one_more (class_length ms) ]) e

pub class_closes : (m : Unescaped) (ms : List Unescaped) → is_bare 93 m ≡ true → class_length (m ∷ ms) ≡ Some 0
class_closes m ms e = ap (λ u. elim u [ true ↦ Some 0 | false ↦ one_more (class_length ms) ]) e

no_class_behind : (b : ℕ) (bs : List ℕ) (t : Bool) → (b == 92) ≡ t → (b == 93) ≡ false → class_length (unescaped_behind t bs) ≡ None → class_length (unescaped_behind false (b ∷ bs)) ≡ None
no_class_behind b bs true e n k = ap class_length (slash b bs e) ∙ k
no_class_behind b bs false e n k = ap class_length (itself b bs e) ∙ class_step (unescaped_byte b false) (unescaped_behind false bs) (bare_is 93 b ∙ n) ∙ ap one_more k

no_class_at : (at b : ℕ) (bs : List ℕ) (t : Bool) → (b == 93) ≡ t → close_from at false (b ∷ bs) ≡ None
    → (close_from (suc at) (b == 92) bs ≡ None → class_length (unescaped_behind (b == 92) bs) ≡ None) → class_length (unescaped_behind false (b ∷ bs)) ≡ None
no_class_at at b bs true e h k =
    let q : Some at ≡ None = sym (ap (λ u. if u then Some at else close_from (suc at) (b == 92) bs) e) ∙ h in cc q
no_class_at at b bs false e h k =
    no_class_behind b bs (b == 92) refl e (k (sym (ap (λ u. if u then Some at else close_from (suc at) (b == 92) bs) e) ∙ h))

-- without a bare `]` there is no class
pub no_class : (at : ℕ) (f : Bool) (bs : List ℕ) → close_from at f bs ≡ None → class_length (unescaped_behind f bs) ≡ None
no_class at true [] h = refl
no_class at false [] h = refl
no_class at true (b ∷ bs) h = class_step (unescaped_byte b true) (unescaped_behind false bs) (plain_is_not_bare 93 b) ∙ ap one_more (no_class (suc at) false bs h)
no_class at false (b ∷ bs) h = no_class_at at b bs (b == 93) refl h (λ q. no_class (suc at) (b == 92) bs q)

-- what it is that the first bare `]` stands at `k`, counted on from `at`
pub record Closed (at k : ℕ) (f : Bool) (bs : List ℕ) : Type 0 where
  pub bytes : ℕ
  pub members : ℕ
  pub place : k ≡ at + bytes
  pub within : bytes < length bs
  pub counted : class_length (unescaped_behind f bs) ≡ Some members
  pub class : take members (unescaped_behind f bs) ≡ unescaped_behind f (take bytes bs)
  pub rest : drop (suc members) (unescaped_behind f bs) ≡ unescaped_behind false (drop (suc bytes) bs)

closed_behind : (at k b : ℕ) (bs : List ℕ) (t : Bool) → (b == 92) ≡ t → (b == 93) ≡ false → Closed (suc at) k t bs → Closed at k false (b ∷ bs)
closed_behind at k b bs true e n r = record {
  bytes = suc r.bytes;
  members = r.members;
  place = omega (arith, r.place);
  within = omega (arith, r.within);
  counted = ap class_length (slash b bs e) ∙ r.counted;
  class = ap (take r.members) (slash b bs e) ∙ r.class ∙ sym (slash b (take r.bytes bs) e);
  rest = ap (drop (suc r.members)) (slash b bs e) ∙ r.rest;
}
closed_behind at k b bs false e n r = record {
  bytes = suc r.bytes;
  members = suc r.members;
  place = omega (arith, r.place);
  within = omega (arith, r.within);
  counted = ap class_length (itself b bs e) ∙ class_step (unescaped_byte b false) (unescaped_behind false bs) (bare_is 93 b ∙ n) ∙ ap one_more r.counted;
  class = ap (take (suc r.members)) (itself b bs e) ∙ ap (λ ms. unescaped_byte b false ∷ ms) r.class ∙ sym (itself b (take r.bytes bs) e);
  rest = ap (drop (suc (suc r.members))) (itself b bs e) ∙ r.rest;
}

closed_here : (at k b : ℕ) (bs : List ℕ) → b ≡ 93 → Some at ≡ Some k → Closed at k false (b ∷ bs)
closed_here at k b bs e h =
    let plain : (b == 92) ≡ false = ap (λ x. x == 92) e in
    let bare : is_bare 93 (unescaped_byte b false) ≡ true = ap (λ x. is_bare 93 (unescaped_byte x false)) e in
    let same : at ≡ k = search (rules, h) in
    record {
      bytes = 0;
      members = 0;
      place = omega (arith, same);
      within = omega arith;
      counted = ap class_length (itself b bs plain) ∙ class_closes (unescaped_byte b false) (unescaped_behind false bs) bare;
      class = refl;
      rest = ap (drop 1) (itself b bs plain);
    }

closed_at : (at k b : ℕ) (bs : List ℕ) (t : Bool) → (b == 93) ≡ t → close_from at false (b ∷ bs) ≡ Some k
    → (close_from (suc at) (b == 92) bs ≡ Some k → Closed (suc at) k (b == 92) bs) → Closed at k false (b ∷ bs)
closed_at at k b bs true e h c =
    closed_here at k b bs (search (rules, e)) (sym (ap (λ u. if u then Some at else close_from (suc at) (b == 92) bs) e) ∙ h)
closed_at at k b bs false e h c =
    closed_behind at k b bs (b == 92) refl e (c (sym (ap (λ u. if u then Some at else close_from (suc at) (b == 92) bs) e) ∙ h))

pub closed : (at k : ℕ) (f : Bool) (bs : List ℕ) → close_from at f bs ≡ Some k → Closed at k f bs
closed at k true [] h = absurd (cc h)
closed at k false [] h = absurd (cc h)
closed at k true (b ∷ bs) h =
    let r = closed (suc at) k false bs h in
    record {
      bytes = suc r.bytes;
      members = suc r.members;
      place = omega (arith, r.place);
      within = omega (arith, r.within);
      counted = class_step (unescaped_byte b true) (unescaped_behind false bs) (plain_is_not_bare 93 b) ∙ ap one_more r.counted;
      class = ap (λ ms. unescaped_byte b true ∷ ms) r.class;
      rest = r.rest;
    }
closed at k false (b ∷ bs) h = closed_at at k b bs (b == 93) refl h (λ q. closed (suc at) k (b == 92) bs q)

-- the class and the rest, from the place of the `]`
pub class_parts : (bs class rest : List ℕ) (k : ℕ) → close_from 0 false bs ≡ Some k → class ≡ take k bs → rest ≡ drop (suc k) bs → IsClass bs class rest
unfolding unescaped
class_parts bs class rest k h e r =
    let c = closed 0 k false bs h in
    let same : k ≡ c.bytes = omega (arith, c.place) in (
      c.members,
      c.counted,
      c.class ∙ ap (λ j. unescaped_behind false (take j bs)) (sym same) ∙ ap (unescaped_behind false) (sym e),
      c.rest ∙ ap (λ j. unescaped_behind false (drop (suc j) bs)) (sym same) ∙ ap (unescaped_behind false) (sym r),
    )

-- dropping one more
pub one_dropped : (n : ℕ) (bs : List ℕ) → drop 1 (drop n bs) ≡ drop (suc n) bs
one_dropped zero bs = refl
one_dropped (suc n) [] = refl
one_dropped (suc n) (b ∷ bs) = one_dropped n bs

pub close_within : (bs : List ℕ) (k : ℕ) → close_from 0 false bs ≡ Some k → k < length bs
close_within bs k h = let c = closed 0 k false bs h in omega (arith, c.place, c.within)

pub no_class_written : (bs : List ℕ) → close_from 0 false bs ≡ None → class_length (unescaped bs) ≡ None
unfolding unescaped
no_class_written bs h = no_class 0 false bs h

-- ---- ranges

pub nothing_in_class : (rest : List ℕ) (x : ℕ) → rest ≡ [] → in_class (ranges (unescaped rest)) x ≡ false
unfolding unescaped
nothing_in_class rest x h = ap (λ bs. in_class (ranges (unescaped_behind false bs)) x) h

pub single : (m : Unescaped) (ms : List Unescaped) → after_dash ms ≡ None → ranges (m ∷ ms) ≡ (m.byte, m.byte) ∷ ranges ms
single m [] h = refl
single m (n ∷ []) h = refl
single m (n ∷ o ∷ ms) h = by (is_bare 45 n) refl
  where
    by : (t : Bool) → is_bare 45 n ≡ t → ranges (m ∷ n ∷ o ∷ ms) ≡ (m.byte, m.byte) ∷ ranges (n ∷ o ∷ ms)
    by true e = let q : Some (o, ms) ≡ None = sym (ap (λ u. if u then Some (o, ms) else None) e) ∙ h in cc q
    by false e = ap (λ u. elim u [ true ↦ (m.byte, o.byte) ∷ ranges ms | false ↦ (m.byte, m.byte) ∷ ranges (n ∷ o ∷ ms) ]) e

-- the range up to the byte behind a dash, and the members behind it
abbrev range_to : Unescaped → Option (Unescaped × List Unescaped) → List (ℕ × ℕ)
range_to m None = []
range_to m (Some p) = (m.byte, p.0.byte) ∷ ranges p.1

pub range_of : (m o : Unescaped) (ms os : List Unescaped) → after_dash ms ≡ Some (o, os) → ranges (m ∷ ms) ≡ (m.byte, o.byte) ∷ ranges os
range_of m o [] os h = cc h
range_of m o (n ∷ []) os h = cc h
range_of m o (n ∷ p ∷ ms) os h = by (is_bare 45 n) refl
  where
    by : (t : Bool) → is_bare 45 n ≡ t → ranges (m ∷ n ∷ p ∷ ms) ≡ (m.byte, o.byte) ∷ ranges os
    by true e =
        let q : Some (p, ms) ≡ Some (o, os) = sym (ap (λ u. if u then Some (p, ms) else None) e) ∙ h in
        ap (λ u. elim u [ true ↦ (m.byte, p.byte) ∷ ranges ms | false ↦ (m.byte, m.byte) ∷ ranges (n ∷ p ∷ ms) ]) e ∙ ap (range_to m) q
    by false e = let q : None ≡ Some (o, os) = sym (ap (λ u. if u then Some (p, ms) else None) e) ∙ h in cc q

pub dash_none : (behind : List ℕ) → behind ≡ [] → after_dash (unescaped behind) ≡ None
unfolding unescaped
dash_none behind h = ap (λ bs. after_dash (unescaped_behind false bs)) h

pub dash_last : (behind rest : List ℕ) (n : Unescaped) → unescaped behind ≡ n ∷ unescaped rest → rest ≡ [] → after_dash (unescaped behind) ≡ None
unfolding unescaped
dash_last behind rest n h e = ap after_dash (h ∙ ap (λ bs. n ∷ unescaped_behind false bs) e)

pub no_dash : (ms os : List Unescaped) (n : Unescaped) → ms ≡ n ∷ os → is_bare 45 n ≡ false → after_dash ms ≡ None
no_dash ms [] n h e = ap after_dash h
no_dash ms (o ∷ os) n h e = ap after_dash h ∙ ap (λ u. if u then Some (o, os) else None) e

pub dash : (ms os ps : List Unescaped) (n o : Unescaped) → ms ≡ n ∷ os → os ≡ o ∷ ps → is_bare 45 n ≡ true → after_dash ms ≡ Some (o, ps)
dash ms os ps n o h k e = ap after_dash (h ∙ ap (λ q. n ∷ q) k) ∙ ap (λ u. if u then Some (o, ps) else None) e
