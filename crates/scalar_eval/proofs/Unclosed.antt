-- Where no bare `]` follows any more.
use Rattle.std.proofs.Common.{◌≡◌, ◌⊎◌, inl, inr, refl, sym, ap, ◌∙◌, subst, ℕ, zero, suc, ◌≤◌, ◌<◌, Bool, true, false, ◌==◌, if◌then◌else◌, List, [], ◌∷◌, length, drop, Option, Some, None, rules, arith}
use Rattle.calculus.specs.Constant.{unescaped, unescaped_behind}
use Rattle.calculus.specs.Pattern.{is_bare, one_more, class_length}
use Rattle.calculus.specs.declared.unescaped.Unescaped.{Unescaped}
use Rattle.scalar_eval.proofs.Marks.{slash, itself}
use Rattle.scalar_eval.specs.Walk.{IsClass, NoneCloses, width}

-- ---- the unescaped bytes are as wide as the bytes

width_at : (b : ℕ) (bs : List ℕ) (t : Bool) → (b == 92) ≡ t → width (unescaped_behind t bs) ≡ (if t then suc (length bs) else length bs) → width (unescaped_behind false (b ∷ bs)) ≡ length (b ∷ bs)
width_at b bs true e h = ap width (slash b bs e) ∙ h
width_at b bs false e h = ap width (itself b bs e) ∙ ap suc h

width_behind : (f : Bool) (bs : List ℕ) → width (unescaped_behind f bs) ≡ (if f then suc (length bs) else length bs)
width_behind true [] = refl
width_behind false [] = refl
width_behind true (b ∷ bs) = ap (λ n. suc (suc n)) (width_behind false bs)
width_behind false (b ∷ bs) = width_at b bs (b == 92) refl (width_behind (b == 92) bs)

pub width_marks : (bs : List ℕ) → width (unescaped bs) ≡ length bs
unfolding unescaped
width_marks bs = width_behind false bs

wider : (m : Unescaped) (ms : List Unescaped) → width ms < width (m ∷ ms)
wider m ms = by m.plain
  where
    by : (t : Bool) → width ms < (if t then suc (suc (width ms)) else suc (width ms))
    by true = omega arith
    by false = omega arith

no_wider : (k : ℕ) (ms : List Unescaped) → width (drop k ms) ≤ width ms
no_wider zero ms = omega arith
no_wider (suc k) [] = omega arith
no_wider (suc k) (m ∷ ms) = omega (arith, no_wider k ms, wider m ms)

-- ---- what the tails inherit

none_more : (o : Option ℕ) → one_more o ≡ None → o ≡ None
none_more None h = refl
none_more (Some n) h = cc h

none_behind : (m : Unescaped) (ms : List Unescaped) → class_length (m ∷ ms) ≡ None → class_length ms ≡ None
none_behind m ms h = by (is_bare 93 m) refl
  where
    by : (t : Bool) → is_bare 93 m ≡ t → class_length ms ≡ None
    by true e = let q : Some 0 ≡ None = sym (ap (λ u. elim u [ true ↦ Some 0 | false ↦ one_more (class_length ms) ]) e) ∙ h in cc q
    by false e = none_more (class_length ms) (sym (ap (λ u. elim u [ true ↦ Some 0 | false ↦ one_more (class_length ms) ]) e) ∙ h)

-- where no class ends, none does further on
everywhere : (unclosed : ℕ) (ms : List Unescaped) → class_length ms ≡ None → width ms ≤ unclosed → NoneCloses unclosed ms
unfolding NoneCloses
everywhere unclosed [] h w = tt
everywhere unclosed (m ∷ ms) h w = ((λ v. h, λ e. w), everywhere unclosed ms (none_behind m ms h) (omega (arith, w, wider m ms)))

here : (unclosed : ℕ) (ms : List Unescaped) → NoneCloses unclosed ms → width ms ≤ unclosed → class_length ms ≡ None
unfolding NoneCloses
here unclosed [] h w = refl
here unclosed (m ∷ ms) h w = h.0.0 w

behind : (unclosed : ℕ) (m : Unescaped) (ms : List Unescaped) → NoneCloses unclosed (m ∷ ms) → NoneCloses unclosed ms
unfolding NoneCloses
behind unclosed m ms h = h.1

dropped : (unclosed k : ℕ) (ms : List Unescaped) → NoneCloses unclosed ms → NoneCloses unclosed (drop k ms)
unfolding NoneCloses
dropped unclosed zero ms h = h
dropped unclosed (suc k) [] h = h
dropped unclosed (suc k) (m ∷ ms) h = dropped unclosed k ms h.1

one_more_some : (o : Option ℕ) (n : ℕ) → one_more o ≡ Some n → (k : ℕ) × (n ≡ suc k) × (o ≡ Some k)
one_more_some None n h = cc h
one_more_some (Some j) n h = let same : suc j ≡ n = search (rules, h) in (j, sym same, refl)

-- the class ends here, or further on
closing : (m : Unescaped) (ms : List Unescaped) (n : ℕ) → class_length (m ∷ ms) ≡ Some n → (n ≡ 0) ⊎ ((k : ℕ) × (n ≡ suc k) × (class_length ms ≡ Some k))
closing m ms n h = by (is_bare 93 m) refl
  where
    by : (t : Bool) → is_bare 93 m ≡ t → (n ≡ 0) ⊎ ((k : ℕ) × (n ≡ suc k) × (class_length ms ≡ Some k))
    by true e =
        let q : Some 0 ≡ Some n = sym (ap (λ u. elim u [ true ↦ Some 0 | false ↦ one_more (class_length ms) ]) e) ∙ h in
        let same : 0 ≡ n = search (rules, q) in
        inl (sym same)
    by false e = inr (one_more_some (class_length ms) n (sym (ap (λ u. elim u [ true ↦ Some 0 | false ↦ one_more (class_length ms) ]) e) ∙ h))

-- from behind the `]` to all that stands in front of it
in_front : (unclosed n : ℕ) (ms : List Unescaped) → class_length ms ≡ Some n → unclosed ≤ width (drop (suc n) ms) → NoneCloses unclosed (drop (suc n) ms) → NoneCloses unclosed ms
unfolding NoneCloses
in_front unclosed n [] q w h = tt
in_front unclosed n (m ∷ ms) q w h = (
  (
    λ v. absurd (omega (arith, w, v, no_wider n ms, wider m ms)),
    λ e. let z : Some n ≡ None = sym q ∙ e in cc z,
  ),
  elim (closing m ms n q) [
    | inl z ↦ subst (λ j. NoneCloses unclosed (drop j ms)) z h
    | inr r ↦ in_front unclosed r.0 ms r.2 (subst (λ j. unclosed ≤ width (drop j ms)) r.1 w) (subst (λ j. NoneCloses unclosed (drop j ms)) r.1 h)
  ],
)

-- ---- of written bytes

pub next_none_closes : (unclosed : ℕ) (p r : List ℕ) (m : Unescaped) → unescaped p ≡ m ∷ unescaped r → NoneCloses unclosed (unescaped p) → NoneCloses unclosed (unescaped r)
next_none_closes unclosed p r m e h = behind unclosed m (unescaped r) (subst (NoneCloses unclosed) e h)

pub class_none_closes : (unclosed : ℕ) (p class rest : List ℕ) → IsClass p class rest → NoneCloses unclosed (unescaped p) → NoneCloses unclosed (unescaped rest)
class_none_closes unclosed p class rest c h = subst (NoneCloses unclosed) c.3 (dropped unclosed (suc c.0) (unescaped p) h)

pub none_closes_before : (unclosed : ℕ) (p class rest : List ℕ) → IsClass p class rest → unclosed ≤ length rest → NoneCloses unclosed (unescaped rest) → NoneCloses unclosed (unescaped p)
none_closes_before unclosed p class rest c w h =
    let same : width (drop (suc c.0) (unescaped p)) ≡ length rest = ap width c.3 ∙ width_marks rest in
    in_front unclosed c.0 (unescaped p) c.1 (omega (arith, w, same)) (subst (NoneCloses unclosed) (sym c.3) h)

pub none_closes : (p : List ℕ) → class_length (unescaped p) ≡ None → NoneCloses (length p) (unescaped p)
none_closes p h = everywhere (length p) (unescaped p) h (omega (arith, width_marks p))

pub no_class_left : (unclosed : ℕ) (p : List ℕ) → NoneCloses unclosed (unescaped p) → length p ≤ unclosed → class_length (unescaped p) ≡ None
no_class_left unclosed p h w = here unclosed (unescaped p) h (omega (arith, w, width_marks p))
