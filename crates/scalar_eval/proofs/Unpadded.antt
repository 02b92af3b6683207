-- Dropping the bare blanks at the end, byte by byte.
use Rattle.std.proofs.Common.{◌≡◌, refl, sym, ap, ◌∙◌, ℕ, suc, ◌+◌, ◌≤◌, Bool, true, false, not, ◌&&◌, ◌||◌, ◌==◌, if◌then◌else◌, List, [], ◌∷◌, length, take, rules, arith}
use Rattle.calculus.specs.Constant.{unescaped_byte, unescaped, unescaped_behind}
use Rattle.calculus.specs.Pattern.{is_bare, before_unpadded, unpadded}
use Rattle.calculus.specs.declared.unescaped.Unescaped.{Unescaped}
use Rattle.scalar_eval.specs.Walk.{kept_from}
use Rattle.scalar_eval.proofs.Marks.{slash, itself, plain_is_not_bare, bare_is}

-- the byte in front of the others, but dropped in front of nothing
abbrev before_some : ℕ → List ℕ → List ℕ
before_some b [] = []
before_some b (c ∷ cs) = b ∷ c ∷ cs

-- the bytes without the bare blanks at the end; the flag says that a backslash stands in front
abbrev unpadded_bytes : Bool → List ℕ → List ℕ
unpadded_bytes f [] = []
unpadded_bytes f (b ∷ bs) =
    if f || not (b == 32) then b ∷ unpadded_bytes (not f && (b == 92)) bs else before_some b (unpadded_bytes (not f && (b == 92)) bs)

-- ---- the unescaped bytes that are left

keeps : (m : Unescaped) (ms : List Unescaped) → is_bare 32 m ≡ false → before_unpadded m ms ≡ m ∷ ms
keeps m [] e = ap (λ u. if u then [] else m ∷ []) e
keeps m (n ∷ ms) e = refl

drops : (m : Unescaped) → is_bare 32 m ≡ true → before_unpadded m [] ≡ []
drops m e = ap (λ u. if u then [] else m ∷ []) e

keeps_before : (m : Unescaped) (ms : List Unescaped) (n : Unescaped) (ns : List Unescaped) → ms ≡ n ∷ ns → before_unpadded m ms ≡ m ∷ ms
keeps_before m ms n ns h = ap (before_unpadded m) h ∙ ap (λ qs. m ∷ qs) (sym h)

plain_some : (cs : List ℕ) → (m : Unescaped) × (ms : List Unescaped) × (unescaped_behind true cs ≡ m ∷ ms)
plain_some [] = (unescaped_byte 92 false, [], refl)
plain_some (d ∷ ds) = (unescaped_byte d true, unescaped_behind false ds, refl)

-- some bytes are some unescaped bytes
pub marks_some : (c : ℕ) (cs : List ℕ) → (m : Unescaped) × (ms : List Unescaped) × (unescaped_behind false (c ∷ cs) ≡ m ∷ ms)
marks_some c cs = by (c == 92) refl
  where
    by : (t : Bool) → (c == 92) ≡ t → (m : Unescaped) × (ms : List Unescaped) × (unescaped_behind false (c ∷ cs) ≡ m ∷ ms)
    by true e = let r = plain_some cs in (r.0, r.1, slash c cs e ∙ r.2)
    by false e = (unescaped_byte c false, unescaped_behind false cs, itself c cs e)

blank : (b : ℕ) (u : List ℕ) (ms : List Unescaped) → (b == 92) ≡ false → (b == 32) ≡ true → unescaped_behind false u ≡ ms
    → unescaped_behind false (before_some b u) ≡ before_unpadded (unescaped_byte b false) ms
blank b [] ms e s h = sym (ap (before_unpadded (unescaped_byte b false)) (sym h) ∙ drops (unescaped_byte b false) (bare_is 32 b ∙ s))
blank b (c ∷ cs) ms e s h =
    let r = marks_some c cs in
    itself b (c ∷ cs) e ∙ ap (λ qs. unescaped_byte b false ∷ qs) h ∙ sym (keeps_before (unescaped_byte b false) ms r.0 r.1 (sym h ∙ r.2))

one_byte : (b : ℕ) (bs : List ℕ) (t s : Bool) → (b == 92) ≡ t → (b == 32) ≡ s → unescaped_behind t (unpadded_bytes t bs) ≡ unpadded (unescaped_behind t bs)
    → unescaped_behind false (if not s then b ∷ unpadded_bytes t bs else before_some b (unpadded_bytes t bs)) ≡ unpadded (unescaped_behind false (b ∷ bs))
one_byte b bs true true e f h =
    let is : b ≡ 92 = search (rules, e) in let q : false ≡ true = sym (ap (λ x. x == 32) is) ∙ f in cc q
one_byte b bs true false e f h = slash b (unpadded_bytes true bs) e ∙ h ∙ ap unpadded (sym (slash b bs e))
one_byte b bs false true e f h =
    blank b (unpadded_bytes false bs) (unpadded (unescaped_behind false bs)) e f h ∙ ap unpadded (sym (itself b bs e))
one_byte b bs false false e f h =
    itself b (unpadded_bytes false bs) e ∙ ap (λ qs. unescaped_byte b false ∷ qs) h
    ∙ sym (keeps (unescaped_byte b false) (unpadded (unescaped_behind false bs)) (bare_is 32 b ∙ f)) ∙ ap unpadded (sym (itself b bs e))

unpadded_marks : (f : Bool) (bs : List ℕ) → unescaped_behind f (unpadded_bytes f bs) ≡ unpadded (unescaped_behind f bs)
unpadded_marks true [] = refl
unpadded_marks false [] = refl
unpadded_marks true (b ∷ bs) =
    ap (λ ms. unescaped_byte b true ∷ ms) (unpadded_marks false bs) ∙ sym (keeps (unescaped_byte b true) (unpadded (unescaped_behind false bs)) (plain_is_not_bare 32 b))
unpadded_marks false (b ∷ bs) = one_byte b bs (b == 92) (b == 32) refl refl (unpadded_marks (b == 92) bs)

-- ---- how many bytes they are

-- so many are kept where the rest leaves these
abbrev kept_with : ℕ → ℕ → List ℕ → ℕ
kept_with at kept [] = kept
kept_with at kept (b ∷ bs) = at + length (b ∷ bs)

by_kept : (t : Bool) (at kept b : ℕ) (u : List ℕ) → kept_with (suc at) (if t then suc at else kept) u ≡ kept_with at kept (if t then b ∷ u else before_some b u)
by_kept true at kept b [] = omega arith
by_kept true at kept b (c ∷ cs) = omega arith
by_kept false at kept b [] = refl
by_kept false at kept b (c ∷ cs) = omega arith

kept_is : (at kept : ℕ) (f : Bool) (bs : List ℕ) → kept_from at kept f bs ≡ kept_with at kept (unpadded_bytes f bs)
kept_is at kept f [] = refl
kept_is at kept f (b ∷ bs) =
    kept_is (suc at) (if f || not (b == 32) then suc at else kept) (not f && (b == 92)) bs
    ∙ by_kept (f || not (b == 32)) at kept b (unpadded_bytes (not f && (b == 92)) bs)

by_take : (t : Bool) (b : ℕ) (bs u : List ℕ) → take (length u) bs ≡ u
    → take (length (if t then b ∷ u else before_some b u)) (b ∷ bs) ≡ (if t then b ∷ u else before_some b u)
by_take true b bs u h = ap (λ us. b ∷ us) h
by_take false b bs [] h = refl
by_take false b bs (c ∷ cs) h = ap (λ us. b ∷ us) h

take_is : (f : Bool) (bs : List ℕ) → take (length (unpadded_bytes f bs)) bs ≡ unpadded_bytes f bs
take_is f [] = refl
take_is f (b ∷ bs) = by_take (f || not (b == 32)) b bs (unpadded_bytes (not f && (b == 92)) bs) (take_is (not f && (b == 92)) bs)

by_length : (t : Bool) (b n : ℕ) (u : List ℕ) → length u ≤ n → length (if t then b ∷ u else before_some b u) ≤ suc n
by_length true b n u h = omega (arith, h)
by_length false b n [] h = omega arith
by_length false b n (c ∷ cs) h = omega (arith, h)

shorter : (f : Bool) (bs : List ℕ) → length (unpadded_bytes f bs) ≤ length bs
shorter f [] = omega arith
shorter f (b ∷ bs) = by_length (f || not (b == 32)) b (length bs) (unpadded_bytes (not f && (b == 92)) bs) (shorter (not f && (b == 92)) bs)

none_kept : (u : List ℕ) → kept_with 0 0 u ≡ length u
none_kept [] = refl
none_kept (b ∷ bs) = omega arith

pub kept_within : (p : List ℕ) → kept_from 0 0 false p ≤ length p
kept_within p = omega (arith, kept_is 0 0 false p, none_kept (unpadded_bytes false p), shorter false p)

-- the bytes that are kept are the unescaped bytes without the bare blanks at the end
pub kept_marks : (p u : List ℕ) → u ≡ take (kept_from 0 0 false p) p → unescaped u ≡ unpadded (unescaped p)
unfolding unescaped
kept_marks p u h =
    ap (unescaped_behind false) (h ∙ ap (λ n. take n p) (kept_is 0 0 false p ∙ none_kept (unpadded_bytes false p)) ∙ take_is false p)
    ∙ unpadded_marks false p
