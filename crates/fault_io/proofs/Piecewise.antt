-- A piece in front of a source.
use Rattle.std.proofs.Common.{◌≡◌, ◌+◌, ◌<◌, refl, sym, ap, ◌∙◌, ℕ, min, List, [], ◌∷◌, ◌++◌, Some, None, length, length-append, length-take, take, slice_set, arith}
use Rattle.std.proofs.KnownBytes.{prepend_known-read}
use Rattle.std.specs.declared.option.Option.{Option}
use Rattle.std.specs.Io.KnownBytes.{Consumes, IsAtEnd, Keeps, prepend_known}

-- ---- a piece

none_of : (xs : List ℕ) → length xs ≡ 0 → xs ≡ []
none_of [] e = refl
none_of (x ∷ xs) e = absurd (omega (arith, e))

pub first_set : (xs : List ℕ) (b : ℕ) → 0 < length xs → take 1 (slice_set xs 0 b) ≡ b ∷ []
first_set [] b h = absurd (omega (arith, h))
first_set (x ∷ xs) b h = refl

-- ---- what is left

-- a new piece came
pub filled : (p q : List ℕ) (left left' : Option (List ℕ)) → p ≡ [] → Consumes left left' q → Keeps (prepend_known p left) (prepend_known q left')
filled p q None left' e h = tt
filled p q (Some xs) None e h = absurd h
filled p q (Some xs) (Some ys) e h = sym h ∙ ap (λ (r : List ℕ). r ++ xs) (sym e)

-- none came
pub not_filled : (p q : List ℕ) (left left' : Option (List ℕ)) → p ≡ [] → q ≡ [] → Keeps left left' → Keeps (prepend_known p left) (prepend_known q left')
not_filled p q None left' e f h = tt
not_filled p q (Some xs) None e f h = absurd h
not_filled p q (Some xs) (Some ys) e f h = ap (λ (r : List ℕ). r ++ ys) f ∙ h ∙ ap (λ (r : List ℕ). r ++ xs) (sym e)

-- the front of the piece was given
pub given_on : (a b : Option (List ℕ)) (mid new buf : List ℕ) (n wanted : ℕ) → Keeps a (prepend_known mid b) → (mid ≡ [] → IsAtEnd b) → n ≡ min (length mid) wanted → wanted ≡ length buf → mid ≡ take n buf ++ new
    → Consumes a (prepend_known new b) (take n buf) × (n ≡ 0 → 0 < length buf → IsAtEnd (prepend_known new b))
given_on a b mid new buf n wanted kept end count same is =
    let P : Type 0 = (n ≡ 0) × (0 < length buf) in
    let all = ap length is ∙ length-append (take n buf) new in
    let read = prepend_known-read a b mid new (take n buf) P kept is
    (λ (p : (n ≡ 0) × (0 < length buf)).
    let none : length mid ≡ 0 = omega (arith, count, same, p.0, p.1) in
    let nothing : length new ≡ 0 = omega (arith, none, all) in
    (none_of new nothing, end (none_of mid none))) in
    (read.0, λ zero some. read.1 (zero, some))

pub counted_on : (mid new buf : List ℕ) (n wanted : ℕ) → n ≡ min (length mid) wanted → wanted ≡ length buf → mid ≡ take n buf ++ new → length mid ≡ n + length new
counted_on mid new buf n wanted count same is =
    let all = ap length is ∙ length-append (take n buf) new in
    let front = length-take n buf in
    omega (arith, count, same, all, front)
