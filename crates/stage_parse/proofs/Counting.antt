-- Newlines before places that follow each other.
use Rattle.std.proofs.Common.{◌≡◌, ap, sym, ◌∙◌, ℕ, ◌+◌, ◌-◌, ◌≤◌, Bool, true, false, cond, List, [], ◌∷◌, ◌++◌, take, drop, length, length-append, arith}
use Rattle.std.proofs.lemmas.List.{drop-take, length-take}
use Rattle.std.proofs.lemmas.List.Elements.{filter-append}
use Rattle.std.proofs.Math.Seq.{take-add}
use Rattle.std.specs.Prelude.{◌==◌, filter}
use Rattle.stage_parse.specs.Counted.{newlines}

newlines_append : (xs ys : List ℕ) → newlines (xs ++ ys) ≡ newlines xs + newlines ys
newlines_append xs ys = ap length (filter-append (λ b. b == 10) xs ys) ∙ length-append (filter (λ b. b == 10) xs) (filter (λ b. b == 10) ys)

counted_further : (text : List ℕ) (p m : ℕ) → newlines (take p text) + newlines (drop p (take (p + m) text)) ≡ newlines (take (p + m) text)
counted_further text p m =
    ap (λ (x : List ℕ). newlines (take p text) + newlines x) (drop-take p m text)
    ∙ sym (ap newlines (take-add p m text) ∙ newlines_append (take p text) (take m (drop p text)))

-- counted on from a place in front
pub counted_on : (text : List ℕ) (p q : ℕ) → p ≤ q → newlines (take p text) + newlines (drop p (take q text)) ≡ newlines (take q text)
counted_on text p q le =
    let e : p + (q - p) ≡ q = omega (arith, le) in
    rw e at (counted_further text p (q - p))

one_more : (b : Bool) (x : ℕ) (xs ys : List ℕ) → length ys ≤ length xs → length (cond b (x ∷ ys) ys) ≤ length (x ∷ xs)
one_more true x xs ys le = omega (arith, le)
one_more false x xs ys le = omega (arith, le)

counted_few : (xs : List ℕ) → newlines xs ≤ length xs
counted_few [] = omega arith
counted_few (x ∷ xs) = one_more (x == 10) x xs (filter (λ b. b == 10) xs) (counted_few xs)

-- they are no more than the bytes of the text
pub few : (text : List ℕ) (p : ℕ) → newlines (take p text) ≤ length text
few text p = omega (arith, counted_few (take p text), length-take p text)
