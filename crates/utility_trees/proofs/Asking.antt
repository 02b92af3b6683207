-- Numbered items, one more at a time.
use Rattle.std.proofs.Common.{◌≡◌, sym, ap, ◌∙◌, ℕ, zero, suc, ◌+◌, ◌<◌, add-one, arith, List, [], ◌∷◌, ◌++◌, map, take, length, get_or}
use Rattle.std.specs.List.{enumerate_from}

numbered_more : {X Y : Type 0} (f : ℕ × X → Y) (n : ℕ) (xs : List X) (i j : ℕ) (x : X) → j ≡ n + i → i < length xs → x ≡ get_or xs i x
    → map f (enumerate_from n (take (suc i) xs)) ≡ map f (enumerate_from n (take i xs)) ++ f (j, x) ∷ []
numbered_more f n [] i j x e h is = absurd (omega (arith, h))
numbered_more f n (y ∷ ys) zero j x e h is = let same : n ≡ j = omega arith in λ i. f (same i, sym is i) ∷ []
numbered_more f n (y ∷ ys) (suc i) j x e h is =
    let same : j ≡ n + 1 + i = omega arith in
    ap (λ zs. f (n, y) ∷ zs) (numbered_more f (n + 1) ys i j x same (omega (arith, h)) is)

-- one numbered item more
pub numbered_next : {X Y : Type 0} (f : ℕ × X → Y) (xs : List X) (i : ℕ) (x : X) → i < length xs → x ≡ get_or xs i x
    → map f (enumerate_from 0 (take (i + 1) xs)) ≡ map f (enumerate_from 0 (take i xs)) ++ f (i, x) ∷ []
numbered_next f xs i x h is =
    let from_0 : i ≡ 0 + i = omega arith in
    ap (λ k. map f (enumerate_from 0 (take k xs))) (add-one i) ∙ numbered_more f 0 xs i i x from_0 h is
