-- A level down, and none.
use Rattle.std.proofs.Common.{◌≡◌, ℕ, zero, suc, ◌-◌, refl, arith}
use Rattle.quel_grammar.specs.TermReaders.{level, deeper, nowhere}

pub level_down : (n : ℕ) → (n ≡ 0 → ⊥) → level n ≡ deeper (level (n - 1))
unfolding level
level_down zero some = absurd (some refl)
level_down (suc n) some = let e : suc n - 1 ≡ n = omega arith in rw e refl

pub level_none : (n : ℕ) → n ≡ 0 → level n ≡ nowhere
unfolding level
level_none n e = rw e refl
