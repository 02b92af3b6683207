-- Rounds of turns: numbers, orders of the four stages, and how often each steps.
use Rattle.std.specs.Prelude.{ℕ, zero, suc, ◌+◌, ◌*◌, ◌/◌, ◌%◌, ◌==◌, ◌&&◌, Bool, true, List, [], ◌∷◌, length}
use Rattle.std.specs.Cmp.Lexicographic.{slice_cmp}
use Rattle.std.specs.List.{list_all, list_any}
use Rattle.std.specs.Ordering.{is_gt, nat_cmp}

-- the number behind another
abbrev pub next_number : ℕ → ℕ
next_number x = (1664525 * x + 1013904223) % 4294967296

-- the item at a place, 0 where there is none
abbrev pub item_at : ℕ → List ℕ → ℕ
item_at n [] = 0
item_at zero (x ∷ xs) = x
item_at (suc n) (x ∷ xs) = item_at n xs

-- the items but the one at a place
abbrev pub without_item : ℕ → List ℕ → List ℕ
without_item n [] = []
without_item zero (x ∷ xs) = xs
without_item (suc n) (x ∷ xs) = x ∷ without_item n xs

-- the items in the order that these places pick, each of those that are left
abbrev pub picked : List ℕ → List ℕ → List ℕ
picked [] xs = xs
picked (n ∷ ns) xs = item_at n xs ∷ picked ns (without_item n xs)

-- the order of the four stages with this number, from 0, of all orders as they ascend
abbrev pub order_of : ℕ → List ℕ
order_of n = picked (n / 6 ∷ n % 6 / 2 ∷ n % 2 ∷ []) (1 ∷ 2 ∷ 3 ∷ 4 ∷ [])

-- how often each stage steps in a round
abbrev pub times_of : ℕ → ℕ
times_of y = 1 + y / 256 % 4

-- the numbers below this one, the greatest first
abbrev pub below : ℕ → List ℕ
below zero = []
below (suc n) = n ∷ below n

-- each of these lists is behind the next, in the order of their first items that differ
abbrev pub descend : List (List ℕ) → Bool
descend [] = true
descend (x ∷ []) = true
descend (x ∷ y ∷ xs) = is_gt (slice_cmp nat_cmp x y) && descend (y ∷ xs)

-- each of the four stages stands in this order, and nothing else does
abbrev pub has_each_stage : List ℕ → Bool
has_each_stage order = length order == 4 && list_all (λ stage. list_any (λ n. n == stage) order) (1 ∷ 2 ∷ 3 ∷ 4 ∷ [])
