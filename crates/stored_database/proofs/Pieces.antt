-- Bytes that are cut into pieces, and the parts of a tree.
use Rattle.std.proofs.Common.{◌≡◌, refl, ap, ap₂, ◌∙◌, ℕ, zero, suc, ◌<◌, ◌≤◌, ◌==◌, ◌&&◌, Bool, true, false, cond, List, [], ◌∷◌, ◌++◌, map, filter, take, drop, length, Some, arith, length-drop, length-take}
use Rattle.std.specs.Prelude.{nat_le}
use Rattle.std.proofs.lemmas.Bool.{and_from, le-leb, eq-eqb, ne_eqb}
use Rattle.std.proofs.lemmas.List.{take-append-drop}
use Rattle.std.specs.List.{AllByRecursion, concat}
use Rattle.std.specs.List.Sorted.{IsStrictlySortedBy}
use Rattle.std.specs.Ordering.{nat_cmp}
use Rattle.std.specs.declared.cmp.Ordering.TheVariants.{Less}
use Rattle.page_chain.specs.Lists.{when, are_from}
use Rattle.stored_database.specs.Parts.{Part, part_cmp}
use Rattle.stored_database.specs.Trees.{most_part_bytes, are_cut, is_part_of, joined, pieces, cut, parts_from}
use Rattle.stored_database.proofs.Groups.{filter_fail}
use Rattle.stored_database.proofs.PrintedColumns.{then_less}
use Rattle.stored_database.proofs.PrintedEntries.{nat_less}
use Rattle.stored_database.proofs.Reading.{number_itself}

-- ---- pieces

-- what is left is shorter
left_over : (most b : ℕ) (bytes : List ℕ) → length (b ∷ bytes) ≤ suc most → length (drop 900 (b ∷ bytes)) ≤ most
left_over most b bytes h = omega (arith, length-drop 900 (b ∷ bytes))

pieces_of_none : (most : ℕ) → pieces most [] ≡ []
unfolding pieces
pieces_of_none zero = refl
pieces_of_none (suc most) = refl

-- the pieces together are the bytes
pub pieces_join : (most : ℕ) (bytes : List ℕ) → length bytes ≤ most → concat (pieces most bytes) ≡ bytes
unfolding pieces
pieces_join zero [] h = refl
pieces_join zero (b ∷ bytes) h = absurd (omega arith)
pieces_join (suc most) [] h = refl
pieces_join (suc most) (b ∷ bytes) h = ap (λ l. take 900 (b ∷ bytes) ++ l) (pieces_join most (drop 900 (b ∷ bytes)) (left_over most b bytes h)) ∙ take-append-drop 900 (b ∷ bytes)

-- there are 900 bytes in each piece but the last
pub pieces_cut : (most : ℕ) (bytes : List ℕ) → length bytes ≤ most → 0 < length bytes → are_cut (pieces most bytes) ≡ true
unfolding pieces are_cut
pieces_cut zero bytes h some = absurd (omega arith)
pieces_cut (suc most) [] h some = absurd (omega arith)
pieces_cut (suc most) (b ∷ bytes) h some = go (drop 900 (b ∷ bytes)) refl most (left_over most b bytes h) (pieces_cut most (drop 900 (b ∷ bytes)) (left_over most b bytes h))
  where
    first : List ℕ
    first = take 900 (b ∷ bytes)

    go : (rest : List ℕ) → drop 900 (b ∷ bytes) ≡ rest → (m : ℕ) → length rest ≤ m → (0 < length rest → are_cut (pieces m rest) ≡ true) → are_cut (first ∷ pieces m rest) ≡ true
    go [] is m fewer later =
        let taken = length-take 900 (b ∷ bytes) in
        let dropped = length-drop 900 (b ∷ bytes) in
        let none = ap length is in
        ap (λ l. are_cut (first ∷ l)) (pieces_of_none m)
        ∙ and_from (nat_le 1 (length first)) (nat_le (length first) most_part_bytes) (le-leb 1 (length first) (omega (arith, taken, dropped, none))) (le-leb (length first) 900 (omega (arith, taken)))
    go (c ∷ cs) is zero fewer later = absurd (omega arith)
    go (c ∷ cs) is (suc m) fewer later =
        let taken = length-take 900 (b ∷ bytes) in
        let dropped = length-drop 900 (b ∷ bytes) in
        let more = ap length is in
        and_from (length first == most_part_bytes) (are_cut (pieces (suc m) (c ∷ cs))) (eq-eqb (length first) 900 (omega (arith, taken, dropped, more))) (later (omega arith))

-- ---- parts

pub parts_decide : (m s n file sort number place : ℕ) (ps : List (List ℕ)) → AllByRecursion (λ p. is_part_of m s n p ≡ ((file == m) && ((sort == s) && (number == n)))) (parts_from file sort number place ps)
unfolding parts_from
parts_decide m s n file sort number place [] = tt
parts_decide m s n file sort number place (p ∷ ps) = (refl, parts_decide m s n file sort number (suc place) ps)

parts_behind : (file sort number place later : ℕ) (b : List ℕ) (ps : List (List ℕ)) → place < later
    → AllByRecursion (λ p. part_cmp (record { file = file; sort = sort; number = number; place = place; bytes = b }) p ≡ Less) (parts_from file sort number later ps)
unfolding parts_from
parts_behind file sort number place later b [] less = tt
parts_behind file sort number place later b (p ∷ ps) less =
    (then_less file _ (then_less sort _ (then_less number (nat_cmp place later) (nat_less place later less))), parts_behind file sort number place (suc later) b ps (omega arith))

pub parts_ascend : (file sort number place : ℕ) (ps : List (List ℕ)) → IsStrictlySortedBy part_cmp (parts_from file sort number place ps)
unfolding parts_from IsStrictlySortedBy
parts_ascend file sort number place [] = tt
parts_ascend file sort number place (p ∷ ps) = (parts_behind file sort number place (suc place) p ps (omega arith), parts_ascend file sort number (suc place) ps)

parts_count : (file sort number place : ℕ) (ps : List (List ℕ)) → are_from (λ (p : Part). p.place) place (parts_from file sort number place ps) ≡ true
unfolding parts_from
parts_count file sort number place [] = refl
parts_count file sort number place (p ∷ ps) =
    and_from (place == place) (are_from (λ (p : Part). p.place) (suc place) (parts_from file sort number (suc place) ps)) (number_itself place) (parts_count file sort number (suc place) ps)

parts_hold : (file sort number place : ℕ) (ps : List (List ℕ)) → map (λ (p : Part). p.bytes) (parts_from file sort number place ps) ≡ ps
unfolding parts_from
parts_hold file sort number place [] = refl
parts_hold file sort number place (p ∷ ps) = ap (λ l. p ∷ l) (parts_hold file sort number (suc place) ps)

-- what holds of the tree holds of the tree of each part
pub parts_of_tree : (P : ℕ → ℕ → ℕ → Type 0) (file sort number place : ℕ) (ps : List (List ℕ)) → P file sort number → AllByRecursion (λ (p : Part). P p.file p.sort p.number) (parts_from file sort number place ps)
unfolding parts_from
parts_of_tree P file sort number place [] it = tt
parts_of_tree P file sort number place (p ∷ ps) it = (it, parts_of_tree P file sort number (suc place) ps it)

-- the parts together are the bytes of the tree
pub parts_join : (file sort number : ℕ) (bytes : List ℕ) → 0 < length bytes → joined (parts_from file sort number 0 (cut bytes)) ≡ Some bytes
unfolding joined
parts_join file sort number bytes some =
    ap₂ (λ (b : Bool) (l : List (List ℕ)). when (b && are_cut l) (concat l)) (parts_count file sort number 0 (cut bytes)) (parts_hold file sort number 0 (cut bytes))
    ∙ ap₂ when (pieces_cut (length bytes) bytes (omega arith) some) (pieces_join (length bytes) bytes (omega arith))

-- ---- the first part of a tree

-- the first part
abbrev pub first_of : ℕ → ℕ → ℕ → List ℕ → Part
first_of file sort number bytes = record { file = file; sort = sort; number = number; place = 0; bytes = take 900 bytes }

-- a part behind the first isn't the first
behind_first : (s file sort number place : ℕ) (ps : List (List ℕ)) → AllByRecursion (λ (p : Part). ((p.sort == s) && (p.place == 0)) ≡ false) (parts_from file sort number (suc place) ps)
unfolding parts_from
behind_first s file sort number place [] = tt
behind_first s file sort number place (p ∷ ps) = (ap (λ b. (sort == s) && b) (ne_eqb (suc place) 0 (λ e. omega (arith, e))) ∙ off (sort == s), behind_first s file sort number (suc place) ps)
  where
    off : (b : Bool) → (b && false) ≡ false
    off true = refl
    off false = refl

none_first : (s file sort number place : ℕ) (ps : List (List ℕ)) → filter (λ (p : Part). (p.sort == s) && (p.place == 0)) (parts_from file sort number (suc place) ps) ≡ []
none_first s file sort number place ps = filter_fail (λ (p : Part). (p.sort == s) && (p.place == 0)) (parts_from file sort number (suc place) ps) (behind_first s file sort number place ps)

filter_one : {A : Type 0} (test : A → Bool) (x : A) (xs : List A) → test x ≡ true → filter test xs ≡ [] → filter test (x ∷ xs) ≡ x ∷ []
filter_one test x xs one none = ap₂ (λ (b : Bool) l. cond b (x ∷ l) l) one none

-- the first part of a tree of this sort
pub its_first : (file sort number : ℕ) (bytes : List ℕ) → 0 < length bytes
    → filter (λ (p : Part). (p.sort == sort) && (p.place == 0)) (parts_from file sort number 0 (cut bytes)) ≡ first_of file sort number bytes ∷ []
unfolding parts_from pieces
its_first file sort number [] some = absurd (omega arith)
its_first file sort number (b ∷ bytes) some =
    filter_one (λ (p : Part). (p.sort == sort) && (p.place == 0)) (first_of file sort number (b ∷ bytes)) (parts_from file sort number 1 (pieces (length bytes) (drop 900 (b ∷ bytes))))
    (and_from (sort == sort) (0 == 0) (number_itself sort) refl) (none_first sort file sort number 0 (pieces (length bytes) (drop 900 (b ∷ bytes))))

-- none of a tree of another sort
others : (s file sort number place : ℕ) (ps : List (List ℕ)) → (sort == s) ≡ false → AllByRecursion (λ (p : Part). ((p.sort == s) && (p.place == 0)) ≡ false) (parts_from file sort number place ps)
unfolding parts_from
others s file sort number place [] other = tt
others s file sort number place (p ∷ ps) other = (ap (λ b. b && (place == 0)) other, others s file sort number (suc place) ps other)

pub no_first : (s file sort number : ℕ) (bytes : List ℕ) → (sort == s) ≡ false → filter (λ (p : Part). (p.sort == s) && (p.place == 0)) (parts_from file sort number 0 (cut bytes)) ≡ []
no_first s file sort number bytes other = filter_fail (λ (p : Part). (p.sort == s) && (p.place == 0)) (parts_from file sort number 0 (cut bytes)) (others s file sort number 0 (cut bytes) other)
