-- The parts of a tree are those into which its bytes are cut.
use Rattle.std.proofs.Common.{◌≡◌, refl, sym, ap, ap₂, ◌∙◌, inl, inr, ℕ, zero, suc, ◌≤◌, ◌==◌, ◌&&◌, nat_le, true, List, [], ◌∷◌, ◌++◌, map, filter, length, take, drop, Some, arith, length-append}
use Rattle.std.specs.List.{concat}
use Rattle.std.proofs.lemmas.Bool.Decides.{nat_tests}
use Rattle.page_chain.specs.Lists.{are_from}
use Rattle.stored_database.specs.Parts.{Part}
use Rattle.stored_database.specs.Trees.{most_part_bytes, are_cut, is_part_of, joined, tree_at, pieces, cut, parts_from}
use Rattle.stored_database.proofs.Members.{IsIn, filter_in}
use Rattle.stored_database.proofs.Reading.{both, when_some, same_number, take_front, drop_front}

-- ---- pieces

take_short : (n : ℕ) (xs : List ℕ) → length xs ≤ n → take n xs ≡ xs
take_short zero [] h = refl
take_short (suc n) [] h = refl
take_short zero (x ∷ xs) h = absurd (omega (arith, h))
take_short (suc n) (x ∷ xs) h = ap (λ l. x ∷ l) (take_short n xs (omega (arith, h)))

drop_short : (n : ℕ) (xs : List ℕ) → length xs ≤ n → drop n xs ≡ []
drop_short zero [] h = refl
drop_short (suc n) [] h = refl
drop_short zero (x ∷ xs) h = absurd (omega (arith, h))
drop_short (suc n) (x ∷ xs) h = drop_short n xs (omega (arith, h))

append_none : (xs : List ℕ) → xs ++ [] ≡ xs
append_none [] = refl
append_none (x ∷ xs) = ap (λ l. x ∷ l) (append_none xs)

no_pieces : (most : ℕ) → pieces most [] ≡ []
unfolding pieces
no_pieces zero = refl
no_pieces (suc most) = refl

first_piece : (most : ℕ) (xs : List ℕ) → 1 ≤ length xs → pieces (suc most) xs ≡ take most_part_bytes xs ∷ pieces most (drop most_part_bytes xs)
unfolding pieces
first_piece most [] h = absurd (omega (arith, h))
first_piece most (x ∷ xs) h = refl

at_most_of : (m n : ℕ) → nat_le m n ≡ true → m ≤ n
at_most_of m n h = grind (arith, nat_tests)

one_piece : (most : ℕ) (last : List ℕ) → 1 ≤ length last → length last ≤ most_part_bytes → pieces (suc most) (last ++ []) ≡ last ∷ []
one_piece most last some short =
    ap (pieces (suc most)) (append_none last)
    ∙ first_piece most last some
    ∙ ap₂ (λ (p : List ℕ) (ps : List (List ℕ)). p ∷ ps) (take_short most_part_bytes last short) (ap (pieces most) (drop_short most_part_bytes last short) ∙ no_pieces most)

more_pieces : (most : ℕ) (first rest : List ℕ) (ps : List (List ℕ)) → length first ≡ most_part_bytes → pieces most rest ≡ ps → pieces (suc most) (first ++ rest) ≡ first ∷ ps
more_pieces most first rest ps long later =
    first_piece most (first ++ rest) (omega (arith, length-append first rest, long))
    ∙ ap₂ (λ (p : List ℕ) (ps : List (List ℕ)). p ∷ ps) (take_front most_part_bytes first rest long) (ap (pieces most) (drop_front most_part_bytes first rest long) ∙ later)

pieces_again : (most : ℕ) (ps : List (List ℕ)) → are_cut ps ≡ true → length (concat ps) ≤ most → pieces most (concat ps) ≡ ps
unfolding are_cut
pieces_again most [] h le = cc
pieces_again zero (last ∷ []) h le = absurd (omega (arith, length-append last [], le, at_most_of 1 (length last) (both (nat_le 1 (length last)) _ h).0))
pieces_again (suc most) (last ∷ []) h le =
    let t = both (nat_le 1 (length last)) (nat_le (length last) most_part_bytes) h in
    one_piece most last (at_most_of 1 (length last) t.0) (at_most_of (length last) most_part_bytes t.1)
pieces_again zero (first ∷ next ∷ more) h le =
    let long = same_number (length first) most_part_bytes (both (length first == most_part_bytes) _ h).0 in
    absurd (omega (arith, length-append first (concat (next ∷ more)), le, long))
pieces_again (suc most) (first ∷ next ∷ more) h le =
    let t = both (length first == most_part_bytes) (are_cut (next ∷ more)) h in
    let long = same_number (length first) most_part_bytes t.0 in
    more_pieces most first (concat (next ∷ more)) (next ∷ more) long (pieces_again most (next ∷ more) t.1 (omega (arith, length-append first (concat (next ∷ more)), le, long)))

-- pieces as a tree is cut into are those that their bytes are cut into
pub cut_again : (ps : List (List ℕ)) → are_cut ps ≡ true → cut (concat ps) ≡ ps
cut_again ps h = pieces_again (length (concat ps)) ps h (omega arith)

-- ---- parts

pub is_that_part : (file sort number : ℕ) (p : Part) → is_part_of file sort number p ≡ true → (p.file ≡ file) × (p.sort ≡ sort) × (p.number ≡ number)
is_that_part file sort number p h =
    let a = both (p.file == file) _ h in
    let b = both (p.sort == sort) (p.number == number) a.1 in
    (same_number p.file file a.0, same_number p.sort sort b.0, same_number p.number number b.1)

pub parts_again : (file sort number place : ℕ) (ps : List Part) → ((p : Part) → IsIn p ps → is_part_of file sort number p ≡ true) → are_from (λ p. p.place) place ps ≡ true
    → parts_from file sort number place (map (λ p. p.bytes) ps) ≡ ps
unfolding parts_from
parts_again file sort number place [] are h = refl
parts_again file sort number place (p ∷ ps) are h =
    let t = both (p.place == place) (are_from (λ p. p.place) (suc place) ps) h in
    let e = is_that_part file sort number p (are p (inl refl)) in
    let first : record { file = file; sort = sort; number = number; place = place; bytes = p.bytes } ≡ p =
    λ i. record { file = sym e.0 i; sort = sym e.1 i; number = sym e.2 i; place = sym (same_number p.place place t.0) i; bytes = p.bytes } in
    ap₂ (λ (p : Part) (ps : List Part). p ∷ ps) first (parts_again file sort number (suc place) ps (λ q at. are q (inr at)) t.1)

-- What a tree's parts are, where they are whole.
record IsWhole (ps : List Part) (whole : List ℕ) : Type 0 where
  placed : are_from (λ p. p.place) 0 ps ≡ true
  are_cut : are_cut (map (λ p. p.bytes) ps) ≡ true
  bytes : concat (map (λ p. p.bytes) ps) ≡ whole

whole_parts : (ps : List Part) (bytes : List ℕ) → joined ps ≡ Some bytes → IsWhole ps bytes
unfolding joined
whole_parts ps bytes h =
    let w = when_some (are_from (λ p. p.place) 0 ps && are_cut (map (λ p. p.bytes) ps)) (concat (map (λ p. p.bytes) ps)) bytes h in
    let t = both (are_from (λ p. p.place) 0 ps) (are_cut (map (λ p. p.bytes) ps)) w.0 in
    record { placed = t.0; are_cut = t.1; bytes = w.1 }

-- the parts of a tree are what its bytes are cut into
pub tree_parts : (parts : List Part) (file sort number : ℕ) (bytes : List ℕ) → tree_at parts file sort number ≡ Some bytes
    → parts_from file sort number 0 (cut bytes) ≡ filter (is_part_of file sort number) parts
tree_parts parts file sort number bytes h =
    let ps = filter (is_part_of file sort number) parts in
    let w = whole_parts ps bytes h in
    ap (λ l. parts_from file sort number 0 (cut l)) (sym w.bytes)
    ∙ ap (parts_from file sort number 0) (cut_again (map (λ p. p.bytes) ps) w.are_cut)
    ∙ parts_again file sort number 0 ps (λ p at. (filter_in (is_part_of file sort number) parts p at).1) w.placed

-- one of them is the first
pub first_part : (parts : List Part) (file sort number : ℕ) (bytes : List ℕ) → tree_at parts file sort number ≡ Some bytes
    → (q : Part) × IsIn q parts × (is_part_of file sort number q ≡ true) × ((q.place == 0) ≡ true)
unfolding are_cut
first_part parts file sort number bytes h =
    let ps = filter (is_part_of file sort number) parts in
    let w = whole_parts ps bytes h in
    let f = first ps w.placed w.are_cut in
    let s = filter_in (is_part_of file sort number) parts f.0 f.1 in
    (f.0, s.0, s.1, f.2)
  where
    first : (ps : List Part) → are_from (λ p. p.place) 0 ps ≡ true → are_cut (map (λ p. p.bytes) ps) ≡ true → (q : Part) × IsIn q ps × ((q.place == 0) ≡ true)
    first [] placed some = cc
    first (q ∷ qs) placed some = (q, inl refl, (both (q.place == 0) _ placed).0)
