-- Names that differ, where one more name comes.
use Rattle.std.proofs.Common.{◌≡◌, refl, sym, ap, ◌∙◌, ℕ, suc, ◌+◌, ◌<◌, ◌≤◌, nat_lt, arith, Some, None, Bool, true, false, ◌||◌, ◌&&◌, not, cond, List, [], ◌∷◌, ◌++◌, map, length, take, drop, get_or}
use Rattle.std.specs.List.{list_any, list_all, position, position_or_len}
use Rattle.std.specs.Option.{is_some}
use Rattle.std.specs.Str.{bytes_eq}
use Rattle.std.proofs.lemmas.List.{map-append, take-append-drop, take_more}
use Rattle.std.proofs.lemmas.Bool.{lt-ltb, le-ltb}
use Rattle.std.proofs.lemmas.List.Folds.{list_any-append, list_any_more}
use Rattle.calculus.specs.declared.query.Target.{Target}
use Rattle.calculus.specs.Lists.{differ_by}
use Rattle.quel_check.proofs.Declared.{flip}
use Rattle.quel_check.proofs.OnceMore.{one_taken}
use Rattle.quel_meaning.specs.Causes.{repeats, sorts_by_titles}
use Rattle.quel_meaning.proofs.Keys.{same_bytes}

alike : (a b c d : Bool) → (not (a || (b || false)) && (d && not c)) ≡ ((not a && d) && not (b || c))
alike true b c d = refl
alike false true c true = refl
alike false true c false = refl
alike false false c d = refl

-- names differ with one more where they differ and it is none of them
pub differ_more : (names : List (List ℕ)) (n : List ℕ) → differ_by bytes_eq (names ++ n ∷ []) ≡ (differ_by bytes_eq names && not (list_any (bytes_eq n) names))
differ_more [] n = refl
differ_more (m ∷ names) n =
    (λ i. not (list_any-append (bytes_eq m) names (n ∷ []) i) && differ_more names n i)
    ∙ alike (list_any (bytes_eq m) names) (bytes_eq m n) (list_any (bytes_eq n) names) (differ_by bytes_eq names)
    ∙ ap (λ b. differ_by bytes_eq (m ∷ names) && not (b || list_any (bytes_eq n) names)) (flip m n)

among : {X : Type 0} (f : X → List ℕ) (n : List ℕ) (xs : List X) → list_any (λ x. bytes_eq n (f x)) xs ≡ list_any (bytes_eq n) (map f xs)
among f n [] = refl
among f n (x ∷ xs) = ap (λ b. bytes_eq n (f x) || b) (among f n xs)

-- one more of those that differ is new among them
pub one_more : {X : Type 0} (f : X → List ℕ) (xs : List X) (i : ℕ) (x : X) → i < length xs → x ≡ get_or xs i x → (seen : List X) → seen ≡ take i xs
    → differ_by bytes_eq (map f (take i xs)) ≡ true → (b : Bool) → b ≡ not (list_any (λ k. bytes_eq (f x) (f k)) seen) → differ_by bytes_eq (map f (take (i + 1) xs)) ≡ b
one_more f xs i x h e seen s d b k =
    ap (differ_by bytes_eq) (one_taken f xs i x h e) ∙ differ_more (map f (take i xs)) (f x)
    ∙ (λ j. d j && not (list_any (bytes_eq (f x)) (map f (take i xs)))) ∙ sym (k ∙ ap not (ap (list_any (λ k. bytes_eq (f x) (f k))) s ∙ among f (f x) (take i xs)))

front : (names more : List (List ℕ)) → differ_by bytes_eq (names ++ more) ≡ true → differ_by bytes_eq names ≡ true
front [] more h = refl
front (m ∷ names) more h = go (list_any (bytes_eq m) names) (differ_by bytes_eq (names ++ more)) (front names more) (sym (ap (λ b. not b && differ_by bytes_eq (names ++ more)) (list_any-append (bytes_eq m) names more)) ∙ h)
  where
    go : (a d : Bool) → (d ≡ true → differ_by bytes_eq names ≡ true) → (not (a || list_any (bytes_eq m) more) && d) ≡ true → (not a && differ_by bytes_eq names) ≡ true
    go true d f k = absurd (cc k)
    go false true f k = f refl
    go false false f k = absurd (last (list_any (bytes_eq m) more) k)
      where
        last : (b : Bool) → (not b && false) ≡ true → ⊥
        last true k = cc k
        last false k = cc k

-- where some in front don't differ, not all do
pub some_repeat : {X : Type 0} (f : X → List ℕ) (xs : List X) (i : ℕ) → differ_by bytes_eq (map f (take i xs)) ≡ false → repeats (map f xs) ≡ true
some_repeat f xs i h = go (differ_by bytes_eq (map f xs)) refl
  where
    go : (b : Bool) → differ_by bytes_eq (map f xs) ≡ b → not b ≡ true
    go false e = refl
    go true e =
        let parted : differ_by bytes_eq (map f (take i xs) ++ map f (drop i xs)) ≡ true =
        ap (differ_by bytes_eq) (sym (map-append f (take i xs) (drop i xs)) ∙ ap (map f) (take-append-drop i xs)) ∙ e in
        absurd (let no = sym (front (map f (take i xs)) (map f (drop i xs)) parted) ∙ h in cc no)

-- one more that is new stands behind those that were seen
pub one_seen : {X : Type 0} (xs : List X) (i : ℕ) (x : X) → i < length xs → x ≡ get_or xs i x → (seen now : List X) → seen ≡ take i xs
    → (among is_new : Bool) → now ≡ cond among seen (seen ++ x ∷ []) → is_new ≡ not among → is_new ≡ true → now ≡ take (i + 1) xs
one_seen xs i x h e seen now s true is_new k n t = absurd (let no = sym n ∙ t in cc no)
one_seen xs i x h e seen now s false is_new k n t = k ∙ (λ j. s j ++ e j ∷ []) ∙ sym (take_more xs i x h)

-- a name is among those that were seen, with one more put behind them where it is new, where it is among them or is that one
pub among_more : {X : Type 0} (f : X → List ℕ) (x : X) (seen now : List X) → now ≡ cond (list_any (λ k. bytes_eq (f x) (f k)) seen) seen (seen ++ x ∷ [])
    → (n : List ℕ) → list_any (λ k. bytes_eq n (f k)) now ≡ (list_any (λ k. bytes_eq n (f k)) seen || bytes_eq n (f x))
among_more f x seen now e n = go (list_any (λ k. bytes_eq (f x) (f k)) seen) refl (bytes_eq n (f x)) refl e
  where
    or_false : (b : Bool) → b ≡ (b || false)
    or_false true = refl
    or_false false = refl

    or_true : (b : Bool) → b ≡ true → b ≡ (b || true)
    or_true true h = refl
    or_true false h = absurd (cc h)

    go : (a : Bool) → list_any (λ k. bytes_eq (f x) (f k)) seen ≡ a → (b : Bool) → bytes_eq n (f x) ≡ b → now ≡ cond a seen (seen ++ x ∷ [])
        → list_any (λ k. bytes_eq n (f k)) now ≡ (list_any (λ k. bytes_eq n (f k)) seen || b)
    go true h true k e = ap (list_any (λ k. bytes_eq n (f k))) e ∙ or_true _ (ap (λ m. list_any (λ k. bytes_eq m (f k)) seen) (same_bytes n (f x) k) ∙ h)
    go true h false k e = ap (list_any (λ k. bytes_eq n (f k))) e ∙ or_false _
    go false h b k e =
        ap (list_any (λ k. bytes_eq n (f k))) e ∙ list_any-append (λ k. bytes_eq n (f k)) seen (x ∷ []) ∙ ap (λ c. list_any (λ k. bytes_eq n (f k)) seen || c) (last (bytes_eq n (f x)) ∙ k)
      where
        last : (c : Bool) → (c || false) ≡ c
        last true = refl
        last false = refl

-- ---- titles

-- a name is a title of one target more where it was one before or is that target's
pub title_more : (targets : List Target) (i : ℕ) (t : Target) → i < length targets → t ≡ get_or targets i t → (n : List ℕ)
    → (list_any (λ (u : Target). bytes_eq u.name n) (take i targets) || bytes_eq n t.name) ≡ list_any (λ (u : Target). bytes_eq u.name n) (take (i + 1) targets)
title_more targets i t h e n =
    ap (λ b. list_any (λ (u : Target). bytes_eq u.name n) (take i targets) || b) (flip n t.name ∙ ap (λ (u : Target). bytes_eq u.name n) e)
    ∙ sym (list_any_more (λ (u : Target). bytes_eq u.name n) targets i t h)

first_below : {X : Type 0} (p : X → Bool) (xs : List X) → list_any p xs ≡ true → position_or_len p xs < length xs
first_below p [] h = absurd (cc h)
first_below p (x ∷ xs) h = go (first_below p xs) (p x) h
  where
    go : (list_any p xs ≡ true → position_or_len p xs < length xs) → (b : Bool) → (b || list_any p xs) ≡ true → cond (not b) (1 + position_or_len p xs) 0 < suc (length xs)
    go later true h = omega arith
    go later false h = omega (arith, later h)

none_below : {X : Type 0} (p : X → Bool) (xs : List X) → list_any p xs ≡ false → length xs ≤ position_or_len p xs
none_below p [] h = omega arith
none_below p (x ∷ xs) h = go (none_below p xs) (p x) h
  where
    go : (list_any p xs ≡ false → length xs ≤ position_or_len p xs) → (b : Bool) → (b || list_any p xs) ≡ false → suc (length xs) ≤ cond (not b) (1 + position_or_len p xs) 0
    go later true h = absurd (cc h)
    go later false h = omega (arith, later h)

-- there is a place where an item passes
pub has_position : {X : Type 0} (p : X → Bool) (xs : List X) → is_some (position p xs) ≡ list_any p xs
has_position p xs = go (list_any p xs) refl
  where
    go : (b : Bool) → list_any p xs ≡ b → is_some (cond (nat_lt (position_or_len p xs) (length xs)) (Some (position_or_len p xs)) None) ≡ b
    go true e = ap (λ c. is_some (cond c (Some (position_or_len p xs)) None)) (lt-ltb _ _ (first_below p xs e))
    go false e = ap (λ c. is_some (cond c (Some (position_or_len p xs)) None)) (le-ltb _ _ (none_below p xs e))

-- where these are the titles, one sorts by titles where each name to sort by is one of them
pub sorted_by : {X : Type 0} (f : X → List ℕ) (titles : List X) (targets : List Target)
    → ((n : List ℕ) → list_any (λ k. bytes_eq n (f k)) titles ≡ list_any (λ (t : Target). bytes_eq t.name n) targets)
    → (sort : List (List ℕ × Bool)) → list_all (λ k. list_any (λ m. bytes_eq k.0 (f m)) titles) sort ≡ sorts_by_titles targets sort
sorted_by f titles targets h [] = refl
sorted_by f titles targets h (k ∷ sort) =
    λ i. (h k.0 ∙ sym (has_position (λ (t : Target). bytes_eq t.name k.0) targets)) i && sorted_by f titles targets h sort i
