-- Each name once, where one more name comes.
use Rattle.std.proofs.Common.{◌≡◌, refl, sym, ap, ◌∙◌, ℕ, zero, suc, ◌+◌, ◌<◌, add-one, arith, Bool, true, false, ◌||◌, not, cond, List, [], ◌∷◌, ◌++◌, map, take, length, get_or}
use Rattle.std.specs.List.{filter, list_any}
use Rattle.std.specs.Str.{bytes_eq}
use Rattle.std.proofs.lemmas.List.{append-nil}
use Rattle.std.proofs.lemmas.List.Elements.{filter-append}
use Rattle.quel_meaning.specs.WrittenParts.{once}
use Rattle.quel_meaning.proofs.Keys.{same_bytes}
use Rattle.quel_check.proofs.Declared.{flip}

abbrev is_among : List ℕ → List (List ℕ) → Bool
is_among n ms = list_any (λ m. bytes_eq m n) ms

abbrev without : List ℕ → List (List ℕ) → List (List ℕ)
without n ms = filter (λ m. not (bytes_eq m n)) ms

-- what isn't dropped is still there
pub still_there : (x n : List ℕ) → bytes_eq x n ≡ false → (ms : List (List ℕ)) → is_among n (without x ms) ≡ is_among n ms
still_there x n e [] = refl
still_there x n e (m ∷ ms) = go (bytes_eq m x) refl (still_there x n e ms)
  where
    go : (b : Bool) → bytes_eq m x ≡ b → is_among n (without x ms) ≡ is_among n ms → is_among n (cond (not b) (m ∷ without x ms) (without x ms)) ≡ (bytes_eq m n || is_among n ms)
    go true f h = h ∙ sym (ap (λ b. b || is_among n ms) (ap (λ k. bytes_eq k n) (same_bytes m x f) ∙ e))
    go false f h = ap (λ b. bytes_eq m n || b) h

without_last : (x n : List ℕ) (ms : List (List ℕ)) (b : Bool) → bytes_eq x n ≡ b → without x (ms ++ n ∷ []) ≡ cond b (without x ms) (without x ms ++ n ∷ [])
without_last x n ms true e =
    filter-append (λ m. not (bytes_eq m x)) ms (n ∷ []) ∙ ap (λ b. without x ms ++ cond (not b) (n ∷ []) []) (flip n x ∙ e) ∙ append-nil (without x ms)
without_last x n ms false e =
    filter-append (λ m. not (bytes_eq m x)) ms (n ∷ []) ∙ ap (λ b. without x ms ++ cond (not b) (n ∷ []) []) (flip n x ∙ e)

pub once_more : (ns : List (List ℕ)) (n : List ℕ) → once (ns ++ n ∷ []) ≡ cond (is_among n (once ns)) (once ns) (once ns ++ n ∷ [])
once_more [] n = refl
once_more (x ∷ ns) n = go (bytes_eq x n) refl (is_among n (once ns)) refl (once_more ns n)
  where
    go : (b : Bool) → bytes_eq x n ≡ b → (c : Bool) → is_among n (once ns) ≡ c → once (ns ++ n ∷ []) ≡ cond c (once ns) (once ns ++ n ∷ [])
        → x ∷ without x (once (ns ++ n ∷ [])) ≡ cond (b || is_among n (without x (once ns))) (x ∷ without x (once ns)) (x ∷ (without x (once ns) ++ n ∷ []))
    go true e true f h = ap (λ ms. x ∷ without x ms) h
    go true e false f h = ap (λ ms. x ∷ without x ms) h ∙ ap (λ ms. x ∷ ms) (without_last x n (once ns) true e)
    go false e true f h =
        ap (λ ms. x ∷ without x ms) h
        ∙ sym (ap (λ b. cond b (x ∷ without x (once ns)) (x ∷ (without x (once ns) ++ n ∷ []))) (still_there x n e (once ns) ∙ f))
    go false e false f h =
        ap (λ ms. x ∷ without x ms) h ∙ ap (λ ms. x ∷ ms) (without_last x n (once ns) false e)
        ∙ sym (ap (λ b. cond b (x ∷ without x (once ns)) (x ∷ (without x (once ns) ++ n ∷ []))) (still_there x n e (once ns) ∙ f))

-- one more name is put behind those found where it is none of them
pub comes : (found ns : List (List ℕ)) (n : List ℕ) → found ≡ once ns → cond (is_among n found) found (found ++ n ∷ []) ≡ once (ns ++ n ∷ [])
comes found ns n e = (λ i. cond (is_among n (e i)) (e i) (e i ++ n ∷ [])) ∙ sym (once_more ns n)

-- ---- in a loop

taken : {X Y : Type 0} (f : X → Y) (xs : List X) (i : ℕ) (x : X) → i < length xs → x ≡ get_or xs i x → map f (take (suc i) xs) ≡ map f (take i xs) ++ f x ∷ []
taken f [] i x h e = absurd (omega (arith, h))
taken f (y ∷ ys) zero x h e = ap (λ z. f z ∷ []) (sym e)
taken f (y ∷ ys) (suc i) x h e = ap (λ zs. f y ∷ zs) (taken f ys i x (omega (arith, h)) e)

-- one more item is the last of those before it
pub one_taken : {X Y : Type 0} (f : X → Y) (xs : List X) (i : ℕ) (x : X) → i < length xs → x ≡ get_or xs i x → map f (take (i + 1) xs) ≡ map f (take i xs) ++ f x ∷ []
one_taken f xs i x h e = ap (λ k. map f (take k xs)) (add-one i) ∙ taken f xs i x h e
