-- Items that differ, where one more item comes.
use Rattle.std.proofs.Common.{◌≡◌, refl, sym, ap, ◌∙◌, ℕ, ◌+◌, ◌<◌, Bool, true, false, ◌||◌, ◌&&◌, not, cond, List, [], ◌∷◌, ◌++◌, map, length, take, drop, get_or}
use Rattle.std.specs.List.{list_any}
use Rattle.std.proofs.lemmas.List.{take-append-drop, take_more, map_push}
use Rattle.std.proofs.lemmas.List.Folds.{list_any-append}
use Rattle.calculus.specs.declared.query.RelKey.{RelKey}
use Rattle.calculus.specs.Keys.{same_key}
use Rattle.calculus.specs.Lists.{differ_by}
use Rattle.quel_check.proofs.Declared.{flip}

-- which of two keys stands first doesn't count
flipped : (a b : RelKey) → same_key a b ≡ same_key b a
flipped a b = λ i. flip a.owner b.owner i && flip a.name b.name i

alike : (a b c d : Bool) → (not (a || (b || false)) && (d && not c)) ≡ ((not a && d) && not (b || c))
alike true b c d = refl
alike false true c true = refl
alike false true c false = refl
alike false false c d = refl

-- keys differ with one more where they differ and it is none of them
differ_more : (keys : List RelKey) (k : RelKey) → differ_by same_key (keys ++ k ∷ []) ≡ (differ_by same_key keys && not (list_any (same_key k) keys))
differ_more [] k = refl
differ_more (m ∷ keys) k =
    (λ i. not (list_any-append (same_key m) keys (k ∷ []) i) && differ_more keys k i)
    ∙ alike (list_any (same_key m) keys) (same_key m k) (list_any (same_key k) keys) (differ_by same_key keys)
    ∙ ap (λ b. differ_by same_key (m ∷ keys) && not (b || list_any (same_key k) keys)) (flipped m k)

among : {B : Type 0} (f : B → RelKey) (k : RelKey) (xs : List B) → list_any (λ x. same_key k (f x)) xs ≡ list_any (same_key k) (map f xs)
among f k [] = refl
among f k (x ∷ xs) = ap (λ b. same_key k (f x) || b) (among f k xs)

-- one more of those that differ is new among them
pub one_more : {B : Type 0} (f : B → RelKey) (keys : List RelKey) (i : ℕ) (k : RelKey) → i < length keys → k ≡ get_or keys i k → (seen : List B) → map f seen ≡ take i keys
    → differ_by same_key (take i keys) ≡ true → (b : Bool) → b ≡ not (list_any (λ x. same_key k (f x)) seen) → differ_by same_key (take (i + 1) keys) ≡ b
one_more f keys i k h e seen s d b n =
    ap (differ_by same_key) (take_more keys i k h ∙ ap (λ m. take i keys ++ m ∷ []) (sym e)) ∙ differ_more (take i keys) k
    ∙ (λ j. d j && not (list_any (same_key k) (take i keys))) ∙ sym (n ∙ ap not (among f k seen ∙ ap (list_any (same_key k)) s))

front : (keys more : List RelKey) → differ_by same_key (keys ++ more) ≡ true → differ_by same_key keys ≡ true
front [] more h = refl
front (m ∷ keys) more h = go (list_any (same_key m) keys) (differ_by same_key (keys ++ more)) (front keys more) (sym (ap (λ b. not b && differ_by same_key (keys ++ more)) (list_any-append (same_key m) keys more)) ∙ h)
  where
    go : (a d : Bool) → (d ≡ true → differ_by same_key keys ≡ true) → (not (a || list_any (same_key m) more) && d) ≡ true → (not a && differ_by same_key keys) ≡ true
    go true d f k = absurd (cc k)
    go false true f k = f refl
    go false false f k = absurd (last (list_any (same_key m) more) k)
      where
        last : (b : Bool) → (not b && false) ≡ true → ⊥
        last true k = cc k
        last false k = cc k

-- where some in front don't differ, not all do
pub some_repeat : (keys : List RelKey) (i : ℕ) → differ_by same_key (take i keys) ≡ false → true ≡ not (differ_by same_key keys)
some_repeat keys i h = go (differ_by same_key keys) refl
  where
    go : (b : Bool) → differ_by same_key keys ≡ b → true ≡ not b
    go false e = refl
    go true e = absurd (let no = sym (front (take i keys) (drop i keys) (ap (differ_by same_key) (take-append-drop i keys) ∙ e)) ∙ h in cc no)

-- one more that is new stands behind those that were seen
pub one_seen : {B : Type 0} (f : B → RelKey) (keys : List RelKey) (i : ℕ) (x : B) → i < length keys → f x ≡ get_or keys i (f x) → (seen now : List B) → map f seen ≡ take i keys
    → (among is_new : Bool) → now ≡ cond among seen (seen ++ x ∷ []) → is_new ≡ not among → is_new ≡ true → map f now ≡ take (i + 1) keys
one_seen f keys i x h e seen now s true is_new k n t = absurd (let no = sym n ∙ t in cc no)
one_seen f keys i x h e seen now s false is_new k n t =
    ap (map f) k ∙ map_push f seen x ∙ (λ j. s j ++ e j ∷ []) ∙ sym (take_more keys i (f x) h)
