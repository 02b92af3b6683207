-- Qualifications joined by halves: it is all one how often neighbours are paired, where it is often enough.
use Rattle.std.proofs.Common.{◌≡◌, refl, sym, ap, ◌∙◌, ℕ, zero, suc, ◌<◌, ◌≤◌, List, [], ◌∷◌, ◌++◌, length, reverse, length-append, arith}
use Rattle.std.proofs.lemmas.List.{reverse-append, append_assoc, append-nil}
use Rattle.calculus.specs.declared.query.QQual.{QQual}
use Rattle.view_text.specs.Halves.{Joining, paired, chained, joined_within, joined}

-- ---- neighbours

pub paired_none : (j : Joining) → paired j [] ≡ []
unfolding paired
paired_none j = refl

pub paired_one : (j : Joining) (p : QQual) → paired j (p ∷ []) ≡ p ∷ []
unfolding paired
paired_one j p = refl

pub paired_two : (j : Joining) (p q : QQual) (more : List QQual) → paired j (p ∷ q ∷ more) ≡ j p q ∷ paired j more
unfolding paired
paired_two j p q more = refl

-- pairing leaves no more than there were
paired_length : (j : Joining) (qs : List QQual) → length (paired j qs) ≤ length qs
unfolding paired
paired_length j [] = omega arith
paired_length j (p ∷ []) = omega arith
paired_length j (p ∷ q ∷ more) = let h = paired_length j more in omega arith

-- and fewer where there were two
pub paired_fewer : (j : Joining) (qs : List QQual) → 1 < length qs → length (paired j qs) < length qs
unfolding paired
paired_fewer j [] h = absurd (omega arith)
paired_fewer j (p ∷ []) h = absurd (omega arith)
paired_fewer j (p ∷ q ∷ more) h = let k = paired_length j more in omega arith

reverse_last : (qs : List QQual) (q : QQual) → reverse (qs ++ q ∷ []) ≡ q ∷ reverse qs
reverse_last qs q = reverse-append qs (q ∷ [])

-- one and the last of the others, from behind
pub pair_step : (j : Joining) (p q : QQual) (old new : List QQual) → old ≡ new ++ q ∷ [] → paired j (p ∷ reverse old) ≡ j p q ∷ paired j (reverse new)
pair_step j p q old new h = ap (λ qs. paired j (p ∷ reverse qs)) h ∙ ap (λ qs. paired j (p ∷ qs)) (reverse_last new q) ∙ paired_two j p q (reverse new)

pub alone_step : (j : Joining) (p : QQual) (old new : List QQual) → old ≡ [] → new ≡ [] → paired j (p ∷ reverse old) ≡ p ∷ paired j (reverse new)
unfolding paired
alone_step j p old new h k = ap (λ qs. paired j (p ∷ reverse qs)) h ∙ paired_one j p ∙ ap (λ qs. p ∷ paired j (reverse qs)) (sym k)

-- what is put behind and what is still to pair, one step on
pub pairs_step : (j : Joining) (p q : QQual) (all pairs old new : List QQual) (before : List QQual) → before ≡ old ++ p ∷ [] → paired j (p ∷ reverse old) ≡ q ∷ paired j (reverse new)
    → pairs ++ paired j (reverse before) ≡ all → (pairs ++ q ∷ []) ++ paired j (reverse new) ≡ all
pairs_step j p q all pairs old new before h k e =
    append_assoc pairs (q ∷ []) (paired j (reverse new)) ∙ ap (λ qs. pairs ++ qs) (sym k) ∙ ap (λ qs. pairs ++ paired j qs) (sym (reverse_last old p)) ∙ ap (λ qs. pairs ++ paired j (reverse qs)) (sym h) ∙ e

-- ---- often enough

none_within : (n : ℕ) (j : Joining) (none : QQual) → joined_within n j none [] ≡ none
unfolding joined_within chained paired
none_within zero j none = refl
none_within (suc n) j none = none_within n j none

one_within : (n : ℕ) (j : Joining) (none p : QQual) → joined_within n j none (p ∷ []) ≡ p
unfolding joined_within chained paired
one_within zero j none p = refl
one_within (suc n) j none p = one_within n j none p

within_next : (n : ℕ) (j : Joining) (none : QQual) (qs : List QQual) → joined_within (suc n) j none qs ≡ joined_within n j none (paired j qs)
unfolding joined_within
within_next n j none qs = refl

enough : (n m : ℕ) (j : Joining) (none : QQual) (qs : List QQual) → length qs ≤ n → length qs ≤ m → joined_within n j none qs ≡ joined_within m j none qs
enough n m j none [] h k = none_within n j none ∙ sym (none_within m j none)
enough n m j none (p ∷ []) h k = one_within n j none p ∙ sym (one_within m j none p)
enough zero m j none (p ∷ q ∷ more) h k = absurd (omega arith)
enough (suc n) zero j none (p ∷ q ∷ more) h k = absurd (omega arith)
enough (suc n) (suc m) j none (p ∷ q ∷ more) h k =
    let fewer = paired_fewer j (p ∷ q ∷ more) (omega arith) in
    within_next n j none (p ∷ q ∷ more) ∙ enough n m j none (paired j (p ∷ q ∷ more)) (omega arith) (omega arith) ∙ sym (within_next m j none (p ∷ q ∷ more))

-- ---- what is joined

pub none_joined : (j : Joining) (none : QQual) (qs : List QQual) → length qs ≡ 0 → joined j none qs ≡ none
none_joined j none [] h = none_within 0 j none
none_joined j none (q ∷ qs) h = absurd (omega arith)

pub one_joined : (j : Joining) (none p : QQual) → joined j none (p ∷ []) ≡ p
one_joined j none p = one_within 1 j none p

-- to pair neighbours leaves what is joined as it is
pub paired_joined : (j : Joining) (none : QQual) (qs : List QQual) → joined j none (paired j qs) ≡ joined j none qs
paired_joined j none [] = ap (joined j none) (paired_none j)
paired_joined j none (q ∷ qs) =
    let k = paired_length j (q ∷ qs) in
    enough (length (paired j (q ∷ qs))) (length (q ∷ qs)) j none (paired j (q ∷ qs)) (omega arith) k
    ∙ sym (within_next (length (q ∷ qs)) j none (q ∷ qs)) ∙ enough (suc (length (q ∷ qs))) (length (q ∷ qs)) j none (q ∷ qs) (omega arith) (omega arith)

pub left_joined : (j : Joining) (none : QQual) (qs rest : List QQual) (q : QQual) → length qs ≤ 1 → qs ≡ rest ++ q ∷ [] → joined j none qs ≡ q
left_joined j none qs [] q h e = ap (joined j none) e ∙ one_joined j none q
left_joined j none qs (p ∷ rest) q h e =
    let l = length-append rest (q ∷ []) in
    let k : length qs ≡ suc (length (rest ++ q ∷ [])) = ap length e in absurd (omega arith)

pub none_paired : (j : Joining) (pairs qs : List QQual) → length qs ≡ 0 → pairs ≡ pairs ++ paired j (reverse qs)
unfolding paired
none_paired j pairs [] h = sym (append-nil pairs)
none_paired j pairs (q ∷ qs) h = absurd (omega arith)
