-- What is joined names only the first variables where each part does.
use Rattle.std.proofs.Common.{◌≡◌, refl, ℕ, zero, suc, true, List, [], ◌∷◌, length}
use Rattle.std.specs.List.{list_all}
use Rattle.calculus.specs.declared.query.QQual.{QQual, True}
use Rattle.calculus.specs.Tree.{both, either, negated}
use Rattle.view_text.specs.Halves.{Joining, paired, chained, joined_within, all_of, any_of}
use Rattle.view_text.specs.Scoped.{is_qual_within}
use Rattle.view_text.proofs.Within.{left_true, right_true, both_true}

-- two that are within are joined within
abbrev JoinsWithin : ℕ → Joining → Type 0
JoinsWithin k join = (p q : QQual) → is_qual_within k p ≡ true → is_qual_within k q ≡ true → is_qual_within k (join p q) ≡ true

abbrev AllWithin : ℕ → List QQual → Type 0
AllWithin k qs = list_all (is_qual_within k) qs ≡ true

head_within : (k : ℕ) (q : QQual) (qs : List QQual) → AllWithin k (q ∷ qs) → is_qual_within k q ≡ true
head_within k q qs h = left_true (is_qual_within k q) (list_all (is_qual_within k) qs) h

tail_within : (k : ℕ) (q : QQual) (qs : List QQual) → AllWithin k (q ∷ qs) → AllWithin k qs
tail_within k q qs h = right_true (is_qual_within k q) (list_all (is_qual_within k) qs) h

paired_within : (k : ℕ) (join : Joining) → JoinsWithin k join → (qs : List QQual) → AllWithin k qs → AllWithin k (paired join qs)
unfolding paired
paired_within k join j [] h = refl
paired_within k join j (p ∷ []) h = h
paired_within k join j (p ∷ q ∷ more) h =
    both_true (is_qual_within k (join p q)) (list_all (is_qual_within k) (paired join more))
    (j p q (head_within k p (q ∷ more) h) (head_within k q more (tail_within k p (q ∷ more) h)))
    (paired_within k join j more (tail_within k q more (tail_within k p (q ∷ more) h)))

chained_within : (k : ℕ) (join : Joining) (none : QQual) → JoinsWithin k join → is_qual_within k none ≡ true → (qs : List QQual) → AllWithin k qs
    → is_qual_within k (chained join none qs) ≡ true
unfolding chained
chained_within k join none j n [] h = n
chained_within k join none j n (p ∷ []) h = head_within k p [] h
chained_within k join none j n (p ∷ q ∷ more) h =
    j p (chained join none (q ∷ more)) (head_within k p (q ∷ more) h) (chained_within k join none j n (q ∷ more) (tail_within k p (q ∷ more) h))

rounds_within : (n k : ℕ) (join : Joining) (none : QQual) → JoinsWithin k join → is_qual_within k none ≡ true → (qs : List QQual) → AllWithin k qs
    → is_qual_within k (joined_within n join none qs) ≡ true
unfolding joined_within
rounds_within zero k join none j n qs h = chained_within k join none j n qs h
rounds_within (suc m) k join none j n qs h = rounds_within m k join none j n (paired join qs) (paired_within k join j qs h)

-- all of them
pub all_within : (k : ℕ) (qs : List QQual) → list_all (is_qual_within k) qs ≡ true → is_qual_within k (all_of qs) ≡ true
unfolding is_qual_within
all_within k qs h = rounds_within (length qs) k (λ p q. both p q) True (λ p q a b. both_true (is_qual_within k p) (is_qual_within k q) a b) refl qs h

-- at least one of them
pub any_within : (k : ℕ) (qs : List QQual) → list_all (is_qual_within k) qs ≡ true → is_qual_within k (any_of qs) ≡ true
unfolding is_qual_within
any_within k qs h = rounds_within (length qs) k (λ p q. either p q) (negated True) (λ p q a b. both_true (is_qual_within k p) (is_qual_within k q) a b) refl qs h
