-- Terms and qualifications that name only the first so many variables: what is put in keeps them so.
use Rattle.std.proofs.Common.{◌≡◌, refl, ap, ℕ, ◌<◌, ◌≤◌, Bool, true, false, ◌&&◌, nat_lt, arith}
use Rattle.std.proofs.lemmas.Bool.{ltb-true, lt-ltb}
use Rattle.calculus.specs.declared.query.QTerm.{QTerm, Int, Chars, Attr, Agg'}
use Rattle.calculus.specs.declared.query.QQual.{QQual, True, Cmp, Like}
use Rattle.calculus.specs.Tree.{neg, abs, operation, concat, both, either, negated}
use Rattle.view_text.specs.Replaced.{Substitution, replaced, replaced_in_qual, no_aggregate}
use Rattle.view_text.specs.Scoped.{is_within, is_qual_within}

-- ---- truths

pub left_true : (a b : Bool) → (a && b) ≡ true → a ≡ true
left_true true b h = refl
left_true false b h = h

pub right_true : (a b : Bool) → (a && b) ≡ true → b ≡ true
right_true true b h = h
right_true false b h = cc h

pub both_true : (a b : Bool) → a ≡ true → b ≡ true → (a && b) ≡ true
both_true true b h k = k
both_true false b h k = h

pub less_below : (a k n : ℕ) → k ≤ n → nat_lt a k ≡ true → nat_lt a n ≡ true
less_below a k n h e = let less : a < k = ltb-true a k e in lt-ltb a n (omega arith)

-- ---- more variables

pub within_more : (k n : ℕ) → k ≤ n → (t : QTerm) → is_within k t ≡ true → is_within n t ≡ true
unfolding is_within
within_more k n h (Int z) w = refl
within_more k n h (Chars bytes) w = refl
within_more k n h (Attr var attr) w = less_below var k n h w
within_more k n h (neg t) w = within_more k n h t w
within_more k n h (abs t) w = within_more k n h t w
within_more k n h (operation op t u) w =
    both_true (is_within n t) (is_within n u) (within_more k n h t (left_true (is_within k t) (is_within k u) w)) (within_more k n h u (right_true (is_within k t) (is_within k u) w))
within_more k n h (concat t u) w =
    both_true (is_within n t) (is_within n u) (within_more k n h t (left_true (is_within k t) (is_within k u) w)) (within_more k n h u (right_true (is_within k t) (is_within k u) w))
within_more k n h (Agg' mark row) w = cc w

pub qual_within_more : (k n : ℕ) → k ≤ n → (q : QQual) → is_qual_within k q ≡ true → is_qual_within n q ≡ true
unfolding is_qual_within
qual_within_more k n h True w = refl
qual_within_more k n h (Cmp op t u) w =
    both_true (is_within n t) (is_within n u) (within_more k n h t (left_true (is_within k t) (is_within k u) w)) (within_more k n h u (right_true (is_within k t) (is_within k u) w))
qual_within_more k n h (Like t pattern same) w = within_more k n h t w
qual_within_more k n h (both p q) w =
    both_true (is_qual_within n p) (is_qual_within n q) (qual_within_more k n h p (left_true (is_qual_within k p) (is_qual_within k q) w))
    (qual_within_more k n h q (right_true (is_qual_within k p) (is_qual_within k q) w))
qual_within_more k n h (either p q) w =
    both_true (is_qual_within n p) (is_qual_within n q) (qual_within_more k n h p (left_true (is_qual_within k p) (is_qual_within k q) w))
    (qual_within_more k n h q (right_true (is_qual_within k p) (is_qual_within k q) w))
qual_within_more k n h (negated p) w = qual_within_more k n h p w

-- ---- what is substituted for the first variables' attributes decides

-- the two put the same in place of the attributes of the first so many variables
abbrev pub SamePut : ℕ → Substitution → Substitution → Type 0
SamePut n put other = (var attr : ℕ) → var < n → put var attr ≡ other var attr

pub replaced_same : (n : ℕ) (put other : Substitution) → SamePut n put other → (t : QTerm) → is_within n t ≡ true → replaced no_aggregate put t ≡ replaced no_aggregate other t
unfolding is_within replaced
replaced_same n put other h (Int z) w = refl
replaced_same n put other h (Chars bytes) w = refl
replaced_same n put other h (Attr var attr) w = h var attr (ltb-true var n w)
replaced_same n put other h (neg t) w = ap (λ t. neg t) (replaced_same n put other h t w)
replaced_same n put other h (abs t) w = ap (λ t. abs t) (replaced_same n put other h t w)
replaced_same n put other h (operation op t u) w = λ i. operation op
    (replaced_same n put other h t (left_true (is_within n t) (is_within n u) w) i) (replaced_same n put other h u (right_true (is_within n t) (is_within n u) w) i)
replaced_same n put other h (concat t u) w = λ i. concat
    (replaced_same n put other h t (left_true (is_within n t) (is_within n u) w) i) (replaced_same n put other h u (right_true (is_within n t) (is_within n u) w) i)
replaced_same n put other h (Agg' mark row) w = refl

pub replaced_qual_same : (n : ℕ) (put other : Substitution) → SamePut n put other → (q : QQual) → is_qual_within n q ≡ true
    → replaced_in_qual no_aggregate put q ≡ replaced_in_qual no_aggregate other q
unfolding is_qual_within replaced_in_qual
replaced_qual_same n put other h True w = refl
replaced_qual_same n put other h (Cmp op t u) w = λ i. Cmp op
    (replaced_same n put other h t (left_true (is_within n t) (is_within n u) w) i) (replaced_same n put other h u (right_true (is_within n t) (is_within n u) w) i)
replaced_qual_same n put other h (Like t pattern same) w = ap (λ t. Like t pattern same) (replaced_same n put other h t w)
replaced_qual_same n put other h (both p q) w = λ i. both
    (replaced_qual_same n put other h p (left_true (is_qual_within n p) (is_qual_within n q) w) i) (replaced_qual_same n put other h q (right_true (is_qual_within n p) (is_qual_within n q) w) i)
replaced_qual_same n put other h (either p q) w = λ i. either
    (replaced_qual_same n put other h p (left_true (is_qual_within n p) (is_qual_within n q) w) i) (replaced_qual_same n put other h q (right_true (is_qual_within n p) (is_qual_within n q) w) i)
replaced_qual_same n put other h (negated p) w = ap (λ p. negated p) (replaced_qual_same n put other h p w)

-- ---- what is put in is within where each put term is

-- terms that name only the first so many variables are put in
abbrev pub PutsWithin : ℕ → Substitution → Type 0
PutsWithin n put = (var attr : ℕ) → is_within n (put var attr) ≡ true

pub replaced_within : (n : ℕ) (put : Substitution) → PutsWithin n put → (t : QTerm) → is_within n (replaced no_aggregate put t) ≡ true
unfolding is_within replaced
replaced_within n put h (Int z) = refl
replaced_within n put h (Chars bytes) = refl
replaced_within n put h (Attr var attr) = h var attr
replaced_within n put h (neg t) = replaced_within n put h t
replaced_within n put h (abs t) = replaced_within n put h t
replaced_within n put h (operation op t u) =
    both_true (is_within n (replaced no_aggregate put t)) (is_within n (replaced no_aggregate put u)) (replaced_within n put h t) (replaced_within n put h u)
replaced_within n put h (concat t u) =
    both_true (is_within n (replaced no_aggregate put t)) (is_within n (replaced no_aggregate put u)) (replaced_within n put h t) (replaced_within n put h u)
replaced_within n put h (Agg' mark row) = refl

pub replaced_qual_within : (n : ℕ) (put : Substitution) → PutsWithin n put → (q : QQual) → is_qual_within n (replaced_in_qual no_aggregate put q) ≡ true
unfolding is_qual_within replaced_in_qual
replaced_qual_within n put h True = refl
replaced_qual_within n put h (Cmp op t u) =
    both_true (is_within n (replaced no_aggregate put t)) (is_within n (replaced no_aggregate put u)) (replaced_within n put h t) (replaced_within n put h u)
replaced_qual_within n put h (Like t pattern same) = replaced_within n put h t
replaced_qual_within n put h (both p q) =
    both_true (is_qual_within n (replaced_in_qual no_aggregate put p)) (is_qual_within n (replaced_in_qual no_aggregate put q)) (replaced_qual_within n put h p) (replaced_qual_within n put h q)
replaced_qual_within n put h (either p q) =
    both_true (is_qual_within n (replaced_in_qual no_aggregate put p)) (is_qual_within n (replaced_in_qual no_aggregate put q)) (replaced_qual_within n put h p) (replaced_qual_within n put h q)
replaced_qual_within n put h (negated p) = replaced_qual_within n put h p

-- the same of a term that names only the first variables, where their terms are within
abbrev pub FirstWithin : ℕ → ℕ → Substitution → Type 0
FirstWithin k n put = (var attr : ℕ) → var < k → is_within n (put var attr) ≡ true

pub first_within : (k n : ℕ) (put : Substitution) → FirstWithin k n put → (t : QTerm) → is_within k t ≡ true → is_within n (replaced no_aggregate put t) ≡ true
unfolding is_within replaced
first_within k n put h (Int z) w = refl
first_within k n put h (Chars bytes) w = refl
first_within k n put h (Attr var attr) w = h var attr (ltb-true var k w)
first_within k n put h (neg t) w = first_within k n put h t w
first_within k n put h (abs t) w = first_within k n put h t w
first_within k n put h (operation op t u) w =
    both_true (is_within n (replaced no_aggregate put t)) (is_within n (replaced no_aggregate put u))
    (first_within k n put h t (left_true (is_within k t) (is_within k u) w)) (first_within k n put h u (right_true (is_within k t) (is_within k u) w))
first_within k n put h (concat t u) w =
    both_true (is_within n (replaced no_aggregate put t)) (is_within n (replaced no_aggregate put u))
    (first_within k n put h t (left_true (is_within k t) (is_within k u) w)) (first_within k n put h u (right_true (is_within k t) (is_within k u) w))
first_within k n put h (Agg' mark row) w = refl

pub first_qual_within : (k n : ℕ) (put : Substitution) → FirstWithin k n put → (q : QQual) → is_qual_within k q ≡ true → is_qual_within n (replaced_in_qual no_aggregate put q) ≡ true
unfolding is_qual_within replaced_in_qual
first_qual_within k n put h True w = refl
first_qual_within k n put h (Cmp op t u) w =
    both_true (is_within n (replaced no_aggregate put t)) (is_within n (replaced no_aggregate put u))
    (first_within k n put h t (left_true (is_within k t) (is_within k u) w)) (first_within k n put h u (right_true (is_within k t) (is_within k u) w))
first_qual_within k n put h (Like t pattern same) w = first_within k n put h t w
first_qual_within k n put h (both p q) w =
    both_true (is_qual_within n (replaced_in_qual no_aggregate put p)) (is_qual_within n (replaced_in_qual no_aggregate put q))
    (first_qual_within k n put h p (left_true (is_qual_within k p) (is_qual_within k q) w)) (first_qual_within k n put h q (right_true (is_qual_within k p) (is_qual_within k q) w))
first_qual_within k n put h (either p q) w =
    both_true (is_qual_within n (replaced_in_qual no_aggregate put p)) (is_qual_within n (replaced_in_qual no_aggregate put q))
    (first_qual_within k n put h p (left_true (is_qual_within k p) (is_qual_within k q) w)) (first_qual_within k n put h q (right_true (is_qual_within k p) (is_qual_within k q) w))
first_qual_within k n put h (negated p) w = first_qual_within k n put h p w
