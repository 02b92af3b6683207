-- The aggregates in terms and qualifications, form by form, and the variables in one.
use Rattle.std.proofs.Common.{◌≡◌, ◌⊎◌, inl, inr, refl, sym, ap, ◌∙◌, ℕ, zero, suc, ◌+◌, ◌<◌, ◌≤◌, add-one, arith, ℤ, List, [], ◌∷◌, ◌++◌, map, take, get_or, length, append_assoc, append-nil}
use Rattle.std.specs.List.{flat_map}
use denote.Hole.Carrier.{hidden}
use Rattle.calculus.proofs.WrittenForms.{agg_is, items_of_terms}
use Rattle.calculus.specs.declared.operator.ArithOp.{ArithOp}
use Rattle.calculus.specs.declared.operator.CmpOp.{CmpOp}
use Rattle.calculus.specs.declared.statement.AggTerm.{AggTerm}
use Rattle.calculus.specs.declared.statement.Qual.{Qual}
use Rattle.calculus.specs.declared.statement.Qual.TheBlock.{shape-the_row-Qual-0, hidden-the_row-Qual-0, shape-the_row-Term-1, hidden-the_row-Term-1}
use Rattle.calculus.specs.declared.statement.Qual.TheVariants.{True, Cmp, And, Or, Not}
use Rattle.calculus.specs.declared.statement.Term.{Term}
use Rattle.calculus.specs.declared.statement.Term.TheVariants.{Int, Chars, Attr, Neg, Abs, Arith, Concat, Agg}
use Rattle.quel_check.specs.Seen.{vars_seen}
use Rattle.quel_meaning.specs.Naming.{dotted}
use Rattle.quel_meaning.specs.WrittenParts.{Dotted, aggregates_in, aggregates_in_qual}

pub in_int : (n : ℤ) → aggregates_in (Int n) ≡ []
unfolding aggregates_in
in_int n = refl

pub in_chars : (bytes : List ℕ) → aggregates_in (Chars bytes) ≡ []
unfolding aggregates_in
in_chars bytes = refl

pub in_attr : (var attr : List ℕ) → aggregates_in (Attr var attr) ≡ []
unfolding aggregates_in
in_attr var attr = refl

pub in_neg : (t : Term) → aggregates_in (Neg t) ≡ aggregates_in t
unfolding shape-the_row-Term-1 hidden-the_row-Term-1 hidden aggregates_in
in_neg t = refl

pub in_abs : (t : Term) → aggregates_in (Abs t) ≡ aggregates_in t
unfolding shape-the_row-Term-1 hidden-the_row-Term-1 hidden aggregates_in
in_abs t = refl

pub in_arith : (op : ArithOp) (t u : Term) → aggregates_in (Arith op t u) ≡ aggregates_in t ++ aggregates_in u
unfolding shape-the_row-Term-1 hidden-the_row-Term-1 hidden aggregates_in
in_arith op t u = refl

pub in_concat : (t u : Term) → aggregates_in (Concat t u) ≡ aggregates_in t ++ aggregates_in u
unfolding shape-the_row-Term-1 hidden-the_row-Term-1 hidden aggregates_in
in_concat t u = refl

-- a term without parts has none
pub alone : (t : Term) → ((n : ℤ) × (t ≡ Int n)) ⊎ (((bytes : List ℕ) × (t ≡ Chars bytes)) ⊎ ((var : List ℕ) × (attr : List ℕ) × (t ≡ Attr var attr))) → aggregates_in t ≡ []
alone t (inl w) = ap aggregates_in w.1 ∙ in_int w.0
alone t (inr (inl w)) = ap aggregates_in w.1 ∙ in_chars w.0
alone t (inr (inr w)) = ap aggregates_in w.2 ∙ in_attr w.0 w.1

-- the aggregates of a term that joins two
pub in_pair : (t l r : Term) → ((op : ArithOp) × (t ≡ Arith op l r)) ⊎ (t ≡ Concat l r) → aggregates_in t ≡ aggregates_in l ++ aggregates_in r
in_pair t l r (inl w) = ap aggregates_in w.1 ∙ in_arith w.0 l r
in_pair t l r (inr e) = ap aggregates_in e ∙ in_concat l r

pub in_agg : (g : AggTerm) → aggregates_in (Agg g) ≡ g ∷ []
unfolding aggregates_in
in_agg g = ap aggregates_in (agg_is g) ∙ (λ i. record { op = g.op; arg = g.arg; by = items_of_terms g.by i; qual = g.qual } ∷ [])

pub in_true : aggregates_in_qual True ≡ []
unfolding aggregates_in_qual
in_true = refl

pub in_cmp : (op : CmpOp) (t u : Term) → aggregates_in_qual (Cmp op t u) ≡ aggregates_in t ++ aggregates_in u
unfolding aggregates_in_qual
in_cmp op t u = refl

pub in_and : (p q : Qual) → aggregates_in_qual (And p q) ≡ aggregates_in_qual p ++ aggregates_in_qual q
unfolding shape-the_row-Qual-0 hidden-the_row-Qual-0 hidden aggregates_in_qual
in_and p q = refl

pub in_or : (p q : Qual) → aggregates_in_qual (Or p q) ≡ aggregates_in_qual p ++ aggregates_in_qual q
unfolding shape-the_row-Qual-0 hidden-the_row-Qual-0 hidden aggregates_in_qual
in_or p q = refl

pub in_not : (p : Qual) → aggregates_in_qual (Not p) ≡ aggregates_in_qual p
unfolding shape-the_row-Qual-0 hidden-the_row-Qual-0 hidden aggregates_in_qual
in_not p = refl

-- the aggregates of a qualification that joins two
pub in_quals : (q l r : Qual) → (q ≡ And l r) ⊎ (q ≡ Or l r) → aggregates_in_qual q ≡ aggregates_in_qual l ++ aggregates_in_qual r
in_quals q l r (inl e) = ap aggregates_in_qual e ∙ in_and l r
in_quals q l r (inr e) = ap aggregates_in_qual e ∙ in_or l r

-- what is put behind in two steps is put behind
pub behind : {X : Type 0} (before between after xs ys : List X) → between ≡ before ++ xs → after ≡ between ++ ys → after ≡ before ++ (xs ++ ys)
behind before between after xs ys e f = f ∙ ap (λ vs. vs ++ ys) e ∙ append_assoc before xs ys

-- what nothing is put behind stays
pub stays : {X : Type 0} (xs ys : List X) → ys ≡ [] → xs ≡ xs ++ ys
stays xs ys e = sym (ap (λ ys. xs ++ ys) e ∙ append-nil xs)

-- what one thing is put behind
pub one_behind : {X : Type 0} (before after xs : List X) (x : X) → after ≡ before ++ x ∷ [] → xs ≡ x ∷ [] → after ≡ before ++ xs
one_behind before after xs x e f = e ∙ ap (λ ys. before ++ ys) (sym f)

-- the variables of attributes are those that are mentioned with them
pub vars_dotted : (ds : List Dotted) → flat_map vars_seen (dotted ds) ≡ map (λ d. d.0) ds
vars_dotted [] = refl
vars_dotted (d ∷ ds) = ap (λ vs. d.0 ∷ vs) (vars_dotted ds)

-- ---- how many

pub length_joined : {X : Type 0} (xs ys : List X) → length (xs ++ ys) ≡ length xs + length ys
length_joined [] ys = omega arith
length_joined (x ∷ xs) ys = let more : length (xs ++ ys) ≡ length xs + length ys = length_joined xs ys in omega (arith, more)

-- what is counted in two steps is counted
pub counted : {X : Type 0} (xs ys zs : List X) (n m r : ℕ) → zs ≡ xs ++ ys → (n + length xs ≤ 65535 → m ≡ n + length xs) → (m + length ys ≤ 65535 → r ≡ m + length ys)
    → n + length zs ≤ 65535 → r ≡ n + length zs
counted xs ys zs n m r e f g few =
    let all : length zs ≡ length xs + length ys = ap length e ∙ length_joined xs ys in
    let first : m ≡ n + length xs = f (omega (arith, all, few)) in
    let second : r ≡ m + length ys = g (omega (arith, all, few, first)) in
    omega (arith, all, first, second)

-- ---- how many in a list of items

pub taken : {X : Type 0} (xs : List X) (i : ℕ) (x : X) → i < length xs → x ≡ get_or xs i x → take (suc i) xs ≡ take i xs ++ x ∷ []
taken [] i x h e = absurd (omega (arith, h))
taken (y ∷ ys) zero x h e = ap (λ z. z ∷ []) (sym e)
taken (y ∷ ys) (suc i) x h e = ap (λ zs. y ∷ zs) (taken ys i x (omega (arith, h)) e)

pub flat_joined : {X Y : Type 0} (f : X → List Y) (xs : List X) (x : X) → flat_map f (xs ++ x ∷ []) ≡ flat_map f xs ++ f x
flat_joined f [] x = append-nil (f x)
flat_joined f (y ∷ ys) x = ap (λ zs. f y ++ zs) (flat_joined f ys x) ∙ sym (append_assoc (f y) (flat_map f ys) (f x))

front_few : {X Y : Type 0} (f : X → List Y) (xs : List X) (k : ℕ) → length (flat_map f (take k xs)) ≤ length (flat_map f xs)
front_few f xs zero = omega arith
front_few f [] (suc k) = omega arith
front_few f (x ∷ xs) (suc k) =
    let later : length (flat_map f (take k xs)) ≤ length (flat_map f xs) = front_few f xs k in
    let left : length (f x ++ flat_map f (take k xs)) ≡ length (f x) + length (flat_map f (take k xs)) = length_joined (f x) (flat_map f (take k xs)) in
    let right : length (f x ++ flat_map f xs) ≡ length (f x) + length (flat_map f xs) = length_joined (f x) (flat_map f xs) in
    omega (arith, later, left, right)

-- one item more is counted
pub counted_more : {X Y : Type 0} (f : X → List Y) (xs : List X) (i : ℕ) (x : X) (slot r : ℕ) → i < length xs → x ≡ get_or xs i x
    → (length (flat_map f xs) ≤ 65535 → slot ≡ length (flat_map f (take i xs))) → (slot + length (f x) ≤ 65535 → r ≡ slot + length (f x))
    → length (flat_map f xs) ≤ 65535 → r ≡ length (flat_map f (take (i + 1) xs))
counted_more f xs i x slot r lt e before more few =
    let all : length (flat_map f (take (i + 1) xs)) ≡ length (flat_map f (take i xs)) + length (f x) =
    ap (λ k. length (flat_map f (take k xs))) (add-one i) ∙ ap (λ ys. length (flat_map f ys)) (taken xs i x lt e) ∙ ap length (flat_joined f (take i xs) x) ∙ length_joined (flat_map f (take i xs)) (f x) in
    let fit : length (flat_map f (take (i + 1) xs)) ≤ length (flat_map f xs) = front_few f xs (i + 1) in
    let first : slot ≡ length (flat_map f (take i xs)) = before few in
    let second : r ≡ slot + length (f x) = more (omega (arith, all, fit, few, first)) in
    omega (arith, all, first, second)
