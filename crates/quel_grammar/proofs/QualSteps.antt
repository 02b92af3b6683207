-- One step of each reader of qualifications.
use Rattle.std.proofs.Common.{◌≡◌, ℕ, suc, List, ◌∷◌, ◌++◌, None, Ok, Err, refl}
use Rattle.calculus.specs.declared.operator.CmpOp.{CmpOp}
use Rattle.calculus.specs.declared.statement.Qual.{Qual}
use Rattle.calculus.specs.declared.statement.Qual.TheVariants as quals
use Rattle.calculus.specs.declared.statement.Term.{Term}
use Rattle.quel_grammar.specs.declared.token.Fixed.{Fixed}
use Rattle.quel_grammar.specs.declared.token.Fixed.TheVariants as fixed
use Rattle.quel_grammar.specs.declared.token.Token.{Token}
use Rattle.quel_grammar.specs.declared.token.Token.TheVariants as tokens
use Rattle.quel_grammar.specs.Grammar.{IsComparison, IsFunction, IsAggregate}
use Rattle.quel_grammar.specs.Grammar.IsComparison.{equal, not_equal, less, less_equal, greater, greater_equal}
use Rattle.quel_grammar.specs.Grammar.IsFunction.{abs, mod_, concat}
use Rattle.quel_grammar.specs.Grammar.IsAggregate.{aggregate_of}
use Rattle.quel_grammar.specs.Reading.{Read, Reader, ◌>>=◌, first, is_fixed}
use Rattle.quel_grammar.specs.TermReaders.{Lower, level, Mixed, unary_by, power_by, pow_by, products_by, prod_by, sums_by, term_by, term_from, right_side_by, compare_by, grouped_by, compared_by, mixed_group_by, negated_by, plain_by, operand_by, neg_by, next_and_by, ands_by, conj_by, next_or_by, ors_by, mixed_from, mixed_by}
use Rattle.quel_grammar.specs.TermReaders.Mixed.{Bare, Whole}

-- how an operand goes on behind its first unary term
pub finish : Lower → Term → Reader Mixed
finish l t ts = term_from l t ts >>= λ x. compare_by l x.0 x.1

-- how an operand goes on behind its first power
pub finish_pow : Lower → Term → Reader Mixed
finish_pow l t ts = products_by l t ts >>= λ x. sums_by l x.0 x.1 >>= λ y. compare_by l y.0 y.1

-- how an operand goes on behind its first product
pub finish_prod : Lower → Term → Reader Mixed
finish_prod l t ts = sums_by l t ts >>= λ y. compare_by l y.0 y.1

bind_bind : {A B C : Type 0} (o : Read A) (f : A × List Token → Read B) (g : B × List Token → Read C) → ((o >>= f) >>= g) ≡ (o >>= λ x. f x >>= g)
bind_bind (Ok x) f g = refl
bind_bind (Err e) f g = refl

four : {A B C D : Type 0} (o : Read A) (f : A × List Token → Read B) (g : B × List Token → Read C) (h : C × List Token → Read D)
    → (((o >>= f) >>= g) >>= h) ≡ ((o >>= λ x. f x >>= g) >>= h)
four (Ok x) f g h = refl
four (Err e) f g h = refl

pub plain_through : (l : Lower) (t : Term) (us vs : List Token) → first (is_fixed fixed.Not) us ≡ None → first (is_fixed fixed.Open) us ≡ None → unary_by l us ≡ Ok (t, vs)
    → operand_by l us ≡ finish l t vs
unfolding operand_by plain_by compared_by term_by prod_by pow_by finish term_from
plain_through l t us vs unnegated ungrouped e = rw (unnegated, ungrouped, e)
    (four (power_by l t vs) (λ x. products_by l x.0 x.1) (λ x. sums_by l x.0 x.1) (λ x. compare_by l x.0 x.1))

pub pow_through : (l : Lower) (t u : Term) (us vs : List Token) → power_by l t us ≡ Ok (u, vs) → finish l t us ≡ finish_pow l u vs
unfolding finish term_from finish_pow
pow_through l t u us vs e = rw e (bind_bind (products_by l u vs) _ _)

pub prod_through : (l : Lower) (t u : Term) (us vs : List Token) → products_by l t us ≡ Ok (u, vs) → finish_pow l t us ≡ finish_prod l u vs
unfolding finish_pow finish_prod
prod_through l t u us vs e = rw e refl

pub term_through : (l : Lower) (t u : Term) (us vs : List Token) → sums_by l t us ≡ Ok (u, vs) → finish_prod l t us ≡ compare_by l u vs
unfolding finish_prod
term_through l t u us vs e = rw e refl

pub no_comparison : (l : Lower) (t : Term) (rest : List Token) → compare_by l t (tokens.Fixed fixed.Close ∷ rest) ≡ Ok (Bare t, tokens.Fixed fixed.Close ∷ rest)
unfolding compare_by
no_comparison l t rest = refl

pub group_through : (k : ℕ) (t : Term) (us rest : List Token) → operand_by (level k) us ≡ Ok (Bare t, tokens.Fixed fixed.Close ∷ rest)
    → operand_by (level (suc k)) (tokens.Fixed fixed.Open ∷ us) ≡ finish (level (suc k)) t rest
unfolding operand_by plain_by mixed_group_by level mixed_by mixed_from grouped_by finish
group_through k t us rest e = rw e refl

pub function_front : {ts : List Token} {t : Term} → IsFunction ts t → (rest : List Token)
    → (first (is_fixed fixed.Not) (ts ++ rest) ≡ None) × (first (is_fixed fixed.Open) (ts ++ rest) ≡ None)
function_front (abs p) rest = (refl, refl)
function_front (mod_ p q) rest = (refl, refl)
function_front (concat p q) rest = (refl, refl)

pub aggregate_front : {ts : List Token} {t : Term} → IsAggregate ts t → (rest : List Token)
    → (first (is_fixed fixed.Not) (ts ++ rest) ≡ None) × (first (is_fixed fixed.Open) (ts ++ rest) ≡ None)
aggregate_front (aggregate_of n p b w) rest = (refl, refl)

pub compare_next : (l : Lower) (t u : Term) (f : Fixed) (op : CmpOp) (us vs : List Token) → IsComparison f op → term_by l us ≡ Ok (u, vs)
    → compare_by l t (tokens.Fixed f ∷ us) ≡ Ok (Whole (quals.Cmp op t u), vs)
unfolding compare_by right_side_by
compare_next l t u f op us vs equal e = rw e refl
compare_next l t u f op us vs not_equal e = rw e refl
compare_next l t u f op us vs less e = rw e refl
compare_next l t u f op us vs less_equal e = rw e refl
compare_next l t u f op us vs greater e = rw e refl
compare_next l t u f op us vs greater_equal e = rw e refl

pub neg_step : (l : Lower) (q : Qual) (us vs : List Token) → operand_by l us ≡ Ok (Whole q, vs) → neg_by l us ≡ Ok (q, vs)
unfolding neg_by
neg_step l q us vs e = rw e refl

pub not_step : (k : ℕ) (q : Qual) (us vs : List Token) → neg_by (level k) us ≡ Ok (q, vs) → operand_by (level (suc k)) (tokens.Fixed fixed.Not ∷ us) ≡ Ok (Whole (quals.Not q), vs)
unfolding operand_by negated_by level
not_step k q us vs e = rw e refl

pub grouped_step : (k : ℕ) (q : Qual) (us vs : List Token) → mixed_by (level k) us ≡ Ok (Whole q, tokens.Fixed fixed.Close ∷ vs)
    → operand_by (level (suc k)) (tokens.Fixed fixed.Open ∷ us) ≡ Ok (Whole q, vs)
unfolding operand_by plain_by mixed_group_by level grouped_by
grouped_step k q us vs e = rw e refl

pub ands_end : (l : Lower) (p : Qual) (rest : List Token) → first (is_fixed fixed.And) rest ≡ None → ands_by l p rest ≡ Ok (p, rest)
unfolding ands_by
ands_end l p rest e = rw e refl

pub ands_next : (k : ℕ) (left p : Qual) (us vs : List Token) → neg_by (level (suc k)) us ≡ Ok (p, vs)
    → ands_by (level (suc k)) left (tokens.Fixed fixed.And ∷ us) ≡ ands_by (level k) (quals.And left p) vs
unfolding ands_by next_and_by level
ands_next k left p us vs e = rw e refl

pub conj_step : (l : Lower) (p : Qual) (us vs : List Token) → neg_by l us ≡ Ok (p, vs) → conj_by l us ≡ ands_by l p vs
unfolding conj_by
conj_step l p us vs e = rw e refl

pub ors_end : (l : Lower) (p : Qual) (rest : List Token) → first (is_fixed fixed.Or) rest ≡ None → ors_by l p rest ≡ Ok (p, rest)
unfolding ors_by
ors_end l p rest e = rw e refl

pub ors_next : (k : ℕ) (left p : Qual) (us vs : List Token) → conj_by (level (suc k)) us ≡ Ok (p, vs)
    → ors_by (level (suc k)) left (tokens.Fixed fixed.Or ∷ us) ≡ ors_by (level k) (quals.Or left p) vs
unfolding ors_by next_or_by level
ors_next k left p us vs e = rw e refl

pub mixed_step : (l : Lower) (p q r : Qual) (us vs ws zs : List Token) → operand_by l us ≡ Ok (Whole p, vs) → ands_by l p vs ≡ Ok (q, ws) → ors_by l q ws ≡ Ok (r, zs)
    → mixed_by l us ≡ Ok (Whole r, zs)
unfolding mixed_by mixed_from
mixed_step l p q r us vs ws zs e f g = rw (e, f, g) refl
