-- One step of each reader of terms.
use Rattle.std.proofs.Common.{◌≡◌, ℕ, suc, pos, List, [], ◌∷◌, ◌++◌, Some, None, Ok, refl}
use Rattle.std.specs.Prelude.{codes}
use Rattle.calculus.specs.declared.operator.AggOp.{AggOp}
use Rattle.calculus.specs.declared.operator.ArithOp.{ArithOp}
use Rattle.calculus.specs.declared.operator.ArithOp.TheVariants as ops
use Rattle.calculus.specs.declared.statement.Qual.{Qual}
use Rattle.calculus.specs.declared.statement.Qual.TheVariants as quals
use Rattle.calculus.specs.declared.statement.Term.{Term}
use Rattle.calculus.specs.declared.statement.Term.TheVariants as terms
use Rattle.quel_grammar.specs.declared.token.Fixed.{Fixed}
use Rattle.quel_grammar.specs.declared.token.Fixed.TheVariants as fixed
use Rattle.quel_grammar.specs.declared.token.Token.{Token}
use Rattle.quel_grammar.specs.declared.token.Token.TheVariants as tokens
use Rattle.quel_grammar.specs.Grammar.{IsSumSign, IsProductSign, IsAggregateName}
use Rattle.quel_grammar.specs.Grammar.IsAggregateName.{count, countu, sum_, sumu, avg, avgu, min_, max_, any}
use Rattle.quel_grammar.specs.Grammar.IsSumSign.{plus, minus}
use Rattle.quel_grammar.specs.Grammar.IsProductSign.{times, divide}
use Rattle.quel_grammar.specs.Reading.{first, is_fixed, look_up}
use Rattle.quel_grammar.specs.Signs.{sum_sign, product_sign}
use Rattle.quel_grammar.specs.TermReaders.{Lower, level, calls, inside_by, abs_by, two_by, by_by, inner_qual_by, inner_where_by, aggregate_by, opened_by, attribute_of, named_by, prim_by, signed_by, unary_by, raised_by, power_by, pow_by, next_product_by, products_by, prod_by, next_sum_by, sums_by, term_by, terms_by, mixed_by}
use Rattle.quel_grammar.specs.TermReaders.Call.{CallAggregate}
use Rattle.quel_grammar.specs.TermReaders.Mixed.{Whole}

pub power_ends : (l : Lower) (t : Term) (rest : List Token) → first (is_fixed fixed.Power) rest ≡ None → power_by l t rest ≡ Ok (t, rest)
unfolding power_by
power_ends l t rest e = rw e refl

pub power_next : (k : ℕ) (t u : Term) (us vs : List Token) → pow_by (level k) us ≡ Ok (u, vs)
    → power_by (level (suc k)) t (tokens.Fixed fixed.Power ∷ us) ≡ Ok (terms.Arith ops.Pow t u, vs)
unfolding power_by raised_by level
power_next k t u us vs e = rw e refl

pub pow_step : (l : Lower) (t : Term) (us vs : List Token) → unary_by l us ≡ Ok (t, vs) → pow_by l us ≡ power_by l t vs
unfolding pow_by
pow_step l t us vs e = rw e refl

pub products_end : (l : Lower) (t : Term) (rest : List Token) → first product_sign rest ≡ None → products_by l t rest ≡ Ok (t, rest)
unfolding products_by
products_end l t rest e = rw e refl

pub products_next : (k : ℕ) (left t : Term) (f : Fixed) (op : ArithOp) (us vs : List Token) → IsProductSign f op → pow_by (level (suc k)) us ≡ Ok (t, vs)
    → products_by (level (suc k)) left (tokens.Fixed f ∷ us) ≡ products_by (level k) (terms.Arith op left t) vs
unfolding products_by next_product_by level
products_next k left t f op us vs times e = rw e refl
products_next k left t f op us vs divide e = rw e refl

pub prod_step : (l : Lower) (t : Term) (us vs : List Token) → pow_by l us ≡ Ok (t, vs) → prod_by l us ≡ products_by l t vs
unfolding prod_by
prod_step l t us vs e = rw e refl

pub sums_end : (l : Lower) (t : Term) (rest : List Token) → first sum_sign rest ≡ None → sums_by l t rest ≡ Ok (t, rest)
unfolding sums_by
sums_end l t rest e = rw e refl

pub sums_next : (k : ℕ) (left t : Term) (f : Fixed) (op : ArithOp) (us vs : List Token) → IsSumSign f op → prod_by (level (suc k)) us ≡ Ok (t, vs)
    → sums_by (level (suc k)) left (tokens.Fixed f ∷ us) ≡ sums_by (level k) (terms.Arith op left t) vs
unfolding sums_by next_sum_by level
sums_next k left t f op us vs plus e = rw e refl
sums_next k left t f op us vs minus e = rw e refl

pub term_step : (l : Lower) (t : Term) (us vs : List Token) → prod_by l us ≡ Ok (t, vs) → term_by l us ≡ sums_by l t vs
unfolding term_by
term_step l t us vs e = rw e refl

pub inside_step : (k : ℕ) (t : Term) (us vs : List Token) → term_by (level k) us ≡ Ok (t, tokens.Fixed fixed.Close ∷ vs) → inside_by (level (suc k)) us ≡ Ok (t, vs)
unfolding inside_by level
inside_step k t us vs e = rw e refl

pub int_step : (l : Lower) (n : ℕ) (rest : List Token) → unary_by l (tokens.Int n ∷ rest) ≡ Ok (terms.Int (pos n), rest)
unfolding unary_by prim_by
int_step l n rest = refl

pub text_step : (l : Lower) (c : List ℕ) (rest : List Token) → unary_by l (tokens.Text c ∷ rest) ≡ Ok (terms.Chars c, rest)
unfolding unary_by prim_by
text_step l c rest = refl

pub attribute_step : (l : Lower) (v a : List ℕ) (rest : List Token) → unary_by l (tokens.Name v ∷ tokens.Fixed fixed.Dot ∷ tokens.Name a ∷ rest) ≡ Ok (terms.Attr v a, rest)
unfolding unary_by prim_by named_by attribute_of
attribute_step l v a rest = refl

pub group_step : (k : ℕ) (t : Term) (us vs : List Token) → inside_by (level (suc k)) us ≡ Ok (t, vs) → unary_by (level (suc k)) (tokens.Fixed fixed.Open ∷ us) ≡ Ok (t, vs)
unfolding unary_by prim_by
group_step k t us vs e = e

pub abs_step : (l : Lower) (t : Term) (us vs : List Token) → inside_by l us ≡ Ok (t, vs)
    → unary_by l (tokens.Name (codes "abs") ∷ tokens.Fixed fixed.Open ∷ us) ≡ Ok (terms.Abs t, vs)
unfolding unary_by prim_by named_by look_up opened_by abs_by
abs_step l t us vs e = rw e refl

pub mod_step : (k : ℕ) (t u : Term) (us vs ws : List Token) → term_by (level k) us ≡ Ok (t, tokens.Fixed fixed.Comma ∷ vs) → inside_by (level (suc k)) vs ≡ Ok (u, ws)
    → unary_by (level (suc k)) (tokens.Name (codes "mod") ∷ tokens.Fixed fixed.Open ∷ us) ≡ Ok (terms.Arith ops.Mod t u, ws)
unfolding unary_by prim_by named_by look_up opened_by two_by level
mod_step k t u us vs ws e f = rw (e, f) refl

pub concat_step : (k : ℕ) (t u : Term) (us vs ws : List Token) → term_by (level k) us ≡ Ok (t, tokens.Fixed fixed.Comma ∷ vs) → inside_by (level (suc k)) vs ≡ Ok (u, ws)
    → unary_by (level (suc k)) (tokens.Name (codes "concat") ∷ tokens.Fixed fixed.Open ∷ us) ≡ Ok (terms.Concat t u, ws)
unfolding unary_by prim_by named_by look_up opened_by two_by level
concat_step k t u us vs ws e f = rw (e, f) refl

-- the names of the aggregates are in the table
pub aggregate_called : {w : List ℕ} {op : AggOp} → IsAggregateName w op → look_up calls w ≡ Some (CallAggregate op)
unfolding look_up
aggregate_called count = refl
aggregate_called countu = refl
aggregate_called sum_ = refl
aggregate_called sumu = refl
aggregate_called avg = refl
aggregate_called avgu = refl
aggregate_called min_ = refl
aggregate_called max_ = refl
aggregate_called any = refl

pub aggregate_step : (k : ℕ) (w : List ℕ) (op : AggOp) (t : Term) (by : List Term) (q : Qual) (us vs ws xs : List Token) → IsAggregateName w op
    → term_by (level k) us ≡ Ok (t, vs) → by_by (level (suc k)) vs ≡ Ok (by, ws) → inner_where_by (level (suc k)) ws ≡ Ok (q, tokens.Fixed fixed.Close ∷ xs)
    → unary_by (level (suc k)) (tokens.Name w ∷ tokens.Fixed fixed.Open ∷ us) ≡ Ok (terms.Agg (record { op = op; arg = t; by = by; qual = q }), xs)
unfolding unary_by prim_by named_by opened_by aggregate_by level
aggregate_step k w op t by q us vs ws xs p e f g = rw (aggregate_called p, e, f, g) refl

pub ungrouped_step : (k : ℕ) (rest : List Token) → first (is_fixed fixed.By) rest ≡ None → by_by (level (suc k)) rest ≡ Ok ([], rest)
unfolding by_by
ungrouped_step k rest e = rw e refl

pub by_step : (k : ℕ) (ts : List Term) (us rest : List Token) → terms_by (level k) [] us ≡ Ok (ts, rest) → by_by (level (suc k)) (tokens.Fixed fixed.By ∷ us) ≡ Ok (ts, rest)
unfolding by_by level
by_step k ts us rest e = e

pub terms_end : (l : Lower) (before : List Term) (t : Term) (us rest : List Token) → term_by l us ≡ Ok (t, rest) → first (is_fixed fixed.Comma) rest ≡ None
    → terms_by l before us ≡ Ok (before ++ t ∷ [], rest)
unfolding terms_by
terms_end l before t us rest e f = rw (e, f) refl

pub terms_next : (k : ℕ) (before : List Term) (t : Term) (us vs : List Token) → term_by (level (suc k)) us ≡ Ok (t, tokens.Fixed fixed.Comma ∷ vs)
    → terms_by (level (suc k)) before us ≡ terms_by (level k) (before ++ t ∷ []) vs
unfolding terms_by level
terms_next k before t us vs e = rw e refl

pub unqualified_step : (l : Lower) (rest : List Token) → inner_where_by l (tokens.Fixed fixed.Close ∷ rest) ≡ Ok (quals.True, tokens.Fixed fixed.Close ∷ rest)
unfolding inner_where_by
unqualified_step l rest = refl

pub qualified_step : (k : ℕ) (q : Qual) (us rest : List Token) → mixed_by (level k) us ≡ Ok (Whole q, rest)
    → inner_where_by (level (suc k)) (tokens.Fixed fixed.Where ∷ us) ≡ Ok (q, rest)
unfolding inner_where_by inner_qual_by level
qualified_step k q us rest e = rw e refl

pub negative_step : (k : ℕ) (t : Term) (us vs : List Token) → unary_by (level k) us ≡ Ok (t, vs) → unary_by (level (suc k)) (tokens.Fixed fixed.Minus ∷ us) ≡ Ok (terms.Neg t, vs)
unfolding unary_by signed_by level
negative_step k t us vs e = rw e refl

pub positive_step : (k : ℕ) (t : Term) (us vs : List Token) → unary_by (level k) us ≡ Ok (t, vs) → unary_by (level (suc k)) (tokens.Fixed fixed.Plus ∷ us) ≡ Ok (t, vs)
unfolding unary_by signed_by level
positive_step k t us vs e = rw e refl
