-- A term and a qualification have at most as many levels as tokens; a qualification that isn't written has one.
use Rattle.std.proofs.Common.{◌≡◌, ℕ, ◌+◌, ◌≤◌, max, List, length, length-append, ap, arith}
use Rattle.calculus.specs.declared.operator.ArithOp.{ArithOp}
use Rattle.calculus.specs.declared.operator.ArithOp.TheVariants as ops
use Rattle.calculus.specs.declared.statement.AggTerm.{AggTerm}
use Rattle.calculus.specs.declared.statement.Qual.{Qual}
use Rattle.calculus.specs.declared.statement.Qual.TheVariants as quals
use Rattle.calculus.specs.declared.statement.Term.{Term}
use Rattle.calculus.specs.declared.statement.Term.TheVariants as terms
use Rattle.calculus.specs.Written.{term_row}
use Rattle.calculus.proofs.WrittenForms.{neg_is, abs_is, operation_is, concat_is, both_is, either_is, negated_is, agg_is}
use Rattle.quel_grammar.specs.declared.token.Fixed.TheVariants as fixed
use Rattle.quel_grammar.specs.declared.token.Token.{Token}
use Rattle.quel_grammar.specs.Grammar.{one, ◌⋅◌, IsTerm, IsSums, IsProd, IsProducts, IsPow, IsUnary, IsPrim, IsFunction, IsAggregate, IsBy, IsTerms, IsWhere, IsQual, IsOrs, IsConj, IsAnds, IsNeg}
use Rattle.quel_grammar.specs.Grammar.IsTerm.{sum}
use Rattle.quel_grammar.specs.Grammar.IsSums.{last_sum, next_sum}
use Rattle.quel_grammar.specs.Grammar.IsProd.{product}
use Rattle.quel_grammar.specs.Grammar.IsProducts.{last_product, next_product}
use Rattle.quel_grammar.specs.Grammar.IsPow.{base, power}
use Rattle.quel_grammar.specs.Grammar.IsUnary.{negative, positive, prim}
use Rattle.quel_grammar.specs.Grammar.IsPrim.{int, text, attribute, group, function, aggregate as aggregated}
use Rattle.quel_grammar.specs.Grammar.IsFunction.{abs, mod_, concat}
use Rattle.quel_grammar.specs.Grammar.IsAggregate.{aggregate_of}
use Rattle.quel_grammar.specs.Grammar.IsBy.{ungrouped, by_terms}
use Rattle.quel_grammar.specs.Grammar.IsTerms.{last_term, next_term}
use Rattle.quel_grammar.specs.Grammar.IsWhere.{unqualified, qualified}
use Rattle.quel_grammar.specs.Grammar.IsQual.{choice}
use Rattle.quel_grammar.specs.Grammar.IsOrs.{last_or, next_or}
use Rattle.quel_grammar.specs.Grammar.IsConj.{conjunction}
use Rattle.quel_grammar.specs.Grammar.IsAnds.{last_and, next_and}
use Rattle.quel_grammar.specs.Grammar.IsNeg.{not_, grouped, compared}
use Rattle.reading_laws.specs.Shallow.{term_levels, greatest_term_levels, qual_levels}

-- ---- the levels of terms and qualifications that are made of others

neg_levels : (t : Term) → term_levels (terms.Neg t) ≡ 1 + term_levels t
neg_levels t = ap term_levels (neg_is t)

abs_levels : (t : Term) → term_levels (terms.Abs t) ≡ 1 + term_levels t
abs_levels t = ap term_levels (abs_is t)

operation_levels : (op : ArithOp) (t u : Term) → term_levels (terms.Arith op t u) ≡ 1 + max (term_levels t) (term_levels u)
operation_levels op t u = ap term_levels (operation_is op t u)

concat_levels : (t u : Term) → term_levels (terms.Concat t u) ≡ 1 + max (term_levels t) (term_levels u)
concat_levels t u = ap term_levels (concat_is t u)

agg_levels : (a : AggTerm) → term_levels (terms.Agg a) ≡ 1 + (1 + max (term_levels a.arg) (max (greatest_term_levels (term_row a.by)) (qual_levels a.qual)))
agg_levels a = ap term_levels (agg_is a)

and_levels : (p q : Qual) → qual_levels (quals.And p q) ≡ 1 + max (qual_levels p) (qual_levels q)
and_levels p q = ap qual_levels (both_is p q)

or_levels : (p q : Qual) → qual_levels (quals.Or p q) ≡ 1 + max (qual_levels p) (qual_levels q)
or_levels p q = ap qual_levels (either_is p q)

not_levels : (p : Qual) → qual_levels (quals.Not p) ≡ 1 + qual_levels p
not_levels p = ap qual_levels (negated_is p)

-- ---- from bounds on the parts

same : (n : ℕ) → n ≤ n
same n = omega arith

-- of two parts, with a token that joins them
joined : (l m n j k : ℕ) → l ≡ 1 + max m n → m ≤ j → n ≤ k → l ≤ 1 + (j + k)
joined l m n j k e h g = omega (arith, e, h, g)

-- of an aggregate's term, of the terms of its by-list and of its qualification
gathered : (l m b q i j k : ℕ) → l ≡ 1 + (1 + max m (max b q)) → m ≤ i → b ≤ j → q ≤ 1 + k → l ≤ 3 + (i + (j + k))
gathered l m b q i j k e f g h = omega (arith, e, f, g, h)

-- ---- of what is read

mutual
  pub term_few : {ts : List Token} {t : Term} → IsTerm ts t → term_levels t ≤ length ts
  term_few (sum {ts = ts} {us = us} p q) = omega (arith, prod_few p, sums_few q, length-append ts us)

  sums_few : {left v : Term} {us : List Token} → IsSums left us v → term_levels v ≤ term_levels left + length us
  sums_few last_sum = omega arith
  sums_few (next_sum {op = op} {ts = ts} {us = us} {left = left} {t = t} s p q) =
      let front = joined _ _ _ _ _ (operation_levels op left t) (same (term_levels left)) (prod_few p) in
      omega (arith, front, sums_few q, length-append ts us)

  prod_few : {ts : List Token} {t : Term} → IsProd ts t → term_levels t ≤ length ts
  prod_few (product {ts = ts} {us = us} p q) = omega (arith, pow_few p, products_few q, length-append ts us)

  products_few : {left v : Term} {us : List Token} → IsProducts left us v → term_levels v ≤ term_levels left + length us
  products_few last_product = omega arith
  products_few (next_product {op = op} {ts = ts} {us = us} {left = left} {t = t} s p q) =
      let front = joined _ _ _ _ _ (operation_levels op left t) (same (term_levels left)) (pow_few p) in
      omega (arith, front, products_few q, length-append ts us)

  pow_few : {ts : List Token} {t : Term} → IsPow ts t → term_levels t ≤ length ts
  pow_few (base p) = unary_few p
  pow_few (power {ts = ts} {us = us} {t = t} {u = u} p q) =
      let both = joined _ _ _ _ _ (operation_levels ops.Pow t u) (unary_few p) (pow_few q) in
      omega (arith, both, length-append ts (one fixed.Power ⋅ us))

  unary_few : {ts : List Token} {t : Term} → IsUnary ts t → term_levels t ≤ length ts
  unary_few (negative {t = t} p) = omega (arith, neg_levels t, unary_few p)
  unary_few (positive p) = omega (arith, unary_few p)
  unary_few (prim p) = prim_few p

  prim_few : {ts : List Token} {t : Term} → IsPrim ts t → term_levels t ≤ length ts
  prim_few int = omega arith
  prim_few text = omega arith
  prim_few attribute = omega arith
  prim_few (group {ts = ts} p) = omega (arith, term_few p, length-append ts (one fixed.Close))
  prim_few (function p) = function_few p
  prim_few (aggregated p) = agg_few p

  function_few : {ts : List Token} {t : Term} → IsFunction ts t → term_levels t ≤ length ts
  function_few (abs {ts = ts} {t = t} p) = omega (arith, abs_levels t, term_few p, length-append ts (one fixed.Close))
  function_few (mod_ {ts = ts} {us = us} {t = t} {u = u} p q) =
      let both = joined _ _ _ _ _ (operation_levels ops.Mod t u) (term_few p) (term_few q) in
      omega (arith, both, length-append ts (one fixed.Comma ⋅ us ⋅ one fixed.Close), length-append us (one fixed.Close))
  function_few (concat {ts = ts} {us = us} {t = t} {u = u} p q) =
      let both = joined _ _ _ _ _ (concat_levels t u) (term_few p) (term_few q) in
      omega (arith, both, length-append ts (one fixed.Comma ⋅ us ⋅ one fixed.Close), length-append us (one fixed.Close))

  agg_few : {ts : List Token} {t : Term} → IsAggregate ts t → term_levels t ≤ length ts
  agg_few (aggregate_of {op = op} {ts = ts} {bs = bs} {ws = ws} {t = t} {by = by} {q = q} a p b w) =
      let all = gathered _ _ _ _ _ _ _ (agg_levels (record { op = op; arg = t; by = by; qual = q })) (term_few p) (by_few b) (where_few w) in
      omega (arith, all, length-append ts (bs ⋅ ws ⋅ one fixed.Close), length-append bs (ws ⋅ one fixed.Close), length-append ws (one fixed.Close))

  by_few : {bs : List Token} {by : List Term} → IsBy bs by → greatest_term_levels (term_row by) ≤ length bs
  by_few ungrouped = omega arith
  by_few (by_terms p) = omega (arith, terms_few p)

  terms_few : {us : List Token} {ts : List Term} → IsTerms us ts → greatest_term_levels (term_row ts) ≤ length us
  terms_few (last_term p) = omega (arith, term_few p)
  terms_few (next_term {ts = ts} {us = us} p q) = omega (arith, term_few p, terms_few q, length-append ts (one fixed.Comma ⋅ us))

  pub where_few : {ws : List Token} {q : Qual} → IsWhere ws q → qual_levels q ≤ 1 + length ws
  where_few unqualified = omega arith
  where_few (qualified p) = omega (arith, qual_few p)

  pub qual_few : {ts : List Token} {q : Qual} → IsQual ts q → qual_levels q ≤ length ts
  qual_few (choice {ts = ts} {us = us} p o) = omega (arith, conj_few p, ors_few o, length-append ts us)

  ors_few : {left q : Qual} {us : List Token} → IsOrs left us q → qual_levels q ≤ qual_levels left + length us
  ors_few last_or = omega arith
  ors_few (next_or {ts = ts} {us = us} {left = left} {p = p} c o) =
      let front = joined _ _ _ _ _ (or_levels left p) (same (qual_levels left)) (conj_few c) in
      omega (arith, front, ors_few o, length-append ts us)

  conj_few : {ts : List Token} {q : Qual} → IsConj ts q → qual_levels q ≤ length ts
  conj_few (conjunction {ts = ts} {us = us} p a) = omega (arith, negation_few p, ands_few a, length-append ts us)

  ands_few : {left q : Qual} {us : List Token} → IsAnds left us q → qual_levels q ≤ qual_levels left + length us
  ands_few last_and = omega arith
  ands_few (next_and {ts = ts} {us = us} {left = left} {p = p} n a) =
      let front = joined _ _ _ _ _ (and_levels left p) (same (qual_levels left)) (negation_few n) in
      omega (arith, front, ands_few a, length-append ts us)

  negation_few : {ts : List Token} {q : Qual} → IsNeg ts q → qual_levels q ≤ length ts
  negation_few (not_ {p = p} n) = omega (arith, not_levels p, negation_few n)
  negation_few (grouped {ts = ts} p) = omega (arith, qual_few p, length-append ts (one fixed.Close))
  negation_few (compared {f = f} {ts = ts} {us = us} p c q) = omega (arith, term_few p, term_few q, length-append ts (one f ⋅ us))
