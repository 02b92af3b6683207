-- The constants in a term and in a qualification that are read are ones of their types.
use Rattle.std.proofs.Common.{◌≡◌, true, List, refl, sym, subst}
use Rattle.calculus.specs.declared.operator.ArithOp.{ArithOp}
use Rattle.calculus.specs.declared.operator.ArithOp.TheVariants as ops
use Rattle.calculus.specs.declared.statement.AggTerm.{AggTerm}
use Rattle.calculus.specs.declared.statement.Qual.{Qual}
use Rattle.calculus.specs.declared.statement.Qual.TheVariants as quals
use Rattle.calculus.specs.declared.statement.Term.{Term}
use Rattle.calculus.specs.declared.statement.Term.TheVariants as terms
use Rattle.calculus.specs.Written.{term_row}
use Rattle.calculus.proofs.WrittenForms.{neg_is, abs_is, operation_is, concat_is, both_is, either_is, negated_is, agg_is}
use Rattle.quel_grammar.specs.declared.token.Token.{Token}
use Rattle.quel_grammar.specs.Grammar.{IsTerm, IsSums, IsProd, IsProducts, IsPow, IsUnary, IsPrim, IsFunction, IsAggregate, IsBy, IsTerms, IsWhere, IsQual, IsOrs, IsConj, IsAnds, IsNeg}
use Rattle.quel_grammar.specs.Grammar.IsTerm.{sum}
use Rattle.quel_grammar.specs.Grammar.IsSums.{last_sum, next_sum}
use Rattle.quel_grammar.specs.Grammar.IsProd.{product}
use Rattle.quel_grammar.specs.Grammar.IsProducts.{last_product, next_product}
use Rattle.quel_grammar.specs.Grammar.IsPow.{base, power}
use Rattle.quel_grammar.specs.Grammar.IsUnary.{negative, positive, prim}
use Rattle.quel_grammar.specs.Grammar.IsPrim.{int, text, attribute, group, function, aggregate as aggregated}
use Rattle.quel_grammar.specs.Grammar.IsFunction.{abs, mod_, concat}
use Rattle.quel_grammar.specs.Grammar.IsAggregate.{aggregate_of}
use Rattle.quel_grammar.specs.Grammar.IsBy.{ungrouped, by_terms}
use Rattle.quel_grammar.specs.Grammar.IsTerms.{last_term, next_term}
use Rattle.quel_grammar.specs.Grammar.IsWhere.{unqualified, qualified}
use Rattle.quel_grammar.specs.Grammar.IsQual.{choice}
use Rattle.quel_grammar.specs.Grammar.IsOrs.{last_or, next_or}
use Rattle.quel_grammar.specs.Grammar.IsConj.{conjunction}
use Rattle.quel_grammar.specs.Grammar.IsAnds.{last_and, next_and}
use Rattle.quel_grammar.specs.Grammar.IsNeg.{not_, grouped, compared}
use Rattle.quel_meaning.specs.IsWritten.{term_is_written, terms_are_written, qual_is_written}
use Rattle.quel_meaning.proofs.Each.{front_of, back_of, and}
use Rattle.reading_laws.proofs.Spelled.{Spelled}

-- the constants in the term are ones of their types
abbrev pub Safe : Term → Type 0
Safe t = term_is_written t ≡ true

-- so they are in the qualification
abbrev pub SafeQual : Qual → Type 0
SafeQual q = qual_is_written q ≡ true

-- and in several terms
abbrev SafeRow : List Term → Type 0
SafeRow ts = terms_are_written (term_row ts) ≡ true

-- ---- of terms and qualifications that are made of others

neg_safe : (t : Term) → Safe t → Safe (terms.Neg t)
neg_safe t h = subst Safe (sym (neg_is t)) h

abs_safe : (t : Term) → Safe t → Safe (terms.Abs t)
abs_safe t h = subst Safe (sym (abs_is t)) h

operation_safe : (op : ArithOp) (t u : Term) → Safe t → Safe u → Safe (terms.Arith op t u)
operation_safe op t u h k = subst Safe (sym (operation_is op t u)) (and (term_is_written t) (term_is_written u) h k)

concat_safe : (t u : Term) → Safe t → Safe u → Safe (terms.Concat t u)
concat_safe t u h k = subst Safe (sym (concat_is t u)) (and (term_is_written t) (term_is_written u) h k)

aggregate_safe : (a : AggTerm) → Safe a.arg → SafeRow a.by → SafeQual a.qual → Safe (terms.Agg a)
aggregate_safe a h b q = subst Safe (sym (agg_is a))
    (and (term_is_written a.arg) _ h (and (terms_are_written (term_row a.by)) (qual_is_written a.qual) b q))

and_safe : (p q : Qual) → SafeQual p → SafeQual q → SafeQual (quals.And p q)
and_safe p q h k = subst SafeQual (sym (both_is p q)) (and (qual_is_written p) (qual_is_written q) h k)

or_safe : (p q : Qual) → SafeQual p → SafeQual q → SafeQual (quals.Or p q)
or_safe p q h k = subst SafeQual (sym (either_is p q)) (and (qual_is_written p) (qual_is_written q) h k)

not_safe : (p : Qual) → SafeQual p → SafeQual (quals.Not p)
not_safe p h = subst SafeQual (sym (negated_is p)) h

-- ---- of what is read

mutual
  pub term_safe : {ts : List Token} {t : Term} → IsTerm ts t → Spelled ts → Safe t
  term_safe (sum {ts = ts} {us = us} p q) h = sums_safe q (prod_safe p (front_of _ ts us h)) (back_of _ ts us h)

  sums_safe : {left v : Term} {us : List Token} → IsSums left us v → Safe left → Spelled us → Safe v
  sums_safe last_sum l h = l
  sums_safe (next_sum {op = op} {ts = ts} {us = us} {left = left} {t = t} s p q) l h = sums_safe q (operation_safe op left t l (prod_safe p (front_of _ ts us h.1))) (back_of _ ts us h.1)

  prod_safe : {ts : List Token} {t : Term} → IsProd ts t → Spelled ts → Safe t
  prod_safe (product {ts = ts} {us = us} p q) h = products_safe q (pow_safe p (front_of _ ts us h)) (back_of _ ts us h)

  products_safe : {left v : Term} {us : List Token} → IsProducts left us v → Safe left → Spelled us → Safe v
  products_safe last_product l h = l
  products_safe (next_product {op = op} {ts = ts} {us = us} {left = left} {t = t} s p q) l h = products_safe q (operation_safe op left t l (pow_safe p (front_of _ ts us h.1))) (back_of _ ts us h.1)

  pow_safe : {ts : List Token} {t : Term} → IsPow ts t → Spelled ts → Safe t
  pow_safe (base p) h = unary_safe p h
  pow_safe (power {ts = ts} {us = us} {t = t} {u = u} p q) h = operation_safe ops.Pow t u (unary_safe p (front_of _ ts _ h)) (pow_safe q (back_of _ ts _ h).1)

  unary_safe : {ts : List Token} {t : Term} → IsUnary ts t → Spelled ts → Safe t
  unary_safe (negative p) h = neg_safe _ (unary_safe p h.1)
  unary_safe (positive p) h = unary_safe p h.1
  unary_safe (prim p) h = prim_safe p h

  prim_safe : {ts : List Token} {t : Term} → IsPrim ts t → Spelled ts → Safe t
  prim_safe int h = h.0
  prim_safe text h = h.0
  prim_safe attribute h = refl
  prim_safe (group {ts = ts} p) h = term_safe p (front_of _ ts _ h.1)
  prim_safe (function p) h = function_safe p h
  prim_safe (aggregated p) h = agg_safe p h

  function_safe : {ts : List Token} {t : Term} → IsFunction ts t → Spelled ts → Safe t
  function_safe (abs {ts = ts} p) h = abs_safe _ (term_safe p (front_of _ ts _ h.1.1))
  function_safe (mod_ {ts = ts} {us = us} {t = t} {u = u} p q) h = operation_safe ops.Mod t u (term_safe p (front_of _ ts _ h.1.1)) (term_safe q (front_of _ us _ (back_of _ ts _ h.1.1).1))
  function_safe (concat {ts = ts} {us = us} p q) h = concat_safe _ _ (term_safe p (front_of _ ts _ h.1.1)) (term_safe q (front_of _ us _ (back_of _ ts _ h.1.1).1))

  agg_safe : {ts : List Token} {t : Term} → IsAggregate ts t → Spelled ts → Safe t
  agg_safe (aggregate_of {ts = ts} {bs = bs} {ws = ws} a p b w) h =
      let behind = back_of _ ts _ h.1.1 in
      aggregate_safe _ (term_safe p (front_of _ ts _ h.1.1)) (by_safe b (front_of _ bs _ behind)) (where_safe w (front_of _ ws _ (back_of _ bs _ behind)))

  by_safe : {bs : List Token} {by : List Term} → IsBy bs by → Spelled bs → SafeRow by
  by_safe ungrouped h = refl
  by_safe (by_terms p) h = terms_safe p h.1

  terms_safe : {us : List Token} {ts : List Term} → IsTerms us ts → Spelled us → SafeRow ts
  terms_safe (last_term {t = t} p) h = and (term_is_written t) true (term_safe p h) refl
  terms_safe (next_term {ts = ts} {us = us} {t = t} {more = more} p q) h = and (term_is_written t) (terms_are_written (term_row more)) (term_safe p (front_of _ ts _ h)) (terms_safe q (back_of _ ts _ h).1)

  pub where_safe : {ws : List Token} {q : Qual} → IsWhere ws q → Spelled ws → SafeQual q
  where_safe unqualified h = refl
  where_safe (qualified p) h = qual_safe p h.1

  pub qual_safe : {ts : List Token} {q : Qual} → IsQual ts q → Spelled ts → SafeQual q
  qual_safe (choice {ts = ts} {us = us} p o) h = ors_safe o (conj_safe p (front_of _ ts us h)) (back_of _ ts us h)

  ors_safe : {left q : Qual} {us : List Token} → IsOrs left us q → SafeQual left → Spelled us → SafeQual q
  ors_safe last_or l h = l
  ors_safe (next_or {ts = ts} {us = us} p o) l h = ors_safe o (or_safe _ _ l (conj_safe p (front_of _ ts us h.1))) (back_of _ ts us h.1)

  conj_safe : {ts : List Token} {q : Qual} → IsConj ts q → Spelled ts → SafeQual q
  conj_safe (conjunction {ts = ts} {us = us} p a) h = ands_safe a (negation_safe p (front_of _ ts us h)) (back_of _ ts us h)

  ands_safe : {left q : Qual} {us : List Token} → IsAnds left us q → SafeQual left → Spelled us → SafeQual q
  ands_safe last_and l h = l
  ands_safe (next_and {ts = ts} {us = us} p a) l h = ands_safe a (and_safe _ _ l (negation_safe p (front_of _ ts us h.1))) (back_of _ ts us h.1)

  negation_safe : {ts : List Token} {q : Qual} → IsNeg ts q → Spelled ts → SafeQual q
  negation_safe (not_ p) h = not_safe _ (negation_safe p h.1)
  negation_safe (grouped {ts = ts} p) h = qual_safe p (front_of _ ts _ h.1)
  negation_safe (compared {ts = ts} {us = us} {t = t} {u = u} p c q) h = and (term_is_written t) (term_is_written u) (term_safe p (front_of _ ts _ h)) (term_safe q (back_of _ ts _ h).1)
