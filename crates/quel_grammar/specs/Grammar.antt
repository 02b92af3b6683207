-- The grammar of terms, qualifications and lists. Each line of a relation is one way to write what it relates tokens to.
use Rattle.std.specs.Prelude.{ℕ, pos, List, [], ◌∷◌, ◌++◌, codes}
use Rattle.calculus.specs.declared.operator.AggOp.{AggOp}
use Rattle.calculus.specs.declared.operator.AggOp.TheVariants as aggs
use Rattle.calculus.specs.declared.operator.ArithOp.{ArithOp}
use Rattle.calculus.specs.declared.operator.ArithOp.TheVariants as ops
use Rattle.calculus.specs.declared.operator.CmpOp.{CmpOp}
use Rattle.calculus.specs.declared.operator.CmpOp.TheVariants as comparisons
use Rattle.calculus.specs.declared.statement.Term.{Term}
use Rattle.calculus.specs.declared.statement.Term.TheVariants as terms
use Rattle.calculus.specs.declared.statement.Qual.{Qual}
use Rattle.calculus.specs.declared.statement.Qual.TheVariants as quals
use Rattle.quel_grammar.specs.declared.token.Fixed.{Fixed}
use Rattle.quel_grammar.specs.declared.token.Fixed.TheVariants as fixed
use Rattle.quel_grammar.specs.declared.token.Token.{Token}
use Rattle.quel_grammar.specs.declared.token.Token.TheVariants as tokens

-- a reserved word or a symbol
abbrev pub one : Fixed → List Token
one f = tokens.Fixed f ∷ []

-- a name
abbrev pub word : List ℕ → List Token
word w = tokens.Name w ∷ []

infixr 5 ◌⋅◌
-- these tokens, and those behind them
abbrev pub ◌⋅◌ : List Token → List Token → List Token
ts ⋅ us = ts ++ us

-- "+" | "-"
pub data IsSumSign : Fixed → ArithOp → Type 0 where
  plus : IsSumSign fixed.Plus ops.Add
  minus : IsSumSign fixed.Minus ops.Sub

-- "*" | "/"
pub data IsProductSign : Fixed → ArithOp → Type 0 where
  times : IsProductSign fixed.Times ops.Mul
  divide : IsProductSign fixed.Divide ops.Div

-- cmp = "=" | "!=" | "<" | "<=" | ">" | ">="
pub data IsComparison : Fixed → CmpOp → Type 0 where
  equal : IsComparison fixed.Equal comparisons.Eq
  not_equal : IsComparison fixed.NotEqual comparisons.Ne
  less : IsComparison fixed.Less comparisons.Lt
  less_equal : IsComparison fixed.LessEqual comparisons.Le
  greater : IsComparison fixed.Greater comparisons.Gt
  greater_equal : IsComparison fixed.GreaterEqual comparisons.Ge

-- AGG = "count" | "countu" | "sum" | "sumu" | "avg" | "avgu" | "min" | "max" | "any", which are names
pub data IsAggregateName : List ℕ → AggOp → Type 0 where
  count : IsAggregateName (codes "count") aggs.Count
  countu : IsAggregateName (codes "countu") aggs.Countu
  sum_ : IsAggregateName (codes "sum") aggs.Sum
  sumu : IsAggregateName (codes "sumu") aggs.Sumu
  avg : IsAggregateName (codes "avg") aggs.Avg
  avgu : IsAggregateName (codes "avgu") aggs.Avgu
  min_ : IsAggregateName (codes "min") aggs.Min
  max_ : IsAggregateName (codes "max") aggs.Max
  any : IsAggregateName (codes "any") aggs.Any

mutual
  -- term = prod {("+" | "-") prod}
  pub data IsTerm : List Token → Term → Type 0 where
    sum : {ts us : List Token} {t v : Term} → IsProd ts t → IsSums t us v → IsTerm (ts ⋅ us) v

  -- {("+" | "-") prod} behind the term on the left, and the whole, which groups from the left
  pub data IsSums : Term → List Token → Term → Type 0 where
    last_sum : {t : Term} → IsSums t [] t
    next_sum : {f : Fixed} {op : ArithOp} {ts us : List Token} {left t v : Term}
        → IsSumSign f op → IsProd ts t → IsSums (terms.Arith op left t) us v → IsSums left (one f ⋅ ts ⋅ us) v

  -- prod = pow {("*" | "/") pow}
  pub data IsProd : List Token → Term → Type 0 where
    product : {ts us : List Token} {t v : Term} → IsPow ts t → IsProducts t us v → IsProd (ts ⋅ us) v

  -- {("*" | "/") pow} behind the term on the left, and the whole, which groups from the left
  pub data IsProducts : Term → List Token → Term → Type 0 where
    last_product : {t : Term} → IsProducts t [] t
    next_product : {f : Fixed} {op : ArithOp} {ts us : List Token} {left t v : Term}
        → IsProductSign f op → IsPow ts t → IsProducts (terms.Arith op left t) us v → IsProducts left (one f ⋅ ts ⋅ us) v

  -- pow = unary ["**" pow]
  pub data IsPow : List Token → Term → Type 0 where
    base : {ts : List Token} {t : Term} → IsUnary ts t → IsPow ts t
    power : {ts us : List Token} {t u : Term} → IsUnary ts t → IsPow us u → IsPow (ts ⋅ one fixed.Power ⋅ us) (terms.Arith ops.Pow t u)

  -- unary = ("-" | "+") unary | prim
  pub data IsUnary : List Token → Term → Type 0 where
    negative : {ts : List Token} {t : Term} → IsUnary ts t → IsUnary (one fixed.Minus ⋅ ts) (terms.Neg t)
    positive : {ts : List Token} {t : Term} → IsUnary ts t → IsUnary (one fixed.Plus ⋅ ts) t
    prim : {ts : List Token} {t : Term} → IsPrim ts t → IsUnary ts t

  -- prim = INT | TEXT | NAME "." NAME | "(" term ")" | func | agg
  pub data IsPrim : List Token → Term → Type 0 where
    int : {n : ℕ} → IsPrim (tokens.Int n ∷ []) (terms.Int (pos n))
    text : {c : List ℕ} → IsPrim (tokens.Text c ∷ []) (terms.Chars c)
    attribute : {v a : List ℕ} → IsPrim (word v ⋅ one fixed.Dot ⋅ word a) (terms.Attr v a)
    group : {ts : List Token} {t : Term} → IsTerm ts t → IsPrim (one fixed.Open ⋅ ts ⋅ one fixed.Close) t
    function : {ts : List Token} {t : Term} → IsFunction ts t → IsPrim ts t
    aggregate : {ts : List Token} {t : Term} → IsAggregate ts t → IsPrim ts t

  -- func = "abs" "(" term ")" | ("mod" | "concat") "(" term "," term ")"
  pub data IsFunction : List Token → Term → Type 0 where
    abs : {ts : List Token} {t : Term} → IsTerm ts t → IsFunction (word (codes "abs") ⋅ one fixed.Open ⋅ ts ⋅ one fixed.Close) (terms.Abs t)
    mod_ : {ts us : List Token} {t u : Term} → IsTerm ts t → IsTerm us u
        → IsFunction (word (codes "mod") ⋅ one fixed.Open ⋅ ts ⋅ one fixed.Comma ⋅ us ⋅ one fixed.Close) (terms.Arith ops.Mod t u)
    concat : {ts us : List Token} {t u : Term} → IsTerm ts t → IsTerm us u
        → IsFunction (word (codes "concat") ⋅ one fixed.Open ⋅ ts ⋅ one fixed.Comma ⋅ us ⋅ one fixed.Close) (terms.Concat t u)

  -- agg = AGG "(" term ["by" term {"," term}] [where] ")"
  pub data IsAggregate : List Token → Term → Type 0 where
    aggregate_of : {w : List ℕ} {op : AggOp} {ts bs ws : List Token} {t : Term} {by : List Term} {q : Qual}
        → IsAggregateName w op → IsTerm ts t → IsBy bs by → IsWhere ws q
        → IsAggregate (word w ⋅ one fixed.Open ⋅ ts ⋅ bs ⋅ ws ⋅ one fixed.Close) (terms.Agg (record { op = op; arg = t; by = by; qual = q }))

  -- ["by" term {"," term}]
  pub data IsBy : List Token → List Term → Type 0 where
    ungrouped : IsBy [] []
    by_terms : {ts : List Token} {by : List Term} → IsTerms ts by → IsBy (one fixed.By ⋅ ts) by

  -- term {"," term}
  pub data IsTerms : List Token → List Term → Type 0 where
    last_term : {ts : List Token} {t : Term} → IsTerm ts t → IsTerms ts (t ∷ [])
    next_term : {ts us : List Token} {t : Term} {more : List Term} → IsTerm ts t → IsTerms us more → IsTerms (ts ⋅ one fixed.Comma ⋅ us) (t ∷ more)

  -- [where], where = "where" qual
  pub data IsWhere : List Token → Qual → Type 0 where
    unqualified : IsWhere [] quals.True
    qualified : {ts : List Token} {q : Qual} → IsQual ts q → IsWhere (one fixed.Where ⋅ ts) q

  -- qual = conj {"or" conj}
  pub data IsQual : List Token → Qual → Type 0 where
    choice : {ts us : List Token} {p q : Qual} → IsConj ts p → IsOrs p us q → IsQual (ts ⋅ us) q

  -- {"or" conj} behind the qualification on the left, and the whole, which groups from the left
  pub data IsOrs : Qual → List Token → Qual → Type 0 where
    last_or : {p : Qual} → IsOrs p [] p
    next_or : {ts us : List Token} {left p q : Qual} → IsConj ts p → IsOrs (quals.Or left p) us q → IsOrs left (one fixed.Or ⋅ ts ⋅ us) q

  -- conj = neg {"and" neg}
  pub data IsConj : List Token → Qual → Type 0 where
    conjunction : {ts us : List Token} {p q : Qual} → IsNeg ts p → IsAnds p us q → IsConj (ts ⋅ us) q

  -- {"and" neg} behind the qualification on the left, and the whole, which groups from the left
  pub data IsAnds : Qual → List Token → Qual → Type 0 where
    last_and : {p : Qual} → IsAnds p [] p
    next_and : {ts us : List Token} {left p q : Qual} → IsNeg ts p → IsAnds (quals.And left p) us q → IsAnds left (one fixed.And ⋅ ts ⋅ us) q

  -- neg = "not" neg | "(" qual ")" | term cmp term
  pub data IsNeg : List Token → Qual → Type 0 where
    not_ : {ts : List Token} {p : Qual} → IsNeg ts p → IsNeg (one fixed.Not ⋅ ts) (quals.Not p)
    grouped : {ts : List Token} {p : Qual} → IsQual ts p → IsNeg (one fixed.Open ⋅ ts ⋅ one fixed.Close) p
    compared : {f : Fixed} {op : CmpOp} {ts us : List Token} {t u : Term} → IsTerm ts t → IsComparison f op → IsTerm us u → IsNeg (ts ⋅ one f ⋅ us) (quals.Cmp op t u)

-- X {"," X}
pub data IsList {A : Type 0} (Is : List Token → A → Type 0) : List Token → List A → Type 0 where
  last : {ts : List Token} {x : A} → Is ts x → IsList Is ts (x ∷ [])
  next : {ts us : List Token} {x : A} {xs : List A} → Is ts x → IsList Is us xs → IsList Is (ts ⋅ one fixed.Comma ⋅ us) (x ∷ xs)

-- NAME
pub data IsName : List Token → List ℕ → Type 0 where
  name : {n : List ℕ} → IsName (word n) n
