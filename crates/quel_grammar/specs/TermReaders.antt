-- How terms and qualifications are read from the left: a value and the tokens behind it, or the tokens from the first one on that can't stand there.
use Rattle.std.specs.Prelude.{ℕ, zero, suc, pos, Bool, true, false, List, [], ◌∷◌, ◌++◌, Option, Some, None, Ok, Err, codes}
use Rattle.calculus.specs.declared.operator.AggOp.{AggOp}
use Rattle.calculus.specs.declared.operator.AggOp.TheVariants as aggs
use Rattle.calculus.specs.declared.operator.ArithOp.{ArithOp}
use Rattle.calculus.specs.declared.operator.ArithOp.TheVariants as ops
use Rattle.calculus.specs.declared.operator.CmpOp.{CmpOp}
use Rattle.calculus.specs.declared.statement.Term.{Term}
use Rattle.calculus.specs.declared.statement.Term.TheVariants as terms
use Rattle.calculus.specs.declared.statement.Qual.{Qual}
use Rattle.calculus.specs.declared.statement.Qual.TheVariants as quals
use Rattle.quel_grammar.specs.declared.token.Fixed.{Fixed}
use Rattle.quel_grammar.specs.declared.token.Fixed.TheVariants as fixed
use Rattle.quel_grammar.specs.declared.token.Token.{Token}
use Rattle.quel_grammar.specs.declared.token.Token.TheVariants as tokens
use Rattle.quel_grammar.specs.Reading.{Reader, ◌>>=◌, done, first, choose, is_fixed, after, name_at, look_up}
use Rattle.quel_grammar.specs.Signs.{sum_sign, product_sign, sign, comparison}

-- what a primary term begins with: a number, a text constant, a name, or a parenthesis
pub data Start : Type 0 where
  IntStart : ℕ → Start
  TextStart : List ℕ → Start
  NameStart : List ℕ → Start
  GroupStart : Start

-- a parenthesis begins a primary term, and no other reserved word or symbol does
abbrev pub start_of : Fixed → Option Start
start_of fixed.Open = Some GroupStart
start_of _ = None

-- what a token begins
abbrev pub start : Token → Option Start
start (tokens.Fixed f) = start_of f
start (tokens.Name v) = Some (NameStart v)
start (tokens.Int n) = Some (IntStart n)
start (tokens.Text c) = Some (TextStart c)

-- what is called by a name
pub data Call : Type 0 where
  CallAbs : Call
  CallMod : Call
  CallConcat : Call
  CallAggregate : AggOp → Call

-- the names of the functions and aggregates
abbrev pub calls : List (List ℕ × Call)
calls =
    (codes "abs", CallAbs) ∷ (codes "mod", CallMod) ∷ (codes "concat", CallConcat)
    ∷ (codes "count", CallAggregate aggs.Count) ∷ (codes "countu", CallAggregate aggs.Countu)
    ∷ (codes "sum", CallAggregate aggs.Sum) ∷ (codes "sumu", CallAggregate aggs.Sumu)
    ∷ (codes "avg", CallAggregate aggs.Avg) ∷ (codes "avgu", CallAggregate aggs.Avgu)
    ∷ (codes "min", CallAggregate aggs.Min) ∷ (codes "max", CallAggregate aggs.Max)
    ∷ (codes "any", CallAggregate aggs.Any) ∷ []

-- a qualification, or a term where no comparison follows it
pub data Mixed : Type 0 where
  Bare : Term → Mixed
  Whole : Qual → Mixed

-- the readers that are called once a token was taken
pub record Lower : Type 0 where
  pub unary : Reader Term
  pub pow : Reader Term
  pub products : Term → Reader Term
  pub sums : Term → Reader Term
  pub term : Reader Term
  pub terms_behind : List Term → Reader (List Term)
  pub neg : Reader Qual
  pub ands : Qual → Reader Qual
  pub ors : Qual → Reader Qual
  pub mixed : Reader Mixed

-- the qualification that was read, where it is one
abbrev pub demanded : Mixed → Reader Qual
demanded (Whole q) ts = Ok (q, ts)
demanded (Bare t) ts = Err ts

-- a term and the closing parenthesis
unfoldable pub inside_by : Lower → Reader Term
inside_by l ts = do
  t ← l.term ts
  close ← after fixed.Close t.1
  Ok (t.0, close.1)

-- the absolute value of a term, behind the open parenthesis
unfoldable pub abs_by : Lower → Reader Term
abs_by l ts = do
  t ← inside_by l ts
  Ok (terms.Abs t.0, t.1)

-- two terms that are joined, behind the open parenthesis
unfoldable pub two_by : Lower → (Term → Term → Term) → Reader Term
two_by l join ts = do
  t ← l.term ts
  comma ← after fixed.Comma t.1
  u ← inside_by l comma.1
  Ok (join t.0 u.0, u.1)

-- the terms of `by`
unfoldable pub by_by : Lower → Reader (List Term)
by_by l ts = choose (done []) (λ u. l.terms_behind []) ts (first (is_fixed fixed.By) ts)

-- a qualification behind the `where` of an aggregate
unfoldable pub inner_qual_by : Lower → Reader Qual
inner_qual_by l ts = do
  m ← l.mixed ts
  demanded m.0 m.1

-- the qualification of an aggregate
unfoldable pub inner_where_by : Lower → Reader Qual
inner_where_by l ts = choose (done quals.True) (λ u. inner_qual_by l) ts (first (is_fixed fixed.Where) ts)

-- an aggregate, behind the open parenthesis
unfoldable pub aggregate_by : Lower → AggOp → Reader Term
aggregate_by l op ts = do
  t ← l.term ts
  by ← by_by l t.1
  q ← inner_where_by l by.1
  close ← after fixed.Close q.1
  Ok (terms.Agg (record { op = op; arg = t.0; by = by.0; qual = q.0 }), close.1)

-- what is called, behind the open parenthesis
abbrev pub call_by : Lower → Call → Reader Term
call_by l CallAbs = abs_by l
call_by l CallMod = two_by l (terms.Arith ops.Mod)
call_by l CallConcat = two_by l terms.Concat
call_by l (CallAggregate op) = aggregate_by l op

-- what is called, behind its name
unfoldable pub opened_by : Lower → Call → Reader Term
opened_by l call ts = do
  open_ ← after fixed.Open ts
  call_by l call open_.1

-- what the name calls; other names call nothing
abbrev pub called_by : Lower → Option Call → Reader Term
called_by l (Some call) = opened_by l call
called_by l None = Err

-- the attribute of a variable, behind the dot
unfoldable pub attribute_of : List ℕ → Reader Term
attribute_of v ts = do
  a ← name_at ts
  Ok (terms.Attr v a.0, a.1)

-- an attribute, a function or an aggregate, behind its name
unfoldable pub named_by : Lower → List ℕ → Reader Term
named_by l v ts = choose (called_by l (look_up calls v)) (λ u. attribute_of v) ts (first (is_fixed fixed.Dot) ts)

-- a primary term, behind its first token
abbrev pub started_by : Lower → Start → Reader Term
started_by l (IntStart n) = done (terms.Int (pos n))
started_by l (TextStart c) = done (terms.Chars c)
started_by l (NameStart v) = named_by l v
started_by l GroupStart = inside_by l

-- a primary term
unfoldable pub prim_by : Lower → Reader Term
prim_by l ts = choose Err (started_by l) ts (first start ts)

-- the term behind a sign
abbrev pub signed : Bool → Term → Term
signed true t = terms.Neg t
signed false t = t

-- a unary term, behind its sign
unfoldable pub signed_by : Lower → Bool → Reader Term
signed_by l negative ts = do
  t ← l.unary ts
  Ok (signed negative t.0, t.1)

-- a unary term
unfoldable pub unary_by : Lower → Reader Term
unary_by l ts = choose (prim_by l) (signed_by l) ts (first sign ts)

-- a power, behind its sign
unfoldable pub raised_by : Lower → Term → Reader Term
raised_by l t ts = do
  u ← l.pow ts
  Ok (terms.Arith ops.Pow t u.0, u.1)

-- the rest of a power, whose base is this term
unfoldable pub power_by : Lower → Term → Reader Term
power_by l t ts = choose (done t) (λ u. raised_by l t) ts (first (is_fixed fixed.Power) ts)

-- a power
unfoldable pub pow_by : Lower → Reader Term
pow_by l ts = do
  t ← unary_by l ts
  power_by l t.0 t.1

-- the rest of a product, behind a sign
unfoldable pub next_product_by : Lower → Term → ArithOp → Reader Term
next_product_by l left op ts = do
  t ← pow_by l ts
  l.products (terms.Arith op left t.0) t.1

-- the rest of a product, whose left part is this term
unfoldable pub products_by : Lower → Term → Reader Term
products_by l left ts = choose (done left) (next_product_by l left) ts (first product_sign ts)

-- a product
unfoldable pub prod_by : Lower → Reader Term
prod_by l ts = do
  t ← pow_by l ts
  products_by l t.0 t.1

-- the rest of a sum, behind a sign
unfoldable pub next_sum_by : Lower → Term → ArithOp → Reader Term
next_sum_by l left op ts = do
  t ← prod_by l ts
  l.sums (terms.Arith op left t.0) t.1

-- the rest of a sum, whose left part is this term
unfoldable pub sums_by : Lower → Term → Reader Term
sums_by l left ts = choose (done left) (next_sum_by l left) ts (first sum_sign ts)

-- a term
unfoldable pub term_by : Lower → Reader Term
term_by l ts = do
  t ← prod_by l ts
  sums_by l t.0 t.1

-- terms with commas between them, behind those that were read before
unfoldable pub terms_by : Lower → List Term → Reader (List Term)
terms_by l before ts = do
  t ← term_by l ts
  choose (done (before ++ t.0 ∷ [])) (λ u. l.terms_behind (before ++ t.0 ∷ [])) t.1 (first (is_fixed fixed.Comma) t.1)

-- the rest of a term that begins with this one in parentheses
unfoldable pub term_from : Lower → Term → Reader Term
term_from l t ts = do
  pow ← power_by l t ts
  prod ← products_by l pow.0 pow.1
  sums_by l prod.0 prod.1

-- the right side of a comparison
unfoldable pub right_side_by : Lower → Term → CmpOp → Reader Mixed
right_side_by l t op ts = do
  u ← term_by l ts
  Ok (Whole (quals.Cmp op t u.0), u.1)

-- a comparison whose left side is this term, or the bare term
unfoldable pub compare_by : Lower → Term → Reader Mixed
compare_by l t ts = choose (done (Bare t)) (right_side_by l t) ts (first comparison ts)

-- the rest of a qualification or a term that begins with this in parentheses
unfoldable pub grouped_by : Lower → Mixed → Reader Mixed
grouped_by l (Whole q) ts = Ok (Whole q, ts)
grouped_by l (Bare t) ts = do
  u ← term_from l t ts
  compare_by l u.0 u.1

-- a comparison, or a bare term, that begins with no parenthesis
unfoldable pub compared_by : Lower → Reader Mixed
compared_by l ts = do
  t ← term_by l ts
  compare_by l t.0 t.1

-- a qualification or a term, behind its first parenthesis
unfoldable pub mixed_group_by : Lower → Reader Mixed
mixed_group_by l ts = do
  m ← l.mixed ts
  close ← after fixed.Close m.1
  grouped_by l m.0 close.1

-- a negation, behind `not`
unfoldable pub negated_by : Lower → Reader Mixed
negated_by l ts = do
  q ← l.neg ts
  Ok (Whole (quals.Not q.0), q.1)

-- what begins with no `not`
unfoldable pub plain_by : Lower → Reader Mixed
plain_by l ts = choose (compared_by l) (λ u. mixed_group_by l) ts (first (is_fixed fixed.Open) ts)

-- a side of `and`, or a bare term
unfoldable pub operand_by : Lower → Reader Mixed
operand_by l ts = choose (plain_by l) (λ u. negated_by l) ts (first (is_fixed fixed.Not) ts)

-- a side of `and`
unfoldable pub neg_by : Lower → Reader Qual
neg_by l ts = do
  m ← operand_by l ts
  demanded m.0 m.1

-- the rest of a conjunction, behind `and`
unfoldable pub next_and_by : Lower → Qual → Reader Qual
next_and_by l left ts = do
  q ← neg_by l ts
  l.ands (quals.And left q.0) q.1

-- the rest of a conjunction, whose left part is this
unfoldable pub ands_by : Lower → Qual → Reader Qual
ands_by l left ts = choose (done left) (λ u. next_and_by l left) ts (first (is_fixed fixed.And) ts)

-- a side of `or`
unfoldable pub conj_by : Lower → Reader Qual
conj_by l ts = do
  q ← neg_by l ts
  ands_by l q.0 q.1

-- the rest of a disjunction, behind `or`
unfoldable pub next_or_by : Lower → Qual → Reader Qual
next_or_by l left ts = do
  q ← conj_by l ts
  l.ors (quals.Or left q.0) q.1

-- the rest of a disjunction, whose left part is this
unfoldable pub ors_by : Lower → Qual → Reader Qual
ors_by l left ts = choose (done left) (λ u. next_or_by l left) ts (first (is_fixed fixed.Or) ts)

-- the rest of a qualification that begins with this
unfoldable pub mixed_from : Lower → Mixed → Reader Mixed
mixed_from l (Bare t) ts = Ok (Bare t, ts)
mixed_from l (Whole q) ts = do
  conj ← ands_by l q ts
  qual ← ors_by l conj.0 conj.1
  Ok (Whole qual.0, qual.1)

-- a qualification, or a bare term
unfoldable pub mixed_by : Lower → Reader Mixed
mixed_by l ts = do
  m ← operand_by l ts
  mixed_from l m.0 m.1

-- a qualification
unfoldable pub qual_by : Lower → Reader Qual
qual_by l ts = do
  m ← mixed_by l ts
  demanded m.0 m.1

-- the readers that call these once a token was taken
abbrev pub deeper : Lower → Lower
deeper l = record {
  unary = unary_by l;
  pow = pow_by l;
  products = products_by l;
  sums = sums_by l;
  term = term_by l;
  terms_behind = terms_by l;
  neg = neg_by l;
  ands = ands_by l;
  ors = ors_by l;
  mixed = mixed_by l;
}

-- the readers that read nothing
abbrev pub nowhere : Lower
nowhere = record {
  unary = λ ts. Err ts;
  pow = λ ts. Err ts;
  products = λ t ts. Err ts;
  sums = λ t ts. Err ts;
  term = λ ts. Err ts;
  terms_behind = λ before ts. Err ts;
  neg = λ ts. Err ts;
  ands = λ q ts. Err ts;
  ors = λ q ts. Err ts;
  mixed = λ ts. Err ts;
}

-- the readers that take at most so many tokens one below the other; as each takes one, as many as there are tokens suffice
unfoldable pub level : ℕ → Lower
level zero = nowhere
level (suc n) = deeper (level n)
