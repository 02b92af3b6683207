-- Terms, qualifications, aggregates and queries as bytes: with at most so many of them inside one another.
use Rattle.std.specs.Prelude.{ℕ, zero, suc, ℤ, Bool, nat_lt, ◌⊎◌, List}
use Rattle.std.proofs.Common.{inl, inr}
use Rattle.tree_words.specs.Codec.{Codec}
use Rattle.tree_words.specs.Words.{both, byte, list, mapped, nothing, nowhere, number16, number64}
use Rattle.tree_words.specs.Ways.{tagged, ◌or◌, gated, last_if, flag}
use Rattle.calculus.specs.declared.operator.ArithOp.{ArithOp}
use Rattle.calculus.specs.declared.operator.CmpOp.{CmpOp}
use Rattle.calculus.specs.declared.query.AggSource.{AggSource}
use Rattle.calculus.specs.declared.query.AggSource.TheVariants as sources
use Rattle.calculus.specs.declared.query.QAgg.{QAgg}
use Rattle.calculus.specs.declared.query.QQual.{QQual}
use Rattle.calculus.specs.declared.query.QQual.TheVariants as quals
use Rattle.calculus.specs.declared.query.QTerm.{QTerm, Agg', items-the_row-QTerm, end_of-QAgg, more_of-QAgg}
use Rattle.calculus.specs.declared.query.QTerm.TheVariants as terms
use Rattle.calculus.specs.declared.query.Query.{Query, roll-Query}
use Rattle.calculus.specs.declared.query.RelKey.{RelKey}
use Rattle.calculus.specs.declared.query.Target.{Target}
use Rattle.calculus.specs.QueryParts.{vars_of, targets_of, qual_of}
use Rattle.calculus.specs.Tree as tree
use Rattle.quel_tree.specs.Names.{chars, name}
use Rattle.quel_tree.specs.Operators.{agg_op, arith_op, cmp_op}
use Rattle.quel_tree.specs.Relations.{rel_key}
use Rattle.quel_tree.specs.Values.{kind}

abbrev pub One : Type 0
One = Unit {0}

-- ---- terms

abbrev pub Terms : Type 0
Terms = ℤ ⊎ (List ℕ ⊎ ((ℕ × ℕ) ⊎ (QTerm ⊎ (QTerm ⊎ ((ArithOp × (QTerm × QTerm)) ⊎ ((QTerm × QTerm) ⊎ QAgg))))))

abbrev pub term_of : Terms → QTerm
term_of (inl n) = terms.Int n
term_of (inr (inl bs)) = terms.Chars bs
term_of (inr (inr (inl p))) = terms.Attr p.0 p.1
term_of (inr (inr (inr (inl t)))) = terms.Neg t
term_of (inr (inr (inr (inr (inl t))))) = terms.Abs t
term_of (inr (inr (inr (inr (inr (inl p)))))) = terms.Arith p.0 p.1.0 p.1.1
term_of (inr (inr (inr (inr (inr (inr (inl p))))))) = terms.Concat p.0 p.1
term_of (inr (inr (inr (inr (inr (inr (inr g))))))) = terms.Agg g

abbrev pub term_way : QTerm → Terms
term_way (terms.Int n) = inl n
term_way (terms.Chars bs) = inr (inl bs)
term_way (terms.Attr var attr) = inr (inr (inl (var, attr)))
term_way (tree.neg t) = inr (inr (inr (inl t)))
term_way (tree.abs t) = inr (inr (inr (inr (inl t))))
term_way (tree.operation op t u) = inr (inr (inr (inr (inr (inl (op, (t, u)))))))
term_way (tree.concat t u) = inr (inr (inr (inr (inr (inr (inl (t, u)))))))
term_way (Agg' mark (more_of-QAgg slot op source arg bys by links link qual end_of-QAgg)) = inr (inr (inr (inr (inr (inr (inr (record { slot = slot; op = op; source = source; arg = arg; by = items-the_row-QTerm _ by; link = items-the_row-QTerm _ link; qual = qual })))))))

-- a term whose inner terms and aggregates are so spelled, with n levels at most: 0 to 7 for a number, a text constant, an attribute, `-`, `abs`, an operation, `concat` and an aggregate, and what it is made of
abbrev pub term_over : ℕ → Codec QTerm → Codec QAgg → Codec QTerm
term_over n term agg = mapped term_of term_way (tagged
    (number64 or chars or both byte byte or gated (nat_lt 0 n) term (gated (nat_lt 0 n) term (gated (nat_lt 0 n) (both arith_op (both term term)) (gated (nat_lt 0 n) (both term term) (last_if (nat_lt 1 n) agg))))))

-- ---- qualifications

abbrev pub Quals : Type 0
Quals = One ⊎ ((CmpOp × (QTerm × QTerm)) ⊎ ((QTerm × (List ℕ × Bool)) ⊎ ((QQual × QQual) ⊎ ((QQual × QQual) ⊎ QQual))))

abbrev pub qual_from : Quals → QQual
qual_from (inl _) = quals.True
qual_from (inr (inl p)) = quals.Cmp p.0 p.1.0 p.1.1
qual_from (inr (inr (inl p))) = quals.Like p.0 p.1.0 p.1.1
qual_from (inr (inr (inr (inl p)))) = quals.And p.0 p.1
qual_from (inr (inr (inr (inr (inl p))))) = quals.Or p.0 p.1
qual_from (inr (inr (inr (inr (inr q))))) = quals.Not q

abbrev pub qual_way : QQual → Quals
qual_way quals.True = inl tt
qual_way (quals.Cmp op t u) = inr (inl (op, (t, u)))
qual_way (quals.Like t pattern same) = inr (inr (inl (t, (pattern, same))))
qual_way (tree.both p q) = inr (inr (inr (inl (p, q))))
qual_way (tree.either p q) = inr (inr (inr (inr (inl (p, q)))))
qual_way (tree.negated q) = inr (inr (inr (inr (inr q))))

-- a qualification whose inner terms and qualifications are so spelled, with n levels at most: 0 to 5 for the true one, a comparison, a pattern, `and`, `or` and `not`, and what it is made of
abbrev pub qual_over : ℕ → Codec QTerm → Codec QQual → Codec QQual
qual_over n term qual = mapped qual_from qual_way (tagged
    (nothing or gated (nat_lt 0 n) (both cmp_op (both term term)) (gated (nat_lt 0 n) (both term (both chars flag)) (gated (nat_lt 0 n) (both qual qual) (gated (nat_lt 0 n) (both qual qual) (last_if (nat_lt 0 n) qual))))))

-- ---- aggregates

abbrev pub source_of : RelKey ⊎ Query → AggSource
source_of (inl key) = sources.Named key
source_of (inr q) = sources.Rows q

abbrev pub source_way : AggSource → RelKey ⊎ Query
source_way (sources.Named key) = inl key
source_way (tree.rows_of_query q) = inr q

-- where an aggregate's rows come from, with a query of n levels at most: 0 and what a relation is named by, or 1 and a query
abbrev pub source_over : ℕ → Codec Query → Codec AggSource
source_over n query = mapped source_of source_way (tagged (rel_key or last_if (nat_lt 1 n) query))

-- an aggregate: its slot in two bytes, what is made of the values, where the rows come from, the term, the terms that group, those that link, and the qualification
abbrev pub agg_over : ℕ → Codec QTerm → Codec QQual → Codec Query → Codec QAgg
agg_over n term qual query = mapped
    (λ p. record { slot = p.0; op = p.1.0; source = p.1.1.0; arg = p.1.1.1.0; by = p.1.1.1.1.0; link = p.1.1.1.1.1.0; qual = p.1.1.1.1.1.1 })
    (λ g. (g.slot, (g.op, (g.source, (g.arg, (g.by, (g.link, g.qual)))))))
    (both number16 (both agg_op (both (source_over n query) (both term (both (list number16 term) (both (list number16 term) qual))))))

-- ---- queries

-- a target: its name, its kind and its term
abbrev pub target_over : Codec QTerm → Codec Target
target_over term = mapped (λ p. record { name = p.0; kind = p.1.0; term = p.1.1 }) (λ t. (t.name, (t.kind, t.term))) (both name (both kind term))

-- a query: what its variables range over, its targets and its qualification
abbrev pub query_over : Codec QTerm → Codec QQual → Codec Query
query_over term qual = mapped (λ p. roll-Query (record { vars = p.0; targets = p.1.0; qual = p.1.1 })) (λ q. (vars_of q, (targets_of q, qual_of q)))
    (both (list number16 rel_key) (both (list number16 (target_over term)) qual))

-- ---- levels

-- how terms, qualifications, aggregates and queries are spelled
pub record Trees : Type 1 where
  pub term : Codec QTerm
  pub qual : Codec QQual
  pub agg : Codec QAgg
  pub query : Codec Query

-- there are none
abbrev pub no_trees : Trees
no_trees = record { term = nowhere; qual = nowhere; agg = nowhere; query = nowhere }

-- those whose inner ones are so spelled, with n levels at most
abbrev pub trees_over : ℕ → Trees → Trees
trees_over n inner = record {
  term = term_over n inner.term inner.agg;
  qual = qual_over n inner.term inner.qual;
  agg = agg_over n inner.term inner.qual inner.query;
  query = query_over inner.term inner.qual;
}

-- with at most so many levels of them inside one another
unfoldable pub trees : ℕ → Trees
trees zero = no_trees
trees (suc n) = trees_over n (trees n)

-- a term, a qualification, an aggregate or a query of at most so many levels
abbrev pub term : ℕ → Codec QTerm
term n = (trees n).term

abbrev pub qual : ℕ → Codec QQual
qual n = (trees n).qual

abbrev pub agg : ℕ → Codec QAgg
agg n = (trees n).agg

abbrev pub query : ℕ → Codec Query
query n = (trees n).query

-- where an aggregate's rows come from, and a target: what they are made of has at most so many levels
abbrev pub source : ℕ → Codec AggSource
source n = source_over n (query n)

abbrev pub target : ℕ → Codec Target
target n = target_over (term n)
