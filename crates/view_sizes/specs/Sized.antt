-- Sizes and depths of trees without aggregates, by numbers that stop at the greatest of 64 bits.
use Rattle.std.specs.Prelude.{ℕ, ◌+◌, max, List, [], ◌∷◌}
use Rattle.calculus.specs.declared.query.QTerm.{QTerm, Int, Chars, Attr, Agg'}
use Rattle.calculus.specs.declared.query.QQual.{QQual, True, Cmp, Like}
use Rattle.calculus.specs.declared.query.Target.{Target}
use Rattle.calculus.specs.Tree.{neg, abs, operation, concat, both, either, negated}

-- how deep a term is, where an aggregate counts 1
unfoldable pub term_depth : QTerm → ℕ
term_depth (Int n) = 1
term_depth (Chars bytes) = 1
term_depth (Attr var attr) = 1
term_depth (neg t) = 1 + term_depth t
term_depth (abs t) = 1 + term_depth t
term_depth (operation op t u) = 1 + max (term_depth t) (term_depth u)
term_depth (concat t u) = 1 + max (term_depth t) (term_depth u)
term_depth (Agg' mark row) = 1

-- how deep a qualification is, where an aggregate counts 1
unfoldable pub qual_depth : QQual → ℕ
qual_depth True = 1
qual_depth (Cmp op t u) = 1 + max (term_depth t) (term_depth u)
qual_depth (Like t pattern same) = 1 + term_depth t
qual_depth (both p q) = 1 + max (qual_depth p) (qual_depth q)
qual_depth (either p q) = 1 + max (qual_depth p) (qual_depth q)
qual_depth (negated p) = 1 + qual_depth p

-- the greatest depth of the terms of targets
abbrev pub greatest_depth : List Target → ℕ
greatest_depth [] = 0
greatest_depth (t ∷ ts) = max (term_depth t.term) (greatest_depth ts)
