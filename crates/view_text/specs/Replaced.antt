-- Terms and qualifications with other terms in place of their attributes and aggregates.
use Rattle.std.specs.Prelude.{ℕ, ◌+◌, zero, suc, pos, List, [], ◌∷◌}
use Rattle.calculus.specs.declared.operator.ArithOp.TheVariants.{Div}
use Rattle.calculus.specs.declared.query.QTerm.{QTerm, Int, Chars, Attr, Agg', Row_of-QAgg, end_of-QAgg, more_of-QAgg}
use Rattle.calculus.specs.declared.query.QAgg.{QAgg}
use Rattle.calculus.specs.declared.query.QQual.{QQual, True, Cmp, Like}
use Rattle.calculus.specs.declared.query.Target.{Target}
use Rattle.calculus.specs.Tree.{neg, abs, operation, concat, both, either, negated, aggregate}

-- a term that has no value, in place of what isn't there
abbrev pub without_value : QTerm
without_value = operation Div (Int (pos 1)) (Int (pos 0))

-- what is substituted for an attribute of a variable, both by place
abbrev pub Substitution : Type 0
Substitution = ℕ → ℕ → QTerm

-- the term with these in place of its attributes, and what is made of each of its aggregates in place of that
unfoldable pub replaced : (QTerm → QTerm) → Substitution → QTerm → QTerm
replaced made put (Int n) = Int n
replaced made put (Chars bytes) = Chars bytes
replaced made put (Attr var attr) = put var attr
replaced made put (neg t) = neg (replaced made put t)
replaced made put (abs t) = abs (replaced made put t)
replaced made put (operation op t u) = operation op (replaced made put t) (replaced made put u)
replaced made put (concat t u) = concat (replaced made put t) (replaced made put u)
replaced made put (Agg' mark row) = made (Agg' mark row)

-- the qualification so: a text constant that is put in is compared as a value, and is no pattern
unfoldable pub replaced_in_qual : (QTerm → QTerm) → Substitution → QQual → QQual
replaced_in_qual made put True = True
replaced_in_qual made put (Cmp op t u) = Cmp op (replaced made put t) (replaced made put u)
replaced_in_qual made put (Like t pattern same) = Like (replaced made put t) pattern same
replaced_in_qual made put (both p q) = both (replaced_in_qual made put p) (replaced_in_qual made put q)
replaced_in_qual made put (either p q) = either (replaced_in_qual made put p) (replaced_in_qual made put q)
replaced_in_qual made put (negated p) = negated (replaced_in_qual made put p)

-- the target so: its name and its kind stay
abbrev pub replaced_target : (QTerm → QTerm) → Substitution → Target → Target
replaced_target made put t = record { name = t.name; kind = t.kind; term = replaced made put t.term }

-- in place of an aggregate where none may stand: no value
abbrev pub no_aggregate : QTerm → QTerm
no_aggregate t = without_value

-- the variables stand so many places further on
abbrev pub further : ℕ → Substitution
further n var attr = Attr (n + var) attr

-- the term, its variables so many places further on
abbrev pub shifted : ℕ → QTerm → QTerm
shifted n t = replaced no_aggregate (further n) t

-- the qualification, its variables so many places further on
abbrev pub shifted_qual : ℕ → QQual → QQual
shifted_qual n q = replaced_in_qual no_aggregate (further n) q

-- the attributes of the only variable; no other is there
abbrev pub of_only : Substitution
of_only zero attr = Attr 0 attr
of_only (suc var) attr = without_value

-- the aggregate at a slot among these; where there is none, a term without value
abbrev pub aggregate_at : List QAgg → ℕ → QTerm
aggregate_at [] slot = without_value
aggregate_at (g ∷ gs) zero = aggregate g
aggregate_at (g ∷ gs) (suc slot) = aggregate_at gs slot

-- the one among these at the slot of the aggregate that a term is
abbrev pub at_slot : List QAgg → {n : _} → Row_of-QAgg n → QTerm
at_slot made end_of-QAgg = without_value
at_slot made (more_of-QAgg slot op source arg bys by links link qual rest) = aggregate_at made slot

-- in place of an aggregate: the one among these at its slot
abbrev pub listed : List QAgg → QTerm → QTerm
listed made (Agg' mark row) = at_slot made row
listed made t = without_value
