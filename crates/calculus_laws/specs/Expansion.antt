-- A query over a view as one over what the view's text names: the view's targets are put in for its attributes.
use Rattle.std.specs.Prelude.{◌≡◌, ℕ, zero, suc, pos, Bool, true, false, List, [], ◌∷◌, map, Option, Some, None}
use Rattle.std.specs.List.{list_all}
use Rattle.calculus.specs.declared.operator.ArithOp.TheVariants.{Div}
use Rattle.calculus.specs.declared.operator.CmpOp.TheVariants.{Eq}
use Rattle.calculus.specs.declared.query.RelKey.{RelKey}
use Rattle.calculus.specs.declared.query.QTerm.{QTerm, Int, Chars, Attr, Agg'}
use Rattle.calculus.specs.declared.query.QQual.{QQual, True, Cmp, Like}
use Rattle.calculus.specs.declared.query.Target.{Target}
use Rattle.calculus.specs.declared.query.Query.{Query}
use Rattle.calculus.specs.Tree.{neg, abs, operation, concat, both, either, negated, query}
use Rattle.calculus.specs.Lists.{is_any}
use Rattle.calculus.specs.Database.{Db, View}
use Rattle.calculus.specs.Stored.{Range, Kept, Viewed, range_at}
use Rattle.calculus.specs.QueryParts.{vars_of, targets_of, qual_of, query_aggregates}
use Rattle.calculus.specs.Used.{used_in_query}

-- a term that has no value
abbrev pub no_value : QTerm
no_value = operation Div (Int (pos 1)) (Int (pos 0))

-- the term of the target at a place; where there is none, one without value
abbrev pub term_at : List Target → ℕ → QTerm
term_at [] place = no_value
term_at (t ∷ ts) zero = t.term
term_at (t ∷ ts) (suc place) = term_at ts place

-- what is put in for an attribute of a variable, where 0 is the only variable
abbrev pub substituted_attribute : List Target → ℕ → ℕ → QTerm
substituted_attribute targets zero attr = term_at targets attr
substituted_attribute targets (suc var) attr = no_value

-- the term with these targets put in for the attributes of its only variable
abbrev pub substituted : List Target → QTerm → QTerm
substituted targets (Int n) = Int n
substituted targets (Chars bytes) = Chars bytes
substituted targets (Attr var attr) = substituted_attribute targets var attr
substituted targets (neg t) = neg (substituted targets t)
substituted targets (abs t) = abs (substituted targets t)
substituted targets (operation op t u) = operation op (substituted targets t) (substituted targets u)
substituted targets (concat t u) = concat (substituted targets t) (substituted targets u)
substituted targets (Agg' mark row) = Agg' mark row

-- the same for a qualification: a target that is a text constant is compared as a value, and is no pattern
abbrev pub substituted_qual : List Target → QQual → QQual
substituted_qual targets True = True
substituted_qual targets (Cmp op t u) = Cmp op (substituted targets t) (substituted targets u)
substituted_qual targets (Like t pattern same) = Like (substituted targets t) pattern same
substituted_qual targets (both p q) = both (substituted_qual targets p) (substituted_qual targets q)
substituted_qual targets (either p q) = either (substituted_qual targets p) (substituted_qual targets q)
substituted_qual targets (negated p) = negated (substituted_qual targets p)

-- each target has a value: a term equals itself exactly where it has one
abbrev pub have_values : List Target → QQual
have_values [] = True
have_values (t ∷ ts) = both (Cmp Eq t.term t.term) (have_values ts)

-- the targets of the query with these put in
abbrev pub substituted_targets : List Target → List Target → List Target
substituted_targets targets ts = map (λ t. record { name = t.name; kind = t.kind; term = substituted targets t.term }) ts

-- the query over the variables of the view's text: with the view's targets put in, the view's qualification joined, and each target of the view required to have a value
abbrev pub expanded : Query → Query → Query
expanded view q =
    query (vars_of view) (substituted_targets (targets_of view) (targets_of q))
    (both (substituted_qual (targets_of view) (qual_of q)) (both (qual_of view) (have_values (targets_of view))))

-- the variable ranges over no view
abbrev pub is_no_view : Option Range → Bool
is_no_view None = true
is_no_view (Some (Kept relation)) = true
is_no_view (Some (Viewed view)) = false

-- a query without aggregates, whose only variable is used and ranges over a view; the view's text has no aggregates, and no variable in it ranges over a view
pub record IsOverView (db : Db) (view : View) (q : Query) : Type 0 where
  pub key : RelKey
  pub only : vars_of q ≡ key ∷ []
  pub ranges : range_at db key ≡ Some (Viewed view)
  pub is_used : is_any (used_in_query 0 q) ≡ true
  pub is_plain : query_aggregates q ≡ []
  pub view_is_plain : query_aggregates view.query ≡ []
  pub over_no_view : list_all (λ key. is_no_view (range_at db key)) (vars_of view.query) ≡ true
