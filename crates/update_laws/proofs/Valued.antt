-- The values of terms are numbers and texts in the language's sense.
use Rattle.std.proofs.Common.{◌≡◌, refl, subst, ℕ, ℤ, zero, suc, Bool, true, false, IsTrue, List, [], ◌∷◌, ◌++◌, Option, Some, None, length, nat_le}
use Rattle.std.specs.Prelude.{if◌then◌else◌, slice_get, map}
use Rattle.calculus.specs.declared.value.Value.{Value}
use Rattle.calculus.specs.declared.value.Value.TheVariants as value
use Rattle.calculus.specs.declared.operator.ArithOp.{ArithOp}
use Rattle.calculus.specs.declared.query.QTerm.{QTerm, Int, Chars, Attr, Agg', Row_of-QAgg, end_of-QAgg, more_of-QAgg}
use Rattle.calculus.specs.declared.query.QAgg.{QAgg}
use Rattle.calculus.specs.declared.query.Target.{Target}
use Rattle.calculus.specs.Tree.{neg, abs, operation, concat}
use Rattle.calculus.specs.Number.{opposite, without_sign, operated}
use Rattle.calculus.specs.Text.{is_text}
use Rattle.calculus.specs.Rows.{Row}
use Rattle.calculus.specs.QueryParts.{aggregates_of, term_aggregates}
use Rattle.calculus.specs.Term.{Env, Aggs, val, attribute_value, number_value, of_number, of_text, opposite_value, value_without_sign, operated_values, joined_text, joined_values, aggregate_value, value_before}
use Rattle.calculus.specs.Spelled.{term_is_spelled}
use Rattle.calculus.specs.Targets.{all_there, target_values}
use Rattle.quel_meaning.proofs.Each.{Each, front_of, back_of, each_to}
use Rattle.update_laws.specs.Proper.{is_proper, row_is_proper, rows_are_proper}
use Rattle.update_laws.proofs.Standing.{TargetStands}
use Rattle.update_laws.proofs.Texts.{both, each, constant_is_text, joined_is_text}

-- the value, where there is one, is a number or a text in the language's sense
abbrev pub gives_proper : Option Value → Bool
gives_proper None = true
gives_proper (Some v) = is_proper v

-- each aggregate of the list gives such a value in the assignment
abbrev pub AggsProper : Aggs → Env → List QAgg → Type 0
AggsProper aggs e gs = Each (λ g. IsTrue (gives_proper (aggs g e))) gs

-- ---- the forms of a term

in_row : (row : Row) (i : ℕ) → IsTrue (row_is_proper row) → IsTrue (gives_proper (slice_get row i))
in_row [] i h = refl
in_row (v ∷ vs) zero h = (both (is_proper v) (row_is_proper vs) h).0
in_row (v ∷ vs) (suc i) h = in_row vs i (both (is_proper v) (row_is_proper vs) h).1

attribute_proper : (e : Env) (var attr : ℕ) → IsTrue (rows_are_proper e) → IsTrue (gives_proper (attribute_value e var attr))
unfolding attribute_value
attribute_proper [] var attr h = refl
attribute_proper (row ∷ e) zero attr h = in_row row attr (both (row_is_proper row) (rows_are_proper e) h).0
attribute_proper (row ∷ e) (suc var) attr h = attribute_proper e var attr (both (row_is_proper row) (rows_are_proper e) h).1

pub number_proper : (o : Option ℤ) → IsTrue (gives_proper (number_value o))
number_proper None = refl
number_proper (Some n) = refl

of_number_proper : (f : ℤ → Option Value) (v : Option Value) → ((n : ℤ) → IsTrue (gives_proper (f n))) → IsTrue (gives_proper (of_number f v))
of_number_proper f None h = refl
of_number_proper f (Some (value.Int n)) h = h n
of_number_proper f (Some (value.Text t)) h = refl

of_text_proper : (f : List ℕ → Option Value) (v : Option Value) → IsTrue (gives_proper v) → ((t : List ℕ) → IsTrue (is_text t) → IsTrue (gives_proper (f t))) → IsTrue (gives_proper (of_text f v))
of_text_proper f None p h = refl
of_text_proper f (Some (value.Int n)) p h = refl
of_text_proper f (Some (value.Text t)) p h = h t p

opposite_proper : (v : Option Value) → IsTrue (gives_proper (opposite_value v))
unfolding opposite_value
opposite_proper v = of_number_proper (λ x. number_value (opposite x)) v (λ n. number_proper (opposite n))

without_sign_proper : (v : Option Value) → IsTrue (gives_proper (value_without_sign v))
unfolding value_without_sign
without_sign_proper v = of_number_proper (λ x. number_value (without_sign x)) v (λ n. number_proper (without_sign n))

operated_proper : (op : ArithOp) (v w : Option Value) → IsTrue (gives_proper (operated_values op v w))
unfolding operated_values
operated_proper op v w =
    of_number_proper (λ x. of_number (λ y. number_value (operated op x y)) w) v
    (λ m. of_number_proper (λ y. number_value (operated op m y)) w (λ n. number_proper (operated op m n)))

text_if_short : (s t : List ℕ) → IsTrue (is_text s) → IsTrue (is_text t) → IsTrue (gives_proper (joined_text s t))
text_if_short s t h k = go (nat_le (length (s ++ t)) 255) refl
  where
    go : (b : Bool) → nat_le (length (s ++ t)) 255 ≡ b → IsTrue (gives_proper (if b then Some (value.Text (s ++ t)) else None))
    go true e = joined_is_text s t h k e
    go false e = refl

joined_proper : (v w : Option Value) → IsTrue (gives_proper v) → IsTrue (gives_proper w) → IsTrue (gives_proper (joined_values v w))
unfolding joined_values
joined_proper v w p q = of_text_proper (λ s. of_text (λ t. joined_text s t) w) v p (λ s h. of_text_proper (λ t. joined_text s t) w q (λ t k. text_if_short s t h k))

aggregate_proper : (aggs : Aggs) {n : _} (row : Row_of-QAgg n) (e : Env) → AggsProper aggs e (aggregates_of row) → IsTrue (gives_proper (aggregate_value aggs row e))
aggregate_proper aggs end_of-QAgg e h = refl
aggregate_proper aggs (more_of-QAgg slot op source arg bys by links link qual rest) e h = h.0

-- ---- terms

-- the value of a term whose constants are texts', over rows of such values, where its aggregates give such
pub val_proper : (aggs : Aggs) (t : QTerm) (e : Env) → IsTrue (term_is_spelled t) → IsTrue (rows_are_proper e) → AggsProper aggs e (term_aggregates t) → IsTrue (gives_proper (val aggs t e))
unfolding val term_aggregates
val_proper aggs (Int n) e c r a = refl
val_proper aggs (Chars bytes) e c r a = constant_is_text bytes c
val_proper aggs (Attr var attr) e c r a = attribute_proper e var attr r
val_proper aggs (neg t) e c r a = opposite_proper (val aggs t e)
val_proper aggs (abs t) e c r a = without_sign_proper (val aggs t e)
val_proper aggs (operation op t u) e c r a = operated_proper op (val aggs t e) (val aggs u e)
val_proper aggs (concat t u) e c r a =
    let parts = both (term_is_spelled t) (term_is_spelled u) c in
    joined_proper (val aggs t e) (val aggs u e)
    (val_proper aggs t e parts.0 r (front_of (λ g. IsTrue (gives_proper (aggs g e))) (term_aggregates t) (term_aggregates u) a))
    (val_proper aggs u e parts.1 r (back_of (λ g. IsTrue (gives_proper (aggs g e))) (term_aggregates t) (term_aggregates u) a))
val_proper aggs (Agg' mark row) e c r a = aggregate_proper aggs row e a

-- ---- targets

-- the row, where there is one, has such values
abbrev pub gives_row : Option Row → Bool
gives_row None = true
gives_row (Some row) = row_is_proper row

pub before_proper : (v : Option Value) (vs : Option Row) → IsTrue (gives_proper v) → IsTrue (gives_row vs) → IsTrue (gives_row (value_before v vs))
before_proper None vs p q = refl
before_proper (Some v) None p q = refl
before_proper (Some v) (Some vs) p q = each (is_proper v) (row_is_proper vs) p q

pub targets_proper : (aggs : Aggs) (ts : List Target) (e : Env) → Each TargetStands ts → IsTrue (rows_are_proper e) → Each (λ t. AggsProper aggs e (term_aggregates t.term)) ts
    → IsTrue (gives_row (target_values aggs ts e))
targets_proper aggs [] e c r a = refl
targets_proper aggs (t ∷ ts) e c r a =
    before_proper (val aggs t.term e) (all_there (map (λ t. val aggs t.term e) ts)) (val_proper aggs t.term e c.0 r a.0) (targets_proper aggs ts e c.1 r a.1)

-- ---- the law of terms

where_given : (o : Option Value) → ((w : Value) → o ≡ Some w → IsTrue (is_proper w)) → IsTrue (gives_proper o)
where_given None h = refl
where_given (Some v) h = h v refl

pub value_is_proper : (aggs : Aggs) (t : QTerm) (e : Env) (v : Value) → IsTrue (term_is_spelled t) → IsTrue (rows_are_proper e)
    → Each (λ g. (w : Value) → aggs g e ≡ Some w → IsTrue (is_proper w)) (term_aggregates t) → val aggs t e ≡ Some v → IsTrue (is_proper v)
value_is_proper aggs t e v c r a h =
    subst (λ o. IsTrue (gives_proper o)) h
    (val_proper aggs t e c r
    (each_to (λ g. (w : Value) → aggs g e ≡ Some w → IsTrue (is_proper w)) (λ g. IsTrue (gives_proper (aggs g e))) (λ g f. where_given (aggs g e) f) (term_aggregates t) a))
