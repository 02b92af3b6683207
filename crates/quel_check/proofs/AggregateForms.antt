-- Whether there is an aggregate, form by form.
use Rattle.std.proofs.Common.{◌≡◌, ℕ, ℤ, true, false, ◌||◌, refl, ap, ◌∙◌, List, [], ◌∷◌, ◌++◌}
use Rattle.std.specs.List.{list_any, flat_map}
use denote.Hole.Carrier.{hidden}
use Rattle.calculus.specs.Lists.{is_any}
use Rattle.calculus.specs.declared.operator.ArithOp.{ArithOp}
use Rattle.calculus.specs.declared.operator.CmpOp.{CmpOp}
use Rattle.calculus.specs.declared.statement.AggTerm.{AggTerm}
use Rattle.calculus.specs.declared.statement.Item.{Item}
use Rattle.calculus.specs.declared.statement.Qual.{Qual}
use Rattle.calculus.specs.declared.statement.Qual.TheBlock.{shape-the_row-Qual-0, hidden-the_row-Qual-0, shape-the_row-Term-1, hidden-the_row-Term-1, shape-the_row-AggTerm-3, hidden-the_row-AggTerm-3}
use Rattle.calculus.specs.declared.statement.Qual.TheVariants.{True, Cmp, And, Or, Not}
use Rattle.calculus.specs.declared.statement.Term.{Term}
use Rattle.calculus.specs.declared.statement.Term.TheVariants.{Int, Chars, Attr, Neg, Abs, Arith, Concat, Agg}
use Rattle.quel_meaning.specs.WrittenParts.{aggregates_in, aggregates_in_qual, aggregates_in_item}

pub any_joined : {X : Type 0} (xs ys : List X) → is_any (xs ++ ys) ≡ (is_any xs || is_any ys)
any_joined [] ys = refl
any_joined (x ∷ xs) ys = refl

pub any_int : (n : ℤ) → is_any (aggregates_in (Int n)) ≡ false
unfolding aggregates_in
any_int n = refl

pub any_chars : (bytes : List ℕ) → is_any (aggregates_in (Chars bytes)) ≡ false
unfolding aggregates_in
any_chars bytes = refl

pub any_attr : (var attr : List ℕ) → is_any (aggregates_in (Attr var attr)) ≡ false
unfolding aggregates_in
any_attr var attr = refl

pub any_neg : (t : Term) → is_any (aggregates_in (Neg t)) ≡ is_any (aggregates_in t)
unfolding shape-the_row-Term-1 hidden-the_row-Term-1 hidden aggregates_in
any_neg t = refl

pub any_abs : (t : Term) → is_any (aggregates_in (Abs t)) ≡ is_any (aggregates_in t)
unfolding shape-the_row-Term-1 hidden-the_row-Term-1 hidden aggregates_in
any_abs t = refl

pub any_arith : (op : ArithOp) (t u : Term) → is_any (aggregates_in (Arith op t u)) ≡ (is_any (aggregates_in t) || is_any (aggregates_in u))
unfolding shape-the_row-Term-1 hidden-the_row-Term-1 hidden aggregates_in
any_arith op t u = any_joined (aggregates_in t) (aggregates_in u)

pub any_concat : (t u : Term) → is_any (aggregates_in (Concat t u)) ≡ (is_any (aggregates_in t) || is_any (aggregates_in u))
unfolding shape-the_row-Term-1 hidden-the_row-Term-1 hidden aggregates_in
any_concat t u = any_joined (aggregates_in t) (aggregates_in u)

pub any_agg : (g : AggTerm) → is_any (aggregates_in (Agg g)) ≡ true
unfolding shape-the_row-AggTerm-3 hidden-the_row-AggTerm-3 hidden aggregates_in
any_agg g = refl

pub any_true : is_any (aggregates_in_qual True) ≡ false
unfolding aggregates_in_qual
any_true = refl

pub any_cmp : (op : CmpOp) (t u : Term) → is_any (aggregates_in_qual (Cmp op t u)) ≡ (is_any (aggregates_in t) || is_any (aggregates_in u))
unfolding aggregates_in_qual
any_cmp op t u = any_joined (aggregates_in t) (aggregates_in u)

pub any_and : (p q : Qual) → is_any (aggregates_in_qual (And p q)) ≡ (is_any (aggregates_in_qual p) || is_any (aggregates_in_qual q))
unfolding shape-the_row-Qual-0 hidden-the_row-Qual-0 hidden aggregates_in_qual
any_and p q = any_joined (aggregates_in_qual p) (aggregates_in_qual q)

pub any_or : (p q : Qual) → is_any (aggregates_in_qual (Or p q)) ≡ (is_any (aggregates_in_qual p) || is_any (aggregates_in_qual q))
unfolding shape-the_row-Qual-0 hidden-the_row-Qual-0 hidden aggregates_in_qual
any_or p q = any_joined (aggregates_in_qual p) (aggregates_in_qual q)

pub any_not : (p : Qual) → is_any (aggregates_in_qual (Not p)) ≡ is_any (aggregates_in_qual p)
unfolding shape-the_row-Qual-0 hidden-the_row-Qual-0 hidden aggregates_in_qual
any_not p = refl

pub any_of_items : (items : List Item) → is_any (flat_map aggregates_in_item items) ≡ list_any (λ i. is_any (aggregates_in_item i)) items
any_of_items [] = refl
any_of_items (i ∷ items) = any_joined (aggregates_in_item i) (flat_map aggregates_in_item items) ∙ ap (λ b. is_any (aggregates_in_item i) || b) (any_of_items items)
