-- The kind of a term in a query and whether the kinds of a qualification fit there, form by form.
use Rattle.std.proofs.Common.{◌≡◌, ℕ, ℤ, Bool, true, ◌&&◌, refl, List}
use denote.Hole.Carrier.{hidden}
use Rattle.calculus.specs.declared.query.AggSource.TheBlock.{shape-the_row-QTerm-2, hidden-the_row-QTerm-2, shape-the_row-QQual-1, hidden-the_row-QQual-1, shape-the_row-QAgg-4, hidden-the_row-QAgg-4, items_hidden-the_row-QTerm-3}
use Rattle.calculus.specs.declared.operator.ArithOp.{ArithOp}
use Rattle.calculus.specs.declared.operator.CmpOp.{CmpOp}
use Rattle.calculus.specs.declared.query.QTerm.{QTerm}
use Rattle.calculus.specs.declared.query.QTerm.TheVariants.{Int, Chars, Attr, Neg, Abs, Arith, Concat, Agg}
use Rattle.calculus.specs.declared.query.QQual.{QQual}
use Rattle.calculus.specs.declared.query.QQual.TheVariants.{True, Cmp, Like, And, Or, Not}
use Rattle.calculus.specs.declared.query.QAgg.{QAgg}
use Rattle.calculus.specs.declared.value.Kind.{Kind}
use Rattle.calculus.specs.Database.{Db}
use Rattle.calculus.specs.Kinds.{kind_of, number_kind, operated_kind, joined_kind, comparable, is_text_kind}
use Rattle.quel_meaning.specs.KindsInQueries.{aggregate_kind, kind_in_query, kinds_fit_in_query}

abbrev Vars : Type 0
Vars = List (List Kind)

pub kind_int : (db : Db) (n : ℤ) (vars : Vars) → kind_in_query db (Int n) vars ≡ kind_of (Int n) vars
unfolding kind_in_query kind_of
kind_int db n vars = refl

pub kind_chars : (db : Db) (bytes : List ℕ) (vars : Vars) → kind_in_query db (Chars bytes) vars ≡ kind_of (Chars bytes) vars
unfolding kind_in_query kind_of
kind_chars db bytes vars = refl

pub kind_attr : (db : Db) (var attr : ℕ) (vars : Vars) → kind_in_query db (Attr var attr) vars ≡ kind_of (Attr var attr) vars
unfolding kind_in_query kind_of
kind_attr db var attr vars = refl

pub kind_neg : (db : Db) (t : QTerm) (vars : Vars) → kind_in_query db (Neg t) vars ≡ number_kind (kind_in_query db t vars)
unfolding shape-the_row-QTerm-2 hidden-the_row-QTerm-2 hidden kind_in_query
kind_neg db t vars = refl

pub kind_abs : (db : Db) (t : QTerm) (vars : Vars) → kind_in_query db (Abs t) vars ≡ number_kind (kind_in_query db t vars)
unfolding shape-the_row-QTerm-2 hidden-the_row-QTerm-2 hidden kind_in_query
kind_abs db t vars = refl

pub kind_arith : (db : Db) (op : ArithOp) (t u : QTerm) (vars : Vars) → kind_in_query db (Arith op t u) vars ≡ operated_kind (kind_in_query db t vars) (kind_in_query db u vars)
unfolding shape-the_row-QTerm-2 hidden-the_row-QTerm-2 hidden kind_in_query
kind_arith db op t u vars = refl

pub kind_concat : (db : Db) (t u : QTerm) (vars : Vars) → kind_in_query db (Concat t u) vars ≡ joined_kind (kind_in_query db t vars) (kind_in_query db u vars)
unfolding shape-the_row-QTerm-2 hidden-the_row-QTerm-2 hidden kind_in_query
kind_concat db t u vars = refl

pub kind_agg : (db : Db) (g : QAgg) (vars : Vars) → kind_in_query db (Agg g) vars ≡ aggregate_kind db g vars
unfolding shape-the_row-QAgg-4 hidden-the_row-QAgg-4 hidden kind_in_query
kind_agg db g vars =
    λ i. aggregate_kind db (record { slot = g.slot; op = g.op; source = g.source; arg = g.arg; by = items_hidden-the_row-QTerm-3 g.by i; link = items_hidden-the_row-QTerm-3 g.link i; qual = g.qual }) vars

pub fit_true : (db : Db) (vars : Vars) → kinds_fit_in_query db True vars ≡ true
unfolding kinds_fit_in_query
fit_true db vars = refl

pub fit_cmp : (db : Db) (op : CmpOp) (t u : QTerm) (vars : Vars) → kinds_fit_in_query db (Cmp op t u) vars ≡ comparable (kind_in_query db t vars) (kind_in_query db u vars)
unfolding kinds_fit_in_query
fit_cmp db op t u vars = refl

pub fit_like : (db : Db) (t : QTerm) (pattern : List ℕ) (same : Bool) (vars : Vars) → kinds_fit_in_query db (Like t pattern same) vars ≡ is_text_kind (kind_in_query db t vars)
unfolding kinds_fit_in_query
fit_like db t pattern same vars = refl

pub fit_and : (db : Db) (p q : QQual) (vars : Vars) → kinds_fit_in_query db (And p q) vars ≡ (kinds_fit_in_query db p vars && kinds_fit_in_query db q vars)
unfolding shape-the_row-QQual-1 hidden-the_row-QQual-1 hidden kinds_fit_in_query
fit_and db p q vars = refl

pub fit_or : (db : Db) (p q : QQual) (vars : Vars) → kinds_fit_in_query db (Or p q) vars ≡ (kinds_fit_in_query db p vars && kinds_fit_in_query db q vars)
unfolding shape-the_row-QQual-1 hidden-the_row-QQual-1 hidden kinds_fit_in_query
fit_or db p q vars = refl

pub fit_not : (db : Db) (p : QQual) (vars : Vars) → kinds_fit_in_query db (Not p) vars ≡ kinds_fit_in_query db p vars
unfolding shape-the_row-QQual-1 hidden-the_row-QQual-1 hidden kinds_fit_in_query
fit_not db p vars = refl
