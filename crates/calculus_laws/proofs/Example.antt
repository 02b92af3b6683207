-- A query over a view, computed: the view put into it, and what it asks for in the words of tuple calculus: names and doubled pays of the toy department.
use Rattle.std.proofs.Common.{◌≡◌, refl, subst, ℕ, zero, suc, pos, true, false, List, [], ◌∷◌, Some, arith}
use Rattle.std.specs.Prelude.{codes, slice_get}
use Rattle.calculus.specs.declared.value.Value.{Value}
use Rattle.calculus.specs.declared.value.Value.TheVariants as value
use Rattle.calculus.specs.declared.value.Domain.TheVariants.{I4, C}
use Rattle.calculus.specs.declared.value.Kind.{Kind}
use Rattle.calculus.specs.declared.value.Kind.TheVariants.{Of, Wide}
use Rattle.calculus.specs.declared.operator.ArithOp.TheVariants.{Mul}
use Rattle.calculus.specs.declared.operator.CmpOp.TheVariants.{Eq, Gt}
use Rattle.calculus.specs.declared.query.RelKey.{RelKey}
use Rattle.calculus.specs.declared.query.QTerm.{QTerm, Int, Chars, Attr}
use Rattle.calculus.specs.declared.query.QQual.{QQual, True, Cmp}
use Rattle.calculus.specs.declared.query.Target.{Target}
use Rattle.calculus.specs.declared.query.Query.{Query}
use Rattle.calculus.specs.declared.schema.Spec.TheVariants as spec
use Rattle.calculus.specs.declared.schema.Attr.{Attr as Attribute}
use Rattle.calculus.specs.Tree.{operation, both, query}
use Rattle.calculus.specs.Keys.{key_of}
use Rattle.calculus.specs.Who.{Unrestricted}
use Rattle.calculus.specs.Database.{Db, Relation, View}
use Rattle.calculus.specs.Stored.{range_at}
use Rattle.calculus.specs.QueryParts.{term_aggregates, qual_aggregates}
use Rattle.calculus.specs.Constant.{constant_text, unescaped}
use Rattle.calculus.specs.Rights.{may}
use Rattle.calculus.specs.Rows.{Row}
use Rattle.calculus.specs.Used.{used_in_query}
use Rattle.calculus.proofs.Made.{has-Contains}
use Rattle.calculus.specs.Term.{val, holds, attribute_value, operated_values, compared_values}
use Rattle.calculus.specs.Assignments.{assigned}
use Rattle.calculus.specs.Targets.{rows_given}
use Rattle.calculus.specs.VariableRows.{rows_of}
use Rattle.calculus.specs.Answer.{answer}
use Rattle.calculus_laws.specs.Expansion.{expanded, IsOverView}
use Rattle.calculus_laws.specs.TupleCalculus.{IsRowOf, IsAssignment, IsAskedFor}
use Rattle.calculus_laws.proofs.Asked.{answered}

abbrev attribute : List ℕ → Kind → Attribute
attribute name kind = record { name = name; kind = kind }

abbrev target : List ℕ → Kind → QTerm → Target
target name kind term = record { name = name; kind = kind; term = term }

abbrev emp : RelKey
emp = key_of (codes "ann") (codes "emp")

abbrev toys : RelKey
toys = key_of (codes "ann") (codes "toys")

abbrev text : List ℕ → Value
text bytes = value.Text bytes

-- name, dept and pay
abbrev employees : Relation
employees = record {
  info = record { key = emp; spec = spec.Heap; attrs = attribute (codes "name") (Of (C 6)) ∷ attribute (codes "dept") (Of (C 6)) ∷ attribute (codes "pay") (Of I4) ∷ []; keys = [] };
  rows = (text (codes "ann") ∷ text (codes "toy") ∷ value.Int (pos 10) ∷ []) ∷ (text (codes "bob") ∷ text (codes "toy") ∷ value.Int (pos 20) ∷ [])
      ∷ (text (codes "eve") ∷ text (codes "shoe") ∷ value.Int (pos 20) ∷ []) ∷ [];
}

abbrev twice : QTerm
twice = operation Mul (Attr 0 2) (Int (pos 2))

abbrev in_toys : QQual
in_toys = Cmp Eq (Attr 0 1) (Chars (codes "toy"))

-- define view toys (who = e.name, pay = e.pay * 2, kind = "a*") where e.dept = "toy"
abbrev view : View
view = record {
  info = record { key = toys; spec = spec.View; attrs = attribute (codes "who") (Of (C 6)) ∷ attribute (codes "pay") Wide ∷ attribute (codes "kind") (Of (C 2)) ∷ []; keys = [] };
  query = query (emp ∷ []) (target (codes "who") (Of (C 6)) (Attr 0 0) ∷ target (codes "pay") Wide twice ∷ target (codes "kind") (Of (C 2)) (Chars (codes "a*")) ∷ []) in_toys;
}

abbrev db : Db
db = record { dba = codes "ann"; relations = employees ∷ []; indexes = []; views = view ∷ []; rules = []; permits = [] }

-- retrieve (t.who) where t.pay > 20 and t.kind = t.kind
abbrev over_view : Query
over_view = query (toys ∷ []) (target (codes "who") (Of (C 6)) (Attr 0 0) ∷ []) (both (Cmp Gt (Attr 0 1) (Int (pos 20))) (Cmp Eq (Attr 0 2) (Attr 0 2)))

-- retrieve (who = e.name) where e.pay * 2 > 20 and "a*" = "a*" and e.dept = "toy" and what the view's targets need
abbrev over_text : Query
over_text = query (emp ∷ []) (target (codes "who") (Of (C 6)) (Attr 0 0) ∷ [])
    (both (both (Cmp Gt twice (Int (pos 20))) (Cmp Eq (Chars (codes "a*")) (Chars (codes "a*"))))
    (both in_toys (both (Cmp Eq (Attr 0 0) (Attr 0 0)) (both (Cmp Eq twice twice) (both (Cmp Eq (Chars (codes "a*")) (Chars (codes "a*"))) True)))))

put_into : expanded view.query over_view ≡ over_text
put_into = refl

is_over_view : IsOverView db view over_view
unfolding range_at term_aggregates qual_aggregates
is_over_view = record { key = toys; only = refl; ranges = refl; is_used = refl; is_plain = refl; view_is_plain = refl; over_no_view = refl }

one_row : answer db Unrestricted over_view ≡ (text (codes "bob") ∷ []) ∷ []
unfolding answer rows_given assigned rows_of range_at may constant_text unescaped val holds attribute_value operated_values compared_values
one_row = refl

-- bob's row of the view, whose doubled pay is 40
abbrev of_bob : Row
of_bob = text (codes "bob") ∷ value.Int (pos 40) ∷ text (codes "a*") ∷ []

-- it is one of the two rows of the view
is_row : IsRowOf (rows_of db Unrestricted) toys (used_in_query 0 over_view) of_bob
unfolding rows_given assigned rows_of range_at may constant_text unescaped val holds attribute_value operated_values compared_values
is_row = (1, omega arith, refl)

-- so it makes an assignment
is_assignment : IsAssignment (rows_of db Unrestricted) over_view (of_bob ∷ [])
is_assignment = record { one_for_each = refl; is_row_of = each }
  where
    key_is : (a b : RelKey) → Some a ≡ Some b → a ≡ b
    key_is a b h = cc h

    row_is : (a b : Row) → Some a ≡ Some b → a ≡ b
    row_is a b h = cc h

    nowhere : (v : ℕ) (key : RelKey) → slice_get {X = RelKey} [] v ≡ Some key → ⊥
    nowhere zero key h = cc h
    nowhere (suc v) key h = cc h

    each : (v : ℕ) (key : RelKey) (row : Row) → slice_get (toys ∷ []) v ≡ Some key → slice_get (of_bob ∷ []) v ≡ Some row
        → IsRowOf (rows_of db Unrestricted) key (used_in_query v over_view) row
    each zero key row k r =
        subst (λ key. IsRowOf (rows_of db Unrestricted) key (used_in_query 0 over_view) row) (key_is toys key k)
        (subst (IsRowOf (rows_of db Unrestricted) toys (used_in_query 0 over_view)) (row_is of_bob row r) is_row)
    each (suc v) key row k r = absurd (nowhere v key k)

-- in which the qualification holds and the target is his name
asked_for : IsAskedFor db Unrestricted over_view (text (codes "bob") ∷ [])
unfolding constant_text unescaped val holds attribute_value operated_values compared_values
asked_for = (of_bob ∷ [], is_assignment, refl, refl)

-- ann's doubled pay is 20, and she isn't asked for
not_asked_for : ¬ (IsAskedFor db Unrestricted over_view (text (codes "ann") ∷ []))
unfolding answer rows_given assigned rows_of range_at may constant_text unescaped val holds attribute_value operated_values compared_values
not_asked_for h = let no : false ≡ true = has-Contains (answer db Unrestricted over_view) (text (codes "ann") ∷ []) ((answered db Unrestricted over_view (text (codes "ann") ∷ [])).1 h) in cc no

-- the view has the rows that its query answers
view_rows : rows_of db Unrestricted toys (0 ∷ []) ≡ answer db Unrestricted view.query
unfolding answer rows_given assigned rows_of range_at may constant_text unescaped val holds attribute_value operated_values compared_values
view_rows = refl
