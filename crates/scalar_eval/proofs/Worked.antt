-- Worked examples of values, matching and kinds, computed.
use Rattle.std.proofs.Common.{◌≡◌, refl, ℤ, pos, negsuc, true, false, List, [], ◌∷◌, Option, Some, None}
use Rattle.std.specs.Prelude.{codes}
use Rattle.calculus.specs.declared.value.Value.{Value}
use Rattle.calculus.specs.declared.value.Value.TheVariants as value
use Rattle.calculus.specs.declared.value.Domain.TheVariants.{I1, C}
use Rattle.calculus.specs.declared.value.Kind.{Kind}
use Rattle.calculus.specs.declared.value.Kind.TheVariants.{Of, Wide}
use Rattle.calculus.specs.declared.operator.ArithOp.TheVariants as op
use Rattle.calculus.specs.declared.operator.CmpOp.TheVariants as compare
use Rattle.calculus.specs.declared.operator.AggOp.TheVariants as fold
use Rattle.calculus.specs.declared.query.AggSource.{Named}
use Rattle.calculus.specs.declared.query.QAgg.{QAgg}
use Rattle.calculus.specs.declared.query.QTerm.{QTerm, Int, Chars, Attr}
use Rattle.calculus.specs.declared.query.QQual.{True, Cmp, Like}
use Rattle.calculus.specs.declared.agg_table.AggTable.{AggTable}
use Rattle.calculus.specs.Tree.{neg, abs, operation, concat, negated, aggregate}
use Rattle.calculus.specs.Constant.{unescaped, constant_text}
use Rattle.calculus.specs.Pattern.{items, fits_items, matches}
use Rattle.calculus.specs.Term.{Env, val, holds, no_aggs, attribute_value, opposite_value, value_without_sign, operated_values, joined_values, compared_values, values_of}
use Rattle.calculus.specs.Kinds.{kind_of, kinds_fit, attribute_kind, constant_kind, number_kind, operated_kind, joined_kind, comparable, is_text_kind}
use Rattle.calculus.specs.Table.{tabled, said}

v : QTerm → Option Value
v t = val no_aggs t []

-- -7 / 2 is -3
quotient : v (operation op.Div (neg (Int (pos 7))) (Int (pos 2))) ≡ Some (value.Int (negsuc 2))
unfolding v val opposite_value operated_values
quotient = refl

-- mod(-7, 2) is -1
remainder : v (operation op.Mod (neg (Int (pos 7))) (Int (pos 2))) ≡ Some (value.Int (negsuc 0))
unfolding v val opposite_value operated_values
remainder = refl

-- -2 ** 2 is 4, since the minus binds closer
square : v (operation op.Pow (neg (Int (pos 2))) (Int (pos 2))) ≡ Some (value.Int (pos 4))
unfolding v val opposite_value operated_values
square = refl

-- 2 ** 3 ** 2 is 512
tower : v (operation op.Pow (Int (pos 2)) (operation op.Pow (Int (pos 3)) (Int (pos 2)))) ≡ Some (value.Int (pos 512))
unfolding v val operated_values
tower = refl

-- abs(-5) is 5
without_sign : v (abs (neg (Int (pos 5)))) ≡ Some (value.Int (pos 5))
unfolding v val opposite_value value_without_sign
without_sign = refl

-- one more than the greatest number has no value
too_great : v (operation op.Add (Int (pos 9223372036854775807)) (Int (pos 1))) ≡ None
unfolding v val operated_values
too_great = refl

-- nor has 2 ** -1
negative_power : v (operation op.Pow (Int (pos 2)) (neg (Int (pos 1)))) ≡ None
unfolding v val opposite_value operated_values
negative_power = refl

-- 0 ** 0 is 1, -2 ** 63 is the least number and 2 ** 63 has no value
zero_power : v (operation op.Pow (Int (pos 0)) (Int (pos 0))) ≡ Some (value.Int (pos 1))
unfolding v val operated_values
zero_power = refl

least_power : v (operation op.Pow (neg (Int (pos 2))) (Int (pos 63))) ≡ Some (value.Int (negsuc 9223372036854775807))
unfolding v val opposite_value operated_values
least_power = refl

great_power : v (operation op.Pow (Int (pos 2)) (Int (pos 63))) ≡ None
unfolding v val operated_values
great_power = refl

-- the least number by -1 leaves nothing, and the quotient is out of range
least_remainder : v (operation op.Mod (Int (negsuc 9223372036854775807)) (neg (Int (pos 1)))) ≡ Some (value.Int (pos 0))
unfolding v val opposite_value operated_values
least_remainder = refl

least_quotient : v (operation op.Div (Int (negsuc 9223372036854775807)) (neg (Int (pos 1)))) ≡ None
unfolding v val opposite_value operated_values
least_quotient = refl

least_opposite : v (neg (Int (negsuc 9223372036854775807))) ≡ None
unfolding v val opposite_value
least_opposite = refl

by_zero : v (operation op.Mod (Int (pos 1)) (Int (pos 0))) ≡ None
unfolding v val operated_values
by_zero = refl

-- a text constant drops its blanks at the end and its escapes
constant : v (Chars (codes "a  ")) ≡ Some (value.Text (codes "a"))
unfolding v val constant_text unescaped
constant = refl

escaped_constant : v (Chars (92 ∷ 42 ∷ 92 ∷ 32 ∷ [])) ≡ Some (value.Text (codes "*"))
unfolding v val constant_text unescaped
escaped_constant = refl

last_backslash : v (Chars (97 ∷ 92 ∷ [])) ≡ Some (value.Text (97 ∷ 92 ∷ []))
unfolding v val constant_text unescaped
last_backslash = refl

joined : v (concat (Chars (codes "a ")) (Chars (codes "b"))) ≡ Some (value.Text (codes "ab"))
unfolding v val constant_text unescaped joined_values
joined = refl

-- a comparison without value is false, and its negation is true
no_value : holds no_aggs (negated (Cmp compare.Eq (operation op.Div (Int (pos 1)) (Int (pos 0))) (Int (pos 1)))) [] ≡ true
unfolding holds val operated_values compared_values
no_value = refl

-- ---- matching

smith : matches (codes "s*h?") (codes "smithy") ≡ true
unfolding matches items unescaped fits_items
smith = refl

in_range : matches (codes "[a-c]x") (codes "bx") ≡ true
unfolding matches items unescaped fits_items
in_range = refl

out_of_range : matches (codes "[a-c]x") (codes "dx") ≡ false
unfolding matches items unescaped fits_items
out_of_range = refl

plain_star : matches (92 ∷ 42 ∷ []) (codes "*") ≡ true
unfolding matches items unescaped fits_items
plain_star = refl

plain_star_only : matches (92 ∷ 42 ∷ []) (codes "a") ≡ false
unfolding matches items unescaped fits_items
plain_star_only = refl

open_bracket : matches (codes "[abc") (codes "[abc") ≡ true
unfolding matches items unescaped fits_items
open_bracket = refl

empty_class : matches (codes "[]") (codes "a") ≡ false
unfolding matches items unescaped fits_items
empty_class = refl

empty_pattern : matches [] [] ≡ true
unfolding matches items unescaped fits_items
empty_pattern = refl

empty_pattern_only : matches [] (codes "a") ≡ false
unfolding matches items unescaped fits_items
empty_pattern_only = refl

-- `[\]-]` holds `]` and `-`; `[a\-c]` is no range; `[--0]` is one from `-` to `0`; `[a-b-c]` holds `-`
escaped_close : matches (91 ∷ 92 ∷ 93 ∷ 45 ∷ 93 ∷ []) (93 ∷ []) ≡ true
unfolding matches items unescaped fits_items
escaped_close = refl

plain_dash : matches (91 ∷ 97 ∷ 92 ∷ 45 ∷ 99 ∷ 93 ∷ []) (codes "b") ≡ false
unfolding matches items unescaped fits_items
plain_dash = refl

from_dash : matches (codes "[--0]") (codes "/") ≡ true
unfolding matches items unescaped fits_items
from_dash = refl

second_dash : matches (codes "[a-b-c]") (codes "-") ≡ true
unfolding matches items unescaped fits_items
second_dash = refl

reversed : matches (codes "[c-a]") (codes "b") ≡ false
unfolding matches items unescaped fits_items
reversed = refl

-- blanks at the end are dropped, escaped ones stay
padded : matches (codes "a  ") (codes "a") ≡ true
unfolding matches items unescaped fits_items
padded = refl

plain_blank : matches (97 ∷ 92 ∷ 32 ∷ 32 ∷ []) (codes "a") ≡ false
unfolding matches items unescaped fits_items
plain_blank = refl

-- ---- kinds

vars : List (List Kind)
vars = (Of I1 ∷ Of (C 6) ∷ Wide ∷ []) ∷ []

number_kinds : kind_of (operation op.Add (Attr 0 0) (Attr 0 2)) vars ≡ Some Wide
unfolding vars kind_of attribute_kind operated_kind number_kind
number_kinds = refl

joined_kinds : kind_of (concat (Attr 0 1) (Chars (codes "ab "))) vars ≡ Some (Of (C 8))
unfolding vars kind_of attribute_kind joined_kind constant_kind constant_text unescaped
joined_kinds = refl

empty_constant : kind_of (Chars (codes " ")) vars ≡ Some (Of (C 1))
unfolding kind_of constant_kind constant_text unescaped
empty_constant = refl

sum_of_text : kind_of (operation op.Add (Attr 0 0) (Attr 0 1)) vars ≡ None
unfolding vars kind_of attribute_kind operated_kind number_kind
sum_of_text = refl

no_place : kind_of (Attr 1 0) vars ≡ None
unfolding vars kind_of attribute_kind
no_place = refl

types_differ : kinds_fit (Cmp compare.Eq (Attr 0 0) (Attr 0 1)) vars ≡ false
unfolding vars kinds_fit kind_of attribute_kind comparable
types_differ = refl

pattern_of_number : kinds_fit (negated (Like (Attr 0 0) (codes "a*") true)) vars ≡ false
unfolding vars kinds_fit kind_of attribute_kind is_text_kind
pattern_of_number = refl

-- ---- tables

counts : AggTable
counts = record { groups = (value.Int (pos 1) ∷ [], Some (value.Int (pos 5))) ∷ (value.Int (pos 2) ∷ [], None) ∷ []; empty = value.Int (pos 0) }

count : QAgg
count = record { slot = 0; op = fold.Count; source = Named (record { owner = codes "ann"; name = codes "p" }); arg = Attr 0 0; by = Attr 0 0 ∷ []; link = Attr 0 0 ∷ []; qual = True }

at : ℤ → Env
at n = (value.Int n ∷ []) ∷ []

first_group : val (tabled (counts ∷ [])) (aggregate count) (at (pos 1)) ≡ Some (value.Int (pos 5))
unfolding counts count at val tabled said values_of attribute_value
first_group = refl

group_without_value : val (tabled (counts ∷ [])) (aggregate count) (at (pos 2)) ≡ None
unfolding counts count at val tabled said values_of attribute_value
group_without_value = refl

no_group : val (tabled (counts ∷ [])) (aggregate count) (at (pos 3)) ≡ Some (value.Int (pos 0))
unfolding counts count at val tabled said values_of attribute_value
no_group = refl
