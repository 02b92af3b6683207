-- The kinds of terms, and whether the kinds in a qualification fit each other.
use Rattle.std.specs.Prelude.{ℕ, ◌+◌, min, max, Bool, true, false, not, ◌&&◌, if◌then◌else◌, List, length, slice_get, Option, Some, None}
use Rattle.calculus.specs.declared.value.Domain.TheVariants.{I1, I2, I4, C}
use Rattle.calculus.specs.declared.value.Kind.{Kind}
use Rattle.calculus.specs.declared.value.Kind.TheVariants.{Of, Wide}
use Rattle.calculus.specs.declared.query.QTerm.{QTerm, Int, Chars, Attr, Agg'}
use Rattle.calculus.specs.declared.query.QQual.{QQual, True, Cmp, Like}
use Rattle.calculus.specs.Tree.{neg, abs, operation, concat, both, either, negated}
use Rattle.calculus.specs.Constant.{constant_text}

-- the kind at a place of a row that may be there
abbrev pub kind_in : Option (List Kind) → ℕ → Option Kind
kind_in None attr = None
kind_in (Some kinds) attr = slice_get kinds attr

-- the kind of a variable's attribute, both by place; none where there is no such place
unfoldable pub attribute_kind : List (List Kind) → ℕ → ℕ → Option Kind
attribute_kind vars var attr = kind_in (slice_get vars var) attr

-- the kind of a text constant: texts of its length, and at least of one byte
unfoldable pub constant_kind : List ℕ → Kind
constant_kind bytes = Of (C (max 1 (length (constant_text bytes))))

-- the width of a kind of texts; none of a kind of numbers
abbrev pub text_width : Kind → Option ℕ
text_width Wide = None
text_width (Of I1) = None
text_width (Of I2) = None
text_width (Of I4) = None
text_width (Of (C width)) = Some width

-- a kind of numbers
abbrev pub is_number_kind : Kind → Bool
is_number_kind Wide = true
is_number_kind (Of I1) = true
is_number_kind (Of I2) = true
is_number_kind (Of I4) = true
is_number_kind (Of (C width)) = false

-- whole numbers of 64 bits where the kind is one of numbers
unfoldable pub number_kind : Option Kind → Option Kind
number_kind None = None
number_kind (Some k) = if is_number_kind k then Some Wide else None

-- whole numbers of 64 bits where both kinds are ones of numbers
unfoldable pub operated_kind : Option Kind → Option Kind → Option Kind
operated_kind None l = None
operated_kind (Some k) l = if is_number_kind k then number_kind l else None

-- texts of both widths together, at most 255
abbrev pub joined_widths : Option ℕ → Option ℕ → Option Kind
joined_widths None n = None
joined_widths (Some m) None = None
joined_widths (Some m) (Some n) = Some (Of (C (min (m + n) 255)))

-- texts of both widths together where both kinds are ones of texts
unfoldable pub joined_kind : Option Kind → Option Kind → Option Kind
joined_kind None l = None
joined_kind (Some k) None = None
joined_kind (Some k) (Some l) = joined_widths (text_width k) (text_width l)

-- the kind of a term where `vars` has the kinds of each variable's attributes; none where a part is of the wrong kind, a place is out of range or an aggregate stands
unfoldable pub kind_of : QTerm → List (List Kind) → Option Kind
kind_of (Int n) vars = Some Wide
kind_of (Chars bytes) vars = Some (constant_kind bytes)
kind_of (Attr var attr) vars = attribute_kind vars var attr
kind_of (neg t) vars = number_kind (kind_of t vars)
kind_of (abs t) vars = number_kind (kind_of t vars)
kind_of (operation op t u) vars = operated_kind (kind_of t vars) (kind_of u vars)
kind_of (concat t u) vars = joined_kind (kind_of t vars) (kind_of u vars)
kind_of (Agg' mark row) vars = None

-- both are there and are kinds of numbers, or both are kinds of texts
unfoldable pub comparable : Option Kind → Option Kind → Bool
comparable None l = false
comparable (Some k) None = false
comparable (Some k) (Some l) = if is_number_kind k then is_number_kind l else not (is_number_kind l)

-- it is there and is a kind of texts
unfoldable pub is_text_kind : Option Kind → Bool
is_text_kind None = false
is_text_kind (Some k) = not (is_number_kind k)

-- whether a qualification compares numbers with numbers and texts with texts; not where one of its terms has no kind
unfoldable pub kinds_fit : QQual → List (List Kind) → Bool
kinds_fit True vars = true
kinds_fit (Cmp op t u) vars = comparable (kind_of t vars) (kind_of u vars)
kinds_fit (Like t pattern same) vars = is_text_kind (kind_of t vars)
kinds_fit (both p q) vars = kinds_fit p vars && kinds_fit q vars
kinds_fit (either p q) vars = kinds_fit p vars && kinds_fit q vars
kinds_fit (negated p) vars = kinds_fit p vars
