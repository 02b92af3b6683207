-- Rows that pass the test stand behind their heads, and no others do.
use Rattle.std.proofs.Common.{◌≡◌, refl, ap, subst, suc, arith, w64}
use Rattle.std.specs.Prelude.{ℤ, pos, negsuc, FitsSigned, nat_lt, Bool, true, false, cond, List, [], ◌∷◌, length, map}
use Rattle.std.specs.Ordering.{is_le}
use Rattle.std.specs.declared.cmp.Ordering.TheVariants.{Less, Equal, Greater}
use Rattle.std.proofs.lemmas.Bool.{and_from, and_parts, le-ltb}
use Rattle.calculus.specs.declared.reply.Column.{Column}
use Rattle.calculus.specs.declared.reply.Table.{Table as Printed}
use Rattle.calculus.specs.declared.value.Kind.{Kind}
use Rattle.calculus.specs.declared.value.Kind.TheVariants.{Of, Wide}
use Rattle.calculus.specs.declared.value.Value.{Value}
use Rattle.calculus.specs.declared.value.Value.TheVariants.{Int, Text}
use Rattle.calculus.specs.Kinds.{is_number_kind}
use Rattle.calculus.specs.Number.{has_64_bits}
use Rattle.calculus.specs.Rows.{Row}
use Rattle.calculus.specs.Text.{is_text}
use Rattle.calculus.specs.Value.{fits}
use Rattle.quel_meaning.proofs.Each.{Each, each_passes, each_to, passed}
use Rattle.quel_network.specs.NumberRange.{bits_fit, kind_suits, small_bits}
use Rattle.quel_network.specs.Spelling.{is_of_kind, row_suits}
use Rattle.quel_network.specs.Suiting.{Suits, SuitsKind}
use Rattle.quel_network.specs.TableFits.{RowStands, TableStands}
use Rattle.quel_network.specs.Trees.{sent_table}
use Rattle.quel_tree.specs.Names.{text}
use Rattle.quel_tree.specs.Relations.{columns as columns_codec}
use Rattle.quel_tree.specs.Values.{row as row_codec, value as value_codec}
use Rattle.tree_words.specs.Words.{ItemsFit, list, number16, number64}
use Rattle.stage_proc.specs.Comes.{HasHead}
use Rattle.stage_proc.specs.Sending.{row_stands, table_stands, tables_stand, value_stands}

-- ---- values

suits_kind : (k : Kind) (v : Value) → value_stands k v ≡ true → SuitsKind k v
suits_kind Wide (Int n) h = h
suits_kind Wide (Text bytes) h = absurd (cc h)
suits_kind (Of domain) (Int n) h = h
suits_kind (Of domain) (Text bytes) h = h

is_of_it : (k : Kind) (v : Value) → value_stands k v ≡ true → is_of_kind k v ≡ true
is_of_it Wide (Int n) h = refl
is_of_it Wide (Text bytes) h = absurd (cc h)
is_of_it (Of domain) (Int n) h = h
is_of_it (Of domain) (Text bytes) h = (and_parts (fits (Text bytes) domain) (is_text bytes) h).0

fits_by : (b : Bool) (v : Value) → Suits b v → value_codec.Fits v
unfolding value_codec number64 text
fits_by true (Int z) h = bits_fit z h
fits_by true (Text bytes) h = absurd h
fits_by false (Int z) h = absurd h
fits_by false (Text bytes) h = h

value_fits_so : (k : Kind) (v : Value) → value_stands k v ≡ true → value_codec.Fits v
value_fits_so k v h = fits_by (is_number_kind k) v (kind_suits k v (suits_kind k v h))

-- a number that eight bytes can say has 64 bits
in_order : (less more : Bool) → more ≡ false → is_le (cond less Less (cond more Greater Equal)) ≡ true
in_order true more h = refl
in_order false false h = refl
in_order false true h = absurd (cc h)

has_bits : (z : ℤ) → FitsSigned w64 z → has_64_bits z ≡ true
has_bits (pos n) f = small_bits n (omega (arith, f.sfits))
has_bits (negsuc n) f = and_from _ true (in_order (nat_lt n 9223372036854775807) (nat_lt 9223372036854775807 n) (le-ltb 9223372036854775807 n (omega (arith, f.sfits)))) refl

stands_by : (k : Kind) (v : Value) → is_of_kind k v ≡ true → value_codec.Fits v → value_stands k v ≡ true
unfolding value_codec number64 text
stands_by Wide (Int n) h f = has_bits n f
stands_by Wide (Text bytes) h f = absurd (cc h)
stands_by (Of domain) (Int n) h f = h
stands_by (Of domain) (Text bytes) h f = and_from (fits (Text bytes) domain) (is_text bytes) h f

-- ---- rows

row_suits_so : (cs : List Column) (vs : Row) → row_stands cs vs ≡ true → row_suits cs vs ≡ true
row_suits_so [] [] h = refl
row_suits_so [] (v ∷ vs) h = absurd (cc h)
row_suits_so (c ∷ cs) [] h = absurd (cc h)
row_suits_so (c ∷ cs) (v ∷ vs) h =
    let parts = and_parts (value_stands c.kind v) (row_stands cs vs) h in
    and_from (is_of_kind c.kind v) (row_suits cs vs) (is_of_it c.kind v parts.0) (row_suits_so cs vs parts.1)

items_fit : (cs : List Column) (vs : Row) → row_stands cs vs ≡ true → ItemsFit value_codec (length vs) vs
items_fit [] [] h = tt
items_fit [] (v ∷ vs) h = absurd (cc h)
items_fit (c ∷ cs) [] h = absurd (cc h)
items_fit (c ∷ cs) (v ∷ vs) h =
    let parts = and_parts (value_stands c.kind v) (row_stands cs vs) h in
    (value_fits_so c.kind v parts.0, items_fit cs vs parts.1)

as_many : (cs : List Column) (vs : Row) → row_stands cs vs ≡ true → length cs ≡ length vs
as_many [] [] h = refl
as_many [] (v ∷ vs) h = absurd (cc h)
as_many (c ∷ cs) [] h = absurd (cc h)
as_many (c ∷ cs) (v ∷ vs) h = ap suc (as_many cs vs (and_parts (value_stands c.kind v) (row_stands cs vs) h).1)

few_columns : (cs : List Column) → columns_codec.Fits cs → number16.Fits (length cs)
unfolding columns_codec list
few_columns cs h = h.0

row_fits_so : (cs : List Column) (vs : Row) → number16.Fits (length cs) → row_stands cs vs ≡ true → row_codec.Fits vs
unfolding row_codec list
row_fits_so cs vs few h = (subst number16.Fits (as_many cs vs h) few, items_fit cs vs h)

stands : (cs : List Column) (vs : Row) → columns_codec.Fits cs → row_stands cs vs ≡ true → RowStands cs vs
stands cs vs fits h = record { suits = row_suits_so cs vs h; spelled = row_fits_so cs vs (few_columns cs fits) h }

items_of : (vs : Row) → row_codec.Fits vs → ItemsFit value_codec (length vs) vs
unfolding row_codec list
items_of vs h = h.1

passes : (cs : List Column) (vs : Row) → row_suits cs vs ≡ true → ItemsFit value_codec (length vs) vs → row_stands cs vs ≡ true
passes [] [] h f = refl
passes [] (v ∷ vs) h f = absurd (cc h)
passes (c ∷ cs) [] h f = absurd (cc h)
passes (c ∷ cs) (v ∷ vs) h f =
    let parts = and_parts (is_of_kind c.kind v) (row_suits cs vs) h in
    and_from (value_stands c.kind v) (row_stands cs vs) (stands_by c.kind v parts.0 f.0) (passes cs vs parts.1 f.1)

-- ---- tables

table_stands_so : (t : Printed) → HasHead t → table_stands t ≡ true → TableStands (sent_table t)
table_stands_so t head h = record {
  head = head;
  rows = each_to (λ r. row_stands t.columns r ≡ true) (RowStands t.columns) (λ r is. stands t.columns r head is) t.rows (each_passes (row_stands t.columns) t.rows h);
}

table_passes : (t : Printed) → TableStands (sent_table t) → table_stands t ≡ true
table_passes t s = passed (row_stands t.columns) t.rows (each_to (RowStands t.columns) (λ r. row_stands t.columns r ≡ true) (λ r is. passes t.columns r is.suits (items_of r is.spelled)) t.rows s.rows)

-- all of them stand where their heads have spellings and the rows pass
pub all_stand : (ts : List Printed) → Each HasHead ts → tables_stand ts ≡ true → Each TableStands (map sent_table ts)
all_stand [] heads h = tt
all_stand (t ∷ ts) heads h =
    let parts = and_parts (table_stands t) (tables_stand ts) h in
    (table_stands_so t heads.0 parts.0, all_stand ts heads.1 parts.1)

pub all_pass : (ts : List Printed) → Each TableStands (map sent_table ts) → tables_stand ts ≡ true
all_pass [] s = refl
all_pass (t ∷ ts) s = and_from (table_stands t) (tables_stand ts) (table_passes t s.0) (all_pass ts s.1)
