-- Terms and qualifications whose kinds fit, so without aggregates, have spellings.
use Rattle.std.proofs.Common.{◌≡◌, refl, sym, true≢false, ℕ, zero, suc, ◌+◌, ◌<◌, ◌≤◌, max, ℤ, pos, negsuc, w64, IsTrue, Bool, true, false, cond, List, length, Option, Some, None, arith}
use Rattle.std.specs.Prelude.{nat_lt, FitsSigned, is_some, slice_get}
use Rattle.std.specs.Ordering.{is_le}
use Rattle.std.specs.declared.cmp.Ordering.TheVariants.{Less, Equal, Greater}
use Rattle.std.proofs.lemmas.Bool.{and_parts, lt-ltb, ltb-true, ltb-false}
use Rattle.std.proofs.lemmas.Option.{slice_get_within}
use Rattle.calculus.specs.declared.operator.ArithOp.{ArithOp}
use Rattle.calculus.specs.declared.operator.ArithOp.TheVariants as ariths
use Rattle.calculus.specs.declared.operator.CmpOp.{CmpOp}
use Rattle.calculus.specs.declared.operator.CmpOp.TheVariants as cmps
use Rattle.calculus.specs.declared.query.QQual.{QQual}
use Rattle.calculus.specs.declared.query.QQual.TheVariants as quals
use Rattle.calculus.specs.declared.query.QTerm.{QTerm, Agg'}
use Rattle.calculus.specs.declared.query.QTerm.TheVariants as terms
use Rattle.calculus.specs.declared.value.Kind.{Kind}
use Rattle.calculus.specs.Chars.{is_chars}
use Rattle.calculus.specs.Kinds.{kind_in, attribute_kind, is_number_kind, number_kind, operated_kind, joined_kind, kind_of, comparable, is_text_kind, kinds_fit}
use Rattle.calculus.specs.Number.{has_64_bits}
use Rattle.calculus.specs.Spelled.{term_is_spelled, qual_is_spelled}
use Rattle.calculus.specs.Tree as tree
use Rattle.calculus.specs.TreeLevels.{term_levels, qual_levels}
use Rattle.calculus.specs.Value.{is_within}
use Rattle.quel_tree.specs.Names.{chars}
use Rattle.quel_tree.specs.Operators.{arith_op, cmp_op}
use Rattle.quel_tree.specs.Queries.{trees, term, qual}
use Rattle.tree_words.specs.Words.{number64}
use Rattle.tree_words.specs.Ways.{flag}

-- ---- numbers of 64 bits

-- the order of two numbers says that the first is not greater
abbrev not_greater : ℕ → ℕ → Bool
not_greater m n = is_le (cond (nat_lt m n) Less (cond (nat_lt n m) Greater Equal))

at_most : (m n : ℕ) → IsTrue (not_greater m n) → m ≤ n
at_most m n h = go (nat_lt m n) refl (nat_lt n m) refl h
  where
    go : (a : Bool) → nat_lt m n ≡ a → (b : Bool) → nat_lt n m ≡ b → is_le (cond a Less (cond b Greater Equal)) ≡ true → m ≤ n
    go true e b f h = let less = ltb-true m n e in omega (arith, less)
    go false e true f h = absurd (cc h)
    go false e false f h = ltb-false n m f

not_above : (low high n : ℕ) → IsTrue (is_within (negsuc low) (pos n) (pos high)) → n ≤ high
not_above low high n h = at_most n high h

not_below : (low high n : ℕ) → IsTrue (is_within (negsuc low) (negsuc n) (pos high)) → n ≤ low
not_below low high n h = at_most n low (and_parts (not_greater n low) true h).0

-- a number of 64 bits is one that eight bytes can say
bits_fit : (z : ℤ) → has_64_bits z ≡ true → FitsSigned w64 z
bits_fit (pos n) h = let few = not_above 9223372036854775807 9223372036854775807 n h in record { sfits = omega (arith, few) }
bits_fit (negsuc n) h = let few = not_below 9223372036854775807 9223372036854775807 n h in record { sfits = omega (arith, few) }

-- ---- parts that are there

-- a value is there
abbrev There : {A : Type 0} → Option A → Type 0
There o = is_some o ≡ true

number_there : (k : Option Kind) → There (number_kind k) → There k
unfolding number_kind
number_there None h = h
number_there (Some k) h = refl

operated_there : (k l : Option Kind) → There (operated_kind k l) → There k × There l
unfolding operated_kind
operated_there None l h = absurd (true≢false (sym h))
operated_there (Some k) l h = (refl, go (is_number_kind k) h)
  where
    go : (b : Bool) → There (cond b (number_kind l) None) → There l
    go true h = number_there l h
    go false h = absurd (true≢false (sym h))

joined_there : (k l : Option Kind) → There (joined_kind k l) → There k × There l
unfolding joined_kind
joined_there None l h = absurd (true≢false (sym h))
joined_there (Some k) None h = absurd (true≢false (sym h))
joined_there (Some k) (Some l) h = (refl, refl)

comparable_there : (k l : Option Kind) → comparable k l ≡ true → There k × There l
unfolding comparable
comparable_there None l h = absurd (true≢false (sym h))
comparable_there (Some k) None h = absurd (true≢false (sym h))
comparable_there (Some k) (Some l) h = (refl, refl)

text_there : (k : Option Kind) → is_text_kind k ≡ true → There k
unfolding is_text_kind
text_there None h = h
text_there (Some k) h = refl

-- so many variables, and attributes of each, that a byte can say their places
pub record Few (vars : List (List Kind)) : Type 0 where
  pub few : length vars ≤ 256
  pub each : (k : ℕ) (kinds : List Kind) → slice_get vars k ≡ Some kinds → length kinds ≤ 256

get_there : {A : Type 0} (xs : List A) (k : ℕ) → There (slice_get xs k) → k < length xs
get_there {A} xs k h = go (slice_get xs k) refl h
  where
    go : (o : Option A) → slice_get xs k ≡ o → There o → k < length xs
    go None e h = absurd (true≢false (sym h))
    go (Some x) e h = slice_get_within xs k x e

attribute_there : (vars : List (List Kind)) → Few vars → (var attr : ℕ) → There (attribute_kind vars var attr) → (var < 256) × (attr < 256)
unfolding attribute_kind
attribute_there vars few var attr h = go (slice_get vars var) refl h
  where
    go : (o : Option (List Kind)) → slice_get vars var ≡ o → There (kind_in o attr) → (var < 256) × (attr < 256)
    go None e h = absurd (true≢false (sym h))
    go (Some kinds) e h =
        let one = slice_get_within vars var kinds e in
        let two = get_there kinds attr h in
        let most = few.each var kinds e in
        let all = few.few in
        (omega (arith, one, all), omega (arith, two, most))

-- ---- operators

ariths_fit : (op : ArithOp) → arith_op.Fits op
unfolding arith_op
ariths_fit ariths.Add = tt
ariths_fit ariths.Sub = tt
ariths_fit ariths.Mul = tt
ariths_fit ariths.Div = tt
ariths_fit ariths.Pow = tt
ariths_fit ariths.Mod = tt

cmps_fit : (op : CmpOp) → cmp_op.Fits op
unfolding cmp_op
cmps_fit cmps.Eq = tt
cmps_fit cmps.Ne = tt
cmps_fit cmps.Lt = tt
cmps_fit cmps.Le = tt
cmps_fit cmps.Gt = tt
cmps_fit cmps.Ge = tt

flags_fit : (b : Bool) → flag.Fits b
unfolding flag
flags_fit false = tt
flags_fit true = tt

-- ---- levels

some_term : (t : QTerm) → 1 ≤ term_levels t
some_term (terms.Int k) = omega arith
some_term (terms.Chars bs) = omega arith
some_term (terms.Attr var attr) = omega arith
some_term (tree.neg t) = omega arith
some_term (tree.abs t) = omega arith
some_term (tree.operation op t u) = omega arith
some_term (tree.concat t u) = omega arith
some_term (Agg' mark row) = omega arith

some_qual : (q : QQual) → 1 ≤ qual_levels q
some_qual quals.True = omega arith
some_qual (quals.Cmp op t u) = omega arith
some_qual (quals.Like t pattern same) = omega arith
some_qual (tree.both p q) = omega arith
some_qual (tree.either p q) = omega arith
some_qual (tree.negated q) = omega arith

-- a way is open where something fits behind it
is_open : (least n : ℕ) → 1 ≤ least → least ≤ n → IsTrue (nat_lt 0 n)
is_open least n some most = lt-ltb 0 n (omega arith)

left_of : (m k n : ℕ) → 1 + max m k ≤ suc n → m ≤ n
left_of m k n h = omega arith

right_of : (m k n : ℕ) → 1 + max m k ≤ suc n → k ≤ n
right_of m k n h = omega arith

below : (m n : ℕ) → 1 + m ≤ suc n → m ≤ n
below m n h = omega arith

-- ---- terms and qualifications

module _ (vars : List (List Kind)) (few : Few vars) where
  pub term_fits : (n : ℕ) (t : QTerm) → term_levels t ≤ n → There (kind_of t vars) → term_is_spelled t ≡ true → (term n).Fits t
  unfolding trees kind_of number64 chars
  term_fits zero t h there spelled = let some = some_term t in absurd (omega (arith, h, some))
  term_fits (suc n) (terms.Int k) h there spelled = bits_fit k spelled
  term_fits (suc n) (terms.Chars bs) h there spelled = spelled
  term_fits (suc n) (terms.Attr var attr) h there spelled = attribute_there vars few var attr there
  term_fits (suc n) (tree.neg t) h there spelled =
      let most = below (term_levels t) n h in
      (is_open (term_levels t) n (some_term t) most, term_fits n t most (number_there (kind_of t vars) there) spelled)
  term_fits (suc n) (tree.abs t) h there spelled =
      let most = below (term_levels t) n h in
      (is_open (term_levels t) n (some_term t) most, term_fits n t most (number_there (kind_of t vars) there) spelled)
  term_fits (suc n) (tree.operation op t u) h there spelled =
      let most = left_of (term_levels t) (term_levels u) n h in
      let two = operated_there (kind_of t vars) (kind_of u vars) there in
      let both = and_parts (term_is_spelled t) (term_is_spelled u) spelled in
      (is_open (term_levels t) n (some_term t) most, (ariths_fit op, (term_fits n t most two.0 both.0, term_fits n u (right_of (term_levels t) (term_levels u) n h) two.1 both.1)))
  term_fits (suc n) (tree.concat t u) h there spelled =
      let most = left_of (term_levels t) (term_levels u) n h in
      let two = joined_there (kind_of t vars) (kind_of u vars) there in
      let both = and_parts (term_is_spelled t) (term_is_spelled u) spelled in
      (is_open (term_levels t) n (some_term t) most, (term_fits n t most two.0 both.0, term_fits n u (right_of (term_levels t) (term_levels u) n h) two.1 both.1))
  term_fits (suc n) (Agg' mark row) h there spelled = absurd (true≢false (sym there))

  pub qual_fits : (n : ℕ) (q : QQual) → qual_levels q ≤ n → kinds_fit q vars ≡ true → qual_is_spelled q ≡ true → (qual n).Fits q
  unfolding trees kinds_fit chars
  qual_fits zero q h fit spelled = let some = some_qual q in absurd (omega (arith, h, some))
  qual_fits (suc n) quals.True h fit spelled = tt
  qual_fits (suc n) (quals.Cmp op t u) h fit spelled =
      let most = left_of (term_levels t) (term_levels u) n h in
      let two = comparable_there (kind_of t vars) (kind_of u vars) fit in
      let both = and_parts (term_is_spelled t) (term_is_spelled u) spelled in
      (is_open (term_levels t) n (some_term t) most, (cmps_fit op, (term_fits n t most two.0 both.0, term_fits n u (right_of (term_levels t) (term_levels u) n h) two.1 both.1)))
  qual_fits (suc n) (quals.Like t pattern same) h fit spelled =
      let most = below (term_levels t) n h in
      let both = and_parts (term_is_spelled t) (is_chars pattern) spelled in
      (is_open (term_levels t) n (some_term t) most, (term_fits n t most (text_there (kind_of t vars) fit) both.0, (both.1, flags_fit same)))
  qual_fits (suc n) (tree.both p q) h fit spelled =
      let most = left_of (qual_levels p) (qual_levels q) n h in
      let two = and_parts (kinds_fit p vars) (kinds_fit q vars) fit in
      let both = and_parts (qual_is_spelled p) (qual_is_spelled q) spelled in
      (is_open (qual_levels p) n (some_qual p) most, (qual_fits n p most two.0 both.0, qual_fits n q (right_of (qual_levels p) (qual_levels q) n h) two.1 both.1))
  qual_fits (suc n) (tree.either p q) h fit spelled =
      let most = left_of (qual_levels p) (qual_levels q) n h in
      let two = and_parts (kinds_fit p vars) (kinds_fit q vars) fit in
      let both = and_parts (qual_is_spelled p) (qual_is_spelled q) spelled in
      (is_open (qual_levels p) n (some_qual p) most, (qual_fits n p most two.0 both.0, qual_fits n q (right_of (qual_levels p) (qual_levels q) n h) two.1 both.1))
  qual_fits (suc n) (tree.negated q) h fit spelled =
      let most = below (qual_levels q) n h in
      (is_open (qual_levels q) n (some_qual q) most, qual_fits n q most fit spelled)
