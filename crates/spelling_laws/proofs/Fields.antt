-- Numbers, lists, names, kinds and operators fit the fields in which they are spelled.
use Rattle.std.proofs.Common.{◌≡◌, refl, ℕ, ◌≤◌, ◌/◌, ◌%◌, ℤ, pos, negsuc, w64, IsTrue, Bool, true, false, cond, List, [], ◌∷◌, length, Option, Some, None, arith}
use Rattle.std.specs.Prelude.{nat_lt, nat_le, FitsSigned}
use Rattle.std.specs.List.{list_all}
use Rattle.std.specs.Ordering.{is_le}
use Rattle.std.specs.declared.cmp.Ordering.TheVariants.{Less, Equal, Greater}
use Rattle.std.proofs.lemmas.Bool.{and_parts, leb-true, lt-ltb, ltb-true, ltb-false}
use Rattle.calculus.specs.declared.operator.AggOp.{AggOp}
use Rattle.calculus.specs.declared.operator.AggOp.TheVariants as aggs
use Rattle.calculus.specs.declared.operator.ArithOp.{ArithOp}
use Rattle.calculus.specs.declared.operator.ArithOp.TheVariants as ariths
use Rattle.calculus.specs.declared.operator.CmpOp.{CmpOp}
use Rattle.calculus.specs.declared.operator.CmpOp.TheVariants as cmps
use Rattle.calculus.specs.declared.query.RelKey.{RelKey}
use Rattle.calculus.specs.declared.request.UpdateOp.{UpdateOp}
use Rattle.calculus.specs.declared.request.UpdateOp.TheVariants as updates
use Rattle.calculus.specs.declared.schema.Attr.{Attr}
use Rattle.calculus.specs.declared.schema.Spec.{Spec}
use Rattle.calculus.specs.declared.schema.Spec.TheVariants as forms
use Rattle.calculus.specs.declared.value.Domain.{Domain}
use Rattle.calculus.specs.declared.value.Domain.TheVariants.{I1, I2, I4, C}
use Rattle.calculus.specs.declared.value.Kind.{Kind}
use Rattle.calculus.specs.declared.value.Kind.TheVariants.{Of, Wide}
use Rattle.calculus.specs.IsDatabase.{is_domain, is_kind, user_is_named}
use Rattle.calculus.specs.Limits.{greatest_number}
use Rattle.calculus.specs.Name.{is_name}
use Rattle.calculus.specs.Number.{has_64_bits}
use Rattle.calculus.specs.Value.{is_within}
use Rattle.quel_meaning.specs.SpelledTree.{key_is_spelled}
use Rattle.quel_meaning.proofs.Each.{Each, each_to, each_passes}
use Rattle.quel_tree.specs.Names.{name}
use Rattle.quel_tree.specs.Operators.{agg_op, arith_op, cmp_op, update_op}
use Rattle.quel_tree.specs.Relations.{attr, rel_key, spec}
use Rattle.quel_tree.specs.Values.{domain, kind}
use Rattle.tree_words.specs.Codec.{Codec}
use Rattle.tree_words.specs.Ways.{flag, option}
use Rattle.tree_words.specs.Words.{byte, ItemsFit, list, number16, number32}
use Rattle.spelling_laws.specs.Short.{is_place, is_count, is_number, are_short, attr_is_short}

-- ---- numbers

pub place_fits : (n : ℕ) → is_place n ≡ true → byte.Fits n
place_fits n h = let most = leb-true n 255 h in omega (arith, most)

fits_16 : (n : ℕ) → n ≤ 65535 → number16.Fits n
unfolding number16
fits_16 n h = (omega (arith, h), omega arith)

pub count_fits : (n : ℕ) → is_count n ≡ true → number16.Fits n
count_fits n h = fits_16 n (leb-true n 65535 h)

fits_32 : (n : ℕ) → n ≤ 4294967295 → number32.Fits n
unfolding number32
fits_32 n h = (fits_16 (n / 65536) (omega (arith, h)), fits_16 (n % 65536) (omega arith))

pub number_fits : (n : ℕ) → is_number n ≡ true → number32.Fits n
number_fits n h = fits_32 n (leb-true n greatest_number h)

-- ---- numbers of 64 bits

-- the order of two numbers says that the first is not greater
abbrev not_greater : ℕ → ℕ → Bool
not_greater m n = is_le (cond (nat_lt m n) Less (cond (nat_lt n m) Greater Equal))

at_most : (m n : ℕ) → IsTrue (not_greater m n) → m ≤ n
at_most m n h = go (nat_lt m n) refl (nat_lt n m) refl h
  where
    go : (a : Bool) → nat_lt m n ≡ a → (b : Bool) → nat_lt n m ≡ b → is_le (cond a Less (cond b Greater Equal)) ≡ true → m ≤ n
    go true e b f h = let less = ltb-true m n e in omega (arith, less)
    go false e true f h = absurd (cc h)
    go false e false f h = ltb-false n m f

pub not_above : (low high n : ℕ) → IsTrue (is_within (negsuc low) (pos n) (pos high)) → n ≤ high
not_above low high n h = at_most n high h

pub not_below : (low high n : ℕ) → IsTrue (is_within (negsuc low) (negsuc n) (pos high)) → n ≤ low
not_below low high n h = at_most n low (and_parts (not_greater n low) true h).0

-- a number of 64 bits is one that eight bytes can say
pub bits_fit : (z : ℤ) → has_64_bits z ≡ true → FitsSigned w64 z
bits_fit (pos n) h = let few = not_above 9223372036854775807 9223372036854775807 n h in record { sfits = omega (arith, few) }
bits_fit (negsuc n) h = let few = not_below 9223372036854775807 9223372036854775807 n h in record { sfits = omega (arith, few) }

-- ---- lists

items_fit : {A : Type 0} (c : Codec A) (xs : List A) → Each c.Fits xs → ItemsFit c (length xs) xs
items_fit c [] all = tt
items_fit c (x ∷ xs) all = (all.0, items_fit c xs all.1)

pub list_fits : {A : Type 0} (c : Codec A) (xs : List A) → is_count (length xs) ≡ true → Each c.Fits xs → (list number16 c).Fits xs
unfolding list
list_fits c xs few all = (count_fits (length xs) few, items_fit c xs all)

pub rows_fit : {A : Type 0} (c : Codec A) (xs : List A) → length xs ≤ 4294967295 → Each c.Fits xs → (list number32 c).Fits xs
unfolding list
rows_fit c xs few all = (fits_32 (length xs) few, items_fit c xs all)

-- a short list of what passes a test by which it fits
pub short_fits : {A : Type 0} (c : Codec A) (test : A → Bool) → ((x : A) → test x ≡ true → c.Fits x) → (xs : List A) → are_short test xs ≡ true → (list number16 c).Fits xs
short_fits c test fits xs h =
    let two = and_parts (is_count (length xs)) (list_all test xs) h in
    list_fits c xs two.0 (each_to (λ x. test x ≡ true) c.Fits fits xs (each_passes test xs two.1))

-- ---- names and kinds

pub name_fits : (bytes : List ℕ) → is_name bytes ≡ true → name.Fits bytes
unfolding name
name_fits bytes e = e

pub user_fits : (user : Option (List ℕ)) → user_is_named user ≡ true → (option name).Fits user
unfolding option
user_fits None e = tt
user_fits (Some user) e = name_fits user e

pub key_fits : (key : RelKey) → key_is_spelled key ≡ true → rel_key.Fits key
unfolding rel_key
key_fits key h = let two = and_parts (is_name key.owner) (is_name key.name) h in (name_fits key.owner two.0, name_fits key.name two.1)

domain_fits : (d : Domain) → is_domain d ≡ true → domain.Fits d
unfolding domain
domain_fits I1 e = tt
domain_fits I2 e = tt
domain_fits I4 e = tt
domain_fits (C width) e =
    let two = and_parts (nat_le 1 width) (nat_le width 255) e in
    let least = leb-true 1 width two.0 in
    let most = leb-true width 255 two.1 in
    (omega (arith, most), lt-ltb 0 width (omega (arith, least)))

pub kind_fits : (k : Kind) → is_kind k ≡ true → kind.Fits k
unfolding kind
kind_fits Wide e = tt
kind_fits (Of d) e = domain_fits d e

pub attr_fits : (a : Attr) → attr_is_short a ≡ true → attr.Fits a
unfolding attr
attr_fits a h = let two = and_parts (is_name a.name) (is_kind a.kind) h in (name_fits a.name two.0, kind_fits a.kind two.1)

-- ---- operators

pub ariths_fit : (op : ArithOp) → arith_op.Fits op
unfolding arith_op
ariths_fit ariths.Add = tt
ariths_fit ariths.Sub = tt
ariths_fit ariths.Mul = tt
ariths_fit ariths.Div = tt
ariths_fit ariths.Pow = tt
ariths_fit ariths.Mod = tt

pub cmps_fit : (op : CmpOp) → cmp_op.Fits op
unfolding cmp_op
cmps_fit cmps.Eq = tt
cmps_fit cmps.Ne = tt
cmps_fit cmps.Lt = tt
cmps_fit cmps.Le = tt
cmps_fit cmps.Gt = tt
cmps_fit cmps.Ge = tt

pub aggs_fit : (op : AggOp) → agg_op.Fits op
unfolding agg_op
aggs_fit aggs.Count = tt
aggs_fit aggs.Countu = tt
aggs_fit aggs.Sum = tt
aggs_fit aggs.Sumu = tt
aggs_fit aggs.Avg = tt
aggs_fit aggs.Avgu = tt
aggs_fit aggs.Min = tt
aggs_fit aggs.Max = tt
aggs_fit aggs.Any = tt

pub updates_fit : (op : UpdateOp) → update_op.Fits op
unfolding update_op
updates_fit updates.Append = tt
updates_fit updates.Replace = tt
updates_fit updates.Delete = tt
updates_fit updates.Into = tt

pub specs_fit : (s : Spec) → spec.Fits s
unfolding spec
specs_fit forms.Heap = tt
specs_fit forms.Hash = tt
specs_fit forms.Isam = tt
specs_fit forms.View = tt
specs_fit forms.Index = tt

pub flags_fit : (b : Bool) → flag.Fits b
unfolding flag
flags_fit false = tt
flags_fit true = tt
