-- What aggregates give suits their kinds.
use Rattle.std.specs.Prelude.{◌≡◌, ℕ, suc, ◌≤◌, pos, Bool, true, false, cond, not, ◌&&◌, IsTrue, List, [], ◌∷◌, length, nat_le, Option, Some, None, IfSome}
use Rattle.std.specs.List.{list_all}
use Rattle.std.proofs.Common.{refl, sym, subst, arith}
use Rattle.std.proofs.lemmas.Bool.{and_parts, leb-true}
use Rattle.calculus.specs.declared.operator.AggOp.{AggOp}
use Rattle.calculus.specs.declared.operator.AggOp.TheVariants.{Count, Countu, Sum, Sumu, Avg, Avgu, Min, Max, Any}
use Rattle.calculus.specs.declared.query.AggSource.{AggSource, Named}
use Rattle.calculus.specs.declared.query.QAgg.{QAgg}
use Rattle.calculus.specs.declared.value.Kind.{Kind}
use Rattle.calculus.specs.declared.value.Domain.TheVariants.{I1, I2, I4, C}
use Rattle.calculus.specs.declared.value.Kind.TheVariants.{Of, Wide}
use Rattle.calculus.specs.declared.value.Value.{Value}
use Rattle.calculus.specs.declared.value.Value.TheVariants.{Int, Text}
use Rattle.calculus.specs.Aggregate.{source_rows, agree, folded_rows, arguments, different, total, any_of, first_or, last_or, fold_values, source_kinds, none_value, fold_arguments, fold_linked, aggregates}
use Rattle.calculus.specs.Chars.{is_chars}
use Rattle.calculus.specs.Database.{Db}
use Rattle.calculus.specs.IsDatabase.{IsDatabase, valid_query}
use Rattle.calculus.specs.Kinds.{is_number_kind, kind_of, is_text_kind, kinds_fit}
use Rattle.calculus.specs.Number.{has_64_bits}
use Rattle.calculus.specs.QueryParts.{vars_of}
use Rattle.calculus.specs.Rows.{Row}
use Rattle.calculus.specs.Spelled.{term_is_spelled, source_is_spelled}
use Rattle.calculus.specs.Term.{Env, val, holds, no_aggs, values_of, value_before}
use Rattle.calculus.specs.Text.{is_text}
use Rattle.calculus.specs.Tree.{rows_of_query}
use Rattle.calculus.specs.Used.{used_in_aggregate}
use Rattle.calculus.specs.Value.{value_cmp}
use Rattle.calculus.specs.VariableRows.{rows_of}
use Rattle.calculus.specs.Who.{Who}
use Rattle.quel_meaning.specs.FitQueries.{is_kept, kept_alone, has_few_targets, source_fits}
use Rattle.quel_meaning.specs.KindsInQueries.{adds_up, picks, folded_kind, links_fit, fitting_kind, aggregate_kind}
use Rattle.quel_meaning.proofs.Each.{Each, in_filter, each_to, each_passes}
use Rattle.quel_network.specs.NumberRange.{kind_suits, small_bits, number_gives, average_bits}
use Rattle.quel_network.specs.Parts.{in_insert, insert_short, filter_short}
use Rattle.quel_network.specs.QueryRows.{SourceSuits, alone_rows_suit}
use Rattle.quel_network.specs.StoredRows.{FewSuit, kept_suit}
use Rattle.quel_network.specs.Suiting.{Suits, SuitsKind, GivesKind, Gives, RowSuits, gives_none}
use Rattle.quel_network.specs.TermValues.{AggGives, alone_suits}
use Rattle.quel_network.specs.TextFacts.{text_fits}

-- ---- what is made of values

different_suit : (P : Value → Type 0) (vs : List Value) → Each P vs → Each P (different vs)
different_suit P [] h = tt
different_suit P (v ∷ vs) h = in_insert P value_cmp v (different vs) h.0 (different_suit P vs h.1)

different_short : (vs : List Value) → length (different vs) ≤ length vs
different_short [] = omega arith
different_short (v ∷ vs) = let one = insert_short value_cmp v (different vs) in let later = different_short vs in omega (arith, one, later)

first_suits : (P : Value → Type 0) (none : Value) (vs : List Value) → P none → Each P vs → P (first_or none vs)
first_suits P none [] n h = n
first_suits P none (v ∷ vs) n h = h.0

last_suits : (P : Value → Type 0) (none : Value) (vs : List Value) → P none → Each P vs → P (last_or none vs)
last_suits P none [] n h = n
last_suits P none (v ∷ vs) n h = last_suits P v vs h.0 h.1

counted : (n : ℕ) → n ≤ 1000000 → IsTrue (has_64_bits (pos n))
counted n h = small_bits n (omega (arith, h))

counted_different : (vs : List Value) → length vs ≤ 1000000 → IsTrue (has_64_bits (pos (length (different vs))))
counted_different vs few = let shorter = different_short vs in counted (length (different vs)) (omega (arith, shorter, few))

any_bits : (vs : List Value) → IsTrue (has_64_bits (pos (any_of vs)))
any_bits [] = refl
any_bits (v ∷ vs) = refl

-- what an operation makes of at most a million values of a kind, and one more for none
record Folded (k : Kind) (none : Value) (vs : List Value) : Type 0 where
  empty : SuitsKind k none
  each : Each (SuitsKind k) vs
  few : length vs ≤ 1000000

-- of a kind of numbers they are such
a_number : (k : Kind) (v : Value) → is_number_kind k ≡ true → SuitsKind k v → Suits true v
a_number k v e h = subst (λ b. Suits b v) e (kind_suits k v h)

numbers : (k : Kind) (vs : List Value) → is_number_kind k ≡ true → Each (SuitsKind k) vs → Each (Suits true) vs
numbers k vs e h = each_to (SuitsKind k) (Suits true) (λ v s. a_number k v e s) vs h

-- the kind of what an operation makes of numbers, or of texts of a kind
abbrev kind_by : AggOp → Kind → Bool → Option Kind
kind_by op k b = elim b as (λ b. Option Kind) [
  | true ↦ Some Wide
  | false ↦ elim (adds_up op) as (λ b. Option Kind) [ true ↦ None | false ↦ elim (picks op) as (λ b. Option Kind) [ true ↦ Some k | false ↦ Some Wide ] ]
]

fold_by : (op : AggOp) (k : Kind) (b : Bool) → is_number_kind k ≡ b → (none : Value) (vs : List Value) → Folded k none vs → Gives (kind_by op k b) (fold_values op none vs)
fold_by Count k true e none vs h = counted (length vs) h.few
fold_by Count k false e none vs h = counted (length vs) h.few
fold_by Countu k true e none vs h = counted_different vs h.few
fold_by Countu k false e none vs h = counted_different vs h.few
fold_by Sum k true e none vs h = number_gives (total vs)
fold_by Sum k false e none vs h = tt
fold_by Sumu k true e none vs h = number_gives (total (different vs))
fold_by Sumu k false e none vs h = tt
fold_by Avg k true e none vs h = average_bits vs (numbers k vs e h.each)
fold_by Avg k false e none vs h = tt
fold_by Avgu k true e none vs h = average_bits (different vs) (different_suit (Suits true) vs (numbers k vs e h.each))
fold_by Avgu k false e none vs h = tt
fold_by Min k true e none vs h = first_suits (Suits true) none (different vs) (a_number k none e h.empty) (different_suit (Suits true) vs (numbers k vs e h.each))
fold_by Min k false e none vs h = first_suits (SuitsKind k) none (different vs) h.empty (different_suit (SuitsKind k) vs h.each)
fold_by Max k true e none vs h = last_suits (Suits true) none (different vs) (a_number k none e h.empty) (different_suit (Suits true) vs (numbers k vs e h.each))
fold_by Max k false e none vs h = last_suits (SuitsKind k) none (different vs) h.empty (different_suit (SuitsKind k) vs h.each)
fold_by Any k true e none vs h = any_bits vs
fold_by Any k false e none vs h = any_bits vs

fold_suits : (op : AggOp) (k : Kind) (none : Value) (vs : List Value) → Folded k none vs → Gives (folded_kind op k) (fold_values op none vs)
fold_suits op k none vs h = fold_by op k (is_number_kind k) refl none vs h

-- ---- the rows of a source

source_suits : (db : Db) (who : Who) (attrs : List ℕ) (source : AggSource) → IsDatabase db → IsTrue (source_is_spelled source) → source_fits (kept_alone db) db source ≡ true
    → FewSuit (source_kinds db source) (source_rows (rows_of db who) attrs source)
unfolding source_fits
source_suits db who attrs (Named key) is spelled fit = kept_suit db who key attrs is fit
source_suits db who attrs (rows_of_query q) is spelled fit =
    let w = and_parts (list_all (is_kept db) (vars_of q)) (nat_le (length (vars_of q)) 1 && (has_few_targets q && valid_query db q)) fit in
    let v = and_parts (nat_le (length (vars_of q)) 1) (has_few_targets q && valid_query db q) w.1 in
    alone_rows_suit db (rows_of db who) q (leb-true (length (vars_of q)) 1 v.0)
    (each_to (λ key. is_kept db key ≡ true) (SourceSuits db (rows_of db who)) (λ key h attrs. kept_suit db who key attrs is h) (vars_of q) (each_passes (is_kept db) (vars_of q) w.0))
    spelled (and_parts (has_few_targets q) (valid_query db q) v.1).1

-- ---- the arguments

-- these values suit, and are so many
record Arguments (k : Kind) (n : ℕ) (vs : List Value) : Type 0 where
  each : Each (SuitsKind k) vs
  many : length vs ≤ n

before_suits : (k : Kind) (n : ℕ) (v : Option Value) (vs : Option (List Value)) → GivesKind k v → IfSome vs (Arguments k n) → IfSome (value_before v vs) (Arguments k (suc n))
before_suits k n None vs p q = tt
before_suits k n (Some v) None p q = tt
before_suits k n (Some v) (Some vs) p q = record { each = (p, q.each); many = let few = q.many in omega (arith, few) }

arguments_suit : (db : Db) (g : QAgg) (k : Kind) (rows : List Row) → kind_of g.arg (source_kinds db g.source ∷ []) ≡ Some k → IsTrue (term_is_spelled g.arg)
    → Each (RowSuits (source_kinds db g.source)) rows → IfSome (arguments g rows) (Arguments k (length rows))
arguments_suit db g k [] e spelled h = record { each = tt; many = omega arith }
arguments_suit db g k (row ∷ rows) e spelled h =
    before_suits k (length rows) (val no_aggs g.arg (row ∷ [])) (arguments g rows)
    (alone_suits db g.arg (source_kinds db g.source ∷ []) (row ∷ []) k e spelled (h.0, tt)) (arguments_suit db g k rows e spelled h.1)

-- ---- aggregates

none_suits : (db : Db) (g : QAgg) (k : Kind) → kind_of g.arg (source_kinds db g.source ∷ []) ≡ Some k → SuitsKind k (none_value db g)
unfolding is_text_kind is_text is_chars
none_suits db g k e = subst (λ o. SuitsKind k (cond (is_text_kind o) (Text []) (Int (pos 0)))) (sym e) (go k)
  where
    go : (k : Kind) → SuitsKind k (cond (not (is_number_kind k)) (Text []) (Int (pos 0)))
    go Wide = refl
    go (Of I1) = refl
    go (Of I2) = refl
    go (Of I4) = refl
    go (Of (C width)) = text_fits width [] (omega arith) refl

folded_gives : (op : AggOp) (k : Kind) (none : Value) (n : ℕ) (vs : List Value) → n ≤ 1000000 → SuitsKind k none → Arguments k n vs
    → Gives (folded_kind op k) (fold_values op none vs)
folded_gives op k none n vs few suits a = let many = a.many in fold_suits op k none vs (record { empty = suits; each = a.each; few = omega (arith, many, few) })

-- what an aggregate gives that is over a base relation, a catalogue or a query of one of them
pub aggregate_gives : (db : Db) (who : Who) (g : QAgg) (vars : List (List Kind)) (e : Env) → IsDatabase db → source_fits (kept_alone db) db g.source ≡ true → AggGives db (aggregates db who) vars e g
unfolding aggregates aggregate_kind
aggregate_gives db who g vars e is fit source_stands arg_stands = by_kind (kind_of g.arg (source_kinds db g.source ∷ [])) refl
  where
    rows : FewSuit (source_kinds db g.source) (source_rows (rows_of db who) (used_in_aggregate g) g.source)
    rows = source_suits db who (used_in_aggregate g) g.source is source_stands fit

    passes : Row → Row → Bool
    passes link s = holds no_aggs g.qual (s ∷ []) && agree link (values_of g.by (s ∷ []))

    suit : (link : Row) → Each (RowSuits (source_kinds db g.source)) (folded_rows (rows_of db who) g link)
    suit link = in_filter (RowSuits (source_kinds db g.source)) (passes link) (source_rows (rows_of db who) (used_in_aggregate g) g.source) rows.suit

    few : (link : Row) → length (folded_rows (rows_of db who) g link) ≤ 1000000
    few link =
        let shorter = filter_short (passes link) (source_rows (rows_of db who) (used_in_aggregate g) g.source) in
        let few = rows.few in
        omega (arith, shorter, few)

    folded : (k : Kind) → kind_of g.arg (source_kinds db g.source ∷ []) ≡ Some k → (n : ℕ) → n ≤ 1000000 → (vs : Option (List Value)) → IfSome vs (Arguments k n)
        → Gives (folded_kind g.op k) (fold_arguments db g vs)
    folded k h n few None a = gives_none (folded_kind g.op k)
    folded k h n few (Some vs) a = folded_gives g.op k (none_value db g) n vs few (none_suits db g k h) a

    linked : (k : Kind) → kind_of g.arg (source_kinds db g.source ∷ []) ≡ Some k → (link : Option Row) → Gives (folded_kind g.op k) (fold_linked db (rows_of db who) g link)
    linked k h None = gives_none (folded_kind g.op k)
    linked k h (Some link) =
        folded k h (length (folded_rows (rows_of db who) g link)) (few link) (arguments g (folded_rows (rows_of db who) g link))
        (arguments_suit db g k (folded_rows (rows_of db who) g link) h arg_stands (suit link))

    by_fit : (fit : Bool) (k : Kind) → kind_of g.arg (source_kinds db g.source ∷ []) ≡ Some k → Gives (fitting_kind fit g.op (Some k)) (fold_linked db (rows_of db who) g (values_of g.link e))
    by_fit true k h = linked k h (values_of g.link e)
    by_fit false k h = tt

    by_kind : (o : Option Kind) → kind_of g.arg (source_kinds db g.source ∷ []) ≡ o
        → Gives (fitting_kind (links_fit (source_kinds db g.source ∷ []) g.by vars g.link && kinds_fit g.qual (source_kinds db g.source ∷ [])) g.op o) (fold_linked db (rows_of db who) g (values_of g.link e))
    by_kind None h = tt
    by_kind (Some k) h = by_fit (links_fit (source_kinds db g.source ∷ []) g.by vars g.link && kinds_fit g.qual (source_kinds db g.source ∷ [])) k h
