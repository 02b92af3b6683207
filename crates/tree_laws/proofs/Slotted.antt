-- Aggregates that are put in from a list, by their slots.
use Rattle.std.proofs.Common.{◌≡◌, refl, sym, ap, ◌∙◌, subst, ℕ, ◌+◌, true, nat_eq, List, [], ◌∷◌, ◌++◌, map, length, length-append, append_assoc, arith}
use Rattle.std.proofs.lemmas.Bool.Decides.{nat_tests}
use Rattle.std.specs.Prelude.{flat_map}
use Rattle.calculus.specs.declared.query.QAgg.{QAgg}
use Rattle.calculus.specs.declared.query.QTerm.{QTerm, Int, Chars, Attr, Agg', Row_of-QAgg, end_of-QAgg, more_of-QAgg}
use Rattle.calculus.specs.declared.query.QQual.{QQual, True, Cmp, Like}
use Rattle.calculus.specs.declared.query.Target.{Target}
use Rattle.calculus.specs.declared.query.Query.{Query}
use Rattle.calculus.specs.Tree.{neg, abs, operation, concat, both, either, negated, query, aggregate}
use Rattle.calculus.specs.Who.{Who}
use Rattle.calculus.specs.Database.{Db}
use Rattle.calculus.specs.QueryParts.{aggregates_of, term_aggregates, qual_aggregates, query_aggregates, targets_of, qual_of}
use Rattle.quel_meaning.specs.FitQueries.{slots_count_from, slots_count_up}
use Rattle.view_text.specs.declared.expansion.Expansion.{Expansion}
use Rattle.view_text.specs.Replaced.{Substitution, replaced, replaced_in_qual, replaced_target, aggregate_at, at_slot, listed}
use Rattle.view_text.specs.Halves.{all_of}
use Rattle.view_text.specs.Expansions.{expansions_vars, substituted_from, conditions_from}
use Rattle.view_text.specs.Expanded.{substituted_query, expanded_aggregate, put_row, expanded_made, expanded_over}
use Rattle.view_text.proofs.Within.{left_true, right_true}

-- ---- aggregates at their slots

-- at the slot of each of these aggregates stands what it becomes
abbrev AreAt : List QAgg → (QAgg → QAgg) → List QAgg → Type 0
AreAt made f [] = Unit {0}
AreAt made f (g ∷ gs) = (aggregate_at made g.slot ≡ aggregate (f g)) × AreAt made f gs

front : (made : List QAgg) (f : QAgg → QAgg) (xs ys : List QAgg) → AreAt made f (xs ++ ys) → AreAt made f xs
front made f [] ys h = tt
front made f (x ∷ xs) ys h = (h.0, front made f xs ys h.1)

back : (made : List QAgg) (f : QAgg → QAgg) (xs ys : List QAgg) → AreAt made f (xs ++ ys) → AreAt made f ys
back made f [] ys h = h
back made f (x ∷ xs) ys h = back made f xs ys h.1

behind : (before : List QAgg) (x : QAgg) (rest : List QAgg) → aggregate_at (before ++ x ∷ rest) (length before) ≡ aggregate x
behind [] x rest = refl
behind (b ∷ before) x rest = behind before x rest

counted : (f : QAgg → QAgg) (n : ℕ) (before gs : List QAgg) → length before ≡ n → slots_count_from n gs ≡ true → AreAt (before ++ map f gs) f gs
counted f n before [] e h = tt
counted f n before (g ∷ gs) e h =
    let first : nat_eq g.slot n ≡ true = left_true (nat_eq g.slot n) (slots_count_from (n + 1) gs) h in
    let slot : g.slot ≡ n = grind (arith, nat_tests, first) in
    let more : length (before ++ f g ∷ []) ≡ n + 1 = length-append before (f g ∷ []) ∙ ap (λ m. m + 1) e in (
      ap (aggregate_at (before ++ f g ∷ map f gs)) (slot ∙ sym e) ∙ behind before (f g) (map f gs),
      subst (λ made. AreAt made f gs) (append_assoc before (f g ∷ []) (map f gs))
          (counted f (n + 1) (before ++ f g ∷ []) gs more (right_true (nat_eq g.slot n) (slots_count_from (n + 1) gs) h)),
    )

-- ---- what is put in of the list

in_row : (db : Db) (who : Who) (put : Substitution) (made : List QAgg) {n : _} (row : Row_of-QAgg n) → AreAt made (expanded_aggregate db who put) (aggregates_of row) → at_slot made row ≡ put_row db who put row
in_row db who put made end_of-QAgg h = refl
in_row db who put made (more_of-QAgg slot op source arg bys by links link qual rest) h = h.0

in_term : (db : Db) (who : Who) (put : Substitution) (made : List QAgg) (t : QTerm) → AreAt made (expanded_aggregate db who put) (term_aggregates t)
    → replaced (listed made) put t ≡ replaced (expanded_made db who put) put t
unfolding term_aggregates replaced
in_term db who put made (Int n) h = refl
in_term db who put made (Chars bytes) h = refl
in_term db who put made (Attr var attr) h = refl
in_term db who put made (neg t) h = ap (λ t. neg t) (in_term db who put made t h)
in_term db who put made (abs t) h = ap (λ t. abs t) (in_term db who put made t h)
in_term db who put made (operation op t u) h = λ i. operation op
    (in_term db who put made t (front made (expanded_aggregate db who put) (term_aggregates t) (term_aggregates u) h) i)
    (in_term db who put made u (back made (expanded_aggregate db who put) (term_aggregates t) (term_aggregates u) h) i)
in_term db who put made (concat t u) h = λ i. concat
    (in_term db who put made t (front made (expanded_aggregate db who put) (term_aggregates t) (term_aggregates u) h) i)
    (in_term db who put made u (back made (expanded_aggregate db who put) (term_aggregates t) (term_aggregates u) h) i)
in_term db who put made (Agg' mark row) h = in_row db who put made row h

in_qual : (db : Db) (who : Who) (put : Substitution) (made : List QAgg) (q : QQual) → AreAt made (expanded_aggregate db who put) (qual_aggregates q)
    → replaced_in_qual (listed made) put q ≡ replaced_in_qual (expanded_made db who put) put q
unfolding qual_aggregates replaced_in_qual
in_qual db who put made True h = refl
in_qual db who put made (Cmp op t u) h = λ i. Cmp op
    (in_term db who put made t (front made (expanded_aggregate db who put) (term_aggregates t) (term_aggregates u) h) i)
    (in_term db who put made u (back made (expanded_aggregate db who put) (term_aggregates t) (term_aggregates u) h) i)
in_qual db who put made (Like t pattern same) h = ap (λ t. Like t pattern same) (in_term db who put made t h)
in_qual db who put made (both p q) h = λ i. both
    (in_qual db who put made p (front made (expanded_aggregate db who put) (qual_aggregates p) (qual_aggregates q) h) i)
    (in_qual db who put made q (back made (expanded_aggregate db who put) (qual_aggregates p) (qual_aggregates q) h) i)
in_qual db who put made (either p q) h = λ i. either
    (in_qual db who put made p (front made (expanded_aggregate db who put) (qual_aggregates p) (qual_aggregates q) h) i)
    (in_qual db who put made q (back made (expanded_aggregate db who put) (qual_aggregates p) (qual_aggregates q) h) i)
in_qual db who put made (negated p) h = ap (λ p. negated p) (in_qual db who put made p h)

in_targets : (db : Db) (who : Who) (put : Substitution) (made : List QAgg) (targets : List Target)
    → AreAt made (expanded_aggregate db who put) (flat_map (λ t. term_aggregates t.term) targets)
    → map (replaced_target (listed made) put) targets ≡ map (replaced_target (expanded_made db who put) put) targets
in_targets db who put made [] h = refl
in_targets db who put made (t ∷ targets) h = λ i.
    record {
      name = t.name;
      kind = t.kind;
      term = in_term db who put made t.term (front made (expanded_aggregate db who put) (term_aggregates t.term) (flat_map (λ t. term_aggregates t.term) targets) h) i;
    }
    ∷ in_targets db who put made targets (back made (expanded_aggregate db who put) (term_aggregates t.term) (flat_map (λ t. term_aggregates t.term) targets) h) i

-- ---- a query

pub slotted : (db : Db) (who : Who) (expansions : List Expansion) (q : Query) → slots_count_up q ≡ true
    → substituted_query (listed (map (expanded_aggregate db who (substituted_from 0 expansions)) (query_aggregates q))) expansions q ≡ expanded_over db who expansions q
slotted db who expansions q h =
    let put = substituted_from 0 expansions in
    let made = map (expanded_aggregate db who put) (query_aggregates q) in
    let before : List QAgg = [] in
    let at : AreAt made (expanded_aggregate db who put) (query_aggregates q) = counted (expanded_aggregate db who put) 0 before (query_aggregates q) refl h in
    let own = flat_map (λ t. term_aggregates t.term) (targets_of q) in
    λ i. query (expansions_vars expansions) (in_targets db who put made (targets_of q) (front made (expanded_aggregate db who put) own (qual_aggregates (qual_of q)) at) i)
    (all_of (in_qual db who put made (qual_of q) (back made (expanded_aggregate db who put) own (qual_aggregates (qual_of q)) at) i ∷ conditions_from 0 expansions))
