-- Queries that list too many variables.
use Rattle.std.proofs.Common.{◌≡◌, sym, ap, ◌∙◌, ℕ, ◌+◌, ◌-◌, ◌^◌, ◌<◌, ◌≤◌, min, nat_lt, arith, true, ◌||◌, List, length, map}
use Rattle.std.proofs.lemmas.Bool.{lt-ltb, le-ltb}
use Rattle.std.proofs.lemmas.List.{length-map}
use Rattle.calculus.specs.declared.query.QAgg.{QAgg}
use Rattle.calculus.specs.declared.query.RelKey.{RelKey}
use Rattle.calculus.specs.declared.query.Query.{Query}
use Rattle.calculus.specs.Database.{Db}
use Rattle.calculus.specs.QueryParts.{vars_of, query_aggregates}
use Rattle.quel_meaning.specs.Passing.{listed_variables, listed_expanded_variables, has_too_many}
use Rattle.view_sizes.proofs.Stopped.{stopped_lt}

-- variables and aggregates are counted
pub listed : {X : Type 0} (q : Query) (vars : List RelKey) (f : X → QAgg) (xs : List X) (n : ℕ) → vars ≡ vars_of q → map f xs ≡ query_aggregates q
    → n ≡ min (length vars + length xs) (2 ^ 64 - 1) → n ≡ min (listed_variables q) (2 ^ 64 - 1)
listed q vars f xs n e g h = h ∙ (λ i. min (length (e i) + (sym (length-map xs f) ∙ ap length g) i) (2 ^ 64 - 1))

-- more variables are listed than there may be
pub too_many_listed : (db : Db) (q : Query) (n : ℕ) → n ≡ min (listed_variables q) (2 ^ 64 - 1) → 10 < n → true ≡ has_too_many db q
unfolding has_too_many
too_many_listed db q n e more =
    sym (ap (λ b. b || nat_lt 50 (listed_expanded_variables db q)) (sym (stopped_lt 10 (listed_variables q) (omega arith)) ∙ ap (nat_lt 10) (sym e) ∙ lt-ltb _ _ more))

-- else it counts what they are once the views in them are expanded
pub too_many_expanded : (db : Db) (q : Query) (n count : ℕ) → n ≡ min (listed_variables q) (2 ^ 64 - 1) → n ≤ 10
    → count ≡ min (listed_expanded_variables db q) (2 ^ 64 - 1) → nat_lt 50 count ≡ has_too_many db q
unfolding has_too_many
too_many_expanded db q n count e few c =
    ap (nat_lt 50) c ∙ stopped_lt 50 (listed_expanded_variables db q) (omega arith)
    ∙ sym (ap (λ b. b || nat_lt 50 (listed_expanded_variables db q)) (sym (stopped_lt 10 (listed_variables q) (omega arith)) ∙ ap (nat_lt 10) (sym e) ∙ le-ltb _ _ few))
