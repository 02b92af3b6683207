-- What the sources of aggregates must be.
use Rattle.std.proofs.Common.{◌≡◌, refl, ap, ◌∙◌, ℕ, ◌+◌, nat_eq, nat_le, Bool, true, false, ◌&&◌, List, [], ◌∷◌, map, length}
use Rattle.std.specs.List.{list_all, enumerate_from}
use Rattle.calculus.specs.declared.query.AggSource.TheVariants.{Named, Rows}
use Rattle.calculus.specs.declared.query.RelKey.{RelKey}
use Rattle.calculus.specs.declared.query.Query.{Query}
use Rattle.calculus.specs.declared.query.QAgg.{QAgg}
use Rattle.calculus.specs.Database.{Db}
use Rattle.calculus.specs.IsDatabase.{valid_query}
use Rattle.calculus.specs.QueryParts.{vars_of}
use Rattle.calculus.proofs.Forms.{rows_is}
use Rattle.quel_meaning.specs.FitQueries.{has_few_targets, is_kept, kept_alone, slots_count_from, source_fits}

pub source_named : (db : Db) (key : RelKey) → source_fits (kept_alone db) db (Named key) ≡ is_kept db key
unfolding source_fits
source_named db key = refl

turned : (a b c d : Bool) → (a && (b && (c && d))) ≡ (b && (c && (a && d)))
turned true b c d = refl
turned false true true d = refl
turned false true false d = refl
turned false false c d = refl

pub source_rows : (db : Db) (q : Query)
    → source_fits (kept_alone db) db (Rows q) ≡ (nat_le (length (vars_of q)) 1 && (has_few_targets q && (list_all (is_kept db) (vars_of q) && valid_query db q)))
unfolding source_fits
source_rows db q = ap (source_fits (kept_alone db) db) (rows_is q) ∙ turned (list_all (is_kept db) (vars_of q)) (nat_le (length (vars_of q)) 1) (has_few_targets q) (valid_query db q)

-- a test of what items are made of
pub all_mapped : {X Y : Type 0} (p : Y → Bool) (f : X → Y) (xs : List X) → list_all (λ x. p (f x)) xs ≡ list_all p (map f xs)
all_mapped p f [] = refl
all_mapped p f (x ∷ xs) = ap (λ b. p (f x) && b) (all_mapped p f xs)

-- ---- slots

-- slots count up from a number where each is its place from there on
pub slots_placed : {X : Type 0} (f : X → QAgg) (n : ℕ) (xs : List X) → list_all (λ (p : ℕ × X). nat_eq (f p.1).slot p.0) (enumerate_from n xs) ≡ slots_count_from n (map f xs)
slots_placed f n [] = refl
slots_placed f n (x ∷ xs) = ap (λ b. nat_eq (f x).slot n && b) (slots_placed f (n + 1) xs)
