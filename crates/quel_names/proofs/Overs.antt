-- What variables range over, one by one.
use Rattle.std.proofs.Common.{◌≡◌, refl, sym, ap, ◌∙◌, ℕ, ◌+◌, ◌<◌, ◌≤◌, arith, true, false, List, [], ◌∷◌, ◌++◌, map, take, length, get_or, Some, None, is_some}
use Rattle.std.specs.Option.{option_and_then}
use Rattle.std.proofs.Math.Seq.{take-length}
use Rattle.std.proofs.lemmas.List.{map-append}
use Rattle.std.proofs.lemmas.List.Folds.{list_all_at}
use Rattle.calculus.specs.Database.{Db}
use Rattle.calculus.specs.Stored.{info_at}
use Rattle.calculus.specs.declared.schema.RelInfo.{RelInfo}
use Rattle.calculus.specs.declared.statement.Statement.{Statement}
use Rattle.quel_check.proofs.OnceMore.{one_taken}
use Rattle.quel_meaning.proofs.Each.{each_to, passed}
use Rattle.quel_meaning.proofs.Found.{IsRanged, ranged_is, vars_ranged}
use Rattle.quel_meaning.specs.Naming.{name_refusal}
use Rattle.quel_meaning.specs.Ranges.{Ranges, range_of}
use Rattle.quel_meaning.specs.Scope.{Scope, ranged}
use Rattle.quel_meaning.specs.WrittenParts.{vars_in}
use Rattle.quel_names.specs.Asking.{scope_of}
use Rattle.quel_names.specs.Ranging.{each_ranges}

over_is : (db : Db) (user : List ℕ) (ranges : Ranges) (var : List ℕ) → option_and_then (info_at db) (range_of ranges var) ≡ ranged (scope_of db user ranges) var
unfolding ranged
over_is db user ranges var = refl

-- one more variable with what it ranges over
pub one_more : (db : Db) (user : List ℕ) (ranges : Ranges) (vars : List (List ℕ)) (infos : List RelInfo) (i : ℕ) (var : List ℕ) (info : RelInfo)
    → map (ranged (scope_of db user ranges)) (take i vars) ≡ map Some infos → i < length vars → var ≡ get_or vars i var
    → Some info ≡ option_and_then (info_at db) (range_of ranges var)
    → map (ranged (scope_of db user ranges)) (take (i + 1) vars) ≡ map Some (infos ++ info ∷ [])
one_more db user ranges vars infos i var info e h at over =
    one_taken (ranged (scope_of db user ranges)) vars i var h at
    ∙ (λ j. e j ++ sym (over ∙ over_is db user ranges var) j ∷ [])
    ∙ sym (map-append Some infos (info ∷ []))

-- a variable that ranges over nothing
pub not_each : (db : Db) (user : List ℕ) (ranges : Ranges) (vars : List (List ℕ)) (i : ℕ) (var : List ℕ)
    → i < length vars → var ≡ get_or vars i var → None ≡ option_and_then (info_at db) (range_of ranges var)
    → each_ranges (scope_of db user ranges) vars ≡ false
not_each db user ranges vars i var h at over =
    list_all_at (λ v. is_some (ranged (scope_of db user ranges) v)) vars i var h
    (ap (λ v. is_some (ranged (scope_of db user ranges) v)) (sym at) ∙ ap is_some (sym (over ∙ over_is db user ranges var)))

-- where no name refuses, each variable ranges over something
pub named_vars_range : (s : Scope) (statement : Statement) → name_refusal s statement ≡ None → each_ranges s (vars_in statement) ≡ true
named_vars_range s statement h =
    passed (λ var. is_some (ranged s var)) (vars_in statement)
    (each_to (IsRanged s) (λ var. is_some (ranged s var) ≡ true) (λ var r. ap is_some (ranged_is s var r)) (vars_in statement) (vars_ranged s statement h))

-- where all were taken
pub all_taken : {X : Type 0} (xs : List X) (i : ℕ) → length xs ≤ i → i ≤ length xs → take i xs ≡ xs
all_taken xs i h k = let same : i ≡ length xs = omega (arith, h, k) in ap (λ n. take n xs) same ∙ take-length xs
