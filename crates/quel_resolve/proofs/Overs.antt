-- What variables range over has few attributes.
use Rattle.std.proofs.Common.{◌≡◌, ℕ, ◌≤◌, arith, List, [], ◌∷◌, map, length, Option, Some, None}
use Rattle.std.specs.List.{All}
use Rattle.std.specs.Option.{option_and_then}
use Rattle.std.proofs.lemmas.Bool.{leb-true}
use Rattle.std.proofs.lemmas.List.Elements.{All-nil, All-cons}
use Rattle.calculus.specs.declared.query.RelKey.{RelKey}
use Rattle.calculus.specs.declared.schema.RelInfo.{RelInfo}
use Rattle.calculus.specs.IsDatabase.{IsDatabase}
use Rattle.calculus.specs.Database.{Db}
use Rattle.calculus.specs.Stored.{info_at}
use Rattle.quel_check.specs.Known.{Knows}
use Rattle.quel_meaning.proofs.DatabaseFacts.{info_stands, stood}
use Rattle.quel_meaning.specs.Ranges.{range_of}
use Rattle.quel_meaning.specs.Scope.{Scope, ranged}

pub few_under : (db : Db) → IsDatabase db → (key : RelKey) (info : RelInfo) → info_at db key ≡ Some info → length info.attrs ≤ 256
few_under db is key info h = omega (arith, leb-true _ _ (stood info.attrs (info_stands db is key info h)).few)

pub few_over : (s : Scope) → IsDatabase s.db → (var : List ℕ) (info : RelInfo) → ranged s var ≡ Some info → length info.attrs ≤ 256
unfolding ranged
few_over s is var info h = go (range_of s.ranges var) h
  where
    go : (o : Option RelKey) → option_and_then (info_at s.db) o ≡ Some info → length info.attrs ≤ 256
    go None k = absurd (cc k)
    go (Some key) k = few_under s.db is key info k

few_each : (s : Scope) → IsDatabase s.db → (vars : List (List ℕ)) (infos : List RelInfo) → map (ranged s) vars ≡ map Some infos
    → All (λ (info : RelInfo). length info.attrs ≤ 256) infos
few_each s is [] [] e = All-nil (λ (info : RelInfo). length info.attrs ≤ 256)
few_each s is [] (info ∷ infos) e = absurd (cc e)
few_each s is (var ∷ vars) [] e = absurd (cc e)
few_each s is (var ∷ vars) (info ∷ infos) e =
    let first : ranged s var ≡ Some info = cc e in
    let later : map (ranged s) vars ≡ map Some infos = cc e in
    All-cons (λ (info : RelInfo). length info.attrs ≤ 256) info infos (few_over s is var info first) (few_each s is vars infos later)

-- where few variables range over these, it is known
pub knows : (s : Scope) → IsDatabase s.db → (vars : List (List ℕ)) (infos : List RelInfo) → map (ranged s) vars ≡ map Some infos → length vars ≤ 10 → Knows s vars infos
knows s is vars infos e few = record { over = e; few_vars = omega (arith, few); few_attrs = few_each s is vars infos e }
