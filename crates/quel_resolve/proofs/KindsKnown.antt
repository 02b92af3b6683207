-- What is known of the variables: their keys, and the kinds of their attributes.
use Rattle.std.proofs.Common.{◌≡◌, refl, ap, ◌∙◌, ℕ, List, [], ◌∷◌, map, Option, Some, None}
use Rattle.std.specs.Option.{option_and_then}
use Rattle.calculus.specs.declared.query.RelKey.{RelKey}
use Rattle.calculus.specs.declared.schema.Attr.{Attr}
use Rattle.calculus.specs.declared.schema.RelInfo.{RelInfo}
use Rattle.calculus.specs.Stored.{info_at, attrs_in, kinds_at}
use Rattle.quel_check.specs.Known.{Knows}
use Rattle.quel_meaning.specs.Ranges.{range_of}
use Rattle.quel_meaning.specs.Scope.{Scope, ranged, key_found}
use Rattle.quel_meaning.specs.WrittenQuery.{kinds_over}
use Rattle.quel_meaning.specs.WrittenTree.{Vars, key_over}
use Rattle.quel_meaning.proofs.Keys.{found_again}
use Rattle.quel_resolve.specs.Targets.{kinds_in}

-- what a variable ranges over is there under its own key
there : (s : Scope) (var : List ℕ) (info : RelInfo) → ranged s var ≡ Some info → info_at s.db info.key ≡ Some info
unfolding ranged
there s var info h = go (range_of s.ranges var) h
  where
    go : (o : Option RelKey) → option_and_then (info_at s.db) o ≡ Some info → info_at s.db info.key ≡ Some info
    go None e = absurd (cc e)
    go (Some key) e = found_again s.db key info e

one_kinds : (s : Scope) (var : List ℕ) (info : RelInfo) → ranged s var ≡ Some info → kinds_at s.db (key_over s var) ≡ map (λ (a : Attr). a.kind) info.attrs
one_kinds s var info h =
    ap (λ o. kinds_at s.db (key_found o)) h ∙ ap (λ o. map (λ (a : Attr). a.kind) (attrs_in o)) (there s var info h)

all_kinds : (s : Scope) (vars : Vars) (infos : List RelInfo) → map (ranged s) vars ≡ map Some infos → kinds_over s vars ≡ kinds_in infos
all_kinds s [] [] e = refl
all_kinds s [] (info ∷ infos) e = absurd (cc e)
all_kinds s (var ∷ vars) [] e = absurd (cc e)
all_kinds s (var ∷ vars) (info ∷ infos) e =
    let first : ranged s var ≡ Some info = cc e in
    let later : map (ranged s) vars ≡ map Some infos = cc e in
    λ i. one_kinds s var info first i ∷ all_kinds s vars infos later i

-- the kinds of the attributes of what the variables range over
pub kinds_known : (s : Scope) (vars : Vars) (infos : List RelInfo) → Knows s vars infos → kinds_over s vars ≡ kinds_in infos
kinds_known s vars infos k = all_kinds s vars infos k.over

all_keys : (s : Scope) (vars : Vars) (infos : List RelInfo) → map (ranged s) vars ≡ map Some infos → map (key_over s) vars ≡ map (λ (info : RelInfo). info.key) infos
all_keys s [] [] e = refl
all_keys s [] (info ∷ infos) e = absurd (cc e)
all_keys s (var ∷ vars) [] e = absurd (cc e)
all_keys s (var ∷ vars) (info ∷ infos) e =
    let first : ranged s var ≡ Some info = cc e in
    let later : map (ranged s) vars ≡ map Some infos = cc e in
    λ i. key_found (first i) ∷ all_keys s vars infos later i

-- the keys of what the variables range over
pub keys_known : (s : Scope) (vars : Vars) (infos : List RelInfo) → Knows s vars infos → map (key_over s) vars ≡ map (λ (info : RelInfo). info.key) infos
keys_known s vars infos k = all_keys s vars infos k.over
