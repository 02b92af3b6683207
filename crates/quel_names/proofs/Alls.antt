-- What refuses a variable with `all`.
use Rattle.std.proofs.Common.{◌≡◌, refl, sym, ap, ◌∙◌, ℕ, List, [], ◌∷◌, ◌++◌, map, Option, Some, None}
use Rattle.std.specs.List.{flat_map}
use Rattle.std.specs.Option.{option_and_then}
use Rattle.calculus.specs.declared.query.RelKey.{RelKey}
use Rattle.calculus.specs.declared.schema.Attr.{Attr}
use Rattle.calculus.specs.declared.schema.RelInfo.{RelInfo}
use Rattle.calculus.specs.declared.statement.Item.TheVariants as item
use Rattle.calculus.specs.Stored.{info_at, attrs_in}
use Rattle.quel_meaning.specs.Naming.{Mention, Variable, first_number, item_mentions, mention_refusal, no_refusal, refusal_in}
use Rattle.quel_meaning.specs.Ranges.{range_of}
use Rattle.quel_meaning.specs.Scope.{Scope, ranged}

-- what a variable ranges over, step by step
abbrev over : Scope → List ℕ → Option RelInfo
over s var = option_and_then (info_at s.db) (range_of s.ranges var)

by_names : (titled : List ℕ → List Mention) (attrs : List Attr) → flat_map (λ (a : Attr). titled a.name) attrs ≡ flat_map titled (map (λ (a : Attr). a.name) attrs)
by_names titled [] = refl
by_names titled (a ∷ attrs) = ap (λ ms. titled a.name ++ ms) (by_names titled attrs)

variable_found : (s : Scope) (var : List ℕ) (info : RelInfo) → over s var ≡ Some info → mention_refusal s (Variable var) ≡ None
variable_found s var info h = go (range_of s.ranges var) h
  where
    at_key : (o : Option RelInfo) → o ≡ Some info → refusal_in no_refusal o ≡ None
    at_key None k = absurd (cc k)
    at_key (Some i) k = refl

    go : (o : Option RelKey) → option_and_then (info_at s.db) o ≡ Some info
        → ◌≡◌ {A = Option ℕ} (elim o [ None ↦ Some 11 | Some key ↦ refusal_in no_refusal (info_at s.db key) ]) None
    go None k = absurd (cc k)
    go (Some key) k = at_key (info_at s.db key) k

-- of a variable that ranges over something, the titles of the attributes refuse
pub all_found : (s : Scope) (titled : List ℕ → List Mention) (var : List ℕ) (info : RelInfo) → Some info ≡ over s var
    → first_number (map (mention_refusal s) (flat_map (λ (a : Attr). titled a.name) info.attrs)) ≡ first_number (map (mention_refusal s) (item_mentions s titled (item.All var)))
unfolding ranged
all_found s titled var info h =
    ap (λ ms. first_number (map (mention_refusal s) ms)) (by_names titled info.attrs)
    ∙ (λ i. first_number (sym (variable_found s var info (sym h)) i ∷ map (mention_refusal s) (flat_map titled (map (λ (a : Attr). a.name) (attrs_in (h i))))))

-- of one that ranges over nothing, the variable itself
pub all_lost : (s : Scope) (titled : List ℕ → List Mention) (var : List ℕ) → None ≡ over s var
    → mention_refusal s (Variable var) ≡ first_number (map (mention_refusal s) (item_mentions s titled (item.All var)))
unfolding ranged
all_lost s titled var h =
    alone (mention_refusal s (Variable var))
    ∙ ap (λ o. first_number (mention_refusal s (Variable var) ∷ map (mention_refusal s) (flat_map titled (map (λ (a : Attr). a.name) (attrs_in o))))) h
  where
    alone : (o : Option ℕ) → o ≡ first_number (o ∷ [])
    alone None = refl
    alone (Some n) = refl
