-- Where no bound is passed, keys are few.
use Rattle.std.proofs.Common.{◌≡◌, ℕ, ◌+◌, ◌≤◌, Bool, true, false, List, [], ◌∷◌, ◌++◌, length, Option, Some, None, refl, sym, subst, append-nil, arith}
use Rattle.std.specs.Prelude.{nat_le, ◌&&◌, ◌||◌, codes}
use Rattle.std.proofs.lemmas.Bool.{le-leb}
use Rattle.std.proofs.lemmas.Bool.Decides.{nat_tests}
use Rattle.calculus.specs.declared.schema.Spec.{Spec}
use Rattle.calculus.specs.Lists.{is_any}
use Rattle.quel_grammar.specs.declared.token.Fixed.TheVariants as fixed
use Rattle.quel_grammar.specs.declared.token.Token.{Token}
use Rattle.quel_grammar.specs.declared.token.Token.TheVariants as tokens
use Rattle.quel_grammar.specs.Bounds.{Before, is_open, is_past, with_token, past_behind, first_past}
use Rattle.quel_grammar.specs.Grammar.{one, word, ◌⋅◌, IsList, IsName}
use Rattle.quel_grammar.specs.Grammar.IsList.{last, next}
use Rattle.quel_grammar.specs.Grammar.IsName.{name}
use Rattle.quel_grammar.specs.Statements.{IsOn, IsStructure}
use Rattle.quel_grammar.specs.Statements.IsOn.{without_keys, on_keys}
use Rattle.quel_grammar.specs.Statements.IsStructure.{heap, hash, isam}
use Rattle.calculus.specs.Structures.{is_structure}
use Rattle.quel_meaning.specs.IsWritten.{keys_are_written}
use Rattle.quel_meaning.proofs.Each.{not_right, and}
use Rattle.reading_laws.proofs.Items.{list_any}

-- these tokens pass no bound behind those
abbrev Within : Before → List Token → Type 0
Within before ts = past_behind true before ts ≡ None

-- the first token passes none, and those behind it don't either
step : (before : Before) (t : Token) (ts : List Token) → Within before (t ∷ ts) → (is_past before t ≡ false) × Within (with_token true before t) ts
unfolding past_behind
step before t ts h = by_test (is_past before t) refl h
  where
    by_test : (b : Bool) → is_past before t ≡ b → ◌≡◌ {A = Option ℕ} (elim b [ true ↦ Some before.tokens | false ↦ past_behind true (with_token true before t) ts ]) None
        → (is_past before t ≡ false) × Within (with_token true before t) ts
    by_test true e f = absurd cc
    by_test false e f = (e, f)

few_commas : (before : Before) (t : Token) → is_past before t ≡ false → before.commas + 1 ≤ 6
few_commas before t h =
    let few = not_right (nat_le 500 before.tokens || (is_open t && nat_le 50 before.open_)) (nat_le 6 before.commas) h in
    grind (arith, nat_tests)

names_few : {ts : List Token} {keys : List (List ℕ)} → IsList IsName ts keys → (before : Before) (rest : List Token) → Within before (ts ++ rest) → before.commas + length keys ≤ 6
names_few (last (name {n = n})) before rest h = few_commas before (tokens.Name n) (step before (tokens.Name n) rest h).0
names_few (next {us = us} {xs = xs} (name {n = n}) q) before rest h =
    let comma = (step before (tokens.Name n) (tokens.Fixed fixed.Comma ∷ us ++ rest) h).1 in
    let behind = with_token true before (tokens.Name n) in
    let later = names_few q (with_token true behind (tokens.Fixed fixed.Comma)) rest (step behind (tokens.Fixed fixed.Comma) (us ++ rest) comma).1 in
    omega (arith, later)

-- ---- a `modify` and an `index`

on_few : {ts : List Token} {keys : List (List ℕ)} → IsOn ts keys → (before : Before) → Within before ts → length keys ≤ 6
on_few without_keys before h = omega arith
on_few (on_keys {ts = ts} p) before h =
    let behind = with_token true before (tokens.Fixed fixed.On) in
    let few = names_few p behind [] (subst (Within behind) (sym (append-nil ts)) (step before (tokens.Fixed fixed.On) ts h).1) in
    omega (arith, few)

keys_written : (keys : List (List ℕ)) → length keys ≤ 6 → keys_are_written keys ≡ true
keys_written keys h = le-leb _ _ h

-- the structure is one, and it has few keys
structure_written : {ts : List Token} {to : Spec} {keys : List (List ℕ)} → IsStructure ts to keys → (before : Before) → Within before ts
    → (is_structure to && keys_are_written keys) ≡ true
structure_written heap before h = refl
structure_written (hash {ts = ts} {keys = keys} p) before h = keys_written keys (on_few p _ (step before (tokens.Name (codes "hash")) ts h).1)
structure_written (isam {ts = ts} {keys = keys} p) before h = keys_written keys (on_few p _ (step before (tokens.Name (codes "isam")) ts h).1)

-- what stands before the first token
abbrev start : Before
start = record { tokens = 0; open_ = 0; commas = 0 }

behind_modify : (ts : List Token) → first_past (tokens.Fixed fixed.Modify ∷ ts) ≡ None → Within start (tokens.Fixed fixed.Modify ∷ ts)
unfolding first_past
behind_modify ts h = h

behind_index : (ts : List Token) → first_past (tokens.Fixed fixed.Index ∷ ts) ≡ None → Within start (tokens.Fixed fixed.Index ∷ ts)
unfolding first_past
behind_index ts h = h

-- what stands behind the first of these tokens
behind : (before : Before) (t : Token) (ts : List Token) → Within before (t ∷ ts) → Within (with_token true before t) ts
behind before t ts h = (step before t ts h).1

-- the structure of a `modify` is one, and it has few keys
pub modify_written : (r : List ℕ) {ts : List Token} {to : Spec} {keys : List (List ℕ)} → IsStructure ts to keys
    → first_past (one fixed.Modify ⋅ word r ⋅ one fixed.To ⋅ ts) ≡ None → (is_structure to && keys_are_written keys) ≡ true
modify_written r p h = structure_written p _ (behind _ _ _ (behind _ _ _ (behind _ _ _ (behind_modify _ h))))

-- an `index` has keys, and few
pub index_written : (r n : List ℕ) {ts : List Token} {keys : List (List ℕ)} → IsList IsName ts keys
    → first_past (one fixed.Index ⋅ one fixed.On ⋅ word r ⋅ one fixed.Is ⋅ word n ⋅ one fixed.Open ⋅ ts ⋅ one fixed.Close) ≡ None → (is_any keys && keys_are_written keys) ≡ true
index_written r n {keys = keys} p h =
    let few = names_few p _ (one fixed.Close) (behind _ _ _ (behind _ _ _ (behind _ _ _ (behind _ _ _ (behind _ _ _ (behind _ _ _ (behind_index _ h))))))) in
    and (is_any keys) (keys_are_written keys) (list_any p) (keys_written keys (omega (arith, few)))
