-- What is known where trees are built: the variables, and what each ranges over.
use Rattle.std.specs.Prelude.{◌≡◌, ◌≤◌, ◌+◌, ℕ, Bool, true, false, not, ◌&&◌, List, [], ◌∷◌, flat_map, map, length, All, Some, bytes_eq}
use Rattle.std.specs.List.{list_any, list_all}
use Rattle.calculus.specs.declared.query.QQual.{QQual}
use Rattle.calculus.specs.declared.query.QTerm.{QTerm}
use Rattle.calculus.specs.declared.schema.RelInfo.{RelInfo}
use Rattle.calculus.specs.declared.statement.AggTerm.{AggTerm}
use Rattle.calculus.specs.declared.statement.Qual.{Qual}
use Rattle.calculus.specs.declared.statement.Statement.{Statement}
use Rattle.calculus.specs.declared.statement.Term.{Term}
use Rattle.calculus.specs.Lists.{is_any}
use Rattle.quel_meaning.specs.Aggregates.{holds_another}
use Rattle.quel_meaning.specs.Scope.{Scope, ranged}
use Rattle.quel_meaning.specs.WrittenParts.{outer_vars, outer_vars_in_qual, aggregates_in, aggregates_in_qual, aggregate_vars, text_aggregates}
use Rattle.quel_meaning.specs.WrittenTree.{Vars, term_tree, qual_tree}

-- these variables range over these, one by one, and there are so few of them and of their attributes that each place is a byte
pub record Knows (s : Scope) (vars : Vars) (infos : List RelInfo) : Type 0 where
  pub over : map (ranged s) vars ≡ map Some infos
  pub few_vars : length vars ≤ 256
  pub few_attrs : All (λ info. length info.attrs ≤ 256) infos

-- the variable is one of these
abbrev pub is_among : Vars → List ℕ → Bool
is_among vars var = list_any (λ v. bytes_eq v var) vars

-- so are all of these
abbrev pub are_among : Vars → List (List ℕ) → Bool
are_among vars names = list_all (is_among vars) names

-- this is the tree of a term without aggregates, wherever these variables, and no others in the term, range over these, and however many aggregates stand before it
unfoldable pub IsTermTree : Vars → List RelInfo → Term → QTerm → Type 0
IsTermTree vars infos t tree =
    (s : Scope) (n : ℕ) → Knows s vars infos → are_among vars (outer_vars t) ≡ true → is_any (aggregates_in t) ≡ false → tree ≡ term_tree s vars n t

-- the same for a qualification
unfoldable pub IsQualTree : Vars → List RelInfo → Qual → QQual → Type 0
IsQualTree vars infos q tree =
    (s : Scope) (n : ℕ) → Knows s vars infos → are_among vars (outer_vars_in_qual q) ≡ true → is_any (aggregates_in_qual q) ≡ false → tree ≡ qual_tree s vars n q

-- these are the trees of terms without aggregates
unfoldable pub AreTermTrees : Vars → List RelInfo → List Term → List QTerm → Type 0
AreTermTrees vars infos ts trees =
    (s : Scope) → Knows s vars infos → are_among vars (flat_map outer_vars ts) ≡ true → is_any (flat_map aggregates_in ts) ≡ false → trees ≡ map (term_tree s vars 0) ts

-- ---- where aggregates may stand

-- the first variable; none where there is none
abbrev pub front : Vars → Vars
front [] = []
front (var ∷ vars) = var ∷ []

-- the first variable of each aggregate of a statement
abbrev pub inner_vars : Statement → Vars
inner_vars s = flat_map (λ g. front (aggregate_vars g)) (text_aggregates s)

-- there is exactly one variable, and it is one of these
abbrev pub is_one_of : Vars → Vars → Bool
is_one_of inner [] = false
is_one_of inner (var ∷ []) = is_among inner var
is_one_of inner (var ∷ other ∷ more) = false

-- an aggregate holds no other, and its variable is the only one, and one of these
abbrev pub is_over : Vars → AggTerm → Bool
is_over inner g = not (holds_another g) && is_one_of inner (aggregate_vars g)

-- this is the tree of a term before which so many aggregates stand, wherever these variables range over these, those in aggregates over those, and slots are numbers of 16 bits
unfoldable pub IsTermFrom : Vars → List RelInfo → Vars → List RelInfo → ℕ → Term → QTerm → Type 0
IsTermFrom vars infos inner inner_infos n t tree =
    (s : Scope) → Knows s vars infos → Knows s inner inner_infos → are_among vars (outer_vars t) ≡ true → list_all (is_over inner) (aggregates_in t) ≡ true
    → n + length (aggregates_in t) ≤ 65535 → tree ≡ term_tree s vars n t

-- the same for a qualification
unfoldable pub IsQualFrom : Vars → List RelInfo → Vars → List RelInfo → ℕ → Qual → QQual → Type 0
IsQualFrom vars infos inner inner_infos n q tree =
    (s : Scope) → Knows s vars infos → Knows s inner inner_infos → are_among vars (outer_vars_in_qual q) ≡ true → list_all (is_over inner) (aggregates_in_qual q) ≡ true
    → n + length (aggregates_in_qual q) ≤ 65535 → tree ≡ qual_tree s vars n q
