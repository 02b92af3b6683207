-- Expansions of variables that stand one behind the other.
use Rattle.std.specs.Prelude.{ℕ, zero, suc, ◌+◌, List, [], ◌∷◌, ◌++◌, map, flat_map, length, Option, Some, None}
use Rattle.std.specs.List.{enumerate_from}
use Rattle.calculus.specs.declared.query.RelKey.{RelKey}
use Rattle.calculus.specs.declared.query.QTerm.{QTerm, Attr}
use Rattle.calculus.specs.declared.query.QQual.{QQual}
use Rattle.calculus.specs.declared.query.Query.{Query}
use Rattle.calculus.specs.QueryParts.{vars_of}
use Rattle.calculus.specs.Used.{used_in_query}
use Rattle.view_text.specs.declared.expansion.Expansion.{Expansion}
use Rattle.view_text.specs.Replaced.{Substitution, without_value, shifted, shifted_qual}

-- the term at a place; where there is none, one without value
abbrev pub term_at : List QTerm → ℕ → QTerm
term_at [] place = without_value
term_at (t ∷ ts) zero = t
term_at (t ∷ ts) (suc place) = term_at ts place

-- the term of an attribute: of an expansion without terms the attribute itself
abbrev pub own_or : Option (List QTerm) → ℕ → QTerm
own_or None attr = Attr 0 attr
own_or (Some terms) attr = term_at terms attr

-- the term of an expansion's attribute
abbrev pub attr_term : Expansion → ℕ → QTerm
attr_term expansion attr = own_or expansion.terms attr

-- the expansion of a variable that is not used: no variable, no attribute and no condition
abbrev pub no_expansion : Expansion
no_expansion = record { vars = []; terms = Some []; conditions = [] }

-- the expansion of what has a key, for one who uses these attributes of it
abbrev pub ExpansionSource : Type 0
ExpansionSource = RelKey → List ℕ → Expansion

-- the expansion of a variable of which these attributes are used
abbrev pub used_expansion : ExpansionSource → RelKey → List ℕ → Expansion
used_expansion source key [] = no_expansion
used_expansion source key (a ∷ attrs) = source key (a ∷ attrs)

-- the expansion of a query's variables
abbrev pub query_expansions : ExpansionSource → Query → List Expansion
query_expansions source q = map (λ p. used_expansion source p.1 (used_in_query p.0 q)) (enumerate_from 0 (vars_of q))

-- what the variables of expansion range over that stand one behind the other
abbrev pub expansions_vars : List Expansion → List RelKey
expansions_vars expansions = flat_map (λ expansion. expansion.vars) expansions

-- the term of a variable's attribute, where the expansions' variables stand from this place on
abbrev pub substituted_from : ℕ → List Expansion → Substitution
substituted_from n [] var attr = without_value
substituted_from n (expansion ∷ expansions) zero attr = shifted n (attr_term expansion attr)
substituted_from n (expansion ∷ expansions) (suc var) attr = substituted_from (n + length expansion.vars) expansions var attr

-- the conditions of the expansion, where their variables stand from this place on
abbrev pub conditions_from : ℕ → List Expansion → List QQual
conditions_from n [] = []
conditions_from n (expansion ∷ expansions) = map (shifted_qual n) expansion.conditions ++ conditions_from (n + length expansion.vars) expansions

-- the place at which a variable's text begins, where the expansions' variables stand from this place on
abbrev pub place_from : ℕ → List Expansion → ℕ → ℕ
place_from n [] var = n
place_from n (expansion ∷ expansions) zero = n
place_from n (expansion ∷ expansions) (suc var) = place_from (n + length expansion.vars) expansions var
