-- Terms, qualifications and texts that name only the first so many variables.
use Rattle.std.specs.Prelude.{ℕ, Bool, true, false, ◌&&◌, nat_lt, List, length, Option, Some, None}
use Rattle.std.specs.List.{list_all}
use Rattle.calculus.specs.declared.query.QTerm.{QTerm, Int, Chars, Attr, Agg'}
use Rattle.calculus.specs.declared.query.QQual.{QQual, True, Cmp, Like}
use Rattle.calculus.specs.Tree.{neg, abs, operation, concat, both, either, negated}
use Rattle.view_text.specs.declared.expansion.Expansion.{Expansion}

-- the term names only variables at the first so many places, and holds no aggregate
unfoldable pub is_within : ℕ → QTerm → Bool
is_within n (Int z) = true
is_within n (Chars bytes) = true
is_within n (Attr var attr) = nat_lt var n
is_within n (neg t) = is_within n t
is_within n (abs t) = is_within n t
is_within n (operation op t u) = is_within n t && is_within n u
is_within n (concat t u) = is_within n t && is_within n u
is_within n (Agg' mark row) = false

-- the qualification so
unfoldable pub is_qual_within : ℕ → QQual → Bool
is_qual_within n True = true
is_qual_within n (Cmp op t u) = is_within n t && is_within n u
is_qual_within n (Like t pattern same) = is_within n t
is_qual_within n (both p q) = is_qual_within n p && is_qual_within n q
is_qual_within n (either p q) = is_qual_within n p && is_qual_within n q
is_qual_within n (negated p) = is_qual_within n p

-- the terms of an expansion's attributes so: without terms, it has a variable
abbrev pub are_within : ℕ → Option (List QTerm) → Bool
are_within n None = nat_lt 0 n
are_within n (Some terms) = list_all (is_within n) terms

-- an expansion names only its own variables
abbrev pub is_scoped : Expansion → Bool
is_scoped expansion = are_within (length expansion.vars) expansion.terms && list_all (is_qual_within (length expansion.vars)) expansion.conditions
