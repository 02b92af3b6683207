-- What is said of the variables that a query lists from a place on.
use Rattle.std.specs.Prelude.{ℕ, Bool, List, map, filter, sum_by}
use Rattle.std.specs.List.{enumerate_from, list_all}
use Rattle.calculus.specs.declared.query.RelKey.{RelKey}
use Rattle.calculus.specs.declared.query.Query.{Query}
use Rattle.calculus.specs.Lists.{is_any}
use Rattle.calculus.specs.Used.{used_in_query}
use Rattle.calculus.specs.Sizes.{Known}
use Rattle.calculus.specs.Permission.{Reads}
use Rattle.view_text.specs.declared.expansion.Expansion.{Expansion}
use Rattle.view_text.specs.Expansions.{ExpansionSource, used_expansion}

-- their texts
abbrev pub expansions_at : ExpansionSource → Query → ℕ → List RelKey → List Expansion
expansions_at source q n keys = map (λ p. used_expansion source p.1 (used_in_query p.0 q)) (enumerate_from n keys)

-- whether each that is used may be read
abbrev pub permitted_at : Reads → Query → ℕ → List RelKey → Bool
permitted_at reads q n keys = list_all (λ p. reads p.1 (used_in_query p.0 q)) (filter (λ p. is_any (used_in_query p.0 q)) (enumerate_from n keys))

-- how many variables those that are used come to
abbrev pub variables_at : Known → Query → ℕ → List RelKey → ℕ
variables_at known q n keys = sum_by (λ p. (known p.1).variables) (filter (λ p. is_any (used_in_query p.0 q)) (enumerate_from n keys))
