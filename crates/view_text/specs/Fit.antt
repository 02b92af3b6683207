-- Texts of which all variables have a place in a query.
use Rattle.std.specs.Prelude.{◌≡◌, ◌+◌, ◌≤◌, ℕ, true, List, length}
use Rattle.std.specs.List.{list_all}
use Rattle.view_text.specs.declared.expansion.Expansion.{Expansion}
use Rattle.view_text.specs.Expansions.{expansions_vars}
use Rattle.view_text.specs.Scoped.{is_scoped}

-- each names only its own variables, and all these together, from this place on, are among the first 256
abbrev pub AreFit : ℕ → List Expansion → Type 0
AreFit n expansions = (list_all is_scoped expansions ≡ true) × (n + length (expansions_vars expansions) ≤ 256)
