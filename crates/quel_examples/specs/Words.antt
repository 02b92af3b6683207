-- Short words for what is read of texts.
use Rattle.std.specs.Prelude.{◌≡◌, ℕ, List, pos}
use Rattle.calculus.specs.declared.statement.Term.{Term}
use Rattle.calculus.specs.declared.statement.Term.TheVariants as terms
use Rattle.quel_grammar.specs.Next.{Next}
use Rattle.quel_grammar.specs.NextReader.{next_at}

-- this is computed of the text from the place on
abbrev pub Computed : List ℕ → ℕ → Next → Type 0
Computed text from next = next_at text from ≡ next

-- a number, as a term
abbrev pub int : ℕ → Term
int n = terms.Int (pos n)
