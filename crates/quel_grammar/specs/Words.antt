-- The reserved words and the symbols.
use Rattle.std.specs.Prelude.{ℕ, List, [], ◌∷◌, Option, option_map, length, nat_eq, codes}
use Rattle.std.specs.List.{find, starts_with}
use Rattle.std.specs.Str.{bytes_eq}
use Rattle.quel_grammar.specs.declared.token.Fixed.{Fixed}
use Rattle.quel_grammar.specs.declared.token.Fixed.TheVariants as fixed

-- the reserved words
abbrev pub words : List (List ℕ × Fixed)
words =
    (codes "all", fixed.All) ∷ (codes "and", fixed.And) ∷ (codes "append", fixed.Append) ∷ (codes "by", fixed.By)
    ∷ (codes "copy", fixed.Copy) ∷ (codes "create", fixed.Create) ∷ (codes "define", fixed.Define) ∷ (codes "delete", fixed.Delete)
    ∷ (codes "destroy", fixed.Destroy) ∷ (codes "from", fixed.From) ∷ (codes "help", fixed.Help) ∷ (codes "index", fixed.Index)
    ∷ (codes "integrity", fixed.Integrity) ∷ (codes "into", fixed.Into) ∷ (codes "is", fixed.Is) ∷ (codes "modify", fixed.Modify)
    ∷ (codes "not", fixed.Not) ∷ (codes "of", fixed.Of) ∷ (codes "on", fixed.On) ∷ (codes "or", fixed.Or)
    ∷ (codes "permit", fixed.Permit) ∷ (codes "print", fixed.Print) ∷ (codes "range", fixed.Range) ∷ (codes "replace", fixed.Replace)
    ∷ (codes "retrieve", fixed.Retrieve) ∷ (codes "sort", fixed.Sort) ∷ (codes "to", fixed.To) ∷ (codes "unique", fixed.Unique)
    ∷ (codes "view", fixed.View) ∷ (codes "where", fixed.Where) ∷ []

-- the symbols, a longer one before those that it begins with
abbrev pub symbols : List (List ℕ × Fixed)
symbols =
    (codes "!=", fixed.NotEqual) ∷ (codes "<=", fixed.LessEqual) ∷ (codes ">=", fixed.GreaterEqual) ∷ (codes "**", fixed.Power)
    ∷ (codes "(", fixed.Open) ∷ (codes ")", fixed.Close) ∷ (codes ",", fixed.Comma) ∷ (codes ".", fixed.Dot)
    ∷ (codes ":", fixed.Colon) ∷ (codes "=", fixed.Equal) ∷ (codes "<", fixed.Less) ∷ (codes ">", fixed.Greater)
    ∷ (codes "+", fixed.Plus) ∷ (codes "-", fixed.Minus) ∷ (codes "*", fixed.Times) ∷ (codes "/", fixed.Divide) ∷ []

-- the reserved word that a word is
unfoldable pub fixed_of : List ℕ → Option Fixed
fixed_of word = option_map (λ e. e.1) (find (λ e. bytes_eq e.0 word) words)

-- the longest symbol at the front of a text, and its length
unfoldable pub symbol_at : List ℕ → Option (Fixed × ℕ)
symbol_at text = option_map (λ e. (e.1, length e.0)) (find (λ e. starts_with nat_eq text e.0) symbols)
