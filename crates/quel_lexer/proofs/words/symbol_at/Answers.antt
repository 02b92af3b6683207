use Rattle.std.proofs.Common.{◌∙◌, List, ℕ, Bor, ap, map, length, nat_eq}
use Rattle.std.specs.Prelude.{option_map}
use Rattle.std.specs.List.{find, starts_with}
use Rattle.quel_grammar.specs.declared.token.Fixed.{Fixed}
use Rattle.quel_grammar.specs.Words.{symbol_at}
use Rattle.quel_lexer.proofs.Tables.{seen, symbol_within}
use Rattle.quel_lexer.proofs.words.symbol_at.Goals as goal

pub returns-clause-symbol : goal.returns-clause-symbol
unfolding symbol_at
returns-clause-symbol c =
    let view : Bor (List ℕ) × Fixed → List ℕ × Fixed = λ e. (e.0.now, e.1) in
    let is_front = λ (e : List ℕ × Fixed). starts_with nat_eq c.args.text.now e.0 in
    c.front_in.ensures ∙ seen (λ e. (e.1, length e.0)) is_front view c.as_slice-table.result.now
    ∙ ap (λ table. option_map (λ e. (e.1, length e.0)) (find is_front (map view table))) c.as_slice-table.ensures

pub returns-clause-within : goal.returns-clause-within
returns-clause-within c = rw (returns-clause-symbol c) (symbol_within c.args.text.now)
