use Rattle.std.proofs.Common.{◌∙◌, List, ℕ, Bor, ap, map}
use Rattle.std.specs.Prelude.{option_map}
use Rattle.std.specs.List.{find}
use Rattle.std.specs.Str.{bytes_eq}
use Rattle.quel_grammar.specs.declared.token.Fixed.{Fixed}
use Rattle.quel_grammar.specs.Words.{fixed_of}
use Rattle.quel_lexer.proofs.Tables.{seen}
use Rattle.quel_lexer.proofs.words.fixed_of.Goals as goal

pub returns : goal.returns
unfolding fixed_of
returns c =
    let view : Bor (List ℕ) × Fixed → List ℕ × Fixed = λ e. (e.0.now, e.1) in
    let is_word = λ (e : List ℕ × Fixed). bytes_eq e.0 c.args.word.now in
    c.equal_in.ensures ∙ seen (λ e. e.1) is_word view c.as_slice-table.result.now
    ∙ ap (λ table. option_map (λ e. e.1) (find is_word (map view table))) c.as_slice-table.ensures
