-- Computed.
use Rattle.std.proofs.Common.{refl}
use Rattle.calculus.specs.Name.{is_name}
use Rattle.quel_grammar.specs.Words.{fixed_of, symbol_at}
use Rattle.quel_grammar.specs.Lexer.{word_at, int_at, text_at, token_at, piece_at}
use Rattle.quel_grammar.specs.Pieces.{pieces_behind, pieces_from}
use Rattle.quel_grammar.specs.Next.{first_offset, line_at}
use Rattle.quel_examples.specs.Places.{Places}

pub places : Places
unfolding is_name fixed_of symbol_at word_at int_at text_at token_at piece_at pieces_behind pieces_from first_offset line_at
places = record { first_token = refl; its_line = refl; second_statement = refl; its_line_too = refl; a_bad_byte = refl; nothing = refl }
